-- The whole promise.
use Rattle.std.proofs.Common.{arith}
use Rattle.plain.specs.Drafts.{Draft, begin, counted_length}
use Rattle.plain.proofs.CallEffect.{step_still, step_does, image_long, image_past}
use Rattle.exchange.specs.Runs.{run_draft}
use Rattle.exchange.specs.Promise.{StaysWithin, Promise}
use Rattle.exchange.proofs.Exactly.{exactly}
use Rattle.exchange.proofs.Holding.{run_reached, begin_reached, delivers}
use Rattle.exchange.proofs.Again.{again}
use Rattle.exchange.proofs.Foretold.{foretells}
use Rattle.exchange.proofs.Taken.{edits_taken, closes_taken}

stays : StaysWithin
stays buffer cs w =
    let k = (run_reached (counted_length buffer) begin _ cs (omega arith) w (begin_reached (counted_length buffer))).kept in
    let s : Draft = run_draft buffer cs in
    record { fits = k.fits; long = image_long buffer s k.fits; past = image_past buffer s k.fits }

pub promise : Promise
promise = record {
  read_exactly = exactly;
  delivers_what_it_holds = delivers;
  drafted_again = again;
  stays_within = stays;
  refused_unchanged = step_still;
  edits_do = step_does;
  edits_taken = edits_taken;
  closes_taken = closes_taken;
  close_foretells = foretells;
}
