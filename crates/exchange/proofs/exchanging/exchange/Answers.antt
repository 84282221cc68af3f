use Rattle.exchange.proofs.Promised.{promise}
use Rattle.exchange.proofs.exchanging.exchange.Goals as goal

pub returns : goal.returns
returns g c = record {
  promise = promise;
  exchanges = record {
    runs = c.run-made.ensures;
    delivers = promise.delivers_what_it_holds _ _ c.run-made.ensures.widths;
    reads = c.read-read.ensures;
    redrafts = c.redraft-again.ensures;
  };
}
