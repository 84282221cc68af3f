use Rattle.std.proofs.Common.{arith, rules}
use Rattle.profile.specs.Parsing.{lines_answer}
use Rattle.profile.proofs.Lines.{goes_on}
use Rattle.profile.proofs.Entries.{laid_next}
use Rattle.profile.proofs.sheet.lines.Goals as goal

pub returns-in_err-line : goal.returns-in_err-line
returns-in_err-line c = search (rules, laid_next)

pub bounds-entries-line : goal.bounds-entries-line
bounds-entries-line c = omega (arith, (goes_on _ _ c.loop-rest.rest.now _ c.in_ok-line.ensures).there)

pub loop-rest-smaller : goal.loop-rest-smaller
loop-rest-smaller c = (goes_on _ _ c.loop-rest.rest.now _ c.in_ok-line.ensures).shorter

pub loop-rest-preserved : goal.loop-rest-preserved
loop-rest-preserved c =
    record {
      within = omega (arith, (goes_on _ _ c.loop-rest.rest.now _ c.in_ok-line.ensures).shorter);
      table = search rules;
      left = search (rules, laid_next);
    }

pub returns : goal.returns
unfolding lines_answer
returns c = search rules
