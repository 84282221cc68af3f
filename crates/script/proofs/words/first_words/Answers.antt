use Rattle.std.proofs.Common.{rules}
use Rattle.script.proofs.Fronts.{front_is, read_next, read_none, read_comment, read_full}
use Rattle.script.proofs.words.first_words.Goals.{in-None, in-Some+then-count-eq7, then-count-eq7-via-then-count-eq7, then-count-eq7-via-else-count-eq7+then-ends_words}
use Rattle.script.proofs.words.first_words.Goals as goal

pub loop-word-preserved : goal.loop-word-preserved
loop-word-preserved c =
    read_next _ _ _ _ c.loop-word.invariant c.in-Some.word _ (λ e. search (rules, e)) (front_is _ _ _ c.in-Some.ensures.steps) (search rules)

pub returns-clause-words : goal.returns-clause-words
returns-clause-words c =
    elim c.match-next.branch [
      | in-None w ↦ read_none _ _ _ _ c.loop-word.invariant w.in-None.ensures.steps.1
      | in-Some+then-count-eq7 w ↦
          elim w.then-count-eq7.branch [
            | then-count-eq7-via-then-count-eq7 w' ↦ read_full _ _ _ _ c.loop-word.invariant (search (rules, w'.if-count-eq7))
            | then-count-eq7-via-else-count-eq7+then-ends_words w' ↦
                read_comment _ _ _ _ c.loop-word.invariant w.in-Some.word.now _ (front_is _ _ _ w.in-Some.ensures.steps) (search rules)
          ]
    ]
