use Rattle.std.specs.Str.Iter.{split_whitespace_rest}
use Rattle.script.proofs.Fronts.{Read}
use Rattle.script.proofs.words.first_words.Given as goal

abbrev pub invariant-loop-word : goal.invariant-loop-word
invariant-loop-word l = Read l.text (split_whitespace_rest l.word-iterator) l.words l.count
