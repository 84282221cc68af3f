use Rattle.std.proofs.Common.{rules}
use Rattle.script.proofs.line.line_of.Goals.{in-empty, in-withdraw, in-release, in-remove+in_ok-number-in-remove, in-sign, in-begin+in_ok-asked_room-in-begin, in-add+in_ok-number-in-add+in_ok-byte-in-add, in-replace+in_ok-number-in-replace+in_ok-byte-in-replace, in-close+in_ok-byte-in-close+in_ok-number-in-close, in-head+in_ok-byte-in-head+in_ok-identifier-in-head+in_ok-byte-in-head-2+in_ok-byte-in-head-3}
use Rattle.script.proofs.line.line_of.Goals as goal

pub returns : goal.returns
returns c =
    elim c.if-words-lt1.branch [
      | in-empty w ↦ rw w.result-is (search rules)
      | in-withdraw w ↦ rw w.result-is (search rules)
      | in-release w ↦ rw w.result-is (search rules)
      | in-remove+in_ok-number-in-remove w ↦ rw w.result-is (search rules)
      | in-sign w ↦ rw w.result-is (search rules)
      | in-begin+in_ok-asked_room-in-begin w ↦ rw w.result-is (search rules)
      | in-add+in_ok-number-in-add+in_ok-byte-in-add w ↦ rw w.result-is (search rules)
      | in-replace+in_ok-number-in-replace+in_ok-byte-in-replace w ↦ rw w.result-is (search rules)
      | in-close+in_ok-byte-in-close+in_ok-number-in-close w ↦ rw w.result-is (search rules)
      | in-head+in_ok-byte-in-head+in_ok-identifier-in-head+in_ok-byte-in-head-2+in_ok-byte-in-head-3 w ↦ rw w.result-is (search rules)
    ]
