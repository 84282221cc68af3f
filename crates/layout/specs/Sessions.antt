-- What a cursor over sessions has left.
use Rattle.std.specs.Prelude.{List, drop}
use Rattle.layout.specs.declared.cursor.SessionView.{SessionView}
use Rattle.layout.specs.declared.cursor.Sessions.{Sessions}
use Rattle.layout.specs.Cursors.{SessionAt, sessions_in}

abbrev pub session_seen : SessionView → SessionAt
session_seen s = record { at = s.at; policies_at = s.policies_at; bytes = s.bytes.now }

abbrev pub sessions_left : Sessions → List SessionAt
sessions_left c = sessions_in c.left c.at (drop c.at c.bytes.now)
