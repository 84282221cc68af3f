-- A line that is read into a scratch.
use Rattle.std.specs.Prelude.{◌≡◌, ℕ, List, length, Option, Some, None, Result, Ok, Err}
use Rattle.script.specs.declared.reading.LineError.{LineError}
use Rattle.script.specs.declared.reading.LineError.TheVariants.{NoCall}
use Rattle.script.specs.declared.reading.ReadLine.{ReadLine}
use Rattle.script.specs.Decoded.{digits_of, decoded_in, written_over}
use Rattle.script.specs.Lines.{Request, Asks, request, spelled_in}

-- a line with how many bytes are its own, or why it is not read
abbrev pub LineAnswer : Type 0
LineAnswer = Result ReadLine LineError

-- the bytes of what a line asks for, decoded, or why it is not read: that it is no call comes first
abbrev pub bytes_of : ℕ → Option Request → Result (List ℕ) LineError
bytes_of room None = Err NoCall
bytes_of room (Some r) = decoded_in room (digits_of (spelled_in r))

-- the request, with how many bytes are its own; or the error
abbrev pub Tells : Option Request → Result (List ℕ) LineError → LineAnswer → Type 0
Tells asked (Ok bytes) answer =
    (read : ReadLine) × (answer ≡ Ok read) × (asked ≡ Some (request read.line))
    × (read.length ≡ length bytes)
Tells asked (Err why) answer = answer ≡ Err why

-- what a line asks for, the scratch before and after its bytes are read, and the answer
pub record ReadsBytes (r : Option Request) (before after : List ℕ) (a : LineAnswer) : Type 0 where
  pub tells : Tells r (bytes_of (length before) r) a
  pub scratch : after ≡ written_over before (bytes_of (length before) r)

-- a line, the scratch before and after, and the answer
pub record Reads (text before after : List ℕ) (answer : LineAnswer) : Type 0 where
  pub asked : Option Request
  pub asks : Asks text asked
  pub bytes : ReadsBytes asked before after answer
