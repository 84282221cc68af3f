-- What a line asks for.
use Rattle.std.specs.Prelude.{◌≡◌, ℕ, suc, ◌⊎◌, List, [], length, map, slice_index_or, codes, Option, Some, None, IsSome, option_map}
use Rattle.std.specs.Borrow.{Bor}
use Rattle.script.specs.declared.line.Line.{Line}
use Rattle.script.specs.declared.line.Line.TheVariants as line
use Rattle.script.specs.declared.line.Room.{Room}
use Rattle.script.specs.Numbers.{number_of}
use Rattle.script.specs.Words.{Words, arguments}

-- bytes are as they are spelled, and a profile is its name
pub data Request : Type 0 where
  blank : Request
  begin : ℕ → ℕ → Request
  head : ℕ → ℕ → ℕ → ℕ → List ℕ → Request
  add : ℕ → ℕ → List ℕ → Request
  replace : ℕ → ℕ → List ℕ → Request
  remove : ℕ → Request
  close : List ℕ → ℕ → ℕ → Request
  sign : List ℕ → Request
  withdraw : Request
  release : Request

abbrev pub request : Line → Request
request line.Blank = blank
request (line.Begin room) = begin room.length room.fill
request (line.Head byte3 csb cs map_type map_info) = head byte3 csb cs map_type map_info.now
request (line.Add position code body) = add position code body.now
request (line.Replace position code body) = replace position code body.now
request (line.Remove position) = remove position
request (line.Close profile type n) = close profile.now type n
request (line.Sign signature) = sign signature.now
request line.Withdraw = withdraw
request line.Release = release

abbrev pub room_of : Option ℕ → Option ℕ → Option Room
room_of None fill = None
room_of (Some length) None = None
room_of (Some length) (Some fill) = Some (record { length = length; fill = fill })

-- words, where code lends them
abbrev pub Lent : Type 0
Lent = List (Bor (List ℕ))

abbrev pub texts : Lent → List (List ℕ)
texts words = map (λ w. w.now) words

-- the word at a place; there is none past the end
abbrev pub word : Lent → ℕ → List ℕ
word words i = (slice_index_or words i (record { ref_ptr = (0, 0); now = [] })).now

-- the name of a call, and as many arguments as it has after it
abbrev pub Form : Lent → List ℕ → Type 0
Form words name = (length words ≡ suc (arguments name)) × (word words 0 ≡ name)

abbrev pub position_in : Lent → ℕ → Option ℕ
position_in words i = number_of 64 (word words i)

abbrev pub byte_in : Lent → ℕ → Option ℕ
byte_in words i = number_of 8 (word words i)

-- go on with a number, if it is one
abbrev pub with : Option ℕ → (ℕ → Option Request) → Option Request
with None next = None
with (Some n) next = next n

-- what the words of a line ask for, a call a line
pub record Requests (words : Lent) (r : Option Request) : Type 0 where
  pub blank_line : length words ≡ 0 → r ≡ Some blank
  pub begins : Form words (codes "begin")
      → r ≡ option_map (λ room. begin room.length room.fill)
      (room_of (position_in words 1) (byte_in words 2))
  pub heads : Form words (codes "head")
      → r ≡ with (byte_in words 1) (λ byte3.
      with (number_of 32 (word words 2)) (λ csb.
      with (byte_in words 3) (λ cs.
      with (byte_in words 4) (λ map_type.
      Some (head byte3 csb cs map_type (word words 5))))))
  pub adds : Form words (codes "add")
      → r ≡ with (position_in words 1) (λ position.
      with (byte_in words 2) (λ code.
      Some (add position code (word words 3))))
  pub replaces : Form words (codes "replace")
      → r ≡ with (position_in words 1) (λ position.
      with (byte_in words 2) (λ code.
      Some (replace position code (word words 3))))
  pub removes : Form words (codes "remove")
      → r ≡ with (position_in words 1) (λ position. Some (remove position))
  pub closes : Form words (codes "close")
      → r ≡ with (byte_in words 2) (λ type.
      with (position_in words 3) (λ n.
      Some (close (word words 1) type n)))
  pub signs : Form words (codes "sign") → r ≡ Some (sign (word words 1))
  pub withdraws : Form words (codes "withdraw") → r ≡ Some withdraw
  pub releases : Form words (codes "release") → r ≡ Some release
  pub others : IsSome r
      → (length words ≡ 0) ⊎ (Form words (codes "begin") ⊎ (Form words (codes "head")
      ⊎ (Form words (codes "add") ⊎ (Form words (codes "replace")
      ⊎ (Form words (codes "remove") ⊎ (Form words (codes "close")
      ⊎ (Form words (codes "sign") ⊎ (Form words (codes "withdraw")
      ⊎ Form words (codes "release")))))))))

-- what a line asks for; nothing where its words are no call
abbrev pub Asks : List ℕ → Option Request → Type 0
Asks text r = (words : Lent) × Words [] 7 text (texts words) × Requests words r

-- the bytes that a call is given, as they are spelled; a call that is given none is as one that
-- is given `-`
abbrev pub spelled_in : Request → List ℕ
spelled_in blank = codes "-"
spelled_in (begin room fill) = codes "-"
spelled_in (head byte3 csb cs map_type map_info) = map_info
spelled_in (add position code body) = body
spelled_in (replace position code body) = body
spelled_in (remove position) = codes "-"
spelled_in (close profile type n) = codes "-"
spelled_in (sign signature) = signature
spelled_in withdraw = codes "-"
spelled_in release = codes "-"
