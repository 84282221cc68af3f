-- What the rows of the table are made of: messages, profiles, a verifier, calls and buffers.
use Rattle.std.specs.Prelude.{ℕ, ◌-◌, Bool, List, [], ◌∷◌, ◌++◌, take, replicate, codes, Result, Ok}
use Rattle.wire.specs.declared.refusal.Report.{Report}
use Rattle.wire.specs.Answers.{map_ok, map_err}
use Rattle.profile.specs.declared.fixed.Fixed.TheVariants.{Csk}
use Rattle.profile.specs.Tables.{Tables}
use Rattle.profile.specs.Fixed.{fixed_tables}
use Rattle.profile.specs.Sheets.{lines_tables}
use Rattle.profile.specs.Parsing.{parse_answer}
use Rattle.profile.specs.SheetRefusals.{sheet_report_of}
use Rattle.verifier.specs.Signed.{Triple, triple}
use Rattle.verifier.specs.Pinned.{is_pinned}
use Rattle.plain.specs.Edits.{Edit as call}
use Rattle.plain.specs.Steps.{Step}
use Rattle.plain.specs.Steps.Step.{edit, sign, withdraw, release}
use Rattle.cases.specs.Outcome.{Outcome}
use Rattle.cases.specs.Outcome.Outcome.{accepted}

-- ten bytes of header, by the next-payload byte, byte 3 with V and PRF func, and the map type
abbrev pub header : ℕ → ℕ → ℕ → List ℕ
header next byte3 map_type =
    0x01 ∷ 0x1a ∷ next ∷ byte3 ∷ 0x20 ∷ 0x00 ∷ 0x00 ∷ 0x01 ∷ 0x00 ∷ map_type ∷ []

-- SIGN: S type 2, the length of the signature, and its one byte
abbrev pub signature : List ℕ
signature = 0x20 ∷ 0x01 ∷ 0xaa ∷ []

-- the shortest message, by byte 3
abbrev pub shortest : ℕ → List ℕ
shortest byte3 = header 0x04 byte3 0x01 ++ signature

-- its one row, and its numbers
abbrev pub shortest_rows : Outcome
shortest_rows =
    accepted
    (record { code = 4; slot = 11; start = 10; length = 3 } ∷ [])
    (record { count = 1; header = 10; span = 12 })

-- the profile of client-server keys
abbrev pub csk : Result Tables Report
csk = Ok (fixed_tables Csk)

-- a sheet that asks for SIGN alone
abbrev sheet_text : List ℕ
sheet_text = codes "slot least most rank" ++ (10 ∷ (codes "11 1 1 0" ++ (10 ∷ [])))

abbrev pub sheet : Result Tables Report
sheet = map_err sheet_report_of (map_ok lines_tables (parse_answer sheet_text))

-- passes no signer, the twelve bytes before the signature, and the signature
abbrev pub pinned : Triple → Bool
pinned = is_pinned (triple [] (take 12 (shortest 0x01)) (0xaa ∷ []))

-- a header without sessions
abbrev pub head : Step
head =
    edit (call.head (record { byte3 = 1; csb = 0x20000001; cs = 0; map_type = 1; map_info = [] }))

-- a RAND that says it has sixteen bytes and has n
abbrev rand : ℕ → List ℕ
rand n = 0x10 ∷ replicate n 0x00

-- one is added at the front; what stands at the front is removed
abbrev pub add_rand : ℕ → Step
add_rand n = edit (call.add 0 11 (rand n))

abbrev pub remove : Step
remove = edit (call.remove 0)

-- three calls that only a draft that is out takes
abbrev pub calls_out : List Step
calls_out = sign (0 ∷ []) ∷ withdraw ∷ release ∷ []

-- buffers of n bytes: each byte 7, as it is lent
abbrev pub lent : ℕ → List ℕ
lent n = replicate n 7

-- zeros
abbrev pub zeros : ℕ → List ℕ
zeros n = replicate n 0

-- the header, then zeros
abbrev pub headed : ℕ → List ℕ
headed n = header 0x00 0x01 0x01 ++ zeros (n - 10)

-- the header, which names what follows in byte 2, the RAND of sixteen bytes, then zeros
abbrev pub with_rand : ℕ → List ℕ
with_rand n = header 0x0b 0x01 0x01 ++ (0x00 ∷ (rand 16 ++ zeros (n - 28)))
