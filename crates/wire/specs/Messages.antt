-- Messages as records, and their bytes.
use Rattle.std.specs.Prelude.{ℕ, ◌+◌, ◌*◌, List, [], ◌∷◌, ◌++◌, length}
use Rattle.wire.specs.declared.kind.Kind.{Kind}
use Rattle.wire.specs.declared.kind.Kind.TheVariants.{Sign}
use Rattle.wire.specs.Octets.{in_bytes}
use Rattle.wire.specs.Kinds.{code_of}

pub record Header : Type 0 where
  pub byte3 : ℕ
  pub csb : ℕ
  pub cs : ℕ
  pub map_type : ℕ
  pub map_info : List ℕ

-- a body is all of a payload after its next-payload byte
pub record Payload : Type 0 where
  pub kind : Kind
  pub body : List ℕ

pub record Message : Type 0 where
  pub header : Header
  pub payloads : List Payload
  pub sign_type : ℕ
  pub signature : List ℕ

-- the code of the first payload, or of what follows where there is none
abbrev pub first_code : ℕ → List Payload → ℕ
first_code end [] = end
first_code end (p ∷ ps) = code_of p.kind

abbrev pub header_bytes : ℕ → Header → List ℕ
header_bytes next h =
    1 ∷ 26 ∷ next ∷ h.byte3 ∷ (in_bytes 4 h.csb ++ (h.cs ∷ h.map_type ∷ h.map_info))

-- each payload begins with the code of the one after it
abbrev pub payloads_bytes : ℕ → List Payload → List ℕ
payloads_bytes end [] = []
payloads_bytes end (p ∷ ps) = first_code end ps ∷ (p.body ++ payloads_bytes end ps)

-- header and payloads, where `end` is the code of what follows them
abbrev pub unsigned_bytes : ℕ → Header → List Payload → List ℕ
unsigned_bytes end h ps = header_bytes (first_code end ps) h ++ payloads_bytes end ps

abbrev pub sign_length : ℕ → List ℕ → List ℕ
sign_length type signature = in_bytes 2 (type * 4096 + length signature)

abbrev pub sign_body : ℕ → List ℕ → List ℕ
sign_body type signature = sign_length type signature ++ signature

abbrev pub encode : Message → List ℕ
encode m = unsigned_bytes (code_of Sign) m.header m.payloads ++ sign_body m.sign_type m.signature

-- everything before the signature field
abbrev pub span : Message → List ℕ
span m = unsigned_bytes (code_of Sign) m.header m.payloads ++ sign_length m.sign_type m.signature

-- the payloads in order, SIGN last
abbrev pub with_sign : List Payload → ℕ → List ℕ → List Payload
with_sign ps type signature = ps ++ (record { kind = Sign; body = sign_body type signature } ∷ [])

abbrev pub all_payloads : Message → List Payload
all_payloads m = with_sign m.payloads m.sign_type m.signature
