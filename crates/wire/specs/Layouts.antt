-- The layouts of bodies and sessions, as the standards draw them: widths in bytes, left to right.
use Rattle.std.specs.Prelude.{◌≡◌, ℕ, zero, suc, ◌+◌, ◌*◌, ◌<◌, ◌≤◌, Bool, true, false, List, [], ◌∷◌, ◌++◌, length, ◌==◌}
use Rattle.wire.specs.declared.kind.Kind.{Kind}
use Rattle.wire.specs.declared.kind.Kind.TheVariants.{T, Rand, Idr, Sp, Sakke, Ext, Sign}
use Rattle.wire.specs.Octets.{with_length}
use Rattle.wire.specs.Limits.{longest_signature}
use Rattle.wire.specs.Messages.{sign_body}

-- whole items of a security policy: type 1, length 1, value
pub data Items : List ℕ → Type 0 where
  none : Items []
  item : (type : ℕ) (value rest : List ℕ) → Items rest
      → Items (type ∷ length value ∷ (value ++ rest))

-- RAND len 1, RAND
abbrev pub rand_body : List ℕ → List ℕ
rand_body rand = length rand ∷ rand

-- ID role 1, ID type 1, ID len 2, ID data
abbrev pub idr_body : ℕ → ℕ → List ℕ → List ℕ
idr_body role type content = role ∷ type ∷ with_length content

-- policy number 1, Prot type 1, length 2, policy parameters
abbrev pub sp_body : ℕ → ℕ → List ℕ → List ℕ
sp_body policy prot params = policy ∷ prot ∷ with_length params

-- type 1, length 2, data
abbrev pub ext_body : ℕ → List ℕ → List ℕ
ext_body type content = type ∷ with_length content

-- params 1, ID scheme 1, length 2, data
abbrev pub sakke_body : ℕ → ℕ → List ℕ → List ℕ
sakke_body params scheme content = params ∷ scheme ∷ with_length content

-- the EXT types whose data is one SAKKE payload
abbrev pub wraps_sakke : ℕ → Bool
wraps_sakke type = type == 6

pub data Body : Kind → List ℕ → Type 0 where
  t : (value : List ℕ) → length value ≡ 8 → Body T (0 ∷ value)
  rand : (rand : List ℕ) → Body Rand (rand_body rand)
  idr : (role type : ℕ) (content : List ℕ) → Body Idr (idr_body role type content)
  sp : (policy prot : ℕ) (params : List ℕ) → Items params → Body Sp (sp_body policy prot params)
  sakke : (params scheme : ℕ) (content : List ℕ) → Body Sakke (sakke_body params scheme content)
  ext : (type : ℕ) (content : List ℕ) → wraps_sakke type ≡ false → Body Ext (ext_body type content)
  wrapping : (type next params scheme : ℕ) (content : List ℕ) → wraps_sakke type ≡ true
      → Body Ext (ext_body type (next ∷ sakke_body params scheme content))
  sign : (type : ℕ) (signature : List ℕ) → 0 < length signature
      → length signature ≤ longest_signature → Body Sign (sign_body type signature)

-- absent, or SSRC 4, and after it ROC 4 and SEQ 2 where the S flag is set
pub data SessionData : ℕ → List ℕ → Type 0 where
  absent : (s : ℕ) → SessionData s []
  short : (ssrc : List ℕ) → length ssrc ≡ 4 → SessionData 0 ssrc
  long : (ssrc roc seq : List ℕ) → length ssrc ≡ 4 → length roc ≡ 4 → length seq ≡ 2
      → SessionData 1 (ssrc ++ (roc ++ seq))

-- CS ID 1, Prot type 1, S and #P 1, policy numbers, session data length 2, session data, SPI length
-- 1, SPI
pub data Session : List ℕ → Type 0 where
  session : (id s : ℕ) (policies content spi : List ℕ) → s < 2 → length policies < 128
      → SessionData s content
      → Session (id ∷ 0 ∷ (s * 128 + length policies)
      ∷ (policies ++ (with_length content ++ (length spi ∷ spi))))

pub data Sessions : ℕ → List ℕ → Type 0 where
  none : Sessions zero []
  more : (n : ℕ) (s rest : List ℕ) → Session s → Sessions n rest → Sessions (suc n) (s ++ rest)

-- #CS, map type and map info: an empty map, or one to four sessions
pub data Map : ℕ → ℕ → List ℕ → Type 0 where
  empty : Map 0 1 []
  generic : (n : ℕ) (info : List ℕ) → 1 ≤ n → n ≤ 4 → Sessions n info → Map n 2 info
