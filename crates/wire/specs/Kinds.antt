-- The code of each kind of payload.
use Rattle.std.specs.Prelude.{ℕ, Bool, true, false, cond, Some, None, Option, ◌==◌}
use Rattle.wire.specs.declared.kind.Kind.{Kind}
use Rattle.wire.specs.declared.kind.Kind.TheVariants.{T, Rand, Idr, Sp, Sakke, Ext, Sign}

abbrev pub code_of : Kind → ℕ
code_of T = 5
code_of Rand = 11
code_of Idr = 14
code_of Sp = 10
code_of Sakke = 26
code_of Ext = 21
code_of Sign = 4

abbrev pub kind_of : ℕ → Option Kind
kind_of c =
    cond (c == 5) (Some T)
    (cond (c == 11) (Some Rand)
    (cond (c == 14) (Some Idr)
    (cond (c == 10) (Some Sp)
    (cond (c == 26) (Some Sakke)
    (cond (c == 21) (Some Ext)
    (cond (c == 4) (Some Sign) None))))))

abbrev pub is_sign : Kind → Bool
is_sign T = false
is_sign Rand = false
is_sign Idr = false
is_sign Sp = false
is_sign Sakke = false
is_sign Ext = false
is_sign Sign = true

-- the next-payload byte, which each payload but SIGN begins with
abbrev pub next_byte_length : Kind → ℕ
next_byte_length k = cond (is_sign k) 0 1
