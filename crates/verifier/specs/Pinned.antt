-- The verifier that passes one stored signer, span and signature.
use Rattle.std.specs.Prelude.{Bool, ◌&&◌}
use Rattle.std.specs.Str.{bytes_eq}
use Rattle.verifier.specs.declared.pinned.Pinned.{Pinned}
use Rattle.verifier.specs.Signed.{Triple, triple}
use Rattle.verifier.specs.Identities.{same_identity}

-- the same as a stored triple
abbrev pub is_pinned : Triple → Triple → Bool
is_pinned stored s = same_identity stored.signer s.signer
    && (bytes_eq stored.span s.span && bytes_eq stored.signature s.signature)

abbrev pub pinned_passes : Pinned → Triple → Bool
pinned_passes p s = is_pinned (triple p.signer.now p.span.now p.signature.now) s
