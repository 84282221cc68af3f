-- Why a signer is not entered into a trust list: each refusal by its number, place and detail, and
-- in words.
use Rattle.std.specs.Prelude.{ℕ, List, codes}
use Rattle.wire.specs.declared.refusal.Report.{Report}
use Rattle.wire.specs.Refusals.{report}
use Rattle.verifier.specs.declared.refusal.TrustRefusal.{TrustRefusal}
use Rattle.verifier.specs.declared.refusal.TrustRefusal.TheVariants.{SignerLength, ListFull}

abbrev pub trust_report_of : TrustRefusal → Report
trust_report_of SignerLength = report 27 0 0
trust_report_of ListFull = report 28 0 0

abbrev pub trust_words : TrustRefusal → List ℕ
trust_words SignerLength = codes "a signer has 1 to 128 bytes"
trust_words ListFull = codes "the trust list is full"
