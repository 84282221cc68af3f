-- What tells a refusal; each one of messages and drafts by its number, place and detail, and which
-- of them a profile gives.
use Rattle.std.specs.Prelude.{ℕ, Bool, true, false}
use Rattle.wire.specs.declared.refusal.Refusal.{Refusal}
use Rattle.wire.specs.declared.refusal.Refusal.TheVariants.{FewRows, TooLong, TooShort, Version, DataType, SessionMap, SessionCut, SessionRule, UnknownCode, ExtraPayload, PayloadCut, PayloadRule, BytesLeft, FieldNotTaken, RankFalls, AboveMost, BelowLeast, NotPassed, NoHeader, NoPosition, MapInfoLeft, DraftFull, NoRoom, SignForm, SignatureLength, RowOutside}
use Rattle.wire.specs.declared.refusal.Report.{Report}
use Rattle.wire.specs.Limits.{longest_message}

abbrev pub report : ℕ → ℕ → ℕ → Report
report n p d = record { number = n; place = p; detail = d }

abbrev pub report_of : Refusal → Report
report_of FewRows = report 1 0 0
report_of TooLong = report 2 longest_message 0
report_of (TooShort length) = report 3 length 0
report_of Version = report 4 0 0
report_of DataType = report 5 1 0
report_of (SessionMap place) = report 6 place 0
report_of (SessionCut start) = report 7 start 0
report_of (SessionRule start) = report 8 start 0
report_of (UnknownCode naming) = report 9 naming 0
report_of (ExtraPayload start) = report 10 start 0
report_of (PayloadCut start) = report 11 start 0
report_of (PayloadRule start) = report 12 start 0
report_of (BytesLeft first) = report 13 first 0
report_of (FieldNotTaken byte field) = report 14 byte field
report_of (RankFalls start slot) = report 15 start slot
report_of (AboveMost start slot) = report 16 start slot
report_of (BelowLeast length slot) = report 17 length slot
report_of (NotPassed signature) = report 18 signature 0
report_of NoHeader = report 19 0 0
report_of NoPosition = report 20 0 0
report_of MapInfoLeft = report 21 0 0
report_of DraftFull = report 22 0 0
report_of NoRoom = report 23 0 0
report_of SignForm = report 24 0 0
report_of SignatureLength = report 25 0 0
report_of RowOutside = report 26 0 0

-- what a profile refuses: a field, a rank, a slot that stands too often, one that stands too seldom
abbrev pub of_profile : Refusal → Bool
of_profile (FieldNotTaken byte field) = true
of_profile (RankFalls start slot) = true
of_profile (AboveMost start slot) = true
of_profile (BelowLeast length slot) = true
of_profile other = false
