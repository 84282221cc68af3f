-- A profile that is chosen at run time means what the chosen one means.
use Rattle.profile.specs.declared.any_profile.AnyProfile.{AnyProfile}
use Rattle.profile.specs.declared.any_profile.AnyProfile.TheVariants.{Fixed, Sheet}
use Rattle.profile.specs.Tables.{Tables}
use Rattle.profile.specs.Fixed.{fixed_tables}
use Rattle.profile.specs.Sheets.{entries_tables}

abbrev pub any_tables : AnyProfile → Tables
any_tables (Fixed profile) = fixed_tables profile
any_tables (Sheet entries) = entries_tables entries
