-- The limits of the format. The code has constants of its own, which the check compares with these.
use Rattle.std.specs.Prelude.{ℕ, ◌*◌}

-- payloads of a message, SIGN among them, and rows of a table
abbrev pub most_payloads : ℕ
most_payloads = 24

-- bytes of a message
abbrev pub longest_message : ℕ
longest_message = 8192

-- bytes of a header before its map info
abbrev pub fixed_header : ℕ
fixed_header = 10

-- bytes of a signature, which has at least one
abbrev pub longest_signature : ℕ
longest_signature = 4095

-- slots are 1 to this one, and fields likewise
abbrev pub last_slot : ℕ
last_slot = 12

abbrev pub last_field : ℕ
last_field = 10

-- bytes of a row and of a table of rows across C
abbrev pub row_bytes : ℕ
row_bytes = 6

abbrev pub table_bytes : ℕ
table_bytes = most_payloads * row_bytes
