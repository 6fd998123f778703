-- Document 01's limits [01:From file to field].
-- Assumes nothing.
use Rattle.std.specs.Prelude.{ℕ}

-- "A file has at most 16,777,215 bytes, a literal being resolved 16,384, resolving's scratch at least 32,768."
abbrev pub most_bytes : ℕ
most_bytes = 16777215

abbrev pub most_literal : ℕ
most_literal = 16384

abbrev pub least_scratch : ℕ
least_scratch = 32768

-- "Command arguments nest 64 deep, names 32 deep, and a field resolves at most 4,096 names."
abbrev pub most_arguments : ℕ
most_arguments = 64

abbrev pub most_open : ℕ
most_open = 32

abbrev pub most_names : ℕ
most_names = 4096
