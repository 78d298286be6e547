-- How many bytes an input may have. The numbers are this project's own.
use Rattle.std.specs.Prelude.{ℕ}

-- the most bytes that a structure file may have
abbrev pub structure_limit : ℕ
structure_limit = 67108864

-- the most bytes that a user's table may have
abbrev pub table_limit : ℕ
table_limit = 1048576

-- the most bytes that a plan's text may have
abbrev pub plan_limit : ℕ
plan_limit = 67108864

-- the most bytes that a certificate may have
abbrev pub proof_limit : ℕ
proof_limit = 1073741824
