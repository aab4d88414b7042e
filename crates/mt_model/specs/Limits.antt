-- Numbers that bound an account.
use Rattle.std.specs.Prelude.{ℕ}

-- a job has at most so many inputs and missing lines together
abbrev pub most_inputs : ℕ
most_inputs = 1000000

-- the assets of one phase have at most so many bytes together
abbrev pub most_asset_bytes : ℕ
most_asset_bytes = 16777216

-- what the names of outputs begin with has at most so many bytes
abbrev pub longest_root : ℕ
longest_root = 200
