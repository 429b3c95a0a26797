-- How far numbers go.
use Rattle.std.specs.Prelude.{ℕ, ◌-◌, ◌^◌}

-- the highest version of a thread (loom counts versions in 16 bits, and keeps one number back)
abbrev pub highest_version : ℕ
highest_version = 65534

-- how many stores an atomic may have, the initial one counted
abbrev pub most_stores : ℕ
most_stores = 65535

-- the highest number of 64 bits, up to which runs, yields, guards and references are counted
abbrev pub highest_count : ℕ
highest_count = 2 ^ 64 - 1
