-- Skip pointers: which numbers they lead to, which one a jump takes, and how many jumps a way takes.
use Rattle.std.specs.Prelude.{ℕ, zero, suc, ◌+◌, ◌-◌, ◌^◌, ◌==◌, min, if◌then◌else◌}
use Rattle.std.specs.Int.{w64, leading_zeros, trailing_zeros}

-- the logarithm of a number of 64 binary digits to the base 2, rounded down: the place of its highest digit 1
abbrev pub floor_log2 : ℕ → ℕ
floor_log2 n = 63 - leading_zeros w64 n

-- how many pointers number s keeps, of which pointer i leads to s - 2 ^ i
abbrev pub pointer_count_of : ℕ → ℕ
pointer_count_of s = if s == 0 then 0 else trailing_zeros w64 s + 1

-- which pointer is taken at s on the way down to r
abbrev pub jump_of : ℕ → ℕ → ℕ
jump_of s r = min (floor_log2 (s - r)) (trailing_zeros w64 s)

-- the number to which that pointer leads
abbrev pub landing : ℕ → ℕ → ℕ
landing s r = s - 2 ^ jump_of s r

-- the number of jumps from s down to r, where at most n are counted
unfoldable pub jump_count_within : ℕ → ℕ → ℕ → ℕ
jump_count_within zero s r = 0
jump_count_within (suc n) s r = if s == r then 0 else jump_count_within n (landing s r) r + 1

-- the number of jumps from s down to r: none where they are equal, else one more than from where the first jump goes.
-- Each jump goes down, so there are no more than the distance.
unfoldable pub jump_count : ℕ → ℕ → ℕ
jump_count s r = jump_count_within (s - r) s r
