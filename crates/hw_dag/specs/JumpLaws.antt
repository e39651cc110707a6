-- Laws of the definitions.
use Rattle.std.specs.Prelude.{◌≡◌, ℕ, ◌+◌, ◌-◌, ◌*◌, ◌^◌, ◌<◌, ◌≤◌}
use Rattle.hw_dag.specs.Jumps.{floor_log2, pointer_count_of, jump_of, landing, jump_count}

-- 2 to that power is at most the number, and 2 to the next is more
abbrev pub LogarithmIsRoundedDown : Type 0
LogarithmIsRoundedDown = (n : ℕ) → 0 < n → n < 2 ^ 64 → (2 ^ floor_log2 n ≤ n) × (n < 2 ^ (floor_log2 n + 1))

-- pointer i leads to a number, and where s keeps the next longer pointer, that number keeps its own pointer i
abbrev pub PointersLeadToPointers : Type 0
PointersLeadToPointers = (s i : ℕ) → s < 2 ^ 64 → i < pointer_count_of s
    → (2 ^ i ≤ s) × (i + 1 < pointer_count_of s → i < pointer_count_of (s - 2 ^ i))

-- the pointer is one of those that s keeps, and it leads below s and not past r
abbrev pub JumpsKeepToPointers : Type 0
JumpsKeepToPointers = (s r : ℕ) → r < s → s < 2 ^ 64
    → (jump_of s r < pointer_count_of s) × (landing s r < s) × (r ≤ landing s r)

-- no jump from a number to itself, else one more than from where the first goes
abbrev pub JumpsAreOneMore : Type 0
JumpsAreOneMore = (s r : ℕ) → s < 2 ^ 64
    → (s ≡ r → jump_count s r ≡ 0) × (r < s → jump_count s r ≡ jump_count (landing s r) r + 1)

-- twice the logarithm of the distance and two at most
abbrev pub JumpsAreFew : Type 0
JumpsAreFew = (s r : ℕ) → r < s → s < 2 ^ 64 → jump_count s r ≤ 2 * (floor_log2 (s - r) + 1)
