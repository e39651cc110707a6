-- What a search for summits keeps.
use Rattle.std.specs.Prelude.{◌≡◌, ℕ, ◌+◌, ◌<◌, ◌≤◌, nat_le, List, [], length, Option, Some, None, is_some, slice_index_or, if◌then◌else◌}
use Rattle.hw_horizon.specs.declared.horizons.Scratch.{Scratch}
use Rattle.hw_types.specs.Summit.{Committees}
use Rattle.hw_safety.specs.Pruned.{or_zero}
use Rattle.hw_horizon.specs.Tables.{Starts, entry}
use Rattle.hw_horizon.specs.Kept.{AskedWalks}

-- how many validators and levels there are, the level of the summit that the last search found, the table of each level, and what is kept of the walks
pub record Search : Type 0 where
  pub validators : ℕ
  pub levels : ℕ
  pub found : Option ℕ
  pub tables : List Starts
  pub walks : AskedWalks

-- the table of a level
abbrev pub table_of : List Starts → ℕ → Starts
table_of tables level = slice_index_or tables level []

-- the start of a validator in the committee of a level, where a summit of this or a higher level was found
abbrev pub start_of : Search → ℕ → ℕ → Option ℕ
start_of s level v = elim s.found [ None ↦ None | Some top ↦ if nat_le level top then entry (table_of s.tables level) v else None ]

-- the committees and starts that are kept
abbrev pub committees_of : Search → Committees
committees_of s = record { member = λ j v. is_some (start_of s j v); start = λ j v. or_zero (start_of s j v) }

-- ---- lengths

-- a table for each level and level 0, each with an entry for each validator
pub record AreTables (validators levels : ℕ) (tables : List Starts) : Type 0 where
  pub length_is : length tables ≡ levels + 1
  pub each : (k : ℕ) → k < length tables → length (table_of tables k) ≡ validators

-- what a search works on has an entry for each validator
pub record IsScratch (validators : ℕ) (scratch : Scratch) : Type 0 where
  pub lower : length scratch.lower ≡ validators
  pub present : length scratch.present ≡ validators
  pub next : length scratch.next ≡ validators
  pub firsts : length scratch.firsts ≡ validators
  pub counts : length scratch.counts ≡ validators

-- the level is one of these, where there is one
abbrev pub IsWithin : ℕ → Option ℕ → Type 0
IsWithin levels None = Unit {0}
IsWithin levels (Some top) = top ≤ levels
