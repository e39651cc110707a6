-- The search for the summit of a decided block, and what is printed of it.
use Rattle.std.specs.Prelude.{◌≡◌, ℕ, ◌+◌, List, [], ◌∷◌, length, map, filter, codes, Some, is_some, cond}
use Rattle.std.specs.List.{range_with_len}
use Rattle.hw_types.specs.declared.config.Config.{Config}
use Rattle.hw_types.specs.declared.answers.Decision.{Decision}
use Rattle.hw_types.specs.Graph.{Node, find_node}
use Rattle.hw_types.specs.Below.{Among}
use Rattle.hw_types.specs.Summit.{IsGreatest}
use Rattle.hw_types.specs.Real.{CoreState, settled_in, panorama_in}
use Rattle.hw_safety.specs.Pruned.{or_zero}
use Rattle.hw_text.specs.Lines.{spaced}
use Rattle.hw_dag.specs.Dag.{UnitGraph}
use Rattle.hw_horizon.specs.Search.{Search, start_of, committees_of}
use Rattle.hw_horizon.specs.Kept.{AreKept}
use Rattle.hw_core.specs.Decided.{decided_in}
use Rattle.hw_explain.specs.Greatest.{member_text}

-- it has room for each validator and level, and nothing is kept of any graph yet
pub record IsFresh (search : Search) (config : Config) : Type 0 where
  pub validators : search.validators ≡ length config.weights
  pub levels : search.levels ≡ config.levels
  pub walks : (dag : UnitGraph) → AreKept dag search.walks

-- the node decided the block when its journal became as long as it is
pub record IsDecidedNow (c : CoreState) (d : Decision) : Type 0 where
  pub decided : Among d (decided_in c)
  pub at : d.at ≡ length c.journal

-- the greatest summit of the decided block is what the search kept
abbrev pub IsFound : CoreState → Decision → Search → Type 0
IsFound c d search = (block : Node) → find_node (settled_in c) d.block ≡ Some block → IsGreatest c.config.weights (settled_in c) (panorama_in c) block d.level d.quorum (committees_of search)

-- ---- what is printed of a search

-- the start of a validator, or 0
abbrev pub start_or_zero : Search → ℕ → ℕ → ℕ
start_or_zero search level v = or_zero (start_of search level v)

-- the starts of a validator from level 0 to this one
abbrev pub starts_in : Search → ℕ → ℕ → List ℕ
starts_in search level v = map (λ j. start_or_zero search j v) (range_with_len 0 (level + 1))

-- the members of the committee of a level among this many validators
abbrev pub members_in : Search → ℕ → ℕ → List ℕ
members_in search level validators = filter (λ v. is_some (start_of search level v)) (range_with_len 0 validators)

-- the words of that committee
abbrev pub words_in : Search → ℕ → ℕ → List (List ℕ)
words_in search level validators = codes "committee" ∷ map (λ v. member_text v (starts_in search level v)) (members_in search level validators)

-- a member after a space, and nothing for another validator
abbrev pub part_in : Search → ℕ → ℕ → List ℕ
part_in search level v = cond (is_some (start_of search level v)) (spaced (member_text v (starts_in search level v))) []
