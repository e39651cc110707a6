-- Blocks that stand and blocks that are decided, worked out.
use Rattle.std.specs.Prelude.{◌≡◌, ℕ, ◌+◌, ◌-◌, ◌*◌, ◌/◌, ◌^◌, Bool, ◌&&◌, not, nat_le, ◌==◌, List, [], ◌∷◌, length, filter, find, Option, Some, None, is_some, sum, if◌then◌else◌}
use Rattle.std.specs.List.{list_any, range_with_len, flat_map}
use Rattle.hw_types.specs.declared.unit.Obs.{Obs}
use Rattle.hw_types.specs.declared.unit.Vertex.{Vertex}
use Rattle.hw_types.specs.declared.config.Config.{Config}
use Rattle.hw_types.specs.declared.answers.Decision.{Decision}
use Rattle.hw_types.specs.Graph.{Node}
use Rattle.hw_types.specs.Below.{Among}
use Rattle.hw_types.specs.Votes.{height_of}
use Rattle.hw_types.specs.Settled.{Received, settled_of, panorama_of, faulty_weight}
use Rattle.hw_types.specs.Journal.{Setting}
use Rattle.hw_types.specs.Decisions.{received_at, StoodAt}
use Rattle.hw_safety.specs.Pruned.{or_zero, has_summit}

-- the weight that a committee of a level needs
abbrev pub quorum_of : ℕ → ℕ → ℕ → ℕ
quorum_of total ftt level = (total * (2 ^ level - 1) + ftt * 2 ^ level) / (2 * (2 ^ level - 1)) + 1

-- the weight that a committee of the level needs, by the configuration
abbrev pub quorum_at : Config → ℕ → ℕ
quorum_at config level = quorum_of (sum config.weights) config.ftt level

-- the block stands at this level, with this quorum
abbrev pub stands : Config → Received → Node → ℕ → ℕ → Bool
stands config received block level quorum =
    nat_le 1 level && (nat_le level config.levels && ((quorum == quorum_at config level) && has_summit config.weights (settled_of config received) (panorama_of config received) block level quorum))

-- ---- what a moment shows

-- the settled units and the panorama, and whether few are faulty
pub record Moment : Type 0 where
  pub settled : List Node
  pub panorama : List Obs
  pub few_faulty : Bool

-- what a journal leaves
unfoldable pub moment_of : Config → Received → Moment
moment_of config received = record { settled = settled_of config received; panorama = panorama_of config received; few_faulty = nat_le (faulty_weight config received) config.ftt }

-- after so many entries
abbrev pub moment : Setting → List Vertex → ℕ → Moment
moment s journal at = moment_of s.config (received_at s journal at)

-- the least level at which the block stands, where few are faulty
unfoldable pub least_level : Config → Moment → Node → Option ℕ
least_level config m block =
    if m.few_faulty then find (λ level. has_summit config.weights m.settled m.panorama block level (quorum_at config level)) (range_with_len 1 config.levels) else None

-- the block stands after so many entries, and few are faulty
abbrev pub stood_at : Setting → List Vertex → Node → ℕ → Bool
stood_at s journal block at = is_some (least_level s.config (moment s journal at) block)

-- the first such moment
unfoldable pub decided_at : Setting → List Vertex → Node → Option ℕ
decided_at s journal block = find (stood_at s journal block) (range_with_len 0 (length journal + 1))

-- ---- the records

-- the units that stand now, and did not before
unfoldable pub fresh_at : Setting → List Vertex → ℕ → Moment → List Node
fresh_at s journal at m = filter (λ b. not (list_any (stood_at s journal b) (range_with_len 0 at))) (filter (λ b. is_some (least_level s.config m b)) m.settled)

-- the record of a block that stands now
abbrev pub decision_of : Config → Moment → ℕ → ℕ → Node → Decision
decision_of config m at height b =
    let level = or_zero (least_level config m b) in record { block = b.digest; height = height; level = level; quorum = quorum_at config level; at = at }

-- what is there, as a list
abbrev pub as_list : {A : Type 0} → Option A → List A
as_list None = []
as_list (Some x) = x ∷ []

-- the record of the block at a height, if one is fresh there
abbrev pub decision_at : Config → Moment → ℕ → List Node → ℕ → List Decision
decision_at config m at fresh height = elim (find (λ b. height_of config.weights m.settled b == height) fresh) [ None ↦ [] | Some b ↦ decision_of config m at height b ∷ [] ]

-- the records of the blocks that are fresh at a moment, by height
unfoldable pub newly_decided : Setting → List Vertex → ℕ → List Decision
newly_decided s journal at =
    let m = moment s journal at in let fresh = fresh_at s journal at m in flat_map (decision_at s.config m at fresh) (range_with_len 0 (length m.settled + 1))

-- The blocks that a journal decides, by moment and then by height.
unfoldable pub decisions_of : Setting → List Vertex → List Decision
decisions_of s journal = flat_map (newly_decided s journal) (range_with_len 0 (length journal + 1))

-- Two blocks of one height that stand at one moment are one: accountable safety gives it.
abbrev pub OneBlockEach : Setting → List Vertex → Type 0
OneBlockEach s journal =
    (at level other_level quorum other_quorum : ℕ) (b c : Node)
    → Among b (settled_of s.config (received_at s journal at)) → Among c (settled_of s.config (received_at s journal at))
    → StoodAt s journal b level quorum at → StoodAt s journal c other_level other_quorum at
    → height_of s.config.weights (settled_of s.config (received_at s journal at)) b ≡ height_of s.config.weights (settled_of s.config (received_at s journal at)) c
    → b.digest ≡ c.digest
