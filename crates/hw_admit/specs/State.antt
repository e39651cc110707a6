-- The state of one node, and what holds of each.
use Rattle.std.specs.Prelude.{◌≡◌, ℕ, ◌≤◌, ◌+◌, Bool, true, false, ◌||◌, List, length, Option, Some, None, slice_index_or}
use Rattle.hw_types.specs.declared.unit.Digest.{Digest}
use Rattle.hw_types.specs.declared.unit.Obs.{Obs}
use Rattle.hw_types.specs.declared.config.Config.{Config}
use Rattle.hw_types.specs.declared.config.ConfigFault.{ConfigFault}
use Rattle.hw_types.specs.Limits.{config_fault}
use Rattle.hw_types.specs.Graph.{Node, slot, is_faulty_mark}
use Rattle.hw_types.specs.Below.{Among}
use Rattle.hw_types.specs.Settled.{equivocates, panorama_over}
use Rattle.hw_dag.specs.declared.numbers.UnitNo.{UnitNo}
use Rattle.hw_dag.specs.declared.numbers.View.{View}
use Rattle.hw_dag.specs.Dag.{UnitGraph, graph, count_of, observations, IsPanorama}
use Rattle.hw_dag.specs.Admission.{PreparedUnit, settled_from, with_unit}
use Rattle.hw_dag.specs.Lanes.{AreWeights}
use Rattle.hw_endorse.specs.Told.{Told}
use Rattle.hw_naivety.specs.Naivety.{NaiveTips, IsNoted}
use Rattle.hw_rules.specs.Judged.{IsForkOf, AllEndorseSeen}
use Rattle.hw_admit.specs.declared.kept.CachedForkChoice.{CachedForkChoice}
use Rattle.hw_admit.specs.Kept.{IsKept}
use Rattle.hw_admit.specs.declared.start.StateFault.{StateFault}
use Rattle.hw_admit.specs.declared.start.StateFault.TheVariants as start

-- ---- who is faulty

-- there is evidence against the validator
abbrev pub is_marked : List Bool → ℕ → Bool
is_marked marked v = slice_index_or marked v false

-- there is evidence against the validator, or it has two different units with one number among these
abbrev pub is_faulty_in : List Bool → List Node → ℕ → Bool
is_faulty_in marked units v = is_marked marked v || equivocates units v

-- what the settled units and the faulty validators make a node observe
abbrev pub observed_in : Config → List Bool → List Node → List Obs
observed_in config marked units = panorama_over config (is_faulty_in marked units) units

-- each mark of the panorama is of a faulty validator
abbrev pub MarksAreMet : List Bool → List Node → List Obs → Type 0
MarksAreMet marked units panorama = (v : ℕ) → is_faulty_mark (slot panorama v) ≡ true → is_faulty_in marked units v ≡ true

-- ---- the state

-- The configuration, the room for more units, the settled units, for each validator whether there is evidence
-- against it, the endorsements, each once, and what is observed of each validator.
pub record NodeState : Type 0 where
  pub config : Config
  pub spare : ℕ
  pub dag : UnitGraph
  pub marked : List Bool
  pub pairs : List (Digest × ℕ)
  pub panorama : List View

-- the endorsements as they are told of
abbrev pub told_in : NodeState → Told
told_in s = record { weights = s.config.weights; pairs = s.pairs }

-- what holds of each state
pub record IsState (s : NodeState) : Type 0 where
  pub lawful : config_fault s.config ≡ None
  pub weights_are : AreWeights s.config.weights s.dag
  pub marked_length : length s.marked ≡ length s.config.weights
  -- no unit marks a validator that isn't faulty
  pub met : (u : Node) → Among u (graph s.dag) → MarksAreMet s.marked (graph s.dag) u.unit.panorama
  -- each unit's endorsed list has names of units below it alone
  pub seen : AllEndorseSeen s.dag
  pub panorama_is : IsPanorama s.dag s.panorama
  -- the panorama is that of the definitions
  pub observed : observations s.dag s.panorama ≡ observed_in s.config s.marked (graph s.dag)

-- what is kept beside the state is of the same configuration and graph, and serves for its validators and for as many units as there is room for
pub record IsBeside (s : NodeState) (leaders : Config) (told : Told) (naivety : NaiveTips) (forks marks : ℕ) (own judged : CachedForkChoice) : Type 0 where
  pub leaders_are : leaders ≡ s.config
  pub weights_are : told.weights ≡ s.config.weights
  pub noted : IsNoted naivety s.dag
  pub all : naivety.count ≡ count_of s.dag
  pub dag_serves : s.spare ≤ s.dag.spare
  pub naivety_serves : s.spare ≤ naivety.spare
  pub forks_serve : s.dag.validators ≤ forks
  pub marks_serve : count_of s.dag + s.spare ≤ marks
  pub own_kept : IsKept s.config.weights s.dag own
  pub judged_kept : IsKept s.config.weights s.dag judged

-- ---- how it begins and grows

-- why there is no state: a limit that the configuration breaks, or want of memory where it breaks none
abbrev pub IsStartFault : Option ConfigFault → StateFault → Type 0
IsStartFault broken (start.Fault fault) = broken ≡ Some fault
IsStartFault broken start.OutOfMemory = broken ≡ None

-- the unit stands last in the graph, with the fork choice of its panorama
pub record IsAdmitted (weights : List ℕ) (dag : UnitGraph) (p : PreparedUnit) (later : UnitGraph) : Type 0 where
  pub fork : Option UnitNo
  pub fork_is : IsForkOf weights dag p fork
  pub grown : later ≡ with_unit dag (settled_from dag p fork)
