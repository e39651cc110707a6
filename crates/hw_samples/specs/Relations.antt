-- A member of each relation of the definitions.
use Rattle.std.specs.Prelude.{◌≡◌, ◌^◌, ◌++◌, ◌∷◌, [], true, false, List, Ok, Err, replicate, take}
use Rattle.hw_types.specs.declared.unit.Obs.TheVariants.{Absent, Faulty}
use Rattle.hw_types.specs.declared.unit.WireUnit.{WireUnit}
use Rattle.hw_types.specs.declared.unit.SignedUnit.{SignedUnit}
use Rattle.hw_types.specs.declared.unit.Vertex.{Vertex}
use Rattle.hw_types.specs.declared.answers.Receipt.TheVariants.{Admitted, Parked, Dropped}
use Rattle.hw_types.specs.declared.answers.Decision.{Decision}
use Rattle.hw_types.specs.declared.answers.Culprit.{Culprit}
use Rattle.hw_types.specs.Graph.{Node, past, slot, cites, unit_cites}
use Rattle.hw_types.specs.Below.{Among, LeadsTo}
use Rattle.hw_types.specs.ByName.{by_name, IsRising}
use Rattle.hw_types.specs.Settled.{parked_of, dropped_of, is_faulty}
use Rattle.hw_types.specs.Summit.{HasSummit, IsGreatest, Stands}
use Rattle.hw_types.specs.Spelling.{signed_bytes, vertex_bytes, frame_bytes, Fits, SpellsUnit, SpellsVertex, SpellsConfig, SpellsFrame}
use Rattle.hw_types.specs.Reading.{unit_of, Gives, IsFirstError}
use Rattle.hw_types.specs.Journal.{named, received_of, receipt_of}
use Rattle.hw_types.specs.Decisions.{StoodAt, IsRecord, ComesBefore, AreDecisions}
use Rattle.hw_types.specs.Culprits.{SignedAs, IsShown, AreCulprits}
use Rattle.hw_types.specs.Lawful.{NoClash, IsLawful}
use Rattle.hw_types.specs.laws.GraphLaws.{IsAcyclic, IsExtension, CitesOld}
use Rattle.hw_types.specs.laws.StateLaws.{units_in, HasSame, SaysTheSame, NamesApart, HasSameState, Grows, IsLawfulUnion, Admits, LeadsToSettled, candidates, IsSplit, IsStep, IsTip, OneTip, OtherSlots, HasOneMore, MovesOwnSlot, IsLawfulRun, IsSeenStep, IsOverAll, IsOneChange, TellsWhere}
use Rattle.hw_safety.specs.Pruned.{pruned_committees}
use Rattle.hw_safety.specs.Decided.{OneBlockEach}
use Rattle.hw_samples.specs.Words.{equal_three, three, unsigned_as, sent, both, endorses, settled_in, is_faulty_in, panorama_in, decided}
use Rattle.hw_samples.specs.FourUnits.{a0, b0, a1, b1, in_order, last_first, without_last, second, third}
use Rattle.hw_samples.specs.Forks.{fork, with_fork, c0}
use Rattle.hw_samples.specs.Chains.{p0, single, s0, s2, two_decided, all_at_once, at_two_levels, nine_units}
use Rattle.hw_samples.specs.Spelled.{small_unit, small_unit_bytes, unit_vertex, evidence_vertex, equal_three_bytes}
use Rattle.hw_samples.specs.RealNames.{real_a0, real_b0, real_e0, real, real_in_order, real_other_side}
use Rattle.hw_types.specs.declared.answers.Rule.TheVariants as rule
use Rattle.hw_types.specs.declared.answers.CodecError.TheVariants as error
use Rattle.hw_types.specs.declared.answers.Frame.TheVariants as frame

-- ---- summits and decisions

-- blocks stand: the four units', also by their real names, and one at the second level
pub record BlocksStand : Type 0 where
  pub stands : Stands equal_three (received_of three in_order) (named three a0) 1 2
  pub by_digests : Stands equal_three (received_of real real_in_order) (named real real_a0) 1 2
  pub at_level_two : Stands at_two_levels.config (received_of at_two_levels nine_units) (named at_two_levels p0) 2 3
  pub greatest : IsGreatest equal_three.weights (settled_in three in_order) (panorama_in three in_order) (named three a0) 1 2
      (pruned_committees equal_three.weights (settled_in three in_order) (panorama_in three in_order) (named three a0) 2)
  -- without the last unit it doesn't
  pub not_yet : Stands equal_three (received_of three without_last) (named three a0) 1 2 → ⊥
  pub no_summit : HasSummit equal_three.weights (settled_in three without_last) (panorama_in three without_last) (named three a0) 1 2 → ⊥

-- lists of no, one and two decisions
pub record DecisionsAreMade : Type 0 where
  pub none : AreDecisions three without_last []
  pub one : AreDecisions three in_order (decided a0 0 1 2 4 ∷ [])
  pub two : AreDecisions single two_decided (decided s0 0 1 1 2 ∷ decided s2 1 1 1 4 ∷ [])
  pub two_at_once : AreDecisions single all_at_once (decided s0 0 1 1 4 ∷ decided s2 1 1 1 4 ∷ [])
  pub at_level_two : AreDecisions at_two_levels nine_units (decided p0 0 2 3 9 ∷ [])
  pub is_record : IsRecord three in_order (decided a0 0 1 2 4)
  pub stood : StoodAt three in_order (named three a0) 1 2 4
  pub before : ComesBefore (decided s0 0 1 1 2) (decided s2 1 1 1 4)
  pub lower : ComesBefore (decided s0 0 1 1 4) (decided s2 1 1 1 4)
  pub one_block_each : OneBlockEach single two_decided
  -- and each list is the only one
  pub only : (ds : List Decision) → AreDecisions three in_order ds → ds ≡ decided a0 0 1 2 4 ∷ []

-- ---- culprits

abbrev pub signed : WireUnit → SignedUnit
signed u = record { unit = u; signature = record { 0 = replicate 32 0 } }

abbrev pub culprit : Culprit
culprit = record { validator = 1; first = signed_bytes (signed real_b0); second = signed_bytes (signed real_e0) }

-- the culprit of two journals in conflict, shown by its two first units
pub record CulpritIsShown : Type 0 where
  pub culprits : AreCulprits real real_in_order real_other_side (culprit ∷ [])
  pub shown : IsShown real real_in_order real_other_side culprit
  pub signed_as : SignedAs (real_in_order ++ real_other_side) (named real real_b0) (signed_bytes (signed real_b0))
  pub none : AreCulprits real real_in_order real_in_order []

-- ---- spellings

abbrev pub too_late : WireUnit
too_late = record small_unit { time = 2 ^ 63 }

pub record ValuesAreSpelled : Type 0 where
  pub unit : SpellsUnit small_unit_bytes small_unit
  pub vertex : SpellsVertex (vertex_bytes evidence_vertex) evidence_vertex
  pub config : SpellsConfig equal_three_bytes equal_three
  pub frame : SpellsFrame (frame_bytes (frame.Vertex unit_vertex)) (frame.Vertex unit_vertex)
  pub unfit : Fits too_late → ⊥
  pub gives : Gives (λ (u : WireUnit). u) (Ok small_unit) (unit_of small_unit_bytes)
  pub first_error : IsFirstError (unit_of (take 68 small_unit_bytes)) (error.Truncated 65)
  pub fails : Gives (λ (u : WireUnit). u) (Err (error.Truncated 65)) (unit_of (take 68 small_unit_bytes))

-- ---- graphs

abbrev pub four_nodes : List Node
four_nodes = named three a0 ∷ named three a1 ∷ named three b0 ∷ named three b1 ∷ []

abbrev pub first_two : List Vertex
first_two = sent a0 ∷ sent b0 ∷ []

pub record GraphsAreLawful : Type 0 where
  pub settled : settled_in three in_order ≡ four_nodes
  -- by validator 1's first unit the second leads to the block
  pub leads : LeadsTo unit_cites (cites b1.panorama) four_nodes (named three a0)
  pub reached : Among (named three a0) (past four_nodes b1.panorama)
  pub lawful : IsLawful equal_three.weights (is_faulty_in three in_order) (settled_in three in_order)
  pub with_a_fork : IsLawful equal_three.weights (is_faulty_in three with_fork) (settled_in three with_fork)
  pub rising : IsRising (settled_in three in_order)
  pub acyclic : IsAcyclic (settled_in three in_order)
  pub extension : IsExtension (settled_in three first_two) (settled_in three in_order)
  pub cites_old : CitesOld (settled_in three first_two) (settled_in three in_order) b1.panorama

-- ---- journals

-- a unit that settles, one that waits and one that is dropped
abbrev pub one_of_each : List Vertex
one_of_each = sent a0 ∷ sent second ∷ sent third ∷ sent b1 ∷ []

-- validator 1's fork and a rival of the block
abbrev pub against : List Vertex
against = sent a0 ∷ sent fork ∷ sent c0 ∷ []

pub record JournalsRelate : Type 0 where
  pub same_units : HasSame (units_in three in_order) (units_in three last_first)
  pub same : SaysTheSame three in_order last_first
  pub same_state : HasSameState equal_three (received_of three in_order) (received_of three last_first)
  pub apart : NamesApart (units_in three in_order)
  pub grows : Grows equal_three (received_of three without_last) (received_of three in_order)
  pub no_clash : NoClash (received_of three in_order).units (received_of three against).units
  pub union : IsLawfulUnion equal_three (received_of three in_order) (received_of three against)
  pub split : IsSplit equal_three (received_of three one_of_each)
  pub settled : Among (named three second) (settled_in three one_of_each)
  pub dropped : Among (named three third) (dropped_of equal_three (received_of three one_of_each))
  pub parked : Among (named three b1) (parked_of equal_three (received_of three one_of_each))

-- ---- one vertex more

abbrev pub waiting : List Vertex
waiting = sent b0 ∷ []

abbrev pub arrived : List Vertex
arrived = sent b0 ∷ sent a0 ∷ []

abbrev pub both_admitted : List Node
both_admitted = named three a0 ∷ named three b0 ∷ []

-- the vertex that a parked unit waits for arrives, and both are admitted
pub record StepIsMade : Type 0 where
  pub admits : Admits equal_three (received_of three arrived) (candidates three waiting (sent a0)) [] both_admitted
  pub leads : LeadsToSettled equal_three (received_of three arrived) (candidates three waiting (sent a0)) both_admitted
  pub settled : by_name both_admitted ≡ settled_in three arrived
  pub is_step : IsStep equal_three (received_of three waiting) (received_of three arrived) (named three a0 ∷ [])
  pub lawful_run : IsLawfulRun equal_three (received_of three arrived) (candidates three waiting (sent a0)) (named three a0 ∷ [])
  pub one_more : HasOneMore (settled_in three (sent a0 ∷ [])) (settled_in three first_two) (named three b0)
  pub change_by_unit : IsOneChange three waiting (sent a0)
  pub change_by_evidence : IsOneChange three waiting (both b0 fork)
  pub change_by_endorsement : IsOneChange three waiting (endorses b0 0)

-- a receipt tells where the unit is
pub record ReceiptsTellWhere : Type 0 where
  pub admitted : TellsWhere three first_two (unsigned_as a1)
  pub admitted_receipt : receipt_of three first_two (sent a1) ≡ Admitted 1
  pub parked : TellsWhere three [] (unsigned_as a1)
  pub parked_receipt : receipt_of three [] (sent a1) ≡ Parked 2
  pub dropped : TellsWhere three (sent a0 ∷ sent second ∷ []) (unsigned_as third)
  pub dropped_receipt : receipt_of three (sent a0 ∷ sent second ∷ []) (sent third) ≡ Dropped rule.ThirdInRound

-- ---- tips

abbrev pub before_b1 : List Node
before_b1 = settled_in three without_last

abbrev pub before_fork : List Node
before_fork = settled_in three first_two

pub record TipsAreSeen : Type 0 where
  pub tip : IsTip (settled_in three in_order) 1 (named three b1)
  pub one_tip : OneTip equal_three (is_faulty_in three in_order) (settled_in three in_order) 1
  pub other_slots : OtherSlots equal_three (is_faulty_in three with_fork) (settled_in three with_fork)
  pub silent : slot (panorama_in three with_fork) 2 ≡ Absent
  pub marked : slot (panorama_in three with_fork) 1 ≡ Faulty
  pub over_all : IsOverAll equal_three (is_faulty_in three with_fork) (settled_in three with_fork)
  -- the unit that follows the tip moves its creator's slot, and a fork marks it
  pub moves : MovesOwnSlot equal_three (is_faulty (received_of three in_order) before_b1) (is_faulty_in three in_order) before_b1 (settled_in three in_order) (named three b1)
  pub seen : IsSeenStep equal_three (received_of three in_order) before_b1 (settled_in three in_order) (named three b1)
  pub no_fork : is_faulty_in three in_order 1 ≡ false
  pub fork_seen : IsSeenStep equal_three (received_of three with_fork) before_fork (settled_in three with_fork) (named three fork)
  pub is_fork : is_faulty_in three with_fork 1 ≡ true
