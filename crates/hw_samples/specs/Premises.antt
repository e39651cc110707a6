-- A case that meets the premises of each law, and what the law says of it.
use Rattle.std.specs.Prelude.{ℕ, ◌≡◌, ◌-◌, ◌*◌, ◌^◌, ◌<◌, ◌≤◌, ◌==◌, ◌++◌, ◌∷◌, [], Bool, true, false, List, length, IsTrue, ◌⊎◌, suc}
use Rattle.std.specs.List.{list_any}
use Rattle.hw_types.specs.declared.unit.Obs.TheVariants.{Correct, Faulty}
use Rattle.hw_types.specs.declared.unit.Vertex.{Vertex}
use Rattle.hw_types.specs.Graph.{Node, past, lane_of, slot, node_eq, are_comparable}
use Rattle.hw_types.specs.Closure.{closure_after}
use Rattle.hw_types.specs.Below.{Among}
use Rattle.hw_types.specs.ByName.{by_name}
use Rattle.hw_types.specs.Votes.{weight_of, unit_fork, is_ancestor_within, fork_of, ghost_walk}
use Rattle.hw_types.specs.Rules.{state_rule}
use Rattle.hw_types.specs.Settled.{settled_of, panorama_of, settles}
use Rattle.hw_types.specs.Summit.{HasSummit, Stands}
use Rattle.hw_types.specs.Journal.{named, received_of, answer, is_accepted}
use Rattle.hw_types.specs.Decisions.{received_at, StoodAt, AreDecisions}
use Rattle.hw_types.specs.Culprits.{culprits_of}
use Rattle.hw_types.specs.Lawful.{settled_in_either, faulty_in_either, joint_panorama, keeps, NoClash}
use Rattle.hw_types.specs.laws.GraphLaws.{IsAcyclic, IsExtension, CitesOld}
use Rattle.hw_types.specs.laws.StateLaws.{units_in, SaysTheSame, NamesApart, HasSameState, Admits, candidates, HasOneMore}
use Rattle.hw_safety.specs.Safety.{HasPairs, OnOneChain}
use Rattle.hw_safety.specs.Pruned.{Starts, seen_in}
use Rattle.hw_safety.specs.Decided.{decisions_of, OneBlockEach}
use Rattle.hw_samples.specs.Words.{equal_three, equal_four, three, sent, both, after, settled_in, panorama_in, weight_in}
use Rattle.hw_samples.specs.FourUnits.{a0, b0, b1, in_order, last_first}
use Rattle.hw_samples.specs.Forks.{fork, with_fork, c0, other_side}
use Rattle.hw_samples.specs.Chains.{p0, single, s0, s2, one_decided, two_decided, at_two_levels, p1, p2, nine_units}
use Rattle.hw_samples.specs.Relations.{first_two, against, waiting, arrived, both_admitted}

-- ---- accountable safety

abbrev pub all_units : List Node
all_units = settled_in_either equal_three (received_of three in_order) (received_of three against)

abbrev pub all_faulty : ℕ → Bool
all_faulty = faulty_in_either equal_three (received_of three in_order) (received_of three against)

-- A block stands in one journal, and with the other, where validator 1 has another first unit, the fork choice is a
-- rival. So the faulty weigh at least the quorum's surplus, by its share, and more than the threshold
pub record BlockIsLost : Type 0 where
  pub no_clash : NoClash (received_of three in_order).units (received_of three against).units
  pub stands : Stands equal_three (received_of three in_order) (named three a0) 1 2
  pub lost : keeps equal_three.weights all_units (joint_panorama equal_three (received_of three in_order) (received_of three against)) (named three a0) ≡ false
  pub of_graphs : (2 * 2 - 3) * (2 ^ 1 - 1) ≤ weight_of equal_three.weights all_faulty * 2 ^ 1
  pub of_journals : (2 * 2 - 3) * (2 ^ 1 - 1) ≤ weight_of equal_three.weights all_faulty * 2 ^ 1
  pub above : equal_three.ftt < weight_of equal_three.weights all_faulty
  pub it_is : weight_of equal_three.weights all_faulty ≡ 1

abbrev pub later_units : List Vertex
later_units = sent fork ∷ sent c0 ∷ []

-- the same in one journal, as it grows
pub record BlockIsLostLater : Type 0 where
  pub stood : HasSummit equal_three.weights (settled_in three in_order) (panorama_in three in_order) (named three a0) 1 2
  pub lost : keeps equal_three.weights (settled_in three (in_order ++ later_units)) (panorama_in three (in_order ++ later_units)) (named three a0) ≡ false
  pub share : (2 * 2 - 3) * (2 ^ 1 - 1) ≤ weight_in three (in_order ++ later_units) * 2 ^ 1

-- While nobody is faulty the block is kept, though a rival comes, and blocks that stood are on one chain
pub record BlocksAreKept : Type 0 where
  pub few : weight_in three (in_order ++ sent c0 ∷ []) ≤ equal_three.ftt
  pub kept : IsTrue (keeps equal_three.weights (settled_in three (in_order ++ sent c0 ∷ [])) (panorama_in three (in_order ++ sent c0 ∷ [])) (named three a0))
  pub first_stood : Stands single.config (received_of single one_decided) (named single s0) 1 1
  pub second_stands : Stands single.config (received_of single two_decided) (named single s2) 1 1
  pub none_faulty : weight_in single two_decided ≤ single.config.ftt
  pub one_chain : OnOneChain single.config.weights (settled_in single two_decided) (named single s0) (named single s2)

abbrev pub both_sides : List Node
both_sides = settled_in_either equal_three (received_of three in_order) (received_of three other_side)

-- Two blocks stand in two journals and aren't on one chain. So the faulty, and the culprits, weigh more than the threshold
pub record BlocksConflict : Type 0 where
  pub no_clash : NoClash (received_of three in_order).units (received_of three other_side).units
  pub left_stands : Stands equal_three (received_of three in_order) (named three a0) 1 2
  pub right_stands : Stands equal_three (received_of three other_side) (named three c0) 1 2
  pub left_in : Among (named three a0) both_sides
  pub right_in : Among (named three c0) both_sides
  pub off : OnOneChain equal_three.weights both_sides (named three a0) (named three c0) → ⊥
  pub left_pairs : HasPairs three (both b0 fork ∷ in_order)
  pub faulty : equal_three.ftt < weight_of equal_three.weights (faulty_in_either equal_three (received_of three in_order) (received_of three other_side))
  pub culprits : equal_three.ftt < weight_of equal_three.weights (λ v. list_any (λ w. w == v) (culprits_of three in_order other_side))

-- ---- summits

abbrev pub nine_settled : List Node
nine_settled = settled_in at_two_levels nine_units

abbrev pub from_the_first : Starts
from_the_first = (0, 0) ∷ (1, 0) ∷ (2, 0) ∷ []

-- validator 0's second unit sees a quorum, and so does its third
pub record QuorumsStay : Type 0 where
  pub last : Among (named at_two_levels p2) nine_settled
  pub second : Among (named at_two_levels p1) (lane_of nine_settled (named at_two_levels p2))
  pub third : Among (named at_two_levels p2) (lane_of nine_settled (named at_two_levels p2))
  pub then : 3 ≤ seen_in equal_four.weights (past nine_settled p1.panorama) from_the_first (0 ∷ 1 ∷ 2 ∷ [])
  pub now : 3 ≤ seen_in equal_four.weights (past nine_settled p2.panorama) from_the_first (0 ∷ 1 ∷ 2 ∷ [])
  pub not_before : seen_in equal_four.weights (past nine_settled p0.panorama) from_the_first (0 ∷ 1 ∷ 2 ∷ []) ≡ 0

-- the second of two blocks stands, and so does its parent
pub record AncestorStands : Type 0 where
  pub settled : Among (named single s2) (settled_in single two_decided)
  pub parent : IsTrue (is_ancestor_within 1 (unit_fork single.config.weights (settled_in single two_decided)) (named single s0) (named single s2))
  pub stands : Stands single.config (received_of single two_decided) (named single s2) 1 1
  pub ancestor : Stands single.config (received_of single two_decided) (named single s0) 1 1

-- what stands at a moment with few faulty is the fork choice or an ancestor of it, and blocks of a height are one
pub record StandingIsKeptHere : Type 0 where
  pub stood : StoodAt three in_order (named three a0) 1 2 4
  pub kept : keeps equal_three.weights (settled_of equal_three (received_at three in_order 4)) (panorama_of equal_three (received_at three in_order 4)) (named three a0) ≡ true
  pub one_each : OneBlockEach three in_order
  pub found : AreDecisions three in_order (decisions_of three in_order)

-- ---- graphs and journals

-- the first two units of four: the past, the choice and the verdict of a later unit stay
pub record MoreUnitsChangeNothing : Type 0 where
  pub extension : IsExtension (settled_in three first_two) (settled_in three in_order)
  pub cites_old : CitesOld (settled_in three first_two) (settled_in three in_order) b1.panorama
  pub past : past (settled_in three in_order) b1.panorama ≡ past (settled_in three first_two) b1.panorama
  pub choice : fork_of equal_three.weights (settled_in three in_order) b1.panorama ≡ fork_of equal_three.weights (settled_in three first_two) b1.panorama
  pub verdict : state_rule equal_three (settled_in three in_order) (named three b1) ≡ state_rule equal_three (settled_in three first_two) (named three b1)

-- validator 1's two first units aren't comparable, and a unit is on the lane of what follows it
pub record LanesFork : Type 0 where
  pub left : Among (named three b0) (settled_in three with_fork)
  pub right : Among (named three fork) (settled_in three with_fork)
  pub apart : are_comparable (settled_in three with_fork) (named three b0) (named three fork) ≡ false
  pub pair : (a : Node) × (b : Node) × Among a (settled_in three with_fork) × Among b (settled_in three with_fork) × (a.unit.creator ≡ 1) × (b.unit.creator ≡ 1) × (a.unit.seq ≡ b.unit.seq) × (node_eq a b ≡ false)
  pub below : Among (named three b0) (past (settled_in three in_order) b1.panorama)
  pub on_lane : Among (named three b0) (lane_of (settled_in three in_order) (named three b1))
  pub entry_below : Among (named three a0) (past (settled_in three in_order) b1.panorama)
  pub entry : (slot b1.panorama 0 ≡ Faulty) ⊎ ((y : Node) × Among y (settled_in three in_order) × (slot b1.panorama 0 ≡ Correct y.digest) × Among (named three a0) (lane_of (settled_in three in_order) y))

-- Two orders of the same deliveries, and two journals together
pub record OrdersAgree : Type 0 where
  pub apart : NamesApart (units_in three in_order)
  pub received : received_of three in_order ≡ received_of three last_first
  pub delivered : SaysTheSame three (after three in_order) (after three last_first)
  pub same_state : HasSameState equal_three (received_of three (after three in_order)) (received_of three (after three last_first))
  pub together_apart : NamesApart (units_in three (in_order ++ against))
  pub in_either : Among (named three fork) (settled_in_either equal_three (received_of three in_order) (received_of three against))
  pub in_both : Among (named three fork) (settled_in three (in_order ++ against))

-- the fork choice is the walk, and rounds enough settle all
pub record WalksAndRounds : Type 0 where
  pub acyclic : IsAcyclic (by_name (settled_in three in_order))
  pub walk : fork_of equal_three.weights (by_name (settled_in three in_order)) (panorama_in three in_order)
      ≡ ghost_walk equal_three.weights (past (by_name (settled_in three in_order)) (panorama_in three in_order)) (unit_fork equal_three.weights (by_name (settled_in three in_order))) (panorama_in three in_order)
  pub rounds : closure_after 4 (settles equal_three (received_of three in_order)) (received_of three in_order).units ≡ settled_in three in_order
  -- fewer rounds don't: the last unit of a chain settles in the last round
  pub too_few : length (closure_after 2 (settles equal_three (received_of three in_order)) (received_of three in_order).units) ≡ 2

-- the step goes on to its end, and each admission is one unit more
pub record StepsEnd : Type 0 where
  pub names_apart : NamesApart (units_in three waiting)
  pub taken : is_accepted (answer three waiting (sent a0) true) ≡ true
  pub begins : by_name [] ≡ settled_in three waiting
  pub ends : (last : List Node) × Admits equal_three (received_of three arrived) (candidates three waiting (sent a0)) [] last × (by_name last ≡ settled_in three arrived)
  pub units : (received_of three arrived).units ≡ by_name ((received_of three waiting).units ++ named three a0 ∷ [])
  pub one_more : HasOneMore (by_name (named three a0 ∷ [])) (by_name both_admitted) (named three b0)
  pub longer : length (by_name both_admitted) ≡ suc (length (by_name (named three a0 ∷ [])))
