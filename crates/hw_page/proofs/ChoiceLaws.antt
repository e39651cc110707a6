-- The fork choice in lawful graphs.
use Rattle.std.proofs.Common.{◌≡◌, ℕ, zero, suc, ◌≤◌, List, length, Option, Some, sym, ◌∙◌, arith}
use Rattle.hw_types.specs.declared.unit.Obs.{Obs}
use Rattle.hw_types.specs.Graph.{Node, past, cites, unit_cites}
use Rattle.hw_types.specs.Below.{Among}
use Rattle.hw_types.specs.Votes.{ForkAt, fork_of, unit_fork}
use Rattle.hw_types.proofs.PastLaws.{LeadsTo-reach}
use Rattle.hw_types.proofs.ForkLaws.{ghost_walk_same}
use Rattle.hw_types.proofs.ChoiceLaws.{IsGraph, past_fewer, past_below, fork_is_walk, ghost_walk_in}
use Rattle.hw_safety.proofs.LaneLaws.{lawful_graph}
use Rattle.hw_page.specs.Choice.{LawfulIsAcyclic, ChoosesByWalk, ChoiceIsOne}

pub acyclic : LawfulIsAcyclic
acyclic weights faulty units lawful x m l = (lawful_graph weights faulty units lawful).no_cycle x m (LeadsTo-reach unit_cites (cites x.unit.panorama) units x l)

-- ---- one choice

module _ (weights : List ℕ) (units : List Node) (graph : IsGraph units) (choice : List Obs → Option Node) (is : ChoosesByWalk weights units choice) where
  abbrev chosen : ForkAt
  chosen u = choice u.unit.panorama

  chosen_in : (x y : Node) → chosen x ≡ Some y → Among y (past units x.unit.panorama)
  chosen_in x y e = ghost_walk_in weights (past units x.unit.panorama) chosen x.unit.panorama y (sym (is x.unit.panorama) ∙ e)

  by_agreement : (panorama : List Obs) → ((x : Node) → Among x (past units panorama) → chosen x ≡ unit_fork weights units x) → choice panorama ≡ fork_of weights units panorama
  by_agreement panorama agree =
      is panorama
      ∙ ghost_walk_same (past units panorama) chosen (unit_fork weights units) agree (λ x y m e. past_below units graph panorama x m y (chosen_in x y e)) weights panorama
      ∙ sym (fork_is_walk weights units graph panorama)

  same : (bound : ℕ) (panorama : List Obs) → length (past units panorama) ≤ bound → choice panorama ≡ fork_of weights units panorama
  same zero panorama le = by_agreement panorama (λ x m. absurd (let fewer = past_fewer units graph panorama x m in omega arith))
  same (suc bound) panorama le = by_agreement panorama (λ x m. let fewer = past_fewer units graph panorama x m in same bound x.unit.panorama (omega arith))

pub one_choice : ChoiceIsOne
one_choice weights faulty units lawful = record {
  is = λ panorama. fork_is_walk weights units (lawful_graph weights faulty units lawful) panorama;
  one = λ choice is panorama. same weights units (lawful_graph weights faulty units lawful) choice is (length (past units panorama)) panorama (omega arith);
}
