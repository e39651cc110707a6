-- What a layer above keeps up as the graph grows, and what it has from the rules.
use Rattle.std.proofs.Common.{◌≡◌, ℕ, ◌<◌, inl, inr, List, Option, Some, None, refl, sym, ap, subst, ◌∙◌, arith}
use Rattle.std.specs.Option.{option_map}
use Rattle.hw_types.specs.declared.unit.Obs.{Obs}
use Rattle.hw_types.specs.Votes.{fork_of, unit_fork}
use Rattle.hw_dag.specs.declared.numbers.UnitNo.{UnitNo}
use Rattle.hw_dag.specs.Dag.{SettledUnit, UnitGraph, unit_at, count_of, node_at, graph}
use Rattle.hw_dag.specs.Admission.{PreparedUnit, IsGraph, IsReady, settled_from, with_unit, fork_given}
use Rattle.hw_dag.specs.Lanes.{VotesAre}
use Rattle.hw_dag.specs.Laws.{VotesStay}
use Rattle.hw_dag.proofs.AdmitLaws.{later_apart, grows, last_at, last_fork, count_later}
use Rattle.hw_dag.proofs.GrowthLaws.{unit_stays, node_stays, fork_stays, fork_at_stays}
use Rattle.std.proofs.lemmas.Bool.{cases_lt}

-- ---- votes

module _ (dag : UnitGraph) (g : IsGraph dag) (p : PreparedUnit) (fork : Option UnitNo) (ready : IsReady dag p fork) (weights : List ℕ) where
  abbrev later : UnitGraph
  later = with_unit dag (settled_from dag p fork)

  chosen_stays : (o : Option UnitNo) → ((number : UnitNo) → o ≡ Some number → number.0 < count_of dag)
      → option_map (λ (number : UnitNo). node_at later number.0) o ≡ option_map (λ (number : UnitNo). node_at dag number.0) o
  chosen_stays None known = refl
  chosen_stays (Some number) known = ap Some (node_stays dag later (grows dag g p fork ready) number.0 (known number refl))

  -- Where the votes are those of the definitions and the unit is given the fork choice of its panorama, they still are.
  pub votes_more : VotesAre weights dag → option_map (λ (number : UnitNo). node_at dag number.0) fork ≡ fork_of weights (graph dag) p.signed.unit.panorama → VotesAre weights later
  votes_more votes choice n lt = elim (cases_lt n (count_of dag)) [
    | inl less ↦
        ap (λ (u : SettledUnit). option_map (λ (number : UnitNo). node_at later number.0) (fork_given u)) (unit_stays dag later (grows dag g p fork ready) n less)
        ∙ chosen_stays (fork_given (unit_at dag n)) (λ number e. let k = (g.settled n less).fork.known number e in k)
        ∙ votes n less ∙ sym (fork_at_stays dag later (grows dag g p fork ready) g (later_apart dag g p fork ready) weights n less)
    | inr above ↦
        let longer = count_later dag g p fork ready in
        let same : count_of dag ≡ n = omega arith in
        subst (λ (k : ℕ). option_map (λ (number : UnitNo). node_at later number.0) (fork_given (unit_at later k)) ≡ unit_fork weights (graph later) (node_at later k)) same last_vote
  ]
    where
      last_vote : option_map (λ (number : UnitNo). node_at later number.0) (fork_given (unit_at later (count_of dag))) ≡ unit_fork weights (graph later) (node_at later (count_of dag))
      last_vote =
          ap (λ (u : SettledUnit). option_map (λ (number : UnitNo). node_at later number.0) (fork_given u)) (last_at dag g p fork ready)
          ∙ ap (λ (o : Option UnitNo). option_map (λ (number : UnitNo). node_at later number.0) o) (last_fork dag g p fork ready)
          ∙ chosen_stays fork ready.fork_is.known ∙ choice
          ∙ sym (subst (λ (os : List Obs). fork_of weights (graph later) os ≡ fork_of weights (graph dag) os) ready.resolved.observes
          (fork_stays dag later (grows dag g p fork ready) g (later_apart dag g p fork ready) weights p.panorama ready.resolved.known))
          ∙ sym (ap (λ (u : SettledUnit). fork_of weights (graph later) u.signed.unit.panorama) (last_at dag g p fork ready))

pub votes_stay : VotesStay
votes_stay dag g p fork ready weights votes choice = votes_more dag g p fork ready weights votes choice
