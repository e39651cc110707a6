-- More room changes nothing that a definition sees.
use Rattle.std.proofs.Common.{◌≡◌, ℕ, ◌<◌, List, [], length, sym, ap, subst, ◌∙◌, arith}
use Rattle.std.proofs.lemmas.List.{append-nil}
use Rattle.hw_types.specs.Graph.{Node}
use Rattle.hw_types.specs.Below.{Among}
use Rattle.hw_dag.specs.Dag.{SettledUnit, UnitGraph, count_of, graph, by_name_of, GrowsTo}
use Rattle.hw_dag.specs.Admission.{IsGraph}
use Rattle.hw_dag.specs.Lanes.{AreWeights, VotesAre}
use Rattle.hw_dag.proofs.AdmitLaws.{panorama_stays}
use Rattle.hw_dag.proofs.GrowthLaws.{observations_stay}
use Rattle.hw_naivety.specs.Naivety.{NaiveTips, IsNoted}
use Rattle.hw_naivety.proofs.GrowLaws.{noted_stays}
use Rattle.hw_rules.specs.Judged.{AllEndorseSeen}
use Rattle.hw_rules.proofs.SeenLaws.{list_stays}
use Rattle.hw_admit.specs.declared.kept.CachedForkChoice.{CachedForkChoice}
use Rattle.hw_admit.specs.Kept.{IsKept}
use Rattle.hw_admit.proofs.KeptLaws.{kept_stays}
use Rattle.hw_admit.specs.State.{NodeState, IsState, MarksAreMet, observed_in}

-- a graph with more room, as one
respaced : (dag later : UnitGraph) → later.units ≡ dag.units → later.validators ≡ dag.validators → later ≡ record dag { spare = later.spare }
respaced dag later units validators = λ i. record { validators = validators i; spare = later.spare; units = units i }

module _ (dag later : UnitGraph) (g : IsGraph dag) (h : IsGraph later) (units : later.units ≡ dag.units) (validators : later.validators ≡ dag.validators) where
  grows_none : GrowsTo dag later
  grows_none = record { validators_are = validators; more = []; units_are = units ∙ sym (append-nil dag.units) }

  graph_same : graph later ≡ graph dag
  graph_same = ap (λ (us : List SettledUnit). by_name_of us) units

  pub noted_respaced : (tips : NaiveTips) → IsNoted tips dag → IsNoted tips later
  noted_respaced tips noted = noted_stays dag later g h grows_none tips noted

  pub kept_respaced : (weights : List ℕ) (kept : CachedForkChoice) → IsKept weights dag kept → IsKept weights later kept
  kept_respaced weights kept is = kept_stays weights dag later grows_none g h.distinct kept is

  weights_respaced : (weights : List ℕ) → AreWeights weights dag → AreWeights weights later
  weights_respaced weights are = record {
    length_is = are.length_is ∙ sym validators;
    positive = are.positive;
    bounded = are.bounded;
    votes = subst (VotesAre weights) (sym (respaced dag later units validators)) are.votes;
  }

  seen_respaced : AllEndorseSeen dag → AllEndorseSeen later
  seen_respaced seen n lt =
      let many = ap (λ (us : List SettledUnit). length us) units in
      let less : n < count_of dag = omega arith in
      list_stays dag later grows_none g h.distinct n less (seen n less)

  pub is_state_respaced : (s : NodeState) → IsState s → s.dag ≡ dag → (spare : ℕ) → IsState (record s { spare = spare; dag = later })
  is_state_respaced s is e spare =
      let here : IsState (record s { dag = dag }) = subst (λ (d : UnitGraph). IsState (record s { dag = d })) e is in
      record {
        lawful = here.lawful;
        weights_are = weights_respaced s.config.weights here.weights_are;
        marked_length = here.marked_length;
        met = subst (λ (us : List Node). (u : Node) → Among u us → MarksAreMet s.marked us u.unit.panorama) (sym graph_same) here.met;
        seen = seen_respaced here.seen;
        panorama_is = panorama_stays dag later grows_none g h.distinct s.panorama here.panorama_is;
        observed = observations_stay dag later grows_none s.panorama here.panorama_is.known ∙ here.observed ∙ ap (observed_in s.config s.marked) (sym graph_same);
      }
