-- A kept fork choice stays one as the graph grows.
use Rattle.std.proofs.Common.{◌≡◌, ℕ, ◌<◌, List, Option, Some, None, refl, sym, ap, subst, ◌∙◌}
use Rattle.std.specs.Option.{option_map}
use Rattle.hw_types.specs.declared.unit.Obs.{Obs}
use Rattle.hw_types.specs.Votes.{fork_of}
use Rattle.hw_dag.specs.declared.numbers.UnitNo.{UnitNo}
use Rattle.hw_dag.specs.declared.numbers.View.{View}
use Rattle.hw_dag.specs.Dag.{UnitGraph, count_of, node_at, graph, observations, GrowsTo}
use Rattle.hw_dag.specs.Admission.{IsGraph, IsFork}
use Rattle.hw_dag.proofs.AdmitLaws.{panorama_stays, is_fork_stays}
use Rattle.hw_dag.proofs.GrowthLaws.{node_stays, observations_stay, fork_stays}
use Rattle.hw_dag.proofs.NodeLaws.{AreApart}
use Rattle.hw_admit.specs.declared.kept.CachedForkChoice.{CachedForkChoice}
use Rattle.hw_admit.specs.Kept.{IsChoice, IsKept}

module _ (weights : List ℕ) (dag later : UnitGraph) (grows : GrowsTo dag later) (g : IsGraph dag) (apart : AreApart later) where
  block_stays : (fork : Option UnitNo) → ((number : UnitNo) → fork ≡ Some number → number.0 < count_of dag)
      → option_map (λ (number : UnitNo). node_at later number.0) fork ≡ option_map (λ (number : UnitNo). node_at dag number.0) fork
  block_stays None known = refl
  block_stays (Some number) known = ap Some (node_stays dag later grows number.0 (known number refl))

  choice_stays : (panorama : List View) (fork : Option UnitNo) → IsChoice weights dag panorama fork → IsChoice weights later panorama fork
  choice_stays panorama fork is =
      let same : observations later panorama ≡ observations dag panorama = observations_stay dag later grows panorama is.panorama_is.known in
      record {
        panorama_is = panorama_stays dag later grows g apart panorama is.panorama_is;
        fork_is =
            block_stays fork is.block.known ∙ is.fork_is
            ∙ sym (fork_stays dag later grows g apart weights panorama is.panorama_is.known)
            ∙ ap (fork_of weights (graph later)) (sym same);
        block = subst (λ (os : List Obs). IsFork later os fork) (sym same) (is_fork_stays dag later grows g apart (observations dag panorama) fork is.block);
      }

  pub kept_stays : (kept : CachedForkChoice) → IsKept weights dag kept → IsKept weights later kept
  kept_stays kept is = record {
    length_is = is.length_is ∙ sym grows.validators_are;
    choice = λ t. choice_stays kept.panorama kept.fork (is.choice t);
  }
