-- A search by number is a search along the fork choice.
use Rattle.std.proofs.Common.{◌≡◌, ℕ, zero, suc, ◌+◌, ◌<◌, inl, inr, true, List, [], ◌∷◌, length, Option, Some, None, refl, sym, ap, subst, ◌∙◌, arith}
use Rattle.std.specs.Prelude.{unwrap_or}
use Rattle.std.proofs.lemmas.Bool.{cases_lt}
use Rattle.hw_types.specs.declared.unit.Digest.{Digest}
use Rattle.hw_types.specs.declared.config.Config.{Config}
use Rattle.hw_types.specs.Votes.{is_block, height_of, unit_fork}
use Rattle.hw_safety.proofs.ChainLaws.{IsUp, up, up_self}
use Rattle.hw_safety.specs.Chain.{IsOnFork}
use Rattle.hw_safety.specs.Records.{IsRecordAt, AreRecordsFrom, NoneStandsAt}
use Rattle.hw_safety.proofs.ChainHeightLaws.{up_kept}
use Rattle.hw_safety.proofs.SearchLaws.{may_end, search_finds}
use Rattle.hw_dag.specs.declared.numbers.UnitNo.{UnitNo}
use Rattle.hw_dag.specs.declared.numbers.View.{View}
use Rattle.hw_dag.specs.Dag.{SettledUnit, UnitGraph, unit_at, count_of, node_at, graph, observations}
use Rattle.hw_dag.specs.Admission.{IsGraph, height_above}
use Rattle.hw_dag.specs.Lanes.{IsAncestor, itself, further, IsAncestorAt, AreWeights}
use Rattle.hw_dag.proofs.NodeLaws.{node_among}
use Rattle.hw_dag.proofs.GrowthLaws.{unit_stays}
use Rattle.hw_dag.proofs.DepthLaws.{parent_earlier, parent_is_block, height_is}
use Rattle.hw_forks.proofs.DefinedLaws.{node_for, acyclic, parent_at}
use Rattle.hw_horizon.specs.declared.found.Found.{Found}
use Rattle.hw_horizon.specs.Detected.{decision_of, decisions_of, IsSearched, IsFoundAt, AreFoundFrom, IsOver}
use Rattle.hw_horizon.specs.DetectorLaws.{AncestorIsOnFork, HeightIsKept, GraphIsSearched, FoundIsRecord, SearchByNumberFinds, FoundStays}
use Rattle.hw_types.proofs.HeightLaws.{parent_height, root_height, chosen_block}

module _ (weights : List ℕ) (dag : UnitGraph) (g : IsGraph dag) (aw : AreWeights weights dag) where
  abbrev tall : ℕ → ℕ
  tall n = height_of weights (graph dag) (node_at dag n)

  -- a chain of parents by number is one of the definitions
  ancestor_up : (low high : ℕ) → high < count_of dag → is_block (node_at dag high) ≡ true → IsAncestor dag low high → IsUp (unit_fork weights (graph dag)) (node_at dag low) (node_at dag high)
  ancestor_up low _ lt t itself = up_self (unit_fork weights (graph dag)) (node_at dag low)
  ancestor_up low _ lt t (further high p e h) =
      let earlier = parent_earlier dag g high p lt e in
      up (node_at dag p.0) (node_at dag high) (parent_at weights dag g aw high lt t ∙ ap (node_for dag) e) (ancestor_up low p.0 (omega arith) (parent_is_block dag g high p lt e) h)

  -- heights
  tall_within : (fuel n : ℕ) → n < fuel → n < count_of dag → is_block (node_at dag n) ≡ true → (unit_at dag n).height ≡ Some (tall n)
  tall_within zero n less lt t = absurd (omega arith)
  tall_within (suc fuel) n less lt t = go (unit_at dag n).parent refl (λ m l k b. tall_within fuel m l k b)
    where
      go : (o : Option UnitNo) → (unit_at dag n).parent ≡ o → ((m : ℕ) → m < fuel → m < count_of dag → is_block (node_at dag m) ≡ true → (unit_at dag m).height ≡ Some (tall m)) → (unit_at dag n).height ≡ Some (tall n)
      go None e later =
          height_is dag g n lt t ∙ ap (λ o. Some (height_above dag o)) e
          ∙ ap Some (sym (root_height weights (graph dag) (acyclic weights dag g aw) (node_at dag n) (parent_at weights dag g aw n lt t ∙ ap (node_for dag) e)))
      go (Some p) e later =
          let earlier = parent_earlier dag g n p lt e in
          let rest = later p.0 (omega arith) (omega arith) (parent_is_block dag g n p lt e) in
          let step = parent_height weights (graph dag) (acyclic weights dag g aw) (node_at dag n) (node_at dag p.0) (parent_at weights dag g aw n lt t ∙ ap (node_for dag) e) in
          let next : height_above dag (Some p) ≡ tall p.0 + 1 = ap (λ (o : Option ℕ). unwrap_or o 0 + 1) rest in
          height_is dag g n lt t ∙ ap (λ o. Some (height_above dag o)) e ∙ ap Some next ∙ ap Some (let same : tall p.0 + 1 ≡ tall n = omega arith in same)

  pub tall_is : (n height : ℕ) → n < count_of dag → is_block (node_at dag n) ≡ true → (unit_at dag n).height ≡ Some height → tall n ≡ height
  tall_is n height lt t e = let same : Some (tall n) ≡ Some height = sym (tall_within (suc n) n (omega arith) lt t) ∙ e in cc

module _ (config : Config) (dag : UnitGraph) (panorama : List View) (fork : UnitNo) (s : IsSearched config dag panorama (Some fork)) where
  inside : fork.0 < count_of dag
  inside = s.known

  pub fork_block : is_block (node_at dag fork.0) ≡ true
  fork_block = chosen_block config.weights (graph dag) (observations dag panorama) (node_at dag fork.0) (sym s.fork_is)

  pub on_fork : (height low : ℕ) → IsAncestorAt dag fork.0 height low → IsOnFork config.weights (graph dag) (observations dag panorama) height (node_at dag low)
  on_fork height low a = record {
    inside = node_among dag s.graph_is low a.known;
    kept = up_kept config.weights (graph dag) (acyclic config.weights dag s.graph_is s.weights_are) (observations dag panorama) (node_at dag low) (node_at dag fork.0) (sym s.fork_is)
        (ancestor_up config.weights dag s.graph_is s.weights_are low fork.0 inside fork_block a.ancestor);
    height_is = tall_is config.weights dag s.graph_is s.weights_are low height a.known a.block a.height_is;
  }

  pub found_record : (at height : ℕ) (f : Found) → IsFoundAt config dag panorama fork at height f → IsRecordAt config (graph dag) (observations dag panorama) at height (decision_of dag f)
  found_record at height f h =
      let on = on_fork height f.block.0 h.ancestor in record {
        block = node_at dag f.block.0;
        on_fork = on;
        record_is = record {
          named = refl;
          height_is = h.height_is ∙ sym on.height_is;
          stands = record { low = h.stands.low; high = h.stands.high; is_quorum = h.stands.is_quorum; summit = h.stands.summit };
          least_level = λ level quorum t. elim (cases_lt level f.level) [ inl lt ↦ absurd (h.stands.least level quorum t.low lt t.is_quorum t.summit) | inr le ↦ le ];
          moment = h.moment;
        };
      }

  records_from : (at height : ℕ) (fs : List Found) → AreFoundFrom config dag panorama fork at height fs → AreRecordsFrom config (graph dag) (observations dag panorama) at height (decisions_of dag fs)
  records_from at height [] h = tt
  records_from at height (f ∷ fs) h = (found_record at height f h.0, records_from at (height + 1) fs h.1)

  over : (height : ℕ) → IsOver config dag panorama (Some fork) height → NoneStandsAt config (graph dag) (observations dag panorama) height
  over height (inl low) =
      (may_end config (graph dag) (observations dag panorama) (acyclic config.weights dag s.graph_is s.weights_are)).above (node_at dag fork.0) height (sym s.fork_is)
      (let is = tall_is config.weights dag s.graph_is s.weights_are fork.0 low.0 inside fork_block low.1 in let lt = low.2 in omega arith)
  over height (inr n) =
      (may_end config (graph dag) (observations dag panorama) (acyclic config.weights dag s.graph_is s.weights_are)).at_block height (node_at dag n.block) (on_fork height n.block n.ancestor)
      (λ level quorum t. n.none level quorum t.low t.high t.is_quorum t.summit)

pub same_length : (dag : UnitGraph) (fs : List Found) → length (decisions_of dag fs) ≡ length fs
same_length dag [] = refl
same_length dag (f ∷ fs) = ap suc (same_length dag fs)

pub no_found : (fs : List Found) → length fs ≡ 0 → fs ≡ []
no_found [] e = refl
no_found (f ∷ fs) e = absurd (omega arith)

pub ancestor : AncestorIsOnFork
ancestor config dag panorama fork height low s a = on_fork config dag panorama fork s height low a

pub kept_height : HeightIsKept
kept_height weights dag n height g aw lt t e = tall_is weights dag g aw n height lt t e

pub searched : GraphIsSearched
searched weights dag g aw = let a = acyclic weights dag g aw in (a.in_order, a.no_cycle)

pub is_record : FoundIsRecord
is_record config dag panorama fork at height f s h = found_record config dag panorama fork s at height f h

pub finds : SearchByNumberFinds
finds config dag panorama None known at fs s on_way found over_is =
    let empty = no_found fs found in
    search_finds config (graph dag) (observations dag panorama) (acyclic config.weights dag s.graph_is s.weights_are) known at (decisions_of dag fs) on_way
    (subst (λ gs. AreRecordsFrom config (graph dag) (observations dag panorama) at (length known) (decisions_of dag gs)) (sym empty) tt)
    ((may_end config (graph dag) (observations dag panorama) (acyclic config.weights dag s.graph_is s.weights_are)).no_fork (length known + length (decisions_of dag fs)) (sym s.fork_is))
finds config dag panorama (Some fork) known at fs s on_way found over_is =
    search_finds config (graph dag) (observations dag panorama) (acyclic config.weights dag s.graph_is s.weights_are) known at (decisions_of dag fs) on_way
    (records_from config dag panorama fork s at (length known) fs found)
    (subst (λ n. NoneStandsAt config (graph dag) (observations dag panorama) (length known + n)) (sym (same_length dag fs)) (over config dag panorama fork s (length known + length fs) over_is))

pub stays : FoundStays
stays dag later [] grows there = refl
stays dag later (f ∷ fs) grows there =
    let head : decision_of later f ≡ decision_of dag f = ap (λ (d : Digest). record { block = d; height = f.height; level = f.level; quorum = f.quorum; at = f.at }) (same_digest f (there f (inl refl))) in
    let tail = stays dag later fs grows (λ g m. there g (inr m)) in
    λ i. head i ∷ tail i
  where
    same_digest : (g : Found) → g.block.0 < count_of dag → (unit_at later g.block.0).digest ≡ (unit_at dag g.block.0).digest
    same_digest g lt = ap (λ (u : SettledUnit). u.digest) (unit_stays dag later grows g.block.0 lt)
