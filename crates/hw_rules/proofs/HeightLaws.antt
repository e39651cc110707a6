-- The height of a block that is kept is that over the units below a panorama.
use Rattle.std.proofs.Common.{◌≡◌, ℕ, zero, suc, ◌+◌, ◌≤◌, ◌<◌, true, List, length, Option, Some, None, refl, sym, ap, ◌∙◌, arith}
use Rattle.std.specs.Prelude.{unwrap_or}
use Rattle.hw_types.specs.declared.unit.Obs.{Obs}
use Rattle.hw_types.specs.Graph.{Node, past}
use Rattle.hw_types.specs.Below.{Among}
use Rattle.hw_types.specs.Votes.{is_block, height_within, height_of, unit_fork}
use Rattle.hw_types.proofs.ChoiceLaws.{past_fewer, past_below, own_below}
use Rattle.hw_dag.specs.declared.numbers.UnitNo.{UnitNo}
use Rattle.hw_dag.specs.Dag.{UnitGraph, unit_at, count_of, node_at, graph}
use Rattle.hw_dag.specs.Admission.{IsGraph, height_above}
use Rattle.hw_dag.specs.Lanes.{AreWeights}
use Rattle.hw_dag.proofs.DepthLaws.{height_at, parent_earlier, parent_is_block, height_is, height_next}
use Rattle.hw_forks.proofs.DefinedLaws.{node_for, acyclic, parent_at}
use Rattle.hw_types.proofs.HeightLaws.{chosen_below}

module _ (weights : List ℕ) (dag : UnitGraph) (g : IsGraph dag) (aw : AreWeights weights dag) where
  -- the parent of a block is below it
  parent_below : (n : ℕ) (q : UnitNo) → n < count_of dag → is_block (node_at dag n) ≡ true → (unit_at dag n).parent ≡ Some q → Among (node_at dag q.0) (past (graph dag) (node_at dag n).unit.panorama)
  parent_below n q lt t e = chosen_below weights (graph dag) (node_at dag n).unit.panorama (node_at dag q.0) (parent_at weights dag g aw n lt t ∙ ap (node_for dag) e)

  -- a block has no more ancestors than units below it
  few_above : (fuel n : ℕ) → n < fuel → n < count_of dag → is_block (node_at dag n) ≡ true → height_at dag g n ≤ length (past (graph dag) (node_at dag n).unit.panorama)
  few_above zero n less lt t = absurd (omega arith)
  few_above (suc fuel) n less lt t = go (unit_at dag n).parent refl (few_above fuel)
    where
      go : (o : Option UnitNo) → (unit_at dag n).parent ≡ o → ((m : ℕ) → m < fuel → m < count_of dag → is_block (node_at dag m) ≡ true → height_at dag g m ≤ length (past (graph dag) (node_at dag m).unit.panorama))
          → height_at dag g n ≤ length (past (graph dag) (node_at dag n).unit.panorama)
      go None e later =
          let root : height_at dag g n ≡ 0 = ap (λ (o : Option ℕ). unwrap_or o 0) (height_is dag g n lt t) ∙ ap (height_above dag) e in
          omega arith
      go (Some q) e later =
          let earlier = parent_earlier dag g n q lt e in
          let next = height_next dag g n q lt e in
          let rest = later q.0 (omega arith) (omega arith) (parent_is_block dag g n q lt e) in
          let fewer = past_fewer (graph dag) (acyclic weights dag g aw) (node_at dag n).unit.panorama (node_at dag q.0) (parent_below n q lt t e) in
          omega arith

  module _ (panorama : List Obs) where
    abbrev below : List Node
    below = past (graph dag) panorama

    -- so many steps down as it is high are enough to count them
    counted : (m n : ℕ) → n < count_of dag → is_block (node_at dag n) ≡ true → Among (node_at dag n) below → height_at dag g n ≤ m → height_within m (unit_fork weights below) (node_at dag n) ≡ height_at dag g n
    unfolding height_within
    counted zero n lt t b le = omega arith
    counted (suc m) n lt t b le = go (unit_at dag n).parent refl (counted m)
      where
        own : unit_fork weights below (node_at dag n) ≡ node_for dag (unit_at dag n).parent
        own = own_below weights (graph dag) (acyclic weights dag g aw) panorama (node_at dag n) b ∙ parent_at weights dag g aw n lt t

        go : (o : Option UnitNo) → (unit_at dag n).parent ≡ o
            → ((k : ℕ) → k < count_of dag → is_block (node_at dag k) ≡ true → Among (node_at dag k) below → height_at dag g k ≤ m → height_within m (unit_fork weights below) (node_at dag k) ≡ height_at dag g k)
            → elim (unit_fork weights below (node_at dag n)) as (λ z. ℕ) [ None ↦ 0 | Some p ↦ 1 + height_within m (unit_fork weights below) p ] ≡ height_at dag g n
        go None e later = ap (λ (o : Option Node). elim o as (λ z. ℕ) [ None ↦ 0 | Some p ↦ 1 + height_within m (unit_fork weights below) p ]) (own ∙ ap (node_for dag) e)
            ∙ sym (ap (λ (o : Option ℕ). unwrap_or o 0) (height_is dag g n lt t) ∙ ap (height_above dag) e)
        go (Some q) e later =
            let earlier = parent_earlier dag g n q lt e in
            let next = height_next dag g n q lt e in
            let there = past_below (graph dag) (acyclic weights dag g aw) panorama (node_at dag n) b (node_at dag q.0) (parent_below n q lt t e) in
            let rest = later q.0 (omega arith) (parent_is_block dag g n q lt e) there (omega arith) in
            ap (λ (o : Option Node). elim o as (λ z. ℕ) [ None ↦ 0 | Some p ↦ 1 + height_within m (unit_fork weights below) p ]) (own ∙ ap (node_for dag) e) ∙ omega arith

    pub kept_height : (n : ℕ) → n < count_of dag → is_block (node_at dag n) ≡ true → Among (node_at dag n) below → height_of weights below (node_at dag n) ≡ height_at dag g n
    unfolding height_of
    kept_height n lt t b =
        let few = few_above (suc n) n (omega arith) lt t in
        let fewer = past_fewer (graph dag) (acyclic weights dag g aw) panorama (node_at dag n) b in
        counted (length below) n lt t b (omega arith)
