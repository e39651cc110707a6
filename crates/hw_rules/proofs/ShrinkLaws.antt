-- A panorama is consistent over the units below it exactly where it is so over all units.
use Rattle.std.proofs.Common.{◌≡◌, ℕ, Bool, true, false, not, List, Some, refl, sym, subst}
use Rattle.std.specs.Prelude.{◌||◌}
use Rattle.hw_types.specs.declared.unit.Digest.{Digest}
use Rattle.hw_types.specs.declared.unit.Obs.{Obs}
use Rattle.hw_types.specs.declared.unit.Obs.TheVariants.{Absent, Correct, Faulty}
use Rattle.hw_types.specs.Graph.{Node, node_eq, slot, slots, cites, follows, lane_of, is_on_lane, find_node, obs_at_most, is_at_most, is_consistent}
use Rattle.hw_types.specs.Below.{Among}
use Rattle.hw_types.proofs.ClosureLaws.{Within}
use Rattle.hw_types.proofs.PastLaws.{any_within, reach_stays}
use Rattle.hw_types.proofs.StableLaws.{OneName, both_ways}
use Rattle.hw_types.proofs.SettledLaws.{digest_self, named_by}
use Rattle.hw_types.proofs.LawfulLaws.{consistent_grows}
use Rattle.hw_types.proofs.WordsLaws.{all_of, each_all, passes_some, found_node, find_node_is, slot_cites}

module _ (units more : List Node) (part : Within units more) (one_name : OneName more)
    (closed : (x y : Node) → Among y units → Among x more → cites y.unit.panorama x ≡ true → Among x units) where
  units_one_name : OneName units
  units_one_name x y d m n s t = one_name x y d (part x m) (part y n) s t

  lane_shrinks : (x y : Node) → Among y units → is_on_lane more x y ≡ true → is_on_lane units x y ≡ true
  lane_shrinks x y m t = any_within (λ z. node_eq z x) (lane_of more y) (lane_of units y)
      (reach_stays follows (λ z. node_eq z y) units more part
      (λ z w mw mz f. closed z w mw mz (slot_cites w.unit.panorama w.unit.creator z.digest z (named_by (slot w.unit.panorama w.unit.creator) z.digest f) refl))
      (λ z mz e. subst (λ (v : Node). Among v units) (sym (one_name z y y.digest mz (part y m) e (digest_self y.digest))) m)) t

  -- where the units that the two observe are there
  met_shrinks : (o q : Obs) → ((d : Digest) (x : Node) → o ≡ Correct d → find_node more d ≡ Some x → Among x units) → ((d : Digest) (x : Node) → q ≡ Correct d → find_node more d ≡ Some x → Among x units)
      → obs_at_most more o q ≡ true → obs_at_most units o q ≡ true
  met_shrinks Absent q low high h = refl
  met_shrinks Faulty q low high h = h
  met_shrinks (Correct d) Faulty low high h = refl
  met_shrinks (Correct d) Absent low high h = h
  met_shrinks (Correct d) (Correct e) low high h =
      let y = passes_some _ (find_node more e) h in
      let x = passes_some _ (find_node more d) y.2 in
      let my = high e y.0 refl y.1 in
      let mx = low d x.0 refl x.1 in
      let fy : find_node units e ≡ Some y.0 = found_node units y.0 e units_one_name my (find_node_is more y.0 e y.1).1 in
      let fx : find_node units d ≡ Some x.0 = found_node units x.0 d units_one_name mx (find_node_is more x.0 d x.1).1 in
      rw (fy, fx) (lane_shrinks x.0 y.0 my x.2)

  module _ (panorama : List Obs) (own : (x : Node) → Among x more → cites panorama x ≡ true → Among x units) where
    -- a unit that a slot names is there
    slot_there : (os : List Obs) (v : ℕ) → ((x : Node) → Among x more → cites os x ≡ true → Among x units) → (d : Digest) (x : Node) → slot os v ≡ Correct d → find_node more d ≡ Some x → Among x units
    slot_there os v there d x s f = let m = find_node_is more x d f in there x m.0 (slot_cites os v d x s m.1)

    consistent_shrinks : is_consistent more panorama ≡ true → is_consistent units panorama ≡ true
    unfolding is_consistent is_at_most
    consistent_shrinks h = each_all _ units (λ w m. go w m (cites panorama w) refl (all_of _ more h w (part w m)))
      where
        go : (w : Node) → Among w units → (b : Bool) → cites panorama w ≡ b → (not (cites panorama w) || is_at_most more w.unit.panorama panorama) ≡ true → (not (cites panorama w) || is_at_most units w.unit.panorama panorama) ≡ true
        go w m false e t = rw e refl
        go w m true e t =
            let met : is_at_most more w.unit.panorama panorama ≡ true = subst (λ b. (not b || is_at_most more w.unit.panorama panorama) ≡ true) e t in
            rw e (each_all _ (slots w.unit.panorama) (λ v n. met_shrinks (slot w.unit.panorama v) (slot panorama v)
            (λ d x s f. slot_there w.unit.panorama v (λ y my c. closed y w m my c) d x s f)
            (λ d x s f. slot_there panorama v own d x s f)
            (all_of _ (slots w.unit.panorama) met v n)))

    pub consistent_same : is_consistent units panorama ≡ is_consistent more panorama
    consistent_same = both_ways (is_consistent units panorama) (is_consistent more panorama) (consistent_grows units more part one_name panorama own) consistent_shrinks
