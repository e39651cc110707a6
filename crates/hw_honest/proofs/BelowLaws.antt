-- The units below a usable panorama, and the rules on citations.
use Rattle.std.proofs.Common.{◌≡◌, ℕ, inl, inr, Bool, true, false, not, List, Option, Some, None, refl, sym, ap, subst, ◌∙◌, eq-eqb, le-ltb}
use Rattle.std.specs.Prelude.{◌&&◌, ◌||◌, ◌==◌, nat_lt}
use Rattle.std.specs.List.{list_any, list_all}
use Rattle.hw_types.specs.declared.unit.Digest.{Digest}
use Rattle.hw_types.specs.declared.unit.Obs.{Obs}
use Rattle.hw_types.specs.declared.unit.Obs.TheVariants.{Absent, Correct, Faulty}
use Rattle.hw_types.specs.Graph.{Node, digest_eq, node_eq, is_some_and, cites, unit_cites, past, slot, slots, observed, latest, follows, lane_of, obs_at_most, is_at_most, is_consistent}
use Rattle.hw_types.specs.Below.{Among}
use Rattle.hw_types.specs.Rules.{some_cited, has_digest}
use Rattle.hw_types.specs.Journal.{Setting}
use Rattle.hw_types.specs.Step.{list_of}
use Rattle.hw_types.proofs.ClosureLaws.{Within}
use Rattle.hw_types.proofs.PastLaws.{any_of, reach_first, reach_keeps, reach_stays}
use Rattle.hw_types.proofs.SettledLaws.{digest_self}
use Rattle.hw_types.proofs.GraphLaws.{rising_one_name}
use Rattle.hw_types.proofs.WordsLaws.{none_any, each_all, among_is, found_node, find_node_is, slot_cites, latest_is}
use Rattle.hw_types.proofs.UnionLaws.{one_of_name}
use Rattle.hw_types.proofs.LaneLaws.{followed_cited}
use Rattle.hw_honest.proofs.MetLaws.{met_on_lane}
use Rattle.hw_honest.proofs.ListLaws.{list_has, list_from}
use Rattle.hw_honest.proofs.NaiveLaws.{below_in, below_closed, below_rising}
use Rattle.hw_honest.proofs.KeptLaws.{KeptGraph, known, settled, faulty, state, lawful, in_order, list_seen}
use Rattle.hw_honest.proofs.ChosenLaws.{IsUsable, own}

-- where no value passes, the test of an option fails
pub none_and : {A : Type 0} (t : A → Bool) (o : Option A) → ((x : A) → o ≡ Some x → t x ≡ false) → is_some_and t o ≡ false
none_and t None h = refl
none_and t (Some x) h = h x refl

module _ (s : Setting) (graph : KeptGraph s) (me time : ℕ) (os : List Obs) (usable : IsUsable s graph me time os) where
  abbrev units : List Node
  units = settled s graph

  -- the units below the panorama
  abbrev pub below : List Node
  below = past (settled s graph) os

  -- they are among all units
  pub inside : Within below units
  inside = below_in units (in_order s graph) os

  -- what one of them cites is one of them
  pub closed : (x y : Node) → Among y below → Among x units → cites y.unit.panorama x ≡ true → Among x below
  closed = below_closed units (in_order s graph) os

  -- what the panorama cites is one of them
  pub cited_below : (x : Node) → Among x units → cites os x ≡ true → Among x below
  cited_below x m c = reach_first unit_cites (cites os) units x m c

  same_unit : (x y : Node) → Among x units → Among y units → x.digest ≡ y.digest → x ≡ y
  same_unit = one_of_name s.config.weights (faulty s graph) units (lawful s graph)

  -- what a slot names, found below
  pub below_latest : (v : ℕ) (x : Node) → latest below os v ≡ Some x → Among x below × (slot os v ≡ Correct x.digest) × (x.unit.creator ≡ v)
  below_latest v x h = go (slot os v) refl
    where
      go : (o : Obs) → slot os v ≡ o → Among x below × (slot os v ≡ Correct x.digest) × (x.unit.creator ≡ v)
      go Absent e = absurd (let no : None ≡ Some x = sym (ap (observed below) e) ∙ h in cc)
      go Faulty e = absurd (let no : None ≡ Some x = sym (ap (observed below) e) ∙ h in cc)
      go (Correct d) e =
          let f = find_node_is below x d (sym (ap (observed below) e) ∙ h) in
          let z = usable.sound.names v d e in
          let same = same_unit z.0 x z.1 (inside x f.0) (z.2 ∙ sym f.1) in
          (f.0, e ∙ ap Correct (sym f.1), ap (λ (y : Node). y.unit.creator) (sym same) ∙ z.3)

  -- the previous unit is the own last one
  pub previous_own : (p : Node) → latest below os me ≡ Some p → own s graph me ≡ Some p
  previous_own p h =
      let l = below_latest me p h in
      latest_is units (state s graph) me p.digest p (sym usable.own ∙ l.1) (found_node units p p.digest (rising_one_name units (in_order s graph)) (inside p l.0) refl)

  -- ---- each slot is of its validator

  -- no slot names a unit of another creator
  pub own_creators : list_any (λ v. is_some_and (λ x. not (x.unit.creator == v)) (latest below os v)) (slots os) ≡ false
  own_creators = none_any _ (slots os) (λ v m. none_and (λ x. not (x.unit.creator == v)) (latest below os v) (λ x h. ap not (eq-eqb x.unit.creator v (below_latest v x h).2)))

  -- ---- consistency, among the units below

  -- what is on a lane is on it among the units below
  lane_stays : (x y : Node) → Among y below → Among x (lane_of units y) → Among x (lane_of below y)
  lane_stays x y m h = reach_stays follows (λ z. node_eq z y) below units inside
      (λ a b n k t. closed a b n k (followed_cited s.config.weights (faulty s graph) units (lawful s graph) b a t))
      (λ a k t. subst (λ z. Among z below) (sym (rising_one_name units (in_order s graph) a y y.digest k (inside y m) t (digest_self y.digest))) m)
      x h

  -- the observation names a unit below, if it names one
  abbrev IsBelow : Obs → Type 0
  IsBelow o = (d : Digest) → o ≡ Correct d → (x : Node) × Among x below × (x.digest ≡ d)

  met_stays : (o p : Obs) → IsBelow o → IsBelow p → obs_at_most units o p ≡ true → obs_at_most below o p ≡ true
  met_stays Absent p a b h = refl
  met_stays Faulty p a b h = h
  met_stays (Correct d) Absent a b h = h
  met_stays (Correct d) Faulty a b h = refl
  met_stays (Correct d) (Correct e) a b h =
      let x = a d refl in
      let y = b e refl in
      let one = rising_one_name below (below_rising units (in_order s graph) os) in
      let on = lane_stays x.0 y.0 y.1 (met_on_lane s.config.weights (faulty s graph) units (lawful s graph) x.0 y.0 (inside x.0 x.1) (inside y.0 y.1)
      (subst (λ i. obs_at_most units (Correct i) (Correct y.0.digest) ≡ true) (sym x.2) (subst (λ j. obs_at_most units (Correct d) (Correct j) ≡ true) (sym y.2) h))) in
      let fx = found_node below x.0 d one x.1 x.2 in
      let fy = found_node below y.0 e one y.1 y.2 in
      rw (fy, fx) (among_is x.0 (lane_of below y.0) on)

  slot_below : (v : ℕ) → IsBelow (slot os v)
  slot_below v d e = let x = usable.sound.names v d e in (x.0, cited_below x.0 x.1 (slot_cites os v d x.0 e x.2), x.2)

  unit_below : (w : Node) → Among w below → (v : ℕ) → IsBelow (slot w.unit.panorama v)
  unit_below w m v d e =
      let x = (lawful s graph).closed w v d (inside w m) e in
      (x.0, closed x.0 w m x.1 (slot_cites w.unit.panorama v d x.0 e x.2), x.2)

  -- the panorama is consistent among the units below it
  pub consistent : is_consistent below os ≡ true
  unfolding is_consistent is_at_most
  consistent = each_all _ below (λ w m. go w m (cites os w) refl)
    where
      go : (w : Node) → Among w below → (b : Bool) → cites os w ≡ b → (not b || list_all (λ v. obs_at_most below (slot w.unit.panorama v) (slot os v)) (slots w.unit.panorama)) ≡ true
      go w m false e = refl
      go w m true e = each_all _ (slots w.unit.panorama) (λ v n. met_stays (slot w.unit.panorama v) (slot os v) (unit_below w m v) (slot_below v) (usable.sound.over w (inside w m) e v))

  -- ---- rules that look at each cited unit

  none_cited : (u : Node) (t : Node → Bool) → u.unit.panorama ≡ os → ((w : Node) → Among w units → cites os w ≡ true → t w ≡ false) → some_cited below u t ≡ false
  none_cited u t e h = none_any _ below (λ w m. subst (λ ps. (cites ps w && t w) ≡ false) (sym e) (go w (cites os w) refl m))
    where
      go : (w : Node) (b : Bool) → cites os w ≡ b → Among w below → (b && t w) ≡ false
      go w false c m = refl
      go w true c m = h w (inside w m) c

  -- no cited unit is later
  pub none_later : (u : Node) → u.unit.panorama ≡ os → some_cited below u (λ w. nat_lt time w.unit.time) ≡ false
  none_later u e = none_cited u (λ w. nat_lt time w.unit.time) e (λ w m c. le-ltb time w.unit.time (usable.earlier w m c))

  -- the endorsed list of the panorama
  abbrev list : List Digest
  list = list_of s (known s graph) (settled s graph) os

  has_among : (d : Digest) (ds : List Digest) → Among d ds → has_digest ds d ≡ true
  has_among d ds m = any_of (digest_eq d) d ds m (digest_self d)

  -- no cited unit has a digest that the list lacks
  pub none_shrinks : (u : Node) → u.unit.panorama ≡ os → some_cited below u (λ w. not (list_all (has_digest list) w.unit.endorsed)) ≡ false
  none_shrinks u e = none_cited u (λ w. not (list_all (has_digest list) w.unit.endorsed)) e
      (λ w m c. ap not (each_all (has_digest list) w.unit.endorsed (λ d h. has_among d list (list_has s (known s graph) units os d w m c h))))

  seen : (d : Digest) → Among d list → (x : Node) × Among x below × (x.digest ≡ d)
  seen d m = elim (list_from s (known s graph) units os d m) [
    | inr x ↦ (x.0, x.1, x.2)
    | inl w ↦ (
        let x = list_seen s graph w.0 w.1 d w.3 in
        (x.0, under w.0 (cited_below w.0 w.1 w.2) x.0 x.1, x.2)
        )
  ]
    where
      under : (w : Node) → Among w below → Within (past units w.unit.panorama) below
      under w m = reach_keeps unit_cites (cites w.unit.panorama) units (λ x. Among x below) (λ x n c. closed x w m n c) (λ x y h n c. closed x y h n c)

  -- each digest of the list is a unit below
  pub all_seen : list_all (λ d. list_any (λ x. digest_eq x.digest d) below) list ≡ true
  all_seen = each_all (λ d. list_any (λ x. digest_eq x.digest d) below) list
      (λ d m. let x = seen d m in any_of (λ y. digest_eq y.digest d) x.0 below x.1 (subst (λ c. digest_eq x.0.digest c ≡ true) x.2 (digest_self x.0.digest)))
