-- Accountable safety on one page.
use Rattle.std.proofs.Common.{◌≡◌, ℕ, zero, suc, ◌+◌, ◌-◌, ◌≤◌, ◌<◌, ◌⊎◌, inl, inr, Bool, true, false, cond, not, List, [], ◌∷◌, length, Option, Some, None, refl, sym, ap, subst, ◌∙◌, arith, eqb-true, eq-eqb}
use Rattle.std.specs.Prelude.{◌&&◌, ◌||◌, ◌==◌, ◌↔◌, nat_le, nat_lt, map, fold}
use Rattle.std.specs.List.{list_any}
use Rattle.std.proofs.lemmas.Bool.{leb-true, le-leb, ltb-true, ltb-false, cases_lt}
use Rattle.std.proofs.lemmas.List.{ext_get_or}
use Rattle.std.proofs.lemmas.List.FromFn.{length-map-range_with_len}
use Rattle.hw_types.specs.declared.unit.Digest.{Digest}
use Rattle.hw_types.specs.declared.unit.Obs.{Obs}
use Rattle.hw_types.specs.declared.unit.Obs.TheVariants.{Absent, Correct, Faulty}
use Rattle.hw_types.specs.declared.config.Config.{Config}
use Rattle.hw_types.specs.declared.config.Leaders.TheVariants.{Drawn}
use Rattle.hw_types.specs.Graph.{Node, node_eq, digest_lt, is_some_and, is_faulty_mark, observes, observed, latest, slot, slots, cites, unit_cites, past, follows, lane_of, obs_at_most, is_at_most, is_consistent, are_different, find_node}
use Rattle.hw_types.specs.Below.{Among}
use Rattle.hw_types.specs.ByName.{by_name}
use Rattle.hw_types.specs.Votes.{ForkAt, weight_of, is_block, vote_of, is_ancestor_within, votes_for, score_of, is_at, children_of, better, best_child, walk, ghost_walk, fork_of, unit_fork}
use Rattle.hw_types.specs.Settled.{equivocates, tip_of, correct_or_absent, panorama_over}
use Rattle.hw_types.specs.Summit.{Committees, sees_from, HasSummit}
use Rattle.hw_types.specs.Lawful.{IsLawful, keeps}
use Rattle.hw_types.specs.laws.StateLaws.{IsTip}
use Rattle.hw_types.proofs.ClosureLaws.{Among-filter, filter-Among}
use Rattle.hw_types.proofs.PastLaws.{some_of, any_of, or_cases, or_left, or_right, reach_first, reach_further, reach_keeps, reach_within}
use Rattle.hw_types.proofs.StableLaws.{OneName, and_parts, and_whole}
use Rattle.hw_types.proofs.SettledLaws.{digest_same, digest_self, named_by}
use Rattle.hw_types.proofs.WordsLaws.{not_true, never_both, and_none, each_all, passes_some, among_is, named_eq, found_node, find_node_is, among_slot, slot_cites}
use Rattle.hw_types.proofs.GraphLaws.{rising_by_name, rising_one_name}
use Rattle.hw_types.proofs.EntryLaws.{by_name_in, in_by_name}
use Rattle.hw_types.proofs.LawfulLaws.{faulty_is}
use Rattle.hw_types.proofs.ForkLaws.{ghost_walk_same}
use Rattle.hw_types.proofs.ChoiceLaws.{IsGraph, past_in_order, past_fewer, past_below, fold_in, fork_is_walk}
use Rattle.hw_types.proofs.HeightLaws.{past_short, chosen_below as fork_below}
use Rattle.hw_types.proofs.TipLaws.{one_tip, other_slots}
use Rattle.hw_safety.proofs.LaneLaws.{latest_is}
use Rattle.hw_safety.proofs.WeightLaws.{weight_within}
use Rattle.hw_safety.proofs.SafetyLaws.{graph_safety}
use Rattle.hw_forks.proofs.BestLaws.{digest_lt_trans, digest_cases, Falls, best_is, none_is, walk_goes, walk_stops, walk_whole}
use Rattle.hw_page.specs.Page.{Cites, Below, cited, further, OnLane, last, back, Covers, IsLawfulGraph, IsSlot, IsPanorama, Choice, IsAncestor, itself, above, VotesFor, IsLatest, Weigh, Scores, IsChild, IsBest, WalksTo, stops, goes, IsChoice, SeesFrom, Summit, AreToBlame, PageSafety, PageOneChain, ChoiceIsTheForkChoice, ChoiceIsThere}

-- ---- weights

-- the same validators weigh the same
one_weight : (weights : List ℕ) (P : ℕ → Type 0) (n : ℕ) (test : ℕ → Bool) → Weigh weights P n → ((v : ℕ) → (test v ≡ true) ↔ P v) → n ≡ weight_of weights test
one_weight weights P n test h is =
    let up = weight_within weights h.0 test (λ v lt t. (is v).1 ((h.1 v).0 t)) in
    let down = weight_within weights test h.0 (λ v lt t. (h.1 v).1 ((is v).0 t)) in
    let e = h.2 in
    omega arith

-- ---- the best of some

-- none has a score, or this is it, and all others come before it
abbrev Tops : Option (ℕ × Node) → ℕ × Node → Type 0
Tops None y = y.0 ≡ 0
Tops (Some x) y = (0 < x.0) × ((y ≡ x) ⊎ Falls y x)

abbrev InSome : (ℕ × Node → Type 0) → Option (ℕ × Node) → Type 0
InSome In None = Unit {0}
InSome In (Some x) = (0 < x.0) × In x

falls_trans : (x y z : ℕ × Node) → Falls x y → Falls y z → Falls x z
falls_trans x y z (inl a) (inl b) = inl (omega arith)
falls_trans x y z (inl a) (inr b) = inl (subst (λ n. x.0 < n) b.0 a)
falls_trans x y z (inr a) (inl b) = inl (subst (λ n. n < z.0) (sym a.0) b)
falls_trans x y z (inr a) (inr b) = inr (a.0 ∙ b.0, digest_lt_trans x.1.digest y.1.digest z.1.digest a.1 b.1)

behind : (x y z : ℕ × Node) → Falls x y → ((z ≡ x) ⊎ Falls z x) → Falls z y
behind x y z f (inl same) = subst (λ (w : ℕ × Node). Falls w y) (sym same) f
behind x y z f (inr g) = falls_trans z x y g f

module _ (In : ℕ × Node → Type 0) (apart : (x y : ℕ × Node) → In x → In y → x.1.digest ≡ y.1.digest → x ≡ y) where
  next : (o : Option (ℕ × Node)) (y : ℕ × Node) → InSome In o → In y → Tops (better o y) y × InSome In (better o y) × ((z : ℕ × Node) → Tops o z → Tops (better o y) z)
  next None y i j = go (nat_lt 0 y.0) refl
    where
      go : (b : Bool) → nat_lt 0 y.0 ≡ b → Tops (cond b (Some y) None) y × InSome In (cond b (Some y) None) × ((z : ℕ × Node) → z.0 ≡ 0 → Tops (cond b (Some y) None) z)
      go true e = let lt = ltb-true 0 y.0 e in ((lt, inl refl), (lt, j), λ z h. (lt, inr (inl (subst (λ n. n < y.0) (sym h) lt))))
      go false e = ((let le = ltb-false 0 y.0 e in omega arith), tt, λ z h. h)
  next (Some x) y i j = go (nat_lt x.0 y.0) refl ((x.0 == y.0) && digest_lt x.1.digest y.1.digest) refl
    where
      up : Falls x y → 0 < y.0 → Tops (Some y) y × InSome In (Some y) × ((z : ℕ × Node) → Tops (Some x) z → Tops (Some y) z)
      up f lt = ((lt, inl refl), (lt, j), λ z h. (lt, inr (behind x y z f h.1)))

      stay : y.0 ≤ x.0 → ((x.0 == y.0) && digest_lt x.1.digest y.1.digest) ≡ false → (y ≡ x) ⊎ Falls y x
      stay le f = elim (cases_lt y.0 x.0) [
        | inl lt ↦ inr (inl lt)
        | inr ge ↦ (let same : x.0 ≡ y.0 = omega arith in
            elim (digest_cases x.1.digest y.1.digest (and_none (x.0 == y.0) (digest_lt x.1.digest y.1.digest) f (eq-eqb x.0 y.0 same))) [
              | inl one ↦ inl (apart y x j i.1 one)
              | inr lt ↦ inr (inr (sym same, lt))
            ])
      ]

      go : (a : Bool) → nat_lt x.0 y.0 ≡ a → (b : Bool) → ((x.0 == y.0) && digest_lt x.1.digest y.1.digest) ≡ b
          → Tops (cond (a || b) (Some y) (Some x)) y × InSome In (cond (a || b) (Some y) (Some x)) × ((z : ℕ × Node) → Tops (Some x) z → Tops (cond (a || b) (Some y) (Some x)) z)
      go true e b f = let lt = ltb-true x.0 y.0 e in up (inl lt) (omega arith)
      go false e true f =
          let p = and_parts (x.0 == y.0) (digest_lt x.1.digest y.1.digest) f in
          let same = eqb-true x.0 y.0 p.0 in
          up (inr (same, p.1)) (subst (λ n. 0 < n) same i.0)
      go false e false f = ((i.0, stay (ltb-false x.0 y.0 e) f), i, λ z h. h)

  tops : (cs : List (ℕ × Node)) (o : Option (ℕ × Node)) → InSome In o → ((y : ℕ × Node) → Among y cs → In y) → (z : ℕ × Node) → (Tops o z ⊎ Among z cs) → Tops (fold better o cs) z
  tops [] o i each z (inl h) = h
  tops [] o i each z (inr m) = absurd m
  tops (c ∷ cs) o i each z (inl h) = let n = next o c i (each c (inl refl)) in tops cs (better o c) n.1 (λ y m. each y (inr m)) z (inl (n.2 z h))
  tops (c ∷ cs) o i each z (inr (inl same)) = let n = next o c i (each c (inl refl)) in tops cs (better o c) n.1 (λ y m. each y (inr m)) z (inl (subst (λ (w : ℕ × Node). Tops (better o c) w) same n.0))
  tops (c ∷ cs) o i each z (inr (inr m)) = let n = next o c i (each c (inl refl)) in tops cs (better o c) n.1 (λ y k. each y (inr k)) z (inr m)

scored_is : (f : Node → ℕ) (xs : List Node) (d : ℕ × Node) → Among d (map (λ c. (f c, c)) xs) → Among d.1 xs × (d.0 ≡ f d.1)
scored_is f [] d h = absurd h
scored_is f (x ∷ xs) d (inl e) = (inl (ap (λ (p : ℕ × Node). p.1) e), sym (ap (λ (p : ℕ × Node). p.0) e) ∙ ap (λ (p : ℕ × Node). f p.1) e)
scored_is f (x ∷ xs) d (inr m) = let rest = scored_is f xs d m in (inr rest.0, rest.1)

scored_has : (f : Node → ℕ) (xs : List Node) (c : Node) → Among c xs → Among {A = ℕ × Node} (f c, c) (map (λ c. (f c, c)) xs)
scored_has f [] c m = absurd m
scored_has f (x ∷ xs) c (inl e) = inl (ap (λ z. (f z, z)) e)
scored_has f (x ∷ xs) c (inr m) = inr (scored_has f xs c m)

module _ (weights : List ℕ) (faulty : ℕ → Bool) (units : List Node) (lawful : IsLawfulGraph (length weights) faulty units) where
  -- ---- the units by name

  abbrev all : List Node
  all = by_name units

  one : OneName units
  one x y d m k s t = lawful.names x y m k (digest_same x.digest d s ∙ sym (digest_same y.digest d t))

  pub into : (x : Node) → Among x units → Among x all
  into x m = in_by_name units one x m

  pub out : (x : Node) → Among x all → Among x units
  out x m = by_name_in units x m

  one_all : OneName all
  one_all = rising_one_name all (rising_by_name units)

  found : (x : Node) (d : Digest) → Among x units → x.digest ≡ d → find_node all d ≡ Some x
  found x d m e = found_node all x d one_all (into x m) e

  -- ---- below

  cites_of : (panorama : List Obs) (x : Node) → Cites panorama x → cites panorama x ≡ true
  cites_of panorama x c = slot_cites panorama c.0 x.digest x c.1 refl

  of_cites : (panorama : List Obs) (x : Node) → cites panorama x ≡ true → Cites panorama x
  of_cites panorama x h =
      let o = some_of (λ p. observes p x.digest) panorama h in
      let s = among_slot panorama o.0 o.1 in
      (s.0, s.2 ∙ named_by o.0 x.digest o.2)

  to_past : (panorama : List Obs) (x : Node) → Below units panorama x → Among x (past all panorama)
  to_past panorama _ (cited x m c) = reach_first unit_cites (cites panorama) all x (into x m) (cites_of panorama x c)
  to_past panorama _ (further x y b m c) = reach_further unit_cites (cites panorama) all x y (to_past panorama y b) (into x m) (cites_of y.unit.panorama x c)

  of_past : (panorama : List Obs) (x : Node) → Among x (past all panorama) → Below units panorama x
  of_past panorama = reach_keeps unit_cites (cites panorama) all (Below units panorama)
      (λ x m c. cited x (out x m) (of_cites panorama x c))
      (λ x y b m c. further x y b (out x m) (of_cites y.unit.panorama x c))

  graph : IsGraph all
  graph = record { in_order = rising_by_name units; one_name = one_all; no_cycle = λ x m h. lawful.no_cycle x (out x m) (of_past x.unit.panorama x h) }

  pub past_all : (panorama : List Obs) (x : Node) → Among x (past all panorama) → Among x all
  past_all panorama x m = reach_within unit_cites (cites panorama) all x m

  abbrev rank : Node → ℕ
  rank x = length (past all x.unit.panorama)

  -- ---- lanes

  pub to_lane : (u x : Node) → Among u units → OnLane units u x → Among x (lane_of all u)
  to_lane u _ m last = reach_first follows (λ z. node_eq z u) all u (into u m) (digest_self u.digest)
  to_lane u _ m (back x y l k e) = reach_further follows (λ z. node_eq z u) all x y (to_lane u y m l) (into x k) (ap (λ o. observes o x.digest) e ∙ digest_self x.digest)

  pub of_lane : (u x : Node) → Among u units → Among x (lane_of all u) → OnLane units u x
  of_lane u x m h = reach_keeps follows (λ z. node_eq z u) all (OnLane units u)
      (λ y k t. subst (OnLane units u) (sym (one_all y u u.digest k (into u m) t (digest_self u.digest))) last)
      (λ z y l k t. back z y l (out z k) (named_by (slot y.unit.panorama y.unit.creator) z.digest t)) x h

  lane_in : (u x : Node) → Among u units → OnLane units u x → Among x units
  lane_in u x m l = out x (reach_within follows (λ z. node_eq z u) all x (to_lane u x m l))

  -- ---- the graph is lawful

  covers_at_most : (o p : Obs) → Covers units o p → obs_at_most all o p ≡ true
  covers_at_most Absent p h = refl
  covers_at_most Faulty p h = ap is_faulty_mark h
  covers_at_most (Correct d) Absent h = absurd h
  covers_at_most (Correct d) Faulty h = refl
  covers_at_most (Correct d) (Correct e) h =
      let y : Node = h.0 in
      let x : Node = h.3 in
      let fy = found y e h.1 h.2 in
      let fx = found x d (lane_in y x h.1 h.4) h.5 in
      rw (fy, fx) (among_is x (lane_of all y) (to_lane y x h.1 h.4))

  at_most : (u w : Node) → Among u units → Among w units → Cites u.unit.panorama w → is_at_most all w.unit.panorama u.unit.panorama ≡ true
  unfolding is_at_most
  at_most u w m k c = each_all _ (slots w.unit.panorama) (λ v i. covers_at_most (slot w.unit.panorama v) (slot u.unit.panorama v) (lawful.covers u w m k c v))

  consistent : (u : Node) → Among u units → is_consistent all u.unit.panorama ≡ true
  unfolding is_consistent
  consistent u m = each_all _ all (λ w k. go w k (cites u.unit.panorama w) refl)
    where
      go : (w : Node) → Among w all → (b : Bool) → cites u.unit.panorama w ≡ b → (not b || is_at_most all w.unit.panorama u.unit.panorama) ≡ true
      go w k false e = refl
      go w k true e = at_most u w m (out w k) (of_cites u.unit.panorama w e)

  unmarked : (u : Node) → Among u units → is_faulty_mark (slot u.unit.panorama u.unit.creator) ≡ false
  unmarked u m = go (slot u.unit.panorama u.unit.creator) refl
    where
      go : (o : Obs) → slot u.unit.panorama u.unit.creator ≡ o → is_faulty_mark o ≡ false
      go Absent e = refl
      go (Correct d) e = refl
      go Faulty e = absurd (lawful.unmarked u m e)

  forks : (v : ℕ) → equivocates all v ≡ true → faulty v ≡ true
  unfolding equivocates
  forks v h =
      let other : Node → Node → Bool = λ x y. (y.unit.creator == v) && (y.unit.seq == x.unit.seq) && are_different x y in
      let x = some_of (λ x. (x.unit.creator == v) && list_any (other x) all) all h in
      let p = and_parts (x.0.unit.creator == v) (list_any (other x.0) all) x.2 in
      let y = some_of (other x.0) all p.1 in
      let q = and_parts ((y.0.unit.creator == v) && (y.0.unit.seq == x.0.unit.seq)) (are_different x.0 y.0) y.2 in
      let r = and_parts (y.0.unit.creator == v) (y.0.unit.seq == x.0.unit.seq) q.0 in
      let cx : x.0.unit.creator ≡ v = eqb-true x.0.unit.creator v p.0 in
      let cy : y.0.unit.creator ≡ v = eqb-true y.0.unit.creator v r.0 in
      let n : y.0.unit.seq ≡ x.0.unit.seq = eqb-true y.0.unit.seq x.0.unit.seq r.1 in
      elim (lawful.forks x.0 y.0 (out x.0 x.1) (out y.0 y.1) (cx ∙ sym cy) (sym n)) [
        | inl same ↦ absurd (never_both (node_eq x.0 y.0) (named_eq x.0 y.0 (ap (λ (z : Node). z.digest) same)) (not_true (node_eq x.0 y.0) q.1))
        | inr f ↦ subst (λ w. faulty w ≡ true) cx f
      ]

  is_lawful : IsLawful weights faulty all
  is_lawful = record {
    in_order = rising_by_name units;
    closed = λ u v d m e. let r = lawful.closed u v d (out u m) e in (r.0, into r.0 r.1, r.2, r.3);
    rank = rank;
    falls = λ x u m k c. past_fewer all graph u.unit.panorama x (reach_first unit_cites (cites u.unit.panorama) all x m c);
    length_is = λ u m. lawful.size u (out u m);
    creator_is = λ u m. lawful.creator u (out u m);
    unmarked = λ u m. unmarked u (out u m);
    numbered = λ u m. elim (lawful.numbered u (out u m)) [
      | inl first ↦ inl (ap (observed all) first.0, first.1)
      | inr p ↦ inr (p.0, ap (observed all) p.2 ∙ found p.0 p.0.digest p.1 refl, p.3)
    ];
    consistent = λ u m. consistent u (out u m);
    marks = λ u v m h. lawful.marks u v (out u m) (faulty_is (slot u.unit.panorama v) h);
    forks = λ v h. forks v h;
  }

  -- ---- the choice

  walk_end : (choice : Choice) (panorama : List Obs) (end place : Option Node) → WalksTo weights units choice panorama end place → (end ≡ place) ⊎ ((c : Node) × (end ≡ Some c) × Below units panorama c)
  walk_end choice panorama end _ (stops none) = inl refl
  walk_end choice panorama end place (goes _ c best w) = elim (walk_end choice panorama end (Some c) w) [
    | inl e ↦ inr (c, e, best.child.below)
    | inr r ↦ inr r
  ]

  pub chosen_in : (choice : Choice) → IsChoice weights units choice → (panorama : List Obs) (c : Node) → choice panorama ≡ Some c → Among c (past all panorama)
  chosen_in choice is panorama c e = elim (walk_end choice panorama (choice panorama) None (is panorama)) [
    | inl none ↦ absurd (let no : None ≡ Some c = sym none ∙ e in cc)
    | inr r ↦ (let same : r.0 ≡ c = (let s : Some r.0 ≡ Some c = sym r.1 ∙ e in cc) in subst (λ z. Among z (past all panorama)) same (to_past panorama r.0 r.2))
  ]

  module _ (choice : Choice) (chosen_below : (panorama : List Obs) (c : Node) → choice panorama ≡ Some c → Among c (past all panorama)) where
    abbrev at : ForkAt
    at u = choice u.unit.panorama

    parent_in : (b p : Node) → at b ≡ Some p → Among p all × (rank p < rank b)
    parent_in b p e = let m = chosen_below b.unit.panorama p e in (past_all b.unit.panorama p m, past_fewer all graph b.unit.panorama p m)

    -- ---- ancestors

    named : (n : ℕ) (a : Node) → is_ancestor_within n at a a ≡ true
    unfolding is_ancestor_within
    named zero a = digest_self a.digest
    named (suc n) a = or_left (node_eq a a) (is_some_and (is_ancestor_within n at a) (at a)) (digest_self a.digest)

    counted : (a : Node) (n : ℕ) (b : Node) → rank b ≤ n → IsAncestor choice a b → is_ancestor_within n at a b ≡ true
    unfolding is_ancestor_within
    counted a n _ le itself = named n a
    counted a zero b le (above _ p e l) = absurd (let lt = (parent_in b p e).1 in omega arith)
    counted a (suc n) b le (above _ p e l) =
        let lt = (parent_in b p e).1 in
        or_right (node_eq a b) (is_some_and (is_ancestor_within n at a) (at b)) (ap (is_some_and (is_ancestor_within n at a)) e ∙ counted a n p (omega arith) l)

    led : (n : ℕ) (a b : Node) → Among a all → Among b all → is_ancestor_within n at a b ≡ true → IsAncestor choice a b
    unfolding is_ancestor_within
    led zero a b ma mb h = subst (λ z. IsAncestor choice a z) (one_all a b b.digest ma mb h (digest_self b.digest)) itself
    led (suc n) a b ma mb h = elim (or_cases (node_eq a b) (is_some_and (is_ancestor_within n at a) (at b)) h) [
      | inl here ↦ subst (λ z. IsAncestor choice a z) (one_all a b b.digest ma mb here (digest_self b.digest)) itself
      | inr up ↦ (let p = passes_some (is_ancestor_within n at a) (at b) up in above b p.0 p.1 (led n a p.0 ma (parent_in b p.0 p.1).0 p.2))
    ]

    -- ---- votes

    vote_to : (n : ℕ) (a u : Node) → rank u ≤ n → VotesFor choice a u → votes_for n at a u ≡ true
    unfolding votes_for
    vote_to n a u le (b, inl v, l) =
        let e : vote_of at u ≡ Some u = ap (λ t. cond t (Some u) (at u)) v.0 in
        ap (is_some_and (is_ancestor_within n at a)) e ∙ counted a n u le (subst (λ z. IsAncestor choice a z) v.1 l)
    vote_to n a u le (b, inr v, l) =
        let e : vote_of at u ≡ Some b = ap (λ t. cond t (Some u) (at u)) v.0 ∙ v.1 in
        let lt = (parent_in u b v.1).1 in
        ap (is_some_and (is_ancestor_within n at a)) e ∙ counted a n b (omega arith) l

    pub vote_from : (n : ℕ) (a u : Node) → Among a all → Among u all → votes_for n at a u ≡ true → VotesFor choice a u
    unfolding votes_for
    vote_from n a u ma mu h = go (is_block u) refl h
      where
        go : (t : Bool) → is_block u ≡ t → is_some_and (is_ancestor_within n at a) (cond t (Some u) (at u)) ≡ true → VotesFor choice a u
        go true e k = (u, inl (e, refl), led n a u ma mu k)
        go false e k = let p = passes_some (is_ancestor_within n at a) (at u) k in (p.0, inr (e, p.1), led n a p.0 ma (parent_in u p.0 p.1).0 p.2)

    -- ---- one panorama's walk

    module _ (panorama : List Obs) where
      abbrev below : List Node
      below = past all panorama

      one_below : OneName below
      one_below = rising_one_name below (past_in_order all graph panorama)

      latest_to : (v : ℕ) (u : Node) → IsLatest units panorama v u → latest below panorama v ≡ Some u
      latest_to v u l = ap (observed below) l.1 ∙ found_node below u u.digest one_below (to_past panorama u (cited u l.0 (v, l.1))) refl

      latest_from : (v : ℕ) (u : Node) → latest below panorama v ≡ Some u → Among u below × IsLatest units panorama v u
      latest_from v u e =
          let s = latest_is below panorama v u e in
          let f = find_node_is below u s.0 s.2 in
          (f.0, (out u (past_all panorama u f.0), s.1 ∙ ap Correct (sym f.1)))

      abbrev test : Node → ℕ → Bool
      test a v = is_some_and (votes_for (length below) at a) (latest below panorama v)

      abbrev Backs : Node → ℕ → Type 0
      Backs a v = (u : Node) × IsLatest units panorama v u × VotesFor choice a u

      backs : (a : Node) → Among a all → (v : ℕ) → (test a v ≡ true) ↔ Backs a v
      backs a ma v = (to, from)
        where
          to : test a v ≡ true → Backs a v
          to h =
              let p = passes_some (votes_for (length below) at a) (latest below panorama v) h in
              let l = latest_from v p.0 p.1 in
              (p.0, l.1, vote_from (length below) a p.0 ma (past_all panorama p.0 l.0) p.2)

          from : Backs a v → test a v ≡ true
          from b =
              let m = to_past panorama b.0 (cited b.0 b.1.0 (v, b.1.1)) in
              let lt = past_fewer all graph panorama b.0 m in
              ap (is_some_and (votes_for (length below) at a)) (latest_to v b.0 b.1) ∙ vote_to (length below) a b.0 (omega arith) b.2

      abbrev score : Node → ℕ
      score a = score_of weights below at panorama a

      scored : (a : Node) → Among a all → Scores weights units choice panorama a (score a)
      unfolding score_of
      scored a ma = (test a, backs a ma, refl)

      one_score : (a : Node) (n : ℕ) → Among a all → Scores weights units choice panorama a n → n ≡ score a
      unfolding score_of
      one_score a n ma h = one_weight weights (Backs a) n (test a) h (backs a ma)

      -- ---- children

      abbrev IsPlace : Option Node → Type 0
      IsPlace None = Unit {0}
      IsPlace (Some q) = Among q below

      is_at_itself : (o : Option Node) → is_at o o ≡ true
      is_at_itself None = refl
      is_at_itself (Some x) = digest_self x.digest

      child_to : (place : Option Node) (c : Node) → IsChild units choice panorama place c → Among c (children_of below at place)
      child_to place c k = filter-Among (λ b. is_block b && is_at (at b) place) c below (to_past panorama c k.below)
          (and_whole (is_block c) (is_at (at c) place) k.block (subst (λ (o : Option Node). is_at (at c) o ≡ true) k.parent (is_at_itself (at c))))

      child_from : (place : Option Node) (c : Node) → IsPlace place → Among c (children_of below at place) → IsChild units choice panorama place c × Among c below
      child_from place c i m =
          let f = Among-filter (λ b. is_block b && is_at (at b) place) c below m in
          let p = and_parts (is_block c) (is_at (at c) place) f.1 in
          (record { below = of_past panorama c f.0; block = p.0; parent = go place (at c) refl i p.1 }, f.0)
        where
          go : (o q : Option Node) → at c ≡ q → IsPlace o → is_at q o ≡ true → at c ≡ o
          go None None e i t = e
          go None (Some r) e i t = absurd cc
          go (Some y) None e i t = absurd cc
          go (Some y) (Some r) e i t = e ∙ ap Some (one_all r y y.digest (parent_in c r e).0 (past_all panorama y i) t (digest_self y.digest))

      best : (place : Option Node) (c : Node) → IsPlace place → IsBest weights units choice panorama place c → best_child weights below at panorama place ≡ Some (score c, c)
      best place c i b =
          let mc = past_all panorama c (to_past panorama c b.child.below) in
          let s : b.score ≡ score c = one_score c b.score mc b.scores in
          best_is weights below at panorama place c (child_to place c b.child) (subst (λ n. 0 < n) s b.some) (λ d m.
          let k = child_from place d i m in
          let md = past_all panorama d k.1 in
          elim (b.most d (score d) k.0 (scored d md)) [
            | inl same ↦ inl same
            | inr rest ↦ elim rest [
              | inl less ↦ inr (inl (subst (λ n. score d < n) s less))
              | inr tie ↦ inr (inr (tie.0 ∙ s, tie.1))
            ]
          ])

      no_best : (place : Option Node) → IsPlace place → ((d : Node) (m : ℕ) → IsChild units choice panorama place d → Scores weights units choice panorama d m → m ≡ 0) → best_child weights below at panorama place ≡ None
      no_best place i none = none_is weights below at panorama place (λ d m. let k = child_from place d i m in none d (score d) k.0 (scored d (past_all panorama d k.1)))

      abbrev deep : Option Node → ℕ
      deep None = 0
      deep (Some q) = suc (rank q)

      deeper : (place : Option Node) (c : Node) → IsChild units choice panorama place c → deep place < deep (Some c)
      deeper place c k = go place k.parent
        where
          go : (o : Option Node) → at c ≡ o → deep o < suc (rank c)
          go None e = omega arith
          go (Some q) e = let lt = (parent_in c q e).1 in omega arith

      walks : (end : Option Node) (n : ℕ) (place : Option Node) → IsPlace place → length below ≤ n + deep place → WalksTo weights units choice panorama end place → walk n weights below at panorama place ≡ end
      walks end n _ i le (stops none) = walk_stops weights below at panorama n end (no_best end i none)
      walks end zero place i le (goes _ c b w) =
          absurd (let lt = past_fewer all graph panorama c (to_past panorama c b.child.below) in let d = deeper place c b.child in omega arith)
      walks end (suc n) place i le (goes _ c b w) =
          let m = to_past panorama c b.child.below in
          let d = deeper place c b.child in
          walk_goes weights below at panorama n place (score c, c) (best place c i b) ∙ walks end n (Some c) m (omega arith) w

      -- ---- a walk that is worked out comes there

      abbrev In : ℕ × Node → Type 0
      In p = (p.0 ≡ score p.1) × Among p.1 below

      in_apart : (x y : ℕ × Node) → In x → In y → x.1.digest ≡ y.1.digest → x ≡ y
      in_apart x y i j e =
          let same : x.1 ≡ y.1 = one_below x.1 y.1 y.1.digest i.1 j.1 (named_eq x.1 y.1 e) (digest_self y.1.digest) in
          let s : x.0 ≡ y.0 = i.0 ∙ ap score same ∙ sym j.0 in
          λ k. (s k, same k)

      children_in : (place : Option Node) (y : ℕ × Node) → Among y (map (λ c. (score c, c)) (children_of below at place)) → In y
      children_in place y m =
          let r = scored_is score (children_of below at place) y m in
          (r.1, (Among-filter (λ b. is_block b && is_at (at b) place) y.1 below r.0).0)

      best_tops : (place : Option Node) (d : Node) → Among d (children_of below at place) → Tops (best_child weights below at panorama place) (score d, d)
      unfolding best_child
      best_tops place d m = tops In in_apart (map (λ c. (score c, c)) (children_of below at place)) None tt (children_in place) (score d, d) (inr (scored_has score (children_of below at place) d m))

      best_of : (place : Option Node) (d : ℕ × Node) → best_child weights below at panorama place ≡ Some d → Among d.1 (children_of below at place) × (d.0 ≡ score d.1)
      unfolding best_child
      best_of place d e = elim (fold_in (map (λ c. (score c, c)) (children_of below at place)) None d e) [
        | inl h ↦ absurd cc
        | inr m ↦ scored_is score (children_of below at place) d m
      ]

      is_best : (place : Option Node) (d : ℕ × Node) → IsPlace place → best_child weights below at panorama place ≡ Some d → IsBest weights units choice panorama place d.1
      is_best place d i e =
          let b = best_of place d e in
          let k = child_from place d.1 i b.0 in
          let md = past_all panorama d.1 k.1 in
          let top : (x : Node) → Among x (children_of below at place) → Tops (Some d) (score x, x) = λ x m. subst (λ (o : Option (ℕ × Node)). Tops o (score x, x)) e (best_tops place x m) in
          record {
            child = k.0;
            score = score d.1;
            scores = scored d.1 md;
            some = subst (λ n. 0 < n) b.1 (top d.1 b.0).0;
            most = λ x m ch sc.
                let q : m ≡ score x = one_score x m (past_all panorama x (to_past panorama x ch.below)) sc in
                elim (top x (child_to place x ch)).1 [
                  | inl same ↦ inl (ap (λ (p : ℕ × Node). p.1) same)
                  | inr f ↦ elim f [
                    | inl lt ↦ inr (inl (subst (λ n. m < n) b.1 (subst (λ n. n < d.0) (sym q) lt)))
                    | inr tie ↦ inr (inr (q ∙ tie.0 ∙ b.1, tie.1))
                  ]
                ];
          }

      ends : (place : Option Node) → best_child weights below at panorama place ≡ None → (d : Node) (m : ℕ) → IsChild units choice panorama place d → Scores weights units choice panorama d m → m ≡ 0
      ends place e d m ch sc =
          let t : score d ≡ 0 = subst (λ (o : Option (ℕ × Node)). Tops o (score d, d)) e (best_tops place d (child_to place d ch)) in
          one_score d m (past_all panorama d (to_past panorama d ch.below)) sc ∙ t

      comes : (n : ℕ) (place : Option Node) → IsPlace place → length below ≤ n + deep place → WalksTo weights units choice panorama (walk n weights below at panorama place) place
      unfolding walk
      comes zero place i le = go (best_child weights below at panorama place) refl
        where
          go : (o : Option (ℕ × Node)) → best_child weights below at panorama place ≡ o → WalksTo weights units choice panorama place place
          go None e = stops (ends place e)
          go (Some c) e = absurd (let b = is_best place c i e in let d = deeper place c.1 b.child in let lt = past_fewer all graph panorama c.1 (to_past panorama c.1 b.child.below) in omega arith)
      comes (suc n) place i le = go (best_child weights below at panorama place) refl (λ c j l. comes n (Some c.1) j l)
        where
          go : (o : Option (ℕ × Node)) → best_child weights below at panorama place ≡ o
              → ((c : ℕ × Node) → Among c.1 below → length below ≤ n + deep (Some c.1) → WalksTo weights units choice panorama (walk n weights below at panorama (Some c.1)) (Some c.1))
              → WalksTo weights units choice panorama (elim o as (λ z. Option Node) [ None ↦ place | Some c ↦ walk n weights below at panorama (Some c.1) ]) place
          go None e later = stops (ends place e)
          go (Some c) e later = let b = is_best place c i e in let d = deeper place c.1 b.child in goes place c.1 b (later c (to_past panorama c.1 b.child.below) (omega arith))

    pub is_choice : ((panorama : List Obs) → choice panorama ≡ ghost_walk weights (past all panorama) at panorama) → IsChoice weights units choice
    unfolding ghost_walk
    is_choice whole panorama = subst (λ (o : Option Node). WalksTo weights units choice panorama o None) (sym (whole panorama)) (comes panorama (length (past all panorama)) None tt (omega arith))

    module _ (is : IsChoice weights units choice) where
      by_walk : (panorama : List Obs) → choice panorama ≡ ghost_walk weights (past all panorama) at panorama
      by_walk panorama = sym (walk_whole weights (past all panorama) at panorama ∙ walks panorama (choice panorama) (length (past all panorama)) None tt (omega arith) (is panorama))

      -- ---- the choice is the fork choice

      by_agreement : (panorama : List Obs) → ((x : Node) → Among x (past all panorama) → at x ≡ unit_fork weights all x) → choice panorama ≡ fork_of weights all panorama
      by_agreement panorama agree =
          by_walk panorama
          ∙ ghost_walk_same (past all panorama) at (unit_fork weights all) agree (λ x y m e. past_below all graph panorama x m y (chosen_below x.unit.panorama y e)) weights panorama
          ∙ sym (fork_is_walk weights all graph panorama)

      same_to : (bound : ℕ) (panorama : List Obs) → length (past all panorama) ≤ bound → choice panorama ≡ fork_of weights all panorama
      same_to zero panorama le = by_agreement panorama (λ x m. absurd (let fewer = past_fewer all graph panorama x m in omega arith))
      same_to (suc bound) panorama le = by_agreement panorama (λ x m. let fewer = past_fewer all graph panorama x m in same_to bound x.unit.panorama (omega arith))

      pub is_fork : (panorama : List Obs) → choice panorama ≡ fork_of weights all panorama
      is_fork panorama = same_to (length (past all panorama)) panorama (omega arith)

      at_is : at ≡ unit_fork weights all
      at_is = λ i u. is_fork u.unit.panorama i

      -- ---- summits

      pub slot_to : (panorama : List Obs) (v : ℕ) (u : Node) → IsLatest units panorama v u → latest all panorama v ≡ Some u
      slot_to panorama v u l = ap (observed all) l.1 ∙ found u u.digest l.0 refl

      pub slot_from : (panorama : List Obs) (v : ℕ) (u : Node) → latest all panorama v ≡ Some u → IsLatest units panorama v u
      slot_from panorama v u e =
          let s = latest_is all panorama v u e in
          let f = find_node_is all u s.0 s.2 in
          (out u f.0, s.1 ∙ ap Correct (sym f.1))

      pub sees_to : (u : Node) (v n : ℕ) → SeesFrom units u v n → sees_from all u v n ≡ true
      sees_to u v n y = any_of (λ y. (y.unit.creator == v) && nat_le n y.unit.seq) y.0 (past all u.unit.panorama) (to_past u.unit.panorama y.0 y.1)
          (and_whole (y.0.unit.creator == v) (nat_le n y.0.unit.seq) (eq-eqb y.0.unit.creator v y.2) (le-leb n y.0.unit.seq y.3))

      pub sees_of : (u : Node) (v n : ℕ) → sees_from all u v n ≡ true → SeesFrom units u v n
      sees_of u v n h =
          let y = some_of (λ y. (y.unit.creator == v) && nat_le n y.unit.seq) (past all u.unit.panorama) h in
          let p = and_parts (y.0.unit.creator == v) (nat_le n y.0.unit.seq) y.2 in
          (y.0, of_past u.unit.panorama y.0 y.1, eqb-true y.0.unit.creator v p.0, leb-true n y.0.unit.seq p.1)

      module _ (panorama : List Obs) (block : Node) (level quorum : ℕ) (s : Summit weights units choice panorama block level quorum) where
        committees : Committees
        committees = record { member = s.member; start = s.start }

        votes : (x : Node) → VotesFor choice block x → votes_for (length all) (unit_fork weights all) block x ≡ true
        votes x v = subst (λ (f : ForkAt). votes_for (length all) f block x ≡ true) at_is (vote_to (length all) block x (past_short all x.unit.panorama) v)

        seen : (j : ℕ) (x : Node) (n : ℕ) → Weigh weights (λ w. (s.member j w ≡ true) × SeesFrom units x w (s.start (j - 1) w)) n → quorum ≤ n
            → quorum ≤ weight_of weights (λ w. s.member j w && sees_from all x w (s.start (j - 1) w))
        seen j x n h le =
            let e = one_weight weights (λ w. (s.member j w ≡ true) × SeesFrom units x w (s.start (j - 1) w)) n (λ w. s.member j w && sees_from all x w (s.start (j - 1) w)) h
            (λ w. (
              λ t. let p = and_parts (s.member j w) (sees_from all x w (s.start (j - 1) w)) t in (p.0, sees_of x w (s.start (j - 1) w) p.1),
              λ p. and_whole (s.member j w) (sees_from all x w (s.start (j - 1) w)) p.0 (sees_to x w (s.start (j - 1) w) p.1),
            )) in
            subst (λ m. quorum ≤ m) e le

        pub has_summit : HasSummit weights all panorama block level quorum
        has_summit = (
          record { member = s.member; start = s.start },
          record {
            correct_slot = λ v h. let r = s.correct_slot v h in (r.0, r.1, slot_to panorama v r.1 r.2);
            nested = λ j v lt h. s.nested j v lt h;
            not_empty = s.not_empty;
            start_in_lane = λ j v u le h e. s.start_in_lane j v u le h (slot_from panorama v u e);
            votes = λ v u h e x m from. let l = slot_from panorama v u e in votes x (s.votes v u x h l (of_lane u x l.0 m) from);
            quorums = λ j v u lo hi h e x m from. let l = slot_from panorama v u e in let r = s.quorums j v u x lo hi h l (of_lane u x l.0 m) from in seen j x r.0 r.1 r.2;
          },
        )

      -- the fork choice keeps the block
      pub kept : (panorama : List Obs) (block : Node) → Among block units → keeps weights all panorama block ≡ true → (c : Node) × (choice panorama ≡ Some c) × IsAncestor choice block c
      kept panorama block m h =
          let p = passes_some (is_ancestor_within (length all) (unit_fork weights all) block) (fork_of weights all panorama) h in
          let e : choice panorama ≡ Some p.0 = is_fork panorama ∙ p.1 in
          let t : is_ancestor_within (length all) at block p.0 ≡ true = subst (λ (f : ForkAt). is_ancestor_within (length all) f block p.0 ≡ true) (sym at_is) p.2 in
          (p.0, e, led (length all) block p.0 (into block m) (past_all panorama p.0 (chosen_below panorama p.0 e)) t)

  -- ---- the panorama

  module _ (config : Config) (its : config.weights ≡ weights) where
    lawful_there : IsLawful config.weights faulty all
    lawful_there = subst (λ w. IsLawful w faulty all) (sym its) is_lawful

    pub panorama_is : (panorama : List Obs) → IsPanorama (length weights) faulty units panorama → panorama ≡ panorama_over config faulty all
    panorama_is panorama p = ext_get_or Absent panorama (panorama_over config faulty all) (p.size ∙ ap (λ (w : List ℕ). length w) (sym its) ∙ sym long) (λ v lt. each v (in_range v lt))
      where
        long : length (panorama_over config faulty all) ≡ length config.weights
        long = length-map-range_with_len (λ w. cond (faulty w) Faulty (correct_or_absent (tip_of all w))) 0 (length config.weights)

        in_range : (v : ℕ) → v < length panorama → v < length weights
        in_range v lt = subst (λ n. v < n) p.size lt

        by_slot : (v : ℕ) → v < length weights → IsSlot faulty units v (slot panorama v) → slot panorama v ≡ slot (panorama_over config faulty all) v
        by_slot v lt (inl f) = f.1 ∙ sym ((other_slots config faulty all lawful_there).marked v (subst (λ (w : List ℕ). v < length w) (sym its) lt) f.0)
        by_slot v lt (inr (inl f)) = f.1 ∙ sym ((other_slots config faulty all lawful_there).none v f.0 (λ x m c. f.2 x (out x m) c))
        by_slot v lt (inr (inr f)) =
            let u : Node = f.1 in
            let t = one_tip config faulty all lawful_there v u f.0 (into u f.3) f.4 in
            let tip : IsTip all v u = record { member = into u f.3; creator = f.4; lane = λ x m c. among_is x (lane_of all u) (to_lane u x f.3 (f.5 x (out x m) c)) } in
            f.2 ∙ ap (λ (z : Node). Correct z.digest) (t.only u tip) ∙ sym t.slot_is

        each : (v : ℕ) → v < length weights → slot panorama v ≡ slot (panorama_over config faulty all) v
        each v lt = by_slot v lt (p.each v lt)

-- ---- the theorem

weighing : List ℕ → Config
weighing weights = record { weights = weights; ftt = 0; levels = 0; min_exponent = 0; max_exponent = 0; leaders = Drawn []; max_records = 0; max_parked = 0; end = None }

weighing_is : (weights : List ℕ) → (weighing weights).weights ≡ weights
unfolding weighing
weighing_is weights = refl

pub page_safety : PageSafety
unfolding weighing
page_safety weights faulty units choice panorama block level quorum after is p h = go (keeps weights (by_name units) panorama block) refl
  where
    sum_up : keeps weights (by_name units) panorama block ≡ false → AreToBlame weights faulty level quorum
    sum_up off =
        let s1 : HasSummit weights (by_name h.part) h.part_panorama block level quorum =
        has_summit weights h.part_faulty h.part h.lawful h.part_choice (chosen_in weights h.part_faulty h.part h.lawful h.part_choice h.choice_is) h.choice_is h.part_panorama block level quorum h.summit in
        let s2 : HasSummit weights (by_name h.part) (panorama_over (weighing weights) h.part_faulty (by_name h.part)) block level quorum =
        subst (λ (q : List Obs). HasSummit weights (by_name h.part) q block level quorum) (panorama_is weights h.part_faulty h.part h.lawful (weighing weights) refl h.part_panorama h.panorama_is) s1 in
        let n : keeps weights (by_name units) (panorama_over (weighing weights) faulty (by_name units)) block ≡ false =
        subst (λ (q : List Obs). keeps weights (by_name units) q block ≡ false) (panorama_is weights faulty units after (weighing weights) refl panorama p) off in
        graph_safety (weighing weights) faulty h.part_faulty (by_name h.part) (by_name units) block level quorum
        (is_lawful weights faulty units after) (is_lawful weights h.part_faulty h.part h.lawful)
        (λ x k. into weights faulty units after x (h.within x (out weights h.part_faulty h.part h.lawful x k))) h.fewer h.low h.majority s2 n

    go : (b : Bool) → keeps weights (by_name units) panorama block ≡ b → ((c : Node) × (choice panorama ≡ Some c) × IsAncestor choice block c) ⊎ AreToBlame weights faulty level quorum
    go true e = inl (kept weights faulty units after choice (chosen_in weights faulty units after choice is) is panorama block (h.within block h.known) e)
    go false e = inr (sum_up e)

-- it is the block, or an ancestor of its parent
ancestor_split : (choice : Choice) (b c : Node) → IsAncestor choice b c → (b ≡ c) ⊎ ((p : Node) × (choice c.unit.panorama ≡ Some p) × IsAncestor choice b p)
ancestor_split choice b _ itself = inl refl
ancestor_split choice b c (above _ p e l) = inr (p, e, l)

-- two ancestors of one block are on one chain
on_line : (choice : Choice) (a b c : Node) → IsAncestor choice a c → IsAncestor choice b c → IsAncestor choice a b ⊎ IsAncestor choice b a
on_line choice a b _ itself k = inr k
on_line choice a b c (above _ p e l) k = go (ancestor_split choice b c k) (λ m. on_line choice a b p l m)
  where
    go : ((b ≡ c) ⊎ ((q : Node) × (choice c.unit.panorama ≡ Some q) × IsAncestor choice b q)) → (IsAncestor choice b p → IsAncestor choice a b ⊎ IsAncestor choice b a) → IsAncestor choice a b ⊎ IsAncestor choice b a
    go (inl same) later = inl (subst (λ z. IsAncestor choice a z) (sym same) (above c p e l))
    go (inr q) later = later (let one : q.0 ≡ p = (let s : Some q.0 ≡ Some p = sym q.1 ∙ e in cc) in subst (λ z. IsAncestor choice b z) one q.2)

pub one_chain : PageOneChain
one_chain weights faulty units choice panorama a b i j q r lawful is p ha hb =
    go (page_safety weights faulty units choice panorama a i q lawful is p ha) (page_safety weights faulty units choice panorama b j r lawful is p hb)
  where
    go : (((c : Node) × (choice panorama ≡ Some c) × IsAncestor choice a c) ⊎ AreToBlame weights faulty i q)
        → (((c : Node) × (choice panorama ≡ Some c) × IsAncestor choice b c) ⊎ AreToBlame weights faulty j r)
        → (IsAncestor choice a b ⊎ IsAncestor choice b a) ⊎ (AreToBlame weights faulty i q ⊎ AreToBlame weights faulty j r)
    go (inr blame) second = inr (inl blame)
    go (inl c) (inr blame) = inr (inr blame)
    go (inl c) (inl d) =
        let one : c.0 ≡ d.0 = (let s : Some c.0 ≡ Some d.0 = sym c.1 ∙ d.1 in cc) in
        inl (on_line choice a b d.0 (subst (λ z. IsAncestor choice a z) one c.2) d.2)

pub choice_is : ChoiceIsTheForkChoice
choice_is weights faulty units choice lawful is panorama = is_fork weights faulty units lawful choice (chosen_in weights faulty units lawful choice is) is panorama

pub choice_there : ChoiceIsThere
choice_there weights faulty units lawful =
    is_choice weights faulty units lawful (fork_of weights (by_name units)) (λ panorama c e. fork_below weights (by_name units) panorama c e)
    (λ panorama. fork_is_walk weights (by_name units) (graph weights faulty units lawful) panorama)
