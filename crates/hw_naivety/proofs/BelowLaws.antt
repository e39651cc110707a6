-- What is below, and what is naive, by number and by name.
use Rattle.std.proofs.Common.{◌≡◌, ℕ, ◌<◌, ◌⊎◌, inl, inr, Bool, true, List, Option, refl, sym, ap, subst, ◌∙◌}
use Rattle.std.specs.List.{list_any}
use Rattle.hw_types.specs.declared.unit.Digest.{Digest}
use Rattle.hw_types.specs.declared.unit.Obs.{Obs}
use Rattle.hw_types.specs.Graph.{Node, digest_eq, is_some_and, cites, unit_cites, past, find_node, is_below, are_comparable}
use Rattle.hw_types.specs.Below.{Among}
use Rattle.hw_types.specs.Rules.{has_digest, is_naive}
use Rattle.hw_types.proofs.ClosureLaws.{Within}
use Rattle.hw_types.proofs.PastLaws.{some_of, any_of, reach_first, reach_further, reach_keeps, reach_within}
use Rattle.hw_types.proofs.StableLaws.{OneName, is_below_same, comparable_same}
use Rattle.hw_types.proofs.WordsLaws.{found_node, find_node_is, passes_some, not_true, never_both, either, all_of}
use Rattle.hw_types.proofs.SettledLaws.{digest_same}
use Rattle.hw_types.proofs.LaneLaws as lanes
use Rattle.hw_dag.specs.declared.numbers.UnitNo.{UnitNo}
use Rattle.hw_dag.specs.declared.numbers.View.{View}
use Rattle.hw_dag.specs.declared.numbers.View.TheVariants as view
use Rattle.hw_dag.specs.Dag.{UnitGraph, unit_at, count_of, node_at, graph, creator_of, view_at, observations}
use Rattle.hw_dag.specs.Admission.{IsGraph}
use Rattle.hw_dag.specs.Lanes.{is_lane_below, is_seen}
use Rattle.hw_dag.proofs.NodeLaws.{among_node, node_among, same_node, graph_one_name}
use Rattle.hw_dag.proofs.SlotLaws.{number_cites, cited_number}
use Rattle.hw_dag.proofs.LaneLaws.{seen_cases, past_seen, same_seen, on_lane_among, among_on_lane, on_own_lane, even_weights, all_faulty, lawful}
use Rattle.hw_dag.proofs.MarkLaws.{past_within}
use Rattle.hw_dag.proofs.ChainLaws as chain
use Rattle.hw_naivety.specs.Tips.{IsBelow, IsBelowEndorsed, IsNaive, HasLists}
use Rattle.hw_naivety.specs.Naivety.{IsNaiveOf, KeepsEndorsed}

module _ (dag : UnitGraph) (g : IsGraph dag) where
  -- ---- below, by number

  pub seen_trans : (a b c : ℕ) → a < count_of dag → b < count_of dag → c < count_of dag → is_seen dag a b ≡ true → is_seen dag b c ≡ true → is_seen dag a c ≡ true
  seen_trans a b c la lb lc s t = elim (seen_cases dag g a b la lb s) [
    | inl e ↦ subst (λ (n : ℕ). is_seen dag n c ≡ true) (sym e) t
    | inr m ↦ elim (seen_cases dag g b c lb lc t) [
      | inl e ↦ subst (λ (n : ℕ). is_seen dag a n ≡ true) e s
      | inr n ↦ past_seen dag g a c (past_within dag g c b lb n (node_at dag a) m)
    ]
  ]

  pub lane_trans : (a b c : ℕ) → a < count_of dag → b < count_of dag → c < count_of dag → is_lane_below dag a b ≡ true → is_lane_below dag b c ≡ true → is_lane_below dag a c ≡ true
  lane_trans a b c la lb lc s t = among_on_lane dag g a c
      (lanes.lane_trans (even_weights dag) all_faulty (graph dag) (lawful dag g) (node_at dag a) (node_at dag b) (node_at dag c) (node_among dag g b lb)
      (on_lane_among dag g a b la s) (on_lane_among dag g b c lb t))

  pub lane_order : (t a b : ℕ) → t < count_of dag → a < count_of dag → b < count_of dag → is_lane_below dag a t ≡ true → is_lane_below dag b t ≡ true
      → (is_lane_below dag a b ≡ true) ⊎ (is_lane_below dag b a ≡ true)
  lane_order t a b lt la lb s r = elim (chain.lane_order (even_weights dag) all_faulty (graph dag) (lawful dag g) (node_at dag t) (node_at dag a) (node_at dag b) (node_among dag g t lt)
      (on_lane_among dag g a t la s) (on_lane_among dag g b t lb r)) [
        | inl m ↦ inl (among_on_lane dag g a b m)
        | inr m ↦ inr (among_on_lane dag g b a m)
      ]

  pub lane_itself : (n : ℕ) → n < count_of dag → is_lane_below dag n n ≡ true
  lane_itself n lt = among_on_lane dag g n n (on_own_lane dag g n lt)

  pub lane_creator : (a b : ℕ) → a < count_of dag → b < count_of dag → is_lane_below dag a b ≡ true → creator_of (unit_at dag a) ≡ creator_of (unit_at dag b)
  lane_creator a b la lb s = lanes.lane_creator (even_weights dag) all_faulty (graph dag) (lawful dag g) (node_at dag b) (node_at dag a) (node_among dag g b lb) (on_lane_among dag g a b la s)

  -- ---- below a panorama

  module _ (panorama : List View) (known : (v : ℕ) (no : UnitNo) → view_at panorama v ≡ view.Correct no → no.0 < count_of dag) where
    abbrev pub under : List Node
    under = past (graph dag) (observations dag panorama)

    pub under_within : Within under (graph dag)
    under_within = reach_within unit_cites (cites (observations dag panorama)) (graph dag)

    cited_under : (slot : ℕ) (cited : UnitNo) → view_at panorama slot ≡ view.Correct cited → Among (node_at dag cited.0) under
    cited_under slot cited e = reach_first unit_cites (cites (observations dag panorama)) (graph dag) (node_at dag cited.0) (node_among dag g cited.0 (known slot cited e)) (number_cites dag g panorama slot cited e)

    pub below_under : (n : ℕ) → n < count_of dag → IsBelow dag panorama n → Among (node_at dag n) under
    below_under n lt b = elim (seen_cases dag g n b.cited.0 lt (known b.slot b.cited b.observed) b.seen) [
      | inl e ↦ subst (λ (m : ℕ). Among (node_at dag m) under) (sym e) (cited_under b.slot b.cited b.observed)
      | inr m ↦ reach_keeps unit_cites (cites (unit_at dag b.cited.0).signed.unit.panorama) (graph dag) (λ (y : Node). Among y under)
          (λ y i t. reach_further unit_cites (cites (observations dag panorama)) (graph dag) y (node_at dag b.cited.0) (cited_under b.slot b.cited b.observed) i t)
          (λ y z p i t. reach_further unit_cites (cites (observations dag panorama)) (graph dag) y z p i t) (node_at dag n) m
    ]

    pub below_lower : (n m : ℕ) → n < count_of dag → m < count_of dag → is_seen dag n m ≡ true → IsBelow dag panorama m → IsBelow dag panorama n
    below_lower n m ln lm s b = record {
      slot = b.slot;
      cited = b.cited;
      observed = b.observed;
      seen = seen_trans n m b.cited.0 ln lm (known b.slot b.cited b.observed) s b.seen;
    }

    pub under_below : (n : ℕ) → n < count_of dag → Among (node_at dag n) under → IsBelow dag panorama n
    under_below n lt h =
        let all = reach_keeps unit_cites (cites (observations dag panorama)) (graph dag) (λ (x : Node). (k : ℕ) × (k < count_of dag) × (node_at dag k ≡ x) × IsBelow dag panorama k)
        (λ x m t.
        let k = among_node dag x m in
        let c = cited_number dag g panorama k.0 known k.1 (subst (λ (y : Node). cites (observations dag panorama) y ≡ true) (sym k.2) t) in
        (k.0, k.1, k.2, record { slot = c.0; cited = c.1; observed = c.2; seen = same_seen dag g k.0 c.1.0 (sym c.3) }))
        (λ x y p m t.
        let k = among_node dag x m in
        let cited = subst (λ (z : Node). cites z.unit.panorama (node_at dag k.0) ≡ true) (sym p.2) (subst (λ (z : Node). cites y.unit.panorama z ≡ true) (sym k.2) t) in
        let seen = past_seen dag g k.0 p.0 (reach_first unit_cites (cites (unit_at dag p.0).signed.unit.panorama) (graph dag) (node_at dag k.0) (node_among dag g k.0 k.1) cited) in
        (k.0, k.1, k.2, below_lower k.0 p.0 k.1 p.1 seen p.3))
        (node_at dag n) h in
        subst (λ (k : ℕ). IsBelow dag panorama k) (same_node dag g all.0 n all.1 lt all.2) all.3

    -- ---- naive, by name and by number

    under_one_name : OneName under
    under_one_name x y d m n s t = graph_one_name dag x y d (under_within x m) (under_within y n) s t

    under_closed : (x y : Node) → Among y under → Among x (graph dag) → cites y.unit.panorama x ≡ true → Among x under
    under_closed x y m n t = reach_further unit_cites (cites (observations dag panorama)) (graph dag) x y m n t

    pub is_below_under : (x y : Node) → Among y under → is_below (graph dag) x y ≡ is_below under x y
    is_below_under x y m = is_below_same under (graph dag) under_within (graph_one_name dag) under_closed x y (λ z n t. under_closed z y m n t)

    pub comparable_under : (x y : Node) → Among x under → Among y under → are_comparable (graph dag) x y ≡ are_comparable under x y
    comparable_under x y m n = comparable_same under (graph dag) under_within (graph_one_name dag) under_closed x y m n

    abbrev is_covered : List Digest → Node → Bool
    is_covered endorsed x = list_any (λ d. is_some_and (is_below under x) (find_node under d)) endorsed

    covered_named : (endorsed : List Digest) (n : ℕ) → n < count_of dag → IsBelowEndorsed dag panorama endorsed n → is_covered endorsed (node_at dag n) ≡ true
    covered_named endorsed n lt b =
        let named = b.below in
        let among = below_under named.named named.known named.found in
        let found = found_node under (node_at dag named.named) b.name under_one_name among named.name_is in
        any_of (λ d. is_some_and (is_below under (node_at dag n)) (find_node under d)) b.name endorsed b.among
        (subst (λ (o : Option Node). is_some_and (is_below under (node_at dag n)) o ≡ true) (sym found) (sym (is_below_under (node_at dag n) (node_at dag named.named) among) ∙ named.seen))

    named_covered : (endorsed : List Digest) (n : ℕ) → n < count_of dag → is_covered endorsed (node_at dag n) ≡ true → IsBelowEndorsed dag panorama endorsed n
    named_covered endorsed n lt t =
        let d = some_of (λ d. is_some_and (is_below under (node_at dag n)) (find_node under d)) endorsed t in
        let z = passes_some (is_below under (node_at dag n)) (find_node under d.0) d.2 in
        let m = find_node_is under z.0 d.0 z.1 in
        let k = among_node dag z.0 (under_within z.0 m.0) in
        record {
          name = d.0;
          among = d.1;
          below = record {
            named = k.0;
            known = k.1;
            name_is = ap (λ (y : Node). y.digest) k.2 ∙ m.1;
            found = under_below k.0 k.1 (subst (λ (y : Node). Among y under) (sym k.2) m.0);
            seen = subst (λ (y : Node). is_below (graph dag) (node_at dag n) y ≡ true) (sym k.2) (is_below_under (node_at dag n) z.0 m.0 ∙ z.2);
          };
        }

    pub naive_free : (endorsed : List Digest) (n : ℕ) → n < count_of dag → is_naive under endorsed (node_at dag n) ≡ true → IsBelowEndorsed dag panorama endorsed n → ⊥
    naive_free endorsed n lt t b = never_both (is_covered endorsed (node_at dag n)) (covered_named endorsed n lt b) (not_true (is_covered endorsed (node_at dag n)) t)

    pub free_naive : (endorsed : List Digest) (n : ℕ) → n < count_of dag → (IsBelowEndorsed dag panorama endorsed n → ⊥) → is_naive under endorsed (node_at dag n) ≡ true
    free_naive endorsed n lt f = elim (either (is_covered endorsed (node_at dag n))) [
      | inl t ↦ absurd (f (named_covered endorsed n lt t))
      | inr e ↦ rw e refl
    ]

    module _ (u : Node) (observes : observations dag panorama ≡ u.unit.panorama) where
      pub naive_of_number : (v n : ℕ) → IsNaive dag panorama u.unit.endorsed v n → IsNaiveOf (graph dag) u v (node_at dag n)
      naive_of_number v n h = record {
        below = subst (λ (os : List Obs). Among (node_at dag n) (past (graph dag) os)) observes (below_under n h.known h.below);
        naive = subst (λ (os : List Obs). is_naive (past (graph dag) os) u.unit.endorsed (node_at dag n) ≡ true) observes (free_naive u.unit.endorsed n h.known h.free);
        creator_is = h.creator_is;
      }

      pub number_of_naive : (v n : ℕ) → n < count_of dag → IsNaiveOf (graph dag) u v (node_at dag n) → IsNaive dag panorama u.unit.endorsed v n
      number_of_naive v n lt h = record {
        known = lt;
        creator_is = h.creator_is;
        below = under_below n lt (subst (λ (os : List Obs). Among (node_at dag n) (past (graph dag) os)) (sym observes) h.below);
        free = naive_free u.unit.endorsed n lt (subst (λ (os : List Obs). is_naive (past (graph dag) os) u.unit.endorsed (node_at dag n) ≡ true) (sym observes) h.naive);
      }

      pub lists_kept : KeepsEndorsed (graph dag) u → HasLists dag panorama u.unit.endorsed
      lists_kept keeps slot cited e name m =
          let cites_it = subst (λ (os : List Obs). cites os (node_at dag cited.0) ≡ true) observes (number_cites dag g panorama slot cited e) in
          let all = keeps (node_at dag cited.0) (node_among dag g cited.0 (known slot cited e)) cites_it in
          let has = all_of (has_digest u.unit.endorsed) (unit_at dag cited.0).signed.unit.endorsed all name m in
          let d = some_of (digest_eq name) u.unit.endorsed has in
          subst (λ (k : Digest). Among k u.unit.endorsed) (sym (digest_same name d.0 d.2)) d.1
