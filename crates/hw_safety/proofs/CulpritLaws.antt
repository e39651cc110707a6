-- Each validator that is faulty over two journals is a culprit: two of its units show it.
use Rattle.std.proofs.Common.{◌≡◌, ℕ, ◌≤◌, ◌<◌, inl, inr, Bool, true, false, cond, List, [], ◌∷◌, ◌++◌, length, Some, None, refl, sym, ap, subst, ◌∙◌, arith}
use Rattle.std.specs.Prelude.{◌&&◌, ◌||◌, not, filter, filter_map, is_none, nat_le, ◌==◌}
use Rattle.std.specs.List.{list_any}
use Rattle.std.proofs.lemmas.Bool.{eqb-true, eq-eqb}
use Rattle.hw_types.specs.declared.unit.WireUnit.{WireUnit}
use Rattle.hw_types.specs.declared.unit.Evidence.{Evidence}
use Rattle.hw_types.specs.declared.unit.Vertex.{Vertex}
use Rattle.hw_types.specs.declared.unit.Vertex.TheVariants as vertex
use Rattle.hw_types.specs.declared.answers.PairFault.TheVariants as fault
use Rattle.hw_types.specs.Graph.{Node, digest_eq, node_eq, are_different}
use Rattle.hw_types.specs.Below.{Among}
use Rattle.hw_types.specs.Votes.{weight_of}
use Rattle.hw_types.specs.Same.{unit_eq}
use Rattle.hw_types.specs.Settled.{validators, has_evidence, equivocates, settled_of}
use Rattle.hw_types.specs.Journal.{Setting, named, unit_of_vertex, evidence_in, received_of, evidence_fault}
use Rattle.hw_types.specs.Culprits.{evidence_units, shown_in, shown_in_either, equivocations_of, culprits_of}
use Rattle.hw_types.specs.Rules.{local_rule}
use Rattle.hw_types.specs.Lawful.{NoClash, settled_in_either, faulty_in_either}
use Rattle.hw_safety.specs.Safety.{HasPairs, CulpritsSafety}
use Rattle.hw_types.proofs.ClosureLaws.{Within, Among-filter, filter-Among}
use Rattle.hw_types.proofs.PastLaws.{some_of, any_of, or_cases}
use Rattle.hw_types.proofs.StableLaws.{and_parts, and_whole}
use Rattle.hw_types.proofs.SettledLaws.{digest_self}
use Rattle.hw_safety.proofs.WeightLaws.{weight_within}
use Rattle.hw_types.proofs.EntryLaws.{by_name_in, append_cases, mapped_among}
use Rattle.hw_types.proofs.UnionLaws.{from_left, from_right}
use Rattle.hw_types.proofs.WordsLaws.{range_in, not_false}
use Rattle.hw_safety.proofs.AccountLaws.{either_part, in_journal}
use Rattle.hw_safety.proofs.ConflictLaws.{conflict_safety}
use Rattle.hw_types.proofs.OrderLaws.{unit_same}

-- ---- two units show a culprit

record IsShownBy (xs : List Node) (v : ℕ) : Type 0 where
  first : Node
  second : Node
  first_in : Among first xs
  second_in : Among second xs
  first_made : first.unit.creator ≡ v
  second_made : second.unit.creator ≡ v
  one_number : second.unit.seq ≡ first.unit.seq
  differ : unit_eq first.unit second.unit ≡ false

forked : (xs : List Node) (v : ℕ) → IsShownBy xs v → list_any (λ x. true) (equivocations_of xs v) ≡ true
forked xs v h =
    let other : Node → Node → Bool = λ x y. (y.unit.creator == v) && (y.unit.seq == x.unit.seq) && not (unit_eq x.unit y.unit) in
    let equivocal : Node → Bool = λ x. (x.unit.creator == v) && list_any (λ y. (y.unit.creator == v) && (y.unit.seq == x.unit.seq) && not (unit_eq x.unit y.unit)) xs in
    any_of (λ x. true) h.first (equivocations_of xs v)
    (filter-Among equivocal h.first xs h.first_in
    (and_whole (h.first.unit.creator == v) (list_any (other h.first) xs) (eq-eqb h.first.unit.creator v h.first_made)
    (any_of (other h.first) h.second xs h.second_in
    (and_whole ((h.second.unit.creator == v) && (h.second.unit.seq == h.first.unit.seq)) (not (unit_eq h.first.unit h.second.unit))
    (and_whole (h.second.unit.creator == v) (h.second.unit.seq == h.first.unit.seq) (eq-eqb h.second.unit.creator v h.second_made) (eq-eqb h.second.unit.seq h.first.unit.seq h.one_number)) (ap not h.differ))))) refl

culprit : (s : Setting) (left right : List Vertex) (v : ℕ) → v < length s.config.weights → IsShownBy (shown_in_either s left right) v → list_any (λ w. w == v) (culprits_of s left right) ≡ true
unfolding culprits_of
culprit s left right v lt h =
    let test : ℕ → Bool = λ v. list_any (λ x. true) (equivocations_of (shown_in_either s left right) v) in
    any_of (λ w. w == v) v (filter test (validators s.config)) (filter-Among test v (validators s.config) (range_in 0 (length s.config.weights) v (omega arith) (omega arith)) (forked (shown_in_either s left right) v h)) (eq-eqb v v refl)

-- ---- evidence

pair_facts : (s : Setting) (e : Evidence) → evidence_fault s e ≡ None → (e.left.unit.creator ≡ e.right.unit.creator) × (e.left.unit.seq ≡ e.right.unit.seq) × (unit_eq e.left.unit e.right.unit ≡ false)
pair_facts s e h =
    let f = go (not (e.left.unit.creator == e.right.unit.creator) || nat_le (length s.config.weights) e.left.unit.creator) (not (e.left.unit.seq == e.right.unit.seq))
    (not (digest_eq e.left.unit.instance s.instance && digest_eq e.right.unit.instance s.instance)) (unit_eq e.left.unit e.right.unit) h in
    (eqb-true e.left.unit.creator e.right.unit.creator (first (e.left.unit.creator == e.right.unit.creator) (nat_le (length s.config.weights) e.left.unit.creator) f.0), eqb-true e.left.unit.seq e.right.unit.seq (not_false (e.left.unit.seq == e.right.unit.seq) f.1), f.2)
  where
    go : (a b c d : Bool) → cond a (Some fault.Creator) (cond b (Some fault.Sequence) (cond c (Some fault.Instance) (cond d (Some fault.Same) None))) ≡ None → (a ≡ false) × (b ≡ false) × (d ≡ false)
    go true b c d k = absurd cc
    go false true c d k = absurd cc
    go false false true d k = absurd cc
    go false false false true k = absurd cc
    go false false false false k = (refl, refl, refl)

    first : (a b : Bool) → (not a || b) ≡ false → a ≡ true
    first true b k = refl
    first false b k = absurd cc

evidence_among : (s : Setting) (journal : List Vertex) (e : Evidence) → Among (vertex.Evidence e) journal → Among (named s e.left.unit) (evidence_units s journal) × Among (named s e.right.unit) (evidence_units s journal)
evidence_among s [] e m = absurd m
evidence_among s (vertex.Evidence f ∷ vs) e (inl h) = let same : f ≡ e = cc in (inl (ap (λ (g : Evidence). named s g.left.unit) same), inr (inl (ap (λ (g : Evidence). named s g.right.unit) same)))
evidence_among s (vertex.Evidence f ∷ vs) e (inr m) = let r = evidence_among s vs e m in (inr (inr r.0), inr (inr r.1))
evidence_among s (vertex.Unit u ∷ vs) e (inl h) = absurd cc
evidence_among s (vertex.Unit u ∷ vs) e (inr m) = evidence_among s vs e m
evidence_among s (vertex.Endorsement u ∷ vs) e (inl h) = absurd cc
evidence_among s (vertex.Endorsement u ∷ vs) e (inr m) = evidence_among s vs e m

evidence_vertex : (s : Setting) (journal : List Vertex) (v : ℕ) → has_evidence (received_of s journal).with_evidence v ≡ true → (e : Evidence) × Among (vertex.Evidence e) journal × (e.left.unit.creator ≡ v)
unfolding received_of
evidence_vertex s journal v h =
    let test : ℕ → Bool = has_evidence (filter_map evidence_in journal) in
    let w = some_of (λ w. w == v) (filter test (validators s.config)) h in
    let z = some_of (λ z. z == w.0) (filter_map evidence_in journal) (Among-filter test w.0 (validators s.config) w.1).1 in
    let x = mapped_among evidence_in z.0 journal z.1 in
    let same : z.0 ≡ v = eqb-true z.0 w.0 z.2 ∙ eqb-true w.0 v w.2 in
    go x.0 x.1 (x.2 ∙ ap Some same)
  where
    go : (x : Vertex) → Among x journal → evidence_in x ≡ Some v → (e : Evidence) × Among (vertex.Evidence e) journal × (e.left.unit.creator ≡ v)
    go (vertex.Unit u) m k = absurd cc
    go (vertex.Evidence e) m k = (e, m, let made : e.left.unit.creator ≡ v = cc in made)
    go (vertex.Endorsement e) m k = absurd cc

evidence_shows : (s : Setting) (journal : List Vertex) (v : ℕ) → HasPairs s journal → has_evidence (received_of s journal).with_evidence v ≡ true → IsShownBy (shown_in s journal) v
evidence_shows s journal v pairs h =
    let e = evidence_vertex s journal v h in
    let f = pair_facts s e.0 (pairs e.0 (e.1)) in
    let m = evidence_among s journal e.0 e.1 in
    let settled : List Node = settled_of s.config (received_of s journal) in
    record {
      first = named s e.0.left.unit;
      second = named s e.0.right.unit;
      first_in = from_right (named s e.0.left.unit) settled (evidence_units s journal) m.0;
      second_in = from_right (named s e.0.right.unit) settled (evidence_units s journal) m.1;
      first_made = e.2;
      second_made = sym f.0 ∙ e.2;
      one_number = sym f.1;
      differ = f.2;
    }

more_shown : (xs ys : List Node) (v : ℕ) → Within xs ys → IsShownBy xs v → IsShownBy ys v
more_shown xs ys v w h = record {
  first = h.first;
  second = h.second;
  first_in = w h.first h.first_in;
  second_in = w h.second h.second_in;
  first_made = h.first_made;
  second_made = h.second_made;
  one_number = h.one_number;
  differ = h.differ;
}

-- ---- units of a journal have their names

received_named : (s : Setting) (journal : List Vertex) (u : Node) → Among u (received_of s journal).units → u.digest ≡ s.name u.unit
unfolding received_of
received_named s journal u m = let v = mapped_among (unit_of_vertex s) u journal (by_name_in (filter_map (unit_of_vertex s) journal) u m) in vertex_of v.0 v.2
  where
    unit_of : (w : WireUnit) → (b : Bool) → cond b (Some (named s w)) None ≡ Some u → u.digest ≡ s.name u.unit
    unit_of w true h = let same : named s w ≡ u = cc in subst (λ (z : Node). z.digest ≡ s.name z.unit) same refl
    unit_of w false h = absurd cc

    vertex_of : (v : Vertex) → unit_of_vertex s v ≡ Some u → u.digest ≡ s.name u.unit
    vertex_of (vertex.Unit w) h = unit_of w.unit (is_none (local_rule s.config s.instance w.unit)) h
    vertex_of (vertex.Evidence e) h = absurd cc
    vertex_of (vertex.Endorsement e) h = absurd cc

module _ (s : Setting) (left right : List Vertex) (left_pairs : HasPairs s left) (right_pairs : HasPairs s right) (apart : NoClash (received_of s left).units (received_of s right).units) where
  abbrev shown : List Node
  shown = shown_in_either s left right

  abbrev units : List Node
  units = settled_in_either s.config (received_of s left) (received_of s right)

  unit_facts : (x : Node) → Among x units → Among x shown × (x.digest ≡ s.name x.unit)
  unit_facts x m = elim (either_part s left right apart x m) [
    | inl a ↦ (from_left x (shown_in s left) (shown_in s right) (from_left x (settled_of s.config (received_of s left)) (evidence_units s left) a), received_named s left x (in_journal s left x a))
    | inr b ↦ (from_right x (shown_in s left) (shown_in s right) (from_left x (settled_of s.config (received_of s right)) (evidence_units s right) b), received_named s right x (in_journal s right x b))
  ]

  equivocation_shows : (v : ℕ) → equivocates units v ≡ true → IsShownBy shown v
  unfolding equivocates
  equivocation_shows v h =
      let x = some_of (λ x. (x.unit.creator == v) && list_any (λ y. (y.unit.creator == v) && (y.unit.seq == x.unit.seq) && are_different x y) units) units h in
      let p = and_parts (x.0.unit.creator == v) (list_any (λ y. (y.unit.creator == v) && (y.unit.seq == x.0.unit.seq) && are_different x.0 y) units) x.2 in
      let y = some_of (λ y. (y.unit.creator == v) && (y.unit.seq == x.0.unit.seq) && are_different x.0 y) units p.1 in
      let q = and_parts ((y.0.unit.creator == v) && (y.0.unit.seq == x.0.unit.seq)) (are_different x.0 y.0) y.2 in
      let r = and_parts (y.0.unit.creator == v) (y.0.unit.seq == x.0.unit.seq) q.0 in
      let fx = unit_facts x.0 x.1 in
      let fy = unit_facts y.0 y.1 in
      record {
        first = x.0;
        second = y.0;
        first_in = fx.0;
        second_in = fy.0;
        first_made = eqb-true x.0.unit.creator v p.0;
        second_made = eqb-true y.0.unit.creator v r.0;
        one_number = eqb-true y.0.unit.seq x.0.unit.seq r.1;
        differ = different x.0 y.0 fx.1 fy.1 q.1 (unit_eq x.0.unit y.0.unit) refl;
      }
    where
      different : (x y : Node) → x.digest ≡ s.name x.unit → y.digest ≡ s.name y.unit → are_different x y ≡ true → (b : Bool) → unit_eq x.unit y.unit ≡ b → b ≡ false
      different x y nx ny d false e = refl
      different x y nx ny d true e =
          let one : x.digest ≡ y.digest = nx ∙ ap s.name (unit_same x.unit y.unit e) ∙ sym ny in
          let yes : node_eq x y ≡ true = subst (λ z. digest_eq x.digest z ≡ true) one (digest_self x.digest) in
          absurd (let no : true ≡ false = sym d ∙ ap not yes in cc)

  faulty_shown : (v : ℕ) → faulty_in_either s.config (received_of s left) (received_of s right) v ≡ true → IsShownBy shown v
  faulty_shown v h = elim (or_cases (has_evidence ((received_of s left).with_evidence ++ (received_of s right).with_evidence) v) (equivocates units v) h) [
    | inl a ↦ (let w = some_of (λ w. w == v) ((received_of s left).with_evidence ++ (received_of s right).with_evidence) a in
        elim (append_cases w.0 (received_of s left).with_evidence (received_of s right).with_evidence w.1) [
          | inl m ↦ more_shown (shown_in s left) shown v (λ x n. from_left x (shown_in s left) (shown_in s right) n) (evidence_shows s left v left_pairs (any_of (λ w. w == v) w.0 (received_of s left).with_evidence m w.2))
          | inr m ↦ more_shown (shown_in s right) shown v (λ x n. from_right x (shown_in s left) (shown_in s right) n) (evidence_shows s right v right_pairs (any_of (λ w. w == v) w.0 (received_of s right).with_evidence m w.2))
        ])
    | inr e ↦ equivocation_shows v e
  ]

  -- the faulty weigh no more than the culprits
  pub culprits_weigh : weight_of s.config.weights (faulty_in_either s.config (received_of s left) (received_of s right)) ≤ weight_of s.config.weights (λ v. list_any (λ w. w == v) (culprits_of s left right))
  culprits_weigh = weight_within s.config.weights (faulty_in_either s.config (received_of s left) (received_of s right)) (λ v. list_any (λ w. w == v) (culprits_of s left right)) (λ v lt h. culprit s left right v lt (faulty_shown v h))

pub culprits_safety : CulpritsSafety
culprits_safety s left right a b i j p q left_pairs right_pairs apart stands_a stands_b m n off =
    let over = conflict_safety s left right a b i j p q apart stands_a stands_b m n off in
    let le = culprits_weigh s left right left_pairs right_pairs apart in
    omega arith
