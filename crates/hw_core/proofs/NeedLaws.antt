-- What one settled unit more changes in what units miss.
use Rattle.std.proofs.Common.{◌≡◌, ℕ, inl, inr, Bool, true, false, not, List, [], ◌∷◌, ◌++◌, length, map, filter, refl, sym, ap, subst, ◌∙◌, eq-eqb}
use Rattle.std.specs.Prelude.{◌||◌, ◌==◌}
use Rattle.std.specs.List.{list_any}
use Rattle.std.proofs.lemmas.Bool.{cases_eq, ne_eqb}
use Rattle.hw_types.specs.declared.unit.Digest.{Digest}
use Rattle.hw_types.specs.declared.unit.Need.{Need}
use Rattle.hw_types.specs.declared.unit.Need.TheVariants as need
use Rattle.hw_types.specs.declared.unit.Obs.{Obs}
use Rattle.hw_types.specs.declared.unit.Obs.TheVariants.{Absent, Correct, Faulty}
use Rattle.hw_types.specs.declared.config.Config.{Config}
use Rattle.hw_types.specs.Graph.{Node, digest_eq, slot, slots, is_faulty_mark}
use Rattle.hw_types.specs.Below.{Among}
use Rattle.hw_types.specs.Settled.{Received, has_evidence, equivocates, is_faulty, is_endorsed, need_eq, needs_of, unit_needs, evidence_needs, is_need_met, missing_of}
use Rattle.hw_types.specs.laws.StateLaws.{HasOneMore}
use Rattle.hw_types.proofs.ClosureLaws.{filter-Among}
use Rattle.hw_types.proofs.PastLaws.{or_cases, or_left, or_right, some_of, any_of, any_within}
use Rattle.hw_types.proofs.StableLaws.{both_ways, and_parts, and_whole}
use Rattle.hw_types.proofs.SettledLaws.{digest_same, distinct_has, unit_need_of, append_left, each_met}
use Rattle.hw_types.proofs.TipLaws.{faulty_but}
use Rattle.hw_types.proofs.UnionLaws.{from_right}
use Rattle.hw_types.proofs.EntryLaws.{among_map}
use Rattle.hw_types.proofs.WordsLaws.{slots_in, slot_in}
use Rattle.hw_park.specs.Parked.{without_need}

-- ---- needs that are met

-- where one need more is met, it is struck from what is missing
pub filter_struck : (met later : Need → Bool) (k : Need) → ((n : Need) → later n ≡ (met n || need_eq k n)) → (ns : List Need)
    → filter (λ n. not (later n)) ns ≡ filter (λ m. not (need_eq k m)) (filter (λ n. not (met n)) ns)
filter_struck met later k same [] = refl
filter_struck met later k same (n ∷ ns) = go (met n) (need_eq k n) refl refl (filter_struck met later k same ns)
  where
    go : (a b : Bool) → met n ≡ a → need_eq k n ≡ b → filter (λ n. not (later n)) ns ≡ filter (λ m. not (need_eq k m)) (filter (λ n. not (met n)) ns)
        → filter (λ n. not (later n)) (n ∷ ns) ≡ filter (λ m. not (need_eq k m)) (filter (λ n. not (met n)) (n ∷ ns))
    go true b e f rest = let l : later n ≡ true = same n ∙ ap (λ (x : Bool). x || need_eq k n) e in rw (l, e) rest
    go false true e f rest = let l : later n ≡ true = same n ∙ ap (λ (x : Bool). x || need_eq k n) e ∙ f in rw (l, e, f) rest
    go false false e f rest = let l : later n ≡ false = same n ∙ ap (λ (x : Bool). x || need_eq k n) e ∙ f in rw (l, e, f) (ap (λ (xs : List Need). n ∷ xs) rest)

-- nothing is missing where each need is met
met_each : (config : Config) (known : Received) (units : List Node) (u : Node) → missing_of config known units u ≡ [] → (n : Need) → Among n (needs_of u) → is_need_met config known units n ≡ true
unfolding missing_of
met_each config known units u none n m = each_met (is_need_met config known units) (needs_of u) (ap (λ (ns : List Need). length ns == 0) none) n m

-- each unit that is cited is there
pub cited_met : (config : Config) (known : Received) (units : List Node) (u : Node) → missing_of config known units u ≡ [] → (d : Digest) → Among (Correct d) u.unit.panorama → (x : Node) × Among x units × (x.digest ≡ d)
unfolding needs_of
cited_met config known units u none d m =
    let there : Among (need.Unit d) (needs_of u) = distinct_has (need.Unit d) _ (append_left (need.Unit d) (unit_needs u.unit.panorama ++ evidence_needs u.unit.panorama) (map need.Endorsed u.unit.endorsed)
    (append_left (need.Unit d) (unit_needs u.unit.panorama) (evidence_needs u.unit.panorama) (unit_need_of d u.unit.panorama m))) in
    let x = some_of (λ y. digest_eq y.digest d) units (met_each config known units u none (need.Unit d) there) in
    (x.0, x.1, digest_same x.0.digest d x.2)

mark_is : (o : Obs) → is_faulty_mark o ≡ true → o ≡ Faulty
mark_is Faulty h = refl
mark_is Absent h = absurd cc
mark_is (Correct d) h = absurd cc

-- each validator that is marked is faulty
pub marked_met : (config : Config) (known : Received) (units : List Node) (u : Node) → missing_of config known units u ≡ [] → (v : ℕ) → is_faulty_mark (slot u.unit.panorama v) ≡ true → is_faulty known units v ≡ true
unfolding needs_of
marked_met config known units u none v t =
    let marked : ℕ → Bool = λ w. is_faulty_mark (slot u.unit.panorama w) in
    let inside = (slot_in u.unit.panorama v Faulty (mark_is (slot u.unit.panorama v) t) (λ no. cc)).1 in
    let here : Among (need.Evidence v) (evidence_needs u.unit.panorama) = among_map need.Evidence v (filter marked (slots u.unit.panorama)) (filter-Among marked v (slots u.unit.panorama) (slots_in u.unit.panorama v inside) t) in
    let there : Among (need.Evidence v) (needs_of u) = distinct_has (need.Evidence v) _ (append_left (need.Evidence v) (unit_needs u.unit.panorama ++ evidence_needs u.unit.panorama) (map need.Endorsed u.unit.endorsed)
    (from_right (need.Evidence v) (unit_needs u.unit.panorama) (evidence_needs u.unit.panorama) here)) in
    met_each config known units u none (need.Evidence v) there

-- ---- one unit more

module _ (config : Config) (known : Received) (units more : List Node) (x : Node) (one : HasOneMore units more x) where
  abbrev c : ℕ
  c = x.unit.creator

  same_named : (d : Digest) → list_any (λ y. digest_eq y.digest d) more ≡ (list_any (λ y. digest_eq y.digest d) units || digest_eq x.digest d)
  same_named d = both_ways (list_any (λ y. digest_eq y.digest d) more) (list_any (λ y. digest_eq y.digest d) units || digest_eq x.digest d) there back
    where
      there : list_any (λ y. digest_eq y.digest d) more ≡ true → (list_any (λ y. digest_eq y.digest d) units || digest_eq x.digest d) ≡ true
      there t =
          let y = some_of (λ y. digest_eq y.digest d) more t in
          elim (one.no_other y.0 y.1) [
            | inl old ↦ or_left (list_any (λ y. digest_eq y.digest d) units) (digest_eq x.digest d) (any_of (λ y. digest_eq y.digest d) y.0 units old y.2)
            | inr same ↦ or_right (list_any (λ y. digest_eq y.digest d) units) (digest_eq x.digest d) (subst (λ (z : Node). digest_eq z.digest d ≡ true) same y.2)
          ]

      back : (list_any (λ y. digest_eq y.digest d) units || digest_eq x.digest d) ≡ true → list_any (λ y. digest_eq y.digest d) more ≡ true
      back t = elim (or_cases (list_any (λ y. digest_eq y.digest d) units) (digest_eq x.digest d) t) [
        | inl old ↦ any_within (λ y. digest_eq y.digest d) units more one.part old
        | inr here ↦ any_of (λ y. digest_eq y.digest d) x more one.new here
      ]

  or_no : (b : Bool) → b ≡ (b || false)
  or_no true = refl
  or_no false = refl

  or_yes : (b : Bool) → true ≡ (b || true)
  or_yes true = refl
  or_yes false = refl

  no_more : (a b : Bool) → (a ≡ true → b ≡ true) → b ≡ false → b ≡ a
  no_more true b f e = absurd (let t = f refl in cc (sym t ∙ e))
  no_more false b f e = e

  more_equivocate : (v : ℕ) → equivocates units v ≡ true → equivocates more v ≡ true
  unfolding equivocates
  more_equivocate v h =
      let x = some_of _ units h in
      let both = and_parts _ _ x.2 in
      any_of _ x.0 more (one.part x.0 x.1) (and_whole _ _ both.0 (any_within _ units more one.part both.1))

  still_faulty : (v : ℕ) → is_faulty known units v ≡ true → is_faulty known more v ≡ true
  still_faulty v h = elim (or_cases (has_evidence known.with_evidence v) (equivocates units v) h) [
    | inl a ↦ or_left (has_evidence known.with_evidence v) (equivocates more v) a
    | inr b ↦ or_right (has_evidence known.with_evidence v) (equivocates more v) (more_equivocate v b)
  ]

  -- ---- its creator isn't faulty

  met_unit : is_faulty known more c ≡ false → (n : Need) → is_need_met config known more n ≡ (is_need_met config known units n || need_eq (need.Unit x.digest) n)
  met_unit good (need.Unit d) = same_named d
  met_unit good (need.Evidence v) = elim (cases_eq v c) [
    | inl same ↦ subst (λ (w : ℕ). is_faulty known more w ≡ (is_faulty known units w || false)) (sym same)
        (no_more (is_faulty known units c) (is_faulty known more c) (still_faulty c) good ∙ or_no (is_faulty known units c))
    | inr other ↦ faulty_but known units more x one.part one.no_other v other ∙ or_no (is_faulty known units v)
  ]
  met_unit good (need.Endorsed d) = or_no (is_endorsed config known d)

  pub missing_unit : is_faulty known more c ≡ false → (u : Node) → missing_of config known more u ≡ without_need (need.Unit x.digest) (missing_of config known units u)
  unfolding missing_of
  missing_unit good u = filter_struck (is_need_met config known units) (is_need_met config known more) (need.Unit x.digest) (met_unit good) (needs_of u)

  -- ---- its creator is faulty

  abbrev met_name : Need → Bool
  met_name n = is_need_met config known units n || need_eq (need.Unit x.digest) n

  met_both : is_faulty known more c ≡ true → (n : Need) → is_need_met config known more n ≡ (met_name n || need_eq (need.Evidence c) n)
  met_both bad (need.Unit d) = same_named d ∙ or_no (list_any (λ y. digest_eq y.digest d) units || digest_eq x.digest d)
  met_both bad (need.Evidence v) = elim (cases_eq v c) [
    | inl same ↦ subst (λ (w : ℕ). is_faulty known more w ≡ ((is_faulty known units w || false) || (c == w))) (sym same)
        (bad ∙ or_yes (is_faulty known units c || false) ∙ ap (λ (b : Bool). (is_faulty known units c || false) || b) (sym (eq-eqb c c refl)))
    | inr other ↦
        faulty_but known units more x one.part one.no_other v other
        ∙ or_no (is_faulty known units v)
        ∙ or_no (is_faulty known units v || false)
        ∙ ap (λ (b : Bool). (is_faulty known units v || false) || b) (sym (ne_eqb c v (λ e. other (sym e))))
  ]
  met_both bad (need.Endorsed d) = or_no (is_endorsed config known d) ∙ or_no (is_endorsed config known d || false)

  pub missing_both : is_faulty known more c ≡ true → (u : Node)
      → missing_of config known more u ≡ without_need (need.Evidence c) (without_need (need.Unit x.digest) (missing_of config known units u))
  unfolding missing_of
  missing_both bad u =
      filter_struck met_name (is_need_met config known more) (need.Evidence c) (met_both bad) (needs_of u)
      ∙ ap (λ (ns : List Need). filter (λ m. not (need_eq (need.Evidence c) m)) ns) (filter_struck (is_need_met config known units) met_name (need.Unit x.digest) (λ n. refl) (needs_of u))
