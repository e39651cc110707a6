-- Culprits, validator by validator.
use Rattle.std.proofs.Common.{◌≡◌, ℕ, zero, suc, ◌+◌, ◌≤◌, ◌<◌, ◌⊎◌, inl, inr, Bool, false, cond, List, [], ◌∷◌, ◌++◌, length, take, sum, Some, sym, ap, subst, ◌∙◌, arith}
use Rattle.std.specs.Prelude.{map, filter, sum_by, slice_index, All}
use Rattle.std.specs.List.{range_with_len}
use Rattle.std.proofs.lemmas.List.{map-append, append-nil}
use Rattle.std.proofs.lemmas.List.Elements.{filter-append, All-append}
use Rattle.std.proofs.lemmas.List.Sums.{sum_by-append, sum_by_more, sum_by-take-le}
use Rattle.hw_types.specs.declared.answers.Culprit.{Culprit}
use Rattle.hw_types.specs.Graph.{Node}
use Rattle.hw_audit.specs.declared.culprits.Blamed.{Blamed}
use Rattle.hw_types.proofs.OrderedLaws.{among_all}
use Rattle.hw_audit.specs.Held.{HeldUnit}
use Rattle.hw_audit.specs.Twins.{PairUnits, IsPairOf}
use Rattle.hw_safety.specs.Pairs.{is_culprit}
use Rattle.hw_audit.specs.Shown.{shown_as, IsShownBy, first_culprits, ShowsFirst}

range_more : (a n : ℕ) → range_with_len a (suc n) ≡ range_with_len a n ++ (a + n) ∷ []
range_more a zero = let same : a ≡ a + 0 = omega arith in ap (λ (k : ℕ). k ∷ []) same
range_more a (suc n) = let same : (a + 1) + n ≡ a + suc n = omega arith in ap (λ (ks : List ℕ). a ∷ ks) (range_more (a + 1) n ∙ ap (λ (k : ℕ). range_with_len (a + 1) n ++ k ∷ []) same)

range_next : (v : ℕ) → range_with_len 0 (v + 1) ≡ range_with_len 0 v ++ v ∷ []
range_next v =
    let next : v + 1 ≡ suc v = omega arith in
    let same : 0 + v ≡ v = omega arith in
    ap (range_with_len 0) next ∙ range_more 0 v ∙ ap (λ (k : ℕ). range_with_len 0 v ++ k ∷ []) same

module _ (hs : List HeldUnit) (xs : List Node) (weights : List ℕ) (v : ℕ) (b : Blamed) (shows : ShowsFirst hs xs weights v b) where
  first_more : first_culprits xs (v + 1) ≡ first_culprits xs v ++ cond (is_culprit xs v) (v ∷ []) []
  first_more = ap (filter (is_culprit xs)) (range_next v) ∙ filter-append (is_culprit xs) (range_with_len 0 v) (v ∷ [])

  -- the validator is no culprit
  pub shows_none : is_culprit xs v ≡ false → ShowsFirst hs xs weights (v + 1) b
  shows_none none =
      let same : first_culprits xs (v + 1) ≡ first_culprits xs v = first_more ∙ ap (λ (t : Bool). first_culprits xs v ++ cond t (v ∷ []) []) none ∙ append-nil (first_culprits xs v) in
      record {
        validators_are = shows.validators_are ∙ sym same;
        each = shows.each;
        weight_is = shows.weight_is ∙ ap (λ (vs : List ℕ). sum_by (λ w. slice_index weights w) vs) (sym same);
      }

  -- it is one
  pub shows_more : (p : PairUnits) (c : Culprit) → IsPairOf hs xs v (Some p) → c ≡ shown_as v p → (new : Blamed) → new.culprits ≡ b.culprits ++ c ∷ [] → new.weight ≡ b.weight + slice_index weights v
      → ShowsFirst hs xs weights (v + 1) new
  shows_more p c pair is new list weight =
      let same : first_culprits xs (v + 1) ≡ first_culprits xs v ++ v ∷ [] = first_more ∙ ap (λ (t : Bool). first_culprits xs v ++ cond t (v ∷ []) []) pair.0 in
      let validator : c.validator ≡ v = ap (λ (d : Culprit). d.validator) is in
      let more = sum_by-append (λ w. slice_index weights w) (first_culprits xs v) (v ∷ []) in
      let sums = ap (λ (vs : List ℕ). sum_by (λ w. slice_index weights w) vs) same in
      let was = shows.weight_is in
      let one : sum_by (λ w. slice_index weights w) (v ∷ []) ≡ slice_index weights v = (let zero_first : 0 + slice_index weights v ≡ slice_index weights v = omega arith in zero_first) in
      record {
        validators_are =
            ap (map (λ (d : Culprit). d.validator)) list ∙ map-append (λ (d : Culprit). d.validator) b.culprits (c ∷ [])
            ∙ ap (λ (vs : List ℕ). vs ++ c.validator ∷ []) shows.validators_are ∙ ap (λ (w : ℕ). first_culprits xs v ++ w ∷ []) validator ∙ sym same;
        each = subst (λ (cs : List Culprit). All (IsShownBy hs xs) cs) (sym list) (All-append (IsShownBy hs xs) b.culprits (c ∷ []) shows.each (among_all (IsShownBy hs xs) (c ∷ []) only));
        weight_is = omega arith;
      }
    where
      shown_one : IsShownBy hs xs c
      shown_one = let validator : c.validator ≡ v = ap (λ (d : Culprit). d.validator) is in record {
        pair = p;
        pair_is = subst (λ (w : ℕ). Rattle.hw_types.specs.Culprits.pair_of xs w ≡ Some (Rattle.hw_audit.specs.Held.node_held p.first, Rattle.hw_audit.specs.Held.node_held p.second)) (sym validator) pair.1;
        first_in = pair.2;
        second_in = pair.3;
        culprit_is = is ∙ ap (λ (w : ℕ). shown_as w p) (sym validator);
      }

      only : (d : Culprit) → ((c ≡ d) ⊎ ⊥) → IsShownBy hs xs d
      only d (inl e) = subst (IsShownBy hs xs) e shown_one
      only d (inr never) = absurd never

-- ---- sums of weights

pub sum_more : (weights : List ℕ) (v : ℕ) → v < length weights → sum (take (v + 1) weights) ≡ sum (take v weights) + slice_index weights v
sum_more weights v lt = sum_by_more (λ w. w) weights v 0 lt

pub sum_part : (weights : List ℕ) (v : ℕ) → sum (take v weights) ≤ sum weights
sum_part weights v = sum_by-take-le (λ w. w) weights v
