-- Who equivocated by two journals.
use Rattle.std.proofs.Common.{◌≡◌, ℕ, zero, suc, ◌+◌, ◌<◌, inl, inr, Bool, true, false, List, [], ◌∷◌, ◌++◌, length, refl, sym, ap, subst, ◌∙◌, arith, eq-eqb}
use Rattle.std.specs.Prelude.{map, not, ◌&&◌, ◌==◌}
use Rattle.std.specs.List.{list_any, range_with_len, AllAdjacentBelow}
use Rattle.hw_types.specs.declared.unit.WireUnit.{WireUnit}
use Rattle.hw_types.specs.declared.unit.Vertex.{Vertex}
use Rattle.hw_types.specs.declared.answers.Culprit.{Culprit}
use Rattle.hw_types.specs.Graph.{Node}
use Rattle.hw_types.specs.Below.{Among}
use Rattle.hw_types.specs.Same.{unit_eq}
use Rattle.hw_types.specs.Settled.{validators}
use Rattle.hw_types.specs.Journal.{Setting}
use Rattle.hw_types.specs.Culprits.{equivocations_of, culprits_of, shown_in_either, SignedAs, IsShown, AreCulprits}
use Rattle.hw_types.proofs.ClosureLaws.{Among-filter, filter-Among}
use Rattle.hw_types.proofs.PastLaws.{any_of}
use Rattle.hw_types.proofs.StableLaws.{and_whole}
use Rattle.hw_types.proofs.WordsLaws.{range_in}
use Rattle.hw_types.proofs.OrderLaws.{unit_same}
use Rattle.hw_types.proofs.OrderedLaws.{all_among, among_all}
use Rattle.hw_safety.proofs.VerdictWeightLaws.{rise}
use Rattle.hw_culprits.proofs.PairLaws.{pair_is}
use Rattle.hw_theorem.specs.Equivocators.{AreTwo, Equivocated, ShowsTwo, AreEquivocators, CulpritsAreEquivocators}

-- the test tells two different units apart
apart : (u w : WireUnit) → (u ≡ w → ⊥) → unit_eq u w ≡ false
apart u w differ = go (unit_eq u w) refl
  where
    go : (b : Bool) → unit_eq u w ≡ b → b ≡ false
    go true same = absurd (differ (unit_same u w same))
    go false is = refl

-- ---- who equivocated

range_below : (a n v : ℕ) → Among v (range_with_len a n) → v < a + n
range_below a zero v m = absurd m
range_below a (suc n) v (inl e) = omega arith
range_below a (suc n) v (inr m) = let lt = range_below (a + 1) n v m in omega arith

module _ (s : Setting) (left right : List Vertex) where
  abbrev xs : List Node
  xs = shown_in_either s left right

  shows : (c : Culprit) → IsShown s left right c → ShowsTwo s left right c
  shows c is =
      let p = pair_is xs c.validator is.first is.second is.pair in
      let one : SignedAs (left ++ right) is.first c.first = is.first_bytes in
      let two : SignedAs (left ++ right) is.second c.second = is.second_bytes in
      record {
        first = one.0;
        second = two.0;
        first_is = one.3;
        second_is = two.3;
        are = record {
          first_shown = record { stands = one.1; node = is.first; shown = p.0; unit_is = one.2 };
          second_shown = record { stands = two.1; node = is.second; shown = p.1; unit_is = two.2 };
          first_by = ap (λ (u : WireUnit). u.creator) one.2 ∙ p.2.first_by;
          second_by = ap (λ (u : WireUnit). u.creator) two.2 ∙ p.2.second_by;
          one_number = ap (λ (u : WireUnit). u.seq) one.2 ∙ p.2.one_number ∙ sym (ap (λ (u : WireUnit). u.seq) two.2);
          differ = λ same. p.2.differ (sym one.2 ∙ same ∙ two.2);
        };
      }

  named : (cs : List Culprit) (v : ℕ) → Among v (map (λ (c : Culprit). c.validator) cs) → (c : Culprit) × Among c cs × (c.validator ≡ v)
  named [] v m = absurd m
  named (c ∷ cs) v (inl e) = (c, inl refl, e)
  named (c ∷ cs) v (inr m) = let r = named cs v m in (r.0, inr r.1, r.2)

  abbrev test : ℕ → Bool
  test v = list_any (λ x. true) (equivocations_of xs v)

  tested : (v : ℕ) → Among v (culprits_of s left right) → v < length s.config.weights
  unfolding culprits_of
  tested v m = let lt = range_below 0 (length s.config.weights) v (Among-filter test v (validators s.config) m).0 in omega arith

  counted : (v : ℕ) → v < length s.config.weights → test v ≡ true → Among v (culprits_of s left right)
  unfolding culprits_of
  counted v lt t = filter-Among test v (validators s.config) (range_in 0 (length s.config.weights) v (omega arith) (omega arith)) t

  equivocal : (v : ℕ) → Equivocated s left right v → test v ≡ true
  equivocal v e =
      let x = e.are.first_shown.node in
      let y = e.are.second_shown.node in
      let ux = e.are.first_shown.unit_is in
      let uy = e.are.second_shown.unit_is in
      let cx : x.unit.creator ≡ v = ap (λ (u : WireUnit). u.creator) (sym ux) ∙ e.are.first_by in
      let cy : y.unit.creator ≡ v = ap (λ (u : WireUnit). u.creator) (sym uy) ∙ e.are.second_by in
      let n : y.unit.seq ≡ x.unit.seq = ap (λ (u : WireUnit). u.seq) (sym uy) ∙ sym e.are.one_number ∙ ap (λ (u : WireUnit). u.seq) ux in
      let d : unit_eq x.unit y.unit ≡ false = apart x.unit y.unit (λ same. e.are.differ (ux ∙ same ∙ sym uy)) in
      let twin : Node → Bool = λ z. (z.unit.creator == v) && (z.unit.seq == x.unit.seq) && not (unit_eq x.unit z.unit) in
      let forked : Node → Bool = λ z. (z.unit.creator == v) && list_any (λ w. (w.unit.creator == v) && (w.unit.seq == z.unit.seq) && not (unit_eq z.unit w.unit)) xs in
      let is_other : twin y ≡ true = and_whole ((y.unit.creator == v) && (y.unit.seq == x.unit.seq)) (not (unit_eq x.unit y.unit))
      (and_whole (y.unit.creator == v) (y.unit.seq == x.unit.seq) (eq-eqb y.unit.creator v cy) (eq-eqb y.unit.seq x.unit.seq n)) (ap not d) in
      let is_forked : forked x ≡ true = and_whole (x.unit.creator == v) (list_any twin xs) (eq-eqb x.unit.creator v cx) (any_of twin y xs e.are.second_shown.shown is_other) in
      any_of (λ z. true) x (equivocations_of xs v) (filter-Among forked x xs e.are.first_shown.shown is_forked) refl

  equivocators : (cs : List Culprit) → AreCulprits s left right cs → AreEquivocators s left right cs
  equivocators cs are = record {
    exactly = λ v. (to v, from v);
    rising = subst (λ (vs : List ℕ). AllAdjacentBelow (λ v w. v < w) vs (length vs)) (sym are.validators_are) (rise s left right);
    shown = among_all (ShowsTwo s left right) cs (λ c m. shows c (all_among (IsShown s left right) cs are.each c m));
  }
    where
      to : (v : ℕ) → Among v (map (λ (c : Culprit). c.validator) cs) → Equivocated s left right v
      to v m =
          let c = named cs v m in
          let t = shows c.0 (all_among (IsShown s left right) cs are.each c.0 c.1) in
          record {
            is_validator = tested v (subst (λ (vs : List ℕ). Among v vs) are.validators_are m);
            first = t.first;
            second = t.second;
            are = subst (λ w. AreTwo s left right w t.first t.second) c.2 t.are;
          }

      from : (v : ℕ) → Equivocated s left right v → Among v (map (λ (c : Culprit). c.validator) cs)
      from v e = subst (λ (vs : List ℕ). Among v vs) (sym are.validators_are) (counted v e.is_validator (equivocal v e))

pub culprits_are : CulpritsAreEquivocators
culprits_are s left right cs are = equivocators s left right cs are
