-- What was noted, one unit more.
use Rattle.std.proofs.Common.{◌≡◌, ◌≢◌, ℕ, ◌+◌, ◌<◌, ◌≤◌, inl, inr, List, length, Option, sym, ap, subst, ◌∙◌, arith}
use Rattle.std.proofs.lemmas.Bool.{cases_lt}
use Rattle.hw_types.specs.declared.unit.Digest.{Digest}
use Rattle.hw_dag.specs.declared.numbers.UnitNo.{UnitNo}
use Rattle.hw_dag.specs.declared.numbers.View.{View}
use Rattle.hw_dag.specs.declared.numbers.View.TheVariants as view
use Rattle.hw_dag.specs.Dag.{UnitGraph, unit_at, count_of, node_at, graph, view_at}
use Rattle.hw_naivety.specs.Tips.{IsTip, TipsAre, LanesAre, HasTips, TipTable, AreRows, IsGrown, tip_at}
use Rattle.hw_naivety.specs.Naivety.{NaiveTips, IsNoted, KeepsEndorsed, HasNoNaiveFork}
use Rattle.hw_naivety.proofs.RowLaws.{rows_own, tips_grown}

pub moved : (F : List View → List Digest → Type 0) (p q : List View) (d e : List Digest) → p ≡ q → d ≡ e → F p d → F q e
moved F p q d e a b h = subst (λ (x : List View). F x e) a (subst (λ (y : List Digest). F p y) b h)

-- the tips of observed units that were all noted
pub has_tips : (dag : UnitGraph) (panorama : List View) (count : ℕ) (tips : TipTable) → TipsAre dag count tips → count ≤ length tips.places
    → ((slot : ℕ) (cited : UnitNo) → view_at panorama slot ≡ view.Correct cited → cited.0 < count) → HasTips dag panorama tips
has_tips dag panorama count tips are room noted = record {
  kept = λ slot cited e. let less = noted slot cited e in omega arith;
  right = λ slot cited v e small. are cited.0 v (noted slot cited e) small;
}

-- the same over more rows
pub noted_grown : (dag : UnitGraph) (old new : NaiveTips) (wanted : ℕ) (before after : TipTable) → new.validators ≡ old.validators → new.count ≡ old.count → new.lanes ≡ old.lanes
    → old.tips ≡ before → new.tips ≡ after → old.count ≤ length before.places → AreRows old.validators before → IsGrown wanted before after → IsNoted old dag → IsNoted new dag
noted_grown dag old new wanted before after sv sc sl sb sa room rows grown h = record {
  validators_are = sv ∙ h.validators_are;
  within = subst (λ (k : ℕ). k ≤ count_of dag) (sym sc) h.within;
  endorsed = λ n lt. h.endorsed n (less n lt);
  forkless = λ n lt. h.forkless n (less n lt);
  tips_are = λ n v lt small. subst (λ (o : Option UnitNo). IsTip dag (unit_at dag n).panorama (unit_at dag n).signed.unit.endorsed v o) (stay n v (less n lt) small) (h.tips_are n v (less n lt) small);
  lanes_are = subst (λ (ws : List View). LanesAre dag new.count ws) (sym sl) (subst (λ (k : ℕ). LanesAre dag k old.lanes) (sym sc) h.lanes_are);
}
  where
    less : (n : ℕ) → n < new.count → n < old.count
    less n lt = subst (λ (k : ℕ). n < k) sc lt

    stay : (n v : ℕ) → n < old.count → v < dag.validators → tip_at dag old.tips n v ≡ tip_at dag new.tips n v
    stay n v lt small =
        ap (λ (tips : TipTable). tip_at dag tips n v) sb
        ∙ sym (tips_grown dag wanted before after (rows_own old.validators before rows) grown n v (omega arith) (subst (λ (k : ℕ). v < k) (sym (rows.validators_are ∙ h.validators_are)) small))
        ∙ sym (ap (λ (tips : TipTable). tip_at dag tips n v) sa)

pub noted_next : (dag : UnitGraph) (old new : NaiveTips) (unit : ℕ) → IsNoted old dag → old.count ≡ unit → unit < count_of dag → KeepsEndorsed (graph dag) (node_at dag unit) → HasNoNaiveFork (graph dag) (node_at dag unit)
    → new.validators ≡ old.validators → new.count ≡ unit + 1
    → ((v : ℕ) → v < dag.validators → IsTip dag (unit_at dag unit).panorama (unit_at dag unit).signed.unit.endorsed v (tip_at dag new.tips unit v))
    → ((n v : ℕ) → n ≢ unit → v < dag.validators → tip_at dag new.tips n v ≡ tip_at dag old.tips n v)
    → LanesAre dag (unit + 1) new.lanes → IsNoted new dag
noted_next dag old new unit h next known keeps forkless sv sc filled stay lanes = record {
  validators_are = sv ∙ h.validators_are;
  within = omega arith;
  endorsed = λ n lt. each (λ (k : ℕ). KeepsEndorsed (graph dag) (node_at dag k)) h.endorsed keeps n lt;
  forkless = λ n lt. each (λ (k : ℕ). HasNoNaiveFork (graph dag) (node_at dag k)) h.forkless forkless n lt;
  tips_are = λ n v lt small. each (λ (k : ℕ). IsTip dag (unit_at dag k).panorama (unit_at dag k).signed.unit.endorsed v (tip_at dag new.tips k v))
      (λ k less. subst (λ (o : Option UnitNo). IsTip dag (unit_at dag k).panorama (unit_at dag k).signed.unit.endorsed v o) (sym (stay k v (λ e. absurd (omega arith)) small)) (h.tips_are k v less small)) (filled v small) n lt;
  lanes_are = subst (λ (k : ℕ). LanesAre dag k new.lanes) (sym sc) lanes;
}
  where
    each : (P : ℕ → Type 0) → ((k : ℕ) → k < old.count → P k) → P unit → (n : ℕ) → n < new.count → P n
    each P before here n lt = elim (cases_lt n unit) [
      | inl less ↦ before n (omega arith)
      | inr above ↦ (let same : unit ≡ n = omega arith in subst P same here)
    ]
