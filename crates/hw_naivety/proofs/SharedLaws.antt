-- A row that observed units have in common.
use Rattle.std.proofs.lemmas.Bool.{cases_lt}
use Rattle.std.proofs.Common.{◌≡◌, ◌≢◌, ℕ, zero, suc, ◌<◌, ◌≤◌, inl, inr, true, List, Option, Some, None, refl, sym, ap, subst, ◌∙◌, arith, get_or}
use Rattle.hw_types.specs.declared.unit.Digest.{Digest}
use Rattle.hw_dag.specs.declared.numbers.UnitNo.{UnitNo}
use Rattle.hw_dag.specs.declared.numbers.View.{View}
use Rattle.hw_dag.specs.declared.numbers.View.TheVariants as view
use Rattle.hw_dag.specs.Dag.{UnitGraph, unit_at, view_at, IsPanorama}
use Rattle.hw_dag.specs.Admission.{IsGraph}
use Rattle.hw_dag.specs.Lanes.{is_seen}
use Rattle.hw_dag.proofs.LaneLaws.{lane_is_seen}
use Rattle.hw_naivety.specs.Rows.{TipRows}
use Rattle.hw_naivety.specs.Tips.{IsNaive, IsUnder, IsNaiveTip, IsTip, HasLists, IsRaisedOver, HasTips, TipTable, said_tip, placed_slot, placed_tip, tip_at}
use Rattle.hw_naivety.specs.declared.shared.Span.{Span}
use Rattle.hw_naivety.specs.declared.shared.Shared.{Shared}
use Rattle.hw_naivety.specs.Shared.{IsBeside, IsShared, HasTipOf, StandsFor, place_seen}
use Rattle.hw_naivety.proofs.BelowLaws.{seen_trans}
use Rattle.hw_naivety.proofs.RowLaws.{slot_small}
use Rattle.hw_naivety.proofs.TipLaws.{below_seen, tip_candidate}

-- where a row says something it doesn't matter what is observed
said_same : (v w said : View) → said ≢ view.Absent → said_tip v said ≡ said_tip w said
said_same v w view.Absent other = absurd (other refl)
said_same v w (view.Correct tip) other = refl
said_same v w view.Faulty other = refl

-- units with one row that says something of a creator have one tip of it
one_tip : (dag : UnitGraph) (tips : TipTable) (n m v place : ℕ) → placed_slot tips.rows v place ≢ view.Absent → get_or tips.places n 0 ≡ place → get_or tips.places m 0 ≡ place → tip_at dag tips n v ≡ tip_at dag tips m v
one_tip dag tips n m v place says en em =
    ap (λ (k : ℕ). placed_tip tips.rows (view_at (unit_at dag n).panorama v) v k) en
    ∙ said_same (view_at (unit_at dag n).panorama v) (view_at (unit_at dag m).panorama v) (placed_slot tips.rows v place) says
    ∙ sym (ap (λ (k : ℕ). placed_tip tips.rows (view_at (unit_at dag m).panorama v) v k) em)

-- a place of a row that says something isn't 0
says_place : (rows : TipRows) (v place : ℕ) → placed_slot rows v place ≢ view.Absent → place ≡ 0 → ⊥
says_place rows v zero says e = says refl
says_place rows v (suc row) says e = absurd cc

-- the source's unit stands for all beside the span, where its row says something of the creator
pub shared_stands : (validators : ℕ) (dag : UnitGraph) (panorama : List View) (tips : TipTable) (v : ℕ) (shared : Shared) → IsShared validators panorama tips shared → view_at panorama v ≡ view.Faulty → placed_slot tips.rows v shared.source.place ≢ view.Absent
    → StandsFor validators dag panorama tips v shared.source.slot shared.span
shared_stands validators dag panorama tips v shared is marked says = record {
  within = is.places_are.within;
  beside = λ slot cited small beside e.
      let here = is.places_are.beside slot small beside cited e in (
        λ own. (let both : view.Correct cited ≡ view.Faulty = sym e ∙ ap (λ (k : ℕ). view_at panorama k) own ∙ marked in absurd cc),
        elim is.source_is.place_is [
          | inl none ↦ absurd (says_place tips.rows v shared.source.place says none)
          | inr there ↦ from cited here (view_at panorama shared.source.slot) refl there
        ],
      );
}
  where
    from : (cited : UnitNo) → get_or tips.places cited.0 0 ≡ shared.source.place → (w : View) → view_at panorama shared.source.slot ≡ w → place_seen tips w ≡ shared.source.place → HasTipOf dag panorama tips v shared.source.slot cited
    from cited here view.Absent e there = absurd (says_place tips.rows v shared.source.place says (sym there))
    from cited here (view.Correct source) e there = record { from = source; observed = e; tip_is = one_tip dag tips cited.0 source.0 v shared.source.place says here there }
    from cited here view.Faulty e there = absurd (says_place tips.rows v shared.source.place says (sym there))

-- where all slots are in the span there is nothing to stand for
pub whole_stands : (validators : ℕ) (dag : UnitGraph) (panorama : List View) (tips : TipTable) (v source : ℕ) → StandsFor validators dag panorama tips v source (record { first = 0; end = validators })
whole_stands validators dag panorama tips v source = record {
  within = omega arith;
  beside = λ slot cited small beside e. elim beside [
    | inl before ↦ absurd (omega arith)
    | inr after ↦ absurd (omega arith)
  ];
}

-- the tip stands for what the unit that is observed in the slot is or has below it
abbrev pub IsOver : UnitGraph → List View → List Digest → ℕ → ℕ → Option UnitNo → Type 0
IsOver dag panorama endorsed v slot tip = (cited : UnitNo) (n : ℕ) → view_at panorama slot ≡ view.Correct cited → IsNaive dag panorama endorsed v n → is_seen dag n cited.0 ≡ true → IsUnder dag n tip

-- it goes on to do so as it is raised
pub over_raised : (dag : UnitGraph) (panorama : List View) (endorsed : List Digest) (v slot other : ℕ) (tip raised : Option UnitNo) → IsRaisedOver dag panorama endorsed v other tip raised → IsOver dag panorama endorsed v slot tip
    → IsOver dag panorama endorsed v slot raised
over_raised dag panorama endorsed v slot other tip raised r over = λ cited n e h s. r.kept n h.known (over cited n e h s)

module _ (dag : UnitGraph) (g : IsGraph dag) (panorama : List View) (panorama_is : IsPanorama dag panorama) (endorsed : List Digest) (lists : HasLists dag panorama endorsed) (tips : TipTable) (has : HasTips dag panorama tips) where
  -- what is naive and seen by a unit is seen by the one that stands for it
  stand_seen : (v source slot n : ℕ) (cited : UnitNo) → v < dag.validators → (slot ≡ v → ⊥) → view_at panorama slot ≡ view.Correct cited → (h : HasTipOf dag panorama tips v source cited) → IsNaive dag panorama endorsed v n
      → is_seen dag n cited.0 ≡ true → is_seen dag n h.from.0 ≡ true
  stand_seen v source slot n cited small other e h naive s =
      go (tip_at dag tips h.from.0 v) refl
      (subst (λ (o : Option UnitNo). IsUnder dag n o) h.tip_is (tip_candidate dag g panorama panorama_is endorsed lists slot cited v n (tip_at dag tips cited.0 v) e other (has.right slot cited v e small) naive s))
    where
      go : (tip : Option UnitNo) → tip_at dag tips h.from.0 v ≡ tip → IsUnder dag n tip → is_seen dag n h.from.0 ≡ true
      go None at under = absurd under
      go (Some t) at under =
          let low = (has.right source h.from v h.observed small).naive t at in
          let known = panorama_is.known source h.from h.observed in
          seen_trans dag g n t.0 h.from.0 naive.known low.known known (lane_is_seen dag g n t.0 naive.known low.known under) (below_seen dag g t.0 h.from.0 low.known known low.below)

  -- a tip that stands for the source's unit and all of the span stands for all
  pub tip_of_all : (validators v source : ℕ) (span : Span) (reached : ℕ) (tip : Option UnitNo) → validators ≡ dag.validators → v < validators → StandsFor validators dag panorama tips v source span → span.end ≤ reached
      → IsNaiveTip dag panorama endorsed v tip → IsOver dag panorama endorsed v source tip
      → ((slot : ℕ) → span.first ≤ slot → slot < reached → IsOver dag panorama endorsed v slot tip) → IsTip dag panorama endorsed v tip
  tip_of_all validators v source span reached tip same small stands end naive common each = record {
    naive = naive;
    all = λ n h. elim (cases_lt h.below.slot span.first) [
      | inl before ↦ beside n h (inl before)
      | inr from ↦ elim (cases_lt h.below.slot reached) [
        | inl less ↦ each h.below.slot (omega arith) less h.below.cited n h.below.observed h h.below.seen
        | inr after ↦ beside n h (inr (omega arith))
      ]
    ];
  }
    where
      beside : (n : ℕ) (h : IsNaive dag panorama endorsed v n) → IsBeside span h.below.slot → IsUnder dag n tip
      beside n h out =
          let long = panorama_is.length_is in
          let there = slot_small panorama h.below.slot h.below.cited h.below.observed in
          let stand = stands.beside h.below.slot h.below.cited (omega arith) out h.below.observed in
          common stand.1.from n stand.1.observed h (stand_seen v source h.below.slot n h.below.cited (omega arith) stand.0 h.below.observed stand.1 h h.below.seen)
