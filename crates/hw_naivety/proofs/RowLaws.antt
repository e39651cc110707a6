-- Tips as they are kept, row by row.
use Rattle.std.proofs.Common.{eqb-true, eq-eqb, ◌==◌, ◌-◌, inl, inr, ◌≡◌, ◌≢◌, ℕ, zero, suc, ◌+◌, ◌*◌, ◌<◌, ◌≤◌, List, [], ◌∷◌, length, refl, sym, ap, subst, ◌∙◌, arith, get_or, length-set, slice_set}
use Rattle.std.proofs.lemmas.List.{get_or-set_same, get_or-set_other}
use Rattle.std.proofs.Math.Nat.{mul_comm, mul-le-mul_right}
use Rattle.std.proofs.lemmas.Nat.{mul-add-lt}
use Rattle.hw_types.proofs.WordsLaws.{either, never_both}
use Rattle.hw_dag.specs.declared.numbers.UnitNo.{UnitNo}
use Rattle.hw_dag.specs.declared.numbers.View.{View}
use Rattle.hw_dag.specs.declared.numbers.View.TheVariants as view
use Rattle.hw_dag.specs.Dag.{UnitGraph, unit_at, view_at}
use Rattle.hw_naivety.specs.Rows.{TipRows, row_slot, with_slot}
use Rattle.hw_naivety.specs.Tips.{TipTable, AreRows, AreKept, IsGrown, IsRoomy, IsRowKept, said_tip, placed_tip, tip_at}

-- a slot with a unit is one of the panorama's
pub slot_small : (ws : List View) (s : ℕ) (cited : UnitNo) → view_at ws s ≡ view.Correct cited → s < length ws
slot_small [] s cited e = absurd cc
slot_small (w ∷ ws) zero cited e = omega arith
slot_small (w ∷ ws) (suc s) cited e = let rest = slot_small ws s cited e in omega arith

-- the rows, where a slot is put at its place
pub set_rows : (validators : ℕ) (xs : List View) (now : TipRows) (row v place : ℕ) (next : View) → record { validators = validators; slots = xs } ≡ now → place ≡ row * now.validators + v
    → record { validators = validators; slots = slice_set xs place next } ≡ with_slot now row v next
set_rows validators xs now row v place next e at =
    ap (λ (r : TipRows). record { validators = r.validators; slots = slice_set r.slots place next }) e
    ∙ ap (λ (k : ℕ). record { validators = now.validators; slots = slice_set now.slots k next }) at

-- a slot of a row stands before each later row
pub slot_before : (validators row end creator : ℕ) → row < end → creator < validators → row * validators + creator < end * validators
slot_before validators row end creator less small = subst (λ (k : ℕ). row * validators + creator < k) (mul_comm validators end) (mul-add-lt row validators creator end less small)

-- ---- a tip in the first row that isn't taken

module _ (rows : TipRows) (taken v : ℕ) (said : View) (small : v < rows.validators) (spare : (taken + 1) * rows.validators ≤ length rows.slots) where
  pub put_here : row_slot (with_slot rows taken v said) taken v ≡ said
  put_here = get_or-set_same rows.slots (taken * rows.validators + v) said view.Absent (let before = slot_before rows.validators taken (taken + 1) v (omega arith) small in omega (arith, before, spare))

  pub put_beside : (w : ℕ) → w ≢ v → row_slot (with_slot rows taken v said) taken w ≡ row_slot rows taken w
  put_beside w other = get_or-set_other rows.slots (taken * rows.validators + v) (taken * rows.validators + w) said view.Absent (λ e. other (omega (arith, e)))

  pub put_above : (row w : ℕ) → row < taken → w < rows.validators → row_slot (with_slot rows taken v said) row w ≡ row_slot rows row w
  put_above row w less slot = get_or-set_other rows.slots (taken * rows.validators + v) (row * rows.validators + w) said view.Absent (λ e. let before = slot_before rows.validators row taken w less slot in absurd (omega (arith, e, before)))

  pub put_length : length (with_slot rows taken v said).slots ≡ length rows.slots
  put_length = length-set rows.slots (taken * rows.validators + v) said

-- what was kept is kept of itself
pub kept_same : (tips : TipTable) → AreKept tips tips
kept_same tips = record { places_are = refl; taken_is = refl; validators_are = refl; length_is = refl; kept = λ row w less slot. refl }

-- a row that is left stays left
pub spare_kept : (first old : TipTable) → AreKept first old → (first.taken + 1) * first.rows.validators ≤ length first.rows.slots → (old.taken + 1) * old.rows.validators ≤ length old.rows.slots
spare_kept first old k spare =
    subst (λ (l : ℕ). (old.taken + 1) * old.rows.validators ≤ l) (sym k.length_is)
    (subst (λ (t : ℕ). (t + 1) * old.rows.validators ≤ length first.rows.slots) (sym k.taken_is) (subst (λ (t : ℕ). (first.taken + 1) * t ≤ length first.rows.slots) (sym k.validators_are) spare))

-- what was kept, and a further tip in that row
module _ (first old new : TipTable) (v : ℕ) (said : View) (small : v < first.rows.validators) (spare : (first.taken + 1) * first.rows.validators ≤ length first.rows.slots) (k : AreKept first old)
    (taken : new.taken ≡ old.taken) (rows : new.rows ≡ with_slot old.rows old.taken v said) where
  here : v < old.rows.validators
  here = subst (λ (t : ℕ). v < t) (sym k.validators_are) small

  left : (old.taken + 1) * old.rows.validators ≤ length old.rows.slots
  left = spare_kept first old k spare

  moved : (w : ℕ) → row_slot new.rows new.taken w ≡ row_slot (with_slot old.rows old.taken v said) old.taken w
  moved w = ap (λ (t : ℕ). row_slot new.rows t w) taken ∙ ap (λ (r : TipRows). row_slot r old.taken w) rows

  pub row_put_here : row_slot new.rows new.taken v ≡ said
  row_put_here = moved v ∙ put_here old.rows old.taken v said here left

  pub row_put_beside : (w : ℕ) → w ≢ v → row_slot new.rows new.taken w ≡ row_slot old.rows old.taken w
  row_put_beside w other = moved w ∙ put_beside old.rows old.taken v said here left w other

  pub kept_put : new.places ≡ old.places → AreKept first new
  kept_put places = record {
    places_are = places ∙ k.places_are;
    taken_is = taken ∙ k.taken_is;
    validators_are = ap (λ (r : TipRows). r.validators) rows ∙ k.validators_are;
    length_is = ap (λ (r : TipRows). length r.slots) rows ∙ put_length old.rows old.taken v said here left ∙ k.length_is;
    kept = λ row w less slot.
        ap (λ (r : TipRows). row_slot r row w) rows
        ∙ put_above old.rows old.taken v said here left row w (subst (λ (t : ℕ). row < t) (sym k.taken_is) less) (subst (λ (t : ℕ). w < t) (sym k.validators_are) slot)
        ∙ k.kept row w less slot;
  }

-- ---- what is kept of a unit

-- the rows' own number of slots is the validators'
pub rows_own : (validators : ℕ) (tips : TipTable) → AreRows validators tips → AreRows tips.rows.validators tips
rows_own validators tips are = record { validators_are = refl; placed = are.placed; there = are.there }

-- a place whose row stays gives the same tip
pub placed_stays : (old new : TipRows) (slot : View) (v taken place : ℕ) → place ≤ taken → ((row : ℕ) → row < taken → row_slot new row v ≡ row_slot old row v) → placed_tip new slot v place ≡ placed_tip old slot v place
placed_stays old new slot v taken zero within stay = refl
placed_stays old new slot v taken (suc row) within stay = ap (λ (said : View). said_tip slot said) (stay row (omega arith))

pub tips_kept : (dag : UnitGraph) (old new : TipTable) → AreRows old.rows.validators old → AreKept old new → (n v : ℕ) → v < old.rows.validators → tip_at dag new n v ≡ tip_at dag old n v
tips_kept dag old new are k n v small =
    ap (λ (places : List ℕ). placed_tip new.rows (view_at (unit_at dag n).panorama v) v (get_or places n 0)) k.places_are
    ∙ placed_stays old.rows new.rows (view_at (unit_at dag n).panorama v) v old.taken (get_or old.places n 0) (are.placed n) (λ row less. k.kept row v less small)

-- more room leaves the tips of the units that have a place
pub tips_grown : (dag : UnitGraph) (wanted : ℕ) (old new : TipTable) → AreRows old.rows.validators old → IsGrown wanted old new → (n v : ℕ) → n < length old.places → v < old.rows.validators → tip_at dag new n v ≡ tip_at dag old n v
tips_grown dag wanted old new are grown n v lt small =
    ap (λ (place : ℕ). placed_tip new.rows (view_at (unit_at dag n).panorama v) v place) (grown.kept n lt)
    ∙ placed_stays old.rows new.rows (view_at (unit_at dag n).panorama v) v old.taken (get_or old.places n 0) (are.placed n) stay
  where
    stay : (row : ℕ) → row < old.taken → row_slot new.rows row v ≡ row_slot old.rows row v
    stay row less =
        ap (λ (k : ℕ). get_or new.rows.slots (row * k + v) view.Absent) grown.rows_longer.validators_are
        ∙ grown.rows_longer.kept (row * old.rows.validators + v) (let before = slot_before old.rows.validators row old.taken v less small in let there = are.there in omega (arith, before, there))

-- a place that is put in leaves the tips of other units
pub tips_beside : (dag : UnitGraph) (old new : TipTable) (unit place : ℕ) → new.places ≡ slice_set old.places unit place → new.rows ≡ old.rows → (n v : ℕ) → n ≢ unit → tip_at dag new n v ≡ tip_at dag old n v
tips_beside dag old new unit place places rows n v other =
    ap (λ (r : TipRows). placed_tip r (view_at (unit_at dag n).panorama v) v (get_or new.places n 0)) rows
    ∙ ap (λ (k : ℕ). placed_tip old.rows (view_at (unit_at dag n).panorama v) v k) (ap (λ (ps : List ℕ). get_or ps n 0) places ∙ get_or-set_other old.places unit n place 0 other)

-- it gives the unit its tip
pub tip_here : (dag : UnitGraph) (old new : TipTable) (unit place v : ℕ) → unit < length old.places → new.places ≡ slice_set old.places unit place → new.rows ≡ old.rows
    → tip_at dag new unit v ≡ placed_tip old.rows (view_at (unit_at dag unit).panorama v) v place
tip_here dag old new unit place v known places rows =
    ap (λ (r : TipRows). placed_tip r (view_at (unit_at dag unit).panorama v) v (get_or new.places unit 0)) rows
    ∙ ap (λ (k : ℕ). placed_tip old.rows (view_at (unit_at dag unit).panorama v) v k) (ap (λ (ps : List ℕ). get_or ps unit 0) places ∙ get_or-set_same old.places unit place 0 known)

-- rows that are kept are rows, and there is as much room
pub are_kept : (validators : ℕ) (old new : TipTable) → AreKept old new → AreRows validators old → AreRows validators new
are_kept validators old new k are = record {
  validators_are = k.validators_are ∙ are.validators_are;
  placed = λ n. subst (λ (ps : List ℕ). get_or ps n 0 ≤ new.taken) (sym k.places_are) (subst (λ (t : ℕ). get_or old.places n 0 ≤ t) (sym k.taken_is) (are.placed n));
  there = subst (λ (l : ℕ). new.taken * new.rows.validators ≤ l) (sym k.length_is)
      (subst (λ (t : ℕ). t * new.rows.validators ≤ length old.rows.slots) (sym k.taken_is) (subst (λ (t : ℕ). old.taken * t ≤ length old.rows.slots) (sym k.validators_are) are.there));
}

pub roomy_kept : (count : ℕ) (old new : TipTable) → AreKept old new → IsRoomy old count → IsRoomy new count
roomy_kept count old new k roomy = record {
  taken_within = subst (λ (t : ℕ). t ≤ count) (sym k.taken_is) roomy.taken_within;
  count_within = subst (λ (ps : List ℕ). count ≤ length ps) (sym k.places_are) roomy.count_within;
  rows_left = subst (λ (l : ℕ). (new.taken + (length new.places - count)) * new.rows.validators ≤ l) (sym k.length_is)
      (subst (λ (ps : List ℕ). (new.taken + (length ps - count)) * new.rows.validators ≤ length old.rows.slots) (sym k.places_are)
      (subst (λ (t : ℕ). (t + (length old.places - count)) * new.rows.validators ≤ length old.rows.slots) (sym k.taken_is)
      (subst (λ (t : ℕ). (old.taken + (length old.places - count)) * t ≤ length old.rows.slots) (sym k.validators_are) roomy.rows_left)));
}

-- where a unit has a place that isn't noted, a row is left
pub row_left : (unit : ℕ) (tips : TipTable) → unit < length tips.places → IsRoomy tips unit → (tips.taken + 1) * tips.rows.validators ≤ length tips.rows.slots
row_left unit tips known roomy =
    let more : tips.taken + 1 ≤ tips.taken + (length tips.places - unit) = omega arith in
    let less = mul-le-mul_right tips.rows.validators more in
    let left = roomy.rows_left in
    omega (arith, less, left)

-- ---- a row that is kept

module _ (old new : TipTable) (unit : ℕ) (known : unit < length old.places) (k : IsRowKept old unit new) where
  pub kept_here : (dag : UnitGraph) (v : ℕ) → v < old.rows.validators → tip_at dag new unit v ≡ said_tip (view_at (unit_at dag unit).panorama v) (row_slot old.rows old.taken v)
  kept_here dag v small = tip_here dag old new unit k.place v known k.places_are k.rows_are ∙ ap (λ (said : View). said_tip (view_at (unit_at dag unit).panorama v) said) (k.says v small)

  pub kept_length : length new.places ≡ length old.places
  kept_length = ap (λ (ps : List ℕ). length ps) k.places_are ∙ length-set old.places unit k.place

  taken_more : old.taken ≤ new.taken
  taken_more = elim k.taken_is [
    | inl same ↦ omega arith
    | inr next ↦ omega arith
  ]

  pub kept_rows : (validators : ℕ) → AreRows validators old → (old.taken + 1) * old.rows.validators ≤ length old.rows.slots → AreRows validators new
  kept_rows validators are spare = record {
    validators_are = ap (λ (r : TipRows). r.validators) k.rows_are ∙ are.validators_are;
    placed = λ n. subst (λ (ps : List ℕ). get_or ps n 0 ≤ new.taken) (sym k.places_are) (elim (either (n == unit)) [
      | inl t ↦ (let at : get_or (slice_set old.places unit k.place) n 0 ≡ k.place = subst (λ (m : ℕ). get_or (slice_set old.places unit k.place) m 0 ≡ k.place) (sym (eqb-true n unit t)) (get_or-set_same old.places unit k.place 0 known) in
          subst (λ (m : ℕ). m ≤ new.taken) (sym at) k.within)
      | inr d ↦ (let at = get_or-set_other old.places unit n k.place 0 (λ e. never_both (n == unit) (eq-eqb n unit e) d) in
          let before = are.placed n in
          let more = taken_more in
          subst (λ (m : ℕ). m ≤ new.taken) (sym at) (omega arith))
    ]);
    there = subst (λ (r : TipRows). new.taken * r.validators ≤ length r.slots) (sym k.rows_are) (elim k.taken_is [
      | inl same ↦ subst (λ (t : ℕ). t * old.rows.validators ≤ length old.rows.slots) (sym same) are.there
      | inr next ↦ subst (λ (t : ℕ). t * old.rows.validators ≤ length old.rows.slots) (sym next) spare
    ]);
  }

  pub kept_roomy : IsRoomy old unit → IsRoomy new (unit + 1)
  kept_roomy roomy = record {
    taken_within = let within = roomy.taken_within in elim k.taken_is [
      | inl same ↦ omega arith
      | inr next ↦ omega arith
    ];
    count_within = let long = kept_length in omega arith;
    rows_left =
        let long = kept_length in
        let fewer : new.taken + (length new.places - (unit + 1)) ≤ old.taken + (length old.places - unit) = (elim k.taken_is [
          | inl same ↦ omega arith
          | inr next ↦ omega arith
        ]) in
        subst (λ (r : TipRows). (new.taken + (length new.places - (unit + 1))) * r.validators ≤ length r.slots) (sym k.rows_are)
        (let less = mul-le-mul_right old.rows.validators fewer in let left = roomy.rows_left in omega (arith, less, left));
  }
