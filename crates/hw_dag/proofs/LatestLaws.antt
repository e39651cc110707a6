-- Lanes by the latest unit of each validator.
use Rattle.std.proofs.Common.{◌≡◌, ℕ, ◌<◌, ◌≤◌, ◌==◌, ◌⊎◌, inl, inr, true, false, List, [], ◌∷◌, ◌++◌, ◌+◌, ◌-◌, length, Option, Some, slice_set, refl, sym, ap, subst, ◌∙◌, arith, eqb, eqb-true, eq-eqb, length-append, get_or-set_same, get_or-set_other}
use Rattle.std.specs.Prelude.{◌≢◌, ◌^◌, nat_le}
use Rattle.std.proofs.Math.ListN.{length-set}
use Rattle.std.proofs.lemmas.List.{get_or_push}
use Rattle.std.proofs.lemmas.Bool.{cases_lt, leb-true, le-leb}
use Rattle.hw_types.proofs.LaneLaws as lanes
use Rattle.hw_types.proofs.StableLaws.{both_ways}
use Rattle.hw_types.proofs.WordsLaws.{never_both, either}
use Rattle.hw_dag.specs.declared.numbers.UnitNo.{UnitNo}
use Rattle.hw_dag.specs.declared.numbers.View.{View}
use Rattle.hw_dag.specs.declared.numbers.View.TheVariants as view
use Rattle.hw_dag.specs.Dag.{SettledUnit, UnitGraph, stand_in, unit_at, count_of, node_at, graph, creator_of, view_at, GrowsTo}
use Rattle.hw_dag.specs.Admission.{IsGraph, with_unit}
use Rattle.hw_dag.specs.Lanes.{is_lane_below, AreOnOneLane}
use Rattle.hw_dag.specs.Skips.{back_from}
use Rattle.hw_dag.specs.Slots.{HasCode}
use Rattle.hw_dag.specs.Tables.{predecessor_of, lanes_of, LeadsUpTo, AreLatest, IsLatestAfter, NoneFaulty}
use Rattle.hw_dag.proofs.NodeLaws.{node_among}
use Rattle.hw_dag.proofs.LaneLaws.{even_weights, all_faulty, lawful, on_lane_among, among_on_lane, on_own_lane, lane_is_seen}
use Rattle.hw_dag.proofs.MarkLaws.{seen_earlier}
use Rattle.hw_dag.proofs.ChainLaws as chain
use Rattle.hw_dag.proofs.GrowthLaws as growth
use Rattle.hw_dag.proofs.DepthLaws.{lane_at_is, lane_found, seq_next, number_some}
use Rattle.hw_dag.proofs.SkipLaws.{back_from-none, back_from-step}

module _ (dag : UnitGraph) (g : IsGraph dag) where
  pub lane_itself : (n : ℕ) → n < count_of dag → is_lane_below dag n n ≡ true
  lane_itself n lt = among_on_lane dag g n n (on_own_lane dag g n lt)

  pub lane_trans : (low middle high : ℕ) → low < count_of dag → middle < count_of dag → is_lane_below dag low middle ≡ true → is_lane_below dag middle high ≡ true → is_lane_below dag low high ≡ true
  lane_trans low middle high lo mi h k =
      among_on_lane dag g low high
      (lanes.lane_trans (even_weights dag) all_faulty (graph dag) (lawful dag g) (node_at dag low) (node_at dag middle) (node_at dag high) (node_among dag g middle mi)
      (on_lane_among dag g low middle lo h) (on_lane_among dag g middle high mi k))

  pub lane_earlier : (low high : ℕ) → low < count_of dag → high < count_of dag → is_lane_below dag low high ≡ true → low ≤ high
  lane_earlier low high lo hi t = seen_earlier dag g low high lo hi (lane_is_seen dag g low high lo hi t)

  -- a unit of a greater number isn't on the lane, and one of the same number is
  pub lane_not_later : (low high : ℕ) → low < count_of dag → high < count_of dag → high ≤ low → eqb high low ≡ is_lane_below dag low high
  lane_not_later low high lo hi le = both_ways (eqb high low) (is_lane_below dag low high)
      (λ t. subst (λ (n : ℕ). is_lane_below dag low n ≡ true) (sym (eqb-true high low t)) (lane_itself low lo))
      (λ t. let no_more = lane_earlier low high lo hi t in eq-eqb high low (omega arith))

  -- a lane is of one creator
  pub lane_of_one : (low high : ℕ) → low < count_of dag → high < count_of dag → (creator_of (unit_at dag high) ≡ creator_of (unit_at dag low) → ⊥) → false ≡ is_lane_below dag low high
  lane_of_one low high lo hi other = elim (either (is_lane_below dag low high)) [
    | inl t ↦ absurd (other (sym (lanes.lane_creator (even_weights dag) all_faulty (graph dag) (lawful dag g) (node_at dag high) (node_at dag low) (node_among dag g high hi) (on_lane_among dag g low high lo t))))
    | inr f ↦ sym f
  ]

  -- two units that lead up to one are in the order of their numbers
  pub lane_by_latest : (latest : List View) → AreLatest dag latest → (v : ℕ) (last : UnitNo) → view_at latest v ≡ view.Correct last → (low high : ℕ) → low < count_of dag → high < count_of dag
      → creator_of (unit_at dag low) ≡ v → creator_of (unit_at dag high) ≡ v → low < high → true ≡ is_lane_below dag low high
  lane_by_latest latest are v last e low high lo hi cl ch less =
      let at : (n : ℕ) → n < count_of dag → creator_of (unit_at dag n) ≡ v → is_lane_below dag n last.0 ≡ true =
      λ n lt c. subst (λ (w : View). LeadsUpTo dag n w) (ap (λ (k : ℕ). view_at latest k) c ∙ e) (are.each n lt) in
      sym (elim (chain.lane_order (even_weights dag) all_faulty (graph dag) (lawful dag g) (node_at dag last.0) (node_at dag low) (node_at dag high) (node_among dag g last.0 (are.known v last e))
      (on_lane_among dag g low last.0 lo (at low lo cl)) (on_lane_among dag g high last.0 hi (at high hi ch))) [
        | inl m ↦ among_on_lane dag g low high m
        | inr m ↦ absurd (let no_more = lane_earlier high low hi lo (among_on_lane dag g high low m) in omega arith)
      ])

  -- a unit follows the one before it on its lane
  pub lane_before : (n : ℕ) (p : UnitNo) → n < count_of dag → predecessor_of (unit_at dag n) ≡ Some p → is_lane_below dag p.0 n ≡ true
  lane_before n p lt e =
      let way : back_from (lanes_of dag.units) 1 n ≡ Some p.0 = back_from-step (lanes_of dag.units) 0 n p (lane_at_is dag g n lt ∙ e) ∙ back_from-none (lanes_of dag.units) p.0 in
      let some = seq_next dag g n p lt (number_some (view_at (unit_at dag n).panorama (creator_of (unit_at dag n))) p e) in
      (lane_found dag g 1 n p.0 lt way (omega arith)).on_lane

  -- where no slot is Faulty, each validator's units are on one lane
  pub one_lane : (latest : List View) → AreLatest dag latest → NoneFaulty latest → AreOnOneLane dag
  one_lane latest are none low high lo hi same = both_ways (is_lane_below dag low high) (nat_le low high) (λ t. le-leb low high (lane_earlier low high lo hi t)) (λ t. on (leb-true low high t))
    where
      led : low < high → (w : View) → view_at latest (creator_of (unit_at dag high)) ≡ w → is_lane_below dag low high ≡ true
      led less view.Absent e = absurd (subst (λ (w : View). LeadsUpTo dag high w) e (are.each high hi))
      led less view.Faulty e = absurd (none (creator_of (unit_at dag high)) e)
      led less (view.Correct last) e = sym (lane_by_latest latest are (creator_of (unit_at dag high)) last e low high lo hi same refl less)

      on : low ≤ high → is_lane_below dag low high ≡ true
      on le = elim (cases_lt low high) [
        | inl less ↦ led less (view_at latest (creator_of (unit_at dag high))) refl
        | inr above ↦ subst (λ (n : ℕ). is_lane_below dag low n ≡ true) (let one : low ≡ high = omega arith in one) (lane_itself low lo)
      ]

-- with one unit more
module _ (dag : UnitGraph) (g : IsGraph dag) (u : SettledUnit) (more : IsGraph (with_unit dag u)) (latest : List View) (are : AreLatest dag latest) (number : UnitNo) (is : number.0 ≡ count_of dag) (next : View)
    (after : IsLatestAfter (view_at latest (creator_of u)) (predecessor_of u) number next) where
  abbrev later : UnitGraph
  later = with_unit dag u

  grows : GrowsTo dag later
  grows = record { validators_are = refl; more = u ∷ []; units_are = refl }

  last_at : unit_at later (count_of dag) ≡ u
  last_at = get_or_push dag.units u stand_in (count_of dag) refl

  last_known : count_of dag < count_of later
  last_known = let longer = length-append dag.units (u ∷ []) in omega arith

  only_last : (n : ℕ) → n < count_of later → (n < count_of dag) ⊎ (n ≡ count_of dag)
  only_last n lt = elim (cases_lt n (count_of dag)) [
    | inl less ↦ inl less
    | inr above ↦ inr (let longer = length-append dag.units (u ∷ []) in omega arith)
  ]

  room : creator_of u < length latest
  room =
      let some : creator_of (unit_at later (count_of dag)) < dag.validators = (more.settled (count_of dag) last_known).creator_is in
      let same : creator_of (unit_at later (count_of dag)) ≡ creator_of u = ap (λ (x : SettledUnit). creator_of x) last_at in
      let len = are.length_is in omega arith

  set_at : (v : ℕ) → v ≡ creator_of u → view_at (slice_set latest (creator_of u) next) v ≡ next
  set_at v e = subst (λ (k : ℕ). view_at (slice_set latest (creator_of u) next) k ≡ next) (sym e) (get_or-set_same latest (creator_of u) next view.Absent room)

  other_at : (v : ℕ) → (v ≡ creator_of u → ⊥) → view_at (slice_set latest (creator_of u) next) v ≡ view_at latest v
  other_at v e = get_or-set_other latest (creator_of u) v next view.Absent e

  known_at : (v : ℕ) (last : UnitNo) → view_at (slice_set latest (creator_of u) next) v ≡ view.Correct last → last.0 < count_of later
  known_at v last e = elim (either (v == creator_of u)) [
    | inl t ↦ (
        let here : next ≡ view.Correct last = sym (set_at v (eqb-true v (creator_of u) t)) ∙ e in
        elim after [
          | inl f ↦ absurd (let no : view.Faulty ≡ view.Correct last = sym f ∙ here in cc)
          | inr c ↦ (let same : number ≡ last = (let s : view.Correct number ≡ view.Correct last = sym c.0 ∙ here in cc) in
              let lt = last_known in subst (λ (m : UnitNo). m.0 < count_of later) same (omega arith))
        ]
        )
    | inr d ↦ (
        let lt : last.0 < count_of dag = are.known v last (sym (other_at v (λ s. never_both (v == creator_of u) (eq-eqb v (creator_of u) s) d)) ∙ e) in
        let many = last_known in omega arith
        )
  ]

  -- what led up to a latest unit still does
  leads_stay : (n : ℕ) (w : View) → n < count_of dag → ((last : UnitNo) → w ≡ view.Correct last → last.0 < count_of dag) → LeadsUpTo dag n w → LeadsUpTo later n w
  leads_stay n view.Absent lt known on = on
  leads_stay n view.Faulty lt known on = on
  leads_stay n (view.Correct last) lt known on = growth.is_lane_below_stays dag later grows g more.distinct n last.0 lt (known last refl) ∙ on

  -- and leads up to the unit that follows that
  leads_on : (n : ℕ) → n < count_of dag → creator_of (unit_at dag n) ≡ creator_of u → LeadsUpTo later n next
  leads_on n lt same =
      let before : LeadsUpTo dag n (view_at latest (creator_of u)) = subst (λ (k : ℕ). LeadsUpTo dag n (view_at latest k)) same (are.each n lt) in
      elim after [
        | inl f ↦ subst (λ (w : View). LeadsUpTo later n w) (sym f) tt
        | inr c ↦ subst (λ (w : View). LeadsUpTo later n w) (sym c.0) (elim c.1 [
          | inl none ↦ absurd (subst (λ (w : View). LeadsUpTo dag n w) none before)
          | inr p ↦ (
              let known : p.0.0 < count_of dag = are.known (creator_of u) p.0 p.1 in
              let on : is_lane_below dag n p.0.0 ≡ true = subst (λ (w : View). LeadsUpTo dag n w) p.1 before in
              let up : is_lane_below later p.0.0 (count_of dag) ≡ true = lane_before later more (count_of dag) p.0 last_known (ap predecessor_of last_at ∙ p.2) in
              let many = last_known in
              subst (λ (k : ℕ). is_lane_below later n k ≡ true) (sym is)
              (lane_trans later more n p.0.0 (count_of dag) (omega arith) (omega arith) (growth.is_lane_below_stays dag later grows g more.distinct n p.0.0 lt known ∙ on) up)
              )
        ])
      ]

  leads_itself : LeadsUpTo later (count_of dag) next
  leads_itself = elim after [
    | inl f ↦ subst (λ (w : View). LeadsUpTo later (count_of dag) w) (sym f) tt
    | inr c ↦ subst (λ (w : View). LeadsUpTo later (count_of dag) w) (sym c.0) (subst (λ (k : ℕ). is_lane_below later (count_of dag) k ≡ true) (sym is) (lane_itself later more (count_of dag) last_known))
  ]

  each_at : (n : ℕ) → n < count_of later → LeadsUpTo later n (view_at (slice_set latest (creator_of u) next) (creator_of (unit_at later n)))
  each_at n lt = elim (only_last n lt) [
    | inr e ↦ (
        let same : creator_of (unit_at later n) ≡ creator_of u = ap (λ (k : ℕ). creator_of (unit_at later k)) e ∙ ap (λ (x : SettledUnit). creator_of x) last_at in
        subst (λ (w : View). LeadsUpTo later n w) (sym (set_at (creator_of (unit_at later n)) same)) (subst (λ (k : ℕ). LeadsUpTo later k next) (sym e) leads_itself)
        )
    | inl less ↦ (
        let same : creator_of (unit_at later n) ≡ creator_of (unit_at dag n) = ap (λ (x : SettledUnit). creator_of x) (growth.unit_stays dag later grows n less) in
        elim (either (creator_of (unit_at dag n) == creator_of u)) [
          | inl t ↦ (
              let own = eqb-true (creator_of (unit_at dag n)) (creator_of u) t in
              subst (λ (w : View). LeadsUpTo later n w) (sym (set_at (creator_of (unit_at later n)) (same ∙ own))) (leads_on n less own)
              )
          | inr d ↦ (
              let other : creator_of (unit_at later n) ≡ creator_of u → ⊥ = λ s. never_both (creator_of (unit_at dag n) == creator_of u) (eq-eqb (creator_of (unit_at dag n)) (creator_of u) (sym same ∙ s)) d in
              subst (λ (w : View). LeadsUpTo later n w) (sym (other_at (creator_of (unit_at later n)) other ∙ ap (λ (k : ℕ). view_at latest k) same))
              (leads_stay n (view_at latest (creator_of (unit_at dag n))) less (are.known (creator_of (unit_at dag n))) (are.each n less))
              )
        ]
        )
  ]

  pub latest_more : AreLatest later (slice_set latest (creator_of u) next)
  latest_more = record { length_is = length-set latest (creator_of u) next ∙ are.length_is; known = known_at; each = each_at }

-- the creator of a new unit has a slot
pub last_creator : (dag : UnitGraph) (u : SettledUnit) → IsGraph (with_unit dag u) → (latest : List View) → AreLatest dag latest → (creator : ℕ) → creator ≡ creator_of u → creator < length latest
last_creator dag u more latest are creator e =
    let longer = length-append dag.units (u ∷ []) in
    let some : creator_of (unit_at (with_unit dag u) (count_of dag)) < dag.validators = (more.settled (count_of dag) (omega arith)).creator_is in
    let same : creator_of (unit_at (with_unit dag u) (count_of dag)) ≡ creator_of u = ap (λ (x : SettledUnit). creator_of x) (get_or_push dag.units u stand_in (count_of dag) refl) in
    let len = are.length_is in omega arith

-- its new slot has a code,
pub latest_code : (dag : UnitGraph) (u : SettledUnit) → IsGraph (with_unit dag u) → (slot : View) (before : Option UnitNo) (number : UnitNo) (next : View) → number.0 ≡ count_of dag → IsLatestAfter slot before number next → HasCode next
latest_code dag u more slot before number next is after = λ n e. elim after [
  | inl f ↦ absurd (let clash : view.Faulty ≡ view.Correct n = sym f ∙ e in cc)
  | inr c ↦
      let same : number ≡ n = (let s : view.Correct number ≡ view.Correct n = sym c.0 ∙ e in cc) in
      let longer = length-append dag.units (u ∷ []) in
      let small = more.bounded in
      subst (λ (m : UnitNo). m.0 + 2 < 2 ^ 32) same (omega arith)
]

-- and no slot is Faulty unless that one is
pub none_more : (latest new : List View) (creator : ℕ) (next : View) → creator < length latest → new ≡ slice_set latest creator next → next ≢ view.Faulty → NoneFaulty latest → NoneFaulty new
none_more latest new creator next lt is other none v f = elim (either (v == creator)) [
  | inl t ↦ other (sym (get_or-set_same latest creator next view.Absent lt) ∙ ap (λ (ws : List View). view_at ws creator) (sym is) ∙ ap (λ (n : ℕ). view_at new n) (sym (eqb-true v creator t)) ∙ f)
  | inr d ↦ none v (sym (get_or-set_other latest creator v next view.Absent (λ s. never_both (v == creator) (eq-eqb v creator s) d)) ∙ ap (λ (ws : List View). view_at ws v) (sym is) ∙ f)
]

-- the table as it is written
pub latest_kept : (dag : UnitGraph) (g : IsGraph dag) (u : SettledUnit) (more : IsGraph (with_unit dag u)) (latest : List View) (are : AreLatest dag latest)
    (creator : ℕ) (slot : View) (before : Option UnitNo) (number : UnitNo) (next : View) (new : List View) (units : List SettledUnit)
    → creator ≡ creator_of u → slot ≡ view_at latest creator → before ≡ predecessor_of u → number.0 ≡ count_of dag → IsLatestAfter slot before number next
    → new ≡ slice_set latest creator next → units ≡ dag.units ++ u ∷ [] → AreLatest (record { validators = dag.validators; spare = dag.spare - 1; units = units }) new
latest_kept dag g u more latest are creator slot before number next new units ec es eb en after enew eu =
    let slot_is : IsLatestAfter (view_at latest (creator_of u)) before number next = subst (λ (w : View). IsLatestAfter w before number next) (es ∙ ap (λ (v : ℕ). view_at latest v) ec) after in
    let whole : IsLatestAfter (view_at latest (creator_of u)) (predecessor_of u) number next = subst (λ (b : Option UnitNo). IsLatestAfter (view_at latest (creator_of u)) b number next) eb slot_is in
    let made = latest_more dag g u more latest are number en next whole in
    let set_is : AreLatest (with_unit dag u) new = subst (λ (ws : List View). AreLatest (with_unit dag u) ws) (ap (λ (v : ℕ). slice_set latest v next) (sym ec) ∙ sym enew) made in
    subst (λ (us : List SettledUnit). AreLatest (record { validators = dag.validators; spare = dag.spare - 1; units = us }) new) (sym eu) set_is
