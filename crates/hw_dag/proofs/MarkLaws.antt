-- A walk over numbers comes to what is below.
use Rattle.std.proofs.Common.{◌≡◌, ℕ, ◌+◌, ◌<◌, ◌≤◌, ◌⊎◌, inl, inr, Bool, true, false, List, refl, sym, subst, ◌∙◌, arith, eqb, eqb-true, eq-eqb}
use Rattle.std.specs.Prelude.{◌↔◌, IsTrue}
use Rattle.std.proofs.lemmas.Bool.{cases_lt}
use Rattle.hw_types.specs.declared.unit.Obs.{Obs}
use Rattle.hw_types.specs.Graph.{Node, cites, unit_cites}
use Rattle.hw_types.specs.Below.{Among}
use Rattle.hw_types.proofs.PastLaws.{reach_first, reach_further, reach_keeps}
use Rattle.hw_types.proofs.StableLaws.{both_ways}
use Rattle.hw_types.proofs.WordsLaws.{either, never_both}
use Rattle.hw_dag.specs.declared.numbers.UnitNo.{UnitNo}
use Rattle.hw_dag.specs.declared.numbers.View.{View}
use Rattle.hw_dag.specs.declared.numbers.View.TheVariants as view
use Rattle.hw_dag.specs.Dag.{UnitGraph, unit_at, count_of, node_at, graph, creator_of, view_at}
use Rattle.hw_dag.specs.Admission.{IsGraph}
use Rattle.hw_dag.specs.Lanes.{is_lane_below, is_seen, IsBelow}
use Rattle.hw_dag.specs.Tables.{IsKnown}
use Rattle.hw_dag.specs.Walks.{is_marked, Cites, IsInNoSlot, IsCitedBySome, IsBelowMarked}
use Rattle.hw_dag.proofs.NodeLaws.{among_node, node_among, same_node}
use Rattle.hw_dag.proofs.SlotLaws.{number_cites, cited_number}
use Rattle.hw_dag.proofs.LawfulLaws.{observed_earlier}
use Rattle.hw_dag.proofs.LaneLaws.{history, lane_is_seen, seen_cases, past_seen, same_seen, seen_entry}

module _ (dag : UnitGraph) (g : IsGraph dag) where
  -- ---- citations

  pub cites_earlier : (n m : ℕ) → n < count_of dag → Cites dag n m → m < n
  cites_earlier n m lt c = subst (λ (k : ℕ). k < n) c.is ((g.settled n lt).earlier c.slot c.number c.seen)

  cites_node : (n m : ℕ) → n < count_of dag → Cites dag n m → cites (unit_at dag n).signed.unit.panorama (node_at dag m) ≡ true
  cites_node n m lt c =
      subst (λ (k : ℕ). cites (unit_at dag n).signed.unit.panorama (node_at dag k) ≡ true) c.is
      (subst (λ (os : List Obs). cites os (node_at dag c.number.0) ≡ true) (g.settled n lt).observes (number_cites dag g (unit_at dag n).panorama c.slot c.number c.seen))

  node_cites : (n m : ℕ) → n < count_of dag → m < count_of dag → cites (unit_at dag n).signed.unit.panorama (node_at dag m) ≡ true → Cites dag n m
  node_cites n m lt lm t =
      let u = g.settled n lt in
      let k = cited_number dag g (unit_at dag n).panorama m u.panorama_is.known lm (subst (λ (os : List Obs). cites os (node_at dag m) ≡ true) (sym u.observes) t) in
      record { slot = k.0; number = k.1; seen = k.2; is = k.3 }

  pub cited_below : (high m : ℕ) → high < count_of dag → Cites dag high m → Among (node_at dag m) (history dag g high)
  cited_below high m hi c = let less = cites_earlier high m hi c in reach_first unit_cites (cites (unit_at dag high).signed.unit.panorama) (graph dag) (node_at dag m) (node_among dag g m (omega arith)) (cites_node high m hi c)

  pub cited_further : (high n m : ℕ) → n < count_of dag → Among (node_at dag n) (history dag g high) → Cites dag n m → Among (node_at dag m) (history dag g high)
  cited_further high n m lt below c =
      let less = cites_earlier n m lt c in
      reach_further unit_cites (cites (unit_at dag high).signed.unit.panorama) (graph dag) (node_at dag m) (node_at dag n) below (node_among dag g m (omega arith)) (cites_node n m lt c)

  -- what is below a unit below is below
  pub past_within : (high n : ℕ) → n < count_of dag → Among (node_at dag n) (history dag g high) → (x : Node) → Among x (history dag g n) → Among x (history dag g high)
  past_within high n lt below x h = reach_keeps unit_cites (cites (unit_at dag n).signed.unit.panorama) (graph dag) (λ (y : Node). Among y (history dag g high))
      (λ y m t. reach_further unit_cites (cites (unit_at dag high).signed.unit.panorama) (graph dag) y (node_at dag n) below m t)
      (λ y z p m t. reach_further unit_cites (cites (unit_at dag high).signed.unit.panorama) (graph dag) y z p m t) x h

  -- what is below a unit has a lesser number
  pub below_earlier : (high low : ℕ) → high < count_of dag → low < count_of dag → Among (node_at dag low) (history dag g high) → low < high
  below_earlier high low hi lo h =
      let all = (reach_keeps unit_cites (cites (unit_at dag high).signed.unit.panorama) (graph dag)
      (λ (x : Node). (n : ℕ) × (n < count_of dag) × (node_at dag n ≡ x) × (n < high))
      (λ x m t. let n = among_node dag x m in (n.0, n.1, n.2, observed_earlier dag g n.0 high n.1 hi (subst (λ (y : Node). cites (unit_at dag high).signed.unit.panorama y ≡ true) (sym n.2) t)))
      (λ x y p m t.
      let n = among_node dag x m in
      let less = observed_earlier dag g n.0 p.0 n.1 p.1 (subst (λ (z : Node). cites z.unit.panorama (node_at dag n.0) ≡ true) (sym p.2) (subst (λ (z : Node). cites y.unit.panorama z ≡ true) (sym n.2) t)) in
      let more = p.3 in
      (n.0, n.1, n.2, omega arith))
      (node_at dag low) h) in
      subst (λ (k : ℕ). k < high) (same_node dag g all.0 low all.1 lo all.2) all.3

  pub seen_earlier : (low high : ℕ) → low < count_of dag → high < count_of dag → is_seen dag low high ≡ true → low ≤ high
  seen_earlier low high lo hi t = elim (seen_cases dag g low high lo hi t) [
    | inl e ↦ omega arith
    | inr m ↦ let less = below_earlier high low hi lo m in omega arith
  ]

  -- a unit of a greater number isn't below, and one of the same number is
  pub seen_not_later : (low high : ℕ) → low < count_of dag → high < count_of dag → high ≤ low → eqb high low ≡ is_seen dag low high
  seen_not_later low high lo hi le = both_ways (eqb high low) (is_seen dag low high)
      (λ t. same_seen dag g low high (sym (eqb-true high low t)))
      (λ t. let no_more = seen_earlier low high lo hi t in eq-eqb high low (omega arith))

  -- ---- by the slot of the lower unit's creator

  pub seen_by_number : (low high : ℕ) (number : UnitNo) → low < high → high < count_of dag → view_at (unit_at dag high).panorama (creator_of (unit_at dag low)) ≡ view.Correct number
      → is_lane_below dag low number.0 ≡ is_seen dag low high
  seen_by_number low high number less hi e = both_ways (is_lane_below dag low number.0) (is_seen dag low high) down up
    where
      lo : low < count_of dag
      lo = omega arith

      cited : Cites dag high number.0
      cited = record { slot = creator_of (unit_at dag low); number = number; seen = e; is = refl }

      known : number.0 < count_of dag
      known = (g.settled high hi).panorama_is.known (creator_of (unit_at dag low)) number e

      lower : Among (node_at dag low) (history dag g number.0) → Among (node_at dag low) (history dag g high)
      lower below = past_within high number.0 known (cited_below high number.0 hi cited) (node_at dag low) below

      down : is_lane_below dag low number.0 ≡ true → is_seen dag low high ≡ true
      down t = elim (seen_cases dag g low number.0 lo known (lane_is_seen dag g low number.0 lo known t)) [
        | inl same ↦ past_seen dag g low high (subst (λ (n : ℕ). Among (node_at dag n) (history dag g high)) (sym same) (cited_below high number.0 hi cited))
        | inr below ↦ past_seen dag g low high (lower below)
      ]

      up : is_seen dag low high ≡ true → is_lane_below dag low number.0 ≡ true
      up t = elim (seen_cases dag g low high lo hi t) [
        | inl same ↦ absurd (omega arith)
        | inr m ↦ elim (seen_entry dag g low high lo hi m) [
          | inl marked ↦ absurd (let no : view.Correct number ≡ view.Faulty = sym e ∙ marked in cc)
          | inr entry ↦ (let same : entry.0 ≡ number = (let s : view.Correct entry.0 ≡ view.Correct number = sym entry.1 ∙ e in cc) in subst (λ (k : UnitNo). is_lane_below dag low k.0 ≡ true) same entry.2)
        ]
      ]

  pub seen_by_none : (low high : ℕ) → low < high → high < count_of dag → view_at (unit_at dag high).panorama (creator_of (unit_at dag low)) ≡ view.Absent → false ≡ is_seen dag low high
  seen_by_none low high less hi e = elim (either (is_seen dag low high)) [
    | inl t ↦ absurd (elim (seen_cases dag g low high (omega arith) hi t) [
      | inl same ↦ omega arith
      | inr m ↦ elim (seen_entry dag g low high (omega arith) hi m) [
        | inl marked ↦ (let no : view.Absent ≡ view.Faulty = sym e ∙ marked in absurd cc)
        | inr entry ↦ (let no : view.Absent ≡ view.Correct entry.0 = sym e ∙ entry.1 in absurd cc)
      ]
    ])
    | inr f ↦ sym f
  ]

  -- ---- by a walk

  -- what a unit observes that has it below or is it, that has it too
  pub seen_cited : (start n m : ℕ) → start < count_of dag → n < count_of dag → is_seen dag n start ≡ true → Cites dag n m → is_seen dag m start ≡ true
  seen_cited start n m st lt t c = elim (seen_cases dag g n start lt st t) [
    | inl same ↦ past_seen dag g m start (cited_below start m st (subst (λ (k : ℕ). Cites dag k m) same c))
    | inr below ↦ past_seen dag g m start (cited_further start n m lt below c)
  ]

  -- The units from `next` on were looked at, each that is marked: what they observe is marked, from `low` on. What was marked first still
  -- is, and all that is marked is one of those or below one.
  pub record IsWalked (first : List Bool) (top low next : ℕ) (marked : List Bool) : Type 0 where
    pub below : (m : ℕ) → m < top → is_marked marked m ≡ true → IsBelowMarked dag first top m
    pub kept : (m : ℕ) → is_marked first m ≡ true → is_marked marked m ≡ true
    pub done : (n m : ℕ) → next ≤ n → n < top → is_marked marked n ≡ true → Cites dag n m → low ≤ m → is_marked marked m ≡ true

  -- what marking the observations of one unit leaves
  pub record IsMarked (n low : ℕ) (old new : List Bool) : Type 0 where
    pub kept : (m : ℕ) → is_marked old m ≡ true → is_marked new m ≡ true
    pub all : (m : ℕ) → Cites dag n m → low ≤ m → is_marked new m ≡ true
    pub only : (m : ℕ) → is_marked new m ≡ true → (is_marked old m ≡ true) ⊎ Cites dag n m

  pub walk_starts : (first : List Bool) (top low : ℕ) → IsWalked first top low top first
  walk_starts first top low = record {
    below = λ m less t. record { start = m; before = less; marked_is = t; seen = same_seen dag g m m refl };
    kept = λ m t. t;
    done = λ n m le less. absurd (omega arith);
  }

  -- one that isn't marked has nothing to look at
  pub walk_skips : (first : List Bool) (top low next : ℕ) (marked : List Bool) → IsWalked first top low (next + 1) marked → is_marked marked next ≡ false → IsWalked first top low next marked
  walk_skips first top low next marked w none = record {
    below = w.below;
    kept = w.kept;
    done = λ n m le less t c lm. elim (cases_lt next n) [
      | inl later ↦ w.done n m (omega arith) less t c lm
      | inr no_later ↦ absurd (let same : n ≡ next = omega arith in never_both (is_marked marked next) (subst (λ (k : ℕ). is_marked marked k ≡ true) same t) none)
    ];
  }

  pub walk_looks : (first : List Bool) (top low next : ℕ) (old new : List Bool) → top ≤ count_of dag → next < top → IsWalked first top low (next + 1) old → is_marked old next ≡ true → IsMarked next low old new → IsWalked first top low next new
  walk_looks first top low next old new known before w t made = record {
    below = λ m less n. elim (made.only m n) [
      | inl was ↦ w.below m less was
      | inr c ↦
          let b = w.below next before t in
          let start = b.before in
          record { start = b.start; before = b.before; marked_is = b.marked_is; seen = seen_cited b.start next m (omega arith) (omega arith) b.seen c }
    ];
    kept = λ m u. made.kept m (w.kept m u);
    done = λ n m le less u c lm. elim (made.only n u) [
      | inl was ↦ elim (cases_lt next n) [
        | inl later ↦ made.kept m (w.done n m (omega arith) less was c lm)
        | inr no_later ↦ (let same : n ≡ next = omega arith in made.all m (subst (λ (k : ℕ). Cites dag k m) same c) lm)
      ]
      | inr back ↦ absurd (let earlier = cites_earlier next n (omega arith) back in omega arith)
    ];
  }

  -- at its end the walk came to the lower unit exactly where that is below
  pub walk_ends : (first : List Bool) (top low : ℕ) (marked : List Bool) → low < top → top ≤ count_of dag → IsWalked first top low (low + 1) marked → IsTrue (is_marked marked low) ↔ IsBelowMarked dag first top low
  walk_ends first top low marked less known w = (λ t. w.below low less t, λ b. up b)
    where
      -- each unit below a marked one has its number marked, unless that is less
      come : (start : ℕ) → start < top → is_marked first start ≡ true → Among (node_at dag low) (history dag g start) → is_marked marked low ≡ true
      come start before t h =
          let st : start < count_of dag = omega arith in
          let all = (reach_keeps unit_cites (cites (unit_at dag start).signed.unit.panorama) (graph dag)
          (λ (x : Node). (n : ℕ) × (n < count_of dag) × (node_at dag n ≡ x) × (n < top) × (low ≤ n → is_marked marked n ≡ true))
          (λ x m t₂.
          let n = among_node dag x m in
          let c = node_cites start n.0 st n.1 (subst (λ (y : Node). cites (unit_at dag start).signed.unit.panorama y ≡ true) (sym n.2) t₂) in
          let earlier = cites_earlier start n.0 st c in
          (n.0, n.1, n.2, omega arith, λ le. w.done start n.0 (omega arith) before (w.kept start t) c le))
          (λ x y p m t₂.
          let n = among_node dag x m in
          let c = node_cites p.0 n.0 p.1 n.1 (subst (λ (z : Node). cites z.unit.panorama (node_at dag n.0) ≡ true) (sym p.2) (subst (λ (z : Node). cites y.unit.panorama z ≡ true) (sym n.2) t₂)) in
          let earlier = cites_earlier p.0 n.0 p.1 c in
          let within = p.3 in
          (n.0, n.1, n.2, omega arith, λ le. w.done p.0 n.0 (omega arith) within (p.4 (omega arith)) c le))
          (node_at dag low) h) in
          let same = same_node dag g all.0 low all.1 (omega arith) all.2 in
          subst (λ (k : ℕ). is_marked marked k ≡ true) same (all.4 (omega arith))

      up : IsBelowMarked dag first top low → is_marked marked low ≡ true
      up b = let before = b.before in elim (seen_cases dag g low b.start (omega arith) (omega arith) b.seen) [
        | inl same ↦ w.kept low (subst (λ (k : ℕ). is_marked first k ≡ true) (sym same) b.marked_is)
        | inr m ↦ come b.start b.before b.marked_is m
      ]

  -- what a unit on the lane has below it, the unit has
  pub seen_along : (low middle high : ℕ) → low < count_of dag → middle < count_of dag → high < count_of dag → is_seen dag low middle ≡ true → is_lane_below dag middle high ≡ true → is_seen dag low high ≡ true
  seen_along low middle high lo mi hi t on = elim (seen_cases dag g middle high mi hi (lane_is_seen dag g middle high mi hi on)) [
    | inl same ↦ subst (λ (k : ℕ). is_seen dag low k ≡ true) same t
    | inr below ↦ elim (seen_cases dag g low middle lo mi t) [
      | inl own ↦ past_seen dag g low high (subst (λ (k : ℕ). Among (node_at dag k) (history dag g high)) (sym own) below)
      | inr lower ↦ past_seen dag g low high (past_within high middle mi below (node_at dag low) lower)
    ]
  ]

  -- and so is what a cited unit has
  pub seen_through : (low cited high : ℕ) → low < count_of dag → high < count_of dag → is_seen dag low cited ≡ true → Cites dag high cited → is_seen dag low high ≡ true
  seen_through low cited high lo hi t c =
      let less = cites_earlier high cited hi c in
      let mi : cited < count_of dag = omega arith in
      let below = cited_below high cited hi c in
      elim (seen_cases dag g low cited lo mi t) [
        | inl own ↦ past_seen dag g low high (subst (λ (k : ℕ). Among (node_at dag k) (history dag g high)) (sym own) below)
        | inr lower ↦ past_seen dag g low high (past_within high cited mi below (node_at dag low) lower)
      ]

  -- what is on the lane that a unit cites of the creator it has below it
  pub seen_on_cited : (low high : ℕ) (last : UnitNo) → low < count_of dag → high < count_of dag → view_at (unit_at dag high).panorama (creator_of (unit_at dag low)) ≡ view.Correct last
      → is_lane_below dag low last.0 ≡ true → is_seen dag low high ≡ true
  seen_on_cited low high last lo hi e on =
      let known = (g.settled high hi).panorama_is.known (creator_of (unit_at dag low)) last e in
      seen_through low last.0 high lo hi (lane_is_seen dag g low last.0 lo known on) (record { slot = creator_of (unit_at dag low); number = last; seen = e; is = refl })

  -- what is below a unit is one that it observes or below it
  pub first_step : (low high : ℕ) → low < count_of dag → high < count_of dag → Among (node_at dag low) (history dag g high) → (m : ℕ) × Cites dag high m × (is_seen dag low m ≡ true)
  first_step low high lo hi h =
      let all = (reach_keeps unit_cites (cites (unit_at dag high).signed.unit.panorama) (graph dag)
      (λ (x : Node). (n : ℕ) × (n < count_of dag) × (node_at dag n ≡ x) × (m : ℕ) × Cites dag high m × (is_seen dag n m ≡ true))
      (λ x i t.
      let n = among_node dag x i in
      (n.0, n.1, n.2, n.0, node_cites high n.0 hi n.1 (subst (λ (y : Node). cites (unit_at dag high).signed.unit.panorama y ≡ true) (sym n.2) t), same_seen dag g n.0 n.0 refl))
      (λ x y p i t.
      let n = among_node dag x i in
      let c = node_cites p.0 n.0 p.1 n.1 (subst (λ (z : Node). cites z.unit.panorama (node_at dag n.0) ≡ true) (sym p.2) (subst (λ (z : Node). cites y.unit.panorama z ≡ true) (sym n.2) t)) in
      let less = cites_earlier high p.3 hi p.4 in
      (n.0, n.1, n.2, p.3, p.4, seen_cited p.3 p.0 n.0 (omega arith) p.1 p.5 c))
      (node_at dag low) h) in
      let same = same_node dag g all.0 low all.1 lo all.2 in
      (all.3, all.4, subst (λ (k : ℕ). is_seen dag k all.3 ≡ true) same all.5)

  -- Where what the units of the slots observe was marked, from `low` on, and nothing else is, the lower unit is below a marked one exactly
  -- where it is below the unit of a slot.
  pub slots_reach : (slots : List View) (top low : ℕ) (old new : List Bool) → IsKnown dag slots → low < count_of dag → top ≤ count_of dag
      → IsInNoSlot slots low
      → ((slot : ℕ) (number : UnitNo) → view_at slots slot ≡ view.Correct number → number.0 ≤ top)
      → ((m : ℕ) → low ≤ m → m < top → is_marked old m ≡ false)
      → ((m : ℕ) → IsCitedBySome dag slots m → low ≤ m → is_marked new m ≡ true)
      → ((m : ℕ) → is_marked new m ≡ true → (is_marked old m ≡ true) ⊎ IsCitedBySome dag slots m)
      → IsBelowMarked dag new top low ↔ IsBelow dag slots low
  slots_reach slots top low old new known lo over apart most clear all only = (down, up)
    where
      down : IsBelowMarked dag new top low → IsBelow dag slots low
      down b =
          let before = b.before in
          let above = seen_earlier low b.start lo (omega arith) b.seen in
          elim (only b.start b.marked_is) [
            | inl was ↦ absurd (never_both (is_marked old b.start) was (clear b.start above b.before))
            | inr s ↦ record { slot = s.slot; cited = s.number; observed = s.named; seen = seen_through low b.start s.number.0 lo (known s.slot s.number s.named) b.seen s.cites }
          ]

      up : IsBelow dag slots low → IsBelowMarked dag new top low
      up b =
          let high = known b.slot b.cited b.observed in
          elim (seen_cases dag g low b.cited.0 lo high b.seen) [
            | inl same ↦ absurd (apart b.slot b.cited b.observed (sym same))
            | inr h ↦
                let step = first_step low b.cited.0 lo high h in
                let less = cites_earlier b.cited.0 step.0 high step.1 in
                let end = most b.slot b.cited b.observed in
                let above = seen_earlier low step.0 lo (omega arith) step.2 in
                record {
                  start = step.0;
                  before = omega arith;
                  marked_is = all step.0 (record { slot = b.slot; number = b.cited; named = b.observed; cites = step.1 }) above;
                  seen = step.2;
                }
          ]

  -- no unit of a slot has a later one below it
  pub none_above : (slots : List View) (top low : ℕ) → IsKnown dag slots → low < count_of dag → IsInNoSlot slots low
      → ((slot : ℕ) (number : UnitNo) → view_at slots slot ≡ view.Correct number → number.0 ≤ top) → top ≤ low → IsBelow dag slots low → ⊥
  none_above slots top low known lo apart most le b =
      let no_later = seen_earlier low b.cited.0 lo (known b.slot b.cited b.observed) b.seen in
      let end = most b.slot b.cited b.observed in
      apart b.slot b.cited b.observed (omega arith)
