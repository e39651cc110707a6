-- Members that fall one after the other leave those that whole rounds leave.
use Rattle.std.proofs.Common.{◌≡◌, ◌≢◌, ℕ, zero, suc, ◌+◌, ◌-◌, ◌^◌, ◌≤◌, ◌<◌, inl, inr, Bool, true, false, cond, List, length, Option, Some, None, get_or, get_or-set_other, get_or-set_same, set, refl, sym, ap, subst, ◌∙◌, arith}
use Rattle.std.specs.Prelude.{◌&&◌, ◌==◌, nat_le, is_some}
use Rattle.std.specs.List.{list_any}
use Rattle.std.proofs.lemmas.Bool.{cases_lt, cases_eq, leb-true, le-leb}
use Rattle.hw_types.specs.declared.unit.Obs.{Obs}
use Rattle.hw_types.specs.Graph.{Node, past, latest}
use Rattle.hw_types.specs.Votes.{weight_of}
use Rattle.hw_types.proofs.StableLaws.{both_ways, and_parts, and_whole}
use Rattle.hw_types.proofs.SummitLaws.{weight_le}
use Rattle.hw_safety.specs.Pruned.{begun, or_zero}
use Rattle.hw_safety.proofs.PrunedLaws.{begun_is, has_begun}
use Rattle.hw_dag.specs.declared.numbers.View.{View}
use Rattle.hw_dag.specs.Dag.{UnitGraph, view_at}
use Rattle.hw_dag.specs.Admission.{IsGraph}
use Rattle.hw_horizon.specs.Tables.{Starts, entry, is_member, is_seen, start_over, next_table, table_after, SameMembers, AreAmong}
use Rattle.hw_horizon.specs.Firsts.{IsFirst, AreFirsts}
use Rattle.hw_horizon.proofs.TableLaws.{past_end, rounds_enough}
use Rattle.hw_horizon.proofs.RoundLaws.{start_present, next_length, next_entry, next_within, after_next, NoStart}
use Rattle.hw_horizon.proofs.FirstLaws.{absent_first}

-- two tables with the members of each other have the same
pub among_both : (s t : Starts) → AreAmong s t → AreAmong t s → SameMembers s t
among_both s t there back v = both_ways (is_some (entry s v)) (is_some (entry t v)) (there v) (back v)

-- an entry that another one's change leaves
pub other_entry : (before after : Starts) (at v : ℕ) (o : Option ℕ) → after ≡ set before at o → (v ≡ at → ⊥) → entry after v ≡ entry before v
other_entry before after at v o e other = ap (λ (t : Starts). entry t v) e ∙ (let apart : v ≢ at = other in rw get_or-set_other refl)

other_number : (before after : List ℕ) (at v n : ℕ) → after ≡ set before at n → (v ≡ at → ⊥) → get_or after v 0 ≡ get_or before v 0
other_number before after at v n e other = ap (λ (t : List ℕ). get_or t v 0) e ∙ (let apart : v ≢ at = other in rw get_or-set_other refl)

this_number : (before after : List ℕ) (at n : ℕ) → after ≡ set before at n → at < length before → get_or after at 0 ≡ n
this_number before after at n e lt = ap (λ (t : List ℕ). get_or t at 0) e ∙ (rw get_or-set_same refl)

module _ (weights : List ℕ) (units : List Node) (panorama : List Obs) (quorum : ℕ) where
  abbrev n : ℕ
  n = length weights

  -- where more units pass, a lane still has a start
  begun_more : (floor : ℕ) (p q : Node → Bool) → ((x : Node) → p x ≡ true → q x ≡ true) → (u : Option Node) → is_some (begun units floor p u) ≡ true → is_some (begun units floor q u) ≡ true
  begun_more floor p q more u h = go (begun units floor p u) refl h
    where
      go : (o : Option ℕ) → begun units floor p u ≡ o → is_some o ≡ true → is_some (begun units floor q u) ≡ true
      go None e k = absurd cc
      go (Some start) e k =
          let b = begun_is units floor p u start e in
          let there = has_begun units floor q b.last start b.above b.reached (λ x m le. more x (b.each x m le)) in
          ap (λ (w : Option Node). is_some (begun units floor q w)) b.seen ∙ ap is_some there.1

  -- whoever has a start over fewer has one over more
  pub start_more : (lower fewer more : Starts) → AreAmong fewer more → (v : ℕ) → is_some (start_over weights units panorama quorum lower fewer v) ≡ true → is_some (start_over weights units panorama quorum lower more v) ≡ true
  start_more lower fewer more among v = begun_more (or_zero (entry lower v)) (enough fewer) (enough more) grows (latest units panorama v)
    where
      enough : Starts → Node → Bool
      enough present x = nat_le quorum (weight_of weights (is_seen (past units x.unit.panorama) lower present))

      grows : (x : Node) → enough fewer x ≡ true → enough more x ≡ true
      grows x h =
          let below : List Node = past units x.unit.panorama in
          let low : quorum ≤ weight_of weights (is_seen below lower fewer) = leb-true _ _ h in
          let most = weight_le weights (is_seen below lower fewer) (is_seen below lower more)
          (λ w k. let parts = and_parts (is_some (entry fewer w)) (list_any (λ y. (y.unit.creator == w) && nat_le (or_zero (entry lower w)) y.unit.seq) below) k in
          and_whole (is_some (entry more w)) (list_any (λ y. (y.unit.creator == w) && nat_le (or_zero (entry lower w)) y.unit.seq) below) (among w parts.0) parts.1) in
          le-leb _ _ (omega arith)

  -- ---- who is left by a round

  inside : (t : Starts) → length t ≡ n → (v : ℕ) → is_some (entry t v) ≡ true → v < n
  inside t len v h = elim (cases_lt v n) [
    | inl lt ↦ lt
    | inr le ↦ absurd (let bad : false ≡ true = ap is_some (sym (past_end t v (omega arith))) ∙ h in cc)
  ]

  cond_start : (b : Bool) (o : Option ℕ) → is_some (cond b o None) ≡ true → is_some o ≡ true
  cond_start true o h = h
  cond_start false o h = absurd cc

  -- who is left has a start over those present
  next_has : (lower present : Starts) (v : ℕ) → is_some (entry (next_table weights units panorama quorum lower present) v) ≡ true → is_some (start_over weights units panorama quorum lower present v) ≡ true
  next_has lower present v h =
      let lt = inside (next_table weights units panorama quorum lower present) (next_length weights units panorama quorum lower present) v h in
      cond_start (is_some (entry present v)) (start_over weights units panorama quorum lower present v) (ap is_some (sym (next_entry weights units panorama quorum lower present v lt)) ∙ h)

  -- and whoever has one is left
  pub has_next : (lower present : Starts) (v : ℕ) → v < n → is_some (entry present v) ≡ true → is_some (start_over weights units panorama quorum lower present v) ≡ true
      → is_some (entry (next_table weights units panorama quorum lower present) v) ≡ true
  has_next lower present v lt m s =
      ap is_some (next_entry weights units panorama quorum lower present v lt) ∙ ap (λ (b : Bool). is_some (cond b (start_over weights units panorama quorum lower present v) None)) m ∙ s

  -- whoever is left of fewer is left of more
  next_more : (lower fewer more : Starts) → AreAmong fewer more → AreAmong (next_table weights units panorama quorum lower fewer) (next_table weights units panorama quorum lower more)
  next_more lower fewer more among v h =
      let lt = inside (next_table weights units panorama quorum lower fewer) (next_length weights units panorama quorum lower fewer) v h in
      has_next lower more v lt (among v (next_within weights units panorama quorum lower fewer v h)) (start_more lower fewer more among v (next_has lower fewer v h))

  -- one round more
  pub among_more : (k j : ℕ) (lower present new : Starts) → AreAmong present (table_after k weights units panorama quorum lower) → AreAmong new (next_table weights units panorama quorum lower present) → j ≡ k + 1
      → AreAmong new (table_after j weights units panorama quorum lower)
  among_more k j lower present new down judged one v h =
      let same : suc k ≡ j = omega arith in
      ap (λ (i : ℕ). is_some (entry (table_after i weights units panorama quorum lower) v)) (sym same)
      ∙ ap (λ (t : Starts). is_some (entry t v)) (after_next weights units panorama quorum k lower)
      ∙ next_more lower present (table_after k weights units panorama quorum lower) down v (judged v h)

  -- those who all stay are left by every round
  stable_stays : (k : ℕ) (lower present : Starts) → AreAmong present (table_after k weights units panorama quorum lower) → AreAmong present (next_table weights units panorama quorum lower present) → (m : ℕ)
      → AreAmong present (table_after (m + k) weights units panorama quorum lower)
  stable_stays k lower present down stable zero v h = let e : zero + k ≡ k = omega arith in ap (λ (i : ℕ). is_some (entry (table_after i weights units panorama quorum lower) v)) e ∙ down v h
  stable_stays k lower present down stable (suc m) v h =
      among_more (m + k) (suc m + k) lower present present (stable_stays k lower present down stable m) stable (omega arith) v h

  pub stable_left : (k : ℕ) (lower present : Starts) → k < n → AreAmong present (table_after k weights units panorama quorum lower) → AreAmong present (next_table weights units panorama quorum lower present)
      → AreAmong present (table_after n weights units panorama quorum lower)
  stable_left k lower present lt down stable v h =
      let m : (d : ℕ) × (d + k ≡ n) = (n - k, omega arith) in
      ap (λ (i : ℕ). is_some (entry (table_after i weights units panorama quorum lower) v)) (sym m.1) ∙ stable_stays k lower present down stable m.0 v h

  -- those who are left at the end all stay
  pub left_stable : (lower : Starts) → length lower ≡ n → AreAmong (table_after n weights units panorama quorum lower) (next_table weights units panorama quorum lower (table_after n weights units panorama quorum lower))
  left_stable lower len v h = ap (λ (t : Starts). is_some (entry t v)) (sym (after_next weights units panorama quorum n lower)) ∙ rounds_enough weights units panorama quorum lower len v ∙ h

  -- and they were there at the start
  pub left_within : (k : ℕ) (lower : Starts) → AreAmong (table_after k weights units panorama quorum lower) lower
  unfolding table_after
  left_within zero lower v h = h
  left_within (suc k) lower v h =
      left_within k lower v (next_within weights units panorama quorum lower (table_after k weights units panorama quorum lower) v (sym (ap (λ (t : Starts). is_some (entry t v)) (after_next weights units panorama quorum k lower)) ∙ h))

  -- where none of them has a start, nobody is left
  pub none_left : (lower t : Starts) → length lower ≡ n → NoStart weights units panorama quorum lower (table_after n weights units panorama quorum lower) → ((v : ℕ) → entry t v ≡ None)
      → SameMembers t (table_after n weights units panorama quorum lower)
  none_left lower t len none cleared v =
      ap is_some (cleared v) ∙ sym (both_ways (is_some (entry (table_after n weights units panorama quorum lower) v)) false
      (λ h. ap is_some (sym (none v)) ∙ next_has lower (table_after n weights units panorama quorum lower) v (left_stable lower len v h)) (λ h. absurd cc))

  -- ---- one of them is judged

  module _ (lower present after : Starts) (at : ℕ) (others : (v : ℕ) → (v ≡ at → ⊥) → entry after v ≡ entry present v)
      (judged : is_some (entry after at) ≡ is_some (cond (is_some (entry present at)) (start_over weights units panorama quorum lower present at) None)) where
    pub judged_among : AreAmong after present
    judged_among v h = elim (cases_eq v at) [
      | inl same ↦ ap (λ (k : ℕ). is_some (entry present k)) same
          ∙ start_present (is_some (entry present at)) (start_over weights units panorama quorum lower present at) (sym judged ∙ ap (λ (k : ℕ). is_some (entry after k)) (sym same) ∙ h)
      | inr other ↦ ap is_some (sym (others v other)) ∙ h
    ]

    -- who stays over fewer stays
    pub judged_keeps : (kept : Starts) → AreAmong kept (next_table weights units panorama quorum lower kept) → AreAmong kept present → AreAmong kept after
    judged_keeps kept stable down v h = elim (cases_eq v at) [
      | inl same ↦ ap (λ (k : ℕ). is_some (entry after k)) same ∙ judged
          ∙ ap (λ (b : Bool). is_some (cond b (start_over weights units panorama quorum lower present at) None)) (ap (λ (k : ℕ). is_some (entry present k)) (sym same) ∙ down v h)
          ∙ ap (λ (k : ℕ). is_some (start_over weights units panorama quorum lower present k)) (sym same) ∙ start_more lower kept present down v (next_has lower kept v (stable v h))
      | inr other ↦ ap is_some (others v other) ∙ down v h
    ]

    -- who stays has a start over more
    pub judged_start : (first : Starts) → AreAmong present first → is_some (entry after at) ≡ true → is_some (start_over weights units panorama quorum lower first at) ≡ true
    judged_start first among h =
        start_more lower present first among at (cond_start (is_some (entry present at)) (start_over weights units panorama quorum lower present at) (sym judged ∙ h))

  -- once all are judged
  pub all_judged : (lower first after : Starts) → length after ≡ n → AreAmong after first
      → ((v : ℕ) → v < n → is_some (entry after v) ≡ true → is_some (start_over weights units panorama quorum lower first v) ≡ true) → AreAmong after (next_table weights units panorama quorum lower first)
  all_judged lower first after len among judged v h = let lt = inside after len v h in has_next lower first v lt (among v h) (judged v lt h)

  -- who is in a table weighs no more than those of a larger one
  pub among_weight : (s t : Starts) → AreAmong s t → weight_of weights (is_member s) ≤ weight_of weights (is_member t)
  among_weight s t among = weight_le weights (is_member s) (is_member t) among

-- ---- first units

module _ (dag : UnitGraph) (g : IsGraph dag) (panorama : List View) (lower : Starts) where
  -- what is first for a member stays so while others fall
  pub first_kept : (present after : Starts) (v first other : ℕ) → entry after v ≡ entry present v → other ≡ first → IsFirst dag (view_at panorama v) lower present v first → IsFirst dag (view_at panorama v) lower after v other
  first_kept present after v first other same e h =
      subst (λ (k : ℕ). IsFirst dag (view_at panorama v) lower after v k) (sym e) (record { absent = λ f. h.absent (ap is_some (sym same) ∙ f); in_lane = λ f. h.in_lane (ap is_some (sym same) ∙ f) })

  -- one falls
  pub fallen_firsts : (present after : Starts) (firsts numbers : List ℕ) (at : ℕ) → AreFirsts dag panorama lower present firsts → after ≡ set present at None → numbers ≡ set firsts at (2 ^ 32 - 1)
      → at < length present → at < length firsts → AreFirsts dag panorama lower after numbers
  fallen_firsts present after firsts numbers at are ea en lp lf v lt = elim (cases_eq v at) [
    | inl same ↦ subst (λ (k : ℕ). IsFirst dag (view_at panorama k) lower after k (get_or numbers k 0)) (sym same)
        (subst (λ (k : ℕ). IsFirst dag (view_at panorama at) lower after at k) (sym (this_number firsts numbers at (2 ^ 32 - 1) en lf))
        (absent_first dag g (view_at panorama at) lower after at (ap (λ (t : Starts). is_some (entry t at)) ea ∙ (rw get_or-set_same refl))))
    | inr other ↦ first_kept present after v (get_or firsts v 0) (get_or numbers v 0) (other_entry present after at v None ea other) (other_number firsts numbers at v (2 ^ 32 - 1) en other) (are v lt)
  ]

  -- nobody is present
  pub cleared_firsts : (t : Starts) (numbers : List ℕ) → ((v : ℕ) → entry t v ≡ None) → length numbers ≡ dag.validators → ((v : ℕ) → v < length numbers → get_or numbers v 0 ≡ 2 ^ 32 - 1) → AreFirsts dag panorama lower t numbers
  cleared_firsts t numbers none len each v lt =
      subst (λ (k : ℕ). IsFirst dag (view_at panorama v) lower t v k) (sym (each v (omega arith))) (absent_first dag g (view_at panorama v) lower t v (ap is_some (none v)))
