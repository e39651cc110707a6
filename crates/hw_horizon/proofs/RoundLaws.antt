-- Rounds of pruning over tables.
use Rattle.std.proofs.Common.{◌≡◌, ℕ, zero, suc, ◌+◌, ◌-◌, ◌≤◌, ◌<◌, inl, inr, Bool, true, false, cond, List, length, map, Option, None, get_or-set_other, get_or-set_same, ◌≢◌, set, refl, sym, ap, ◌∙◌, arith}
use Rattle.std.proofs.Math.ListN.{length-set}
use Rattle.std.specs.Prelude.{◌&&◌, not, ◌==◌, nat_le, is_some}
use Rattle.std.specs.Bool.{then_some}
use Rattle.std.specs.List.{list_any, range_with_len}
use Rattle.std.proofs.lemmas.Bool.{cases_lt, cases_eq}
use Rattle.std.proofs.lemmas.List.{ext_get_or}
use Rattle.std.proofs.lemmas.List.FromFn.{length-map-range_with_len}
use Rattle.hw_types.specs.declared.unit.Obs.{Obs}
use Rattle.hw_types.specs.Graph.{Node, past, latest}
use Rattle.hw_types.specs.Votes.{weight_of}
use Rattle.hw_types.proofs.StableLaws.{both_ways}
use Rattle.hw_types.proofs.WordsLaws.{not_false}
use Rattle.hw_safety.specs.Pruned.{begun, or_zero, vote_start}
use Rattle.hw_dag.specs.declared.numbers.View.{View}
use Rattle.hw_horizon.specs.Tables.{Starts, entry, SameMembers, start_over, next_table, table_after, pruned_table}
use Rattle.hw_horizon.specs.Starts.{HasSlots}
use Rattle.hw_horizon.specs.Search.{table_of}
use Rattle.hw_horizon.proofs.TableLaws.{past_end, made_entry, made_beyond}

-- a table by its entries
pub made_by : (f : ℕ → Option ℕ) (n : ℕ) (t : Starts) → length t ≡ n → ((v : ℕ) → v < n → entry t v ≡ f v) → t ≡ map f (range_with_len 0 n)
made_by f n t len each = ext_get_or None t (map f (range_with_len 0 n)) (len ∙ sym (length-map-range_with_len f 0 n)) (λ v lt. each v (omega arith) ∙ sym (made_entry f n v (omega arith)))

-- an entry that is put
pub put_entry : (before after : Starts) (at v : ℕ) (o : Option ℕ) → after ≡ set before at o → v < at → entry after v ≡ entry before v
put_entry before after at v o e lt = ap (λ (t : Starts). entry t v) e ∙ (let other : v ≢ at = omega arith in rw get_or-set_other refl)

pub put_same : (before after : Starts) (at : ℕ) (o : Option ℕ) → after ≡ set before at o → at < length before → entry after at ≡ o
put_same before after at o e lt = ap (λ (t : Starts). entry t at) e ∙ (rw get_or-set_same refl)

-- the table of a level that is put
pub other_table : (tables : List Starts) (at k : ℕ) (t : Starts) → (k ≡ at → ⊥) → table_of (set tables at t) k ≡ table_of tables k
other_table tables at k t other = rw get_or-set_other refl

pub this_table : (tables : List Starts) (at : ℕ) (t : Starts) → at < length tables → table_of (set tables at t) at ≡ t
this_table tables at t lt = rw get_or-set_same refl

-- it has the length of the others
pub lengths_more : (tables : List Starts) (at n : ℕ) (t : Starts) → at < length tables → length t ≡ n → ((k : ℕ) → k < length tables → length (table_of tables k) ≡ n)
    → (k : ℕ) → k < length (set tables at t) → length (table_of (set tables at t) k) ≡ n
lengths_more tables at n t lt len each k less =
    let same : length (set tables at t) ≡ length tables = length-set tables at t in
    elim (cases_eq k at) [
      | inl e ↦ ap (λ (i : ℕ). length (table_of (set tables at t) i)) e ∙ ap length (this_table tables at t lt) ∙ len
      | inr other ↦ ap length (other_table tables at k t other) ∙ each k (omega arith)
    ]

-- who doesn't fall stays
pub stays_one : (present falls stays new : Bool) → falls ≡ (present && not stays) → falls ≡ false → new ≡ stays → (stays ≡ true → present ≡ true) → new ≡ present
stays_one true falls stays new e f s within = s ∙ not_false stays (sym e ∙ f)
stays_one false falls stays new e f s within = s ∙ both_ways stays false within (λ h. absurd cc)

-- who has a start over those present is present
pub start_present : (present : Bool) (o : Option ℕ) → is_some (cond present o None) ≡ true → present ≡ true
start_present true o h = refl
start_present false o h = absurd cc

-- a mark for who stays
pub marked_some : (stays : Bool) (o : Option ℕ) → o ≡ then_some stays 0 → is_some o ≡ stays
marked_some true o e = ap is_some e
marked_some false o e = ap is_some e

-- only who has a Correct slot is in a table with the same members
pub slots_same : (views : List View) (s t : Starts) → SameMembers s t → HasSlots views t → HasSlots views s
slots_same views s t same slots v h = slots v (sym (same v) ∙ h)

pub same_members : (s t : Starts) (n : ℕ) → length s ≡ n → length t ≡ n → ((v : ℕ) → v < n → is_some (entry s v) ≡ is_some (entry t v)) → SameMembers s t
same_members s t n ls lt each v = elim (cases_lt v n) [
  | inl less ↦ each v less
  | inr le ↦ ap is_some (past_end s v (omega arith) ∙ sym (past_end t v (omega arith)))
]

module _ (weights : List ℕ) (units : List Node) (panorama : List Obs) (quorum : ℕ) where
  abbrev n : ℕ
  n = length weights

  abbrev new_start : Starts → Starts → ℕ → Option ℕ
  new_start lower present v = cond (is_some (entry present v)) (start_over weights units panorama quorum lower present v) None

  pub next_by_entries : (lower present t : Starts) → length t ≡ n → ((v : ℕ) → v < n → entry t v ≡ new_start lower present v) → t ≡ next_table weights units panorama quorum lower present
  unfolding next_table
  next_by_entries lower present t len each = made_by (new_start lower present) n t len each

  pub next_length : (lower present : Starts) → length (next_table weights units panorama quorum lower present) ≡ n
  unfolding next_table
  next_length lower present = length-map-range_with_len (new_start lower present) 0 n

  pub next_entry : (lower present : Starts) (v : ℕ) → v < n → entry (next_table weights units panorama quorum lower present) v ≡ new_start lower present v
  unfolding next_table
  next_entry lower present v lt = made_entry (new_start lower present) n v lt

  next_beyond : (lower present : Starts) (v : ℕ) → n ≤ v → entry (next_table weights units panorama quorum lower present) v ≡ None
  unfolding next_table
  next_beyond lower present v le = made_beyond (new_start lower present) n v le

  cond_some : (b : Bool) (o : Option ℕ) → is_some (cond b o None) ≡ true → b ≡ true
  cond_some true o h = refl
  cond_some false o h = absurd cc

  -- who has a start was present
  pub next_within : (lower present : Starts) (v : ℕ) → is_some (entry (next_table weights units panorama quorum lower present) v) ≡ true → is_some (entry present v) ≡ true
  next_within lower present v h = elim (cases_lt v n) [
    | inl lt ↦ cond_some (is_some (entry present v)) (start_over weights units panorama quorum lower present v) (ap is_some (sym (next_entry lower present v lt)) ∙ h)
    | inr le ↦ absurd (let bad : false ≡ true = ap is_some (sym (next_beyond lower present v le)) ∙ h in cc)
  ]

  pub slots_stay : (views : List View) (lower present : Starts) → HasSlots views present → HasSlots views (next_table weights units panorama quorum lower present)
  slots_stay views lower present slots v h = slots v (next_within lower present v h)

  -- the next table is by who is present alone
  same_start : (lower s t : Starts) → SameMembers s t → (v : ℕ) → new_start lower s v ≡ new_start lower t v
  same_start lower s t same v =
      ap (λ (b : Bool). cond b (start_over weights units panorama quorum lower s v) None) (same v)
      ∙ ap (λ (test : List Node → ℕ → Bool). cond (is_some (entry t v)) (begun units (or_zero (entry lower v)) (λ x. nat_le quorum (weight_of weights (test (past units x.unit.panorama)))) (latest units panorama v)) None)
      (λ i below w. same w i && list_any (λ y. (y.unit.creator == w) && nat_le (or_zero (entry lower w)) y.unit.seq) below)

  next_same : (lower s t : Starts) → SameMembers s t → next_table weights units panorama quorum lower s ≡ next_table weights units panorama quorum lower t
  next_same lower s t same = next_by_entries lower t (next_table weights units panorama quorum lower s) (next_length lower s) (λ v lt. next_entry lower s v lt ∙ same_start lower s t same v)

  after_none : (lower : Starts) → table_after 0 weights units panorama quorum lower ≡ lower
  unfolding table_after
  after_none lower = refl

  pub after_first : (lower t : Starts) → t ≡ lower → t ≡ table_after 0 weights units panorama quorum lower
  after_first lower t e = e ∙ sym (after_none lower)

  pub after_next : (k : ℕ) (lower : Starts) → table_after (suc k) weights units panorama quorum lower ≡ next_table weights units panorama quorum lower (table_after k weights units panorama quorum lower)
  unfolding table_after
  after_next k lower = refl

  -- once nobody falls, nothing changes any more
  pub after_settled : (k : ℕ) (lower : Starts) → SameMembers (table_after (suc k) weights units panorama quorum lower) (table_after k weights units panorama quorum lower)
      → (m : ℕ) → table_after (suc (k + m)) weights units panorama quorum lower ≡ table_after (suc k) weights units panorama quorum lower
  after_settled k lower same zero = let e : suc (k + 0) ≡ suc k = omega arith in ap (λ (i : ℕ). table_after i weights units panorama quorum lower) e
  after_settled k lower same (suc m) =
      let e : suc (k + suc m) ≡ suc (suc (k + m)) = omega arith in
      ap (λ (i : ℕ). table_after i weights units panorama quorum lower) e
      ∙ after_next (suc (k + m)) lower
      ∙ ap (next_table weights units panorama quorum lower) (after_settled k lower same m)
      ∙ next_same lower (table_after (suc k) weights units panorama quorum lower) (table_after k weights units panorama quorum lower) same
      ∙ sym (after_next k lower)

  -- ---- members alone

  pub members_first : (lower t : Starts) → t ≡ lower → SameMembers t (table_after 0 weights units panorama quorum lower)
  members_first lower t e v = ap (λ (s : Starts). is_some (entry s v)) (after_first lower t e)

  -- who has a start over those present is left
  pub next_members : (lower present t : Starts) → length t ≡ n → ((v : ℕ) → v < n → is_some (entry t v) ≡ is_some (new_start lower present v))
      → SameMembers t (next_table weights units panorama quorum lower present)
  next_members lower present t len each = same_members t (next_table weights units panorama quorum lower present) n len (next_length lower present) (λ v lt. each v lt ∙ ap is_some (sym (next_entry lower present v lt)))

  -- who is left after one more round
  pub members_more : (k j : ℕ) (lower present next : Starts) → SameMembers present (table_after k weights units panorama quorum lower)
      → SameMembers next (next_table weights units panorama quorum lower present) → j ≡ k + 1 → SameMembers next (table_after j weights units panorama quorum lower)
  members_more k j lower present next p e one v =
      let same : suc k ≡ j = omega arith in
      e v
      ∙ ap (λ (t : Starts). is_some (entry t v)) (next_same lower present (table_after k weights units panorama quorum lower) p
      ∙ sym (after_next k lower) ∙ ap (λ (i : ℕ). table_after i weights units panorama quorum lower) same)

  -- once nobody falls, they stay
  pub members_settled : (k : ℕ) (lower present next : Starts) → SameMembers present (table_after k weights units panorama quorum lower)
      → SameMembers next (next_table weights units panorama quorum lower present) → SameMembers next present → k < n → SameMembers next (table_after n weights units panorama quorum lower)
  members_settled k lower present next p e stays lt v =
      let m : (d : ℕ) × (suc (k + d) ≡ n) = (n - suc k, omega arith) in
      let now : SameMembers next (table_after (suc k) weights units panorama quorum lower) = members_more k (suc k) lower present next p e (omega arith) in
      let settled : SameMembers (table_after (suc k) weights units panorama quorum lower) (table_after k weights units panorama quorum lower) = λ w. sym (now w) ∙ stays w ∙ p w in
      now v ∙ ap (λ (t : Starts). is_some (entry t v)) (sym (after_settled k lower settled m.0) ∙ ap (λ (i : ℕ). table_after i weights units panorama quorum lower) m.1)

  -- once nobody has a start, nobody is left
  abbrev pub NoStart : Starts → Starts → Type 0
  NoStart lower present = (v : ℕ) → start_over weights units panorama quorum lower present v ≡ None

  cond_none : (b : Bool) (o : Option ℕ) → o ≡ None → is_some (cond b o None) ≡ false
  cond_none true o e = ap is_some e
  cond_none false o e = refl

  none_next : (lower present : Starts) → NoStart lower present → (v : ℕ) → is_some (entry (next_table weights units panorama quorum lower present) v) ≡ false
  none_next lower present none v = elim (cases_lt v n) [
    | inl lt ↦ ap is_some (next_entry lower present v lt) ∙ cond_none (is_some (entry present v)) (start_over weights units panorama quorum lower present v) (none v)
    | inr le ↦ ap is_some (next_beyond lower present v le)
  ]

  none_stays : (k : ℕ) (lower : Starts) → ((v : ℕ) → is_some (entry (table_after k weights units panorama quorum lower) v) ≡ false)
      → (m v : ℕ) → is_some (entry (table_after (m + k) weights units panorama quorum lower) v) ≡ false
  none_stays k lower none zero v = let e : k ≡ zero + k = omega arith in ap (λ (i : ℕ). is_some (entry (table_after i weights units panorama quorum lower) v)) (sym e) ∙ none v
  none_stays k lower none (suc m) v =
      let e : suc m + k ≡ suc (m + k) = omega arith in
      ap (λ (i : ℕ). is_some (entry (table_after i weights units panorama quorum lower) v)) e
      ∙ ap (λ (t : Starts). is_some (entry t v)) (after_next (m + k) lower)
      ∙ both_ways (is_some (entry (next_table weights units panorama quorum lower (table_after (m + k) weights units panorama quorum lower)) v)) false
      (λ h. sym (none_stays k lower none m v) ∙ next_within lower (table_after (m + k) weights units panorama quorum lower) v h) (λ h. absurd cc)

  pub members_none : (k : ℕ) (lower present t : Starts) → SameMembers present (table_after k weights units panorama quorum lower) → NoStart lower present → k < n
      → ((v : ℕ) → entry t v ≡ None) → SameMembers t (table_after n weights units panorama quorum lower)
  members_none k lower present t p none lt cleared v =
      let m : (d : ℕ) × (d + suc k ≡ n) = (n - suc k, omega arith) in
      let empty : (w : ℕ) → is_some (entry (table_after (suc k) weights units panorama quorum lower) w) ≡ false =
      λ w. ap (λ (s : Starts). is_some (entry s w)) (after_next k lower ∙ sym (next_same lower present (table_after k weights units panorama quorum lower) p)) ∙ none_next lower present none w in
      ap is_some (cleared v) ∙ sym (none_stays (suc k) lower empty m.0 v) ∙ ap (λ (i : ℕ). is_some (entry (table_after i weights units panorama quorum lower) v)) m.1

  -- over the members that are left, the starts are those of the level
  pub from_members : (lower present t : Starts) → SameMembers present (table_after n weights units panorama quorum lower) → t ≡ next_table weights units panorama quorum lower present
      → t ≡ table_after (suc n) weights units panorama quorum lower
  from_members lower present t p e = e ∙ next_same lower present (table_after n weights units panorama quorum lower) p ∙ sym (after_next n lower)

  -- so many rounds are enough
  pub members_run_out : (k : ℕ) (lower t : Starts) → SameMembers t (table_after k weights units panorama quorum lower) → k ≡ n → SameMembers t (table_after n weights units panorama quorum lower)
  members_run_out k lower t e all v = e v ∙ ap (λ (i : ℕ). is_some (entry (table_after i weights units panorama quorum lower) v)) all

  -- ---- levels

  pub first_table : (block : Node) (t : Starts) → length t ≡ n → ((v : ℕ) → v < n → entry t v ≡ vote_start weights units panorama block v) → t ≡ pruned_table weights units panorama block quorum 0
  unfolding pruned_table
  first_table block t len each = made_by (vote_start weights units panorama block) n t len each

  above : (block : Node) (i : ℕ) → pruned_table weights units panorama block quorum (suc i) ≡ table_after (suc n) weights units panorama quorum (pruned_table weights units panorama block quorum i)
  unfolding pruned_table
  above block i = refl

  -- the tables up to a level, with one more
  pub tables_more : (block : Node) (tables : List Starts) (at : ℕ) (t : Starts) → at < length tables → t ≡ pruned_table weights units panorama block quorum at
      → ((k : ℕ) → k < at → table_of tables k ≡ pruned_table weights units panorama block quorum k) → (k : ℕ) → k ≤ at → table_of (set tables at t) k ≡ pruned_table weights units panorama block quorum k
  tables_more block tables at t lt e each k le = elim (cases_eq k at) [
    | inl same ↦ ap (λ (i : ℕ). table_of (set tables at t) i) same ∙ this_table tables at t lt ∙ e ∙ ap (pruned_table weights units panorama block quorum) (sym same)
    | inr other ↦ other_table tables at k t other ∙ each k (let less : k < at = omega arith in less)
  ]

  pub after_slots : (views : List View) (k : ℕ) (lower : Starts) → HasSlots views lower → HasSlots views (table_after k weights units panorama quorum lower)
  unfolding table_after
  after_slots views zero lower slots = slots
  after_slots views (suc k) lower slots = slots_stay views lower (table_after k weights units panorama quorum lower) (after_slots views k lower slots)

  pub after_length : (k : ℕ) (lower : Starts) → length (table_after (suc k) weights units panorama quorum lower) ≡ n
  after_length k lower = ap length (after_next k lower) ∙ next_length lower (table_after k weights units panorama quorum lower)

  pub level_table : (block : Node) (k j : ℕ) (lower t : Starts) → lower ≡ pruned_table weights units panorama block quorum k → t ≡ table_after (suc n) weights units panorama quorum lower → j ≡ k + 1
      → t ≡ pruned_table weights units panorama block quorum j
  level_table block k j lower t e now one =
      let same : suc k ≡ j = omega arith in
      now ∙ ap (table_after (suc n) weights units panorama quorum) e ∙ sym (above block k) ∙ ap (pruned_table weights units panorama block quorum) same
