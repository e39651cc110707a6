-- Steps back along chains.
use Rattle.std.proofs.Common.{◌≡◌, ℕ, zero, suc, ◌+◌, ◌-◌, ◌*◌, ◌^◌, ◌<◌, ◌≤◌, inl, inr, List, [], ◌∷◌, ◌++◌, length, get_or, Option, Some, None, refl, sym, ap, subst, ◌∙◌, arith, length-append}
use Rattle.std.specs.Prelude.{Bool, true, false, slice_get, if◌then◌else◌}
use Rattle.std.proofs.lemmas.Nat.{pow_pos}
use Rattle.hw_dag.proofs.JumpLaws.{pointers_lead}
use Rattle.hw_dag.proofs.LogLaws.{double}
use Rattle.std.specs.Option.{option_and_then}
use Rattle.std.proofs.lemmas.List.{get_or_append_left, get_or_push, get_or_read, length-map, map-append}
use Rattle.std.proofs.lemmas.Bool.Decides.{nat_tests}
use Rattle.std.proofs.lemmas.Bool.{cases_lt}
use Rattle.hw_dag.specs.declared.numbers.UnitNo.{UnitNo}
use Rattle.hw_dag.specs.Jumps.{pointer_count_of}
use Rattle.hw_dag.specs.Skips.{back_at, back_from, IsDepth, LeadsDown, IsSkips, IsSkipTable, backs_of, pointers_at, pointer_at}

pub back_from-none : (backs : List (Option UnitNo)) (n : ℕ) → back_from backs 0 n ≡ Some n
unfolding back_from
back_from-none backs n = refl

pub back_from-step : (backs : List (Option UnitNo)) (k n : ℕ) (p : UnitNo) → back_at backs n ≡ Some p → back_from backs (suc k) n ≡ back_from backs k p.0
unfolding back_from
back_from-step backs k n p e = ap (option_and_then (λ (q : UnitNo). back_from backs k q.0)) e

pub back_from-root : (backs : List (Option UnitNo)) (k n : ℕ) → back_at backs n ≡ None → back_from backs (suc k) n ≡ None
unfolding back_from
back_from-root backs k n e = ap (option_and_then (λ (q : UnitNo). back_from backs k q.0)) e

-- where steps lead back, there is a first one
pub first_step : (backs : List (Option UnitNo)) (k n m : ℕ) → back_from backs (suc k) n ≡ Some m → (p : UnitNo) × (back_at backs n ≡ Some p) × (back_from backs k p.0 ≡ Some m)
first_step backs k n m h = go (back_at backs n) refl
  where
    go : (o : Option UnitNo) → back_at backs n ≡ o → (p : UnitNo) × (back_at backs n ≡ Some p) × (back_from backs k p.0 ≡ Some m)
    go None e = absurd (let no : None ≡ Some m = sym (back_from-root backs k n e) ∙ h in cc)
    go (Some p) e = (p, e, sym (back_from-step backs k n p e) ∙ h)

-- steps after steps
pub back_from-add : (backs : List (Option UnitNo)) (j k n m : ℕ) → back_from backs j n ≡ Some m → back_from backs (j + k) n ≡ back_from backs k m
back_from-add backs zero k n m h =
    let same : n ≡ m = (let s : Some n ≡ Some m = sym (back_from-none backs n) ∙ h in cc) in
    let e : 0 + k ≡ k = omega arith in
    ap (λ (i : ℕ). back_from backs i n) e ∙ ap (λ (i : ℕ). back_from backs k i) same
back_from-add backs (suc j) k n m h =
    let p = first_step backs j n m h in
    let e : suc j + k ≡ suc (j + k) = omega arith in
    ap (λ (i : ℕ). back_from backs i n) e ∙ back_from-step backs (j + k) n p.0 p.1 ∙ back_from-add backs j k p.0.0 m p.2

-- each step leads to an earlier unit
pub back_from_earlier : (backs : List (Option UnitNo)) → LeadsDown backs → (k n m : ℕ) → n < length backs → back_from backs k n ≡ Some m → m ≤ n
back_from_earlier backs down zero n m lt h =
    let same : n ≡ m = (let s : Some n ≡ Some m = sym (back_from-none backs n) ∙ h in cc) in omega arith
back_from_earlier backs down (suc k) n m lt h =
    let p = first_step backs k n m h in
    let less : p.0.0 < n = down n p.0 lt p.1 in
    let rest : m ≤ p.0.0 = back_from_earlier backs down k p.0.0 m (omega arith) p.2 in
    omega arith

pub back_from_within : (backs : List (Option UnitNo)) → LeadsDown backs → (k n m : ℕ) → n < length backs → back_from backs k n ≡ Some m → m < length backs
back_from_within backs down k n m lt h = let le = back_from_earlier backs down k n m lt h in omega arith

-- ---- depths

pub root_depth : (backs : List (Option UnitNo)) (n : ℕ) → back_at backs n ≡ None → IsDepth backs n 0
root_depth backs n e = record { root = n; leads = back_from-none backs n; first = e }

pub next_depth : (backs : List (Option UnitNo)) (n d : ℕ) (p : UnitNo) → back_at backs n ≡ Some p → IsDepth backs p.0 d → IsDepth backs n (suc d)
next_depth backs n d p e h = record { root = h.root; leads = back_from-step backs d n p e ∙ h.leads; first = h.first }

-- the unit a step back is one less deep
pub depth_back : (backs : List (Option UnitNo)) (n d : ℕ) (p : UnitNo) → back_at backs n ≡ Some p → IsDepth backs n d → (e : ℕ) × (d ≡ suc e) × IsDepth backs p.0 e
depth_back backs n zero p e h =
    let same : n ≡ h.root = (let s : Some n ≡ Some h.root = sym (back_from-none backs n) ∙ h.leads in cc) in
    absurd (let no : Some p ≡ None = sym e ∙ ap (λ (i : ℕ). back_at backs i) same ∙ h.first in cc)
depth_back backs n (suc d) p e h = (d, refl, record { root = h.root; leads = sym (back_from-step backs d n p e) ∙ h.leads; first = h.first })

pub depth_root : (backs : List (Option UnitNo)) (n d : ℕ) → back_at backs n ≡ None → IsDepth backs n d → d ≡ 0
depth_root backs n zero e h = refl
depth_root backs n (suc d) e h = absurd (let no : None ≡ Some h.root = sym (back_from-root backs d n e) ∙ h.leads in cc)

pub depth_one : (backs : List (Option UnitNo)) (n d e : ℕ) → IsDepth backs n d → IsDepth backs n e → d ≡ e
depth_one backs n zero e h k = go (back_at backs n) refl
  where
    go : (o : Option UnitNo) → back_at backs n ≡ o → 0 ≡ e
    go None a = sym (depth_root backs n e a k)
    go (Some p) a = let no = (depth_back backs n 0 p a h).1 in absurd (omega arith)
depth_one backs n (suc d) e h k =
    let p = first_step backs d n h.root h.leads in
    let a = depth_back backs n (suc d) p.0 p.1 h in
    let b = depth_back backs n e p.0 p.1 k in
    let ha : IsDepth backs p.0.0 d = record { root = h.root; leads = p.2; first = h.first } in
    let same = depth_one backs p.0.0 d b.0 ha b.2 in
    let eb = b.1 in omega arith

-- so many steps back it is so much less deep
pub depth_less : (backs : List (Option UnitNo)) (k n m d : ℕ) → back_from backs k n ≡ Some m → IsDepth backs n d → (k ≤ d) × IsDepth backs m (d - k)
depth_less backs zero n m d h i =
    let same : n ≡ m = (let s : Some n ≡ Some m = sym (back_from-none backs n) ∙ h in cc) in
    let e : d ≡ d - 0 = omega arith in
    (omega arith, subst (λ (x : ℕ). IsDepth backs x (d - 0)) same (subst (λ (x : ℕ). IsDepth backs n x) e i))
depth_less backs (suc k) n m d h i =
    let p = first_step backs k n m h in
    let b = depth_back backs n d p.0 p.1 i in
    let rest = depth_less backs k p.0.0 m b.0 p.2 b.2 in
    let le = rest.0 in
    let eb = b.1 in
    let e : b.0 - k ≡ d - suc k = omega arith in
    (omega arith, subst (λ (x : ℕ). IsDepth backs m x) e rest.1)

-- a unit is no deeper than its number
pub depth_bound : (backs : List (Option UnitNo)) → LeadsDown backs → (n d : ℕ) → n < length backs → IsDepth backs n d → d ≤ n
depth_bound backs down n zero lt h = omega arith
depth_bound backs down n (suc d) lt h =
    let p = first_step backs d n h.root h.leads in
    let less : p.0.0 < n = down n p.0 lt p.1 in
    let rest : d ≤ p.0.0 = depth_bound backs down p.0.0 d (omega arith) (record { root = h.root; leads = p.2; first = h.first }) in
    omega arith

-- ---- one more unit

module _ (backs : List (Option UnitNo)) (down : LeadsDown backs) (last : Option UnitNo) where
  pub back_at_stays : (n : ℕ) → n < length backs → back_at (backs ++ last ∷ []) n ≡ back_at backs n
  back_at_stays n lt = get_or_append_left backs (last ∷ []) None n lt

  pub back_at_last : back_at (backs ++ last ∷ []) (length backs) ≡ last
  back_at_last = get_or_push backs last None (length backs) refl

  pub back_from_stays : (k n : ℕ) → n < length backs → back_from (backs ++ last ∷ []) k n ≡ back_from backs k n
  back_from_stays zero n lt = back_from-none (backs ++ last ∷ []) n ∙ sym (back_from-none backs n)
  back_from_stays (suc k) n lt = go (back_at backs n) refl (back_from_stays k)
    where
      go : (o : Option UnitNo) → back_at backs n ≡ o → ((i : ℕ) → i < length backs → back_from (backs ++ last ∷ []) k i ≡ back_from backs k i) → back_from (backs ++ last ∷ []) (suc k) n ≡ back_from backs (suc k) n
      go None e later = back_from-root (backs ++ last ∷ []) k n (back_at_stays n lt ∙ e) ∙ sym (back_from-root backs k n e)
      go (Some p) e later =
          let less : p.0 < n = down n p lt e in
          back_from-step (backs ++ last ∷ []) k n p (back_at_stays n lt ∙ e) ∙ later p.0 (omega arith) ∙ sym (back_from-step backs k n p e)

  pub depth_stays : (n d : ℕ) → n < length backs → IsDepth backs n d → IsDepth (backs ++ last ∷ []) n d
  depth_stays n d lt h = record {
    root = h.root;
    leads = back_from_stays d n lt ∙ h.leads;
    first = back_at_stays h.root (back_from_within backs down d n h.root lt h.leads) ∙ h.first;
  }

  depth_was : (n d : ℕ) → n < length backs → IsDepth (backs ++ last ∷ []) n d → IsDepth backs n d
  depth_was n d lt h =
      let way = sym (back_from_stays d n lt) ∙ h.leads in
      record {
        root = h.root;
        leads = way;
        first = sym (back_at_stays h.root (back_from_within backs down d n h.root lt way)) ∙ h.first;
      }

  -- how deep the last one stands
  pub last_first : (d : ℕ) → last ≡ None → IsDepth (backs ++ last ∷ []) (length backs) d → d ≡ 0
  last_first d e h = depth_root (backs ++ last ∷ []) (length backs) d (back_at_last ∙ e) h

  pub last_next : (d : ℕ) (p : UnitNo) → last ≡ Some p → p.0 < length backs → IsDepth (backs ++ last ∷ []) (length backs) d → (1 ≤ d) × IsDepth backs p.0 (d - 1)
  last_next d p e known h =
      let b = depth_back (backs ++ last ∷ []) (length backs) d p (back_at_last ∙ e) h in
      let eb = b.1 in
      let same : b.0 ≡ d - 1 = omega arith in
      (omega arith, subst (λ (x : ℕ). IsDepth backs p.0 x) same (depth_was p.0 b.0 known b.2))

  pub down_more : ((p : UnitNo) → last ≡ Some p → p.0 < length backs) → LeadsDown (backs ++ last ∷ [])
  down_more known n p lt e = elim (cases_lt n (length backs)) [
    | inl less ↦ down n p less (sym (back_at_stays n less) ∙ e)
    | inr more ↦
        let shorter : n < length backs + 1 = (let l = length-append backs (last ∷ []) in omega arith) in
        let same : n ≡ length backs = omega arith in
        let k : p.0 < length backs = known p (sym back_at_last ∙ ap (λ (i : ℕ). back_at (backs ++ last ∷ []) i) (sym same) ∙ e) in
        omega arith
  ]

-- ---- pointers

pub read_pointer : (pointers items : List UnitNo) (i : ℕ) (x : UnitNo) → pointers ≡ items → i < length pointers → x ≡ get_or items i x → pointer_at pointers i ≡ x
read_pointer pointers items i x same lt e =
    let P : List UnitNo → Type 0 = λ xs. i < length xs in
    ap (λ (xs : List UnitNo). pointer_at xs i) same ∙ sym (get_or_read items i x (subst P same lt) e (record { 0 = 0 }))

module _ (table : List (List UnitNo)) (t : IsSkipTable table) (backs : List (Option UnitNo)) (e : backs_of table ≡ backs) where
  pub length-table : length table ≡ length backs
  length-table = simp length-map at (ap length e)

  down : LeadsDown backs
  down = subst LeadsDown e t.down

  skips : (n : ℕ) → n < length backs → IsSkips backs n (pointers_at table n)
  skips n lt = subst (λ (bs : List (Option UnitNo)). IsSkips bs n (pointers_at table n)) e (t.skips n (let l = length-table in omega arith))

  -- what steps lead back to is there
  pub found_known : (start k at : ℕ) → start < length backs → back_from backs k start ≡ Some at → at < length table
  found_known start k at lt h = let l = length-table in let w = back_from_within backs down k start at lt h in omega arith

  -- the pointers of a unit of this depth
  pub pointer_count : (n d : ℕ) → n < length backs → IsDepth backs n d → length (pointers_at table n) ≡ pointer_count_of d
  pointer_count n d lt h =
      let s = skips n lt in
      subst (λ (x : ℕ). length (pointers_at table n) ≡ pointer_count_of x) (depth_one backs n s.depth d s.is_depth h) s.length_is

  pub pointer_leads : (n d i : ℕ) → n < length backs → IsDepth backs n d → i < pointer_count_of d → back_from backs (2 ^ i) n ≡ Some (pointer_at (pointers_at table n) i).0
  pointer_leads n d i lt h few =
      let s = skips n lt in
      let same = depth_one backs n s.depth d s.is_depth h in
      s.leads i (subst (λ (x : ℕ). i < pointer_count_of x) (sym same) few)

  -- a unit on the way back stands at this depth
  pub way_depth : (start at from depth : ℕ) → IsDepth backs start from → depth ≤ from → back_from backs (from - depth) start ≡ Some at → IsDepth backs at depth
  way_depth start at from depth h le found =
      let here = depth_less backs (from - depth) start at from found h in
      let same : from - (from - depth) ≡ depth = omega arith in
      subst (λ (x : ℕ). IsDepth backs at x) same here.1

  -- a jump on the way back
  pub jump_found : (start at from depth i : ℕ) → start < length backs → IsDepth backs start from → depth ≤ from → back_from backs (from - depth) start ≡ Some at
      → i < pointer_count_of depth → 2 ^ i ≤ depth → back_from backs (from - (depth - 2 ^ i)) start ≡ Some (pointer_at (pointers_at table at) i).0
  jump_found start at from depth i lt h le found few short =
      let deep = way_depth start at from depth h le found in
      let there = back_from_within backs down (from - depth) start at lt found in
      let split : from - (depth - 2 ^ i) ≡ (from - depth) + 2 ^ i = omega arith in
      ap (λ (k : ℕ). back_from backs k start) split ∙ back_from-add backs (from - depth) (2 ^ i) start at found ∙ pointer_leads at depth i there deep few

  -- as it is read
  pub jump_read : (start at from depth i : ℕ) (items : List UnitNo) (x : UnitNo) → start < length backs → IsDepth backs start from → depth ≤ from → back_from backs (from - depth) start ≡ Some at
      → i < pointer_count_of depth → 2 ^ i ≤ depth → pointers_at table at ≡ items → x ≡ get_or items i x → back_from backs (from - (depth - 2 ^ i)) start ≡ Some x.0
  jump_read start at from depth i items x lt h le found few short same read =
      let there = back_from_within backs down (from - depth) start at lt found in
      let many = pointer_count at depth there (way_depth start at from depth h le found) in
      let pointer = read_pointer (pointers_at table at) items i x same (omega arith) read in
      jump_found start at from depth i lt h le found few short ∙ ap (λ (p : UnitNo). Some p.0) pointer

  -- ---- the pointers of one more unit, which stands behind this one

  module _ (back d : ℕ) (known : back < length backs) (some : 1 ≤ d) (fits : d < 2 ^ 64) (deep : IsDepth backs back (d - 1)) where
    -- pointer i leads so deep
    last_depth : (at i : ℕ) → back_from backs (2 ^ i - 1) back ≡ Some at → i < pointer_count_of d → IsDepth backs at (d - 2 ^ i)
    last_depth at i h few =
        let here = depth_less backs (2 ^ i - 1) back at (d - 1) h deep in
        let le = here.0 in
        let more = pow_pos i in
        let short = (pointers_lead d i fits few).0 in
        let same : d - 1 - (2 ^ i - 1) ≡ d - 2 ^ i = omega arith in
        subst (λ (x : ℕ). IsDepth backs at x) same here.1

    pub next_count : (at i : ℕ) → back_from backs (2 ^ (i - 1) - 1) back ≡ Some at → 0 < i → i < pointer_count_of d → i - 1 < length (pointers_at table at)
    next_count at i h more few =
        let there = back_from_within backs down (2 ^ (i - 1) - 1) back at known h in
        let fewer : i - 1 < pointer_count_of d = omega arith in
        let next : i - 1 + 1 < pointer_count_of d = omega arith in
        let count = pointer_count at (d - 2 ^ (i - 1)) there (last_depth at (i - 1) h fewer) in
        let kept = (pointers_lead d (i - 1) fits fewer).1 next in
        omega arith

    pub next_read : (at i : ℕ) (items : List UnitNo) (x : UnitNo) → back_from backs (2 ^ (i - 1) - 1) back ≡ Some at → 0 < i → i < pointer_count_of d
        → pointers_at table at ≡ items → x ≡ get_or items (i - 1) x → back_from backs (2 ^ i - 1) back ≡ Some x.0
    next_read at i items x h more few same read =
        let there = back_from_within backs down (2 ^ (i - 1) - 1) back at known h in
        let fewer : i - 1 < pointer_count_of d = omega arith in
        let next : i - 1 + 1 < pointer_count_of d = omega arith in
        let kept = (pointers_lead d (i - 1) fits fewer).1 next in
        let leads = pointer_leads at (d - 2 ^ (i - 1)) (i - 1) there (last_depth at (i - 1) h fewer) kept in
        let pointer = read_pointer (pointers_at table at) items (i - 1) x same (next_count at i h more few) read in
        let twice = double (i - 1) in
        let up : suc (i - 1) ≡ i = omega arith in
        let power : 2 ^ i ≡ 2 * 2 ^ (i - 1) = ap (λ (k : ℕ). 2 ^ k) (sym up) ∙ twice in
        let positive = pow_pos (i - 1) in
        let split : 2 ^ i - 1 ≡ (2 ^ (i - 1) - 1) + 2 ^ (i - 1) = omega arith in
        ap (λ (k : ℕ). back_from backs k back) split ∙ back_from-add backs (2 ^ (i - 1) - 1) (2 ^ (i - 1)) back at h ∙ leads ∙ ap (λ (p : UnitNo). Some p.0) pointer

-- one pointer more
pub pointers_more : (backs : List (Option UnitNo)) (back i : ℕ) (old new : List UnitNo) (x : UnitNo) → new ≡ old ++ x ∷ [] → length old ≡ i
    → ((j : ℕ) → j < i → back_from backs (2 ^ j - 1) back ≡ Some (pointer_at old j).0) → back_from backs (2 ^ i - 1) back ≡ Some x.0
    → (j : ℕ) → j < i + 1 → back_from backs (2 ^ j - 1) back ≡ Some (pointer_at new j).0
pointers_more backs back i old new x e len before last j lt = elim (cases_lt j i) [
  | inl less ↦ before j less ∙ ap (λ (p : UnitNo). Some p.0) (sym (get_or_append_left old (x ∷ []) (record { 0 = 0 }) j (omega arith)) ∙ ap (λ (xs : List UnitNo). pointer_at xs j) (sym e))
  | inr more ↦
      let same : i ≡ j = omega arith in
      let here : back_from backs (2 ^ i - 1) back ≡ Some (pointer_at new i).0 =
      last ∙ ap (λ (p : UnitNo). Some p.0) (sym (get_or_push old x (record { 0 = 0 }) i len) ∙ ap (λ (xs : List UnitNo). pointer_at xs i) (sym e)) in
      subst (λ (k : ℕ). back_from backs (2 ^ k - 1) back ≡ Some (pointer_at new k).0) same here
]

-- a push that went well
pub pushed : {A : Type 0} (b : Bool) (old new : List A) (x : A) → new ≡ (if b then old ++ x ∷ [] else old) → b ≡ true → new ≡ old ++ x ∷ []
pushed true old new x e h = e
pushed false old new x e h = absurd cc

-- ---- one more list of pointers

length_some : {A : Type 0} (xs : List A) (d : A) → 0 < length xs → slice_get xs 0 ≡ Some (get_or xs 0 d)
length_some [] d lt = absurd (omega arith)
length_some (x ∷ xs) d lt = refl

length_none : {A : Type 0} (xs : List A) → length xs ≡ 0 → slice_get xs 0 ≡ None
length_none [] e = refl
length_none (x ∷ xs) e = absurd (omega arith)

some_count : (d : ℕ) → 1 ≤ d → 0 < pointer_count_of d
some_count d le = grind (arith, nat_tests)

pub none_count : (d : ℕ) → d ≡ 0 → pointer_count_of d ≡ 0
none_count d e = grind (arith, nat_tests)

-- the pointers of a unit that stands so deep behind another one, or first
pub record IsBehind (backs : List (Option UnitNo)) (back : Option UnitNo) (d : ℕ) (pointers : List UnitNo) : Type 0 where
  pub fits : d < 2 ^ 64
  pub known : (p : UnitNo) → back ≡ Some p → p.0 < length backs
  pub first : back ≡ None → d ≡ 0
  pub next : (p : UnitNo) → back ≡ Some p → (1 ≤ d) × IsDepth backs p.0 (d - 1)
  pub length_is : length pointers ≡ pointer_count_of d
  pub leads : (p : UnitNo) → back ≡ Some p → (i : ℕ) → i < pointer_count_of d → back_from backs (2 ^ i - 1) p.0 ≡ Some (pointer_at pointers i).0

module _ (table : List (List UnitNo)) (t : IsSkipTable table) (backs : List (Option UnitNo)) (e : backs_of table ≡ backs)
    (back : Option UnitNo) (d : ℕ) (last : List UnitNo) (b : IsBehind backs back d last) where
  first_pointer : slice_get last 0 ≡ back
  first_pointer = go back refl
    where
      go : (o : Option UnitNo) → back ≡ o → slice_get last 0 ≡ o
      go None h = length_none last (b.length_is ∙ none_count d (b.first h))
      go (Some p) h =
          let some = some_count d (b.next p h).0 in
          let len = b.length_is in
          let leads : back_from backs 0 p.0 ≡ Some (pointer_at last 0).0 = b.leads p h 0 some in
          let number : p.0 ≡ (pointer_at last 0).0 = (let s : Some p.0 ≡ Some (pointer_at last 0).0 = sym (back_from-none backs p.0) ∙ leads in cc) in
          length_some last (record { 0 = 0 }) (omega arith) ∙ (λ i. Some (record { 0 = sym number i }))

  pub backs_more : backs_of (table ++ last ∷ []) ≡ backs ++ back ∷ []
  backs_more = map-append (λ (pointers : List UnitNo). slice_get pointers 0) table (last ∷ []) ∙ ap (λ (bs : List (Option UnitNo)). bs ++ slice_get last 0 ∷ []) e ∙ ap (λ (o : Option UnitNo). backs ++ o ∷ []) first_pointer

  low : LeadsDown backs
  low = down table t backs e

  last_skips : IsSkips (backs ++ back ∷ []) (length backs) last
  last_skips = go back refl
    where
      go : (o : Option UnitNo) → back ≡ o → IsSkips (backs ++ back ∷ []) (length backs) last
      go None h = record {
        depth = d;
        bounded = b.fits;
        is_depth = subst (λ (x : ℕ). IsDepth (backs ++ back ∷ []) (length backs) x) (sym (b.first h)) (root_depth (backs ++ back ∷ []) (length backs) (back_at_last backs low back ∙ h));
        length_is = b.length_is;
        leads = λ i lt. absurd (let none = none_count d (b.first h) in omega arith);
      }
      go (Some p) h =
          let deep = b.next p h in
          let positive = deep.0 in
          let up : suc (d - 1) ≡ d = omega arith in
          let at = back_at_last backs low back ∙ h in
          record {
            depth = d;
            bounded = b.fits;
            is_depth = subst (λ (x : ℕ). IsDepth (backs ++ back ∷ []) (length backs) x) up (next_depth (backs ++ back ∷ []) (length backs) (d - 1) p at (depth_stays backs low back p.0 (d - 1) (b.known p h) deep.1));
            length_is = b.length_is;
            leads = λ i lt.
                let power = pow_pos i in
                let same : suc (2 ^ i - 1) ≡ 2 ^ i = omega arith in
                ap (λ (k : ℕ). back_from (backs ++ back ∷ []) k (length backs)) (sym same) ∙ back_from-step (backs ++ back ∷ []) (2 ^ i - 1) (length backs) p at
                ∙ back_from_stays backs low back (2 ^ i - 1) p.0 (b.known p h) ∙ b.leads p h i lt;
          }

  old_skips : (n : ℕ) → n < length backs → IsSkips (backs ++ back ∷ []) n (pointers_at table n)
  old_skips n lt =
      let s = skips table t backs e n lt in
      record {
        depth = s.depth;
        bounded = s.bounded;
        is_depth = depth_stays backs low back n s.depth lt s.is_depth;
        length_is = s.length_is;
        leads = λ i few. back_from_stays backs low back (2 ^ i) n lt ∙ s.leads i few;
      }

  pub table_more : IsSkipTable (table ++ last ∷ [])
  table_more = record {
    down = subst LeadsDown (sym backs_more) (down_more backs low back b.known);
    skips = λ n lt. subst (λ (bs : List (Option UnitNo)). IsSkips bs n (pointers_at (table ++ last ∷ []) n)) (sym backs_more) (each n lt);
  }
    where
      each : (n : ℕ) → n < length (table ++ last ∷ []) → IsSkips (backs ++ back ∷ []) n (pointers_at (table ++ last ∷ []) n)
      each n lt =
          let many = length-table table t backs e in
          let longer = length-append table (last ∷ []) in
          elim (cases_lt n (length table)) [
            | inl less ↦ subst (λ (ps : List UnitNo). IsSkips (backs ++ back ∷ []) n ps) (sym (get_or_append_left table (last ∷ []) [] n less)) (old_skips n (omega arith))
            | inr above ↦
                let same : length backs ≡ n = omega arith in
                subst (λ (k : ℕ). IsSkips (backs ++ back ∷ []) k (pointers_at (table ++ last ∷ []) n)) same
                (subst (λ (ps : List UnitNo). IsSkips (backs ++ back ∷ []) (length backs) ps) (sym (get_or_push table last [] n (omega arith))) last_skips)
          ]

-- a number below 2 ^ 32 has no more pointers than 32
pub few_pointers : (d : ℕ) → d < 2 ^ 32 → pointer_count_of d ≤ 32
few_pointers d small = elim (cases_lt 32 (pointer_count_of d)) [
  | inl many ↦ absurd (let far = (pointers_lead d 32 (omega arith) many).0 in omega arith)
  | inr few ↦ few
]
