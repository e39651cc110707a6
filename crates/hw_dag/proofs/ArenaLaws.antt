-- All pointers in one list.
use Rattle.std.proofs.Common.{◌≡◌, ℕ, zero, suc, ◌+◌, ◌-◌, ◌*◌, ◌^◌, ◌<◌, ◌≤◌, List, [], ◌∷◌, ◌++◌, length, get_or, take, drop, Option, Some, None, refl, sym, ap, subst, ◌∙◌, arith, length-append, length-drop, append_assoc, append-nil}
use Rattle.std.proofs.lemmas.List.{take-append-le, drop-append-le, get_or-take, get_or-drop, get_or_append_left}
use Rattle.std.proofs.Math.Seq.{drop-append_seam}
use Rattle.hw_dag.specs.Jumps.{pointer_count_of}
use Rattle.hw_dag.specs.declared.numbers.UnitNo.{UnitNo}
use Rattle.hw_dag.specs.Skips.{back_from, backs_of, pointers_at, lists_of, IsDepth, IsSkipTable, AreStarts, IsArena, IsAddedBehind}
use Rattle.hw_dag.proofs.SkipLaws.{length-table, found_known, pointer_count, way_depth, jump_read, next_count, next_read, pointers_more, IsBehind, none_count, backs_more, table_more}

pub length-lists : (starts : List ℕ) (pointers : List UnitNo) → length (lists_of starts pointers) ≡ length starts
unfolding lists_of
length-lists [] pointers = refl
length-lists (start ∷ starts) pointers = ap suc (length-lists starts pointers)

-- part of a list is as long as it is, or shorter
take_within : (n i : ℕ) (xs : List UnitNo) → i < length (take n xs) → (i < n) × (i < length xs)
take_within zero i xs lt = absurd (omega arith)
take_within (suc n) i [] lt = absurd (omega arith)
take_within (suc n) zero (x ∷ xs) lt = (omega arith, omega arith)
take_within (suc n) (suc i) (x ∷ xs) lt = let rest = take_within n i xs (omega arith) in let a = rest.0 in let b = rest.1 in (omega arith, omega arith)

-- where a pointer of a number stands in the one list
pub place_in_lists : (starts : List ℕ) (pointers : List UnitNo) (n i : ℕ) (d : UnitNo) → n < length starts → i < length (pointers_at (lists_of starts pointers) n)
    → (get_or starts n 0 + i < length pointers) × (get_or (pointers_at (lists_of starts pointers) n) i d ≡ get_or pointers (get_or starts n 0 + i) d)
unfolding lists_of
place_in_lists [] pointers n i d lt few = absurd (omega arith)
place_in_lists (start ∷ starts) pointers zero i d lt few =
    let part = take_within (get_or starts 0 (length pointers) - start) i (drop start pointers) few in
    let a = part.0 in
    let b = part.1 in
    let l = length-drop start pointers in
    (omega arith, get_or-take (get_or starts 0 (length pointers) - start) (drop start pointers) i d a ∙ get_or-drop start pointers i d)
place_in_lists (start ∷ starts) pointers (suc n) i d lt few = place_in_lists starts pointers n i d (omega arith) few

pub first_within : (starts : List ℕ) (end : ℕ) → AreStarts starts end → get_or starts 0 end ≤ end
unfolding AreStarts
first_within [] end a = omega arith
first_within (start ∷ starts) end a = let le = a.0 in let rest = first_within starts end a.1 in omega arith

-- the next start after one more is at the end
next_start : (starts : List ℕ) (end far : ℕ) → get_or (starts ++ end ∷ []) 0 far ≡ get_or starts 0 end
next_start [] end far = refl
next_start (start ∷ starts) end far = refl

-- one more number, whose pointers begin at the end
pub starts_more : (starts : List ℕ) (end later : ℕ) → AreStarts starts end → end ≤ later → AreStarts (starts ++ end ∷ []) later
unfolding AreStarts
starts_more [] end later a le = (le, tt)
starts_more (start ∷ starts) end later a le =
    let low = a.0 in
    let same = next_start starts end later in
    (omega arith, starts_more starts end later a.1 le)

-- a part that ends within a list is the same in a longer one
part_stays : (from to : ℕ) (old new : List UnitNo) → from ≤ to → to ≤ length old → take (to - from) (drop from (old ++ new)) ≡ take (to - from) (drop from old)
part_stays from to old new le within =
    let l = length-drop from old in
    ap (take (to - from)) (drop-append-le from old new (omega arith)) ∙ take-append-le (to - from) (drop from old) new (omega arith)

take_all : (xs : List UnitNo) (n : ℕ) → n ≡ length xs → take n xs ≡ xs
take_all [] zero e = refl
take_all [] (suc n) e = absurd (omega arith)
take_all (x ∷ xs) zero e = absurd (omega arith)
take_all (x ∷ xs) (suc n) e = ap (λ (ys : List UnitNo). x ∷ ys) (take_all xs n (omega arith))

-- its pointers are a list more
pub lists_more : (starts : List ℕ) (old new : List UnitNo) → AreStarts starts (length old) → lists_of (starts ++ length old ∷ []) (old ++ new) ≡ lists_of starts old ++ new ∷ []
unfolding lists_of AreStarts
lists_more [] old new a =
    let longer = length-append old new in
    let same : take (length (old ++ new) - length old) (drop (length old) (old ++ new)) ≡ new =
    ap (take (length (old ++ new) - length old)) (drop-append_seam old new) ∙ take_all new (length (old ++ new) - length old) (omega arith) in
    ap (λ (xs : List UnitNo). xs ∷ []) same
lists_more (start ∷ starts) old new a =
    let low = a.0 in
    let here : take (get_or (starts ++ length old ∷ []) 0 (length (old ++ new)) - start) (drop start (old ++ new)) ≡ take (get_or starts 0 (length old) - start) (drop start old) =
    ap (λ (n : ℕ). take (n - start) (drop start (old ++ new))) (next_start starts (length old) (length (old ++ new)))
    ∙ part_stays start (get_or starts 0 (length old)) old new low (first_within starts (length old) a.1) in
    ap (λ (xs : List UnitNo). xs ∷ lists_of (starts ++ length old ∷ []) (old ++ new)) here
    ∙ ap (λ (rest : List (List UnitNo)). take (get_or starts 0 (length old) - start) (drop start old) ∷ rest) (lists_more starts old new a.1)

module _ (starts : List ℕ) (pointers : List UnitNo) (t : IsSkipTable (lists_of starts pointers)) (backs : List (Option UnitNo)) (e : backs_of (lists_of starts pointers) ≡ backs) where
  pub many_starts : length starts ≡ length backs
  many_starts = sym (length-lists starts pointers) ∙ length-table (lists_of starts pointers) t backs e

  -- what steps lead back to is there
  pub start_known : (start k at : ℕ) → start < length backs → back_from backs k start ≡ Some at → at < length starts
  start_known start k at lt h = let l = length-lists starts pointers in let w = found_known (lists_of starts pointers) t backs e start k at lt h in omega arith

  place : (n d i : ℕ) (x : UnitNo) → n < length backs → IsDepth backs n d → i < pointer_count_of d
      → (get_or starts n 0 + i < length pointers) × (get_or (pointers_at (lists_of starts pointers) n) i x ≡ get_or pointers (get_or starts n 0 + i) x)
  place n d i x lt deep few =
      let many = many_starts in
      let count = pointer_count (lists_of starts pointers) t backs e n d lt deep in
      place_in_lists starts pointers n i x (omega arith) (omega arith)

  -- where a pointer of a unit of this depth is
  pub place_known : (n d i s : ℕ) → n < length backs → IsDepth backs n d → i < pointer_count_of d → s ≡ get_or starts n 0 → s + i < length pointers
  place_known n d i s lt deep few at = let p = (place n d i (record { 0 = 0 }) lt deep few).0 in omega arith

  -- as it is read
  pub place_read : (n d i s : ℕ) (x : UnitNo) → n < length backs → IsDepth backs n d → i < pointer_count_of d → s ≡ get_or starts n 0 → x ≡ get_or pointers (s + i) x
      → x ≡ get_or (pointers_at (lists_of starts pointers) n) i x
  place_read n d i s x lt deep few at read =
      read ∙ ap (λ (k : ℕ). get_or pointers (k + i) x) at ∙ sym (place n d i x lt deep few).1

  -- a jump on the way back
  pub jump_known : (start at from depth i s : ℕ) → start < length backs → IsDepth backs start from → depth ≤ from → back_from backs (from - depth) start ≡ Some at
      → i < pointer_count_of depth → s ≡ get_or starts at 0 → s + i < length pointers
  jump_known start at from depth i s lt h le found few is =
      let l = length-table (lists_of starts pointers) t backs e in
      let there = found_known (lists_of starts pointers) t backs e start (from - depth) at lt found in
      place_known at depth i s (omega arith) (way_depth (lists_of starts pointers) t backs e start at from depth h le found) few is

  pub jump_leads : (start at from depth i s : ℕ) (x : UnitNo) → start < length backs → IsDepth backs start from → depth ≤ from → back_from backs (from - depth) start ≡ Some at
      → i < pointer_count_of depth → 2 ^ i ≤ depth → s ≡ get_or starts at 0 → x ≡ get_or pointers (s + i) x → back_from backs (from - (depth - 2 ^ i)) start ≡ Some x.0
  jump_leads start at from depth i s x lt h le found few short is read =
      let l = length-table (lists_of starts pointers) t backs e in
      let there = found_known (lists_of starts pointers) t backs e start (from - depth) at lt found in
      let deep = way_depth (lists_of starts pointers) t backs e start at from depth h le found in
      jump_read (lists_of starts pointers) t backs e start at from depth i (pointers_at (lists_of starts pointers) at) x lt h le found few short refl
      (place_read at depth i s x (omega arith) deep few is read)

  -- ---- the pointers of one more unit, which stands behind this one, so far as they were added

  module _ (back d : ℕ) (known : back < length backs) (some : 1 ≤ d) (fits : d < 2 ^ 64) (deep : IsDepth backs back (d - 1))
      (at i s : ℕ) (found : back_from backs (2 ^ (i - 1) - 1) back ≡ Some at) (more : 0 < i) (few : i < pointer_count_of d) (is : s ≡ get_or starts at 0) where
    next : (x : UnitNo) → (get_or starts at 0 + (i - 1) < length pointers) × (get_or (pointers_at (lists_of starts pointers) at) (i - 1) x ≡ get_or pointers (get_or starts at 0 + (i - 1)) x)
    next x =
        let there = start_known back (2 ^ (i - 1) - 1) at known found in
        place_in_lists starts pointers at (i - 1) x there (next_count (lists_of starts pointers) t backs e back d known some fits deep at i found more few)

    pub next_known : s + i - 1 < length pointers
    next_known = let p = (next (record { 0 = 0 })).0 in omega arith

    pub next_leads : (added : List UnitNo) (x : UnitNo) → x ≡ get_or (pointers ++ added) (s + i - 1) x → back_from backs (2 ^ i - 1) back ≡ Some x.0
    next_leads added x read =
        let same : s + i - 1 ≡ get_or starts at 0 + (i - 1) = omega arith in
        let here : x ≡ get_or (pointers_at (lists_of starts pointers) at) (i - 1) x =
        read ∙ get_or_append_left pointers added x (s + i - 1) next_known ∙ ap (λ (k : ℕ). get_or pointers k x) same ∙ sym (next x).1 in
        next_read (lists_of starts pointers) t backs e back d known some fits deep at i (pointers_at (lists_of starts pointers) at) x found more few refl here

-- no pointers yet
pub none_added : (backs : List (Option UnitNo)) (back : ℕ) (items : List UnitNo) → IsAddedBehind backs back 0 items items
none_added backs back items = record { added = []; items = sym (append-nil items); length_is = refl; leads = λ i lt. absurd (omega arith) }

-- one pointer more
pub added_more : (backs : List (Option UnitNo)) (back i : ℕ) (before old new : List UnitNo) (x : UnitNo) → IsAddedBehind backs back i before old → new ≡ old ++ x ∷ []
    → back_from backs (2 ^ i - 1) back ≡ Some x.0 → IsAddedBehind backs back (i + 1) before new
added_more backs back i before old new x a e last = record {
  added = a.added ++ x ∷ [];
  items = e ∙ ap (λ (xs : List UnitNo). xs ++ x ∷ []) a.items ∙ append_assoc before a.added (x ∷ []);
  length_is = length-append a.added (x ∷ []) ∙ ap (λ (n : ℕ). n + 1) a.length_is;
  leads = pointers_more backs back i a.added (a.added ++ x ∷ []) x refl a.length_is a.leads last;
}

-- ---- no numbers

pub no_lists : (starts : List ℕ) (pointers : List UnitNo) → starts ≡ [] → lists_of starts pointers ≡ []
unfolding lists_of
no_lists starts pointers e = ap (λ (xs : List ℕ). lists_of xs pointers) e

no_table : IsSkipTable []
no_table = record { down = λ n p lt. absurd (omega arith); skips = λ n lt. absurd (omega arith) }

no_starts : (end : ℕ) → AreStarts [] end
unfolding AreStarts
no_starts end = tt

pub empty_arena : (starts : List ℕ) (starts_room : ℕ) (pointers : List UnitNo) (pointers_room : ℕ) → starts ≡ [] → IsArena 0 starts starts_room pointers pointers_room
empty_arena starts starts_room pointers pointers_room e = record {
  table = subst IsSkipTable (sym (no_lists starts pointers e)) no_table;
  ordered = subst (λ (xs : List ℕ). AreStarts xs (length pointers)) (sym e) (no_starts (length pointers));
  starts_fit = omega arith;
  pointers_fit = omega arith;
}

-- ---- one more number

-- its pointers were put behind those that were there
pub record HasItsPointers (backs : List (Option UnitNo)) (back : Option UnitNo) (d : ℕ) (before after : List UnitNo) : Type 0 where
  pub added : List UnitNo
  pub items : after ≡ before ++ added
  pub behind : IsBehind backs back d added

pub its_pointers : (backs : List (Option UnitNo)) (back : Option UnitNo) (d : ℕ) (before after : List UnitNo) (p : UnitNo) → d < 2 ^ 64
    → ((q : UnitNo) → back ≡ Some q → q.0 < length backs) → ((q : UnitNo) → back ≡ Some q → (1 ≤ d) × IsDepth backs q.0 (d - 1))
    → back ≡ Some p → IsAddedBehind backs p.0 (pointer_count_of d) before after → HasItsPointers backs back d before after
its_pointers backs back d before after p fits known next is a = record {
  added = a.added;
  items = a.items;
  behind = record {
    fits = fits;
    known = known;
    first = λ e. absurd (let no : Some p ≡ None = sym is ∙ e in cc);
    next = next;
    length_is = a.length_is;
    leads = λ q e i few.
        let same : p ≡ q = (let s : Some p ≡ Some q = sym is ∙ e in cc) in
        ap (λ (r : UnitNo). back_from backs (2 ^ i - 1) r.0) (sym same) ∙ a.leads i few;
  };
}

pub no_pointers : (backs : List (Option UnitNo)) (back : Option UnitNo) (d : ℕ) (before : List UnitNo) → d < 2 ^ 64 → back ≡ None → (back ≡ None → d ≡ 0) → HasItsPointers backs back d before before
no_pointers backs back d before fits is first = record {
  added = [];
  items = sym (append-nil before);
  behind = record {
    fits = fits;
    known = λ q e. absurd (let no : None ≡ Some q = sym is ∙ e in cc);
    first = first;
    next = λ q e. absurd (let no : None ≡ Some q = sym is ∙ e in cc);
    length_is = sym (none_count d (first is));
    leads = λ q e. absurd (let no : None ≡ Some q = sym is ∙ e in cc);
  };
}

module _ (starts : List ℕ) (pointers : List UnitNo) (t : IsSkipTable (lists_of starts pointers)) (o : AreStarts starts (length pointers)) (backs : List (Option UnitNo)) (e : backs_of (lists_of starts pointers) ≡ backs)
    (back : Option UnitNo) (d : ℕ) (after : List UnitNo) (h : HasItsPointers backs back d pointers after) where
  lists_are : lists_of (starts ++ length pointers ∷ []) after ≡ lists_of starts pointers ++ h.added ∷ []
  lists_are = ap (lists_of (starts ++ length pointers ∷ [])) h.items ∙ lists_more starts pointers h.added o

  pub backs_are : (later : List ℕ) (n : ℕ) → later ≡ starts ++ n ∷ [] → n ≡ length pointers → backs_of (lists_of later after) ≡ backs ++ back ∷ []
  backs_are later n is at =
      ap (λ (xs : List ℕ). backs_of (lists_of xs after)) (is ∙ ap (λ (k : ℕ). starts ++ k ∷ []) at)
      ∙ ap backs_of lists_are ∙ backs_more (lists_of starts pointers) t backs e back d h.added h.behind

  ordered_more : AreStarts (starts ++ length pointers ∷ []) (length after)
  ordered_more = starts_more starts (length pointers) (length after) o (let longer = ap length h.items ∙ length-append pointers h.added in omega arith)

  pub arena_more : (spare starts_room pointers_room : ℕ) (later : List ℕ) (n : ℕ) → later ≡ starts ++ n ∷ [] → n ≡ length pointers → spare ≤ starts_room → spare * 32 ≤ pointers_room
      → IsArena spare later starts_room after pointers_room
  arena_more spare starts_room pointers_room later n is at a b = subst (λ (xs : List ℕ). IsArena spare xs starts_room after pointers_room) (sym (is ∙ ap (λ (k : ℕ). starts ++ k ∷ []) at)) (record {
    table = subst IsSkipTable (sym lists_are) (table_more (lists_of starts pointers) t backs e back d h.added h.behind);
    ordered = ordered_more;
    starts_fit = a;
    pointers_fit = b;
  })

  pub length_after : length after ≡ length pointers + pointer_count_of d
  length_after = ap length h.items ∙ length-append pointers h.added ∙ ap (λ (k : ℕ). length pointers + k) h.behind.length_is
