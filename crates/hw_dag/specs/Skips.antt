-- Chains that lead back one by one, and the pointers that jump along them.
use Rattle.std.specs.Prelude.{◌≡◌, ℕ, zero, suc, ◌-◌, ◌*◌, ◌^◌, ◌<◌, ◌≤◌, List, [], ◌∷◌, ◌++◌, length, map, take, drop, Option, Some, None, slice_get, slice_index_or}
use Rattle.std.specs.Option.{option_and_then}
use Rattle.hw_dag.specs.Jumps.{pointer_count_of}
use Rattle.hw_dag.specs.declared.numbers.UnitNo.{UnitNo}

-- what comes before each unit on its chain, and the room for more
pub record BackLinks : Type 0 where
  pub spare : ℕ
  pub backs : List (Option UnitNo)

-- the step back from a number
abbrev pub back_at : List (Option UnitNo) → ℕ → Option UnitNo
back_at backs n = slice_index_or backs n None

-- the unit that so many steps lead back to
unfoldable pub back_from : List (Option UnitNo) → ℕ → ℕ → Option ℕ
back_from backs zero n = Some n
back_from backs (suc k) n = option_and_then (λ (p : UnitNo). back_from backs k p.0) (back_at backs n)

-- so many steps lead back to the first unit of the chain
pub record IsDepth (backs : List (Option UnitNo)) (n depth : ℕ) : Type 0 where
  pub root : ℕ
  pub leads : back_from backs depth n ≡ Some root
  pub first : back_at backs root ≡ None

-- the first pointer of each leads one step back
abbrev pub backs_of : List (List UnitNo) → List (Option UnitNo)
backs_of table = map (λ pointers. slice_get pointers 0) table

-- the pointers that a number keeps
abbrev pub pointers_at : List (List UnitNo) → ℕ → List UnitNo
pointers_at table n = slice_index_or table n []

-- one of them
abbrev pub pointer_at : List UnitNo → ℕ → UnitNo
pointer_at pointers i = slice_index_or pointers i (record { 0 = 0 })

-- what comes before a unit was there before it
abbrev pub LeadsDown : List (Option UnitNo) → Type 0
LeadsDown backs = (n : ℕ) (p : UnitNo) → n < length backs → back_at backs n ≡ Some p → p.0 < n

-- pointer i leads 2 ^ i steps back
pub record IsSkips (backs : List (Option UnitNo)) (n : ℕ) (pointers : List UnitNo) : Type 0 where
  pub depth : ℕ
  pub bounded : depth < 2 ^ 64
  pub is_depth : IsDepth backs n depth
  pub length_is : length pointers ≡ pointer_count_of depth
  pub leads : (i : ℕ) → i < pointer_count_of depth → back_from backs (2 ^ i) n ≡ Some (pointer_at pointers i).0

-- all pointers lead down, and each list of them is that of its number
pub record IsSkipTable (table : List (List UnitNo)) : Type 0 where
  pub down : LeadsDown (backs_of table)
  pub skips : (n : ℕ) → n < length table → IsSkips (backs_of table) n (pointers_at table n)

-- ---- all pointers in one list, and where those of each number begin

-- the pointers of each number: they end where the next ones begin
unfoldable pub lists_of : List ℕ → List UnitNo → List (List UnitNo)
lists_of [] pointers = []
lists_of (start ∷ starts) pointers = take (slice_index_or starts 0 (length pointers) - start) (drop start pointers) ∷ lists_of starts pointers

-- no pointers begin before those of the number before, nor behind the end
unfoldable pub AreStarts : List ℕ → ℕ → Type 0
AreStarts [] end = Unit {0}
AreStarts (start ∷ starts) end = (start ≤ slice_index_or starts 0 end) × AreStarts starts end

-- each list of pointers is that of its number, and there is room for so many more numbers, of which none has more pointers than 32
pub record IsArena (spare : ℕ) (starts : List ℕ) (starts_room : ℕ) (pointers : List UnitNo) (pointers_room : ℕ) : Type 0 where
  pub table : IsSkipTable (lists_of starts pointers)
  pub ordered : AreStarts starts (length pointers)
  pub starts_fit : spare ≤ starts_room
  pub pointers_fit : spare * 32 ≤ pointers_room

-- one pointer after the other of a unit that stands behind this one, put behind the pointers that were there
pub record IsAddedBehind (backs : List (Option UnitNo)) (back count : ℕ) (before after : List UnitNo) : Type 0 where
  pub added : List UnitNo
  pub items : after ≡ before ++ added
  pub length_is : length added ≡ count
  pub leads : (i : ℕ) → i < count → back_from backs (2 ^ i - 1) back ≡ Some (pointer_at added i).0
