-- The calls of `read` that a watched door keeps.
use Rattle.std.proofs.Common.{◌≡◌, ◌-◌, ℕ, zero, suc, Bool, true, false, cond, List, [], ◌∷◌, ◌++◌, length, get_or, Some, sym, subst, refl, arith}
use Rattle.std.proofs.lemmas.List.Elements.{All-nil, All-cons}
use Rattle.hw_io.specs.Doors.{Session, Ask, ask_in, ask_of, AsksMore}
use Rattle.hw_io.proofs.Asks.{asks_none}

-- one more is
pub asks_one : (P : Ask → Type 0) (asks : List Ask) (ask : Ask) → P ask → AsksMore P asks (asks ++ ask ∷ [])
asks_one P asks ask is = record { more = ask ∷ []; told = refl; each = All-cons P ask [] is (All-nil P) }

pub ask_of-at : (sessions : List Session) (n : ℕ) (d : Session) → length sessions ≡ suc n → ask_of sessions ≡ Some (ask_in (get_or sessions n d))
ask_of-at [] n d count = absurd (omega (arith, count))
ask_of-at (s ∷ []) zero d count = refl
ask_of-at (s ∷ []) (suc n) d count = absurd (omega (arith, count))
ask_of-at (s ∷ t ∷ rest) zero d count = absurd (omega (arith, count))
ask_of-at (s ∷ t ∷ rest) (suc n) d count = ask_of-at (t ∷ rest) n d (omega (arith, count))

-- one more is, if there was memory to keep it
pub asks_kept : (P : Ask → Type 0) (asks : List Ask) (ask : Ask) (is_kept : Bool) (new : List Ask) → new ≡ cond is_kept (asks ++ ask ∷ []) asks → P ask → AsksMore P asks new
asks_kept P asks ask true new told is = subst (AsksMore P asks) (sym told) (asks_one P asks ask is)
asks_kept P asks ask false new told is = subst (AsksMore P asks) (sym told) (asks_none P asks)

-- a number that isn't 0
pub one_more : (n : ℕ) → (n ≡ 0 → ⊥) → n ≡ suc (n - 1)
one_more zero some = absurd (some refl)
one_more (suc n) some = omega arith
