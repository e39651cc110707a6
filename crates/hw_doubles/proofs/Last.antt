-- The last session of a list.
use Rattle.std.proofs.Common.{◌≡◌, ℕ, suc, zero, List, [], ◌∷◌, length, set, get_or, Bool, true, refl, sym, ap, subst, ◌∙◌, arith}
use Rattle.hw_io.specs.Doors.{Session, with_last, in_session}

pub set-last : (sessions : List Session) (change : Session → Session) (n : ℕ) (d : Session) → length sessions ≡ suc n → set sessions n (change (get_or sessions n d)) ≡ with_last change sessions
set-last [] change n d count = absurd (omega (arith, count))
set-last (s ∷ []) change zero d count = refl
set-last (s ∷ []) change (suc n) d count = absurd (omega (arith, count))
set-last (s ∷ t ∷ rest) change zero d count = absurd (omega (arith, count))
set-last (s ∷ t ∷ rest) change (suc n) d count = ap (λ xs. s ∷ xs) (set-last (t ∷ rest) change n d (omega (arith, count)))

-- the last session was changed in place
pub in_session-set : (is_open : Bool) (change : Session → Session) (sessions : List Session) (n : ℕ) (d changed : Session) → is_open ≡ true → length sessions ≡ suc n
    → changed ≡ change (get_or sessions n d) → set sessions n changed ≡ in_session is_open change sessions
in_session-set is_open change sessions n d changed opened count is =
    subst (λ (b : Bool). set sessions n changed ≡ in_session b change sessions) (sym opened)
    (ap (set sessions n) is ∙ set-last sessions change n d count)
