-- Slots of two panoramas, one after the other.
use Rattle.std.proofs.Common.{◌≡◌, ℕ, ◌+◌, ◌<◌, inl, inr, List, length, set, sym, subst, ◌∙◌, arith, get_or-set_same, get_or-set_other, ext_get_or}
use Rattle.std.proofs.lemmas.Bool.{cases_lt}
use Rattle.hw_dag.specs.declared.numbers.View.{View}
use Rattle.hw_dag.specs.declared.numbers.View.TheVariants as view
use Rattle.hw_dag.specs.Dag.{view_at}

-- the first n slots are the same
abbrev pub AreSame : ℕ → List View → List View → Type 0
AreSame n left right = (v : ℕ) → v < n → view_at left v ≡ view_at right v

pub same_more : (n : ℕ) (left right : List View) → AreSame n left right → view_at left n ≡ view_at right n → AreSame (n + 1) left right
same_more n left right are here v lt = elim (cases_lt v n) [
  | inl less ↦ are v less
  | inr above ↦ (let e : n ≡ v = omega arith in subst (λ (k : ℕ). view_at left k ≡ view_at right k) e here)
]

-- a slot that is set to the other's
pub same_set : (n : ℕ) (left right : List View) → n < length left → AreSame n left right → (w : View) → w ≡ view_at right n → AreSame (n + 1) (set left n w) right
same_set n left right inside are w is =
    same_more n (set left n w) right
    (λ v lt. get_or-set_other left n v w view.Absent (λ e. absurd (omega arith)) ∙ are v lt)
    (get_or-set_same left n w view.Absent inside ∙ is)

-- as many slots, all the same
pub same_all : (n : ℕ) (left right : List View) → length left ≡ n → length right ≡ n → AreSame n left right → left ≡ right
same_all n left right long long_too are = ext_get_or view.Absent left right (long ∙ sym long_too) (λ v inside. are v (omega arith))
