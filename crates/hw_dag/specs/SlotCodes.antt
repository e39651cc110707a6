-- A code is that of the view that it stands for.
use Rattle.std.proofs.Common.{◌≡◌, ℕ, zero, suc, Bool, true, false, refl, ap, arith, eqb, eqb-true}
use Rattle.std.specs.Prelude.{◌-◌, ◌^◌}
use Rattle.hw_dag.specs.declared.numbers.Slot.TheInside.{Inside}
use Rattle.hw_dag.specs.Slots.{view_of_code, code_of_view}

-- the code of the view that a code stands for is the code itself
pub code_again : (code : ℕ) → code_of_view (view_of_code code) ≡ code
code_again zero = refl
code_again (suc n) = go (eqb n (2 ^ 32 - 2)) refl
  where
    go : (b : Bool) → eqb n (2 ^ 32 - 2) ≡ b → code_of_view (view_of_code (suc n)) ≡ suc n
    go true e = rw e (let same = eqb-true n (2 ^ 32 - 2) e in omega arith)
    go false e = rw e (omega arith)

-- the slot that holds a code
abbrev with_code : ℕ → Inside
with_code n = record { 0 = n }

-- a slot is told by the view that its code stands for: with the code of that view it is the same slot
pub slot_again : (s : Inside) → with_code (code_of_view (view_of_code s.0)) ≡ s
slot_again s = ap with_code (code_again s.0)
