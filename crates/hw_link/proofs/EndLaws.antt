-- The number of ends of a door.
use Rattle.std.proofs.Common.{◌≡◌, ℕ, List, Ok, refl}
use Rattle.std.proofs.lemmas.Bool.{ne_eqb}
use Rattle.hw_io.specs.declared.outside.IoFault.{IoFault}
use Rattle.hw_io.specs.Doors.{ends_after}

-- a read that gave something is no end
pub no_end : (n ends : ℕ) (buf : List ℕ) → (n ≡ 0 → ⊥) → ends_after {E = IoFault} ends (Ok n) buf ≡ ends
no_end n ends buf some = rw (ne_eqb n 0 some) refl
