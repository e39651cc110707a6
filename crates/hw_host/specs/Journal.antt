-- How full the journal of a node is.
use Rattle.std.specs.Prelude.{ℕ, ◌*◌, nat_le, if◌then◌else◌}
use Rattle.hw_host.specs.declared.journal.Fill.{Fill}
use Rattle.hw_host.specs.declared.journal.Fill.TheVariants.{Roomy, NineTenths, NinetyNine, Full}

-- a tenth is left or less, or more than that
abbrev pub short_of : ℕ → ℕ → Fill
short_of used limit = if nat_le (limit * 9) (used * 10) then NineTenths else Roomy

-- nothing is left of the entries of a journal, or a hundredth or less, or a tenth or less, or more than that
abbrev pub fill_of : ℕ → ℕ → Fill
fill_of used limit = if nat_le limit used then Full else (if nat_le (limit * 99) (used * 100) then NinetyNine else short_of used limit)
