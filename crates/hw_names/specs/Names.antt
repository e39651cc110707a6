-- What contracts see of a table of names.
use Rattle.std.specs.Prelude.{ℕ, List}
use Rattle.hw_types.specs.declared.unit.Digest.{Digest}

-- the names in their order, and how many more fit without taking memory
pub record Names : Type 0 where
  pub names : List Digest
  pub room : ℕ
