-- Names with a value for each.
use Rattle.std.specs.Prelude.{ℕ, Bool, List, [], ◌∷◌, if◌then◌else◌}
use Rattle.hw_types.specs.declared.unit.Digest.{Digest}

-- the names with their values, in the order in which they came, and how many more fit without taking memory
pub record Entries (V : Type 0) : Type 0 where
  pub entries : List (Digest × V)
  pub room : ℕ

-- the entries with this value under the name: a name that is there keeps its place, and a new one goes last
abbrev pub insert_entry : {K V : Type 0} → (K → K → Bool) → List (K × V) → K → V → List (K × V)
insert_entry eq [] name value = (name, value) ∷ []
insert_entry eq (e ∷ es) name value = if eq name e.0 then (e.0, value) ∷ es else e ∷ insert_entry eq es name value
