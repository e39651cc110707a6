-- The fork choice in lawful graphs, without the tables that work it out: the statements.
use Rattle.std.specs.Prelude.{◌≡◌, ℕ, Bool, List, Option}
use Rattle.hw_types.specs.declared.unit.Obs.{Obs}
use Rattle.hw_types.specs.Graph.{Node, past, cites, unit_cites}
use Rattle.hw_types.specs.Below.{Among, LeadsTo}
use Rattle.hw_types.specs.Votes.{ghost_walk, fork_of}
use Rattle.hw_types.specs.Lawful.{IsLawful}

-- In a lawful graph, no chain of citations leads from a unit to itself.
abbrev pub LawfulIsAcyclic : Type 0
LawfulIsAcyclic = (weights : List ℕ) (faulty : ℕ → Bool) (units : List Node) → IsLawful weights faulty units
    → (x : Node) → Among x units → LeadsTo unit_cites (cites x.unit.panorama) units x → ⊥

-- what each panorama chooses is the walk over what the units below it choose by their own panoramas
abbrev pub ChoosesByWalk : List ℕ → List Node → (List Obs → Option Node) → Type 0
ChoosesByWalk weights units choice = (panorama : List Obs) → choice panorama ≡ ghost_walk weights (past units panorama) (λ u. choice u.unit.panorama) panorama

-- the fork choice chooses so, and nothing else does
pub record OneChoice (weights : List ℕ) (units : List Node) : Type 0 where
  pub is : ChoosesByWalk weights units (fork_of weights units)
  pub one : (choice : List Obs → Option Node) → ChoosesByWalk weights units choice → (panorama : List Obs) → choice panorama ≡ fork_of weights units panorama

-- In a lawful graph there is one choice.
abbrev pub ChoiceIsOne : Type 0
ChoiceIsOne = (weights : List ℕ) (faulty : ℕ → Bool) (units : List Node) → IsLawful weights faulty units → OneChoice weights units
