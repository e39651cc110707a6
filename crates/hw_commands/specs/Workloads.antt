-- The lines of workloads.
-- Source: ours.
use Rattle.std.specs.Prelude.{ℕ, List, [], ◌∷◌, codes, Option, Some, None}
use Rattle.hw_text.specs.Text.{number_text}
use Rattle.hw_text.specs.Lines.{line_of}
use Rattle.hw_honest.specs.Generated.{Totals}
use Rattle.hw_honest.specs.Simulated.{Numbers}

-- a height, or a dash where there is none
abbrev pub height_text : Option ℕ → List ℕ
height_text None = codes "-"
height_text (Some height) = number_text height

-- what so many rounds came to
unfoldable pub gen_line : ℕ → Totals → List ℕ
gen_line rounds n =
    line_of (
    codes "gen" ∷ codes "rounds" ∷ number_text rounds
    ∷ codes "units" ∷ number_text n.units
    ∷ codes "final" ∷ number_text n.finals
    ∷ codes "last" ∷ height_text n.last ∷ [])

-- what so many steps of so many nodes came to
unfoldable pub sim_line : ℕ → ℕ → Numbers → List ℕ
sim_line nodes steps n =
    line_of (
    codes "sim" ∷ codes "nodes" ∷ number_text nodes ∷ codes "steps" ∷ number_text steps
    ∷ codes "units" ∷ number_text n.units
    ∷ codes "final" ∷ number_text n.finals
    ∷ codes "refused" ∷ number_text n.refused
    ∷ codes "culprits" ∷ number_text n.culprits ∷ [])
