-- What an audit of two journals reports.
use Rattle.std.specs.Prelude.{ℕ, List, [], ◌++◌, codes, Option, Some, None}
use Rattle.std.specs.List.{flat_map}
use Rattle.hw_types.specs.declared.unit.Vertex.{Vertex}
use Rattle.hw_types.specs.Graph.{Node}
use Rattle.hw_types.specs.Journal.{Setting}
use Rattle.hw_types.specs.Culprits.{shown_in_either, pair_of, culprits_of}
use Rattle.hw_text.specs.Text.{number_text, digest_text}
use Rattle.hw_text.specs.Lines.{line_feed}
use Rattle.hw_safety.specs.Verdicts.{culprit_weight}
use Rattle.hw_audit.specs.declared.chains.Parting.{Parting}
use Rattle.hw_audit.specs.Text.{conflict_line, weight_line}

-- a validator, with the names of its pair
abbrev pub pair_line : ℕ → Option (Node × Node) → List ℕ
pair_line v None = []
pair_line v (Some pair) = codes "culprit " ++ number_text v ++ codes " " ++ digest_text pair.0.digest ++ codes " " ++ digest_text pair.1.digest ++ line_feed

-- a culprit of two journals, with the names of the two units that show it
unfoldable pub told_line : Setting → List Vertex → List Vertex → ℕ → List ℕ
told_line s left right v = pair_line v (pair_of (shown_in_either s left right) v)

-- where two chains part, all culprits of the two journals in rising order, and what they weigh
unfoldable pub conflict_text : Setting → List Vertex → List Vertex → Parting → List ℕ
conflict_text s left right p =
    conflict_line p.height p.left p.right
    ++ flat_map (told_line s left right) (culprits_of s left right)
    ++ weight_line (culprit_weight s left right) s.config.ftt
