-- What a node shows, with units by their names.
-- Source: ours.
use Rattle.std.specs.Prelude.{ℕ, List, [], ◌∷◌, ◌++◌, codes, Option, Some, None}
use Rattle.std.specs.List.{flat_map}
use Rattle.hw_types.specs.declared.unit.Digest.{Digest}
use Rattle.hw_types.specs.declared.unit.Obs.{Obs}
use Rattle.hw_types.specs.declared.unit.Obs.TheVariants.{Absent, Correct, Faulty}
use Rattle.hw_types.specs.declared.unit.Vertex.{Vertex}
use Rattle.hw_types.specs.declared.config.Config.{Config}
use Rattle.hw_types.specs.declared.answers.Decision.{Decision}
use Rattle.hw_types.specs.Settled.{Received}
use Rattle.hw_types.specs.Journal.{Setting, received_of}
use Rattle.hw_types.specs.Decisions.{received_at}
use Rattle.hw_safety.specs.Decided.{decisions_of}
use Rattle.hw_text.specs.Text.{number_text}
use Rattle.hw_text.specs.Lines.{line_feed, line_of, spaced}
use Rattle.hw_explain.specs.Report.{exceeded_line, exceeded_in}
use Rattle.hw_explain.specs.Explain.{committee_of}
use Rattle.hw_script_grammar.specs.declared.named.Named.{Named}
use Rattle.hw_script_grammar.specs.Names.{name_of}

-- a block, if there is one
unfoldable pub block_text : List Named → Option Digest → List ℕ
block_text names None = codes "-"
block_text names (Some d) = name_of names d

-- the fork choice
unfoldable pub fork_text : List Named → Option Digest → List ℕ
fork_text names fork = codes "fork " ++ (block_text names fork ++ line_feed)

-- an observation: a dash, an exclamation mark, or the name of the unit
unfoldable pub observation_text : List Named → Obs → List ℕ
observation_text names Absent = codes "-"
observation_text names Faulty = codes "!"
observation_text names (Correct d) = name_of names d

-- what is observed of each validator
unfoldable pub panorama_text : List Named → List Obs → List ℕ
panorama_text names panorama = codes "panorama" ++ (flat_map (λ o. spaced (observation_text names o)) panorama ++ line_feed)

-- ---- final blocks

-- a final block: its height and name, the level and quorum of its summit, and the length of the journal then
abbrev pub named_words : List Named → Decision → List (List ℕ)
named_words names d =
    codes "final" ∷ number_text d.height ∷ name_of names d.block
    ∷ codes "level" ∷ number_text d.level ∷ codes "quorum" ∷ number_text d.quorum ∷ codes "at" ∷ number_text d.at ∷ []

-- the line of a decision in what its moment left: these words, and the last committee of its greatest summit
unfoldable pub named_line : List Named → Config → Received → Decision → List ℕ
named_line names config received d = line_of (named_words names d ++ committee_of config received d)

-- the line of a decision of the journal, at its moment
abbrev pub line_at : List Named → Setting → List Vertex → Decision → List ℕ
line_at names s journal d = named_line names s.config (received_at s journal d.at) d

-- the lines of these decisions, or one that there is none
abbrev pub final_lines : List Named → Setting → List Vertex → List Decision → List ℕ
final_lines names s journal [] = codes "final -\n"
final_lines names s journal (d ∷ ds) = flat_map (line_at names s journal) (d ∷ ds)

-- the final blocks, each at its moment, and the faulty weight where it is too great
unfoldable pub finals_text : List Named → Setting → List Vertex → List ℕ
finals_text names s journal = final_lines names s journal (decisions_of s journal) ++ exceeded_line (exceeded_in s.config (received_of s journal))
