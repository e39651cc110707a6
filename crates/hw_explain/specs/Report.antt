-- The report on a journal.
use Rattle.std.specs.Prelude.{ℕ, nat_lt, List, [], ◌∷◌, ◌++◌, length, filter, map, codes, Option, Some, None, if◌then◌else◌}
use Rattle.std.specs.List.{flat_map}
use Rattle.std.specs.Option.{option_map}
use Rattle.hw_types.specs.declared.unit.Digest.{Digest}
use Rattle.hw_types.specs.declared.unit.Vertex.{Vertex}
use Rattle.hw_types.specs.declared.config.Config.{Config}
use Rattle.hw_types.specs.declared.answers.Decision.{Decision}
use Rattle.hw_types.specs.Settled.{Received, validators, is_faulty, settled_of, parked_of, dropped_of, faulty_weight, fork_choice}
use Rattle.hw_types.specs.Journal.{Setting, received_of}
use Rattle.hw_safety.specs.Decided.{decisions_of}
use Rattle.hw_text.specs.Text.{number_text, digest_text}
use Rattle.hw_text.specs.Lines.{line_of, or_dash}
use Rattle.hw_explain.specs.declared.lines.Counts.{Counts}

-- ---- the lines

-- how many units there are of each kind, how many deliveries were refused, and how many came again
unfoldable pub counts_line : Counts → List ℕ
counts_line c =
    line_of (
    codes "units" ∷ number_text c.units
    ∷ codes "parked" ∷ number_text c.parked
    ∷ codes "dropped" ∷ number_text c.dropped
    ∷ codes "refused" ∷ number_text c.refused
    ∷ codes "repeats" ∷ number_text c.repeats ∷ [])

-- the faulty validators
unfoldable pub faulty_line : List ℕ → List ℕ
faulty_line faulty = line_of (codes "faulty" ∷ or_dash (map number_text faulty))

-- a block, if there is one
abbrev pub block_text : Option Digest → List ℕ
block_text None = codes "-"
block_text (Some d) = digest_text d

-- the fork choice
unfoldable pub fork_line : Option Digest → List ℕ
fork_line fork = line_of (codes "fork" ∷ block_text fork ∷ [])

-- a decided block: its height and name, the level and quorum of its summit, and the length of the journal then
abbrev pub final_words : Decision → List (List ℕ)
final_words d =
    codes "final" ∷ number_text d.height ∷ digest_text d.block
    ∷ codes "level" ∷ number_text d.level ∷ codes "quorum" ∷ number_text d.quorum ∷ codes "at" ∷ number_text d.at ∷ []

-- the line of a decided block
unfoldable pub final_line : Decision → List ℕ
final_line d = line_of (final_words d)

-- the weight of the faulty, where it is too great
unfoldable pub exceeded_line : Option ℕ → List ℕ
exceeded_line None = []
exceeded_line (Some weight) = line_of (codes "exceeded" ∷ number_text weight ∷ [])

-- ---- what they say of a journal

-- the numbers of the first line
abbrev pub counts_of : Config → Received → ℕ → ℕ → Counts
counts_of config received refused repeats = record {
  units = length (settled_of config received);
  parked = length (parked_of config received);
  dropped = length (dropped_of config received);
  refused = refused;
  repeats = repeats;
}

-- the faulty validators in rising order
abbrev pub faulty_in : Config → Received → List ℕ
faulty_in config received = filter (is_faulty received (settled_of config received)) (validators config)

-- the name of the fork choice
abbrev pub fork_in : Config → Received → Option Digest
fork_in config received = option_map (λ b. b.digest) (fork_choice config received)

-- the faulty weight, where it exceeds the threshold
abbrev pub exceeded_in : Config → Received → Option ℕ
exceeded_in config received = if nat_lt config.ftt (faulty_weight config received) then Some (faulty_weight config received) else None

-- The report on a journal with these decisions, after this many refused deliveries and repeats.
unfoldable pub report_with : Setting → List Vertex → List Decision → ℕ → ℕ → List ℕ
report_with s journal decisions refused repeats =
    let received = received_of s journal in
    counts_line (counts_of s.config received refused repeats)
    ++ faulty_line (faulty_in s.config received)
    ++ fork_line (fork_in s.config received)
    ++ flat_map final_line decisions
    ++ exceeded_line (exceeded_in s.config received)

-- the report on a journal
abbrev pub report_text : Setting → List Vertex → ℕ → ℕ → List ℕ
report_text s journal refused repeats = report_with s journal (decisions_of s journal) refused repeats
