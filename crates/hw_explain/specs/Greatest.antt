-- The text of decided blocks with their greatest summits, by the definitions alone.
-- Source: ours.
use Rattle.std.specs.Prelude.{◌≡◌, ℕ, ◌+◌, List, [], ◌∷◌, ◌++◌, length, filter, map, codes, Some}
use Rattle.std.specs.List.{flat_map, range_with_len, join_with_byte}
use Rattle.hw_types.specs.declared.unit.Vertex.{Vertex}
use Rattle.hw_types.specs.declared.config.Config.{Config}
use Rattle.hw_types.specs.declared.answers.Decision.{Decision}
use Rattle.hw_types.specs.Graph.{Node, find_node}
use Rattle.hw_types.specs.Summit.{Committees, IsGreatest}
use Rattle.hw_types.specs.Settled.{settled_of, panorama_of}
use Rattle.hw_types.specs.Journal.{Setting, received_of}
use Rattle.hw_types.specs.Decisions.{received_at}
use Rattle.hw_text.specs.Text.{number_text}
use Rattle.hw_text.specs.Lines.{line_of}
use Rattle.hw_explain.specs.Report.{final_words, exceeded_line, exceeded_in}

-- these committees are the greatest summit of the decided block, of its level and quorum, in what its moment left
pub record IsGreatestOf (s : Setting) (journal : List Vertex) (d : Decision) (c : Committees) : Type 0 where
  pub block : Node
  pub found : find_node (settled_of s.config (received_at s journal d.at)) d.block ≡ Some block
  pub greatest : IsGreatest s.config.weights (settled_of s.config (received_at s journal d.at)) (panorama_of s.config (received_at s journal d.at)) block d.level d.quorum c

-- a member and its starts
abbrev pub member_text : ℕ → List ℕ → List ℕ
member_text v starts = number_text v ++ codes ":" ++ join_with_byte 44 (map number_text starts)

-- a member with its starts from level 0 to this one
abbrev pub member_with : Committees → ℕ → ℕ → List ℕ
member_with c level v = member_text v (map (λ j. c.start j v) (range_with_len 0 (level + 1)))

-- the members of the committee of a level among this many validators, in rising order, each with its starts
abbrev pub members_with : Committees → ℕ → ℕ → List (List ℕ)
members_with c validators level = map (member_with c level) (filter (c.member level) (range_with_len 0 validators))

-- the line of a decided block: its words, and the members of the last committee
abbrev pub line_with : Config → Decision → Committees → List ℕ
line_with config d c = line_of (final_words d ++ codes "committee" ∷ members_with c (length config.weights) d.level)

-- the lines of these decided blocks, or one that there is none
abbrev pub lines_with : Config → (Decision → Committees) → List Decision → List ℕ
lines_with config summits [] = line_of (codes "final" ∷ codes "-" ∷ [])
lines_with config summits (d ∷ ds) = flat_map (λ d. line_with config d (summits d)) (d ∷ ds)

-- what is explained of a journal with these decided blocks and summits
abbrev pub explained_with : Setting → List Vertex → List Decision → (Decision → Committees) → List ℕ
explained_with s journal ds summits = lines_with s.config summits ds ++ exceeded_line (exceeded_in s.config (received_of s journal))
