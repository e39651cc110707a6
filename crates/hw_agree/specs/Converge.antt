-- What two nodes tell each other of their lanes, and what each then sends.
use Rattle.std.specs.Prelude.{◌≡◌, ℕ, Bool, true, false, ◌&&◌, ◌||◌, not, nat_lt, nat_le, ◌==◌, List, ◌++◌, length, map, filter, find, slice_index_or, Some, None, if◌then◌else◌}
use Rattle.std.specs.List.{list_any, list_all}
use Rattle.hw_types.specs.declared.unit.Digest.{Digest}
use Rattle.hw_types.specs.declared.unit.Vertex.{Vertex}
use Rattle.hw_types.specs.declared.unit.Vertex.TheVariants as vertex
use Rattle.hw_types.specs.Graph.{Node, digest_eq, is_some_and, is_among, find_node, lane_of, is_on_lane}
use Rattle.hw_types.specs.Below.{Among}
use Rattle.hw_types.specs.Settled.{settled_of, validators}
use Rattle.hw_types.specs.Journal.{Setting, received_of}
use Rattle.hw_types.specs.laws.StateLaws.{units_in}
use Rattle.hw_agree.specs.declared.summary.LaneSummary.{LaneSummary}
use Rattle.hw_agree.specs.declared.summary.LaneSummary.TheVariants.{Nothing, Line, Tangled}

-- ---- what is told of a validator

-- the units of a validator that the journal makes known
abbrev pub units_by : Setting → List Vertex → ℕ → List Node
units_by s journal v = filter (λ x. x.unit.creator == v) (received_of s journal).units

-- the unit is among these, and on the lane of that one
abbrev pub is_settled_below : List Node → Node → Node → Bool
is_settled_below settled t x = is_among settled x && is_on_lane settled x t

-- all units of the validator are settled, and on the lane of this one
abbrev pub is_line_of : Setting → List Vertex → ℕ → Node → Bool
is_line_of s journal v t = list_all (is_settled_below (settled_of s.config (received_of s journal)) t) (units_by s journal v)

-- what is told of a validator's units
unfoldable pub summary_of : Setting → List Vertex → ℕ → LaneSummary
summary_of s journal v =
    if length (units_by s journal v) == 0 then Nothing
    else elim (find (is_line_of s journal v) (units_by s journal v)) [ None ↦ Tangled | Some t ↦ Line (length (units_by s journal v)) t.digest ]

-- what is told of each validator
abbrev pub summaries : Setting → List Vertex → List LaneSummary
summaries s journal = map (summary_of s journal) (validators s.config)

-- what a summary tells of a validator
abbrev pub part : List LaneSummary → ℕ → LaneSummary
part summary v = slice_index_or summary v Nothing

-- ---- torn validators

-- a unit of the one name is on the lane of the unit of the other name
abbrev pub is_below_tip : List Node → Digest → Digest → Bool
is_below_tip settled low high = is_some_and (λ t. list_any (λ x. digest_eq x.digest low) (lane_of settled t)) (find_node settled high)

-- both sides have units, and one is tangled; or both have lines, this one's is no shorter, and the other's tip isn't on it
abbrev pub is_torn : List Node → LaneSummary → LaneSummary → Bool
is_torn settled Nothing theirs = false
is_torn settled Tangled Nothing = false
is_torn settled Tangled Tangled = true
is_torn settled Tangled (Line count tip) = true
is_torn settled (Line count tip) Nothing = false
is_torn settled (Line count tip) Tangled = true
is_torn settled (Line count tip) (Line their_count their_tip) = nat_le their_count count && not (is_below_tip settled their_tip tip)

-- the validators that are torn for a side, by what the other tells
abbrev pub torn_for : Setting → List Vertex → List LaneSummary → List ℕ
torn_for s journal theirs = filter (λ v. is_torn (settled_of s.config (received_of s journal)) (part (summaries s journal) v) (part theirs v)) (validators s.config)

-- ---- what is sent

-- the other has no unit of the validator, or has a shorter line, and this number is beyond it
abbrev pub is_ahead : LaneSummary → LaneSummary → ℕ → Bool
is_ahead mine Nothing seq = true
is_ahead (Line count tip) (Line their_count their_tip) seq = nat_lt their_count count && nat_le their_count seq
is_ahead _ _ seq = false

-- all evidence and endorsements are due, and the units of torn validators, and those that the other hasn't reached
abbrev pub is_due : List ℕ → List LaneSummary → List LaneSummary → Vertex → Bool
is_due torn mine theirs (vertex.Evidence e) = true
is_due torn mine theirs (vertex.Endorsement e) = true
is_due torn mine theirs (vertex.Unit u) = list_any (λ v. v == u.unit.creator) torn || is_ahead (part mine u.unit.creator) (part theirs u.unit.creator) u.unit.seq

-- what a node sends, in the order of its journal
abbrev pub due_of : List Vertex → List LaneSummary → List LaneSummary → List ℕ → List Vertex
due_of journal mine theirs torn = filter (is_due torn mine theirs) journal

-- what a node sends to one that has this journal
abbrev pub due_to : Setting → List Vertex → List Vertex → List Vertex
due_to s mine theirs = due_of mine (summaries s mine) (summaries s theirs) (torn_for s mine (summaries s theirs) ++ torn_for s theirs (summaries s mine))

-- ---- a clash

-- a unit of the one journal and a unit of the other differ and have one digest
pub record UnitsClash (s : Setting) (left right : List Vertex) : Type 0 where
  pub first : Node
  pub second : Node
  pub in_left : Among first (units_in s left)
  pub in_right : Among second (units_in s right)
  pub one_name : first.digest ≡ second.digest
  pub differ : first ≡ second → ⊥
