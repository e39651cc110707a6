-- Which units of a validator a node owes another.
-- Source: ours.
use Rattle.std.specs.Prelude.{◌≡◌, ℕ, Bool, true, false, nat_lt, nat_le, ◌==◌, List, Some, slice_get, if◌then◌else◌}
use Rattle.std.specs.List.{list_any}
use Rattle.hw_agree.specs.declared.summary.LaneSummary.{LaneSummary}
use Rattle.hw_agree.specs.declared.summary.LaneSummary.TheVariants.{Nothing, Line, Tangled}
use Rattle.hw_agree.specs.Converge.{part}
use Rattle.hw_meeting.specs.declared.due.Owed.{Owed}
use Rattle.hw_meeting.specs.declared.due.Owed.TheVariants as owed

-- by whether the validator is torn, and what the two sides say of it: all, those from a number on, or none
abbrev pub owed_by : Bool → LaneSummary → LaneSummary → Owed
owed_by true mine theirs = owed.All
owed_by false mine Nothing = owed.All
owed_by false (Line count tip) (Line their_count their_tip) = if nat_lt their_count count then owed.From their_count else owed.Nothing
owed_by false (Line count tip) Tangled = owed.Nothing
owed_by false Nothing (Line their_count their_tip) = owed.Nothing
owed_by false Nothing Tangled = owed.Nothing
owed_by false Tangled (Line their_count their_tip) = owed.Nothing
owed_by false Tangled Tangled = owed.Nothing

-- a unit of this number is owed
abbrev pub is_owed : Owed → ℕ → Bool
is_owed owed.Nothing seq = false
is_owed owed.All seq = true
is_owed (owed.From least) seq = nat_le least seq

-- what is owed of a validator
abbrev pub owed_at : List ℕ → List LaneSummary → List LaneSummary → ℕ → Owed
owed_at torn mine theirs v = owed_by (list_any (λ w. w == v) torn) (part mine v) (part theirs v)

-- each entry of the table is what is owed of its validator
abbrev pub AreOwed : List ℕ → List LaneSummary → List LaneSummary → List Owed → Type 0
AreOwed torn mine theirs table = (v : ℕ) (o : Owed) → slice_get table v ≡ Some o → o ≡ owed_at torn mine theirs v
