-- Laws of what a node keeps.
use Rattle.std.specs.Prelude.{◌≡◌, ◌≢◌, Bool, true, List, [], ◌∷◌, ◌++◌, All}
use Rattle.hw_types.specs.declared.unit.Vertex.{Vertex}
use Rattle.hw_types.specs.laws.StateLaws.{units_in, NamesApart}
use Rattle.hw_types.specs.Journal.{Setting, answer, is_accepted}
use Rattle.hw_dag.specs.Admission.{PreparedUnit}
use Rattle.hw_admit.specs.State.{NodeState}
use Rattle.hw_park.specs.Parked.{Waiting}
use Rattle.hw_core.specs.Settle.{CanSettle, HasSettled}
use Rattle.hw_core.specs.Keeps.{IsOf, HasTaken}

-- When what a vertex sets free has settled, and nothing that waits is ready, the node keeps what the longer journal gives.
abbrev pub SettlingEnds : Type 0
SettlingEnds = (s : Setting) (journal : List Vertex) (v : Vertex) (verdict : Bool) (state later : NodeState) (waiting left : List (Waiting PreparedUnit))
    → NamesApart (units_in s journal) → is_accepted (answer s journal v verdict) ≡ true
    → HasTaken s journal v state waiting → HasSettled state waiting later left → CanSettle later left → All (λ w. w.needs ≢ []) left
    → IsOf s (journal ++ v ∷ []) later left
