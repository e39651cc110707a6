-- What a reader may rely on in place of what is worked out: the statements.
use Rattle.std.specs.Prelude.{◌≡◌, ℕ, List, All}
use Rattle.hw_types.specs.declared.unit.Vertex.{Vertex}
use Rattle.hw_types.specs.declared.answers.Decision.{Decision}
use Rattle.hw_types.specs.Summit.{Committees}
use Rattle.hw_types.specs.Journal.{Setting}
use Rattle.hw_types.specs.Decisions.{AreDecisions}
use Rattle.hw_explain.specs.Greatest.{IsGreatestOf, explained_with}
use Rattle.hw_explain.specs.Report.{report_with, report_text}
use Rattle.hw_explain.specs.Explain.{explained_text}

-- The report on a journal is the text made with any decided blocks that the definition allows.
abbrev pub ReportIsOfDecisions : Type 0
ReportIsOfDecisions = (s : Setting) (journal : List Vertex) (ds : List Decision) (refused repeats : ℕ) → AreDecisions s journal ds
    → report_text s journal refused repeats ≡ report_with s journal ds refused repeats

-- What is explained of a journal is the text made with any decided blocks that the definition allows. The same holds of
-- their greatest summits.
abbrev pub ExplainedIsOfGreatest : Type 0
ExplainedIsOfGreatest = (s : Setting) (journal : List Vertex) (ds : List Decision) (summits : Decision → Committees)
    → AreDecisions s journal ds → All (λ d. IsGreatestOf s journal d (summits d)) ds → explained_text s journal ≡ explained_with s journal ds summits

-- Each decided block has a greatest summit.
abbrev pub DecidedHaveGreatest : Type 0
DecidedHaveGreatest = (s : Setting) (journal : List Vertex) (ds : List Decision) → AreDecisions s journal ds
    → (summits : Decision → Committees) × All (λ d. IsGreatestOf s journal d (summits d)) ds
