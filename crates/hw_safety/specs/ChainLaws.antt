-- Laws of the decided chain: the statements.
use Rattle.std.specs.Prelude.{◌≡◌, ℕ, ◌+◌, ◌<◌, ◌≤◌, List, [], ◌∷◌, ◌++◌, length}
use Rattle.hw_types.specs.declared.unit.Obs.{Obs}
use Rattle.hw_types.specs.declared.unit.Vertex.{Vertex}
use Rattle.hw_types.specs.declared.config.Config.{Config}
use Rattle.hw_types.specs.declared.answers.Decision.{Decision}
use Rattle.hw_types.specs.Graph.{Node, slot, is_faulty_mark}
use Rattle.hw_types.specs.ByName.{IsRising}
use Rattle.hw_types.specs.laws.GraphLaws.{IsAcyclic}
use Rattle.hw_types.specs.Votes.{weight_of}
use Rattle.hw_types.specs.Settled.{Received, settled_of, panorama_of, faulty_weight}
use Rattle.hw_types.specs.laws.StateLaws.{SaysTheSame}
use Rattle.hw_types.specs.Journal.{Setting, received_of}
use Rattle.hw_types.specs.Decisions.{AreDecisions}
use Rattle.hw_safety.specs.Chain.{Begins, IsDecidedChain, AreOnFork}
use Rattle.hw_safety.specs.Taken.{taken, NoneRefused}
use Rattle.hw_safety.specs.Records.{AreNewRecords, AddsRecords, AreRecordsFrom, NoneStandsAt, MayEnd}

-- The decided blocks of a journal are one chain from height 0 on.
abbrev pub DecidedChain : Type 0
DecidedChain = (s : Setting) (journal : List Vertex) (ds : List Decision) → AreDecisions s journal ds → IsDecidedChain s journal ds

-- While the faulty weigh no more than the threshold, they are the fork choice and ancestors of it, one for each height.
abbrev pub DecidedAreOnFork : Type 0
DecidedAreOnFork = (s : Setting) (journal more : List Vertex) (ds : List Decision) → AreDecisions s journal ds
    → faulty_weight s.config (received_of s (journal ++ more)) ≤ s.config.ftt
    → AreOnFork s.config.weights (settled_of s.config (received_of s (journal ++ more))) (panorama_of s.config (received_of s (journal ++ more))) ds

-- what a detector adds to the decided blocks when the journal has become this one
abbrev pub AddsDecisions : Setting → List Vertex → List Decision → List Decision → Type 0
AddsDecisions s journal ds fresh = AddsRecords s.config (settled_of s.config (received_of s journal)) (panorama_of s.config (received_of s journal)) (faulty_weight s.config (received_of s journal)) ds (length journal) fresh

-- After one vertex more, the decided blocks are those of before and what a detector adds,
abbrev pub DetectorDecides : Type 0
DetectorDecides = (s : Setting) (journal : List Vertex) (v : Vertex) (ds fresh : List Decision) → AreDecisions s journal ds
    → AddsDecisions s (journal ++ v ∷ []) ds fresh → AreDecisions s (journal ++ v ∷ []) (ds ++ fresh)

-- and they are nothing else.
abbrev pub DecidedIsDetected : Type 0
DecidedIsDetected = (s : Setting) (journal : List Vertex) (v : Vertex) (ds es : List Decision) → AreDecisions s journal ds → AreDecisions s (journal ++ v ∷ []) es
    → (fresh : List Decision) × (es ≡ ds ++ fresh) × AddsDecisions s (journal ++ v ∷ []) ds fresh

-- So what is decided stays decided: the decisions of a journal begin those of a longer one.
abbrev pub DecisionsOnlyGrow : Type 0
DecisionsOnlyGrow = (s : Setting) (journal more : List Vertex) (ds es : List Decision) → AreDecisions s journal ds → AreDecisions s (journal ++ more) es → Begins ds es

-- A vertex that changes neither the settled units nor the panorama decides nothing.
abbrev pub QuietVertexDecidesNothing : Type 0
QuietVertexDecidesNothing = (s : Setting) (journal : List Vertex) (v : Vertex) (ds : List Decision) → AreDecisions s journal ds
    → settled_of s.config (received_of s (journal ++ v ∷ [])) ≡ settled_of s.config (received_of s journal)
    → panorama_of s.config (received_of s (journal ++ v ∷ [])) ≡ panorama_of s.config (received_of s journal)
    → AreDecisions s (journal ++ v ∷ []) ds

-- Once the faulty weigh more than the threshold, nothing more is decided.
abbrev pub NothingAfterExcess : Type 0
NothingAfterExcess = (s : Setting) (journal more : List Vertex) (ds es : List Decision) → s.config.ftt < faulty_weight s.config (received_of s journal) → AreDecisions s journal ds → AreDecisions s (journal ++ more) es → es ≡ ds

-- An empty journal decides nothing.
abbrev pub NothingAtFirst : Type 0
NothingAtFirst = (s : Setting) → AreDecisions s [] []

-- The faulty weight is that of the marks in the panorama.
abbrev pub FaultyAreMarked : Type 0
FaultyAreMarked = (config : Config) (received : Received) → faulty_weight config received ≡ weight_of config.weights (λ v. is_faulty_mark (slot (panorama_of config received) v))

-- A search along the fork choice may go up from the first height without a record, and end at the first block that doesn't stand.
abbrev pub SearchFinds : Type 0
SearchFinds = (config : Config) (units : List Node) (panorama : List Obs) (known : List Decision) (at : ℕ) (fresh : List Decision) → IsRising units → IsAcyclic units
    → AreOnFork config.weights units panorama known → AreRecordsFrom config units panorama at (length known) fresh
    → NoneStandsAt config units panorama (length known + length fresh) → AreNewRecords config units panorama known at fresh

-- It may end at a block that doesn't stand, above the fork choice, or where there is none.
abbrev pub SearchMayEnd : Type 0
SearchMayEnd = (config : Config) (units : List Node) (panorama : List Obs) → IsRising units → IsAcyclic units → MayEnd config units panorama

-- A journal that took vertices, none of them refused, says what it and they say.
abbrev pub TakenSaysAll : Type 0
TakenSaysAll = (s : Setting) (journal vertices : List Vertex) → NoneRefused s journal vertices → SaysTheSame s (taken s journal vertices) (journal ++ vertices)
