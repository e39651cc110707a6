-- A node that starts from what a power failure left of its file: the statement.
-- Source: ours.
use Rattle.std.specs.Prelude.{◌≡◌, ℕ, ◌<◌, ◌≤◌, List, length, take, Some, Ok}
use Rattle.hw_types.specs.declared.unit.Vertex.{Vertex}
use Rattle.hw_types.specs.Real.{setting_of}
use Rattle.hw_log.specs.Lasts.{IsVersion}
use Rattle.hw_log.specs.declared.rewritten.Rewritten.{Rewritten}
use Rattle.hw_log.specs.Rewritten.{mended_of}
use Rattle.hw_honest.specs.OneLine.{OneLine}
use Rattle.hw_honest.specs.Restart.{Event, AreFair, MayGoOut}
use Rattle.hw_session.specs.Node.{NodeState, IsSound}
use Rattle.hw_session.specs.Restart.{journal_log, logged_of}
use Rattle.hw_session.specs.Start.{GoesOn}
use Rattle.hw_session.specs.Standing.{Standing}
use Rattle.hw_run_laws.specs.Restart.{LivesOn}
use Rattle.hw_run_laws.specs.Calls.{IsReady}

-- The disk has for sure the log of one node, and the file holds that of another, to which fair events led from there. The
-- power fails, and leaves the first so many bytes of the file.
pub record PowerFails (me : ℕ) (synced node : NodeState) : Type 0 where
  pub events : List Event
  pub lives : LivesOn me synced events node
  pub fair : AreFair (setting_of synced.core.config) me (logged_of synced) events
  pub version : ℕ
  pub known : IsVersion version
  pub bytes : ℕ
  pub sure : length (journal_log version synced.core.config synced.core.journal) ≤ bytes

-- the first bytes of the file, which are left
abbrev pub left_by : {me : ℕ} {synced node : NodeState} → PowerFails me synced node → List ℕ
left_by {me} {synced} {node} failure = take failure.bytes (journal_log failure.version node.core.config node.core.journal)

-- a node starts from what is left, mended
pub record StartsFrom {me : ℕ} {synced node : NodeState} (failure : PowerFails me synced node) (next : Standing) : Type 0 where
  pub mended : Rewritten
  pub is_mended : mended_of (left_by failure) ≡ Ok mended
  pub there : next.held next.node.log ≡ Some mended.bytes
  pub on : GoesOn node.core.config node.keys next.node.log mended.bytes next.node

-- After a power failure there is such a node,
abbrev pub WhatIsLeftStarts : Type 0
WhatIsLeftStarts = (me : ℕ) (synced node : NodeState) → me < length synced.core.config.weights → IsSound synced → IsSound node
    → OneLine (setting_of synced.core.config) synced.core.journal me → (failure : PowerFails me synced node) → (next : Standing) × StartsFrom failure next

-- and it is ready, as a first node has to be: its own units are on one line, and its log is that of its journal. All that
-- might go out of what the disk had for sure may go out of its log.
abbrev pub WhatIsLeftIsReady : Type 0
WhatIsLeftIsReady = (me : ℕ) (synced node : NodeState) (next : Standing) → me < length synced.core.config.weights → IsSound synced → IsSound node
    → OneLine (setting_of synced.core.config) synced.core.journal me → (failure : PowerFails me synced node) → StartsFrom failure next
    → IsReady me next × ((v : Vertex) → MayGoOut (logged_of synced) v → MayGoOut (logged_of next.node) v)
