use Rattle.std.proofs.Common.{◌≡◌}
use Rattle.hw_types.specs.Real.{setting_of}
use Rattle.hw_types.specs.Journal.{journal_of}
use Rattle.hw_honest.specs.Restart.{trusted}
use Rattle.hw_client.proofs.stored.restore.Given as goal

abbrev pub invariant-loop-vertex : goal.invariant-loop-vertex
invariant-loop-vertex l = (l.core.config ≡ l.fn.config) × (l.core.journal ≡ journal_of (setting_of l.fn.config) (trusted l.yielded))
