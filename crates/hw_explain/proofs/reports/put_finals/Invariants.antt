use Rattle.std.proofs.Common.{◌≡◌, ◌++◌, take}
use Rattle.std.specs.List.{flat_map}
use Rattle.hw_core.specs.Decided.{decided_in}
use Rattle.hw_explain.specs.Report.{final_line}
use Rattle.hw_explain.proofs.reports.put_finals.Given as goal

abbrev pub invariant-loop-index : goal.invariant-loop-index
invariant-loop-index l = l.text ≡ l.initial.text ++ flat_map final_line (take l.index (decided_in l.core))
