use Rattle.std.proofs.Common.{◌≡◌, replicate, None}
use Rattle.hw_log.proofs.lasts.no_units.Given as goal

abbrev pub invariant-loop : goal.invariant-loop
invariant-loop l = l.units.items ≡ replicate l.counter None
