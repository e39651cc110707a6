use Rattle.std.proofs.Common.{◌≡◌, ◌*◌}
use Rattle.hw_cluster.proofs.RunLaws.{IsRunning}
use Rattle.hw_cluster.proofs.simulated.run.Given as goal

-- two words were taken for each step, and the steps so far were done
abbrev pub invariant-loop-step : goal.invariant-loop-step
invariant-loop-step l = (l.words ≡ record { key = l.fn.words.key; place = 2 * l.step }) × IsRunning l.fn.cluster l.fn.words.key l.nodes l.steps l.cluster l.refused l.step
