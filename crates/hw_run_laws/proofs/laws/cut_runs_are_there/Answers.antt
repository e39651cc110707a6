use Rattle.hw_run_laws.proofs.StopLaws.{replays_fed, replays_stop, runs_cut}
use Rattle.hw_run_laws.proofs.laws.cut_runs_are_there.Goals as goal

pub returns-clause-fed : goal.returns-clause-fed
returns-clause-fed c = replays_fed

pub returns-clause-stopped : goal.returns-clause-stopped
returns-clause-stopped c = replays_stop

pub returns-clause-runs : goal.returns-clause-runs
returns-clause-runs c = runs_cut
