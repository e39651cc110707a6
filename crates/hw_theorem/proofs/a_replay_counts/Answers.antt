use Rattle.hw_theorem.proofs.CountLaws.{are_taken, entries_stop, replay_answered, replay_stops}
use Rattle.hw_theorem.proofs.a_replay_counts.Goals as goal

pub returns-clause-taken : goal.returns-clause-taken
returns-clause-taken c = are_taken

pub returns-clause-stop : goal.returns-clause-stop
returns-clause-stop c = entries_stop

pub returns-clause-replay : goal.returns-clause-replay
returns-clause-replay c = replay_answered

pub returns-clause-stops : goal.returns-clause-stops
returns-clause-stops c = replay_stops
