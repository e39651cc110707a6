use Rattle.hw_run_laws.proofs.CompleteLaws.{serves_complete, drives_complete}
use Rattle.hw_run_laws.proofs.laws.undisturbed_sessions_are_whole.Goals as goal

pub returns-clause-serving : goal.returns-clause-serving
returns-clause-serving c = serves_complete

pub returns-clause-driving : goal.returns-clause-driving
returns-clause-driving c = drives_complete
