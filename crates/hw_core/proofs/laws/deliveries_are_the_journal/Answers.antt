use Rattle.hw_core.proofs.PromiseLaws.{deliveries_are, nodes_sound}
use Rattle.hw_core.proofs.laws.deliveries_are_the_journal.Goals as goal

pub returns-clause-journal : goal.returns-clause-journal
returns-clause-journal c = deliveries_are

pub returns-clause-sound : goal.returns-clause-sound
returns-clause-sound c = nodes_sound
