use Rattle.hw_session.proofs.RestartLaws.{new_node_has_log, make_keeps_log}
use Rattle.hw_session.proofs.LineLaws.{make_is_an_event}
use Rattle.hw_session.proofs.laws.a_node_keeps_the_log_of_its_journal.Goals as goal

pub returns-clause-new : goal.returns-clause-new
returns-clause-new c = new_node_has_log

pub returns-clause-kept : goal.returns-clause-kept
returns-clause-kept c = make_keeps_log

pub returns-clause-event : goal.returns-clause-event
returns-clause-event c = make_is_an_event
