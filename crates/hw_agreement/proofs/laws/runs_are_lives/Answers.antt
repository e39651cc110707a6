use Rattle.hw_agreement.proofs.RunLaws.{turns_are_calls, serves_are_calls, hosts_are_calls, meets_are_calls, new_runs_begin, later_runs_go_on}
use Rattle.hw_agreement.proofs.laws.runs_are_lives.Goals as goal

pub returns-clause-turns : goal.returns-clause-turns
returns-clause-turns g c = turns_are_calls

pub returns-clause-serves : goal.returns-clause-serves
returns-clause-serves g c = serves_are_calls

pub returns-clause-hosts : goal.returns-clause-hosts
returns-clause-hosts g c = hosts_are_calls

pub returns-clause-meets : goal.returns-clause-meets
returns-clause-meets g c = meets_are_calls

pub returns-clause-begins : goal.returns-clause-begins
returns-clause-begins g c = new_runs_begin

pub returns-clause-goes_on : goal.returns-clause-goes_on
returns-clause-goes_on g c = later_runs_go_on
