use Rattle.hw_run_laws.proofs.PassedLaws.{stopped, stopped_part}
use Rattle.hw_run_laws.proofs.StepLaws.{cut_services, cut_turns, cut_hosts, cut_calls}
use Rattle.hw_run_laws.proofs.laws.cut_runs_leave_prefixes.Goals as goal

pub returns-clause-replays : goal.returns-clause-replays
returns-clause-replays g c = stopped

pub returns-clause-parts : goal.returns-clause-parts
returns-clause-parts g c = stopped_part

pub returns-clause-services : goal.returns-clause-services
returns-clause-services g c = cut_services

pub returns-clause-turns : goal.returns-clause-turns
returns-clause-turns g c = cut_turns

pub returns-clause-hosts : goal.returns-clause-hosts
returns-clause-hosts g c = cut_hosts

pub returns-clause-calls : goal.returns-clause-calls
returns-clause-calls g c = cut_calls
