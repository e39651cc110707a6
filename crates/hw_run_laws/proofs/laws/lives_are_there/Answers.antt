use Rattle.hw_run_laws.proofs.BeginLaws.{new_ready, one_begins}
use Rattle.hw_run_laws.proofs.DrivenLaws.{whole_drives}
use Rattle.hw_run_laws.proofs.MemberLaws.{lives_there}
use Rattle.hw_run_laws.proofs.ShortLaws.{whole_sessions, undisturbed, vertices_said}
use Rattle.hw_run_laws.proofs.TakenLaws.{vertices_taken}
use Rattle.hw_run_laws.proofs.TornLaws.{logs_torn, accepts_torn}
use Rattle.hw_run_laws.proofs.laws.lives_are_there.Goals as goal

pub returns-clause-begins : goal.returns-clause-begins
returns-clause-begins c = new_ready

pub returns-clause-one : goal.returns-clause-one
returns-clause-one c = one_begins

pub returns-clause-lives : goal.returns-clause-lives
returns-clause-lives c = lives_there

pub returns-clause-served : goal.returns-clause-served
returns-clause-served c = whole_sessions

pub returns-clause-driven : goal.returns-clause-driven
returns-clause-driven c = whole_drives

pub returns-clause-undisturbed : goal.returns-clause-undisturbed
returns-clause-undisturbed c = undisturbed

pub returns-clause-said : goal.returns-clause-said
returns-clause-said c = vertices_said

pub returns-clause-torn : goal.returns-clause-torn
returns-clause-torn c = logs_torn

pub returns-clause-torn_accepts : goal.returns-clause-torn_accepts
returns-clause-torn_accepts c = accepts_torn

pub returns-clause-taken : goal.returns-clause-taken
returns-clause-taken c = vertices_taken
