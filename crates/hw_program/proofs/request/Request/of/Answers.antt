use Rattle.std.proofs.Common.{sym}
use Rattle.hw_program.specs.Serving.{service}
use Rattle.hw_program.proofs.ServiceLaws.{service_no_request}
use Rattle.hw_program.proofs.request.Request.of.Goals as goal

pub returns-in-Some-clause-work : goal.returns-in-Some-clause-work
returns-in-Some-clause-work c = sym (service_no_request c.args.words.now (service c.in-Some.command) (sym c.in-Some.ensures))
