use Rattle.hw_service.proofs.GrowLaws.{serves_grows}
use Rattle.hw_service.proofs.serving.ServingTalk.talk.Goals as goal

pub returns-clause-grown : goal.returns-clause-grown
returns-clause-grown g c = serves_grows _ _ _ _ _ _ _ _ _ _ c.serve_one.ensures.served
