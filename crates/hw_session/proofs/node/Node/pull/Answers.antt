use Rattle.std.proofs.Common.{refl}
use Rattle.hw_types.specs.declared.answers.Frame.TheVariants as frame
use Rattle.hw_session.specs.declared.stage.Stage.TheVariants as stage
use Rattle.hw_session.specs.Driving.{greeting, pull}
use Rattle.hw_session.proofs.DriveLaws.{sent_answers}
use Rattle.hw_session.proofs.node.Node.pull.Goals as goal

pub returns-clause-answers : goal.returns-clause-answers
returns-clause-answers g c =
    sent_answers c.args.self.now c.args.mark (pull (greeting c.args.self.now c.args.mark) c.args.again) (frame.Have c.args.mark.pulled) (stage.Pulling c.args.again) _ _ refl refl refl tt c.in_ok-say.ensures.sent
