use Rattle.hw_session.specs.Standing.{standing}
use Rattle.hw_run_laws.proofs.InHandLaws.{accept_keeps}
use Rattle.hw_run_laws.proofs.in_hand.an_accept_keeps_one_line.Goals as goal

pub returns-clause-line : goal.returns-clause-line
returns-clause-line g c = λ telling me validator ready fair judged.
    accept_keeps me c.args.vertex (standing c.args.node.now (g.F.Files.held c.args.files.now)) (standing c.accept-receipt.new.self (g.F.Files.held c.accept-receipt.new.files)) c.accept-receipt.result
    validator c.recall.ensures c.recall-2.ensures c.accept-receipt.ensures.accepted (c.accept-receipt.ensures.log telling) ready fair judged
