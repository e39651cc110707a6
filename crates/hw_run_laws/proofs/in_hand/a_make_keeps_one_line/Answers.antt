use Rattle.hw_session.specs.Standing.{standing}
use Rattle.hw_run_laws.proofs.InHandLaws.{make_keeps}
use Rattle.hw_run_laws.proofs.in_hand.a_make_keeps_one_line.Goals as goal

pub returns-clause-line : goal.returns-clause-line
returns-clause-line g c = λ telling ready made. make_keeps c.args.me c.args.now c.args.value.now (standing c.args.node.now (g.F.Files.held c.args.files.now)) (standing c.make-made.new.self (g.F.Files.held c.make-made.new.files)) c.make-made.result c.requires.me c.recall.ensures c.recall-2.ensures c.make-made.ensures.made (c.make-made.ensures.log telling) ready made
