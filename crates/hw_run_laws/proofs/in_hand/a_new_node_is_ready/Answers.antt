use Rattle.hw_run_laws.proofs.InHandLaws.{begin_ready}
use Rattle.hw_run_laws.proofs.in_hand.a_new_node_is_ready.Goals as goal

pub returns-clause-ready : goal.returns-clause-ready
returns-clause-ready g c = λ telling none me. begin_ready me c.args.config c.args.keys c.args.log.now (g.F.Files.held c.args.files.now) (g.F.Files.held c.begin.new.files) c.in_ok-node.node c.in_ok-node.ensures.node c.recall.ensures (c.in_ok-node.ensures.log telling) none
