use Rattle.std.proofs.Common.{sym, subst, ◌↔◌, IfSome, IsNone}
use Rattle.hw_types.specs.Graph.{Node}
use Rattle.hw_dag.specs.Dag.{graph}
use Rattle.hw_naivety.specs.Naivety.{HasSight, HasNoNaiveFork, IsLeastNaiveFork}
use Rattle.hw_naivety.specs.Tips.{HasLists}
use Rattle.hw_admit.specs.State.{NodeState}
use Rattle.hw_admit.proofs.state.State.naive_over.Goals as goal

pub check_over-requires-clause-lists : goal.check_over-requires-clause-lists
check_over-requires-clause-lists c = subst (λ (s : NodeState). HasLists s.dag c.args.panorama.now c.args.endorsed.now) (sym c.self.view_is) c.requires.lists

pub returns-clause-none : goal.returns-clause-none
returns-clause-none c = subst (λ (s : NodeState). (u : Node) → HasSight s.dag c.args.panorama.now c.args.endorsed.now u → (IsNone c.check_over.result ↔ HasNoNaiveFork (graph s.dag) u)) c.self.view_is c.check_over.ensures.none

pub returns-clause-least : goal.returns-clause-least
returns-clause-least c = subst (λ (s : NodeState). (u : Node) → HasSight s.dag c.args.panorama.now c.args.endorsed.now u → IfSome c.check_over.result (λ fork. IsLeastNaiveFork s.dag u fork)) c.self.view_is c.check_over.ensures.least
