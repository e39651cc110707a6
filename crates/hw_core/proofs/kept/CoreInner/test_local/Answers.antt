use Rattle.std.proofs.Common.{true, subst}
use Rattle.std.proofs.lemmas.Result.{IfErr-weaker}
use Rattle.hw_types.specs.declared.unit.Vertex.TheVariants as vertex
use Rattle.hw_types.specs.Real.{CoreState, answer_in}
use Rattle.hw_core.specs.Deliver.{IsRefusal}
use Rattle.hw_core.proofs.kept.CoreInner.test_local.Goals as goal

pub returns-clause-refused : goal.returns-clause-refused
returns-clause-refused c =
    IfErr-weaker c.test_local.result _ (λ cause. IsRefusal cause (answer_in c.args.self.now (vertex.Unit c.args.unit.now) true))
    (λ cause refused. subst (λ (k : CoreState). IsRefusal cause (answer_in k (vertex.Unit c.args.unit.now) true)) c.self.view_is (refused c.self.inside.journal.items)) c.test_local.ensures.refused
