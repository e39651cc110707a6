use Rattle.std.proofs.Common.{sym, subst, ◌∙◌}
use Rattle.std.specs.Prelude.{IfSome}
use Rattle.hw_horizon.specs.Firsts.{AreSeen}
use Rattle.hw_horizon.proofs.counts.Counts.put.Goals as goal

pub copy_from-requires : goal.copy_from-requires
copy_from-requires c =
    let told = subst (λ o. IfSome o (λ s. AreSeen c.args.question.now.weights.now c.args.question.now.dag.now c.args.question.now.panorama.now c.args.present.now c.args.firsts.now s.now)) c.in-Some.is
    (c.seen_of.ensures c.args.question.now.weights.now c.args.question.now.dag.now c.args.question.now.panorama.now c.args.present.now c.requires.exact) in
    c.requires.length ∙ sym told.long

pub returns-in-Some : goal.returns-in-Some
returns-in-Some c =
    subst (λ ns. AreSeen c.args.question.now.weights.now c.args.question.now.dag.now c.args.question.now.panorama.now c.args.present.now c.args.firsts.now ns) (sym c.copy_from.ensures)
    (subst (λ o. IfSome o (λ s. AreSeen c.args.question.now.weights.now c.args.question.now.dag.now c.args.question.now.panorama.now c.args.present.now c.args.firsts.now s.now)) c.in-Some.is
    (c.seen_of.ensures c.args.question.now.weights.now c.args.question.now.dag.now c.args.question.now.panorama.now c.args.present.now c.requires.exact))
