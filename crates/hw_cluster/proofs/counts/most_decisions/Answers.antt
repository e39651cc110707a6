use Rattle.hw_cluster.proofs.CountLaws.{most_of_none, most_of_more, most_is, IsMostOf}
use Rattle.std.proofs.Common.{ℕ, length, subst, ◌≡◌, ap, ◌∙◌, arith}
use Rattle.std.proofs.lemmas.Bool.Decides.{nat_tests}
use Rattle.std.specs.Ordering.{ord_max, nat_cmp}
use Rattle.std.specs.Prelude.{max}
use Rattle.hw_cluster.proofs.counts.most_decisions.Goals as goal

same_max : (a b : ℕ) → ord_max nat_cmp a b ≡ max a b
same_max a b = grind (arith, nat_tests)

pub loop-core-init : goal.loop-core-init
loop-core-init c = most_of_none c.args.nodes.now

pub loop-core-preserved : goal.loop-core-preserved
loop-core-preserved c =
    most_of_more c.args.nodes.now c.loop-core.core-index c.loop-core.most c.core-item.result c.max-most.result c.loop-core-test.true c.core-item.is c.loop-core.invariant (c.max-most.ensures ∙ same_max c.loop-core.most c.decision_count.result ∙ ap (max c.loop-core.most) c.decision_count.ensures)

pub returns : goal.returns
returns c = λ config sent have. most_is config c.args.nodes.now sent have c.loop-core.most c.requires
    (subst (λ (i : ℕ). IsMostOf c.args.nodes.now i c.loop-core.most) (let le = c.loop-core-test.false in let up = c.loop-core.auto.core-index-end in let e : c.loop-core.core-index ≡ length c.args.nodes.now = omega arith in e) c.loop-core.invariant)
