use Rattle.std.proofs.Common.{[], ap, sym, ◌∙◌, arith}
use Rattle.std.specs.List.{list_all}
use Rattle.hw_types.specs.Rules.{has_digest}
use Rattle.hw_rules.proofs.ListLaws.{has_itself, has_each}
use Rattle.hw_rules.proofs.lists.has_all.Goals as goal

pub returns-then-is_same : goal.returns-then-is_same
returns-then-is_same c = sym (ap (λ ds. list_all (has_digest c.args.own.now) ds) (sym (c.is_same.ensures.0 c.if-is_same.true)) ∙ has_itself c.args.own.now)

pub returns : goal.returns
returns c = sym (has_each c.args.own.now c.args.others.now (record { 0 = [] }) (λ k lt. c.loop-digest.invariant k (let over = c.loop-digest-test.false in omega arith)))
