use Rattle.std.proofs.Common.{◌≡◌, ℕ, subst, arith}
use Rattle.hw_dag.specs.Dag.{count_of}
use Rattle.hw_needs.specs.Forks.{IsLeastWithTwo}
use Rattle.hw_needs.proofs.forks.least_with_two.Goals as goal

pub returns : goal.returns
returns c =
    let all : c.loop-no.no ≡ count_of c.args.dag.now = omega (arith, c.count-no-end.ensures.count) in
    subst (λ (n : ℕ). IsLeastWithTwo c.args.dag.now n c.args.creator c.loop-no.noted.least) all c.loop-no.invariant.least_is
