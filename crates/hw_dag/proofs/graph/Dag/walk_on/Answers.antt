use Rattle.std.proofs.Common.{◌≡◌, ◌+◌, ◌-◌, ℕ, subst, arith}
use Rattle.hw_dag.proofs.MarkLaws.{IsWalked, walk_starts, walk_skips, walk_looks}
use Rattle.hw_dag.proofs.ListLaws.{walk_tells}
use Rattle.hw_dag.proofs.graph.Dag.walk_on.Goals as goal

pub loop-next-init : goal.loop-next-init
loop-next-init c = (omega arith, λ g. walk_starts c.args.self.now g c.args.marked.now c.args.top c.args.low.0)

pub loop-next-preserved-then-marked-next : goal.loop-next-preserved-then-marked-next
loop-next-preserved-then-marked-next c =
    let i = c.loop-next.invariant in
    let more = c.loop-next-test.true in
    let up : c.loop-next.next ≡ c.loop-next.next - 1 + 1 = omega arith in (
      omega (arith, i.0),
      λ g. walk_looks c.args.self.now g c.args.marked.now c.args.top c.args.low.0 (c.loop-next.next - 1) c.loop-next.marked c.mark_observed.new.marked c.requires.known (omega (arith, i.0))
          (subst (λ (n : ℕ). IsWalked c.args.self.now g c.args.marked.now c.args.top c.args.low.0 n c.loop-next.marked) up (i.1 g)) c.if-marked-next.true
          (let made = c.mark_observed.ensures in record { kept = made.kept; all = made.all; only = made.only }),
    )

pub loop-next-preserved : goal.loop-next-preserved
loop-next-preserved c =
    let i = c.loop-next.invariant in
    let more = c.loop-next-test.true in
    let up : c.loop-next.next ≡ c.loop-next.next - 1 + 1 = omega arith in (
      omega (arith, i.0),
      λ g. walk_skips c.args.self.now g c.args.marked.now c.args.top c.args.low.0 (c.loop-next.next - 1) c.loop-next.marked
          (subst (λ (n : ℕ). IsWalked c.args.self.now g c.args.marked.now c.args.top c.args.low.0 n c.loop-next.marked) up (i.1 g)) c.if-marked-next.false,
    )

pub returns : goal.returns
returns c =
    let graph = c.recall_graph.ensures in
    walk_tells c.args.self.now graph c.args.marked.now c.args.top c.args.low.0 c.loop-next.next c.loop-next.marked c.requires.known c.loop-next-test.false (c.loop-next.invariant.1 graph)
