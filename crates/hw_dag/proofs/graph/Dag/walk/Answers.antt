use Rattle.std.proofs.Common.{◌≡◌, ◌+◌, ◌-◌, ℕ, subst, refl, arith}
use Rattle.hw_dag.proofs.MarkLaws.{IsWalked, walk_starts, walk_skips, walk_looks, walk_ends}
use Rattle.hw_dag.proofs.graph.Dag.walk.Goals as goal

pub loop-next-init : goal.loop-next-init
loop-next-init c = (
  c.requires.below,
  omega arith,
  λ g. walk_starts c.args.self.now g c.args.marked.now c.args.top c.args.low.0,
)

pub loop-next-preserved-else-marked-low : goal.loop-next-preserved-else-marked-low
loop-next-preserved-else-marked-low c =
    let i = c.loop-next.invariant in
    let more = c.loop-next-test.true in
    let up : c.loop-next.next ≡ c.loop-next.next - 1 + 1 = omega arith in (
      omega arith,
      omega (arith, i.1),
      λ g. walk_looks c.args.self.now g c.args.marked.now c.args.top c.args.low.0 (c.loop-next.next - 1) c.loop-next.marked c.mark_observed.new.marked c.requires.known (omega (arith, i.1))
          (subst (λ (n : ℕ). IsWalked c.args.self.now g c.args.marked.now c.args.top c.args.low.0 n c.loop-next.marked) up (i.2 g)) c.if-marked-next.true
          (let made = c.mark_observed.ensures in record { kept = made.kept; all = made.all; only = made.only }),
    )

pub loop-next-preserved : goal.loop-next-preserved
loop-next-preserved c =
    let i = c.loop-next.invariant in
    let more = c.loop-next-test.true in
    let up : c.loop-next.next ≡ c.loop-next.next - 1 + 1 = omega arith in (
      omega arith,
      omega (arith, i.1),
      λ g. walk_skips c.args.self.now g c.args.marked.now c.args.top c.args.low.0 (c.loop-next.next - 1) c.loop-next.marked
          (subst (λ (n : ℕ). IsWalked c.args.self.now g c.args.marked.now c.args.top c.args.low.0 n c.loop-next.marked) up (i.2 g)) c.if-marked-next.false,
    )

-- what is marked is below
pub returns-then-marked-low : goal.returns-then-marked-low
returns-then-marked-low c =
    let graph = c.recall_graph.ensures in
    let i = c.loop-next.invariant in
    let more = c.loop-next-test.true in
    let up : c.loop-next.next ≡ c.loop-next.next - 1 + 1 = omega arith in
    let walked = walk_looks c.args.self.now graph c.args.marked.now c.args.top c.args.low.0 (c.loop-next.next - 1) c.loop-next.marked c.mark_observed.new.marked c.requires.known (omega (arith, i.1))
    (subst (λ (n : ℕ). IsWalked c.args.self.now graph c.args.marked.now c.args.top c.args.low.0 n c.loop-next.marked) up (i.2 graph)) c.if-marked-next.true
    (let made = c.mark_observed.ensures in record { kept = made.kept; all = made.all; only = made.only }) in
    (λ t. walked.below c.args.low.0 c.requires.below c.if-marked-low.true, λ b. refl)

pub returns : goal.returns
returns c =
    let graph = c.recall_graph.ensures in
    let i = c.loop-next.invariant in
    let over = c.loop-next-test.false in
    let at : c.loop-next.next ≡ c.args.low.0 + 1 = omega (arith, i.0) in
    walk_ends c.args.self.now graph c.args.marked.now c.args.top c.args.low.0 c.loop-next.marked c.requires.below c.requires.known
    (subst (λ (n : ℕ). IsWalked c.args.self.now graph c.args.marked.now c.args.top c.args.low.0 n c.loop-next.marked) at (i.2 graph))
