use Rattle.std.proofs.Common.{◌≡◌, ◌+◌, ◌-◌, ℕ, sym, subst, ◌∙◌, arith}
use Rattle.hw_dag.specs.Dag.{count_of}
use Rattle.hw_light.proofs.UnderLaws.{IsWalked, marked_within, walk_starts, walk_skips, walk_looks, walk_ends}
use Rattle.hw_light.proofs.under.mark_below.Goals as goal

pub loop-next-init : goal.loop-next-init
loop-next-init c =
    let dag = c.args.dag.now in
    let first = c.args.marked.now in
    let is = c.count-next.ensures.count in
    record {
      within = omega arith;
      length_is = cc;
      walked = subst (λ (n : ℕ). IsWalked dag first n first) (sym is) (walk_starts dag c.count-next.ensures.graph first (marked_within first (count_of dag) c.requires));
    }

pub loop-next-preserved : goal.loop-next-preserved
loop-next-preserved c =
    let dag = c.args.dag.now in
    let first = c.args.marked.now in
    let i = c.loop-next.invariant in
    let more = c.loop-next-test.true in
    let up : c.loop-next.next ≡ c.loop-next.next - 1 + 1 = omega arith in
    record {
      within = omega (arith, i.within);
      length_is = i.length_is;
      walked = walk_skips dag c.count-next.ensures.graph first (marked_within first (count_of dag) c.requires) (c.loop-next.next - 1) c.loop-next.marked
          (subst (λ (n : ℕ). IsWalked dag first n c.loop-next.marked) up i.walked) c.if-marked-next.false;
    }

pub loop-next-preserved-then-marked-next : goal.loop-next-preserved-then-marked-next
loop-next-preserved-then-marked-next c =
    let dag = c.args.dag.now in
    let first = c.args.marked.now in
    let i = c.loop-next.invariant in
    let more = c.loop-next-test.true in
    let made = c.mark_observed.ensures in
    let up : c.loop-next.next ≡ c.loop-next.next - 1 + 1 = omega arith in
    record {
      within = omega (arith, i.within);
      length_is = made.length ∙ i.length_is;
      walked = walk_looks dag c.count-next.ensures.graph first (marked_within first (count_of dag) c.requires) (c.loop-next.next - 1) c.loop-next.marked c.mark_observed.new.marked (omega (arith, i.within))
          (subst (λ (n : ℕ). IsWalked dag first n c.loop-next.marked) up i.walked) c.if-marked-next.true
          (record { kept = made.kept; all = made.all; only = made.only });
    }

pub returns-clause-all : goal.returns-clause-all
returns-clause-all c n lt under =
    let dag = c.args.dag.now in
    let first = c.args.marked.now in
    let over = c.loop-next-test.false in
    let end : c.loop-next.next ≡ 0 = omega arith in
    walk_ends dag c.count-next.ensures.graph first (marked_within first (count_of dag) c.requires) c.loop-next.marked
    (subst (λ (k : ℕ). IsWalked dag first k c.loop-next.marked) end c.loop-next.invariant.walked) n lt under
