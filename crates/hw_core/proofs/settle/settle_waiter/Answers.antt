use Rattle.std.proofs.Common.{◌≡◌, ◌++◌, ◌∷◌, [], subst, sym}
use Rattle.std.specs.Prelude.{Some, None, OnOk, IfErr}
use Rattle.hw_core.specs.Entries.{insert_entry}
use Rattle.hw_types.specs.declared.answers.Rule.{Rule}
use Rattle.hw_types.specs.declared.unit.Digest.{Digest}
use Rattle.hw_types.specs.Graph.{Node, digest_eq}
use Rattle.hw_types.specs.Rules.{state_rule}
use Rattle.hw_dag.specs.Dag.{UnitGraph, graph}
use Rattle.hw_dag.specs.Admission.{AllKnown, IsResolved}
use Rattle.hw_core.specs.Settle.{admitted_in}
use Rattle.hw_core.proofs.SettleLaws.{due_same, due_known}
use Rattle.hw_core.proofs.WholeLaws.{node_same}
use Rattle.hw_core.proofs.settle.settle_waiter.Goals as goal

pub settle_or_drop-requires-clause-due : goal.settle_or_drop-requires-clause-due
settle_or_drop-requires-clause-due c = due_same c.args.state.now c.args.park.now.waiting c.args.prepared c.resolve.new.prepared c.resolve.ensures.signed c.resolve.ensures.digest c.requires.due

pub settle_or_drop-requires-clause-resolved : goal.settle_or_drop-requires-clause-resolved
settle_or_drop-requires-clause-resolved c =
    let known = subst (λ (d : UnitGraph). AllKnown (graph d) c.args.prepared.signed.unit.panorama) (sym c.dag.ensures.dag) (due_known c.args.state.now c.args.park.now.waiting c.args.prepared c.requires.due) in
    subst (λ (d : UnitGraph). IsResolved d c.resolve.new.prepared) c.dag.ensures.dag (c.resolve.ensures.resolved (c.resolve.ensures.all.1 known))

pub returns : goal.returns
returns c =
    let s = c.args.state.now in
    let done = c.settle_or_drop.new in
    let r = c.settle_or_drop.result in
    let judged = c.settle_or_drop.ensures in
    let node = node_same c.args.prepared c.resolve.new.prepared c.resolve.ensures.signed c.resolve.ensures.digest in
    record {
      can = judged.can;
      same = judged.same;
      limit = judged.limit;
      waiting = judged.waiting;
      kept = subst (λ (x : Node). OnOk r (state_rule s.config (graph s.dag) x ≡ None)) node judged.kept;
      admitted = subst (λ (x : Node). OnOk r (admitted_in done.state ≡ admitted_in s ++ x ∷ [])) node judged.admitted;
      unnoted = judged.unnoted;
      broken = subst (λ (x : Node). IfErr r (λ (rule : Rule). state_rule s.config (graph s.dag) x ≡ Some rule)) node judged.broken;
      noted = subst (λ (d : Digest). IfErr r (λ (rule : Rule). done.dropped.entries ≡ insert_entry digest_eq c.args.dropped.now.entries d rule)) c.resolve.ensures.digest judged.noted;
      unchanged = judged.unchanged;
      unstruck = judged.unstruck;
      room = judged.room;
    }
