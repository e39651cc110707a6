use Rattle.std.proofs.Common.{ap}
use Rattle.std.specs.BTreeSet.{BTreeSet}
use Rattle.hw_types.specs.declared.unit.Digest.{Digest}
use Rattle.hw_endorse.proofs.TallyLaws.{heavy_here, light_here, others_here}
use Rattle.hw_endorse.specs.Kept.{is_listed}
use Rattle.hw_endorse.proofs.tally.put_last.Goals.{then-sum-total+in_ok-insert, else-sum-total}
use Rattle.hw_endorse.proofs.tally.put_last.Goals as goal

pub returns-clause-listed : goal.returns-clause-listed
returns-clause-listed c = elim c.if-sum-total.branch [
  | then-sum-total+in_ok-insert w ↦
      heavy_here c.args.endorsed.now.keys w.insert.new.self.keys c.if-sum-total.endorsed.keys c.args.unit.now c.args.total _
      (ap (λ (s : BTreeSet Digest). s.keys) w.endorsed-is) w.in_ok-insert.ensures.updates.0 w.if-sum-total.true
  | else-sum-total w ↦
      light_here c.args.endorsed.now.keys c.if-sum-total.endorsed.keys c.args.unit.now c.args.total c.args.endorsers.now.weight c.args.weight
      (ap (λ (s : BTreeSet Digest). s.keys) w.endorsed-is) c.requires.listed w.if-sum-total.false
]

pub returns-clause-others : goal.returns-clause-others
returns-clause-others c = λ d apart. elim c.if-sum-total.branch [
  | then-sum-total+in_ok-insert w ↦
      others_here c.args.endorsed.now.keys w.insert.new.self.keys c.if-sum-total.endorsed.keys c.args.unit.now
      (ap (λ (s : BTreeSet Digest). s.keys) w.endorsed-is) w.in_ok-insert.ensures.updates.0 d apart
  | else-sum-total w ↦ ap (λ (s : BTreeSet Digest). is_listed s.keys d) w.endorsed-is
]
