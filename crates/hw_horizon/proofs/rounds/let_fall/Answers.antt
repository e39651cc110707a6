use Rattle.std.proofs.Common.{◌≡◌, true, false, sym, ap, ◌∙◌, arith}
use Rattle.std.specs.Prelude.{is_some, not}
use Rattle.hw_horizon.specs.Tables.{is_member}
use Rattle.hw_horizon.proofs.RoundLaws.{put_same}
use Rattle.hw_horizon.proofs.StrikeLaws.{other_entry, fallen_firsts}
use Rattle.hw_horizon.proofs.SeenLaws.{fewer_seen}
use Rattle.hw_horizon.proofs.WeightLaws.{one_fewer}
use Rattle.hw_horizon.proofs.rounds.let_fall.Goals as goal

pub returns-clause-firsts : goal.returns-clause-firsts
returns-clause-firsts c =
    let lp = c.requires.present_length in
    let lf = c.requires.firsts_length in
    let lt = c.requires.within in
    fallen_firsts c.args.question.now.dag.now c.args.question.now.asked.graph_is c.args.question.now.panorama.now c.args.lower.now c.args.present.now c.set.new.self c.args.firsts.now c.set-2.new.self c.args.validator
    c.requires.firsts c.set.ensures c.set-2.ensures (omega arith) (omega arith)

pub returns-clause-weight : goal.returns-clause-weight
returns-clause-weight c =
    let lp = c.requires.present_length in
    let lw = c.args.question.now.asked.weights_are.length_is in
    let lt = c.requires.within in
    let was : is_member c.args.present.now c.args.validator ≡ true = ap is_some (sym c.get.ensures) ∙ c.is_none.ensures ∙ ap not c.if-is_none.false in
    let now : is_member c.set.new.self c.args.validator ≡ false = ap is_some (put_same c.args.present.now c.set.new.self c.args.validator _ c.set.ensures (omega arith)) in
    let less = one_fewer c.args.question.now.weights.now (is_member c.args.present.now) (is_member c.set.new.self) c.args.validator was now
    (λ v other. ap is_some (sym (other_entry c.args.present.now c.set.new.self c.args.validator v _ c.set.ensures other))) (omega arith) in
    omega arith

pub returns-clause-counts : goal.returns-clause-counts
returns-clause-counts c =
    let lp = c.requires.present_length in
    let lt = c.requires.within in
    fewer_seen c.args.question.now.weights.now c.args.question.now.dag.now c.args.question.now.panorama.now c.args.present.now c.set.new.self c.args.validator c.set-2.new.self c.take.new.self c.set.ensures (omega arith) (c.take.ensures c.set-2.new.self c.set-2.ensures)
