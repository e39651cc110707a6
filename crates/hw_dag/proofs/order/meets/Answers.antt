-- Equal slots are met, and two units are in the order of their lanes.
use Rattle.std.proofs.Common.{rules, ◌≡◌, sym}
use Rattle.hw_dag.proofs.ViewLaws.{met_same, met_by_lane}
use Rattle.hw_dag.proofs.SharedLaws.{known_of}
use Rattle.hw_dag.proofs.order.meets.Goals as goal

pub returns-then-eq : goal.returns-then-eq
returns-then-eq c =
    let same : c.args.low ≡ c.args.high = search rules in
    sym (met_same c.args.dag.now c.requires.graph c.args.low c.args.high (known_of c.args.dag.now c.args.validator c.args.low c.requires.low) same)

pub returns-in-Correct-Correct : goal.returns-in-Correct-Correct
returns-in-Correct-Correct c =
    met_by_lane c.args.dag.now c.requires.graph c.args.low c.args.high c.in-Correct-Correct.low c.in-Correct-Correct.high c.on_lane_of.result
    c.in-Correct-Correct.is-0 c.in-Correct-Correct.is-1 (known_of c.args.dag.now c.args.validator c.args.low c.requires.low) (known_of c.args.dag.now c.args.validator c.args.high c.requires.high) c.on_lane_of.ensures
