use Rattle.std.proofs.Common.{length, refl, ap, arith}
use Rattle.hw_admit.proofs.SpareLaws.{is_state_respaced, noted_respaced, kept_respaced}
use Rattle.hw_admit.proofs.state.State.grow.Goals as goal

pub invariant_of-self-in_err-reserved : goal.invariant_of-self-in_err-reserved
invariant_of-self-in_err-reserved c =
    let dag = c.self.inside.dag in
    let later = c.reserve-reserved.new.self in
    let units = c.reserve-reserved.ensures.units in
    let validators = c.reserve-reserved.ensures.validators in
    let beside = c.self.invariant.1 in
    let count = ap length units in
    let dag_kept = c.reserve-reserved.ensures.kept in
    let naivety_kept = c.reserve-2.ensures.kept in
    let marks_kept = c.reserve.ensures.kept in
    let noted_count = c.reserve-2.ensures.count in
    let all = beside.all in
    let dag_serves = beside.dag_serves in
    let naivety_serves = beside.naivety_serves in
    let forks_serve = beside.forks_serve in
    let marks_serve = beside.marks_serve in (
      is_state_respaced dag later c.count.ensures.graph c.recall_graph.ensures units validators _ c.self.invariant.0 refl c.self.inside.spare,
      record {
        leaders_are = beside.leaders_are;
        weights_are = beside.weights_are;
        noted = noted_respaced dag later c.count.ensures.graph c.recall_graph.ensures units validators c.reserve-2.new.self (c.reserve-2.ensures.noted dag beside.noted);
        all = omega arith;
        dag_serves = omega arith;
        naivety_serves = omega arith;
        forks_serve = omega arith;
        marks_serve = omega arith;
        own_kept = kept_respaced dag later c.count.ensures.graph c.recall_graph.ensures units validators _ _ beside.own_kept;
        judged_kept = kept_respaced dag later c.count.ensures.graph c.recall_graph.ensures units validators _ _ beside.judged_kept;
      },
    )

pub invariant_of-self-2 : goal.invariant_of-self-2
invariant_of-self-2 c =
    let dag = c.self.inside.dag in
    let later = c.reserve-reserved.new.self in
    let units = c.reserve-reserved.ensures.units in
    let validators = c.reserve-reserved.ensures.validators in
    let beside = c.self.invariant.1 in
    let count = ap length units in
    let total = c.count.ensures.count in
    let dag_room = c.in_ok-reserved.ensures.room in
    let naivety_room = c.in_ok-reserve-2.ensures.room in
    let marks_room = c.in_ok-reserve.ensures.room in
    let noted_count = c.reserve-2.ensures.count in
    let all = beside.all in
    let forks_serve = beside.forks_serve in (
      is_state_respaced dag later c.count.ensures.graph c.recall_graph.ensures units validators _ c.self.invariant.0 refl c.args.count,
      record {
        leaders_are = beside.leaders_are;
        weights_are = beside.weights_are;
        noted = noted_respaced dag later c.count.ensures.graph c.recall_graph.ensures units validators c.reserve-2.new.self (c.reserve-2.ensures.noted dag beside.noted);
        all = omega arith;
        dag_serves = dag_room;
        naivety_serves = naivety_room;
        forks_serve = omega arith;
        marks_serve = omega arith;
        own_kept = kept_respaced dag later c.count.ensures.graph c.recall_graph.ensures units validators _ _ beside.own_kept;
        judged_kept = kept_respaced dag later c.count.ensures.graph c.recall_graph.ensures units validators _ _ beside.judged_kept;
      },
    )
