use Rattle.std.proofs.Common.{◌≡◌, ℕ, ◌<◌, ◌≤◌, ◌++◌, List, length, take, drop, refl, sym, ap, subst, ◌∙◌, arith, length-append}
use Rattle.std.proofs.lemmas.List.{take-append-le, length-take-le}
use Rattle.hw_dag.specs.Dag.{UnitGraph}
use Rattle.hw_forks.specs.declared.votes.Vote.{Vote}
use Rattle.hw_forks.specs.Votes.{AreVotes}
use Rattle.hw_dag.specs.Jumps.{floor_log2}
use Rattle.hw_forks.specs.Walk.{weight_in, votes_towards, stops, IsCommon}
use Rattle.hw_forks.proofs.StartLaws.{passed_known}
use Rattle.hw_forks.proofs.MajorityLaws.{log2_half, weigh_bounded}
use Rattle.hw_forks.proofs.BranchLaws.{towards_are, towards_common, towards_some, towards_half, under_way_first, under_way_more}
use Rattle.hw_forks.proofs.choice.walk.Goals as goal

-- what stands in front of all votes after the front was sorted
front_is : (dag : UnitGraph) (child r : ℕ) (before after rest : List Vote) → r ≤ length after → take r after ≡ votes_towards dag child before → take r (after ++ rest) ≡ votes_towards dag child before
front_is dag child r before after rest le kept = take-append-le r after rest le ∙ kept

-- and how many they are
front_many : (dag : UnitGraph) (child r : ℕ) (before after : List Vote) → r ≤ length after → take r after ≡ votes_towards dag child before → r ≡ length (votes_towards dag child before)
front_many dag child r before after le kept = sym (length-take-le r after le) ∙ ap length kept

pub loop-child-init : goal.loop-child-init
loop-child-init c = (
  c.requires.within,
  c.requires.some,
  under_way_first c.args.dag.now (take c.args.count c.args.votes.now) c.start-place.result c.requires.votes c.start-place.ensures.passed c.start-place.ensures.highest,
)

pub children_height-requires-clause-known : goal.children_height-requires-clause-known
children_height-requires-clause-known c = let i = c.loop-child.invariant in passed_known c.args.dag.now (take c.loop-child.kept c.loop-child.votes) i.2.are c.loop-child.place i.2.passed

pub start-place-requires-in-Some-clause-some : goal.start-place-requires-in-Some-clause-some
start-place-requires-in-Some-clause-some c =
    let same = front_is c.args.dag.now c.in-Some.child.0 c.keep_towards-kept.result (take c.loop-child.kept c.loop-child.votes) c.keep_towards-kept.new.votes (drop c.loop-child.kept c.loop-child.votes) c.keep_towards-kept.ensures.count c.keep_towards-kept.ensures.kept in
    subst (λ (vs : List Vote). 0 < length vs) (sym same)
    (towards_some c.args.dag.now c.requires.votes.graph c.in-Some.child.0 (take c.loop-child.kept c.loop-child.votes) c.loop-child.invariant.2.are c.loop-child.place c.in-Some.ensures.best)

pub start-place-requires-in-Some-clause-votes : goal.start-place-requires-in-Some-clause-votes
start-place-requires-in-Some-clause-votes c =
    let same = front_is c.args.dag.now c.in-Some.child.0 c.keep_towards-kept.result (take c.loop-child.kept c.loop-child.votes) c.keep_towards-kept.new.votes (drop c.loop-child.kept c.loop-child.votes) c.keep_towards-kept.ensures.count c.keep_towards-kept.ensures.kept in
    subst (AreVotes c.args.dag.now) (sym same) (towards_are c.args.dag.now c.in-Some.child.0 (take c.loop-child.kept c.loop-child.votes) c.loop-child.invariant.2.are)

pub start-place-requires-in-Some-clause-place : goal.start-place-requires-in-Some-clause-place
start-place-requires-in-Some-clause-place c =
    let child = c.in-Some.ensures.best.child in
    let same = front_is c.args.dag.now c.in-Some.child.0 c.keep_towards-kept.result (take c.loop-child.kept c.loop-child.votes) c.keep_towards-kept.new.votes (drop c.loop-child.kept c.loop-child.votes) c.keep_towards-kept.ensures.count c.keep_towards-kept.ensures.kept in
    subst (λ (vs : List Vote). IsCommon c.args.dag.now vs c.in-Some.child.0) (sym same)
    (towards_common c.args.dag.now c.requires.votes.graph c.in-Some.child.0 (take c.loop-child.kept c.loop-child.votes) child.known child.block)

pub loop-child-smaller : goal.loop-child-smaller
loop-child-smaller c =
    let i = c.loop-child.invariant in
    let half = towards_half c.args.dag.now c.requires.votes.graph c.in-Some.child.0 (take c.loop-child.kept c.loop-child.votes) i.2.are c.loop-child.place c.in-Some.ensures.best i.2.highest in
    let same = front_is c.args.dag.now c.in-Some.child.0 c.keep_towards-kept.result (take c.loop-child.kept c.loop-child.votes) c.keep_towards-kept.new.votes (drop c.loop-child.kept c.loop-child.votes) c.keep_towards-kept.ensures.count c.keep_towards-kept.ensures.kept in
    let bounded = weigh_bounded c.args.dag.now (take c.loop-child.kept c.loop-child.votes) i.2.are in
    subst (λ (vs : List Vote). floor_log2 (weight_in vs) < floor_log2 (weight_in (take c.loop-child.kept c.loop-child.votes))) (sym same)
    (log2_half (weight_in (votes_towards c.args.dag.now c.in-Some.child.0 (take c.loop-child.kept c.loop-child.votes))) (weight_in (take c.loop-child.kept c.loop-child.votes)) half.0 half.1 (omega arith))

pub loop-child-preserved : goal.loop-child-preserved
loop-child-preserved c =
    let i = c.loop-child.invariant in
    let best = c.in-Some.ensures.best in
    let few = c.keep_towards-kept.ensures.count in
    let some = towards_some c.args.dag.now c.requires.votes.graph c.in-Some.child.0 (take c.loop-child.kept c.loop-child.votes) i.2.are c.loop-child.place best in
    let many = front_many c.args.dag.now c.in-Some.child.0 c.keep_towards-kept.result (take c.loop-child.kept c.loop-child.votes) c.keep_towards-kept.new.votes few c.keep_towards-kept.ensures.kept in
    let same = front_is c.args.dag.now c.in-Some.child.0 c.keep_towards-kept.result (take c.loop-child.kept c.loop-child.votes) c.keep_towards-kept.new.votes (drop c.loop-child.kept c.loop-child.votes) few c.keep_towards-kept.ensures.kept in
    let next = c.start-place-in-Some.ensures in (
      simp length-append (omega arith),
      omega arith,
      under_way_more c.args.dag.now (take c.args.count c.args.votes.now) (take c.loop-child.kept c.loop-child.votes) (take c.keep_towards-kept.result (c.keep_towards-kept.new.votes ++ drop c.loop-child.kept c.loop-child.votes)) c.loop-child.place c.start-place-in-Some.result c.in-Some.child i.2 best same
          next.passed next.highest next.up,
    )

pub returns : goal.returns
returns c = c.loop-child.invariant.2.goes_on c.loop-child.place (stops c.loop-child.place refl c.in_default.ensures.none)
