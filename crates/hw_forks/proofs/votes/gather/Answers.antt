use Rattle.std.proofs.Common.{rules, ◌≡◌, ◌+◌, ◌++◌, ◌∷◌, [], length, refl, sym, ap, subst, ◌∙◌, arith}
use Rattle.std.proofs.lemmas.List.{length_push}
use Rattle.std.proofs.lemmas.Slice.Zip.{zip_turn, zip_end}
use Rattle.hw_dag.specs.declared.numbers.View.TheVariants as view
use Rattle.hw_forks.specs.declared.votes.Vote.{Vote}
use Rattle.hw_forks.specs.Votes.{votes_of, vote_of, AreVotes, IsRoomFor}
use Rattle.hw_forks.proofs.GatherLaws.{votes_none, votes_with, votes_without, count_room, put_last, votes_are}
use Rattle.hw_forks.proofs.votes.gather.Goals as goal

pub loop-slot-init : goal.loop-slot-init
loop-slot-init c = (omega arith, sym (votes_none c.args.dag.now c.args.weights.now c.args.panorama.now))

pub bounds-votes-count : goal.bounds-votes-count
bounds-votes-count c =
    let i = c.loop-slot.invariant in
    let large = c.requires.room in
    let kept = c.loop-slot.auto.votes in
    let turn = zip_turn c.args.panorama.now c.args.weights.now c.loop-slot.yielded c.into_iter-slot-iterator.result c.loop-slot.slot-iterator c.next.new.self c.next.result
    (search rules) (search rules) c.loop-slot.yielded_by (c.in-Some.slot, c.in-Some.weight) c.in-Some.is c.next.ensures.steps in
    let here = sym (turn.2 view.Absent) ∙ sym c.view.ensures ∙ c.in-Correct.is in
    let slots = c.requires.panorama.length_is in
    let within = turn.0 in
    let long : length c.loop-slot.votes ≡ length c.args.votes.now = kept in
    count_room c.args.dag.now c.args.weights.now c.args.panorama.now c.requires.panorama c.loop-slot.votes c.loop-slot.count (length c.loop-slot.yielded) c.in-Correct.no i.0 i.1 here (omega arith)
    (subst (IsRoomFor c.args.dag.now) (sym long) large)

pub loop-slot-preserved-in-Correct : goal.loop-slot-preserved-in-Correct
loop-slot-preserved-in-Correct c =
    let i = c.loop-slot.invariant in
    let large = c.requires.room in
    let kept = c.loop-slot.auto.votes in
    let n = length c.loop-slot.yielded in
    let long : length (c.loop-slot.yielded ++ (c.in-Some.slot, c.in-Some.weight) ∷ []) ≡ n + 1 = length_push c.loop-slot.yielded (c.in-Some.slot, c.in-Some.weight) in
    let turn = zip_turn c.args.panorama.now c.args.weights.now c.loop-slot.yielded c.into_iter-slot-iterator.result c.loop-slot.slot-iterator c.next.new.self c.next.result
    (search rules) (search rules) c.loop-slot.yielded_by (c.in-Some.slot, c.in-Some.weight) c.in-Some.is c.next.ensures.steps in
    let here = sym (turn.2 view.Absent) ∙ sym c.view.ensures ∙ c.in-Correct.is in
    let slots = c.requires.panorama.length_is in
    let within = turn.0 in
    let many : length c.loop-slot.votes ≡ length c.args.votes.now = kept in
    let less = count_room c.args.dag.now c.args.weights.now c.args.panorama.now c.requires.panorama c.loop-slot.votes c.loop-slot.count n c.in-Correct.no i.0 i.1 here (omega arith)
    (subst (IsRoomFor c.args.dag.now) (sym many) large) in
    let put = put_last c.loop-slot.votes _ (votes_of c.args.dag.now c.args.weights.now c.args.panorama.now n) c.loop-slot.count _ c.vote_of.result less i.1 refl refl in (
      put.0,
      put.1 ∙ ap (λ (vote : Vote). votes_of c.args.dag.now c.args.weights.now c.args.panorama.now n ++ vote ∷ [])
          (c.vote_of.ensures ∙ ap (vote_of c.args.dag.now c.in-Correct.no) (turn.3 0))
          ∙ sym (votes_with c.args.dag.now c.args.weights.now c.args.panorama.now n c.in-Correct.no here)
          ∙ ap (votes_of c.args.dag.now c.args.weights.now c.args.panorama.now) (sym long),
    )

pub loop-slot-preserved : goal.loop-slot-preserved
loop-slot-preserved c =
    let n = length c.loop-slot.yielded in
    let long : length (c.loop-slot.yielded ++ (c.in-Some.slot, c.in-Some.weight) ∷ []) ≡ n + 1 = length_push c.loop-slot.yielded (c.in-Some.slot, c.in-Some.weight) in
    let turn = zip_turn c.args.panorama.now c.args.weights.now c.loop-slot.yielded c.into_iter-slot-iterator.result c.loop-slot.slot-iterator c.next.new.self c.next.result
    (search rules) (search rules) c.loop-slot.yielded_by (c.in-Some.slot, c.in-Some.weight) c.in-Some.is c.next.ensures.steps in
    let i = c.loop-slot.invariant in (
      i.0,
      i.1 ∙ sym (votes_without c.args.dag.now c.args.weights.now c.args.panorama.now n (λ number e. c.in_default.not-Correct number (c.view.ensures ∙ turn.2 view.Absent ∙ e)))
          ∙ ap (votes_of c.args.dag.now c.args.weights.now c.args.panorama.now) (sym long),
    )

pub returns-clause-votes : goal.returns-clause-votes
returns-clause-votes c =
    let turns = zip_end c.args.panorama.now c.args.weights.now c.loop-slot.yielded c.into_iter-slot-iterator.result c.loop-slot.slot-iterator c.next.new.self c.next.result
    (search rules) (search rules) c.loop-slot.yielded_by c.in-None.is c.next.ensures.steps in
    let slots = c.requires.panorama.length_is in
    let weights = c.requires.weights.length_is in
    c.loop-slot.invariant.1 ∙ ap (votes_of c.args.dag.now c.args.weights.now c.args.panorama.now) (omega arith)

pub returns-clause-are : goal.returns-clause-are
returns-clause-are c =
    let turns = zip_end c.args.panorama.now c.args.weights.now c.loop-slot.yielded c.into_iter-slot-iterator.result c.loop-slot.slot-iterator c.next.new.self c.next.result
    (search rules) (search rules) c.loop-slot.yielded_by c.in-None.is c.next.ensures.steps in
    let slots = c.requires.panorama.length_is in
    let weights = c.requires.weights.length_is in
    let all : length c.loop-slot.yielded ≡ c.args.dag.now.validators = omega arith in
    subst (AreVotes c.args.dag.now) (sym (c.loop-slot.invariant.1 ∙ ap (votes_of c.args.dag.now c.args.weights.now c.args.panorama.now) all))
    (votes_are c.args.dag.now c.args.weights.now c.args.panorama.now c.requires.panorama c.recall_graph.ensures c.requires.weights)
