use Rattle.std.proofs.Common.{◌≡◌, ◌<◌, ◌^◌, ℕ, List, Some, None, sym, ap, subst, get_or, ◌∙◌, arith}
use Rattle.hw_horizon.specs.Bounds.{tip_in, first_of}
use Rattle.hw_horizon.specs.Firsts.{weight_after}
use Rattle.hw_horizon.proofs.FirstLaws.{correct_inside}
use Rattle.hw_horizon.proofs.FollowLaws.{same_seen}
use Rattle.hw_horizon.proofs.follow.follow_level.Goals as goal

pub put_firsts-moves-requires-clause-outside : goal.put_firsts-moves-requires-clause-outside
put_firsts-moves-requires-clause-outside c = λ v tip out e.
    let inside : v < c.args.question.now.dag.now.validators = let long = c.args.question.now.asked.panorama_is.length_is in let lt = correct_inside c.args.question.now.panorama.now v tip e in omega arith in
    let kept = c.looked_at-span.ensures.kept v inside out in
    let quiet = c.lowest.ensures kept.0 in
    let was : get_or c.args.tips.now v None ≡ Some tip = c.requires.changed v inside kept.1 ∙ ap tip_in e in
    let small : first_of c.args.bound.now v < 2 ^ 32 = subst (λ (ns : List ℕ). get_or ns v 0 < 2 ^ 32) c.firsts.ensures (c.recall_numbers.ensures v) in
    c.requires.kept quiet.0 v tip was (omega (arith, quiet.1))

pub shift_few-low-requires-clause-seen : goal.shift_few-low-requires-clause-seen
shift_few-low-requires-clause-seen c = λ v tip e.
    let was = c.first_units.ensures ∙ c.put_firsts-moves.ensures.edges ∙ c.put_before.ensures ∙ c.firsts-2.ensures in
    ap (λ (ns : List ℕ). weight_after c.args.question.now.weights.now c.args.question.now.dag.now ns tip.0) was ∙ c.requires.seen v tip e ∙ ap (λ (ns : List ℕ). get_or ns v 0) (sym c.put_firsts-moves.ensures.support)

pub shift_few-low-requires-clause-same : goal.shift_few-low-requires-clause-same
shift_few-low-requires-clause-same c = λ v tip e le.
    let done = c.put_firsts-moves.ensures in
    same_seen c.args.question.now.weights.now c.args.question.now.dag.now c.args.question.now.asked.graph_is c.args.bound.now c.put_firsts-moves.new.bound c.put_firsts-moves.result.any tip.0 done.same (c.requires.known v tip e) le
    ∙ c.requires.seen v tip e ∙ ap (λ (ns : List ℕ). get_or ns v 0) (sym done.support)

pub put_support-requires-clause-outside : goal.put_support-requires-clause-outside
put_support-requires-clause-outside c = λ v tip out e.
    let inside : v < c.args.question.now.dag.now.validators = let long = c.args.question.now.asked.panorama_is.length_is in let lt = correct_inside c.args.question.now.panorama.now v tip e in omega arith in
    let kept = c.looked_at-span-2.ensures.kept v inside out in
    let was : get_or c.args.tips.now v None ≡ Some tip = c.requires.changed v inside kept.1 ∙ ap tip_in e in
    let known = c.requires.known v tip was in
    let few = c.args.question.now.asked.graph_is.bounded in
    c.shift_few-low.ensures.kept v tip was (omega (arith, kept.0))
