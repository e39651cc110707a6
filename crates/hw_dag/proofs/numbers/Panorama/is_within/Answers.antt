use Rattle.std.proofs.Common.{rules, ◌≡◌, ◌+◌, ◌++◌, ◌∷◌, [], ◌<◌, ◌↔◌, ℕ, length, get_or, sym, subst, ◌∙◌, arith}
use Rattle.std.specs.Prelude.{◌&&◌, nat_le, IsTrue}
use Rattle.std.proofs.lemmas.List.{length_push}
use Rattle.std.proofs.lemmas.Slice.Zip.{zip_turn, zip_end}
use Rattle.hw_dag.specs.declared.numbers.View.TheVariants as view
use Rattle.hw_dag.specs.Slots.{IsUpTo}
use Rattle.hw_dag.proofs.CodeLaws.{within_more}
use Rattle.hw_dag.proofs.numbers.Panorama.is_within.Goals as goal

pub loop-low-preserved : goal.loop-low-preserved
loop-low-preserved c =
    let n = length c.loop-low.yielded in
    let long : length (c.loop-low.yielded ++ (c.in-Some.low, c.in-Some.high) ∷ []) ≡ n + 1 = length_push c.loop-low.yielded (c.in-Some.low, c.in-Some.high) in
    let turn = zip_turn c.args.self.now c.args.other.now c.loop-low.yielded c.into_iter-low-iterator.result c.loop-low.low-iterator c.next.new.self c.next.result
    (search rules) (search rules) c.loop-low.yielded_by (c.in-Some.low, c.in-Some.high) c.in-Some.is c.next.ensures.steps in
    subst (λ (k : ℕ). IsTrue (c.loop-low.within && nat_le c.low.inside.0 c.high.inside.0) ↔ ((v : ℕ) → v < k → IsUpTo (get_or c.args.self.now v view.Absent) (get_or c.args.other.now v view.Absent))) (sym long)
    (within_more c.args.self.now c.args.other.now n c.low.inside.0 c.high.inside.0 c.loop-low.within c.low.invariant c.high.invariant
    (c.low.view_is ∙ turn.2 view.Absent) (c.high.view_is ∙ turn.3 view.Absent) c.loop-low.invariant)

pub returns : goal.returns
returns c =
    let turns = zip_end c.args.self.now c.args.other.now c.loop-low.yielded c.into_iter-low-iterator.result c.loop-low.low-iterator c.next.new.self c.next.result
    (search rules) (search rules) c.loop-low.yielded_by c.in-None.is c.next.ensures.steps in
    let slots = c.requires in
    subst (λ (k : ℕ). IsTrue c.loop-low.within ↔ ((v : ℕ) → v < k → IsUpTo (get_or c.args.self.now v view.Absent) (get_or c.args.other.now v view.Absent)))
    (let all : length c.loop-low.yielded ≡ length c.args.self.now = omega arith in all) c.loop-low.invariant
