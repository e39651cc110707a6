use Rattle.std.proofs.Common.{ℕ, refl, sym, ap, subst, arith}
use Rattle.hw_naivety.specs.Naivety.{NaiveTips}
use Rattle.hw_naivety.specs.Tips.{AreRows}
use Rattle.hw_naivety.proofs.NotedLaws.{noted_grown}
use Rattle.hw_naivety.proofs.tracker.Naivety.reserve.Goals as goal

pub returns-clause-noted : goal.returns-clause-noted
returns-clause-noted c = λ dag h.
    let validators = ap (λ (t : NaiveTips). t.validators) c.self.view_is in
    let count = ap (λ (t : NaiveTips). t.count) c.self.view_is in
    let room = c.self.invariant.1.count_within in
    noted_grown dag c.args.self.now _ _ c.self.inside.tips c.grow.new.self validators count (ap (λ (t : NaiveTips). t.lanes) c.self.view_is)
    (sym (ap (λ (t : NaiveTips). t.tips) c.self.view_is)) refl (omega (arith, count, room)) (subst (λ (v : ℕ). AreRows v c.self.inside.tips) validators c.self.invariant.0) c.grow.ensures.grown h
