use Rattle.std.proofs.Common.{List, [], ◌∷◌, ◌++◌, length, sym, ap, subst, ◌∙◌, arith}
use Rattle.hw_types.specs.declared.unit.Need.{Need}
use Rattle.hw_core.specs.Missing.{AreKeysBehind}
use Rattle.hw_core.proofs.WantedLaws.{behind_few}
use Rattle.hw_core.proofs.wanted.Wanted.put_first.Goals as goal

pub invariant_of-self-2 : goal.invariant_of-self-2
invariant_of-self-2 c =
    let old = c.self.inside in
    let n = c.args.need in
    let view = ap length c.self.view_is in
    subst (AreKeysBehind old.keys.keys) (sym (c.push_reserved.ensures.items ∙ ap (λ (ns : List Need). ns ++ n ∷ []) c.reserve.ensures.items))
    (behind_few old.keys.keys old.needs.items n (omega (arith, view, c.requires)) c.self.invariant)
