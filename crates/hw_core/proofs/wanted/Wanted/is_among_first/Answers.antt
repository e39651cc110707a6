use Rattle.std.proofs.Common.{List, take, ap, ◌∙◌, arith}
use Rattle.std.specs.List.{list_any}
use Rattle.hw_types.specs.declared.unit.Need.{Need}
use Rattle.hw_types.specs.Settled.{need_eq}
use Rattle.hw_core.proofs.WantedLaws.{first_looked, tests_same}
use Rattle.hw_core.proofs.wanted.Wanted.is_among_first.Goals as goal

pub returns : goal.returns
returns c =
    let items = c.self.inside.needs.items in
    let n = c.args.need.now in
    let few = c.min-few.ensures in
    let long = c.len.ensures in
    let looked = first_looked items c.min-few.result (omega arith) (omega arith) (λ less. omega arith) in
    c.contains.ensures.value ∙ tests_same n (take c.min-few.result c.deref.result.now)
    ∙ ap (λ (ns : List Need). list_any (λ m. need_eq m n) (take c.min-few.result ns)) c.deref.ensures.value
    ∙ ap (list_any (λ m. need_eq m n)) looked
    ∙ ap (λ (ns : List Need). list_any (λ m. need_eq m n) (take 16 ns)) c.self.view_is
