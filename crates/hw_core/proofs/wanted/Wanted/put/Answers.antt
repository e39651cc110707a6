use Rattle.std.proofs.Common.{◌≡◌, ◌<◌, ◌∷◌, ◌++◌, [], length, drop, ap, ◌∙◌, arith, if◌then◌else◌}
use Rattle.std.specs.List.{list_any}
use Rattle.hw_types.specs.Settled.{need_eq}
use Rattle.hw_core.proofs.WantedLaws.{on_ok_then, wanted_first, wanted_few, wanted_behind}
use Rattle.hw_core.proofs.wanted.Wanted.put.Goals as goal

pub returns-then-is_among_first : goal.returns-then-is_among_first
returns-then-is_among_first c = wanted_first c.args.self.now c.args.need c.is_among_first.result c.is_among_first.ensures c.if-is_among_first.true

pub returns-then-len-lt-FEW : goal.returns-then-len-lt-FEW
returns-then-len-lt-FEW c =
    let long = c.len.ensures in
    let view = ap length c.self.view_is in
    let few : length c.args.self.now < 16 = omega (arith, long, view, c.if-len-lt-FEW.true) in
    on_ok_then c.put_first.result
    (λ (e : c.put_first.new.self ≡ c.args.self.now ++ c.args.need ∷ []). e ∙ wanted_few c.args.self.now c.args.need c.is_among_first.result c.is_among_first.ensures c.if-is_among_first.false few)
    c.put_first.ensures

pub returns-else-len-lt-FEW : goal.returns-else-len-lt-FEW
returns-else-len-lt-FEW c =
    on_ok_then c.put_behind.result
    (λ (e : c.put_behind.new.self ≡ (if list_any (λ m. need_eq m c.args.need) (drop 16 c.args.self.now) then c.args.self.now else c.args.self.now ++ c.args.need ∷ [])).
    e ∙ wanted_behind c.args.self.now c.args.need c.is_among_first.result c.is_among_first.ensures c.if-is_among_first.false)
    c.put_behind.ensures
