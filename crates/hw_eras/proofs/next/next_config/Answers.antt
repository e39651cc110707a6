use Rattle.std.proofs.Common.{ap, sym, ◌∙◌}
use Rattle.std.specs.Option.{option_map}
use Rattle.hw_eras.specs.declared.next.Named.{Named}
use Rattle.hw_eras.specs.Eras.{drawn_by, if_lawful}
use Rattle.hw_eras.proofs.NextLaws.{next_named, next_drawn, answered_next, answered_lawful}
use Rattle.hw_eras.proofs.next.next_config.Goals as goal

pub returns-in-Some : goal.returns-in-Some
returns-in-Some c =
    let config = c.args.config.now in
    let block = c.args.terminal.now in
    let value = c.args.value.now in
    let names = ap (option_map (λ (n : Named). (n.weights, n.ftt))) (sym c.in-Some.is) ∙ c.in_ok-named.ensures in
    let next = answered_next config block value c.with_named.result (if_lawful (drawn_by config block) (c.in-Some.named.weights, c.in-Some.named.ftt))
    (next_named config block value (c.in-Some.named.weights, c.in-Some.named.ftt) names) c.with_named.ensures in
    record { next = next; lawful = answered_lawful config block value c.with_named.result c.requires next }

pub returns-in-None : goal.returns-in-None
returns-in-None c =
    let config = c.args.config.now in
    let block = c.args.terminal.now in
    let value = c.args.value.now in
    let names = ap (option_map (λ (n : Named). (n.weights, n.ftt))) (sym c.in-None.is) ∙ c.in_ok-named.ensures in
    let next = answered_next config block value c.drawn_by.result (drawn_by config block) (next_drawn config block value names) c.drawn_by.ensures in
    record { next = next; lawful = answered_lawful config block value c.drawn_by.result c.requires next }
