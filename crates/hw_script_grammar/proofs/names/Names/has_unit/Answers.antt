use Rattle.std.proofs.Common.{List, sym, ap, ◌∙◌}
use Rattle.hw_script_grammar.specs.declared.named.Named.{Named}
use Rattle.hw_script_grammar.specs.Names.{has_unit}
use Rattle.hw_script_grammar.proofs.PlaceLaws.{unit_nowhere}
use Rattle.hw_script_grammar.proofs.names.Names.has_unit.Goals as goal

pub returns-else-contains_key : goal.returns-else-contains_key
returns-else-contains_key c =
    c.if-contains_key.false
    ∙ sym (unit_nowhere c.self.inside.by_digest.entries c.self.inside.items.items c.args.unit.now c.args.digest.now c.self.invariant.0 c.self.invariant.2 c.requires (sym c.if-contains_key.ensures))
    ∙ ap (λ (ns : List Named). has_unit ns c.args.unit.now) c.self.view_is
