use Rattle.std.proofs.Common.{List, ap, ◌∙◌}
use Rattle.hw_script_grammar.specs.declared.named.Named.{Named}
use Rattle.hw_script_grammar.specs.Names.{is_taken}
use Rattle.hw_script_grammar.proofs.PlaceLaws.{taken_placed}
use Rattle.hw_script_grammar.proofs.names.Names.is_taken.Goals as goal

pub returns : goal.returns
returns c =
    c.contains_key.ensures
    ∙ taken_placed c.self.inside.by_name.entries c.self.inside.items.items c.args.name.now c.self.invariant.1
    ∙ ap (λ (ns : List Named). is_taken ns c.args.name.now) c.self.view_is
