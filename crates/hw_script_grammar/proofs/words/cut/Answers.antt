use Rattle.std.proofs.Common.{◌∷◌, ◌+◌, take, sym, ap, ◌∙◌}
use Rattle.std.specs.Prelude.{◌==◌}
use Rattle.std.specs.List.{slice_split}
use Rattle.std.proofs.lemmas.List.{take_rest}
use Rattle.hw_script_grammar.proofs.Pieces.{cut_there}
use Rattle.hw_script_grammar.proofs.words.cut.Goals as goal

pub returns-in-Some-clause-pieces : goal.returns-in-Some-clause-pieces
returns-in-Some-clause-pieces c =
    let bytes = c.args.bytes.now in
    cut_there (λ x. x == c.args.at) bytes c.in-Some.place (sym c.in-Some.ensures)
    ∙ ap (λ rest. take c.in-Some.place bytes ∷ slice_split (λ x. x == c.args.at) rest) (sym (take_rest bytes (c.in-Some.place + 1)))
