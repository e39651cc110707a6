use Rattle.std.proofs.Common.{take, drop, sym, ap, ◌∙◌, ◌++◌}
use Rattle.std.proofs.lemmas.List.{take-append-drop, drop-drop}
use Rattle.hw_doubles.proofs.shelf.give.Goals as goal

pub returns-clause-bytes : goal.returns-clause-bytes
returns-clause-bytes c =
    let count = c.min-count.result in
    let rest = drop c.args.given c.args.bytes.now in
    sym (take-append-drop count rest)
    ∙ ap (λ front. front ++ drop count rest) (sym (c.copy_front.ensures ∙ ap (take count) c.rest_of-rest.ensures))
    ∙ ap (λ back. take count c.copy_front.new.to ++ back) (drop-drop count c.args.given c.args.bytes.now)
