use Rattle.std.proofs.Common.{sym, ap, ◌∙◌, is_some}
use Rattle.hw_doubles.proofs.Stored.{is_some-place}
use Rattle.hw_doubles.proofs.shelf.Shelf.has.Goals as goal

pub returns : goal.returns
returns c =
    let same = c.is_some.ensures ∙ ap is_some c.place_of.ensures ∙ is_some-place c.args.self.now.files.items c.args.name.now in
    (λ found. sym same ∙ found, λ held. same ∙ held)
