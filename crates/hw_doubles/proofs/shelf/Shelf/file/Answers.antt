use Rattle.std.proofs.Common.{refl, sym, ap, ◌∙◌, Some, length}
use Rattle.std.specs.Option.{option_map}
use Rattle.std.proofs.lemmas.Option.{slice_get_read}
use Rattle.hw_doubles.specs.Shelves.{has_name}
use Rattle.hw_doubles.specs.declared.shelf.StoredFile.{StoredFile}
use Rattle.hw_doubles.proofs.Stored.{found-place, missing-place}
use Rattle.hw_doubles.proofs.shelf.Shelf.file.Goals as goal

pub returns-in-Some : goal.returns-in-Some
returns-in-Some c =
    let files = c.args.self.now.files.items in
    let found = found-place (has_name c.args.name.now) files c.in-Some.place (sym c.in-Some.ensures) in
    let here = slice_get_read files (length files) c.in-Some.place c.index.result.now refl found.within c.index.ensures in
    ap Some c.as_slice.ensures.value ∙ ap (option_map (λ (f : StoredFile). f.bytes.items)) (sym here ∙ found.at ∙ sym found.first)

pub returns-in-None : goal.returns-in-None
returns-in-None c =
    let files = c.args.self.now.files.items in
    ap (option_map (λ (f : StoredFile). f.bytes.items)) (sym (missing-place (has_name c.args.name.now) files (sym c.in-None.ensures)))
