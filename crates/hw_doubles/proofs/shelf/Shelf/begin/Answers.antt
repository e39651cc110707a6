use Rattle.std.proofs.Common.{Option, refl, sym, ap, ◌∙◌, is_some}
use Rattle.std.specs.Option.{option_map}
use Rattle.hw_io.specs.Faults.{subject_of}
use Rattle.hw_doubles.specs.Shelves.{has_name}
use Rattle.hw_doubles.specs.declared.shelf.StoredFile.{StoredFile}
use Rattle.hw_io.proofs.About.{begun-subject}
use Rattle.hw_doubles.proofs.Stored.{is_some-place, missing-place, begins}
use Rattle.hw_doubles.proofs.shelf.Shelf.begin.Goals as goal

pub returns-in-Some-clause-there : goal.returns-in-Some-clause-there
returns-in-Some-clause-there c =
    let same = ap is_some c.in-Some.ensures ∙ is_some-place c.args.self.now.files.items c.args.name.now in
    (λ _. sym same, λ _. refl)

pub returns-in-Some-clause-begun : goal.returns-in-Some-clause-begun
returns-in-Some-clause-begun c = begins c.args.self.now.files.items c.args.name.now c.in-Some.place (sym c.in-Some.ensures)

pub returns-in-None-clause-there : goal.returns-in-None-clause-there
returns-in-None-clause-there c =
    let same = ap is_some c.in-None.ensures ∙ is_some-place c.args.self.now.files.items c.args.name.now in
    (λ none. sym same ∙ none, λ held. same ∙ held)

pub returns-in-Some-clause-subject : goal.returns-in-Some-clause-subject
returns-in-Some-clause-subject c =
    begun-subject _ c.args.name.now _ _ (begins c.args.self.now.files.items c.args.name.now c.in-Some.place (sym c.in-Some.ensures))

pub returns-in-None-clause-subject : goal.returns-in-None-clause-subject
returns-in-None-clause-subject c =
    let missing = missing-place (has_name c.args.name.now) c.args.self.now.files.items (sym c.in-None.ensures) in
    sym (ap (λ (f : Option StoredFile). subject_of (option_map (λ (s : StoredFile). s.bytes.items) f) c.args.name.now) missing)
