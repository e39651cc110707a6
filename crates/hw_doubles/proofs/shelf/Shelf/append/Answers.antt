use Rattle.std.proofs.Common.{◌≡◌, ◌<◌, refl, sym, ap, ◌∙◌, Some, drop, length, arith}
use Rattle.std.specs.Prelude.{slice_get}
use Rattle.std.specs.Option.{option_map, ForSome}
use Rattle.std.proofs.lemmas.Option.{slice_get_read}
use Rattle.hw_io.specs.Files.{bytes_of}
use Rattle.hw_doubles.specs.Shelves.{has_name, begun_file, given_of}
use Rattle.hw_doubles.proofs.Stored.{found-place, appended-set, begun_in-set, unread_in-set, appended-by, begun_file-by}
use Rattle.hw_doubles.proofs.shelf.Shelf.append.Goals as goal

found_file : (c : goal.After-self-in-Some-1) → slice_get c.args.self.now.files.items c.in-Some.place ≡ Some c.index_mut.result.now
found_file c =
    let files = c.args.self.now.files.items in
    let found = found-place (has_name c.args.name.now) files c.in-Some.place (sym c.in-Some.ensures) in
    slice_get_read files (length files) c.in-Some.place c.index_mut.result.now refl found.within c.index_mut.ensures.value

pub returns-in-Some-clause-bytes : goal.returns-in-Some-clause-bytes
returns-in-Some-clause-bytes c =
    appended-set c.args.self.now.files.items c.args.name.now c.in-Some.place c.index_mut.result.now _ (sym c.in-Some.ensures) (found_file c) refl c.args.bytes.now c.extend_from_slice.result c.extend_from_slice.ensures.items

pub returns-in-Some-clause-begun : goal.returns-in-Some-clause-begun
returns-in-Some-clause-begun c =
    begun_in-set c.args.self.now.files.items c.args.name.now c.in-Some.place c.index_mut.result.now _ (sym c.in-Some.ensures) (found_file c) refl c.args.self.now.reading

pub returns-in-Some-clause-unread : goal.returns-in-Some-clause-unread
returns-in-Some-clause-unread c =
    unread_in-set c.args.self.now.files.items c.args.name.now c.in-Some.place c.index_mut.result.now _ (sym c.in-Some.ensures) (found_file c) refl c.args.self.now.reading

pub returns-in-None-clause-bytes : goal.returns-in-None-clause-bytes
returns-in-None-clause-bytes c =
    appended-by c.args.self.now.files.items c.add.new.self.files.items c.args.name.now c.args.bytes.now c.add.result (sym c.in-None.ensures) c.add.ensures.ok c.add.ensures.err

-- the file that is read is the same
same_file : (c : goal.After-add) → begun_file c.add.new.self.files.items c.add.new.self.reading ≡ begun_file c.args.self.now.files.items c.args.self.now.reading
same_file c =
    let shelf = c.args.self.now in
    let within : ForSome shelf.reading (λ r. r.place < length shelf.files.items) = λ r is. omega (arith, shelf.within r is, shelf.files.ok.0) in
    ap (begun_file c.add.new.self.files.items) c.add.ensures.reading
    ∙ begun_file-by shelf.files.items c.add.new.self.files.items c.args.name.now c.args.bytes.now c.add.result shelf.reading within c.add.ensures.ok c.add.ensures.err

pub returns-in-None-clause-begun : goal.returns-in-None-clause-begun
returns-in-None-clause-begun c = ap (option_map (λ file. file.name.items)) (same_file c)

pub returns-in-None-clause-unread : goal.returns-in-None-clause-unread
returns-in-None-clause-unread c differs =
    ap (λ file. drop (given_of c.add.new.self.reading) (bytes_of (option_map (λ f. f.bytes.items) file))) (same_file c)
    ∙ ap (λ reading. drop (given_of reading) (bytes_of (option_map (λ f. f.bytes.items) (begun_file c.args.self.now.files.items c.args.self.now.reading)))) c.add.ensures.reading
