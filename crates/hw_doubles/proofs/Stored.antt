-- Files in memory: the first of a name, and what an append changes.
use Rattle.std.proofs.Common.{◌≡◌, ◌≢◌, ℕ, suc, zero, ◌<◌, Bool, true, false, cond, ltb, List, [], ◌∷◌, ◌++◌, length, drop, set, get_or, Option, Some, None, Result, Ok, Err, OnOk, OnErr, is_some, is_ok, refl, sym, ap, subst, ◌∙◌, append-nil, arith}
use Rattle.std.specs.Prelude.{slice_get}
use Rattle.std.specs.List.{find, position, position_or_len}
use Rattle.std.specs.Option.{option_map, option_or, ForSome}
use Rattle.std.proofs.lemmas.Bool.{ltb-true, ltb-false}
use Rattle.std.proofs.lemmas.Slice.Eq.{bytes_eq-Decides}
use Rattle.std.proofs.lemmas.List.Folds.{find_at, find-set, find_past, find-append}
use Rattle.std.proofs.lemmas.Option.{cond_some, slice_get_past, get_or_from_slice_get}
use Rattle.hw_io.specs.Files.{bytes_of, Begins, Appended}
use Rattle.hw_doubles.specs.Shelves.{has_name, place_in, held_in, begun_file, begun_in, unread_in, AddsFile}
use Rattle.hw_doubles.specs.declared.shelf.StoredFile.{StoredFile}
use Rattle.hw_doubles.specs.declared.shelf.Reading.{Reading}

-- ---- the first that passes

find-passes : {X : Type 0} (p : X → Bool) (xs : List X) (x : X) → find p xs ≡ Some x → p x ≡ true
find-passes p [] x found = absurd cc
find-passes {X} p (y ∷ ys) x found = go (p y) refl found (find-passes p ys x) where
  go : (b : Bool) → p y ≡ b → cond b (Some y) (find p ys) ≡ Some x → (find p ys ≡ Some x → p x ≡ true) → p x ≡ true
  go true passes here later = let same : y ≡ x = cc in subst (λ z. p z ≡ true) same passes
  go false passes here later = later here

item-at : {X : Type 0} (xs : List X) (i : ℕ) → i < length xs → (x : X) × (slice_get xs i ≡ Some x)
item-at [] i within = absurd (omega arith)
item-at (x ∷ xs) zero within = (x, refl)
item-at (x ∷ xs) (suc i) within = item-at xs i (omega arith)

-- what a place that was found says
pub record FoundAt {X : Type 0} (p : X → Bool) (xs : List X) (i : ℕ) : Type 0 where
  pub item : X
  pub at : slice_get xs i ≡ Some item
  pub first : find p xs ≡ Some item
  pub passes : p item ≡ true
  pub place : i ≡ position_or_len p xs
  pub within : i < length xs

pub found-place : {X : Type 0} (p : X → Bool) (xs : List X) (i : ℕ) → position p xs ≡ Some i → FoundAt p xs i
found-place p xs i found =
    let n = position_or_len p xs in
    let parts = cond_some (ltb n (length xs)) n i found in
    let within : i < length xs = omega (arith, ltb-true n (length xs) parts.0, parts.1) in
    let it = item-at xs i within in
    let first = find_at p xs ∙ ap (slice_get xs) parts.1 ∙ it.1 in
    record {
      item = it.0;
      at = it.1;
      first = first;
      passes = find-passes p xs it.0 first;
      place = sym parts.1;
      within = within;
    }

pub missing-place : {X : Type 0} (p : X → Bool) (xs : List X) → position p xs ≡ None → find p xs ≡ None
missing-place {X} p xs missing = go (ltb (position_or_len p xs) (length xs)) refl missing where
  go : (b : Bool) → ltb (position_or_len p xs) (length xs) ≡ b → cond b (Some (position_or_len p xs)) None ≡ None → find p xs ≡ None
  go true before none = absurd cc
  go false before none = find_at p xs ∙ slice_get_past xs (position_or_len p xs) (ltb-false (position_or_len p xs) (length xs) before)

-- ---- names

name-is : (name : List ℕ) (file : StoredFile) → has_name name file ≡ true → file.name.items ≡ name
name-is name file = (bytes_eq-Decides file.name.items name).0

has-name : (name : List ℕ) (file : StoredFile) → file.name.items ≡ name → has_name name file ≡ true
has-name name file = (bytes_eq-Decides file.name.items name).1

has-not : (name other : List ℕ) (file : StoredFile) → file.name.items ≡ name → other ≢ name → has_name other file ≡ false
has-not name other file named differs = go (has_name other file) refl where
  go : (b : Bool) → has_name other file ≡ b → b ≡ false
  go true is = absurd (differs (sym (name-is other file is) ∙ named))
  go false is = refl

abbrev bytes_in : Option StoredFile → Option (List ℕ)
bytes_in file = option_map (λ f. f.bytes.items) file

abbrev name_in : Option StoredFile → Option (List ℕ)
name_in file = option_map (λ f. f.name.items) file

-- there is a place exactly where there is a file
pub is_some-place : (files : List StoredFile) (name : List ℕ) → is_some (place_in files name) ≡ is_some (held_in files name)
is_some-place files name = go (place_in files name) refl where
  go : (place : Option ℕ) → place_in files name ≡ place → is_some place ≡ is_some (held_in files name)
  go (Some i) is = sym (ap (λ o. is_some (bytes_in o)) (FoundAt.first (found-place (has_name name) files i is)))
  go None is = sym (ap (λ o. is_some (bytes_in o)) (missing-place (has_name name) files is))

pub begins : (files : List StoredFile) (name : List ℕ) (place : ℕ) → place_in files name ≡ Some place
    → Begins (held_in files name) name (begun_in files (Some (record { place = place; given = 0 }))) (unread_in files (Some (record { place = place; given = 0 })))
begins files name place is =
    let found = found-place (has_name name) files place is in
    record {
      named = ap name_in found.at ∙ ap Some (name-is name found.item found.passes);
      unread_is = ap bytes_in found.first ∙ sym (ap (λ o. Some (bytes_of (bytes_in o))) found.at);
    }

-- ---- one file written

slice_get-set_like : {X Y : Type 0} (f : X → Y) (xs : List X) (i j : ℕ) (x y : X) → slice_get xs i ≡ Some x → f y ≡ f x → option_map f (slice_get (set xs i y) j) ≡ option_map f (slice_get xs j)
slice_get-set_like f [] i j x y at like = absurd cc
slice_get-set_like f (z ∷ zs) zero zero x y at like = let same : z ≡ x = cc in ap Some (like ∙ ap f (sym same))
slice_get-set_like f (z ∷ zs) zero (suc j) x y at like = refl
slice_get-set_like f (z ∷ zs) (suc i) zero x y at like = refl
slice_get-set_like f (z ∷ zs) (suc i) (suc j) x y at like = slice_get-set_like f zs i j x y at like

slice_get-set_other : {X : Type 0} (xs : List X) (i j : ℕ) (y : X) → j ≢ i → slice_get (set xs i y) j ≡ slice_get xs j
slice_get-set_other [] i j y differs = refl
slice_get-set_other (z ∷ zs) zero zero y differs = absurd (differs refl)
slice_get-set_other (z ∷ zs) zero (suc j) y differs = refl
slice_get-set_other (z ∷ zs) (suc i) zero y differs = refl
slice_get-set_other (z ∷ zs) (suc i) (suc j) y differs = slice_get-set_other zs i j y (λ same. differs (ap suc same))

-- y is the file at that place with another content
module _ (files : List StoredFile) (name : List ℕ) (place : ℕ) (x y : StoredFile) (found : place_in files name ≡ Some place) (at : slice_get files place ≡ Some x) (named : y.name.items ≡ x.name.items) where
  held_was : find (has_name name) files ≡ Some x
  held_was = let f = found-place (has_name name) files place found in f.first ∙ sym f.at ∙ at

  name_was : x.name.items ≡ name
  name_was = name-is name x (find-passes (has_name name) files x held_was)

  held_now : find (has_name name) (set files place y) ≡ Some y
  held_now = let f = found-place (has_name name) files place found in find-set (has_name name) files place y f.place f.within (has-name name y (named ∙ name_was))

  others_kept : (other : List ℕ) → other ≢ name → held_in (set files place y) other ≡ held_in files other
  others_kept other differs =
      let was : has_name other (get_or files place y) ≡ false = ap (has_name other) (get_or_from_slice_get files place x y at) ∙ has-not name other x name_was differs in
      ap bytes_in (find_past (has_name other) files place y y was (has-not name other y (named ∙ name_was) differs))

  pub appended-set : {T E : Type 0} (bytes : List ℕ) (result : Result T E) → y.bytes.items ≡ cond (is_ok result) (x.bytes.items ++ bytes) x.bytes.items
      → Appended (held_in files) (held_in (set files place y)) name bytes result
  appended-set bytes (Ok v) holds = record {
    whole = ap bytes_in held_now ∙ ap Some (holds ∙ ap (λ o. bytes_of (bytes_in o) ++ bytes) (sym held_was));
    cut = tt;
    stays = λ _. ap (λ o. is_some (bytes_in o)) held_now;
    others = others_kept;
  }
  appended-set bytes (Err e) holds = record {
    whole = tt;
    cut = (0, ap (λ o. bytes_of (bytes_in o)) held_now ∙ holds ∙ ap (λ o. bytes_of (bytes_in o)) (sym held_was) ∙ sym (append-nil _));
    stays = λ _. ap (λ o. is_some (bytes_in o)) held_now;
    others = others_kept;
  }

  pub begun_in-set : (reading : Option Reading) → begun_in (set files place y) reading ≡ begun_in files reading
  begun_in-set None = refl
  begun_in-set (Some r) = slice_get-set_like (λ f. f.name.items) files place r.place x y at named

  pub unread_in-set : (reading : Option Reading) → begun_in files reading ≢ Some name → unread_in (set files place y) reading ≡ unread_in files reading
  unread_in-set None differs = refl
  unread_in-set (Some r) differs =
      let elsewhere : r.place ≢ place = λ same. differs (ap (λ i. name_in (slice_get files i)) same ∙ ap name_in at ∙ ap Some name_was) in
      ap (λ o. drop r.given (bytes_of (bytes_in o))) (slice_get-set_other files place r.place y elsewhere)

-- ---- one more file

slice_get-append : {X : Type 0} (xs ys : List X) (i : ℕ) → i < length xs → slice_get (xs ++ ys) i ≡ slice_get xs i
slice_get-append [] ys i within = absurd (omega arith)
slice_get-append (x ∷ xs) ys zero within = refl
slice_get-append (x ∷ xs) ys (suc i) within = slice_get-append xs ys i (omega arith)

option_or-none : {X : Type 0} (o : Option X) → option_or o None ≡ o
option_or-none (Some x) = refl
option_or-none None = refl

appended-added : {T E : Type 0} (old new : List StoredFile) (name bytes : List ℕ) (v : T) → place_in old name ≡ None → AddsFile old new name bytes
    → Appended {E = E} (held_in old) (held_in new) name bytes (Ok v)
appended-added old new name bytes v missing added =
    let file = added.file in
    let none = missing-place (has_name name) old missing in
    let now : find (has_name name) new ≡ Some file = ap (find (has_name name)) added.last ∙ find-append (has_name name) old (file ∷ [])
    ∙ ap (λ o. option_or o (cond (has_name name file) (Some file) None)) none ∙ ap (λ b. cond b (Some file) None) (has-name name file added.named) in
    record {
      whole = ap bytes_in now ∙ ap Some (added.holds ∙ ap (λ o. bytes_of (bytes_in o) ++ bytes) (sym none));
      cut = tt;
      stays = λ _. ap (λ o. is_some (bytes_in o)) now;
      others = λ other differs. ap bytes_in (ap (find (has_name other)) added.last ∙ find-append (has_name other) old (file ∷ [])
          ∙ ap (λ b. option_or (find (has_name other) old) (cond b (Some file) None)) (has-not name other file added.named differs) ∙ option_or-none _);
    }

appended-none : {T E : Type 0} (old new : List StoredFile) (name bytes : List ℕ) (e : E) → new ≡ old → Appended {T = T} (held_in old) (held_in new) name bytes (Err e)
appended-none old new name bytes e same = record {
  whole = tt;
  cut = (0, ap (λ files. bytes_of (held_in files name)) same ∙ sym (append-nil _));
  stays = λ was. ap (λ files. is_some (held_in files name)) same ∙ was;
  others = λ other differs. ap (λ files. held_in files other) same;
}

begun_file-added : (old new : List StoredFile) (name bytes : List ℕ) (reading : Option Reading) → ForSome reading (λ r. r.place < length old) → AddsFile old new name bytes → begun_file new reading ≡ begun_file old reading
begun_file-added old new name bytes None within added = refl
begun_file-added old new name bytes (Some r) within added = ap (λ files. slice_get files r.place) added.last ∙ slice_get-append old (added.file ∷ []) r.place (within r refl)

-- a file was added, or nothing changed
pub appended-by : {T E : Type 0} (old new : List StoredFile) (name bytes : List ℕ) (r : Result T E) → place_in old name ≡ None → OnOk r (AddsFile old new name bytes) → OnErr r (new ≡ old)
    → Appended (held_in old) (held_in new) name bytes r
appended-by old new name bytes (Ok v) missing added same = appended-added old new name bytes v missing added
appended-by old new name bytes (Err e) missing added same = appended-none old new name bytes e same

pub begun_file-by : {T E : Type 0} (old new : List StoredFile) (name bytes : List ℕ) (r : Result T E) (reading : Option Reading) → ForSome reading (λ a. a.place < length old)
    → OnOk r (AddsFile old new name bytes) → OnErr r (new ≡ old) → begun_file new reading ≡ begun_file old reading
begun_file-by old new name bytes (Ok v) reading within added same = begun_file-added old new name bytes reading within added
begun_file-by old new name bytes (Err e) reading within added same = ap (λ files. begun_file files reading) same
