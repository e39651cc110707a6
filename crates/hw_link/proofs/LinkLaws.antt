-- Sessions that go on.
use Rattle.std.proofs.Common.{◌≡◌, ℕ, Bool, true, false, ◌||◌, List, [], ◌∷◌, ◌++◌, take, Option, Some, None, Result, Ok, Err, refl, sym, ap, ◌∙◌}
use Rattle.std.specs.Option.{option_map}
use Rattle.std.proofs.lemmas.List.{append_assoc, append-nil}
use Rattle.hw_io.specs.declared.outside.IoFault.{IoFault}
use Rattle.hw_io.specs.declared.outside.IoFault.TheVariants.{Failed, OutOfMemory}
use Rattle.hw_io.specs.Doors.{Session, with_last, in_session, after_read, after_write}
use Rattle.hw_link.specs.Links.{gone_on, after_part, has_failed}

-- the last session changed twice
with_last-twice : (f g h : Session → Session) → ((s : Session) → f (g s) ≡ h s) → (xs : List Session) → with_last f (with_last g xs) ≡ with_last h xs
with_last-twice f g h each [] = refl
with_last-twice f g h each (s ∷ []) = ap (λ x. x ∷ []) (each s)
with_last-twice f g h each (s ∷ t ∷ rest) = with_last-behind f s (with_last g (t ∷ rest)) (not_empty g t rest) ∙ ap (λ ys. s ∷ ys) (with_last-twice f g h each (t ∷ rest))
  where
    NotEmpty : List Session → Type 0
    NotEmpty xs = (y : Session) × (ys : List Session) × (xs ≡ y ∷ ys)

    not_empty : (k : Session → Session) (y : Session) (ys : List Session) → NotEmpty (with_last k (y ∷ ys))
    not_empty k y [] = (k y, [], refl)
    not_empty k y (z ∷ zs) = (y, with_last k (z ∷ zs), refl)

    with_last-behind : (k : Session → Session) (x : Session) (ys : List Session) → NotEmpty ys → with_last k (x ∷ ys) ≡ x ∷ with_last k ys
    with_last-behind k x ys some = ap (λ zs. with_last k (x ∷ zs)) some.2 ∙ ap (λ zs. x ∷ with_last k zs) (sym some.2)

with_last-same : (f : Session → Session) → ((s : Session) → f s ≡ s) → (xs : List Session) → with_last f xs ≡ xs
with_last-same f each [] = refl
with_last-same f each (s ∷ []) = ap (λ x. x ∷ []) (each s)
with_last-same f each (s ∷ t ∷ rest) = ap (λ ys. s ∷ ys) (with_last-same f each (t ∷ rest))

-- what a door tells, where its last session changed twice
pub changed_twice : (f g h : Session → Session) → ((s : Session) → f (g s) ≡ h s) → (o : Option (List Session)) → option_map (with_last f) (option_map (with_last g) o) ≡ option_map (with_last h) o
changed_twice f g h each None = refl
changed_twice f g h each (Some xs) = ap (λ ys. Some ys) (with_last-twice f g h each xs)

-- nothing was read or written
pub after_nothing : (o : Option (List Session)) → after_part [] [] false o ≡ o
after_nothing None = refl
after_nothing (Some xs) = ap (λ ys. Some ys) (with_last-same (gone_on [] [] false) (λ s. ap (λ r. record s { read = r; written = s.written ++ [] }) (append-nil s.read) ∙ ap (λ w. record s { written = w }) (append-nil s.written)) xs)

-- one part after another
pub after_parts : (read more written also : List ℕ) (failed : Bool) (o : Option (List Session)) → after_part more also failed (after_part read written false o) ≡ after_part (read ++ more) (written ++ also) failed o
after_parts read more written also failed o =
    changed_twice (gone_on more also failed) (gone_on read written false) (gone_on (read ++ more) (written ++ also) failed)
    (λ s. ap (λ r. record s { read = r; written = s.written ++ written ++ also; failed = failed || s.failed }) (append_assoc s.read read more)
    ∙ ap (λ w. record s { read = s.read ++ (read ++ more); written = w; failed = failed || s.failed }) (append_assoc s.written written also)) o

-- what a read or a write moved of these bytes
abbrev pub moved : Result ℕ IoFault → List ℕ → List ℕ
moved (Ok n) bytes = take n bytes
moved (Err e) bytes = []

-- a session without a change but a failure
failed_alone : (failed : Bool) (s : Session) → record s { failed = failed || s.failed } ≡ gone_on [] [] failed s
failed_alone failed s =
    ap (λ r. record s { read = r; failed = failed || s.failed }) (sym (append-nil s.read))
    ∙ ap (λ w. record s { read = s.read ++ []; written = w; failed = failed || s.failed }) (sym (append-nil s.written))

read_goes_on : (result : Result ℕ IoFault) (buf : List ℕ) (s : Session) → after_read result buf s ≡ gone_on (moved result buf) [] (has_failed result) s
read_goes_on (Ok n) buf s = ap (λ w. record s { read = s.read ++ take n buf; written = w }) (sym (append-nil s.written))
read_goes_on (Err Failed) buf s = failed_alone true s
read_goes_on (Err OutOfMemory) buf s = failed_alone false s

write_goes_on : (result : Result ℕ IoFault) (piece : List ℕ) (s : Session) → after_write result piece s ≡ gone_on [] (moved result piece) (has_failed result) s
write_goes_on (Ok n) piece s = ap (λ r. record s { read = r; written = s.written ++ take n piece }) (sym (append-nil s.read))
write_goes_on (Err Failed) piece s = failed_alone true s
write_goes_on (Err OutOfMemory) piece s = failed_alone false s

in_open : (is_open : Bool) → is_open ≡ true → (f g : Session → Session) → ((s : Session) → f s ≡ g s) → (o : Option (List Session)) → option_map (in_session is_open f) o ≡ option_map (with_last g) o
in_open is_open opened f g each o =
    ap (λ b. option_map (in_session b f) o) opened ∙ ap (λ h. option_map (with_last h) o) (λ i s. each s i)

-- what a door tells after a read in the session that is there
pub after_a_read : (is_open : Bool) → is_open ≡ true → (result : Result ℕ IoFault) (buf : List ℕ) (o : Option (List Session)) → option_map (in_session is_open (after_read result buf)) o ≡ after_part (moved result buf) [] (has_failed result) o
after_a_read is_open opened result buf o = in_open is_open opened (after_read result buf) (gone_on (moved result buf) [] (has_failed result)) (read_goes_on result buf) o

-- and after a write
pub after_a_write : (is_open : Bool) → is_open ≡ true → (result : Result ℕ IoFault) (piece : List ℕ) (o : Option (List Session)) → option_map (in_session is_open (after_write result piece)) o ≡ after_part [] (moved result piece) (has_failed result) o
after_a_write is_open opened result piece o = in_open is_open opened (after_write result piece) (gone_on [] (moved result piece) (has_failed result)) (write_goes_on result piece) o

-- a read behind other reads
pub read_on : (is_open : Bool) → is_open ≡ true → (result : Result ℕ IoFault) (buf read : List ℕ) (o now new : Option (List Session)) → now ≡ after_part read [] false o
    → new ≡ option_map (in_session is_open (after_read result buf)) now → new ≡ after_part (read ++ moved result buf) [] (has_failed result) o
read_on is_open opened result buf read o now new so_far then =
    then ∙ after_a_read is_open opened result buf now ∙ ap (after_part (moved result buf) [] (has_failed result)) so_far ∙ after_parts read (moved result buf) [] [] (has_failed result) o

-- a write behind other writes
pub write_on : (is_open : Bool) → is_open ≡ true → (result : Result ℕ IoFault) (piece written : List ℕ) (o now new : Option (List Session)) → now ≡ after_part [] written false o
    → new ≡ option_map (in_session is_open (after_write result piece)) now → new ≡ after_part [] (written ++ moved result piece) (has_failed result) o
write_on is_open opened result piece written o now new so_far then =
    then ∙ after_a_write is_open opened result piece now ∙ ap (after_part [] (moved result piece) (has_failed result)) so_far ∙ after_parts [] [] written (moved result piece) (has_failed result) o
