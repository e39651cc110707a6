-- What a write to a link says.
use Rattle.std.proofs.Common.{◌≡◌, ℕ, ◌+◌, inl, inr, arith, Bool, true, false, length, OnOk, List, [], ◌∷◌, ◌++◌, take, Option, Result, Ok, Err, refl, sym, ap, ◌∙◌}
use Rattle.std.specs.Option.{option_map}
use Rattle.std.proofs.lemmas.List.{append-nil, take-append-le, take_all}
use Rattle.std.proofs.lemmas.Bool.{cases_lt}
use Rattle.hw_io.specs.declared.outside.IoFault.{IoFault}
use Rattle.hw_io.specs.declared.outside.IoFault.TheVariants.{Failed, OutOfMemory as NoMemory}
use Rattle.hw_io.specs.Doors.{Session, in_session, after_write}
use Rattle.hw_link.specs.declared.end.SessionEnd.{SessionEnd}
use Rattle.hw_link.specs.declared.end.SessionEnd.TheVariants as end
use Rattle.std.proofs.Math.Seq.{take-append-add}
use Rattle.hw_link.specs.Links.{after_part, end_of_fault, has_failed, is_link_fault}
use Rattle.hw_link.specs.Sent.{Sends, SendsPart}
use Rattle.hw_link.proofs.LinkLaws.{write_on, after_nothing, after_parts}
use Rattle.hw_link.proofs.HearsLaws.{failed_alike}

-- a write that fails behind the first bytes
pub sends_first : (bytes piece : List ℕ) (done : ℕ) (is_open : Bool) → is_open ≡ true → (fault : IoFault) (o now new : Option (List Session)) → now ≡ after_part [] (take done bytes) false o
    → new ≡ option_map (in_session is_open (after_write (Err fault) piece)) now → SendsPart {T = Unit {0}} bytes o new (Err fault)
sends_first bytes piece done is_open opened fault o now new so_far then = record {
  part = take done bytes;
  first = (done, refl);
  whole = tt;
  told =
      write_on is_open opened (Err fault) piece (take done bytes) o now new so_far then
      ∙ ap (λ w. after_part [] w (has_failed {T = ℕ} (Err fault)) o) (append-nil (take done bytes))
      ∙ ap (λ b. after_part [] (take done bytes) b o) (failed_alike ℕ (Unit {0}) fault);
}

-- all of it was sent, or a fault of the door is how the session ends
pub sends_whole : (bytes : List ℕ) (old new : Option (List Session)) → SendsPart {T = Unit {0}} bytes old new (Ok tt) → Sends {T = Unit {0}} bytes old new (Ok tt)
sends_whole bytes old new s = record { part = s.part; first = s.first; whole = s.whole; told = s.told; error = tt }

pub sends_fault : (bytes : List ℕ) (old new : Option (List Session)) (fault : IoFault) → SendsPart {T = Unit {0}} bytes old new (Err fault) → Sends {T = Unit {0}} bytes old new (Err (end_of_fault fault))
sends_fault bytes old new Failed s = record { part = s.part; first = s.first; whole = tt; told = s.told; error = tt }
sends_fault bytes old new NoMemory s = record { part = s.part; first = s.first; whole = tt; told = s.told; error = tt }

pub sends_none : (bytes : List ℕ) (old : Option (List Session)) → Sends {T = Unit {0}} bytes old old (Err end.OutOfMemory)
sends_none bytes old = record { part = []; first = (0, take_none bytes); whole = tt; told = sym (after_nothing old); error = tt }
  where
    take_none : (xs : List ℕ) → [] ≡ take 0 xs
    take_none [] = refl
    take_none (x ∷ xs) = refl

-- ---- one after another

on_ok : {T : Type 0} (r : Result T SessionEnd) (P Q : Type 0) → (P → Q) → OnOk r P → OnOk r Q
on_ok (Ok x) P Q f h = f h
on_ok (Err e) P Q f h = tt

-- all of these bytes, and then of those
pub sends_then : (T : Type 0) (xs ys : List ℕ) (old now new : Option (List Session)) (r : Result T SessionEnd) → Sends {T = Unit {0}} xs old now (Ok tt) → Sends {T = T} ys now new r → Sends {T = T} (xs ++ ys) old new r
sends_then T xs ys old now new r before after =
    let all : before.part ++ after.part ≡ xs ++ after.part = ap (λ p. p ++ after.part) before.whole in
    record {
      part = before.part ++ after.part;
      first = (length xs + after.first.0, all ∙ ap (λ p. xs ++ p) after.first.1 ∙ sym (take-append-add xs ys after.first.0));
      whole = on_ok r (after.part ≡ ys) (before.part ++ after.part ≡ xs ++ ys) (λ h. all ∙ ap (λ p. xs ++ p) h) after.whole;
      told = after.told ∙ ap (after_part [] after.part (is_link_fault r)) before.told ∙ after_parts [] [] before.part after.part (is_link_fault r) old;
      error = after.error;
    }

-- a first part of these bytes is one of them and more
pub sends_stop : (T : Type 0) (xs ys : List ℕ) (old new : Option (List Session)) (e : SessionEnd) → Sends {T = Unit {0}} xs old new (Err e) → Sends {T = T} (xs ++ ys) old new (Err e)
sends_stop T xs ys old new e s = record {
  part = s.part;
  first = (let more = first_of_more s.first.0 xs ys in (more.0, s.first.1 ∙ more.1));
  whole = tt;
  told = s.told ∙ ap (λ b. after_part [] s.part b old) (fault_alike T e);
  error = s.error;
}
  where
    first_of_more : (n : ℕ) (xs ys : List ℕ) → (m : ℕ) × (take n xs ≡ take m (xs ++ ys))
    first_of_more n xs ys = elim (cases_lt n (length xs)) [
      | inl less ↦ (n, sym (take-append-le n xs ys (omega arith)))
      | inr all ↦ (length xs, take_all n xs all ∙ sym (take-append-le (length xs) xs ys (omega arith) ∙ take_all (length xs) xs (omega arith)))
    ]

    fault_alike : (A : Type 0) (e : SessionEnd) → is_link_fault {T = Unit {0}} (Err e) ≡ is_link_fault {T = A} (Err e)
    fault_alike A end.Done = refl
    fault_alike A end.EndOfInput = refl
    fault_alike A end.WrongInstance = refl
    fault_alike A (end.BadFrame at) = refl
    fault_alike A end.LinkFault = refl
    fault_alike A end.AppendFault = refl
    fault_alike A end.ByteLimit = refl
    fault_alike A end.Clash = refl
    fault_alike A end.OutOfMemory = refl
