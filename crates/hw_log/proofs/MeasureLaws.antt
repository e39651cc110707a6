-- Whole entries, counted one after the other.
use Rattle.std.proofs.Common.{◌≡◌, ℕ, ◌+◌, Bool, true, false, List, [], ◌∷◌, ◌++◌, Option, Some, None, Result, Ok, Err, sym, ap, subst, ◌∙◌, inl, inr, arith}
use Rattle.std.proofs.lemmas.Grind.{common_steps}
use Rattle.hw_log.specs.declared.error.LogError.{LogError}
use Rattle.hw_log.specs.declared.error.LogError.TheVariants.{BadMagic, Version, Torn, TooLong, BadConfig, ConfigFault, BadEvent, BadVerdict, BadVertex, ReadFault, WriteFault, OutOfMemory}
use Rattle.hw_log.specs.Log.{Left, next_at, log_of}
use Rattle.hw_log.specs.Causes.{Fails, Gives, IsOutside}
use Rattle.hw_log.specs.Reader.{Reading, left_of}
use Rattle.hw_log.proofs.RunLaws.{stands_next, stands_last, stands_at_fault}
use Rattle.hw_log.specs.declared.rewritten.WholeEntries.{WholeEntries}
use Rattle.hw_log.specs.Rewritten.{without_tear, whole_entries}
use Rattle.hw_log.specs.Measured.{StandsBehindSome, Skips}

-- ---- one entry more

pub one_more : (bytes : List ℕ) (count : ℕ) (old new : Reading) (unread still : List ℕ) (more : Bool) → StandsBehindSome bytes count old unread → more ≡ true → Skips (left_of old unread) (left_of new still) (Ok more) → new.config ≡ old.config → StandsBehindSome bytes (count + 1) new still
one_more bytes count old new unread still more s there skips config =
    let P : Bool → Type 0 = λ m. Skips (left_of old unread) (left_of new still) (Ok m) in
    let e = subst P there skips in
    record {
      given = s.given ++ e.0 ∷ [];
      count_is = grind (arith, common_steps, s.count_is);
      stands = stands_next bytes s.given old new unread still e.0 s.stands e.1 config;
    }

-- ---- the end

-- what the log says, where this ends it
said_then : (bytes : List ℕ) (count : ℕ) (reader : Reading) (unread : List ℕ) (s : StandsBehindSome bytes count reader unread) (fault : Option LogError) → log_of bytes ≡ Ok (reader.config, record { given = s.given; fault = fault }) → whole_entries (log_of bytes) ≡ without_tear count fault
said_then bytes count reader unread s fault says = ap whole_entries says ∙ ap (λ n. without_tear n fault) (sym s.count_is)

pub none_more : (bytes : List ℕ) (count : ℕ) (reader : Reading) (unread : List ℕ) (behind : Left) (more : Bool) → StandsBehindSome bytes count reader unread → more ≡ false → Skips (left_of reader unread) behind (Ok more) → whole_entries (log_of bytes) ≡ Ok (record { count = count; torn_at = None })
none_more bytes count reader unread behind more s gone skips =
    let P : Bool → Type 0 = λ m. Skips (left_of reader unread) behind (Ok m) in
    said_then bytes count reader unread s None (stands_last bytes s.given reader unread behind s.stands (subst P gone skips))

-- or is at an error
at_error : (bytes : List ℕ) (count : ℕ) (reader : Reading) (unread : List ℕ) (e : LogError) → StandsBehindSome bytes count reader unread → next_at (left_of reader unread) ≡ Err e → whole_entries (log_of bytes) ≡ without_tear count (Some e)
at_error bytes count reader unread e s said = said_then bytes count reader unread s (Some e) (stands_at_fault bytes s.given reader unread e s.stands said)

-- the answer at an error is what the whole log says, unless the error is one of the outside
fails_as : (count : ℕ) (e : LogError) (x : Result WholeEntries LogError) → x ≡ without_tear count (Some e) → Gives (λ (w : WholeEntries). w) (without_tear count (Some e)) x
fails_as count BadMagic x s = inr s
fails_as count (Version v) x s = inr s
fails_as count (Torn at) x s = s
fails_as count (TooLong at) x s = inr s
fails_as count (BadConfig c) x s = inr s
fails_as count (ConfigFault c) x s = inr s
fails_as count (BadEvent at) x s = inr s
fails_as count (BadVerdict at) x s = inr s
fails_as count (BadVertex at c) x s = inr s
fails_as count ReadFault x s = inr s
fails_as count WriteFault x s = inr s
fails_as count OutOfMemory x s = inr s

outside_as : (count : ℕ) (e : LogError) (x : Result WholeEntries LogError) → IsOutside e → Gives (λ (w : WholeEntries). w) (without_tear count (Some e)) x
outside_as count ReadFault x o = inl tt
outside_as count OutOfMemory x o = inl tt
outside_as count BadMagic x o = absurd o
outside_as count (Version v) x o = absurd o
outside_as count (Torn at) x o = absurd o
outside_as count (TooLong at) x o = absurd o
outside_as count (BadConfig c) x o = absurd o
outside_as count (ConfigFault c) x o = absurd o
outside_as count (BadEvent at) x o = absurd o
outside_as count (BadVerdict at) x o = absurd o
outside_as count (BadVertex at c) x o = absurd o
outside_as count WriteFault x o = absurd o

pub error_more : (bytes : List ℕ) (count : ℕ) (reader : Reading) (unread : List ℕ) (e : LogError) (result : Result WholeEntries LogError) → StandsBehindSome bytes count reader unread → Fails e (next_at (left_of reader unread)) → result ≡ without_tear count (Some e) → Gives (λ (w : WholeEntries). w) result (whole_entries (log_of bytes))
error_more bytes count reader unread e result s f is =
    let P : Result WholeEntries LogError → Type 0 = λ r. Gives (λ (w : WholeEntries). w) r (whole_entries (log_of bytes)) in
    subst P (sym is) (elim f [
      | inl outside ↦ outside_as count e (whole_entries (log_of bytes)) outside
      | inr said ↦ fails_as count e (whole_entries (log_of bytes)) (at_error bytes count reader unread e s said)
    ])
