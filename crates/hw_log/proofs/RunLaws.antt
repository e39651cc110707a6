-- A reader goes through a log: for loops over `next`.
use Rattle.std.proofs.Common.{◌≡◌, ℕ, List, [], ◌∷◌, ◌++◌, Option, Some, None, Result, Ok, Err, refl, sym, ap, ◌∙◌, append_assoc}
use Rattle.std.proofs.lemmas.List.{append-nil}
use Rattle.hw_types.specs.declared.config.Config.{Config}
use Rattle.hw_log.specs.declared.entry.LogEntry.{LogEntry}
use Rattle.hw_log.specs.declared.error.LogError.{LogError}
use Rattle.hw_log.specs.Log.{◌>>=◌, Left, header_of, next_at, Entries, with_next, entries_of, log_of}
use Rattle.hw_log.specs.Reader.{Reading, left_of, behind_given, StandsBehind, Opens}
use Rattle.hw_log.specs.Whole.{SaysWhole}
use Rattle.hw_log.proofs.EntryLaws.{entries_next}

abbrev pub with_entries : Config × Left → Result (Config × Entries) LogError
with_entries header = Ok (header.0, entries_of header.1)

-- after the header no entry was given
pub stands_first : (bytes : List ℕ) (reader : Reading) (unread : List ℕ) → header_of bytes ≡ Ok (reader.config, left_of reader unread) → StandsBehind bytes [] reader unread
stands_first bytes reader unread header = record { says = ap (λ (x : Result (Config × Left) LogError). x >>= with_entries) header }

-- what the log says, where what is left says x
says_next : (bytes : List ℕ) (given : List LogEntry) (reader : Reading) (unread : List ℕ) (x : Result (Option LogEntry × Left) LogError)
    → StandsBehind bytes given reader unread → next_at (left_of reader unread) ≡ x → log_of bytes ≡ Ok (reader.config, behind_given given (with_next x entries_of))
says_next bytes given reader unread x stands is =
    let others : entries_of (left_of reader unread) ≡ with_next x entries_of =
    entries_next (left_of reader unread) ∙ ap (λ (y : Result (Option LogEntry × Left) LogError). with_next y entries_of) is in
    stands.says ∙ ap (λ (o : Entries). Ok (reader.config, behind_given given o)) others

-- after an entry was given the reader stands behind it
pub stands_next : (bytes : List ℕ) (given : List LogEntry) (old new : Reading) (unread still : List ℕ) (e : LogEntry)
    → StandsBehind bytes given old unread → next_at (left_of old unread) ≡ Ok (Some e, left_of new still) → new.config ≡ old.config
    → StandsBehind bytes (given ++ e ∷ []) new still
stands_next bytes given old new unread still e stands said config =
    let says = says_next bytes given old unread (Ok (Some e, left_of new still)) stands said in
    let others = entries_of (left_of new still) in
    let list : given ++ e ∷ others.given ≡ (given ++ e ∷ []) ++ others.given = sym (append_assoc given (e ∷ []) others.given) in
    record {
      says = says
          ∙ ap (λ (c : Config). Ok (c, behind_given given (with_next (Ok (Some e, left_of new still)) entries_of))) (sym config)
          ∙ ap (λ (l : List LogEntry). Ok (new.config, record { given = l; fault = others.fault })) list;
    }

-- where none came, the log says the entries that were given, and no error
pub stands_last : (bytes : List ℕ) (given : List LogEntry) (reader : Reading) (unread : List ℕ) (rest : Left)
    → StandsBehind bytes given reader unread → next_at (left_of reader unread) ≡ Ok (None, rest)
    → log_of bytes ≡ Ok (reader.config, record { given = given; fault = None })
stands_last bytes given reader unread rest stands said =
    says_next bytes given reader unread (Ok (None, rest)) stands said
    ∙ ap (λ (l : List LogEntry). Ok (reader.config, record { given = l; fault = None })) (append-nil given)

-- where an error came, the log says the entries that were given, and then that error
pub stands_at_fault : (bytes : List ℕ) (given : List LogEntry) (reader : Reading) (unread : List ℕ) (e : LogError)
    → StandsBehind bytes given reader unread → next_at (left_of reader unread) ≡ Err e
    → log_of bytes ≡ Ok (reader.config, record { given = given; fault = Some e })
stands_at_fault bytes given reader unread e stands said =
    says_next bytes given reader unread (Err e) stands said
    ∙ ap (λ (l : List LogEntry). Ok (reader.config, record { given = l; fault = Some e })) (append-nil given)

-- a log that was read to its end says the entries that were given
pub says_whole : (file : Option (List ℕ)) (reader : Reading) (unread : List ℕ) (config : Config) (entries : List LogEntry) → Opens file unread (Ok reader)
    → ((bytes : List ℕ) → StandsBehind bytes [] reader unread → log_of bytes ≡ Ok (config, record { given = entries; fault = None }))
    → SaysWhole file (record { config = config; entries = entries })
says_whole None reader unread config entries opens said = absurd opens
says_whole (Some bytes) reader unread config entries opens said = record { bytes = bytes; there = refl; says = said bytes (stands_first bytes reader unread opens) }
