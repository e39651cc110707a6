-- The replay of a log that was written anew.
use Rattle.std.proofs.Common.{◌≡◌, ℕ, Bool, List, [], ◌∷◌, Option, Some, None, Result, Ok, Err, refl, sym, ap, subst, ◌∙◌}
use Rattle.std.specs.Prelude.{◌↔◌, map}
use Rattle.hw_types.specs.declared.unit.Vertex.{Vertex}
use Rattle.hw_types.specs.declared.config.Config.{Config}
use Rattle.hw_types.specs.declared.answers.Receipt.{Receipt}
use Rattle.hw_types.specs.declared.answers.Receipt.TheVariants as receipt
use Rattle.hw_types.specs.declared.answers.Cause.{Cause}
use Rattle.hw_types.specs.declared.answers.Cause.TheVariants as cause
use Rattle.hw_types.specs.Real.{answer_in}
use Rattle.hw_log.specs.declared.entry.LogEntry.{LogEntry}
use Rattle.hw_log.specs.Log.{log_of}
use Rattle.hw_log.specs.Spelled.{told_of}
use Rattle.hw_replay.specs.declared.fault.StartFault.{StartFault}
use Rattle.hw_replay.specs.Taken.{◌>>=◌, Taken, nothing_taken, with_vertex, stop_of, counted_or_stopped, taken_or_stopped, entry_taken, entries_taken}
use Rattle.hw_replay.specs.Replay.{said_replayed, replay_of}
use Rattle.hw_explain.specs.Explain.{explained_in}
use Rattle.hw_log.specs.Migrated.{SaysAnew, HoldsAnew}
use Rattle.hw_commands.specs.Commands.{Word}
use Rattle.hw_commands.specs.Program.{◌>>=◌ as ◌>>>◌, Held, Part, done, or_stopped, log_replayed, report_of}
use Rattle.hw_commands.specs.Laws.{ReadsTheSame}
use Rattle.hw_commands.proofs.FileLaws.{file_replayed}

-- ---- one entry

took : Taken → Result Taken StartFault
took t = Ok t

-- a refusal that doesn't stop the one doesn't stop the other
counted_same : (t u : Taken) (at again : ℕ) (v : Vertex) (c : Cause) → counted_or_stopped t (stop_of t.core at v c) ≡ took u → counted_or_stopped t (stop_of t.core again v c) ≡ took u
unfolding took
counted_same t u at again v cause.RecordsFull e = absurd cc
counted_same t u at again v cause.ParkFull e = absurd cc
counted_same t u at again v (cause.Clash d) e = absurd cc
counted_same t u at again v cause.BadSignature e = e
counted_same t u at again v (cause.Local rule) e = e
counted_same t u at again v (cause.Pair f) e = e
counted_same t u at again v cause.OutOfMemory e = e

answered_same : (t u : Taken) (x y : LogEntry) (given : Result Receipt Cause) → x.vertex ≡ y.vertex → taken_or_stopped t x given ≡ took u → taken_or_stopped t y given ≡ took u
unfolding took
answered_same t u x y (Err c) same e = subst (λ (v : Vertex). counted_or_stopped t (stop_of t.core y.at v c) ≡ took u) same (counted_same t u x.at y.at x.vertex c e)
answered_same t u x y (Ok receipt.Repeat) same e = e
answered_same t u x y (Ok (receipt.Admitted n)) same e = ap (λ (v : Vertex). took (with_vertex t v)) (sym same) ∙ e
answered_same t u x y (Ok (receipt.Parked n)) same e = ap (λ (v : Vertex). took (with_vertex t v)) (sym same) ∙ e
answered_same t u x y (Ok (receipt.Dropped r)) same e = ap (λ (v : Vertex). took (with_vertex t v)) (sym same) ∙ e

-- entries with one vertex and one verdict leave the same
entry_same : (t u : Taken) (x y : LogEntry) → told_of x ≡ told_of y → entry_taken t x ≡ took u → entry_taken t y ≡ took u
unfolding entry_taken
entry_same t u x y same e =
    let vertex : x.vertex ≡ y.vertex = ap (λ (p : Bool × Vertex). p.1) same in
    let verdict : x.verdict ≡ y.verdict = ap (λ (p : Bool × Vertex). p.0) same in
    let answer : answer_in t.core x.vertex x.verdict ≡ answer_in t.core y.vertex y.verdict = ap (λ (v : Vertex). answer_in t.core v x.verdict) vertex ∙ ap (λ (b : Bool). answer_in t.core y.vertex b) verdict in
    subst (λ (a : Result Receipt Cause). taken_or_stopped t y a ≡ took u) answer (answered_same t u x y (answer_in t.core x.vertex x.verdict) vertex e)

-- ---- entry by entry

told_head : (x y : LogEntry) (xs ys : List LogEntry) → map told_of (x ∷ xs) ≡ map told_of (y ∷ ys) → told_of x ≡ told_of y
told_head x y xs ys e = cc

told_rest : (x y : LogEntry) (xs ys : List LogEntry) → map told_of (x ∷ xs) ≡ map told_of (y ∷ ys) → map told_of xs ≡ map told_of ys
told_rest x y xs ys e = cc

-- an entry more before such entries
behind : (t u : Taken) (x y : LogEntry) (xs ys : List LogEntry) → told_of x ≡ told_of y → ((v : Taken) → entries_taken v xs ≡ took u → entries_taken v ys ≡ took u)
    → (entry_taken t x >>= λ v. entries_taken v xs) ≡ took u → (entry_taken t y >>= λ v. entries_taken v ys) ≡ took u
unfolding took
behind t u x y xs ys same rest e = go (entry_taken t x) refl e
  where
    go : (first : Result Taken StartFault) → entry_taken t x ≡ first → (first >>= λ v. entries_taken v xs) ≡ took u → (entry_taken t y >>= λ v. entries_taken v ys) ≡ took u
    go (Err f) is r = absurd cc
    go (Ok v) is r = ap (λ (w : Result Taken StartFault). w >>= λ z. entries_taken z ys) (entry_same t v x y same is) ∙ rest v r

entries_same : (t u : Taken) (xs ys : List LogEntry) → map told_of xs ≡ map told_of ys → entries_taken t xs ≡ took u → entries_taken t ys ≡ took u
unfolding entries_taken
entries_same t u [] [] same e = e
entries_same t u [] (y ∷ ys) same e = absurd cc
entries_same t u (x ∷ xs) [] same e = absurd cc
entries_same t u (x ∷ xs) (y ∷ ys) same e = behind t u x y xs ys (told_head x y xs ys same) (λ v rest. entries_same v u xs ys (told_rest x y xs ys same) rest) e

-- ---- the whole log

-- what a log without an error leaves
entries_left : (config : Config) (given : List LogEntry) (bytes : List ℕ) → log_of bytes ≡ Ok (config, record { given = given; fault = None })
    → replay_of None bytes ≡ (entries_taken (nothing_taken config) given >>= λ u. took u)
unfolding replay_of took
entries_left config given bytes says = ap (said_replayed None) says

then_took : (r : Result Taken StartFault) → (r >>= λ u. took u) ≡ r
unfolding took
then_took (Ok u) = refl
then_took (Err f) = refl

replay_same : (bytes new : List ℕ) (t : Taken) → SaysAnew bytes new → (replay_of None bytes ≡ took t) ↔ (replay_of None new ≡ took t)
replay_same bytes new t s =
    let old_is : replay_of None bytes ≡ entries_taken (nothing_taken s.config) s.given = entries_left s.config s.given bytes s.says ∙ then_took _ in
    let new_is : replay_of None new ≡ entries_taken (nothing_taken s.config) s.same.given = entries_left s.config s.same.given new s.same.says ∙ then_took _ in (
      λ e. new_is ∙ entries_same (nothing_taken s.config) t s.given s.same.given (sym s.same.same) (sym old_is ∙ e),
      λ e. old_is ∙ entries_same (nothing_taken s.config) t s.same.given s.given s.same.same (sym new_is ∙ e),
    )

-- ---- the log of a name

part : Taken → Part Taken
part t = Ok t

took_log : (name : Word) (r : Result Taken StartFault) (t : Taken) → or_stopped name r ≡ part t → r ≡ took t
unfolding took part
took_log name (Ok u) t e = cc
took_log name (Err f) t e = absurd cc

log_took : (name : Word) (r : Result Taken StartFault) (t : Taken) → r ≡ took t → or_stopped name r ≡ part t
unfolding took part
log_took name r t e = ap (or_stopped name) e

-- the bytes of a log that is there
of_bytes : (held : Held) (name : Word) (bytes : List ℕ) → held name ≡ Some bytes → log_replayed held None name ≡ or_stopped name (replay_of None bytes)
of_bytes held name bytes is = ap (file_replayed None name) is

log_same : (before now : Held) (log new : Word) → HoldsAnew (before log) (now new) → (t : Taken) → (log_replayed before None log ≡ part t) ↔ (log_replayed now None new ≡ part t)
log_same before now log new holds t = go (before log) (now new) refl refl holds
  where
    go : (old again : Option (List ℕ)) → before log ≡ old → now new ≡ again → HoldsAnew old again → (log_replayed before None log ≡ part t) ↔ (log_replayed now None new ≡ part t)
    go (Some bytes) (Some copy) old_is new_is says =
        let same = replay_same bytes copy t says in (
          λ e. of_bytes now new copy new_is ∙ log_took new (replay_of None copy) t (same.0 (took_log log (replay_of None bytes) t (sym (of_bytes before log bytes old_is) ∙ e))),
          λ e. of_bytes before log bytes old_is ∙ log_took log (replay_of None bytes) t (same.1 (took_log new (replay_of None copy) t (sym (of_bytes now new copy new_is) ∙ e))),
        )
    go (Some bytes) None old_is new_is bad = absurd bad
    go None again old_is new_is bad = absurd bad

-- ---- what is told of it

told_same : (text_of : Taken → List ℕ) (r s : Part Taken) (text : List ℕ) → ((t : Taken) → r ≡ part t → s ≡ part t) → (r >>> λ t. done (text_of t)) ≡ done text → (s >>> λ t. done (text_of t)) ≡ done text
unfolding part
told_same text_of (Ok t) s text same e = ap (λ (p : Part Taken). p >>> λ t. done (text_of t)) (same t refl) ∙ e
told_same text_of (Err x) s text same e = absurd cc

pub reads_the_same : ReadsTheSame
reads_the_same before now log new text holds =
    let same = log_same before now log new holds in
    let there = log_replayed before None log in
    let anew = log_replayed now None new in (
      (told_same report_of there anew text (λ t. (same t).0), told_same report_of anew there text (λ t. (same t).1)),
      (told_same (λ t. explained_in t.core) there anew text (λ t. (same t).0), told_same (λ t. explained_in t.core) anew there text (λ t. (same t).1)),
    )
