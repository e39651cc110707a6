-- A node that starts again from its log.
use Rattle.std.specs.List.{All}
use Rattle.std.proofs.Common.{◌≡◌, ◌⊎◌, ℕ, Bool, true, false, cond, List, [], ◌∷◌, length, Option, Some, None, Result, Ok, Err, inl, inr, refl, sym, ap, subst, ◌∙◌}
use Rattle.std.proofs.lemmas.List.Elements.{All-nil, All-cons}
use Rattle.hw_types.specs.declared.config.Config.{Config}
use Rattle.hw_types.specs.declared.unit.Vertex.{Vertex}
use Rattle.hw_types.specs.Below.{Among}
use Rattle.hw_types.specs.Journal.{journal_of}
use Rattle.hw_types.specs.Real.{CoreState, setting_of}
use Rattle.hw_types.specs.Spelling.{VertexFits}
use Rattle.hw_io.specs.Files.{bytes_of}
use Rattle.hw_codec.specs.Ranges.{VertexInRange}
use Rattle.hw_core.proofs.EndLaws.{all_at}
use Rattle.hw_log.specs.declared.error.LogError.{LogError}
use Rattle.hw_log.specs.Lasts.{IsVersion}
use Rattle.hw_log.specs.Log.{Entries, log_of}
use Rattle.hw_log.specs.Spelled.{EntryFits}
use Rattle.hw_honest.specs.Restart.{restart, trusted, after_event, life_of}
use Rattle.hw_honest.proofs.ReplayLaws.{replay_gives_back}
use Rattle.hw_replay.specs.declared.fault.StartFault.{StartFault}
use Rattle.hw_replay.specs.declared.fault.StartFault.TheVariants as fault
use Rattle.hw_replay.specs.Taken.{◌>>=◌, Taken, nothing_taken, entries_taken, or_fault, rest_taken}
use Rattle.hw_replay.specs.Replay.{is_wanted, said_replayed, replay_of}
use Rattle.hw_replay.specs.Ends.{lasts_of_file, IsReached}
use Rattle.hw_log.specs.declared.rewritten.Rewritten.{Rewritten}
use Rattle.hw_log.specs.Rewritten.{whole_entries, with_bytes, mended_of}
use Rattle.hw_session.specs.Node.{NodeState, IsSound}
use Rattle.hw_session.specs.Restart.{true_entries, journal_log, journal_lasts, GivesBack, HasLog, logged_of}
use Rattle.hw_session.specs.Start.{taken_of, GoesOn}
use Rattle.hw_session.proofs.MakeLaws.{journal_is}
use Rattle.hw_session.proofs.RecallLaws.{Keeps, core_reached}
use Rattle.hw_session.proofs.RestartLaws.{log_gives_back}
use Rattle.hw_run_laws.specs.Calls.{MendsTo}

-- ---- a sound node

-- each entry of a sound node's journal keeps its limits
pub entries_fit : (vs : List Vertex) → ((v : Vertex) → Among v vs → VertexInRange v × VertexFits v) → All EntryFits (true_entries vs)
entries_fit [] fit = All-nil EntryFits
entries_fit (v ∷ vs) fit = All-cons EntryFits (record { at = 0; verdict = true; vertex = v }) (true_entries vs) (fit v (inl refl)) (entries_fit vs (λ w m. fit w (inr m)))

-- and so does each vertex
keep_all : (vs : List Vertex) → ((v : Vertex) → Among v vs → VertexInRange v × VertexFits v) → All Keeps vs
keep_all [] fit = All-nil Keeps
keep_all (v ∷ vs) fit = All-cons Keeps v vs (fit v (inl refl)) (keep_all vs (λ w m. fit w (inr m)))

-- a node as a log gives it back: nothing was asked of it
abbrev pub unasked : CoreState → CoreState
unasked c = record c { asked = None }

module _ (n : NodeState) (sound : IsSound n) where
  pub reached : n.core.journal ≡ journal_of (setting_of n.core.config) sound.kept.reached.deliveries
  reached = journal_is n.core sound.kept.reached

  pub each_fits : (v : Vertex) → Among v n.core.journal → VertexInRange v × VertexFits v
  each_fits v m = (all_at VertexInRange n.core.journal sound.vertices v m, sound.kept.reached.fit v m)

  -- deliveries reach one of which nothing was asked too
  pub reached_again : IsReached (unasked n.core)
  reached_again = core_reached (unasked n.core) (sound.kept.reached.deliveries, reached) (keep_all n.core.journal each_fits)

  pub fits : All EntryFits (true_entries n.core.journal)
  fits = entries_fit n.core.journal each_fits

  pub gives_back : (version : ℕ) → IsVersion version → GivesBack version n.core.config n.core.journal
  gives_back version known =
      let P : List Vertex → Type 0 = λ j. GivesBack version n.core.config j in
      subst P (sym reached) (log_gives_back version n.core.config sound.kept.reached.deliveries known sound.kept.lawful sound.config (subst (λ (j : List Vertex). All EntryFits (true_entries j)) reached fits))

  -- delivered again, the journal is the same
  back : journal_of (setting_of n.core.config) (trusted n.core.journal) ≡ n.core.journal
  back = ap (λ (j : List Vertex). journal_of (setting_of n.core.config) (trusted j)) reached ∙ replay_gives_back (setting_of n.core.config) sound.kept.reached.deliveries ∙ sym reached

-- ---- a start from its log

-- what a replay took, told twice
same_taken : (x : Result Taken StartFault) (t u : Taken) → x ≡ Ok t → x ≡ Ok u → t ≡ u
same_taken x t u is also = let both : Ok t ≡ Ok u = sym is ∙ also in cc

pub same_some : {A : Type 0} (x : Option A) (a b : A) → x ≡ Some a → x ≡ Some b → a ≡ b
same_some x a b is also = let both : Some a ≡ Some b = sym is ∙ also in cc

module _ (n m : NodeState) (sound : IsSound n) (name bytes : List ℕ) (on : GoesOn n.core.config n.keys name bytes m) (has : HasLog n (Some bytes)) where
  -- the file is the log of the journal
  bytes_are : bytes ≡ journal_log has.version n.core.config n.core.journal
  bytes_are = same_some (Some bytes) bytes (journal_log has.version n.core.config n.core.journal) refl has.holds

  given : GivesBack has.version n.core.config n.core.journal
  given = gives_back n sound has.version has.known

  same_core : m.core ≡ unasked n.core
  same_core = ap (λ (t : Taken). t.core)
      (same_taken (replay_of (Some n.core.config) bytes) (taken_of m) (record { core = unasked n.core; refused = 0; repeats = 0 }) on.taken
      (ap (λ (b : List ℕ). replay_of (Some n.core.config) b) bytes_are ∙ given.taken))

  same_lasts : m.lasts ≡ journal_lasts has.version n.core.config n.core.journal
  same_lasts = same_some (lasts_of_file (Some bytes)) m.lasts (journal_lasts has.version n.core.config n.core.journal) on.lasts (ap (λ (b : List ℕ). lasts_of_file (Some b)) bytes_are ∙ given.lasts)

  -- it is a start of a life,
  pub start_lives : (me : ℕ) → logged_of m ≡ life_of (setting_of n.core.config) me (logged_of n) (restart ∷ [])
  unfolding after_event
  start_lives me = ap (λ (c : CoreState). record { journal = c.journal; log = c.journal }) same_core ∙ ap (λ (j : List Vertex). record { journal = j; log = n.core.journal }) (sym (back n sound))

  -- and keeps the log
  pub start_keeps : (new : Option (List ℕ)) → new ≡ Some bytes → HasLog m new
  start_keeps new there = record {
    version = has.version;
    known = has.known;
    holds = there ∙ ap Some bytes_are ∙ ap (λ (c : CoreState). Some (journal_log has.version c.config c.journal)) (sym same_core);
    lasts = same_lasts ∙ ap (λ (c : CoreState). journal_lasts has.version c.config c.journal) (sym same_core);
  }

-- ---- a node started anew

-- the node that a start from the log of this one gives
abbrev pub renewed : (n : NodeState) (file : Option (List ℕ)) → HasLog n file → NodeState
renewed n file has = record {
  core = unasked n.core;
  keys = n.keys;
  log = n.log;
  lasts = journal_lasts has.version n.core.config n.core.journal;
  refused = 0;
  repeats = 0;
  limited = 0;
  clash = None;
}

pub renews : (n : NodeState) (file : Option (List ℕ)) (has : HasLog n file) → IsSound n → GoesOn n.core.config n.keys n.log (journal_log has.version n.core.config n.core.journal) (renewed n file has)
renews n file has sound =
    let back = gives_back n sound has.version has.known in
    record { taken = back.taken; lasts = back.lasts; config_is = refl; keys_are = refl; log_is = refl; limited = refl; clash = refl }

-- ---- a log from which a node starts

-- behind the entries there is no error
no_fault : (x : Result Taken StartFault) (o : Option LogError) (t : Taken) → (x >>= λ u. or_fault u o) ≡ Ok t → o ≡ None
no_fault (Ok u) None t is = refl
no_fault (Ok u) (Some e) t is = absurd cc
no_fault (Err f) o t is = absurd cc

-- so mended it is what it was
whole_stays : (bytes : List ℕ) (c : Config) (said : Entries) → said.fault ≡ None → (count : ℕ) × (with_bytes bytes (whole_entries (Ok (c, said))) ≡ Ok (record { count = count; bytes = bytes }))
whole_stays bytes c said none = (length said.given, ap (λ (o : Option LogError). with_bytes bytes (whole_entries (Ok (c, record { given = said.given; fault = o })))) none)

replays_mend : (config : Config) (bytes : List ℕ) (t : Taken) → replay_of (Some config) bytes ≡ Ok t → (count : ℕ) × (mended_of bytes ≡ Ok (record { count = count; bytes = bytes }))
unfolding replay_of mended_of
replays_mend config bytes t is = go (log_of bytes) is
  where
    taken : (c : Config) (said : Entries) (b : Bool) → cond b (rest_taken (nothing_taken c) said) (Err fault.OtherConfig) ≡ Ok t → said.fault ≡ None
    taken c said true is = no_fault (entries_taken (nothing_taken c) said.given) said.fault t is
    taken c said false is = absurd cc

    go : (x : Result (Config × Entries) LogError) → said_replayed (Some config) x ≡ Ok t → (count : ℕ) × (with_bytes bytes (whole_entries x) ≡ Ok (record { count = count; bytes = bytes }))
    go (Err e) is = absurd cc
    go (Ok (c, said)) is = whole_stays bytes c said (taken c said (is_wanted (Some config) c) is)

module _ (config : Config) (keys : List (List ℕ)) (name bytes : List ℕ) (m : NodeState) (on : GoesOn config keys name bytes m) (file : Option (List ℕ)) where
  abbrev IsFrom : Type 0
  IsFrom = (file ≡ Some bytes) ⊎ ((mended : Rewritten) × (mended_of (bytes_of file) ≡ Ok mended) × (bytes ≡ mended.bytes))

  -- it starts from the file mended, even where that was whole
  from_mended : IsFrom → (mended : Rewritten) × (mended_of (bytes_of file) ≡ Ok mended) × (bytes ≡ mended.bytes)
  from_mended (inl is) =
      let whole = replays_mend config bytes (taken_of m) on.taken in
      (record { count = whole.0; bytes = bytes }, ap (λ (f : Option (List ℕ)). mended_of (bytes_of f)) is ∙ whole.1, refl)
  from_mended (inr mended) = mended

  -- so it starts from the log of the node to which that mends
  pub from_log : (n : NodeState) → IsFrom → MendsTo n file → HasLog n (Some bytes)
  from_log n from mends =
      let x = from_mended from in
      let same : mends.mended ≡ x.0 = let both : Ok mends.mended ≡ Ok x.0 = sym mends.is ∙ x.1 in cc in
      subst (λ (b : List ℕ). HasLog n (Some b)) (ap (λ (r : Rewritten). r.bytes) same ∙ sym x.2) mends.log
