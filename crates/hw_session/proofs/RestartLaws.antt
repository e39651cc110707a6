-- The log of a node gives its journal back.
use Rattle.std.proofs.Common.{◌≡◌, ℕ, Bool, true, false, cond, List, [], ◌∷◌, ◌++◌, length, map, Option, Some, None, Result, Ok, Err, inr, refl, sym, ap, subst, ◌∙◌}
use Rattle.std.specs.Prelude.{fold}
use Rattle.std.proofs.lemmas.List.{append_assoc, append-nil}
use Rattle.std.proofs.lemmas.List.Elements.{recursion_from_All}
use lib.Pointwise.{bytes_decides}
use Rattle.hw_types.specs.declared.unit.Vertex.{Vertex}
use Rattle.hw_types.specs.declared.config.Config.{Config}
use Rattle.hw_types.specs.declared.answers.Receipt.{Receipt}
use Rattle.hw_types.specs.declared.answers.Receipt.TheVariants as receipt
use Rattle.hw_types.specs.declared.answers.Cause.{Cause}
use Rattle.hw_types.specs.Spelling.{config_bytes}
use Rattle.hw_types.specs.Real.{CoreState, setting_of, answer_in}
use Rattle.hw_types.specs.Journal.{Setting, answer, is_accepted, journal_after, journal_of}
use Rattle.hw_types.proofs.OrderLaws.{verdict_is}
use Rattle.hw_log.specs.declared.entry.LogEntry.{LogEntry}
use Rattle.hw_log.specs.Lasts.{LastUnits, lasts_after, no_lasts}
use Rattle.hw_log.specs.Log.{header_bytes, entry_bytes, entries_bytes, lasts_behind}
use Rattle.hw_log.specs.Spelled.{told_of, EntryFits}
use Rattle.hw_log.proofs.SpelledLaws.{spelled_said}
use Rattle.hw_replay.specs.declared.fault.StartFault.{StartFault}
use Rattle.hw_replay.specs.declared.fault.StartFault.TheVariants as fault
use Rattle.hw_replay.specs.Taken.{◌>>=◌, Taken, nothing_taken, taken_or_stopped, entry_taken, entries_taken, or_fault, rest_taken}
use Rattle.hw_replay.specs.Replay.{is_wanted, said_replayed, replay_of}
use Rattle.hw_replay.specs.Ends.{lasts_said}
use Rattle.hw_io.specs.Files.{bytes_of}
use Rattle.hw_session.specs.Node.{NodeState}
use Rattle.hw_session.specs.Make.{own_vertex, entry_for, with_entry}
use Rattle.hw_session.specs.Restart.{true_entries, journal_log, journal_lasts, LogGivesBack, HasLog, MakeKeepsLog, NewNodeHasLog}
use Rattle.hw_session.proofs.StartLaws.{config_fits}

-- ---- journals of deliveries

-- each vertex is accepted behind these and the ones before it
abbrev AcceptedBehind : Setting → List Vertex → List Vertex → Type 0
AcceptedBehind s before [] = Unit {0}
AcceptedBehind s before (v ∷ vs) = (is_accepted (answer s before v true) ≡ true) × AcceptedBehind s (before ++ v ∷ []) vs

-- one more at the end
one_behind : (s : Setting) (before vs : List Vertex) (v : Vertex) → AcceptedBehind s before vs → is_accepted (answer s (before ++ vs) v true) ≡ true → AcceptedBehind s before (vs ++ v ∷ [])
one_behind s before [] v a h = (subst (λ (j : List Vertex). is_accepted (answer s j v true) ≡ true) (append-nil before) h, tt)
one_behind s before (x ∷ vs) v a h =
    (a.0, one_behind s (before ++ x ∷ []) vs v a.1 (subst (λ (j : List Vertex). is_accepted (answer s j v true) ≡ true) (sym (append_assoc before (x ∷ []) vs)) h))

still_accepted : (s : Setting) (journal : List Vertex) (v : Vertex) (b : Bool) → AcceptedBehind s [] journal → AcceptedBehind s [] (journal_after s journal (v, b))
still_accepted s journal v b a = go (is_accepted (answer s journal v b)) refl
  where
    go : (c : Bool) → is_accepted (answer s journal v b) ≡ c → AcceptedBehind s [] (cond c (journal ++ v ∷ []) journal)
    go true is = one_behind s [] journal v a (subst (λ (d : Bool). is_accepted (answer s journal v d) ≡ true) (verdict_is s journal v b is) is)
    go false is = a

all_accepted : (s : Setting) (journal : List Vertex) (ds : List (Vertex × Bool)) → AcceptedBehind s [] journal → AcceptedBehind s [] (fold (journal_after s) journal ds)
all_accepted s journal [] a = a
all_accepted s journal (d ∷ ds) a = all_accepted s (journal_after s journal d) ds (still_accepted s journal d.0 d.1 a)

-- ---- their entries

-- the node with more vertices behind its journal
abbrev longer : Taken → List Vertex → Taken
longer t vs = record t { core = record t.core { journal = t.core.journal ++ vs } }

-- an accepted entry goes last
taken_last : (t : Taken) (e : LogEntry) (a : Result Receipt Cause) → is_accepted a ≡ true → taken_or_stopped t e a ≡ Ok (longer t (e.vertex ∷ []))
taken_last t e (Ok (receipt.Admitted n)) h = refl
taken_last t e (Ok (receipt.Parked n)) h = refl
taken_last t e (Ok (receipt.Dropped r)) h = refl
taken_last t e (Ok receipt.Repeat) h = absurd (let no : false ≡ true = h in cc)
taken_last t e (Err c) h = absurd (let no : false ≡ true = h in cc)

heads : {A : Type 0} (x y : A) (xs ys : List A) → x ∷ xs ≡ y ∷ ys → (x ≡ y) × (xs ≡ ys)
heads x y xs ys e = (cc, cc)

given_from : (t : Taken) (es : List LogEntry) (vs : List Vertex) → map told_of es ≡ map told_of (true_entries vs) → AcceptedBehind (setting_of t.core.config) t.core.journal vs
    → entries_taken t es ≡ Ok (longer t vs)
unfolding entries_taken entry_taken
given_from t [] [] same a = ap (λ (j : List Vertex). let k : CoreState = record { config = t.core.config; journal = j; asked = t.core.asked } in Ok (record t { core = k })) (sym (append-nil t.core.journal))
given_from t [] (v ∷ vs) same a = absurd cc
given_from t (e ∷ es) [] same a = absurd cc
given_from t (e ∷ es) (v ∷ vs) same a =
    let both = heads (told_of e) (true, v) (map told_of es) (map told_of (true_entries vs)) same in
    let verdict : e.verdict ≡ true = ap (λ (x : Bool × Vertex). x.0) both.0 in
    let vertex : e.vertex ≡ v = ap (λ (x : Bool × Vertex). x.1) both.0 in
    let accepted : is_accepted (answer_in t.core e.vertex e.verdict) ≡ true = rw (verdict, vertex) a.0 in
    ap (λ (x : Result Taken StartFault). x >>= λ u. entries_taken u es) (taken_last t e (answer_in t.core e.vertex e.verdict) accepted)
    ∙ ap (λ (w : Vertex). entries_taken (longer t (w ∷ [])) es) vertex
    ∙ given_from (longer t (v ∷ [])) es vs both.1 a.1
    ∙ ap (λ (j : List Vertex). let k : CoreState = record { config = t.core.config; journal = j; asked = t.core.asked } in Ok (record t { core = k })) (append_assoc t.core.journal (v ∷ []) vs)

-- and the last units behind them
same_lasts : (lasts : LastUnits) (es : List LogEntry) (vs : List Vertex) → map told_of es ≡ map told_of (true_entries vs) → lasts_behind lasts es ≡ lasts_behind lasts (true_entries vs)
same_lasts lasts [] [] same = refl
same_lasts lasts [] (v ∷ vs) same = absurd cc
same_lasts lasts (e ∷ es) [] same = absurd cc
same_lasts lasts (e ∷ es) (v ∷ vs) same =
    let both = heads (told_of e) (true, v) (map told_of es) (map told_of (true_entries vs)) same in
    ap (λ (x : Bool × Vertex). lasts_behind (lasts_after lasts x.1) es) both.0 ∙ same_lasts (lasts_after lasts v) es vs both.1

-- ---- the whole log

pub log_gives_back : LogGivesBack
unfolding replay_of
log_gives_back version config deliveries known lawful in_range fit =
    let journal = journal_of (setting_of config) deliveries in
    let said = spelled_said version config (true_entries journal) known in_range (config_fits config lawful) lawful (recursion_from_All EntryFits (true_entries journal) fit) in
    let wanted : is_wanted (Some config) config ≡ true = (bytes_decides (config_bytes config) (config_bytes config)).1 refl in
    let accepted = all_accepted (setting_of config) [] deliveries tt in
    record {
      taken =
          ap (said_replayed (Some config)) said.says
          ∙ ap (λ (b : Bool). cond b (rest_taken (nothing_taken config) (record { given = said.given; fault = None })) (Err fault.OtherConfig)) wanted
          ∙ ap (λ (x : Result Taken StartFault). x >>= λ u. or_fault u None) (given_from (nothing_taken config) said.given journal said.same accepted);
      lasts =
          ap (lasts_said (journal_log version config journal)) said.says
          ∙ ap Some (same_lasts (no_lasts version (length config.weights)) said.given journal said.same);
    }

-- ---- one entry more

entries_more : (lasts : LastUnits) (vs : List Vertex) (v : Vertex) → entries_bytes lasts (true_entries (vs ++ v ∷ [])) ≡ entries_bytes lasts (true_entries vs) ++ entry_bytes (lasts_behind lasts (true_entries vs)) true v
entries_more lasts [] v = append-nil (entry_bytes lasts true v)
entries_more lasts (x ∷ xs) v =
    ap (λ (bytes : List ℕ). entry_bytes lasts true x ++ bytes) (entries_more (lasts_after lasts x) xs v)
    ∙ sym (append_assoc (entry_bytes lasts true x) (entries_bytes (lasts_after lasts x) (true_entries xs)) (entry_bytes (lasts_behind (lasts_after lasts x) (true_entries xs)) true v))

lasts_more : (lasts : LastUnits) (vs : List Vertex) (v : Vertex) → lasts_behind lasts (true_entries (vs ++ v ∷ [])) ≡ lasts_after (lasts_behind lasts (true_entries vs)) v
lasts_more lasts [] v = refl
lasts_more lasts (x ∷ xs) v = lasts_more (lasts_after lasts x) xs v

-- the log of a journal with one vertex more is the log and the entry of that vertex
log_more : (version : ℕ) (config : Config) (journal : List Vertex) (v : Vertex) → journal_log version config (journal ++ v ∷ []) ≡ journal_log version config journal ++ entry_bytes (journal_lasts version config journal) true v
log_more version config journal v =
    let none = no_lasts version (length config.weights) in
    ap (λ (bytes : List ℕ). header_bytes version config ++ bytes) (entries_more none journal v)
    ∙ sym (append_assoc (header_bytes version config) (entries_bytes none (true_entries journal)) (entry_bytes (journal_lasts version config journal) true v))

-- an entry that is appended keeps the log of the journal
pub entry_keeps : (n : NodeState) (v : Vertex) (old new : Option (List ℕ)) → new ≡ Some (bytes_of old ++ entry_for n v) → HasLog n old → HasLog (with_entry n v) new
entry_keeps n v old new wrote has = record {
  version = has.version;
  known = has.known;
  holds =
      wrote
      ∙ ap (λ (o : Option (List ℕ)). Some (bytes_of o ++ entry_for n v)) has.holds
      ∙ ap (λ (lasts : LastUnits). Some (journal_log has.version n.core.config n.core.journal ++ entry_bytes lasts true v)) has.lasts
      ∙ ap Some (sym (log_more has.version n.core.config n.core.journal v));
  lasts = ap (λ (lasts : LastUnits). lasts_after lasts v) has.lasts ∙ sym (lasts_more (no_lasts has.version (length n.core.config.weights)) n.core.journal v);
}

pub make_keeps_log : MakeKeepsLog
make_keeps_log n m planned (Some p) old new makes writes has =
    subst (λ (k : NodeState). HasLog k (new k.log)) (sym makes.1) (entry_keeps n (own_vertex n p) (old n.log) (new n.log) writes.whole has)
make_keeps_log n m planned None old new makes same has =
    subst (λ (k : NodeState). HasLog k (new k.log)) (sym makes.1) (subst (λ (o : Option (List ℕ)). HasLog n o) (sym (same n.log)) has)

pub new_node_has_log : NewNodeHasLog
new_node_has_log config keys name = record {
  version = 2;
  known = inr refl;
  holds = ap Some (sym (append-nil (header_bytes 2 config)));
  lasts = refl;
}
