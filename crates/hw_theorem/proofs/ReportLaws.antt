-- What a run says of logs.
use Rattle.std.proofs.Common.{◌≡◌, ℕ, inl, inr, Bool, true, false, cond, List, [], ◌∷◌, Option, Some, None, Result, Ok, Err, refl, sym, ap, subst, ◌∙◌}
use Rattle.std.specs.Prelude.{◌||◌, ◌==◌, ◌&&◌, ◌<◌, sum_by, slice_index, codes}
use Rattle.std.specs.List.{list_all}
use lib.Pointwise.{bytes_decides}
use Rattle.hw_types.specs.declared.config.Config.{Config}
use Rattle.hw_types.specs.declared.unit.Vertex.{Vertex}
use Rattle.hw_types.specs.Spelling.{config_bytes}
use Rattle.hw_types.specs.Journal.{Setting}
use Rattle.hw_types.specs.Real.{setting_of}
use Rattle.hw_types.specs.Decisions.{AreDecisions}
use Rattle.hw_safety.specs.Decided.{decisions_of}
use Rattle.hw_safety.specs.declared.verdict.Verdict.{Verdict}
use Rattle.hw_safety.specs.declared.verdict.Verdict.TheVariants as verdict
use Rattle.hw_safety.specs.Verdicts.{journals_clash, culprit_weight, IsVerdict}
use Rattle.hw_safety.proofs.ApartLaws.{difference}
use Rattle.hw_safety.proofs.ClashLaws.{clash_is_a_test}
use Rattle.hw_safety.proofs.DecidedLaws.{decisions_are}
use Rattle.hw_safety.proofs.HeightLaws.{one_block_each}
use Rattle.hw_safety.proofs.PairLaws.{delivered_pairs}
use Rattle.hw_safety.proofs.VerdictWeightLaws.{weigh}
use Rattle.hw_log.specs.declared.entry.LogEntry.{LogEntry}
use Rattle.hw_log.specs.declared.error.LogError.TheVariants as log
use Rattle.hw_explain.specs.Explain.{explained_in}
use Rattle.hw_explain.proofs.AllowedLaws.{explained_is_of_greatest, decided_have_greatest}
use Rattle.hw_replay.specs.declared.fault.StartFault.{StartFault}
use Rattle.hw_replay.specs.declared.fault.StartFault.TheVariants as start
use Rattle.hw_replay.specs.Taken.{Taken}
use Rattle.hw_replay.specs.Replay.{is_wanted, replay_of}
use Rattle.hw_replay.specs.Laws.{deliveries_of}
use Rattle.hw_commands.specs.declared.ended.Ended.{Ended}
use Rattle.hw_commands.specs.Commands.{Word, Request, Replay, Explain, Audit, is_word, of_few, of_two, of_words, request_of}
use Rattle.hw_commands.specs.Run.{IsDone}
use Rattle.hw_commands.specs.Texts.{read_fault_ended, input_ended, limit_ended, clash_ended, stopped_ended}
use Rattle.hw_commands.specs.Audited.{verdict_ended, audit_ended}
use Rattle.hw_commands.specs.Program.{◌>>=◌, Held, Part, ended, done, or_stopped, log_replayed, report_of, audited_against, audit_said, request_said, run_of}
use Rattle.hw_commands.proofs.AuditedLaws.{verdict_is_there, audit_is_the_verdict}
use Rattle.hw_theorem.specs.Counts.{tally_of}
use Rattle.hw_theorem.specs.Logs.{accepted_of, Gives, AreComparable}
use Rattle.hw_theorem.specs.Reports.{HoldBytes, HasFile, Decides, TellsAudit, asks_replay, asks_explain, asks_audit, IsWholeLog, replay, explain, audit, ReplayIsSaid, ExplainIsSaid, AuditIsSaid, LogsAreReported}
use Rattle.hw_theorem.proofs.EquivocatorLaws.{culprits_are}
use Rattle.hw_theorem.proofs.LogLaws.{IsGiven, is_given, replayed, same_as_wanted}

-- ---- status 0 and status 3

abbrev is_done : ℕ → Bool
is_done n = (n == 0) || (n == 3)

pub done_is : (n : ℕ) → IsDone n → is_done n ≡ true
done_is n (inl none) = ap is_done none
done_is n (inr three) = ap is_done three

-- what stops a replay ends with another status
stopped_not : (name : Word) (f : StartFault) → is_done (stopped_ended name f).status ≡ true → ⊥
unfolding input_ended limit_ended clash_ended
stopped_not name (start.Log log.BadMagic) h = absurd cc
stopped_not name (start.Log (log.Version v)) h = absurd cc
stopped_not name (start.Log (log.Torn at)) h = absurd cc
stopped_not name (start.Log (log.TooLong at)) h = absurd cc
stopped_not name (start.Log (log.BadConfig e)) h = absurd cc
stopped_not name (start.Log (log.ConfigFault f)) h = absurd cc
stopped_not name (start.Log (log.BadEvent at)) h = absurd cc
stopped_not name (start.Log (log.BadVerdict at)) h = absurd cc
stopped_not name (start.Log (log.BadVertex at e)) h = absurd cc
stopped_not name (start.Log log.ReadFault) h = absurd cc
stopped_not name (start.Log log.WriteFault) h = absurd cc
stopped_not name (start.Log log.OutOfMemory) h = absurd cc
stopped_not name start.OtherConfig h = absurd cc
stopped_not name (start.Clash known other) h = absurd cc
stopped_not name (start.RecordsFull at) h = absurd cc
stopped_not name (start.ParkFull at) h = absurd cc
stopped_not name start.OutOfMemory h = absurd cc

-- ---- the words

-- what words that are no option ask for
request_by : (command : Word) (rest : List Word) (b : Bool) → list_all is_word (command ∷ rest) ≡ b → request_of (command ∷ rest) ≡ cond b (of_words command rest) None
unfolding request_of
request_by command rest b e = ap (λ c. cond c (of_words command rest) None) e

run_is : (held : Held) (words : List Word) (o : Option Request) → request_of words ≡ o → run_of words held ≡ ended (request_said held o)
unfolding run_of
run_is held words o e = ap (λ (o : Option Request). ended (request_said held o)) e

-- such words whose run is done
pub request_done : (held : Held) (command : Word) (rest : List Word) (r : Request) → of_words command rest ≡ Some r → is_done (run_of (command ∷ rest) held).status ≡ true → request_of (command ∷ rest) ≡ Some r
request_done held command rest r is done = go (list_all is_word (command ∷ rest)) refl
  where
    go : (b : Bool) → list_all is_word (command ∷ rest) ≡ b → request_of (command ∷ rest) ≡ Some r
    go true e = request_by command rest true e ∙ is
    go false e = absurd (let no : true ≡ false = sym done ∙ ap (λ (x : Ended). is_done x.status) (run_is held (command ∷ rest) None (request_by command rest false e)) in cc)

pub asked_replay : (name : Word) → of_words (codes "replay") (name ∷ []) ≡ Some (Replay name)
unfolding of_few
asked_replay name = refl

pub asked_explain : (name : Word) → of_words (codes "explain") (name ∷ []) ≡ Some (Explain name)
unfolding of_few
asked_explain name = refl

pub asked_audit : (left right : Word) → of_words (codes "audit") (left ∷ right ∷ []) ≡ Some (Audit left right)
unfolding of_few of_two
asked_audit left right = refl

-- ---- a replay

module _ (held : Held) (wanted : Option Config) (name : Word) where
  -- the log that a run replays whose end is done
  record IsReplayed : Type 0 where
    bytes : List ℕ
    held_is : held name ≡ Some bytes
    given : IsGiven wanted bytes
    taken_is : log_replayed held wanted name ≡ Ok (tally_of given.config given.entries)

  abbrev of_file : Option (List ℕ) → Part Taken
  of_file file = elim file as (λ z. Part (List ℕ)) [ None ↦ Err read_fault_ended | Some bytes ↦ Ok bytes ] >>= λ bytes. or_stopped name (replay_of wanted bytes)

  replayed_is : (bytes : List ℕ) (t : Taken) → held name ≡ Some bytes → replay_of wanted bytes ≡ Ok t → log_replayed held wanted name ≡ Ok t
  replayed_is bytes t there is = ap of_file there ∙ ap (or_stopped name) is

  is_replayed : HoldBytes held → (next : Taken → Part Ended) → is_done (ended (log_replayed held wanted name >>= next)).status ≡ true → IsReplayed
  is_replayed fits next done = go (held name) refl done
    where
      stopped : (bytes : List ℕ) → held name ≡ Some bytes → (r : Result Taken StartFault) → replay_of wanted bytes ≡ r → is_done (ended (or_stopped name r >>= next)).status ≡ true → IsReplayed
      stopped bytes there (Ok t) is h = let g = is_given wanted bytes t (fits name bytes there) is in record { bytes = bytes; held_is = there; given = g; taken_is = replayed_is bytes (tally_of g.config g.entries) there g.replay_is }
      stopped bytes there (Err f) is h = absurd (stopped_not name f h)

      go : (file : Option (List ℕ)) → held name ≡ file → is_done (ended (of_file file >>= next)).status ≡ true → IsReplayed
      go None there h = absurd cc
      go (Some bytes) there h = stopped bytes there (replay_of wanted bytes) refl h

  -- a log of the wanted configuration is replayed
  replays : (bytes : List ℕ) (config : Config) (entries : List LogEntry) → held name ≡ Some bytes → Gives bytes config entries → is_wanted wanted config ≡ true → log_replayed held wanted name ≡ Ok (tally_of config entries)
  replays bytes config entries there gives same = replayed_is bytes (tally_of config entries) there (replayed wanted bytes config entries gives same)

decides : (config : Config) (entries : List LogEntry) → AreDecisions (setting_of config) (accepted_of config entries) (decisions_of (setting_of config) (accepted_of config entries))
decides config entries = decisions_are (setting_of config) (accepted_of config entries) (one_block_each (setting_of config) (accepted_of config entries))

-- ---- one log

module _ (held : Held) (name : Word) where
  abbrev reporting : Taken → Part Ended
  reporting t = done (report_of t)

  abbrev explaining : Taken → Part Ended
  explaining t = done (explained_in t.core)

  abbrev decided_by : (r : IsReplayed held None name) → Decides r.bytes
  decided_by r = record { config = r.given.config; entries = r.given.entries; gives = r.given.gives; decided = decisions_of (setting_of r.given.config) (accepted_of r.given.config r.given.entries); decides = decides r.given.config r.given.entries }

  then_done : (words : List Word) (next : Taken → Part Ended) → run_of words held ≡ ended (log_replayed held None name >>= next) → is_done (run_of words held).status ≡ true → is_done (ended (log_replayed held None name >>= next)).status ≡ true
  then_done words next run h = sym (ap (λ (e : Ended). is_done e.status) run) ∙ h

pub replay_said_so : ReplayIsSaid
replay_said_so held name fits d =
    let h = done_is (run_of (asks_replay name) held).status d in
    let run = run_is held (asks_replay name) (Some (Replay name)) (request_done held (codes "replay") (name ∷ []) (Replay name) (asked_replay name) h) in
    let r = is_replayed held None name fits (reporting held name) (then_done held name (asks_replay name) (reporting held name) run h) in
    let ends = run ∙ ap (λ (p : Part Taken). ended (p >>= reporting held name)) r.taken_is in
    (ap (λ (e : Ended). e.status) ends, (r.bytes, r.held_is, (decided_by held name r, ap (λ (e : Ended). e.text) ends)))

pub explain_said_so : ExplainIsSaid
explain_said_so held name fits d =
    let h = done_is (run_of (asks_explain name) held).status d in
    let run = run_is held (asks_explain name) (Some (Explain name)) (request_done held (codes "explain") (name ∷ []) (Explain name) (asked_explain name) h) in
    let r = is_replayed held None name fits (explaining held name) (then_done held name (asks_explain name) (explaining held name) run h) in
    let ends = run ∙ ap (λ (p : Part Taken). ended (p >>= explaining held name)) r.taken_is in
    let s = setting_of r.given.config in
    let journal = accepted_of r.given.config r.given.entries in
    let are = decides r.given.config r.given.entries in
    let greatest = decided_have_greatest s journal (decisions_of s journal) are in
    let text = ap (λ (e : Ended). e.text) ends ∙ explained_is_of_greatest s journal (decisions_of s journal) greatest.0 are greatest.1 in
    (ap (λ (e : Ended). e.status) ends, (r.bytes, r.held_is, (decided_by held name r, greatest.0, greatest.1, text)))

pub one_passes : (command name : Word) → is_word command ≡ true → is_word name ≡ true → list_all is_word (command ∷ name ∷ []) ≡ true
one_passes command name a b = ap (λ c. c && (is_word name && true)) a ∙ ap (λ c. c && true) b

-- words of this request ask for it and run it
pub request_passes : (command : Word) (rest : List Word) (r : Request) → of_words command rest ≡ Some r → list_all is_word (command ∷ rest) ≡ true → request_of (command ∷ rest) ≡ Some r
request_passes command rest r is passes = request_by command rest true passes ∙ is

run_asked : (held : Held) (command : Word) (rest : List Word) (r : Request) → of_words command rest ≡ Some r → list_all is_word (command ∷ rest) ≡ true → run_of (command ∷ rest) held ≡ ended (request_said held (Some r))
run_asked held command rest r is passes = run_is held (command ∷ rest) (Some r) (request_passes command rest r is passes)

log_read : (held : Held) (name : Word) (next : Taken → Part Ended) → HasFile held name IsWholeLog → (t : Taken) × (ended (log_replayed held None name >>= next) ≡ ended (next t))
log_read held name next (bytes, there, (config, entries, gives)) = (tally_of config entries, ap (λ (p : Part Taken). ended (p >>= next)) (replays held None name bytes config entries there gives refl))

log_replays : (held : Held) (name : Word) → is_word name ≡ true → HasFile held name IsWholeLog → IsDone (run_of (asks_replay name) held).status
log_replays held name passes file =
    let run = run_asked held (codes "replay") (name ∷ []) (Replay name) (asked_replay name) (one_passes (codes "replay") name refl passes) in
    inl (ap (λ (e : Ended). e.status) (run ∙ (log_read held name (reporting held name) file).1))

log_explains : (held : Held) (name : Word) → is_word name ≡ true → HasFile held name IsWholeLog → IsDone (run_of (asks_explain name) held).status
log_explains held name passes file =
    let run = run_asked held (codes "explain") (name ∷ []) (Explain name) (asked_explain name) (one_passes (codes "explain") name refl passes) in
    inl (ap (λ (e : Ended). e.status) (run ∙ (log_read held name (explaining held name) file).1))

-- ---- two logs

module _ (config : Config) (left right : List ℕ) (es fs : List LogEntry) (g : Gives left config es) (h : Gives right config fs) where
  abbrev s : Setting
  s = setting_of config

  abbrev l : List Vertex
  l = accepted_of config es

  abbrev r : List Vertex
  r = accepted_of config fs

  abbrev IsOn : Verdict → Type 0
  IsOn v = IsVerdict s l r (decisions_of s l) (decisions_of s r) v

  abbrev compare : journals_clash s l r ≡ false → AreComparable left right
  compare none = record {
    config = config;
    left_entries = es;
    right_entries = fs;
    left_gives = g;
    right_gives = h;
    no_clash = none;
    left_decided = decisions_of s l;
    right_decided = decisions_of s r;
    left_decides = decides config es;
    right_decides = decides config fs;
  }

  tells : (v : Verdict) → IsOn v → is_done (verdict_ended config.ftt v).status ≡ true → TellsAudit left right (verdict_ended config.ftt v).status (verdict_ended config.ftt v).text
  tells (verdict.Agree common) v d = inl (refl, (common, record { logs = compare v.0; agree = v.1 }, refl))
  tells (verdict.Conflict height a b culprits weight) v d =
      let heavy : config.ftt < culprit_weight s l r = difference s l r (decisions_of s l) (decisions_of s r) height a b (delivered_pairs s (deliveries_of es)) (delivered_pairs s (deliveries_of fs)) v.0 (decides config es) (decides config fs) v.1.blocks in
      inr (
        refl,
        record {
          height = height;
          left_block = a;
          right_block = b;
          culprits = culprits;
          weight = weight;
          ftt = config.ftt;
          logs = record {
            logs = compare v.0;
            part = v.1.blocks;
            culprits_are = culprits_are s l r culprits v.1.culprits_are;
            weight_is = v.1.weight_is ∙ weigh s l r ∙ ap (sum_by (λ w. slice_index config.weights w)) (sym v.1.culprits_are.validators_are);
            threshold_is = refl;
            exceeds = subst (λ n. config.ftt < n) (sym v.1.weight_is) heavy;
          };
          text_is = refl;
        },
      )
  tells (verdict.Clash a b) v d = absurd cc

  -- where no two units clash, the end is done
  done_unless : (v : Verdict) → IsOn v → journals_clash s l r ≡ false → IsDone (verdict_ended config.ftt v).status
  done_unless (verdict.Agree common) v none = inl refl
  done_unless (verdict.Conflict height a b culprits weight) v none = inr refl
  done_unless (verdict.Clash a b) v none = absurd (let yes : true ≡ false = sym ((clash_is_a_test s l r).1 (a, b, v)) ∙ none in cc)

module _ (held : Held) (left right : Word) where
  abbrev against : Taken → Part Ended
  against t = audited_against held t.core right

  abbrev audited : Config → List LogEntry → Taken → Part Ended
  audited config es t = Ok (audit_ended (setting_of config) (accepted_of config es) t.core.journal)

  -- the run of an audit of logs that were replayed ends by the verdict
  by_verdict : (config : Config) (es fs : List LogEntry) → log_replayed held None left ≡ Ok (tally_of config es) → log_replayed held (Some config) right ≡ Ok (tally_of config fs)
      → (v : Verdict) × IsVerdict (setting_of config) (accepted_of config es) (accepted_of config fs) (decisions_of (setting_of config) (accepted_of config es)) (decisions_of (setting_of config) (accepted_of config fs)) v
      × (ended (audit_said held left right) ≡ verdict_ended config.ftt v)
  by_verdict config es fs one two =
      let s = setting_of config in
      let dl = decisions_of s (accepted_of config es) in
      let dr = decisions_of s (accepted_of config fs) in
      let v = verdict_is_there s (accepted_of config es) (accepted_of config fs) dl dr in
      (v.0, v.1, ap ended (audit_is_the_verdict held left right (tally_of config es) (tally_of config fs) dl dr v.0 one two (decides config es) (decides config fs) v.1 v.2))

pub audit_said_so : AuditIsSaid
audit_said_so held left right fits d =
    let words = asks_audit left right in
    let h = done_is (run_of words held).status d in
    let run = run_is held words (Some (Audit left right)) (request_done held (codes "audit") (left ∷ right ∷ []) (Audit left right) (asked_audit left right) h) in
    let one = is_replayed held None left fits (against held left right) (sym (ap (λ (e : Ended). is_done e.status) run) ∙ h) in
    let c = one.given.config in
    let es = one.given.entries in
    let mid = run ∙ ap (λ (p : Part Taken). ended (p >>= against held left right)) one.taken_is in
    let two = is_replayed held (Some c) right fits (audited held left right c es) (sym (ap (λ (e : Ended). is_done e.status) mid) ∙ h) in
    let fs = two.given.entries in
    let same : two.given.config ≡ c = sym (same_as_wanted c two.given.config one.bytes two.bytes es fs one.given.gives two.given.gives two.given.wanted_is) in
    let gives = subst (λ (k : Config). Gives two.bytes k fs) same two.given.gives in
    let taken = two.taken_is ∙ ap (λ (k : Config). Ok (tally_of k fs)) same in
    let v = by_verdict held left right c es fs one.taken_is taken in
    let ends = run ∙ v.2 in
    let told = tells c one.bytes two.bytes es fs one.given.gives gives v.0 v.1 (sym (ap (λ (e : Ended). is_done e.status) ends) ∙ h) in
    (one.bytes, one.held_is, (two.bytes, two.held_is, subst (λ (e : Ended). TellsAudit one.bytes two.bytes e.status e.text) (sym ends) told))

pub two_pass : (command a b : Word) → is_word command ≡ true → is_word a ≡ true → is_word b ≡ true → list_all is_word (command ∷ a ∷ b ∷ []) ≡ true
two_pass command a b p q r = ap (λ c. c && (is_word a && (is_word b && true))) p ∙ ap (λ c. c && (is_word b && true)) q ∙ ap (λ c. c && true) r

logs_audited : (held : Held) (left right : Word) → is_word left ≡ true → is_word right ≡ true → HasFile held left (λ l. HasFile held right (AreComparable l)) → IsDone (run_of (asks_audit left right) held).status
logs_audited held left right p q (lb, l_there, (rb, r_there, c)) =
    let run = run_asked held (codes "audit") (left ∷ right ∷ []) (Audit left right) (asked_audit left right) (two_pass (codes "audit") left right refl p q) in
    let one = replays held None left lb c.config c.left_entries l_there c.left_gives refl in
    let two = replays held (Some c.config) right rb c.config c.right_entries r_there c.right_gives ((bytes_decides (config_bytes c.config) (config_bytes c.config)).1 refl) in
    let v = by_verdict held left right c.config c.left_entries c.right_entries one two in
    subst (λ (e : Ended). IsDone e.status) (sym (run ∙ v.2)) (done_unless c.config lb rb c.left_entries c.right_entries c.left_gives c.right_gives v.0 v.1 c.no_clash)

pub logs_reported : LogsAreReported
logs_reported words held (replay log words_are passes file) = subst (λ ws. IsDone (run_of ws held).status) (sym words_are) (log_replays held log passes file)
logs_reported words held (explain log words_are passes file) = subst (λ ws. IsDone (run_of ws held).status) (sym words_are) (log_explains held log passes file)
logs_reported words held (audit left right words_are p q files) = subst (λ ws. IsDone (run_of ws held).status) (sym words_are) (logs_audited held left right p q files)
