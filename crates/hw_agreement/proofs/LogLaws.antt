-- The audit of the logs of validators as they run.
use Rattle.std.proofs.Common.{◌≡◌, ◌⊎◌, ℕ, inl, inr, Bool, true, false, cond, List, ◌++◌, Option, Some, None, Result, Ok, Err, refl, sym, ap, subst, ◌∙◌}
use Rattle.hw_types.specs.declared.config.Config.{Config}
use Rattle.hw_types.specs.declared.unit.Vertex.{Vertex}
use Rattle.hw_types.specs.Journal.{Setting, journal_of}
use Rattle.hw_types.specs.Decisions.{AreDecisions}
use Rattle.hw_types.specs.Real.{CoreState, setting_of}
use Rattle.hw_safety.specs.Decided.{decisions_of}
use Rattle.hw_safety.specs.declared.verdict.Verdict.{Verdict}
use Rattle.hw_safety.specs.declared.verdict.Verdict.TheVariants as verdict
use Rattle.hw_safety.specs.Verdicts.{IsVerdict}
use Rattle.hw_safety.proofs.DecidedLaws.{decisions_are}
use Rattle.hw_safety.proofs.HeightLaws.{one_block_each}
use Rattle.hw_core.proofs.PromiseLaws.{deliveries_are}
use Rattle.hw_agree.specs.Agree.{IsNoConflict}
use Rattle.hw_log.specs.declared.error.LogError.{LogError}
use Rattle.hw_log.specs.Log.{Entries, log_of}
use Rattle.hw_replay.specs.declared.fault.StartFault.{StartFault}
use Rattle.hw_replay.specs.Taken.{Taken, nothing_taken, rest_taken}
use Rattle.hw_replay.specs.Replay.{is_wanted, said_replayed, replay_of}
use Rattle.hw_replay.specs.Laws.{deliveries_of}
use Rattle.hw_replay.proofs.DeliveredLaws.{replay_delivers}
use Rattle.hw_session.specs.Node.{NodeState, IsSound}
use Rattle.hw_session.specs.Restart.{HasLog, journal_log}
use Rattle.hw_commands.specs.declared.ended.Ended.{Ended}
use Rattle.hw_commands.specs.Commands.{Word, Request}
use Rattle.hw_commands.specs.Texts.{read_fault_ended}
use Rattle.hw_commands.specs.Audited.{verdict_ended}
use Rattle.hw_commands.specs.Program.{◌>>=◌, Held, Part, ended, or_stopped, log_replayed, audit_said, request_said, run_of}
use Rattle.hw_commands.proofs.AuditedLaws.{audit_is_the_verdict, verdict_is_there}
use Rattle.hw_run_laws.proofs.StartLaws.{unasked, gives_back}
use Rattle.hw_agreement.specs.Lives.{AreHonest}
use Rattle.hw_agreement.specs.Logs.{LogsAgree, NodesLogsAgree, LivesLogsAgree}
use Rattle.hw_agreement.proofs.LifeLaws.{hosts_agree, at_sound, at_ready}

-- ---- what was replayed, deliveries made

abbrev of_file : Option Config → Word → Option (List ℕ) → Part Taken
of_file wanted name file = elim file as (λ z. Part (List ℕ)) [ None ↦ Err read_fault_ended | Some bytes ↦ Ok bytes ] >>= λ bytes. or_stopped name (replay_of wanted bytes)

stopped : (wanted : Option Config) (name : Word) (bytes : List ℕ) (t : Taken) (r : Result Taken StartFault) → replay_of wanted bytes ≡ r → or_stopped name r ≡ Ok t → replay_of wanted bytes ≡ Ok t
stopped wanted name bytes t (Ok u) is e = is ∙ ap Ok (let same : u ≡ t = cc in same)
stopped wanted name bytes t (Err fault) is e = absurd cc

-- the node of a log that was replayed is that of deliveries
made : (held : Held) (wanted : Option Config) (name : Word) (t : Taken) → log_replayed held wanted name ≡ Ok t
    → (deliveries : List (Vertex × Bool)) × (t.core.journal ≡ journal_of (setting_of t.core.config) deliveries)
made held wanted name t e = go (held name) e
  where
    go : (file : Option (List ℕ)) → of_file wanted name file ≡ Ok t → (deliveries : List (Vertex × Bool)) × (t.core.journal ≡ journal_of (setting_of t.core.config) deliveries)
    go None e = absurd cc
    go (Some bytes) e =
        let p = replay_delivers wanted bytes t (stopped wanted name bytes t (replay_of wanted bytes) refl e) in
        let is = p.core_is ∙ (deliveries_are p.config (deliveries_of p.entries)).0 in (
          deliveries_of p.entries,
          ap (λ (c : CoreState). c.journal) is ∙ ap (λ (c : CoreState). journal_of (setting_of c.config) (deliveries_of p.entries)) (sym is),
        )

-- ---- two logs

ends_well : (v : Verdict) (ftt : ℕ) → IsNoConflict v → ((verdict_ended ftt v).status ≡ 0) ⊎ ((verdict_ended ftt v).status ≡ 9)
ends_well (verdict.Agree common) ftt well = inl refl
ends_well (verdict.Clash a b) ftt well = inr refl
ends_well (verdict.Conflict height a b culprits weight) ftt well = absurd well

decides : (s : Setting) (journal : List Vertex) → AreDecisions s journal (decisions_of s journal)
decides s journal = decisions_are s journal (one_block_each s journal)

pub logs_agree : LogsAgree
unfolding run_of
logs_agree words held left right first second honest asked first_is second_is one are =
    let s = setting_of first.core.config in
    let l = made held None left first first_is in
    let r = made held (Some first.core.config) right second second_is in
    let r_is : second.core.journal ≡ journal_of s r.0 = r.1 ∙ ap (λ (c : Config). journal_of (setting_of c) r.0) one in
    let dl = decisions_of s first.core.journal in
    let dr = decisions_of s second.core.journal in
    let v = verdict_is_there s first.core.journal second.core.journal dl dr in
    let well : IsNoConflict v.0 =
    (let P : List Vertex → List Vertex → Type 0 = λ j k. AreHonest s (j ++ k) honest → AreDecisions s j dl → AreDecisions s k dr → IsVerdict s j k dl dr v.0 → IsNoConflict v.0 in
    let both : P (journal_of s l.0) (journal_of s r.0) = λ h d e i. hosts_agree s l.0 r.0 honest h dl dr d e v.0 i in
    subst (λ j. P j second.core.journal) (sym l.1) (subst (λ k. P (journal_of s l.0) k) (sym r_is) both) are (decides s first.core.journal) (decides s second.core.journal) v.1) in
    let said : audit_said held left right ≡ Ok (verdict_ended first.core.config.ftt v.0) =
    audit_is_the_verdict held left right first second dl dr v.0 first_is second_is (decides s first.core.journal) (decides s second.core.journal) v.1 v.2 in
    let status : (run_of words held).status ≡ (verdict_ended first.core.config.ftt v.0).status =
    ap (λ (o : Option Request). (ended (request_said held o)).status) asked ∙ ap (λ (p : Part Ended). (ended p).status) said in
    subst (λ n. (n ≡ 0) ⊎ (n ≡ 9)) (sym status) (ends_well v.0 first.core.config.ftt well)

-- ---- the logs of nodes

-- a log that is replayed where a configuration is wanted is replayed where none is
unwanted : (config : Config) (bytes : List ℕ) (t : Taken) → replay_of (Some config) bytes ≡ Ok t → replay_of None bytes ≡ Ok t
unfolding replay_of
unwanted config bytes t is = by_said (log_of bytes) is
  where
    tested : (b : Bool) (rest : Result Taken StartFault) (fault : StartFault) → cond b rest (Err fault) ≡ Ok t → rest ≡ Ok t
    tested true rest fault e = e
    tested false rest fault e = absurd cc

    by_said : (said : Result (Config × Entries) LogError) → said_replayed (Some config) said ≡ Ok t → said_replayed None said ≡ Ok t
    by_said (Err e) is = absurd cc
    by_said (Ok said) is = tested (is_wanted (Some config) said.0) (rest_taken (nothing_taken said.0) said.1) _ is

-- what a replay of a node's log took
abbrev took : NodeState → Taken
took n = record { core = unasked n.core; refused = 0; repeats = 0 }

module _ (n : NodeState) (sound : IsSound n) (held : Held) (name : Word) (has : HasLog n (held name)) where
  replayed : replay_of (Some n.core.config) (journal_log has.version n.core.config n.core.journal) ≡ Ok (took n)
  replayed = (gives_back n sound has.version has.known).taken

  in_file : (wanted : Option Config) → replay_of wanted (journal_log has.version n.core.config n.core.journal) ≡ Ok (took n) → log_replayed held wanted name ≡ Ok (took n)
  in_file wanted is = ap (λ (file : Option (List ℕ)). of_file wanted name file) has.holds ∙ ap (or_stopped name) is

  pub of_node : log_replayed held None name ≡ Ok (took n)
  of_node = in_file None (unwanted n.core.config (journal_log has.version n.core.config n.core.journal) (took n) replayed)

  pub of_wanted : (config : Config) → n.core.config ≡ config → log_replayed held (Some config) name ≡ Ok (took n)
  of_wanted config is = subst (λ (c : Config). log_replayed held (Some c) name ≡ Ok (took n)) is (in_file (Some n.core.config) replayed)

pub nodes_agree : NodesLogsAgree
nodes_agree words held left right one other honest asked sound also has holds same are =
    logs_agree words held left right (took one) (took other) honest asked (of_node one sound held left has) (of_wanted other also held right holds one.core.config same) same are

pub lives_agree : LivesLogsAgree
lives_agree words held left right me you mine yours one other honest asked first second same are =
    nodes_agree words held left right one.node other.node honest asked (at_sound me mine one first.moment) (at_sound you yours other second.moment)
    (subst (HasLog one.node) (sym first.copied) (at_ready me mine one first.moment).log) (subst (HasLog other.node) (sym second.copied) (at_ready you yours other second.moment).log) same are
