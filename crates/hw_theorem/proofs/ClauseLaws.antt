-- From what a run says, and how its text goes out, to what is written of logs.
use Rattle.std.proofs.Common.{◌≡◌, ℕ, inl, inr, ◌⊎◌, Bool, List, [], ◌∷◌, ◌++◌, Option, Some, refl, sym, subst, ◌∙◌}
use Rattle.std.specs.Prelude.{codes}
use Rattle.std.specs.Io.KnownBytes.{Appends}
use Rattle.hw_replay.specs.Fates.{Sight}
use Rattle.hw_replay.specs.Lines.{drop_lines}
use Rattle.hw_commands.specs.Commands.{Word, Request, Replay, Explain, Audit, OnlyReads, request_of}
use Rattle.hw_commands.specs.Fed.{IsTextFor, IsTextOf}
use Rattle.hw_commands.specs.Run.{IsDone, WritesText}
use Rattle.hw_commands.specs.Program.{Held, run_of}
use Rattle.hw_theorem.specs.Reports.{HoldBytes, HasFile, IsReport, IsExplanation, TellsAudit, asks_replay, asks_explain, asks_audit, CanBeReported, replay, explain, audit, SaysOfLogs}
use Rattle.hw_theorem.proofs.ReportLaws.{done_is, request_done, request_passes, asked_replay, asked_explain, asked_audit, one_passes, two_pass, replay_said_so, explain_said_so, audit_said_so, logs_reported}

module _ {B K : Type 0} (sight : Sight B K) (tells : Bool) (held : Held) (fits : HoldBytes held) (status : ℕ) (done : IsDone status) (before after : List B) (old new : Option (List ℕ)) where
  abbrev Ends : List Word → Type 0
  Ends words = (run_of words held).status ≡ status

  abbrev Texts : List Word → Type 0
  Texts words = WritesText (IsTextOf sight tells words held before after) old new

  replayed : (log : Word) → Ends (asks_replay log) → Texts (asks_replay log) → (text dropped : List ℕ) × (status ≡ 0) × HasFile held log (λ bytes. IsReport bytes text) × Appends old new (text ++ dropped)
  replayed log is (text, (told, written)) =
      let e = run_of (asks_replay log) held in
      let d : IsDone e.status = subst IsDone (sym is) done in
      let s = replay_said_so held log fits d in
      let request = request_done held (codes "replay") (log ∷ []) (Replay log) (asked_replay log) (done_is e.status d) in
      let report = (subst (λ (o : Option Request). IsTextFor sight tells o held e before after text) request told).done s.0 in
      (e.text, drop_lines report.drops, sym is ∙ s.0, s.1, subst (λ t. Appends old new t) report.text_is written)

  explained : (log : Word) → Ends (asks_explain log) → Texts (asks_explain log) → (text : List ℕ) × (status ≡ 0) × HasFile held log (λ bytes. IsExplanation bytes text) × Appends old new text
  explained log is (text, (told, written)) =
      let e = run_of (asks_explain log) held in
      let d : IsDone e.status = subst IsDone (sym is) done in
      let s = explain_said_so held log fits d in
      let request = request_done held (codes "explain") (log ∷ []) (Explain log) (asked_explain log) (done_is e.status d) in
      let text_is : text ≡ e.text = subst (λ (o : Option Request). IsTextFor sight tells o held e before after text) request told in
      (e.text, sym is ∙ s.0, s.1, subst (λ t. Appends old new t) text_is written)

  audited : (left right : Word) → Ends (asks_audit left right) → Texts (asks_audit left right) → (text : List ℕ) × HasFile held left (λ l. HasFile held right (λ r. TellsAudit l r status text)) × Appends old new text
  audited left right is (text, (told, written)) =
      let e = run_of (asks_audit left right) held in
      let d : IsDone e.status = subst IsDone (sym is) done in
      let s = audit_said_so held left right fits d in
      let request = request_done held (codes "audit") (left ∷ right ∷ []) (Audit left right) (asked_audit left right) (done_is e.status d) in
      let text_is : text ≡ e.text = subst (λ (o : Option Request). IsTextFor sight tells o held e before after text) request told in
      (e.text, subst (λ n. HasFile held left (λ l. HasFile held right (λ r. TellsAudit l r n e.text))) is s, subst (λ t. Appends old new t) text_is written)

  pub says_of_logs : (words : List Word) → Ends words → Texts words → SaysOfLogs words held status old new
  says_of_logs words is texts = record {
    replay = λ log are. replayed log (subst Ends are is) (subst Texts are texts);
    explain = λ log are. explained log (subst Ends are is) (subst Texts are texts);
    audit = λ left right are. audited left right (subst Ends are is) (subst Texts are texts);
  }

-- ---- words that name logs which can be reported

reads_only : (words : List Word) (r : Request) → request_of words ≡ Some r → OnlyReads (Some r) → OnlyReads (request_of words)
reads_only words r is only = subst OnlyReads (sym is) only

pub reported_reads : (words : List Word) (held : Held) → CanBeReported words held → OnlyReads (request_of words)
reported_reads words held (replay log are passes file) =
    let request = request_passes (codes "replay") (log ∷ []) (Replay log) (asked_replay log) (one_passes (codes "replay") log refl passes) in
    subst (λ ws. OnlyReads (request_of ws)) (sym are) (reads_only (asks_replay log) (Replay log) request tt)
reported_reads words held (explain log are passes file) =
    let request = request_passes (codes "explain") (log ∷ []) (Explain log) (asked_explain log) (one_passes (codes "explain") log refl passes) in
    subst (λ ws. OnlyReads (request_of ws)) (sym are) (reads_only (asks_explain log) (Explain log) request tt)
reported_reads words held (audit left right are p q files) =
    let request = request_passes (codes "audit") (left ∷ right ∷ []) (Audit left right) (asked_audit left right) (two_pass (codes "audit") left right refl p q) in
    subst (λ ws. OnlyReads (request_of ws)) (sym are) (reads_only (asks_audit left right) (Audit left right) request tt)

-- the status is that of the words and the bytes, or there was no memory
pub reported_done : (words : List Word) (held : Held) (status : ℕ) → CanBeReported words held → (status ≡ (run_of words held).status) ⊎ (status ≡ 7) → IsDone status ⊎ (status ≡ 7)
reported_done words held status can (inl is) = inl (subst IsDone (sym is) (logs_reported words held can))
reported_done words held status can (inr seven) = inr seven
