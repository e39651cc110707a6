-- The audit of the eras of two nodes, which logs leave.
use Rattle.std.proofs.Common.{◌≡◌, ℕ, List, Option, Some, None, Result, Ok, sym, ap, subst, ◌∙◌}
use Rattle.std.specs.Prelude.{slice_get}
use Rattle.std.specs.Option.{option_map}
use Rattle.hw_io.specs.Files.{SameFiles}
use Rattle.hw_types.specs.declared.config.Config.{Config}
use Rattle.hw_types.specs.Real.{CoreState}
use Rattle.hw_replay.specs.Taken.{Taken}
use Rattle.hw_eras.specs.Nodes.{first_config}
use Rattle.hw_eras.specs.Logs.{Held, LogStop, ◌>>=◌, eras_of, nodes_of}
use Rattle.hw_eras.specs.declared.audits.EraAudit.{EraAudit}
use Rattle.hw_eras.specs.declared.verdict.EraVerdict.{EraVerdict}
use Rattle.hw_eras.specs.EraAudit.{IsVerdictByEras}
use Rattle.hw_eras.specs.declared.filled.Filled.{Filled}
use Rattle.hw_eras.specs.declared.stop.EraFault.{EraFault}
use Rattle.hw_eras.specs.Stops.{StopsSo}
use Rattle.hw_eras.specs.Filled.{eras_in}
use Rattle.hw_eras.specs.Audits.{eras_audited, audited_against, logs_audited, TellsVerdict, IsAudit, IsAuditOfLogs}
use Rattle.hw_eras.proofs.FilledLaws.{counted_nodes}
use Rattle.hw_eras.proofs.LogLaws.{eras_signed}
use Rattle.hw_eras.proofs.StopLaws.{stops_then, same_held}
use Rattle.hw_eras.proofs.TellLaws.{told_by_eras}

module _ (held : Held) (left right : List (List ℕ)) where
  -- a left log stops
  pub left_stops : (e : EraFault) → StopsSo e (eras_of held None left) → StopsSo e (logs_audited held left right)
  left_stops e stops = stops_then (eras_of held None left) (λ ls. audited_against held ls right) e stops

  -- what tells the verdict by eras on the nodes that the logs leave is what the definitions say
  pub said_by_eras : (ls rs : List Taken) (v : EraVerdict) (e : EraAudit) → eras_of held None left ≡ Ok ls → eras_of held (first_config (nodes_of ls)) right ≡ Ok rs
      → IsVerdictByEras (nodes_of ls) (nodes_of rs) v → TellsVerdict (nodes_of ls) v e → logs_audited held left right ≡ Ok e
  said_by_eras ls rs v e left_is right_is is told =
      ap (λ (x : Result (List Taken) LogStop). x >>= λ ls. audited_against held ls right) left_is
      ∙ ap (λ (x : Result (List Taken) LogStop). x >>= λ rs. Ok (eras_audited 0 0 (nodes_of ls) (nodes_of rs))) right_is
      ∙ ap (λ (x : EraAudit). Ok x) (sym (told_by_eras (nodes_of ls) (nodes_of rs) v e (eras_signed held None left ls left_is) (eras_signed held (first_config (nodes_of ls)) right rs right_is) is told))

  -- and so is what was told
  pub audit_said : (e : EraAudit) → IsAuditOfLogs held left right e → logs_audited held left right ≡ Ok e
  audit_said e a = said_by_eras a.lefts a.rights a.audit.said e a.left_is a.right_is a.audit.by_eras a.audit.told

  -- the left logs leave a node that begins with this one, and the right logs are read behind them
  module _ (l : Filled) (there : eras_of held None left ≡ Ok (eras_in l)) (core : CoreState) (first : slice_get l.eras 0 ≡ Some core) (now : Held) (same : SameFiles held now) where
    rights : eras_of held (first_config (nodes_of (eras_in l))) right ≡ eras_of now (Some core.config) right
    rights =
        ap (λ (o : Option Config). eras_of held o right) (ap first_config (counted_nodes l.eras l.counts.items) ∙ ap (option_map (λ (c : CoreState). c.config)) first)
        ∙ ap (λ (h : Held). eras_of h (Some core.config) right) (sym (same_held held now same))

    -- one of them stops
    pub right_stops : (e : EraFault) → StopsSo e (eras_of now (Some core.config) right) → StopsSo e (logs_audited held left right)
    right_stops e stops =
        subst (StopsSo e) (sym (ap (λ (x : Result (List Taken) LogStop). x >>= λ ls. audited_against held ls right) there))
        (stops_then (eras_of held (first_config (nodes_of (eras_in l))) right) (λ rs. Ok (eras_audited 0 0 (nodes_of (eras_in l)) (nodes_of rs))) e (subst (StopsSo e) (sym rights) stops))

    pub audit_is : (r : Filled) (e : EraAudit) → eras_of now (Some core.config) right ≡ Ok (eras_in r) → IsAudit l.eras r.eras e → IsAuditOfLogs held left right e
    audit_is r e is audit = record {
      lefts = eras_in l;
      left_is = there;
      rights = eras_in r;
      right_is = rights ∙ is;
      audit = subst (λ (cs : List CoreState). IsAudit cs (nodes_of (eras_in r)) e) (sym (counted_nodes l.eras l.counts.items)) (subst (λ (cs : List CoreState). IsAudit l.eras cs e) (sym (counted_nodes r.eras r.counts.items)) audit);
    }
