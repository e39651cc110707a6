-- What a vertex that a host hands over leaves of a node and of its log.
use Rattle.std.proofs.Common.{◌≡◌, ℕ, Bool, true, List, [], ◌∷◌, Option, None, Result, Ok, Err, inl, inr, refl, sym, ap, subst, ◌∙◌}
use Rattle.hw_types.specs.declared.unit.Vertex.{Vertex}
use Rattle.hw_types.specs.declared.answers.Frame.TheVariants as frame
use Rattle.hw_types.specs.declared.answers.Receipt.{Receipt}
use Rattle.hw_types.specs.declared.answers.Cause.{Cause}
use Rattle.hw_link.specs.declared.end.SessionEnd.TheVariants as end
use Rattle.hw_link.specs.Talk.{Reaction, goes_on}
use Rattle.hw_session.specs.declared.fault.AcceptFault.{AcceptFault}
use Rattle.hw_session.specs.declared.fault.AcceptFault.TheVariants as fault
use Rattle.hw_session.specs.Node.{NodeState}
use Rattle.hw_session.specs.Make.{with_entry}
use Rattle.hw_session.specs.Accept.{given_to, taken_by, Accepts, WritesAccepted}
use Rattle.hw_session.specs.Grows.{Logs}
use Rattle.hw_session.specs.Handling.{Stayed, Took, WasCut, Reacts}
use Rattle.hw_session.specs.Restart.{HasLog}
use Rattle.hw_session.specs.Standing.{standing}
use Rattle.hw_session.proofs.ConfigLaws.{taken_config}
use Rattle.hw_session.proofs.GrowsLaws.{logs_nothing}
use Rattle.hw_session.proofs.ReactLaws.{accepted_logs, refused_logs, append_failed, memory_wanted}
use Rattle.hw_run_laws.specs.Restart.{TakesSome, LeavesLog, IsJudged, AcceptsIsALife, AcceptsKeepsLog, AcceptsLeavesLog}
use Rattle.hw_run_laws.proofs.LifeLaws.{takes_none, takes_one}
use Rattle.hw_run_laws.proofs.CutLaws.{stands, cut}

module _ (n m : NodeState) (v : Vertex) where
  abbrev given : Result Receipt Cause
  given = given_to n v

  -- ---- the life

  -- where it was answered, the node is what the answer leaves
  answered : (result : Result Receipt AcceptFault) → Accepts n v m result → IsJudged result → m ≡ taken_by n v given
  answered (Ok r) took judged = took.1 ∙ ap (taken_by n v) (sym took.0)
  answered (Err (fault.Refused c)) took judged = took.2 ∙ ap (taken_by n v) (sym took.1)
  answered (Err fault.AppendFault) took judged = absurd judged
  answered (Err fault.OutOfMemory) took judged = absurd judged

  is_life : (result : Result Receipt AcceptFault) → Accepts n v m result → IsJudged result → TakesSome n (v ∷ []) m
  is_life result took judged = takes_one n m v [] (answered result took judged)

  -- ---- the log

  module _ (old new : List ℕ → Option (List ℕ)) where
    logs : (result : Result Receipt AcceptFault) → Accepts n v m result → WritesAccepted n v m old new result → IsJudged result → Logs n m true old new
    logs (Ok r) took wrote judged = accepted_logs n v m true old new r took (λ told. wrote)
    logs (Err (fault.Refused c)) took wrote judged = refused_logs n v m true old new c took (λ told. wrote)
    logs (Err fault.AppendFault) took wrote judged = absurd judged
    logs (Err fault.OutOfMemory) took wrote judged = absurd judged

    module _ (has : HasLog n (old n.log)) where
      -- the node with its log
      keeps : m ≡ taken_by n v given → Logs n m true old new → HasLog m (new m.log)
      keeps is logged = stands n true old new refl has m (ap (λ (k : NodeState). k.core.config) is ∙ taken_config n v given) logged

      abbrev Left : Type 0
      Left = LeavesLog n (v ∷ []) m (new m.log)

      -- ---- calls that were cut

      -- what a session would do at this vertex, with nothing to say
      abbrev reaction : Reaction NodeState
      reaction = goes_on (taken_by n v given) []

      left_cut : WasCut true (standing n old) (frame.Vertex v) reaction (standing m new) None None → Left
      left_cut s = inr (record {
        before = n;
        vertex = s.vertex;
        takes = takes_none n (v ∷ []);
        whole = takes_one n (with_entry n s.vertex) v [] (sym s.whole);
        unlogged = s.logs.unlogged.1;
        log = cut n true old new refl has n m s.vertex refl s.logs;
      })

      left_stayed : Stayed true (standing n old) (standing m new) None None → Left
      left_stayed s =
          inl (
            subst (λ (k : NodeState). TakesSome n (v ∷ []) k) (sym s.state) (takes_none n (v ∷ [])),
            stands n true old new refl has m (ap (λ (k : NodeState). k.core.config) s.state) (subst (λ (k : NodeState). Logs n k true old new) (sym s.state) (logs_nothing true n old new s.files)),
          )

      left_took : {sent : List ℕ} {failed : Bool} → Took true (standing n old) reaction sent failed (standing m new) None None → Left
      left_took s = inl (takes_one n m v [] s.state, keeps s.state s.logs)

      left_wanting : Reacts {T = Unit {0}} true (standing n old) (frame.Vertex v) reaction (standing m new) None None (Err end.OutOfMemory) → Left
      left_wanting (inl s) = left_stayed s
      left_wanting (inr (inl s)) = left_took s.2
      left_wanting (inr (inr s)) = left_cut s

      left_judged : (result : Result Receipt AcceptFault) → Accepts n v m result → WritesAccepted n v m old new result → IsJudged result → Left
      left_judged result took wrote judged = inl (is_life result took judged, keeps (answered result took judged) (logs result took wrote judged))

      leaves : (result : Result Receipt AcceptFault) → Accepts n v m result → WritesAccepted n v m old new result → Left
      leaves (Ok r) took wrote = left_judged (Ok r) took wrote tt
      leaves (Err (fault.Refused c)) took wrote = left_judged (Err (fault.Refused c)) took wrote tt
      leaves (Err fault.AppendFault) took wrote = left_cut (append_failed n v m true old new None reaction refl took (λ told. wrote))
      leaves (Err fault.OutOfMemory) took wrote = left_wanting (memory_wanted n v m true old new None reaction refl (Unit {0}) took (λ told. wrote))

pub accepts_life : AcceptsIsALife
accepts_life n m v result took judged = is_life n m v result took judged

pub accepts_keep : AcceptsKeepsLog
accepts_keep n m v result old new took wrote judged has = keeps n m v old new has (answered n m v result took judged) (logs n m v old new result took wrote judged)

pub accepts_leave : AcceptsLeavesLog
accepts_leave n m v result old new took wrote has = leaves n m v old new has result took wrote
