-- What consumers took behind each step of a run.
use Rattle.std.proofs.Common.{◌≡◌, ◌⊎◌, ℕ, ◌+◌, Bool, List, [], ◌∷◌, length, Option, Some, None, Result, Ok, Err, sym, subst, inl, inr}
use Rattle.hw_types.specs.declared.answers.Plan.{Plan}
use Rattle.hw_replay.specs.Fates.{Sight}
use Rattle.hw_replay.specs.Chain.{told_chain}
use Rattle.hw_replay.specs.Feed.{moment}
use Rattle.hw_session.specs.declared.fault.MakeFault.{MakeFault}
use Rattle.hw_session.specs.declared.fault.MakeFault.TheVariants as make
use Rattle.hw_service.specs.declared.fault.ServiceFault.{ServiceFault}
use Rattle.hw_service.specs.declared.peer.Peer.{Peer}
use Rattle.hw_service.specs.Scene.{Outside, Scene, moment_of}
use Rattle.hw_service.specs.Talk.{HasGrown}
use Rattle.hw_service.specs.Steps.{Taken, AreTaken, TakesAll, TakesUntil, Takes}
use Rattle.hw_service.specs.declared.fault.ServiceFault.TheVariants as fault
use Rattle.hw_service.specs.Run.{StepOver, HaveTaken, ReportsPart, ReportsNot, StopsAtStep, StopsAtReport, course}
use Rattle.hw_service.specs.Serve.{serves_session}
use Rattle.hw_service.specs.Turns.{TellsMade, MakesUnit, DrivesSession, Turns, TakesTurn}
use Rattle.hw_service.proofs.DriveLaws.{makes_grows}
use Rattle.hw_service.proofs.CloseLaws.{still_whole}
use Rattle.hw_service.specs.Runs.{hosts_session, calls_peer}
use Rattle.hw_run_laws.specs.Prefixes.{TookUntil, CutRuns, CutServices, CutTurns, CutHosts, CutCalls}
use Rattle.hw_run_laws.proofs.PassedLaws.{IsGood, good_first, good_grown, good_passed, good_fed}

module _ {B K : Type 0} (sight : Sight B K) where
  abbrev Good : Scene B → Type 0
  Good s = IsGood sight (moment_of s)

  -- a step of this kind keeps what consumers took a prefix, whatever it answers
  abbrev Keeps : {X : Type 0} → StepOver B X → Type 0
  Keeps {X} step = (k : ℕ) (old new : Scene B × X) (result : Result Bool ServiceFault) → step k old new result → Good old.0 → Good new.0

  -- ---- one step after the other

  taken_good : {X : Type 0} (step : StepOver B X) → Keeps step → (number : ℕ) (first : Scene B × X) (taken : Taken (Scene B × X)) (last : Scene B × X) → AreTaken step number first taken last → Good first.0 → Good last.0
  unfolding AreTaken
  taken_good {X} step keeps number first [] last is good = subst (λ (s : Scene B × X). Good s.0) (sym is) good
  taken_good step keeps number first (t ∷ ts) last are good = taken_good step keeps (number + 1) t.0 ts last are.1 (keeps number first t.0 (Ok t.1) are.0 good)

  all_good : {X : Type 0} (step : StepOver B X) → Keeps step → (number count : ℕ) (first last : Scene B × X) (failed : Bool) → TakesAll step number count first last failed → Good first.0 → Good last.0
  all_good step keeps number count first last failed all good = taken_good step keeps number first all.taken last all.each good

  until_good : {X : Type 0} (step : StepOver B X) → Keeps step → (number count : ℕ) (first last : Scene B × X) (e : ServiceFault) → TakesUntil step number count first last e → Good first.0 → Good last.0
  until_good step keeps number count first last e until good =
      keeps (number + length until.taken) until.before last (Err e) until.ends (taken_good step keeps number first until.taken until.before until.each good)

  takes_good : {X : Type 0} (step : StepOver B X) → Keeps step → (number count : ℕ) (first last : Scene B × X) (result : Result Bool ServiceFault) → Takes step number count first last result → Good first.0 → Good last.0
  takes_good step keeps number count first last (Ok failed) takes good = all_good step keeps number count first last failed takes good
  takes_good step keeps number count first last (Err e) takes good = until_good step keeps number count first last e takes good

  -- ---- the steps

  session_keeps : (tells : Bool) → Keeps (serves_session sight tells)
  session_keeps tells k old new result s good = good_passed sight (moment_of old.0) (moment_of new.0) s.passed good

  host_keeps : (tells : Bool) → Keeps (hosts_session sight tells)
  host_keeps tells k old new result s good = good_passed sight (moment_of old.0) (moment_of new.0) s.passed good

  call_keeps : (tells : Bool) (address : List ℕ) → Keeps (calls_peer sight tells address)
  call_keeps tells address k old new result s good = good_passed sight (moment_of old.0) (moment_of new.0) s.passed good

  peer_keeps : (tells : Bool) → Keeps (DrivesSession sight tells)
  peer_keeps tells k old new result d good = good_passed sight (moment_of old.0) (moment_of new.0) d.drives.passed good

  -- nothing was told of the own unit
  untold : (old new : Scene B) → HasGrown old.node.core new.node.core → new.kept ≡ old.kept → new.around.consumers ≡ old.around.consumers → Good old → Good new
  untold old new grown kept consumers good =
      subst (λ (c : List B). IsGood sight (moment new.node.core c new.kept)) (sym consumers)
      (subst (λ (f : _). IsGood sight (moment new.node.core old.around.consumers f)) (sym kept) (good_grown sight old.node.core new.node.core old.around.consumers old.kept grown good))

  told_good : (made : Result (Option Plan) MakeFault) (old new : Scene B) (result : Result (Unit {0}) ServiceFault) → HasGrown old.node.core new.node.core → TellsMade sight made old new result → Good old → Good new
  told_good (Ok p) old new (Ok x) grown told good = good_passed sight (moment_of old) (moment_of new) told.0 good
  told_good (Ok p) old new (Err e) grown told good = good_passed sight (moment_of old) (moment_of new) told.0 good
  told_good (Err make.RecordsFull) old new result grown told good = good_passed sight (moment_of old) (moment_of new) told.1 good
  told_good (Err make.AppendFault) old new result grown told good = untold old new grown told.1.kept told.1.consumers good
  told_good (Err make.OutOfMemory) old new result grown told good = untold old new grown told.1.kept told.1.consumers good

  made_good : (tells : Bool) (me now : ℕ) (old new : Scene B) (result : Result (Unit {0}) ServiceFault) → MakesUnit sight tells me now old new result → Good old → Good new
  made_good tells me now old new result makes good = told_good makes.made old new result (makes_grows old.node new.node _ makes.made makes.makes) makes.told good

  turn_good : (tells : Bool) (me now : ℕ) (old new : Scene B) (before after : List Peer) (result : Result Bool ServiceFault) → Turns sight tells me now old new before after result → Good old → Good new
  turn_good tells me now old new before after (Ok failed) turns good =
      takes_good (DrivesSession sight tells) (peer_keeps tells) 0 (length before) (turns.between, before) (new, after) (Ok failed) turns.drives (made_good tells me now old turns.between (Ok tt) turns.makes good)
  turn_good tells me now old new before after (Err e) (inl not) good = made_good tells me now old new (Err e) not.makes good
  turn_good tells me now old new before after (Err e) (inr turns) good =
      takes_good (DrivesSession sight tells) (peer_keeps tells) 0 (length before) (turns.between, before) (new, after) (Err e) turns.drives (made_good tells me now old turns.between (Ok tt) turns.makes good)

  turn_keeps : (tells : Bool) (me : ℕ) → Keeps (TakesTurn sight tells me)
  turn_keeps tells me k old new result t good = turn_good tells me t.moment old.0 new.0 old.1.peers new.1.peers result t.turns good

  -- ---- a run

  closed_took : (last : Scene B) (after : Outside B) → ReportsPart sight last after → Good last → HaveTaken sight last.node.core last.kept.passed after.consumers
  closed_took last after part good = still_whole sight (told_chain last.node.core) last.kept.passed last.around.consumers after.consumers last.kept part.kept part.closes.finished good.taken

  -- a report that was cut short
  report_took : (last : Scene B) (after : Outside B) (e : ServiceFault) → ReportsNot sight last after e → Good last → HaveTaken sight last.node.core last.kept.passed after.consumers
  report_took last after fault.Write part good = closed_took last after part good
  report_took last after fault.OutOfMemory part good = closed_took last after part good
  report_took last after (fault.Settings f) not good = absurd not
  report_took last after fault.NoValidator not good = absurd not
  report_took last after (fault.Keys at) not good = absurd not
  report_took last after (fault.Log f) not good = absurd not
  report_took last after (fault.Clash units) not good = absurd not
  report_took last after fault.Read not good = absurd not
  report_took last after fault.Append not good = absurd not

  stop_took : {X : Type 0} (step : StepOver B X) → Keeps step → (number count : ℕ) (first : Scene B) (after : Outside B) (x y : X) (e : ServiceFault)
      → StopsAtStep (course step number count) (first, x) (after, y) e ⊎ StopsAtReport sight (course step number count) (first, x) (after, y) e → Good first → TookUntil sight (course step number count) (first, x) (after, y) e
  stop_took step keeps number count first after x y e (inl stop) good =
      let last = until_good step keeps number count (first, x) (stop.last, y) e stop.steps good in
      inl (stop, subst (λ (o : Outside B). HaveTaken sight stop.last.node.core stop.last.kept.passed o.consumers) (sym stop.left) last.taken)
  stop_took step keeps number count first after x y e (inr stop) good =
      inr (stop, report_took stop.last after e stop.reports (all_good step keeps number count (first, x) (stop.last, y) stop.failed stop.steps good))

  cut : {X : Type 0} (me : Option ℕ) (step : StepOver B X) → Keeps step → CutRuns sight me step
  cut me step keeps tells names number count before after x y e run none =
      stop_took step keeps number count run.first after x y e run.stops (good_fed sight _ (moment_of run.first) run.begins.fed (good_first sight _ before.consumers none))

  pub cut_services : CutServices sight
  cut_services tells = cut None (serves_session sight tells) (session_keeps tells)

  pub cut_turns : CutTurns sight
  cut_turns tells me = cut (Some me) (TakesTurn sight tells me) (turn_keeps tells me)

  pub cut_hosts : CutHosts sight
  cut_hosts tells = cut None (hosts_session sight tells) (host_keeps tells)

  pub cut_calls : CutCalls sight
  cut_calls tells address = cut None (calls_peer sight tells address) (call_keeps tells address)
