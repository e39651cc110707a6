-- Consumers of a run of a node that came to its report were finished once.
use Rattle.std.proofs.Common.{◌≡◌, ℕ, ◌+◌, List, [], ◌∷◌, Bool, Option, Some, None, Result, Ok, Err, sym, ap, subst, ◌∙◌, inl, inr}
use Rattle.std.specs.Prelude.{IfSome, OnOk}
use Rattle.std.specs.Option.{option_map}
use Rattle.hw_types.specs.declared.answers.Plan.{Plan}
use Rattle.hw_io.specs.Consumers.{Consumed, after_finish}
use Rattle.hw_session.specs.declared.fault.MakeFault.{MakeFault}
use Rattle.hw_session.specs.declared.fault.MakeFault.TheVariants as make
use Rattle.hw_replay.specs.Chain.{told_chain}
use Rattle.hw_replay.specs.Fates.{Sight, Fate, answer_of}
use Rattle.hw_replay.specs.Told.{blocks_between, with_more, IsTold, IsFinished}
use Rattle.hw_replay.specs.Feed.{Moment, IsPassed, ArePassed}
use Rattle.hw_service.specs.declared.fault.ServiceFault.{ServiceFault}
use Rattle.hw_service.specs.declared.ended.Served.{Served}
use Rattle.hw_service.specs.Scene.{Outside, Scene, moment_of}
use Rattle.hw_service.specs.Begin.{Names}
use Rattle.hw_service.specs.Steps.{Taken, AreTaken, TakesAll}
use Rattle.hw_service.specs.Run.{StepOver, RunsWhole, Runs, course, runner}
use Rattle.hw_service.specs.Serve.{serves_session}
use Rattle.hw_service.specs.Runs.{hosts_session, calls_peer}
use Rattle.hw_service.specs.Turns.{turning, TellsMade, DrivesSession, TakesTurn}
use Rattle.hw_program.specs.Services.{Service, Serve, Run, Host, Meet}
use Rattle.hw_program.specs.Served.{WereFinished, RunsAsAsked}
use Rattle.hw_commands.proofs.FedLaws.{served_all}

module _ {B K : Type 0} (sight : Sight B K) where
  abbrev WasFinished : ℕ → B → Type 0
  WasFinished n b = IfSome (sight.consumed b) (λ (c : Consumed). c.finishes ≡ n)

  -- ---- one consumer

  more_finished : (blocks : List (ℕ × List ℕ)) (n : ℕ) (before after : Option Consumed) → after ≡ option_map (with_more blocks) before → IfSome before (λ (c : Consumed). c.finishes ≡ n) → IfSome after (λ (c : Consumed). c.finishes ≡ n)
  more_finished blocks n None after is h = subst (λ (o : Option Consumed). IfSome o (λ (c : Consumed). c.finishes ≡ n)) (sym is) tt
  more_finished blocks n (Some c) after is h = subst (λ (o : Option Consumed). IfSome o (λ (d : Consumed). d.finishes ≡ n)) (sym is) h

  told_finished : (chain : List (ℕ × List ℕ)) (from n : ℕ) (fate : Fate B) → IsTold sight chain from fate → fate.ended ≡ None → WasFinished n fate.before → WasFinished n fate.after
  told_finished chain from n fate told ended h = more_finished (blocks_between from told.count chain) n (sight.consumed fate.before) (sight.consumed fate.after) told.took h

  once_finished : (before after : Option Consumed) → after ≡ option_map (after_finish (answer_of None)) before → IfSome before (λ (c : Consumed). c.finishes ≡ 0) → IfSome after (λ (c : Consumed). c.finishes ≡ 1)
  once_finished None after is h = subst (λ (o : Option Consumed). IfSome o (λ (c : Consumed). c.finishes ≡ 1)) (sym is) tt
  once_finished (Some c) after is h = subst (λ (o : Option Consumed). IfSome o (λ (d : Consumed). d.finishes ≡ 1)) (sym is) (ap (λ (k : ℕ). k + 1) h)

  end_finished : (fate : Fate B) → IsFinished sight fate → fate.ended ≡ None → WasFinished 0 fate.before → WasFinished 1 fate.after
  end_finished fate f ended h =
      once_finished (sight.consumed fate.before) (sight.consumed fate.after) (f.finish ∙ ap (λ o. option_map (after_finish (answer_of o)) (sight.consumed fate.before)) ended) h

  -- ---- all that are left

  passed_finished : (old new : Moment B) → IsPassed sight old new → WereFinished sight 0 old.consumers → WereFinished sight 0 new.consumers
  passed_finished old new p h =
      served_all (IsTold sight (told_chain new.core) old.kept.passed) (WasFinished 0) (WasFinished 0) (told_finished (told_chain new.core) old.kept.passed 0) old.consumers new.consumers old.kept new.kept p.told h

  fed_finished : (first : Moment B) (moments : List (Moment B)) (last : Moment B) → ArePassed sight first moments last → WereFinished sight 0 first.consumers → WereFinished sight 0 last.consumers
  unfolding ArePassed
  fed_finished first [] last is h = subst (λ (m : Moment B). WereFinished sight 0 m.consumers) (sym is) h
  fed_finished first (m ∷ ms) last are h = fed_finished m ms last are.1 (passed_finished first m are.0 h)

  -- ---- steps

  abbrev Keeps : {X : Type 0} → StepOver B X → Type 0
  Keeps {X} step = (k : ℕ) (old new : Scene B × X) (failed : Bool) → step k old new (Ok failed) → WereFinished sight 0 old.0.around.consumers → WereFinished sight 0 new.0.around.consumers

  taken_finished : {X : Type 0} (step : StepOver B X) → Keeps step → (number : ℕ) (first : Scene B × X) (taken : Taken (Scene B × X)) (last : Scene B × X) → AreTaken step number first taken last
      → WereFinished sight 0 first.0.around.consumers → WereFinished sight 0 last.0.around.consumers
  unfolding AreTaken
  taken_finished {X} step keeps number first [] last is h = subst (λ (s : Scene B × X). WereFinished sight 0 s.0.around.consumers) (sym is) h
  taken_finished step keeps number first (t ∷ ts) last are h = taken_finished step keeps (number + 1) t.0 ts last are.1 (keeps number first t.0 t.1 are.0 h)

  all_finished : {X : Type 0} (step : StepOver B X) → Keeps step → (number count : ℕ) (first last : Scene B × X) (failed : Bool) → TakesAll step number count first last failed
      → WereFinished sight 0 first.0.around.consumers → WereFinished sight 0 last.0.around.consumers
  all_finished step keeps number count first last failed all h = taken_finished step keeps number first all.taken last all.each h

  session_keeps : (tells : Bool) → Keeps (serves_session sight tells)
  session_keeps tells k old new failed s h = passed_finished (moment_of old.0) (moment_of new.0) s.passed h

  host_keeps : (tells : Bool) → Keeps (hosts_session sight tells)
  host_keeps tells k old new failed s h = passed_finished (moment_of old.0) (moment_of new.0) s.passed h

  meet_keeps : (tells : Bool) (address : List ℕ) → Keeps (calls_peer sight tells address)
  meet_keeps tells address k old new failed s h = passed_finished (moment_of old.0) (moment_of new.0) s.passed h

  peer_keeps : (tells : Bool) → Keeps (DrivesSession sight tells)
  peer_keeps tells k old new failed d h = passed_finished (moment_of old.0) (moment_of new.0) d.drives.passed h

  made_keeps : (made : Result (Option Plan) MakeFault) (old new : Scene B) → TellsMade sight made old new (Ok tt) → WereFinished sight 0 old.around.consumers → WereFinished sight 0 new.around.consumers
  made_keeps (Ok p) old new told h = passed_finished (moment_of old) (moment_of new) told.0 h
  made_keeps (Err make.RecordsFull) old new told h = passed_finished (moment_of old) (moment_of new) told.1 h
  made_keeps (Err make.AppendFault) old new told h = absurd (let never = told.0 in cc)
  made_keeps (Err make.OutOfMemory) old new told h = absurd (let never = told.0 in cc)

  turn_keeps : (tells : Bool) (me : ℕ) → Keeps (TakesTurn sight tells me)
  turn_keeps tells me k old new failed t h =
      all_finished (DrivesSession sight tells) (peer_keeps tells) 0 _ (t.turns.between, old.1.peers) (new.0, new.1.peers) failed t.turns.drives
      (made_keeps t.turns.makes.made old.0 t.turns.between t.turns.makes.told h)

  -- ---- the run

  whole_finished : {X : Type 0} (tells : Bool) (names : Names) (me : Option ℕ) (step : StepOver B X) → Keeps step → (number count : ℕ) (before after : Outside B) (x y : X) (served : Served)
      → RunsWhole (runner sight tells names me) (course step number count) (before, x) (after, y) served → WereFinished sight 0 before.consumers → WereFinished sight 1 after.consumers
  whole_finished tells names me step keeps number count before after x y served r h =
      let last : Scene B = r.completes.last in
      let begun = fed_finished _ r.begins.fed.moments (moment_of r.first) r.begins.fed.passed h in
      let stepped = all_finished step keeps number count (r.first, x) (last, y) served.link_failed r.completes.steps begun in
      served_all (IsFinished sight) (WasFinished 0) (WasFinished 1) end_finished last.around.consumers after.consumers last.kept r.completes.reports.kept r.completes.reports.closes.finished stepped

  runs_finished : {X : Type 0} (tells : Bool) (names : Names) (me : Option ℕ) (step : StepOver B X) → Keeps step → (number count : ℕ) (before after : Outside B) (x y : X) (came_to : Result Served ServiceFault)
      → Runs (runner sight tells names me) (course step number count) (before, x) (after, y) came_to → WereFinished sight 0 before.consumers → OnOk came_to (WereFinished sight 1 after.consumers)
  runs_finished tells names me step keeps number count before after x y (Ok served) r h = whole_finished tells names me step keeps number count before after x y served r h
  runs_finished tells names me step keeps number count before after x y (Err e) r h = tt

  pub asked_finished : (s : Service) (tells : Bool) (before after : Outside B) (given given_now : Option (List ℕ)) (came_to : Result Served ServiceFault) → RunsAsAsked sight tells s before after given given_now came_to
      → WereFinished sight 0 before.consumers → OnOk came_to (WereFinished sight 1 after.consumers)
  asked_finished (Serve names address sessions) tells before after given given_now came_to runs h = runs_finished tells names None (serves_session sight tells) (session_keeps tells) 1 sessions before after tt tt came_to runs.0 h
  asked_finished (Run names me turns peers) tells before after given given_now came_to (inl runs) h =
      runs_finished tells names (Some me) (TakesTurn sight tells me) (turn_keeps tells me) 1 turns before after (turning runs.first given) (turning runs.last given_now) came_to runs.runs h
  asked_finished (Run names me turns peers) tells before after given given_now came_to (inr none) h = subst (λ (r : Result Served ServiceFault). OnOk r (WereFinished sight 1 after.consumers)) (sym none.memory) tt
  asked_finished (Host names address sessions) tells before after given given_now came_to runs h = runs_finished tells names None (hosts_session sight tells) (host_keeps tells) 1 sessions before after tt tt came_to runs.0 h
  asked_finished (Meet names peer) tells before after given given_now came_to runs h = runs_finished tells names None (calls_peer sight tells peer) (meet_keeps tells peer) 0 1 before after tt tt came_to runs.0 h
