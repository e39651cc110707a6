-- Consumers that take what they are told, in replays and runs that are cut short.
use Rattle.std.specs.List.{range_with_len, AllByRecursion}
use Rattle.std.specs.Prelude.{filter, filter_map, codes}
use Rattle.std.proofs.Common.{◌≡◌, ℕ, ◌+◌, true, false, List, [], ◌∷◌, ◌++◌, length, map, Option, Some, None, Ok, Err, inl, inr, refl, sym, ap, subst, arith}
use Rattle.std.proofs.lemmas.List.{take_all, append-nil}
use Rattle.std.proofs.lemmas.List.Elements.{All-from_recursion}
use Rattle.hw_types.specs.Real.{CoreState}
use Rattle.hw_io.specs.Consumers.{Consumed, after_finish}
use Rattle.hw_io.specs.Faults.{raised}
use Rattle.hw_replay.specs.State.{FanoutState}
use Rattle.hw_replay.specs.Chain.{told_chain}
use Rattle.hw_replay.specs.Fates.{Fate, is_left, dropped_as, gone_as, AreServed, answer_of}
use Rattle.hw_replay.specs.Told.{with_more, blocks_between, IsTold, IsFinished}
use Rattle.hw_replay.specs.Feed.{Moment, moment, first_moment, IsPassed, ArePassed, AreFed}
use Rattle.hw_replay.proofs.TellingLaws.{took_none}
use Rattle.hw_link.specs.declared.end.SessionEnd.TheVariants as end
use Rattle.hw_session.specs.Node.{NodeState, IsSound}
use Rattle.hw_session.specs.Restart.{HasLog}
use Rattle.hw_session.specs.Start.{Starts, StartsLog}
use Rattle.hw_session.specs.Standing.{Standing}
use Rattle.hw_service.specs.declared.fault.ServiceFault.TheVariants as fault
use Rattle.hw_service.specs.Scene.{DoorSeen, Scene, scene, none_told}
use Rattle.hw_service.specs.Begin.{Reads, HasBegun}
use Rattle.hw_service.specs.Run.{StepOver, RunsPart, ReportsPart, course, runner}
use Rattle.hw_service.specs.Serve.{ServesOne, serves_session}
use Rattle.hw_service.specs.Turns.{TakesTurn}
use Rattle.hw_service.specs.Runs.{hosts_session, calls_peer}
use Rattle.hw_service.specs.Steps.{AreTaken, TakesAll, TakesUntil}
use Rattle.hw_service.specs.Told.{HoldsSession}
use Rattle.hw_run_laws.specs.CutMembers.{plain_sight, all_took, all_finished, none_dropped, ReplaysAreFed, ReplaysStop, named_as, door_asked, outside_at, IsCutAtReport, RunsAreCut}
use Rattle.hw_run_laws.proofs.QuietLaws.{quiet_serves}
use Rattle.hw_run_laws.proofs.StartLaws.{renewed, renews}
use Rattle.hw_run_laws.proofs.PassedLaws.{same_chain}

-- ---- consumers that are all left

module _ (from to : Consumed → Consumed) where
  abbrev fates : ℕ → List Consumed → List (Fate Consumed)
  fates k [] = []
  fates k (c ∷ cs) = record { place = k; before = from c; after = to c; ended = None } ∷ fates (k + 1) cs

  befores : (k : ℕ) (cs : List Consumed) → map from cs ≡ map (λ fate. fate.before) (fates k cs)
  befores k [] = refl
  befores k (c ∷ cs) = ap (λ (xs : List Consumed). from c ∷ xs) (befores (k + 1) cs)

  afters : (k : ℕ) (cs : List Consumed) → map to cs ≡ map (λ fate. fate.after) (filter is_left (fates k cs))
  afters k [] = refl
  afters k (c ∷ cs) = ap (λ (xs : List Consumed). to c ∷ xs) (afters (k + 1) cs)

  numbered : (k : ℕ) (cs : List Consumed) → range_with_len k (length cs) ≡ map (λ fate. fate.place) (fates k cs) ++ []
  numbered k [] = refl
  numbered k (c ∷ cs) = ap (λ (xs : List ℕ). k ∷ xs) (numbered (k + 1) cs)

  places : (k : ℕ) (cs : List Consumed) → range_with_len k (length cs) ≡ map (λ fate. fate.place) (filter is_left (fates k cs)) ++ []
  places k [] = refl
  places k (c ∷ cs) = ap (λ (xs : List ℕ). k ∷ xs) (places (k + 1) cs)

  drops : (k : ℕ) (cs : List Consumed) → [] ≡ filter_map dropped_as (fates k cs)
  drops k [] = refl
  drops k (c ∷ cs) = drops (k + 1) cs

  gone : (k : ℕ) (cs : List Consumed) → [] ≡ filter_map gone_as (fates k cs)
  gone k [] = refl
  gone k (c ∷ cs) = gone (k + 1) cs

  module _ (meets : Fate Consumed → Type 0) (each : (k : ℕ) (c : Consumed) → meets (record { place = k; before = from c; after = to c; ended = None })) where
    all_meet : (k : ℕ) (cs : List Consumed) → AllByRecursion meets (fates k cs)
    all_meet k [] = tt
    all_meet k (c ∷ cs) = (each k c, all_meet (k + 1) cs)

    all_served : (cs : List Consumed) (count now : ℕ) → AreServed meets (map from cs) (map to cs) (none_dropped cs count) (none_dropped cs now)
    all_served cs count now = record {
      fates = fates 0 cs;
      each = All-from_recursion meets (fates 0 cs) (all_meet 0 cs);
      whole = befores 0 cs;
      left = afters 0 cs;
      spare = [];
      numbered = numbered 0 cs;
      places = places 0 cs;
      drops = drops 0 cs;
      gone = gone 0 cs;
    }

same_all : (cs : List Consumed) → map (λ (c : Consumed). c) cs ≡ cs
same_all [] = refl
same_all (c ∷ cs) = ap (λ (xs : List Consumed). c ∷ xs) (same_all cs)

-- ---- they are told the whole chain, and then nothing more

module _ (chain : List (ℕ × List ℕ)) where
  all_there : blocks_between 0 (length chain) chain ≡ chain
  all_there = take_all (length chain) chain (omega arith)

  told_one : (k : ℕ) (c : Consumed) → IsTold plain_sight chain 0 (record { place = k; before = c; after = with_more chain c; ended = None })
  told_one k c = record {
    count = length chain;
    more = omega arith;
    took = ap (λ (blocks : List (ℕ × List ℕ)). Some (with_more blocks c)) (sym all_there);
    stops = refl;
    cause = record { later = omega arith; failed = refl };
    want = refl;
    kind = refl;
  }

  told_all : (cs : List Consumed) → AreServed (IsTold plain_sight chain 0) cs (all_took chain cs) (none_told cs) (none_dropped cs (length chain))
  told_all cs =
      subst (λ (xs : List Consumed). AreServed (IsTold plain_sight chain 0) xs (all_took chain cs) (none_told cs) (none_dropped cs (length chain))) (same_all cs)
      (all_served (λ c. c) (with_more chain) (IsTold plain_sight chain 0) told_one cs 0 (length chain))

  no_more_one : (k : ℕ) (c : Consumed) → IsTold plain_sight chain (length chain) (record { place = k; before = with_more chain c; after = with_more chain c; ended = None })
  no_more_one k c = record {
    count = length chain;
    more = omega arith;
    took = took_none chain (length chain) (Some (with_more chain c));
    stops = refl;
    cause = record { later = omega arith; failed = refl };
    want = refl;
    kind = refl;
  }

  no_more : (cs : List Consumed) → AreServed (IsTold plain_sight chain (length chain)) (all_took chain cs) (all_took chain cs) (none_dropped cs (length chain)) (none_dropped cs (length chain))
  no_more cs = all_served (with_more chain) (with_more chain) (IsTold plain_sight chain (length chain)) no_more_one cs (length chain) (length chain)

  end_one : (k : ℕ) (c : Consumed) → IsFinished plain_sight (record { place = k; before = with_more chain c; after = after_finish (answer_of None) (with_more chain c); ended = None })
  end_one k c = record { finish = refl; at = tt; cause = record { later = omega arith; failed = refl }; want = refl; kind = refl }

  finished_all : (cs : List Consumed) → AreServed (IsFinished plain_sight) (all_took chain cs) (all_finished chain cs) (none_dropped cs (length chain)) (none_dropped cs (length chain))
  finished_all cs = all_served (with_more chain) (λ c. after_finish (answer_of None) (with_more chain c)) (IsFinished plain_sight) end_one cs (length chain) (length chain)

-- ---- up to a node

module _ (core : CoreState) (cs : List Consumed) where
  abbrev chain : List (ℕ × List ℕ)
  chain = told_chain core

  abbrev fed_moment : Moment Consumed
  fed_moment = moment core (all_took chain cs) (none_dropped cs (length chain))

  passed_once : IsPassed plain_sight (first_moment core.config cs (none_told cs)) fed_moment
  passed_once = record { config = refl; grown = (core.journal, refl); told = told_all chain cs; passed = refl }

  fed_once : AreFed plain_sight (first_moment core.config cs (none_told cs)) fed_moment
  unfolding ArePassed
  fed_once = record { moments = fed_moment ∷ []; passed = (passed_once, refl) }

  passed_again : IsPassed plain_sight fed_moment fed_moment
  passed_again = record { config = refl; grown = ([], sym (append-nil core.journal)); told = no_more chain cs; passed = refl }

-- ---- replays

pub replays_fed : ReplaysAreFed
replays_fed taken rest cs = record { taken = taken; rest = rest; leads = λ told. refl; fed = fed_once taken.core cs }

pub replays_stop : ReplaysStop
replays_stop config read taken rest e cs is stops = record {
  taken = taken;
  rest = rest;
  came = λ told. record { read = read; split = refl; left = is };
  stops = λ told. inr stops;
  fed = fed_once taken.core cs;
}

-- ---- runs

module _ (a : Standing) (config keys written : List ℕ) (cs : List Consumed) (me : Option ℕ) (sound : IsSound a.node) (has : HasLog a.node (a.held a.node.log)) (reads : Reads true (named_as config keys a) me a.held a.node.core.config a.node.keys) where
  abbrev n : NodeState
  n = renewed a.node (a.held a.node.log) has

  abbrev kept : FanoutState Consumed
  kept = none_dropped cs (length (told_chain a.node.core))

  abbrev first : DoorSeen → Scene Consumed
  first door = scene n kept (outside_at a door written (all_took (told_chain a.node.core) cs))

  -- the node that a log gives back tells the same
  abbrev told_to : List (ℕ × List ℕ) → Moment Consumed
  told_to chain = moment n.core (all_took chain cs) (none_dropped cs (length chain))

  is_fed : AreFed plain_sight (first_moment n.core.config cs (none_told cs)) (told_to (told_chain a.node.core))
  is_fed = subst (λ (chain : List (ℕ × List ℕ)). AreFed plain_sight (first_moment n.core.config cs (none_told cs)) (told_to chain)) (same_chain a.node.core None) (fed_once n.core cs)

  is_passed : IsPassed plain_sight (told_to (told_chain a.node.core)) (told_to (told_chain a.node.core))
  is_passed = subst (λ (chain : List (ℕ × List ℕ)). IsPassed plain_sight (told_to chain) (told_to chain)) (same_chain a.node.core None) (passed_again n.core cs)

  starts : Starts a.node.core.config a.node.keys a.node.log (a.held a.node.log) (Ok n)
  starts = subst (λ (file : Option (List ℕ)). Starts a.node.core.config a.node.keys a.node.log file (Ok n)) (sym has.holds) (renews a.node (a.held a.node.log) has sound)

  stays : StartsLog a.node.core.config a.node.log a.held a.held (a.held a.node.log) (Ok n)
  stays = subst (λ (file : Option (List ℕ)). StartsLog a.node.core.config a.node.log a.held a.held file (Ok n)) (sym has.holds) (λ name. refl)

  begun : (door : DoorSeen) → HasBegun plain_sight true (named_as config keys a) me (outside_at a door written cs) (first door)
  begun door = record { reads = reads; starts = λ told. starts; log = λ told. stays; fed = is_fed; door = refl; written = refl }

  -- nothing of the report is written
  unreported : (door : DoorSeen) → ReportsPart plain_sight (first door) (outside_at a door written (all_finished (told_chain a.node.core) cs))
  unreported door = record {
    kept = kept;
    closes = record { finished = finished_all (told_chain a.node.core) cs; files = refl; door = refl };
    written = (0, sym (append-nil written));
  }

  no_steps : {X : Type 0} (step : StepOver Consumed X) (number : ℕ) (at : Scene Consumed × X) → TakesAll step number 0 at at false
  unfolding AreTaken
  no_steps step number at = record { taken = []; count_is = refl; each = refl; failed_is = refl }

  cut_at_report : {X : Type 0} (step : StepOver Consumed X) (door : DoorSeen) (number : ℕ) (x : X)
      → RunsPart (runner plain_sight true (named_as config keys a) me) (course step number 0) ((outside_at a door written cs), x) ((outside_at a door written (all_finished (told_chain a.node.core) cs)), x) fault.Write
  cut_at_report step door number x = record {
    first = first door;
    begins = begun door;
    stops = inr (record { last = first door; failed = false; steps = no_steps step number (first door, x); reports = unreported door });
  }

-- a run of any steps
at_report : {X : Type 0} (me : Option ℕ) (step : StepOver Consumed X) → IsCutAtReport me step
at_report me step a config keys written cs door number x sound has reads = cut_at_report a config keys written cs me sound has reads step door number x

-- a session with a peer that sends nothing, of which nothing is told
module _ (a : Standing) (config keys written : List ℕ) (cs : List Consumed) (number : ℕ) (sound : IsSound a.node) (has : HasLog a.node (a.held a.node.log)) (reads : Reads true (named_as config keys a) None a.held a.node.core.config a.node.keys) where
  abbrev before : Scene Consumed
  before = first a config keys written cs None sound has reads (door_asked 0 0)

  abbrev after : Scene Consumed
  after = first a config keys written cs None sound has reads (door_asked (raised 0) (raised 0))

  quiet : (k : ℕ) → HoldsSession plain_sight (ServesOne true) (codes "session") k before after (Err fault.Write)
  quiet k = record {
    end = end.EndOfInput;
    talked = record {
      served = inl (record { read = []; written = []; serves = quiet_serves (renewed a.node (a.held a.node.log) has) a.held 0; told = refl });
      came = record { accepts = refl; dials = refl };
    };
    passed = is_passed a config keys written cs None sound has reads;
    told = (tt, (0, sym (append-nil written)));
  }

  one_step : TakesUntil (serves_session plain_sight true) number 1 (before, tt) (after, tt) fault.Write
  unfolding AreTaken
  one_step = record { taken = []; fewer = omega arith; before = (before, tt); each = refl; ends = quiet (number + 0) }

  cut_at_session : RunsPart (runner plain_sight true (named_as config keys a) None) (course (serves_session plain_sight true) number 1) (outside_at a (door_asked 0 0) written cs, tt)
      (outside_at a (door_asked (raised 0) (raised 0)) written (all_took (told_chain a.node.core) cs), tt) fault.Write
  cut_at_session = record {
    first = before;
    begins = begun a config keys written cs None sound has reads (door_asked 0 0);
    stops = inl (record { last = after; steps = one_step; left = refl });
  }

pub runs_cut : RunsAreCut
runs_cut = record {
  services = at_report None (serves_session plain_sight true);
  turns = λ me. at_report (Some me) (TakesTurn plain_sight true me);
  hosts = at_report None (hosts_session plain_sight true);
  calls = λ address. at_report None (calls_peer plain_sight true address);
  at_a_session = cut_at_session;
}
