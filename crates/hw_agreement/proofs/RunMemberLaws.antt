-- A turn in which a validator makes its unit, and sessions with peers that send nothing.
use Rattle.std.proofs.Common.{◌≡◌, ℕ, ◌<◌, inl, true, false, List, [], ◌∷◌, ◌++◌, length, Option, Some, Ok, refl, sym, arith}
use Rattle.std.specs.Prelude.{codes}
use Rattle.std.proofs.lemmas.List.{append-nil}
use Rattle.std.proofs.lemmas.List.Elements.{All-nil, All-from_recursion}
use Rattle.hw_types.specs.declared.answers.Plan.{Plan}
use Rattle.hw_types.specs.Real.{CoreState}
use Rattle.hw_io.specs.Consumers.{Consumed}
use Rattle.hw_io.specs.Faults.{raised}
use Rattle.hw_io.specs.Files.{bytes_of}
use Rattle.hw_codec.specs.Ranges.{AreBytes}
use Rattle.hw_link.specs.declared.end.SessionEnd.TheVariants as end
use Rattle.hw_safety.specs.Chain.{Begins}
use Rattle.hw_replay.specs.Chain.{told_chain}
use Rattle.hw_replay.specs.Feed.{moment, IsPassed}
use Rattle.hw_replay.specs.Told.{IsTold}
use Rattle.hw_session.specs.declared.fault.MakeFault.{MakeFault}
use Rattle.hw_session.specs.Node.{IsSound}
use Rattle.hw_session.specs.Make.{own_vertex, entry_for}
use Rattle.hw_session.specs.Sessions.{session_of}
use Rattle.hw_session.specs.Standing.{Standing}
use Rattle.hw_service.specs.Scene.{DoorSeen, Scene, door_seen, outside, scene}
use Rattle.hw_service.specs.Lines.{end_line}
use Rattle.hw_service.specs.Steps.{Step, AreTaken, TakesAll}
use Rattle.hw_service.specs.Turns.{MakesUnit, made_line}
use Rattle.hw_run_laws.specs.CutMembers.{plain_sight, none_dropped}
use Rattle.hw_run_laws.specs.Members.{making, MayBeDone, first_standing, first_block}
use Rattle.hw_run_laws.proofs.BeginLaws.{one_begins}
use Rattle.hw_run_laws.proofs.GivenLaws.{put, put_appends}
use Rattle.hw_run_laws.proofs.InHandLaws.{quiet_fair}
use Rattle.hw_run_laws.proofs.MemberLaws.{made_sound}
use Rattle.hw_run_laws.proofs.QuietLaws.{quiet_serves}
use Rattle.hw_agreement.specs.RunMembers.{before_turn, first_value, with_first, TurnIsTaken, SessionsAreServed}

-- ---- no consumer is there

-- what was decided is passed to nobody
passed_none : (old new : CoreState) (count : ℕ) → new.config ≡ old.config → Begins old.journal new.journal
    → IsPassed plain_sight (moment old [] (none_dropped [] count)) (moment new [] (none_dropped [] (length (told_chain new))))
passed_none old new count config grown = record {
  config = config;
  grown = grown;
  told = record {
    fates = [];
    each = All-nil (IsTold plain_sight (told_chain new) count);
    whole = refl;
    left = refl;
    spare = [];
    numbered = refl;
    places = refl;
    drops = refl;
    gone = refl;
  };
  passed = refl;
}

-- no steps at all
no_steps : {S : Type 0} (step : Step S) (number : ℕ) (at : S) → TakesAll step number 0 at at false
unfolding AreTaken
no_steps step number at = record { taken = []; count_is = refl; each = refl; failed_is = refl }

-- ---- a turn

abbrev block : Plan
block = first_block first_value

bytes : AreBytes first_value
bytes = All-from_recursion (λ (b : ℕ). b < 256) first_value
    (omega arith, (omega arith, (omega arith, (omega arith, (omega arith, (omega arith, (omega arith, (omega arith, (omega arith, (omega arith, (omega arith, (omega arith, tt))))))))))))

may : MayBeDone 0 (making 16 first_value)
may = (omega arith, omega arith, bytes)

sound_with : IsSound with_first
sound_with = made_sound 0 first_standing one_begins.validator one_begins.sound one_begins.ready 16 first_value may block (one_begins.to_make first_value)

abbrev log_with : List ℕ → Option (List ℕ)
log_with = put first_standing.held first_standing.node.log (bytes_of (first_standing.held first_standing.node.log) ++ entry_for first_standing.node (own_vertex first_standing.node block))

abbrev after_turn : Scene Consumed
after_turn = scene with_first (none_dropped [] (length (told_chain with_first.core))) (outside log_with (door_seen (Some []) 0 0 0) (Some (made_line (Some block))) [])

makes_first : MakesUnit plain_sight true 0 16 before_turn after_turn (Ok tt)
makes_first = record {
  made = Ok (Some block);
  makes = (one_begins.to_make first_value, refl);
  log = λ told. put_appends {E = MakeFault} first_standing.held first_standing.node.log (entry_for first_standing.node (own_vertex first_standing.node block)) block;
  told = (passed_none first_standing.node.core with_first.core 0 refl (own_vertex first_standing.node block ∷ [], refl), refl);
  door = refl;
}

pub turn_is_taken : TurnIsTaken
turn_is_taken = record {
  after = after_turn;
  made = refl;
  turn = record {
    turn = record { moment = 16; early = omega arith; given = tt; turns = record { between = after_turn; makes = makes_first; drives = no_steps _ 0 (after_turn, []) } };
    fair = inl (record { between = after_turn; makes = makes_first; sound = sound_with; drives = no_steps _ 0 (after_turn, []) });
  };
}

-- ---- a session

abbrev seen_at : Standing → DoorSeen → List ℕ → Scene Consumed
seen_at a door written = scene a.node (none_dropped [] (length (told_chain a.node.core))) (outside a.held door (Some written) [])

pub sessions_are_served : SessionsAreServed
sessions_are_served me number a sound = record {
  before = seen_at a (door_seen (Some []) 0 0 0) [];
  after = seen_at a (door_seen (Some (session_of [] [] end.EndOfInput ∷ [])) (raised 0) 0 (raised 0)) (end_line (codes "session") number end.EndOfInput);
  is = refl;
  stays = refl;
  served = record {
    serves = record {
      end = end.EndOfInput;
      talked = record { served = inl (record { read = []; written = []; serves = quiet_serves a.node a.held 0; told = refl }); came = record { accepts = refl; dials = refl } };
      passed = passed_none a.node.core a.node.core (length (told_chain a.node.core)) refl ([], sym (append-nil a.node.core.journal));
      told = (tt, refl, refl);
    };
    fair = quiet_fair me a.node [] end.EndOfInput;
    sound = sound;
  };
}
