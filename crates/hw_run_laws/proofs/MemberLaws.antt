-- A life of whatever calls, one after the other.
use Rattle.std.specs.Prelude.{IfErr}
use Rattle.std.proofs.Common.{◌≡◌, ◌⊎◌, ℕ, ◌<◌, List, [], ◌∷◌, ◌++◌, length, Option, Some, None, Result, Ok, Err, inl, inr, refl, sym, ap, subst, arith}
use Rattle.std.proofs.lemmas.Bool.{cases_lt}
use Rattle.hw_types.specs.declared.unit.Signature.{Signature}
use Rattle.hw_types.specs.declared.unit.Vertex.{Vertex}
use Rattle.hw_types.specs.declared.answers.Plan.{Plan}
use Rattle.hw_types.specs.declared.answers.Receipt.{Receipt}
use Rattle.hw_types.specs.declared.answers.Cause.{Cause}
use Rattle.hw_types.specs.Below.{Among}
use Rattle.hw_types.specs.Journal.{Setting, is_accepted}
use Rattle.hw_types.specs.Real.{setting_of}
use Rattle.hw_types.specs.Spelling.{VertexFits, Fits}
use Rattle.hw_types.proofs.EntryLaws.{append_cases}
use Rattle.hw_types.proofs.LimitLaws.{within_limits}
use Rattle.hw_io.specs.Faults.{raised}
use Rattle.hw_io.specs.Files.{bytes_of}
use Rattle.hw_codec.specs.Ranges.{VertexInRange}
use Rattle.hw_honest.specs.Plans.{IsPlanned, HasNamesake}
use Rattle.hw_honest.proofs.NewLaws.{plan_is_answered}
use Rattle.hw_link.specs.declared.end.SessionEnd.TheVariants as end
use Rattle.hw_link.specs.Talk.{said_bytes}
use Rattle.hw_session.specs.declared.fault.MakeFault.{MakeFault}
use Rattle.hw_session.specs.declared.fault.MakeFault.TheVariants as fault
use Rattle.hw_session.specs.declared.fault.AcceptFault.TheVariants as accept_fault
use Rattle.hw_session.specs.Node.{NodeState, IsSound}
use Rattle.hw_session.specs.Accept.{given_to, taken_by, IsOfNode, IsTakenIn}
use Rattle.hw_session.specs.Make.{planned_by, own_vertex, entry_for, with_entry, IsNamesake, IsToMake, IsTooMany, IsNothing}
use Rattle.hw_session.specs.Restart.{journal_log}
use Rattle.hw_session.specs.Driving.{hello}
use Rattle.hw_session.specs.Standing.{Standing}
use Rattle.hw_meeting_node.specs.declared.end.MeetEnd.TheVariants as met_end
use Rattle.hw_run_laws.specs.Calls.{IsFairVertex, Attempt, makes, accepts, serves, drives, meets, IsWhole, StartsAgain, Call, goes_on, starts, gives_up, IsReady}
use Rattle.hw_run_laws.specs.Members.{Deed, making, accepting, serving, driving, meeting, Turn, does, stops, drops, deed_of, turn_of, MayBeDone, MayTurn, LivesAreThere}
use Rattle.hw_run_laws.proofs.AttemptLaws.{takes_fairly, make_lives, lives_soundly}
use Rattle.hw_run_laws.proofs.CallLaws.{call_ready, call_validator}
use Rattle.hw_run_laws.proofs.GivenLaws.{put, put_appends, files_after, receipt_writes, each_by, given_known}
use Rattle.hw_run_laws.proofs.LifeLaws.{takes_one}
use Rattle.hw_run_laws.proofs.MeetLaws.{accepted_is}
use Rattle.hw_meeting_node.proofs.RangeLaws.{hash_in_range}
use Rattle.hw_run_laws.proofs.PlanLaws.{unit_fits, unit_in_range}
use Rattle.hw_run_laws.proofs.QuietLaws.{fair_to_server, fair_to_driver, quiet_serves, quiet_drives, before_meeting, behind_meeting, quiet_meets, fair_met}
use Rattle.hw_run_laws.proofs.StartLaws.{reached, each_fits, reached_again, renewed, renews}

-- ---- one call

-- the node does this, goes on, and is sound
record Done (me : ℕ) (a : Standing) (deed : Deed) : Type 0 where
  next : Standing
  attempt : Attempt me a next
  is : deed_of attempt ≡ deed
  whole : IsWhole attempt
  sound : IsSound next.node

module _ (me : ℕ) (a : Standing) (validator : me < length a.node.core.config.weights) (sound : IsSound a.node) (ready : IsReady me a) where
  abbrev n : NodeState
  n = a.node

  abbrev s : Setting
  s = setting_of a.node.core.config

  -- ---- a unit that is made

  module _ (now : ℕ) (value : List ℕ) (may : MayBeDone me (making now value)) where
    abbrev planned : Option Plan
    planned = planned_by a.node me now value

    module _ (p : Plan) (is : planned ≡ Some p) where
      pub is_planned : IsPlanned s a.node.core.journal me now value p
      is_planned = record { sound = sound.kept.lawful; validator = validator; is = is }

      pub fits : Fits p.unit
      fits = unit_fits a.node.core.config a.node.core.journal (λ v m. (each_fits a.node sound v m).0) me now value p is_planned (λ v m. (each_fits a.node sound v m).1) may.0 may.1

      pub in_range : length a.node.core.journal < a.node.core.config.max_records → VertexInRange (own_vertex a.node p)
      in_range room =
          let records = (within_limits a.node.core.config sound.kept.lawful).records.1 in
          record {
            unit = unit_in_range a.node.core.config a.node.core.journal (λ v m. (each_fits a.node sound v m).0) me now value p is_planned fits may.2 (omega (arith, room, records));
            signature = hash_in_range _;
          }

      -- another unit has its name, or none has
      decided : IsNamesake a.node p ⊎ (IsNamesake a.node p → ⊥)
      decided =
          let none : Signature = record { 0 = [] } in
          let journal = reached a.node sound in
          subst (λ (j : List Vertex). HasNamesake s j p ⊎ (HasNamesake s j p → ⊥)) (sym journal)
          (plan_is_answered s sound.kept.reached.deliveries me now value p none (subst (λ (j : List Vertex). IsPlanned s j me now value p) journal is_planned)).decided

    -- nothing is made
    makes_none : IsNothing a.node planned → Done me a (making now value)
    makes_none nothing = record { next = a; attempt = makes now value (Ok None) (nothing, refl) (λ name. refl); is = refl; whole = tt; sound = sound }

    -- the journal is full
    makes_full : IsTooMany a.node planned → Done me a (making now value)
    makes_full many = record {
      next = record { node = record n { limited = raised a.node.limited }; held = a.held };
      attempt = makes now value (Err fault.RecordsFull) (many, refl) (λ name. refl);
      is = refl;
      whole = tt;
      sound = record { kept = record { lawful = sound.kept.lawful; keys = sound.kept.keys; reached = sound.kept.reached }; config = sound.config; vertices = sound.vertices };
    }

    -- the node with the unit is sound
    pub made_sound : (p : Plan) → IsToMake a.node planned p → IsSound (with_entry a.node (own_vertex a.node p))
    made_sound p made = lives_soundly me a.node sound validator ready.line (with_entry a.node (own_vertex a.node p))
        (make_lives me a.node sound validator ready.line now value (with_entry a.node (own_vertex a.node p)) (Ok (Some p)) (made, refl)) each
      where
        each : (v : Vertex) → Among v (a.node.core.journal ++ own_vertex a.node p ∷ []) → VertexInRange v × VertexFits v
        each v m = elim (append_cases v a.node.core.journal (own_vertex a.node p ∷ []) m) [
          | inl old ↦ each_fits a.node sound v old
          | inr (inl is) ↦ subst (λ (w : Vertex). VertexInRange w × VertexFits w) is (in_range p made.is made.room, fits p made.is)
          | inr (inr never) ↦ absurd never
        ]

    -- the unit is made
    makes_one : (p : Plan) → IsToMake a.node planned p → Done me a (making now value)
    makes_one p made = record {
      next = record { node = with_entry a.node (own_vertex a.node p); held = put a.held a.node.log (bytes_of (a.held a.node.log) ++ entry_for a.node (own_vertex a.node p)) };
      attempt = makes now value (Ok (Some p)) (made, refl) (put_appends {E = MakeFault} a.held a.node.log (entry_for a.node (own_vertex a.node p)) p);
      is = refl;
      whole = tt;
      sound = made_sound p made;
    }

    makes_by : (o : Option Plan) → planned ≡ o → Done me a (making now value)
    makes_by None is = makes_none (inl is)
    makes_by (Some p) is = elim (decided p is) [
      | inl namesake ↦ makes_none (inr (p, is, namesake))
      | inr free ↦ elim (cases_lt (length a.node.core.journal) a.node.core.config.max_records) [
        | inl room ↦ makes_one p (record { is = is; apart = free; room = room })
        | inr full ↦ makes_full (record { plan = p; is = is; apart = free; full = full })
      ]
    ]

  -- ---- a vertex that is handed over

  module _ (v : Vertex) (may : MayBeDone me (accepting v)) where
    pub fair : IsFairVertex me a.node v
    fair = (λ accepted x there own. absurd (may.2 x there own), tt)

    -- each vertex behind it is in range and fits
    each_behind : (w : Vertex) → Among w (taken_by a.node v (given_to a.node v)).core.journal → VertexInRange w × VertexFits w
    each_behind = each_by a.node v (λ (w : Vertex). VertexInRange w × VertexFits w) (each_fits a.node sound) (may.0, may.1) (given_to a.node v)

    sound_behind : IsSound (taken_by a.node v (given_to a.node v))
    sound_behind = lives_soundly me a.node sound validator ready.line (taken_by a.node v (given_to a.node v))
        (takes_fairly me a.node (taken_by a.node v (given_to a.node v)) (v ∷ []) fair (takes_one a.node (taken_by a.node v (given_to a.node v)) v [] refl)) each_behind

    -- where it is accepted, so is the node with its entry
    pub entry_sound : IsTakenIn a.node v → IsSound (with_entry a.node v)
    entry_sound accepted = subst (λ (m : NodeState). IsSound m) (accepted_is a.node v (given_to a.node v) accepted) sound_behind

    accepts_by : (x : Result Receipt Cause) → given_to a.node v ≡ x → Done me a (accepting v)
    accepts_by (Ok r) is = record {
      next = record { node = taken_by a.node v (Ok r); held = files_after a.node v a.held (is_accepted (Ok r)) };
      attempt = accepts v (Ok r) (is, refl) (receipt_writes a.node v a.held r) fair;
      is = refl;
      whole = tt;
      sound = subst (λ (y : Result Receipt Cause). IsSound (taken_by a.node v y)) is sound_behind;
    }
    accepts_by (Err c) is = record {
      next = record { node = taken_by a.node v (Err c); held = a.held };
      attempt = accepts v (Err (accept_fault.Refused c)) (subst (λ (y : Result Receipt Cause). IfErr y IsOfNode) is (given_known a.node v), is, refl) (λ name. refl) fair;
      is = refl;
      whole = tt;
      sound = subst (λ (y : Result Receipt Cause). IsSound (taken_by a.node v y)) is sound_behind;
    }

  -- ---- what it does

  done : (deed : Deed) → MayBeDone me deed → Done me a deed
  done (making now value) may = makes_by now value may (planned_by a.node me now value) refl
  done (accepting v) may = accepts_by v may (given_to a.node v) refl
  done serving may = record {
    next = a;
    attempt = serves [] [] 0 (raised 0) end.EndOfInput (quiet_serves a.node a.held 0) (fair_to_server me a.node);
    is = refl;
    whole = tt;
    sound = sound;
  }
  done (driving mark) may = record {
    next = a;
    attempt = drives mark mark [] (said_bytes (hello a.node ∷ [])) 0 (raised 0) end.EndOfInput (quiet_drives a.node mark a.held 0) (fair_to_driver me a.node mark);
    is = refl;
    whole = tt;
    sound = sound;
  }
  done (meeting side address) may = record {
    next = a;
    attempt = meets side address before_meeting (behind_meeting side address a.node.core) met_end.EndOfInput (quiet_meets side address a) (fair_met me side a.node);
    is = refl;
    whole = tt;
    sound = sound;
  }

  -- ---- a start

  -- the standing behind a start from its log
  abbrev started : Standing
  started = record { node = renewed a.node (a.held a.node.log) ready.log; held = a.held }

  starts_again : StartsAgain a started
  starts_again = record {
    bytes = journal_log ready.log.version a.node.core.config a.node.core.journal;
    from = inl ready.log.holds;
    there = ready.log.holds;
    on = renews a.node (a.held a.node.log) ready.log sound;
  }

  started_sound : IsSound started.node
  started_sound = record { kept = record { lawful = sound.kept.lawful; keys = sound.kept.keys; reached = reached_again a.node sound }; config = sound.config; vertices = sound.vertices }

-- ---- calls

-- one call of this kind, and the standing behind it
record Turned (me : ℕ) (a : Standing) (turn : Turn) : Type 0 where
  next : Standing
  call : Call me a next
  is : turn_of call ≡ turn
  sound : IsSound next.node

turned : (me : ℕ) (a : Standing) → me < length a.node.core.config.weights → IsSound a.node → IsReady me a → (turn : Turn) → MayTurn me turn → Turned me a turn
turned me a validator sound ready (does deed) may =
    let d = done me a validator sound ready deed may in
    record { next = d.next; call = goes_on d.attempt d.whole; is = ap does d.is; sound = d.sound }
turned me a validator sound ready stops may = record {
  next = started me a validator sound ready;
  call = starts (starts_again me a validator sound ready);
  is = refl;
  sound = started_sound me a validator sound ready;
}
turned me a validator sound ready (drops deed) may =
    let d = done me a validator sound ready deed may in
    let call : Call me a d.next = goes_on d.attempt d.whole in
    let still = call_validator me a d.next sound validator ready call in
    let again = call_ready me a d.next sound validator ready call in
    record {
      next = started me d.next still d.sound again;
      call = gives_up d.next d.attempt d.sound (starts_again me d.next still d.sound again);
      is = ap drops d.is;
      sound = started_sound me d.next still d.sound again;
    }

pub lives_there : LivesAreThere
lives_there me a [] validator sound ready may = ([], tt, refl)
lives_there me a (turn ∷ turns) validator sound ready (first, others) =
    let t = turned me a validator sound ready turn first in
    let rest = lives_there me t.next turns (call_validator me a t.next sound validator ready t.call) t.sound (call_ready me a t.next sound validator ready t.call) others in
    (t.next ∷ rest.0, (t.call, t.sound, rest.1), λ i. t.is i ∷ rest.2 i)
