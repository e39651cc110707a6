-- A session that is driven frame by frame.
use Rattle.std.specs.Prelude.{◌==◌, ◌||◌}
use Rattle.std.specs.Option.{option_map}
use Rattle.std.proofs.Common.{◌≡◌, ◌⊎◌, ℕ, zero, suc, ◌+◌, ◌≤◌, Bool, true, false, cond, List, [], ◌∷◌, ◌++◌, length, take, drop, Option, Some, None, Result, Ok, Err, inl, inr, refl, sym, ap, subst, ◌∙◌, arith, length-append}
use Rattle.std.proofs.lemmas.List.{append_assoc, append-nil, take_all}
use Rattle.std.proofs.lemmas.Bool.{le-leb}
use Rattle.hw_types.specs.declared.unit.Vertex.{Vertex}
use Rattle.hw_types.specs.declared.unit.Need.{Need}
use Rattle.hw_types.specs.declared.answers.Frame.{Frame}
use Rattle.hw_types.specs.declared.answers.Frame.TheVariants as frame
use Rattle.hw_types.specs.declared.answers.Receipt.{Receipt}
use Rattle.hw_types.specs.declared.answers.Cause.{Cause}
use Rattle.hw_types.specs.declared.answers.Cause.TheVariants as cause
use Rattle.hw_types.specs.Graph.{digest_eq}
use Rattle.hw_types.specs.Spelling.{instance_of}
use Rattle.hw_io.specs.declared.outside.IoFault.{IoFault}
use Rattle.hw_io.specs.declared.outside.IoFault.TheVariants.{Failed, OutOfMemory as NoMemory}
use Rattle.hw_io.specs.Doors.{Session, Ask, AsksMore, fresh_session, with_failure, with_last, sessions_after}
use Rattle.hw_io.specs.Faults.{raised}
use Rattle.hw_core.specs.Readers.{unmet_in}
use Rattle.hw_link.specs.declared.end.SessionEnd.{SessionEnd}
use Rattle.hw_link.specs.declared.end.SessionEnd.TheVariants as end
use Rattle.hw_link.specs.declared.read.Heard.{Heard}
use Rattle.hw_link.specs.Frames.{Placed, framed, sent_bytes, rest_at, frame_here, frames_in, cut_end, byte_limit}
use Rattle.hw_link.specs.Talk.{Reaction, Talk, ends, talk, said_bytes, before_last, IsPrefixOf, IsWritten}
use Rattle.hw_link.specs.Links.{gone_on, after_part, is_link_fault, end_of_fault}
use Rattle.hw_link.specs.Sent.{Sends}
use Rattle.hw_link.specs.UnderWay.{HasFrame, EndsIn, IsRefused, HasHeard, talk_from, behind_said, placed_behind}
use Rattle.hw_link.specs.Asked.{IsAskedInside, IsAskedBehind}
use Rattle.hw_link.specs.Heard.{Hears, Says, IsHeard, IsEndCounted}
use Rattle.hw_link.specs.Told.{door_told}
use Rattle.hw_link.proofs.AskLaws.{next_asked}
use Rattle.hw_link.proofs.HeardLaws.{reads_frame_by_frame}
use Rattle.hw_session.specs.declared.stage.PeerMark.{PeerMark}
use Rattle.hw_session.specs.declared.stage.Onward.{Onward}
use Rattle.hw_session.specs.declared.stage.Stage.{Stage}
use Rattle.hw_session.specs.declared.stage.Stage.TheVariants as stage
use Rattle.hw_session.specs.Node.{NodeState}
use Rattle.hw_session.specs.Make.{with_entry}
use Rattle.hw_session.specs.Grows.{Logs, LogsAllBut}
use Rattle.hw_session.specs.Accept.{given_to, taken_by}
use Rattle.hw_session.specs.Driving.{Driver, hello, greeting, want_some, want, pull, push_first, push, to_push, with_pushed, with_pulled, not_due, after_vertex, drive_have, drive_at, drive_step, driven, driven_said}
use Rattle.hw_session.specs.Handling.{Took, Stayed, WasCut, Reacts, Quits}
use Rattle.hw_session.specs.Sessions.{EndsAs, IsCutEnd, IsReadNoFurther, IsAnswered, IsSaidSoFar}
use Rattle.hw_session.specs.DriveHandling.{node_part, IsDue, HandlesAs}
use Rattle.hw_session.specs.Drives.{IsDrivenEnd, StandsDrivenCut, LeavesDriven, LeavesMark, Drives, DrivesThere, DrivesPeer, DrivesNone}
use Rattle.hw_session.specs.Standing.{standing, driver_standing}
use Rattle.hw_session.proofs.ReactLaws.{one_sent}
use Rattle.hw_link.proofs.LinkLaws.{after_nothing}
use Rattle.hw_session.proofs.GrowsLaws.{logs_nothing, logs_then, logs_but}
use Rattle.hw_session.proofs.FurtherLaws.{NoneBehind, frame_alone, none_there, part_cut, none_further, no_further, stops_so}
use Rattle.hw_session.proofs.ServingLaws.{cut_so_far, before_last_one, said_more, before_less, told_read, told_then, fault_alike, IsOfFrame, some_of, no_frame_so, prefix_of_more, prefix_of_last, IsPlain, all_written, all_said, is_answered}

-- ---- which reactions end a session

pull_goes : (d : Driver) (again : ℕ) (e : SessionEnd) → (pull d again).end ≡ Some e → ⊥
pull_goes d again e is = cc

push_goes : (d : Driver) (left : ℕ) (e : SessionEnd) → (push d left).end ≡ Some e → ⊥
push_goes d zero e is = cc
push_goes d (suc left) e is = go (drop d.mark.pushed d.node.core.journal) is
  where
    go : (vs : List Vertex) → (push_first d left vs).end ≡ Some e → ⊥
    go [] h = cc
    go (v ∷ vs) h = cc

want_goes : (d : Driver) (e : SessionEnd) → (want d).end ≡ Some e → ⊥
want_goes d e is = go (take 64 (unmet_in d.node.core)) is
  where
    go : (ns : List Need) → (want_some d ns).end ≡ Some e → ⊥
    go [] h = cc
    go (n ∷ ns) h = cc

vertex_ends : (d : Driver) (a : Result Receipt Cause) (e : SessionEnd) → (after_vertex d a).end ≡ Some e → IsOfFrame e
vertex_ends d (Ok r) e is = absurd cc
vertex_ends d (Err cause.BadSignature) e is = absurd cc
vertex_ends d (Err (cause.Local rule)) e is = absurd cc
vertex_ends d (Err (cause.Pair f)) e is = absurd cc
vertex_ends d (Err (cause.Clash c)) e is = some_of end.Clash e tt is
vertex_ends d (Err cause.RecordsFull) e is = absurd cc
vertex_ends d (Err cause.ParkFull) e is = absurd cc
vertex_ends d (Err cause.OutOfMemory) e is = absurd cc

told_goes : (d : Driver) (again place : ℕ) (e : SessionEnd) → (drive_have d again place).end ≡ Some e → ⊥
told_goes d zero place e is = want_goes (with_pulled d place) e is
told_goes d (suc more) place e is = go (place == d.mark.pulled) is
  where
    go : (b : Bool) → (cond b (want (with_pulled d place)) (pull (with_pulled d place) more)).end ≡ Some e → ⊥
    go true h = want_goes (with_pulled d place) e h
    go false h = pull_goes (with_pulled d place) more e h

bad : (d : Driver) (at : ℕ) (e : SessionEnd) → (not_due d at).end ≡ Some e → IsOfFrame e
bad d at e is = some_of (end.BadFrame at) e tt is

at_ends : (s : Stage) (d : Driver) (at : ℕ) (f : Frame) (e : SessionEnd) → (drive_at s d at f).end ≡ Some e → IsOfFrame e
at_ends stage.Greeting d at (frame.Hello instance) e is = go (digest_eq instance (instance_of d.node.core.config)) is
  where
    go : (b : Bool) → (cond b (push d (to_push d)) (ends d [] end.WrongInstance)).end ≡ Some e → IsOfFrame e
    go true h = absurd (push_goes d (to_push d) e h)
    go false h = some_of end.WrongInstance e tt h
at_ends stage.Greeting d at (frame.Vertex v) e is = bad d at e is
at_ends stage.Greeting d at (frame.Have place) e is = bad d at e is
at_ends stage.Greeting d at (frame.Want needs) e is = bad d at e is
at_ends stage.Greeting d at frame.Done e is = bad d at e is
at_ends stage.Greeting d at (frame.Missing need) e is = bad d at e is
at_ends (stage.Pushing left) d at (frame.Want needs) e is = absurd (push_goes (with_pushed d) left e is)
at_ends (stage.Pushing left) d at (frame.Hello instance) e is = bad d at e is
at_ends (stage.Pushing left) d at (frame.Vertex v) e is = bad d at e is
at_ends (stage.Pushing left) d at (frame.Have place) e is = bad d at e is
at_ends (stage.Pushing left) d at frame.Done e is = bad d at e is
at_ends (stage.Pushing left) d at (frame.Missing need) e is = bad d at e is
at_ends (stage.Pulling again) d at (frame.Vertex v) e is = vertex_ends (record d { node = taken_by d.node v (given_to d.node v) }) (given_to d.node v) e is
at_ends (stage.Pulling again) d at (frame.Have place) e is = absurd (told_goes d again place e is)
at_ends (stage.Pulling again) d at (frame.Hello instance) e is = bad d at e is
at_ends (stage.Pulling again) d at (frame.Want needs) e is = bad d at e is
at_ends (stage.Pulling again) d at frame.Done e is = bad d at e is
at_ends (stage.Pulling again) d at (frame.Missing need) e is = bad d at e is
at_ends stage.Wanting d at (frame.Vertex v) e is = vertex_ends (record d { node = taken_by d.node v (given_to d.node v) }) (given_to d.node v) e is
at_ends stage.Wanting d at (frame.Have place) e is = absurd cc
at_ends stage.Wanting d at (frame.Missing need) e is = absurd cc
at_ends stage.Wanting d at (frame.Hello instance) e is = bad d at e is
at_ends stage.Wanting d at (frame.Want needs) e is = bad d at e is
at_ends stage.Wanting d at frame.Done e is = bad d at e is
at_ends stage.Leaving d at frame.Done e is = some_of end.Done e tt is
at_ends stage.Leaving d at (frame.Hello instance) e is = bad d at e is
at_ends stage.Leaving d at (frame.Vertex v) e is = bad d at e is
at_ends stage.Leaving d at (frame.Have place) e is = bad d at e is
at_ends stage.Leaving d at (frame.Want needs) e is = bad d at e is
at_ends stage.Leaving d at (frame.Missing need) e is = bad d at e is

step_ends : (d : Driver) (f : Placed) (e : SessionEnd) → (drive_step d f).end ≡ Some e → IsOfFrame e
unfolding drive_step
step_ends d f e is = at_ends d.stage d f.at f.frame e is

-- ---- what a frame moves

first_moves : (d : Driver) (left : ℕ) (vs : List Vertex) → (push_first d left vs).state.node ≡ d.node
first_moves d left [] = refl
first_moves d left (v ∷ vs) = refl

push_moves : (d : Driver) (left : ℕ) → (push d left).state.node ≡ d.node
push_moves d zero = refl
push_moves d (suc left) = first_moves d left (drop d.mark.pushed d.node.core.journal)

some_moves : (d : Driver) (ns : List Need) → (want_some d ns).state.node ≡ d.node
some_moves d [] = refl
some_moves d (n ∷ ns) = refl

told_moves : (d : Driver) (again place : ℕ) → (drive_have d again place).state.node ≡ d.node
told_moves d zero place = some_moves (with_pulled d place) (take 64 (unmet_in d.node.core))
told_moves d (suc more) place = go (place == d.mark.pulled)
  where
    go : (b : Bool) → (cond b (want (with_pulled d place)) (pull (with_pulled d place) more)).state.node ≡ d.node
    go true = some_moves (with_pulled d place) (take 64 (unmet_in d.node.core))
    go false = refl

-- a vertex moves no mark
vertex_moves : (d : Driver) (a : Result Receipt Cause) → (after_vertex d a).state.mark ≡ d.mark
vertex_moves d (Ok r) = refl
vertex_moves d (Err cause.BadSignature) = refl
vertex_moves d (Err (cause.Local rule)) = refl
vertex_moves d (Err (cause.Pair f)) = refl
vertex_moves d (Err (cause.Clash c)) = refl
vertex_moves d (Err cause.RecordsFull) = refl
vertex_moves d (Err cause.ParkFull) = refl
vertex_moves d (Err cause.OutOfMemory) = refl

vertex_at : (s : Stage) (d : Driver) (at : ℕ) (v : Vertex) → (drive_at s d at (frame.Vertex v)).state.mark ≡ d.mark
vertex_at stage.Greeting d at v = refl
vertex_at (stage.Pushing left) d at v = refl
vertex_at (stage.Pulling again) d at v = vertex_moves (record d { node = taken_by d.node v (given_to d.node v) }) (given_to d.node v)
vertex_at stage.Wanting d at v = vertex_moves (record d { node = taken_by d.node v (given_to d.node v) }) (given_to d.node v)
vertex_at stage.Leaving d at v = refl

vertex_stays : (d : Driver) (at : ℕ) (f : Frame) (v : Vertex) → f ≡ frame.Vertex v → (drive_step d (record { at = at; frame = f })).state.mark ≡ d.mark
unfolding drive_step
vertex_stays d at f v is = subst (λ (x : Frame). (drive_at d.stage d at x).state.mark ≡ d.mark) (sym is) (vertex_at d.stage d at v)

-- a frame leaves the node as it was, or the marks
at_moves : (s : Stage) (d : Driver) (at : ℕ) (f : Frame) → ((drive_at s d at f).state.node ≡ d.node) ⊎ ((drive_at s d at f).state.mark ≡ d.mark)
at_moves s d at (frame.Vertex v) = inr (vertex_at s d at v)
at_moves stage.Greeting d at (frame.Hello instance) = inl (go (digest_eq instance (instance_of d.node.core.config)))
  where
    go : (b : Bool) → (cond b (push d (to_push d)) (ends d [] end.WrongInstance)).state.node ≡ d.node
    go true = push_moves d (to_push d)
    go false = refl
at_moves stage.Greeting d at (frame.Have place) = inl refl
at_moves stage.Greeting d at (frame.Want needs) = inl refl
at_moves stage.Greeting d at (frame.Missing need) = inl refl
at_moves stage.Greeting d at frame.Done = inl refl
at_moves (stage.Pushing left) d at (frame.Want needs) = inl (push_moves (with_pushed d) left)
at_moves (stage.Pushing left) d at (frame.Hello instance) = inl refl
at_moves (stage.Pushing left) d at (frame.Have place) = inl refl
at_moves (stage.Pushing left) d at (frame.Missing need) = inl refl
at_moves (stage.Pushing left) d at frame.Done = inl refl
at_moves (stage.Pulling again) d at (frame.Have place) = inl (told_moves d again place)
at_moves (stage.Pulling again) d at (frame.Hello instance) = inl refl
at_moves (stage.Pulling again) d at (frame.Want needs) = inl refl
at_moves (stage.Pulling again) d at (frame.Missing need) = inl refl
at_moves (stage.Pulling again) d at frame.Done = inl refl
at_moves stage.Wanting d at (frame.Have place) = inl refl
at_moves stage.Wanting d at (frame.Missing need) = inl refl
at_moves stage.Wanting d at (frame.Hello instance) = inl refl
at_moves stage.Wanting d at (frame.Want needs) = inl refl
at_moves stage.Wanting d at frame.Done = inl refl
at_moves stage.Leaving d at frame.Done = inl refl
at_moves stage.Leaving d at (frame.Hello instance) = inl refl
at_moves stage.Leaving d at (frame.Have place) = inl refl
at_moves stage.Leaving d at (frame.Want needs) = inl refl
at_moves stage.Leaving d at (frame.Missing need) = inl refl

step_moves : (d : Driver) (f : Placed) → ((drive_step d f).state.node ≡ d.node) ⊎ ((drive_step d f).state.mark ≡ d.mark)
unfolding drive_step
step_moves d f = at_moves d.stage d f.at f.frame

-- ---- how far a session came

-- what was read so far was read of the session that is there, the node and its log stand behind it, and all was answered
pub record IsDriving (n : NodeState) (mark : PeerMark) (d : Driver) (place : ℕ) (tells : Bool) (held_old held_now : List ℕ → Option (List ℕ)) (old now : Option (List Session)) : Type 0 where
  pub read : List ℕ
  pub said : List (List Frame)
  pub place_is : place ≡ length read
  pub within : length read ≤ byte_limit
  pub heard : HasHeard (hello n) drive_step (greeting n mark) read said d
  pub logs : Logs n d.node tells held_old held_now
  pub told : now ≡ after_part read (said_bytes said) false old
  pub no_further : IsReadNoFurther (λ (bytes : List ℕ). (driven n mark bytes).end) read

module _ (n : NodeState) (mark : PeerMark) where
  abbrev begun : Driver
  begun = greeting n mark

  -- the talk of a node that drives
  abbrev Whole : List ℕ → Driver → List (List Frame) → SessionEnd → Type 0
  Whole bytes d said e = driven n mark bytes ≡ record { state = d; said = said; end = e }

  -- Hello was said
  pub driving_begins : (tells : Bool) (held : List ℕ → Option (List ℕ)) (old new : Option (List Session)) → new ≡ after_part [] (sent_bytes (hello n)) false old → IsDriving n mark begun 0 tells held held old new
  driving_begins tells held old new is = record {
    read = [];
    said = hello n ∷ [];
    place_is = refl;
    within = omega arith;
    heard = (reads_frame_by_frame Driver).begins drive_step (hello n) begun;
    logs = logs_nothing tells n held held (λ t name. refl);
    told = is ∙ ap (λ (b : List ℕ). after_part [] b false old) (sym (append-nil (sent_bytes (hello n))));
    no_further = none_further (λ (bytes : List ℕ). (driven n mark bytes).end);
  }

  -- ---- what is known at a place

  here_is : (d : Driver) (k : ℕ) → talk_from drive_step d (rest_at k []) ≡ record { state = d; said = []; end = cut_end (rest_at k []) }
  unfolding talk frames_in
  here_is d k = refl

  heard_here : (read : List ℕ) (said : List (List Frame)) (d : Driver) → HasHeard (hello n) drive_step begun read said d → length read ≤ byte_limit → Whole read d said (cut_end (rest_at (length read) []))
  heard_here read said d heard few =
      let under = heard [] (subst (λ (r : List ℕ). length r ≤ byte_limit) (sym (append-nil read)) few) in
      ap (driven n mark) (sym (append-nil read)) ∙ under.says ∙ ap (behind_said said) (here_is d (length read))
      ∙ ap (λ (s : List (List Frame)). record { state = d; said = s; end = cut_end (rest_at (length read) []) }) (append-nil said)

  -- whatever was read, the first part of what was said stands first
  heard_first : (read : List ℕ) (said : List (List Frame)) (d : Driver) → HasHeard (hello n) drive_step begun read said d → (part : List ℕ) → length (read ++ part) ≤ byte_limit
      → (more : List (List Frame)) × ((driven n mark (read ++ part)).said ≡ said ++ more)
  heard_first read said d heard part few = ((talk_from drive_step d (rest_at (length read) part)).said, ap (λ (t : Talk Driver). t.said) (heard part few).says)

  module _ (d : Driver) (read : List ℕ) (said : List (List Frame)) (heard : HasHeard (hello n) drive_step begun read said d) (part : List ℕ) (f : Frame) (has : HasFrame (length read) part f) where
    abbrev r : Reaction Driver
    r = drive_step d (placed_behind read f)

    leads : r.end ≡ None → HasHeard (hello n) drive_step begun (read ++ part) (said ++ r.says ∷ []) r.state
    leads none = (reads_frame_by_frame Driver).leads_on drive_step (hello n) begun read said d part f heard has none

    stops : (e : SessionEnd) → r.end ≡ Some e → (more : List ℕ) → length (read ++ part ++ more) ≤ byte_limit → Whole (read ++ part ++ more) r.state (said ++ r.says ∷ []) e
    stops e some more few =
        subst (λ (bytes : List ℕ). Whole bytes r.state (said ++ r.says ∷ []) e) (sym (append_assoc read part more))
        ((reads_frame_by_frame Driver).frame_ends drive_step (hello n) begun read said d part f e heard has some more (subst (λ (bytes : List ℕ). length bytes ≤ byte_limit) (append_assoc read part more) few))

    stops_here : (e : SessionEnd) → r.end ≡ Some e → length (read ++ part) ≤ byte_limit → Whole (read ++ part) r.state (said ++ r.says ∷ []) e
    stops_here e some few =
        subst (λ (bytes : List ℕ). Whole bytes r.state (said ++ r.says ∷ []) e) (append-nil (read ++ part))
        (stops e some [] (subst (λ (bytes : List ℕ). length bytes ≤ byte_limit) (sym (append-nil (read ++ part))) few))

    -- whether the frame ends the session or not
    behind : (o : Option SessionEnd) → r.end ≡ o → length (read ++ part) ≤ byte_limit → (e : SessionEnd) × Whole (read ++ part) r.state (said ++ r.says ∷ []) e
    behind None is few = (cut_end (rest_at (length (read ++ part)) []), heard_here (read ++ part) (said ++ r.says ∷ []) r.state (leads is) few)
    behind (Some e) is few = (e, stops_here e is few)

  -- bytes that are no more than a frame are read no further than it
  reads_part : (d : Driver) (read : List ℕ) (said : List (List Frame)) → HasHeard (hello n) drive_step begun read said d → (part : List ℕ) → NoneBehind (length read) part → length (read ++ part) ≤ byte_limit
      → IsReadNoFurther (λ (bytes : List ℕ). (driven n mark bytes).end) read → IsReadNoFurther (λ (bytes : List ℕ). (driven n mark bytes).end) (read ++ part)
  reads_part d read said heard part none few so_far = no_further (λ (bytes : List ℕ). (driven n mark bytes).end) read part so_far (λ front back is some.
      let (e, ends) = part_cut (length read) part front back is some none in
      let all : length (read ++ (front ++ back)) ≤ byte_limit = subst (λ (p : List ℕ). length (read ++ p) ≤ byte_limit) is few in
      let fewer : length (read ++ front) ≤ byte_limit = omega (arith, length-append read (front ++ back), length-append front back, length-append read front) in
      subst IsCutEnd (sym (ap (λ (t : Talk Driver). t.end) ((reads_frame_by_frame Driver).no_frame_ends drive_step (hello n) begun read said d front e heard ends fewer))) (cut_so_far (rest_at (length read) front) e (no_frame_so (length read) front e ends)))

  -- ---- what a session comes to

  module _ (m : NodeState) (now_mark : PeerMark) (tells : Bool) (held_old held_new : List ℕ → Option (List ℕ)) where
    leaves_plain : (e : SessionEnd) (read written : List ℕ) → IsPlain e → m ≡ (driven n mark read).state.node → Logs n m tells held_old held_new → LeavesDriven e tells (driver_standing n mark held_old) read written (driver_standing m now_mark held_new)
    leaves_plain end.Done read written plain is logs = (is, logs)
    leaves_plain end.EndOfInput read written plain is logs = (is, logs)
    leaves_plain end.WrongInstance read written plain is logs = (is, logs)
    leaves_plain (end.BadFrame at) read written plain is logs = (is, logs)
    leaves_plain end.LinkFault read written plain is logs = (is, logs)
    leaves_plain end.ByteLimit read written plain is logs = (is, logs)
    leaves_plain end.Clash read written plain is logs = (is, logs)
    leaves_plain end.AppendFault read written plain is logs = absurd plain
    leaves_plain end.OutOfMemory read written plain is logs = absurd plain

    marks_plain : (e : SessionEnd) (read : List ℕ) → IsPlain e → now_mark ≡ (driven n mark read).state.mark → LeavesMark e n mark read now_mark
    marks_plain end.Done read plain is = is
    marks_plain end.EndOfInput read plain is = is
    marks_plain end.WrongInstance read plain is = is
    marks_plain (end.BadFrame at) read plain is = is
    marks_plain end.LinkFault read plain is = is
    marks_plain end.ByteLimit read plain is = is
    marks_plain end.Clash read plain is = is
    marks_plain end.AppendFault read plain is = absurd plain
    marks_plain end.OutOfMemory read plain is = absurd plain

    -- the whole session is this, and all that was read was handled
    plain_drives : (read written : List ℕ) (said : List (List Frame)) (d : Driver) (ends_old ends_new : ℕ) (e by_bytes : SessionEnd) → length read ≤ byte_limit → Whole read d said by_bytes → m ≡ d.node → now_mark ≡ d.mark → IsPlain e → EndsAs e by_bytes
        → IsDrivenEnd n mark read ends_old ends_new e → IsReadNoFurther (λ (bytes : List ℕ). (driven n mark bytes).end) read → IsWritten e said written → length (said_bytes (before_last said)) ≤ length written → Logs n m tells held_old held_new → Drives tells (driver_standing n mark held_old) read written (driver_standing m now_mark held_new) ends_old ends_new e
    plain_drives read written said d ends_old ends_new e by_bytes few whole node marks plain ended counted further wrote all logs = record {
      within = few;
      ended = subst (λ (t : Talk Driver). EndsAs e t.end) (sym whole) ended;
      end_counted = counted;
      no_further = stops_so e (λ (bytes : List ℕ). (driven n mark bytes).end) read further;
      wrote = subst (λ (t : Talk Driver). IsWritten e t.said written) (sym whole) wrote;
      answered = subst (λ (t : Talk Driver). IsAnswered e t.said written) (sym whole) (is_answered e said written all);
      left = leaves_plain e read written plain (node ∙ ap (λ (t : Talk Driver). t.state.node) (sym whole)) logs;
      marks = marks_plain e read plain (marks ∙ ap (λ (t : Talk Driver). t.state.mark) (sym whole));
    }

    -- there was no memory, and the node stands behind the first bytes that were read
    wanting_drives : (first part written : List ℕ) (said more : List (List Frame)) (d : Driver) (ends_old ends_new : ℕ) (by_bytes : SessionEnd) → length (first ++ part) ≤ byte_limit → Whole first d said by_bytes → m ≡ d.node
        → now_mark ≡ d.mark → (driven n mark (first ++ part)).said ≡ said ++ more → IsSaidSoFar said written → Logs n m tells held_old held_new
        → Drives tells (driver_standing n mark held_old) (first ++ part) written (driver_standing m now_mark held_new) ends_old ends_new end.OutOfMemory
    wanting_drives first part written said more d ends_old ends_new by_bytes few whole node marks further wrote logs = record {
      within = few;
      ended = inr tt;
      end_counted = tt;
      no_further = tt;
      wrote = subst (λ (s : List (List Frame)). IsPrefixOf written (said_bytes s)) (sym further) (prefix_of_more written said more wrote.0);
      answered = tt;
      left = inl (record {
        first = first;
        part = part;
        split = refl;
        state = node ∙ ap (λ (t : Talk Driver). t.state.node) (sym whole);
        mark_is = marks ∙ ap (λ (t : Talk Driver). t.state.mark) (sym whole);
        logs = logs;
        wrote = subst (λ (t : Talk Driver). IsSaidSoFar t.said written) (sym whole) wrote;
      });
      marks = tt;
    }

-- ---- the steps of a session

module _ (n : NodeState) (mark : PeerMark) (d : Driver) (place : ℕ) (tells : Bool) (held_old held_now : List ℕ → Option (List ℕ)) (old now : Option (List Session)) (s : IsDriving n mark d place tells held_old held_now old now) where
  -- ---- there is no frame

  limit_is_reached : (place : ℕ) (part : List ℕ) → place ≡ length s.read → byte_limit ≤ place + length part → byte_limit ≤ length (s.read ++ part)
  limit_is_reached place part is limit = let all = length-append s.read part in omega arith

  -- as many bytes were read as may be
  pub limit_drives : byte_limit ≤ place → (ends_old ends : ℕ) → ends ≡ ends_old → DrivesThere tells (driver_standing n mark held_old) (driver_standing d.node d.mark held_now) (door_told old ends_old) (door_told now ends) end.ByteLimit
  limit_drives full ends_old ends same = subst (λ (x : ℕ). DrivesThere tells (driver_standing n mark held_old) (driver_standing d.node d.mark held_now) (door_told old x) (door_told now ends) end.ByteLimit) same (limit_here full ends)
    where
      limit_here : byte_limit ≤ place → (ends : ℕ) → DrivesThere tells (driver_standing n mark held_old) (driver_standing d.node d.mark held_now) (door_told old ends) (door_told now ends) end.ByteLimit
      limit_here full ends =
          let at_limit : byte_limit ≤ length s.read + length {A = ℕ} [] = omega (arith, s.place_is) in
          let by : cut_end (rest_at (length s.read) []) ≡ end.ByteLimit = ap (λ (b : Bool). cond b end.ByteLimit (cond true end.EndOfInput (end.BadFrame (length s.read)))) (le-leb byte_limit (length s.read + length {A = ℕ} []) at_limit) in
          record {
            read = s.read;
            written = said_bytes s.said;
            drives =
                plain_drives n mark d.node d.mark tells held_old held_now s.read (said_bytes s.said) s.said d ends ends end.ByteLimit (cut_end (rest_at (length s.read) [])) s.within (heard_here n mark s.read s.said d s.heard s.within) refl refl tt (inl (sym by))
                (omega (arith, s.place_is)) s.no_further (all_written end.ByteLimit s.said (said_bytes s.said) tt refl) (before_less s.said) s.logs;
            told = s.told;
          }

  -- what was read is the end of the session, by which no frame comes
  quit : (e : SessionEnd) (ends_now ends_new : ℕ) (new : Option (List Session)) (held_new : List ℕ → Option (List ℕ)) → Logs n d.node tells held_old held_new → Hears {T = Heard} IsHeard (length s.read) [] now new ends_now ends_new (Err e)
      → DrivesThere tells (driver_standing n mark held_old) (driver_standing d.node d.mark held_new) (door_told old ends_now) (door_told new ends_new) e
  quit e ends_now ends_new new held_new logs h = by e h.says h.ended (told_read s.read h.part (said_bytes s.said) (is_link_fault {T = Unit {0}} (Err e)) old now new s.told (h.heard ∙ ap (λ (b : Bool). after_part h.part [] b now) (fault_alike Heard (Unit {0}) e)))
    where
      few : length (s.read ++ h.part) ≤ byte_limit
      few = let all = length-append s.read h.part in let within = h.within in omega arith

      over : (by_bytes : SessionEnd) → EndsIn (length s.read) h.part by_bytes → Whole n mark (s.read ++ h.part) d s.said by_bytes
      over by_bytes ends = (reads_frame_by_frame Driver).no_frame_ends drive_step (hello n) (greeting n mark) s.read s.said d h.part by_bytes s.heard ends few

      plain : (how by_bytes : SessionEnd) → EndsIn (length s.read) h.part by_bytes → IsPlain how → EndsAs how by_bytes → IsDrivenEnd n mark (s.read ++ h.part) ends_now ends_new how → new ≡ after_part (s.read ++ h.part) (said_bytes s.said) (is_link_fault {T = Unit {0}} (Err how)) old
          → DrivesThere tells (driver_standing n mark held_old) (driver_standing d.node d.mark held_new) (door_told old ends_now) (door_told new ends_new) how
      plain how by_bytes none is_plain agrees counted told = record {
        read = s.read ++ h.part;
        written = said_bytes s.said;
        drives = plain_drives n mark d.node d.mark tells held_old held_new (s.read ++ h.part) (said_bytes s.said) s.said d ends_now ends_new how by_bytes few (over by_bytes none) refl refl is_plain agrees counted
            (reads_part n mark d s.read s.said s.heard h.part (none_there (length s.read) h.part by_bytes none) few s.no_further) (all_written how s.said (said_bytes s.said) is_plain refl) (before_less s.said) logs;
        told = told;
      }

      refused : (at : ℕ) → (ends_new ≡ raised ends_now) ⊎ IsRefused (length s.read) h.part (end.BadFrame at) → IsDrivenEnd n mark (s.read ++ h.part) ends_now ends_new (end.BadFrame at)
      refused at (inl rose) = inl rose
      refused at (inr none) = inr (λ more fits.
          subst (λ (bytes : List ℕ). (driven n mark bytes).end ≡ end.BadFrame at) (sym (append_assoc s.read h.part more))
          (ap (λ (t : Talk Driver). t.end)
          ((reads_frame_by_frame Driver).no_frame_ends drive_step (hello n) (greeting n mark) s.read s.said d (h.part ++ more) (end.BadFrame at) s.heard (none more) (subst (λ (bytes : List ℕ). length bytes ≤ byte_limit) (append_assoc s.read h.part more) fits))))

      by : (how : SessionEnd) → Says {T = Heard} IsHeard (length s.read) h.part (Err how) → IsEndCounted {T = Heard} ends_now ends_new (length s.read) h.part (Err how)
          → new ≡ after_part (s.read ++ h.part) (said_bytes s.said) (is_link_fault {T = Unit {0}} (Err how)) old → DrivesThere tells (driver_standing n mark held_old) (driver_standing d.node d.mark held_new) (door_told old ends_now) (door_told new ends_new) how
      by end.LinkFault says ended told = plain end.LinkFault (cut_end (rest_at (length s.read) h.part)) says tt (inr tt) tt told
      by end.EndOfInput says ended told = plain end.EndOfInput end.EndOfInput says tt (inl refl) ended told
      by (end.BadFrame at) says ended told = plain (end.BadFrame at) (end.BadFrame at) says tt (inl refl) (refused at ended) told
      by end.ByteLimit says ended told = plain end.ByteLimit end.ByteLimit says tt (inl refl) (limit_is_reached (length s.read) h.part refl (no_frame_so (length s.read) h.part end.ByteLimit says)) told
      by end.Done says ended told = absurd (no_frame_so (length s.read) h.part end.Done says)
      by end.WrongInstance says ended told = absurd (no_frame_so (length s.read) h.part end.WrongInstance says)
      by end.AppendFault says ended told = absurd (no_frame_so (length s.read) h.part end.AppendFault says)
      by end.Clash says ended told = absurd (no_frame_so (length s.read) h.part end.Clash says)
      by end.OutOfMemory says ended told =
          let further = heard_first n mark s.read s.said d s.heard h.part few in
          let here = heard_here n mark s.read s.said d s.heard s.within in
          record {
            read = s.read ++ h.part;
            written = said_bytes s.said;
            drives = wanting_drives n mark d.node d.mark tells held_old held_new s.read h.part (said_bytes s.said) s.said further.0 d ends_now ends_new (cut_end (rest_at (length s.read) [])) few here refl refl further.1
                (all_said s.said) logs;
            told = told;
          }

  pub quit_drives : {T : Type 0} (k : NodeState) (now_mark : PeerMark) (held_new : List ℕ → Option (List ℕ)) (new : Option (List Session)) (ends_now ends_new : ℕ) (e : SessionEnd) → Quits {T = T} tells (standing d.node held_now) place (standing k held_new) (door_told now ends_now) (door_told new ends_new) (Err e) → now_mark ≡ d.mark
      → DrivesThere tells (driver_standing n mark held_old) (driver_standing k now_mark held_new) (door_told old ends_now) (door_told new ends_new) e
  quit_drives k now_mark held_new new ends_now ends_new e q marks =
      let how : e ≡ q.how = cc (q.is) in
      subst (λ (x : NodeState). DrivesThere tells (driver_standing n mark held_old) (driver_standing x now_mark held_new) (door_told old ends_now) (door_told new ends_new) e) (sym q.state)
      (subst (λ (x : PeerMark). DrivesThere tells (driver_standing n mark held_old) (driver_standing d.node x held_new) (door_told old ends_now) (door_told new ends_new) e) (sym marks)
      (subst (λ (x : SessionEnd). DrivesThere tells (driver_standing n mark held_old) (driver_standing d.node d.mark held_new) (door_told old ends_now) (door_told new ends_new) x) (sym how)
      (quit q.how ends_now ends_new new held_new (logs_then tells n d.node d.node held_old held_now held_new s.logs (logs_nothing tells d.node held_now held_new q.files))
      (subst (λ (p : ℕ). Hears {T = Heard} IsHeard p [] now new ends_now ends_new (Err q.how)) s.place_is q.heard))))

  -- ---- there is a frame

  module _ (k : NodeState) (now_mark : PeerMark) (held_new : List ℕ → Option (List ℕ)) (new : Option (List Session)) (part : List ℕ) (f : Frame) (has : HasFrame (length s.read) part f) (within : length s.read + length part ≤ byte_limit)
      (marks : now_mark ≡ (drive_step d (placed_behind s.read f)).state.mark) where
    abbrev reaction : Reaction Driver
    reaction = drive_step d (placed_behind s.read f)

    abbrev behind_part : Option (List Session)
    behind_part = after_part part [] false now

    fits : length (s.read ++ part) ≤ byte_limit
    fits = let all = length-append s.read part in omega arith

    abbrev said : List (List Frame)
    said = s.said ++ reaction.says ∷ []

    further : IsReadNoFurther (λ (bytes : List ℕ). (driven n mark bytes).end) (s.read ++ part)
    further = reads_part n mark d s.read s.said s.heard part (frame_alone (length s.read) part f has) fits s.no_further

    whole : (e : SessionEnd) × Whole n mark (s.read ++ part) reaction.state said e
    whole = behind n mark d s.read s.said s.heard part f has reaction.end refl fits

    -- a node that took what the frame brought
    module _ (sent : List ℕ) (failed : Bool) (took : Took tells (standing d.node held_now) (node_part reaction) sent failed (standing k held_new) behind_part new) where
      stands : Logs n k tells held_old held_new
      stands = logs_then tells n d.node k held_old held_now held_new s.logs took.logs

      told : new ≡ after_part (s.read ++ part) (said_bytes s.said ++ sent) failed old
      told = told_then s.read part (said_bytes s.said) sent failed old now new s.told took.told

      before_sent : length (said_bytes (before_last said)) ≤ length (said_bytes s.said ++ sent)
      before_sent =
          let all = length-append (said_bytes s.said) sent in
          let less : length (said_bytes s.said) ≤ length (said_bytes s.said ++ sent) = omega arith in
          subst (λ (x : List (List Frame)). length (said_bytes x) ≤ length (said_bytes s.said ++ sent)) (sym (before_last_one s.said reaction.says)) less

    -- it ended the session
    ended : (e : SessionEnd) (ends : ℕ) → reaction.end ≡ Some e → Took tells (standing d.node held_now) (node_part reaction) (sent_bytes reaction.says) false (standing k held_new) behind_part new → DrivesThere tells (driver_standing n mark held_old) (driver_standing k now_mark held_new) (door_told old ends) (door_told new ends) e
    ended e ends is took = by e is (step_ends d (placed_behind s.read f) e is)
      where
        at_end : (how : SessionEnd) → reaction.end ≡ Some how → IsPlain how → IsDrivenEnd n mark (s.read ++ part) ends ends how → is_link_fault {T = Unit {0}} (Err how) ≡ false → DrivesThere tells (driver_standing n mark held_old) (driver_standing k now_mark held_new) (door_told old ends) (door_told new ends) how
        at_end how some plain counted linked = record {
          read = s.read ++ part;
          written = said_bytes s.said ++ sent_bytes reaction.says;
          drives = plain_drives n mark k now_mark tells held_old held_new (s.read ++ part) (said_bytes s.said ++ sent_bytes reaction.says) said reaction.state ends ends how how fits
              (stops_here n mark d s.read s.said s.heard part f has how some fits) took.state marks plain (inl refl) counted further
              (all_written how said (said_bytes s.said ++ sent_bytes reaction.says) plain (sym (said_more s.said reaction.says))) (before_sent (sent_bytes reaction.says) false took) (stands (sent_bytes reaction.says) false took);
          told = told (sent_bytes reaction.says) false took ∙ ap (λ (b : Bool). after_part (s.read ++ part) (said_bytes s.said ++ sent_bytes reaction.says) b old) (sym linked);
        }

        by : (how : SessionEnd) → reaction.end ≡ Some how → IsOfFrame how → DrivesThere tells (driver_standing n mark held_old) (driver_standing k now_mark held_new) (door_told old ends) (door_told new ends) how
        by end.Done some of = at_end end.Done some tt tt refl
        by end.WrongInstance some of = at_end end.WrongInstance some tt tt refl
        by end.Clash some of = at_end end.Clash some tt tt refl
        by end.EndOfInput some of = absurd of
        by end.LinkFault some of = absurd of
        by end.AppendFault some of = absurd of
        by end.ByteLimit some of = absurd of
        by end.OutOfMemory some of = absurd of
        by (end.BadFrame at) some of = at_end (end.BadFrame at) some tt (inr (λ more few. ap (λ (t : Talk Driver). t.end) (stops n mark d s.read s.said s.heard part f has (end.BadFrame at) some more few))) refl

    -- the link failed in its answer
    link_failed : (sent : List ℕ) (ends : ℕ) → IsPrefixOf sent (sent_bytes reaction.says) → Took tells (standing d.node held_now) (node_part reaction) sent true (standing k held_new) behind_part new → DrivesThere tells (driver_standing n mark held_old) (driver_standing k now_mark held_new) (door_told old ends) (door_told new ends) end.LinkFault
    link_failed sent ends first took = record {
      read = s.read ++ part;
      written = said_bytes s.said ++ sent;
      drives = plain_drives n mark k now_mark tells held_old held_new (s.read ++ part) (said_bytes s.said ++ sent) said reaction.state ends ends end.LinkFault whole.0 fits
          whole.1 took.state marks tt (inr tt) tt further (prefix_of_last s.said reaction.says sent first) (before_sent sent true took) (stands sent true took);
      told = told sent true took;
    }

    -- there was no memory for all of its answer
    answer_wanted : (sent : List ℕ) (ends : ℕ) → IsPrefixOf sent (sent_bytes reaction.says) → Took tells (standing d.node held_now) (node_part reaction) sent false (standing k held_new) behind_part new → DrivesThere tells (driver_standing n mark held_old) (driver_standing k now_mark held_new) (door_told old ends) (door_told new ends) end.OutOfMemory
    answer_wanted sent ends first took =
        let here : (driven n mark ((s.read ++ part) ++ [])).said ≡ said ++ [] = ap (λ (bytes : List ℕ). (driven n mark bytes).said) (append-nil (s.read ++ part)) ∙ ap (λ (t : Talk Driver). t.said) whole.1 ∙ sym (append-nil said) in
        record {
          read = (s.read ++ part) ++ [];
          written = said_bytes s.said ++ sent;
          drives = wanting_drives n mark k now_mark tells held_old held_new (s.read ++ part) [] (said_bytes s.said ++ sent) said [] reaction.state ends ends whole.0 (subst (λ (bytes : List ℕ). length bytes ≤ byte_limit) (sym (append-nil (s.read ++ part))) fits)
              whole.1 took.state marks here (prefix_of_last s.said reaction.says sent first, before_sent sent false took) (stands sent false took);
          told = told sent false took ∙ ap (λ (bytes : List ℕ). after_part bytes (said_bytes s.said ++ sent) false old) (sym (append-nil (s.read ++ part)));
        }

    -- there was none for the frame, which moves no mark
    before_frame : (ends : ℕ) → reaction.state.mark ≡ d.mark → Stayed tells (standing d.node held_now) (standing k held_new) behind_part new → DrivesThere tells (driver_standing n mark held_old) (driver_standing k now_mark held_new) (door_told old ends) (door_told new ends) end.OutOfMemory
    before_frame ends stays stayed =
        let further = heard_first n mark s.read s.said d s.heard part fits in
        let here = heard_here n mark s.read s.said d s.heard s.within in
        record {
          read = s.read ++ part;
          written = said_bytes s.said;
          drives = wanting_drives n mark k now_mark tells held_old held_new s.read part (said_bytes s.said) s.said further.0 d ends ends (cut_end (rest_at (length s.read) [])) fits here stayed.state (marks ∙ stays) further.1
              (all_said s.said)
              (subst (λ (x : NodeState). Logs n x tells held_old held_new) (sym stayed.state) (logs_then tells n d.node d.node held_old held_now held_new s.logs (logs_nothing tells d.node held_now held_new stayed.files)));
          told = told_read s.read part (said_bytes s.said) false old now new s.told stayed.told;
        }

    -- A frame leaves the node or the marks as they were. Where it leaves the node it was handled, and nothing of the answer was sent.
    frame_wanted : (ends : ℕ) → Stayed tells (standing d.node held_now) (standing k held_new) behind_part new → DrivesThere tells (driver_standing n mark held_old) (driver_standing k now_mark held_new) (door_told old ends) (door_told new ends) end.OutOfMemory
    frame_wanted ends stayed = elim (step_moves d (placed_behind s.read f)) [
      | inl node ↦ answer_wanted [] ends (0, refl) (record {
        state = stayed.state ∙ sym node;
        logs = subst (λ (x : NodeState). Logs d.node x tells held_now held_new) (sym stayed.state) (logs_nothing tells d.node held_now held_new stayed.files);
        told = stayed.told ∙ sym (after_nothing behind_part);
      })
      | inr stays ↦ before_frame ends stays stayed
    ]

    -- its vertex's entry was cut
    module _ (cut : WasCut tells (standing d.node held_now) f (node_part reaction) (standing k held_new) behind_part new) where
      stands_cut : StandsDrivenCut tells (driver_standing n mark held_old) (s.read ++ part) (said_bytes s.said) (driver_standing k now_mark held_new)
      stands_cut =
          let here = heard_here n mark s.read s.said d s.heard s.within in
          record {
            first = s.read;
            part = part;
            vertex = cut.vertex;
            split = refl;
            has = subst (λ (x : Frame). HasFrame (length s.read) part x) cut.frame_is has;
            whole = ap (λ (t : Talk Driver). t.state.node) whole.1 ∙ cut.whole ∙ ap (λ (t : Talk Driver). with_entry t.state.node cut.vertex) (sym here);
            mark_is = marks ∙ vertex_stays d (length s.read) f cut.vertex cut.frame_is ∙ ap (λ (t : Talk Driver). t.state.mark) (sym here);
            logs = subst (λ (x : NodeState). LogsAllBut n x cut.vertex k tells held_old held_new) (ap (λ (t : Talk Driver). t.state.node) (sym here)) (logs_but tells n d.node d.node cut.vertex k held_old held_now held_new s.logs cut.logs);
            wrote = ap (λ (t : Talk Driver). said_bytes t.said) (sym here);
          }

      told_cut : new ≡ after_part (s.read ++ part) (said_bytes s.said) false old
      told_cut = told_read s.read part (said_bytes s.said) false old now new s.told cut.told

      append_failed : (ends : ℕ) → DrivesThere tells (driver_standing n mark held_old) (driver_standing k now_mark held_new) (door_told old ends) (door_told new ends) end.AppendFault
      append_failed ends = record {
        read = s.read ++ part;
        written = said_bytes s.said;
        drives = record {
          within = fits;
          ended = inr tt;
          end_counted = tt;
          no_further = further;
          wrote = subst (λ (t : Talk Driver). said_bytes s.said ≡ said_bytes (before_last t.said)) (sym whole.1) (ap said_bytes (sym (before_last_one s.said reaction.says)));
          answered = subst (λ (t : Talk Driver). length (said_bytes (before_last t.said)) ≤ length (said_bytes s.said)) (sym whole.1)
              (subst (λ (x : List (List Frame)). length (said_bytes x) ≤ length (said_bytes s.said)) (sym (before_last_one s.said reaction.says)) (omega arith));
          left = stands_cut;
          marks = marks ∙ ap (λ (t : Talk Driver). t.state.mark) (sym whole.1);
        };
        told = told_cut;
      }

      append_wanted : (ends : ℕ) → DrivesThere tells (driver_standing n mark held_old) (driver_standing k now_mark held_new) (door_told old ends) (door_told new ends) end.OutOfMemory
      append_wanted ends =
          let further = heard_first n mark s.read s.said d s.heard part fits in
          record {
            read = s.read ++ part;
            written = said_bytes s.said;
            drives = record {
              within = fits;
              ended = inr tt;
              end_counted = tt;
              no_further = tt;
              wrote = subst (λ (x : List (List Frame)). IsPrefixOf (said_bytes s.said) (said_bytes x)) (sym further.1)
                  (prefix_of_more (said_bytes s.said) s.said further.0 (length (said_bytes s.said), sym (take_all (length (said_bytes s.said)) (said_bytes s.said) (omega arith))));
              answered = tt;
              left = inr stands_cut;
              marks = tt;
            };
            told = told_cut;
          }

    -- the session goes on
    goes_driving : (next : Stage) → reaction.end ≡ None → next ≡ reaction.state.stage → Took tells (standing d.node held_now) (node_part reaction) (sent_bytes reaction.says) false (standing k held_new) behind_part new
        → IsDriving n mark (record { stage = next; node = k; mark = now_mark }) (length s.read + length part) tells held_old held_new old new
    goes_driving next none waits took = record {
      read = s.read ++ part;
      said = said;
      place_is = sym (length-append s.read part);
      within = fits;
      heard = subst (λ (x : Driver). HasHeard (hello n) drive_step (greeting n mark) (s.read ++ part) said x) (λ i. record { stage = sym waits i; node = sym took.state i; mark = sym marks i }) (leads n mark d s.read s.said s.heard part f has none);
      logs = stands (sent_bytes reaction.says) false took;
      told = told (sent_bytes reaction.says) false took ∙ ap (λ (w : List ℕ). after_part (s.read ++ part) w false old) (sym (said_more s.said reaction.says));
      no_further = further;
    }

    -- or it ends
    reacted : (T : Type 0) (e : SessionEnd) (ends : ℕ) → Reacts {T = T} tells (standing d.node held_now) f (node_part reaction) (standing k held_new) behind_part new (Err e) → DrivesThere tells (driver_standing n mark held_old) (driver_standing k now_mark held_new) (door_told old ends) (door_told new ends) e
    reacted T end.LinkFault ends (sent, first, took) = link_failed sent ends first took
    reacted T end.AppendFault ends cut = append_failed cut ends
    reacted T end.OutOfMemory ends (inl stayed) = frame_wanted ends stayed
    reacted T end.OutOfMemory ends (inr (inl (sent, first, took))) = answer_wanted sent ends first took
    reacted T end.OutOfMemory ends (inr (inr cut)) = append_wanted cut ends
    reacted T end.Done ends (is, took) = ended end.Done ends is took
    reacted T end.EndOfInput ends (is, took) = ended end.EndOfInput ends is took
    reacted T end.WrongInstance ends (is, took) = ended end.WrongInstance ends is took
    reacted T (end.BadFrame at) ends (is, took) = ended (end.BadFrame at) ends is took
    reacted T end.ByteLimit ends (is, took) = ended end.ByteLimit ends is took
    reacted T end.Clash ends (is, took) = ended end.Clash ends is took

  pub frame_drives : (k : NodeState) (now_mark : PeerMark) (held_new : List ℕ → Option (List ℕ)) (new : Option (List Session)) (ends_now ends_new : ℕ) (e : SessionEnd) → HandlesAs tells d held_now place (driver_standing k now_mark held_new) (door_told now ends_now) (door_told new ends_new) (Err e)
      → DrivesThere tells (driver_standing n mark held_old) (driver_standing k now_mark held_new) (door_told old ends_now) (door_told new ends_new) e
  frame_drives k now_mark held_new new ends_now ends_new e h =
      let at : HandlesAs tells d held_now (length s.read) (driver_standing k now_mark held_new) (door_told now ends_now) (door_told new ends_new) (Err e) = subst (λ (p : ℕ). HandlesAs tells d held_now p (driver_standing k now_mark held_new) (door_told now ends_now) (door_told new ends_new) (Err e)) s.place_is h in
      subst (λ (x : ℕ). DrivesThere tells (driver_standing n mark held_old) (driver_standing k now_mark held_new) (door_told old ends_now) (door_told new x) e) (sym h.ends) (reacted k now_mark held_new new at.part at.frame at.has at.within at.marks Onward e ends_now at.reacts)

  pub frame_leads : (k : NodeState) (now_mark : PeerMark) (held_new : List ℕ → Option (List ℕ)) (new : Option (List Session)) (ends_now ends_new : ℕ) (next : Onward) → HandlesAs tells d held_now place (driver_standing k now_mark held_new) (door_told now ends_now) (door_told new ends_new) (Ok next)
      → IsDriving n mark (record { stage = next.stage; node = k; mark = now_mark }) next.place tells held_old held_new old new
  frame_leads k now_mark held_new new ends_now ends_new next h =
      let at : HandlesAs tells d held_now (length s.read) (driver_standing k now_mark held_new) (door_told now ends_now) (door_told new ends_new) (Ok next) = subst (λ (p : ℕ). HandlesAs tells d held_now p (driver_standing k now_mark held_new) (door_told now ends_now) (door_told new ends_new) (Ok next)) s.place_is h in
      subst (λ (p : ℕ). IsDriving n mark (record { stage = next.stage; node = k; mark = now_mark }) p tells held_old held_new old new) (sym at.next)
      (goes_driving k now_mark held_new new at.part at.frame at.has at.within at.marks next.stage at.reacts.0 at.waits at.reacts.1)

  -- ---- a frame, or none

  abbrev pub Next : NodeState → PeerMark → (List ℕ → Option (List ℕ)) → Option (List Session) → ℕ → ℕ → Result Onward SessionEnd → Type 0
  Next k now_mark held_new new ends_now ends_new result =
      (Quits {T = Onward} tells (standing d.node held_now) place (standing k held_new) (door_told now ends_now) (door_told new ends_new) result × (now_mark ≡ d.mark)) ⊎ HandlesAs tells d held_now place (driver_standing k now_mark held_new) (door_told now ends_now) (door_told new ends_new) result

  -- the reads at this place
  pub next_asks : (begun then more : List Ask) → AsksMore (IsAskedBehind (driven_said n mark) old) begun then → AsksMore (IsAskedInside frame_here place [] now) then more → AsksMore (IsAskedBehind (driven_said n mark) old) begun more
  next_asks begun then more so_far next =
      next_asked frame_here (driven_said n mark) s.read (said_bytes s.said) old now s.told
      (λ part ends few. ap (λ (t : Talk Driver). said_bytes t.said) ((reads_frame_by_frame Driver).no_frame_ends drive_step (hello n) (greeting n mark) s.read s.said d part (cut_end (rest_at (length s.read) part)) s.heard ends few))
      place s.place_is begun then more so_far next

  pub next_leads : (k : NodeState) (now_mark : PeerMark) (held_new : List ℕ → Option (List ℕ)) (new : Option (List Session)) (ends_now ends_new : ℕ) (next : Onward) → Next k now_mark held_new new ends_now ends_new (Ok next)
      → IsDriving n mark (record { stage = next.stage; node = k; mark = now_mark }) next.place tells held_old held_new old new
  next_leads k now_mark held_new new ends_now ends_new next (inl q) = absurd (let is = q.0.is in cc)
  next_leads k now_mark held_new new ends_now ends_new next (inr h) = frame_leads k now_mark held_new new ends_now ends_new next h

  pub next_drives : (k : NodeState) (now_mark : PeerMark) (held_new : List ℕ → Option (List ℕ)) (new : Option (List Session)) (ends_before ends_now ends_new : ℕ) (e : SessionEnd) → ends_now ≡ ends_before → Next k now_mark held_new new ends_now ends_new (Err e)
      → DrivesThere tells (driver_standing n mark held_old) (driver_standing k now_mark held_new) (door_told old ends_before) (door_told new ends_new) e
  next_drives k now_mark held_new new ends_before ends_now ends_new e same (inl q) = subst (λ (x : ℕ). DrivesThere tells (driver_standing n mark held_old) (driver_standing k now_mark held_new) (door_told old x) (door_told new ends_new) e) same (quit_drives {T = Onward} k now_mark held_new new ends_now ends_new e q.0 q.1)
  next_drives k now_mark held_new new ends_before ends_now ends_new e same (inr h) = subst (λ (x : ℕ). DrivesThere tells (driver_standing n mark held_old) (driver_standing k now_mark held_new) (door_told old x) (door_told new ends_new) e) same (frame_drives k now_mark held_new new ends_now ends_new e h)

-- ---- what holds of the next frame by itself

module _ (d : Driver) (place : ℕ) (k : NodeState) (now_mark : PeerMark) (tells : Bool) (held_now held_new : List ℕ → Option (List ℕ)) (now new : Option (List Session)) (ends_now ends_new : ℕ) (next : Onward)
    (is : (Quits {T = Onward} tells (standing d.node held_now) place (standing k held_new) (door_told now ends_now) (door_told new ends_new) (Ok next) × (now_mark ≡ d.mark)) ⊎ HandlesAs tells d held_now place (driver_standing k now_mark held_new) (door_told now ends_now) (door_told new ends_new) (Ok next)) where
  pub next_counts : ends_new ≡ ends_now
  next_counts = elim is [ inl q ↦ absurd (let no_end = q.0.is in cc) | inr h ↦ h.ends ]

  pub next_due : IsDue next.stage k now_mark
  next_due = elim is [ inl q ↦ absurd (let no_end = q.0.is in cc) | inr h ↦ h.due ]

-- ---- Hello was said

pub hello_out : (n : NodeState) (old new : Option (List Session)) → Sends {T = Unit {0}} (framed (frame.Hello (instance_of n.core.config))) old new (Ok tt) → new ≡ after_part [] (sent_bytes (hello n)) false old
hello_out n old new s = s.told ∙ ap (λ (part : List ℕ). after_part [] part false old) (s.whole ∙ one_sent (frame.Hello (instance_of n.core.config)))

-- ---- Hello wasn't said whole

module _ (n : NodeState) (mark : PeerMark) (tells : Bool) (held : List ℕ → Option (List ℕ)) (old new : Option (List Session)) (ends : ℕ) where
  start_heard : HasHeard (hello n) drive_step (greeting n mark) [] (hello n ∷ []) (greeting n mark)
  start_heard = (reads_frame_by_frame Driver).begins drive_step (hello n) (greeting n mark)

  start_whole : driven n mark [] ≡ record { state = greeting n mark; said = hello n ∷ []; end = cut_end (rest_at 0 []) }
  start_whole = heard_here n mark [] (hello n ∷ []) (greeting n mark) start_heard (omega arith)

  hello_said : framed (frame.Hello (instance_of n.core.config)) ≡ said_bytes (hello n ∷ [])
  hello_said = one_sent (frame.Hello (instance_of n.core.config)) ∙ sym (append-nil (sent_bytes (hello n)))

  pub hello_cut : (e : SessionEnd) → Sends {T = Unit {0}} (framed (frame.Hello (instance_of n.core.config))) old new (Err e) → DrivesThere tells (driver_standing n mark held) (driver_standing n mark held) (door_told old ends) (door_told new ends) e
  hello_cut end.LinkFault s = record {
    read = [];
    written = s.part;
    drives = plain_drives n mark n mark tells held held [] s.part (hello n ∷ []) (greeting n mark) ends ends end.LinkFault (cut_end (rest_at 0 [])) (omega arith) start_whole refl refl tt (inr tt) tt (none_further (λ (bytes : List ℕ). (driven n mark bytes).end))
        (subst (λ (bytes : List ℕ). IsPrefixOf s.part bytes) hello_said s.first) (omega arith) (logs_nothing tells n held held (λ t name. refl));
    told = s.told;
  }
  hello_cut end.OutOfMemory s = record {
    read = [] ++ [];
    written = s.part;
    drives = wanting_drives n mark n mark tells held held [] [] s.part (hello n ∷ []) [] (greeting n mark) ends ends (cut_end (rest_at 0 [])) (omega arith) start_whole refl refl (ap (λ (t : Talk Driver). t.said) start_whole)
        (subst (λ (bytes : List ℕ). IsPrefixOf s.part bytes) hello_said s.first, omega arith) (logs_nothing tells n held held (λ t name. refl));
    told = s.told;
  }
  hello_cut end.Done s = absurd s.error
  hello_cut end.EndOfInput s = absurd s.error
  hello_cut end.WrongInstance s = absurd s.error
  hello_cut (end.BadFrame at) s = absurd s.error
  hello_cut end.AppendFault s = absurd s.error
  hello_cut end.ByteLimit s = absurd s.error
  hello_cut end.Clash s = absurd s.error

-- ---- a session that is there, and the door

-- the session is told behind the others
module _ (n : NodeState) (mark : PeerMark) (address : List ℕ) (m : NodeState) (now_mark : PeerMark) (tells : Bool) (held_old held_new : List ℕ → Option (List ℕ)) (old : Option (List Session)) (ends_old ends_new : ℕ) (e : SessionEnd) where
  behind_others : (read written : List ℕ) (failed : Bool) (sessions : List Session) → with_last (gone_on read written failed) (sessions ++ fresh_session (Some address) ∷ []) ≡ sessions ++ (record { address = Some address; read = read; written = written; failed = failed || false }) ∷ []
  behind_others read written failed [] = refl
  behind_others read written failed (s ∷ []) = refl
  behind_others read written failed (s ∷ t ∷ rest) = ap (λ (xs : List Session). s ∷ xs) (behind_others read written failed (t ∷ rest))

  failed_is : (b : Bool) → (b || false) ≡ b
  failed_is true = refl
  failed_is false = refl

  told_behind : (read written : List ℕ) (failed : Bool) (o : Option (List Session)) → after_part read written failed (option_map (λ (sessions : List Session). sessions ++ fresh_session (Some address) ∷ []) o)
      ≡ option_map (λ (sessions : List Session). sessions ++ (record { address = Some address; read = read; written = written; failed = failed }) ∷ []) o
  told_behind read written failed None = refl
  told_behind read written failed (Some sessions) =
      ap (λ (xs : List Session). Some xs) (behind_others read written failed sessions ∙ ap (λ (b : Bool). sessions ++ (record { address = Some address; read = read; written = written; failed = b }) ∷ []) (failed_is failed))

  pub drives_peer : (new : Option (List Session)) → DrivesThere tells (driver_standing n mark held_old) (driver_standing m now_mark held_new) (door_told (option_map (λ (sessions : List Session). sessions ++ fresh_session (Some address) ∷ []) old) ends_old) (door_told new ends_new) e
      → DrivesPeer tells address (driver_standing n mark held_old) (driver_standing m now_mark held_new) (door_told old ends_old) (door_told new ends_new) e
  drives_peer new s = record {
    read = s.read;
    written = s.written;
    drives = s.drives;
    told = s.told ∙ told_behind s.read s.written (is_link_fault {T = Unit {0}} (Err e)) old;
  }

-- no peer was reached
pub drives_failed : (n : NodeState) (mark : PeerMark) (address : List ℕ) (tells : Bool) (held : List ℕ → Option (List ℕ)) (old : Option (List Session)) (ends : ℕ)
    → DrivesPeer tells address (driver_standing n mark held) (driver_standing n mark held) (door_told old ends) (door_told (option_map (λ (sessions : List Session). sessions ++ with_failure (fresh_session (Some address)) ∷ []) old) ends) end.LinkFault
drives_failed n mark address tells held old ends = record {
  read = [];
  written = [];
  drives = plain_drives n mark n mark tells held held [] [] (hello n ∷ []) (greeting n mark) ends ends end.LinkFault (cut_end (rest_at 0 [])) (omega arith) (start_whole n mark tells held old old ends) refl refl tt (inr tt) tt (none_further (λ (bytes : List ℕ). (driven n mark bytes).end))
      (0, refl) (omega arith) (logs_nothing tells n held held (λ t name. refl));
  told = refl;
}

-- a peer was dialled, driven and hung up on
pub drives_dialled : (n : NodeState) (mark : PeerMark) (address : List ℕ) (m : NodeState) (now_mark : PeerMark) (tells : Bool) (held_old held_new : List ℕ → Option (List ℕ)) (old now then new : Option (List Session)) (ends_old ends_now ends_then ends_new : ℕ) (e : SessionEnd)
    → now ≡ option_map (sessions_after {T = Unit {0}} (Some address) (Ok tt)) old → ends_now ≡ ends_old → DrivesThere tells (driver_standing n mark held_old) (driver_standing m now_mark held_new) (door_told now ends_now) (door_told then ends_then) e → new ≡ then → ends_new ≡ ends_then
    → DrivesPeer tells address (driver_standing n mark held_old) (driver_standing m now_mark held_new) (door_told old ends_old) (door_told new ends_new) e
drives_dialled n mark address m now_mark tells held_old held_new old now then new ends_old ends_now ends_then ends_new e dialled same drives hung ended =
    subst (λ (x : Option (List Session)). DrivesPeer tells address (driver_standing n mark held_old) (driver_standing m now_mark held_new) (door_told old ends_old) (door_told x ends_new) e) (sym hung)
    (subst (λ (x : ℕ). DrivesPeer tells address (driver_standing n mark held_old) (driver_standing m now_mark held_new) (door_told old ends_old) (door_told then x) e) (sym ended)
    (drives_peer n mark address m now_mark tells held_old held_new old ends_old ends_then e then
    (subst (λ (x : Option (List Session)). DrivesThere tells (driver_standing n mark held_old) (driver_standing m now_mark held_new) (door_told x ends_old) (door_told then ends_then) e) dialled
    (subst (λ (x : ℕ). DrivesThere tells (driver_standing n mark held_old) (driver_standing m now_mark held_new) (door_told now x) (door_told then ends_then) e) same drives))))

-- no peer was reached, or there was no memory to dial
module _ (n : NodeState) (mark : PeerMark) (address : List ℕ) (tells : Bool) (held : List ℕ → Option (List ℕ)) (old new : Option (List Session)) (ends_old ends_new : ℕ) (same : ends_new ≡ ends_old) where
  nobody : (o : Option (List Session)) → option_map (λ (sessions : List Session). sessions) o ≡ o
  nobody None = refl
  nobody (Some sessions) = refl

  pub drives_nobody : (fault : IoFault) → new ≡ option_map (sessions_after {T = Unit {0}} (Some address) (Err fault)) old
      → DrivesPeer tells address (driver_standing n mark held) (driver_standing n mark held) (door_told old ends_old) (door_told new ends_new) (end_of_fault fault) ⊎ DrivesNone tells (driver_standing n mark held) (driver_standing n mark held) old new (end_of_fault fault)
  drives_nobody Failed told =
      inl (subst (λ (x : Option (List Session)). DrivesPeer tells address (driver_standing n mark held) (driver_standing n mark held) (door_told old ends_old) (door_told x ends_new) end.LinkFault) (sym told)
      (subst (λ (x : ℕ). DrivesPeer tells address (driver_standing n mark held) (driver_standing n mark held) (door_told old ends_old) (door_told (option_map (λ (sessions : List Session). sessions ++ with_failure (fresh_session (Some address)) ∷ []) old) x) end.LinkFault) (sym same) (drives_failed n mark address tells held old ends_old)))
  drives_nobody NoMemory told = inr (record { ended = refl; state = refl; mark_is = refl; files = λ t name. refl; told = told ∙ nobody old })
