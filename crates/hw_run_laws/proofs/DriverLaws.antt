-- What a session that a node drives leaves is a life of the node, and what it says is of its log.
use Rattle.std.specs.Prelude.{◌==◌, take, drop}
use Rattle.std.proofs.Common.{◌≡◌, ◌⊎◌, ℕ, zero, suc, Bool, true, false, cond, List, [], ◌∷◌, Option, Some, None, Result, Ok, Err, inl, inr, refl, sym, ap, subst}
use Rattle.hw_types.specs.declared.unit.Vertex.{Vertex}
use Rattle.hw_types.specs.declared.unit.Need.{Need}
use Rattle.hw_types.specs.declared.answers.Frame.{Frame}
use Rattle.hw_types.specs.declared.answers.Frame.TheVariants as frame
use Rattle.hw_types.specs.declared.answers.Receipt.{Receipt}
use Rattle.hw_types.specs.declared.answers.Cause.{Cause}
use Rattle.hw_types.specs.declared.answers.Cause.TheVariants as cause
use Rattle.hw_types.specs.Graph.{digest_eq}
use Rattle.hw_types.specs.Below.{Among}
use Rattle.hw_types.specs.Spelling.{instance_of}
use Rattle.hw_core.specs.Readers.{unmet_in}
use Rattle.hw_link.specs.declared.end.SessionEnd.{SessionEnd}
use Rattle.hw_link.specs.declared.end.SessionEnd.TheVariants as end
use Rattle.hw_link.specs.Frames.{Placed, frames_of}
use Rattle.hw_link.specs.Talk.{Reaction, Talk, goes_on, ends, talk}
use Rattle.hw_session.specs.declared.stage.PeerMark.{PeerMark}
use Rattle.hw_session.specs.Node.{NodeState}
use Rattle.hw_session.specs.Restart.{logged_of}
use Rattle.hw_session.specs.Accept.{given_to, taken_by}
use Rattle.hw_session.specs.Driving.{Driver, hello, greeting, leave, want_some, want, pull, push_first, push, to_push, with_pushed, with_pulled, not_due, after_vertex, drive_have, drive_step, driven}
use Rattle.hw_session.specs.Drives.{LeavesDriven, Drives}
use Rattle.hw_session.specs.Standing.{driver_standing}
use Rattle.hw_service.specs.Meets.{after_all}
use Rattle.hw_run_laws.specs.Restart.{vertex_in, TakesSome, vertices_sent, SaysOfLog, DrivenIsALife, DrivenSaysOfLog, IsLogged, DrivesIsALife, DrivesSaysOfLog}
use Rattle.hw_run_laws.specs.Taken.{taken_last, taken_driven, DrivenTakesThese}
use Rattle.hw_run_laws.proofs.LifeLaws.{takes_all, after_one, Leads, talk_leads}
use Rattle.hw_run_laws.proofs.OutLaws.{among_drop, Speaks, quiet, quiet_speaks, taken_grows, said_first, talk_says}
use Rattle.hw_run_laws.proofs.TakingLaws.{taken_first, takes_more}

-- ---- what a node that drives waits for

-- what it waits for is what one of its five steps waits for
abbrev IsStaged : Driver → Type 0
IsStaged d =
    (d ≡ greeting d.node d.mark)
    ⊎ (((left : ℕ) × (v : Vertex) × (d ≡ (push_first d left (v ∷ [])).state))
    ⊎ (((again : ℕ) × (d ≡ (pull d again).state))
    ⊎ (((need : Need) × (d ≡ (want_some d (need ∷ [])).state))
    ⊎ (d ≡ (leave d).state))))

-- so it stays, whatever the node is
staged_node : (d : Driver) (m : NodeState) → IsStaged d → IsStaged (record d { node = m })
staged_node d m (inl is) = inl (ap (λ (e : Driver). record e { node = m }) is)
staged_node d m (inr (inl (left, v, is))) = inr (inl (left, v, ap (λ (e : Driver). record e { node = m }) is))
staged_node d m (inr (inr (inl (again, is)))) = inr (inr (inl (again, ap (λ (e : Driver). record e { node = m }) is)))
staged_node d m (inr (inr (inr (inl (need, is))))) = inr (inr (inr (inl (need, ap (λ (e : Driver). record e { node = m }) is))))
staged_node d m (inr (inr (inr (inr is)))) = inr (inr (inr (inr (ap (λ (e : Driver). record e { node = m }) is))))

-- ---- reactions

-- what a node that drives does at a frame
record Does (n : NodeState) (f : Frame) (r : Reaction Driver) : Type 0 where
  staged : IsStaged r.state
  leads : Leads n f r.state.node r.end
  speaks : Speaks n r.says r.state.node

-- nothing was taken where no vertex came
stayed : (n : NodeState) (f : Frame) → vertex_in f ≡ None → n ≡ after_one n (vertex_in f)
stayed n f none = sym (ap (after_one n) none)

-- the session ends, or nothing with a vertex came
ended : (d : Driver) (f : Frame) (e : SessionEnd) → IsStaged d → taken_last f e ≡ [] → Does d.node f (ends d [] e)
ended d f e staged none = record { staged = staged; leads = sym (ap (after_all d.node) none); speaks = quiet_speaks d.node [] tt }

waits : (d : Driver) (f : Frame) → IsStaged d → vertex_in f ≡ None → Does d.node f (goes_on d [])
waits d f staged none = record { staged = staged; leads = stayed d.node f none; speaks = quiet_speaks d.node [] tt }

pulls : (d : Driver) (again : ℕ) (f : Frame) → vertex_in f ≡ None → Does d.node f (pull d again)
pulls d again f none = record { staged = inr (inr (inl (again, refl))); leads = stayed d.node f none; speaks = quiet_speaks d.node (frame.Have d.mark.pulled ∷ []) (refl, tt) }

leaves : (d : Driver) (f : Frame) → vertex_in f ≡ None → Does d.node f (leave d)
leaves d f none = record { staged = inr (inr (inr (inr refl))); leads = stayed d.node f none; speaks = quiet_speaks d.node (frame.Done ∷ []) (refl, tt) }

pushes : (d : Driver) (left : ℕ) (f : Frame) → vertex_in f ≡ None → Does d.node f (push d left)
pushes d zero f none = pulls d 64 f none
pushes d (suc left) f none = go (drop d.mark.pushed d.node.core.journal) refl
  where
    one : (v w : Vertex) (vs : List Vertex) → drop d.mark.pushed d.node.core.journal ≡ v ∷ vs → Among (frame.Vertex w) (frame.Vertex v ∷ []) → Among w d.node.core.journal
    one v w vs is (inl e) = let same : v ≡ w = cc in among_drop w d.mark.pushed d.node.core.journal (subst (λ (xs : List Vertex). Among w xs) (sym is) (inl same))
    one v w vs is (inr never) = absurd never

    go : (vs : List Vertex) → drop d.mark.pushed d.node.core.journal ≡ vs → Does d.node f (push_first d left vs)
    go [] is = pulls d 64 f none
    go (v ∷ vs) is = record { staged = inr (inl (left, v, refl)); leads = stayed d.node f none; speaks = record { grows = λ w m. m; of_log = λ w m. inl (one v w vs is m) } }

wants : (d : Driver) (f : Frame) → vertex_in f ≡ None → Does d.node f (want d)
wants d f none = go (take 64 (unmet_in d.node.core))
  where
    go : (ns : List Need) → Does d.node f (want_some d ns)
    go [] = leaves d f none
    go (n ∷ ns) = record { staged = inr (inr (inr (inl (n, refl)))); leads = stayed d.node f none; speaks = quiet_speaks d.node (frame.Want (n ∷ ns) ∷ []) (refl, tt) }

told : (d : Driver) (again place : ℕ) (f : Frame) → vertex_in f ≡ None → Does d.node f (drive_have d again place)
told d zero place f none = wants (with_pulled d place) f none
told d (suc more) place f none = go (place == d.mark.pulled)
  where
    go : (b : Bool) → Does d.node f (cond b (want (with_pulled d place)) (pull (with_pulled d place) more))
    go true = wants (with_pulled d place) f none
    go false = pulls (with_pulled d place) more f none

-- a vertex of the peer
takes : (d : Driver) (v : Vertex) → IsStaged d → Does d.node (frame.Vertex v) (after_vertex (record d { node = taken_by d.node v (given_to d.node v) }) (given_to d.node v))
takes d v staged = go (given_to d.node v)
  where
    so : (o : Option SessionEnd) → Leads d.node (frame.Vertex v) (taken_by d.node v (given_to d.node v)) o → Does d.node (frame.Vertex v) (record { state = record d { node = taken_by d.node v (given_to d.node v) }; says = []; end = o })
    so o leads = record {
      staged = staged_node d (taken_by d.node v (given_to d.node v)) staged;
      leads = leads;
      speaks = record { grows = taken_grows d.node v (given_to d.node v); of_log = quiet (taken_by d.node v (given_to d.node v)).core [] tt };
    }

    go : (a : Result Receipt Cause) → Does d.node (frame.Vertex v) (after_vertex (record d { node = taken_by d.node v (given_to d.node v) }) a)
    go (Ok r) = so None refl
    go (Err cause.BadSignature) = so None refl
    go (Err (cause.Local rule)) = so None refl
    go (Err (cause.Pair f)) = so None refl
    go (Err (cause.Clash c)) = so (Some end.Clash) refl
    go (Err cause.RecordsFull) = so None refl
    go (Err cause.ParkFull) = so None refl
    go (Err cause.OutOfMemory) = so None refl

-- ---- by what it waits for

abbrev DoesAt : Placed → Driver → Type 0
DoesAt f d = Does d.node f.frame (drive_step d f)

greeted : (n : NodeState) (mark : PeerMark) (at : ℕ) (f : Frame) → DoesAt (record { at = at; frame = f }) (greeting n mark)
unfolding drive_step
greeted n mark at (frame.Hello instance) = go (digest_eq instance (instance_of n.core.config))
  where
    go : (b : Bool) → Does n (frame.Hello instance) (cond b (push (greeting n mark) (to_push (greeting n mark))) (ends (greeting n mark) [] end.WrongInstance))
    go true = pushes (greeting n mark) (to_push (greeting n mark)) (frame.Hello instance) refl
    go false = ended (greeting n mark) (frame.Hello instance) end.WrongInstance (inl refl) refl
greeted n mark at (frame.Vertex v) = ended (greeting n mark) (frame.Vertex v) (end.BadFrame at) (inl refl) refl
greeted n mark at (frame.Have place) = ended (greeting n mark) (frame.Have place) (end.BadFrame at) (inl refl) refl
greeted n mark at (frame.Want needs) = ended (greeting n mark) (frame.Want needs) (end.BadFrame at) (inl refl) refl
greeted n mark at frame.Done = ended (greeting n mark) frame.Done (end.BadFrame at) (inl refl) refl
greeted n mark at (frame.Missing need) = ended (greeting n mark) (frame.Missing need) (end.BadFrame at) (inl refl) refl

pushed : (d : Driver) (left : ℕ) (v : Vertex) (at : ℕ) (f : Frame) → DoesAt (record { at = at; frame = f }) (push_first d left (v ∷ [])).state
unfolding drive_step
pushed d left v at f = go f
  where
    bad : (g : Frame) → Does d.node g (not_due (push_first d left (v ∷ [])).state at)
    bad g = ended (push_first d left (v ∷ [])).state g (end.BadFrame at) (inr (inl (left, v, refl))) refl

    go : (g : Frame) → DoesAt (record { at = at; frame = g }) (push_first d left (v ∷ [])).state
    go (frame.Want needs) = pushes (with_pushed (push_first d left (v ∷ [])).state) left (frame.Want needs) refl
    go (frame.Hello instance) = bad (frame.Hello instance)
    go (frame.Vertex w) = bad (frame.Vertex w)
    go (frame.Have place) = bad (frame.Have place)
    go frame.Done = bad frame.Done
    go (frame.Missing need) = bad (frame.Missing need)

pulled : (d : Driver) (again : ℕ) (at : ℕ) (f : Frame) → DoesAt (record { at = at; frame = f }) (pull d again).state
unfolding drive_step
pulled d again at f = go f
  where
    bad : (g : Frame) → Does d.node g (not_due (pull d again).state at)
    bad g = ended (pull d again).state g (end.BadFrame at) (inr (inr (inl (again, refl)))) refl

    go : (g : Frame) → DoesAt (record { at = at; frame = g }) (pull d again).state
    go (frame.Vertex w) = takes (pull d again).state w (inr (inr (inl (again, refl))))
    go (frame.Have place) = told (pull d again).state again place (frame.Have place) refl
    go (frame.Hello instance) = bad (frame.Hello instance)
    go (frame.Want needs) = bad (frame.Want needs)
    go frame.Done = bad frame.Done
    go (frame.Missing need) = bad (frame.Missing need)

wanted : (d : Driver) (n : Need) (at : ℕ) (f : Frame) → DoesAt (record { at = at; frame = f }) (want_some d (n ∷ [])).state
unfolding drive_step
wanted d n at f = go f
  where
    bad : (g : Frame) → Does d.node g (not_due (want_some d (n ∷ [])).state at)
    bad g = ended (want_some d (n ∷ [])).state g (end.BadFrame at) (inr (inr (inr (inl (n, refl))))) refl

    go : (g : Frame) → DoesAt (record { at = at; frame = g }) (want_some d (n ∷ [])).state
    go (frame.Vertex w) = takes (want_some d (n ∷ [])).state w (inr (inr (inr (inl (n, refl)))))
    go (frame.Missing need) = waits (want_some d (n ∷ [])).state (frame.Missing need) (inr (inr (inr (inl (n, refl))))) refl
    go (frame.Have place) = leaves (want_some d (n ∷ [])).state (frame.Have place) refl
    go (frame.Hello instance) = bad (frame.Hello instance)
    go (frame.Want needs) = bad (frame.Want needs)
    go frame.Done = bad frame.Done

left : (d : Driver) (at : ℕ) (f : Frame) → DoesAt (record { at = at; frame = f }) (leave d).state
unfolding drive_step
left d at f = go f
  where
    over : (g : Frame) (e : SessionEnd) → taken_last g e ≡ [] → Does d.node g (ends (leave d).state [] e)
    over g e none = ended (leave d).state g e (inr (inr (inr (inr refl)))) none

    go : (g : Frame) → DoesAt (record { at = at; frame = g }) (leave d).state
    go frame.Done = over frame.Done end.Done refl
    go (frame.Vertex w) = over (frame.Vertex w) (end.BadFrame at) refl
    go (frame.Have place) = over (frame.Have place) (end.BadFrame at) refl
    go (frame.Hello instance) = over (frame.Hello instance) (end.BadFrame at) refl
    go (frame.Want needs) = over (frame.Want needs) (end.BadFrame at) refl
    go (frame.Missing need) = over (frame.Missing need) (end.BadFrame at) refl

drive_does : (d : Driver) (f : Placed) → IsStaged d → DoesAt f d
drive_does d f (inl is) = subst (DoesAt f) (sym is) (greeted d.node d.mark f.at f.frame)
drive_does d f (inr (inl (many, v, is))) = subst (DoesAt f) (sym is) (pushed d many v f.at f.frame)
drive_does d f (inr (inr (inl (again, is)))) = subst (DoesAt f) (sym is) (pulled d again f.at f.frame)
drive_does d f (inr (inr (inr (inl (need, is))))) = subst (DoesAt f) (sym is) (wanted d need f.at f.frame)
drive_does d f (inr (inr (inr (inr is)))) = subst (DoesAt f) (sym is) (left d f.at f.frame)

-- ---- sessions

-- the vertices that it takes are handed to it, and they are the first
pub driven_these : DrivenTakesThese
driven_these n mark bytes = (
  talk_leads IsStaged (λ (d : Driver). d.node) drive_step (λ d f is. (drive_does d f is).staged) (λ d f is. (drive_does d f is).leads) (frames_of bytes).end (greeting n mark) (frames_of bytes).given (inl refl),
  taken_first drive_step (greeting n mark) (frames_of bytes).given,
)

pub driven_takes : (n : NodeState) (mark : PeerMark) (bytes : List ℕ) → TakesSome n (taken_driven n mark bytes) (driven n mark bytes).state.node
driven_takes n mark bytes = takes_all n (driven n mark bytes).state.node (taken_driven n mark bytes) (driven_these n mark bytes).0

pub driven_life : DrivenIsALife
driven_life n mark bytes = takes_more n (driven n mark bytes).state.node (taken_driven n mark bytes) (vertices_sent bytes) (driven_these n mark bytes).1 (driven_takes n mark bytes)

pub driven_says : DrivenSaysOfLog
driven_says n mark bytes =
    let t : Talk Driver = talk drive_step (frames_of bytes).end (greeting n mark) (frames_of bytes).given in
    said_first t.state.node (hello n) t.said (refl, tt)
    (talk_says IsStaged (λ (d : Driver). d.node) drive_step (λ d f is. (drive_does d f is).staged) (λ d f is. (drive_does d f is).speaks) (frames_of bytes).end (greeting n mark) (frames_of bytes).given (inl refl))

-- what is so of the node that the bytes leave is so of the one that stands there
whole : (P : NodeState → Type 0) (n : NodeState) (mark : PeerMark) (read written : List ℕ) (m : NodeState) (now : PeerMark) (tells : Bool) (held_old held_new : List ℕ → Option (List ℕ)) (e : SessionEnd) → IsLogged e → LeavesDriven e tells (driver_standing n mark held_old) read written (driver_standing m now held_new)
    → P (driven n mark read).state.node → P m
whole P n mark read written m now tells held_old held_new e logged stands p = go e logged stands
  where
    go : (e : SessionEnd) → IsLogged e → LeavesDriven e tells (driver_standing n mark held_old) read written (driver_standing m now held_new) → P m
    go end.Done logged stands = subst P (sym stands.0) p
    go end.EndOfInput logged stands = subst P (sym stands.0) p
    go end.WrongInstance logged stands = subst P (sym stands.0) p
    go (end.BadFrame at) logged stands = subst P (sym stands.0) p
    go end.LinkFault logged stands = subst P (sym stands.0) p
    go end.ByteLimit logged stands = subst P (sym stands.0) p
    go end.Clash logged stands = subst P (sym stands.0) p
    go end.AppendFault logged stands = absurd logged
    go end.OutOfMemory logged stands = absurd logged

pub drives_takes : (n m : NodeState) (mark now : PeerMark) (read written : List ℕ) (tells : Bool) (held_old held_new : List ℕ → Option (List ℕ)) (ends_old ends_new : ℕ) (e : SessionEnd)
    → Drives tells (driver_standing n mark held_old) read written (driver_standing m now held_new) ends_old ends_new e → IsLogged e → TakesSome n (taken_driven n mark read) m
drives_takes n m mark now read written tells held_old held_new ends_old ends_new e s logged =
    whole (λ (k : NodeState). TakesSome n (taken_driven n mark read) k) n mark read written m now tells held_old held_new e logged s.left (driven_takes n mark read)

pub drives_life : DrivesIsALife
drives_life n m mark now read written tells held_old held_new ends_old ends_new e s logged =
    takes_more n m (taken_driven n mark read) (vertices_sent read) (driven_these n mark read).1 (drives_takes n m mark now read written tells held_old held_new ends_old ends_new e s logged)

pub drives_says : DrivesSaysOfLog
drives_says n m mark now read written tells held_old held_new ends_old ends_new e s logged =
    whole (λ (k : NodeState). SaysOfLog (logged_of k) (driven n mark read).said) n mark read written m now tells held_old held_new e logged s.left (driven_says n mark read)
