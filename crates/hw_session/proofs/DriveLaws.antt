-- What a node that drives did at a frame.
use Rattle.std.proofs.Common.{◌≡◌, ◌≢◌, ◌≤◌, ℕ, zero, suc, Bool, true, false, cond, List, [], ◌∷◌, length, take, drop, Option, Some, None, Result, Ok, Err, refl, sym, ap, subst, ◌∙◌, arith}
use Rattle.std.specs.Prelude.{◌-◌, ◌==◌, slice_get}
use Rattle.hw_core.specs.Readers.{unmet_in}
use Rattle.hw_types.specs.declared.unit.Digest.{Digest}
use Rattle.hw_types.specs.declared.unit.Need.{Need}
use Rattle.hw_types.specs.Graph.{digest_eq}
use Rattle.hw_types.specs.Spelling.{instance_of}
use Rattle.hw_types.specs.declared.unit.Vertex.{Vertex}
use Rattle.hw_types.specs.declared.answers.Frame.{Frame}
use Rattle.hw_types.specs.declared.answers.Frame.TheVariants as frame
use Rattle.hw_types.specs.declared.answers.Receipt.{Receipt}
use Rattle.hw_types.specs.declared.answers.Cause.{Cause}
use Rattle.hw_types.specs.declared.answers.Cause.TheVariants as cause
use Rattle.hw_io.specs.Doors.{Session}
use Rattle.hw_link.specs.declared.end.SessionEnd.{SessionEnd}
use Rattle.hw_link.specs.declared.end.SessionEnd.TheVariants as end
use Rattle.hw_link.specs.Frames.{framed, sent_bytes}
use Rattle.hw_link.specs.Talk.{Reaction, goes_on, ends}
use Rattle.hw_link.specs.Heard.{Hears, IsHeard}
use Rattle.hw_link.specs.declared.read.Heard.{Heard}
use Rattle.hw_link.specs.Links.{after_part}
use Rattle.hw_link.specs.Sent.{Sends}
use Rattle.hw_link.specs.Told.{door_told}
use Rattle.hw_session.specs.declared.stage.PeerMark.{PeerMark}
use Rattle.hw_session.specs.declared.stage.Stage.{Stage}
use Rattle.hw_session.specs.declared.stage.Stage.TheVariants as stage
use Rattle.hw_session.specs.declared.stage.Onward.{Onward}
use Rattle.hw_session.specs.Node.{NodeState}
use Rattle.hw_session.specs.Driving.{Driver, waiting, pull, push_first, push, to_push, not_due, want_some, want, with_pushed, with_pulled, after_vertex, drive_vertex, drive_greeting, drive_pushing, drive_have, drive_pulling, drive_wanting, drive_leaving, drive_at, drive_step}
use Rattle.hw_session.specs.Serving.{is_clash}
use Rattle.hw_session.specs.Handling.{Answers, Reacts, IsOfOther, Receives}
use Rattle.hw_session.specs.DriveHandling.{node_part, IsDue, ReactsAs, AnswersAs, HandlesAs}
use Rattle.hw_session.specs.declared.fault.AcceptFault.TheVariants as fault
use Rattle.hw_session.specs.Accept.{given_to, taken_by, Accepts}
use Rattle.hw_session.specs.Grows.{Logs}
use Rattle.hw_session.specs.Standing.{standing, driver_standing}
use Rattle.hw_session.proofs.ReactLaws.{one_sent, none_sent, accepted_logs, refused_logs, append_failed, memory_wanted, stays_reacts}
use Rattle.hw_session.proofs.NextLaws.{reacts_alike}

-- a frame was sent, and the session goes on
pub sent_answers : (n : NodeState) (mark : PeerMark) (r : Reaction Driver) (f : Frame) (next : Stage) (old new : Option (List Session)) → r.end ≡ None → r.says ≡ f ∷ [] → r.state.stage ≡ next → IsDue next n mark → Sends {T = Unit {0}} (framed f) old new (Ok tt)
    → AnswersAs n mark r old new (Ok next)
sent_answers n mark r f next old new goes says waits due s = record {
  node = (goes, s.told ∙ ap (λ (part : List ℕ). after_part [] part false old) (s.whole ∙ one_sent f ∙ ap sent_bytes (sym says)));
  waits = sym waits;
  due = due;
}

-- it wasn't sent whole
pub cut_answers : (n : NodeState) (mark : PeerMark) (r : Reaction Driver) (f : Frame) (e : SessionEnd) (old new : Option (List Session)) → r.says ≡ f ∷ [] → Sends {T = Unit {0}} (framed f) old new (Err e) → AnswersAs n mark r old new (Err e)
cut_answers n mark r f e old new says s = record {
  node = go e (subst (λ (bytes : List ℕ). Sends {T = Unit {0}} bytes old new (Err e)) (one_sent f ∙ ap sent_bytes (sym says)) s);
  waits = tt;
  due = tt;
}
  where
    go : (e : SessionEnd) → Sends {T = Unit {0}} (sent_bytes r.says) old new (Err e) → Answers {T = Stage} (node_part r) old new (Err e)
    go end.LinkFault s = (s.part, s.first, s.told)
    go end.OutOfMemory s = (s.part, s.first, s.told)
    go end.Done s = absurd s.error
    go end.EndOfInput s = absurd s.error
    go end.WrongInstance s = absurd s.error
    go (end.BadFrame at) s = absurd s.error
    go end.AppendFault s = absurd s.error
    go end.ByteLimit s = absurd s.error
    go end.Clash s = absurd s.error

-- ---- nothing was sent

-- there was no memory
pub wanting_answers : (n : NodeState) (mark : PeerMark) (r : Reaction Driver) (old : Option (List Session)) → AnswersAs n mark r old old (Err end.OutOfMemory)
wanting_answers n mark r old = record { node = ([], (0, refl), none_sent old); waits = tt; due = tt }

-- another frame was due
pub bad_answers : (n : NodeState) (mark : PeerMark) (d : Driver) (at : ℕ) (r : Reaction Driver) (old : Option (List Session)) → r ≡ not_due d at → AnswersAs n mark r old old (Err (end.BadFrame at))
bad_answers n mark d at r old is = subst (λ (x : Reaction Driver). AnswersAs n mark x old old (Err (end.BadFrame at))) (sym is) (record { node = (refl, none_sent old); waits = tt; due = tt })

-- the peer's Hello is of another instance, or there was no memory to tell
pub other_answers : (n : NodeState) (mark : PeerMark) (d : Driver) (at : ℕ) (peers : Digest) (old : Option (List Session)) (e : SessionEnd) → IsOfOther d.node peers e → AnswersAs n mark (drive_greeting d at (frame.Hello peers)) old old (Err e)
other_answers n mark d at peers old end.WrongInstance other =
    let by : drive_greeting d at (frame.Hello peers) ≡ ends d [] end.WrongInstance = ap (λ (b : Bool). cond b (push d (to_push d)) (ends d [] end.WrongInstance)) other in
    subst (λ (x : Reaction Driver). AnswersAs n mark x old old (Err end.WrongInstance)) (sym by) (record { node = (refl, none_sent old); waits = tt; due = tt })
other_answers n mark d at peers old end.OutOfMemory other = wanting_answers n mark (drive_greeting d at (frame.Hello peers)) old
other_answers n mark d at peers old end.Done other = absurd other
other_answers n mark d at peers old end.EndOfInput other = absurd other
other_answers n mark d at peers old (end.BadFrame place) other = absurd other
other_answers n mark d at peers old end.LinkFault other = absurd other
other_answers n mark d at peers old end.AppendFault other = absurd other
other_answers n mark d at peers old end.ByteLimit other = absurd other
other_answers n mark d at peers old end.Clash other = absurd other

-- ---- the next vertex

-- behind the journal there is none
past : (vs : List Vertex) (k : ℕ) → length vs ≤ k → drop k vs ≡ []
past [] zero le = refl
past [] (suc k) le = refl
past (v ∷ vs) zero le = absurd (omega arith)
past (v ∷ vs) (suc k) le = past vs k (omega arith)

pub push_none : (d : Driver) (left : ℕ) → length d.node.core.journal ≤ d.mark.pushed → push d left ≡ pull d 64
push_none d zero le = refl
push_none d (suc left) le = ap (push_first d left) (past d.node.core.journal d.mark.pushed le)

at_front : (vs : List Vertex) (k : ℕ) (v : Vertex) → Some v ≡ slice_get vs k → (rest : List Vertex) × (drop k vs ≡ v ∷ rest)
at_front [] k v is = absurd cc
at_front (w ∷ vs) zero v is = (vs, (let same : w ≡ v = cc in ap (λ (x : Vertex). x ∷ vs) same))
at_front (w ∷ vs) (suc k) v is = at_front vs k v is

pub push_one : (d : Driver) (left : ℕ) (v : Vertex) → left ≢ 0 → Some v ≡ slice_get d.node.core.journal d.mark.pushed → push d left ≡ goes_on (waiting d (stage.Pushing (left - 1))) (frame.Vertex v ∷ [])
push_one d zero v some is = absurd (some refl)
push_one d (suc left) v some is =
    let front = at_front d.node.core.journal d.mark.pushed v is in
    let less : left ≡ suc left - 1 = omega arith in
    ap (push_first d left) front.1 ∙ ap (λ (k : ℕ). goes_on (waiting d (stage.Pushing k)) (frame.Vertex v ∷ [])) less

-- ---- other frames than are due

pub greeting_bad : (d : Driver) (at : ℕ) (f : Frame) → ((i : Digest) → f ≡ frame.Hello i → ⊥) → drive_greeting d at f ≡ not_due d at
greeting_bad d at (frame.Hello i) other = absurd (other i refl)
greeting_bad d at (frame.Vertex v) other = refl
greeting_bad d at (frame.Have place) other = refl
greeting_bad d at (frame.Want needs) other = refl
greeting_bad d at frame.Done other = refl
greeting_bad d at (frame.Missing need) other = refl

pub pushing_bad : (d : Driver) (left at : ℕ) (f : Frame) → ((ns : List Need) → f ≡ frame.Want ns → ⊥) → drive_pushing d left at f ≡ not_due d at
pushing_bad d left at (frame.Want ns) other = absurd (other ns refl)
pushing_bad d left at (frame.Hello i) other = refl
pushing_bad d left at (frame.Vertex v) other = refl
pushing_bad d left at (frame.Have place) other = refl
pushing_bad d left at frame.Done other = refl
pushing_bad d left at (frame.Missing need) other = refl

-- ---- a frame that was read, and then handled

module _ (d : Driver) (place : ℕ) (m : NodeState) (now : PeerMark) (tells : Bool) (held_old held_new : List ℕ → Option (List ℕ)) (old mid new : Option (List Session)) (ends_old ends_mid ends_new : ℕ) (h : Heard)
    (heard : Hears {T = Heard} IsHeard place [] old mid ends_old ends_mid (Ok h)) (same : ends_new ≡ ends_mid) where
  abbrev reaction : Reaction Driver
  reaction = drive_step d (record { at = place; frame = h.frame })

  -- what the node waits for is its stage
  by_stage : drive_at d.stage d place h.frame ≡ reaction
  unfolding drive_step
  by_stage = refl

  pub handles_whole : (next : Stage) → ReactsAs tells (standing d.node held_old) h.frame (drive_at d.stage d place h.frame) (driver_standing m now held_new) mid new (Ok next) → HandlesAs tells d held_old place (driver_standing m now held_new) (door_told old ends_old) (door_told new ends_new) (Ok (record { place = h.next; stage = next }))
  handles_whole next reacts =
      let r = subst (λ (x : Reaction Driver). ReactsAs tells (standing d.node held_old) h.frame x (driver_standing m now held_new) mid new (Ok next)) by_stage reacts in
      record {
        part = heard.part;
        frame = h.frame;
        has = heard.says.0;
        within = heard.within;
        ends = same ∙ heard.ended;
        next = heard.says.1;
        marks = r.marks;
        waits = r.waits;
        due = r.due;
        reacts = subst (λ (o : Option (List Session)). Reacts {T = Onward} tells (standing d.node held_old) h.frame (node_part reaction) (standing m held_new) o new (Ok (record { place = h.next; stage = next }))) heard.heard r.node;
      }

  pub handles_end : (e : SessionEnd) → ReactsAs tells (standing d.node held_old) h.frame (drive_at d.stage d place h.frame) (driver_standing m now held_new) mid new (Err e) → HandlesAs tells d held_old place (driver_standing m now held_new) (door_told old ends_old) (door_told new ends_new) (Err e)
  handles_end e reacts =
      let r = subst (λ (x : Reaction Driver). ReactsAs tells (standing d.node held_old) h.frame x (driver_standing m now held_new) mid new (Err e)) by_stage reacts in
      record {
        part = heard.part;
        frame = h.frame;
        has = heard.says.0;
        within = heard.within;
        ends = same ∙ heard.ended;
        next = tt;
        marks = r.marks;
        waits = tt;
        due = tt;
        reacts = subst (λ (o : Option (List Session)). Reacts {T = Onward} tells (standing d.node held_old) h.frame (node_part reaction) (standing m held_new) o new (Err e)) heard.heard (reacts_alike Stage Onward d.node h.frame (node_part reaction) m tells held_old held_new mid new e r.node);
      }

-- ---- a vertex of the peer

-- nothing was sent for want of memory
pub nothing_sent : (bytes : List ℕ) (old : Option (List Session)) → Sends {T = Unit {0}} bytes old old (Err end.OutOfMemory)
nothing_sent bytes old = record { part = []; first = (0, refl); whole = tt; told = none_sent old; error = tt }

-- a refusal ends the session where it is a clash
after_refusal : (d : Driver) (c : Cause) → after_vertex d (Err c) ≡ cond (is_clash c) (ends d [] end.Clash) (goes_on d [])
after_refusal d cause.BadSignature = refl
after_refusal d (cause.Local rule) = refl
after_refusal d (cause.Pair f) = refl
after_refusal d (cause.Clash digest) = refl
after_refusal d cause.RecordsFull = refl
after_refusal d cause.ParkFull = refl
after_refusal d cause.OutOfMemory = refl

module _ (s : Stage) (n : NodeState) (mark : PeerMark) (v : Vertex) (m : NodeState) (tells : Bool) (held_old held_new : List ℕ → Option (List ℕ)) (due : (k : NodeState) → IsDue s k mark) where
  abbrev driver : Driver
  driver = record { stage = s; node = n; mark = mark }

  by_answer : (a : Result Receipt Cause) → given_to n v ≡ a → m ≡ taken_by n v a → drive_vertex driver v ≡ after_vertex (record { stage = s; node = m; mark = mark }) a
  by_answer a is left =
      ap (λ (x : Result Receipt Cause). after_vertex (record { stage = s; node = taken_by n v x; mark = mark }) x) is
      ∙ ap (λ (k : NodeState). after_vertex (record { stage = s; node = k; mark = mark }) a) (sym left)

  abbrev Received : Result (Option Receipt) SessionEnd → Type 0
  Received result = Receives n v m tells held_old held_new result

  abbrev Reacted : Option (List Session) → Result Stage SessionEnd → Type 0
  Reacted sessions result = ReactsAs tells (standing n held_old) (frame.Vertex v) (drive_vertex driver v) (driver_standing m mark held_new) sessions sessions result

  -- the session goes on, and nothing was sent
  went_on : Logs n m tells held_old held_new → (sessions : Option (List Session)) → drive_vertex driver v ≡ goes_on (record { stage = s; node = m; mark = mark }) [] → Reacted sessions (Ok s)
  went_on logs sessions by =
      subst (λ (x : Reaction Driver). ReactsAs tells (standing n held_old) (frame.Vertex v) x (driver_standing m mark held_new) sessions sessions (Ok s)) (sym by) (record {
        node = (refl, record { state = refl; logs = logs; told = none_sent sessions });
        marks = refl;
        waits = refl;
        due = due m;
      })

  by_refusal : (c : Cause) (b : Bool) → is_clash c ≡ b → Accepts n v m (Err (fault.Refused c)) → drive_vertex driver v ≡ cond b (ends (record { stage = s; node = m; mark = mark }) [] end.Clash) (goes_on (record { stage = s; node = m; mark = mark }) [])
  by_refusal c b is a =
      by_answer (Err c) a.1 a.2 ∙ after_refusal (record { stage = s; node = m; mark = mark }) c
      ∙ ap (λ (x : Bool). cond x (ends (record { stage = s; node = m; mark = mark }) [] end.Clash) (goes_on (record { stage = s; node = m; mark = mark }) [])) is

  pub vertex_goes : (taken : Option Receipt) (sessions : Option (List Session)) → Received (Ok taken) → Reacted sessions (Ok s)
  vertex_goes (Some r) sessions got = went_on (accepted_logs n v m tells held_old held_new r got.accepts got.writes) sessions (by_answer (Ok r) got.accepts.0 got.accepts.1)
  vertex_goes None sessions got = went_on (refused_logs n v m tells held_old held_new got.0 got.2.accepts got.2.writes) sessions (by_refusal got.0 false got.1 got.2.accepts)

  -- the marks stay at a vertex
  mark_stays : mark ≡ (drive_vertex driver v).state.mark
  mark_stays = go (given_to n v) (taken_by n v (given_to n v))
    where
      go : (a : Result Receipt Cause) (k : NodeState) → mark ≡ (after_vertex (record { stage = s; node = k; mark = mark }) a).state.mark
      go (Ok r) k = refl
      go (Err cause.BadSignature) k = refl
      go (Err (cause.Local rule)) k = refl
      go (Err (cause.Pair f)) k = refl
      go (Err (cause.Clash d)) k = refl
      go (Err cause.RecordsFull) k = refl
      go (Err cause.ParkFull) k = refl
      go (Err cause.OutOfMemory) k = refl

  -- the node stands where the vertex leaves it
  drives_taken : (node_part (drive_vertex driver v)).state ≡ taken_by n v (given_to n v)
  drives_taken = go (given_to n v) (taken_by n v (given_to n v))
    where
      go : (a : Result Receipt Cause) (k : NodeState) → (after_vertex (record { stage = s; node = k; mark = mark }) a).state.node ≡ k
      go (Ok r) k = refl
      go (Err cause.BadSignature) k = refl
      go (Err (cause.Local rule)) k = refl
      go (Err (cause.Pair f)) k = refl
      go (Err (cause.Clash d)) k = refl
      go (Err cause.RecordsFull) k = refl
      go (Err cause.ParkFull) k = refl
      go (Err cause.OutOfMemory) k = refl

  pub vertex_ends : (e : SessionEnd) (sessions : Option (List Session)) → Received (Err e) → Reacted sessions (Err e)
  vertex_ends end.Clash sessions got =
      subst (λ (x : Reaction Driver). ReactsAs tells (standing n held_old) (frame.Vertex v) x (driver_standing m mark held_new) sessions sessions (Err end.Clash)) (sym (by_refusal got.0 true got.1 got.2.accepts)) (record {
        node = (refl, record { state = refl; logs = refused_logs n v m tells held_old held_new got.0 got.2.accepts got.2.writes; told = none_sent sessions });
        marks = refl;
        waits = tt;
        due = tt;
      })
  vertex_ends end.AppendFault sessions got =
      record { node = append_failed n v m tells held_old held_new sessions (node_part (drive_vertex driver v)) drives_taken got.accepts got.writes; marks = mark_stays; waits = tt; due = tt }
  vertex_ends end.OutOfMemory sessions got =
      record { node = memory_wanted n v m tells held_old held_new sessions (node_part (drive_vertex driver v)) drives_taken Stage got.accepts got.writes; marks = mark_stays; waits = tt; due = tt }
  vertex_ends end.Done sessions got = absurd got
  vertex_ends end.EndOfInput sessions got = absurd got
  vertex_ends end.WrongInstance sessions got = absurd got
  vertex_ends (end.BadFrame at) sessions got = absurd got
  vertex_ends end.LinkFault sessions got = absurd got
  vertex_ends end.ByteLimit sessions got = absurd got

-- ---- a node that stays as it is

pub as_reacts : (n : NodeState) (f : Frame) (mark : PeerMark) (r : Reaction Driver) (tells : Bool) (held : List ℕ → Option (List ℕ)) (old new : Option (List Session)) (result : Result Stage SessionEnd) → n ≡ r.state.node → mark ≡ r.state.mark → AnswersAs n mark r old new result
    → ReactsAs tells (standing n held) f r (driver_standing n mark held) old new result
as_reacts n f mark r tells held old new result stands marks a = record { node = stays_reacts Stage n f (node_part r) tells held old new result stands a.node; marks = marks; waits = a.waits; due = a.due }

-- another frame was due
pub bad_reacts : (n : NodeState) (f : Frame) (mark : PeerMark) (d : Driver) (at : ℕ) (r : Reaction Driver) (tells : Bool) (held : List ℕ → Option (List ℕ)) (old : Option (List Session)) → n ≡ d.node → mark ≡ d.mark → r ≡ not_due d at
    → ReactsAs tells (standing n held) f r (driver_standing n mark held) old old (Err (end.BadFrame at))
bad_reacts n f mark d at r tells held old node marks is =
    as_reacts n f mark r tells held old old (Err (end.BadFrame at)) (node ∙ ap (λ (x : Reaction Driver). x.state.node) (sym is)) (marks ∙ ap (λ (x : Reaction Driver). x.state.mark) (sym is)) (bad_answers n mark d at r old is)

pub wanting_bad : (d : Driver) (at : ℕ) (f : Frame) → ((v : Vertex) → f ≡ frame.Vertex v → ⊥) → ((m : Need) → f ≡ frame.Missing m → ⊥) → ((k : ℕ) → f ≡ frame.Have k → ⊥) → drive_wanting d at f ≡ not_due d at
wanting_bad d at (frame.Vertex v) a b c = absurd (a v refl)
wanting_bad d at (frame.Missing m) a b c = absurd (b m refl)
wanting_bad d at (frame.Have k) a b c = absurd (c k refl)
wanting_bad d at (frame.Hello i) a b c = refl
wanting_bad d at (frame.Want ns) a b c = refl
wanting_bad d at frame.Done a b c = refl

pub pulling_bad : (d : Driver) (again at : ℕ) (f : Frame) → ((v : Vertex) → f ≡ frame.Vertex v → ⊥) → ((k : ℕ) → f ≡ frame.Have k → ⊥) → drive_pulling d again at f ≡ not_due d at
pulling_bad d again at (frame.Vertex v) a b = absurd (a v refl)
pulling_bad d again at (frame.Have k) a b = absurd (b k refl)
pulling_bad d again at (frame.Hello i) a b = refl
pulling_bad d again at (frame.Want ns) a b = refl
pulling_bad d again at (frame.Missing m) a b = refl
pulling_bad d again at frame.Done a b = refl

pub leaving_bad : (d : Driver) (at : ℕ) (f : Frame) → (f ≡ frame.Done → ⊥) → drive_leaving d at f ≡ not_due d at
leaving_bad d at frame.Done a = absurd (a refl)
leaving_bad d at (frame.Vertex v) a = refl
leaving_bad d at (frame.Have k) a = refl
leaving_bad d at (frame.Hello i) a = refl
leaving_bad d at (frame.Want ns) a = refl
leaving_bad d at (frame.Missing m) a = refl

-- what was told moves the mark and leaves the node
some_node : (d : Driver) (ns : List Need) → d.node ≡ (want_some d ns).state.node
some_node d [] = refl
some_node d (n ∷ ns) = refl

pub told_node : (d : Driver) (again place : ℕ) → d.node ≡ (drive_have d again place).state.node
told_node d zero place = some_node (with_pulled d place) (take 64 (unmet_in d.node.core))
told_node d (suc more) place = go (place == d.mark.pulled)
  where
    go : (b : Bool) → d.node ≡ (cond b (want (with_pulled d place)) (pull (with_pulled d place) more)).state.node
    go true = some_node (with_pulled d place) (take 64 (unmet_in d.node.core))
    go false = refl

-- what was told is handled alike whatever is waited for
some_alike : (n : NodeState) (mark : PeerMark) (s t : Stage) (ns : List Need) → want_some (record { stage = s; node = n; mark = mark }) ns ≡ want_some (record { stage = t; node = n; mark = mark }) ns
some_alike n mark s t [] = refl
some_alike n mark s t (x ∷ ns) = refl

pub told_alike : (n : NodeState) (mark : PeerMark) (s t : Stage) (again place : ℕ) → drive_have (record { stage = s; node = n; mark = mark }) again place ≡ drive_have (record { stage = t; node = n; mark = mark }) again place
told_alike n mark s t zero place = some_alike n (record mark { pulled = place }) s t (take 64 (unmet_in n.core))
told_alike n mark s t (suc more) place = go (place == mark.pulled)
  where
    go : (b : Bool) → cond b (want (with_pulled (record { stage = s; node = n; mark = mark }) place)) (pull (with_pulled (record { stage = s; node = n; mark = mark }) place) more)
        ≡ cond b (want (with_pulled (record { stage = t; node = n; mark = mark }) place)) (pull (with_pulled (record { stage = t; node = n; mark = mark }) place) more)
    go true = some_alike n (record mark { pulled = place }) s t (take 64 (unmet_in n.core))
    go false = refl

-- ---- what a reaction leaves as it was

first_keeps : (d : Driver) (left : ℕ) (vs : List Vertex) → (d.node ≡ (push_first d left vs).state.node) × (d.mark ≡ (push_first d left vs).state.mark)
first_keeps d left [] = (refl, refl)
first_keeps d left (v ∷ vs) = (refl, refl)

push_keeps : (d : Driver) (left : ℕ) → (d.node ≡ (push d left).state.node) × (d.mark ≡ (push d left).state.mark)
push_keeps d zero = (refl, refl)
push_keeps d (suc left) = first_keeps d left (drop d.mark.pushed d.node.core.journal)

pub greeting_keeps : (d : Driver) (at : ℕ) (f : Frame) → (d.node ≡ (drive_greeting d at f).state.node) × (d.mark ≡ (drive_greeting d at f).state.mark)
greeting_keeps d at (frame.Hello i) = go (digest_eq i (instance_of d.node.core.config))
  where
    go : (b : Bool) → (d.node ≡ (cond b (push d (to_push d)) (ends d [] end.WrongInstance)).state.node) × (d.mark ≡ (cond b (push d (to_push d)) (ends d [] end.WrongInstance)).state.mark)
    go true = push_keeps d (to_push d)
    go false = (refl, refl)
greeting_keeps d at (frame.Vertex v) = (refl, refl)
greeting_keeps d at (frame.Have place) = (refl, refl)
greeting_keeps d at (frame.Want needs) = (refl, refl)
greeting_keeps d at frame.Done = (refl, refl)
greeting_keeps d at (frame.Missing need) = (refl, refl)

pub pushing_node : (d : Driver) (left at : ℕ) (f : Frame) → d.node ≡ (drive_pushing d left at f).state.node
pushing_node d left at (frame.Want needs) = (push_keeps (with_pushed d) left).0
pushing_node d left at (frame.Hello i) = refl
pushing_node d left at (frame.Vertex v) = refl
pushing_node d left at (frame.Have place) = refl
pushing_node d left at frame.Done = refl
pushing_node d left at (frame.Missing need) = refl

-- ---- what is done whatever is waited for

first_alike : (n : NodeState) (mark : PeerMark) (s t : Stage) (left : ℕ) (vs : List Vertex) → push_first (record { stage = s; node = n; mark = mark }) left vs ≡ push_first (record { stage = t; node = n; mark = mark }) left vs
first_alike n mark s t left [] = refl
first_alike n mark s t left (v ∷ vs) = refl

pub push_alike : (n : NodeState) (mark : PeerMark) (s t : Stage) (left : ℕ) → push (record { stage = s; node = n; mark = mark }) left ≡ push (record { stage = t; node = n; mark = mark }) left
push_alike n mark s t zero = refl
push_alike n mark s t (suc left) = first_alike n mark s t left (drop mark.pushed n.core.journal)

-- where the node goes on, nothing is said, and it waits for the same
pub goes_answers : (n : NodeState) (d : Driver) (old : Option (List Session)) → IsDue d.stage n d.mark → AnswersAs n d.mark (goes_on d []) old old (Ok d.stage)
goes_answers n d old due = record { node = (refl, none_sent old); waits = refl; due = due }

-- the peer said Done
pub done_answers : (n : NodeState) (d : Driver) (old : Option (List Session)) → AnswersAs n d.mark (ends d [] end.Done) old old (Err end.Done)
done_answers n d old = record { node = (refl, none_sent old); waits = tt; due = tt }

pub push_mark : (d : Driver) (left : ℕ) → d.mark ≡ (push d left).state.mark
push_mark d left = (push_keeps d left).1
