-- What a node did at a frame.
use Rattle.std.proofs.Common.{◌≡◌, ◌⊎◌, ℕ, ◌+◌, Bool, true, false, cond, List, [], ◌∷◌, ◌++◌, length, take, Option, None, Result, Ok, Err, IsTrue, inl, inr, refl, sym, ap, subst, ◌∙◌, arith, length-append}
use Rattle.std.proofs.lemmas.List.{append-nil}
use Rattle.hw_types.specs.declared.unit.Vertex.{Vertex}
use Rattle.hw_types.specs.declared.answers.Frame.{Frame}
use Rattle.hw_types.specs.declared.answers.Frame.TheVariants as frame
use Rattle.hw_types.specs.declared.answers.Receipt.{Receipt}
use Rattle.hw_types.specs.declared.answers.Receipt.TheVariants as receipt
use Rattle.hw_types.specs.declared.answers.Cause.{Cause}
use Rattle.hw_types.specs.declared.answers.Cause.TheVariants as cause
use Rattle.hw_types.specs.Journal.{is_accepted}
use Rattle.hw_io.specs.Doors.{Session}
use Rattle.hw_io.specs.Files.{SameFiles, Appended}
use Rattle.hw_link.specs.declared.end.SessionEnd.{SessionEnd}
use Rattle.hw_link.specs.declared.end.SessionEnd.TheVariants as end
use Rattle.hw_link.specs.Frames.{framed, sent_bytes}
use Rattle.hw_link.specs.Talk.{Reaction, goes_on, ends}
use Rattle.hw_link.specs.Links.{after_part}
use Rattle.hw_link.specs.Sent.{Sends}
use Rattle.hw_link.proofs.LinkLaws.{after_nothing}
use Rattle.hw_session.specs.declared.fault.AcceptFault.{AcceptFault}
use Rattle.hw_session.specs.declared.fault.AcceptFault.TheVariants as fault
use Rattle.hw_session.specs.Node.{NodeState}
use Rattle.hw_session.specs.Make.{entry_for, with_entry}
use Rattle.hw_session.specs.Accept.{given_to, taken_by, refused_by, IsUnlogged, Accepts, WritesAccepted}
use Rattle.hw_session.specs.Grows.{GrowsBy, Gains, Logs, LogsAllBut}
use Rattle.hw_session.specs.Serving.{is_clash, wanted_by, answer_to_vertex, serve_vertex}
use Rattle.hw_session.specs.Handling.{Took, WasCut, Reacts, Answers, Receives, StandsLast, IsLogCounted}
use Rattle.hw_session.specs.Standing.{standing}
use Rattle.hw_session.proofs.GrowsLaws.{grows_whole, grows_cut, gains_nothing, gains_one, logs_nothing, logs_counts}

-- ---- what was sent is the answer

-- one frame
pub one_sent : (f : Frame) → framed f ≡ sent_bytes (f ∷ [])
one_sent f = sym (append-nil (framed f))

-- nothing
pub none_sent : (old : Option (List Session)) → old ≡ after_part [] (sent_bytes []) false old
none_sent old = sym (after_nothing old)

-- all of an answer was sent, or a first part of it, and the session goes on
pub sends_answers : (r : Reaction NodeState) (old new : Option (List Session)) (result : Result (Unit {0}) SessionEnd) → r.end ≡ None → Sends {T = Unit {0}} (sent_bytes r.says) old new result → Answers {T = Unit {0}} r old new result
sends_answers r old new (Ok x) goes s = (goes, s.told ∙ ap (λ (part : List ℕ). after_part [] part false old) s.whole)
sends_answers r old new (Err end.LinkFault) goes s = (s.part, s.first, s.told)
sends_answers r old new (Err end.OutOfMemory) goes s = (s.part, s.first, s.told)
sends_answers r old new (Err end.Done) goes s = absurd s.error
sends_answers r old new (Err end.EndOfInput) goes s = absurd s.error
sends_answers r old new (Err end.WrongInstance) goes s = absurd s.error
sends_answers r old new (Err (end.BadFrame at)) goes s = absurd s.error
sends_answers r old new (Err end.AppendFault) goes s = absurd s.error
sends_answers r old new (Err end.ByteLimit) goes s = absurd s.error
sends_answers r old new (Err end.Clash) goes s = absurd s.error

-- the same of an answer that ends the session, where it wasn't sent whole
pub sends_ends : (T : Type 0) (r : Reaction NodeState) (old new : Option (List Session)) (e : SessionEnd) → Sends {T = T} (sent_bytes r.says) old new (Err e) → Answers {T = T} r old new (Err e)
sends_ends T r old new end.LinkFault s = (s.part, s.first, s.told)
sends_ends T r old new end.OutOfMemory s = (s.part, s.first, s.told)
sends_ends T r old new end.Done s = absurd s.error
sends_ends T r old new end.EndOfInput s = absurd s.error
sends_ends T r old new end.WrongInstance s = absurd s.error
sends_ends T r old new (end.BadFrame at) s = absurd s.error
sends_ends T r old new end.AppendFault s = absurd s.error
sends_ends T r old new end.ByteLimit s = absurd s.error
sends_ends T r old new end.Clash s = absurd s.error

-- ---- a node that took what came, and then answered

module _ (T : Type 0) (n : NodeState) (f : Frame) (r : Reaction NodeState) (m : NodeState) (tells : Bool) (held_old held_new : List ℕ → Option (List ℕ)) (old new : Option (List Session)) (stands : m ≡ r.state) (logs : Logs n m tells held_old held_new) where
  took : (sent : List ℕ) (failed : Bool) → new ≡ after_part [] sent failed old → Took tells (standing n held_old) r sent failed (standing m held_new) old new
  took sent failed told = record { state = stands; logs = logs; told = told }

  pub answers_reacts : (result : Result T SessionEnd) → Answers {T = T} r old new result → Reacts {T = T} tells (standing n held_old) f r (standing m held_new) old new result
  answers_reacts (Ok x) a = (a.0, took (sent_bytes r.says) false a.1)
  answers_reacts (Err end.LinkFault) a = (a.0, a.1, took a.0 true a.2)
  answers_reacts (Err end.OutOfMemory) a = inr (inl (a.0, a.1, took a.0 false a.2))
  answers_reacts (Err end.AppendFault) a = absurd a
  answers_reacts (Err end.Done) a = (a.0, took (sent_bytes r.says) false a.1)
  answers_reacts (Err end.EndOfInput) a = (a.0, took (sent_bytes r.says) false a.1)
  answers_reacts (Err end.WrongInstance) a = (a.0, took (sent_bytes r.says) false a.1)
  answers_reacts (Err (end.BadFrame at)) a = (a.0, took (sent_bytes r.says) false a.1)
  answers_reacts (Err end.ByteLimit) a = (a.0, took (sent_bytes r.says) false a.1)
  answers_reacts (Err end.Clash) a = (a.0, took (sent_bytes r.says) false a.1)

-- a node that stays as it is, with its files
pub stays_reacts : (T : Type 0) (n : NodeState) (f : Frame) (r : Reaction NodeState) (tells : Bool) (held : List ℕ → Option (List ℕ)) (old new : Option (List Session)) (result : Result T SessionEnd) → n ≡ r.state → Answers {T = T} r old new result
    → Reacts {T = T} tells (standing n held) f r (standing n held) old new result
stays_reacts T n f r tells held old new result stands a = answers_reacts T n f r n tells held held old new stands (logs_nothing tells n held held (λ t name. refl)) result a

-- ---- a vertex

-- its answer leaves the node
pub stays_answered : (n : NodeState) (v : Vertex) (a : Result Receipt Cause) → (answer_to_vertex n v a).state ≡ n
stays_answered n v (Ok r) = refl
stays_answered n v (Err c) = go (is_clash c)
  where
    go : (b : Bool) → (cond b (ends n [] end.Clash) (goes_on n (frame.Want [] ∷ []))).state ≡ n
    go true = refl
    go false = refl

-- a node that serves stands where the vertex leaves it
pub serves_taken : (n : NodeState) (v : Vertex) → (serve_vertex n v).state ≡ taken_by n v (given_to n v)
serves_taken n v = stays_answered (taken_by n v (given_to n v)) v (given_to n v)

-- ---- a refusal

refused_by_clash : (n : NodeState) (v : Vertex) (c : Cause) (b : Bool) → is_clash c ≡ b → answer_to_vertex n v (Err c) ≡ cond b (ends n [] end.Clash) (goes_on n (frame.Want [] ∷ []))
refused_by_clash n v c b is = ap (λ (x : Bool). cond x (ends n [] end.Clash) (goes_on n (frame.Want [] ∷ []))) is

clash_answers : (n : NodeState) (v : Vertex) (c : Cause) (old : Option (List Session)) → is_clash c ≡ true → Answers {T = Unit {0}} (answer_to_vertex n v (Err c)) old old (Err end.Clash)
clash_answers n v c old is = subst (λ (r : Reaction NodeState). Answers {T = Unit {0}} r old old (Err end.Clash)) (sym (refused_by_clash n v c true is)) (refl, none_sent old)

refusal_answers : (n : NodeState) (v : Vertex) (c : Cause) (old new : Option (List Session)) (result : Result (Unit {0}) SessionEnd) → is_clash c ≡ false → Sends {T = Unit {0}} (framed (frame.Want [])) old new result
    → Answers {T = Unit {0}} (answer_to_vertex n v (Err c)) old new result
refusal_answers n v c old new result is s =
    subst (λ (r : Reaction NodeState). Answers {T = Unit {0}} r old new result) (sym (refused_by_clash n v c false is))
    (sends_answers (goes_on n (frame.Want [] ∷ [])) old new result refl (subst (λ (bytes : List ℕ). Sends {T = Unit {0}} bytes old new result) (one_sent (frame.Want [])) s))

-- ---- what a vertex leaves

module _ (n : NodeState) (v : Vertex) (m : NodeState) (tells : Bool) (held_old held_new : List ℕ → Option (List ℕ)) where
  abbrev Writes : Result Receipt AcceptFault → Type 0
  Writes result = IsTrue tells → WritesAccepted n v m held_old held_new result

  abbrev LogsTo : NodeState → Type 0
  LogsTo k = Logs n k tells held_old held_new

  -- ---- what went last in the journal went last in the log

  with_one : {E : Type 0} (r : Receipt) → (IsTrue tells → Appended {T = Receipt} {E = E} held_old held_new n.log (entry_for n v) (Ok r)) → LogsTo (with_entry n v)
  with_one r a = record { vertices = v ∷ []; gains = gains_one n v; log = λ t. subst (λ (bytes : List ℕ). GrowsBy held_old held_new n.log bytes) (sym (append-nil (entry_for n v))) (grows_whole held_old held_new n.log (entry_for n v) r (a t)) }

  receipt_logs : (r : Receipt) → Writes (Ok r) → LogsTo (taken_by n v (Ok r))
  receipt_logs receipt.Repeat w = logs_counts tells n (taken_by n v (Ok receipt.Repeat)) held_old held_new (record { journal = sym (append-nil n.core.journal); lasts = refl; name = refl }) w
  receipt_logs (receipt.Admitted k) w = with_one {E = AcceptFault} (receipt.Admitted k) w
  receipt_logs (receipt.Parked k) w = with_one {E = AcceptFault} (receipt.Parked k) w
  receipt_logs (receipt.Dropped rule) w = with_one {E = AcceptFault} (receipt.Dropped rule) w

  pub accepted_logs : (r : Receipt) → Accepts n v m (Ok r) → Writes (Ok r) → LogsTo m
  accepted_logs r a w = subst LogsTo (sym a.1) (receipt_logs r w)

  refused_gains : (c : Cause) → Gains n [] (refused_by n v c)
  refused_gains cause.BadSignature = record { journal = sym (append-nil n.core.journal); lasts = refl; name = refl }
  refused_gains (cause.Local rule) = record { journal = sym (append-nil n.core.journal); lasts = refl; name = refl }
  refused_gains (cause.Pair f) = record { journal = sym (append-nil n.core.journal); lasts = refl; name = refl }
  refused_gains (cause.Clash d) = record { journal = sym (append-nil n.core.journal); lasts = refl; name = refl }
  refused_gains cause.RecordsFull = record { journal = sym (append-nil n.core.journal); lasts = refl; name = refl }
  refused_gains cause.ParkFull = record { journal = sym (append-nil n.core.journal); lasts = refl; name = refl }
  refused_gains cause.OutOfMemory = record { journal = sym (append-nil n.core.journal); lasts = refl; name = refl }

  pub refused_logs : (c : Cause) → Accepts n v m (Err (fault.Refused c)) → Writes (Err (fault.Refused c)) → LogsTo m
  refused_logs c a w = subst LogsTo (sym a.2) (logs_counts tells n (refused_by n v c) held_old held_new (refused_gains c) w)

  -- ---- an append that failed

  all_but : IsUnlogged n v m → (IsTrue tells → (k : ℕ) × GrowsBy held_old held_new n.log (take k (entry_for n v))) → LogsAllBut n n v m tells held_old held_new
  all_but unlogged cut = record { vertices = []; gains = gains_nothing n; unlogged = unlogged; log = cut }

  -- an accepted vertex leaves the node with it and its entry
  whole_by : (a : Result Receipt Cause) → is_accepted a ≡ true → taken_by n v a ≡ with_entry n v
  whole_by (Ok receipt.Repeat) is = absurd cc
  whole_by (Ok (receipt.Admitted k)) is = refl
  whole_by (Ok (receipt.Parked k)) is = refl
  whole_by (Ok (receipt.Dropped rule)) is = refl
  whole_by (Err c) is = absurd cc

  module _ (old : Option (List Session)) (r : Reaction NodeState) (leaves : r.state ≡ taken_by n v (given_to n v)) where
    whole : IsUnlogged n v m → r.state ≡ with_entry n v
    whole unlogged = leaves ∙ whole_by (given_to n v) unlogged.0

    pub append_failed : Accepts n v m (Err fault.AppendFault) → Writes (Err fault.AppendFault) → WasCut tells (standing n held_old) (frame.Vertex v) r (standing m held_new) old old
    append_failed a w = record { vertex = v; frame_is = refl; whole = whole a; logs = all_but a (λ t. grows_cut held_old held_new n.log (entry_for n v) fault.AppendFault (w t)); told = refl }

    -- it can't have stayed and taken the vertex
    not_both : m ≡ n → IsUnlogged n v m → ⊥
    not_both same unlogged =
        let lengths : length n.core.journal ≡ length (n.core.journal ++ v ∷ []) = ap (λ (k : NodeState). length k.core.journal) (sym same ∙ unlogged.1) in
        let longer : length (n.core.journal ++ v ∷ []) ≡ length n.core.journal + 1 = length-append n.core.journal (v ∷ []) in
        absurd (omega arith)

    abbrev Wanting : Type 0
    Wanting = ((m ≡ n) × SameFiles held_old held_new) ⊎ (IsUnlogged n v m × Appended {T = Receipt} held_old held_new n.log (entry_for n v) (Err fault.OutOfMemory))

    same_files : m ≡ n → Wanting → SameFiles held_old held_new
    same_files same (inl stayed) = stayed.1
    same_files same (inr taken) = absurd (not_both same taken.0)

    cut_files : IsUnlogged n v m → Wanting → (k : ℕ) × GrowsBy held_old held_new n.log (take k (entry_for n v))
    cut_files unlogged (inl stayed) = absurd (not_both stayed.0 unlogged)
    cut_files unlogged (inr taken) = grows_cut held_old held_new n.log (entry_for n v) fault.OutOfMemory taken.1

    pub memory_wanted : (T : Type 0) → Accepts n v m (Err fault.OutOfMemory) → Writes (Err fault.OutOfMemory) → Reacts {T = T} tells (standing n held_old) (frame.Vertex v) r (standing m held_new) old old (Err end.OutOfMemory)
    memory_wanted T (inl same) w = inl (record { state = same; files = λ t. same_files same (w t); told = refl })
    memory_wanted T (inr unlogged) w = inr (inr (record { vertex = v; frame_is = refl; whole = whole unlogged; logs = all_but unlogged (λ t. cut_files unlogged (w t)); told = refl }))

  -- ---- its answer

  abbrev Reacted : Option (List Session) → Option (List Session) → Result (Unit {0}) SessionEnd → Type 0
  Reacted old new result = Reacts {T = Unit {0}} tells (standing n held_old) (frame.Vertex v) (serve_vertex n v) (standing m held_new) old new result

  -- the node's reaction, by the answer
  reaction_by : (a : Result Receipt Cause) → given_to n v ≡ a → serve_vertex n v ≡ answer_to_vertex (taken_by n v a) v a
  reaction_by a is = ap (λ (x : Result Receipt Cause). answer_to_vertex (taken_by n v x) v x) is

  -- a receipt is answered with a Want
  pub receipt_reacts : (r : Receipt) (old new : Option (List Session)) (result : Result (Unit {0}) SessionEnd) → Accepts n v m (Ok r) → Writes (Ok r) → Sends {T = Unit {0}} (framed (frame.Want (wanted_by m.core r v))) old new result → Reacted old new result
  receipt_reacts r old new result a w s =
      let by : serve_vertex n v ≡ goes_on m (frame.Want (wanted_by m.core r v) ∷ []) = reaction_by (Ok r) a.0 ∙ ap (λ (k : NodeState). answer_to_vertex k v (Ok r)) (sym a.1) in
      let reaction : Reaction NodeState = goes_on m (frame.Want (wanted_by m.core r v) ∷ []) in
      subst (λ (x : Reaction NodeState). Reacts {T = Unit {0}} tells (standing n held_old) (frame.Vertex v) x (standing m held_new) old new result) (sym by)
      (answers_reacts (Unit {0}) n (frame.Vertex v) reaction m tells held_old held_new old new refl (accepted_logs r a w) result
      (sends_answers reaction old new result refl (subst (λ (bytes : List ℕ). Sends {T = Unit {0}} bytes old new result) (one_sent (frame.Want (wanted_by m.core r v))) s)))

  -- a refusal is answered with a Want of nothing, or ends the session
  refusal_reacts : (c : Cause) (old new : Option (List Session)) (result : Result (Unit {0}) SessionEnd) → Accepts n v m (Err (fault.Refused c)) → Writes (Err (fault.Refused c)) → Answers {T = Unit {0}} (answer_to_vertex m v (Err c)) old new result
      → Reacted old new result
  refusal_reacts c old new result a w answers =
      let by : serve_vertex n v ≡ answer_to_vertex m v (Err c) = reaction_by (Err c) a.1 ∙ ap (λ (k : NodeState). answer_to_vertex k v (Err c)) (sym a.2) in
      subst (λ (x : Reaction NodeState). Reacts {T = Unit {0}} tells (standing n held_old) (frame.Vertex v) x (standing m held_new) old new result) (sym by)
      (answers_reacts (Unit {0}) n (frame.Vertex v) (answer_to_vertex m v (Err c)) m tells held_old held_new old new (sym (stays_answered m v (Err c))) (refused_logs c a w) result answers)

  -- ---- its answer, by what was received

  abbrev Received : Result (Option Receipt) SessionEnd → Type 0
  Received result = Receives n v m tells held_old held_new result

  -- a refused vertex is answered with a Want of nothing
  pub refused_reacts : (old new : Option (List Session)) (result : Result (Unit {0}) SessionEnd) → Received (Ok None) → Sends {T = Unit {0}} (framed (frame.Want [])) old new result → Reacted old new result
  refused_reacts old new result got s = refusal_reacts got.0 old new result got.2.accepts got.2.writes (refusal_answers m v got.0 old new result got.1 s)

  -- or the session ends
  pub ends_reacts : (old : Option (List Session)) (e : SessionEnd) → Received (Err e) → Reacted old old (Err e)
  ends_reacts old end.Clash got = refusal_reacts got.0 old old (Err end.Clash) got.2.accepts got.2.writes (clash_answers m v got.0 old got.1)
  ends_reacts old end.AppendFault got = append_failed old (serve_vertex n v) (serves_taken n v) got.accepts got.writes
  ends_reacts old end.OutOfMemory got = memory_wanted old (serve_vertex n v) (serves_taken n v) (Unit {0}) got.accepts got.writes
  ends_reacts old end.Done got = absurd got
  ends_reacts old end.EndOfInput got = absurd got
  ends_reacts old end.WrongInstance got = absurd got
  ends_reacts old (end.BadFrame at) got = absurd got
  ends_reacts old end.LinkFault got = absurd got
  ends_reacts old end.ByteLimit got = absurd got

  -- a vertex whose receipt wants more went last in the journal
  pub stands_last : (r : Receipt) → Accepts n v m (Ok r) → StandsLast r v m.core.journal
  stands_last receipt.Repeat a = tt
  stands_last (receipt.Admitted k) a = tt
  stands_last (receipt.Dropped rule) a = tt
  stands_last (receipt.Parked k) a = (n.core.journal, ap (λ (x : NodeState). x.core.journal) a.1)

-- ---- nothing is appended by an answer

pub sends_unlogged : (bytes : List ℕ) (old new : Option (List Session)) (result : Result (Unit {0}) SessionEnd) (before now : ℕ) → now ≡ before → Sends {T = Unit {0}} bytes old new result → IsLogCounted {T = Unit {0}} before now result
sends_unlogged bytes old new (Ok x) before now same s = same
sends_unlogged bytes old new (Err end.AppendFault) before now same s = absurd s.error
sends_unlogged bytes old new (Err end.Done) before now same s = same
sends_unlogged bytes old new (Err end.EndOfInput) before now same s = same
sends_unlogged bytes old new (Err end.WrongInstance) before now same s = same
sends_unlogged bytes old new (Err (end.BadFrame at)) before now same s = same
sends_unlogged bytes old new (Err end.LinkFault) before now same s = same
sends_unlogged bytes old new (Err end.ByteLimit) before now same s = same
sends_unlogged bytes old new (Err end.Clash) before now same s = same
sends_unlogged bytes old new (Err end.OutOfMemory) before now same s = same
