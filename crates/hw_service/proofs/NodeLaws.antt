-- What the vertices of a peer leave of a node and its log.
use Rattle.std.proofs.Common.{◌≡◌, ◌⊎◌, ℕ, ◌+◌, Bool, List, [], ◌∷◌, ◌++◌, length, take, Option, Result, Ok, Err, IsTrue, inl, inr, refl, sym, ap, subst, ◌∙◌, arith, length-append}
use Rattle.hw_types.specs.declared.unit.Vertex.{Vertex}
use Rattle.hw_types.specs.declared.answers.Receipt.{Receipt}
use Rattle.hw_types.specs.Real.{CoreState}
use Rattle.hw_keys.specs.Signed.{verdict_of}
use Rattle.hw_io.specs.Files.{SameFiles}
use Rattle.hw_session.specs.declared.fault.AcceptFault.{AcceptFault}
use Rattle.hw_session.specs.declared.fault.AcceptFault.TheVariants as accept
use Rattle.hw_session.specs.Node.{NodeState}
use Rattle.hw_session.specs.Make.{entry_for}
use Rattle.hw_session.specs.Accept.{taken_by, IsUnlogged, Accepts, WritesAccepted}
use Rattle.hw_session.specs.Grows.{GrowsBy, Logs, LogsAllBut}
use Rattle.hw_session.proofs.GrowsLaws.{grows_cut, gains_nothing, logs_nothing, logs_then, logs_but}
use Rattle.hw_session.proofs.ReactLaws.{accepted_logs, refused_logs}
use Rattle.hw_meeting_node.specs.declared.end.MeetEnd.{MeetEnd}
use Rattle.hw_meeting_node.specs.declared.end.MeetEnd.TheVariants as end
use Rattle.hw_meeting_node.specs.declared.meeter.Side.{Side}
use Rattle.hw_meeting_node.specs.declared.taker.TakeFault.{TakeFault}
use Rattle.hw_meeting_node.specs.declared.taker.TakeFault.TheVariants as fault
use Rattle.hw_meeting_node.specs.Taking.{taken_in, TakeStep, IsAnswered, TakesAll, TakesFirst, TakesUntil, Took, TakesPeer, TakesNone, with_taker}
use Rattle.hw_service.specs.Scene.{DoorSeen, sessions_told}
use Rattle.hw_service.specs.Talk.{Talker}
use Rattle.hw_service.specs.Taker.{take_answer, TakesIn}
use Rattle.hw_service.specs.Meets.{after_vertex, after_all, vertices_of, StandsBefore, StandsCut, Leaves, NodeMeets, NodeMeetsNone}

-- the node with its log, and the door
abbrev pub talker_with : NodeState → (List ℕ → Option (List ℕ)) → DoorSeen → Talker
talker_with node files door = record { node = node; files = files; door = door }

-- ---- one vertex

module _ (n : NodeState) (v : Vertex) (m : NodeState) (tells : Bool) (old new : List ℕ → Option (List ℕ)) where
  abbrev Stands : Type 0
  Stands = (m ≡ after_vertex n v) × Logs n m tells old new

  stands_by : (given : Result Receipt AcceptFault) → IsAnswered (take_answer given) → Accepts n v m given → (IsTrue tells → WritesAccepted n v m old new given) → Stands
  stands_by (Ok r) ok accepts log = (accepts.1 ∙ ap (taken_by n v) (sym accepts.0), accepted_logs n v m tells old new r accepts log)
  stands_by (Err (accept.Refused why)) ok accepts log = (accepts.2 ∙ ap (taken_by n v) (sym accepts.1), refused_logs n v m tells old new why accepts log)
  stands_by (Err accept.AppendFault) ok accepts log = absurd ok
  stands_by (Err accept.OutOfMemory) ok accepts log = absurd ok

  -- it was accepted or refused
  stands : (answer : Result Receipt TakeFault) → IsAnswered answer → TakesIn n v m tells old new answer → Stands
  stands answer ok t = stands_by t.given (subst IsAnswered t.is ok) t.accepts t.log

  -- it was accepted, and its entry may be cut
  abbrev Cut : Type 0
  Cut = LogsAllBut n n v m tells old new

  cut_in : IsUnlogged n v m → (IsTrue tells → (k : ℕ) × GrowsBy old new n.log (take k (entry_for n v))) → Cut
  cut_in unlogged log = record { vertices = []; gains = gains_nothing n; unlogged = unlogged; log = log }

  append_by : (given : Result Receipt AcceptFault) → Err fault.AppendFault ≡ take_answer given → Accepts n v m given → (IsTrue tells → WritesAccepted n v m old new given) → Cut
  append_by (Err accept.AppendFault) is accepts log = cut_in accepts (λ t. grows_cut old new n.log (entry_for n v) accept.AppendFault (log t))
  append_by (Ok r) is accepts log = absurd cc
  append_by (Err (accept.Refused why)) is accepts log = absurd cc
  append_by (Err accept.OutOfMemory) is accepts log = absurd cc

  -- an append failed
  append_cut : TakesIn n v m tells old new (Err fault.AppendFault) → Cut
  append_cut t = append_by t.given t.is t.accepts t.log

  -- it can't have stayed and taken the vertex
  not_both : m ≡ n → IsUnlogged n v m → ⊥
  not_both same unlogged =
      let lengths : length n.core.journal ≡ length (n.core.journal ++ v ∷ []) = ap (λ (k : NodeState). length k.core.journal) (sym same ∙ unlogged.1) in
      let longer : length (n.core.journal ++ v ∷ []) ≡ length n.core.journal + 1 = length-append n.core.journal (v ∷ []) in
      absurd (omega arith)

  abbrev Wanting : Type 0
  Wanting = WritesAccepted n v m old new (Err accept.OutOfMemory)

  same_files : m ≡ n → Wanting → SameFiles old new
  same_files same (inl stayed) = stayed.1
  same_files same (inr taken) = absurd (not_both same taken.0)

  cut_files : IsUnlogged n v m → Wanting → (k : ℕ) × GrowsBy old new n.log (take k (entry_for n v))
  cut_files unlogged (inl stayed) = absurd (not_both stayed.0 unlogged)
  cut_files unlogged (inr taken) = grows_cut old new n.log (entry_for n v) accept.OutOfMemory taken.1

  memory_by : (given : Result Receipt AcceptFault) → Err fault.OutOfMemory ≡ take_answer given → Accepts n v m given → (IsTrue tells → WritesAccepted n v m old new given) → ((m ≡ n) × Logs n m tells old new) ⊎ Cut
  memory_by (Err accept.OutOfMemory) is (inl same) log = inl (same, subst (λ (x : NodeState). Logs n x tells old new) (sym same) (logs_nothing tells n old new (λ t. same_files same (log t))))
  memory_by (Err accept.OutOfMemory) is (inr unlogged) log = inr (cut_in unlogged (λ t. cut_files unlogged (log t)))
  memory_by (Ok r) is accepts log = absurd cc
  memory_by (Err (accept.Refused why)) is accepts log = absurd cc
  memory_by (Err accept.AppendFault) is accepts log = absurd cc

  -- there was no memory: nothing was done, or the entry may be cut
  memory_cut : TakesIn n v m tells old new (Err fault.OutOfMemory) → ((m ≡ n) × Logs n m tells old new) ⊎ Cut
  memory_cut t = memory_by t.given t.is t.accepts t.log

-- ---- all that a taker took, which is a node with its log

module _ {A : Type 0} (tells : Bool) (node : A → NodeState) (held : A → List ℕ → Option (List ℕ)) (step : TakeStep A) (takes_in : (t : A) (v : Vertex) (answer : Result Receipt TakeFault) (u : A) → step t v answer u → TakesIn (node t) v (node u) tells (held t) (held u) answer) where
  abbrev StandsBehind : A → List Vertex → A → Type 0
  StandsBehind t vs u = (node u ≡ after_all (node t) vs) × Logs (node t) (node u) tells (held t) (held u)

  stands_all : (t : A) (vs : List Vertex) (u : A) → TakesAll step t vs u → StandsBehind t vs u
  unfolding TakesAll
  stands_all t [] u is =
      subst (λ (x : A). StandsBehind t [] x) (sym is) (refl, logs_nothing tells (node t) (held t) (held t) (λ tell name. refl))
  stands_all t (v ∷ vs) u (answer, next, ok, took, others) =
      let one = stands (node t) v (node next) tells (held t) (held next) answer ok (takes_in t v answer next took) in
      let more = stands_all next vs u others in
      (more.0 ∙ ap (λ (k : NodeState). after_all k vs) one.0, logs_then tells (node t) (node next) (node u) (held t) (held next) (held u) one.1 more.1)

  module _ (side : Side) (t u : A) where
    abbrev n : NodeState
    n = node t

    abbrev taken : List ℕ → List Vertex
    taken = vertices_of side n

    abbrev Left : MeetEnd → List ℕ → Type 0
    Left e read = Leaves e side n read (node u) tells (held t) (held u)

    before : (read : List ℕ) → TakesFirst step taken read t u → StandsBefore side n read (node u) tells (held t) (held u)
    before read s =
        let all = stands_all t (taken s.first) u s.takes in
        record { first = s.first; part = s.part; split = s.split; state = all.0; logs = all.1 }

    cut : (read : List ℕ) (why : TakeFault) (s : TakesUntil step taken read why t u) → LogsAllBut (node s.before) (node s.before) s.vertex (node u) tells (held s.before) (held u) → StandsCut side n read (node u) tells (held t) (held u)
    cut read why s last =
        let all = stands_all t (taken s.first) s.before s.takes in
        record {
          first = s.first;
          part = s.part;
          split = s.split;
          vertex = s.vertex;
          last = s.last;
          logs = subst (λ (k : NodeState). LogsAllBut n k s.vertex (node u) tells (held t) (held u)) all.0 (logs_but tells n (node s.before) (node s.before) s.vertex (node u) (held t) (held s.before) (held u) all.1 last);
        }

    -- nothing was done for the last one
    stayed : (read : List ℕ) (why : TakeFault) (s : TakesUntil step taken read why t u) → node u ≡ node s.before → Logs (node s.before) (node u) tells (held s.before) (held u) → StandsBefore side n read (node u) tells (held t) (held u)
    stayed read why s same logs =
        let all = stands_all t (taken s.first) s.before s.takes in
        record { first = s.first; part = s.part; split = s.split; state = same ∙ all.0; logs = logs_then tells n (node s.before) (node u) (held t) (held s.before) (held u) all.1 logs }

    wanting : (read : List ℕ) (s : TakesUntil step taken read fault.OutOfMemory t u) → Left end.OutOfMemory read
    wanting read s = go (memory_cut (node s.before) s.vertex (node u) tells (held s.before) (held u) (takes_in s.before s.vertex (Err fault.OutOfMemory) u s.stops))
      where
        go : ((node u ≡ node s.before) × Logs (node s.before) (node u) tells (held s.before) (held u)) ⊎ LogsAllBut (node s.before) (node s.before) s.vertex (node u) tells (held s.before) (held u) → Left end.OutOfMemory read
        go (inl (same, logs)) = inl (stayed read fault.OutOfMemory s same logs)
        go (inr last) = inr (cut read fault.OutOfMemory s last)

    pub leaves : (e : MeetEnd) (read : List ℕ) → Took step taken read e t u → Left e read
    leaves end.AppendFault read s = cut read fault.AppendFault s (append_cut (node s.before) s.vertex (node u) tells (held s.before) (held u) (takes_in s.before s.vertex (Err fault.AppendFault) u s.stops))
    leaves end.OutOfMemory read (inl s) = inl (before read s)
    leaves end.OutOfMemory read (inr s) = wanting read s
    leaves (end.Done refused) read s = stands_all t (taken read) u s
    leaves end.EndOfInput read s = stands_all t (taken read) u s
    leaves end.WrongInstance read s = stands_all t (taken read) u s
    leaves (end.BadFrame at) read s = stands_all t (taken read) u s
    leaves end.LinkFault read s = stands_all t (taken read) u s
    leaves end.ByteLimit read s = stands_all t (taken read) u s
    leaves end.Clash read s = stands_all t (taken read) u s

    -- a whole meeting
    pub node_meets : (address : Option (List ℕ)) (old new : DoorSeen) (e : MeetEnd)
        → TakesPeer step side address (verdict_of n.keys) (with_taker n.core t) (with_taker (node u).core u) (sessions_told old) (sessions_told new) e ⊎ TakesNone (with_taker n.core t) (with_taker (node u).core u) old.sessions new.sessions e
        → NodeMeets side address tells (talker_with n (held t) old) (talker_with (node u) (held u) new) e ⊎ NodeMeetsNone tells (talker_with n (held t) old) (talker_with (node u) (held u) new) e
    node_meets address old new e (inl s) = inl (record { meets = s.meets; left = leaves e s.meets.read s.took })
    node_meets address old new e (inr s) =
        inr (record { ended = s.meets.ended; state = ap node s.stays; files = λ tell name. ap (λ (x : A). held x name) s.stays; told = s.meets.told })

-- ---- what stays

module _ {A X : Type 0} (of : A → X) (step : TakeStep A) (keeps : (t : A) (v : Vertex) (answer : Result Receipt TakeFault) (u : A) → step t v answer u → of u ≡ of t) where
  all_keep : (t : A) (vs : List Vertex) (u : A) → TakesAll step t vs u → of u ≡ of t
  unfolding TakesAll
  all_keep t [] u is = ap of is
  all_keep t (v ∷ vs) u (answer, next, ok, took, others) = all_keep next vs u others ∙ keeps t v answer next took

  module _ (taken : List ℕ → List Vertex) (read : List ℕ) (t u : A) where
    until_keeps : (why : TakeFault) → TakesUntil step taken read why t u → of u ≡ of t
    until_keeps why s = keeps s.before s.vertex (Err why) u s.stops ∙ all_keep t (taken s.first) s.before s.takes

    pub took_keeps : (e : MeetEnd) → Took step taken read e t u → of u ≡ of t
    took_keeps end.AppendFault s = until_keeps fault.AppendFault s
    took_keeps end.OutOfMemory (inl s) = all_keep t (taken s.first) u s.takes
    took_keeps end.OutOfMemory (inr s) = until_keeps fault.OutOfMemory s
    took_keeps (end.Done refused) s = all_keep t (taken read) u s
    took_keeps end.EndOfInput s = all_keep t (taken read) u s
    took_keeps end.WrongInstance s = all_keep t (taken read) u s
    took_keeps (end.BadFrame at) s = all_keep t (taken read) u s
    took_keeps end.LinkFault s = all_keep t (taken read) u s
    took_keeps end.ByteLimit s = all_keep t (taken read) u s
    took_keeps end.Clash s = all_keep t (taken read) u s

-- ---- a whole meeting

module _ {A : Type 0} (step : TakeStep A) (side : Side) (address : Option (List ℕ)) (c : CoreState) (judge : Vertex → Bool) (m : CoreState) (t u : A) (old new : DoorSeen) (e : MeetEnd)
    (took : TakesPeer step side address judge (with_taker c t) (with_taker m u) (sessions_told old) (sessions_told new) e ⊎ TakesNone (with_taker c t) (with_taker m u) old.sessions new.sessions e) where
  -- what each step keeps
  pub meeting_keeps : {X : Type 0} (of : A → X) → ((t : A) (v : Vertex) (answer : Result Receipt TakeFault) (u : A) → step t v answer u → of u ≡ of t) → of u ≡ of t
  meeting_keeps of keeps = go took
    where
      go : TakesPeer step side address judge (with_taker c t) (with_taker m u) (sessions_told old) (sessions_told new) e ⊎ TakesNone (with_taker c t) (with_taker m u) old.sessions new.sessions e → of u ≡ of t
      go (inl s) = took_keeps of step keeps (taken_in side c judge) s.meets.read t u e s.took
      go (inr s) = ap of s.stays

  -- what is left of a node, and of its log
  pub meeting_leaves : (tells : Bool) (node : A → NodeState) (held : A → List ℕ → Option (List ℕ)) → ((t : A) (v : Vertex) (answer : Result Receipt TakeFault) (u : A) → step t v answer u → TakesIn (node t) v (node u) tells (held t) (held u) answer)
      → c ≡ (node t).core → judge ≡ verdict_of (node t).keys → m ≡ (node u).core
      → NodeMeets side address tells (talker_with (node t) (held t) old) (talker_with (node u) (held u) new) e ⊎ NodeMeetsNone tells (talker_with (node t) (held t) old) (talker_with (node u) (held u) new) e
  meeting_leaves tells node held takes_in core verdict now =
      let P : CoreState → (Vertex → Bool) → CoreState → Type 0 = λ x y z. TakesPeer step side address y (with_taker x t) (with_taker z u) (sessions_told old) (sessions_told new) e ⊎ TakesNone (with_taker x t) (with_taker z u) old.sessions new.sessions e in
      node_meets tells node held step takes_in side t u address old new e
      (subst (λ (x : CoreState). P x (verdict_of (node t).keys) (node u).core) core
      (subst (λ (y : Vertex → Bool). P c y (node u).core) verdict
      (subst (λ (z : CoreState). P c judge z) now took)))
