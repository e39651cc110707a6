-- A session leaves the configuration of a node and its last question as they are, and its journal only grows.
use Rattle.std.specs.Prelude.{◌==◌}
use Rattle.std.proofs.Common.{◌≡◌, ◌⊎◌, ◌≤◌, ℕ, Bool, true, false, cond, List, [], ◌∷◌, ◌++◌, length, Option, Result, Ok, Err, inl, inr, refl, sym, ap, subst, ◌∙◌, arith, length-append}
use Rattle.std.specs.Prelude.{All}
use Rattle.std.proofs.lemmas.List.{append-nil, append_assoc}
use Rattle.hw_types.specs.declared.unit.Vertex.{Vertex}
use Rattle.hw_types.specs.declared.answers.Frame.{Frame}
use Rattle.hw_types.specs.declared.answers.Frame.TheVariants as frame
use Rattle.hw_types.specs.declared.answers.Receipt.{Receipt}
use Rattle.hw_types.specs.declared.answers.Cause.{Cause}
use Rattle.hw_types.specs.Graph.{digest_eq}
use Rattle.hw_types.specs.Spelling.{instance_of}
use Rattle.hw_types.specs.Real.{CoreState}
use Rattle.hw_io.specs.Consumers.{Consumed}
use Rattle.hw_io.specs.Doors.{Session}
use Rattle.hw_replay.specs.Chain.{told_chain}
use Rattle.hw_replay.specs.State.{FanoutState}
use Rattle.hw_replay.specs.Fates.{Sight, AreServed}
use Rattle.hw_replay.specs.Told.{HasTaken, IsTold}
use Rattle.hw_replay.specs.Feed.{moment, IsPassed}
use Rattle.hw_replay.proofs.GrowLaws.{only_grows, stays_taken}
use Rattle.hw_link.specs.declared.end.SessionEnd.{SessionEnd}
use Rattle.hw_link.specs.declared.end.SessionEnd.TheVariants as end
use Rattle.hw_link.specs.Frames.{Placed, frames_of}
use Rattle.hw_link.specs.Talk.{goes_on, ends}
use Rattle.hw_link.specs.Told.{door_told}
use Rattle.hw_session.specs.Node.{NodeState}
use Rattle.hw_service.specs.Talk.{HasGrown}
use Rattle.hw_session.specs.Grows.{Logs, LogsAllBut}
use Rattle.hw_session.specs.Accept.{given_to, taken_by}
use Rattle.hw_session.specs.Serving.{is_clash, answer_to_vertex, serve_first, serve_frame, serve_step, served}
use Rattle.hw_session.proofs.ConfigLaws.{talk_keeps, taken_config, taken_asked}
use Rattle.hw_session.specs.Sessions.{StandsBefore, StandsCut, Leaves, ServesPeer, ServesNone}
use Rattle.hw_session.specs.Standing.{standing}

-- ---- a node that grew

-- as many blocks are told
pub still_told : (c d : CoreState) (n : ℕ) → HasGrown c d → n ≤ length (told_chain c) → n ≤ length (told_chain d)
still_told c d n grown le =
    let g = only_grows c d grown.config grown.journal in
    omega (arith, le, ap length g.1, length-append (told_chain c) g.0)

-- what was taken is still the beginning
taken_still : (c d : CoreState) (n : ℕ) (o : Option Consumed) → HasGrown c d → n ≤ length (told_chain c) → HasTaken (told_chain c) n o → HasTaken (told_chain d) n o
taken_still c d n o grown le h = stays_taken c d grown.config grown.journal n o le h

pub still_taken : {B : Type 0} (f : B → Option Consumed) (c d : CoreState) (n : ℕ) (xs : List B) → HasGrown c d → n ≤ length (told_chain c) → All (λ b. HasTaken (told_chain c) n (f b)) xs → All (λ b. HasTaken (told_chain d) n (f b)) xs
still_taken f c d n xs grown le h = λ k b lt. taken_still c d n _ grown le (h k b lt)

-- ---- what consumers are passed

-- the core that is handed in is that of the node
pub is_passed : {B K : Type 0} (sight : Sight B K) (c d k : CoreState) (old new : List B) (before after : FanoutState B) → HasGrown c d → k ≡ d → AreServed (IsTold sight (told_chain k) before.passed) old new before after
    → after.passed ≡ length (told_chain k) → IsPassed sight (moment c old before) (moment d new after)
is_passed sight c d k old new before after grown same told passed = record {
  config = grown.config;
  grown = grown.journal;
  told = subst (λ (x : CoreState). AreServed (IsTold sight (told_chain x) before.passed) old new before after) same told;
  passed = passed ∙ ap (λ (x : CoreState). length (told_chain x)) same;
}

pub passed_whole : {B : Type 0} (f : B → Option Consumed) (c d k : CoreState) (n m : ℕ) (xs ys : List B) → (All (λ b. HasTaken (told_chain k) n (f b)) xs → All (λ b. HasTaken (told_chain k) (length (told_chain k)) (f b)) ys)
    → HasGrown c d → k ≡ d → n ≤ length (told_chain c) → m ≡ length (told_chain d) → All (λ b. HasTaken (told_chain c) n (f b)) xs → All (λ b. HasTaken (told_chain d) m (f b)) ys
passed_whole {B} f c d k n m xs ys whole grown same le passed so =
    let P : CoreState → Type 0 = λ x. All (λ (b : B). HasTaken (told_chain x) n (f b)) xs → All (λ (b : B). HasTaken (told_chain x) (length (told_chain x)) (f b)) ys in
    let Q : ℕ → Type 0 = λ j. All (λ (b : B). HasTaken (told_chain d) j (f b)) ys in
    subst Q (sym passed) (subst P same whole (still_taken f c d n xs grown le so))

-- ---- serving

module _ (P : NodeState → Type 0) (takes : (m : NodeState) (v : Vertex) → P m → P (taken_by m v (given_to m v))) where
  vertex_keeps : (m : NodeState) (v : Vertex) (a : Result Receipt Cause) → P m → P (answer_to_vertex m v a).state
  vertex_keeps m v (Ok r) p = p
  vertex_keeps m v (Err c) p = go (is_clash c)
    where
      go : (b : Bool) → P (cond b (ends m [] end.Clash) (goes_on m (frame.Want [] ∷ []))).state
      go true = p
      go false = p

  first_keeps : (m : NodeState) (f : Frame) → P m → P (serve_first m f).state
  first_keeps m (frame.Hello instance) p = go (digest_eq instance (instance_of m.core.config))
    where
      go : (b : Bool) → P (cond b (goes_on m (frame.Hello (instance_of m.core.config) ∷ [])) (ends m [] end.WrongInstance)).state
      go true = p
      go false = p
  first_keeps m (frame.Vertex v) p = p
  first_keeps m (frame.Have place) p = p
  first_keeps m (frame.Want needs) p = p
  first_keeps m frame.Done p = p
  first_keeps m (frame.Missing need) p = p

  frame_keeps : (m : NodeState) (at : ℕ) (f : Frame) → P m → P (serve_frame m at f).state
  frame_keeps m at (frame.Hello instance) p = p
  frame_keeps m at (frame.Vertex v) p = vertex_keeps (taken_by m v (given_to m v)) v (given_to m v) (takes m v p)
  frame_keeps m at (frame.Have place) p = p
  frame_keeps m at (frame.Want needs) p = p
  frame_keeps m at (frame.Missing need) p = p
  frame_keeps m at frame.Done p = p

  step_keeps : (m : NodeState) (f : Placed) → P m → P (serve_step m f).state
  unfolding serve_step
  step_keeps m f p = go (f.at == 0)
    where
      go : (b : Bool) → P (cond b (serve_first m f.frame) (serve_frame m f.at f.frame)).state
      go true = first_keeps m f.frame p
      go false = frame_keeps m f.at f.frame p

  pub served_keeps : (n : NodeState) (bytes : List ℕ) → P n → P (served n bytes).state
  served_keeps n bytes p = talk_keeps P serve_step step_keeps (frames_of bytes).end n (frames_of bytes).given p

pub served_config : (n : NodeState) (bytes : List ℕ) → (served n bytes).state.core.config ≡ n.core.config
served_config n bytes = served_keeps (λ m. m.core.config ≡ n.core.config) (λ m v p. taken_config m v (given_to m v) ∙ p) n bytes refl

served_asked : (n : NodeState) (bytes : List ℕ) → (served n bytes).state.core.asked ≡ n.core.asked
served_asked n bytes = served_keeps (λ m. m.core.asked ≡ n.core.asked) (λ m v p. taken_asked m v (given_to m v) ∙ p) n bytes refl

-- ---- a session

-- a node that stands behind some bytes, and its log
pub behind_logs : (tells : Bool) (n m : NodeState) (old new : List ℕ → Option (List ℕ)) → m.core.config ≡ n.core.config → m.core.asked ≡ n.core.asked → Logs n m tells old new → HasGrown n.core m.core
behind_logs tells n m old new config asked logs = record { config = config; asked = asked; journal = (logs.vertices, logs.gains.journal) }

-- or one vertex more, whose entry may be cut
pub behind_cut : (tells : Bool) (n before m : NodeState) (v : Vertex) (old new : List ℕ → Option (List ℕ)) → before.core.config ≡ n.core.config → before.core.asked ≡ n.core.asked → LogsAllBut n before v m tells old new → HasGrown n.core m.core
behind_cut tells n before m v old new config asked logs = record {
  config = ap (λ (k : NodeState). k.core.config) logs.unlogged.1 ∙ config;
  asked = ap (λ (k : NodeState). k.core.asked) logs.unlogged.1 ∙ asked;
  journal = (
    logs.vertices ++ v ∷ [],
    ap (λ (k : NodeState). k.core.journal) logs.unlogged.1 ∙ ap (λ (j : List Vertex). j ++ v ∷ []) logs.gains.journal ∙ append_assoc n.core.journal logs.vertices (v ∷ []),
  );
}

-- a node that is the same
pub grown_same : (n m : NodeState) → m ≡ n → HasGrown n.core m.core
grown_same n m same = record {
  config = ap (λ (k : NodeState). k.core.config) same;
  asked = ap (λ (k : NodeState). k.core.asked) same;
  journal = ([], ap (λ (k : NodeState). k.core.journal) same ∙ sym (append-nil n.core.journal));
}

module _ (tells : Bool) (n m : NodeState) (old new : List ℕ → Option (List ℕ)) (read written : List ℕ) where
  plain_grows : (m ≡ (served n read).state) × Logs n m tells old new → HasGrown n.core m.core
  plain_grows left = behind_logs tells n m old new (ap (λ (k : NodeState). k.core.config) left.0 ∙ served_config n read) (ap (λ (k : NodeState). k.core.asked) left.0 ∙ served_asked n read) left.1

  cut_grows : StandsCut tells (standing n old) read written (standing m new) → HasGrown n.core m.core
  cut_grows s = behind_cut tells n (served n s.first).state m s.vertex old new (served_config n s.first) (served_asked n s.first) s.logs

  before_grows : StandsBefore tells (standing n old) read written (standing m new) → HasGrown n.core m.core
  before_grows s = behind_logs tells n m old new (ap (λ (k : NodeState). k.core.config) s.state ∙ served_config n s.first) (ap (λ (k : NodeState). k.core.asked) s.state ∙ served_asked n s.first) s.logs

  leaves_grows : (e : SessionEnd) → Leaves e tells (standing n old) read written (standing m new) → HasGrown n.core m.core
  leaves_grows end.Done left = plain_grows left
  leaves_grows end.EndOfInput left = plain_grows left
  leaves_grows end.WrongInstance left = plain_grows left
  leaves_grows (end.BadFrame at) left = plain_grows left
  leaves_grows end.LinkFault left = plain_grows left
  leaves_grows end.ByteLimit left = plain_grows left
  leaves_grows end.Clash left = plain_grows left
  leaves_grows end.AppendFault left = cut_grows left
  leaves_grows end.OutOfMemory (inl s) = before_grows s
  leaves_grows end.OutOfMemory (inr s) = cut_grows s

pub serves_grows : (tells : Bool) (n m : NodeState) (old new : List ℕ → Option (List ℕ)) (sessions later : Option (List Session)) (ends_old ends_new : ℕ) (e : SessionEnd)
    → ServesPeer tells (standing n old) (standing m new) (door_told sessions ends_old) (door_told later ends_new) e ⊎ ServesNone tells (standing n old) (standing m new) sessions later e → HasGrown n.core m.core
serves_grows tells n m old new sessions later ends_old ends_new e (inl s) = leaves_grows tells n m old new s.read s.written e s.serves.left
serves_grows tells n m old new sessions later ends_old ends_new e (inr s) = grown_same n m s.state
