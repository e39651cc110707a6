-- A session that a node drives leaves its configuration and its last question as they are.
use Rattle.std.specs.Prelude.{◌==◌, IfOk, IfSome}
use Rattle.std.proofs.Common.{◌≡◌, ℕ, zero, suc, Bool, true, false, cond, List, [], ◌∷◌, take, drop, Option, Some, None, Result, Ok, Err, refl, subst, ◌∙◌}
use Rattle.hw_types.specs.declared.unit.Vertex.{Vertex}
use Rattle.hw_types.specs.declared.unit.Need.{Need}
use Rattle.hw_types.specs.declared.answers.Frame.{Frame}
use Rattle.hw_types.specs.declared.answers.Frame.TheVariants as frame
use Rattle.hw_types.specs.declared.answers.Receipt.{Receipt}
use Rattle.hw_types.specs.declared.answers.Receipt.TheVariants as receipt
use Rattle.hw_types.specs.declared.answers.Cause.{Cause}
use Rattle.hw_types.specs.declared.answers.Cause.TheVariants as cause
use Rattle.hw_types.specs.Graph.{digest_eq}
use Rattle.hw_types.specs.Spelling.{instance_of, Fits}
use Rattle.hw_types.specs.declared.answers.Plan.{Plan}
use Rattle.hw_core.specs.Readers.{unmet_in}
use Rattle.hw_link.specs.declared.end.SessionEnd.{SessionEnd}
use Rattle.hw_link.specs.declared.end.SessionEnd.TheVariants as end
use Rattle.hw_link.specs.Frames.{Placed, frames_of}
use Rattle.hw_link.specs.Talk.{Reaction, Talk, ends, with_reaction, talk}
use Rattle.hw_session.specs.declared.stage.PeerMark.{PeerMark}
use Rattle.hw_session.specs.declared.stage.Stage.{Stage}
use Rattle.hw_session.specs.declared.stage.Stage.TheVariants as stage
use Rattle.hw_session.specs.Node.{NodeState}
use Rattle.hw_session.specs.Accept.{given_to, taken_by}
use Rattle.hw_session.specs.declared.fault.MakeFault.{MakeFault}
use Rattle.hw_session.specs.Make.{Makes}
use Rattle.hw_session.specs.Driving.{Driver, greeting, want_some, want, pull, push_first, push, to_push, with_pushed, with_pulled, after_vertex, drive_have, drive_at, drive_step, driven}

-- ---- talks

-- what each reaction keeps, a talk keeps
by_reaction : {S : Type 0} (P : S → Type 0) (first : Reaction S) (others : S → Talk S) → P first.state → ((next : S) → P next → P (others next).state) → P (with_reaction first others).state
by_reaction {S} P first others here then = go first.end
  where
    go : (o : Option SessionEnd) → P (with_reaction (record { state = first.state; says = first.says; end = o }) others).state
    go (Some e) = here
    go None = then first.state here

pub talk_keeps : {S : Type 0} (P : S → Type 0) (step : S → Placed → Reaction S) → ((s : S) (f : Placed) → P s → P (step s f).state) → (end : SessionEnd) (s : S) (fs : List Placed) → P s → P (talk step end s fs).state
unfolding talk
talk_keeps P step keeps end s [] p = p
talk_keeps P step keeps end s (f ∷ fs) p = by_reaction P (step s f) (λ next. talk step end next fs) (keeps s f p) (λ next q. talk_keeps P step keeps end next fs q)

-- ---- vertices

pub taken_config : (n : NodeState) (v : Vertex) (a : Result Receipt Cause) → (taken_by n v a).core.config ≡ n.core.config
taken_config n v (Ok receipt.Repeat) = refl
taken_config n v (Ok (receipt.Admitted k)) = refl
taken_config n v (Ok (receipt.Parked k)) = refl
taken_config n v (Ok (receipt.Dropped rule)) = refl
taken_config n v (Err cause.BadSignature) = refl
taken_config n v (Err (cause.Local rule)) = refl
taken_config n v (Err (cause.Pair f)) = refl
taken_config n v (Err (cause.Clash d)) = refl
taken_config n v (Err cause.RecordsFull) = refl
taken_config n v (Err cause.ParkFull) = refl
taken_config n v (Err cause.OutOfMemory) = refl

pub taken_asked : (n : NodeState) (v : Vertex) (a : Result Receipt Cause) → (taken_by n v a).core.asked ≡ n.core.asked
taken_asked n v (Ok receipt.Repeat) = refl
taken_asked n v (Ok (receipt.Admitted k)) = refl
taken_asked n v (Ok (receipt.Parked k)) = refl
taken_asked n v (Ok (receipt.Dropped rule)) = refl
taken_asked n v (Err cause.BadSignature) = refl
taken_asked n v (Err (cause.Local rule)) = refl
taken_asked n v (Err (cause.Pair f)) = refl
taken_asked n v (Err (cause.Clash d)) = refl
taken_asked n v (Err cause.RecordsFull) = refl
taken_asked n v (Err cause.ParkFull) = refl
taken_asked n v (Err cause.OutOfMemory) = refl

-- ---- driving

module _ (P : NodeState → Type 0) (takes : (m : NodeState) (v : Vertex) → P m → P (taken_by m v (given_to m v))) where
  push_keeps : (d : Driver) (left : ℕ) → P d.node → P (push d left).state.node
  push_keeps d zero p = p
  push_keeps d (suc left) p = go (drop d.mark.pushed d.node.core.journal)
    where
      go : (vs : List Vertex) → P (push_first d left vs).state.node
      go [] = p
      go (v ∷ vs) = p

  want_keeps : (d : Driver) → P d.node → P (want d).state.node
  want_keeps d p = go (take 64 (unmet_in d.node.core))
    where
      go : (ns : List Need) → P (want_some d ns).state.node
      go [] = p
      go (n ∷ ns) = p

  told_keeps : (d : Driver) (again place : ℕ) → P d.node → P (drive_have d again place).state.node
  told_keeps d zero place p = want_keeps (with_pulled d place) p
  told_keeps d (suc more) place p = go (place == d.mark.pulled)
    where
      go : (b : Bool) → P (cond b (want (with_pulled d place)) (pull (with_pulled d place) more)).state.node
      go true = want_keeps (with_pulled d place) p
      go false = p

  after_keeps : (d : Driver) (a : Result Receipt Cause) → P d.node → P (after_vertex d a).state.node
  after_keeps d (Ok r) p = p
  after_keeps d (Err cause.BadSignature) p = p
  after_keeps d (Err (cause.Local rule)) p = p
  after_keeps d (Err (cause.Pair f)) p = p
  after_keeps d (Err (cause.Clash c)) p = p
  after_keeps d (Err cause.RecordsFull) p = p
  after_keeps d (Err cause.ParkFull) p = p
  after_keeps d (Err cause.OutOfMemory) p = p

  at_keeps : (s : Stage) (d : Driver) (at : ℕ) (f : Frame) → P d.node → P (drive_at s d at f).state.node
  at_keeps stage.Greeting d at (frame.Hello instance) p = go (digest_eq instance (instance_of d.node.core.config))
    where
      go : (b : Bool) → P (cond b (push d (to_push d)) (ends d [] end.WrongInstance)).state.node
      go true = push_keeps d (to_push d) p
      go false = p
  at_keeps stage.Greeting d at (frame.Vertex v) p = p
  at_keeps stage.Greeting d at (frame.Have place) p = p
  at_keeps stage.Greeting d at (frame.Want needs) p = p
  at_keeps stage.Greeting d at frame.Done p = p
  at_keeps stage.Greeting d at (frame.Missing need) p = p
  at_keeps (stage.Pushing left) d at (frame.Hello instance) p = p
  at_keeps (stage.Pushing left) d at (frame.Vertex v) p = p
  at_keeps (stage.Pushing left) d at (frame.Have place) p = p
  at_keeps (stage.Pushing left) d at (frame.Want needs) p = push_keeps (with_pushed d) left p
  at_keeps (stage.Pushing left) d at frame.Done p = p
  at_keeps (stage.Pushing left) d at (frame.Missing need) p = p
  at_keeps (stage.Pulling again) d at (frame.Hello instance) p = p
  at_keeps (stage.Pulling again) d at (frame.Vertex v) p = after_keeps (record d { node = taken_by d.node v (given_to d.node v) }) (given_to d.node v) (takes d.node v p)
  at_keeps (stage.Pulling again) d at (frame.Have place) p = told_keeps d again place p
  at_keeps (stage.Pulling again) d at (frame.Want needs) p = p
  at_keeps (stage.Pulling again) d at frame.Done p = p
  at_keeps (stage.Pulling again) d at (frame.Missing need) p = p
  at_keeps stage.Wanting d at (frame.Hello instance) p = p
  at_keeps stage.Wanting d at (frame.Vertex v) p = after_keeps (record d { node = taken_by d.node v (given_to d.node v) }) (given_to d.node v) (takes d.node v p)
  at_keeps stage.Wanting d at (frame.Have place) p = p
  at_keeps stage.Wanting d at (frame.Want needs) p = p
  at_keeps stage.Wanting d at frame.Done p = p
  at_keeps stage.Wanting d at (frame.Missing need) p = p
  at_keeps stage.Leaving d at (frame.Hello instance) p = p
  at_keeps stage.Leaving d at (frame.Vertex v) p = p
  at_keeps stage.Leaving d at (frame.Have place) p = p
  at_keeps stage.Leaving d at (frame.Want needs) p = p
  at_keeps stage.Leaving d at frame.Done p = p
  at_keeps stage.Leaving d at (frame.Missing need) p = p

  frame_keeps : (d : Driver) (f : Placed) → P d.node → P (drive_step d f).state.node
  unfolding drive_step
  frame_keeps d f p = at_keeps d.stage d f.at f.frame p

  pub driven_keeps : (n : NodeState) (mark : PeerMark) (bytes : List ℕ) → P n → P (driven n mark bytes).state.node
  driven_keeps n mark bytes p = talk_keeps (λ (d : Driver). P d.node) drive_step frame_keeps (frames_of bytes).end (greeting n mark) (frames_of bytes).given p

pub driven_config : (n : NodeState) (mark : PeerMark) (bytes : List ℕ) → (driven n mark bytes).state.node.core.config ≡ n.core.config
driven_config n mark bytes = driven_keeps (λ m. m.core.config ≡ n.core.config) (λ m v p. taken_config m v (given_to m v) ∙ p) n mark bytes refl

pub driven_asked : (n : NodeState) (mark : PeerMark) (bytes : List ℕ) → (driven n mark bytes).state.node.core.asked ≡ n.core.asked
driven_asked n mark bytes = driven_keeps (λ m. m.core.asked ≡ n.core.asked) (λ m v p. taken_asked m v (given_to m v) ∙ p) n mark bytes refl

-- ---- own units

made_same : (p q : Plan) → Some p ≡ Some q → p ≡ q
made_same p q is = cc

-- the unit that was made is the one that was to be made, and keeps the limits of its format
pub made_fits : (n m : NodeState) (p : Plan) (result : Result (Option Plan) MakeFault) → Fits p.unit → Makes n (Some p) m result → IfOk result (λ made. IfSome made (λ q. Fits q.unit))
made_fits n m p (Ok (Some q)) fits makes = let same : p ≡ q = made_same p q makes.0.is in subst (λ (x : Plan). Fits x.unit) same fits
made_fits n m p (Ok None) fits makes = tt
made_fits n m p (Err f) fits makes = tt
