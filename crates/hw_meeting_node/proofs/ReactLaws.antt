-- What a node did at a frame of a meeting.
use Rattle.std.proofs.Common.{◌≡◌, ℕ, Bool, false, cond, List, [], ◌∷◌, take, Option, Some, None, Result, Ok, Err, inl, inr, refl, sym, ap, subst, ◌∙◌}
use Rattle.hw_types.specs.declared.unit.Digest.{Digest}
use Rattle.hw_types.specs.declared.unit.Vertex.{Vertex}
use Rattle.hw_types.specs.Graph.{digest_eq}
use Rattle.hw_types.specs.Spelling.{instance_of}
use Rattle.hw_types.specs.Real.{CoreState}
use Rattle.hw_io.specs.Doors.{Session}
use Rattle.hw_link.specs.declared.end.SessionEnd.{SessionEnd}
use Rattle.hw_link.specs.declared.end.SessionEnd.TheVariants as end
use Rattle.hw_link.specs.Links.{after_part}
use Rattle.hw_link.specs.Sent.{Sends}
use Rattle.hw_link.proofs.LinkLaws.{after_nothing}
use Rattle.hw_meeting_node.specs.Frames.{sent_bytes}
use Rattle.hw_meeting_node.specs.declared.meeter.Side.{Side}
use Rattle.hw_meeting_node.specs.declared.meeter.Stage.TheVariants.{Telling}
use Rattle.hw_meeting_node.specs.Talk.{Reaction, goes_on, ends}
use Rattle.hw_agree.specs.declared.summary.LaneSummary.{LaneSummary}
use Rattle.hw_meeting.specs.declared.frame.MeetingFrame.{MeetingFrame}
use Rattle.hw_meeting.specs.declared.frame.MeetingFrame.TheVariants as frame
use Rattle.hw_meeting_node.specs.Meeting.{Meeting, to_hello, greeted, not_due, at_greeting, at_telling, at_tearing, at_taking}
use Rattle.hw_meeting_node.specs.Handling.{Reacts, IsTakerCounted}

-- nothing was sent
pub none_sent : (old : Option (List Session)) → old ≡ after_part [] (sent_bytes []) false old
none_sent old = sym (after_nothing old)

take_none : (xs : List ℕ) → [] ≡ take 0 xs
take_none [] = refl
take_none (x ∷ xs) = refl

module _ (c : CoreState) (r : Reaction Meeting) (now : Meeting) (old new : Option (List Session)) where
  -- it stands where the reaction says, which goes on, and sent its answer or a first part of it
  pub sends_reacts : (result : Result (Unit {0}) SessionEnd) → r.end ≡ None → now ≡ r.state → Sends {T = Unit {0}} (sent_bytes r.says) old new result → Reacts {T = Unit {0}} c r now old new result
  sends_reacts (Ok x) goes stands s = (goes, stands, s.told ∙ ap (λ (part : List ℕ). after_part [] part false old) s.whole)
  sends_reacts (Err end.LinkFault) goes stands s = (ap (λ (m : Meeting). m.core) stands, s.part, s.first, s.told)
  sends_reacts (Err end.OutOfMemory) goes stands s = (inr (ap (λ (m : Meeting). m.core) stands), s.part, s.first, s.told)
  sends_reacts (Err end.Done) goes stands s = absurd s.error
  sends_reacts (Err end.EndOfInput) goes stands s = absurd s.error
  sends_reacts (Err end.WrongInstance) goes stands s = absurd s.error
  sends_reacts (Err (end.BadFrame at)) goes stands s = absurd s.error
  sends_reacts (Err end.AppendFault) goes stands s = absurd s.error
  sends_reacts (Err end.ByteLimit) goes stands s = absurd s.error
  sends_reacts (Err end.Clash) goes stands s = absurd s.error

  -- the same where the reaction ends the session: the answer was sent
  pub sent_ends : (e : SessionEnd) → r.end ≡ Some end.Done → now ≡ r.state → Sends {T = Unit {0}} (sent_bytes r.says) old new (Ok tt) → Reacts {T = Unit {0}} c r now old new (Err end.Done)
  sent_ends e is stands s = (is, stands, s.told ∙ ap (λ (part : List ℕ). after_part [] part false old) s.whole)

  -- or wasn't sent whole
  pub unsent_ends : (e : SessionEnd) → now ≡ r.state → Sends {T = Unit {0}} (sent_bytes r.says) old new (Err e) → Reacts {T = Unit {0}} c r now old new (Err e)
  unsent_ends end.LinkFault stands s = (ap (λ (m : Meeting). m.core) stands, s.part, s.first, s.told)
  unsent_ends end.OutOfMemory stands s = (inr (ap (λ (m : Meeting). m.core) stands), s.part, s.first, s.told)
  unsent_ends end.Done stands s = absurd s.error
  unsent_ends end.EndOfInput stands s = absurd s.error
  unsent_ends end.WrongInstance stands s = absurd s.error
  unsent_ends (end.BadFrame at) stands s = absurd s.error
  unsent_ends end.AppendFault stands s = absurd s.error
  unsent_ends end.ByteLimit stands s = absurd s.error
  unsent_ends end.Clash stands s = absurd s.error

-- there was no memory, and nothing was done
pub wants_reacts : (c : CoreState) (r : Reaction Meeting) (now : Meeting) (old : Option (List Session)) → now.core ≡ c → Reacts {T = Unit {0}} c r now old old (Err end.OutOfMemory)
wants_reacts c r now old same = (inl same, [], (0, take_none (sent_bytes r.says)), none_sent old)

-- a Hello, by whether it is of the own instance
pub greeted_by : (side : Side) (m : Meeting) (instance : Digest) (b : Bool) → digest_eq instance (instance_of m.core.config) ≡ b → greeted side m instance ≡ cond b (goes_on (record m { stage = Telling }) (to_hello side m.core)) (ends m [] end.WrongInstance)
greeted_by side m instance b is = ap (λ (x : Bool). cond x (goes_on (record m { stage = Telling }) (to_hello side m.core)) (ends m [] end.WrongInstance)) is

-- no answer ends as a failed append
pub sent_unstored : (bytes : List ℕ) (old new : Option (List Session)) (result : Result (Unit {0}) SessionEnd) → Sends {T = Unit {0}} bytes old new result → (count : ℕ) → IsTakerCounted {T = Unit {0}} count count result
sent_unstored bytes old new (Ok x) s count = refl
sent_unstored bytes old new (Err end.LinkFault) s count = refl
sent_unstored bytes old new (Err end.OutOfMemory) s count = refl
sent_unstored bytes old new (Err end.Done) s count = refl
sent_unstored bytes old new (Err end.EndOfInput) s count = refl
sent_unstored bytes old new (Err end.WrongInstance) s count = refl
sent_unstored bytes old new (Err (end.BadFrame at)) s count = refl
sent_unstored bytes old new (Err end.AppendFault) s count = absurd s.error
sent_unstored bytes old new (Err end.ByteLimit) s count = refl
sent_unstored bytes old new (Err end.Clash) s count = refl

-- ---- a frame that isn't due

module _ (c : CoreState) (m : Meeting) (at : ℕ) (f : MeetingFrame) (old : Option (List Session)) where
  abbrev Bad : Reaction Meeting → Type 0
  Bad r = Reacts {T = Unit {0}} c r m old old (Err (end.BadFrame at))

  bad : (r : Reaction Meeting) → r ≡ not_due m at → Bad r
  bad r is = subst Bad (sym is) (refl, refl, none_sent old)

  pub greeting_bad : (side : Side) → ((d : Digest) → f ≡ frame.Hello d → ⊥) → Bad (at_greeting side m at f)
  greeting_bad side other = bad (at_greeting side m at f) (go f other)
    where
      go : (x : MeetingFrame) → ((d : Digest) → x ≡ frame.Hello d → ⊥) → at_greeting side m at x ≡ not_due m at
      go (frame.Hello d) other = absurd (other d refl)
      go (frame.Vertex v) other = refl
      go (frame.Summary parts) other = refl
      go (frame.Torn numbers) other = refl
      go frame.Done other = refl

  pub telling_bad : (side : Side) → ((parts : List LaneSummary) → f ≡ frame.Summary parts → ⊥) → Bad (at_telling side m at f)
  telling_bad side other = bad (at_telling side m at f) (go f other)
    where
      go : (x : MeetingFrame) → ((parts : List LaneSummary) → x ≡ frame.Summary parts → ⊥) → at_telling side m at x ≡ not_due m at
      go (frame.Summary parts) other = absurd (other parts refl)
      go (frame.Hello d) other = refl
      go (frame.Vertex v) other = refl
      go (frame.Torn numbers) other = refl
      go frame.Done other = refl

  pub tearing_bad : (side : Side) → ((numbers : List ℕ) → f ≡ frame.Torn numbers → ⊥) → Bad (at_tearing side m at f)
  tearing_bad side other = bad (at_tearing side m at f) (go f other)
    where
      go : (x : MeetingFrame) → ((numbers : List ℕ) → x ≡ frame.Torn numbers → ⊥) → at_tearing side m at x ≡ not_due m at
      go (frame.Torn numbers) other = absurd (other numbers refl)
      go (frame.Hello d) other = refl
      go (frame.Vertex v) other = refl
      go (frame.Summary parts) other = refl
      go frame.Done other = refl

  pub taking_bad : (side : Side) (judge : Vertex → Bool) → ((v : Vertex) → f ≡ frame.Vertex v → ⊥) → (f ≡ frame.Done → ⊥) → Bad (at_taking side judge m at f)
  taking_bad side judge no_vertex no_done = bad (at_taking side judge m at f) (go f no_vertex no_done)
    where
      go : (x : MeetingFrame) → ((v : Vertex) → x ≡ frame.Vertex v → ⊥) → (x ≡ frame.Done → ⊥) → at_taking side judge m at x ≡ not_due m at
      go (frame.Vertex v) other none = absurd (other v refl)
      go frame.Done other none = absurd (none refl)
      go (frame.Hello d) other none = refl
      go (frame.Summary parts) other none = refl
      go (frame.Torn numbers) other none = refl
