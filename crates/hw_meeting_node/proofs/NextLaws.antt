-- The next frame of a meeting.
use Rattle.std.proofs.Common.{◌≡◌, ℕ, Bool, false, List, [], Option, Some, None, Result, Ok, Err, inl, inr, refl, subst, ◌∙◌}
use Rattle.hw_types.specs.declared.unit.Vertex.{Vertex}
use Rattle.hw_types.specs.Real.{CoreState}
use Rattle.hw_io.specs.Doors.{Session, Ask, AsksMore}
use Rattle.hw_io.proofs.Asks.{asks_still}
use Rattle.hw_link.specs.declared.end.SessionEnd.{SessionEnd}
use Rattle.hw_link.specs.declared.end.SessionEnd.TheVariants as end
use Rattle.hw_link.specs.Asked.{IsAskedInside}
use Rattle.hw_link.specs.Links.{after_part}
use Rattle.hw_link.specs.Told.{door_told}
use Rattle.hw_meeting_node.specs.declared.read.HeardMeeting.{HeardMeeting}
use Rattle.hw_meeting_node.specs.Frames.{Placed, frame_here}
use Rattle.hw_meeting_node.specs.Heard.{Hears, IsHeard}
use Rattle.hw_meeting_node.specs.declared.meeter.Side.{Side}
use Rattle.hw_meeting_node.specs.Talk.{Reaction}
use Rattle.hw_meeting_node.specs.Meeting.{Meeting, at_stage, meet_step}
use Rattle.hw_meeting_node.specs.Handling.{Reacts, IsTakerCounted}
use Rattle.hw_meeting_node.specs.Taking.{vertex_at, TakeStep, TakesOf, GoesNext, meeting_with}
use Rattle.hw_meeting_node.proofs.TakingLaws.{takes_alike}
use Rattle.hw_meeting_node.proofs.EndLaws.{no_frame_so}

reacts_alike : (c : CoreState) (r : Reaction Meeting) (now : Meeting) (old new : Option (List Session)) (e : SessionEnd) → Reacts {T = Unit {0}} c r now old new (Err e) → Reacts {T = ℕ} c r now old new (Err e)
reacts_alike c r now old new end.Done h = h
reacts_alike c r now old new end.EndOfInput h = h
reacts_alike c r now old new end.WrongInstance h = h
reacts_alike c r now old new (end.BadFrame at) h = h
reacts_alike c r now old new end.LinkFault h = h
reacts_alike c r now old new end.AppendFault h = h
reacts_alike c r now old new end.ByteLimit h = h
reacts_alike c r now old new end.Clash h = h
reacts_alike c r now old new end.OutOfMemory h = h

-- there was no frame
pub quits : {A : Type 0} (taking : TakeStep A) (t : A) (step : Placed → Reaction Meeting) (n count place : ℕ) (m : Meeting) (old new : Option (List Session)) (ends_old ends_new : ℕ) (e : SessionEnd) → count ≡ n → Hears {T = HeardMeeting} count (IsHeard count) place [] old new ends_old ends_new (Err e) → GoesNext taking n place step (meeting_with m t) (meeting_with m t) (door_told old ends_old) (door_told new ends_new) (Err e)
quits taking t step n count place m old new ends_old ends_new e same heard = inl (record { how = e; is = refl; stays = refl; heard = subst (λ (k : ℕ). Hears {T = HeardMeeting} k (IsHeard k) place [] old new ends_old ends_new (Err e)) same heard }, refl)

-- no read ends as a failed append
pub heard_unstored : (T : Type 0) (validators place count : ℕ) (old new : Option (List Session)) (ends_old ends_new : ℕ) (e : SessionEnd) → Hears {T = HeardMeeting} validators (IsHeard validators) place [] old new ends_old ends_new (Err e) → IsTakerCounted {T = T} count count (Err e)
heard_unstored T validators place count old new ends_old ends_new end.AppendFault h = absurd (no_frame_so validators place h.part end.AppendFault h.says)
heard_unstored T validators place count old new ends_old ends_new end.Done h = refl
heard_unstored T validators place count old new ends_old ends_new end.EndOfInput h = refl
heard_unstored T validators place count old new ends_old ends_new end.WrongInstance h = refl
heard_unstored T validators place count old new ends_old ends_new (end.BadFrame at) h = refl
heard_unstored T validators place count old new ends_old ends_new end.LinkFault h = refl
heard_unstored T validators place count old new ends_old ends_new end.ByteLimit h = refl
heard_unstored T validators place count old new ends_old ends_new end.Clash h = refl
heard_unstored T validators place count old new ends_old ends_new end.OutOfMemory h = refl

-- there was one
module _ {A : Type 0} (taking : TakeStep A) (t u : A) (n count place : ℕ) (side : Side) (judge : Vertex → Bool) (m now : Meeting) (old mid new : Option (List Session)) (ends_old ends_mid ends_new : ℕ) (h : HeardMeeting) (is : count ≡ n)
    (hears : Hears {T = HeardMeeting} count (IsHeard count) place [] old mid ends_old ends_mid (Ok h)) (same : ends_new ≡ ends_mid) where
  heard : Hears {T = HeardMeeting} n (IsHeard n) place [] old mid ends_old ends_mid (Ok h)
  heard = subst (λ (k : ℕ). Hears {T = HeardMeeting} k (IsHeard k) place [] old mid ends_old ends_mid (Ok h)) is hears

  abbrev reaction : Reaction Meeting
  reaction = at_stage m.stage side judge m place h.frame

  step_is : reaction ≡ meet_step side judge m (record { at = place; frame = h.frame })
  unfolding meet_step
  step_is = refl

  moved : {T : Type 0} (result : Result T SessionEnd) → Reacts {T = T} m.core reaction now mid new result → Reacts {T = T} m.core (meet_step side judge m (record { at = place; frame = h.frame })) now (after_part heard.part [] false old) new result
  moved {T} result reacts =
      subst (λ (r : Reaction Meeting). Reacts {T = T} m.core r now (after_part heard.part [] false old) new result) step_is
      (subst (λ (o : Option (List Session)). Reacts {T = T} m.core reaction now o new result) heard.heard reacts)

  pub handles_whole : Reacts {T = Unit {0}} m.core reaction now mid new (Ok tt) → TakesOf {R = Unit {0}} taking (vertex_at m.stage h.frame) t u (Ok tt) → GoesNext taking n place (meet_step side judge m) (meeting_with m t) (meeting_with now u) (door_told old ends_old) (door_told new ends_new) (Ok h.next)
  handles_whole reacts takes = inr (
    record {
      part = heard.part;
      frame = h.frame;
      has = heard.says.0;
      within = heard.within;
      ends = same ∙ heard.ended;
      next = heard.says.1;
      reacts = moved {T = Unit {0}} (Ok tt) reacts;
    },
    went (vertex_at m.stage h.frame) takes,
  )
    where
      went : (o : Option Vertex) → TakesOf {R = Unit {0}} taking o t u (Ok tt) → TakesOf {R = ℕ} taking o t u (Ok h.next)
      went None takes = takes
      went (Some v) takes = takes

  pub handles_end : (e : SessionEnd) → Reacts {T = Unit {0}} m.core reaction now mid new (Err e) → TakesOf {R = Unit {0}} taking (vertex_at m.stage h.frame) t u (Err e) → GoesNext taking n place (meet_step side judge m) (meeting_with m t) (meeting_with now u) (door_told old ends_old) (door_told new ends_new) (Err e)
  handles_end e reacts takes = inr (
    record {
      part = heard.part;
      frame = h.frame;
      has = heard.says.0;
      within = heard.within;
      ends = same ∙ heard.ended;
      next = tt;
      reacts = moved {T = ℕ} (Err e) (reacts_alike m.core reaction now mid new e reacts);
    },
    takes_alike (Unit {0}) ℕ taking (vertex_at m.stage h.frame) t u e takes,
  )

-- the reads of a frame, where there are as many validators
pub asks_among : (n m place : ℕ) (now : Option (List Session)) (old mid new : List Ask) → n ≡ m → AsksMore (IsAskedInside (frame_here n) place [] now) old mid → new ≡ mid → AsksMore (IsAskedInside (frame_here m) place [] now) old new
asks_among n m place now old mid new same asks stays =
    asks_still (IsAskedInside (frame_here m) place [] now) old mid new (subst (λ (k : ℕ). AsksMore (IsAskedInside (frame_here k) place [] now) old mid) same asks) stays
