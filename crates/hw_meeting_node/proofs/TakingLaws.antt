-- What a taker took of a peer's bytes, frame by frame.
use Rattle.std.proofs.Common.{◌≡◌, ℕ, ◌≤◌, Bool, List, [], ◌∷◌, ◌++◌, length, Option, Some, None, Result, Ok, Err, inl, inr, refl, sym, ap, subst, ◌∙◌, arith, length-append}
use Rattle.std.proofs.lemmas.List.{append-nil}
use Rattle.hw_types.specs.declared.unit.Vertex.{Vertex}
use Rattle.hw_types.specs.declared.answers.Receipt.{Receipt}
use Rattle.hw_types.specs.Real.{CoreState}
use Rattle.hw_io.specs.Faults.{raised}
use Rattle.hw_link.specs.declared.end.SessionEnd.{SessionEnd}
use Rattle.hw_link.specs.declared.end.SessionEnd.TheVariants as by
use Rattle.hw_link.specs.Frames.{byte_limit}
use Rattle.hw_meeting.specs.declared.frame.MeetingFrame.{MeetingFrame}
use Rattle.hw_meeting.specs.declared.frame.MeetingFrame.TheVariants as frame
use Rattle.hw_meeting_node.specs.Frames.{Placed, HasFrame, EndsIn}
use Rattle.hw_meeting_node.specs.declared.meeter.Side.{Side}
use Rattle.hw_meeting_node.specs.declared.meeter.Stage.{Stage}
use Rattle.hw_meeting_node.specs.declared.meeter.Stage.TheVariants as stage
use Rattle.hw_meeting_node.specs.declared.end.MeetEnd.TheVariants as end
use Rattle.hw_meeting_node.specs.declared.taker.TakeFault.{TakeFault}
use Rattle.hw_meeting_node.specs.declared.taker.TakeFault.TheVariants as fault
use Rattle.hw_meeting_node.specs.Talk.{Reaction, Talk, talk_over, HasHeard, placed_behind}
use Rattle.hw_meeting_node.specs.Meeting.{Meeting, begun, first_word, meet_step}
use Rattle.hw_meeting_node.specs.Sessions.{meet_end}
use Rattle.hw_meeting_node.specs.Handling.{IsTakerCounted}
use Rattle.hw_meeting_node.specs.Taking.{TakingMeeting, vertex_at, taken_then, taking_step, taking_nothing, taken_in, TakeStep, IsAnswered, TakesAll, TakesFirst, TakesUntil, Took, StoresNone, TakesOf}
use Rattle.hw_meeting_node.proofs.TalkLaws.{begins, leads_on, frame_ends, no_frame_ends, heard_here}

-- ---- one vertex after the other

module _ {A : Type 0} (step : TakeStep A) where
  pub all_none : (t : A) → TakesAll step t [] t
  unfolding TakesAll
  all_none t = refl

  pub all_more : (t : A) (vs : List Vertex) (u w : A) (v : Vertex) (answer : Result Receipt TakeFault) → TakesAll step t vs u → IsAnswered answer → step u v answer w → TakesAll step t (vs ++ v ∷ []) w
  unfolding TakesAll
  all_more t [] u w v answer is answered took = (answer, w, answered, subst (λ (x : A). step x v answer w) is took, refl)
  all_more t (x ∷ vs) u w v answer (r, next, ok, one, others) answered took = (r, next, ok, one, all_more next vs u w v answer others answered took)

-- what isn't counted stored no vertex in vain
pub stores_none : {R : Type 0} (result : Result R SessionEnd) → ((count : ℕ) → IsTakerCounted {T = R} count count result) → StoresNone {R = R} result
stores_none (Ok x) counted = tt
stores_none (Err by.AppendFault) counted = absurd (let rose : raised 0 ≤ 0 = counted 0 in omega (arith, rose))
stores_none (Err by.Done) counted = tt
stores_none (Err by.EndOfInput) counted = tt
stores_none (Err by.WrongInstance) counted = tt
stores_none (Err (by.BadFrame at)) counted = tt
stores_none (Err by.LinkFault) counted = tt
stores_none (Err by.ByteLimit) counted = tt
stores_none (Err by.Clash) counted = tt
stores_none (Err by.OutOfMemory) counted = tt

-- a frame of which no vertex is due
pub takes_none : {A : Type 0} (step : TakeStep A) (o : Option Vertex) (t : A) (result : Result (Unit {0}) SessionEnd) → o ≡ None → ((count : ℕ) → IsTakerCounted {T = Unit {0}} count count result) → TakesOf {R = Unit {0}} step o t t result
takes_none step o t result none counted = subst (λ (x : Option Vertex). TakesOf {R = Unit {0}} step x t t result) (sym none) (refl, stores_none result counted)

-- one whose vertex is due
pub takes_some : {A : Type 0} (step : TakeStep A) (o : Option Vertex) (v : Vertex) (t u : A) (result : Result (Unit {0}) SessionEnd) → o ≡ Some v → TakesOf {R = Unit {0}} step (Some v) t u result → TakesOf {R = Unit {0}} step o t u result
takes_some step o v t u result some takes = subst (λ (x : Option Vertex). TakesOf {R = Unit {0}} step x t u result) (sym some) takes

-- the vertex that is due at a stage, by what is known of both
pub due_at : (s t : Stage) (f g : MeetingFrame) → s ≡ t → f ≡ g → vertex_at s f ≡ vertex_at t g
due_at s t f g same_stage same_frame = ap (λ (x : Stage). vertex_at x f) same_stage ∙ ap (vertex_at t) same_frame

-- another frame has none
pub none_due : (f : MeetingFrame) → ((v : Vertex) → f ≡ frame.Vertex v → ⊥) → vertex_at stage.Taking f ≡ None
none_due (frame.Vertex v) other = absurd (other v refl)
none_due (frame.Hello d) other = refl
none_due (frame.Summary parts) other = refl
none_due (frame.Torn numbers) other = refl
none_due frame.Done other = refl

-- the same where the answer has another type
pub takes_alike : {A : Type 0} (Q R : Type 0) (step : TakeStep A) (o : Option Vertex) (t u : A) (e : SessionEnd) → TakesOf {R = Q} step o t u (Err e) → TakesOf {R = R} step o t u (Err e)
takes_alike Q R step None t u by.AppendFault takes = takes
takes_alike Q R step None t u by.Done takes = takes
takes_alike Q R step None t u by.EndOfInput takes = takes
takes_alike Q R step None t u by.WrongInstance takes = takes
takes_alike Q R step None t u (by.BadFrame at) takes = takes
takes_alike Q R step None t u by.LinkFault takes = takes
takes_alike Q R step None t u by.ByteLimit takes = takes
takes_alike Q R step None t u by.Clash takes = takes
takes_alike Q R step None t u by.OutOfMemory takes = takes
takes_alike Q R step (Some v) t u by.AppendFault takes = takes
takes_alike Q R step (Some v) t u by.Done takes = takes
takes_alike Q R step (Some v) t u by.EndOfInput takes = takes
takes_alike Q R step (Some v) t u by.WrongInstance takes = takes
takes_alike Q R step (Some v) t u (by.BadFrame at) takes = takes
takes_alike Q R step (Some v) t u by.LinkFault takes = takes
takes_alike Q R step (Some v) t u by.ByteLimit takes = takes
takes_alike Q R step (Some v) t u by.Clash takes = takes
takes_alike Q R step (Some v) t u by.OutOfMemory takes = takes

-- ---- how far it took

module _ {A : Type 0} (step : TakeStep A) (side : Side) (c : CoreState) (judge : Vertex → Bool) (t : A) where
  abbrev n : ℕ
  n = length c.config.weights

  abbrev keeping : TakingMeeting → Placed → Reaction TakingMeeting
  keeping = taking_step side judge

  abbrev first : List MeetingFrame
  first = first_word side c

  abbrev taken : List ℕ → List Vertex
  taken = taken_in side c judge

  -- the meeting stands here behind these bytes, and the taker took their vertices
  pub record HasTaken (m : Meeting) (read : List ℕ) (u : A) : Type 0 where
    pub vertices : List Vertex
    pub said : List MeetingFrame
    pub heard : HasHeard n first keeping (taking_nothing c) read said (record { meeting = m; taken = vertices })
    pub takes : TakesAll step t vertices u

  taken_of : (bytes : List ℕ) (s : TakingMeeting) (said : List MeetingFrame) (e : SessionEnd) → talk_over n first keeping (taking_nothing c) bytes ≡ record { state = s; said = said; end = e } → taken bytes ≡ s.taken
  unfolding taken_in
  taken_of bytes s said e is = ap (λ (x : Talk TakingMeeting). x.state.taken) is

  -- before the first byte
  pub taken_nothing : HasTaken (begun c) [] t
  taken_nothing = record { vertices = []; said = first; heard = begins n keeping first (taking_nothing c); takes = all_none step t }

  module _ (m : Meeting) (read : List ℕ) (u : A) (s : HasTaken m read u) where
    here : length read ≤ byte_limit → taken read ≡ s.vertices
    here few = taken_of read _ s.said _ (heard_here n keeping first (taking_nothing c) read s.said (record { meeting = m; taken = s.vertices }) s.heard few)

    pub takes_here : length read ≤ byte_limit → TakesAll step t (taken read) u
    takes_here few = subst (λ (vs : List Vertex). TakesAll step t vs u) (sym (here few)) s.takes

    -- no frame comes
    pub takes_over : (part : List ℕ) (e : SessionEnd) → EndsIn n (length read) part e → length (read ++ part) ≤ byte_limit → TakesAll step t (taken (read ++ part)) u
    takes_over part e ends few =
        subst (λ (vs : List Vertex). TakesAll step t vs u) (sym (taken_of (read ++ part) _ s.said e (no_frame_ends n keeping first (taking_nothing c) read s.said (record { meeting = m; taken = s.vertices }) s.heard part e ends few))) s.takes

    -- what comes isn't handled
    pub takes_first : (part : List ℕ) → length (read ++ part) ≤ byte_limit → TakesFirst step taken (read ++ part) t u
    takes_first part few = record { first = read; part = part; split = refl; takes = takes_here (let all = length-append read part in omega arith) }

    -- a frame comes
    module _ (part : List ℕ) (f : MeetingFrame) (has : HasFrame n (length read) part f) (few : length (read ++ part) ≤ byte_limit) where
      abbrev reaction : Reaction Meeting
      reaction = meet_step side judge m (placed_behind read f)

      abbrev vertex : Option Vertex
      vertex = vertex_at m.stage f

      abbrev next : TakingMeeting
      next = record { meeting = reaction.state; taken = taken_then s.vertices vertex }

      leads : reaction.end ≡ None → HasHeard n first keeping (taking_nothing c) (read ++ part) (s.said ++ reaction.says) next
      leads none = leads_on n keeping first (taking_nothing c) read s.said (record { meeting = m; taken = s.vertices }) s.heard part f has none

      taken_by : (o : Option SessionEnd) → reaction.end ≡ o → taken (read ++ part) ≡ taken_then s.vertices vertex
      taken_by None is = taken_of (read ++ part) next (s.said ++ reaction.says) _ (heard_here n keeping first (taking_nothing c) (read ++ part) (s.said ++ reaction.says) next (leads is) few)
      taken_by (Some e) is =
          let fits : length (read ++ part ++ []) ≤ byte_limit = subst (λ (bytes : List ℕ). length bytes ≤ byte_limit) (sym (append-nil (read ++ part))) few in
          ap taken (sym (append-nil (read ++ part)))
          ∙ taken_of (read ++ part ++ []) next (s.said ++ reaction.says) e (frame_ends n keeping first (taking_nothing c) read s.said (record { meeting = m; taken = s.vertices }) s.heard part f has e is [] fits)

      behind : taken (read ++ part) ≡ taken_then s.vertices vertex
      behind = taken_by reaction.end refl

      all_of : (o : Option Vertex) (w : A) {R : Type 0} (x : R) → TakesOf {R = R} step o u w (Ok x) → TakesAll step t (taken_then s.vertices o) w
      all_of None w x takes = subst (λ (y : A). TakesAll step t s.vertices y) (sym takes.0) s.takes
      all_of (Some v) w x (answer, took, shows) = all_more step t s.vertices u w v answer s.takes shows took

      pub takes_more : (w : A) {R : Type 0} (x : R) → reaction.end ≡ None → TakesOf {R = R} step vertex u w (Ok x) → HasTaken reaction.state (read ++ part) w
      takes_more w x none takes = record { vertices = taken_then s.vertices vertex; said = s.said ++ reaction.says; heard = leads none; takes = all_of vertex w x takes }

      whole : (w : A) → TakesOf {R = Unit {0}} step vertex u w (Ok tt) → TakesAll step t (taken (read ++ part)) w
      whole w takes = subst (λ (vs : List Vertex). TakesAll step t vs w) (sym behind) (all_of vertex w tt takes)

      short : length read ≤ byte_limit
      short = let all = length-append read part in omega arith

      until : (o : Option Vertex) → vertex ≡ o → (v : Vertex) → o ≡ Some v → (w : A) (why : TakeFault) → step u v (Err why) w → TakesUntil step taken (read ++ part) why t w
      until o is v some w why took = record {
        first = read;
        part = part;
        split = refl;
        vertex = v;
        last = behind ∙ ap (taken_then s.vertices) (is ∙ some) ∙ ap (λ (vs : List Vertex). vs ++ v ∷ []) (sym (here short));
        before = u;
        takes = takes_here short;
        stops = took;
      }

      -- it ended the session, or the session was cut short behind it
      unstored : (o : Option Vertex) → vertex ≡ o → (w : A) → TakesOf {R = Unit {0}} step o u w (Err by.AppendFault) → TakesUntil step taken (read ++ part) fault.AppendFault t w
      unstored None is w takes = absurd takes.1
      unstored (Some v) is w (answer, took, shows) = until (Some v) is v refl w fault.AppendFault (subst (λ (r : Result Receipt TakeFault). step u v r w) shows took)

      wanting : (o : Option Vertex) → vertex ≡ o → (w : A) → TakesOf {R = Unit {0}} step o u w (Err by.OutOfMemory) → Took step taken (read ++ part) end.OutOfMemory t w
      wanting None is w takes = inl (subst (λ (y : A). TakesFirst step taken (read ++ part) t y) (sym takes.0) (takes_first part few))
      wanting (Some v) is w (answer, took, shows) = inr (until (Some v) is v refl w fault.OutOfMemory (subst (λ (r : Result Receipt TakeFault). step u v r w) shows took))

      plain : (o : Option Vertex) (w : A) (e : SessionEnd) → (e ≡ by.AppendFault → ⊥) → (e ≡ by.OutOfMemory → ⊥) → TakesOf {R = Unit {0}} step o u w (Err e) → TakesOf {R = Unit {0}} step o u w (Ok tt)
      plain None w e a b takes = (takes.0, tt)
      plain (Some v) w by.AppendFault a b takes = absurd (a refl)
      plain (Some v) w by.OutOfMemory a b takes = absurd (b refl)
      plain (Some v) w by.Done a b takes = takes
      plain (Some v) w by.EndOfInput a b takes = takes
      plain (Some v) w by.WrongInstance a b takes = takes
      plain (Some v) w (by.BadFrame at) a b takes = takes
      plain (Some v) w by.LinkFault a b takes = takes
      plain (Some v) w by.ByteLimit a b takes = takes
      plain (Some v) w by.Clash a b takes = takes

      pub takes_last : (w : A) (e : SessionEnd) (refused : ℕ) → TakesOf {R = Unit {0}} step vertex u w (Err e) → Took step taken (read ++ part) (meet_end e refused) t w
      takes_last w by.AppendFault k takes = unstored vertex refl w takes
      takes_last w by.OutOfMemory k takes = wanting vertex refl w takes
      takes_last w by.Done k takes = whole w (plain vertex w by.Done (λ e. cc) (λ e. cc) takes)
      takes_last w by.EndOfInput k takes = whole w (plain vertex w by.EndOfInput (λ e. cc) (λ e. cc) takes)
      takes_last w by.WrongInstance k takes = whole w (plain vertex w by.WrongInstance (λ e. cc) (λ e. cc) takes)
      takes_last w (by.BadFrame at) k takes = whole w (plain vertex w (by.BadFrame at) (λ e. cc) (λ e. cc) takes)
      takes_last w by.LinkFault k takes = whole w (plain vertex w by.LinkFault (λ e. cc) (λ e. cc) takes)
      takes_last w by.ByteLimit k takes = whole w (plain vertex w by.ByteLimit (λ e. cc) (λ e. cc) takes)
      takes_last w by.Clash k takes = whole w (plain vertex w by.Clash (λ e. cc) (λ e. cc) takes)
