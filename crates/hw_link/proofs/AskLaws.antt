-- The calls of `read` in a session.
use Rattle.std.proofs.Common.{◌≡◌, ℕ, ◌+◌, ◌<◌, ◌≤◌, false, List, [], ◌∷◌, ◌++◌, length, Option, Some, None, Result, Ok, refl, sym, ap, subst, ◌∙◌, arith, length-append}
use Rattle.std.specs.Prelude.{All}
use Rattle.std.specs.Int.{w32, from_be_bytes}
use Rattle.std.specs.Option.{option_map}
use Rattle.std.proofs.lemmas.List.{append-nil}
use Rattle.std.proofs.lemmas.List.Elements.{All-nil, All-weaker}
use Rattle.hw_io.specs.Doors.{Session, Ask, ask_in, ask_of, IsAskedNow, AsksMore, fresh_session, with_last, sessions_after}
use Rattle.hw_io.proofs.Asks.{asks_as, asks_then, ask_of-last}
use Rattle.hw_types.specs.Reading.{Rest, frame_of}
use Rattle.hw_types.specs.declared.answers.CodecError.{CodecError}
use Rattle.hw_link.specs.declared.end.SessionEnd.{SessionEnd}
use Rattle.hw_link.specs.Frames.{PlacedOf, rest_at, cut_end, frame_by, frame_here, body_here, byte_limit}
use Rattle.hw_link.specs.UnderWay.{EndsBy}
use Rattle.hw_link.specs.Links.{gone_on, after_part}
use Rattle.hw_link.specs.Heard.{HearsBy, IsLength, IsFrontOf}
use Rattle.hw_link.specs.Asked.{IsAskedWithin, IsAskedInside, IsAskedBehind, IsPrompt}
use Rattle.hw_link.proofs.FrameReadLaws.{cut_length, cut_body, body_ends}
use Rattle.hw_link.proofs.LinkLaws.{after_parts}

-- the sessions at a call, told otherwise
asked_as : (ask : Ask) (s t : Option (List Session)) → s ≡ t → IsAskedNow s ask → IsAskedNow t ask
asked_as ask s t same asked = subst (λ (x : Option (List Session)). IsAskedNow x ask) same asked

-- ---- reads of a part

-- one more read behind these bytes
pub read_asks : (n : ℕ) (old now : Option (List Session)) (read : List ℕ) → now ≡ after_part read [] false old → length read < n
    → (first then more : List Ask) → AsksMore (IsAskedWithin n old) first then → AsksMore (IsAskedNow now) then more → AsksMore (IsAskedWithin n old) first more
read_asks n old now read told few first then more so_far next =
    asks_then (IsAskedWithin n old) first then more so_far
    (asks_as (IsAskedNow now) (IsAskedWithin n old) (λ ask asked. record { part = read; few = few; asked = asked_as ask now (after_part read [] false old) told asked }) then more next)

-- ---- reads of a frame

-- where fewer bytes are read than a length has, there is no frame
pub front_asks : (place room : ℕ) (now : Option (List Session)) → room ≤ 4 → place + room ≤ byte_limit → (old new : List Ask) → AsksMore (IsAskedWithin room now) old new → AsksMore (IsAskedInside body_here place [] now) old new
front_asks place room now most fits old new asks = asks_as (IsAskedWithin room now) (IsAskedInside body_here place [] now) (λ ask asked.
    let few = asked.few in
    record { part = asked.part; within = omega arith; cut = cut_length Ok place asked.part (omega arith); asked = asked.asked }) old new asks

-- nor is there where fewer are read behind a length than it tells
pub behind_asks : (place room : ℕ) (front : List ℕ) (now : Option (List Session)) → IsLength front → room ≤ from_be_bytes w32 front → place + 4 + room ≤ byte_limit
    → (old new : List Ask) → AsksMore (IsAskedWithin room now) old new → AsksMore (IsAskedInside body_here place front now) old new
behind_asks place room front now is most fits old new asks = asks_as (IsAskedWithin room now) (IsAskedInside body_here place front now) (λ ask asked.
    let few = asked.few in
    record { part = asked.part; within = omega (arith, length-append front asked.part, is.four); cut = cut_body Ok place front asked.part is (omega arith); asked = asked.asked }) old new asks

-- the length was read, and then what is behind it
pub body_asks : (place : ℕ) (front : List ℕ) (old now : Option (List Session)) → now ≡ after_part front [] false old
    → (first then more : List Ask) → AsksMore (IsAskedInside body_here place [] old) first then → AsksMore (IsAskedInside body_here place front now) then more → AsksMore (IsAskedInside body_here place [] old) first more
body_asks place front old now told first then more so_far next =
    asks_then (IsAskedInside body_here place [] old) first then more so_far
    (asks_as (IsAskedInside body_here place front now) (IsAskedInside body_here place [] old) (λ ask asked.
    record {
      part = front ++ asked.part;
      within = asked.within;
      cut = asked.cut;
      asked = asked_as ask (after_part asked.part [] false now) (after_part (front ++ asked.part) [] false old) (ap (after_part asked.part [] false) told ∙ after_parts front asked.part [] [] false old) asked.asked;
    }) then more next)

-- the sessions behind a length
pub front_after : (place : ℕ) (front : List ℕ) (old new : Option (List Session)) (ends_old ends_new : ℕ) → HearsBy body_here IsFrontOf place [] old new ends_old ends_new (Ok front) → new ≡ after_part front [] false old
front_after place front old new ends_old ends_new heard = heard.heard ∙ ap (λ (part : List ℕ). after_part part [] false old) heard.says.0

-- where there are no bytes behind a length they spell no frame
pub spelled_asks : {F : Type 0} (spelled : List ℕ → Result F CodecError) (place : ℕ) (now : Option (List Session)) (old new : List Ask) → AsksMore (IsAskedInside body_here place [] now) old new → AsksMore (IsAskedInside (frame_by spelled) place [] now) old new
spelled_asks spelled place now old new asks = asks_as (IsAskedInside body_here place [] now) (IsAskedInside (frame_by spelled) place [] now) (λ ask asked.
    record { part = asked.part; within = asked.within; cut = body_ends spelled (rest_at place asked.part) (cut_end (rest_at place asked.part)) asked.cut; asked = asked.asked }) old new asks

pub frame_asks : (place : ℕ) (now : Option (List Session)) (old new : List Ask) → AsksMore (IsAskedInside body_here place [] now) old new → AsksMore (IsAskedInside frame_here place [] now) old new
unfolding frame_here
frame_asks place now old new asks = spelled_asks frame_of place now old new asks

-- ---- reads of a session

-- the reads of one more frame, of which a part says nothing more
pub next_asked : {F : Type 0} (here : Rest → Result (PlacedOf F × Rest) SessionEnd) (said : List ℕ → List ℕ) (read written : List ℕ) (old now : Option (List Session)) → now ≡ after_part read written false old
    → ((part : List ℕ) → EndsBy here (length read) part (cut_end (rest_at (length read) part)) → length (read ++ part) ≤ byte_limit → said (read ++ part) ≡ written)
    → (place : ℕ) → place ≡ length read
    → (begun then more : List Ask) → AsksMore (IsAskedBehind said old) begun then → AsksMore (IsAskedInside here place [] now) then more → AsksMore (IsAskedBehind said old) begun more
next_asked {F} here said read written old now told nothing_more place is begun then more so_far next =
    asks_then (IsAskedBehind said old) begun then more so_far (asks_as (IsAskedInside here place [] now) (IsAskedBehind said old) (λ ask asked. behind ask (subst (λ (p : ℕ). IsAskedInside here p [] now ask) is asked)) then more next)
  where
    behind : (ask : Ask) → IsAskedInside here (length read) [] now ask → IsAskedBehind said old ask
    behind ask asked =
        let part = asked.part in
        let within = asked.within in
        let fits : length (read ++ part) ≤ byte_limit = (let all = length-append read part in omega arith) in
        let all : written ++ [] ≡ said (read ++ part) = append-nil written ∙ sym (nothing_more part asked.cut fits) in
        record {
          read = read ++ part;
          asked = asked_as ask (after_part part [] false now) (after_part (read ++ part) (said (read ++ part)) false old)
              (ap (after_part part [] false) told ∙ after_parts read part written [] false old ∙ ap (λ (w : List ℕ). after_part (read ++ part) w false old) all) asked.asked;
        }

-- ---- a session that begins

last_changed : (f : Session → Session) (session : Session) (sessions : List Session) → with_last f (sessions ++ session ∷ []) ≡ sessions ++ f session ∷ []
last_changed f session [] = refl
last_changed f session (s ∷ []) = refl
last_changed f session (s ∷ t ∷ rest) = ap (λ (xs : List Session). s ∷ xs) (last_changed f session (t ∷ rest))

-- in a session that begins with nothing each call comes behind what is said
asked_fresh : (said : List ℕ → List ℕ) (address : Option (List ℕ)) (o : Option (List Session)) (ask : Ask)
    → IsAskedBehind said (option_map (λ (sessions : List Session). sessions ++ fresh_session address ∷ []) o) ask → IsPrompt said ask
asked_fresh said address None ask asked = absurd asked.asked
asked_fresh said address (Some sessions) ask asked =
    let change = gone_on asked.read (said asked.read) false in
    let there : ask_of (sessions ++ change (fresh_session address) ∷ []) ≡ Some ask = ap ask_of (sym (last_changed change (fresh_session address) sessions)) ∙ asked.asked in
    let both : Some (ask_in (change (fresh_session address))) ≡ Some ask = sym (ask_of-last (change (fresh_session address)) sessions) ∙ there in
    let same : ask_in (change (fresh_session address)) ≡ ask = cc in
    subst (λ (a : Ask). a.said ≡ said a.heard) same refl

-- the calls of a session that began, and is over
pub all_prompt : (said : List ℕ → List ℕ) (address : Option (List ℕ)) (old now : Option (List Session)) → now ≡ option_map (sessions_after {T = Unit {0}} address (Ok tt)) old
    → (begun then new : List Ask) → begun ≡ [] → AsksMore (IsAskedBehind said now) begun then → new ≡ then → All (IsPrompt said) new
all_prompt said address old now accepted begun then new none asks same =
    subst (All (IsPrompt said)) (sym (same ∙ asks.told ∙ ap (λ (begins : List Ask). begins ++ asks.more) none))
    (All-weaker (IsAskedBehind said now) (IsPrompt said) (λ ask asked. asked_fresh said address old ask (subst (λ (s : Option (List Session)). IsAskedBehind said s ask) accepted asked)) asks.more asks.each)

-- where none began there are none
pub none_prompt : (said : List ℕ → List ℕ) (new : List Ask) → new ≡ [] → All (IsPrompt said) new
none_prompt said new none = subst (All (IsPrompt said)) (sym none) (All-nil (IsPrompt said))
