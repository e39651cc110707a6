-- What a node knows that reads frame by frame.
use Rattle.std.proofs.Common.{◌≡◌, ℕ, ◌+◌, ◌≤◌, List, [], ◌∷◌, ◌++◌, length, sym, subst, length-append}
use Rattle.std.proofs.lemmas.List.{append_assoc, take_all}
use Rattle.hw_types.specs.declared.answers.Frame.{Frame}
use Rattle.hw_link.specs.Frames.{Placed, rest_at, frames_of, byte_limit}
use Rattle.hw_link.specs.Talk.{Reaction, Talk, talk_over}
use Rattle.hw_link.specs.UnderWay.{UnderWay, HasHeard, placed_behind, TalkBegins, FrameLeadsOn, FrameEnds, NoFrameEnds, ReadsFrameByFrame}
use Rattle.hw_link.proofs.TalkLaws.{talk_starts, goes_by_frame, ends_by_frame, ends_without_frame}

-- the whole talk over these bytes
abbrev over : {S : Type 0} → List Frame → (S → Placed → Reaction S) → S → List ℕ → Talk S
over first step start bytes = talk_over first step start (frames_of bytes)

talk_begins : (S : Type 0) → TalkBegins S
talk_begins S step first start more few = subst (λ b. UnderWay step (over first step start more) (first ∷ []) start (rest_at 0 b)) (take_all byte_limit more few) (talk_starts step first start more)

-- what is known behind these bytes, of a part that comes then and of more
known : {S : Type 0} (step : S → Placed → Reaction S) (first : List Frame) (start : S) (read : List ℕ) (said : List (List Frame)) (state : S) (part more : List ℕ)
    → HasHeard first step start read said state → length (read ++ part ++ more) ≤ byte_limit
    → UnderWay step (over first step start (read ++ part ++ more)) said state (rest_at (length read) (part ++ more))
known step first start read said state part more heard few =
    subst (λ b. UnderWay step (over first step start b) said state (rest_at (length read) (part ++ more))) (sym (append_assoc read part more))
    (heard (part ++ more) (subst (λ b. length b ≤ byte_limit) (append_assoc read part more) few))

frame_leads_on : (S : Type 0) → FrameLeadsOn S
frame_leads_on S step first start read said state part f heard has goes more few =
    let place : length read + length part ≡ length (read ++ part) = sym (length-append read part) in
    let on = goes_by_frame step (over first step start (read ++ part ++ more)) said state (rest_at (length read) (part ++ more)) (placed_behind read f) (rest_at (length read + length part) more)
    (known step first start read said state part more heard few) (has more) goes in
    subst (λ p. UnderWay step (over first step start (read ++ part ++ more)) (said ++ (step state (placed_behind read f)).says ∷ []) (step state (placed_behind read f)).state (rest_at p more)) place on

frame_ends : (S : Type 0) → FrameEnds S
frame_ends S step first start read said state part f e heard has ends more few =
    ends_by_frame step (over first step start (read ++ (part ++ more))) said state (rest_at (length read) (part ++ more)) (placed_behind read f) (rest_at (length read + length part) more) e
    (heard (part ++ more) few) (has more) ends

no_frame_ends : (S : Type 0) → NoFrameEnds S
no_frame_ends S step first start read said state part e heard ends few =
    ends_without_frame step (over first step start (read ++ part)) said state (rest_at (length read) part) e (heard part few) ends

pub reads_frame_by_frame : (S : Type 0) → ReadsFrameByFrame S
reads_frame_by_frame S = record {
  begins = talk_begins S;
  leads_on = frame_leads_on S;
  frame_ends = frame_ends S;
  no_frame_ends = no_frame_ends S;
}
