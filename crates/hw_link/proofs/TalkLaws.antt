-- A session that is read frame by frame.
use Rattle.std.proofs.Common.{◌≡◌, ℕ, List, [], ◌∷◌, ◌++◌, take, Option, Some, None, Result, Ok, Err, refl, sym, ap, ◌∙◌}
use Rattle.std.proofs.lemmas.List.{append_assoc, append-nil}
use Rattle.hw_types.specs.declared.answers.Frame.{Frame}
use Rattle.hw_types.specs.Reading.{Rest}
use Rattle.hw_link.specs.declared.end.SessionEnd.{SessionEnd}
use Rattle.hw_link.specs.Frames.{Placed, Frames, rest_at, frame_here, with_next, frames_from, frames_of, byte_limit}
use Rattle.hw_link.specs.Talk.{Reaction, Talk, with_reaction, talk, talk_over}
use Rattle.hw_link.specs.UnderWay.{talk_from, behind_said, UnderWay, IsOver}
use Rattle.hw_link.proofs.FrameLaws.{frames_next}

abbrev talk_with : {S : Type 0} → (S → Placed → Reaction S) → S → Frames → Talk S
talk_with step state frames = talk step frames.end state frames.given

-- the talk over what is left, by the frame that is there
talk_next : {S : Type 0} (step : S → Placed → Reaction S) (state : S) (r : Rest) (x : Result (Placed × Rest) SessionEnd) → frame_here r ≡ x
    → talk_from step state r ≡ talk_with step state (with_next x frames_from)
talk_next step state r x is = ap (talk_with step state) (frames_next r ∙ ap (λ y. with_next y frames_from) is)

abbrev reacted : {S : Type 0} → Reaction S → Option SessionEnd → Reaction S
reacted first e = record first { end = e }

with_end : {S : Type 0} (first : Reaction S) (others : S → Talk S) (o : Option SessionEnd) → first.end ≡ o → with_reaction first others ≡ with_reaction (reacted first o) others
with_end first others o is = ap (λ e. with_reaction (reacted first e) others) is

pub talk_starts : {S : Type 0} (step : S → Placed → Reaction S) (first : List Frame) (state : S) (bytes : List ℕ)
    → UnderWay step (talk_over first step state (frames_of bytes)) (first ∷ []) state (rest_at 0 (take byte_limit bytes))
talk_starts step first state bytes = record { says = refl }

pub goes_by_frame : {S : Type 0} (step : S → Placed → Reaction S) (whole : Talk S) (said : List (List Frame)) (state : S) (r : Rest) (f : Placed) (rest : Rest)
    → UnderWay step whole said state r → frame_here r ≡ Ok (f, rest) → (step state f).end ≡ None
    → UnderWay step whole (said ++ (step state f).says ∷ []) (step state f).state rest
unfolding talk
goes_by_frame step whole said state r f rest under is goes =
    record { says = under.says ∙ ap (behind_said said) (talk_next step state r (Ok (f, rest)) is ∙ with_end (step state f) (λ next. talk_from step next rest) None goes) ∙ ap (λ s. record { state = (talk_from step (step state f).state rest).state; said = s; end = (talk_from step (step state f).state rest).end }) (sym (append_assoc said ((step state f).says ∷ []) (talk_from step (step state f).state rest).said)) }

pub ends_by_frame : {S : Type 0} (step : S → Placed → Reaction S) (whole : Talk S) (said : List (List Frame)) (state : S) (r : Rest) (f : Placed) (rest : Rest) (e : SessionEnd)
    → UnderWay step whole said state r → frame_here r ≡ Ok (f, rest) → (step state f).end ≡ Some e
    → IsOver whole (said ++ (step state f).says ∷ []) (step state f).state e
unfolding talk
ends_by_frame step whole said state r f rest e under is ends =
    under.says ∙ ap (behind_said said) (talk_next step state r (Ok (f, rest)) is ∙ with_end (step state f) (λ next. talk_from step next rest) (Some e) ends)

pub ends_without_frame : {S : Type 0} (step : S → Placed → Reaction S) (whole : Talk S) (said : List (List Frame)) (state : S) (r : Rest) (e : SessionEnd)
    → UnderWay step whole said state r → frame_here r ≡ Err e → IsOver whole said state e
unfolding talk
ends_without_frame step whole said state r e under is =
    under.says ∙ ap (behind_said said) (talk_next step state r (Err e) is) ∙ ap (λ s. record { state = state; said = s; end = e }) (append-nil said)
