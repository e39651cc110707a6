-- A session that is read frame by frame.
use Rattle.std.proofs.Common.{◌≡◌, ℕ, ◌+◌, ◌≤◌, List, [], ◌++◌, length, Option, Some, None, Result, Ok, Err, refl, sym, ap, subst, ◌∙◌, length-append}
use Rattle.std.proofs.lemmas.List.{append_assoc, append-nil, take_all}
use Rattle.hw_types.specs.Reading.{Rest}
use Rattle.hw_link.specs.declared.end.SessionEnd.{SessionEnd}
use Rattle.hw_link.specs.Frames.{rest_at, byte_limit, cut_end, with_next, frames_by}
use Rattle.hw_meeting.specs.declared.frame.MeetingFrame.{MeetingFrame}
use Rattle.hw_meeting_node.specs.Frames.{Placed, frame_here, HasFrame, EndsIn}
use Rattle.hw_meeting_node.specs.Talk.{frames_from, Reaction, Talk, with_reaction, talk, talk_with, behind_said, talk_from, talk_over, HasHeard, placed_behind}
use Rattle.hw_meeting_node.proofs.FrameLaws.{frames_next}

module _ {S : Type 0} (validators : ℕ) (step : S → Placed → Reaction S) where
  -- the talk over what is left, by the frame that is there
  talk_next : (state : S) (r : Rest) (x : Result (Placed × Rest) SessionEnd) → frame_here validators r ≡ x → talk_from validators step state r ≡ talk_with step state (with_next x (frames_from validators))
  talk_next state r x is = ap (talk_with step state) (frames_next validators r ∙ ap (λ y. with_next y (frames_from validators)) is)

  abbrev reacted : Reaction S → Option SessionEnd → Reaction S
  reacted first e = record first { end = e }

  with_end : (first : Reaction S) (others : S → Talk S) (o : Option SessionEnd) → first.end ≡ o → with_reaction first others ≡ with_reaction (reacted first o) others
  with_end first others o is = ap (λ e. with_reaction (reacted first e) others) is

  -- a frame that ends nothing
  goes : (state : S) (r : Rest) (f : Placed) (rest : Rest) → frame_here validators r ≡ Ok (f, rest) → (step state f).end ≡ None
      → talk_from validators step state r ≡ behind_said (step state f).says (talk_from validators step (step state f).state rest)
  unfolding talk
  goes state r f rest is on = talk_next state r (Ok (f, rest)) is ∙ with_end (step state f) (λ next. talk_from validators step next rest) None on

  -- a frame that brings an end
  stops : (state : S) (r : Rest) (f : Placed) (rest : Rest) (e : SessionEnd) → frame_here validators r ≡ Ok (f, rest) → (step state f).end ≡ Some e
      → talk_from validators step state r ≡ record { state = (step state f).state; said = (step state f).says; end = e }
  unfolding talk
  stops state r f rest e is off = talk_next state r (Ok (f, rest)) is ∙ with_end (step state f) (λ next. talk_from validators step next rest) (Some e) off

  -- no frame
  none : (state : S) (r : Rest) (e : SessionEnd) → frame_here validators r ≡ Err e → talk_from validators step state r ≡ record { state = state; said = []; end = e }
  unfolding talk
  none state r e is = talk_next state r (Err e) is

  -- nothing is left
  nothing : (state : S) (k : ℕ) → talk_from validators step state (rest_at k []) ≡ record { state = state; said = []; end = cut_end (rest_at k []) }
  unfolding talk frames_by
  nothing state k = refl

  module _ (first : List MeetingFrame) (start : S) where
    abbrev Heard : List ℕ → List MeetingFrame → S → Type 0
    Heard read said state = HasHeard validators first step start read said state

    abbrev whole : List ℕ → Talk S
    whole bytes = talk_over validators first step start bytes

    -- before anything was read
    pub begins : Heard [] first start
    begins more few = subst (λ (b : List ℕ). behind_said first (talk_from validators step start (rest_at 0 b)) ≡ behind_said first (talk_from validators step start (rest_at 0 more))) (sym (take_all byte_limit more few)) refl

    said_behind : (said says : List MeetingFrame) (t : Talk S) → behind_said said (behind_said says t) ≡ behind_said (said ++ says) t
    said_behind said says t = ap (λ (xs : List MeetingFrame). record t { said = xs }) (sym (append_assoc said says t.said))

    module _ (read : List ℕ) (said : List MeetingFrame) (state : S) (heard : Heard read said state) (part : List ℕ) where
      -- what is known behind these bytes, of a part that comes then and of more
      known : (more : List ℕ) → length (read ++ part ++ more) ≤ byte_limit → whole (read ++ part ++ more) ≡ behind_said said (talk_from validators step state (rest_at (length read) (part ++ more)))
      known more few =
          subst (λ (b : List ℕ). whole b ≡ behind_said said (talk_from validators step state (rest_at (length read) (part ++ more)))) (sym (append_assoc read part more))
          (heard (part ++ more) (subst (λ (b : List ℕ). length b ≤ byte_limit) (append_assoc read part more) few))

      module _ (f : MeetingFrame) (has : HasFrame validators (length read) part f) where
        abbrev r : Reaction S
        r = step state (placed_behind read f)

        -- a frame that ends nothing leads on
        pub leads_on : r.end ≡ None → Heard (read ++ part) (said ++ r.says) r.state
        leads_on on more few =
            let place : length read + length part ≡ length (read ++ part) = sym (length-append read part) in
            let next = goes state (rest_at (length read) (part ++ more)) (placed_behind read f) (rest_at (length read + length part) more) (has more) on in
            known more few ∙ ap (behind_said said) next ∙ said_behind said r.says (talk_from validators step r.state (rest_at (length read + length part) more))
            ∙ ap (λ (p : ℕ). behind_said (said ++ r.says) (talk_from validators step r.state (rest_at p more))) place

        -- one that brings an end is the last one, whatever comes behind it
        pub frame_ends : (e : SessionEnd) → r.end ≡ Some e → (more : List ℕ) → length (read ++ part ++ more) ≤ byte_limit
            → whole (read ++ part ++ more) ≡ record { state = r.state; said = said ++ r.says; end = e }
        frame_ends e off more few =
            known more few ∙ ap (behind_said said) (stops state (rest_at (length read) (part ++ more)) (placed_behind read f) (rest_at (length read + length part) more) e (has more) off)

      -- where there is no frame, the session ends by what is there
      pub no_frame_ends : (e : SessionEnd) → EndsIn validators (length read) part e → length (read ++ part) ≤ byte_limit → whole (read ++ part) ≡ record { state = state; said = said; end = e }
      no_frame_ends e ends few =
          heard part few ∙ ap (behind_said said) (none state (rest_at (length read) part) e ends)
          ∙ ap (λ (xs : List MeetingFrame). record { state = state; said = xs; end = e }) (append-nil said)

    -- what is known at a place
    pub heard_here : (read : List ℕ) (said : List MeetingFrame) (state : S) → Heard read said state → length read ≤ byte_limit
        → whole read ≡ record { state = state; said = said; end = cut_end (rest_at (length read) []) }
    heard_here read said state heard few =
        let under = heard [] (subst (λ (b : List ℕ). length b ≤ byte_limit) (sym (append-nil read)) few) in
        ap whole (sym (append-nil read)) ∙ under ∙ ap (behind_said said) (nothing state (length read))
        ∙ ap (λ (xs : List MeetingFrame). record { state = state; said = xs; end = cut_end (rest_at (length read) []) }) (append-nil said)

    -- whatever comes then, what was said so far stands first
    pub heard_first : (read : List ℕ) (said : List MeetingFrame) (state : S) → Heard read said state → (part : List ℕ) → length (read ++ part) ≤ byte_limit
        → (more : List MeetingFrame) × ((whole (read ++ part)).said ≡ said ++ more)
    heard_first read said state heard part few = ((talk_from validators step state (rest_at (length read) part)).said, ap (λ (t : Talk S). t.said) (heard part few))
