-- What a peer sends by the first bytes of a session comes first.
use Rattle.std.specs.Prelude.{take}
use Rattle.std.proofs.Common.{◌≡◌, ℕ, zero, suc, ◌+◌, ◌<◌, ◌≤◌, List, [], ◌∷◌, ◌++◌, length, Result, Ok, Err, refl, sym, ap, subst, ◌∙◌, arith, length-append}
use Rattle.std.proofs.lemmas.List.{append_assoc, take_all}
use Rattle.hw_types.specs.declared.unit.Vertex.{Vertex}
use Rattle.hw_types.specs.Reading.{Rest, frame_of}
use Rattle.hw_link.specs.declared.end.SessionEnd.{SessionEnd}
use Rattle.hw_link.specs.Frames.{PlacedOf, Placed, FramesOf, rest_at, cut_end, frame_here, with_next, frames_by, frames_in, frames_of, byte_limit}
use Rattle.hw_link.proofs.FrameLaws.{frame_here-shorter, frame_by-none, frames_by-next}
use Rattle.hw_session.specs.Node.{NodeState}
use Rattle.hw_run_laws.specs.Restart.{arrivals, LivesOn, TakesSome}
use Rattle.hw_run_laws.proofs.FrameLaws.{IsSplit, split}

-- ---- frames that are read in this way, where each takes bytes

module _ {F : Type 0} (here : Rest → Result (PlacedOf F × Rest) SessionEnd) (shorter : (r : Rest) (f : PlacedOf F) (rest : Rest) → here r ≡ Ok (f, rest) → length rest.bytes < length r.bytes) (none_here : (r : Rest) → length r.bytes ≡ 0 → here r ≡ Err (cut_end r))
    (splits : (place : ℕ) (bytes : List ℕ) (f : PlacedOf F) (rest : Rest) → here (rest_at place bytes) ≡ Ok (f, rest) → IsSplit here place bytes f rest) where
  abbrev from : Rest → FramesOf F
  from r = frames_by here (length r.bytes) r

  -- the frames in these bytes
  abbrev pub frames_at : ℕ → List ℕ → List (PlacedOf F)
  frames_at place bytes = (from (rest_at place bytes)).given

  -- they are those that the first frame leads to
  frames_so : (place : ℕ) (bytes : List ℕ) (x : Result (PlacedOf F × Rest) SessionEnd) → here (rest_at place bytes) ≡ x → frames_at place bytes ≡ (with_next x from).given
  frames_so place bytes x is = ap (λ (o : FramesOf F). o.given) (frames_by-next here shorter none_here (rest_at place bytes) ∙ ap (λ (y : Result (PlacedOf F × Rest) SessionEnd). with_next y from) is)

  -- the frames in these bytes come first of those in more bytes
  abbrev pub ComeFirst : ℕ → List ℕ → List ℕ → Type 0
  ComeFirst place bytes more = (later : List (PlacedOf F)) × (frames_at place (bytes ++ more) ≡ frames_at place bytes ++ later)

  first_by : (place : ℕ) (bytes more : List ℕ) → ((end : ℕ) (rest : List ℕ) → length rest < length bytes → ComeFirst end rest more) → (x : Result (PlacedOf F × Rest) SessionEnd) → here (rest_at place bytes) ≡ x → ComeFirst place bytes more
  first_by place bytes more again (Err e) is = (frames_at place (bytes ++ more), ap (λ (fs : List (PlacedOf F)). fs ++ frames_at place (bytes ++ more)) (sym (frames_so place bytes (Err e) is)))
  first_by place bytes more again (Ok (f, rest)) is =
      let s = splits place bytes f rest is in
      let end = place + length s.part in
      let frame : PlacedOf F = record { at = place; frame = f.frame } in
      let behind = again end rest.bytes (shorter (rest_at place bytes) f rest is) in
      let first : frames_at place bytes ≡ frame ∷ frames_at end rest.bytes = ap (frames_at place) s.whole ∙ frames_so place (s.part ++ rest.bytes) (Ok (frame, rest_at end rest.bytes)) (s.has rest.bytes) in
      let there : frames_at place (bytes ++ more) ≡ frame ∷ frames_at end (rest.bytes ++ more) =
      ap (λ (b : List ℕ). frames_at place (b ++ more)) s.whole
      ∙ ap (frames_at place) (append_assoc s.part rest.bytes more)
      ∙ frames_so place (s.part ++ (rest.bytes ++ more)) (Ok (frame, rest_at end (rest.bytes ++ more))) (s.has (rest.bytes ++ more)) in
      (behind.0, there ∙ ap (λ (fs : List (PlacedOf F)). frame ∷ fs) behind.1 ∙ ap (λ (fs : List (PlacedOf F)). fs ++ behind.0) (sym first))

  frames_first : (steps place : ℕ) (bytes more : List ℕ) → length bytes ≤ steps → ComeFirst place bytes more
  frames_first zero place bytes more enough = first_by place bytes more (λ end rest less. absurd (omega (arith, less, enough))) (here (rest_at place bytes)) refl
  frames_first (suc k) place bytes more enough = first_by place bytes more (λ end rest less. frames_first k end rest more (omega (arith, less, enough))) (here (rest_at place bytes)) refl

  -- where the limit leaves all of the bytes
  pub limited_first : (first part : List ℕ) → length (first ++ part) ≤ byte_limit
      → (later : List (PlacedOf F)) × (frames_at 0 (take byte_limit (first ++ part)) ≡ frames_at 0 (take byte_limit first) ++ later)
  limited_first first part few =
      let less : length first ≤ byte_limit = omega (arith, few, length-append first part) in
      let frames = frames_first (length first) 0 first part (omega arith) in (
        frames.0,
        ap (frames_at 0) (take_all byte_limit (first ++ part) few) ∙ frames.1 ∙ ap (λ (b : List ℕ). frames_at 0 b ++ frames.0) (sym (take_all byte_limit first less)),
      )

-- ---- frames

nothing_here : (r : Rest) → length r.bytes ≡ 0 → frame_here r ≡ Err (cut_end r)
unfolding frame_here
nothing_here r none = frame_by-none frame_of r none

-- the frames in the first bytes are the first
pub given_first : (first part : List ℕ) → length (first ++ part) ≤ byte_limit → (later : List Placed) × ((frames_of (first ++ part)).given ≡ (frames_of first).given ++ later)
unfolding frames_in
given_first first part few = limited_first frame_here frame_here-shorter nothing_here split first part few

-- ---- lives

none_taken : (vs : List Vertex) → take 0 vs ≡ []
none_taken [] = refl
none_taken (v ∷ vs) = refl

-- the first of the first are the first
taken_first : (count : ℕ) (vs more : List Vertex) → (k : ℕ) × (take k (vs ++ more) ≡ take count vs)
taken_first zero [] more = (0, none_taken more)
taken_first zero (v ∷ vs) more = (0, refl)
taken_first (suc count) [] more = (0, none_taken more)
taken_first (suc count) (v ∷ vs) more = let k = taken_first count vs more in (suc k.0, ap (λ (ws : List Vertex). v ∷ ws) k.1)

pub takes_first : (n m : NodeState) (vs more : List Vertex) → TakesSome n vs m → TakesSome n (vs ++ more) m
takes_first n m vs more (count, lives) =
    let k = taken_first count vs more in
    (k.0, λ me. subst (λ (ws : List Vertex). LivesOn me n (arrivals n ws) m) (sym k.1) (lives me))
