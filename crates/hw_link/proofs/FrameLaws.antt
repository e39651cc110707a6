-- The frames in what is left, one after the other.
use Rattle.std.proofs.Common.{◌≡◌, ℕ, zero, suc, ◌+◌, ◌<◌, ◌≤◌, Bool, true, false, cond, ltb, List, [], ◌∷◌, length, take, drop, Result, Ok, Err, refl, sym, ap, ◌∙◌, arith, length-drop}
use Rattle.std.proofs.lemmas.Bool.{ltb-false}
use Rattle.hw_types.specs.declared.answers.CodecError.{CodecError}
use Rattle.hw_types.specs.Reading.{Rest, frame_of}
use Rattle.hw_link.specs.declared.end.SessionEnd.{SessionEnd}
use Rattle.hw_link.specs.Frames.{◌>>=◌, PlacedOf, Placed, cut_end, front_of, length_of, decoded, frame_by, frame_here, FramesOf, with_next, frames_by, frames_in, frames_from}

-- ---- steps that succeed

pub bind_ok : {A B : Type 0} (x : Result A SessionEnd) (f : A → Result B SessionEnd) (y : B) → (x >>= f) ≡ Ok y → (a : A) × (x ≡ Ok a) × (f a ≡ Ok y)
bind_ok (Ok a) f y e = (a, refl, e)
bind_ok (Err d) f y e = absurd cc

pub chosen : {A : Type 0} (b : Bool) (d : SessionEnd) (x : Result A SessionEnd) (y : A) → cond b (Err d) x ≡ Ok y → (b ≡ false) × (x ≡ Ok y)
chosen true d x y e = absurd cc
chosen false d x y e = (refl, e)

-- there are as many bytes as were taken
front_of-enough : (n : ℕ) (r : Rest) (x : List ℕ) → front_of n r ≡ Ok x → n ≤ length r.bytes
front_of-enough n r x e = let c = chosen (ltb (length r.bytes) n) (cut_end r) (Ok (take n r.bytes)) x e in ltb-false _ _ c.0

-- ---- steps of a frame that the bytes behind its length spell in this way

module _ {F : Type 0} (spelled : List ℕ → Result F CodecError) where
  abbrev pub placed : Rest → ℕ → F → Result (PlacedOf F × Rest) SessionEnd
  placed r n frame = Ok (record { at = r.place; frame = frame }, record { place = r.place + (4 + n); bytes = drop (4 + n) r.bytes })

  abbrev pub with_whole : Rest → ℕ → List ℕ → Result (PlacedOf F × Rest) SessionEnd
  with_whole r n whole = decoded r (spelled (drop 4 whole)) >>= placed r n

  abbrev pub with_length : Rest → ℕ → Result (PlacedOf F × Rest) SessionEnd
  with_length r n = front_of (4 + n) r >>= with_whole r n

  -- behind a frame fewer bytes are left
  pub frame_by-shorter : (r : Rest) (f : PlacedOf F) (rest : Rest) → frame_by spelled r ≡ Ok (f, rest) → length rest.bytes < length r.bytes
  unfolding frame_by
  frame_by-shorter r f rest e =
      let front = bind_ok (front_of 4 r) (λ front. length_of r front >>= with_length r) (f, rest) e in
      let n = bind_ok (length_of r front.0) (with_length r) (f, rest) front.2 in
      let whole = bind_ok (front_of (4 + n.0) r) (with_whole r n.0) (f, rest) n.2 in
      let frame = bind_ok (decoded r (spelled (drop 4 whole.0))) (placed r n.0) (f, rest) whole.2 in
      let left : length (drop (4 + n.0) r.bytes) ≡ length rest.bytes = ap (λ (y : Result (PlacedOf F × Rest) SessionEnd). elim y [ Ok z ↦ length z.1.bytes | Err d ↦ 0 ]) frame.2 in
      omega (arith, length-drop (4 + n.0) r.bytes, front_of-enough (4 + n.0) r whole.0 whole.1)

  -- where nothing is left there is no frame
  pub frame_by-none : (r : Rest) → length r.bytes ≡ 0 → frame_by spelled r ≡ Err (cut_end r)
  unfolding frame_by
  frame_by-none r none = rw (none) refl

pub frame_here-shorter : (r : Rest) (f : Placed) (rest : Rest) → frame_here r ≡ Ok (f, rest) → length rest.bytes < length r.bytes
unfolding frame_here
frame_here-shorter r f rest e = frame_by-shorter frame_of r f rest e

frame_here-none : (r : Rest) → length r.bytes ≡ 0 → frame_here r ≡ Err (cut_end r)
unfolding frame_here
frame_here-none r none = frame_by-none frame_of r none

-- ---- the frames

-- each frame takes bytes, and where there are none there is none
module _ {F : Type 0} (here : Rest → Result (PlacedOf F × Rest) SessionEnd) (shorter : (r : Rest) (f : PlacedOf F) (rest : Rest) → here r ≡ Ok (f, rest) → length rest.bytes < length r.bytes) (none_here : (r : Rest) → length r.bytes ≡ 0 → here r ≡ Err (cut_end r)) where
  same_next : (r : Rest) (f g : Rest → FramesOf F) → ((rest : Rest) → length rest.bytes < length r.bytes → f rest ≡ g rest) → with_next (here r) f ≡ with_next (here r) g
  same_next r f g same = go (here r) refl
    where
      go : (x : Result (PlacedOf F × Rest) SessionEnd) → here r ≡ x → with_next x f ≡ with_next x g
      go (Ok (p, rest)) is = ap (λ (o : FramesOf F). record { given = p ∷ o.given; end = o.end }) (same rest (shorter r p rest is))
      go (Err d) is = refl

  none_left : (steps : ℕ) (r : Rest) → length r.bytes ≡ 0 → frames_by here steps r ≡ record { given = []; end = cut_end r }
  unfolding frames_by
  none_left zero r none = refl
  none_left (suc steps) r none = ap (λ (x : Result (PlacedOf F × Rest) SessionEnd). with_next x (frames_by here steps)) (none_here r none)

  -- steps beyond the number of bytes change nothing
  enough : (m n : ℕ) (r : Rest) → length r.bytes ≤ m → length r.bytes ≤ n → frames_by here m r ≡ frames_by here n r
  unfolding frames_by
  enough zero n r most_m most_n = none_left zero r (omega arith) ∙ sym (none_left n r (omega arith))
  enough (suc m) zero r most_m most_n = none_left (suc m) r (omega arith) ∙ sym (none_left zero r (omega arith))
  enough (suc m) (suc n) r most_m most_n = same_next r (frames_by here m) (frames_by here n) (λ rest less. enough m n rest (omega arith) (omega arith))

  -- the frames in what is left are the one here, and then those in what is left behind it
  pub frames_by-next : (r : Rest) → frames_by here (length r.bytes) r ≡ with_next (here r) (λ rest. frames_by here (length rest.bytes) rest)
  unfolding frames_by
  frames_by-next r =
      enough (length r.bytes) (suc (length r.bytes)) r (omega arith) (omega arith)
      ∙ same_next r (frames_by here (length r.bytes)) (λ rest. frames_by here (length rest.bytes) rest) (λ rest less. enough (length r.bytes) (length rest.bytes) rest (omega arith) (omega arith))

pub frames_next : (r : Rest) → frames_from r ≡ with_next (frame_here r) frames_from
unfolding frames_in
frames_next r = frames_by-next frame_here frame_here-shorter frame_here-none r
