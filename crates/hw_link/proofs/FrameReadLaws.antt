-- A frame of which the bytes are there.
use Rattle.std.proofs.Common.{◌≡◌, ℕ, ◌+◌, ◌<◌, ◌≤◌, Bool, false, cond, IsTrue, List, [], ◌++◌, length, take, drop, Result, Ok, Err, refl, sym, ap, subst, ◌∙◌, arith, length-append}
use Rattle.std.proofs.lemmas.Bool.{le-ltb, lt-ltb}
use Rattle.std.proofs.lemmas.List.{take-append-le, take_all, append_assoc, append-nil}
use Rattle.std.proofs.Math.Seq.{drop-append_seam}
use Rattle.std.specs.Int.{w32, from_be_bytes}
use Rattle.hw_types.specs.Limits.{is_within}
use Rattle.hw_types.specs.declared.answers.Frame.{Frame}
use Rattle.hw_types.specs.declared.answers.CodecError.{CodecError}
use Rattle.hw_types.specs.Reading.{Rest, frame_of}
use Rattle.hw_link.specs.declared.end.SessionEnd.{SessionEnd}
use Rattle.hw_link.specs.declared.end.SessionEnd.TheVariants.{BadFrame}
use Rattle.hw_link.specs.Frames.{◌>>=◌, PlacedOf, rest_at, cut_end, front_of, length_of, decoded, frame_by, frame_here, body_here}
use Rattle.hw_link.specs.UnderWay.{HasBy, IsRefusedBy, EndsBy, HasFrame}
use Rattle.hw_link.specs.Heard.{IsLength}
use Rattle.hw_link.proofs.FrameLaws.{placed, with_whole, with_length}

-- the first n bytes are there
front_there : (place : ℕ) (front more : List ℕ) → front_of (length front) (rest_at place (front ++ more)) ≡ Ok front
front_there place front more =
    let enough : length front ≤ length (front ++ more) = omega (arith, length-append front more) in
    rw (le-ltb (length (front ++ more)) (length front) enough, take-append-le (length front) front more (omega arith), take_all (length front) front (omega arith)) refl

there_as : (n place : ℕ) (front more : List ℕ) → length front ≡ n → front_of n (rest_at place (front ++ more)) ≡ Ok front
there_as n place front more l = subst (λ m. front_of m (rest_at place (front ++ more)) ≡ Ok front) l (front_there place front more)

bind_is : {A B : Type 0} (x : Result A SessionEnd) (f : A → Result B SessionEnd) (a : A) (y : Result B SessionEnd) → x ≡ Ok a → f a ≡ y → (x >>= f) ≡ y
bind_is x f a y e g = ap (λ z. z >>= f) e ∙ g

-- what is refused whatever follows is refused where nothing does
pub refused_ends : {F : Type 0} (here : Rest → Result (PlacedOf F × Rest) SessionEnd) (place : ℕ) (part : List ℕ) (e : SessionEnd) → IsRefusedBy here place part e → EndsBy here place part e
refused_ends here place part e refused = ap (λ b. here (rest_at place b)) (sym (append-nil part)) ∙ refused []

-- ---- a frame that the bytes behind its length spell in this way

module _ {F : Type 0} (spelled : List ℕ → Result F CodecError) where
  abbrev all_of : ℕ → List ℕ → List ℕ → List ℕ → Rest
  all_of place front body more = rest_at place (front ++ body ++ more)

  -- the length is a length, and so many bytes follow
  read_whole : (place : ℕ) (front body more : List ℕ) → length front ≡ 4 → IsTrue (is_within 1 1048576 (from_be_bytes w32 front)) → length body ≡ from_be_bytes w32 front
      → frame_by spelled (all_of place front body more) ≡ (decoded (all_of place front body more) (spelled body) >>= placed spelled (all_of place front body more) (from_be_bytes w32 front))
  unfolding frame_by
  read_whole place front body more l within m =
      let r = all_of place front body more in
      let n = from_be_bytes w32 front in
      let first : front_of 4 r ≡ Ok front = ap (λ b. front_of 4 (rest_at place b)) (append_assoc front body more) ∙ there_as 4 place front (body ++ more) l in
      let size : length_of r front ≡ Ok n = ap (λ (b : Bool). cond b (Ok n) (Err (BadFrame place))) within in
      let both : length (front ++ body) ≡ 4 + n = length-append front body ∙ ap (λ k. k + length body) l ∙ ap (λ k. 4 + k) m in
      let whole : front_of (4 + n) r ≡ Ok (front ++ body) = there_as (4 + n) place (front ++ body) more both in
      let inner : drop 4 (front ++ body) ≡ body = subst (λ k. drop k (front ++ body) ≡ body) l (drop-append_seam front body) in
      bind_is (front_of 4 r) (λ front. length_of r front >>= with_length spelled r) front _ first (
      bind_is (length_of r front) (with_length spelled r) n _ size (
      bind_is (front_of (4 + n) r) (with_whole spelled r n) (front ++ body) _ whole (
      ap (λ b. decoded r (spelled b) >>= placed spelled r n) inner)))

  -- a frame is read from its length and its body, whatever follows
  pub frame_by-is_read : (place : ℕ) (front body : List ℕ) (f : F) → IsLength front → length body ≡ from_be_bytes w32 front → spelled body ≡ Ok f → HasBy (frame_by spelled) place (front ++ body) f
  frame_by-is_read place front body f front_is m said more =
      let r = all_of place front body more in
      let n = from_be_bytes w32 front in
      let behind : drop (length (front ++ body)) (front ++ body ++ more) ≡ more = drop-append_seam (front ++ body) more in
      let both : length (front ++ body) ≡ 4 + n = length-append front body ∙ ap (λ k. k + length body) front_is.four ∙ ap (λ k. 4 + k) m in
      read_whole place front body more front_is.four front_is.within m
      ∙ ap (λ x. decoded r x >>= placed spelled r n) said
      ∙ ap (λ k. Ok (record { at = place; frame = f }, rest_at (place + k) (drop k (front ++ body ++ more)))) (sym both)
      ∙ ap (λ b. Ok (record { at = place; frame = f }, rest_at (place + length (front ++ body)) b)) behind

  -- a body that spells no frame
  pub bad_body : (place : ℕ) (front body : List ℕ) (e : CodecError) → IsLength front → length body ≡ from_be_bytes w32 front → spelled body ≡ Err e → IsRefusedBy (frame_by spelled) place (front ++ body) (BadFrame place)
  bad_body place front body e front_is m said more =
      let r = all_of place front body more in
      read_whole place front body more front_is.four front_is.within m ∙ ap (λ x. decoded r x >>= placed spelled r (from_be_bytes w32 front)) said

  -- a length outside its limits
  pub bad_length : (place : ℕ) (front : List ℕ) → length front ≡ 4 → is_within 1 1048576 (from_be_bytes w32 front) ≡ false → IsRefusedBy (frame_by spelled) place front (BadFrame place)
  unfolding frame_by
  bad_length place front l out more =
      let r = rest_at place (front ++ more) in
      bind_is (front_of 4 r) (λ front. length_of r front >>= with_length spelled r) front _ (there_as 4 place front more l)
      (ap (λ (b : Bool). cond b (Ok (from_be_bytes w32 front)) (Err (BadFrame place)) >>= with_length spelled r) out)

  -- fewer bytes than a length has
  pub cut_length : (place : ℕ) (part : List ℕ) → length part < 4 → EndsBy (frame_by spelled) place part (cut_end (rest_at place part))
  unfolding frame_by
  cut_length place part few = rw (lt-ltb (length part) 4 few) refl

  -- fewer bytes than the body has
  pub cut_body : (place : ℕ) (front part : List ℕ) → IsLength front → length part < from_be_bytes w32 front → EndsBy (frame_by spelled) place (front ++ part) (cut_end (rest_at place (front ++ part)))
  unfolding frame_by
  cut_body place front part front_is few =
      let r = rest_at place (front ++ part) in
      let n = from_be_bytes w32 front in
      let size : length_of r front ≡ Ok n = ap (λ (b : Bool). cond b (Ok n) (Err (BadFrame place))) front_is.within in
      let short : length (front ++ part) < 4 + n = omega (arith, length-append front part, front_is.four) in
      bind_is (front_of 4 r) (λ front. length_of r front >>= with_length spelled r) front _ (there_as 4 place front part front_is.four) (
      bind_is (length_of r front) (with_length spelled r) n _ size (
      ap (λ (b : Bool). cond b (Err (cut_end r)) (Ok (take (4 + n) (front ++ part))) >>= with_whole spelled r n) (lt-ltb (length (front ++ part)) (4 + n) short)))

-- ---- the bytes behind a length, and what they spell

fails_too : {A B C : Type 0} (x : Result A SessionEnd) (f : A → Result B SessionEnd) (g : A → Result C SessionEnd) (e : SessionEnd) → ((a : A) → f a ≡ Err e → g a ≡ Err e) → (x >>= f) ≡ Err e → (x >>= g) ≡ Err e
fails_too (Ok a) f g e each is = each a is
fails_too (Err d) f g e each is = let same : d ≡ e = cc in ap (λ (c : SessionEnd). Err c) same

-- where there are no bytes behind a length there is no frame
pub body_ends : {F : Type 0} (spelled : List ℕ → Result F CodecError) (r : Rest) (e : SessionEnd) → body_here r ≡ Err e → frame_by spelled r ≡ Err e
unfolding frame_by
body_ends spelled r e is =
    fails_too (front_of 4 r) (λ front. length_of r front >>= with_length Ok r) (λ front. length_of r front >>= with_length spelled r) e (λ front.
    fails_too (length_of r front) (with_length Ok r) (with_length spelled r) e (λ n.
    fails_too (front_of (4 + n) r) (with_whole Ok r n) (with_whole spelled r n) e (λ whole read. absurd cc))) is

-- ---- a frame

pub frame_is : frame_here ≡ frame_by frame_of
unfolding frame_here
frame_is = refl

pub frame_is_read : (place : ℕ) (front body : List ℕ) (f : Frame) → IsLength front → length body ≡ from_be_bytes w32 front → frame_of body ≡ Ok f → HasFrame place (front ++ body) f
unfolding frame_here
frame_is_read place front body f front_is m said = frame_by-is_read frame_of place front body f front_is m said
