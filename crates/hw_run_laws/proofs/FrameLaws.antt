-- A session that a frame ended: more bytes change nothing.
use Rattle.std.proofs.Common.{◌≡◌, ℕ, zero, suc, ◌+◌, ◌<◌, ◌≤◌, Bool, true, false, cond, ltb, List, [], ◌∷◌, ◌++◌, length, take, drop, Option, Some, None, Result, Ok, Err, refl, sym, ap, subst, ◌∙◌, arith, length-append, length-drop}
use Rattle.std.specs.Int.{w32, from_be_bytes}
use Rattle.std.proofs.lemmas.Bool.{ltb-false}
use Rattle.std.proofs.lemmas.List.{take-append-drop, length-take-le, append_assoc}
use Rattle.hw_types.specs.Limits.{is_within}
use Rattle.hw_types.specs.declared.answers.Frame.{Frame}
use Rattle.hw_types.specs.declared.answers.CodecError.{CodecError}
use Rattle.hw_types.specs.Reading.{Rest, frame_of}
use Rattle.hw_link.specs.declared.end.SessionEnd.{SessionEnd}
use Rattle.hw_link.specs.declared.end.SessionEnd.TheVariants as end
use Rattle.hw_link.specs.Frames.{◌>>=◌, PlacedOf, Placed, rest_at, cut_end, front_of, length_of, decoded, frame_by, frame_here, frames_of, byte_limit}
use Rattle.hw_link.specs.Talk.{Reaction, Talk, talk_over}
use Rattle.hw_link.specs.UnderWay.{HasBy, HasHeard, placed_behind}
use Rattle.hw_link.proofs.FrameLaws.{bind_ok, placed, with_whole, with_length, frame_here-shorter}
use Rattle.hw_link.proofs.FrameReadLaws.{frame_by-is_read}
use Rattle.hw_link.proofs.HeardLaws.{reads_frame_by_frame}
use Rattle.hw_session.proofs.ServingLaws.{IsOfBytes, no_frame_so}

-- ---- the frame that is there

chosen : {A : Type 0} (b : Bool) (d : SessionEnd) (x y : A) → cond b (Err d) (Ok x) ≡ Ok y → (b ≡ false) × (x ≡ y)
chosen true d x y e = absurd cc
chosen false d x y e = (refl, cc)

front_is : (n : ℕ) (r : Rest) (x : List ℕ) → front_of n r ≡ Ok x → (n ≤ length r.bytes) × (take n r.bytes ≡ x)
front_is n r x e = let c = chosen (ltb (length r.bytes) n) (cut_end r) (take n r.bytes) x e in (ltb-false _ _ c.0, c.1)

within_is : (b : Bool) (n m : ℕ) (d : SessionEnd) → cond b (Ok n) (Err d) ≡ Ok m → (b ≡ true) × (n ≡ m)
within_is true n m d e = (refl, cc)
within_is false n m d e = absurd cc

decoded_is : {F : Type 0} (r : Rest) (x : Result F CodecError) (f : F) → decoded r x ≡ Ok f → x ≡ Ok f
decoded_is r (Ok g) f e = cc
decoded_is r (Err d) f e = absurd cc

-- the first of the first
take_take : {X : Type 0} (xs : List X) (n m : ℕ) → n ≤ m → take n (take m xs) ≡ take n xs
take_take xs zero m le = refl
take_take [] (suc n) zero le = refl
take_take [] (suc n) (suc m) le = refl
take_take (x ∷ xs) (suc n) zero le = absurd (omega (arith, le))
take_take (x ∷ xs) (suc n) (suc m) le = ap (λ l. x ∷ l) (take_take xs n m (omega (arith, le)))

-- the bytes of the frame, and those behind it, where frames are read in this way
pub record IsSplit {F : Type 0} (here : Rest → Result (PlacedOf F × Rest) SessionEnd) (place : ℕ) (bytes : List ℕ) (f : PlacedOf F) (rest : Rest) : Type 0 where
  pub part : List ℕ
  pub whole : bytes ≡ part ++ rest.bytes
  pub has : HasBy here place part f.frame

-- a frame that the bytes behind its length spell in this way
module _ {F : Type 0} (spelled : List ℕ → Result F CodecError) where
  abbrev read_as : PlacedOf F × Rest → Result (PlacedOf F × Rest) SessionEnd
  read_as x = Ok x

  bytes_of_ok : (x y : PlacedOf F × Rest) → read_as x ≡ read_as y → (x.0.frame ≡ y.0.frame) × (x.1.bytes ≡ y.1.bytes)
  bytes_of_ok x y e = (cc, cc)

  pub split_by : (place : ℕ) (bytes : List ℕ) (f : PlacedOf F) (rest : Rest) → frame_by spelled (rest_at place bytes) ≡ Ok (f, rest) → IsSplit (frame_by spelled) place bytes f rest
  unfolding frame_by
  split_by place bytes f rest e =
      let r = rest_at place bytes in
      let front = bind_ok (front_of 4 r) (λ front. length_of r front >>= with_length spelled r) (f, rest) e in
      let n = bind_ok (length_of r front.0) (with_length spelled r) (f, rest) front.2 in
      let whole = bind_ok (front_of (4 + n.0) r) (with_whole spelled r n.0) (f, rest) n.2 in
      let frame = bind_ok (decoded r (spelled (drop 4 whole.0))) (placed spelled r n.0) (f, rest) whole.2 in
      let four = front_is 4 r front.0 front.1 in
      let size = within_is (is_within 1 1048576 (from_be_bytes w32 front.0)) (from_be_bytes w32 front.0) n.0 (end.BadFrame place) n.1 in
      let all = front_is (4 + n.0) r whole.0 whole.1 in
      let said = decoded_is r (spelled (drop 4 whole.0)) frame.0 frame.1 in
      let left = bytes_of_ok (record { at = place; frame = frame.0 }, record { place = place + (4 + n.0); bytes = drop (4 + n.0) bytes }) (f, rest) frame.2 in
      let body = drop 4 whole.0 in
      let front_four : length front.0 ≡ 4 = ap length (sym four.1) ∙ length-take-le 4 bytes four.0 in
      let whole_long : length whole.0 ≡ 4 + n.0 = ap length (sym all.1) ∙ length-take-le (4 + n.0) bytes all.0 in
      let begins : take 4 whole.0 ≡ front.0 = ap (take 4) (sym all.1) ∙ take_take bytes 4 (4 + n.0) (omega arith) ∙ four.1 in
      let both : front.0 ++ body ≡ whole.0 = ap (λ (xs : List ℕ). xs ++ body) (sym begins) ∙ take-append-drop 4 whole.0 in
      record {
        part = front.0 ++ body;
        whole = sym (take-append-drop (4 + n.0) bytes) ∙ ap (λ (xs : List ℕ). xs ++ drop (4 + n.0) bytes) (all.1 ∙ sym both) ∙ ap (λ (xs : List ℕ). (front.0 ++ body) ++ xs) left.1;
        has = subst (λ (g : F). HasBy (frame_by spelled) place (front.0 ++ body) g) left.0
            (frame_by-is_read spelled place front.0 body frame.0 (record { four = front_four; within = size.0 }) (omega (arith, length-drop 4 whole.0, whole_long, size.1)) said);
      }

pub split : (place : ℕ) (bytes : List ℕ) (f : Placed) (rest : Rest) → frame_here (rest_at place bytes) ≡ Ok (f, rest) → IsSplit frame_here place bytes f rest
unfolding frame_here
split place bytes f rest e = split_by frame_of place bytes f rest e

-- ---- the session

-- a frame brought this end
abbrev pub IsOfFrame : SessionEnd → Type 0
IsOfFrame end.Done = Unit {0}
IsOfFrame end.WrongInstance = Unit {0}
IsOfFrame end.Clash = Unit {0}
IsOfFrame e = ⊥

not_both : (r : Rest) (e : SessionEnd) → IsOfBytes r e → IsOfFrame e → ⊥
not_both r end.EndOfInput of by = by
not_both r (end.BadFrame at) of by = by
not_both r end.ByteLimit of by = by
not_both r end.Done of by = of
not_both r end.WrongInstance of by = of
not_both r end.Clash of by = of
not_both r end.LinkFault of by = of
not_both r end.AppendFault of by = of
not_both r end.OutOfMemory of by = of

module _ {S : Type 0} (step : S → Placed → Reaction S) (first : List Frame) (start : S) where
  abbrev Ends : List ℕ → SessionEnd
  Ends bytes = (talk_over first step start (frames_of bytes)).end

  -- what a frame ends of the bytes that are left behind these stays ended with so many more
  abbrev Stays : List ℕ → List ℕ → List ℕ → Type 0
  Stays more read left = length (read ++ left) ≤ byte_limit → IsOfFrame (Ends (read ++ left)) → length (read ++ (left ++ more)) ≤ byte_limit → Ends (read ++ (left ++ more)) ≡ Ends (read ++ left)

  -- if it does behind the first frame
  abbrev StaysBehind : List ℕ → List ℕ → Type 0
  StaysBehind more left = (read others : List ℕ) (said : List (List Frame)) (state : S) → length others < length left → HasHeard first step start read said state → Stays more read others

  module _ (read left more : List ℕ) (said : List (List Frame)) (state : S) (heard : HasHeard first step start read said state) (again : StaysBehind more left) where
    onward : (f : Placed) (rest : Rest) → frame_here (rest_at (length read) left) ≡ Ok (f, rest) → (s : IsSplit frame_here (length read) left f rest) → (step state (placed_behind read f.frame)).end ≡ None → Stays more read left
    onward f rest is s goes few by many =
        let led = (reads_frame_by_frame S).leads_on step first start read said state s.part f.frame heard s.has goes in
        let joined : (read ++ s.part) ++ rest.bytes ≡ read ++ left = append_assoc read s.part rest.bytes ∙ ap (λ (l : List ℕ). read ++ l) (sym s.whole) in
        let joined_more : (read ++ s.part) ++ (rest.bytes ++ more) ≡ read ++ (left ++ more) =
        sym (append_assoc (read ++ s.part) rest.bytes more) ∙ ap (λ (l : List ℕ). l ++ more) joined ∙ append_assoc read left more in
        let stays = again (read ++ s.part) rest.bytes _ _ (frame_here-shorter (rest_at (length read) left) f rest is) led (subst (λ (l : List ℕ). length l ≤ byte_limit) (sym joined) few) (subst (λ (l : List ℕ). IsOfFrame (Ends l)) (sym joined) by)
        (subst (λ (l : List ℕ). length l ≤ byte_limit) (sym joined_more) many) in
        ap Ends (sym joined_more) ∙ stays ∙ ap Ends joined

    reacts : (f : Placed) (rest : Rest) → frame_here (rest_at (length read) left) ≡ Ok (f, rest) → (s : IsSplit frame_here (length read) left f rest) → (o : Option SessionEnd) → (step state (placed_behind read f.frame)).end ≡ o → Stays more read left
    reacts f rest is s (Some d) ends few by many =
        let over = (reads_frame_by_frame S).frame_ends step first start read said state s.part f.frame d heard s.has ends in
        let one : Ends (read ++ left) ≡ d = ap (λ (l : List ℕ). Ends (read ++ l)) s.whole ∙ ap (λ (t : Talk S). t.end) (over rest.bytes (subst (λ (l : List ℕ). length (read ++ l) ≤ byte_limit) s.whole few)) in
        let moved : left ++ more ≡ s.part ++ (rest.bytes ++ more) = ap (λ (l : List ℕ). l ++ more) s.whole ∙ append_assoc s.part rest.bytes more in
        let two : Ends (read ++ (left ++ more)) ≡ d = ap (λ (l : List ℕ). Ends (read ++ l)) moved ∙ ap (λ (t : Talk S). t.end) (over (rest.bytes ++ more) (subst (λ (l : List ℕ). length (read ++ l) ≤ byte_limit) moved many)) in
        two ∙ sym one
    reacts f rest is s None goes few by many = onward f rest is s goes few by many

    here : (x : Result (Placed × Rest) SessionEnd) → frame_here (rest_at (length read) left) ≡ x → Stays more read left
    here (Err d) is few by many =
        let over = (reads_frame_by_frame S).no_frame_ends step first start read said state left d heard is few in
        absurd (not_both (rest_at (length read) left) d (no_frame_so (length read) left d is) (subst IsOfFrame (ap (λ (t : Talk S). t.end) over) by))
    here (Ok (f, rest)) is few by many = reacts f rest is (split (length read) left f rest is) (step state (placed_behind read f.frame)).end refl few by many

  stays_from : (fuel : ℕ) (more read left : List ℕ) (said : List (List Frame)) (state : S) → length left ≤ fuel → HasHeard first step start read said state → Stays more read left
  stays_from zero more read left said state enough heard few by many =
      here read left more said state heard (λ r l s t shorter h. absurd (omega (arith, shorter, enough))) (frame_here (rest_at (length read) left)) refl few by many
  stays_from (suc k) more read left said state enough heard few by many =
      here read left more said state heard (λ r l s t shorter h. stays_from k more r l s t (omega (arith, shorter, enough)) h) (frame_here (rest_at (length read) left)) refl few by many

  -- A session that a frame ended ends so whatever comes behind its bytes.
  pub stays : (read more : List ℕ) → length (read ++ more) ≤ byte_limit → IsOfFrame (Ends read) → Ends (read ++ more) ≡ Ends read
  stays read more many by =
      stays_from (length read) more [] read (first ∷ []) start (omega arith) ((reads_frame_by_frame S).begins step first start) (omega (arith, many, length-append read more)) by many
