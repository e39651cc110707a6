-- How far is read: a part of a frame is cut, and so is what has no frame.
use Rattle.std.proofs.Common.{◌≡◌, ◌≢◌, ◌⊎◌, ℕ, ◌+◌, ◌≤◌, ltb, List, [], ◌∷◌, ◌++◌, length, take, drop, Result, Ok, Err, inl, inr, refl, sym, ap, subst, ◌∙◌, arith, length-append, length-drop}
use Rattle.std.proofs.lemmas.Bool.{le-ltb, ltb-false}
use Rattle.std.proofs.lemmas.List.{append-nil, take-append-le}
use Rattle.hw_types.specs.declared.answers.CodecError.{CodecError}
use Rattle.hw_types.specs.Reading.{Rest}
use Rattle.hw_link.specs.declared.end.SessionEnd.{SessionEnd}
use Rattle.hw_link.specs.declared.end.SessionEnd.TheVariants as by
use Rattle.hw_link.specs.Frames.{◌>>=◌, rest_at, cut_end, front_of, length_of, decoded, frame_by}
use Rattle.hw_link.proofs.FrameLaws.{bind_ok, chosen, placed, with_whole, with_length}
use Rattle.hw_meeting.specs.declared.frame.MeetingFrame.{MeetingFrame}
use Rattle.hw_meeting.specs.Frames.{meeting_of}
use Rattle.hw_meeting_node.specs.Frames.{Placed, frame_here, HasFrame, EndsIn}
use Rattle.hw_meeting_node.specs.declared.end.MeetEnd.{MeetEnd}
use Rattle.hw_meeting_node.specs.declared.end.MeetEnd.TheVariants as end
use Rattle.hw_meeting_node.specs.Sessions.{IsCutEnd, IsReadNoFurther, StopsReading}
use Rattle.hw_meeting_node.proofs.EndLaws.{IsOfBytes}

-- ---- more bytes behind a frame

bind_is : {A B : Type 0} (x : Result A SessionEnd) (f : A → Result B SessionEnd) (a : A) (y : Result B SessionEnd) → x ≡ Ok a → f a ≡ y → (x >>= f) ≡ y
bind_is x f a y e g = ap (λ z. z >>= f) e ∙ g

module _ (validators place : ℕ) (bytes more : List ℕ) where
  abbrev r : Rest
  r = rest_at place bytes

  abbrev longer : Rest
  longer = rest_at place (bytes ++ more)

  front_more : (n : ℕ) (x : List ℕ) → front_of n r ≡ Ok x → (front_of n longer ≡ Ok x) × (n ≤ length bytes)
  front_more n x is =
      let c = chosen (ltb (length bytes) n) (cut_end r) (Ok (take n bytes)) x is in
      let few : n ≤ length bytes = ltb-false _ _ c.0 in
      let enough : n ≤ length (bytes ++ more) = omega (arith, length-append bytes more) in
      (rw (le-ltb (length (bytes ++ more)) n enough, take-append-le n bytes more few) c.1, few)

  decoded_more : (x : Result MeetingFrame CodecError) (f : MeetingFrame) → decoded r x ≡ Ok f → decoded longer x ≡ Ok f
  decoded_more (Ok g) f is = is
  decoded_more (Err e) f is = absurd cc

  length_more : (front : List ℕ) (n : ℕ) → length_of r front ≡ Ok n → length_of longer front ≡ Ok n
  length_more front n is = is

  -- a frame is read from more bytes too, and those behind it are left
  frame_more : (f : Placed) (rest : Rest) → frame_here validators r ≡ Ok (f, rest) → (g : Placed) × (behind : Rest) × (frame_here validators longer ≡ Ok (g, behind)) × (length more ≤ length behind.bytes)
  unfolding frame_by
  frame_more f rest e =
      let front = bind_ok (front_of 4 r) (λ front. length_of r front >>= with_length (meeting_of validators) r) (f, rest) e in
      let n = bind_ok (length_of r front.0) (with_length (meeting_of validators) r) (f, rest) front.2 in
      let whole = bind_ok (front_of (4 + n.0) r) (with_whole (meeting_of validators) r n.0) (f, rest) n.2 in
      let frame = bind_ok (decoded r (meeting_of validators (drop 4 whole.0))) (placed (meeting_of validators) r n.0) (f, rest) whole.2 in
      let first = front_more 4 front.0 front.1 in
      let all = front_more (4 + n.0) whole.0 whole.1 in (
        record { at = place; frame = frame.0 },
        rest_at (place + (4 + n.0)) (drop (4 + n.0) (bytes ++ more)),
        bind_is (front_of 4 longer) (λ front. length_of longer front >>= with_length (meeting_of validators) longer) front.0 _ first.0 (
            bind_is (length_of longer front.0) (with_length (meeting_of validators) longer) n.0 _ (length_more front.0 n.0 n.1) (
            bind_is (front_of (4 + n.0) longer) (with_whole (meeting_of validators) longer n.0) whole.0 _ all.0 (
            bind_is (decoded longer (meeting_of validators (drop 4 whole.0))) (placed (meeting_of validators) longer n.0) frame.0 _ (decoded_more (meeting_of validators (drop 4 whole.0)) frame.0 frame.1) refl))),
        let few = all.1 in omega (arith, length-drop (4 + n.0) (bytes ++ more), length-append bytes more),
      )

-- ---- parts

module _ (validators : ℕ) where
  -- these bytes are no frame with bytes behind it
  abbrev pub NoneBehind : ℕ → List ℕ → Type 0
  NoneBehind place part = (f : Placed) (rest : Rest) → frame_here validators (rest_at place part) ≡ Ok (f, rest) → rest.bytes ≡ []

  pub frame_alone : (place : ℕ) (part : List ℕ) (f : MeetingFrame) → HasFrame validators place part f → NoneBehind place part
  frame_alone place part f has g rest is =
      ap (λ (y : Result (Placed × Rest) SessionEnd). elim y [ Ok z ↦ z.1.bytes | Err d ↦ [] ]) (sym is ∙ ap (λ (b : List ℕ). frame_here validators (rest_at place b)) (sym (append-nil part)) ∙ has [])

  pub none_there : (place : ℕ) (part : List ℕ) (e : SessionEnd) → EndsIn validators place part e → NoneBehind place part
  none_there place part e ends g rest is = absurd (let both : Err e ≡ Ok (g, rest) = sym ends ∙ is in cc)

  -- a part of them has no frame
  pub part_cut : (place : ℕ) (part front back : List ℕ) → part ≡ front ++ back → back ≢ [] → NoneBehind place part → (e : SessionEnd) × EndsIn validators place front e
  part_cut place part front [] is some none = absurd (some refl)
  part_cut place part front (x ∷ back) is some none = go (frame_here validators (rest_at place front)) refl
    where
      go : (y : Result (Placed × Rest) SessionEnd) → frame_here validators (rest_at place front) ≡ y → (e : SessionEnd) × EndsIn validators place front e
      go (Err e) ends = (e, ends)
      go (Ok (f, rest)) there =
          let (g, behind, whole, left) = frame_more validators place front (x ∷ back) f rest there in
          let nothing : length behind.bytes ≡ 0 = ap length (none g behind (ap (λ (b : List ℕ). frame_here validators (rest_at place b)) is ∙ whole)) in
          absurd (omega arith)

-- the end where there is no frame is that of bytes which are cut
pub cut_so_far : (r : Rest) (e : SessionEnd) → IsOfBytes r e → IsCutEnd e
cut_so_far r by.EndOfInput of = tt
cut_so_far r (by.BadFrame at) of = tt
cut_so_far r by.ByteLimit of = tt
cut_so_far r by.Done of = absurd of
cut_so_far r by.WrongInstance of = absurd of
cut_so_far r by.LinkFault of = absurd of
cut_so_far r by.AppendFault of = absurd of
cut_so_far r by.Clash of = absurd of
cut_so_far r by.OutOfMemory of = absurd of

-- ---- first parts of what was read

pub parted : (xs ys zs ws : List ℕ) → xs ++ ys ≡ zs ++ ws → ((a : List ℕ) × (zs ≡ xs ++ a) × (ys ≡ a ++ ws)) ⊎ ((x : ℕ) × (b : List ℕ) × (xs ≡ zs ++ x ∷ b))
parted [] ys zs ws is = inl (zs, refl, is)
parted (x ∷ xs) ys [] ws is = inr (x, xs, refl)
parted (x ∷ xs) ys (z ∷ zs) ws is =
    let head : x ≡ z = cc in
    let tail : xs ++ ys ≡ zs ++ ws = cc in
    elim (parted xs ys zs ws tail) [
      | inl p ↦ inl (p.0, ap (λ (y : ℕ). y ∷ zs) (sym head) ∙ ap (λ (l : List ℕ). x ∷ l) p.1, p.2)
      | inr p ↦ inr (p.0, p.1, ap (λ (l : List ℕ). x ∷ l) p.2 ∙ ap (λ (y : ℕ). y ∷ (zs ++ p.0 ∷ p.1)) head)
    ]

pub nothing_left : (first part : List ℕ) → [] ≡ first ++ part → part ≡ []
nothing_left [] part is = sym is
nothing_left (x ∷ first) part is = absurd cc

-- it is so of the first of these bytes, while there are more of them
abbrev pub IsSoBefore : (List ℕ → Type 0) → List ℕ → Type 0
IsSoBefore IsSo read = (first part : List ℕ) → read ≡ first ++ part → part ≢ [] → IsSo first

-- nothing was read
pub none_before : (IsSo : List ℕ → Type 0) → IsSoBefore IsSo []
none_before IsSo first part is some = absurd (some (nothing_left first part is))

-- what is read next
pub more_before : (IsSo : List ℕ → Type 0) (read part : List ℕ) → IsSoBefore IsSo read → ((front back : List ℕ) → part ≡ front ++ back → back ≢ [] → IsSo (read ++ front)) → IsSoBefore IsSo (read ++ part)
more_before IsSo read part so_far next first rest is some = elim (parted read part first rest is) [
  | inl p ↦ subst IsSo (sym p.1) (next p.0 rest p.2 some)
  | inr p ↦ so_far first (p.0 ∷ p.1) p.2 (λ e. cc)
]

-- nothing is read further than nothing
pub none_further : (ends : List ℕ → SessionEnd) → IsReadNoFurther ends []
none_further ends = none_before (λ (first : List ℕ). IsCutEnd (ends first))

-- what is read next is read no further
pub no_further : (ends : List ℕ → SessionEnd) (read part : List ℕ) → IsReadNoFurther ends read → ((front back : List ℕ) → part ≡ front ++ back → back ≢ [] → IsCutEnd (ends (read ++ front))) → IsReadNoFurther ends (read ++ part)
no_further ends read part so_far cut = more_before (λ (first : List ℕ). IsCutEnd (ends first)) read part so_far cut

pub stops_so : (e : MeetEnd) (ends : List ℕ → SessionEnd) (read : List ℕ) → IsReadNoFurther ends read → StopsReading e ends read
stops_so (end.Done refused) ends read none = none
stops_so end.EndOfInput ends read none = none
stops_so end.WrongInstance ends read none = none
stops_so (end.BadFrame at) ends read none = none
stops_so end.LinkFault ends read none = none
stops_so end.AppendFault ends read none = none
stops_so end.ByteLimit ends read none = none
stops_so end.Clash ends read none = none
stops_so end.OutOfMemory ends read none = tt
