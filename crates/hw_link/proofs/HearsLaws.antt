-- What a read of a link says.
use Rattle.std.proofs.Common.{◌≡◌, ℕ, ◌+◌, ◌<◌, ◌≤◌, Bool, true, false, cond, inl, inr, List, [], ◌++◌, length, Option, Result, Ok, Err, refl, sym, ap, subst, ◌∙◌, arith, length-append}
use Rattle.std.specs.Prelude.{nat_le, ◌==◌, ◌⊎◌, MatchResult}
use Rattle.std.proofs.lemmas.Bool.{leb-false, cases_lt}
use Rattle.hw_io.specs.declared.outside.IoFault.{IoFault}
use Rattle.hw_io.specs.declared.outside.IoFault.TheVariants.{Failed, OutOfMemory as NoMemory}
use Rattle.hw_io.specs.Doors.{Session}
use Rattle.hw_io.specs.Faults.{raised}
use Rattle.hw_types.specs.declared.answers.CodecError.{CodecError}
use Rattle.hw_types.specs.Reading.{Rest, frame_of}
use Rattle.hw_link.specs.declared.end.SessionEnd.{SessionEnd}
use Rattle.hw_link.specs.declared.end.SessionEnd.TheVariants as end
use Rattle.hw_link.specs.declared.read.Heard.{Heard}
use Rattle.hw_link.specs.Frames.{PlacedOf, Placed, rest_at, byte_limit, cut_end, frame_by, body_here}
use Rattle.hw_link.specs.UnderWay.{HasBy, EndsBy, IsRefusedBy}
use Rattle.hw_link.specs.Links.{after_part, end_of_fault, has_failed, is_link_fault, IsLinkCounted}
use Rattle.hw_link.specs.Heard.{SaysBy, IsEndCountedBy, HearsBy, Hears, IsHeard, IsLength, IsFrontOf, IsFront, IsBody, IsDecoded}
use Rattle.hw_link.proofs.FrameReadLaws.{frame_by-is_read, bad_body, bad_length, refused_ends, body_ends, frame_is}
use Rattle.hw_link.proofs.LinkLaws.{after_parts}

-- a fault is the same whatever the value would be
pub failed_alike : (A B : Type 0) (fault : IoFault) → has_failed {T = A} (Err fault) ≡ has_failed {T = B} (Err fault)
failed_alike A B Failed = refl
failed_alike A B NoMemory = refl

-- ---- ends by a cut

module _ {F T : Type 0} (here : Rest → Result (PlacedOf F × Rest) SessionEnd) (Whole : ℕ → List ℕ → T → Type 0) (place : ℕ) (before part : List ℕ) (old new : Option (List Session)) (ends_old ends_new : ℕ) (within : place + length (before ++ part) ≤ byte_limit) where
  abbrev bytes : List ℕ
  bytes = before ++ part

  abbrev HearsEnd : SessionEnd → Type 0
  HearsEnd e = HearsBy here Whole place before old new ends_old ends_new (Err e)

  pub hears_cut : new ≡ after_part part [] false old → EndsBy here place bytes (cut_end (rest_at place bytes)) → ((place + length bytes < byte_limit) → ends_new ≡ raised ends_old) → HearsEnd (cut_end (rest_at place bytes))
  hears_cut heard ends rose = go (nat_le byte_limit (place + length bytes)) refl (length bytes == 0) ends
    where
      rose_if : nat_le byte_limit (place + length bytes) ≡ false → ends_new ≡ raised ends_old
      rose_if below = rose (leb-false byte_limit (place + length bytes) below)

      go : (b : Bool) → nat_le byte_limit (place + length bytes) ≡ b → (c : Bool) → EndsBy here place bytes (cond b end.ByteLimit (cond c end.EndOfInput (end.BadFrame place))) → HearsEnd (cond b end.ByteLimit (cond c end.EndOfInput (end.BadFrame place)))
      go true is c e = record { part = part; within = within; heard = heard; says = e; ended = tt }
      go false is true e = record { part = part; within = within; heard = heard; says = e; ended = rose_if is }
      go false is false e = record { part = part; within = within; heard = heard; says = e; ended = inl (rose_if is) }

  pub hears_fault : (fault : IoFault) → new ≡ after_part part [] (has_failed {T = Unit {0}} (Err fault)) old → EndsBy here place bytes (cut_end (rest_at place bytes)) → HearsEnd (end_of_fault fault)
  hears_fault Failed heard ends = record { part = part; within = within; heard = heard; says = ends; ended = tt }
  hears_fault NoMemory heard ends = record { part = part; within = within; heard = heard; says = tt; ended = tt }

  pub hears_refused : new ≡ after_part part [] false old → IsRefusedBy here place bytes (end.BadFrame place) → HearsEnd (end.BadFrame place)
  hears_refused heard refused = record { part = part; within = within; heard = heard; says = refused_ends here place bytes (end.BadFrame place) refused; ended = inr refused }

  pub hears_nothing : new ≡ after_part part [] false old → HearsEnd end.OutOfMemory
  hears_nothing heard = record { part = part; within = within; heard = heard; says = tt; ended = tt }

  pub hears_whole : (x : T) → new ≡ after_part part [] false old → Whole place bytes x → ends_new ≡ ends_old → HearsBy here Whole place before old new ends_old ends_new (Ok x)
  hears_whole x heard whole same = record { part = part; within = within; heard = heard; says = whole; ended = same }

-- ---- a length

pub hears_front : (place : ℕ) (front : List ℕ) (old new : Option (List Session)) (ends_old ends_new : ℕ) (r : Result (List ℕ) SessionEnd) → IsFront place front r → length front ≡ 4 → place + 4 ≤ byte_limit
    → new ≡ after_part front [] false old → ends_new ≡ ends_old → HearsBy body_here IsFrontOf place [] old new ends_old ends_new r
hears_front place front old new ends_old ends_new (Ok x) is four within heard same =
    hears_whole body_here IsFrontOf place [] front old new ends_old ends_new (omega arith) x heard (sym is.0, subst IsLength (sym is.0) is.1) same
hears_front place front old new ends_old ends_new (Err e) is four within heard same =
    subst (λ (d : SessionEnd). HearsBy body_here IsFrontOf place [] old new ends_old ends_new (Err d)) (sym is.0)
    (hears_refused body_here IsFrontOf place [] front old new ends_old ends_new (omega arith) heard (bad_length Ok place front four is.1))

-- ---- both

pub hears_then : (place : ℕ) (front : List ℕ) (old then new : Option (List Session)) (ends_old ends_then ends_new : ℕ) (r : Result (List ℕ) SessionEnd)
    → HearsBy body_here IsFrontOf place [] old then ends_old ends_then (Ok front) → HearsBy body_here IsBody place front then new ends_then ends_new r → HearsBy body_here IsBody place [] old new ends_old ends_new r
hears_then place front old then new ends_old ends_then ends_new r first second = record {
  part = front ++ second.part;
  within = second.within;
  heard =
      second.heard
      ∙ ap (after_part second.part [] (is_link_fault r)) (first.heard ∙ ap (λ p. after_part p [] false old) first.says.0)
      ∙ after_parts front second.part [] [] (is_link_fault r) old;
  says = second.says;
  ended = subst (λ (n : ℕ). IsEndCountedBy body_here n ends_new place (front ++ second.part) r) first.ended second.ended;
}

-- ---- what the bytes spell

module _ {F T : Type 0} (spelled : List ℕ → Result F CodecError) (Whole : ℕ → List ℕ → T → Type 0) (place : ℕ) (old new : Option (List Session)) (ends_old ends_new : ℕ) where
  -- where no bytes were heard, no frame was
  pub hears_end : (A : Type 0) (First : ℕ → List ℕ → A → Type 0) (e : SessionEnd) → HearsBy body_here First place [] old new ends_old ends_new (Err e) → HearsBy (frame_by spelled) Whole place [] old new ends_old ends_new (Err e)
  hears_end A First e h = go e h.heard h.says h.ended
    where
      go : (e : SessionEnd) → new ≡ after_part h.part [] (is_link_fault {T = A} (Err e)) old → SaysBy body_here First place h.part (Err e) → IsEndCountedBy {T = A} body_here ends_old ends_new place h.part (Err e)
          → HearsBy (frame_by spelled) Whole place [] old new ends_old ends_new (Err e)
      go end.Done heard says ended = record { part = h.part; within = h.within; heard = heard; says = body_ends spelled (rest_at place h.part) end.Done says; ended = ended }
      go end.EndOfInput heard says ended = record { part = h.part; within = h.within; heard = heard; says = body_ends spelled (rest_at place h.part) end.EndOfInput says; ended = ended }
      go end.WrongInstance heard says ended = record { part = h.part; within = h.within; heard = heard; says = body_ends spelled (rest_at place h.part) end.WrongInstance says; ended = ended }
      go (end.BadFrame at) heard says (inl rose) = record { part = h.part; within = h.within; heard = heard; says = body_ends spelled (rest_at place h.part) (end.BadFrame at) says; ended = inl rose }
      go (end.BadFrame at) heard says (inr refused) = record { part = h.part; within = h.within; heard = heard; says = body_ends spelled (rest_at place h.part) (end.BadFrame at) says; ended = inr (λ more. body_ends spelled (rest_at place (h.part ++ more)) (end.BadFrame at) (refused more)) }
      go end.LinkFault heard says ended = record { part = h.part; within = h.within; heard = heard; says = body_ends spelled (rest_at place h.part) (cut_end (rest_at place h.part)) says; ended = ended }
      go end.AppendFault heard says ended = record { part = h.part; within = h.within; heard = heard; says = body_ends spelled (rest_at place h.part) end.AppendFault says; ended = ended }
      go end.ByteLimit heard says ended = record { part = h.part; within = h.within; heard = heard; says = body_ends spelled (rest_at place h.part) end.ByteLimit says; ended = ended }
      go end.Clash heard says ended = record { part = h.part; within = h.within; heard = heard; says = body_ends spelled (rest_at place h.part) end.Clash says; ended = ended }
      go end.OutOfMemory heard says ended = record { part = h.part; within = h.within; heard = heard; says = tt; ended = tt }

  -- a frame was heard where they spell one
  pub hears_decoded : (frame : T → F) (next : T → ℕ) → ((part : List ℕ) (x : T) → HasBy (frame_by spelled) place part (frame x) → next x ≡ place + length part → Whole place part x)
      → (body : List ℕ) (r : Result T SessionEnd) → MatchResult r (λ x. (spelled body ≡ Ok (frame x)) × (next x ≡ place + (4 + length body))) (λ e. (e ≡ end.OutOfMemory) ⊎ ((e ≡ end.BadFrame place) × (c : CodecError) × (spelled body ≡ Err c)))
      → HearsBy body_here IsBody place [] old new ends_old ends_new (Ok body) → HearsBy (frame_by spelled) Whole place [] old new ends_old ends_new r
  hears_decoded frame next whole body (Ok x) is h =
      let b = h.says in
      let all : length h.part ≡ 4 + length body = ap length b.split ∙ length-append b.front body ∙ ap (λ n. n + length body) b.is_length.four in
      let has = subst (λ (p : List ℕ). HasBy (frame_by spelled) place p (frame x)) (sym b.split) (frame_by-is_read spelled place b.front body (frame x) b.is_length b.size is.0) in
      hears_whole (frame_by spelled) Whole place [] h.part old new ends_old ends_new h.within x h.heard (whole h.part x has (is.1 ∙ ap (λ n. place + n) (sym all))) h.ended
  hears_decoded frame next whole body (Err e) (inl want) h =
      subst (λ (d : SessionEnd). HearsBy (frame_by spelled) Whole place [] old new ends_old ends_new (Err d)) (sym want)
      (hears_nothing (frame_by spelled) Whole place [] h.part old new ends_old ends_new h.within h.heard)
  hears_decoded frame next whole body (Err e) (inr bad) h =
      let b = h.says in
      subst (λ (d : SessionEnd). HearsBy (frame_by spelled) Whole place [] old new ends_old ends_new (Err d)) (sym bad.0)
      (hears_refused (frame_by spelled) Whole place [] h.part old new ends_old ends_new h.within h.heard
      (subst (λ (p : List ℕ). IsRefusedBy (frame_by spelled) place p (end.BadFrame place)) (sym b.split) (bad_body spelled place b.front body bad.1 b.is_length b.size bad.2)))

-- ---- a frame

pub hears_no_frame : (place : ℕ) (old new : Option (List Session)) (ends_old ends_new : ℕ) (e : SessionEnd) → HearsBy body_here IsBody place [] old new ends_old ends_new (Err e) → Hears IsHeard place [] old new ends_old ends_new (Err e)
hears_no_frame place old new ends_old ends_new e h =
    subst (λ (here : Rest → Result (Placed × Rest) SessionEnd). HearsBy here IsHeard place [] old new ends_old ends_new (Err e)) (sym frame_is)
    (hears_end frame_of IsHeard place old new ends_old ends_new (List ℕ) IsBody e h)

pub hears_frame : (place : ℕ) (old new : Option (List Session)) (ends_old ends_new : ℕ) (body : List ℕ) (r : Result Heard SessionEnd) → IsDecoded place body r → HearsBy body_here IsBody place [] old new ends_old ends_new (Ok body) → Hears IsHeard place [] old new ends_old ends_new r
hears_frame place old new ends_old ends_new body r is h =
    subst (λ (here : Rest → Result (Placed × Rest) SessionEnd). HearsBy here IsHeard place [] old new ends_old ends_new r) (sym frame_is)
    (hears_decoded frame_of IsHeard place old new ends_old ends_new (λ heard. heard.frame) (λ heard. heard.next) whole body r is h)
  where
    whole : (part : List ℕ) (x : Heard) → HasBy (frame_by frame_of) place part x.frame → x.next ≡ place + length part → IsHeard place part x
    whole part x has next = (subst (λ (here : Rest → Result (Placed × Rest) SessionEnd). HasBy here place part x.frame) (sym frame_is) has, next)

-- ---- causes

pub cut_uncounted : (T : Type 0) (place : ℕ) (part : List ℕ) (before now : ℕ) → now ≡ before → IsLinkCounted {T = T} before now (Err (cut_end (rest_at place part)))
cut_uncounted T place part before now same = go (nat_le byte_limit (place + length part)) (length part == 0)
  where
    go : (b c : Bool) → IsLinkCounted {T = T} before now (Err (cond b end.ByteLimit (cond c end.EndOfInput (end.BadFrame place))))
    go true c = same
    go false true = same
    go false false = same

-- ---- limits

-- fewer bytes came than there was room for, where the limit isn't reached
pub not_at_limit : (place came room n : ℕ) → came ≤ room → (room < n → place + room ≡ byte_limit) → came < n → place + came < byte_limit → came < room
not_at_limit place came room n most reached few below = elim (cases_lt came room) [
  | inl less ↦ less
  | inr all ↦ absurd (let at = reached (omega arith) in omega arith)
]
