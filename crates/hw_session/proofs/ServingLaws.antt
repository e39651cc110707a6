-- A session that is served frame by frame.
use Rattle.std.specs.Prelude.{◌-◌, ◌==◌, ◌||◌, nat_le, nat_lt}
use Rattle.std.proofs.Common.{◌≡◌, ◌⊎◌, ℕ, zero, suc, ◌+◌, ◌≤◌, Bool, true, false, cond, List, [], ◌∷◌, ◌++◌, length, take, drop, Option, Some, None, Result, Ok, Err, inl, inr, refl, sym, ap, subst, ◌∙◌, arith, length-append}
use Rattle.std.proofs.lemmas.List.{append_assoc, append-nil, take-append-le, take_all}
use Rattle.std.proofs.lemmas.List.Concat.{flat_map-append}
use Rattle.std.proofs.Math.Seq.{take-append-add}
use Rattle.std.proofs.lemmas.Bool.{cases_lt, le-leb, leb-true}
use Rattle.hw_types.specs.declared.unit.Vertex.{Vertex}
use Rattle.hw_types.specs.declared.answers.Frame.{Frame}
use Rattle.hw_types.specs.declared.answers.Frame.TheVariants as frame
use Rattle.hw_types.specs.declared.answers.Receipt.{Receipt}
use Rattle.hw_types.specs.declared.answers.Cause.{Cause}
use Rattle.hw_types.specs.Graph.{digest_eq}
use Rattle.hw_types.specs.Spelling.{instance_of}
use Rattle.hw_types.specs.Reading.{Rest, frame_of}
use Rattle.hw_types.specs.Limits.{is_within}
use Rattle.hw_types.specs.declared.answers.CodecError.{CodecError}
use Rattle.std.specs.Int.{w32, from_be_bytes}
use Rattle.std.specs.Option.{option_map}
use Rattle.hw_io.specs.declared.outside.IoFault.{IoFault}
use Rattle.hw_io.specs.declared.outside.IoFault.TheVariants.{Failed, OutOfMemory as NoMemory}
use Rattle.hw_io.specs.Doors.{Session, Ask, AsksMore, fresh_session, with_failure, with_last, sessions_after}
use Rattle.hw_io.specs.Faults.{raised, HasCause}
use Rattle.hw_link.specs.declared.end.SessionEnd.{SessionEnd}
use Rattle.hw_link.specs.declared.end.SessionEnd.TheVariants as end
use Rattle.hw_link.specs.declared.read.Heard.{Heard}
use Rattle.hw_link.specs.Frames.{◌>>=◌, Placed, sent_bytes, rest_at, front_of, length_of, decoded, frame_here, frames_in, cut_end, byte_limit}
use Rattle.hw_link.specs.Talk.{Reaction, Talk, goes_on, ends, talk, said_bytes, before_last, IsPrefixOf, IsWritten}
use Rattle.hw_link.specs.Links.{gone_on, after_part, is_link_fault, end_of_fault, IsLinkCounted}
use Rattle.hw_link.specs.UnderWay.{HasFrame, EndsIn, IsRefused, HasHeard, talk_from, behind_said, placed_behind}
use Rattle.hw_link.specs.Asked.{IsAskedInside, IsAskedBehind}
use Rattle.hw_link.specs.Heard.{Hears, Says, IsHeard, IsEndCounted}
use Rattle.hw_link.specs.Told.{door_told}
use Rattle.hw_link.proofs.AskLaws.{next_asked}
use Rattle.hw_link.proofs.HeardLaws.{reads_frame_by_frame}
use Rattle.hw_link.proofs.LinkLaws.{after_nothing, after_parts}
use Rattle.hw_session.specs.Node.{NodeState}
use Rattle.hw_session.specs.Make.{with_entry}
use Rattle.hw_session.specs.Grows.{Logs, LogsAllBut}
use Rattle.hw_session.specs.Accept.{given_to, taken_by}
use Rattle.hw_session.specs.Serving.{is_clash, answer_to_vertex, serve_first, serve_frame, serve_step, served, served_said}
use Rattle.hw_session.specs.Handling.{Took, Stayed, WasCut, Reacts, Quits, Handles, IsLogCounted}
use Rattle.hw_session.specs.Sessions.{EndsAs, IsEndOf, IsCutEnd, IsReadNoFurther, IsAnswered, IsSaidSoFar, StandsCut, Leaves, Serves, ServesThere, ServesPeer, ServesNone}
use Rattle.hw_session.specs.Standing.{standing}
use Rattle.hw_session.proofs.GrowsLaws.{logs_nothing, logs_then, logs_but}
use Rattle.hw_session.proofs.FurtherLaws.{NoneBehind, frame_alone, none_there, part_cut, none_further, no_further, stops_so}

-- ---- what was said

pub before_last_one : (said : List (List Frame)) (x : List Frame) → before_last (said ++ x ∷ []) ≡ said
before_last_one said x =
    let n : length (said ++ x ∷ []) - 1 ≡ length said = omega (arith, length-append said (x ∷ [])) in
    ap (λ (k : ℕ). take k (said ++ x ∷ [])) n ∙ take-append-le (length said) said (x ∷ []) (omega arith) ∙ take_all (length said) said (omega arith)

pub said_more : (said : List (List Frame)) (x : List Frame) → said_bytes (said ++ x ∷ []) ≡ said_bytes said ++ sent_bytes x
said_more said x = flat_map-append sent_bytes said (x ∷ []) ∙ ap (λ (b : List ℕ). said_bytes said ++ b) (append-nil (sent_bytes x))

fewer_said : (k : ℕ) (said : List (List Frame)) → length (said_bytes (take k said)) ≤ length (said_bytes said)
fewer_said zero [] = omega arith
fewer_said (suc k) [] = omega arith
fewer_said zero (x ∷ said) = omega arith
fewer_said (suc k) (x ∷ said) =
    let fewer = fewer_said k said in
    let all : length (sent_bytes x ++ said_bytes said) ≡ length (sent_bytes x) + length (said_bytes said) = length-append (sent_bytes x) (said_bytes said) in
    let some : length (sent_bytes x ++ said_bytes (take k said)) ≡ length (sent_bytes x) + length (said_bytes (take k said)) = length-append (sent_bytes x) (said_bytes (take k said)) in
    omega arith

pub before_less : (said : List (List Frame)) → length (said_bytes (before_last said)) ≤ length (said_bytes said)
before_less said = fewer_said (length said - 1) said

-- ---- how far a session came

-- the talk of a node that serves
abbrev Whole : NodeState → List ℕ → NodeState → List (List Frame) → SessionEnd → Type 0
Whole n bytes m said e = served n bytes ≡ record { state = m; said = said; end = e }

-- what was read so far was read of the session that is there, the node and its log stand behind it, and all was answered
pub record IsServing (n m : NodeState) (place : ℕ) (tells : Bool) (held_old held_now : List ℕ → Option (List ℕ)) (old now : Option (List Session)) : Type 0 where
  pub read : List ℕ
  pub said : List (List Frame)
  pub place_is : place ≡ length read
  pub within : length read ≤ byte_limit
  pub heard : HasHeard [] serve_step n read said m
  pub logs : Logs n m tells held_old held_now
  pub told : now ≡ after_part read (said_bytes said) false old
  pub no_further : IsReadNoFurther (λ (bytes : List ℕ). (served n bytes).end) read

-- before the first byte
pub serving_begins : (n : NodeState) (tells : Bool) (held : List ℕ → Option (List ℕ)) (old : Option (List Session)) → IsServing n n 0 tells held held old old
serving_begins n tells held old = record {
  read = [];
  said = [] ∷ [];
  place_is = refl;
  within = omega arith;
  heard = (reads_frame_by_frame NodeState).begins serve_step [] n;
  logs = logs_nothing tells n held held (λ t name. refl);
  told = sym (after_nothing old);
  no_further = none_further (λ (bytes : List ℕ). (served n bytes).end);
}

-- ---- what is known at a place

here_is : (m : NodeState) (k : ℕ) → talk_from serve_step m (rest_at k []) ≡ record { state = m; said = []; end = cut_end (rest_at k []) }
unfolding talk frames_in
here_is m k = refl

heard_here : (n : NodeState) (read : List ℕ) (said : List (List Frame)) (m : NodeState) → HasHeard [] serve_step n read said m → length read ≤ byte_limit → Whole n read m said (cut_end (rest_at (length read) []))
heard_here n read said m heard few =
    let under = heard [] (subst (λ (r : List ℕ). length r ≤ byte_limit) (sym (append-nil read)) few) in
    ap (served n) (sym (append-nil read)) ∙ under.says ∙ ap (behind_said said) (here_is m (length read))
    ∙ ap (λ (s : List (List Frame)). record { state = m; said = s; end = cut_end (rest_at (length read) []) }) (append-nil said)

-- whatever was read, the first part of what was said stands first
heard_first : (n : NodeState) (read : List ℕ) (said : List (List Frame)) (m : NodeState) → HasHeard [] serve_step n read said m → (part : List ℕ) → length (read ++ part) ≤ byte_limit
    → (more : List (List Frame)) × ((served n (read ++ part)).said ≡ said ++ more)
heard_first n read said m heard part few = ((talk_from serve_step m (rest_at (length read) part)).said, ap (λ (t : Talk NodeState). t.said) (heard part few).says)

module _ (n m : NodeState) (read : List ℕ) (said : List (List Frame)) (heard : HasHeard [] serve_step n read said m) (part : List ℕ) (f : Frame) (has : HasFrame (length read) part f) where
  abbrev r : Reaction NodeState
  r = serve_step m (placed_behind read f)

  leads : r.end ≡ None → HasHeard [] serve_step n (read ++ part) (said ++ r.says ∷ []) r.state
  leads none = (reads_frame_by_frame NodeState).leads_on serve_step [] n read said m part f heard has none

  stops : (e : SessionEnd) → r.end ≡ Some e → (more : List ℕ) → length (read ++ part ++ more) ≤ byte_limit → Whole n (read ++ part ++ more) r.state (said ++ r.says ∷ []) e
  stops e some more few =
      subst (λ (bytes : List ℕ). Whole n bytes r.state (said ++ r.says ∷ []) e) (sym (append_assoc read part more))
      ((reads_frame_by_frame NodeState).frame_ends serve_step [] n read said m part f e heard has some more (subst (λ (bytes : List ℕ). length bytes ≤ byte_limit) (append_assoc read part more) few))

  stops_here : (e : SessionEnd) → r.end ≡ Some e → length (read ++ part) ≤ byte_limit → Whole n (read ++ part) r.state (said ++ r.says ∷ []) e
  stops_here e some few =
      subst (λ (bytes : List ℕ). Whole n bytes r.state (said ++ r.says ∷ []) e) (append-nil (read ++ part))
      (stops e some [] (subst (λ (bytes : List ℕ). length bytes ≤ byte_limit) (sym (append-nil (read ++ part))) few))

  -- whether the frame ends the session or not
  behind : (o : Option SessionEnd) → r.end ≡ o → length (read ++ part) ≤ byte_limit → (e : SessionEnd) × Whole n (read ++ part) r.state (said ++ r.says ∷ []) e
  behind None is few = (cut_end (rest_at (length (read ++ part)) []), heard_here n (read ++ part) (said ++ r.says ∷ []) r.state (leads is) few)
  behind (Some e) is few = (e, stops_here e is few)

-- ---- the door

pub told_read : (read part written : List ℕ) (failed : Bool) (old now new : Option (List Session)) → now ≡ after_part read written false old → new ≡ after_part part [] failed now → new ≡ after_part (read ++ part) written failed old
told_read read part written failed old now new first then =
    then ∙ ap (after_part part [] failed) first ∙ after_parts read part written [] failed old ∙ ap (λ (w : List ℕ). after_part (read ++ part) w failed old) (append-nil written)

pub told_then : (read part written sent : List ℕ) (failed : Bool) (old now new : Option (List Session)) → now ≡ after_part read written false old → new ≡ after_part [] sent failed (after_part part [] false now)
    → new ≡ after_part (read ++ part) (written ++ sent) failed old
told_then read part written sent failed old now new first then =
    then ∙ ap (after_part [] sent failed) (told_read read part written false old now (after_part part [] false now) first refl)
    ∙ after_parts (read ++ part) [] written sent failed old ∙ ap (λ (b : List ℕ). after_part b (written ++ sent) failed old) (append-nil (read ++ part))

pub fault_alike : (A B : Type 0) (e : SessionEnd) → is_link_fault {T = A} (Err e) ≡ is_link_fault {T = B} (Err e)
fault_alike A B end.Done = refl
fault_alike A B end.EndOfInput = refl
fault_alike A B end.WrongInstance = refl
fault_alike A B (end.BadFrame at) = refl
fault_alike A B end.LinkFault = refl
fault_alike A B end.AppendFault = refl
fault_alike A B end.ByteLimit = refl
fault_alike A B end.Clash = refl
fault_alike A B end.OutOfMemory = refl

-- ---- how a frame ends a session

-- a frame that is served ends a session so, or not at all
abbrev pub IsOfFrame : SessionEnd → Type 0
IsOfFrame end.Done = Unit {0}
IsOfFrame end.WrongInstance = Unit {0}
IsOfFrame (end.BadFrame at) = Unit {0}
IsOfFrame end.Clash = Unit {0}
IsOfFrame e = ⊥

pub some_of : (x e : SessionEnd) → IsOfFrame x → Some x ≡ Some e → IsOfFrame e
some_of x e of is = let same : x ≡ e = cc in subst IsOfFrame same of

first_ends : (m : NodeState) (f : Frame) (e : SessionEnd) → (serve_first m f).end ≡ Some e → IsOfFrame e
first_ends m (frame.Hello instance) e is = go (digest_eq instance (instance_of m.core.config)) is
  where
    go : (b : Bool) → (cond b (goes_on m (frame.Hello (instance_of m.core.config) ∷ [])) (ends m [] end.WrongInstance)).end ≡ Some e → IsOfFrame e
    go true h = absurd cc
    go false h = some_of end.WrongInstance e tt h
first_ends m (frame.Vertex v) e is = some_of (end.BadFrame 0) e tt is
first_ends m (frame.Have place) e is = some_of (end.BadFrame 0) e tt is
first_ends m (frame.Want needs) e is = some_of (end.BadFrame 0) e tt is
first_ends m frame.Done e is = some_of (end.BadFrame 0) e tt is
first_ends m (frame.Missing need) e is = some_of (end.BadFrame 0) e tt is

vertex_ends : (m : NodeState) (v : Vertex) (a : Result Receipt Cause) (e : SessionEnd) → (answer_to_vertex m v a).end ≡ Some e → IsOfFrame e
vertex_ends m v (Ok r) e is = absurd cc
vertex_ends m v (Err c) e is = go (is_clash c) is
  where
    go : (b : Bool) → (cond b (ends m [] end.Clash) (goes_on m (frame.Want [] ∷ []))).end ≡ Some e → IsOfFrame e
    go true h = some_of end.Clash e tt h
    go false h = absurd cc

frame_ends : (m : NodeState) (at : ℕ) (f : Frame) (e : SessionEnd) → (serve_frame m at f).end ≡ Some e → IsOfFrame e
frame_ends m at (frame.Hello instance) e is = some_of (end.BadFrame at) e tt is
frame_ends m at (frame.Vertex v) e is = vertex_ends (taken_by m v (given_to m v)) v (given_to m v) e is
frame_ends m at (frame.Have place) e is = absurd cc
frame_ends m at (frame.Want needs) e is = absurd cc
frame_ends m at (frame.Missing need) e is = absurd cc
frame_ends m at frame.Done e is = some_of end.Done e tt is

step_ends : (m : NodeState) (f : Placed) (e : SessionEnd) → (serve_step m f).end ≡ Some e → IsOfFrame e
unfolding serve_step
step_ends m f e is = go (f.at == 0) is
  where
    go : (b : Bool) → (cond b (serve_first m f.frame) (serve_frame m f.at f.frame)).end ≡ Some e → IsOfFrame e
    go true h = first_ends m f.frame e h
    go false h = frame_ends m f.at f.frame e h

-- ---- how a session ends where there is no frame

-- it ends so by what is there
abbrev pub IsOfBytes : Rest → SessionEnd → Type 0
IsOfBytes r end.EndOfInput = Unit {0}
IsOfBytes r (end.BadFrame at) = Unit {0}
IsOfBytes r end.ByteLimit = byte_limit ≤ r.place + length r.bytes
IsOfBytes r e = ⊥

-- if it ends, it ends so
abbrev pub EndsSo : {A : Type 0} → Rest → Result A SessionEnd → Type 0
EndsSo r (Ok x) = Unit {0}
EndsSo r (Err e) = IsOfBytes r e

then_so : {A B : Type 0} (r : Rest) (x : Result A SessionEnd) (f : A → Result B SessionEnd) → EndsSo r x → ((a : A) → EndsSo r (f a)) → EndsSo r (x >>= f)
then_so r (Ok a) f first others = others a
then_so r (Err e) f first others = first

cut_so : (r : Rest) → IsOfBytes r (cut_end r)
cut_so r = go (nat_le byte_limit (r.place + length r.bytes)) refl (length r.bytes == 0)
  where
    go : (b : Bool) → nat_le byte_limit (r.place + length r.bytes) ≡ b → (c : Bool) → IsOfBytes r (cond b end.ByteLimit (cond c end.EndOfInput (end.BadFrame r.place)))
    go true is c = leb-true byte_limit (r.place + length r.bytes) is
    go false is true = tt
    go false is false = tt

front_so : (n : ℕ) (r : Rest) → EndsSo r (front_of n r)
front_so n r = go (nat_lt (length r.bytes) n)
  where
    go : (b : Bool) → EndsSo {A = List ℕ} r (cond b (Err (cut_end r)) (Ok (take n r.bytes)))
    go true = cut_so r
    go false = tt

length_so : (r : Rest) (front : List ℕ) → EndsSo r (length_of r front)
length_so r front = go (is_within 1 1048576 (from_be_bytes w32 front))
  where
    go : (b : Bool) → EndsSo {A = ℕ} r (cond b (Ok (from_be_bytes w32 front)) (Err (end.BadFrame r.place)))
    go true = tt
    go false = tt

decoded_so : (r : Rest) (x : Result Frame CodecError) → EndsSo r (decoded r x)
decoded_so r (Ok f) = tt
decoded_so r (Err e) = tt

here_so : (r : Rest) → EndsSo r (frame_here r)
unfolding frame_here
here_so r =
    then_so r (front_of 4 r) _ (front_so 4 r) (λ front.
    then_so r (length_of r front) _ (length_so r front) (λ n.
    then_so r (front_of (4 + n) r) _ (front_so (4 + n) r) (λ whole.
    then_so r (decoded r (frame_of (drop 4 whole))) _ (decoded_so r (frame_of (drop 4 whole))) (λ f. tt))))

pub no_frame_so : (place : ℕ) (part : List ℕ) (e : SessionEnd) → EndsIn place part e → IsOfBytes (rest_at place part) e
no_frame_so place part e ends = subst (λ (x : Result (Placed × Rest) SessionEnd). EndsSo (rest_at place part) x) ends (here_so (rest_at place part))

-- such an end is that of bytes which are cut
pub cut_so_far : (r : Rest) (e : SessionEnd) → IsOfBytes r e → IsCutEnd e
cut_so_far r end.EndOfInput of = tt
cut_so_far r (end.BadFrame at) of = tt
cut_so_far r end.ByteLimit of = tt
cut_so_far r end.Done of = absurd of
cut_so_far r end.WrongInstance of = absurd of
cut_so_far r end.LinkFault of = absurd of
cut_so_far r end.AppendFault of = absurd of
cut_so_far r end.Clash of = absurd of
cut_so_far r end.OutOfMemory of = absurd of

-- bytes that are no more than a frame are read no further than it
reads_part : (n m : NodeState) (read : List ℕ) (said : List (List Frame)) → HasHeard [] serve_step n read said m → (part : List ℕ) → NoneBehind (length read) part → length (read ++ part) ≤ byte_limit
    → IsReadNoFurther (λ (bytes : List ℕ). (served n bytes).end) read → IsReadNoFurther (λ (bytes : List ℕ). (served n bytes).end) (read ++ part)
reads_part n m read said heard part none few so_far = no_further (λ (bytes : List ℕ). (served n bytes).end) read part so_far (λ front back is some.
    let (e, ends) = part_cut (length read) part front back is some none in
    let all : length (read ++ (front ++ back)) ≤ byte_limit = subst (λ (p : List ℕ). length (read ++ p) ≤ byte_limit) is few in
    let fewer : length (read ++ front) ≤ byte_limit = omega (arith, length-append read (front ++ back), length-append front back, length-append read front) in
    subst IsCutEnd (sym (ap (λ (t : Talk NodeState). t.end) ((reads_frame_by_frame NodeState).no_frame_ends serve_step [] n read said m front e heard ends fewer))) (cut_so_far (rest_at (length read) front) e (no_frame_so (length read) front e ends)))

-- ---- prefixes

pub prefix_of_more : (bytes : List ℕ) (said more : List (List Frame)) → IsPrefixOf bytes (said_bytes said) → IsPrefixOf bytes (said_bytes (said ++ more))
prefix_of_more bytes said more (k, is) =
    let joined : said_bytes (said ++ more) ≡ said_bytes said ++ said_bytes more = flat_map-append sent_bytes said more in
    elim (cases_lt k (length (said_bytes said))) [
      | inl less ↦ (k, is ∙ sym (ap (take k) joined ∙ take-append-le k (said_bytes said) (said_bytes more) (omega arith)))
      | inr all ↦ (length (said_bytes said), is ∙ take_all k (said_bytes said) all ∙ sym (ap (take (length (said_bytes said))) joined ∙ take-append-le (length (said_bytes said)) (said_bytes said) (said_bytes more) (omega arith) ∙ take_all (length (said_bytes said)) (said_bytes said) (omega arith)))
    ]

-- a first part of the last answer, behind all others
pub prefix_of_last : (said : List (List Frame)) (says : List Frame) (part : List ℕ) → IsPrefixOf part (sent_bytes says) → IsPrefixOf (said_bytes said ++ part) (said_bytes (said ++ says ∷ []))
prefix_of_last said says part (k, is) =
    (length (said_bytes said) + k, ap (λ (p : List ℕ). said_bytes said ++ p) is ∙ sym (take-append-add (said_bytes said) (sent_bytes says) k) ∙ ap (take (length (said_bytes said) + k)) (sym (said_more said says)))

-- ---- what a session comes to

-- the outside didn't cut it short
abbrev pub IsPlain : SessionEnd → Type 0
IsPlain end.AppendFault = ⊥
IsPlain end.OutOfMemory = ⊥
IsPlain e = Unit {0}

-- all was written that was said
pub all_written : (e : SessionEnd) (said : List (List Frame)) (written : List ℕ) → IsPlain e → written ≡ said_bytes said → IsWritten e said written
all_written end.Done said written plain is = is
all_written end.EndOfInput said written plain is = is
all_written end.WrongInstance said written plain is = is
all_written (end.BadFrame at) said written plain is = is
all_written end.Clash said written plain is = is
all_written end.LinkFault said written plain is = (length (said_bytes said), is ∙ sym (take_all (length (said_bytes said)) (said_bytes said) (omega arith)))
all_written end.AppendFault said written plain is = absurd plain
all_written end.OutOfMemory said written plain is = absurd plain
all_written end.ByteLimit said written plain is =
    ((length (said_bytes said), is ∙ sym (take_all (length (said_bytes said)) (said_bytes said) (omega arith))), subst (λ (w : List ℕ). length (said_bytes (before_last said)) ≤ length w) (sym is) (before_less said))

pub is_answered : (e : SessionEnd) (said : List (List Frame)) (written : List ℕ) → length (said_bytes (before_last said)) ≤ length written → IsAnswered e said written
is_answered end.Done said written all = all
is_answered end.EndOfInput said written all = all
is_answered end.WrongInstance said written all = all
is_answered (end.BadFrame at) said written all = all
is_answered end.LinkFault said written all = all
is_answered end.AppendFault said written all = all
is_answered end.ByteLimit said written all = all
is_answered end.Clash said written all = all
is_answered end.OutOfMemory said written all = tt

-- all that was said is said so far
pub all_said : (said : List (List Frame)) → IsSaidSoFar said (said_bytes said)
all_said said = ((length (said_bytes said), sym (take_all (length (said_bytes said)) (said_bytes said) (omega arith))), before_less said)

module _ (n m : NodeState) (tells : Bool) (held_old held_new : List ℕ → Option (List ℕ)) where
  leaves_plain : (e : SessionEnd) (read written : List ℕ) → IsPlain e → m ≡ (served n read).state → Logs n m tells held_old held_new → Leaves e tells (standing n held_old) read written (standing m held_new)
  leaves_plain end.Done read written plain is logs = (is, logs)
  leaves_plain end.EndOfInput read written plain is logs = (is, logs)
  leaves_plain end.WrongInstance read written plain is logs = (is, logs)
  leaves_plain (end.BadFrame at) read written plain is logs = (is, logs)
  leaves_plain end.LinkFault read written plain is logs = (is, logs)
  leaves_plain end.ByteLimit read written plain is logs = (is, logs)
  leaves_plain end.Clash read written plain is logs = (is, logs)
  leaves_plain end.AppendFault read written plain is logs = absurd plain
  leaves_plain end.OutOfMemory read written plain is logs = absurd plain

  -- the whole session is this, and all that was read was handled
  plain_serves : (read written : List ℕ) (said : List (List Frame)) (ends_old ends_new : ℕ) (e by_bytes : SessionEnd) → length read ≤ byte_limit → Whole n read m said by_bytes → IsPlain e → EndsAs e by_bytes → IsEndOf n read ends_old ends_new e
      → IsReadNoFurther (λ (bytes : List ℕ). (served n bytes).end) read → IsWritten e said written → length (said_bytes (before_last said)) ≤ length written → Logs n m tells held_old held_new → Serves tells (standing n held_old) read written (standing m held_new) ends_old ends_new e
  plain_serves read written said ends_old ends_new e by_bytes few whole plain ended counted further wrote all logs = record {
    within = few;
    ended = subst (λ (t : Talk NodeState). EndsAs e t.end) (sym whole) ended;
    end_counted = counted;
    no_further = stops_so e (λ (bytes : List ℕ). (served n bytes).end) read further;
    wrote = subst (λ (t : Talk NodeState). IsWritten e t.said written) (sym whole) wrote;
    answered = subst (λ (t : Talk NodeState). IsAnswered e t.said written) (sym whole) (is_answered e said written all);
    left = leaves_plain e read written plain (ap (λ (t : Talk NodeState). t.state) (sym whole)) logs;
  }

  -- there was no memory, and the node stands behind the first bytes that were read
  wanting_serves : (first part written : List ℕ) (said more : List (List Frame)) (ends_old ends_new : ℕ) (by_bytes : SessionEnd) → length (first ++ part) ≤ byte_limit → Whole n first m said by_bytes → (served n (first ++ part)).said ≡ said ++ more
      → IsSaidSoFar said written → Logs n m tells held_old held_new → Serves tells (standing n held_old) (first ++ part) written (standing m held_new) ends_old ends_new end.OutOfMemory
  wanting_serves first part written said more ends_old ends_new by_bytes few whole further wrote logs = record {
    within = few;
    ended = inr tt;
    end_counted = tt;
    no_further = tt;
    wrote = subst (λ (s : List (List Frame)). IsPrefixOf written (said_bytes s)) (sym further) (prefix_of_more written said more wrote.0);
    answered = tt;
    left = inl (record { first = first; part = part; split = refl; state = ap (λ (t : Talk NodeState). t.state) (sym whole); logs = logs; wrote = subst (λ (t : Talk NodeState). IsSaidSoFar t.said written) (sym whole) wrote });
  }

-- ---- the steps of a session

module _ (n m : NodeState) (place : ℕ) (tells : Bool) (held_old held_now : List ℕ → Option (List ℕ)) (old now : Option (List Session)) (s : IsServing n m place tells held_old held_now old now) where
  -- ---- there is no frame

  limit_is_reached : (place : ℕ) (part : List ℕ) → place ≡ length s.read → byte_limit ≤ place + length part → byte_limit ≤ length (s.read ++ part)
  limit_is_reached place part is limit = let all = length-append s.read part in omega arith

  -- as many bytes were read as may be
  pub limit_serves : byte_limit ≤ place → (ends : ℕ) → ServesThere tells (standing n held_old) (standing m held_now) (door_told old ends) (door_told now ends) end.ByteLimit
  limit_serves full ends =
      let at_limit : byte_limit ≤ length s.read + length {A = ℕ} [] = omega (arith, s.place_is) in
      let by : cut_end (rest_at (length s.read) []) ≡ end.ByteLimit = ap (λ (b : Bool). cond b end.ByteLimit (cond true end.EndOfInput (end.BadFrame (length s.read)))) (le-leb byte_limit (length s.read + length {A = ℕ} []) at_limit) in
      record {
        read = s.read;
        written = said_bytes s.said;
        serves =
            plain_serves n m tells held_old held_now s.read (said_bytes s.said) s.said ends ends end.ByteLimit (cut_end (rest_at (length s.read) [])) s.within (heard_here n s.read s.said m s.heard s.within) tt (inl (sym by))
            (omega (arith, s.place_is)) s.no_further (all_written end.ByteLimit s.said (said_bytes s.said) tt refl) (before_less s.said) s.logs;
        told = s.told;
      }

  -- what was read is the end of the session, by which no frame comes
  quit : (e : SessionEnd) (ends_now ends_new : ℕ) (new : Option (List Session)) (held_new : List ℕ → Option (List ℕ)) → Logs n m tells held_old held_new → Hears {T = Heard} IsHeard (length s.read) [] now new ends_now ends_new (Err e)
      → ServesThere tells (standing n held_old) (standing m held_new) (door_told old ends_now) (door_told new ends_new) e
  quit e ends_now ends_new new held_new logs h = by e h.says h.ended (told_read s.read h.part (said_bytes s.said) (is_link_fault {T = Unit {0}} (Err e)) old now new s.told (h.heard ∙ ap (λ (b : Bool). after_part h.part [] b now) (fault_alike Heard (Unit {0}) e)))
    where
      few : length (s.read ++ h.part) ≤ byte_limit
      few = let all = length-append s.read h.part in let within = h.within in omega arith

      over : (by_bytes : SessionEnd) → EndsIn (length s.read) h.part by_bytes → Whole n (s.read ++ h.part) m s.said by_bytes
      over by_bytes ends = (reads_frame_by_frame NodeState).no_frame_ends serve_step [] n s.read s.said m h.part by_bytes s.heard ends few

      plain : (how by_bytes : SessionEnd) → EndsIn (length s.read) h.part by_bytes → IsPlain how → EndsAs how by_bytes → IsEndOf n (s.read ++ h.part) ends_now ends_new how → new ≡ after_part (s.read ++ h.part) (said_bytes s.said) (is_link_fault {T = Unit {0}} (Err how)) old
          → ServesThere tells (standing n held_old) (standing m held_new) (door_told old ends_now) (door_told new ends_new) how
      plain how by_bytes none is_plain agrees counted told = record {
        read = s.read ++ h.part;
        written = said_bytes s.said;
        serves = plain_serves n m tells held_old held_new (s.read ++ h.part) (said_bytes s.said) s.said ends_now ends_new how by_bytes few (over by_bytes none) is_plain agrees counted
            (reads_part n m s.read s.said s.heard h.part (none_there (length s.read) h.part by_bytes none) few s.no_further) (all_written how s.said (said_bytes s.said) is_plain refl) (before_less s.said) logs;
        told = told;
      }

      refused : (at : ℕ) → (ends_new ≡ raised ends_now) ⊎ IsRefused (length s.read) h.part (end.BadFrame at) → IsEndOf n (s.read ++ h.part) ends_now ends_new (end.BadFrame at)
      refused at (inl rose) = inl rose
      refused at (inr none) = inr (λ more fits.
          subst (λ (bytes : List ℕ). (served n bytes).end ≡ end.BadFrame at) (sym (append_assoc s.read h.part more))
          (ap (λ (t : Talk NodeState). t.end)
          ((reads_frame_by_frame NodeState).no_frame_ends serve_step [] n s.read s.said m (h.part ++ more) (end.BadFrame at) s.heard (none more) (subst (λ (bytes : List ℕ). length bytes ≤ byte_limit) (append_assoc s.read h.part more) fits))))

      by : (how : SessionEnd) → Says {T = Heard} IsHeard (length s.read) h.part (Err how) → IsEndCounted {T = Heard} ends_now ends_new (length s.read) h.part (Err how)
          → new ≡ after_part (s.read ++ h.part) (said_bytes s.said) (is_link_fault {T = Unit {0}} (Err how)) old → ServesThere tells (standing n held_old) (standing m held_new) (door_told old ends_now) (door_told new ends_new) how
      by end.LinkFault says ended told = plain end.LinkFault (cut_end (rest_at (length s.read) h.part)) says tt (inr tt) tt told
      by end.EndOfInput says ended told = plain end.EndOfInput end.EndOfInput says tt (inl refl) ended told
      by (end.BadFrame at) says ended told = plain (end.BadFrame at) (end.BadFrame at) says tt (inl refl) (refused at ended) told
      by end.ByteLimit says ended told = plain end.ByteLimit end.ByteLimit says tt (inl refl) (limit_is_reached (length s.read) h.part refl (no_frame_so (length s.read) h.part end.ByteLimit says)) told
      by end.Done says ended told = absurd (no_frame_so (length s.read) h.part end.Done says)
      by end.WrongInstance says ended told = absurd (no_frame_so (length s.read) h.part end.WrongInstance says)
      by end.AppendFault says ended told = absurd (no_frame_so (length s.read) h.part end.AppendFault says)
      by end.Clash says ended told = absurd (no_frame_so (length s.read) h.part end.Clash says)
      by end.OutOfMemory says ended told =
          let further = heard_first n s.read s.said m s.heard h.part few in
          record {
            read = s.read ++ h.part;
            written = said_bytes s.said;
            serves = wanting_serves n m tells held_old held_new s.read h.part (said_bytes s.said) s.said further.0 ends_now ends_new (cut_end (rest_at (length s.read) [])) few (heard_here n s.read s.said m s.heard s.within) further.1
                (all_said s.said) logs;
            told = told;
          }

  pub quit_serves : {T : Type 0} (k : NodeState) (held_new : List ℕ → Option (List ℕ)) (new : Option (List Session)) (ends_now ends_new : ℕ) (e : SessionEnd) → Quits {T = T} tells (standing m held_now) place (standing k held_new) (door_told now ends_now) (door_told new ends_new) (Err e)
      → ServesThere tells (standing n held_old) (standing k held_new) (door_told old ends_now) (door_told new ends_new) e
  quit_serves k held_new new ends_now ends_new e q =
      let how : e ≡ q.how = cc (q.is) in
      subst (λ (x : NodeState). ServesThere tells (standing n held_old) (standing x held_new) (door_told old ends_now) (door_told new ends_new) e) (sym q.state)
      (subst (λ (x : SessionEnd). ServesThere tells (standing n held_old) (standing m held_new) (door_told old ends_now) (door_told new ends_new) x) (sym how)
      (quit q.how ends_now ends_new new held_new (logs_then tells n m m held_old held_now held_new s.logs (logs_nothing tells m held_now held_new q.files))
      (subst (λ (p : ℕ). Hears {T = Heard} IsHeard p [] now new ends_now ends_new (Err q.how)) s.place_is q.heard)))

  -- ---- there is a frame

  module _ (k : NodeState) (held_new : List ℕ → Option (List ℕ)) (new : Option (List Session)) (part : List ℕ) (f : Frame) (has : HasFrame (length s.read) part f) (within : length s.read + length part ≤ byte_limit) where
    abbrev reaction : Reaction NodeState
    reaction = serve_step m (placed_behind s.read f)

    abbrev behind_part : Option (List Session)
    behind_part = after_part part [] false now

    fits : length (s.read ++ part) ≤ byte_limit
    fits = let all = length-append s.read part in omega arith

    abbrev said : List (List Frame)
    said = s.said ++ reaction.says ∷ []

    further : IsReadNoFurther (λ (bytes : List ℕ). (served n bytes).end) (s.read ++ part)
    further = reads_part n m s.read s.said s.heard part (frame_alone (length s.read) part f has) fits s.no_further

    whole : (e : SessionEnd) × Whole n (s.read ++ part) reaction.state said e
    whole = behind n m s.read s.said s.heard part f has reaction.end refl fits

    -- a node that took what the frame brought
    module _ (sent : List ℕ) (failed : Bool) (took : Took tells (standing m held_now) reaction sent failed (standing k held_new) behind_part new) where
      stands : Logs n k tells held_old held_new
      stands = logs_then tells n m k held_old held_now held_new s.logs took.logs

      told : new ≡ after_part (s.read ++ part) (said_bytes s.said ++ sent) failed old
      told = told_then s.read part (said_bytes s.said) sent failed old now new s.told took.told

      whole_at : (e : SessionEnd) → Whole n (s.read ++ part) reaction.state said e → Whole n (s.read ++ part) k said e
      whole_at e w = subst (λ (x : NodeState). Whole n (s.read ++ part) x said e) (sym took.state) w

      before_sent : length (said_bytes (before_last said)) ≤ length (said_bytes s.said ++ sent)
      before_sent =
          let all = length-append (said_bytes s.said) sent in
          let less : length (said_bytes s.said) ≤ length (said_bytes s.said ++ sent) = omega arith in
          subst (λ (x : List (List Frame)). length (said_bytes x) ≤ length (said_bytes s.said ++ sent)) (sym (before_last_one s.said reaction.says)) less

    -- it ended the session
    ended : (e : SessionEnd) (ends : ℕ) → reaction.end ≡ Some e → Took tells (standing m held_now) reaction (sent_bytes reaction.says) false (standing k held_new) behind_part new → ServesThere tells (standing n held_old) (standing k held_new) (door_told old ends) (door_told new ends) e
    ended e ends is took = by e is (step_ends m (placed_behind s.read f) e is)
      where
        at_end : (how : SessionEnd) → reaction.end ≡ Some how → IsPlain how → IsEndOf n (s.read ++ part) ends ends how → is_link_fault {T = Unit {0}} (Err how) ≡ false → ServesThere tells (standing n held_old) (standing k held_new) (door_told old ends) (door_told new ends) how
        at_end how some plain counted linked = record {
          read = s.read ++ part;
          written = said_bytes s.said ++ sent_bytes reaction.says;
          serves = plain_serves n k tells held_old held_new (s.read ++ part) (said_bytes s.said ++ sent_bytes reaction.says) said ends ends how how fits
              (whole_at (sent_bytes reaction.says) false took how (stops_here n m s.read s.said s.heard part f has how some fits)) plain (inl refl) counted further
              (all_written how said (said_bytes s.said ++ sent_bytes reaction.says) plain (sym (said_more s.said reaction.says))) (before_sent (sent_bytes reaction.says) false took) (stands (sent_bytes reaction.says) false took);
          told = told (sent_bytes reaction.says) false took ∙ ap (λ (b : Bool). after_part (s.read ++ part) (said_bytes s.said ++ sent_bytes reaction.says) b old) (sym linked);
        }

        by : (how : SessionEnd) → reaction.end ≡ Some how → IsOfFrame how → ServesThere tells (standing n held_old) (standing k held_new) (door_told old ends) (door_told new ends) how
        by end.Done some of = at_end end.Done some tt tt refl
        by end.WrongInstance some of = at_end end.WrongInstance some tt tt refl
        by end.Clash some of = at_end end.Clash some tt tt refl
        by end.EndOfInput some of = absurd of
        by end.LinkFault some of = absurd of
        by end.AppendFault some of = absurd of
        by end.ByteLimit some of = absurd of
        by end.OutOfMemory some of = absurd of
        by (end.BadFrame at) some of = at_end (end.BadFrame at) some tt (inr (λ more few. ap (λ (t : Talk NodeState). t.end) (stops n m s.read s.said s.heard part f has (end.BadFrame at) some more few))) refl

    -- the link failed in its answer
    link_failed : (sent : List ℕ) (ends : ℕ) → IsPrefixOf sent (sent_bytes reaction.says) → Took tells (standing m held_now) reaction sent true (standing k held_new) behind_part new → ServesThere tells (standing n held_old) (standing k held_new) (door_told old ends) (door_told new ends) end.LinkFault
    link_failed sent ends first took = record {
      read = s.read ++ part;
      written = said_bytes s.said ++ sent;
      serves = plain_serves n k tells held_old held_new (s.read ++ part) (said_bytes s.said ++ sent) said ends ends end.LinkFault whole.0 fits
          (whole_at sent true took whole.0 whole.1) tt (inr tt) tt further (prefix_of_last s.said reaction.says sent first) (before_sent sent true took) (stands sent true took);
      told = told sent true took;
    }

    -- there was no memory for all of its answer
    answer_wanted : (sent : List ℕ) (ends : ℕ) → IsPrefixOf sent (sent_bytes reaction.says) → Took tells (standing m held_now) reaction sent false (standing k held_new) behind_part new → ServesThere tells (standing n held_old) (standing k held_new) (door_told old ends) (door_told new ends) end.OutOfMemory
    answer_wanted sent ends first took =
        let here : (served n ((s.read ++ part) ++ [])).said ≡ said ++ [] = ap (λ (bytes : List ℕ). (served n bytes).said) (append-nil (s.read ++ part)) ∙ ap (λ (t : Talk NodeState). t.said) whole.1 ∙ sym (append-nil said) in
        record {
          read = (s.read ++ part) ++ [];
          written = said_bytes s.said ++ sent;
          serves = wanting_serves n k tells held_old held_new (s.read ++ part) [] (said_bytes s.said ++ sent) said [] ends ends whole.0 (subst (λ (bytes : List ℕ). length bytes ≤ byte_limit) (sym (append-nil (s.read ++ part))) fits)
              (whole_at sent false took whole.0 whole.1) here (prefix_of_last s.said reaction.says sent first, before_sent sent false took) (stands sent false took);
          told = told sent false took ∙ ap (λ (bytes : List ℕ). after_part bytes (said_bytes s.said ++ sent) false old) (sym (append-nil (s.read ++ part)));
        }

    -- there was none for the frame
    frame_wanted : (ends : ℕ) → Stayed tells (standing m held_now) (standing k held_new) behind_part new → ServesThere tells (standing n held_old) (standing k held_new) (door_told old ends) (door_told new ends) end.OutOfMemory
    frame_wanted ends stayed =
        let further = heard_first n s.read s.said m s.heard part fits in
        subst (λ (x : NodeState). ServesThere tells (standing n held_old) (standing x held_new) (door_told old ends) (door_told new ends) end.OutOfMemory) (sym stayed.state)
        (record {
          read = s.read ++ part;
          written = said_bytes s.said;
          serves = wanting_serves n m tells held_old held_new s.read part (said_bytes s.said) s.said further.0 ends ends (cut_end (rest_at (length s.read) [])) fits (heard_here n s.read s.said m s.heard s.within) further.1
              (all_said s.said) (logs_then tells n m m held_old held_now held_new s.logs (logs_nothing tells m held_now held_new stayed.files));
          told = told_read s.read part (said_bytes s.said) false old now new s.told stayed.told;
        })

    -- its vertex's entry was cut
    module _ (cut : WasCut tells (standing m held_now) f reaction (standing k held_new) behind_part new) where
      stands_cut : StandsCut tells (standing n held_old) (s.read ++ part) (said_bytes s.said) (standing k held_new)
      stands_cut =
          let here = heard_here n s.read s.said m s.heard s.within in
          record {
            first = s.read;
            part = part;
            vertex = cut.vertex;
            split = refl;
            has = subst (λ (x : Frame). HasFrame (length s.read) part x) cut.frame_is has;
            whole = ap (λ (t : Talk NodeState). t.state) whole.1 ∙ cut.whole ∙ ap (λ (t : Talk NodeState). with_entry t.state cut.vertex) (sym here);
            logs = subst (λ (x : NodeState). LogsAllBut n x cut.vertex k tells held_old held_new) (ap (λ (t : Talk NodeState). t.state) (sym here)) (logs_but tells n m m cut.vertex k held_old held_now held_new s.logs cut.logs);
            wrote = ap (λ (t : Talk NodeState). said_bytes t.said) (sym here);
          }

      told_cut : new ≡ after_part (s.read ++ part) (said_bytes s.said) false old
      told_cut = told_read s.read part (said_bytes s.said) false old now new s.told cut.told

      append_failed : (ends : ℕ) → ServesThere tells (standing n held_old) (standing k held_new) (door_told old ends) (door_told new ends) end.AppendFault
      append_failed ends = record {
        read = s.read ++ part;
        written = said_bytes s.said;
        serves = record {
          within = fits;
          ended = inr tt;
          end_counted = tt;
          no_further = further;
          wrote = subst (λ (t : Talk NodeState). said_bytes s.said ≡ said_bytes (before_last t.said)) (sym whole.1) (ap said_bytes (sym (before_last_one s.said reaction.says)));
          answered = subst (λ (t : Talk NodeState). length (said_bytes (before_last t.said)) ≤ length (said_bytes s.said)) (sym whole.1)
              (subst (λ (x : List (List Frame)). length (said_bytes x) ≤ length (said_bytes s.said)) (sym (before_last_one s.said reaction.says)) (omega arith));
          left = stands_cut;
        };
        told = told_cut;
      }

      append_wanted : (ends : ℕ) → ServesThere tells (standing n held_old) (standing k held_new) (door_told old ends) (door_told new ends) end.OutOfMemory
      append_wanted ends =
          let further = heard_first n s.read s.said m s.heard part fits in
          record {
            read = s.read ++ part;
            written = said_bytes s.said;
            serves = record {
              within = fits;
              ended = inr tt;
              end_counted = tt;
              no_further = tt;
              wrote = subst (λ (x : List (List Frame)). IsPrefixOf (said_bytes s.said) (said_bytes x)) (sym further.1)
                  (prefix_of_more (said_bytes s.said) s.said further.0 (length (said_bytes s.said), sym (take_all (length (said_bytes s.said)) (said_bytes s.said) (omega arith))));
              answered = tt;
              left = inr stands_cut;
            };
            told = told_cut;
          }

    -- the session goes on
    goes_serving : reaction.end ≡ None → Took tells (standing m held_now) reaction (sent_bytes reaction.says) false (standing k held_new) behind_part new → IsServing n k (length s.read + length part) tells held_old held_new old new
    goes_serving none took = record {
      read = s.read ++ part;
      said = said;
      place_is = sym (length-append s.read part);
      within = fits;
      heard = subst (λ (x : NodeState). HasHeard [] serve_step n (s.read ++ part) said x) (sym took.state) (leads n m s.read s.said s.heard part f has none);
      logs = stands (sent_bytes reaction.says) false took;
      told = told (sent_bytes reaction.says) false took ∙ ap (λ (w : List ℕ). after_part (s.read ++ part) w false old) (sym (said_more s.said reaction.says));
      no_further = further;
    }

    -- or it ends
    reacted : (T : Type 0) (e : SessionEnd) (ends : ℕ) → Reacts {T = T} tells (standing m held_now) f reaction (standing k held_new) behind_part new (Err e) → ServesThere tells (standing n held_old) (standing k held_new) (door_told old ends) (door_told new ends) e
    reacted T end.LinkFault ends (sent, first, took) = link_failed sent ends first took
    reacted T end.AppendFault ends cut = append_failed cut ends
    reacted T end.OutOfMemory ends (inl stayed) = frame_wanted ends stayed
    reacted T end.OutOfMemory ends (inr (inl (sent, first, took))) = answer_wanted sent ends first took
    reacted T end.OutOfMemory ends (inr (inr cut)) = append_wanted cut ends
    reacted T end.Done ends (is, took) = ended end.Done ends is took
    reacted T end.EndOfInput ends (is, took) = ended end.EndOfInput ends is took
    reacted T end.WrongInstance ends (is, took) = ended end.WrongInstance ends is took
    reacted T (end.BadFrame at) ends (is, took) = ended (end.BadFrame at) ends is took
    reacted T end.ByteLimit ends (is, took) = ended end.ByteLimit ends is took
    reacted T end.Clash ends (is, took) = ended end.Clash ends is took

  pub frame_serves : (k : NodeState) (held_new : List ℕ → Option (List ℕ)) (new : Option (List Session)) (ends_now ends_new : ℕ) (e : SessionEnd) → Handles tells (standing m held_now) place (standing k held_new) (door_told now ends_now) (door_told new ends_new) (Err e) → ServesThere tells (standing n held_old) (standing k held_new) (door_told old ends_now) (door_told new ends_new) e
  frame_serves k held_new new ends_now ends_new e h =
      let at : Handles tells (standing m held_now) (length s.read) (standing k held_new) (door_told now ends_now) (door_told new ends_new) (Err e) = subst (λ (p : ℕ). Handles tells (standing m held_now) p (standing k held_new) (door_told now ends_now) (door_told new ends_new) (Err e)) s.place_is h in
      subst (λ (x : ℕ). ServesThere tells (standing n held_old) (standing k held_new) (door_told old ends_now) (door_told new x) e) (sym h.ends) (reacted k held_new new at.part at.frame at.has at.within ℕ e ends_now at.reacts)

  pub frame_leads : (k : NodeState) (held_new : List ℕ → Option (List ℕ)) (new : Option (List Session)) (ends_now ends_new : ℕ) (next : ℕ) → Handles tells (standing m held_now) place (standing k held_new) (door_told now ends_now) (door_told new ends_new) (Ok next) → IsServing n k next tells held_old held_new old new
  frame_leads k held_new new ends_now ends_new next h =
      let at : Handles tells (standing m held_now) (length s.read) (standing k held_new) (door_told now ends_now) (door_told new ends_new) (Ok next) = subst (λ (p : ℕ). Handles tells (standing m held_now) p (standing k held_new) (door_told now ends_now) (door_told new ends_new) (Ok next)) s.place_is h in
      subst (λ (p : ℕ). IsServing n k p tells held_old held_new old new) (sym at.next) (goes_serving k held_new new at.part at.frame at.has at.within at.reacts.0 at.reacts.1)

  -- what comes next at this place
  abbrev Next : (k : NodeState) (held_new : List ℕ → Option (List ℕ)) (new : Option (List Session)) (ends_now ends_new : ℕ) → Result ℕ SessionEnd → Type 0
  Next k held_new new ends_now ends_new result = Quits {T = ℕ} tells (standing m held_now) place (standing k held_new) (door_told now ends_now) (door_told new ends_new) result ⊎ Handles tells (standing m held_now) place (standing k held_new) (door_told now ends_now) (door_told new ends_new) result

  pub next_leads : (k : NodeState) (held_new : List ℕ → Option (List ℕ)) (new : Option (List Session)) (ends_now ends_new : ℕ) (next : ℕ) → Next k held_new new ends_now ends_new (Ok next) → IsServing n k next tells held_old held_new old new
  next_leads k held_new new ends_now ends_new next (inl q) = absurd (let is = q.is in cc)
  next_leads k held_new new ends_now ends_new next (inr h) = frame_leads k held_new new ends_now ends_new next h

  -- the reads at this place
  pub next_asks : (begun then more : List Ask) → AsksMore (IsAskedBehind (served_said n) old) begun then → AsksMore (IsAskedInside frame_here place [] now) then more → AsksMore (IsAskedBehind (served_said n) old) begun more
  next_asks begun then more so_far next =
      next_asked frame_here (served_said n) s.read (said_bytes s.said) old now s.told
      (λ part ends few. ap (λ (t : Talk NodeState). said_bytes t.said) ((reads_frame_by_frame NodeState).no_frame_ends serve_step [] n s.read s.said m part (cut_end (rest_at (length s.read) part)) s.heard ends few))
      place s.place_is begun then more so_far next

  pub next_counts : (k : NodeState) (held_new : List ℕ → Option (List ℕ)) (new : Option (List Session)) (ends_now ends_new : ℕ) (next : ℕ) → Next k held_new new ends_now ends_new (Ok next) → ends_new ≡ ends_now
  next_counts k held_new new ends_now ends_new next (inl q) = absurd (let is = q.is in cc)
  next_counts k held_new new ends_now ends_new next (inr h) = h.ends

  pub next_serves : (k : NodeState) (held_new : List ℕ → Option (List ℕ)) (new : Option (List Session)) (ends_before ends_now ends_new : ℕ) (e : SessionEnd) → ends_now ≡ ends_before → Next k held_new new ends_now ends_new (Err e) → ServesThere tells (standing n held_old) (standing k held_new) (door_told old ends_before) (door_told new ends_new) e
  next_serves k held_new new ends_before ends_now ends_new e same (inl q) = subst (λ (x : ℕ). ServesThere tells (standing n held_old) (standing k held_new) (door_told old x) (door_told new ends_new) e) same (quit_serves {T = ℕ} k held_new new ends_now ends_new e q)
  next_serves k held_new new ends_before ends_now ends_new e same (inr h) = subst (λ (x : ℕ). ServesThere tells (standing n held_old) (standing k held_new) (door_told old x) (door_told new ends_new) e) same (frame_serves k held_new new ends_now ends_new e h)

-- ---- a session that is there, and the door

-- the session is told behind the others
module _ (n m : NodeState) (tells : Bool) (held_old held_new : List ℕ → Option (List ℕ)) (old : Option (List Session)) (ends_old ends_new : ℕ) (e : SessionEnd) where
  behind_others : (read written : List ℕ) (failed : Bool) (sessions : List Session) → with_last (gone_on read written failed) (sessions ++ fresh_session None ∷ []) ≡ sessions ++ (record { address = None; read = read; written = written; failed = failed || false }) ∷ []
  behind_others read written failed [] = refl
  behind_others read written failed (s ∷ []) = refl
  behind_others read written failed (s ∷ t ∷ rest) = ap (λ (xs : List Session). s ∷ xs) (behind_others read written failed (t ∷ rest))

  failed_is : (b : Bool) → (b || false) ≡ b
  failed_is true = refl
  failed_is false = refl

  told_behind : (read written : List ℕ) (failed : Bool) (o : Option (List Session)) → after_part read written failed (option_map (λ (sessions : List Session). sessions ++ fresh_session None ∷ []) o)
      ≡ option_map (λ (sessions : List Session). sessions ++ (record { address = None; read = read; written = written; failed = failed }) ∷ []) o
  told_behind read written failed None = refl
  told_behind read written failed (Some sessions) =
      ap (λ (xs : List Session). Some xs) (behind_others read written failed sessions ∙ ap (λ (b : Bool). sessions ++ (record { address = None; read = read; written = written; failed = b }) ∷ []) (failed_is failed))

  pub serves_peer : (new : Option (List Session)) → ServesThere tells (standing n held_old) (standing m held_new) (door_told (option_map (λ (sessions : List Session). sessions ++ fresh_session None ∷ []) old) ends_old) (door_told new ends_new) e → ServesPeer tells (standing n held_old) (standing m held_new) (door_told old ends_old) (door_told new ends_new) e
  serves_peer new s = record {
    read = s.read;
    written = s.written;
    serves = s.serves;
    told = s.told ∙ told_behind s.read s.written (is_link_fault {T = Unit {0}} (Err e)) old;
  }

-- no peer came
pub serves_failed : (n : NodeState) (tells : Bool) (held : List ℕ → Option (List ℕ)) (old : Option (List Session)) (ends : ℕ) → ServesPeer tells (standing n held) (standing n held) (door_told old ends) (door_told (option_map (λ (sessions : List Session). sessions ++ with_failure (fresh_session None) ∷ []) old) ends) end.LinkFault
serves_failed n tells held old ends = record {
  read = [];
  written = [];
  serves = plain_serves n n tells held held [] [] ([] ∷ []) ends ends end.LinkFault (cut_end (rest_at 0 [])) (omega arith) (heard_here n [] ([] ∷ []) n ((reads_frame_by_frame NodeState).begins serve_step [] n) (omega arith)) tt (inr tt) tt (none_further (λ (bytes : List ℕ). (served n bytes).end))
      (0, refl) (omega arith) (logs_nothing tells n held held (λ t name. refl));
  told = refl;
}

-- a peer was taken, served and hung up on
pub serves_accepted : (n m : NodeState) (tells : Bool) (held_old held_new : List ℕ → Option (List ℕ)) (old now then new : Option (List Session)) (ends_old ends_now ends_then ends_new : ℕ) (e : SessionEnd)
    → now ≡ option_map (sessions_after {T = Unit {0}} None (Ok tt)) old → ends_now ≡ ends_old → ServesThere tells (standing n held_old) (standing m held_new) (door_told now ends_now) (door_told then ends_then) e → new ≡ then → ends_new ≡ ends_then
    → ServesPeer tells (standing n held_old) (standing m held_new) (door_told old ends_old) (door_told new ends_new) e
serves_accepted n m tells held_old held_new old now then new ends_old ends_now ends_then ends_new e accepted same serves hung ended =
    subst (λ (x : Option (List Session)). ServesPeer tells (standing n held_old) (standing m held_new) (door_told old ends_old) (door_told x ends_new) e) (sym hung)
    (subst (λ (x : ℕ). ServesPeer tells (standing n held_old) (standing m held_new) (door_told old ends_old) (door_told then x) e) (sym ended)
    (serves_peer n m tells held_old held_new old ends_old ends_then e then
    (subst (λ (x : Option (List Session)). ServesThere tells (standing n held_old) (standing m held_new) (door_told x ends_old) (door_told then ends_then) e) accepted
    (subst (λ (x : ℕ). ServesThere tells (standing n held_old) (standing m held_new) (door_told now x) (door_told then ends_then) e) same serves))))

-- no peer came, or there was no memory to take one
module _ (n : NodeState) (tells : Bool) (held : List ℕ → Option (List ℕ)) (old new : Option (List Session)) (ends_old ends_new : ℕ) (same : ends_new ≡ ends_old) where
  nobody : (o : Option (List Session)) → option_map (λ (sessions : List Session). sessions) o ≡ o
  nobody None = refl
  nobody (Some sessions) = refl

  pub serves_nobody : (fault : IoFault) → new ≡ option_map (sessions_after {T = Unit {0}} None (Err fault)) old → ServesPeer tells (standing n held) (standing n held) (door_told old ends_old) (door_told new ends_new) (end_of_fault fault) ⊎ ServesNone tells (standing n held) (standing n held) old new (end_of_fault fault)
  serves_nobody Failed told =
      inl (subst (λ (x : Option (List Session)). ServesPeer tells (standing n held) (standing n held) (door_told old ends_old) (door_told x ends_new) end.LinkFault) (sym told)
      (subst (λ (x : ℕ). ServesPeer tells (standing n held) (standing n held) (door_told old ends_old) (door_told (option_map (λ (sessions : List Session). sessions ++ with_failure (fresh_session None) ∷ []) old) x) end.LinkFault) (sym same) (serves_failed n tells held old ends_old)))
  serves_nobody NoMemory told = inr (record { ended = refl; state = refl; files = λ t name. refl; told = told ∙ nobody old })

pub fault_counted : (before now : ℕ) (fault : IoFault) → HasCause {T = Unit {0}} before now (Err fault) → IsLinkCounted {T = Unit {0}} before now (Err (end_of_fault fault))
fault_counted before now Failed c = c.failed
fault_counted before now NoMemory c = c.failed

pub fault_unlogged : (count : ℕ) (fault : IoFault) → IsLogCounted {T = Unit {0}} count count (Err (end_of_fault fault))
fault_unlogged count Failed = refl
fault_unlogged count NoMemory = refl

-- no read ends as a failed append
pub heard_unlogged : (T : Type 0) (place count : ℕ) (old new : Option (List Session)) (ends_old ends_new : ℕ) (e : SessionEnd) → Hears {T = Heard} IsHeard place [] old new ends_old ends_new (Err e) → IsLogCounted {T = T} count count (Err e)
heard_unlogged T place count old new ends_old ends_new end.AppendFault h = absurd (no_frame_so place h.part end.AppendFault h.says)
heard_unlogged T place count old new ends_old ends_new end.Done h = refl
heard_unlogged T place count old new ends_old ends_new end.EndOfInput h = refl
heard_unlogged T place count old new ends_old ends_new end.WrongInstance h = refl
heard_unlogged T place count old new ends_old ends_new (end.BadFrame at) h = refl
heard_unlogged T place count old new ends_old ends_new end.LinkFault h = refl
heard_unlogged T place count old new ends_old ends_new end.ByteLimit h = refl
heard_unlogged T place count old new ends_old ends_new end.Clash h = refl
heard_unlogged T place count old new ends_old ends_new end.OutOfMemory h = refl
