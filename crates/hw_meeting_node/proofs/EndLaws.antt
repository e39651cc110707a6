-- How a meeting can end, by a frame and by what is no frame.
use Rattle.std.specs.Prelude.{nat_le, nat_lt, ◌==◌}
use Rattle.std.specs.Int.{w32, from_be_bytes}
use Rattle.std.proofs.Common.{◌≡◌, ℕ, ◌+◌, ◌≤◌, Bool, true, false, cond, List, [], length, take, drop, Some, Result, Ok, Err, refl, subst}
use Rattle.std.proofs.lemmas.Bool.{leb-true}
use Rattle.hw_types.specs.declared.unit.Vertex.{Vertex}
use Rattle.hw_types.specs.declared.answers.CodecError.{CodecError}
use Rattle.hw_types.specs.declared.answers.Receipt.{Receipt}
use Rattle.hw_types.specs.declared.answers.Cause.{Cause}
use Rattle.hw_types.specs.declared.answers.Cause.TheVariants as cause
use Rattle.hw_types.specs.Graph.{digest_eq}
use Rattle.hw_types.specs.Limits.{is_within}
use Rattle.hw_types.specs.Reading.{Rest}
use Rattle.hw_types.specs.Spelling.{instance_of}
use Rattle.hw_types.specs.Real.{answer_in, after_in}
use Rattle.hw_link.specs.declared.end.SessionEnd.{SessionEnd}
use Rattle.hw_link.specs.declared.end.SessionEnd.TheVariants as end
use Rattle.hw_link.specs.Frames.{◌>>=◌, rest_at, byte_limit, cut_end, front_of, length_of, decoded, frame_by}
use Rattle.hw_meeting.specs.declared.frame.MeetingFrame.{MeetingFrame}
use Rattle.hw_meeting.specs.declared.frame.MeetingFrame.TheVariants as frame
use Rattle.hw_meeting.specs.Frames.{meeting_of}
use Rattle.hw_meeting_node.specs.Frames.{Placed, frame_here, EndsIn}
use Rattle.hw_meeting_node.specs.declared.meeter.Side.{Side}
use Rattle.hw_meeting_node.specs.declared.meeter.Stage.{Stage}
use Rattle.hw_meeting_node.specs.declared.meeter.Stage.TheVariants as stage
use Rattle.hw_meeting_node.specs.Talk.{goes_on, ends}
use Rattle.hw_meeting_node.specs.Meeting.{Meeting, to_hello, answered, at_stage, meet_step}

-- ---- by a frame

-- a frame ends a session so
abbrev pub IsOfFrame : SessionEnd → Type 0
IsOfFrame end.Done = Unit {0}
IsOfFrame end.WrongInstance = Unit {0}
IsOfFrame (end.BadFrame at) = Unit {0}
IsOfFrame end.Clash = Unit {0}
IsOfFrame e = ⊥

some_of : (x e : SessionEnd) → IsOfFrame x → Some x ≡ Some e → IsOfFrame e
some_of x e of is = let same : x ≡ e = cc in subst IsOfFrame same of

bad : (at : ℕ) (e : SessionEnd) → Some (end.BadFrame at) ≡ Some e → IsOfFrame e
bad at e is = some_of (end.BadFrame at) e tt is

vertex_ends : (m : Meeting) (a : Result Receipt Cause) (e : SessionEnd) → (answered m a).end ≡ Some e → IsOfFrame e
vertex_ends m (Ok r) e is = absurd cc
vertex_ends m (Err cause.BadSignature) e is = absurd cc
vertex_ends m (Err (cause.Local rule)) e is = absurd cc
vertex_ends m (Err (cause.Pair f)) e is = absurd cc
vertex_ends m (Err (cause.Clash c)) e is = some_of end.Clash e tt is
vertex_ends m (Err cause.RecordsFull) e is = absurd cc
vertex_ends m (Err cause.ParkFull) e is = absurd cc
vertex_ends m (Err cause.OutOfMemory) e is = absurd cc

stage_ends : (s : Stage) (side : Side) (judge : Vertex → Bool) (m : Meeting) (at : ℕ) (f : MeetingFrame) (e : SessionEnd) → (at_stage s side judge m at f).end ≡ Some e → IsOfFrame e
stage_ends stage.Greeting side judge m at (frame.Hello instance) e is = go (digest_eq instance (instance_of m.core.config)) is
  where
    go : (b : Bool) → (cond b (goes_on (record m { stage = stage.Telling }) (to_hello side m.core)) (ends m [] end.WrongInstance)).end ≡ Some e → IsOfFrame e
    go true h = absurd cc
    go false h = some_of end.WrongInstance e tt h
stage_ends stage.Greeting side judge m at (frame.Vertex v) e is = bad at e is
stage_ends stage.Greeting side judge m at (frame.Summary parts) e is = bad at e is
stage_ends stage.Greeting side judge m at (frame.Torn numbers) e is = bad at e is
stage_ends stage.Greeting side judge m at frame.Done e is = bad at e is
stage_ends stage.Telling side judge m at (frame.Summary parts) e is = absurd cc
stage_ends stage.Telling side judge m at (frame.Hello instance) e is = bad at e is
stage_ends stage.Telling side judge m at (frame.Vertex v) e is = bad at e is
stage_ends stage.Telling side judge m at (frame.Torn numbers) e is = bad at e is
stage_ends stage.Telling side judge m at frame.Done e is = bad at e is
stage_ends stage.Tearing side judge m at (frame.Torn numbers) e is = absurd cc
stage_ends stage.Tearing side judge m at (frame.Hello instance) e is = bad at e is
stage_ends stage.Tearing side judge m at (frame.Vertex v) e is = bad at e is
stage_ends stage.Tearing side judge m at (frame.Summary parts) e is = bad at e is
stage_ends stage.Tearing side judge m at frame.Done e is = bad at e is
stage_ends stage.Taking side judge m at (frame.Vertex v) e is = vertex_ends (record m { core = after_in m.core v (judge v) }) (answer_in m.core v (judge v)) e is
stage_ends stage.Taking side judge m at frame.Done e is = some_of end.Done e tt is
stage_ends stage.Taking side judge m at (frame.Hello instance) e is = bad at e is
stage_ends stage.Taking side judge m at (frame.Summary parts) e is = bad at e is
stage_ends stage.Taking side judge m at (frame.Torn numbers) e is = bad at e is

pub step_ends : (side : Side) (judge : Vertex → Bool) (m : Meeting) (f : Placed) (e : SessionEnd) → (meet_step side judge m f).end ≡ Some e → IsOfFrame e
unfolding meet_step
step_ends side judge m f e is = stage_ends m.stage side judge m f.at f.frame e is

-- ---- where there is no frame

-- it ends so by what is there
abbrev pub IsOfBytes : Rest → SessionEnd → Type 0
IsOfBytes r end.EndOfInput = Unit {0}
IsOfBytes r (end.BadFrame at) = Unit {0}
IsOfBytes r end.ByteLimit = byte_limit ≤ r.place + length r.bytes
IsOfBytes r e = ⊥

-- if it ends, it ends so
abbrev pub EndsSo : {A : Type 0} → Rest → Result A SessionEnd → Type 0
EndsSo r (Ok x) = Unit {0}
EndsSo r (Err e) = IsOfBytes r e

then_so : {A B : Type 0} (r : Rest) (x : Result A SessionEnd) (f : A → Result B SessionEnd) → EndsSo r x → ((a : A) → EndsSo r (f a)) → EndsSo r (x >>= f)
then_so r (Ok a) f first others = others a
then_so r (Err e) f first others = first

pub cut_so : (r : Rest) → IsOfBytes r (cut_end r)
cut_so r = go (nat_le byte_limit (r.place + length r.bytes)) refl (length r.bytes == 0)
  where
    go : (b : Bool) → nat_le byte_limit (r.place + length r.bytes) ≡ b → (c : Bool) → IsOfBytes r (cond b end.ByteLimit (cond c end.EndOfInput (end.BadFrame r.place)))
    go true is c = leb-true byte_limit (r.place + length r.bytes) is
    go false is true = tt
    go false is false = tt

front_so : (n : ℕ) (r : Rest) → EndsSo r (front_of n r)
front_so n r = go (nat_lt (length r.bytes) n)
  where
    go : (b : Bool) → EndsSo {A = List ℕ} r (cond b (Err (cut_end r)) (Ok (take n r.bytes)))
    go true = cut_so r
    go false = tt

length_so : (r : Rest) (front : List ℕ) → EndsSo r (length_of r front)
length_so r front = go (is_within 1 1048576 (from_be_bytes w32 front))
  where
    go : (b : Bool) → EndsSo {A = ℕ} r (cond b (Ok (from_be_bytes w32 front)) (Err (end.BadFrame r.place)))
    go true = tt
    go false = tt

decoded_so : (r : Rest) (x : Result MeetingFrame CodecError) → EndsSo r (decoded r x)
decoded_so r (Ok f) = tt
decoded_so r (Err e) = tt

pub here_so : (validators : ℕ) (r : Rest) → EndsSo r (frame_here validators r)
unfolding frame_by
here_so validators r =
    then_so r (front_of 4 r) _ (front_so 4 r) (λ front.
    then_so r (length_of r front) _ (length_so r front) (λ n.
    then_so r (front_of (4 + n) r) _ (front_so (4 + n) r) (λ whole.
    then_so r (decoded r (meeting_of validators (drop 4 whole))) _ (decoded_so r (meeting_of validators (drop 4 whole))) (λ f. tt))))

pub no_frame_so : (validators place : ℕ) (part : List ℕ) (e : SessionEnd) → EndsIn validators place part e → IsOfBytes (rest_at place part) e
no_frame_so validators place part e ends = subst (λ (x : Result (Placed × Rest) SessionEnd). EndsSo (rest_at place part) x) ends (here_so validators (rest_at place part))
