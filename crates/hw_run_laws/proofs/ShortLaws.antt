-- Sessions with a peer that sends a few frames.
use Rattle.std.specs.Prelude.{nat_le, ◌==◌, map}
use Rattle.std.specs.Int.{w32, from_be_bytes}
use Rattle.std.proofs.Common.{◌≡◌, ℕ, ◌+◌, ◌<◌, ◌≤◌, ◌^◌, Bool, true, false, cond, List, [], ◌∷◌, ◌++◌, length, Option, Result, Ok, Err, inl, inr, refl, sym, ap, subst, ◌∙◌, arith, length-append, eqb-true}
use Rattle.std.proofs.lemmas.Bool.{le-leb, lt-leb}
use Rattle.std.proofs.lemmas.List.{take_all, append-nil}
use Rattle.std.proofs.lemmas.Nat.{from_be_bytes-to_be_bytes_4}
use Rattle.hw_types.specs.declared.unit.Vertex.{Vertex}
use Rattle.hw_types.specs.declared.answers.Frame.{Frame}
use Rattle.hw_types.specs.declared.answers.Frame.TheVariants as frame
use Rattle.hw_types.specs.Below.{Among}
use Rattle.hw_types.specs.Limits.{is_within}
use Rattle.hw_types.specs.Reading.{Rest, frame_of}
use Rattle.hw_types.specs.Real.{setting_of}
use Rattle.hw_types.specs.Spelling.{u32_bytes, frame_bytes, FrameFits, instance_of}
use Rattle.hw_types.proofs.EntryLaws.{among_map}
use Rattle.hw_types.proofs.SettledLaws.{digest_self}
use Rattle.hw_types.proofs.StableLaws.{and_whole}
use Rattle.hw_types.proofs.UnionLaws.{from_left}
use Rattle.hw_codec.specs.Ranges.{FrameInRange}
use Rattle.hw_codec.proofs.Spelled.{frame_spelled_reads}
use Rattle.hw_io.specs.Faults.{raised}
use Rattle.hw_honest.specs.Restart.{AreFair}
use Rattle.hw_link.specs.declared.end.SessionEnd.{SessionEnd}
use Rattle.hw_link.specs.declared.end.SessionEnd.TheVariants as end
use Rattle.hw_link.specs.Frames.{Placed, Frames, framed, rest_at, frame_here, with_next, frames_by, frames_in, frames_from, frames_of, byte_limit}
use Rattle.hw_link.specs.Talk.{Reaction, Talk, goes_on, ends, said_bytes, before_last}
use Rattle.hw_link.specs.UnderWay.{HasFrame, EndsIn, HasHeard, placed_behind}
use Rattle.hw_link.proofs.FrameLaws.{frame_by-none, frames_next}
use Rattle.hw_link.proofs.FrameReadLaws.{frame_is_read}
use Rattle.hw_link.proofs.HeardLaws.{reads_frame_by_frame}
use Rattle.hw_session.specs.Node.{NodeState}
use Rattle.hw_session.specs.Restart.{logged_of}
use Rattle.hw_session.specs.Serving.{part_from, answer_to_have, serve_first, serve_frame, serve_step, served}
use Rattle.hw_session.specs.Sessions.{IsEndOf, IsCutEnd, IsReadNoFurther, Leaves, Serves}
use Rattle.hw_session.specs.Standing.{standing}
use Rattle.hw_session.proofs.FurtherLaws.{NoneBehind, frame_alone, part_cut, none_further, no_further, stops_so}
use Rattle.hw_session.proofs.GrowsLaws.{logs_nothing}
use Rattle.hw_session.proofs.ServingLaws.{before_less, no_frame_so, cut_so_far, IsPlain, all_written, is_answered}
use Rattle.hw_run_laws.specs.Calls.{serves, IsFairServed}
use Rattle.hw_run_laws.specs.Members.{short_session, WholeSessionsAreThere, NothingDisturbs, VerticesAreSaid}
use Rattle.hw_run_laws.specs.Restart.{vertices_among, arrivals}
use Rattle.hw_meeting_node.proofs.RangeLaws.{instance_in_range}
use Rattle.hw_run_laws.proofs.TakingLaws.{fair_served}

-- ---- a frame that was spelled

-- a frame is read from its length and its spelling
pub has_framed : (place : ℕ) (f : Frame) → FrameInRange f → FrameFits f → 1 ≤ length (frame_bytes f) → length (frame_bytes f) ≤ 1048576 → HasFrame place (framed f) f
has_framed place f range fits some few =
    let n = length (frame_bytes f) in
    let back : from_be_bytes w32 (u32_bytes n) ≡ n = from_be_bytes-to_be_bytes_4 n (omega (arith, few)) in
    frame_is_read place (u32_bytes n) (frame_bytes f) f
    (record { four = refl; within = ap (λ (k : ℕ). is_within 1 1048576 k) back ∙ and_whole (nat_le 1 n) (nat_le n 1048576) (le-leb 1 n some) (le-leb n 1048576 few) })
    (sym back) (frame_spelled_reads (frame_bytes f) f range (record { limits = fits; is = refl }))

above : (k : ℕ) → 0 < k → (k == 0) ≡ false
above k some = go (k == 0) refl
  where
    go : (b : Bool) → (k == 0) ≡ b → b ≡ false
    go false is = refl
    go true is = absurd (let zero = eqb-true k 0 is in omega (arith, zero, some))

-- where no byte is left the peer's bytes end
pub ends_here : (k : ℕ) → k < byte_limit → EndsIn k [] end.EndOfInput
unfolding frame_here
ends_here k less = frame_by-none frame_of (rest_at k []) refl ∙ ap (λ (b : Bool). Err (cond b end.ByteLimit end.EndOfInput)) (lt-leb byte_limit (k + 0) (omega (arith, less)))

none_left : (k : ℕ) → (frames_from (rest_at k [])).given ≡ []
unfolding frames_in frames_by
none_left k = refl

-- ---- a session that came to this

pub serves_so : (n m : NodeState) (held_old held_new : List ℕ → Option (List ℕ)) (read : List ℕ) (said : List (List Frame)) (ends : ℕ) (e : SessionEnd) → served n read ≡ record { state = m; said = said; end = e } → IsPlain e → length read ≤ byte_limit
    → IsEndOf n read 0 ends e → IsReadNoFurther (λ (bytes : List ℕ). (served n bytes).end) read → Leaves e true (standing n held_old) read (said_bytes said) (standing m held_new) → Serves true (standing n held_old) read (said_bytes said) (standing m held_new) 0 ends e
serves_so n m held_old held_new read said ends e whole plain few counted further left = record {
  within = few;
  ended = inl (ap (λ (t : Talk NodeState). t.end) (sym whole));
  end_counted = counted;
  no_further = stops_so e (λ (bytes : List ℕ). (served n bytes).end) read further;
  wrote = all_written e (served n read).said (said_bytes said) plain (ap (λ (t : Talk NodeState). said_bytes t.said) (sym whole));
  answered = is_answered e (served n read).said (said_bytes said) (subst (λ (t : Talk NodeState). length (said_bytes (before_last t.said)) ≤ length (said_bytes said)) (sym whole) (before_less said));
  left = left;
}

-- ---- a node that serves

module _ (n : NodeState) where
  abbrev pub hello : Frame
  hello = frame.Hello (instance_of n.core.config)

  hello_long : length (frame_bytes hello) ≡ 33
  hello_long = let size = (instance_in_range n.core.config).size in omega (arith, size)

  pub first_long : length (framed hello) ≡ 37
  first_long = let size = hello_long in omega (arith, size, length-append (u32_bytes (length (frame_bytes hello))) (frame_bytes hello))

  pub has_hello : HasFrame 0 (framed hello) hello
  has_hello = let size = hello_long in has_framed 0 hello (instance_in_range n.core.config) tt (omega (arith, size)) (omega (arith, size))

  greets : serve_step n (placed_behind [] hello) ≡ goes_on n (hello ∷ [])
  unfolding serve_step
  greets = ap (λ (b : Bool). cond b (goes_on n (hello ∷ [])) (ends n [] end.WrongInstance)) (digest_self (instance_of n.core.config))

  abbrev Heard : List ℕ → List (List Frame) → Type 0
  Heard read said = HasHeard [] serve_step n read said n

  abbrev Further : List ℕ → Type 0
  Further read = IsReadNoFurther (λ (bytes : List ℕ). (served n bytes).end) read

  pub heard_hello : Heard (framed hello) ([] ∷ (hello ∷ []) ∷ [])
  heard_hello = subst (λ (r : Reaction NodeState). HasHeard [] serve_step n (framed hello) ([] ∷ r.says ∷ []) r.state) greets
      ((reads_frame_by_frame NodeState).leads_on serve_step [] n [] ([] ∷ []) n (framed hello) hello ((reads_frame_by_frame NodeState).begins serve_step [] n) has_hello (ap (λ (r : Reaction NodeState). r.end) greets))

  -- bytes that are no more than a frame are read no further than it
  reads_part : (read : List ℕ) (said : List (List Frame)) → Heard read said → (part : List ℕ) → NoneBehind (length read) part → length (read ++ part) ≤ byte_limit → Further read → Further (read ++ part)
  reads_part read said heard part none few so_far = no_further (λ (bytes : List ℕ). (served n bytes).end) read part so_far (λ front back is some.
      let (e, ends) = part_cut (length read) part front back is some none in
      let all : length (read ++ (front ++ back)) ≤ byte_limit = subst (λ (p : List ℕ). length (read ++ p) ≤ byte_limit) is few in
      let fewer : length (read ++ front) ≤ byte_limit = omega (arith, length-append read (front ++ back), length-append front back, length-append read front) in
      subst IsCutEnd (sym (ap (λ (t : Talk NodeState). t.end) ((reads_frame_by_frame NodeState).no_frame_ends serve_step [] n read said n front e heard ends fewer))) (cut_so_far (rest_at (length read) front) e (no_frame_so (length read) front e ends)))

  further_hello : Further (framed hello)
  further_hello =
      let size = first_long in
      reads_part [] ([] ∷ []) ((reads_frame_by_frame NodeState).begins serve_step [] n) (framed hello) (frame_alone 0 (framed hello) hello has_hello) (omega (arith, size)) (none_further (λ (bytes : List ℕ). (served n bytes).end))

  -- ---- a second frame

  module _ (f : Frame) (range : FrameInRange f) (fits : FrameFits f) (some : 1 ≤ length (frame_bytes f)) (few : length (frame_bytes f) ≤ 1048576) where
    abbrev pub read : List ℕ
    read = framed hello ++ framed f

    pub long : length read ≤ 1048617
    long = let size = first_long in omega (arith, size, few, length-append (framed hello) (framed f), length-append (u32_bytes (length (frame_bytes f))) (frame_bytes f))

    pub has_second : HasFrame (length (framed hello)) (framed f) f
    has_second = has_framed (length (framed hello)) f range fits some (omega (arith, few))

    pub further_second : Further read
    further_second = let size = long in reads_part (framed hello) ([] ∷ (hello ∷ []) ∷ []) heard_hello (framed f) (frame_alone (length (framed hello)) (framed f) f has_second) (omega (arith, size)) further_hello

    -- it isn't the first one
    pub second : serve_step n (placed_behind (framed hello) f) ≡ serve_frame n (length (framed hello)) f
    unfolding serve_step
    second = let size = first_long in ap (λ (b : Bool). cond b (serve_first n f) (serve_frame n (length (framed hello)) f)) (above (length (framed hello)) (omega (arith, size)))

    -- the vertex of the peer is the one of this frame, if that has one
    abbrev pub behind_hello : ℕ
    behind_hello = 0 + length (framed hello)

    abbrev pub at_second : Placed
    at_second = record { at = behind_hello; frame = f }

    frames_second : frames_from (rest_at behind_hello (framed f)) ≡ with_next (Ok (at_second, rest_at (behind_hello + length (framed f)) [])) frames_from
    frames_second =
        ap (λ (bytes : List ℕ). frames_from (rest_at behind_hello bytes)) (sym (append-nil (framed f)))
        ∙ frames_next (rest_at behind_hello (framed f ++ []))
        ∙ ap (λ (x : Result (Placed × Rest) SessionEnd). with_next x frames_from) (has_framed behind_hello f range fits some (omega (arith, few)) [])

    frames_read : frames_of read ≡ with_next (Ok (record { at = 0; frame = hello }, rest_at behind_hello (framed f))) frames_from
    frames_read =
        let size = long in
        ap (λ (bytes : List ℕ). frames_from (rest_at 0 bytes)) (take_all byte_limit read (omega (arith, size)))
        ∙ frames_next (rest_at 0 read)
        ∙ ap (λ (x : Result (Placed × Rest) SessionEnd). with_next x frames_from) (has_hello (framed f))

    pub sent : vertices_among (frames_of read).given ≡ vertices_among (at_second ∷ [])
    sent =
        ap (λ (o : Frames). vertices_among o.given) frames_read
        ∙ ap (λ (o : Frames). vertices_among o.given) frames_second
        ∙ ap (λ (others : List Placed). vertices_among (at_second ∷ others)) (none_left (behind_hello + length (framed f)))

  -- ---- a whole session

  abbrev whole_said : List (List Frame)
  whole_said = [] ∷ (hello ∷ []) ∷ (frame.Done ∷ []) ∷ []

  done_whole : served n (short_session n) ≡ record { state = n; said = whole_said; end = end.Done }
  done_whole =
      let size = long frame.Done tt tt (omega arith) (omega arith) in
      let over = (reads_frame_by_frame NodeState).frame_ends serve_step [] n (framed hello) ([] ∷ (hello ∷ []) ∷ []) n (framed frame.Done) frame.Done end.Done heard_hello (has_second frame.Done tt tt (omega arith) (omega arith))
      (ap (λ (r : Reaction NodeState). r.end) (second frame.Done tt tt (omega arith) (omega arith))) [] (subst (λ (part : List ℕ). length (framed hello ++ part) ≤ byte_limit) (sym (append-nil (framed frame.Done))) (omega (arith, size))) in
      ap (λ (part : List ℕ). served n (framed hello ++ part)) (sym (append-nil (framed frame.Done)))
      ∙ over
      ∙ ap (λ (r : Reaction NodeState). record { state = r.state; said = [] ∷ (hello ∷ []) ∷ r.says ∷ []; end = end.Done }) (second frame.Done tt tt (omega arith) (omega arith))

pub whole_sessions : WholeSessionsAreThere
whole_sessions n held =
    let said = whole_said n in
    let size = long n frame.Done tt tt (omega arith) (omega arith) in
    record {
      written = said_bytes said;
      serves = serves_so n n held held (short_session n) said 0 end.Done (done_whole n) tt (omega (arith, size)) tt (further_second n frame.Done tt tt (omega arith) (omega arith))
          (ap (λ (t : Talk NodeState). t.state) (sym (done_whole n)), logs_nothing true n held held (λ told name. refl));
      ended = ap (λ (t : Talk NodeState). t.end) (done_whole n);
    }

pub undisturbed : NothingDisturbs
undisturbed = record {
  goes_on = λ (e : 0 ≡ raised 0). omega (arith, e);
  door_old = 0;
  door_new = 0;
  link = refl;
  no_link = λ (rose : raised 0 ≤ 0). omega (arith, rose);
  log_old = 0;
  log_new = 0;
  log = refl;
  no_log = λ (rose : raised 0 ≤ 0). omega (arith, rose);
}

-- ---- a peer that asks

module _ (n : NodeState) (place : ℕ) (range : place < 2 ^ 64) where
  abbrev have : Frame
  have = frame.Have place

  abbrev asked : List ℕ
  asked = framed (hello n) ++ framed have

  abbrev answer : List Frame
  answer = answer_to_have n.core.journal place

  abbrev asked_said : List (List Frame)
  asked_said = [] ∷ (hello n ∷ []) ∷ answer ∷ []

  asked_long : length asked ≤ 1048617
  asked_long = long n have range tt (omega arith) (omega arith)

  has_have : (k : ℕ) → HasFrame k (framed have) have
  has_have k = has_framed k have range tt (omega arith) (omega arith)

  answers : serve_step n (placed_behind (framed (hello n)) have) ≡ goes_on n answer
  answers = second n have range tt (omega arith) (omega arith)

  heard_asked : HasHeard [] serve_step n asked asked_said n
  heard_asked = subst (λ (r : Reaction NodeState). HasHeard [] serve_step n asked ([] ∷ (hello n ∷ []) ∷ r.says ∷ []) r.state) answers
      ((reads_frame_by_frame NodeState).leads_on serve_step [] n (framed (hello n)) ([] ∷ (hello n ∷ []) ∷ []) n (framed have) have (heard_hello n) (has_have (length (framed (hello n)))) (ap (λ (r : Reaction NodeState). r.end) answers))

  asked_whole : served n asked ≡ record { state = n; said = asked_said; end = end.EndOfInput }
  asked_whole =
      let size = asked_long in
      ap (served n) (sym (append-nil asked))
      ∙ (reads_frame_by_frame NodeState).no_frame_ends serve_step [] n asked asked_said n [] end.EndOfInput heard_asked (ends_here (length asked) (omega (arith, size)))
      (subst (λ (bytes : List ℕ). length bytes ≤ byte_limit) (sym (append-nil asked)) (omega (arith, size)))

  asks_fairly : (me : ℕ) → IsFairServed me n asked
  asks_fairly me = fair_served me n asked (subst (λ (vs : List Vertex). AreFair (setting_of n.core.config) me (logged_of n) (arrivals n vs)) (sym (sent n have range tt (omega arith) (omega arith))) tt)

  serves_asked : (held : List ℕ → Option (List ℕ)) → Serves true (standing n held) asked (said_bytes asked_said) (standing n held) 0 (raised 0) end.EndOfInput
  serves_asked held =
      let size = asked_long in
      serves_so n n held held asked asked_said (raised 0) end.EndOfInput asked_whole tt (omega (arith, size)) refl (further_second n have range tt (omega arith) (omega arith))
      (ap (λ (t : Talk NodeState). t.state) (sym asked_whole), logs_nothing true n held held (λ told name. refl))

pub vertices_said : VerticesAreSaid
vertices_said me a place v range among =
    let n = a.node in (
      serves (asked n place range) (said_bytes (asked_said n place range)) 0 (raised 0) end.EndOfInput (serves_asked n place range a.held) (asks_fairly n place range me),
      (
        answer n place range,
        subst (λ (t : Talk NodeState). Among (answer n place range) t.said) (sym (asked_whole n place range)) (inr (inr (inl refl))),
        from_left (frame.Vertex v) (map frame.Vertex (part_from n.core.journal place)) (frame.Have (place + length (part_from n.core.journal place)) ∷ []) (among_map frame.Vertex v (part_from n.core.journal place) among),
      ),
      tt,
    )
