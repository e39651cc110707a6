-- A whole session that a node drives.
use Rattle.std.specs.Prelude.{◌-◌, min}
use Rattle.std.proofs.Common.{◌≡◌, ℕ, ◌<◌, ◌≤◌, ◌^◌, Bool, true, cond, List, [], ◌∷◌, ◌++◌, length, take, Option, inl, refl, sym, ap, subst, ◌∙◌, arith, length-append}
use Rattle.std.proofs.lemmas.Bool.{eq-eqb}
use Rattle.std.proofs.lemmas.List.{append-nil}
use Rattle.hw_types.specs.declared.unit.Need.{Need}
use Rattle.hw_types.specs.declared.answers.Frame.{Frame}
use Rattle.hw_types.specs.declared.answers.Frame.TheVariants as frame
use Rattle.hw_types.specs.Spelling.{instance_of}
use Rattle.hw_types.proofs.SettledLaws.{digest_self}
use Rattle.hw_core.specs.Readers.{unmet_in}
use Rattle.hw_link.specs.declared.end.SessionEnd.TheVariants as end
use Rattle.hw_link.specs.Frames.{framed, rest_at, byte_limit}
use Rattle.hw_link.specs.Talk.{Reaction, Talk, goes_on, ends, said_bytes, before_last}
use Rattle.hw_link.specs.UnderWay.{HasFrame, HasHeard, placed_behind}
use Rattle.hw_link.proofs.HeardLaws.{reads_frame_by_frame}
use Rattle.hw_session.specs.declared.stage.PeerMark.{PeerMark}
use Rattle.hw_session.specs.Node.{NodeState}
use Rattle.hw_session.specs.Driving.{Driver, want_some, want, pull, push, with_pulled, leave, drive_step, hello as first_word, greeting, driven}
use Rattle.hw_session.specs.Sessions.{IsCutEnd, IsReadNoFurther}
use Rattle.hw_session.proofs.FurtherLaws.{NoneBehind, frame_alone, part_cut, none_further, no_further}
use Rattle.hw_session.proofs.GrowsLaws.{logs_nothing}
use Rattle.hw_session.proofs.ServingLaws.{before_less, no_frame_so, cut_so_far}
use Rattle.hw_run_laws.specs.Members.{told_all, driven_session, IsWholeDriven, WholeDrivesAreThere}
use Rattle.hw_run_laws.proofs.ShortLaws.{has_framed, hello, first_long, has_hello}

-- ---- frame by frame

module _ (n : NodeState) (mark : PeerMark) where
  abbrev Heard : List ℕ → List (List Frame) → Driver → Type 0
  Heard read said d = HasHeard (first_word n) drive_step (greeting n mark) read said d

  abbrev Further : List ℕ → Type 0
  Further read = IsReadNoFurther (λ (bytes : List ℕ). (driven n mark bytes).end) read

  begins : Heard [] (first_word n ∷ []) (greeting n mark)
  begins = (reads_frame_by_frame Driver).begins drive_step (first_word n) (greeting n mark)

  -- what is known behind a frame that ends nothing
  record Behind (read : List ℕ) (said : List (List Frame)) (d : Driver) : Type 0 where
    heard : Heard read said d
    further : Further read

  reads_on : (read part : List ℕ) (said : List (List Frame)) (d : Driver) → Behind read said d → NoneBehind (length read) part → length (read ++ part) ≤ byte_limit → Further (read ++ part)
  reads_on read part said d b none few = no_further (λ (bytes : List ℕ). (driven n mark bytes).end) read part b.further (λ front back is some.
      let (e, ends) = part_cut (length read) part front back is some none in
      let all : length (read ++ (front ++ back)) ≤ byte_limit = subst (λ (p : List ℕ). length (read ++ p) ≤ byte_limit) is few in
      let fewer : length (read ++ front) ≤ byte_limit = omega (arith, length-append read (front ++ back), length-append front back, length-append read front) in
      subst IsCutEnd (sym (ap (λ (t : Talk Driver). t.end) ((reads_frame_by_frame Driver).no_frame_ends drive_step (first_word n) (greeting n mark) read said d front e b.heard ends fewer))) (cut_so_far (rest_at (length read) front) e (no_frame_so (length read) front e ends)))

  goes : (read : List ℕ) (said : List (List Frame)) (d : Driver) → Behind read said d → (f : Frame) → HasFrame (length read) (framed f) f → length (read ++ framed f) ≤ byte_limit → (next : Driver) (says : List Frame)
      → drive_step d (placed_behind read f) ≡ goes_on next says → Behind (read ++ framed f) (said ++ says ∷ []) next
  goes read said d b f has few next says is = record {
    heard = subst (λ (r : Reaction Driver). Heard (read ++ framed f) (said ++ r.says ∷ []) r.state) is
        ((reads_frame_by_frame Driver).leads_on drive_step (first_word n) (greeting n mark) read said d (framed f) f b.heard has (ap (λ (r : Reaction Driver). r.end) is));
    further = reads_on read (framed f) said d b (frame_alone (length read) (framed f) f has) few;
  }

-- ---- the session

module _ (n : NodeState) (pulled : ℕ) (range : pulled < 2 ^ 64) (met : unmet_in n.core ≡ []) where
  abbrev mark : PeerMark
  mark = told_all n pulled

  abbrev have : Frame
  have = frame.Have pulled

  abbrev one : List ℕ
  one = framed (hello n)

  abbrev two : List ℕ
  two = one ++ framed have

  two_long : length two ≡ 50
  two_long = let size = first_long n in omega (arith, size, length-append one (framed have))

  three_long : length (two ++ framed frame.Done) ≡ 55
  three_long = let size = two_long in omega (arith, size, length-append two (framed frame.Done))

  -- the three places where it stands behind Hello
  abbrev at_pulling : Driver
  at_pulling = (pull (greeting n mark) 64).state

  abbrev at_leaving : Driver
  at_leaving = (leave (greeting n mark)).state

  greets : drive_step (greeting n mark) (placed_behind [] (hello n)) ≡ goes_on at_pulling (have ∷ [])
  unfolding drive_step
  greets =
      let d = greeting n mark in
      let none : min 256 (length n.core.journal - length n.core.journal) ≡ 0 = omega arith in
      ap (λ (b : Bool). cond b (push d (min 256 (length n.core.journal - length n.core.journal))) (ends d [] end.WrongInstance)) (digest_self (instance_of n.core.config))
      ∙ ap (push d) none

  pulls : drive_step at_pulling (placed_behind one have) ≡ goes_on at_leaving (frame.Done ∷ [])
  unfolding drive_step
  pulls =
      ap (λ (b : Bool). cond b (want (with_pulled at_pulling pulled)) (pull (with_pulled at_pulling pulled) 63)) (eq-eqb pulled pulled refl)
      ∙ ap (λ (needs : List Need). want_some at_pulling (take 64 needs)) met

  leaves : drive_step at_leaving (placed_behind two frame.Done) ≡ ends at_leaving [] end.Done
  unfolding drive_step
  leaves = refl

  behind_one : Behind n mark one (first_word n ∷ (have ∷ []) ∷ []) at_pulling
  behind_one =
      let size = first_long n in
      goes n mark [] (first_word n ∷ []) (greeting n mark) (record { heard = begins n mark; further = none_further (λ (bytes : List ℕ). (driven n mark bytes).end) }) (hello n) (has_hello n) (omega (arith, size)) at_pulling (have ∷ []) greets

  behind_two : Behind n mark two (first_word n ∷ (have ∷ []) ∷ (frame.Done ∷ []) ∷ []) at_leaving
  behind_two =
      let size = two_long in
      goes n mark one (first_word n ∷ (have ∷ []) ∷ []) at_pulling behind_one have (has_framed (length one) have range tt (omega arith) (omega arith)) (omega (arith, size)) at_leaving (frame.Done ∷ []) pulls

  has_done : HasFrame (length two) (framed frame.Done) frame.Done
  has_done = has_framed (length two) frame.Done tt tt (omega arith) (omega arith)

  abbrev said : List (List Frame)
  said = first_word n ∷ (have ∷ []) ∷ (frame.Done ∷ []) ∷ [] ∷ []

  whole : driven n mark (driven_session n pulled) ≡ record { state = at_leaving; said = said; end = end.Done }
  whole =
      let size = three_long in
      let over = (reads_frame_by_frame Driver).frame_ends drive_step (first_word n) (greeting n mark) two (first_word n ∷ (have ∷ []) ∷ (frame.Done ∷ []) ∷ []) at_leaving (framed frame.Done) frame.Done end.Done behind_two.heard has_done
      (ap (λ (r : Reaction Driver). r.end) leaves) [] (subst (λ (part : List ℕ). length (two ++ part) ≤ byte_limit) (sym (append-nil (framed frame.Done))) (omega (arith, size))) in
      ap (λ (part : List ℕ). driven n mark (two ++ part)) (sym (append-nil (framed frame.Done)))
      ∙ over
      ∙ ap (λ (r : Reaction Driver). record { state = r.state; said = first_word n ∷ (have ∷ []) ∷ (frame.Done ∷ []) ∷ r.says ∷ []; end = end.Done }) leaves

  further : IsReadNoFurther (λ (bytes : List ℕ). (driven n mark bytes).end) (driven_session n pulled)
  further = let size = three_long in reads_on n mark two (framed frame.Done) (first_word n ∷ (have ∷ []) ∷ (frame.Done ∷ []) ∷ []) at_leaving behind_two (frame_alone (length two) (framed frame.Done) frame.Done has_done) (omega (arith, size))

  is_whole : (held : List ℕ → Option (List ℕ)) → IsWholeDriven n pulled held
  is_whole held =
      let size = three_long in
      record {
        written = said_bytes said;
        drives = record {
          within = omega (arith, size);
          ended = inl (ap (λ (t : Talk Driver). t.end) (sym whole));
          end_counted = tt;
          no_further = further;
          wrote = ap (λ (t : Talk Driver). said_bytes t.said) (sym whole);
          answered = subst (λ (t : Talk Driver). length (said_bytes (before_last t.said)) ≤ length (said_bytes said)) (sym whole) (before_less said);
          left = (ap (λ (t : Talk Driver). t.state.node) (sym whole), logs_nothing true n held held (λ told name. refl));
          marks = ap (λ (t : Talk Driver). t.state.mark) (sym whole);
        };
        ended = ap (λ (t : Talk Driver). t.end) whole;
      }

pub whole_drives : WholeDrivesAreThere
whole_drives n pulled held range met = is_whole n pulled range met held
