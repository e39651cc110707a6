-- A meeting that ended as both said.
use Rattle.std.proofs.Common.{◌≡◌, ℕ, zero, suc, ◌≤◌, Bool, true, false, cond, inl, inr, List, [], ◌∷◌, ◌++◌, length, map, Result, Ok, Err, refl, sym, ap, subst, ◌∙◌, arith, length-append}
use Rattle.std.specs.Prelude.{fold, is_ok}
use Rattle.std.proofs.lemmas.List.{append-nil}
use Rattle.hw_types.specs.declared.unit.Digest.{Digest}
use Rattle.hw_types.specs.declared.unit.Vertex.{Vertex}
use Rattle.hw_types.specs.declared.answers.Receipt.{Receipt}
use Rattle.hw_types.specs.declared.answers.Cause.{Cause}
use Rattle.hw_types.specs.declared.answers.Cause.TheVariants as cause
use Rattle.hw_types.specs.Graph.{digest_eq}
use Rattle.hw_types.specs.Journal.{journal_after, answers_from}
use Rattle.hw_types.specs.Spelling.{instance_of}
use Rattle.hw_types.specs.Real.{CoreState, setting_of, answer_in, after_in}
use Rattle.hw_types.proofs.SettledLaws.{digest_same}
use Rattle.hw_io.specs.Faults.{raised}
use Rattle.hw_link.specs.declared.end.SessionEnd.{SessionEnd}
use Rattle.hw_link.specs.declared.end.SessionEnd.TheVariants as by
use Rattle.hw_link.specs.Frames.{rest_at, byte_limit, cut_end, with_next, frames_by}
use Rattle.hw_types.specs.Reading.{Rest}
use Rattle.hw_agree.specs.declared.summary.LaneSummary.{LaneSummary}
use Rattle.hw_meeting.specs.declared.frame.MeetingFrame.{MeetingFrame}
use Rattle.hw_meeting.specs.declared.frame.MeetingFrame.TheVariants as frame
use Rattle.hw_meeting_node.specs.Frames.{Placed, frame_here}
use Rattle.hw_meeting_node.specs.declared.end.MeetEnd.{MeetEnd}
use Rattle.hw_meeting_node.specs.declared.end.MeetEnd.TheVariants as end
use Rattle.hw_meeting_node.specs.declared.meeter.Side.{Side}
use Rattle.hw_meeting_node.specs.declared.meeter.Side.TheVariants.{Caller, Host}
use Rattle.hw_meeting_node.specs.declared.meeter.Stage.TheVariants as stage
use Rattle.hw_meeting_node.specs.Talk.{frames_in, frames_of, Talk, goes_on, ends, with_reaction, talk}
use Rattle.hw_meeting_node.specs.Meeting.{Meeting, begun, told_of, owed_by, all_due, first_word, to_hello, to_summary, to_torn, to_done, answered, greeted, at_greeting, at_telling, at_tearing, at_taking, meet_step, met}
use Rattle.hw_meeting_node.specs.Sessions.{meet_end, IsOfOutside, EndsAs, IsFinal}
use Rattle.hw_meeting_node.specs.Laws.{judged, all_words, MeetingsAreDone, MeetingsAreComplete}
use Rattle.hw_meeting_node.proofs.EndLaws.{IsOfBytes, here_so, cut_so}

-- ---- the end behind all frames is not that both said so

no_done : (r : Rest) (e : SessionEnd) → IsOfBytes r e → e ≡ by.Done → ⊥
no_done r by.EndOfInput so is = cc
no_done r (by.BadFrame at) so is = cc
no_done r by.ByteLimit so is = cc
no_done r by.Done so is = absurd so
no_done r by.WrongInstance so is = absurd so
no_done r by.LinkFault so is = absurd so
no_done r by.AppendFault so is = absurd so
no_done r by.Clash so is = absurd so
no_done r by.OutOfMemory so is = absurd so

behind_all : (validators steps : ℕ) (r : Rest) → (frames_in validators steps r).end ≡ by.Done → ⊥
unfolding frames_by
behind_all validators zero r is = no_done r (cut_end r) (cut_so r) is
behind_all validators (suc steps) r is = go (λ rest h. behind_all validators steps rest h) (frame_here validators r) refl is
  where
    go : ((rest : Rest) → (frames_in validators steps rest).end ≡ by.Done → ⊥) → (x : Result (Placed × Rest) SessionEnd) → frame_here validators r ≡ x → (with_next x (frames_in validators steps)).end ≡ by.Done → ⊥
    go others (Ok (f, rest)) e h = others rest h
    go others (Err d) e h = no_done r d (subst (λ (x : Result (Placed × Rest) SessionEnd). Rattle.hw_meeting_node.proofs.EndLaws.EndsSo r x) e (here_so validators r)) h

-- ---- by frames

module _ (side : Side) (judge : Vertex → Bool) (last : SessionEnd) (not_done : last ≡ by.Done → ⊥) where
  abbrev over : Meeting → List Placed → Talk Meeting
  over m fs = talk (meet_step side judge) last m fs

  abbrev frames : List Placed → List MeetingFrame
  frames fs = map (λ f. f.frame) fs

  -- so many are refused behind these
  abbrev refusals_from : ℕ → List (Result Receipt Cause) → ℕ
  refusals_from k answers = fold (λ k a. cond (is_ok a) k (raised k)) k answers

  abbrev taking : CoreState → ℕ → List LaneSummary → List Vertex → Meeting
  taking c k theirs due = record { stage = stage.Taking; core = c; refused = k; theirs = theirs; due = due }

  record Taken (c : CoreState) (k : ℕ) (theirs : List LaneSummary) (due : List Vertex) (fs : List Placed) : Type 0 where
    vertices : List Vertex
    rest : List MeetingFrame
    heard : frames fs ≡ map frame.Vertex vertices ++ frame.Done ∷ rest
    said : (over (taking c k theirs due) fs).said ≡ to_done side due
    config : (over (taking c k theirs due) fs).state.core.config ≡ c.config
    journal : (over (taking c k theirs due) fs).state.core.journal ≡ fold (journal_after (setting_of c.config)) c.journal (judged judge vertices)
    asked : (over (taking c k theirs due) fs).state.core.asked ≡ c.asked
    refused : (over (taking c k theirs due) fs).state.refused ≡ refusals_from k (answers_from (setting_of c.config) c.journal (judged judge vertices))

  taken : (c : CoreState) (k : ℕ) (theirs : List LaneSummary) (due : List Vertex) (fs : List Placed) → (over (taking c k theirs due) fs).end ≡ by.Done → Taken c k theirs due fs
  unfolding talk meet_step answers_from
  taken c k theirs due [] is = absurd (not_done is)
  taken c k theirs due (f ∷ fs) is = go (λ v n h. taken (after_in c v (judge v)) n theirs due fs h) f.frame refl is
    where
      m : Meeting
      m = taking c k theirs due

      next : Meeting → Talk Meeting
      next x = talk (meet_step side judge) last x fs

      by_frame : MeetingFrame → Talk Meeting
      by_frame x = with_reaction (at_taking side judge m f.at x) next

      after : Vertex → CoreState
      after v = after_in c v (judge v)

      -- a vertex that leaves so many refused
      one : (v : Vertex) (n : ℕ) → f.frame ≡ frame.Vertex v → over m (f ∷ fs) ≡ next (taking (after v) n theirs due) → n ≡ cond (is_ok (answer_in c v (judge v))) k (raised k) → Taken (after v) n theirs due fs → Taken c k theirs due (f ∷ fs)
      one v n here whole count t = record {
        vertices = v ∷ t.vertices;
        rest = t.rest;
        heard = ap (λ (x : MeetingFrame). x ∷ frames fs) here ∙ ap (λ (xs : List MeetingFrame). frame.Vertex v ∷ xs) t.heard;
        said = ap (λ (x : Talk Meeting). x.said) whole ∙ t.said;
        config = ap (λ (x : Talk Meeting). x.state.core.config) whole ∙ t.config;
        journal = ap (λ (x : Talk Meeting). x.state.core.journal) whole ∙ t.journal;
        asked = ap (λ (x : Talk Meeting). x.state.core.asked) whole ∙ t.asked;
        refused = ap (λ (x : Talk Meeting). x.state.refused) whole ∙ t.refused ∙ ap (λ (x : ℕ). refusals_from x (answers_from (setting_of c.config) (after v).journal (judged judge t.vertices))) count;
      }

      -- the talk by the answer
      by_answer : (v : Vertex) → f.frame ≡ frame.Vertex v → (a : Result Receipt Cause) → answer_in c v (judge v) ≡ a → over m (f ∷ fs) ≡ with_reaction (answered (taking (after v) k theirs due) a) next
      by_answer v here a answer = ap by_frame here ∙ ap (λ (x : Result Receipt Cause). with_reaction (answered (taking (after v) k theirs due) x) next) answer

      counted : (v : Vertex) (a : Result Receipt Cause) → answer_in c v (judge v) ≡ a → cond (is_ok a) k (raised k) ≡ cond (is_ok (answer_in c v (judge v))) k (raised k)
      counted v a answer = ap (λ (x : Result Receipt Cause). cond (is_ok x) k (raised k)) (sym answer)

      Others : Type 0
      Others = (v : Vertex) (n : ℕ) → (next (taking (after v) n theirs due)).end ≡ by.Done → Taken (after v) n theirs due fs

      -- a vertex, by its answer
      vertex : Others → (v : Vertex) → f.frame ≡ frame.Vertex v → (a : Result Receipt Cause) → answer_in c v (judge v) ≡ a → (with_reaction (answered (taking (after v) k theirs due) a) next).end ≡ by.Done → Taken c k theirs due (f ∷ fs)
      vertex others v here (Ok r) answer h = one v k here (by_answer v here (Ok r) answer) (counted v (Ok r) answer) (others v k h)
      vertex others v here (Err cause.BadSignature) answer h = one v (raised k) here (by_answer v here (Err cause.BadSignature) answer) (counted v (Err cause.BadSignature) answer) (others v (raised k) h)
      vertex others v here (Err (cause.Local rule)) answer h = one v (raised k) here (by_answer v here (Err (cause.Local rule)) answer) (counted v (Err (cause.Local rule)) answer) (others v (raised k) h)
      vertex others v here (Err (cause.Pair fault)) answer h = one v (raised k) here (by_answer v here (Err (cause.Pair fault)) answer) (counted v (Err (cause.Pair fault)) answer) (others v (raised k) h)
      vertex others v here (Err (cause.Clash known)) answer h = absurd cc
      vertex others v here (Err cause.RecordsFull) answer h = one v (raised k) here (by_answer v here (Err cause.RecordsFull) answer) (counted v (Err cause.RecordsFull) answer) (others v (raised k) h)
      vertex others v here (Err cause.ParkFull) answer h = one v (raised k) here (by_answer v here (Err cause.ParkFull) answer) (counted v (Err cause.ParkFull) answer) (others v (raised k) h)
      vertex others v here (Err cause.OutOfMemory) answer h = one v (raised k) here (by_answer v here (Err cause.OutOfMemory) answer) (counted v (Err cause.OutOfMemory) answer) (others v (raised k) h)

      go : Others → (x : MeetingFrame) → f.frame ≡ x → (by_frame x).end ≡ by.Done → Taken c k theirs due (f ∷ fs)
      go others (frame.Vertex v) here h = vertex others v here (answer_in c v (judge v)) refl h
      go others frame.Done here h = record {
        vertices = [];
        rest = frames fs;
        heard = ap (λ (x : MeetingFrame). x ∷ frames fs) here;
        said = ap (λ (x : MeetingFrame). (by_frame x).said) here;
        config = ap (λ (x : MeetingFrame). (by_frame x).state.core.config) here;
        journal = ap (λ (x : MeetingFrame). (by_frame x).state.core.journal) here;
        asked = ap (λ (x : MeetingFrame). (by_frame x).state.core.asked) here;
        refused = ap (λ (x : MeetingFrame). (by_frame x).state.refused) here;
      }
      go others (frame.Hello d) here h = absurd cc
      go others (frame.Summary parts) here h = absurd cc
      go others (frame.Torn numbers) here h = absurd cc

  -- ---- from the first frame on

  abbrev telling : CoreState → Meeting
  telling c = record { stage = stage.Telling; core = c; refused = 0; theirs = []; due = [] }

  abbrev tearing : CoreState → List LaneSummary → Meeting
  tearing c theirs = record { stage = stage.Tearing; core = c; refused = 0; theirs = theirs; due = [] }

  abbrev behind : List MeetingFrame → Talk Meeting → Talk Meeting
  behind says t = record { state = t.state; said = says ++ t.said; end = t.end }

  record Third (c : CoreState) (theirs : List LaneSummary) (fs : List Placed) : Type 0 where
    torn : List ℕ
    others : List Placed
    heard : frames fs ≡ frame.Torn torn ∷ frames others
    whole : over (tearing c theirs) fs ≡ behind (to_torn side c theirs (owed_by c theirs torn)) (over (taking c 0 theirs (owed_by c theirs torn)) others)

  third : (c : CoreState) (theirs : List LaneSummary) (fs : List Placed) → (over (tearing c theirs) fs).end ≡ by.Done → Third c theirs fs
  unfolding talk meet_step
  third c theirs [] is = absurd (not_done is)
  third c theirs (f ∷ fs) is = go f.frame refl is
    where
      by_frame : MeetingFrame → Talk Meeting
      by_frame x = with_reaction (at_tearing side (tearing c theirs) f.at x) (λ next. over next fs)

      go : (x : MeetingFrame) → f.frame ≡ x → (by_frame x).end ≡ by.Done → Third c theirs (f ∷ fs)
      go (frame.Torn torn) here h = record { torn = torn; others = fs; heard = ap (λ (x : MeetingFrame). x ∷ frames fs) here; whole = ap by_frame here }
      go (frame.Hello d) here h = absurd cc
      go (frame.Summary parts) here h = absurd cc
      go (frame.Vertex v) here h = absurd cc
      go frame.Done here h = absurd cc

  record Second (c : CoreState) (fs : List Placed) : Type 0 where
    theirs : List LaneSummary
    others : List Placed
    heard : frames fs ≡ frame.Summary theirs ∷ frames others
    whole : over (telling c) fs ≡ behind (to_summary side c theirs) (over (tearing c theirs) others)

  second : (c : CoreState) (fs : List Placed) → (over (telling c) fs).end ≡ by.Done → Second c fs
  unfolding talk meet_step
  second c [] is = absurd (not_done is)
  second c (f ∷ fs) is = go f.frame refl is
    where
      by_frame : MeetingFrame → Talk Meeting
      by_frame x = with_reaction (at_telling side (telling c) f.at x) (λ next. over next fs)

      go : (x : MeetingFrame) → f.frame ≡ x → (by_frame x).end ≡ by.Done → Second c (f ∷ fs)
      go (frame.Summary parts) here h = record { theirs = parts; others = fs; heard = ap (λ (x : MeetingFrame). x ∷ frames fs) here; whole = ap by_frame here }
      go (frame.Hello d) here h = absurd cc
      go (frame.Torn torn) here h = absurd cc
      go (frame.Vertex v) here h = absurd cc
      go frame.Done here h = absurd cc

  record First (c : CoreState) (fs : List Placed) : Type 0 where
    others : List Placed
    heard : frames fs ≡ frame.Hello (instance_of c.config) ∷ frames others
    whole : over (begun c) fs ≡ behind (to_hello side c) (over (telling c) others)

  opens : (c : CoreState) (fs : List Placed) → (over (begun c) fs).end ≡ by.Done → First c fs
  unfolding talk meet_step
  opens c [] is = absurd (not_done is)
  opens c (f ∷ fs) is = go f.frame refl is
    where
      by_frame : MeetingFrame → Talk Meeting
      by_frame x = with_reaction (at_greeting side (begun c) f.at x) (λ next. over next fs)

      by_test : Bool → Talk Meeting
      by_test b = with_reaction (cond b (goes_on (telling c) (to_hello side c)) (ends (begun c) [] by.WrongInstance)) (λ next. over next fs)

      hello : (d : Digest) → f.frame ≡ frame.Hello d → (b : Bool) → digest_eq d (instance_of c.config) ≡ b → (by_test b).end ≡ by.Done → First c (f ∷ fs)
      hello d here true same h = record {
        others = fs;
        heard = ap (λ (x : MeetingFrame). x ∷ frames fs) (here ∙ ap frame.Hello (digest_same d (instance_of c.config) same));
        whole = ap by_frame here ∙ ap by_test same;
      }
      hello d here false same h = absurd cc

      go : (x : MeetingFrame) → f.frame ≡ x → (by_frame x).end ≡ by.Done → First c (f ∷ fs)
      go (frame.Hello d) here h = hello d here (digest_eq d (instance_of c.config)) refl h
      go (frame.Summary parts) here h = absurd cc
      go (frame.Torn torn) here h = absurd cc
      go (frame.Vertex v) here h = absurd cc
      go frame.Done here h = absurd cc

-- what was said in all
words : (side : Side) (c : CoreState) (theirs : List LaneSummary) (torn : List ℕ)
    → first_word side c ++ (to_hello side c ++ (to_summary side c theirs ++ (to_torn side c theirs (owed_by c theirs torn) ++ to_done side (owed_by c theirs torn)))) ≡ all_words c theirs torn
words Caller c theirs torn = ap (λ (xs : List MeetingFrame). frame.Hello (instance_of c.config) ∷ frame.Summary (told_of c) ∷ frame.Torn (Rattle.hw_meeting_node.specs.Meeting.torn_by c theirs) ∷ xs) (append-nil (all_due (owed_by c theirs torn)))
words Host c theirs torn = refl

pub done : MeetingsAreDone
done side c judge bytes is =
    let n = length c.config.weights in
    let fs = (frames_of n bytes).given in
    let last = (frames_of n bytes).end in
    let never : last ≡ by.Done → ⊥ = behind_all n (length (Rattle.std.specs.Prelude.take byte_limit bytes)) (rest_at 0 (Rattle.std.specs.Prelude.take byte_limit bytes)) in
    let one = opens side judge last never c fs is in
    let two = second side judge last never c one.others (ap (λ (t : Talk Meeting). t.end) (sym one.whole) ∙ is) in
    let three = third side judge last never c two.theirs two.others (ap (λ (t : Talk Meeting). t.end) (sym two.whole) ∙ ap (λ (t : Talk Meeting). t.end) (sym one.whole) ∙ is) in
    let due = owed_by c two.theirs three.torn in
    let rest = taken side judge last never c 0 two.theirs due three.others (ap (λ (t : Talk Meeting). t.end) (sym three.whole) ∙ ap (λ (t : Talk Meeting). t.end) (sym two.whole) ∙ ap (λ (t : Talk Meeting). t.end) (sym one.whole) ∙ is) in
    let states = ap (λ (t : Talk Meeting). t.state) one.whole ∙ ap (λ (t : Talk Meeting). t.state) two.whole ∙ ap (λ (t : Talk Meeting). t.state) three.whole in
    record {
      theirs = two.theirs;
      torn = three.torn;
      vertices = rest.vertices;
      rest = rest.rest;
      heard = one.heard ∙ ap (λ (xs : List MeetingFrame). frame.Hello (instance_of c.config) ∷ xs) (two.heard ∙ ap (λ (xs : List MeetingFrame). frame.Summary two.theirs ∷ xs) (three.heard ∙ ap (λ (xs : List MeetingFrame). frame.Torn three.torn ∷ xs) rest.heard));
      said =
          ap (λ (xs : List MeetingFrame). first_word side c ++ xs)
          (ap (λ (t : Talk Meeting). t.said) one.whole
          ∙ ap (λ (xs : List MeetingFrame). to_hello side c ++ xs)
          (ap (λ (t : Talk Meeting). t.said) two.whole
          ∙ ap (λ (xs : List MeetingFrame). to_summary side c two.theirs ++ xs)
          (ap (λ (t : Talk Meeting). t.said) three.whole ∙ ap (λ (xs : List MeetingFrame). to_torn side c two.theirs due ++ xs) rest.said)))
          ∙ words side c two.theirs three.torn;
      config = ap (λ (m : Meeting). m.core.config) states ∙ rest.config;
      journal = ap (λ (m : Meeting). m.core.journal) states ∙ rest.journal;
      asked = ap (λ (m : Meeting). m.core.asked) states ∙ rest.asked;
      refused = ap (λ (m : Meeting). m.refused) states ∙ rest.refused;
    }

-- ---- completeness

-- a session whose bytes, with more, end as both said
no_other : (side : Side) (c : CoreState) (judge : Vertex → Bool) (read : List ℕ) (e : MeetEnd) → EndsAs e (met side c judge read) → (IsOfOutside e → ⊥) → (met side c judge read).end ≡ by.Done → (refused : ℕ) × (e ≡ end.Done refused)
no_other side c judge read e (inl same) plain is = ((met side c judge read).state.refused, same ∙ ap (λ (x : SessionEnd). meet_end x (met side c judge read).state.refused) is)
no_other side c judge read e (inr of) plain is = absurd (plain of)

by_final : (side : Side) (c : CoreState) (judge : Vertex → Bool) (read more : List ℕ) → IsFinal side c judge read → length (read ++ more) ≤ byte_limit → (met side c judge (read ++ more)).end ≡ by.Done → (met side c judge read).end ≡ by.Done
by_final side c judge read more final few is = ap (λ (t : Talk Meeting). t.end) (sym (final more few)) ∙ is

nothing_more : (side : Side) (c : CoreState) (judge : Vertex → Bool) (read more : List ℕ) → byte_limit ≤ length read → length (read ++ more) ≤ byte_limit → (met side c judge (read ++ more)).end ≡ by.Done → (met side c judge read).end ≡ by.Done
nothing_more side c judge read [] full few is = ap (λ (bytes : List ℕ). (met side c judge bytes).end) (sym (append-nil read)) ∙ is
nothing_more side c judge read (b ∷ more) full few is = absurd (let all = length-append read (b ∷ more) in omega arith)

pub complete : MeetingsAreComplete
complete side c judge read written m ends_old ends_new (end.Done k) s more few is no_end l0 l1 link no_link t0 t1 taker no_taker = inl (k, refl)
complete side c judge read written m ends_old ends_new end.OutOfMemory s more few is no_end l0 l1 link no_link t0 t1 taker no_taker = inr refl
complete side c judge read written m ends_old ends_new end.EndOfInput s more few is no_end l0 l1 link no_link t0 t1 taker no_taker = absurd (no_end s.end_counted)
complete side c judge read written m ends_old ends_new end.LinkFault s more few is no_end l0 l1 link no_link t0 t1 taker no_taker = absurd (no_link link)
complete side c judge read written m ends_old ends_new end.AppendFault s more few is no_end l0 l1 link no_link t0 t1 taker no_taker = absurd (no_taker taker)
complete side c judge read written m ends_old ends_new (end.BadFrame at) s more few is no_end l0 l1 link no_link t0 t1 taker no_taker =
    inl (no_other side c judge read (end.BadFrame at) s.ended (λ of. of) (elim s.end_counted [ inl rose ↦ absurd (no_end rose) | inr final ↦ by_final side c judge read more final few is ]))
complete side c judge read written m ends_old ends_new end.WrongInstance s more few is no_end l0 l1 link no_link t0 t1 taker no_taker =
    inl (no_other side c judge read end.WrongInstance s.ended (λ of. of) (by_final side c judge read more s.end_counted few is))
complete side c judge read written m ends_old ends_new end.Clash s more few is no_end l0 l1 link no_link t0 t1 taker no_taker =
    inl (no_other side c judge read end.Clash s.ended (λ of. of) (by_final side c judge read more s.end_counted few is))
complete side c judge read written m ends_old ends_new end.ByteLimit s more few is no_end l0 l1 link no_link t0 t1 taker no_taker =
    inl (no_other side c judge read end.ByteLimit s.ended (λ of. of) (nothing_more side c judge read more s.end_counted few is))
