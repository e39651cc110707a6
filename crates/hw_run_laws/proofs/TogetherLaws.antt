-- Two nodes that meet and tell each other all that is due.
use Rattle.std.specs.Prelude.{fold, IsOk, map, nat_le}
use Rattle.std.specs.Int.{w32, from_be_bytes}
use Rattle.std.specs.List.{All, AllByRecursion}
use Rattle.std.proofs.Common.{◌≡◌, ℕ, ◌≤◌, Bool, true, List, [], ◌∷◌, ◌++◌, length, Option, Some, None, Result, Ok, Err, inl, refl, sym, ap, subst, ◌∙◌, arith, length-append}
use Rattle.std.proofs.lemmas.Bool.{le-leb}
use Rattle.std.proofs.lemmas.List.{append-nil, append_assoc}
use Rattle.std.proofs.lemmas.List.Elements.{All-from_recursion}
use Rattle.std.proofs.lemmas.Nat.{from_be_bytes-to_be_bytes_4}
use Rattle.hw_types.specs.declared.config.Config.{Config}
use Rattle.hw_types.specs.declared.unit.Vertex.{Vertex}
use Rattle.hw_types.specs.declared.answers.Receipt.{Receipt}
use Rattle.hw_types.specs.declared.answers.Cause.{Cause}
use Rattle.hw_types.specs.Journal.{Setting, answer, journal_after, answers_from}
use Rattle.hw_types.specs.Limits.{is_within, config_fault}
use Rattle.hw_types.specs.Spelling.{u32_bytes, instance_of}
use Rattle.hw_types.specs.declared.answers.LastQuestion.{LastQuestion}
use Rattle.hw_types.specs.Real.{CoreState, setting_of}
use Rattle.hw_types.proofs.LimitLaws.{within_limits}
use Rattle.hw_types.proofs.SettledLaws.{digest_self}
use Rattle.hw_types.proofs.StableLaws.{and_whole}
use Rattle.hw_link.specs.declared.end.SessionEnd.{SessionEnd}
use Rattle.hw_link.specs.declared.end.SessionEnd.TheVariants as by
use Rattle.hw_link.specs.Frames.{rest_at, byte_limit}
use Rattle.hw_link.proofs.FrameReadLaws.{frame_by-is_read}
use Rattle.hw_agree.specs.Converge.{due_to}
use Rattle.hw_meeting.specs.declared.frame.MeetingFrame.{MeetingFrame}
use Rattle.hw_meeting.specs.declared.frame.MeetingFrame.TheVariants as frame
use Rattle.hw_meeting.specs.Frames.{meeting_bytes, meeting_of, MeetingInRange}
use Rattle.hw_meeting.proofs.FrameLaws.{meeting_again}
use Rattle.hw_meeting_node.specs.declared.end.MeetEnd.TheVariants as end
use Rattle.hw_meeting_node.specs.declared.meeter.Side.{Side}
use Rattle.hw_meeting_node.specs.declared.meeter.Side.TheVariants.{Caller, Host}
use Rattle.hw_meeting_node.specs.Frames.{framed, sent_bytes, Placed, HasFrame}
use Rattle.hw_meeting_node.specs.Talk.{Reaction, Talk, goes_on, ends, talk_over, HasHeard, placed_behind}
use Rattle.hw_meeting_node.specs.Meeting.{Meeting, begun, told_of, torn_by, owed_by, first_word, to_hello, to_summary, to_torn, to_done, answered, greeted, told, given_torn, meet_step, met}
use Rattle.hw_meeting_node.specs.Sessions.{IsCutEnd, IsReadNoFurther, Meets, end_of}
use Rattle.hw_meeting_node.specs.Taking.{TakingMeeting, taken_then, vertex_at, taking_step, taking_nothing, taken_in}
use Rattle.hw_meeting_node.specs.Laws.{judged, node_of}
use Rattle.hw_meeting_node.proofs.EndLaws.{no_frame_so}
use Rattle.hw_meeting_node.proofs.FurtherLaws.{frame_alone, part_cut, cut_so_far, none_further, no_further}
use Rattle.hw_meeting_node.proofs.ReactLaws.{greeted_by}
use Rattle.hw_meeting_node.proofs.TalkLaws.{begins, leads_on, frame_ends, no_frame_ends}
use Rattle.hw_run_laws.specs.MeetMembers.{MayBeSaid, words_to, with_all, MayBeTold, MeetingsAreThere}

-- ---- a frame that was spelled

-- a frame is read from its length and its spelling
has_word : (n place : ℕ) (f : MeetingFrame) → n ≤ 1024 → 1 ≤ length (meeting_bytes f) → MayBeSaid n f → HasFrame n place (framed f) f
has_word n place f few some may =
    let body = meeting_bytes f in
    let most = may.short in
    let back : from_be_bytes w32 (u32_bytes (length body)) ≡ length body = from_be_bytes-to_be_bytes_4 (length body) (omega (arith, most)) in
    frame_by-is_read (meeting_of n) place (u32_bytes (length body)) body f
    (record { four = refl; within = ap (λ (k : ℕ). is_within 1 1048576 k) back ∙ and_whole (nat_le 1 (length body)) (nat_le (length body) 1048576) (le-leb 1 (length body) some) (le-leb (length body) 1048576 most) })
    (sym back) (meeting_again n (omega (arith, few)) f may.said may.range)

some_bytes : (f : MeetingFrame) → 1 ≤ length (meeting_bytes f)
some_bytes (frame.Hello d) = omega arith
some_bytes (frame.Vertex v) = omega arith
some_bytes (frame.Summary ps) = omega arith
some_bytes (frame.Torn vs) = omega arith
some_bytes frame.Done = omega arith

sent_more : (xs ys : List MeetingFrame) → sent_bytes (xs ++ ys) ≡ sent_bytes xs ++ sent_bytes ys
sent_more [] ys = refl
sent_more (x ∷ xs) ys = ap (λ (l : List ℕ). framed x ++ l) (sent_more xs ys) ∙ sym (append_assoc (framed x) (sent_bytes xs) (sent_bytes ys))

-- ---- frame by frame

module _ {S : Type 0} (n : ℕ) (few : n ≤ 1024) (step : S → Placed → Reaction S) (first : List MeetingFrame) (start : S) where
  abbrev over : List ℕ → Talk S
  over bytes = talk_over n first step start bytes

  abbrev Further : List ℕ → Type 0
  Further read = IsReadNoFurther (λ (bytes : List ℕ). (over bytes).end) read

  -- behind these bytes it has said this and stands here, and none of them was read too much
  pub record Stands (read : List ℕ) (said : List MeetingFrame) (state : S) : Type 0 where
    pub heard : HasHeard n first step start read said state
    pub further : Further read

  pub starts : Stands [] first start
  starts = record { heard = begins n step first start; further = none_further (λ (bytes : List ℕ). (over bytes).end) }

  module _ (read : List ℕ) (said : List MeetingFrame) (state : S) (stands : Stands read said state) (f : MeetingFrame) (may : MayBeSaid n f) (within : length (read ++ framed f) ≤ byte_limit) where
    has : HasFrame n (length read) (framed f) f
    has = has_word n (length read) f few (some_bytes f) may

    pub further_by : Further (read ++ framed f)
    further_by = no_further (λ (bytes : List ℕ). (over bytes).end) read (framed f) stands.further (λ front back is some.
        let (e, none) = part_cut n (length read) (framed f) front back is some (frame_alone n (length read) (framed f) f has) in
        let all : length (read ++ (front ++ back)) ≤ byte_limit = subst (λ (p : List ℕ). length (read ++ p) ≤ byte_limit) is within in
        let fewer : length (read ++ front) ≤ byte_limit = omega (arith, all, length-append read (front ++ back), length-append front back, length-append read front) in
        subst IsCutEnd (sym (ap (λ (t : Talk S). t.end) (no_frame_ends n step first start read said state stands.heard front e none fewer))) (cut_so_far (rest_at (length read) front) e (no_frame_so n (length read) front e none)))

    -- a frame that leads on
    pub next : (says : List MeetingFrame) (then : S) → step state (placed_behind read f) ≡ goes_on then says → Stands (read ++ framed f) (said ++ says) then
    next says then is = record {
      heard = subst (λ (r : Reaction S). HasHeard n first step start (read ++ framed f) (said ++ r.says) r.state) is (leads_on n step first start read said state stands.heard (framed f) f has (ap (λ (r : Reaction S). r.end) is));
      further = further_by;
    }

    -- a frame that ends the session, whatever comes behind it
    pub over_by : (e : SessionEnd) (says : List MeetingFrame) (then : S) → step state (placed_behind read f) ≡ ends then says e → (more : List ℕ) → length ((read ++ framed f) ++ more) ≤ byte_limit
        → over ((read ++ framed f) ++ more) ≡ record { state = then; said = said ++ says; end = e }
    over_by e says then is more short =
        frame_ends n step first start read said state stands.heard (framed f) f has e (ap (λ (r : Reaction S). r.end) is) more short
        ∙ ap (λ (r : Reaction S). record { state = r.state; said = said ++ r.says; end = e }) is

-- ---- one of two nodes

-- a reaction of the meeting, in a state that holds these vertices too
abbrev lifted : {S : Type 0} → (Meeting → List Vertex → S) → Reaction Meeting → List Vertex → Reaction S
lifted at r vs = record { state = at r.state vs; says = r.says; end = r.end }

-- what is not refused leads on
ok_answered : (m : Meeting) (a : Result Receipt Cause) → IsOk a → answered m a ≡ goes_on m []
ok_answered m (Ok r) ok = refl
ok_answered m (Err c) ok = absurd cc

module _ (config : Config) (lawful : config_fault config ≡ None) (side : Side) (judge : Vertex → Bool) (mine theirs : List Vertex) (own_asked their_asked : Option LastQuestion) where
  abbrev c : CoreState
  c = record { config = config; journal = mine; asked = own_asked }

  abbrev d : CoreState
  d = record { config = config; journal = theirs; asked = their_asked }

  abbrev s : Setting
  s = setting_of config

  abbrev n : ℕ
  n = length config.weights

  pub few : n ≤ 1024
  few = (within_limits config lawful).few

  -- what it owes the other, and what the other owes it
  abbrev due : List Vertex
  due = owed_by c (told_of d) (torn_by d (told_of c))

  abbrev gets : List Vertex
  gets = due_to s theirs mine

  -- where it stands behind the other's Hello, behind what the other tells, and while it takes vertices
  abbrev telling : Meeting
  telling = (greeted side (begun c) (instance_of config)).state

  abbrev tearing : Meeting
  tearing = (told side (begun c) (told_of d)).state

  abbrev taking : List Vertex → Meeting
  taking journal = record (given_torn side tearing (torn_by d (told_of c))).state { core = record { config = config; journal = journal; asked = own_asked } }

  -- its steps
  greets : (k : ℕ) → meet_step side judge (begun c) (record { at = k; frame = frame.Hello (instance_of config) }) ≡ goes_on telling (to_hello side c)
  unfolding meet_step
  greets k = subst (λ (r : Reaction Meeting). r ≡ goes_on r.state (to_hello side c)) (sym (greeted_by side (begun c) (instance_of config) true (digest_self (instance_of config)))) refl

  tells : (k : ℕ) → meet_step side judge telling (record { at = k; frame = frame.Summary (told_of d) }) ≡ goes_on tearing (to_summary side c (told_of d))
  unfolding meet_step
  tells k = subst (λ (r : Reaction Meeting). meet_step side judge r.state (record { at = k; frame = frame.Summary (told_of d) }) ≡ goes_on tearing (to_summary side c (told_of d))) (sym (greeted_by side (begun c) (instance_of config) true (digest_self (instance_of config)))) refl

  tells_none : vertex_at telling.stage (frame.Summary (told_of d)) ≡ None
  tells_none = subst (λ (r : Reaction Meeting). vertex_at r.state.stage (frame.Summary (told_of d)) ≡ None) (sym (greeted_by side (begun c) (instance_of config) true (digest_self (instance_of config)))) refl

  tears : (k : ℕ) → meet_step side judge tearing (record { at = k; frame = frame.Torn (torn_by d (told_of c)) }) ≡ goes_on (taking mine) (to_torn side c (told_of d) due)
  unfolding meet_step
  tears k = refl

  takes_one : (k : ℕ) (journal : List Vertex) (v : Vertex) → IsOk (answer s journal v (judge v)) → meet_step side judge (taking journal) (record { at = k; frame = frame.Vertex v }) ≡ goes_on (taking (journal_after s journal (v, judge v))) []
  unfolding meet_step
  takes_one k journal v ok = ok_answered (taking (journal_after s journal (v, judge v))) (answer s journal v (judge v)) ok

  done : (k : ℕ) (journal : List Vertex) → meet_step side judge (taking journal) (record { at = k; frame = frame.Done }) ≡ ends (taking journal) (to_done side due) by.Done
  unfolding meet_step
  done k journal = refl

  -- all that it hears, and all that it says
  abbrev hello : List ℕ
  hello = framed (frame.Hello (instance_of config))

  abbrev summary : List ℕ
  summary = framed (frame.Summary (told_of d))

  abbrev torn : List ℕ
  torn = framed (frame.Torn (torn_by d (told_of c)))

  abbrev brought : List ℕ
  brought = sent_bytes (map frame.Vertex gets)

  abbrev before : List ℕ
  before = ((hello ++ summary) ++ torn) ++ brought

  abbrev last : List ℕ
  last = framed frame.Done

  hears : sent_bytes (words_to d c) ≡ before ++ last
  hears =
      ap (λ (b : List ℕ). hello ++ (summary ++ (torn ++ b))) (sent_more (map frame.Vertex gets) (frame.Done ∷ []) ∙ ap (λ (b : List ℕ). brought ++ b) (append-nil last))
      ∙ sym (append_assoc ((hello ++ summary) ++ torn) brought last ∙ append_assoc (hello ++ summary) torn (brought ++ last) ∙ append_assoc hello summary (torn ++ (brought ++ last)))

  abbrev said_before : List MeetingFrame
  said_before = ((first_word side c ++ to_hello side c) ++ to_summary side c (told_of d)) ++ to_torn side c (told_of d) due

  abbrev all_said : List MeetingFrame
  all_said = said_before ++ to_done side due

  module _ (told : MayBeTold d c judge) where
    short : length (before ++ last) ≤ byte_limit
    short = subst (λ (b : List ℕ). length b ≤ byte_limit) hears told.short

    words : AllByRecursion (MayBeSaid n) (map frame.Vertex gets ++ frame.Done ∷ [])
    words = told.words.1.1.1

    first_of : (vs : List Vertex) → AllByRecursion (MayBeSaid n) (map frame.Vertex vs ++ frame.Done ∷ []) → AllByRecursion (MayBeSaid n) (map frame.Vertex vs) × MayBeSaid n frame.Done
    first_of [] all = (tt, all.0)
    first_of (v ∷ vs) all = let rest = first_of vs all.1 in ((all.0, rest.0), rest.1)

    -- no part of it is longer
    within : (read more : List ℕ) → before ++ last ≡ read ++ more → length read ≤ byte_limit
    within read more is = let long = short in let both : length (before ++ last) ≡ length (read ++ more) = ap length is in omega (arith, long, both, length-append read more)

    within_all : length before ≤ byte_limit
    within_all = within before last refl

    within_torn : length ((hello ++ summary) ++ torn) ≤ byte_limit
    within_torn = let all = within_all in omega (arith, all, length-append ((hello ++ summary) ++ torn) brought)

    within_summary : length (hello ++ summary) ≤ byte_limit
    within_summary = let all = within_torn in omega (arith, all, length-append (hello ++ summary) torn)

    within_hello : length hello ≤ byte_limit
    within_hello = let all = within_summary in omega (arith, all, length-append hello summary)

    abbrev now : List Vertex
    now = fold (journal_after s) mine (judged judge gets)

    -- in a state that holds where the meeting stands, and which vertices were taken
    module _ {S : Type 0} (at : Meeting → List Vertex → S) (step : S → Placed → Reaction S) (steps : (m : Meeting) (vs : List Vertex) (f : Placed) → step (at m vs) f ≡ lifted at (meet_step side judge m f) (taken_then vs (vertex_at m.stage f.frame))) where
      abbrev At : List ℕ → List MeetingFrame → Meeting → List Vertex → Type 0
      At read said m vs = Stands n few step (first_word side c) (at (begun c) []) read said (at m vs)

      leads : (read : List ℕ) (said : List MeetingFrame) (m : Meeting) (vs : List Vertex) → At read said m vs → (f : MeetingFrame) → MayBeSaid n f → length (read ++ framed f) ≤ byte_limit → (says : List MeetingFrame) (then : Meeting)
          → meet_step side judge m (placed_behind read f) ≡ goes_on then says → (due : Option Vertex) → vertex_at m.stage f ≡ due → At (read ++ framed f) (said ++ says) then (taken_then vs due)
      leads read said m vs stands f may fits says then is due taken =
          next n few step (first_word side c) (at (begun c) []) read said (at m vs) stands f may fits says (at then (taken_then vs due))
          (steps m vs (placed_behind read f) ∙ ap (λ (o : Option Vertex). lifted at (meet_step side judge m (placed_behind read f)) (taken_then vs o)) taken ∙ ap (λ (r : Reaction Meeting). lifted at r (taken_then vs due)) is)

      takes : (more vs journal : List Vertex) (read : List ℕ) (said : List MeetingFrame) → At read said (taking journal) vs → AllByRecursion (λ a. IsOk a) (answers_from s journal (judged judge more)) → AllByRecursion (MayBeSaid n) (map frame.Vertex more)
          → length (read ++ sent_bytes (map frame.Vertex more)) ≤ byte_limit → At (read ++ sent_bytes (map frame.Vertex more)) said (taking (fold (journal_after s) journal (judged judge more))) (vs ++ more)
      unfolding answers_from
      takes [] vs journal read said stands oks may fits =
          subst (λ (b : List ℕ). At b said (taking journal) (vs ++ [])) (sym (append-nil read)) (subst (λ (l : List Vertex). At read said (taking journal) l) (sym (append-nil vs)) stands)
      takes (v ∷ more) vs journal read said stands oks may fits =
          let f = frame.Vertex v in
          let bytes = sent_bytes (map frame.Vertex more) in
          let after = journal_after s journal (v, judge v) in
          let assoc = append_assoc read (framed f) bytes in
          let long : length ((read ++ framed f) ++ bytes) ≤ byte_limit = subst (λ (b : List ℕ). length b ≤ byte_limit) (sym assoc) fits in
          let here : length (read ++ framed f) ≤ byte_limit = omega (arith, long, length-append (read ++ framed f) bytes) in
          let one = leads read said (taking journal) vs stands f may.0 here [] (taking after) (takes_one (length read) journal v oks.0) (Some v) refl in
          let same = subst (λ (xs : List MeetingFrame). At (read ++ framed f) xs (taking after) (vs ++ v ∷ [])) (append-nil said) one in
          let rest = takes more (vs ++ v ∷ []) after (read ++ framed f) said same oks.1 may.1 long in
          subst (λ (b : List ℕ). At b said (taking (fold (journal_after s) after (judged judge more))) (vs ++ v ∷ more)) assoc
          (subst (λ (l : List Vertex). At ((read ++ framed f) ++ bytes) said (taking (fold (journal_after s) after (judged judge more))) l) (append_assoc vs (v ∷ []) more) rest)

      at_taking : At ((hello ++ summary) ++ torn) said_before (taking mine) []
      at_taking =
          let one = leads [] (first_word side c) (begun c) [] (starts n few step (first_word side c) (at (begun c) [])) (frame.Hello (instance_of config)) told.words.0 within_hello (to_hello side c) telling (greets 0) None refl in
          let two = leads hello (first_word side c ++ to_hello side c) telling [] one (frame.Summary (told_of d)) told.words.1.0 within_summary (to_summary side c (told_of d)) tearing (tells (length hello)) None tells_none in
          leads (hello ++ summary) ((first_word side c ++ to_hello side c) ++ to_summary side c (told_of d)) tearing [] two (frame.Torn (torn_by d (told_of c))) told.words.1.1.0 within_torn (to_torn side c (told_of d) due) (taking mine) (tears (length (hello ++ summary))) None refl

      pub at_end : At before said_before (taking now) gets
      at_end = takes gets [] mine ((hello ++ summary) ++ torn) said_before at_taking told.takes (first_of gets words).0 within_all

      pub over_all : (more : List ℕ) → length ((before ++ last) ++ more) ≤ byte_limit → talk_over n (first_word side c) step (at (begun c) []) ((before ++ last) ++ more) ≡ record { state = at (taking now) gets; said = all_said; end = by.Done }
      over_all more fits = over_by n few step (first_word side c) (at (begun c) []) before said_before (at (taking now) gets) at_end frame.Done (first_of gets words).1 short by.Done (to_done side due) (at (taking now) gets)
          (steps (taking now) gets (placed_behind before frame.Done) ∙ ap (λ (r : Reaction Meeting). lifted at r gets) (done (length before) now)) more fits

      pub whole_by : talk_over n (first_word side c) step (at (begun c) []) (before ++ last) ≡ record { state = at (taking now) gets; said = all_said; end = by.Done }
      whole_by = ap (talk_over n (first_word side c) step (at (begun c) [])) (sym (append-nil (before ++ last))) ∙ over_all [] (subst (λ (b : List ℕ). length b ≤ byte_limit) (sym (append-nil (before ++ last))) short)

    -- where the meeting alone is kept
    abbrev alone : Meeting → List Vertex → Meeting
    alone m vs = m

    itself : (m : Meeting) (vs : List Vertex) (f : Placed) → meet_step side judge (alone m vs) f ≡ lifted alone (meet_step side judge m f) (taken_then vs (vertex_at m.stage f.frame))
    itself m vs f = refl

    whole : met side c judge (before ++ last) ≡ record { state = taking now; said = all_said; end = by.Done }
    whole = whole_by alone (meet_step side judge) itself

    -- and where the vertices are
    abbrev both : Meeting → List Vertex → TakingMeeting
    both m vs = record { meeting = m; taken = vs }

    pub takes_due : taken_in side c judge (sent_bytes (words_to d c)) ≡ gets
    unfolding taken_in
    takes_due =
        ap (λ (b : List ℕ). (talk_over n (first_word side c) (taking_step side judge) (taking_nothing c) b).state.taken) hears
        ∙ ap (λ (t : Talk TakingMeeting). t.state.taken) (whole_by both (taking_step side judge) (λ m vs f. refl))

    meets : Meets side c judge (before ++ last) (sent_bytes all_said) (with_all c judge gets) 0 0 (end.Done 0)
    meets = record {
      within = short;
      ended = inl (ap end_of (sym whole));
      end_counted = λ more fits. over_all alone (meet_step side judge) itself more fits ∙ sym whole;
      no_further = further_by n few (meet_step side judge) (first_word side c) (begun c) before said_before (taking now) (at_end alone (meet_step side judge) itself) frame.Done (first_of gets words).1 short;
      wrote = ap (λ (t : Talk Meeting). sent_bytes t.said) (sym whole);
      answered = λ linked. absurd cc;
      left = ap (λ (t : Talk Meeting). t.state.core) (sym whole);
    }

    pub meets_whole : all_said ≡ words_to c d → Meets side c judge (sent_bytes (words_to d c)) (sent_bytes (words_to c d)) (with_all c judge gets) 0 0 (end.Done 0)
    meets_whole same =
        subst (λ (b : List ℕ). Meets side c judge b (sent_bytes (words_to c d)) (with_all c judge gets) 0 0 (end.Done 0)) (sym hears)
        (subst (λ (fs : List MeetingFrame). Meets side c judge (before ++ last) (sent_bytes fs) (with_all c judge gets) 0 0 (end.Done 0)) same meets)

    pub says_whole : all_said ≡ words_to c d → (met side c judge (sent_bytes (words_to d c))).said ≡ words_to c d
    says_whole same = ap (λ (b : List ℕ). (met side c judge b).said) hears ∙ ap (λ (t : Talk Meeting). t.said) whole ∙ same

-- each frame that may be said is in range
ranges : (n : ℕ) (fs : List MeetingFrame) → AllByRecursion (MayBeSaid n) fs → AllByRecursion MeetingInRange fs
ranges n [] all = tt
ranges n (f ∷ fs) all = (all.0.range, ranges n fs all.1)

in_range : (n : ℕ) (fs said : List MeetingFrame) → AllByRecursion (MayBeSaid n) fs → said ≡ fs → All MeetingInRange said
in_range n fs said all is = subst (λ (xs : List MeetingFrame). All MeetingInRange xs) (sym is) (All-from_recursion MeetingInRange fs (ranges n fs all))

pub meetings_there : MeetingsAreThere
meetings_there config left right asked_left asked_right judge_left judge_right lawful of_left of_right =
    let l = node_of config left asked_left in
    let r = node_of config right asked_right in
    let one = meets_whole config lawful Caller judge_left l.journal r.journal asked_left asked_right of_right (append-nil _) in
    let other = meets_whole config lawful Host judge_right r.journal l.journal asked_right asked_left of_left refl in
    record {
      asked_left = asked_left;
      asked_right = asked_right;
      read_left = sent_bytes (words_to r l);
      read_right = sent_bytes (words_to l r);
      ends_left = (0, 0);
      ends_right = (0, 0);
      left_met = one;
      right_met = other;
      lawful = lawful;
      left_fit = of_left.fit;
      right_fit = of_right.fit;
      left_in_range = in_range (length config.weights) (words_to l r) _ of_left.words (says_whole config lawful Caller judge_left l.journal r.journal asked_left asked_right of_right (append-nil _));
      right_in_range = in_range (length config.weights) (words_to r l) _ of_right.words (says_whole config lawful Host judge_right r.journal l.journal asked_right asked_left of_left refl);
    }
