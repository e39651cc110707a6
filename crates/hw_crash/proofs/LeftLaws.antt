-- A node that starts from what a power failure left.
use Rattle.std.specs.Prelude.{take}
use Rattle.std.proofs.Common.{◌≡◌, ℕ, ◌+◌, ◌<◌, ◌≤◌, List, [], ◌∷◌, ◌++◌, length, Some, None, Ok, inl, inr, refl, sym, ap, subst, ◌∙◌, arith, length-append, append-nil}
use Rattle.std.proofs.lemmas.Bool.{cases_lt}
use Rattle.std.proofs.lemmas.List.{append_assoc, take_all, take-append-le}
use Rattle.hw_types.specs.declared.unit.Vertex.{Vertex}
use Rattle.hw_types.specs.declared.unit.Vertex.TheVariants as vertex
use Rattle.hw_types.specs.declared.config.Config.{Config}
use Rattle.hw_types.specs.Below.{Among}
use Rattle.hw_types.specs.Journal.{Setting}
use Rattle.hw_types.specs.Real.{setting_of}
use Rattle.hw_log.specs.declared.rewritten.Rewritten.{Rewritten}
use Rattle.hw_log.specs.Rewritten.{mended_of}
use Rattle.hw_honest.specs.OneLine.{OneLine}
use Rattle.hw_honest.specs.Restart.{Logged, Event, restart, after_event, life_of, AreFair, MayGoOut}
use Rattle.hw_honest.proofs.RestartLaws.{kept_life, log_grows}
use Rattle.hw_honest.specs.Laws.{IsSafeToStart}
use Rattle.hw_session.specs.Node.{NodeState, IsSound}
use Rattle.hw_replay.specs.Replay.{replay_of}
use Rattle.hw_replay.specs.Ends.{lasts_of_file}
use Rattle.hw_session.specs.Restart.{GivesBack, HasLog, journal_log, journal_lasts, logged_of}
use Rattle.hw_session.specs.Standing.{Standing}
use Rattle.hw_run_laws.specs.Calls.{IsReady}
use Rattle.hw_run_laws.proofs.AttemptLaws.{Lives, same_lives, lives_both, lives_safely, lives_on_line, lives_soundly}
use Rattle.hw_run_laws.proofs.StartLaws.{fits, each_fits, gives_back, start_lives, start_keeps}
use Rattle.hw_crash.specs.Left.{PowerFails, left_by, StartsFrom, WhatIsLeftStarts, WhatIsLeftIsReady}
use Rattle.hw_crash.proofs.CrashLaws.{among_taken, log_more}
use Rattle.hw_crash.proofs.CutLaws.{cut_mended}

-- ---- a life up to some entry

module _ (s : Setting) (me : ℕ) where
  -- a log only becomes longer
  longer : (n : Logged) (events : List Event) → (more : List Vertex) × ((life_of s me n events).log ≡ n.log ++ more)
  longer n [] = ([], sym (append-nil n.log))
  longer n (e ∷ es) =
      let one = log_more s me n e in
      let rest = longer (after_event s me n e) es in
      (one.0 ++ rest.0, rest.1 ∙ ap (λ (l : List Vertex). l ++ rest.0) one.1 ∙ append_assoc n.log one.0 rest.0)

  -- the first of the log is there at first
  first_kept : (n : Logged) (events : List Event) (k : ℕ) → k ≤ length n.log → take k (life_of s me n events).log ≡ take k n.log
  first_kept n events k h = let more = longer n events in ap (take k) more.1 ∙ take-append-le k n.log more.0 h

  -- the first of the events leave the first of the log
  up_to : (n : Logged) (events : List Event) (k : ℕ) → AreFair s me n events → length n.log ≤ k
      → (first : List Event) × AreFair s me n first × ((life_of s me n first).log ≡ take k (life_of s me n events).log)
  up_to n [] k fair h = ([], tt, sym (take_all k n.log h))
  up_to n (e ∷ es) k fair h = elim (cases_lt k (length (after_event s me n e).log)) [
    | inl less ↦ (
      [],
      tt,
      (let one = log_more s me n e in
          let size : length (after_event s me n e).log ≡ length n.log + length one.0 = ap length one.1 ∙ length-append n.log one.0 in
          let few = one.2 in
          let is : k ≡ length n.log = omega (arith, size, few, less, h) in
          sym (first_kept (after_event s me n e) es k (omega (arith, less)) ∙ ap (take k) one.1 ∙ take-append-le k n.log one.0 (omega (arith, is)) ∙ take_all k n.log h)),
    )
    | inr rest ↦ (let later = up_to (after_event s me n e) es k fair.1 rest in (e ∷ later.0, (fair.0, later.1), later.2))
  ]

-- what may go out of a log may go out of one that has its entries
may_still : (n m : Logged) → ((v : Vertex) → Among v n.log → Among v m.log) → (v : Vertex) → MayGoOut n v → MayGoOut m v
may_still n m has v (inl h) = inl (has v h)
may_still n m has v (inr e) = inr (e.0, e.1, has (vertex.Unit e.0.left) e.2, has (vertex.Unit e.0.right) e.3)

-- ---- what is left

module _ (me : ℕ) (n m : NodeState) (validator : me < length n.core.config.weights) (sound : IsSound n) (node_sound : IsSound m) (line : OneLine (setting_of n.core.config) n.core.journal me) (from : PowerFails me n m) where
  log_is : m.core.journal ≡ (life_of (setting_of n.core.config) me (logged_of n) from.events).log
  log_is = ap (λ (l : Logged). l.log) from.lives.life

  more : (more : List Vertex) × (m.core.journal ≡ n.core.journal ++ more)
  more = let l = longer (setting_of n.core.config) me (logged_of n) from.events in (l.0, log_is ∙ l.1)

  few : length n.core.journal ≤ length m.core.journal
  few = let size : length m.core.journal ≡ length n.core.journal + length more.0 = ap length more.1 ∙ length-append n.core.journal more.0 in omega (arith, size)

  front : take (length n.core.journal) m.core.journal ≡ n.core.journal
  front = ap (take (length n.core.journal)) more.1 ∙ take-append-le (length n.core.journal) n.core.journal more.0 (omega arith) ∙ take_all (length n.core.journal) n.core.journal (omega arith)

  abbrev left : (left : ℕ) × (length n.core.journal ≤ left) × ((mended : Rewritten) × (mended_of (left_by from) ≡ Ok mended) × (mended.bytes ≡ journal_log from.version m.core.config (take left m.core.journal)))
  left = cut_mended from.version m.core.config m.core.journal (length n.core.journal) from.bytes from.known node_sound.kept.lawful node_sound.config (fits m node_sound) few
      (subst (λ (vs : List Vertex). length (journal_log from.version m.core.config vs) ≤ from.bytes) (sym front) (subst (λ (c : Config). length (journal_log from.version c n.core.journal) ≤ from.bytes) (sym from.lives.config) from.sure))

  -- the node that has what is left
  abbrev at_left : NodeState
  at_left = record m {
    core = record m.core { journal = take left.0 m.core.journal };
    lasts = journal_lasts from.version m.core.config (take left.0 m.core.journal);
  }

  -- it has what that is mended to as its log
  has_log : HasLog at_left (Some left.2.0.bytes)
  has_log = record { version = from.version; known = from.known; holds = ap Some left.2.2; lasts = refl }

  abbrev first : (first : List Event) × AreFair (setting_of n.core.config) me (logged_of n) first × ((life_of (setting_of n.core.config) me (logged_of n) first).log ≡ take left.0 (life_of (setting_of n.core.config) me (logged_of n) from.events).log)
  first = up_to (setting_of n.core.config) me (logged_of n) from.events left.0 from.fair left.1

  begins_safe : IsSafeToStart (setting_of n.core.config) me (logged_of n)
  begins_safe = lives_safely me n sound validator line n (same_lives me n n refl refl)

  -- the events up to there leave it
  left_life : logged_of at_left ≡ life_of (setting_of n.core.config) me (logged_of n) first.0
  left_life =
      let l : Logged = life_of (setting_of n.core.config) me (logged_of n) first.0 in
      let safe = kept_life (setting_of n.core.config) me sound.kept.lawful validator (logged_of n) first.0 begins_safe first.1 in
      let log : l.log ≡ take left.0 m.core.journal = first.2 ∙ ap (take left.0) (sym log_is) in
      ap (λ (vs : List Vertex). record { journal = vs; log = vs }) (sym log) ∙ ap (λ (vs : List Vertex). record { journal = vs; log = l.log }) safe.log

  left_lives : Lives me n at_left
  left_lives = record { events = first.0; config = from.lives.config; keys = from.lives.keys; life = left_life; fair = first.1 }

  left_sound : IsSound at_left
  left_sound = lives_soundly me n sound validator line at_left left_lives (λ v h. each_fits m node_sound v (among_taken left.0 m.core.journal v h))

  -- a node that starts from it
  abbrev next_node : NodeState
  next_node = record m {
    core = record m.core { journal = take left.0 m.core.journal; asked = None };
    lasts = journal_lasts from.version m.core.config (take left.0 m.core.journal);
    refused = 0;
    repeats = 0;
    limited = 0;
    clash = None;
  }

  back : GivesBack from.version m.core.config (take left.0 m.core.journal)
  back = gives_back at_left left_sound from.version from.known

  there_is : (next : Standing) × StartsFrom from next
  there_is = (
    record { node = next_node; held = λ name. Some left.2.0.bytes },
    record {
      mended = left.2.0;
      is_mended = left.2.1;
      there = refl;
      on = record {
        taken = ap (λ (b : List ℕ). replay_of (Some m.core.config) b) left.2.2 ∙ back.taken;
        lasts = ap (λ (b : List ℕ). lasts_of_file (Some b)) left.2.2 ∙ back.lasts;
        config_is = refl;
        keys_are = refl;
        log_is = refl;
        limited = refl;
        clash = refl;
      };
    },
  )

  module _ (next : Standing) (start : StartsFrom from next) where
    has_its : HasLog at_left (Some start.mended.bytes)
    has_its = let same : left.2.0 ≡ start.mended = (let both : Ok left.2.0 ≡ Ok start.mended = sym left.2.1 ∙ start.is_mended in cc) in subst (λ (r : Rewritten). HasLog at_left (Some r.bytes)) same has_log

    -- it starts as that
    starts : Lives me at_left next.node
    starts = record {
      events = restart ∷ [];
      config = start.on.config_is;
      keys = start.on.keys_are;
      life = start_lives at_left next.node left_sound next.node.log start.mended.bytes start.on has_its me;
      fair = (tt, tt);
    }

    all_lives : Lives me n next.node
    all_lives = lives_both me n at_left next.node left_lives starts

    ready : IsReady me next
    ready = record {
      line = lives_on_line me n sound validator line next.node all_lives;
      log = start_keeps at_left next.node left_sound next.node.log start.mended.bytes start.on has_its (next.held next.node.log) start.there;
    }

    still : (v : Vertex) → MayGoOut (logged_of n) v → MayGoOut (logged_of next.node) v
    still = may_still (logged_of n) (logged_of next.node) (λ v h. subst (λ (l : Logged). Among v l.log) (sym all_lives.life) (log_grows (setting_of n.core.config) me (logged_of n) all_lives.events v h))

pub left_starts : WhatIsLeftStarts
left_starts me n m validator sound node_sound line failure = there_is me n m validator sound node_sound line failure

pub left_ready : WhatIsLeftIsReady
left_ready me n m next validator sound node_sound line failure start = (ready me n m validator sound node_sound line failure next start, still me n m validator sound node_sound line failure next start)
