-- What a node says in a session with a fair peer has no unit of its own that its log lacked before.
use Rattle.std.specs.Prelude.{take}
use Rattle.std.proofs.Common.{◌≡◌, ◌⊎◌, ℕ, ◌<◌, Bool, true, false, cond, List, [], ◌∷◌, ◌++◌, length, None, inl, inr, refl, sym, ap, subst, ◌∙◌}
use Rattle.hw_types.specs.declared.unit.SignedUnit.{SignedUnit}
use Rattle.hw_types.specs.declared.unit.Vertex.{Vertex}
use Rattle.hw_types.specs.declared.unit.Vertex.TheVariants as vertex
use Rattle.hw_types.specs.declared.answers.Frame.{Frame}
use Rattle.hw_types.specs.declared.answers.Frame.TheVariants as frame
use Rattle.hw_types.specs.Graph.{Node}
use Rattle.hw_types.specs.Below.{Among}
use Rattle.hw_types.specs.Culprits.{signed_in}
use Rattle.hw_types.specs.Journal.{Setting, named, answer, is_accepted, journal_after}
use Rattle.hw_types.specs.Limits.{config_fault}
use Rattle.hw_types.specs.Real.{setting_of}
use Rattle.hw_types.specs.laws.StateLaws.{units_in, NamesApart}
use Rattle.hw_types.proofs.EntryLaws.{append_cases}
use Rattle.hw_types.proofs.OrderLaws.{Accepted, accepted, unit_vertex, one_vertex, journal_apart}
use Rattle.hw_types.proofs.StepLaws.{old_or_new}
use Rattle.hw_keys.specs.Signed.{verdict_of}
use Rattle.hw_honest.specs.OneLine.{OneLine, BringsNoNew, units_by}
use Rattle.hw_honest.specs.Restart.{Logged, take as arrives, after_event, life_of, AreFair, MayGoOut}
use Rattle.hw_honest.specs.Laws.{IsSafeToStart}
use Rattle.hw_honest.proofs.OneLineLaws.{is_by, by_has}
use Rattle.hw_honest.proofs.HonestLaws.{settled_vertex}
use Rattle.hw_honest.proofs.RestartLaws.{kept_life}
use Rattle.hw_session.specs.Node.{NodeState, IsSound}
use Rattle.hw_session.specs.Restart.{logged_of}
use Rattle.hw_session.specs.Serving.{served}
use Rattle.hw_session.specs.Driving.{driven}
use Rattle.hw_run_laws.specs.Restart.{arrivals, TakesSome, SaysOfLog}
use Rattle.hw_run_laws.specs.Taken.{taken_served, taken_driven}
use Rattle.hw_run_laws.specs.Calls.{makes, accepts, serves, drives, meets, CouldGoOut, AttemptsSayNoNew}
use Rattle.hw_run_laws.proofs.LifeLaws.{served_takes}
use Rattle.hw_run_laws.proofs.DriverLaws.{driven_takes, driven_says}
use Rattle.hw_run_laws.proofs.OutLaws.{served_says}
use Rattle.hw_run_laws.proofs.MetLaws.{met_says}
use Rattle.hw_run_laws.proofs.AttemptLaws.{first_fair, lives_safely, same_lives}

-- ---- a journal that takes vertices of fair peers

module _ (s : Setting) (me : ℕ) where
  -- the units by the validator are those that were there
  old_by : (journal : List Vertex) → NamesApart (units_in s journal) → (v : Vertex) → Accepted s journal v → BringsNoNew s journal me v → (y : Node) → Among y (units_by s (journal ++ v ∷ []) me) → Among y (units_by s journal me)
  old_by journal apart v ok known y m =
      let p = is_by s (journal ++ v ∷ []) me y m in
      elim (old_or_new s journal v apart ok y p.0) [ inl h ↦ by_has s journal me y h p.1 | inr h ↦ from_vertex p.1 (unit_vertex s v y (one_vertex s v y h)) ]
    where
      from_vertex : y.unit.creator ≡ me → ((u : SignedUnit) × (v ≡ vertex.Unit u) × (y ≡ named s u.unit)) → Among y (units_by s journal me)
      from_vertex c w = subst (λ (z : Node). Among z (units_by s journal me)) (sym w.2)
          (known w.0 (subst (λ (z : Vertex). Among w.0 (signed_in z)) (sym w.1) (inl refl)) (sym (ap (λ (z : Node). z.unit.creator) w.2) ∙ c))

  -- the vertex stands in the journal, or brings no new unit by the validator
  abbrev IsOld : List Vertex → Vertex → Type 0
  IsOld journal w = Among w journal ⊎ BringsNoNew s journal me w

  one_back : (l : Logged) → IsSafeToStart s me l → (v : Vertex) (verdict : Bool) → (is_accepted (answer s l.journal v verdict) ≡ true → BringsNoNew s l.journal me v) → (w : Vertex) → IsOld (journal_after s l.journal (v, verdict)) w → IsOld l.journal w
  one_back l safe v verdict fair w = go (is_accepted (answer s l.journal v verdict)) refl
    where
      apart : NamesApart (units_in s l.journal)
      apart = subst (λ (journal : List Vertex). NamesApart (units_in s journal)) (sym safe.journal) (journal_apart s safe.deliveries)

      go : (b : Bool) → is_accepted (answer s l.journal v verdict) ≡ b → IsOld (cond b (l.journal ++ v ∷ []) l.journal) w → IsOld l.journal w
      go false is old = old
      go true is (inl m) = elim (append_cases w l.journal (v ∷ []) m) [
        | inl old ↦ inl old
        | inr (inl same) ↦ inr (subst (λ (x : Vertex). BringsNoNew s l.journal me x) same (fair is))
        | inr (inr never) ↦ absurd never
      ]
      go true is (inr known) = inr (λ u m by. old_by l.journal apart v (accepted s l.journal v verdict is) (fair is) (named s u.unit) (known u m by))

  module _ (lawful : config_fault s.config ≡ None) (validator : me < length s.config.weights) (n : NodeState) where
    all_back : (l : Logged) (vs : List Vertex) → IsSafeToStart s me l → AreFair s me l (arrivals n vs) → (w : Vertex) → IsOld (life_of s me l (arrivals n vs)).journal w → IsOld l.journal w
    unfolding after_event
    all_back l [] safe fair w old = old
    all_back l (v ∷ vs) safe (one, rest) w old =
        one_back l safe v (verdict_of n.keys v) one w
        (all_back (after_event s me l (arrives v (verdict_of n.keys v))) vs (kept_life s me lawful validator l (arrives v (verdict_of n.keys v) ∷ []) safe (one, tt)) rest w old)

  -- a unit by it that is there stands in a vertex
  in_vertex : (journal : List Vertex) → OneLine s journal me → (v : Vertex) → BringsNoNew s journal me v → (x : SignedUnit) → Among x (signed_in v) → x.unit.creator ≡ me → (y : SignedUnit) × Among (vertex.Unit y) journal × (y.unit ≡ x.unit)
  in_vertex journal line v known x m by =
      let there = settled_vertex s journal (named s x.unit) (line.settled (named s x.unit) (known x m by)) in
      (there.0, there.1, ap (λ (z : Node). z.unit) (sym there.2))

-- ---- a session

module _ (me : ℕ) (a k : NodeState) (sound : IsSound a) (validator : me < length a.core.config.weights) (line : OneLine (setting_of a.core.config) a.core.journal me) (taken : List Vertex) (fair : AreFair (setting_of a.core.config) me (logged_of a) (arrivals a taken)) (takes : TakesSome a taken k) where
  abbrev s : Setting
  s = setting_of a.core.config

  old_there : (w : Vertex) → Among w k.core.journal → IsOld s me a.core.journal w
  old_there w m =
      let vs : List Vertex = take takes.0 taken in
      all_back s me sound.kept.lawful validator a (logged_of a) vs (lives_safely me a sound validator line a (same_lives me a a refl refl)) (first_fair s me (logged_of a) a takes.0 taken fair) w
      (inl (subst (λ (l : Logged). Among w l.journal) (takes.1 me).life m))

  -- a unit of its own by itself
  unit_out : (x : SignedUnit) → x.unit.creator ≡ me → Among (vertex.Unit x) k.core.journal → CouldGoOut a x.unit
  unit_out x by m = elim (old_there (vertex.Unit x) m) [
    | inl old ↦ (vertex.Unit x, inl old, x, inl refl, refl)
    | inr known ↦ let y = in_vertex s me a.core.journal line (vertex.Unit x) known x (inl refl) by in (vertex.Unit y.0, inl y.1, y.0, inl refl, y.2)
  ]

  out_before : (v : Vertex) → MayGoOut (logged_of k) v → (x : SignedUnit) → Among x (signed_in v) → x.unit.creator ≡ me → CouldGoOut a x.unit
  out_before v (inl m) x among by = elim (old_there v m) [
    | inl old ↦ (v, inl old, x, among, refl)
    | inr known ↦ let y = in_vertex s me a.core.journal line v known x among by in (vertex.Unit y.0, inl y.1, y.0, inl refl, y.2)
  ]
  out_before v (inr (e, is, left, right)) x among by = go (subst (λ (w : Vertex). Among x (signed_in w)) is among)
    where
      go : Among x (signed_in (vertex.Evidence e)) → CouldGoOut a x.unit
      go (inl same) = unit_out x by (subst (λ (u : SignedUnit). Among (vertex.Unit u) k.core.journal) same left)
      go (inr (inl same)) = unit_out x by (subst (λ (u : SignedUnit). Among (vertex.Unit u) k.core.journal) same right)
      go (inr (inr never)) = absurd never

  pub says_no_new : (said : List (List Frame)) → SaysOfLog (logged_of k) said → (v : Vertex) → ((frames : List Frame) × Among frames said × Among (frame.Vertex v) frames) → (x : SignedUnit) → Among x (signed_in v) → x.unit.creator ≡ me → CouldGoOut a x.unit
  says_no_new said of v (frames, among, there) = out_before v (of frames v among there)

pub attempts_say : AttemptsSayNoNew
attempts_say me a b validator sound ready (makes now value result does wrote) v said x m by = absurd said
attempts_say me a b validator sound ready (accepts w result does wrote fair) v said x m by = absurd said
attempts_say me a b validator sound ready (serves read written ends_old ends_new e does fair) v said x m by =
    says_no_new me a.node (served a.node read).state sound validator ready.line (taken_served a.node read) fair (served_takes a.node read) (served a.node read).said (served_says a.node read) v said x m by
attempts_say me a b validator sound ready (drives mark now read written ends_old ends_new e does fair) v said x m by =
    says_no_new me a.node (driven a.node mark read).state.node sound validator ready.line (taken_driven a.node mark read) fair (driven_takes a.node mark read) (driven a.node mark read).said (driven_says a.node mark read) v said x m by
attempts_say me a b validator sound ready (meets side address from to e does fair) v said x m by = (v, met_says side a.node does.meets.read v said, x, m, refl)
