-- What a node does, however it ends, is a life of fair events, or is cut in the entry of its last vertex.
use Rattle.std.specs.Prelude.{take}
use Rattle.std.specs.List.{All}
use Rattle.std.proofs.Common.{◌≡◌, ◌⊎◌, ℕ, zero, suc, ◌<◌, true, List, [], ◌∷◌, ◌++◌, length, Option, Some, None, Result, Ok, Err, inl, inr, refl, sym, ap, subst, ◌∙◌}
use Rattle.std.proofs.lemmas.List.Elements.{All-nil, All-cons}
use Rattle.hw_types.specs.declared.config.Config.{Config}
use Rattle.hw_types.specs.declared.unit.Vertex.{Vertex}
use Rattle.hw_types.specs.declared.answers.Plan.{Plan}
use Rattle.hw_types.specs.Below.{Among}
use Rattle.hw_types.specs.Journal.{Setting, journal_of}
use Rattle.hw_types.specs.Limits.{config_fault}
use Rattle.hw_types.specs.Real.{CoreState, setting_of}
use Rattle.hw_types.specs.Spelling.{VertexFits}
use Rattle.hw_codec.specs.Ranges.{ConfigInRange, VertexInRange}
use Rattle.hw_honest.specs.OneLine.{OneLine}
use Rattle.hw_honest.specs.Restart.{Logged, Event, make, after_event, life_of, AreFair}
use Rattle.hw_honest.specs.Laws.{IsSafeToStart}
use Rattle.hw_honest.proofs.RestartLaws.{kept_life}
use Rattle.hw_session.specs.declared.fault.MakeFault.{MakeFault}
use Rattle.hw_session.specs.declared.fault.MakeFault.TheVariants as fault
use Rattle.hw_session.specs.Node.{NodeState, IsSound}
use Rattle.hw_session.specs.Make.{planned_by, own_vertex, with_vertex, with_entry, IsToMake, Makes}
use Rattle.hw_session.specs.Restart.{HasLog, logged_of}
use Rattle.hw_session.specs.Standing.{Standing}
use Rattle.hw_session.proofs.LineLaws.{make_is_an_event}
use Rattle.hw_session.proofs.RecallLaws.{Keeps, core_reached}
use Rattle.hw_service.specs.Meets.{vertices_of}
use Rattle.hw_run_laws.specs.Restart.{arrivals, TakesSome, HasCutLog, LeavesLog}
use Rattle.hw_run_laws.specs.Taken.{taken_served, taken_driven}
use Rattle.hw_run_laws.specs.Calls.{at_door, Attempt, makes, accepts, serves, drives, meets, IsReady, AttemptsKeepOneLine}
use Rattle.hw_run_laws.proofs.LifeLaws.{life_both}
use Rattle.hw_run_laws.proofs.StartLaws.{reached}
use Rattle.hw_run_laws.proofs.CutLaws.{serves_leave_taken, drives_leave_taken, make_leaves}
use Rattle.hw_run_laws.proofs.HandedLaws.{accepts_leave}
use Rattle.hw_run_laws.proofs.MeetLaws.{leaves_met}

-- ---- fair lives

-- as far as journal and log go, the node is what fair events leave
pub record Lives (me : ℕ) (n m : NodeState) : Type 0 where
  pub events : List Event
  pub config : m.core.config ≡ n.core.config
  pub keys : m.keys ≡ n.keys
  pub life : logged_of m ≡ life_of (setting_of n.core.config) me (logged_of n) events
  pub fair : AreFair (setting_of n.core.config) me (logged_of n) events

-- nothing happened
pub same_lives : (me : ℕ) (n m : NodeState) → m.core ≡ n.core → m.keys ≡ n.keys → Lives me n m
same_lives me n m core keys = record {
  events = [];
  config = ap (λ (c : CoreState). c.config) core;
  keys = keys;
  life = ap (λ (c : CoreState). record { journal = c.journal; log = c.journal }) core;
  fair = tt;
}

both_fair : (s : Setting) (me : ℕ) (l : Logged) (es fs : List Event) → AreFair s me l es → AreFair s me (life_of s me l es) fs → AreFair s me l (es ++ fs)
both_fair s me l [] fs first then = then
both_fair s me l (e ∷ es) fs (one, rest) then = (one, both_fair s me (after_event s me l e) es fs rest then)

-- one life after the other
pub lives_both : (me : ℕ) (a b c : NodeState) → Lives me a b → Lives me b c → Lives me a c
lives_both me a b c x y = record {
  events = x.events ++ y.events;
  config = y.config ∙ x.config;
  keys = y.keys ∙ x.keys;
  life =
      y.life
      ∙ ap (λ (k : Config). life_of (setting_of k) me (logged_of b) y.events) x.config
      ∙ ap (λ (l : Logged). life_of (setting_of a.core.config) me l y.events) x.life
      ∙ sym (life_both (setting_of a.core.config) me (logged_of a) x.events y.events);
  fair = both_fair (setting_of a.core.config) me (logged_of a) x.events y.events x.fair
      (subst (λ (l : Logged). AreFair (setting_of a.core.config) me l y.events) x.life (subst (λ (k : Config). AreFair (setting_of k) me (logged_of b) y.events) x.config y.fair));
}

-- ---- fair peers

-- of fair vertices the first are fair
pub first_fair : (s : Setting) (me : ℕ) (l : Logged) (n : NodeState) (count : ℕ) (vs : List Vertex) → AreFair s me l (arrivals n vs) → AreFair s me l (arrivals n (take count vs))
first_fair s me l n zero [] fair = tt
first_fair s me l n (suc k) [] fair = tt
first_fair s me l n zero (v ∷ vs) fair = tt
first_fair s me l n (suc k) (v ∷ vs) (one, rest) = (one, first_fair s me (life_of s me l (arrivals n (v ∷ []))) n k vs rest)

pub takes_fairly : (me : ℕ) (n m : NodeState) (vs : List Vertex) → AreFair (setting_of n.core.config) me (logged_of n) (arrivals n vs) → TakesSome n vs m → Lives me n m
takes_fairly me n m vs fair (count, lives) =
    let l = lives me in
    record {
      events = arrivals n (take count vs);
      config = l.config;
      keys = l.keys;
      life = l.life;
      fair = first_fair (setting_of n.core.config) me (logged_of n) n count vs fair;
    }

-- ---- from a node that is ready

pub all_of : {A : Type 0} (P : A → Type 0) (xs : List A) → ((x : A) → Among x xs → P x) → All P xs
all_of P [] each = All-nil P
all_of P (x ∷ xs) each = All-cons P x xs (each x (inl refl)) (all_of P xs (λ y m. each y (inr m)))

module _ (me : ℕ) (a : NodeState) (sound : IsSound a) (validator : me < length a.core.config.weights) (line : OneLine (setting_of a.core.config) a.core.journal me) where
  safe : IsSafeToStart (setting_of a.core.config) me (logged_of a)
  safe = record { deliveries = sound.kept.reached.deliveries; journal = reached a sound; log = refl; line = line }

  -- what fair events leave is safe to start again,
  pub lives_safely : (m : NodeState) → Lives me a m → IsSafeToStart (setting_of a.core.config) me (logged_of m)
  lives_safely m l =
      subst (λ (k : Logged). IsSafeToStart (setting_of a.core.config) me k) (sym l.life) (kept_life (setting_of a.core.config) me sound.kept.lawful validator (logged_of a) l.events safe l.fair)

  -- has its own units on one line,
  pub lives_on_line : (m : NodeState) → Lives me a m → OneLine (setting_of m.core.config) m.core.journal me
  lives_on_line m l = subst (λ (k : Config). OneLine (setting_of k) m.core.journal me) (sym l.config) (lives_safely m l).line

  -- and is sound, where its vertices keep their limits
  pub lives_soundly : (m : NodeState) → Lives me a m → ((v : Vertex) → Among v m.core.journal → VertexInRange v × VertexFits v) → IsSound m
  lives_soundly m l each =
      let s = lives_safely m l in
      record {
        kept = record {
          lawful = subst (λ (k : Config). config_fault k ≡ None) (sym l.config) sound.kept.lawful;
          keys = ap length l.keys ∙ sound.kept.keys ∙ ap (λ (k : Config). length k.weights) (sym l.config);
          reached = core_reached m.core (s.deliveries, s.journal ∙ ap (λ (k : Config). journal_of (setting_of k) s.deliveries) (sym l.config)) (all_of Keeps m.core.journal each);
        };
        config = subst ConfigInRange (sym l.config) sound.config;
        vertices = all_of VertexInRange m.core.journal (λ v m. (each v m).0);
      }

  -- ---- own units

  module _ (now : ℕ) (value : List ℕ) where
    abbrev planned : Option Plan
    planned = planned_by a me now value

    own_lives : (m : NodeState) (p : Plan) → IsToMake a planned p → m.core ≡ (with_entry a (own_vertex a p)).core → m.keys ≡ a.keys → Lives me a m
    own_lives m p make_it core keys =
        let event = make_is_an_event a (with_entry a (own_vertex a p)) me now value (Some p) sound.kept validator (make_it, refl) in
        record {
          events = make now value event.0 ∷ [];
          config = ap (λ (c : CoreState). c.config) core;
          keys = keys;
          life = ap (λ (c : CoreState). record { journal = c.journal; log = c.journal }) core ∙ event.1;
          fair = (tt, tt);
        }

    made_alone : (m : NodeState) (p : Plan) → IsToMake a planned p → m ≡ with_vertex a (own_vertex a p) → Lives me a m
    made_alone m p make_it is = own_lives m p make_it (ap (λ (k : NodeState). k.core) is) (ap (λ (k : NodeState). k.keys) is)

    stayed : (m : NodeState) → m ≡ a → Lives me a m
    stayed m is = same_lives me a m (ap (λ (k : NodeState). k.core) is) (ap (λ (k : NodeState). k.keys) is)

    -- whatever `make` answered, the journal is that of a fair life
    pub make_lives : (m : NodeState) (result : Result (Option Plan) MakeFault) → Makes a planned m result → Lives me a m
    make_lives m (Ok (Some p)) does = own_lives m p does.0 (ap (λ (k : NodeState). k.core) does.1) (ap (λ (k : NodeState). k.keys) does.1)
    make_lives m (Ok None) does = stayed m does.1
    make_lives m (Err fault.RecordsFull) does = same_lives me a m (ap (λ (k : NodeState). k.core) does.1) (ap (λ (k : NodeState). k.keys) does.1)
    make_lives m (Err fault.AppendFault) (p, make_it, is) = made_alone m p make_it is
    make_lives m (Err fault.OutOfMemory) (inl is) = stayed m is
    make_lives m (Err fault.OutOfMemory) (inr (p, make_it, is)) = made_alone m p make_it is

-- ---- what it leaves

-- The node took one vertex more, whose entry may be cut. The node before it, and the one that has it with its whole entry, are what fair events leave.
pub record IsCut (me : ℕ) (a m : NodeState) (file : Option (List ℕ)) : Type 0 where
  pub before : NodeState
  pub vertex : Vertex
  pub lives : Lives me a before
  pub whole : Lives me a (with_entry before vertex)
  pub unlogged : m ≡ with_vertex before vertex
  pub log : HasCutLog before vertex file

abbrev pub Leaves : ℕ → NodeState → NodeState → Option (List ℕ) → Type 0
Leaves me a m file = (Lives me a m × HasLog m file) ⊎ IsCut me a m file

fair_leaves : (me : ℕ) (a m : NodeState) (vs : List Vertex) (file : Option (List ℕ)) → AreFair (setting_of a.core.config) me (logged_of a) (arrivals a vs) → LeavesLog a vs m file → Leaves me a m file
fair_leaves me a m vs file fair (inl (takes, has)) = inl (takes_fairly me a m vs fair takes, has)
fair_leaves me a m vs file fair (inr cut) = inr (record {
  before = cut.before;
  vertex = cut.vertex;
  lives = takes_fairly me a cut.before vs fair cut.takes;
  whole = takes_fairly me a (with_entry cut.before cut.vertex) vs fair cut.whole;
  unlogged = cut.unlogged;
  log = cut.log;
})

module _ (me : ℕ) (a b : Standing) (sound : IsSound a.node) (validator : me < length a.node.core.config.weights) (ready : IsReady me a) where
  pub attempt_leaves : Attempt me a b → Leaves me a.node b.node (b.held b.node.log)
  attempt_leaves (makes now value result does wrote) = elim (make_leaves a.node b.node me now value result a.held b.held sound.kept validator does wrote ready.log) [
    | inl has ↦ inl (make_lives me a.node sound validator ready.line now value b.node result does, has)
    | inr (p, make_it, is, cut) ↦ inr (record {
      before = a.node;
      vertex = own_vertex a.node p;
      lives = same_lives me a.node a.node refl refl;
      whole = own_lives me a.node sound validator ready.line now value (with_entry a.node (own_vertex a.node p)) p make_it refl refl;
      unlogged = is;
      log = cut;
    })
  ]
  attempt_leaves (accepts v result does wrote fair) = fair_leaves me a.node b.node (v ∷ []) (b.held b.node.log) fair (accepts_leave a.node b.node v result a.held b.held does wrote ready.log)
  attempt_leaves (serves read written ends_old ends_new e does fair) =
      fair_leaves me a.node b.node (taken_served a.node read) (b.held b.node.log) fair (serves_leave_taken a.node b.node read written true a.held b.held ends_old ends_new e does refl ready.log)
  attempt_leaves (drives mark now read written ends_old ends_new e does fair) =
      fair_leaves me a.node b.node (taken_driven a.node mark read) (b.held b.node.log) fair (drives_leave_taken a.node b.node mark now read written true a.held b.held ends_old ends_new e does refl ready.log)
  attempt_leaves (meets side address from to e does fair) =
      fair_leaves me a.node b.node (vertices_of side a.node does.meets.read) (b.held b.node.log) fair (leaves_met side address true (at_door a from) (at_door b to) e does refl ready.log)

pub attempts_keep : AttemptsKeepOneLine
attempts_keep me a b validator sound ready attempt = go (attempt_leaves me a b sound validator ready attempt)
  where
    go : Leaves me a.node b.node (b.held b.node.log) → OneLine (setting_of b.node.core.config) b.node.core.journal me
    go (inl (lives, has)) = lives_on_line me a.node sound validator ready.line b.node lives
    go (inr cut) = subst (λ (k : NodeState). OneLine (setting_of k.core.config) k.core.journal me) (sym cut.unlogged) (lives_on_line me a.node sound validator ready.line (with_entry cut.before cut.vertex) cut.whole)
