-- A node keeps its line and its log through its calls and its starts.
use Rattle.std.proofs.Common.{◌≡◌, ℕ, ◌<◌, true, List, [], ◌∷◌, ◌++◌, length, Some, inl, inr, refl, sym, ap, subst}
use Rattle.hw_types.specs.declared.config.Config.{Config}
use Rattle.hw_types.specs.declared.unit.Vertex.{Vertex}
use Rattle.hw_types.specs.Below.{Among}
use Rattle.hw_types.specs.Real.{setting_of}
use Rattle.hw_types.specs.Spelling.{VertexFits}
use Rattle.hw_types.proofs.UnionLaws.{from_left, from_right}
use Rattle.hw_codec.specs.Ranges.{VertexInRange}
use Rattle.hw_honest.specs.Restart.{Logged, restart}
use Rattle.hw_honest.specs.Laws.{IsSafeToStart}
use Rattle.hw_honest.proofs.RestartLaws.{log_grows, out_apart}
use Rattle.hw_session.specs.Node.{NodeState, IsSound}
use Rattle.hw_session.specs.Make.{with_entry}
use Rattle.hw_session.specs.Restart.{HasLog, logged_of}
use Rattle.hw_session.specs.Start.{GoesOn}
use Rattle.hw_session.specs.Standing.{Standing}
use Rattle.hw_run_laws.specs.Calls.{at_door, Attempt, makes, accepts, serves, drives, meets, IsWhole, StartsAgain, Call, goes_on, starts, gives_up, AreCalls, IsReady, CallsKeepOneLine, CallsKeepApart}
use Rattle.hw_service.specs.Meets.{vertices_of}
use Rattle.hw_run_laws.specs.Taken.{taken_served, taken_driven}
use Rattle.hw_run_laws.proofs.LifeLaws.{serves_takes}
use Rattle.hw_run_laws.proofs.KeepLaws.{serves_keep, drives_keep}
use Rattle.hw_run_laws.proofs.DriverLaws.{drives_takes}
use Rattle.hw_run_laws.proofs.HandedLaws.{accepts_life, accepts_keep}
use Rattle.hw_run_laws.proofs.MeetLaws.{takes_met, meets_keep}
use Rattle.hw_run_laws.proofs.OutLaws.{Grows, goes_later}
use Rattle.hw_run_laws.proofs.StartLaws.{each_fits, start_lives, start_keeps, from_log}
use Rattle.hw_run_laws.proofs.MendLaws.{sound_mends, cut_mended}
use Rattle.hw_run_laws.proofs.CutLaws.{make_keeps}
use Rattle.hw_run_laws.proofs.AttemptLaws.{Lives, same_lives, lives_both, takes_fairly, lives_safely, lives_on_line, lives_soundly, make_lives, IsCut, attempt_leaves}

-- ---- a start

-- a start is a life
starts_live : (me : ℕ) (n m : NodeState) (name bytes : List ℕ) → IsSound n → HasLog n (Some bytes) → GoesOn n.core.config n.keys name bytes m → Lives me n m
starts_live me n m name bytes sound has on = record {
  events = restart ∷ [];
  config = on.config_is;
  keys = on.keys_are;
  life = start_lives n m sound name bytes on has me;
  fair = (tt, tt);
}

-- the node is what fair events leave, and has its log
pub record Stands (me : ℕ) (a : NodeState) (b : Standing) : Type 0 where
  pub lives : Lives me a b.node
  pub log : HasLog b.node (b.held b.node.log)

module _ (me : ℕ) (a : NodeState) (c b : Standing) (again : StartsAgain c b) where
  -- it starts again as this node, with the same configuration and keys, if that has the log
  starts_as : (n : NodeState) → IsSound n → Lives me a n → c.node.core.config ≡ n.core.config → c.node.keys ≡ n.keys → HasLog n (Some again.bytes) → Stands me a b
  starts_as n sound lives config keys has =
      let on : GoesOn n.core.config n.keys b.node.log again.bytes b.node =
      subst (λ (k : Config). GoesOn k n.keys b.node.log again.bytes b.node) config (subst (λ (ks : List (List ℕ)). GoesOn c.node.core.config ks b.node.log again.bytes b.node) keys again.on) in
      record {
        lives = lives_both me a n b.node lives (starts_live me n b.node b.node.log again.bytes sound has on);
        log = start_keeps n b.node sound b.node.log again.bytes on has (b.held b.node.log) again.there;
      }

  -- from its own log
  starts_whole : IsSound c.node → Lives me a c.node → HasLog c.node (c.held c.node.log) → Stands me a b
  starts_whole sound lives has =
      starts_as c.node sound lives refl refl
      (from_log c.node.core.config c.node.keys b.node.log again.bytes b.node again.on (c.held c.node.log) c.node again.from (sound_mends c.node (c.held c.node.log) sound has))

  -- or from one that was cut, mended
  module _ (sound : (n : NodeState) → Lives me a n → ((v : Vertex) → Among v n.core.journal → VertexInRange v × VertexFits v) → IsSound n) (left : IsSound c.node) (cut : IsCut me a c.node (c.held c.node.log)) where
    journal_is : c.node.core.journal ≡ cut.before.core.journal ++ cut.vertex ∷ []
    journal_is = ap (λ (k : NodeState). k.core.journal) cut.unlogged

    each : (w : Vertex) → Among w (cut.before.core.journal ++ cut.vertex ∷ []) → VertexInRange w × VertexFits w
    each w m = each_fits c.node left w (subst (λ (j : List Vertex). Among w j) (sym journal_is) m)

    its : VertexInRange cut.vertex × VertexFits cut.vertex
    its = each cut.vertex (from_right cut.vertex cut.before.core.journal (cut.vertex ∷ []) (inl refl))

    before_sound : IsSound cut.before
    before_sound = sound cut.before cut.lives (λ w m. each w (from_left w cut.before.core.journal (cut.vertex ∷ []) m))

    whole_sound : IsSound (with_entry cut.before cut.vertex)
    whole_sound = sound (with_entry cut.before cut.vertex) cut.whole each

    config_is : c.node.core.config ≡ cut.before.core.config
    config_is = ap (λ (k : NodeState). k.core.config) cut.unlogged

    keys_are : c.node.keys ≡ cut.before.keys
    keys_are = ap (λ (k : NodeState). k.keys) cut.unlogged

    starts_cut : Stands me a b
    starts_cut = elim (cut_mended cut.before cut.vertex (c.held c.node.log) before_sound cut.log its.0 its.1) [
      | inl mends ↦ starts_as cut.before before_sound cut.lives config_is keys_are (from_log c.node.core.config c.node.keys b.node.log again.bytes b.node again.on (c.held c.node.log) cut.before again.from mends)
      | inr mends ↦
          starts_as (with_entry cut.before cut.vertex) whole_sound cut.whole config_is keys_are
          (from_log c.node.core.config c.node.keys b.node.log again.bytes b.node again.on (c.held c.node.log) (with_entry cut.before cut.vertex) again.from mends)
    ]

-- ---- calls

module _ (me : ℕ) (a b : Standing) (sound : IsSound a.node) (validator : me < length a.node.core.config.weights) (ready : IsReady me a) where
  -- a node that goes on
  goes : (attempt : Attempt me a b) → IsWhole attempt → Stands me a.node b
  goes (makes now value result does wrote) whole = record {
    lives = make_lives me a.node sound validator ready.line now value b.node result does;
    log = make_keeps a.node me now value a.held b.held sound.kept validator ready.log b.node result does wrote whole;
  }
  goes (accepts v result does wrote fair) judged = record {
    lives = takes_fairly me a.node b.node (v ∷ []) fair (accepts_life a.node b.node v result does judged);
    log = accepts_keep a.node b.node v result a.held b.held does wrote judged ready.log;
  }
  goes (serves read written ends_old ends_new e does fair) logged = record {
    lives = takes_fairly me a.node b.node (taken_served a.node read) fair (serves_takes a.node b.node read written true a.held b.held ends_old ends_new e does logged);
    log = serves_keep a.node b.node read written true a.held b.held ends_old ends_new e does logged refl ready.log;
  }
  goes (drives mark now read written ends_old ends_new e does fair) logged = record {
    lives = takes_fairly me a.node b.node (taken_driven a.node mark read) fair (drives_takes a.node b.node mark now read written true a.held b.held ends_old ends_new e does logged);
    log = drives_keep a.node b.node mark now read written true a.held b.held ends_old ends_new e does logged refl ready.log;
  }
  goes (meets side address from to e does fair) logged = record {
    lives = takes_fairly me a.node b.node (vertices_of side a.node does.meets.read) fair (takes_met side address true (at_door a from) (at_door b to) e does logged);
    log = meets_keep side address true (at_door a from) (at_door b to) e does logged refl ready.log;
  }

  call_stands : Call me a b → Stands me a.node b
  call_stands (goes_on attempt whole) = goes attempt whole
  call_stands (starts again) = starts_whole me a.node a b again sound (same_lives me a.node a.node refl refl) ready.log
  call_stands (gives_up c attempt left again) = elim (attempt_leaves me a c sound validator ready attempt) [
    | inl (lives, has) ↦ starts_whole me a.node c b again left lives has
    | inr cut ↦ starts_cut me a.node c b again (lives_soundly me a.node sound validator ready.line) left cut
  ]

  pub call_ready : Call me a b → IsReady me b
  call_ready call = let s = call_stands call in record { line = lives_on_line me a.node sound validator ready.line b.node s.lives; log = s.log }

  pub call_validator : Call me a b → me < length b.node.core.config.weights
  call_validator call = subst (λ (k : Config). me < length k.weights) (sym (call_stands call).lives.config) validator

  pub call_grows : Call me a b → Grows a.node b.node
  call_grows call v m =
      let l = (call_stands call).lives in
      subst (λ (k : Logged). Among v k.log) (sym l.life) (log_grows (setting_of a.node.core.config) me (logged_of a.node) l.events v m)

  pub safe : IsSafeToStart (setting_of a.node.core.config) me (logged_of a.node)
  safe = lives_safely me a.node sound validator ready.line a.node (same_lives me a.node a.node refl refl)

pub calls_keep : CallsKeepOneLine
calls_keep me a [] validator sound ready calls b m = absurd m
calls_keep me a (c ∷ more) validator sound ready (call, next, rest) b (inl is) = subst (IsReady me) is (call_ready me a c sound validator ready call)
calls_keep me a (c ∷ more) validator sound ready (call, next, rest) b (inr m) = calls_keep me c more (call_validator me a c sound validator ready call) next (call_ready me a c sound validator ready call) rest b m

-- the last standing: it is sound and ready, and each journal before it is the beginning of its own
record IsLast (me : ℕ) (all : List Standing) : Type 0 where
  node : NodeState
  safe : IsSafeToStart (setting_of node.core.config) me (logged_of node)
  grows : (b : Standing) → Among b all → Grows b.node node

last : (me : ℕ) (a : Standing) (more : List Standing) → me < length a.node.core.config.weights → IsSound a.node → IsReady me a → AreCalls me a more → IsLast me (a ∷ more)
last me a [] validator sound ready calls = record { node = a.node; safe = safe me a a sound validator ready; grows = only }
  where
    only : (b : Standing) → Among b (a ∷ []) → Grows b.node a.node
    only b (inl is) = subst (λ (c : Standing). Grows c.node a.node) is (λ v m. m)
    only b (inr never) = absurd never
last me a (c ∷ more) validator sound ready (call, next, rest) =
    all (last me c more (call_validator me a c sound validator ready call) next (call_ready me a c sound validator ready call) rest) (call_grows me a c sound validator ready call)
  where
    all : IsLast me (c ∷ more) → Grows a.node c.node → IsLast me (a ∷ c ∷ more)
    all l grew = record { node = l.node; safe = l.safe; grows = each }
      where
        each : (b : Standing) → Among b (a ∷ c ∷ more) → Grows b.node l.node
        each b (inl is) = subst (λ (d : Standing). Grows d.node l.node) is (λ v m. l.grows c (inl refl) v (grew v m))
        each b (inr m) = l.grows b m

pub calls_apart : CallsKeepApart
calls_apart me a more validator sound ready calls v w (b, among, out) (d, also, goes) =
    let l = last me a more validator sound ready calls in
    out_apart (setting_of l.node.core.config) me (logged_of l.node) l.safe v w (goes_later b.node l.node (l.grows b among) v out) (goes_later d.node l.node (l.grows d also) w goes)
