-- What a node takes in a session is the first of what the peer sends.
use Rattle.std.proofs.Common.{◌≡◌, ℕ, ◌≤◌, List, [], ◌∷◌, ◌++◌, length, Option, Some, None, inl, inr, refl, sym, ap, subst, ◌∙◌}
use Rattle.std.proofs.lemmas.List.{append-nil}
use Rattle.hw_types.specs.declared.unit.Vertex.{Vertex}
use Rattle.hw_types.specs.declared.answers.Frame.{Frame}
use Rattle.hw_types.specs.declared.answers.Frame.TheVariants as frame
use Rattle.hw_types.specs.Journal.{Setting}
use Rattle.hw_types.specs.Real.{setting_of}
use Rattle.hw_honest.specs.Restart.{Logged, life_of, AreFair}
use Rattle.hw_link.specs.declared.end.SessionEnd.{SessionEnd}
use Rattle.hw_link.specs.declared.end.SessionEnd.TheVariants as end
use Rattle.hw_link.specs.Frames.{Placed, frames_of, byte_limit}
use Rattle.hw_link.specs.Talk.{Reaction}
use Rattle.hw_session.specs.declared.stage.PeerMark.{PeerMark}
use Rattle.hw_session.specs.Node.{NodeState}
use Rattle.hw_session.specs.Make.{with_entry}
use Rattle.hw_session.specs.Restart.{logged_of}
use Rattle.hw_session.specs.Serving.{serve_step}
use Rattle.hw_session.specs.Driving.{greeting, drive_step}
use Rattle.hw_run_laws.specs.Calls.{IsFairServed, IsFairDriven}
use Rattle.hw_run_laws.specs.Restart.{vertex_in, vertices_among, vertices_sent, arrivals, TakesSome, LeavesLog}
use Rattle.hw_run_laws.specs.Taken.{behind, taken_last, taken_then, taken_over, taken_served, taken_driven, AreFirst}
use Rattle.hw_run_laws.proofs.SentLaws.{given_first, takes_first}

-- ---- frame by frame

behind_both : (o : Option Vertex) (vs all : List Vertex) → AreFirst vs all → AreFirst (behind o vs) (behind o all)
behind_both None vs all first = first
behind_both (Some v) vs all (more, is) = (more, ap (λ (ws : List Vertex). v ∷ ws) is)

behind_none : (o : Option Vertex) (all : List Vertex) → AreFirst (behind o []) (behind o all)
behind_none o all = behind_both o [] all (all, refl)

last_first : (f : Frame) (e : SessionEnd) (all : List Vertex) → AreFirst (taken_last f e) (behind (vertex_in f) all)
last_first f (end.BadFrame at) all = (behind (vertex_in f) all, refl)
last_first f end.Done all = behind_none (vertex_in f) all
last_first f end.EndOfInput all = behind_none (vertex_in f) all
last_first f end.WrongInstance all = behind_none (vertex_in f) all
last_first f end.LinkFault all = behind_none (vertex_in f) all
last_first f end.ByteLimit all = behind_none (vertex_in f) all
last_first f end.Clash all = behind_none (vertex_in f) all
last_first f end.AppendFault all = behind_none (vertex_in f) all
last_first f end.OutOfMemory all = behind_none (vertex_in f) all

among_is : (f : Placed) (fs : List Placed) → vertices_among (f ∷ fs) ≡ behind (vertex_in f.frame) (vertices_among fs)
among_is f fs = go f.frame
  where
    go : (g : Frame) → vertices_among (record { at = f.at; frame = g } ∷ fs) ≡ behind (vertex_in g) (vertices_among fs)
    go (frame.Vertex v) = refl
    go (frame.Hello instance) = refl
    go (frame.Have place) = refl
    go (frame.Want needs) = refl
    go frame.Done = refl
    go (frame.Missing need) = refl

-- ---- a session

module _ {S : Type 0} (step : S → Placed → Reaction S) where
  -- the vertices that are taken are the first that are there
  pub taken_first : (s : S) (fs : List Placed) → AreFirst (taken_over step s fs) (vertices_among fs)
  unfolding taken_over
  taken_first s [] = ([], refl)
  taken_first s (f ∷ fs) = subst (λ (all : List Vertex). AreFirst (taken_then f.frame (step s f).end rest) all) (sym (among_is f fs)) (go (taken_first (step s f).state fs) (step s f).end)
    where
      rest : List Vertex
      rest = taken_over step (step s f).state fs

      go : AreFirst rest (vertices_among fs) → (o : Option SessionEnd) → AreFirst (taken_then f.frame o rest) (behind (vertex_in f.frame) (vertices_among fs))
      go others (Some e) = last_first f.frame e (vertices_among fs)
      go others None = behind_both (vertex_in f.frame) rest (vertices_among fs) others

  -- behind more frames they are the first
  taken_more : (s : S) (fs later : List Placed) → AreFirst (taken_over step s fs) (taken_over step s (fs ++ later))
  unfolding taken_over
  taken_more s [] later = (taken_over step s later, refl)
  taken_more s (f ∷ fs) later = go (taken_more (step s f).state fs later) (step s f).end
    where
      rest : List Vertex
      rest = taken_over step (step s f).state fs

      longer : List Vertex
      longer = taken_over step (step s f).state (fs ++ later)

      go : AreFirst rest longer → (o : Option SessionEnd) → AreFirst (taken_then f.frame o rest) (taken_then f.frame o longer)
      go others (Some e) = ([], sym (append-nil (taken_last f.frame e)))
      go others None = behind_both (vertex_in f.frame) rest longer others

  -- and so they are behind more bytes
  pub taken_before : (s : S) (read first part : List ℕ) → read ≡ first ++ part → length read ≤ byte_limit → AreFirst (taken_over step s (frames_of first).given) (taken_over step s (frames_of read).given)
  taken_before s read first part is few =
      let frames = given_first first part (subst (λ (b : List ℕ). length b ≤ byte_limit) is few) in
      subst (λ (fs : List Placed). AreFirst (taken_over step s (frames_of first).given) (taken_over step s fs)) (sym (ap (λ (b : List ℕ). (frames_of b).given) is ∙ frames.1))
      (taken_more s (frames_of first).given frames.0)

-- ---- lives

-- what the first of these vertices do they do all
pub takes_more : (n m : NodeState) (vs all : List Vertex) → AreFirst vs all → TakesSome n vs m → TakesSome n all m
takes_more n m vs all (more, is) takes = subst (λ (ws : List Vertex). TakesSome n ws m) (sym is) (takes_first n m vs more takes)

pub leaves_more : (n m : NodeState) (vs all : List Vertex) (file : Option (List ℕ)) → AreFirst vs all → LeavesLog n vs m file → LeavesLog n all m file
leaves_more n m vs all file first (inl (takes, has)) = inl (takes_more n m vs all first takes, has)
leaves_more n m vs all file first (inr cut) = inr (record {
  before = cut.before;
  vertex = cut.vertex;
  takes = takes_more n cut.before vs all first cut.takes;
  whole = takes_more n (with_entry cut.before cut.vertex) vs all first cut.whole;
  unlogged = cut.unlogged;
  log = cut.log;
})

-- ---- fair peers

-- of fair vertices the first are fair
fair_part : (s : Setting) (me : ℕ) (l : Logged) (n : NodeState) (vs more : List Vertex) → AreFair s me l (arrivals n (vs ++ more)) → AreFair s me l (arrivals n vs)
fair_part s me l n [] more fair = tt
fair_part s me l n (v ∷ vs) more (one, rest) = (one, fair_part s me (life_of s me l (arrivals n (v ∷ []))) n vs more rest)

pub fair_first : (me : ℕ) (n : NodeState) (vs all : List Vertex) → AreFirst vs all → AreFair (setting_of n.core.config) me (logged_of n) (arrivals n all) → AreFair (setting_of n.core.config) me (logged_of n) (arrivals n vs)
fair_first me n vs all (more, is) fair = fair_part (setting_of n.core.config) me (logged_of n) n vs more (subst (λ (ws : List Vertex). AreFair (setting_of n.core.config) me (logged_of n) (arrivals n ws)) is fair)

-- where all that a peer sends is fair, so is what is taken
pub fair_served : (me : ℕ) (n : NodeState) (read : List ℕ) → AreFair (setting_of n.core.config) me (logged_of n) (arrivals n (vertices_sent read)) → IsFairServed me n read
fair_served me n read = fair_first me n (taken_served n read) (vertices_sent read) (taken_first serve_step n (frames_of read).given)

pub fair_driven : (me : ℕ) (n : NodeState) (mark : PeerMark) (read : List ℕ) → AreFair (setting_of n.core.config) me (logged_of n) (arrivals n (vertices_sent read)) → IsFairDriven me n mark read
fair_driven me n mark read = fair_first me n (taken_driven n mark read) (vertices_sent read) (taken_first drive_step (greeting n mark) (frames_of read).given)
