-- What a meeting leaves is a life of the node, and what is said in it is of the node's log before it.
use Rattle.std.specs.Prelude.{drop}
use Rattle.std.proofs.Common.{◌≡◌, ℕ, ◌≤◌, List, [], ◌∷◌, ◌++◌, length, Option, Some, None, inl, refl, sym, ap, subst, ◌∙◌}
use Rattle.std.proofs.lemmas.List.{append_assoc, append-nil, take-append-drop}
use Rattle.hw_types.specs.declared.unit.Vertex.{Vertex}
use Rattle.hw_keys.specs.Signed.{verdict_of}
use Rattle.hw_link.specs.declared.end.SessionEnd.{SessionEnd}
use Rattle.hw_link.specs.Frames.{byte_limit}
use Rattle.hw_link.proofs.FrameLaws.{frame_by-shorter, frame_by-none}
use Rattle.hw_meeting.specs.Frames.{meeting_of}
use Rattle.hw_meeting_node.specs.Frames.{Placed, frame_here}
use Rattle.hw_meeting_node.specs.declared.meeter.Side.{Side}
use Rattle.hw_meeting_node.specs.Talk.{Reaction, Talk, with_reaction, talk, frames_of}
use Rattle.hw_meeting_node.specs.Taking.{TakingMeeting, vertex_at, taken_then, taking_step, taking_nothing, taken_in}
use Rattle.hw_meeting_node.proofs.SentLaws.{taken_first, said_stood}
use Rattle.hw_session.specs.Node.{NodeState}
use Rattle.hw_service.specs.Meets.{vertices_of, after_meeting}
use Rattle.hw_run_laws.specs.Restart.{vertices_told, MetIsALife, MetSaysOfLog}
use Rattle.hw_run_laws.specs.Taken.{AreFirst}
use Rattle.hw_run_laws.proofs.FrameLaws.{split_by}
use Rattle.hw_run_laws.proofs.LifeLaws.{all_live, takes_all}
use Rattle.hw_run_laws.proofs.SentLaws.{limited_first}
use Rattle.hw_run_laws.proofs.TakingLaws.{takes_more}

-- ---- what is taken

module _ (step : TakingMeeting → Placed → Reaction TakingMeeting) (grows : (t : TakingMeeting) (f : Placed) → AreFirst t.taken (step t f).state.taken) where
  -- the talk behind this frame, if it ends so
  abbrev behind_frame : TakingMeeting → Placed → Option SessionEnd → (TakingMeeting → Talk TakingMeeting) → List Vertex
  behind_frame t f o others = (with_reaction (record { state = (step t f).state; says = (step t f).says; end = o }) others).state.taken

  first_then : (xs ys zs : List Vertex) → AreFirst xs ys → AreFirst ys zs → AreFirst xs zs
  first_then xs ys zs (more, is) (others, so) = (more ++ others, so ∙ ap (λ (ws : List Vertex). ws ++ others) is ∙ append_assoc xs more others)

  talk_keeps : (last : SessionEnd) (t : TakingMeeting) (fs : List Placed) → AreFirst t.taken (talk step last t fs).state.taken
  unfolding talk
  talk_keeps last t [] = ([], sym (append-nil t.taken))
  talk_keeps last t (f ∷ fs) = go (talk_keeps last (step t f).state fs) (step t f).end
    where
      others : TakingMeeting → Talk TakingMeeting
      others x = talk step last x fs

      go : AreFirst (step t f).state.taken (others (step t f).state).state.taken → (o : Option SessionEnd) → AreFirst t.taken (behind_frame t f o others)
      go rest (Some e) = grows t f
      go rest None = first_then t.taken (step t f).state.taken (others (step t f).state).state.taken (grows t f) rest

  talk_more : (last after : SessionEnd) (t : TakingMeeting) (fs later : List Placed) → AreFirst (talk step last t fs).state.taken (talk step after t (fs ++ later)).state.taken
  unfolding talk
  talk_more last after t [] later = talk_keeps after t later
  talk_more last after t (f ∷ fs) later = go (talk_more last after (step t f).state fs later) (step t f).end
    where
      some : TakingMeeting → Talk TakingMeeting
      some x = talk step last x fs

      all : TakingMeeting → Talk TakingMeeting
      all x = talk step after x (fs ++ later)

      go : AreFirst (some (step t f).state).state.taken (all (step t f).state).state.taken → (o : Option SessionEnd) → AreFirst (behind_frame t f o some) (behind_frame t f o all)
      go rest (Some e) = ([], sym (append-nil (step t f).state.taken))
      go rest None = rest

takes_due : (taken : List Vertex) (due : Option Vertex) → AreFirst taken (taken_then taken due)
takes_due taken None = ([], sym (append-nil taken))
takes_due taken (Some v) = (v ∷ [], refl)

-- what is taken of the first bytes comes first
pub met_before : (side : Side) (n : NodeState) (read first part : List ℕ) → read ≡ first ++ part → length read ≤ byte_limit → AreFirst (vertices_of side n first) (vertices_of side n read)
unfolding taken_in
met_before side n read first part is few =
    let validators = length n.core.config.weights in
    let judge = verdict_of n.keys in
    let spelled = meeting_of validators in
    let step = taking_step side judge in
    let begins = taking_nothing n.core in
    let frames = limited_first (frame_here validators) (frame_by-shorter spelled) (frame_by-none spelled) (split_by spelled) first part (subst (λ (b : List ℕ). length b ≤ byte_limit) is few) in
    let whole = frames_of validators read in
    subst (λ (fs : List Placed). AreFirst (vertices_of side n first) (talk step whole.end begins fs).state.taken) (sym (ap (λ (b : List ℕ). (frames_of validators b).given) is ∙ frames.1))
    (talk_more step (λ t f. takes_due t.taken (vertex_at t.meeting.stage f.frame)) (frames_of validators first).end whole.end begins (frames_of validators first).given frames.0)

-- and all that is taken is the first of what is sent
pub met_first : (side : Side) (n : NodeState) (bytes : List ℕ) → AreFirst (vertices_of side n bytes) (vertices_told n bytes)
met_first side n bytes =
    let first = taken_first side n.core (verdict_of n.keys) bytes in
    (drop first.0 (vertices_told n bytes), sym (ap (λ (vs : List Vertex). vs ++ drop first.0 (vertices_told n bytes)) first.1 ∙ take-append-drop first.0 (vertices_told n bytes)))

-- ---- a life

pub met_life : MetIsALife
met_life side n bytes = takes_more n (after_meeting side n bytes) (vertices_of side n bytes) (vertices_told n bytes) (met_first side n bytes) (takes_all n (after_meeting side n bytes) (vertices_of side n bytes) refl)

pub met_config : (side : Side) (n : NodeState) (bytes : List ℕ) → (after_meeting side n bytes).core.config ≡ n.core.config
met_config side n bytes = (all_live 0 n (vertices_of side n bytes)).config

-- ---- what is said

pub met_says : MetSaysOfLog
met_says side n bytes v m = inl (said_stood side n.core (verdict_of n.keys) bytes v m)
