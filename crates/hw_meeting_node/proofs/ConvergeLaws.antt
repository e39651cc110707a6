-- Two nodes that met converge.
use Rattle.std.proofs.Common.{◌≤◌, inl, inr, ◌≡◌, ◌⊎◌, ℕ, ◌<◌, Bool, true, false, cond, List, [], length, ◌∷◌, ◌++◌, map, Result, Ok, Err, refl, sym, ap, subst, ◌∙◌, arith}
use Rattle.std.specs.Prelude.{fold, is_ok, IsOk}
use Rattle.std.specs.List.{AllByRecursion}
use Rattle.std.proofs.lemmas.List.Elements.{All-from_recursion}
use Rattle.hw_types.specs.declared.config.Config.{Config}
use Rattle.hw_types.specs.declared.unit.Vertex.{Vertex}
use Rattle.hw_types.specs.declared.answers.Receipt.{Receipt}
use Rattle.hw_types.specs.declared.answers.Cause.{Cause}
use Rattle.hw_types.specs.Journal.{Setting, received_of, answer, journal_after, answers_from}
use Rattle.hw_types.specs.Spelling.{instance_of}
use Rattle.hw_types.specs.Real.{CoreState, setting_of}
use Rattle.hw_types.specs.laws.StateLaws.{SaysTheSame, HasSameState}
use Rattle.hw_io.specs.Faults.{raised}
use Rattle.hw_safety.specs.Taken.{taken, NoneRefused}
use Rattle.hw_agree.specs.declared.summary.LaneSummary.{LaneSummary}
use Rattle.hw_agree.specs.Converge.{due_to, UnitsClash}
use Rattle.hw_agree.proofs.ConvergeLaws as laws
use Rattle.hw_meeting.specs.declared.frame.MeetingFrame.{MeetingFrame}
use Rattle.hw_meeting.specs.declared.frame.MeetingFrame.TheVariants as frame
use Rattle.hw_link.specs.declared.end.SessionEnd.{SessionEnd}
use Rattle.hw_link.specs.declared.end.SessionEnd.TheVariants as by
use Rattle.hw_meeting_node.specs.declared.end.MeetEnd.TheVariants as end
use Rattle.hw_meeting_node.specs.declared.meeter.Side.TheVariants.{Caller, Host}
use Rattle.hw_meeting_node.specs.Talk.{Talk}
use Rattle.hw_meeting_node.specs.Sessions.{meet_end, EndsAs}
use Rattle.hw_meeting_node.specs.Meeting.{Meeting, told_of, torn_by, owed_by, met}
use Rattle.hw_meeting_node.specs.Laws.{heard_in, judged, refusals, all_words, WasDone, node_of, HaveMet, MeetingsConverge, MetNodesAreOne}
use Rattle.hw_types.proofs.LimitLaws.{within_limits}
use Rattle.hw_meeting_node.proofs.ReadLaws.{words_read}
use Rattle.hw_meeting_node.proofs.DoneLaws.{done}

-- ---- none was refused

abbrev from : ℕ → List (Result Receipt Cause) → ℕ
from k answers = fold (λ k a. cond (is_ok a) k (raised k)) k answers

-- what was counted stays counted
still : (k : ℕ) (answers : List (Result Receipt Cause)) → 0 < k → 0 < from k answers
still k [] some = some
still k (Ok r ∷ more) some = still k more some
still k (Err c ∷ more) some = still (raised k) more (omega arith)

all_ok : (answers : List (Result Receipt Cause)) → from 0 answers ≡ 0 → AllByRecursion (λ a. IsOk a) answers
all_ok [] none = tt
all_ok (Ok r ∷ more) none = (refl, all_ok more none)
all_ok (Err c ∷ more) none = absurd (let some = still (raised 0) more (omega arith) in omega arith)

module _ (s : Setting) (judge : Vertex → Bool) where
  -- what isn't refused has a true verdict
  verdict_true : (journal : List Vertex) (v : Vertex) → IsOk (answer s journal v (judge v)) → judge v ≡ true
  unfolding answer
  verdict_true journal v ok = go (judge v) refl ok
    where
      go : (b : Bool) → judge v ≡ b → IsOk (answer s journal v b) → b ≡ true
      go true is h = refl
      go false is h = absurd cc

  record IsTaken (journal : List Vertex) (vs : List Vertex) : Type 0 where
    same : fold (journal_after s) journal (judged judge vs) ≡ taken s journal vs
    none : AllByRecursion (λ a. IsOk a) (answers_from s journal (map (λ v. (v, true)) vs))

  all_taken : (journal vs : List Vertex) → AllByRecursion (λ a. IsOk a) (answers_from s journal (judged judge vs)) → IsTaken journal vs
  unfolding answers_from
  all_taken journal [] ok = record { same = refl; none = tt }
  all_taken journal (v ∷ vs) ok =
      let good = verdict_true journal v ok.0 in
      let rest = all_taken (journal_after s journal (v, judge v)) vs ok.1 in
      record {
        same = subst (λ (b : Bool). fold (journal_after s) (journal_after s journal (v, judge v)) (judged judge vs) ≡ taken s (journal_after s journal (v, b)) vs) good rest.same;
        none = (subst (λ (b : Bool). IsOk (answer s journal v b)) good ok.0, subst (λ (b : Bool). AllByRecursion (λ a. IsOk a) (answers_from s (journal_after s journal (v, b)) (map (λ v. (v, true)) vs))) good rest.none);
      }

  record TakesAll (journal vs end : List Vertex) : Type 0 where
    pub journal_is : end ≡ taken s journal vs
    pub none : NoneRefused s journal vs

  takes_all : (journal vs end : List Vertex) (refused : ℕ) → end ≡ fold (journal_after s) journal (judged judge vs) → refused ≡ refusals (answers_from s journal (judged judge vs)) → refused ≡ 0 → TakesAll journal vs end
  takes_all journal vs end refused is count none =
      let t = all_taken journal vs (all_ok (answers_from s journal (judged judge vs)) (sym count ∙ none)) in
      record { journal_is = is ∙ t.same; none = All-from_recursion (λ a. IsOk a) (answers_from s journal (map (λ v. (v, true)) vs)) t.none }

-- ---- what one heard is what the other said

up_to_done : (vs ws : List Vertex) (rest : List MeetingFrame) → map frame.Vertex vs ++ frame.Done ∷ rest ≡ map frame.Vertex ws ++ frame.Done ∷ [] → vs ≡ ws
up_to_done [] [] rest is = refl
up_to_done [] (w ∷ ws) rest is = absurd cc
up_to_done (v ∷ vs) [] rest is = absurd cc
up_to_done (v ∷ vs) (w ∷ ws) rest is = (let head : v ≡ w = cc in let tail : map frame.Vertex vs ++ frame.Done ∷ rest ≡ map frame.Vertex ws ++ frame.Done ∷ [] = cc in let others = up_to_done vs ws rest tail in λ i. head i ∷ others i)

record Agrees (d : CoreState) (theirs own_theirs : List LaneSummary) (torn own_torn : List ℕ) (vertices : List Vertex) : Type 0 where
  pub summary_is : theirs ≡ told_of d
  pub torn_is : torn ≡ torn_by d own_theirs
  pub vertices_are : vertices ≡ owed_by d own_theirs own_torn

agrees : (d : CoreState) (instance : Rattle.hw_types.specs.declared.unit.Digest.Digest) (theirs own_theirs : List LaneSummary) (torn own_torn : List ℕ) (vertices : List Vertex) (rest : List MeetingFrame)
    → frame.Hello instance ∷ frame.Summary theirs ∷ frame.Torn torn ∷ (map frame.Vertex vertices ++ frame.Done ∷ rest) ≡ all_words d own_theirs own_torn → Agrees d theirs own_theirs torn own_torn vertices
agrees d instance theirs own_theirs torn own_torn vertices rest is = record {
  summary_is = cc;
  torn_is = cc;
  vertices_are = up_to_done vertices (owed_by d own_theirs own_torn) rest cc;
}

-- ---- both

-- a meeting that ended as done ended so by its bytes
done_of : (x : SessionEnd) (k : ℕ) → end.Done 0 ≡ meet_end x k → (x ≡ by.Done) × (k ≡ 0)
done_of by.Done k is = (refl, cc)
done_of by.EndOfInput k is = absurd cc
done_of by.WrongInstance k is = absurd cc
done_of (by.BadFrame at) k is = absurd cc
done_of by.LinkFault k is = absurd cc
done_of by.AppendFault k is = absurd cc
done_of by.ByteLimit k is = absurd cc
done_of by.Clash k is = absurd cc
done_of by.OutOfMemory k is = absurd cc

pub by_bytes : (t : Talk Meeting) → EndsAs (end.Done 0) t → (t.end ≡ by.Done) × (t.state.refused ≡ 0)
by_bytes t (inl is) = done_of t.end t.state.refused is
by_bytes t (inr of) = absurd of

module _ (config : Config) (left right : List (Vertex × Bool)) (judge_left judge_right : Vertex → Bool) (one other : CoreState) (h : HaveMet config left right judge_left judge_right one other) where
  abbrev s : Setting
  s = setting_of config

  abbrev l : CoreState
  l = node_of config left h.asked_left

  abbrev r : CoreState
  r = node_of config right h.asked_right

  abbrev read_left : List ℕ
  read_left = h.read_left

  abbrev read_right : List ℕ
  read_right = h.read_right

  left_end : ((met Caller l judge_left read_left).end ≡ by.Done) × ((met Caller l judge_left read_left).state.refused ≡ 0)
  left_end = by_bytes (met Caller l judge_left read_left) h.left_met.ended

  right_end : ((met Host r judge_right read_right).end ≡ by.Done) × ((met Host r judge_right read_right).state.refused ≡ 0)
  right_end = by_bytes (met Host r judge_right read_right) h.right_met.ended

  of_left : WasDone Caller l judge_left read_left
  of_left = done Caller l judge_left read_left left_end.0

  of_right : WasDone Host r judge_right read_right
  of_right = done Host r judge_right read_right right_end.0

  few : length config.weights ≤ 1024
  few = (within_limits config h.lawful).few

  left_heard : heard_in (length config.weights) read_left ≡ (met Host r judge_right read_right).said
  left_heard = words_read r h.right_fit few of_right.theirs of_right.torn (met Host r judge_right read_right).said read_left of_right.said h.right_in_range h.right_met.wrote h.left_met.within

  right_heard : heard_in (length config.weights) read_right ≡ (met Caller l judge_left read_left).said
  right_heard = words_read l h.left_fit few of_left.theirs of_left.torn (met Caller l judge_left read_left).said read_right of_left.said h.left_in_range h.left_met.wrote h.right_met.within

  left_agrees : Agrees r of_left.theirs of_right.theirs of_left.torn of_right.torn of_left.vertices
  left_agrees = agrees r (instance_of config) of_left.theirs of_right.theirs of_left.torn of_right.torn of_left.vertices of_left.rest (sym of_left.heard ∙ left_heard ∙ of_right.said)

  right_agrees : Agrees l of_right.theirs of_left.theirs of_right.torn of_left.torn of_right.vertices
  right_agrees = agrees l (instance_of config) of_right.theirs of_left.theirs of_right.torn of_left.torn of_right.vertices of_right.rest (sym of_right.heard ∙ right_heard ∙ of_left.said)

  -- each took what was due to it
  left_due : of_left.vertices ≡ due_to s r.journal l.journal
  left_due =
      left_agrees.vertices_are
      ∙ ap (λ (t : List LaneSummary). owed_by r t of_right.torn) right_agrees.summary_is
      ∙ ap (λ (t : List ℕ). owed_by r (told_of l) t) (right_agrees.torn_is ∙ ap (torn_by l) left_agrees.summary_is)

  right_due : of_right.vertices ≡ due_to s l.journal r.journal
  right_due =
      right_agrees.vertices_are
      ∙ ap (λ (t : List LaneSummary). owed_by l t of_left.torn) left_agrees.summary_is
      ∙ ap (λ (t : List ℕ). owed_by l (told_of r) t) (left_agrees.torn_is ∙ ap (torn_by r) right_agrees.summary_is)

  left_takes : TakesAll s judge_left l.journal (due_to s r.journal l.journal) one.journal
  left_takes = subst (λ (vs : List Vertex). TakesAll s judge_left l.journal vs one.journal) left_due (takes_all s judge_left l.journal of_left.vertices one.journal _ (ap (λ (c : CoreState). c.journal) h.left_met.left ∙ of_left.journal) of_left.refused left_end.1)

  right_takes : TakesAll s judge_right r.journal (due_to s l.journal r.journal) other.journal
  right_takes = subst (λ (vs : List Vertex). TakesAll s judge_right r.journal vs other.journal) right_due (takes_all s judge_right r.journal of_right.vertices other.journal _ (ap (λ (c : CoreState). c.journal) h.right_met.left ∙ of_right.journal) of_right.refused right_end.1)

  same : SaysTheSame s one.journal other.journal ⊎ UnitsClash s one.journal other.journal
  same =
      subst (λ (a : List Vertex). SaysTheSame s a other.journal ⊎ UnitsClash s a other.journal) (sym left_takes.journal_is)
      (subst (λ (b : List Vertex). SaysTheSame s (taken s l.journal (due_to s r.journal l.journal)) b ⊎ UnitsClash s (taken s l.journal (due_to s r.journal l.journal)) b) (sym right_takes.journal_is)
      (laws.converge s left right left_takes.none right_takes.none))

  one_state : HasSameState config (received_of s one.journal) (received_of s other.journal) ⊎ UnitsClash s one.journal other.journal
  one_state =
      subst (λ (a : List Vertex). HasSameState config (received_of s a) (received_of s other.journal) ⊎ UnitsClash s a other.journal) (sym left_takes.journal_is)
      (subst (λ (b : List Vertex). HasSameState config (received_of s (taken s l.journal (due_to s r.journal l.journal))) (received_of s b) ⊎ UnitsClash s (taken s l.journal (due_to s r.journal l.journal)) b) (sym right_takes.journal_is)
      (laws.states s left right left_takes.none right_takes.none))

pub converge : MeetingsConverge
converge config left right judge_left judge_right one other h = same config left right judge_left judge_right one other h

pub states : MetNodesAreOne
states config left right judge_left judge_right one other h = one_state config left right judge_left judge_right one other h
