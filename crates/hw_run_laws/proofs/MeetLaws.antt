-- What a meeting that took place leaves of a node and its log.
use Rattle.std.proofs.Common.{◌≡◌, ℕ, Bool, true, List, [], ◌∷◌, ◌++◌, Option, Result, Ok, Err, IsTrue, inl, inr, refl, sym, ap, subst, ◌∙◌}
use Rattle.std.proofs.lemmas.List.Sums.{fold-append}
use Rattle.hw_types.specs.declared.unit.Vertex.{Vertex}
use Rattle.hw_types.specs.declared.answers.Receipt.{Receipt}
use Rattle.hw_types.specs.declared.answers.Receipt.TheVariants as receipt
use Rattle.hw_types.specs.declared.answers.Cause.{Cause}
use Rattle.hw_types.specs.Below.{Among}
use Rattle.hw_types.specs.Journal.{is_accepted}
use Rattle.hw_types.proofs.UnionLaws.{from_left}
use Rattle.hw_session.specs.Node.{NodeState}
use Rattle.hw_session.specs.Make.{with_entry}
use Rattle.hw_session.specs.Accept.{given_to, taken_by, IsTakenIn}
use Rattle.hw_session.specs.Grows.{Gains, Logs}
use Rattle.hw_session.specs.Restart.{HasLog}
use Rattle.hw_meeting_node.specs.declared.end.MeetEnd.{MeetEnd}
use Rattle.hw_meeting_node.specs.declared.end.MeetEnd.TheVariants as end
use Rattle.hw_meeting_node.specs.declared.meeter.Side.{Side}
use Rattle.hw_service.specs.Talk.{Talker}
use Rattle.hw_service.specs.Meets.{after_vertex, after_all, vertices_of, after_meeting, StandsBefore, StandsCut, Leaves, NodeMeets}
use Rattle.hw_run_laws.specs.Restart.{TakesSome, vertices_told, IsMetLogged, LeavesLog, MeetsIsALife, MeetsKeepsLog, MeetsLeavesLog, MeetsSaysOfLog}
use Rattle.hw_run_laws.proofs.OutLaws.{Grows, goes_later}
use Rattle.hw_run_laws.proofs.CutLaws.{stands, cut}
use Rattle.hw_run_laws.proofs.LifeLaws.{takes_all}
use Rattle.hw_run_laws.proofs.MetLaws.{met_config, met_says, met_before, met_first}
use Rattle.hw_run_laws.proofs.TakingLaws.{takes_more, leaves_more}

-- ---- the vertex whose entry was cut

-- an accepted vertex goes last in the journal, and its entry last in the log
pub accepted_is : (n : NodeState) (v : Vertex) (a : Result Receipt Cause) → is_accepted a ≡ true → taken_by n v a ≡ with_entry n v
accepted_is n v (Ok (receipt.Admitted k)) is = refl
accepted_is n v (Ok (receipt.Parked k)) is = refl
accepted_is n v (Ok (receipt.Dropped rule)) is = refl
accepted_is n v (Ok receipt.Repeat) is = absurd cc
accepted_is n v (Err c) is = absurd cc

-- the node that has it with its whole entry is the one that all of the bytes leave
with_last : (side : Side) (n : NodeState) (read first : List ℕ) (v : Vertex) → vertices_of side n read ≡ vertices_of side n first ++ v ∷ [] → IsTakenIn (after_meeting side n first) v → after_meeting side n read ≡ with_entry (after_meeting side n first) v
with_last side n read first v last is =
    let before = after_meeting side n first in
    ap (after_all n) last ∙ fold-append after_vertex n (vertices_of side n first) (v ∷ []) ∙ accepted_is before v (given_to before v) is

-- ---- what is left

module _ (side : Side) (address : Option (List ℕ)) (tells : Bool) (old new : Talker) (e : MeetEnd) (s : NodeMeets side address tells old new e) where
  abbrev n : NodeState
  n = old.node

  abbrev m : NodeState
  m = new.node

  abbrev read : List ℕ
  read = s.meets.read

  -- where no append failed and there was memory, all of the bytes leave it, with its log
  whole : (e : MeetEnd) → IsMetLogged e → Leaves e side n read m tells old.files new.files → (m ≡ after_meeting side n read) × Logs n m tells old.files new.files
  whole (end.Done refused) logged left = left
  whole end.EndOfInput logged left = left
  whole end.WrongInstance logged left = left
  whole (end.BadFrame at) logged left = left
  whole end.LinkFault logged left = left
  whole end.ByteLimit logged left = left
  whole end.Clash logged left = left
  whole end.AppendFault logged left = absurd logged
  whole end.OutOfMemory logged left = absurd logged

  -- the first of these bytes leave it
  stands_behind : (bytes : List ℕ) → m ≡ after_meeting side n bytes → TakesSome n (vertices_of side n bytes) m
  stands_behind bytes = takes_all n m (vertices_of side n bytes)

  -- what is taken of the first bytes comes first
  takes_on : (k : NodeState) (first part : List ℕ) → read ≡ first ++ part → TakesSome n (vertices_of side n first) k → TakesSome n (vertices_of side n read) k
  takes_on k first part split = takes_more n k (vertices_of side n first) (vertices_of side n read) (met_before side n read first part split s.meets.meets.within)

  config_behind : (bytes : List ℕ) → m ≡ after_meeting side n bytes → m.core.config ≡ n.core.config
  config_behind bytes is = ap (λ (k : NodeState). k.core.config) is ∙ met_config side n bytes

  abbrev IsWhole : Type 0
  IsWhole = (m ≡ after_meeting side n read) × Logs n m tells old.files new.files

  abbrev IsBefore : Type 0
  IsBefore = StandsBefore side n read m tells old.files new.files

  abbrev IsCut : Type 0
  IsCut = StandsCut side n read m tells old.files new.files

  -- it stands with all of the bytes, with the first of them, or is cut
  by_end : {P : Type 0} → (IsWhole → P) → (IsBefore → P) → (IsCut → P) → (e : MeetEnd) → Leaves e side n read m tells old.files new.files → P
  by_end all before cut (end.Done refused) left = all left
  by_end all before cut end.EndOfInput left = all left
  by_end all before cut end.WrongInstance left = all left
  by_end all before cut (end.BadFrame at) left = all left
  by_end all before cut end.LinkFault left = all left
  by_end all before cut end.ByteLimit left = all left
  by_end all before cut end.Clash left = all left
  by_end all before cut end.AppendFault left = cut left
  by_end all before cut end.OutOfMemory (inl left) = before left
  by_end all before cut end.OutOfMemory (inr left) = cut left

  abbrev Left : Type 0
  Left = LeavesLog n (vertices_of side n read) m (new.files m.log)

  pub takes_met : IsMetLogged e → TakesSome n (vertices_of side n read) m
  takes_met logged = stands_behind read (whole e logged s.left).0

  keeps_log : IsMetLogged e → IsTrue tells → HasLog n (old.files n.log) → HasLog m (new.files m.log)
  keeps_log logged told has = let left = whole e logged s.left in stands n tells old.files new.files told has m (config_behind read left.0) left.1

  pub leaves_met : IsTrue tells → HasLog n (old.files n.log) → Left
  leaves_met told has = by_end all first last e s.left
    where
      all : IsWhole → Left
      all (is, logs) = inl (stands_behind read is, stands n tells old.files new.files told has m (config_behind read is) logs)

      first : IsBefore → Left
      first b = inl (
        takes_on m b.first b.part b.split (stands_behind b.first b.state),
        stands n tells old.files new.files told has m (config_behind b.first b.state) b.logs,
      )

      last : IsCut → Left
      last c =
          let before = after_meeting side n c.first in
          inr (record {
            before = before;
            vertex = c.vertex;
            takes = takes_on before c.first c.part c.split (takes_all n before (vertices_of side n c.first) refl);
            whole = takes_all n (with_entry before c.vertex) (vertices_of side n read) (sym (with_last side n read c.first c.vertex c.last c.logs.unlogged.0));
            unlogged = c.logs.unlogged.1;
            log = cut n tells old.files new.files told has before m c.vertex (met_config side n c.first) c.logs;
          })

  -- ---- what is said

  gains_grow : (vs : List Vertex) (k : NodeState) → Gains n vs k → Grows n k
  gains_grow vs k gains v there = subst (λ (journal : List Vertex). Among v journal) (sym gains.journal) (from_left v n.core.journal vs there)

  grows : Grows n m
  grows = by_end (λ left. gains_grow left.1.vertices m left.1.gains) (λ b. gains_grow b.logs.vertices m b.logs.gains) last e s.left
    where
      last : IsCut → Grows n m
      last c v there =
          let before = after_meeting side n c.first in
          subst (λ (k : NodeState). Among v k.core.journal) (sym c.logs.unlogged.1) (from_left v before.core.journal (c.vertex ∷ []) (gains_grow c.logs.vertices before c.logs.gains v there))

pub meets_life : MeetsIsALife
meets_life side address tells old new e s logged =
    takes_more old.node new.node (vertices_of side old.node s.meets.read) (vertices_told old.node s.meets.read) (met_first side old.node s.meets.read) (takes_met side address tells old new e s logged)

pub meets_keep : MeetsKeepsLog
meets_keep = keeps_log

pub meets_leave : MeetsLeavesLog
meets_leave side address tells old new e s told has =
    leaves_more old.node new.node (vertices_of side old.node s.meets.read) (vertices_told old.node s.meets.read) (new.files new.node.log) (met_first side old.node s.meets.read) (leaves_met side address tells old new e s told has)

pub meets_say : MeetsSaysOfLog
meets_say side address tells old new e s v said = goes_later old.node new.node (grows side address tells old new e s) v (met_says side old.node s.meets.read v said)
