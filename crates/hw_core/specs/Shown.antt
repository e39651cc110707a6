-- The summit of a decided block in the present state.
use Rattle.std.specs.Prelude.{◌≡◌, ℕ, ◌≤◌, ◌==◌, Bool, false, List, Option, Some, None, is_some, IsTrue, length, slice_get}
use Rattle.hw_types.specs.declared.answers.Decision.{Decision}
use Rattle.hw_types.specs.declared.unit.Obs.{Obs}
use Rattle.hw_types.specs.Graph.{Node}
use Rattle.hw_types.specs.Below.{Among}
use Rattle.hw_types.specs.Summit.{Committees, HasSummit, IsGreatest}
use Rattle.hw_types.specs.declared.answers.LastQuestion.{LastQuestion}
use Rattle.hw_types.specs.Real.{CoreState, settled_in, panorama_in}
use Rattle.hw_admit.specs.State.{NodeState}
use Rattle.hw_horizon.specs.Search.{Search, committees_of}
use Rattle.hw_horizon.specs.Kept.{AreKept}
use Rattle.hw_core.specs.Decided.{decided_in}

-- ---- what a node tells

-- the decided block of that place, which is a settled one
pub record IsDecidedBlock (c : CoreState) (index : ℕ) (d : Decision) (block : Node) : Type 0 where
  pub at : slice_get (decided_in c) index ≡ Some d
  pub settled : Among block (settled_in c)
  pub name : block.digest ≡ d.block

-- the decided block of that place has a summit now, of the level and the quorum of its decision
pub record HasSummitNow (c : CoreState) (index : ℕ) : Type 0 where
  pub decision : Decision
  pub block : Node
  pub is : IsDecidedBlock c index decision block
  pub summit : HasSummit c.config.weights (settled_in c) (panorama_in c) block decision.level decision.quorum

-- there the validator starts in the committee of that level, which is none above the decision's, of the greatest such summit of the
-- decided block of that place; source: Highway
pub record IsStartOf (c : CoreState) (index level validator start : ℕ) : Type 0 where
  pub decision : Decision
  pub block : Node
  pub is : IsDecidedBlock c index decision block
  pub committees : Committees
  pub greatest : IsGreatest c.config.weights (settled_in c) (panorama_in c) block decision.level decision.quorum committees
  pub within : level ≤ decision.level
  pub member : IsTrue (committees.member level validator)
  pub start_is : committees.start level validator ≡ start

-- no vertex came since the last question, and there the validator starts for the block that it was about
pub record IsStartNow (c : CoreState) (level validator start : ℕ) : Type 0 where
  pub question : LastQuestion
  pub asked : c.asked ≡ Some question
  pub now : question.at ≡ length c.journal
  pub is : IsStartOf c question.decision level validator start

-- ---- what a node keeps of it

-- what the last search left, and the question that it answered
pub record ShownState : Type 0 where
  pub search : Search
  pub asked : Option LastQuestion

-- it is about a journal of this length
abbrev pub is_about : Option LastQuestion → ℕ → Bool
is_about None count = false
is_about (Some q) count = q.at == count

-- the search left the greatest such summit for the block, or none where there is none
pub record IsAnswer (weights : List ℕ) (units : List Node) (panorama : List Obs) (block : Node) (level quorum : ℕ) (search : Search) : Type 0 where
  pub level_is : (top : ℕ) → search.found ≡ Some top → top ≡ level
  pub greatest : IsTrue (is_some search.found) → IsGreatest weights units panorama block level quorum (committees_of search)
  pub none : HasSummit weights units panorama block level quorum → IsTrue (is_some search.found)

-- the search left what there is for the decided block of that place
pub record IsAnswerOf (c : CoreState) (index : ℕ) (search : Search) : Type 0 where
  pub decision : Decision
  pub block : Node
  pub is : IsDecidedBlock c index decision block
  pub answer : IsAnswer c.config.weights (settled_in c) (panorama_in c) block decision.level decision.quorum search

-- the search is one for the state, and what it keeps is true of the graph
pub record IsSearchOf (s : Search) (state : NodeState) : Type 0 where
  pub validators : s.validators ≡ state.dag.validators
  pub levels : s.levels ≡ state.config.levels
  pub walks : AreKept state.dag s.walks

-- what is shown is what there is for the decided block that was asked for, unless a vertex came since
pub record IsShown (c : CoreState) (state : NodeState) (shown : ShownState) : Type 0 where
  pub search : IsSearchOf shown.search state
  pub within : (q : LastQuestion) → shown.asked ≡ Some q → q.at ≤ length c.journal
  pub asked : (q : LastQuestion) → shown.asked ≡ Some q → q.at ≡ length c.journal → IsAnswerOf c q.decision shown.search
