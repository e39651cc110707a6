-- The page of accountable safety speaks of journals: the statements.
use Rattle.std.specs.Prelude.{◌≡◌, ℕ, ◌*◌, ◌≤◌, ◌<◌, ◌↔◌, Bool, List, ◌++◌, length, sum}
use Rattle.hw_types.specs.declared.unit.Obs.{Obs}
use Rattle.hw_types.specs.declared.unit.Vertex.{Vertex}
use Rattle.hw_types.specs.declared.config.Config.{Config}
use Rattle.hw_types.specs.Graph.{Node}
use Rattle.hw_types.specs.Below.{Among}
use Rattle.hw_types.specs.Votes.{fork_of}
use Rattle.hw_types.specs.Settled.{settled_of, is_faulty, panorama_of, panorama_over, fork_choice}
use Rattle.hw_types.specs.Summit.{HasSummit}
use Rattle.hw_types.specs.Lawful.{IsLawful, NoClash, settled_in_either, faulty_in_either, joint_panorama}
use Rattle.hw_types.specs.Journal.{Setting, named, received_of}
use Rattle.hw_types.specs.SomeBlock.{one_validator, by_number, its_block, block_and_next}
use Rattle.hw_page.specs.Page.{Choice, IsLawfulGraph, IsPanorama, IsChoice, Summit, HasSummitInPart}

-- the graph is one of the page, with this choice and this panorama, and it has the page's summits
pub record IsPage (config : Config) (faulty : ℕ → Bool) (units : List Node) (choice : Choice) (panorama : List Obs) : Type 0 where
  pub graph : IsLawfulGraph (length config.weights) faulty units
  pub choice_is : IsChoice config.weights units choice
  pub panorama_is : IsPanorama (length config.weights) faulty units panorama
  pub summits : (block : Node) (level quorum : ℕ) → Among block units → HasSummit config.weights units panorama block level quorum ↔ Summit config.weights units choice panorama block level quorum

-- Each lawful graph is one of the page.
abbrev pub LawfulIsAPage : Type 0
LawfulIsAPage = (config : Config) (faulty : ℕ → Bool) (units : List Node) → IsLawful config.weights faulty units
    → IsPage config faulty units (fork_of config.weights units) (panorama_over config faulty units)

-- So is what a journal settles, with the journal's panorama and fork choice.
abbrev pub PageIsOfJournals : Type 0
PageIsOfJournals = (s : Setting) (journal : List Vertex)
    → (let settled = settled_of s.config (received_of s journal) in
    IsPage s.config (is_faulty (received_of s journal) settled) settled (fork_of s.config.weights settled) (panorama_of s.config (received_of s journal))
    × (fork_choice s.config (received_of s journal) ≡ fork_of s.config.weights settled (panorama_of s.config (received_of s journal))))

-- So is what two journals without a clash settle together.
abbrev pub PageIsOfTwoJournals : Type 0
PageIsOfTwoJournals = (s : Setting) (left right : List Vertex) → NoClash (received_of s left).units (received_of s right).units
    → (let either = settled_in_either s.config (received_of s left) (received_of s right) in
    IsPage s.config (faulty_in_either s.config (received_of s left) (received_of s right)) either (fork_of s.config.weights either) (joint_panorama s.config (received_of s left) (received_of s right)))

-- So a block that has a summit in what a journal settles has one in a part of what it settles when it has grown.
abbrev pub BlocksOfJournals : Type 0
BlocksOfJournals = (s : Setting) (journal more : List Vertex) (block : Node) (level quorum : ℕ)
    → (let early = settled_of s.config (received_of s journal) in let settled = settled_of s.config (received_of s (journal ++ more)) in
    Among block early → 1 ≤ level → sum s.config.weights < 2 * quorum
    → Summit s.config.weights early (fork_of s.config.weights early) (panorama_of s.config (received_of s journal)) block level quorum
    → HasSummitInPart s.config.weights (is_faulty (received_of s (journal ++ more)) settled) settled block level quorum)

-- Some block has one: of one validator, with its block and its next unit.
abbrev pub SomeBlockIsFinal : Type 0
SomeBlockIsFinal = (let settled = settled_of one_validator (received_of by_number block_and_next) in
    HasSummitInPart one_validator.weights (is_faulty (received_of by_number block_and_next) settled) settled (named by_number its_block) 1 1)
