-- Accountable safety on one page. Beside this page one needs Node, a name and a unit; slot panorama v, what a panorama says of v;
-- Among; is_block; weight_of weights test, the weight of those that pass; and digest_lt, an order of names.
use Rattle.std.specs.Prelude.{◌≡◌, ℕ, ◌+◌, ◌-◌, ◌*◌, ◌^◌, ◌<◌, ◌≤◌, ◌⊎◌, ◌↔◌, Bool, true, false, List, length, Option, Some, None, sum}
use Rattle.hw_types.specs.declared.unit.Digest.{Digest}
use Rattle.hw_types.specs.declared.unit.Obs.{Obs}
use Rattle.hw_types.specs.declared.unit.Obs.TheVariants.{Absent, Correct, Faulty}
use Rattle.hw_types.specs.Graph.{Node, slot, digest_lt}
use Rattle.hw_types.specs.Below.{Among}
use Rattle.hw_types.specs.ByName.{by_name}
use Rattle.hw_types.specs.Votes.{weight_of, is_block, fork_of}

-- ---- the graph

-- the panorama observes the unit
abbrev pub Cites : List Obs → Node → Type 0
Cites panorama x = (v : ℕ) × (slot panorama v ≡ Correct x.digest)

-- a chain of citations leads from the panorama down to the unit
pub data Below (units : List Node) (panorama : List Obs) : Node → Type 0 where
  cited : (x : Node) → Among x units → Cites panorama x → Below units panorama x
  further : (x y : Node) → Below units panorama y → Among x units → Cites y.unit.panorama x → Below units panorama x

-- x is u, or citations of the own creator lead from u down to it
pub data OnLane (units : List Node) (u : Node) : Node → Type 0 where
  last : OnLane units u u
  back : (x y : Node) → OnLane units u y → Among x units → slot y.unit.panorama y.unit.creator ≡ Correct x.digest → OnLane units u x

-- what was observed still is: the same unit, a later one of its lane, or a mark
abbrev pub Covers : List Node → Obs → Obs → Type 0
Covers units Absent o = Unit {0}
Covers units (Correct d) Absent = ⊥
Covers units (Correct d) (Correct e) = (y : Node) × Among y units × (y.digest ≡ e) × (x : Node) × OnLane units y x × (x.digest ≡ d)
Covers units (Correct d) Faulty = Unit {0}
Covers units Faulty o = o ≡ Faulty

-- units of so many validators, where these are faulty
pub record IsLawfulGraph (validators : ℕ) (faulty : ℕ → Bool) (units : List Node) : Type 0 where
  pub names : (x y : Node) → Among x units → Among y units → x.digest ≡ y.digest → x ≡ y
  pub size : (u : Node) → Among u units → length u.unit.panorama ≡ validators
  pub creator : (u : Node) → Among u units → u.unit.creator < validators
  pub closed : (u : Node) (v : ℕ) (d : Digest) → Among u units → slot u.unit.panorama v ≡ Correct d → (x : Node) × Among x units × (x.digest ≡ d) × (x.unit.creator ≡ v)
  pub no_cycle : (u : Node) → Among u units → Below units u.unit.panorama u → ⊥
  pub unmarked : (u : Node) → Among u units → slot u.unit.panorama u.unit.creator ≡ Faulty → ⊥
  -- number 0 cites no unit of its creator, and each other one cites the one of the number before
  pub numbered : (u : Node) → Among u units → ((slot u.unit.panorama u.unit.creator ≡ Absent) × (u.unit.seq ≡ 0))
      ⊎ ((p : Node) × Among p units × (slot u.unit.panorama u.unit.creator ≡ Correct p.digest) × (u.unit.seq ≡ p.unit.seq + 1))
  pub covers : (u w : Node) → Among u units → Among w units → Cites u.unit.panorama w → (v : ℕ) → Covers units (slot w.unit.panorama v) (slot u.unit.panorama v)
  pub marks : (u : Node) (v : ℕ) → Among u units → slot u.unit.panorama v ≡ Faulty → faulty v ≡ true
  pub forks : (x y : Node) → Among x units → Among y units → x.unit.creator ≡ y.unit.creator → x.unit.seq ≡ y.unit.seq → (x ≡ y) ⊎ (faulty x.unit.creator ≡ true)

-- the validator has no unit, or this is the observation of its last one; or it is faulty and has a mark
abbrev pub IsSlot : (ℕ → Bool) → List Node → ℕ → Obs → Type 0
IsSlot faulty units v o = ((faulty v ≡ true) × (o ≡ Faulty))
    ⊎ (((faulty v ≡ false) × (o ≡ Absent) × ((x : Node) → Among x units → x.unit.creator ≡ v → ⊥))
    ⊎ ((faulty v ≡ false) × (u : Node) × (o ≡ Correct u.digest) × Among u units × (u.unit.creator ≡ v) × ((x : Node) → Among x units → x.unit.creator ≡ v → OnLane units u x)))

-- the panorama of such a graph
pub record IsPanorama (validators : ℕ) (faulty : ℕ → Bool) (units : List Node) (panorama : List Obs) : Type 0 where
  pub size : length panorama ≡ validators
  pub each : (v : ℕ) → v < validators → IsSlot faulty units v (slot panorama v)

-- ---- votes and the fork choice

-- a block, or the place above all blocks, for each panorama
abbrev pub Choice : Type 0
Choice = List Obs → Option Node

-- a is b, or parents lead from b to a. The parent of a block is what its own panorama chooses
pub data IsAncestor (choice : Choice) (a : Node) : Node → Type 0 where
  itself : IsAncestor choice a a
  above : (b p : Node) → choice b.unit.panorama ≡ Some p → IsAncestor choice a p → IsAncestor choice a b

-- a block votes for itself, another unit for what its own panorama chooses
abbrev pub IsVote : Choice → Node → Node → Type 0
IsVote choice u b = ((is_block u ≡ true) × (b ≡ u)) ⊎ ((is_block u ≡ false) × (choice u.unit.panorama ≡ Some b))

-- u votes for the block or a descendant of it
abbrev pub VotesFor : Choice → Node → Node → Type 0
VotesFor choice block u = (b : Node) × IsVote choice u b × IsAncestor choice block b

-- the unit of a slot
abbrev pub IsLatest : List Node → List Obs → ℕ → Node → Type 0
IsLatest units panorama v u = Among u units × (slot panorama v ≡ Correct u.digest)

-- the validators of which this holds weigh so much
abbrev pub Weigh : List ℕ → (ℕ → Type 0) → ℕ → Type 0
Weigh weights P n = (test : ℕ → Bool) × ((v : ℕ) → (test v ≡ true) ↔ P v) × (weight_of weights test ≡ n)

-- the slots of the panorama that vote for the block or a descendant weigh so much
abbrev pub Scores : List ℕ → List Node → Choice → List Obs → Node → ℕ → Type 0
Scores weights units choice panorama block n = Weigh weights (λ v. (u : Node) × IsLatest units panorama v u × VotesFor choice block u) n

-- a block below the panorama, whose parent is this
pub record IsChild (units : List Node) (choice : Choice) (panorama : List Obs) (place : Option Node) (c : Node) : Type 0 where
  pub below : Below units panorama c
  pub block : is_block c ≡ true
  pub parent : choice c.unit.panorama ≡ place

-- the child of the greatest score, and of those of the greatest name
pub record IsBest (weights : List ℕ) (units : List Node) (choice : Choice) (panorama : List Obs) (place : Option Node) (c : Node) : Type 0 where
  pub child : IsChild units choice panorama place c
  pub score : ℕ
  pub scores : Scores weights units choice panorama c score
  pub some : 0 < score
  pub most : (d : Node) (m : ℕ) → IsChild units choice panorama place d → Scores weights units choice panorama d m → (d ≡ c) ⊎ ((m < score) ⊎ ((m ≡ score) × (digest_lt d.digest c.digest ≡ true)))

-- from a place the walk goes on to its best child, and ends where no child has a vote
pub data WalksTo (weights : List ℕ) (units : List Node) (choice : Choice) (panorama : List Obs) (end : Option Node) : Option Node → Type 0 where
  stops : ((d : Node) (m : ℕ) → IsChild units choice panorama end d → Scores weights units choice panorama d m → m ≡ 0) → WalksTo weights units choice panorama end end
  goes : (place : Option Node) (c : Node) → IsBest weights units choice panorama place c → WalksTo weights units choice panorama end (Some c) → WalksTo weights units choice panorama end place

-- each panorama chooses the end of its walk from above all blocks
abbrev pub IsChoice : List ℕ → List Node → Choice → Type 0
IsChoice weights units choice = (panorama : List Obs) → WalksTo weights units choice panorama (choice panorama) None

-- ---- summits

-- u has strictly below it a unit of v from that number on
abbrev pub SeesFrom : List Node → Node → ℕ → ℕ → Type 0
SeesFrom units u v from = (y : Node) × Below units u.unit.panorama y × (y.unit.creator ≡ v) × (from ≤ y.unit.seq)

-- committees, each within the one before, with starts that don't fall
pub record Summit (weights : List ℕ) (units : List Node) (choice : Choice) (panorama : List Obs) (block : Node) (level quorum : ℕ) : Type 0 where
  pub member : ℕ → ℕ → Bool
  pub start : ℕ → ℕ → ℕ
  pub correct_slot : (v : ℕ) → member 0 v ≡ true → (v < length weights) × (u : Node) × IsLatest units panorama v u
  pub nested : (j v : ℕ) → j < level → member (j + 1) v ≡ true → (member j v ≡ true) × (start j v ≤ start (j + 1) v)
  pub not_empty : (v : ℕ) × (member level v ≡ true)
  pub start_in_lane : (j v : ℕ) (u : Node) → j ≤ level → member j v ≡ true → IsLatest units panorama v u → start j v ≤ u.unit.seq
  -- from its first start on a member's units vote for the block or a descendant
  pub votes : (v : ℕ) (u x : Node) → member 0 v ≡ true → IsLatest units panorama v u → OnLane units u x → start 0 v ≤ x.unit.seq → VotesFor choice block x
  -- from each later start on they see a quorum of that level's committee, with units from its starts before
  pub quorums : (j v : ℕ) (u x : Node) → 0 < j → j ≤ level → member j v ≡ true → IsLatest units panorama v u → OnLane units u x → start j v ≤ x.unit.seq
      → (n : ℕ) × Weigh weights (λ w. (member j w ≡ true) × SeesFrom units x w (start (j - 1) w)) n × (quorum ≤ n)

-- ---- the theorems

-- the block has a summit in a part of the graph, in which no other validators are faulty
pub record HasSummitInPart (weights : List ℕ) (faulty : ℕ → Bool) (units : List Node) (block : Node) (level quorum : ℕ) : Type 0 where
  pub part : List Node
  pub part_faulty : ℕ → Bool
  pub part_choice : Choice
  pub part_panorama : List Obs
  pub lawful : IsLawfulGraph (length weights) part_faulty part
  pub within : (x : Node) → Among x part → Among x units
  pub fewer : (v : ℕ) → part_faulty v ≡ true → faulty v ≡ true
  pub choice_is : IsChoice weights part part_choice
  pub panorama_is : IsPanorama (length weights) part_faulty part part_panorama
  pub known : Among block part
  pub low : 1 ≤ level
  pub majority : sum weights < 2 * quorum
  pub summit : Summit weights part part_choice part_panorama block level quorum

-- the faulty validators weigh at least their share of the quorum's surplus
abbrev pub AreToBlame : List ℕ → (ℕ → Bool) → ℕ → ℕ → Type 0
AreToBlame weights faulty level quorum = (2 * quorum - sum weights) * (2 ^ level - 1) ≤ weight_of weights faulty * 2 ^ level

-- Where a block has a summit in a part of a lawful graph, the fork choice of the whole is the block or a descendant, or the faulty are to
-- blame.
abbrev pub PageSafety : Type 0
PageSafety = (weights : List ℕ) (faulty : ℕ → Bool) (units : List Node) (choice : Choice) (panorama : List Obs) (block : Node) (level quorum : ℕ)
    → IsLawfulGraph (length weights) faulty units → IsChoice weights units choice → IsPanorama (length weights) faulty units panorama
    → HasSummitInPart weights faulty units block level quorum
    → ((c : Node) × (choice panorama ≡ Some c) × IsAncestor choice block c) ⊎ AreToBlame weights faulty level quorum

-- So where two blocks have summits in two parts of it, they are on one chain, or the faulty are to blame.
abbrev pub PageOneChain : Type 0
PageOneChain = (weights : List ℕ) (faulty : ℕ → Bool) (units : List Node) (choice : Choice) (panorama : List Obs) (a b : Node) (i j q r : ℕ)
    → IsLawfulGraph (length weights) faulty units → IsChoice weights units choice → IsPanorama (length weights) faulty units panorama
    → HasSummitInPart weights faulty units a i q → HasSummitInPart weights faulty units b j r
    → (IsAncestor choice a b ⊎ IsAncestor choice b a) ⊎ (AreToBlame weights faulty i q ⊎ AreToBlame weights faulty j r)

-- ---- there is one choice

-- In a lawful graph there is no other choice than the fork choice.
abbrev pub ChoiceIsTheForkChoice : Type 0
ChoiceIsTheForkChoice = (weights : List ℕ) (faulty : ℕ → Bool) (units : List Node) (choice : Choice) → IsLawfulGraph (length weights) faulty units → IsChoice weights units choice
    → (panorama : List Obs) → choice panorama ≡ fork_of weights (by_name units) panorama

-- and the fork choice is one.
abbrev pub ChoiceIsThere : Type 0
ChoiceIsThere = (weights : List ℕ) (faulty : ℕ → Bool) (units : List Node) → IsLawfulGraph (length weights) faulty units → IsChoice weights units (fork_of weights (by_name units))
