-- Settled units of one creator that have one sequence number, by their numbers in the graph.
use Rattle.std.specs.Prelude.{false, ◌≡◌, ◌≢◌, ℕ, ◌<◌, ◌≤◌, ◌⊎◌, ◌↔◌, ◌==◌, true, List, Option, Some, None}
use Rattle.std.specs.List.{list_any}
use Rattle.std.specs.Option.{option_map}
use Rattle.hw_types.specs.declared.unit.Digest.{Digest}
use Rattle.hw_types.specs.Graph.{Node, digest_lt}
use Rattle.hw_types.specs.Below.{Among}
use Rattle.hw_types.specs.Spelling.{digest_of}
use Rattle.hw_dag.specs.declared.numbers.UnitNo.{UnitNo}
use Rattle.hw_dag.specs.Dag.{UnitGraph, unit_at, node_at, count_of, creator_of, seq_of}

-- one of the first units of the graph, so many, with this creator and this sequence number
pub record StandsAt (dag : UnitGraph) (count creator seq number : ℕ) : Type 0 where
  pub within : number < count
  pub creator_is : creator_of (unit_at dag number) ≡ creator
  pub seq_is : seq_of (unit_at dag number) ≡ seq

-- the creator has two of the first units with this sequence number
pub record HasTwo (dag : UnitGraph) (count creator seq : ℕ) : Type 0 where
  pub one : ℕ
  pub other : ℕ
  pub one_at : StandsAt dag count creator seq one
  pub other_at : StandsAt dag count creator seq other
  pub apart : one ≢ other

-- the least sequence number with which the creator has two of the first units, or no two of them have one
abbrev pub IsLeastWithTwo : UnitGraph → ℕ → ℕ → Option ℕ → Type 0
IsLeastWithTwo dag count creator None = (seq : ℕ) → HasTwo dag count creator seq → ⊥
IsLeastWithTwo dag count creator (Some least) = HasTwo dag count creator least × ((seq : ℕ) → HasTwo dag count creator seq → least ≤ seq)

-- these are the sequence numbers of the creator's first units, and this is the least with which it has two
pub record AreNoted (dag : UnitGraph) (count creator : ℕ) (numbers : List ℕ) (least : Option ℕ) : Type 0 where
  pub numbers_are : (seq : ℕ) → (list_any (λ n. n == seq) numbers ≡ true) ↔ ((number : ℕ) × StandsAt dag count creator seq number)
  pub least_is : IsLeastWithTwo dag count creator least

-- the lesser digest's unit, or the one that there is
abbrev pub IsLower : UnitGraph → Option UnitNo → UnitNo → UnitNo → Type 0
IsLower dag None number low = low ≡ number
IsLower dag (Some known) number low = let before = digest_lt (unit_at dag known.0).digest (unit_at dag number.0).digest in ((low ≡ known) × (before ≡ true)) ⊎ ((low ≡ number) × (before ≡ false))

-- the digest is above this one, where there is one
abbrev pub IsAbove : Option Digest → Digest → Type 0
IsAbove None d = Unit {0}
IsAbove (Some bound) d = digest_lt bound d ≡ true

-- the first units with this creator and sequence number whose digests are above the bound: the one of the least digest, or there are none
abbrev pub IsLeastAbove : UnitGraph → ℕ → ℕ → ℕ → Option Digest → Option UnitNo → Type 0
IsLeastAbove dag count creator seq bound None = (number : ℕ) → StandsAt dag count creator seq number → IsAbove bound (unit_at dag number).digest → ⊥
IsLeastAbove dag count creator seq bound (Some least) =
    StandsAt dag count creator seq least.0 × IsAbove bound (unit_at dag least.0).digest
    × ((number : ℕ) → StandsAt dag count creator seq number → IsAbove bound (unit_at dag number).digest → (number ≡ least.0) ⊎ (digest_lt (unit_at dag least.0).digest (unit_at dag number).digest ≡ true))

-- the two units of the least digests with this creator and sequence number, the lesser one first, or there are no two
abbrev pub AreLeastTwo : UnitGraph → ℕ → ℕ → Option (UnitNo × UnitNo) → Type 0
AreLeastTwo dag creator seq None = HasTwo dag (count_of dag) creator seq → ⊥
AreLeastTwo dag creator seq (Some pair) =
    IsLeastAbove dag (count_of dag) creator seq None (Some pair.0) × IsLeastAbove dag (count_of dag) creator seq (Some (unit_at dag pair.0.0).digest) (Some pair.1)

-- each unit has its own digest as its name
abbrev pub AreNamed : List Node → Type 0
AreNamed xs = (x : Node) → Among x xs → x.digest ≡ digest_of x.unit

-- two units by their numbers, as the definitions see them
abbrev pub nodes_at : UnitGraph → Option (UnitNo × UnitNo) → Option (Node × Node)
nodes_at dag pair = option_map (λ (p : UnitNo × UnitNo). (node_at dag p.0.0, node_at dag p.1.0)) pair
