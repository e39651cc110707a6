-- What no schedule and no forger can bring about in a cluster.
-- Source: the agreement is Highway's, the rest is ours.
use Rattle.std.specs.Prelude.{◌≡◌, ◌⊎◌, ℕ, ◌<◌, ◌≤◌, false, true, List}
use Rattle.hw_types.specs.declared.unit.WireUnit.{WireUnit}
use Rattle.hw_types.specs.declared.unit.Digest.{Digest}
use Rattle.hw_types.specs.Real.{setting_of, received_in, settled_in}
use Rattle.hw_types.specs.Settled.{is_faulty}
use Rattle.hw_core.specs.Decided.{decided_in}
use Rattle.hw_safety.specs.Chain.{Begins}
use Rattle.hw_safety.specs.Verdicts.{chain_of, journals_clash}
use Rattle.hw_honest.specs.Cluster.{journal_at}
use Rattle.hw_honest.specs.Laws.{HasUnit, weight_of_others}
use Rattle.hw_cluster.specs.Nodes.{ClusterState, IsReached, nodes_in, node_in}

-- No two different units of one number by one node were sent or stand in a journal, inside evidence or not.
abbrev pub AreApart : ClusterState → Type 0
AreApart c = (u w : WireUnit) → HasUnit c.cluster u → HasUnit c.cluster w → u.creator < nodes_in c → u.creator ≡ w.creator → u.seq ≡ w.seq → u ≡ w

-- So it is in whatever actions make,
abbrev pub NodesNeverEquivocate : Type 0
NodesNeverEquivocate = (c : ClusterState) → IsReached c → AreApart c

-- and no node holds a node to be faulty.
abbrev pub NodesAreNeverFaulty : Type 0
NodesAreNeverFaulty = (c : ClusterState) → IsReached c → (node other : ℕ) → node < nodes_in c → other < nodes_in c
    → is_faulty (received_in (node_in c node)) (settled_in (node_in c node)) other ≡ false

-- the validators that are no nodes weigh no more than the threshold
abbrev pub FewAreOthers : ClusterState → Type 0
FewAreOthers c = weight_of_others (setting_of c.config) (nodes_in c) ≤ c.config.ftt

-- what the node decided, by height
abbrev pub chain_in : ClusterState → ℕ → List Digest
chain_in c node = chain_of (decided_in (node_in c node))

-- two different units of one digest stand in the journals of the two
abbrev pub Clash : ClusterState → ℕ → ℕ → Type 0
Clash c i j = journals_clash (setting_of c.config) (journal_at c.cluster i) (journal_at c.cluster j) ≡ true

-- While the others are few, two nodes decide one chain, of which each has a part from the first block on, or units of theirs clash.
abbrev pub NodesDecideOneChain : Type 0
NodesDecideOneChain = (c : ClusterState) → IsReached c → FewAreOthers c → (i j : ℕ) → i < nodes_in c → j < nodes_in c
    → Clash c i j ⊎ (Begins (chain_in c i) (chain_in c j) ⊎ Begins (chain_in c j) (chain_in c i))
