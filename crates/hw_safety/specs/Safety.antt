-- Accountable safety: the statements.
use Rattle.std.specs.Prelude.{◌⊎◌, ◌≡◌, ℕ, ◌-◌, ◌*◌, ◌^◌, ◌<◌, ◌≤◌, Bool, false, List, ◌++◌, length, None, IsTrue, sum, ◌==◌}
use Rattle.hw_types.specs.declared.unit.Vertex.{Vertex}
use Rattle.hw_types.specs.declared.config.Config.{Config}
use Rattle.hw_types.specs.Graph.{Node}
use Rattle.hw_types.specs.Below.{Among}
use Rattle.hw_types.specs.Votes.{weight_of, unit_fork, is_ancestor_within}
use Rattle.hw_types.specs.Settled.{settled_of, panorama_of, panorama_over, faulty_weight}
use Rattle.hw_types.specs.Summit.{HasSummit, Stands}
use Rattle.hw_types.specs.Journal.{Setting, received_of, evidence_fault}
use Rattle.hw_types.specs.Culprits.{culprits_of}
use Rattle.hw_types.specs.declared.unit.Evidence.{Evidence}
use Rattle.hw_types.specs.declared.unit.Vertex.TheVariants as vertex
use Rattle.std.specs.List.{list_any}
use Rattle.hw_types.specs.Lawful.{IsLawful, NoClash, settled_in_either, faulty_in_either, joint_panorama, keeps}

-- Where a block has a summit in one journal, and the fork choice over both journals isn't the block or a
-- descendant of it, the faulty weight is at least this share of the quorum's surplus.
abbrev pub AccountableSafety : Type 0
AccountableSafety =
    (s : Setting) (left right : List Vertex) (block : Node) (level quorum : ℕ)
    → NoClash (received_of s left).units (received_of s right).units
    → 1 ≤ level → sum s.config.weights < 2 * quorum
    → HasSummit s.config.weights (settled_of s.config (received_of s left)) (panorama_of s.config (received_of s left)) block level quorum
    → keeps s.config.weights (settled_in_either s.config (received_of s left) (received_of s right)) (joint_panorama s.config (received_of s left) (received_of s right)) block ≡ false
    → (2 * quorum - sum s.config.weights) * (2 ^ level - 1) ≤ weight_of s.config.weights (faulty_in_either s.config (received_of s left) (received_of s right)) * 2 ^ level

-- Where a block stands in one journal, and the fork choice over both isn't the block or a descendant of it,
-- the faulty weight is greater than the threshold.
abbrev pub StandsSafety : Type 0
StandsSafety =
    (s : Setting) (left right : List Vertex) (block : Node) (level quorum : ℕ)
    → NoClash (received_of s left).units (received_of s right).units
    → Stands s.config (received_of s left) block level quorum
    → keeps s.config.weights (settled_in_either s.config (received_of s left) (received_of s right)) (joint_panorama s.config (received_of s left) (received_of s right)) block ≡ false
    → s.config.ftt < weight_of s.config.weights (faulty_in_either s.config (received_of s left) (received_of s right))

-- Where a block has a summit in one journal, and the fork choice over the journal as it has grown since isn't
-- the block or a descendant of it, the faulty weight is at least this share of the quorum's surplus.
abbrev pub LaterSafety : Type 0
LaterSafety =
    (s : Setting) (journal more : List Vertex) (block : Node) (level quorum : ℕ)
    → 1 ≤ level → sum s.config.weights < 2 * quorum
    → HasSummit s.config.weights (settled_of s.config (received_of s journal)) (panorama_of s.config (received_of s journal)) block level quorum
    → keeps s.config.weights (settled_of s.config (received_of s (journal ++ more))) (panorama_of s.config (received_of s (journal ++ more))) block ≡ false
    → (2 * quorum - sum s.config.weights) * (2 ^ level - 1) ≤ faulty_weight s.config (received_of s (journal ++ more)) * 2 ^ level

-- While the faulty weigh no more than the threshold, each block that stood is the fork choice or an ancestor of it.
abbrev pub KeptWhileFew : Type 0
KeptWhileFew =
    (s : Setting) (journal more : List Vertex) (block : Node) (level quorum : ℕ)
    → Stands s.config (received_of s journal) block level quorum
    → faulty_weight s.config (received_of s (journal ++ more)) ≤ s.config.ftt
    → IsTrue (keeps s.config.weights (settled_of s.config (received_of s (journal ++ more))) (panorama_of s.config (received_of s (journal ++ more))) block)

-- the one is the other or an ancestor of it
abbrev pub OnOneChain : List ℕ → List Node → Node → Node → Type 0
OnOneChain weights units a b = IsTrue (is_ancestor_within (length units) (unit_fork weights units) a b) ⊎ IsTrue (is_ancestor_within (length units) (unit_fork weights units) b a)

-- Two blocks that stood, now or before, are on one chain while the faulty weigh no more than the threshold.
abbrev pub OneChain : Type 0
OneChain =
    (s : Setting) (journal more : List Vertex) (a b : Node) (i j p q : ℕ)
    → Stands s.config (received_of s journal) a i p → Stands s.config (received_of s (journal ++ more)) b j q
    → faulty_weight s.config (received_of s (journal ++ more)) ≤ s.config.ftt
    → Among a (settled_of s.config (received_of s (journal ++ more))) → Among b (settled_of s.config (received_of s (journal ++ more)))
    → OnOneChain s.config.weights (settled_of s.config (received_of s (journal ++ more))) a b

-- Where blocks that stand in two journals are not on one chain, the faulty of both weigh more than the threshold.
abbrev pub ConflictSafety : Type 0
ConflictSafety =
    (s : Setting) (left right : List Vertex) (a b : Node) (i j p q : ℕ)
    → NoClash (received_of s left).units (received_of s right).units
    → Stands s.config (received_of s left) a i p → Stands s.config (received_of s right) b j q
    → Among a (settled_in_either s.config (received_of s left) (received_of s right)) → Among b (settled_in_either s.config (received_of s left) (received_of s right))
    → (OnOneChain s.config.weights (settled_in_either s.config (received_of s left) (received_of s right)) a b → ⊥)
    → s.config.ftt < weight_of s.config.weights (faulty_in_either s.config (received_of s left) (received_of s right))

-- each evidence of the journal is a pair
abbrev pub HasPairs : Setting → List Vertex → Type 0
HasPairs s journal = (e : Evidence) → Among (vertex.Evidence e) journal → evidence_fault s e ≡ None

-- Where blocks that stand in two journals are not on one chain, the culprits weigh more than the threshold.
abbrev pub CulpritsSafety : Type 0
CulpritsSafety =
    (s : Setting) (left right : List Vertex) (a b : Node) (i j p q : ℕ)
    → HasPairs s left → HasPairs s right → NoClash (received_of s left).units (received_of s right).units
    → Stands s.config (received_of s left) a i p → Stands s.config (received_of s right) b j q
    → Among a (settled_in_either s.config (received_of s left) (received_of s right)) → Among b (settled_in_either s.config (received_of s left) (received_of s right))
    → (OnOneChain s.config.weights (settled_in_either s.config (received_of s left) (received_of s right)) a b → ⊥)
    → s.config.ftt < weight_of s.config.weights (λ v. list_any (λ w. w == v) (culprits_of s left right))

-- ---- the same for a graph, whatever journal it comes from

-- what a lawful graph owes, for a part of it that has a summit
abbrev pub GraphSafety : Type 0
GraphSafety =
    (config : Config) (faulty early_faulty : ℕ → Bool) (early units : List Node) (block : Node) (level quorum : ℕ)
    → IsLawful config.weights faulty units → IsLawful config.weights early_faulty early → ((x : Node) → Among x early → Among x units)
    → ((v : ℕ) → IsTrue (early_faulty v) → IsTrue (faulty v))
    → 1 ≤ level → sum config.weights < 2 * quorum
    → HasSummit config.weights early (panorama_over config early_faulty early) block level quorum
    → keeps config.weights units (panorama_over config faulty units) block ≡ false
    → (2 * quorum - sum config.weights) * (2 ^ level - 1) ≤ weight_of config.weights faulty * 2 ^ level
