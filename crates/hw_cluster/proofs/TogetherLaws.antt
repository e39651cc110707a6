-- Nodes are honest, and agree.
use Rattle.std.proofs.Common.{◌≡◌, ℕ, ◌<◌, ◌⊎◌, inl, inr, Bool, false, List, [], sym, subst}
use Rattle.hw_types.specs.declared.unit.WireUnit.{WireUnit}
use Rattle.hw_types.specs.declared.unit.Vertex.{Vertex}
use Rattle.hw_types.specs.declared.answers.Decision.{Decision}
use Rattle.hw_types.specs.Below.{Among}
use Rattle.hw_types.specs.Settled.{is_faulty}
use Rattle.hw_types.specs.Decisions.{AreDecisions}
use Rattle.hw_types.specs.Journal.{Setting, journal_of}
use Rattle.hw_types.specs.Real.{setting_of, received_in, settled_in}
use Rattle.hw_safety.specs.Decided.{decisions_of}
use Rattle.hw_safety.proofs.DecidedLaws.{decisions_are}
use Rattle.hw_safety.proofs.HeightLaws.{one_block_each}
use Rattle.hw_safety.specs.Chain.{Begins}
use Rattle.hw_safety.specs.declared.verdict.Verdict.{Verdict}
use Rattle.hw_safety.specs.declared.verdict.Verdict.TheVariants as verdict
use Rattle.hw_safety.specs.Verdicts.{IsVerdict}
use Rattle.hw_safety.proofs.ClashLaws.{clash_is_a_test}
use Rattle.hw_safety.proofs.VerdictLaws.{found}
use Rattle.hw_honest.specs.Cluster.{Cluster, journal_at, cluster_of}
use Rattle.hw_honest.specs.Laws.{HasUnit, IsMadeOf}
use Rattle.hw_honest.proofs.ClusterLaws.{sound_run, all_delivered}
use Rattle.hw_honest.proofs.HonestLaws.{one_unit, not_faulty}
use Rattle.hw_agree.specs.Agree.{IsHonest, IsNoConflict}
use Rattle.hw_agree.proofs.AgreeLaws.{verdicts_agree}
use Rattle.hw_cluster.specs.Nodes.{ClusterState, IsReached, nodes_in, node_in}
use Rattle.hw_cluster.specs.Laws.{AreApart, NodesNeverEquivocate, NodesAreNeverFaulty, FewAreOthers, NodesDecideOneChain, Clash, chain_in}
use Rattle.hw_cluster.proofs.NodesLaws.{got_among}

module _ (c : ClusterState) (reached : IsReached c) where
  abbrev s : Setting
  s = setting_of c.config

  abbrev nodes : ℕ
  nodes = nodes_in c

  abbrev made : Cluster
  made = cluster_of s nodes reached.actions

  pub are_apart : AreApart c
  are_apart = subst (λ (k : Cluster). (u w : WireUnit) → HasUnit k u → HasUnit k w → u.creator < nodes → u.creator ≡ w.creator → u.seq ≡ w.seq → u ≡ w) (sym reached.made)
      (one_unit s nodes made (sound_run s nodes reached.actions reached.run))

  -- a node's journal is one of the cluster's
  there : (node : ℕ) → node < nodes → Among (journal_at c.cluster node) made.journals
  there node lt = subst (λ (k : Cluster). Among (journal_at c.cluster node) k.journals) reached.made (got_among c.cluster.journals node [] lt)

  -- so its vertices are part of the cluster
  parts : (node : ℕ) → node < nodes → IsMadeOf made (journal_at c.cluster node)
  parts node lt v m = inr (journal_at c.cluster node, there node lt, m)

  pub never_faulty : (node other : ℕ) → node < nodes → other < nodes → is_faulty (received_in (node_in c node)) (settled_in (node_in c node)) other ≡ false
  never_faulty node other lt less = not_faulty s nodes made (sound_run s nodes reached.actions reached.run) (journal_at c.cluster node) (parts node lt) other less

  abbrev ds : ℕ → List Decision
  ds node = decisions_of s (journal_at c.cluster node)

  decided : (journal : List Vertex) → AreDecisions s journal (decisions_of s journal)
  decided journal = decisions_are s journal (one_block_each s journal)

  module _ (few : FewAreOthers c) (i j : ℕ) (li : i < nodes) (lj : j < nodes) where
    honest : IsHonest s nodes reached.actions
    honest = record { run = reached.run; few = few }

    -- the verdict on the two journals
    v : (v : Verdict) × IsVerdict s (journal_at c.cluster i) (journal_at c.cluster j) (ds i) (ds j) v
    v = found s (journal_at c.cluster i) (journal_at c.cluster j) (ds i) (ds j)

    -- is no conflict
    quiet : IsNoConflict v.0
    quiet =
        let a = all_delivered s nodes reached.actions reached.run (journal_at c.cluster i) (there i li) in
        let b = all_delivered s nodes reached.actions reached.run (journal_at c.cluster j) (there j lj) in
        agree (journal_at c.cluster i) (journal_at c.cluster j) (parts i li) (parts j lj) a.0 b.0 a.1 b.1 (ds i) (ds j) (decided (journal_at c.cluster i)) (decided (journal_at c.cluster j)) v.0 v.1
      where
        agree : (left right : List Vertex) → IsMadeOf made left → IsMadeOf made right → (l r : List (Vertex × Bool)) → left ≡ journal_of s l → right ≡ journal_of s r
            → (dl dr : List Decision) → AreDecisions s left dl → AreDecisions s right dr → (w : Verdict) → IsVerdict s left right dl dr w → IsNoConflict w
        agree left right ml mr l r el er dl dr al ar w is =
            verdicts_agree s nodes reached.actions honest l r (subst (IsMadeOf made) el ml) (subst (IsMadeOf made) er mr) dl dr
            (subst (λ (k : List Vertex). AreDecisions s k dl) el al) (subst (λ (k : List Vertex). AreDecisions s k dr) er ar) w
            (subst (λ (k : List Vertex). IsVerdict s (journal_of s l) k dl dr w) er (subst (λ (k : List Vertex). IsVerdict s k right dl dr w) el is))

    pub one_chain : Clash c i j ⊎ (Begins (chain_in c i) (chain_in c j) ⊎ Begins (chain_in c j) (chain_in c i))
    one_chain = go v.0 v.1 quiet
      where
        go : (w : Verdict) → IsVerdict s (journal_at c.cluster i) (journal_at c.cluster j) (ds i) (ds j) w → IsNoConflict w → Clash c i j ⊎ (Begins (chain_in c i) (chain_in c j) ⊎ Begins (chain_in c j) (chain_in c i))
        go (verdict.Agree common) is none = inr is.1.begins
        go (verdict.Conflict height left right culprits weight) is none = absurd none
        go (verdict.Clash first second) is none = inl ((clash_is_a_test s (journal_at c.cluster i) (journal_at c.cluster j)).1 (first, second, is))

pub never_equivocate : NodesNeverEquivocate
never_equivocate = are_apart

pub nodes_never_faulty : NodesAreNeverFaulty
nodes_never_faulty = never_faulty

pub decide_one_chain : NodesDecideOneChain
decide_one_chain = one_chain
