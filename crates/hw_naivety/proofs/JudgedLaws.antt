-- What was found of a unit on its way in holds once it is in the graph.
use Rattle.std.proofs.Common.{◌≡◌, true, List, Option, sym, ap, subst, ◌∙◌}
use Rattle.hw_types.specs.declared.unit.Obs.{Obs}
use Rattle.hw_types.specs.Graph.{Node, cites, past}
use Rattle.hw_types.specs.Below.{Among}
use Rattle.hw_types.specs.Rules.{has_naive_fork}
use Rattle.hw_dag.specs.declared.numbers.UnitNo.{UnitNo}
use Rattle.hw_dag.specs.Dag.{SettledUnit, UnitGraph, count_of, node_of, node_at, graph, GrowsTo}
use Rattle.hw_dag.specs.Admission.{PreparedUnit, node_prepared, IsGraph, IsReady, settled_from, with_unit}
use Rattle.hw_dag.proofs.NodeLaws.{AreApart}
use Rattle.hw_dag.proofs.AdmitLaws as admit
use Rattle.hw_dag.proofs.GrowthLaws.{cites_known, past_stays}
use Rattle.hw_naivety.specs.Naivety.{KeepsEndorsed, HasNoNaiveFork}
use Rattle.hw_naivety.specs.Laws.{JudgedStays}

module _ (dag : UnitGraph) (g : IsGraph dag) (p : PreparedUnit) (fork : Option UnitNo) (ready : IsReady dag p fork) where
  abbrev later : UnitGraph
  later = with_unit dag (settled_from dag p fork)

  grows : GrowsTo dag later
  grows = admit.grows dag g p fork ready

  apart : AreApart later
  apart = admit.later_apart dag g p fork ready

  -- the last unit is the one that was on its way in
  last_node : node_at later (count_of dag) ≡ node_prepared p
  last_node = ap (λ (u : SettledUnit). node_of u) (admit.last_at dag g p fork ready)

  -- what it cites was there before, and its past is what it was
  cited_before : (w : Node) → Among w (graph later) → cites p.signed.unit.panorama w ≡ true → Among w (graph dag)
  cited_before w m t = cites_known dag later grows g apart p.panorama ready.resolved.known w m
      (subst (λ (os : List Obs). cites os w ≡ true) (sym ready.resolved.observes) t)

  past_same : past (graph later) p.signed.unit.panorama ≡ past (graph dag) p.signed.unit.panorama
  past_same = subst (λ (os : List Obs). past (graph later) os ≡ past (graph dag) os) ready.resolved.observes
      (past_stays dag later grows g apart p.panorama ready.resolved.known)

  endorsed_kept : KeepsEndorsed (graph dag) (node_prepared p) → KeepsEndorsed (graph later) (node_at later (count_of dag))
  endorsed_kept keeps = subst (λ (u : Node). KeepsEndorsed (graph later) u) (sym last_node) (λ w m t. keeps w (cited_before w m t) t)

  forkless_kept : HasNoNaiveFork (graph dag) (node_prepared p) → HasNoNaiveFork (graph later) (node_at later (count_of dag))
  forkless_kept forkless = subst (λ (u : Node). HasNoNaiveFork (graph later) u) (sym last_node)
      (ap (λ (below : List Node). has_naive_fork below p.signed.unit.endorsed) past_same ∙ forkless)

pub judged_stays : JudgedStays
judged_stays dag g p fork ready keeps forkless = (endorsed_kept dag g p fork ready keeps, forkless_kept dag g p fork ready forkless)
