use Rattle.hw_dag.proofs.graph.Dag.ancestor.Given as goal

abbrev pub ghosts-block_at_uncounted : goal.ghosts-block_at_uncounted
ghosts-block_at_uncounted a = record { name = a.blank.name; parts = a.blank.parts }
