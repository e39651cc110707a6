use Rattle.hw_dag.proofs.graph.Dag.unit_on_lane.Given as goal

abbrev pub ghosts-lane_at_uncounted : goal.ghosts-lane_at_uncounted
ghosts-lane_at_uncounted a = record { name = a.blank.name; parts = a.blank.parts }
