use Rattle.hw_core_cases.proofs.graph.lanes.lane.Given as goal

abbrev pub ghosts-lane_at : goal.ghosts-lane_at
ghosts-lane_at a = record { name = a.blank.name; parts = a.blank.parts }
