use Rattle.hw_core_cases.proofs.graph.lanes.ancestor.Given as goal

abbrev pub ghosts-chain_at : goal.ghosts-chain_at
ghosts-chain_at a = record { name = a.blank.name; parts = a.blank.parts }
