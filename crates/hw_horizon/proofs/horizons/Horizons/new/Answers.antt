use Rattle.hw_horizon.proofs.horizons.Horizons.new.Goals as goal

pub invariant_of-result : goal.invariant_of-result
invariant_of-result c = (c.in_ok-tables.ensures, c.in_ok-scratch.ensures, tt, c.in_ok-walks.ensures.length)
