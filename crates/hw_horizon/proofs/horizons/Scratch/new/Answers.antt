use Rattle.hw_horizon.proofs.horizons.Scratch.new.Goals as goal

pub returns : goal.returns
returns c = record { lower = c.in_ok-lower.ensures.length; present = c.in_ok-present.ensures.length; next = c.in_ok-next.ensures.length; firsts = c.in_ok-firsts.ensures; counts = c.in_ok-counts.ensures }
