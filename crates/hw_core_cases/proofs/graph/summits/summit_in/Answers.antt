-- Nothing is kept at first.
use Rattle.hw_core_cases.proofs.graph.summits.summit_in.Goals as goal

pub greatest-first-requires-clause-walks : goal.greatest-first-requires-clause-walks
greatest-first-requires-clause-walks c = c.in-Ok.ensures.walks _
