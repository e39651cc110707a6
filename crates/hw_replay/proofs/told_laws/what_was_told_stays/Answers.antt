use Rattle.hw_replay.proofs.GrowLaws.{only_grows, stays_taken}
use Rattle.hw_replay.proofs.told_laws.what_was_told_stays.Goals as goal

pub returns-clause-grows : goal.returns-clause-grows
returns-clause-grows c = only_grows

pub returns-clause-taken : goal.returns-clause-taken
returns-clause-taken c = stays_taken
