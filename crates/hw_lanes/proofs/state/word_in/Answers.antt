use Rattle.std.proofs.Common.{arith}
use Rattle.std.proofs.lemmas.List.{get_or_read}
use Rattle.hw_lanes.proofs.state.word_in.Goals as goal

pub returns : goal.returns
returns c = get_or_read c.args.v c.args.lane _ (omega (arith, c.fits-v.0)) c.index.ensures 0
