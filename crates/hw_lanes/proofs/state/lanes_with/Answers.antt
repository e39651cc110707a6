use Rattle.hw_lanes.proofs.Lanes.{below_four}
use Rattle.hw_lanes.proofs.state.lanes_with.Goals as goal

pub returns : goal.returns
returns c = record {
  taken = below_four _ c.bits_below.ensures.taken c.bits_below-2.ensures.taken c.bits_below-3.ensures.taken c.bits_below-4.ensures.taken;
  left = below_four _ c.bits_below.ensures.left c.bits_below-2.ensures.left c.bits_below-3.ensures.left c.bits_below-4.ensures.left;
}
