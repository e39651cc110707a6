use Rattle.std.proofs.Common.{bit_and, bit_xor, ◌∙◌}
use Rattle.hw_lanes.proofs.Bitwise.{ch_in_three}
use Rattle.hw_lanes.proofs.Lanes.{both, itself, lane_fits}
use Rattle.hw_lanes.proofs.words.ch.Goals as goal

pub returns : goal.returns
returns c j h =
    let x = itself c.args.x c.fits-x.0 in
    let y = itself c.args.y c.fits-y.0 in
    let z = itself c.args.z c.fits-z.0 in
    (both bit_xor z (both bit_and x (both bit_xor y z))).lane j h
    ∙ ch_in_three _ _ _ (lane_fits _ c.fits-x.0 c.fits-x.1 j h) (lane_fits _ c.fits-y.0 c.fits-y.1 j h) (lane_fits _ c.fits-z.0 c.fits-z.1 j h)
