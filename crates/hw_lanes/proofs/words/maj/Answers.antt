use Rattle.std.proofs.Common.{bit_and, bit_xor, slice_index, ◌∙◌}
use Rattle.hw_lanes.proofs.Bitwise.{maj_in_four}
use Rattle.hw_lanes.proofs.Lanes.{both, itself}
use Rattle.hw_lanes.proofs.words.maj.Goals as goal

pub returns : goal.returns
returns c j h =
    let x = itself c.args.x c.fits-x.0 in
    let y = itself c.args.y c.fits-y.0 in
    let z = itself c.args.z c.fits-z.0 in
    (both bit_xor y (both bit_and (both bit_xor x y) (both bit_xor y z))).lane j h
    ∙ maj_in_four (slice_index c.args.x j) (slice_index c.args.y j) (slice_index c.args.z j)
