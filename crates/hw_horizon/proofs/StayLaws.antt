-- What a detector keeps stays true while the graph grows.
use Rattle.std.proofs.Common.{arith}
use Rattle.hw_dag.proofs.GrowthLaws.{count_grows}
use Rattle.hw_horizon.proofs.WalkLaws as walks
use Rattle.hw_horizon.proofs.BoundLaws as bounds
use Rattle.hw_horizon.specs.DetectorLaws.{DetectorStays}

pub detector_stays : DetectorStays
detector_stays d dag later g h grows is =
    let more = count_grows dag later grows in
    let few = is.few in record {
      walks = walks.walks_stay dag later g h grows d.walks is.walks;
      bounds = bounds.bounds_stay d.config.weights dag later d.bounds g h grows is.bounds;
      known = λ f m. (let lt = is.known f m in omega arith);
      few = omega arith;
    }
