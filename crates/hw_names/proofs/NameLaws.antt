-- Names that differ from each other.
use Rattle.std.specs.Prelude.{[]}
use Rattle.std.specs.List.{IsDistinct}
use Rattle.hw_types.specs.Graph.{digest_eq}

-- none are distinct
pub none_distinct : IsDistinct digest_eq []
unfolding IsDistinct
none_distinct = tt
