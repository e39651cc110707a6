-- A validator's host with a node and a log.
use Rattle.std.proofs.Common.{List, [], refl, sym, ap, ◌∙◌}
use Rattle.hw_types.specs.declared.unit.Vertex.{Vertex}
use Rattle.hw_types.specs.Journal.{journal_of}
use Rattle.hw_types.specs.Real.{setting_of}
use Rattle.hw_honest.specs.Restart.{Logged, trusted, life_of}
use Rattle.hw_honest.specs.Laws.{IsSafeToStart}
use Rattle.hw_honest.proofs.OneLineLaws.{begins}
use Rattle.hw_honest.proofs.RestartLaws.{kept_life, out_apart}
use Rattle.hw_honest.proofs.ReplayLaws.{replay_gives_back}
use Rattle.hw_client.specs.Hosting.{HostNeverEquivocates, GoesOnFromLog}

pub never : HostNeverEquivocates
never config me events sound validator fair =
    let s = setting_of config in
    let new : Logged = record { journal = []; log = [] } in
    let start : IsSafeToStart s me new = record { deliveries = []; journal = refl; log = refl; line = begins s me } in
    out_apart s me (life_of s me new events) (kept_life s me sound validator new events start fair)

pub goes_on : GoesOnFromLog
goes_on c come =
    let s = setting_of c.config in
    ap (λ (j : List Vertex). journal_of s (trusted j)) come.1 ∙ replay_gives_back s come.0 ∙ sym come.1
