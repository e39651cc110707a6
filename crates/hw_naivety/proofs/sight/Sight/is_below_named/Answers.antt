use Rattle.std.proofs.Common.{arith}
use Rattle.hw_dag.proofs.MarkLaws.{seen_earlier}
use Rattle.hw_naivety.proofs.sight.Sight.is_below_named.Goals as goal

pub sees-requires-clause-room : goal.sees-requires-clause-room
sees-requires-clause-room c =
    let b = c.has_below.ensures.below.0 c.if-has_below.true in
    let g = c.requires.sight.graph_is in
    let known = c.requires.sight.panorama_is.known b.slot b.cited b.observed in
    let less = seen_earlier c.args.self.now.dag.now g c.in-Some.named.0 b.cited.0 c.in-Some.ensures.found.0 known b.seen in
    let room = c.requires.room b.slot b.cited b.observed in
    let same = c.has_below.ensures.room in
    omega (arith, less, room, same)
