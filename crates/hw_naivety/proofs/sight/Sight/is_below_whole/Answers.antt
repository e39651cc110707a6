use Rattle.std.proofs.Common.{sym, ◌∙◌}
use Rattle.hw_naivety.proofs.HeirLaws.{list_room, named_listed, listed_named, only_listed, listed_only, only_room}
use Rattle.hw_naivety.proofs.sight.Sight.is_below_whole.Goals as goal

pub sees-requires-clause-high_known : goal.sees-requires-clause-high_known
sees-requires-clause-high_known c = (c.requires.listed.only c.in-Some.only c.in-Some.is).known

pub sees-requires-clause-room : goal.sees-requires-clause-room
sees-requires-clause-room c =
    let s = c.requires.sight in
    only_room c.args.self.now.dag.now s.graph_is c.args.self.now.panorama.now s.panorama_is.known c.args.self.now.endorsed.now c.args.marks.now c.in-Some.only (c.requires.listed.only c.in-Some.only c.in-Some.is) c.requires.below c.requires.room

pub returns-in-Some-clause-below : goal.returns-in-Some-clause-below
returns-in-Some-clause-below c =
    let s = c.requires.sight in
    let only = c.requires.listed.only c.in-Some.only c.in-Some.is in (
      λ t. only_listed c.args.self.now.dag.now s.graph_is c.args.self.now.panorama.now s.panorama_is.known c.args.self.now.endorsed.now c.in-Some.only only c.args.no.0 c.requires.below (sym c.sees.ensures.seen ∙ t),
      λ b. c.sees.ensures.seen ∙ listed_only c.args.self.now.dag.now s.graph_is c.args.self.now.panorama.now s.panorama_is.known c.args.self.now.endorsed.now c.in-Some.only only c.args.no.0 b,
    )

pub is_below_named-requires-clause-room : goal.is_below_named-requires-clause-room
is_below_named-requires-clause-room c =
    let s = c.requires.sight in
    list_room c.args.self.now.dag.now s.graph_is c.args.self.now.panorama.now s.panorama_is.known c.args.self.now.endorsed.now c.args.marks.now c.requires.below c.requires.room

pub returns-in-None-clause-below : goal.returns-in-None-clause-below
returns-in-None-clause-below c =
    let s = c.requires.sight in (
      λ t. named_listed c.args.self.now.dag.now s.graph_is c.args.self.now.panorama.now s.panorama_is.known c.args.self.now.endorsed.now c.args.no.0 c.requires.below (c.is_below_named.ensures.below.0 t),
      λ b. c.is_below_named.ensures.below.1 (listed_named c.args.self.now.dag.now s.graph_is c.args.self.now.panorama.now s.panorama_is.known c.args.self.now.endorsed.now c.args.no.0 b),
    )
