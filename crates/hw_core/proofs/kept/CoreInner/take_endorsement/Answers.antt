use Rattle.std.proofs.Common.{true, ◌+◌, List, length, refl, sym, subst, arith}
use Rattle.hw_types.specs.declared.unit.Vertex.{Vertex}
use Rattle.hw_types.specs.declared.unit.Vertex.TheVariants as vertex
use Rattle.hw_types.specs.Real.{CoreState, setting_of, answer_in}
use Rattle.hw_dag.specs.Dag.{graph}
use Rattle.hw_core.specs.Deliver.{HasPlace, IsRefusal, MayWantMemory}
use Rattle.hw_core.specs.declared.endorsements.EndorsementRefused.{EndorsementRefused as Refused}
use Rattle.hw_core.specs.Followed.{HasFollowed}
use Rattle.hw_core.specs.Keeps.{IsNode, AreRules}
use Rattle.hw_core.proofs.DecidedLaws.{no_room_more, room_less}
use Rattle.hw_core.proofs.KeptLaws.{table_other, fit_more, pairs_more}
use Rattle.hw_core.proofs.FollowLaws.{follow_told, kept_followed, kept_quiet}
use Rattle.hw_core.proofs.EndorsementLaws.{place_memory}
use Rattle.hw_core.proofs.StillLaws.{same_told}
use Rattle.hw_core.proofs.kept.CoreInner.take_endorsement.Goals as goal

pub add_endorsement-added-requires-clause-place : goal.add_endorsement-added-requires-clause-place
add_endorsement-added-requires-clause-place c = subst (λ (k : CoreState). HasPlace k.config k.journal c.args.endorsement) (sym c.self.view_is) c.requires

pub returns-in-Err-OutOfMemory-clause-refused : goal.returns-in-Err-OutOfMemory-clause-refused
returns-in-Err-OutOfMemory-clause-refused c =
    let core = c.self.inside in
    let v : Vertex = vertex.Endorsement c.args.endorsement in
    let place = subst (λ (k : CoreState). HasPlace k.config k.journal c.args.endorsement) (sym c.self.view_is) c.requires in
    let wanted = place_memory core.journal.items core.park core.state c.self.invariant.node c.args.endorsement place in
    subst (λ (r : Refused). IsRefusal r.cause (answer_in c.args.self.now v true)) (sym c.endorsement_back.ensures)
    (subst (λ (k : CoreState). MayWantMemory (answer_in k v true)) c.self.view_is wanted)

pub follow-self-inside-requires-clause-told : goal.follow-self-inside-requires-clause-told
follow-self-inside-requires-clause-told c =
    let core = c.self.inside in
    let done = c.add_endorsement-added.new in
    let e = c.in-Ok.ensures in
    let node = subst (λ (vs : List Vertex). IsNode vs done.park done.state) e.journal c.add_endorsement-added.ensures.node in
    let few = room_less core.decided (length (graph done.state.dag) + length done.park.waiting) (length (graph core.state.dag) + length core.park.waiting) e.room c.self.invariant.decided_is.room in
    follow_told core.instance core.journal.items core.names.entries core.park core.dropped.entries core.dropped.room core.state core.fork core.decided core.shown c.self.invariant
    (vertex.Endorsement c.args.endorsement) done.state done.park core.decided node c.add_endorsement-added.ensures.config e.grows c.dag-before.ensures.graph c.dag-after.ensures.graph (no_room_more core.decided) few

pub follow-self-inside-requires-clause-room : goal.follow-self-inside-requires-clause-room
follow-self-inside-requires-clause-room c =
    let core = c.self.inside in
    let done = c.add_endorsement-added.new in
    let few = room_less core.decided (length (graph done.state.dag) + length done.park.waiting) (length (graph core.state.dag) + length core.park.waiting) c.in-Ok.ensures.room c.self.invariant.decided_is.room in
    room_less core.decided (length (graph done.state.dag)) (length (graph done.state.dag) + length done.park.waiting) (omega arith) few

pub invariant_of-self-in-Ok : goal.invariant_of-self-in-Ok
invariant_of-self-in-Ok c =
    let core = c.self.inside in
    let done = c.add_endorsement-added.new in
    let e = c.in-Ok.ensures in
    let v : Vertex = vertex.Endorsement c.args.endorsement in
    let run = c.follow-self-inside in
    let node = subst (λ (vs : List Vertex). IsNode vs done.park done.state) e.journal c.add_endorsement-added.ensures.node in
    let few = room_less core.decided (length (graph done.state.dag) + length done.park.waiting) (length (graph core.state.dag) + length core.park.waiting) e.room c.self.invariant.decided_is.room in
    let followed = subst (λ (vs : List Vertex). HasFollowed done.state (length vs) core.decided run.new.decided run.result) c.as_slice.ensures.value run.ensures.followed in
    kept_followed core.instance core.journal.items core.names.entries core.park core.dropped.entries core.dropped.room core.state core.fork core.decided core.shown c.self.invariant
    v done.state done.park core.decided node c.add_endorsement-added.ensures.config e.grows c.dag-before.ensures.graph c.dag-after.ensures.graph (no_room_more core.decided) few
    done.journal.items e.journal core.names.entries done.dropped.entries done.dropped.room
    (table_other (setting_of core.state.config) core.journal.items core.names.entries v refl (λ u is. absurd cc) c.self.invariant.table)
    (subst (λ (vs : List Vertex). AreRules (setting_of core.state.config) vs done.dropped.entries) e.journal c.add_endorsement-added.ensures.rules) c.add_endorsement-added.ensures.places
    (fit_more core.instance core.journal.items core.names.entries core.park core.dropped.entries core.dropped.room core.state core.fork core.decided core.shown c.self.invariant v tt)
    (pairs_more core.instance core.journal.items core.names.entries core.park core.dropped.entries core.dropped.room core.state core.fork core.decided core.shown c.self.invariant v (λ e is. absurd cc))
    run.new.decided run.result followed run.new.state run.ensures.state

pub invariant_of-self : goal.invariant_of-self
invariant_of-self c =
    let core = c.self.inside in
    let done = c.add_endorsement-added.new in
    let e = c.in-Ok.ensures in
    let v : Vertex = vertex.Endorsement c.args.endorsement in
    let node = subst (λ (vs : List Vertex). IsNode vs done.park done.state) e.journal c.add_endorsement-added.ensures.node in
    let few = room_less core.decided (length (graph done.state.dag) + length done.park.waiting) (length (graph core.state.dag) + length core.park.waiting) e.room c.self.invariant.decided_is.room in
    kept_quiet core.instance core.journal.items core.names.entries core.park core.dropped.entries core.dropped.room core.state core.fork core.decided core.shown c.self.invariant
    v done.state done.park core.decided node c.add_endorsement-added.ensures.config e.grows c.dag-before.ensures.graph c.dag-after.ensures.graph (no_room_more core.decided) few
    (same_told core.state done.state (e.quiet c.if-settled-eq0.true))
    done.journal.items e.journal core.names.entries done.dropped.entries done.dropped.room
    (table_other (setting_of core.state.config) core.journal.items core.names.entries v refl (λ u is. absurd cc) c.self.invariant.table)
    (subst (λ (vs : List Vertex). AreRules (setting_of core.state.config) vs done.dropped.entries) e.journal c.add_endorsement-added.ensures.rules) c.add_endorsement-added.ensures.places
    (fit_more core.instance core.journal.items core.names.entries core.park core.dropped.entries core.dropped.room core.state core.fork core.decided core.shown c.self.invariant v tt)
    (pairs_more core.instance core.journal.items core.names.entries core.park core.dropped.entries core.dropped.room core.state core.fork core.decided core.shown c.self.invariant v (λ e is. absurd cc))
