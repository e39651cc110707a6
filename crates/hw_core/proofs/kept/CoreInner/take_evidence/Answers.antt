use Rattle.std.proofs.Common.{◌≡◌, ◌+◌, ◌≤◌, List, None, length, refl, sym, subst, arith}
use Rattle.hw_types.specs.declared.unit.Vertex.{Vertex}
use Rattle.hw_types.specs.declared.unit.Vertex.TheVariants as vertex
use Rattle.hw_types.specs.Real.{CoreState, setting_of}
use Rattle.hw_dag.specs.Dag.{graph}
use Rattle.hw_dag.specs.Admission.{PreparedUnit}
use Rattle.hw_admit.specs.State.{NodeState}
use Rattle.hw_park.specs.Parked.{Parked}
use Rattle.hw_core.specs.Deliver.{IsTaken}
use Rattle.hw_core.specs.Followed.{HasFollowed}
use Rattle.hw_core.specs.Keeps.{IsNode, AreRules, IsKept}
use Rattle.hw_core.proofs.DecidedLaws.{no_room_more, room_less}
use Rattle.hw_core.proofs.KeptLaws.{table_other, kept_with, fit_more, pairs_more, pair_taken}
use Rattle.hw_core.proofs.FollowLaws.{follow_told, kept_followed}
use Rattle.hw_types.specs.declared.unit.Evidence.{Evidence}
use Rattle.hw_types.specs.Journal.{evidence_fault}
use Rattle.hw_core.proofs.TakeLaws.{was_accepted}
use Rattle.hw_core.proofs.kept.CoreInner.take_evidence.Goals as goal

pub add_evidence-added-requires-clause-taken : goal.add_evidence-added-requires-clause-taken
add_evidence-added-requires-clause-taken c = subst (λ (k : CoreState). IsTaken k.config k.journal (vertex.Evidence c.args.evidence)) (sym c.self.view_is) c.requires.taken

pub follow-self-inside-requires-clause-told : goal.follow-self-inside-requires-clause-told
follow-self-inside-requires-clause-told c =
    let core = c.self.inside in
    let done = c.add_evidence-added.new in
    let e = c.in-Ok.ensures in
    let node = subst (λ (vs : List Vertex). IsNode vs done.park done.state) e.journal c.add_evidence-added.ensures.node in
    let few = room_less core.decided (length (graph done.state.dag) + length done.park.waiting) (length (graph core.state.dag) + length core.park.waiting) e.room c.self.invariant.decided_is.room in
    follow_told core.instance core.journal.items core.names.entries core.park core.dropped.entries core.dropped.room core.state core.fork core.decided core.shown c.self.invariant
    (vertex.Evidence c.args.evidence) done.state done.park core.decided node c.add_evidence-added.ensures.config e.grows c.dag-before.ensures.graph c.dag-after.ensures.graph (no_room_more core.decided) few

pub follow-self-inside-requires-clause-room : goal.follow-self-inside-requires-clause-room
follow-self-inside-requires-clause-room c =
    let core = c.self.inside in
    let done = c.add_evidence-added.new in
    let few = room_less core.decided (length (graph done.state.dag) + length done.park.waiting) (length (graph core.state.dag) + length core.park.waiting) c.in-Ok.ensures.room c.self.invariant.decided_is.room in
    room_less core.decided (length (graph done.state.dag)) (length (graph done.state.dag) + length done.park.waiting) (omega arith) few

pub invariant_of-self : goal.invariant_of-self
invariant_of-self c =
    let core = c.self.inside in
    let done = c.add_evidence-added.new in
    let e = c.in-Ok.ensures in
    let v : Vertex = vertex.Evidence c.args.evidence in
    let run = c.follow-self-inside in
    let node = subst (λ (vs : List Vertex). IsNode vs done.park done.state) e.journal c.add_evidence-added.ensures.node in
    let few = room_less core.decided (length (graph done.state.dag) + length done.park.waiting) (length (graph core.state.dag) + length core.park.waiting) e.room c.self.invariant.decided_is.room in
    let followed = subst (λ (vs : List Vertex). HasFollowed done.state (length vs) core.decided run.new.decided run.result) c.as_slice.ensures.value run.ensures.followed in
    kept_followed core.instance core.journal.items core.names.entries core.park core.dropped.entries core.dropped.room core.state core.fork core.decided core.shown c.self.invariant
    v done.state done.park core.decided node c.add_evidence-added.ensures.config e.grows c.dag-before.ensures.graph c.dag-after.ensures.graph (no_room_more core.decided) few
    done.journal.items e.journal core.names.entries done.dropped.entries done.dropped.room
    (table_other (setting_of core.state.config) core.journal.items core.names.entries v refl (λ u is. absurd cc) c.self.invariant.table)
    (subst (λ (vs : List Vertex). AreRules (setting_of core.state.config) vs done.dropped.entries) e.journal c.add_evidence-added.ensures.rules) c.add_evidence-added.ensures.places
    (fit_more core.instance core.journal.items core.names.entries core.park core.dropped.entries core.dropped.room core.state core.fork core.decided core.shown c.self.invariant v c.requires.fits)
    (pairs_more core.instance core.journal.items core.names.entries core.park core.dropped.entries core.dropped.room core.state core.fork core.decided core.shown c.self.invariant v (λ e is. (let same : c.args.evidence ≡ e = (let both : vertex.Evidence c.args.evidence ≡ vertex.Evidence e = is in cc) in
    subst (λ (p : Evidence). evidence_fault (setting_of core.state.config) p ≡ None) same
    (pair_taken (setting_of core.state.config) core.journal.items c.args.evidence (was_accepted core.state.config core.journal.items v (subst (λ (k : CoreState). IsTaken k.config k.journal v) (sym c.self.view_is) c.requires.taken)).not_refused))))
    run.new.decided run.result followed run.new.state run.ensures.state

pub invariant_of-self-in-Err : goal.invariant_of-self-in-Err
invariant_of-self-in-Err c =
    let core = c.self.inside in
    let done = c.add_evidence-added.new in
    let e = c.in-Err.ensures in
    let rules = subst (λ (vs : List Vertex). AreRules (setting_of core.state.config) vs done.dropped.entries) e.unchanged c.add_evidence-added.ensures.rules in
    let places = subst (λ (k : Parked PreparedUnit). length k.waiting ≤ done.dropped.room) e.unstruck c.add_evidence-added.ensures.places in
    subst (λ (vs : List Vertex). IsKept core.instance vs done.park done.state (record { names = core.names.entries; rules = done.dropped.entries; room = done.dropped.room }) (record { fork = core.fork; decided = core.decided; shown = core.shown })) (sym e.unchanged)
    (subst (λ (k : Parked PreparedUnit). IsKept core.instance core.journal.items k done.state (record { names = core.names.entries; rules = done.dropped.entries; room = done.dropped.room }) (record { fork = core.fork; decided = core.decided; shown = core.shown })) (sym e.unstruck)
    (subst (λ (s : NodeState). IsKept core.instance core.journal.items core.park s (record { names = core.names.entries; rules = done.dropped.entries; room = done.dropped.room }) (record { fork = core.fork; decided = core.decided; shown = core.shown })) (sym e.still)
    (kept_with core.instance core.journal.items core.names.entries core.park core.dropped.entries core.dropped.room core.state core.fork core.decided core.shown c.self.invariant
    core.journal.items core.names.entries core.park done.dropped.entries done.dropped.room core.state core.fork core.decided core.shown refl c.self.invariant.table rules places c.self.invariant.fit c.self.invariant.pairs c.self.invariant.node
    c.self.invariant.fork_is c.self.invariant.decided_is c.self.invariant.shown_is)))
