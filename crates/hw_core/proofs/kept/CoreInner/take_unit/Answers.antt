use Rattle.std.proofs.Common.{◌≡◌, ◌+◌, ℕ, List, [], ◌∷◌, ◌++◌, true, None, Ok, length, sym, ap, subst, ◌∙◌}
use Rattle.std.specs.Map.{lookup}
use Rattle.hw_types.specs.declared.unit.Digest.{Digest}
use Rattle.hw_types.specs.declared.unit.SignedUnit.{SignedUnit}
use Rattle.hw_types.specs.declared.unit.Vertex.{Vertex}
use Rattle.hw_types.specs.declared.unit.Vertex.TheVariants as vertex
use Rattle.hw_types.specs.declared.answers.Decision.{Decision}
use Rattle.hw_types.specs.Real.{CoreState, answer_in, setting_of}
use Rattle.hw_types.specs.Graph.{digest_eq}
use Rattle.hw_dag.specs.Dag.{graph}
use Rattle.hw_core.specs.Followed.{HasFollowed}
use Rattle.hw_core.specs.Keeps.{IsTable}
use Rattle.hw_core.specs.Units.{IsNewUnit}
use Rattle.hw_core.proofs.DecidedLaws.{mapped_length, room_less}
use Rattle.hw_core.proofs.KeptLaws.{fit_more, pairs_more}
use Rattle.hw_core.proofs.FollowLaws.{follow_told, follow_room, kept_followed, kept_quiet, kept_roomy}
use Rattle.hw_core.proofs.StillLaws.{same_roomy}
use Rattle.hw_core.proofs.TableLaws.{name_unknown, table_unit}
use Rattle.hw_core.proofs.kept.CoreInner.take_unit.Goals as goal

pub add_unit-added-requires-clause-listed : goal.add_unit-added-requires-clause-listed
add_unit-added-requires-clause-listed c =
    let core = c.self.inside in
    ap (λ (ds : List Decision). length ds) c.self.invariant.decided_is.told.listed ∙ mapped_length core.state.dag core.decided.detector.found

pub add_unit-added-requires-clause-new : goal.add_unit-added-requires-clause-new
add_unit-added-requires-clause-new c = subst (λ (k : CoreState). IsNewUnit k.config k.journal c.args.unit c.args.name) (sym c.self.view_is) c.requires.new

pub list_unit-requires-clause-fresh : goal.list_unit-requires-clause-fresh
list_unit-requires-clause-fresh c =
    let core = c.self.inside in
    let new = subst (λ (k : CoreState). IsNewUnit k.config k.journal c.args.unit c.args.name) (sym c.self.view_is) c.requires.new in
    subst (λ (es : List (Digest × ℕ)). lookup (digest_eq c.args.name) es ≡ None) (sym c.add_unit-added.ensures.names)
    (name_unknown (setting_of core.state.config) core.journal.items core.names.entries c.args.name new.fresh c.self.invariant.table)

pub follow-self-inside-requires-clause-told : goal.follow-self-inside-requires-clause-told
follow-self-inside-requires-clause-told c =
    let core = c.self.inside in
    let done = c.add_unit-added.new in
    let placed = c.in-Ok.ensures.placed in
    let few = room_less done.decided (length (graph done.state.dag) + length done.park.waiting) (length (graph core.state.dag) + (length core.park.waiting + 1)) placed.room c.in-Ok.ensures.blocks in
    follow_told core.instance core.journal.items core.names.entries core.park core.dropped.entries core.dropped.room core.state core.fork core.decided core.shown c.self.invariant
    (vertex.Unit c.args.unit) done.state done.park done.decided placed.node placed.config placed.grows c.add_unit-added.ensures.graph c.dag-graph.ensures.graph c.add_unit-added.ensures.decided few

pub follow-self-inside-requires-clause-room : goal.follow-self-inside-requires-clause-room
follow-self-inside-requires-clause-room c =
    let core = c.self.inside in
    let done = c.add_unit-added.new in
    let placed = c.in-Ok.ensures.placed in
    let few = room_less done.decided (length (graph done.state.dag) + length done.park.waiting) (length (graph core.state.dag) + (length core.park.waiting + 1)) placed.room c.in-Ok.ensures.blocks in
    follow_room core.instance core.journal.items core.names.entries core.park core.dropped.entries core.dropped.room core.state core.fork core.decided core.shown c.self.invariant
    (vertex.Unit c.args.unit) done.state done.park done.decided placed.node placed.config placed.grows c.add_unit-added.ensures.graph c.dag-graph.ensures.graph c.add_unit-added.ensures.decided few

pub invariant_of-self : goal.invariant_of-self
invariant_of-self c =
    let core = c.self.inside in
    let done = c.add_unit-added.new in
    let u = c.args.unit in
    let e = c.in-Ok.ensures in
    let placed = e.placed in
    let listed = c.list_unit.new in
    let setting = setting_of core.state.config in
    let before = c.add_unit-added.ensures.items in
    let journal = c.list_unit.ensures.journal ∙ ap (λ (x : SignedUnit). done.journal.items ++ vertex.Unit x ∷ []) e.unit ∙ ap (λ (vs : List Vertex). vs ++ vertex.Unit u ∷ []) before in
    let entries = c.list_unit.ensures.names ∙ ap (λ (es : List (Digest × ℕ)). es ++ (c.args.name, length done.journal.items) ∷ []) c.add_unit-added.ensures.names
    ∙ ap (λ (vs : List Vertex). core.names.entries ++ (c.args.name, length vs) ∷ []) before in
    let new = subst (λ (k : CoreState). IsNewUnit k.config k.journal u c.args.name) (sym c.self.view_is) c.requires.new in
    let table = subst (λ (es : List (Digest × ℕ)). IsTable setting (core.journal.items ++ vertex.Unit u ∷ []) es) (sym entries)
    (table_unit setting core.journal.items core.names.entries u c.args.name new.name_is new.local new.fresh c.self.invariant.table) in
    let run = c.follow-self-inside in
    let few = room_less done.decided (length (graph done.state.dag) + length done.park.waiting) (length (graph core.state.dag) + (length core.park.waiting + 1)) placed.room e.blocks in
    let followed = subst (λ (vs : List Vertex). HasFollowed done.state (length vs) done.decided run.new.decided run.result) c.as_slice.ensures.value run.ensures.followed in
    kept_followed core.instance core.journal.items core.names.entries core.park core.dropped.entries core.dropped.room core.state core.fork core.decided core.shown c.self.invariant
    (vertex.Unit u) done.state done.park done.decided placed.node placed.config placed.grows c.add_unit-added.ensures.graph c.dag-graph.ensures.graph c.add_unit-added.ensures.decided few
    listed.journal.items journal listed.names.entries done.dropped.entries done.dropped.room table placed.rules_are c.add_unit-added.ensures.places
    (fit_more core.instance core.journal.items core.names.entries core.park core.dropped.entries core.dropped.room core.state core.fork core.decided core.shown c.self.invariant (vertex.Unit u) c.requires.fits)
    (pairs_more core.instance core.journal.items core.names.entries core.park core.dropped.entries core.dropped.room core.state core.fork core.decided core.shown c.self.invariant (vertex.Unit u) (λ e is. absurd cc))
    run.new.decided run.result followed run.new.state run.ensures.state

pub invariant_of-self-in_default : goal.invariant_of-self-in_default
invariant_of-self-in_default c =
    let core = c.self.inside in
    let done = c.add_unit-added.new in
    let u = c.args.unit in
    let e = c.in-Ok.ensures in
    let placed = e.placed in
    let listed = c.list_unit.new in
    let setting = setting_of core.state.config in
    let before = c.add_unit-added.ensures.items in
    let journal = c.list_unit.ensures.journal ∙ ap (λ (x : SignedUnit). done.journal.items ++ vertex.Unit x ∷ []) e.unit ∙ ap (λ (vs : List Vertex). vs ++ vertex.Unit u ∷ []) before in
    let entries = c.list_unit.ensures.names ∙ ap (λ (es : List (Digest × ℕ)). es ++ (c.args.name, length done.journal.items) ∷ []) c.add_unit-added.ensures.names
    ∙ ap (λ (vs : List Vertex). core.names.entries ++ (c.args.name, length vs) ∷ []) before in
    let new = subst (λ (k : CoreState). IsNewUnit k.config k.journal u c.args.name) (sym c.self.view_is) c.requires.new in
    let table = subst (λ (es : List (Digest × ℕ)). IsTable setting (core.journal.items ++ vertex.Unit u ∷ []) es) (sym entries)
    (table_unit setting core.journal.items core.names.entries u c.args.name new.name_is new.local new.fresh c.self.invariant.table) in
    let few = room_less done.decided (length (graph done.state.dag) + length done.park.waiting) (length (graph core.state.dag) + (length core.park.waiting + 1)) placed.room e.blocks in
    kept_quiet core.instance core.journal.items core.names.entries core.park core.dropped.entries core.dropped.room core.state core.fork core.decided core.shown c.self.invariant
    (vertex.Unit u) done.state done.park done.decided placed.node placed.config placed.grows c.add_unit-added.ensures.graph c.dag-graph.ensures.graph c.add_unit-added.ensures.decided few
    (same_roomy core.state done.state (placed.still c.in_default.not-Admitted))
    listed.journal.items journal listed.names.entries done.dropped.entries done.dropped.room table placed.rules_are c.add_unit-added.ensures.places
    (fit_more core.instance core.journal.items core.names.entries core.park core.dropped.entries core.dropped.room core.state core.fork core.decided core.shown c.self.invariant (vertex.Unit u) c.requires.fits)
    (pairs_more core.instance core.journal.items core.names.entries core.park core.dropped.entries core.dropped.room core.state core.fork core.decided core.shown c.self.invariant (vertex.Unit u) (λ e is. absurd cc))

pub invariant_of-self-in-Err : goal.invariant_of-self-in-Err
invariant_of-self-in-Err c =
    let core = c.self.inside in
    let done = c.add_unit-added.new in
    let e = c.in-Err.ensures in
    kept_roomy core.instance core.journal.items core.names.entries core.park core.dropped.entries core.dropped.room core.state core.fork core.decided core.shown c.self.invariant
    done.state done.decided c.add_unit-added.ensures.graph c.dag-graph.ensures.graph e.still c.add_unit-added.ensures.decided
    done.journal.items c.add_unit-added.ensures.items done.names.entries c.add_unit-added.ensures.names done.park e.unparked done.dropped.entries e.undropped done.dropped.room c.add_unit-added.ensures.places

pub returns-after-receipt-clause-accepted : goal.returns-after-receipt-clause-accepted
returns-after-receipt-clause-accepted c = subst (λ (k : CoreState). answer_in k (vertex.Unit c.args.unit) true ≡ Ok c.in-Ok.placed.receipt) c.self.view_is c.in-Ok.ensures.placed.answer
