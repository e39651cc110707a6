use Rattle.std.proofs.Common.{◌<◌, ℕ, List, length, Option, sym, subst, ap, ◌∙◌}
use Rattle.hw_dag.specs.declared.numbers.UnitNo.{UnitNo}
use Rattle.hw_dag.specs.declared.numbers.View.{View}
use Rattle.hw_dag.specs.Dag.{view_at}
use Rattle.hw_naivety.specs.Rows.{row_slot}
use Rattle.hw_naivety.specs.Tips.{IsTip, slot_tip, said_tip}
use Rattle.hw_naivety.proofs.RowLaws.{tip_here, tips_beside, tips_kept, rows_own, are_kept, roomy_kept, row_left, spare_kept, kept_here, kept_rows, kept_roomy, kept_length}
use Rattle.hw_naivety.proofs.TipLaws.{plain_tip}
use Rattle.hw_naivety.proofs.tips.Tips.fill.Goals as goal

pub returns-then-is_plain-clause-filled : goal.returns-then-is_plain-clause-filled
returns-then-is_plain-clause-filled c = λ v small.
    let s = c.requires.sight in
    let sight = c.args.sight.now in
    let unit = c.requires.unit in
    let here = tip_here sight.dag.now c.args.self.now c.give.new.self c.args.no.0 0 v c.requires.known c.give.ensures.places c.give.ensures.rows in
    subst (λ (o : Option UnitNo). IsTip sight.dag.now sight.panorama.now sight.endorsed.now v o)
    (ap (λ (ws : List View). slot_tip (view_at ws v)) unit.panorama_is ∙ sym here)
    (plain_tip sight.dag.now s.graph_is sight.panorama.now s.panorama_is sight.endorsed.now c.args.no.0 unit (c.is_plain.ensures c.if-is_plain.true) v)

pub returns-else-is_plain-clause-filled : goal.returns-else-is_plain-clause-filled
returns-else-is_plain-clause-filled c = λ v small.
    let sight = c.args.sight.now in
    let filled = c.fill_row.new.self in
    let kept = c.fill_row.ensures.kept in
    let known = subst (λ (ps : List ℕ). c.args.no.0 < length ps) (sym kept.places_are) c.requires.known in
    let few = subst (λ (k : ℕ). v < k) (sym (kept.validators_are ∙ c.requires.rows.validators_are)) small in
    let here = kept_here filled c.keep_row.new.self c.args.no.0 known c.keep_row.ensures sight.dag.now v few in
    subst (λ (o : Option UnitNo). IsTip sight.dag.now sight.panorama.now sight.endorsed.now v o)
    (ap (λ (ws : List View). said_tip (view_at ws v) (row_slot filled.rows filled.taken v)) c.requires.unit.panorama_is ∙ sym here)
    (c.fill_row.ensures.filled v small)

pub returns-else-is_plain-clause-kept : goal.returns-else-is_plain-clause-kept
returns-else-is_plain-clause-kept c = λ n v other small.
    let sight = c.args.sight.now in
    let k = c.keep_row.ensures in
    let own = subst (λ (m : ℕ). v < m) (sym c.requires.rows.validators_are) small in
    tips_beside sight.dag.now c.fill_row.new.self c.keep_row.new.self c.args.no.0 k.place k.places_are k.rows_are n v other
    ∙ tips_kept sight.dag.now c.args.self.now c.fill_row.new.self (rows_own sight.validators c.args.self.now c.requires.rows) c.fill_row.ensures.kept n v own

pub returns-else-is_plain-clause-rows : goal.returns-else-is_plain-clause-rows
returns-else-is_plain-clause-rows c =
    let kept = c.fill_row.ensures.kept in
    let known = subst (λ (ps : List ℕ). c.args.no.0 < length ps) (sym kept.places_are) c.requires.known in
    kept_rows c.fill_row.new.self c.keep_row.new.self c.args.no.0 known c.keep_row.ensures c.args.sight.now.validators (are_kept c.args.sight.now.validators c.args.self.now c.fill_row.new.self kept c.requires.rows) (spare_kept c.args.self.now c.fill_row.new.self kept (row_left c.args.no.0 c.args.self.now c.requires.known c.requires.roomy))

pub returns-else-is_plain-clause-roomy : goal.returns-else-is_plain-clause-roomy
returns-else-is_plain-clause-roomy c =
    let kept = c.fill_row.ensures.kept in
    let known = subst (λ (ps : List ℕ). c.args.no.0 < length ps) (sym kept.places_are) c.requires.known in
    kept_roomy c.fill_row.new.self c.keep_row.new.self c.args.no.0 known c.keep_row.ensures (roomy_kept c.args.no.0 c.args.self.now c.fill_row.new.self kept c.requires.roomy)

pub returns-else-is_plain-clause-length : goal.returns-else-is_plain-clause-length
returns-else-is_plain-clause-length c =
    let kept = c.fill_row.ensures.kept in
    let known = subst (λ (ps : List ℕ). c.args.no.0 < length ps) (sym kept.places_are) c.requires.known in
    kept_length c.fill_row.new.self c.keep_row.new.self c.args.no.0 known c.keep_row.ensures ∙ ap (λ (ps : List ℕ). length ps) kept.places_are
