use Rattle.std.proofs.Common.{◌≡◌, ℕ, List, true, false, Some, sym, ap, ◌∙◌, subst}
use Rattle.std.specs.Prelude.{is_some}
use Rattle.std.specs.List.{list_any}
use Rattle.std.specs.Vec.{with_items}
use Rattle.std.proofs.lemmas.List.{with_items_is}
use Rattle.hw_horizon.specs.Kept.{AreKept}
use Rattle.hw_horizon.specs.Search.{Search, table_of}
use Rattle.hw_dag.specs.Dag.{graph, observations, node_at}
use Rattle.hw_horizon.specs.Tables.{Starts, pruned_table}
use Rattle.hw_horizon.proofs.KeptLaws.{left_where_summit, kept_greatest}
use Rattle.hw_horizon.proofs.horizons.Horizons.greatest.Goals as goal
use Rattle.hw_horizon.proofs.horizons.Horizons.greatest.Goals.{then-found, else-found}

pub returns-clause-exact : goal.returns-clause-exact
returns-clause-exact c =
    let left : c.has_member-found.result ≡ list_any is_some (pruned_table c.args.weights.now (graph c.args.dag.now) (observations c.args.dag.now c.args.panorama.now) (node_at c.args.dag.now c.args.block.0) c.args.quorum c.args.level) =
    c.has_member-found.ensures ∙ ap (λ (t : Starts). list_any is_some t) c.put_tables.ensures.lower
    ∙ ap (λ (ws : List ℕ). list_any is_some (pruned_table ws (graph c.args.dag.now) (observations c.args.dag.now c.args.panorama.now) (node_at c.args.dag.now c.args.block.0) c.args.quorum c.args.level)) c.as_slice.ensures in
    let both = left_where_summit c.args.weights.now (graph c.args.dag.now) (observations c.args.dag.now c.args.panorama.now) (node_at c.args.dag.now c.args.block.0) c.args.quorum c.args.level in
    (λ h. both.0 (sym left ∙ h), λ h. left ∙ both.1 h)

pub returns-clause-kept : goal.returns-clause-kept
returns-clause-kept c = λ h.
    let left : c.has_member-found.result ≡ list_any is_some (pruned_table c.args.weights.now (graph c.args.dag.now) (observations c.args.dag.now c.args.panorama.now) (node_at c.args.dag.now c.args.block.0) c.args.quorum c.args.level) =
    c.has_member-found.ensures ∙ ap (λ (t : Starts). list_any is_some t) c.put_tables.ensures.lower
    ∙ ap (λ (ws : List ℕ). list_any is_some (pruned_table ws (graph c.args.dag.now) (observations c.args.dag.now c.args.panorama.now) (node_at c.args.dag.now c.args.block.0) c.args.quorum c.args.level)) c.as_slice.ensures in
    let found : c.if-found.self ≡ Some c.args.level = elim c.if-found.branch [
      | then-found w ↦ w.self-is
      | else-found w ↦ absurd (let bad : true ≡ false = sym h ∙ w.if-found.false in cc)
    ] in
    let same : (with_items c.self.inside.tables c.put_tables.new.tables).items ≡ c.put_tables.new.tables = with_items_is c.self.inside.tables c.put_tables.new.tables (c.put_tables.auto.tables ∙ c.as_mut_slice.ensures.len) in
    kept_greatest c.args.weights.now (graph c.args.dag.now) (observations c.args.dag.now c.args.panorama.now) (node_at c.args.dag.now c.args.block.0) c.args.quorum
    (record { validators = c.self.inside.validators; levels = c.self.inside.levels; found = c.if-found.self; tables = (with_items c.self.inside.tables c.put_tables.new.tables).items; walks = c.put_tables.new.walks }) c.args.level found
    (λ k le. ap (λ (ts : List Starts). table_of ts k) same ∙ c.put_tables.ensures.tables k le
    ∙ ap (λ (ws : List ℕ). pruned_table ws (graph c.args.dag.now) (observations c.args.dag.now c.args.panorama.now) (node_at c.args.dag.now c.args.block.0) c.args.quorum k) c.as_slice.ensures)
    (sym left ∙ h)

pub put_tables-requires-clause-walks : goal.put_tables-requires-clause-walks
put_tables-requires-clause-walks c = subst (λ (s : Search). AreKept c.args.dag.now s.walks) (sym c.self.view_is) c.requires.walks
