use Rattle.std.proofs.Common.{◌≡◌, ◌+◌, ◌-◌, ◌*◌, ◌++◌, List, take, drop, ap, sym, subst, ◌∙◌, length, arith}
use Rattle.hw_types.specs.declared.unit.Vertex.{Vertex}
use Rattle.hw_types.specs.Rounds.{leader_of}
use Rattle.hw_honest.specs.Generated.{shuffled}
use Rattle.hw_cluster.specs.Numbers.{word_in}
use Rattle.hw_cluster.specs.Nodes.{AllFit}
use Rattle.hw_cluster.specs.Generating.{given, IsAfter}
use Rattle.hw_cluster.proofs.NodesLaws.{on_ok}
use Rattle.hw_cluster.proofs.ShuffleLaws.{shuffled_fit, whole_back}
use Rattle.hw_cluster.proofs.GeneratedLaws.{after_more}
use Rattle.hw_cluster.proofs.generated.give_round.Goals as goal

pub give_all-requires : goal.give_all-requires
give_all-requires c =
    let made = c.in_ok-units.units.items in
    let back = whole_back c.in_ok-units.units.len c.shuffle.new.units made c.in_ok-units.units.ok.0 (c.shuffle.auto.units ∙ ap (λ (vs : List Vertex). length vs) c.as_mut_slice.ensures.value) in
    subst AllFit (sym (back ∙ c.shuffle.ensures.units)) (shuffled_fit (word_in c.args.words.now.key) c.args.words.now.place (length c.as_mut_slice.result.now - 1) c.as_mut_slice.result.now (subst AllFit (sym c.as_mut_slice.ensures.value) c.in_ok-units.ensures.fit))

pub returns : goal.returns
returns c =
    let made = c.in_ok-units.units.items in
    let order = take c.in_ok-units.units.len (c.shuffle.new.units ++ drop (length c.shuffle.new.units) made) in
    let back : order ≡ c.shuffle.new.units = whole_back c.in_ok-units.units.len c.shuffle.new.units made c.in_ok-units.units.ok.0 (c.shuffle.auto.units ∙ ap (λ (vs : List Vertex). length vs) c.as_mut_slice.ensures.value) in
    let value = c.as_mut_slice.ensures.value in
    let round : 16 * c.from.result ≡ 16 * (c.args.done + 1) = ap (λ n. 16 * n) c.from.ensures in
    on_ok c.give_all.result (c.give_all.new.core ≡ given c.args.core.now order) (IsAfter c.args.table.now c.args.words.now.key (c.args.done + 1) c.give_all.new.core c.shuffle.new.words c.make_round.new.lanes)
    (λ gives. after_more c.args.table.now c.args.words.now.key c.args.done (c.args.done + 1) c.leader-leader.result c.args.core.now c.give_all.new.core c.args.words.now c.shuffle.new.words c.args.lanes.now c.make_round.new.lanes
    made order c.requires.ten (omega arith) c.requires.after (c.leader-leader.ensures.exact ∙ ap (leader_of c.args.table.now) round) c.in_ok-units.ensures.made c.in_ok-units.ensures.count c.in_ok-units.ensures.low
    (back ∙ c.shuffle.ensures.units ∙ ap (λ (vs : List Vertex). shuffled (word_in c.args.words.now.key) c.args.words.now.place (length vs - 1) vs) value)
    (c.shuffle.ensures.words ∙ (let e = ap (λ (vs : List Vertex). length vs - 1) value in λ i. record { key = c.args.words.now.key; place = c.args.words.now.place + e i }))
    gives) c.give_all.ensures
