use Rattle.std.proofs.Common.{ℕ, ◌*◌, ◌/◌, ◌%◌, ◌^◌, ◌<◌, List, length, slice_index, sum, sym, ap, ◌∙◌, subst, arith}
use Rattle.hw_types.specs.declared.config.Config.{Config}
use Rattle.hw_types.specs.Rounds.{leader_of, first_above}
use Rattle.hw_types.proofs.LimitLaws.{within_limits, some_weight}
use Rattle.hw_rounds.specs.Drawing.{IsRunning}
use Rattle.hw_rounds.proofs.TableLaws.{leader_by_table, leader_by_drawing, table_some, table_names_validators, number_of_seed}
use Rattle.hw_rounds.proofs.leaders.LeaderTable.leader.Goals as goal

pub overflow_shr-round : goal.overflow_shr-round
overflow_shr-round c = let e = (within_limits c.self.inside.config c.self.invariant.lawful).exponents in omega (arith, e.1, e.2)

pub entry_at-requires : goal.entry_at-requires
entry_at-requires c = rw c.as_slice.ensures (table_some c.self.inside.config c.in-Table.entries c.self.invariant.lawful c.in-Table.is)

pub drawn_place-requires : goal.drawn_place-requires
drawn_place-requires c =
    let many = c.self.invariant.running_weights.as_many in
    omega (arith, ap length c.as_slice-in-Drawn.ensures.value, (within_limits c.self.inside.config c.self.invariant.lawful).few)

pub returns-in-Table-clause-exact : goal.returns-in-Table-clause-exact
returns-in-Table-clause-exact c =
    let config = c.self.inside.config in
    c.entry_at.ensures
    ∙ ap (λ (entries : List ℕ). slice_index entries (c.args.round / 2 ^ config.min_exponent % length entries)) c.as_slice.ensures
    ∙ sym (leader_by_table config c.in-Table.entries c.args.round c.in-Table.is)
    ∙ ap (λ (z : Config). leader_of z c.args.round) c.self.view_is

pub returns-in-Table-clause-within : goal.returns-in-Table-clause-within
returns-in-Table-clause-within c =
    let config = c.self.inside.config in
    let P : List ℕ → Type 0 = λ entries. slice_index entries (c.args.round / 2 ^ config.min_exponent % length entries) < length config.weights in
    let entry = subst P (sym c.as_slice.ensures) (table_names_validators config c.in-Table.entries (c.args.round / 2 ^ config.min_exponent) c.self.invariant.lawful c.in-Table.is) in
    omega (arith, entry, c.entry_at.ensures, ap (λ (z : Config). length z.weights) c.self.view_is)

-- the running weights are those that are kept
running_of : (c : goal.After-drawn_place) → IsRunning c.self.inside.config.weights c.as_slice-in-Drawn.result.now
running_of c = subst (IsRunning c.self.inside.config.weights) (sym c.as_slice-in-Drawn.ensures.value) c.self.invariant.running_weights

pub returns-in-Drawn-clause-exact : goal.returns-in-Drawn-clause-exact
returns-in-Drawn-clause-exact c =
    let config = c.self.inside.config in
    let number = c.drawn_number.ensures ∙ number_of_seed config.leaders c.in-Drawn.field-0 c.self.inside.seed c.args.round c.self.invariant.seed_of c.in-Drawn.is in
    c.drawn_place.ensures.exact config.weights (running_of c)
    ∙ ap (λ (n : ℕ). first_above config.weights (n * sum config.weights / 2 ^ 64)) number
    ∙ sym (leader_by_drawing config c.in-Drawn.field-0 c.args.round c.in-Drawn.is)
    ∙ ap (λ (z : Config). leader_of z c.args.round) c.self.view_is

pub returns-in-Drawn-clause-within : goal.returns-in-Drawn-clause-within
returns-in-Drawn-clause-within c =
    let config = c.self.inside.config in
    let limits = within_limits config c.self.invariant.lawful in
    let within = c.drawn_place.ensures.within config.weights (running_of c) (some_weight config.weights limits.some limits.weighty) in
    omega (arith, within, ap (λ (z : Config). length z.weights) c.self.view_is)
