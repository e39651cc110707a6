-- Panoramas joined, slot by slot.
use Rattle.std.specs.Prelude.{◌≡◌, true, List, if◌then◌else◌}
use Rattle.hw_types.specs.declared.unit.Obs.{Obs}
use Rattle.hw_types.specs.Graph.{Node, is_at_most}
use Rattle.hw_dag.specs.declared.numbers.View.{View}
use Rattle.hw_dag.specs.declared.numbers.View.TheVariants as view
use Rattle.hw_dag.specs.Dag.{UnitGraph}
use Rattle.hw_dag.specs.Lanes.{is_lane_below}

-- Of two units on one lane the later one. A slot is Faulty where either is, or where two units aren't on one lane.
abbrev pub joined : UnitGraph → View → View → View
joined dag view.Absent right = right
joined dag view.Faulty right = view.Faulty
joined dag (view.Correct m) view.Absent = view.Correct m
joined dag (view.Correct m) view.Faulty = view.Faulty
joined dag (view.Correct m) (view.Correct n) =
    if is_lane_below dag m.0 n.0 then view.Correct n else if is_lane_below dag n.0 m.0 then view.Correct m else view.Faulty

-- the least list of observations that both are at most
pub record IsLeastAbove (units : List Node) (left right join : List Obs) : Type 0 where
  pub above_left : is_at_most units left join ≡ true
  pub above_right : is_at_most units right join ≡ true
  pub least : (other : List Obs) → is_at_most units left other ≡ true → is_at_most units right other ≡ true → is_at_most units join other ≡ true
