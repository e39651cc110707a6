use Rattle.std.proofs.Common.{◌≡◌, ◌<◌, take}
use Rattle.std.specs.Prelude.{filter, filter_map, slice_get, All}
use Rattle.hw_agree.specs.Converge.{is_due}
use Rattle.hw_meeting.proofs.due.due_places.Given as goal

abbrev pub invariant-loop-place : goal.invariant-loop-place
invariant-loop-place l = record {
  due : filter_map (slice_get l.core.journal) l.places ≡ filter (is_due l.torn l.mine l.theirs) (take l.place l.core.journal);
  within : All (λ p. p < l.count) l.places;
}
