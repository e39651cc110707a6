use Rattle.std.proofs.Common.{◌≡◌, ◌+◌, ◌∷◌, ◌++◌}
use Rattle.std.specs.List.{flat_map, range_with_len}
use Rattle.hw_text.specs.Text.{number_text}
use Rattle.hw_explain.specs.Searched.{start_or_zero}
use Rattle.hw_explain.proofs.committee.put_member.Given as goal

abbrev pub invariant-loop-below : goal.invariant-loop-below
invariant-loop-below l = l.text ≡ l.initial.text ++ flat_map (λ j. 44 ∷ number_text (start_or_zero l.search (j + 1) l.validator)) (range_with_len 0 l.below)
