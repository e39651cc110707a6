use Rattle.std.proofs.Common.{◌≡◌, ◌∷◌, ◌++◌, take}
use Rattle.std.specs.List.{flat_map}
use Rattle.hw_text.specs.Text.{number_text}
use Rattle.hw_explain.proofs.lines.put_each.Given as goal

abbrev pub invariant-loop-number : goal.invariant-loop-number
invariant-loop-number l = l.out ≡ l.initial.out ++ flat_map (λ n. 32 ∷ number_text n) (take l.number-index l.numbers)
