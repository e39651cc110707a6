use Rattle.std.proofs.Common.{◌≡◌, ◌+◌, ◌-◌}
use Rattle.hw_honest.specs.Generated.{shuffled}
use Rattle.hw_cluster.specs.Numbers.{word_in}
use Rattle.hw_cluster.proofs.order.shuffle.Given as goal

-- a word was taken for each place that is done, and the places below are to be shuffled
abbrev pub invariant-loop-done : goal.invariant-loop-done
invariant-loop-done l =
    (l.words ≡ record { key = l.initial.words.key; place = l.initial.words.place + l.done })
    × (shuffled (word_in l.initial.words.key) (l.initial.words.place + l.done) (l.last - l.done) l.units ≡ shuffled (word_in l.initial.words.key) l.initial.words.place l.last l.initial.units)
