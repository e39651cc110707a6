-- Words for random journals: names of units that rarely or often meet another, and who is faulty.
use Rattle.std.specs.Prelude.{ℕ, ◌+◌, ◌*◌, ◌/◌, ◌%◌, List, [], ◌∷◌, length, filter}
use Rattle.hw_types.specs.declared.unit.Digest.{Digest}
use Rattle.hw_types.specs.declared.unit.WireUnit.{WireUnit}
use Rattle.hw_types.specs.Settled.{Received, validators, is_faulty, settled_of}
use Rattle.hw_types.specs.Journal.{Setting}
use Rattle.hw_samples.specs.JournalWords.{dg, value_code}

-- a number that hangs on each field of a unit but its instance
abbrev pub number_in : WireUnit → ℕ
number_in u = u.creator * 7 + u.seq * 5 + u.time * 11 + u.exponent * 3 + length u.panorama + value_code u.value + length u.endorsed * 13

-- a name that rarely meets another
abbrev pub spread : WireUnit → Digest
spread u = dg (number_in u % 97 ∷ u.creator ∷ u.seq % 256 ∷ u.time / 256 % 256 ∷ u.time % 256 ∷ [])

-- a name that often does
abbrev pub crowded : WireUnit → Digest
crowded u = dg (number_in u % 5 ∷ u.creator ∷ 0 ∷ 0 ∷ 0 ∷ [])

-- the faulty validators in rising order
abbrev pub faulty_named : Setting → Received → List ℕ
faulty_named s received = filter (is_faulty received (settled_of s.config received)) (validators s.config)
