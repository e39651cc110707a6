-- Values of scripts are short.
use Rattle.std.proofs.Common.{◌≡◌, ◌≤◌, ◌&&◌, Bool, true, false, length, refl, arith}
use Rattle.std.specs.Prelude.{nat_le}
use Rattle.std.specs.List.{list_all}
use Rattle.std.proofs.lemmas.Bool.{leb-true}
use Rattle.hw_script_grammar.specs.Words.{Word}
use Rattle.hw_script_grammar.specs.Wording.{is_value_byte, is_value}

second : (a b c : Bool) → (a && b && c) ≡ true → b ≡ true
second true true c e = refl
second true false c e = absurd cc
second false b c e = absurd cc

pub value_is_short : (w : Word) → is_value w ≡ true → length w ≤ 4096
unfolding is_value
value_is_short w e =
    let short : length w ≤ 64 = leb-true _ _ (second (nat_le 1 (length w)) (nat_le (length w) 64) (list_all is_value_byte w) e) in
    omega (arith, short)
