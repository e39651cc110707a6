-- A culprit is shown, and values are spelled.
use Rattle.std.proofs.lemmas.List.Elements.{All-nil}
use Rattle.hw_samples.proofs.Members.{all_one}
use Rattle.std.proofs.Common.{◌≡◌, inl, inr, [], ◌∷◌, refl, sym, arith}
use Rattle.std.specs.Prelude.{◌++◌}
use Rattle.hw_types.specs.Spelling.{signed_bytes, Fits}
use Rattle.hw_types.specs.Journal.{named}
use Rattle.hw_types.specs.Culprits.{culprits_of, SignedAs, IsShown}
use Rattle.hw_samples.specs.Words.{unfold_answers, unfold_reading, unfold_names}
use Rattle.hw_samples.specs.Spelled.{small_unit}
use Rattle.hw_samples.specs.RealNames.{real_b0, real_e0, real, real_in_order, real_other_side}
use Rattle.hw_samples.specs.Relations.{signed, culprit, CulpritIsShown, too_late, ValuesAreSpelled}

b0_signed : SignedAs (real_in_order ++ real_other_side) (named real real_b0) (signed_bytes (signed real_b0))
b0_signed = (signed real_b0, inr (inl refl), refl, refl)

e0_signed : SignedAs (real_in_order ++ real_other_side) (named real real_e0) (signed_bytes (signed real_e0))
e0_signed = (signed real_e0, inr (inr (inr (inr (inr (inl refl))))), refl, refl)

shown : IsShown real real_in_order real_other_side culprit
unfolding unfold_answers unfold_names
shown = record { first = named real real_b0; second = named real real_e0; pair = refl; first_bytes = b0_signed; second_bytes = e0_signed }

validators : culprits_of real real_in_order real_other_side ≡ 1 ∷ []
unfolding unfold_answers unfold_names
validators = refl

nobody : culprits_of real real_in_order real_in_order ≡ []
unfolding unfold_answers unfold_names
nobody = refl

pub culprit_is_shown : CulpritIsShown
culprit_is_shown = record {
  culprits = record { validators_are = sym validators; each = all_one (IsShown real real_in_order real_other_side) culprit shown };
  shown = shown;
  signed_as = b0_signed;
  none = record { validators_are = sym nobody; each = All-nil (IsShown real real_in_order real_in_order) };
}

small_fits : Fits small_unit
small_fits = record { time = omega arith; panorama = omega arith; value = omega arith; endorsed = omega arith }

unfit : Fits too_late → ⊥
unfit f = let t = f.time in omega arith

pub values_are_spelled : ValuesAreSpelled
unfolding unfold_reading
values_are_spelled = record {
  unit = record { limits = small_fits; is = refl };
  vertex = record { limits = (small_fits, small_fits); is = refl };
  config = record { limits = record { weights = omega arith; leaders = omega arith }; is = refl };
  frame = record { limits = small_fits; is = refl };
  unfit = unfit;
  gives = refl;
  first_error = refl;
  fails = refl;
}
