-- What is reserved for consumers is enough.
use Rattle.std.proofs.Common.{◌≡◌, ◌≤◌, ◌+◌, ◌-◌, ℕ, List, [], ◌++◌, length, ap, subst, ◌∙◌, arith}
use Rattle.std.specs.List.{range_with_len}
use Rattle.std.proofs.lemmas.List.FromFn.{length-range_with_len}
use Rattle.hw_replay.specs.State.{FanoutState}

-- what is reserved at first is enough
pub enough_room : {B : Type 0} (f : FanoutState B) (places : List ℕ) (count wanted : ℕ) → f ≡ record { passed = 0; places = []; drops = []; gone = [] }
    → places ≡ f.places ++ range_with_len (length f.drops + length f.places) (wanted - (length f.drops + length f.places)) → wanted ≡ count → count ≤ length places
enough_room {B} f places count wanted empty is same =
    let P : FanoutState B → Type 0 = λ s. places ≡ s.places ++ range_with_len (length s.drops + length s.places) (wanted - (length s.drops + length s.places)) in
    let e : places ≡ range_with_len 0 (wanted - 0) = subst P empty is in
    omega (arith, ap length e ∙ length-range_with_len 0 (wanted - 0), same)
