-- The pairs that are kept.
use Rattle.std.proofs.Common.{◌≡◌, ℕ, ◌<◌, inl, inr, true, false, List, length, Option, Some, None, refl, sym, ap, ◌∙◌}
use Rattle.std.proofs.lemmas.Bool.{cases_lt}
use Rattle.std.specs.Prelude.{Result, Ok, Err, OnOk, IfSome, slice_index_or}
use Rattle.std.specs.Option.{option_map}
use Rattle.hw_types.specs.Settled.{is_faulty}
use Rattle.hw_types.specs.Culprits.{pair_of}
use Rattle.hw_types.specs.Real.{CoreState, received_in, settled_in}
use Rattle.hw_types.proofs.WordsLaws.{never_both}
use Rattle.hw_needs.specs.declared.pairs.PairNames.{PairNames}
use Rattle.hw_needs.specs.Pairs.{names_of, IsPairOf, ArePairs, IsPairKept}
use Rattle.hw_needs.proofs.NeedLaws.{clear_pair, stranger}

module _ (c : CoreState) (v : ℕ) where
  -- who isn't faulty has no pair, so none is kept
  pub clear_kept : (pairs : List (Option PairNames)) → ArePairs c pairs → is_faulty (received_in c) (settled_in c) v ≡ false → IsPairKept c v pairs
  clear_kept pairs are clear = go (slice_index_or pairs v None) refl (are v)
    where
      none : None ≡ option_map names_of (pair_of (settled_in c) v)
      none = sym (ap (option_map names_of) (clear_pair c v clear))

      go : (o : Option PairNames) → slice_index_or pairs v None ≡ o → IfSome o (IsPairOf c v) → IsPairKept c v pairs
      go None is h = is ∙ none
      go (Some names) is h = absurd (let both : None ≡ Some names = none ∙ h in cc)

  -- who is faulty is a validator
  pub faulty_low : is_faulty (received_in c) (settled_in c) v ≡ true → v < length c.config.weights
  faulty_low faulty = elim (cases_lt v (length c.config.weights)) [
    | inl lt ↦ lt
    | inr le ↦ absurd (never_both (is_faulty (received_in c) (settled_in c) v) faulty (stranger c v le))
  ]

-- what holds, told of success
pub on_ok_said : {A E P : Type 0} (r : Result A E) → P → OnOk r P
on_ok_said (Ok x) p = p
on_ok_said (Err e) p = tt
