-- Who has two settled units of one sequence number, and the pair that shows it.
use Rattle.std.proofs.Common.{◌≡◌, ℕ, Bool, true, false, not, List, [], ◌∷◌, Some, None, refl, sym, ap, subst, ◌∙◌}
use Rattle.std.specs.Prelude.{◌&&◌, ◌==◌}
use Rattle.std.specs.List.{list_any}
use Rattle.hw_types.specs.Graph.{Node, node_eq, are_different}
use Rattle.hw_types.specs.Below.{Among}
use Rattle.hw_types.specs.Same.{unit_eq}
use Rattle.hw_types.specs.Spelling.{digest_of}
use Rattle.hw_types.specs.Settled.{equivocates}
use Rattle.hw_types.specs.Culprits.{least_seq, at_seq, first_two, equivocations_of, pair_of}
use Rattle.hw_types.proofs.ClosureLaws.{Among-filter, filter-Among}
use Rattle.hw_types.proofs.PastLaws.{some_of, any_of}
use Rattle.hw_types.proofs.StableLaws.{OneName, and_parts, and_whole, both_ways}
use Rattle.hw_types.proofs.SettledLaws.{digest_self}
use Rattle.hw_types.proofs.OrderLaws.{unit_same, unit_self}
use Rattle.hw_types.proofs.WordsLaws.{never_both, not_true}
use Rattle.hw_safety.proofs.ShownLaws.{paired}
use Rattle.hw_needs.specs.Forks.{AreNamed}

-- the validator has two different units of one number
abbrev pub is_shown : List Node → ℕ → Bool
is_shown xs v = list_any (λ x. true) (equivocations_of xs v)

module _ (xs : List Node) (named : AreNamed xs) (one : OneName xs) (v : ℕ) where
  abbrev other : Node → Node → Bool
  other x y = (y.unit.creator == v) && (y.unit.seq == x.unit.seq) && not (unit_eq x.unit y.unit)

  abbrev forked : Node → Bool
  forked x = (x.unit.creator == v) && list_any (other x) xs

  abbrev apart : Node → Node → Bool
  apart x y = (y.unit.creator == v) && (y.unit.seq == x.unit.seq) && are_different x y

  abbrev parted : Node → Bool
  parted x = (x.unit.creator == v) && list_any (apart x) xs

  -- units of two names are two units
  two_units : (x y : Node) → Among x xs → Among y xs → are_different x y ≡ true → not (unit_eq x.unit y.unit) ≡ true
  two_units x y mx my d = go (unit_eq x.unit y.unit) refl
    where
      go : (b : Bool) → unit_eq x.unit y.unit ≡ b → not b ≡ true
      go false e = refl
      go true e =
          let same : x.digest ≡ y.digest = named x mx ∙ ap digest_of (unit_same x.unit y.unit e) ∙ sym (named y my) in
          absurd (never_both (node_eq x y) (subst (λ d. Rattle.hw_types.specs.Graph.digest_eq x.digest d ≡ true) same (digest_self x.digest)) (not_true (node_eq x y) d))

  -- two units have two names
  two_names : (x y : Node) → Among x xs → Among y xs → not (unit_eq x.unit y.unit) ≡ true → are_different x y ≡ true
  two_names x y mx my d = go (node_eq x y) refl
    where
      go : (b : Bool) → node_eq x y ≡ b → not b ≡ true
      go false e = refl
      go true e =
          let same : x ≡ y = one x y y.digest mx my e (digest_self y.digest) in
          absurd (never_both (unit_eq x.unit y.unit) (subst (λ (z : Node). unit_eq x.unit z.unit ≡ true) same (unit_self x.unit)) (not_true (unit_eq x.unit y.unit) d))

  there : equivocates xs v ≡ true → is_shown xs v ≡ true
  unfolding equivocates
  there h =
      let x = some_of parted xs h in
      let p = and_parts (x.0.unit.creator == v) (list_any (apart x.0) xs) x.2 in
      let y = some_of (apart x.0) xs p.1 in
      let q = and_parts ((y.0.unit.creator == v) && (y.0.unit.seq == x.0.unit.seq)) (are_different x.0 y.0) y.2 in
      any_of (λ x. true) x.0 (equivocations_of xs v) (filter-Among forked x.0 xs x.1 (and_whole (x.0.unit.creator == v) (list_any (other x.0) xs) p.0
      (any_of (other x.0) y.0 xs y.1 (and_whole ((y.0.unit.creator == v) && (y.0.unit.seq == x.0.unit.seq)) (not (unit_eq x.0.unit y.0.unit)) q.0 (two_units x.0 y.0 x.1 y.1 q.1))))) refl

  back : is_shown xs v ≡ true → equivocates xs v ≡ true
  unfolding equivocates
  back h =
      let z = some_of (λ x. true) (equivocations_of xs v) h in
      let x = Among-filter forked z.0 xs z.1 in
      let p = and_parts (z.0.unit.creator == v) (list_any (other z.0) xs) x.1 in
      let y = some_of (other z.0) xs p.1 in
      let q = and_parts ((y.0.unit.creator == v) && (y.0.unit.seq == z.0.unit.seq)) (not (unit_eq z.0.unit y.0.unit)) y.2 in
      any_of parted z.0 xs x.0 (and_whole (z.0.unit.creator == v) (list_any (apart z.0) xs) p.0
      (any_of (apart z.0) y.0 xs y.1 (and_whole ((y.0.unit.creator == v) && (y.0.unit.seq == z.0.unit.seq)) (are_different z.0 y.0) q.0 (two_names z.0 y.0 x.0 y.1 q.1))))

  pub shown_is : equivocates xs v ≡ is_shown xs v
  shown_is = both_ways (equivocates xs v) (is_shown xs v) there back

  -- ---- the pair

  -- nobody is shown by no pair
  pub no_pair : equivocates xs v ≡ false → pair_of xs v ≡ None
  unfolding pair_of
  no_pair h = none_of (equivocations_of xs v) refl (sym shown_is ∙ h)
    where
      none_of : (forks : List Node) → equivocations_of xs v ≡ forks → list_any (λ x. true) forks ≡ false → pair_of xs v ≡ None
      none_of [] e h = ap (λ (forks : List Node). first_two (at_seq (least_seq None forks) forks)) e
      none_of (x ∷ forks) e h = absurd cc

  -- who equivocated is shown by two of these units
  pub some_pair : equivocates xs v ≡ true → (a : Node) × (b : Node) × (pair_of xs v ≡ Some (a, b)) × Among a xs × Among b xs
  some_pair h = paired xs v (sym shown_is ∙ h)
