-- The pair that shows a culprit, whatever the order of the units.
use Rattle.std.proofs.Common.{◌≡◌, ℕ, ◌≤◌, ◌<◌, ◌⊎◌, true, false, List, Option, Some, None, refl, sym, ap, subst, ◌∙◌, eq-eqb}
use Rattle.std.specs.Prelude.{◌==◌, length, slice_index_or}
use Rattle.std.specs.Map.{lookup}
use Rattle.std.specs.Option.{option_map}
use Rattle.hw_types.specs.declared.unit.WireUnit.{WireUnit}
use Rattle.hw_types.specs.Graph.{Node}
use Rattle.hw_types.specs.Below.{Among}
use Rattle.hw_types.specs.Same.{unit_eq}
use Rattle.hw_types.proofs.ClosureLaws.{Among-filter, filter-Among}
use Rattle.hw_types.proofs.StableLaws.{and_parts, and_whole}
use Rattle.hw_types.proofs.WordsLaws.{never_both}
use Rattle.hw_types.proofs.OrderLaws.{unit_self}
use Rattle.hw_audit.specs.declared.twins.LanePlace.{LanePlace}
use Rattle.hw_audit.specs.Held.{HeldUnit, node_held}
use Rattle.hw_audit.specs.Twins.{place_of, place_eq, stands_at, shown_at, TwinUnits, PairUnits, IsSecond, AreTwins, AreTwinsAt, HasTwins, IsLeast, AreNoted, AreShown, pair_in, IsPairOf}
use Rattle.hw_safety.proofs.CulpritPairLaws.{no_culprit, a_culprit, pair_is}
use Rattle.hw_safety.proofs.UnitOrderLaws.{Comes}
use Rattle.hw_audit.proofs.NotedLaws.{place_same}

-- ---- what is noted, as a pair

module _ (entries : List (LanePlace × TwinUnits)) (least : List (Option ℕ)) (hs : List HeldUnit) (xs : List Node) (noted : AreNoted entries least hs) (shown : AreShown hs xs) (v : ℕ) (v_in : v < length least) where
  abbrev at : ℕ → LanePlace
  at n = record { creator = v; seq = n }

  -- a node of the place is one of its units
  node_at : (n : ℕ) (y : Node) → Among y xs → y.unit.creator ≡ v → y.unit.seq ≡ n → (h : HeldUnit) × Among h (shown_at (at n) hs) × (node_held h ≡ y)
  node_at n y m c s =
      let h = shown.back y m in
      let unit : h.0.signed.unit ≡ y.unit = ap (λ (z : Node). z.unit) h.3 in
      let by : h.0.signed.unit.creator ≡ v = ap (λ (u : WireUnit). u.creator) unit ∙ c in
      let seq : h.0.signed.unit.seq ≡ n = ap (λ (u : WireUnit). u.seq) unit ∙ s in (
        h.0,
        filter-Among (stands_at (at n)) h.0 hs h.1 (and_whole h.0.is_shown (place_eq (place_of h.0) (at n)) h.2
            (and_whole (h.0.signed.unit.creator == v) (h.0.signed.unit.seq == n) (eq-eqb h.0.signed.unit.creator v by) (eq-eqb h.0.signed.unit.seq n seq))),
        h.3,
      )

  unit_at : (n : ℕ) (h : HeldUnit) → Among h (shown_at (at n) hs) → Among h hs × Among (node_held h) xs × (h.signed.unit.creator ≡ v) × (h.signed.unit.seq ≡ n)
  unit_at n h m =
      let p = Among-filter (stands_at (at n)) h hs m in
      let q = and_parts h.is_shown (place_eq (place_of h) (at n)) p.1 in
      let place = place_same (place_of h) (at n) q.1 in
      (p.0, shown.each h p.0 q.0, ap (λ (r : LanePlace). r.creator) place, ap (λ (r : LanePlace). r.seq) place)

  -- two nodes of the validator that differ are a twins of a place
  twins_of : (x y : Node) → Among x xs → Among y xs → x.unit.creator ≡ v → y.unit.creator ≡ v → y.unit.seq ≡ x.unit.seq → unit_eq x.unit y.unit ≡ false → HasTwins hs (at x.unit.seq)
  twins_of x y mx my cx cy s d =
      let h = node_at x.unit.seq x mx cx refl in
      let k = node_at x.unit.seq y my cy s in
      (h.0, k.0, h.1, k.1, ap (λ (z : Node). unit_eq z.unit k.0.signed.unit) h.2 ∙ ap (λ (z : Node). unit_eq x.unit z.unit) k.2 ∙ d)

  pub no_pair : IsLeast hs v None → IsPairOf hs xs v None
  no_pair none = no_culprit xs v (λ x y mx my cx cy s d. none x.unit.seq (twins_of x y mx my cx cy s d))

  pub least_pair : (n : ℕ) → IsLeast hs v (Some n) → IsPairOf hs xs v (pair_in (lookup (place_eq (at n)) entries))
  least_pair n is = with_twins (lookup (place_eq (at n)) entries) (noted.twins (at n))
    where
      with_second : (f : TwinUnits) → AreTwins (shown_at (at n) hs) f → (o : Option HeldUnit) → IsSecond (shown_at (at n) hs) f.first o → IsPairOf hs xs v (option_map (λ (b : HeldUnit). record { first = f.first; second = b }) o)
      with_second f twins None second =
          let k = is.0 in
          let one : k.0.signed.unit ≡ k.1.signed.unit = ap (λ (z : Node). z.unit) (second k.0 k.2 ∙ sym (second k.1 k.3)) in
          absurd (never_both (unit_eq k.0.signed.unit k.1.signed.unit) (subst (λ (u : WireUnit). unit_eq k.0.signed.unit u ≡ true) one (unit_self k.0.signed.unit)) k.4)
      with_second f twins (Some b) second =
          let p = unit_at n f.first twins.first_in in
          let q = unit_at n b second.0 in
          let first : (y : Node) → Among y xs → y.unit.creator ≡ v → y.unit.seq ≡ n → (y ≡ node_held f.first) ⊎ Comes (node_held f.first) y =
          λ y m c s. (let h = node_at n y m c s in subst (λ (z : Node). (z ≡ node_held f.first) ⊎ Comes (node_held f.first) z) h.2 (twins.first_is h.0 h.1)) in
          let others : (y : Node) → Among y xs → y.unit.creator ≡ v → y.unit.seq ≡ n → (y ≡ node_held f.first) ⊎ ((y ≡ node_held b) ⊎ Comes (node_held b) y) =
          λ y m c s. (let h = node_at n y m c s in subst (λ (z : Node). (z ≡ node_held f.first) ⊎ ((z ≡ node_held b) ⊎ Comes (node_held b) z)) h.2 (second.2 h.0 h.1)) in
          let low : (x y : Node) → Among x xs → Among y xs → x.unit.creator ≡ v → y.unit.creator ≡ v → y.unit.seq ≡ x.unit.seq → unit_eq x.unit y.unit ≡ false → n ≤ x.unit.seq =
          λ x y mx my cx cy s d. is.1 x.unit.seq (twins_of x y mx my cx cy s d) in (
            a_culprit xs v n (node_held f.first) (node_held b) p.1 q.1 p.2 q.2 p.3 q.3 second.1 first others low,
            pair_is xs v n (node_held f.first) (node_held b) p.1 q.1 p.2 q.2 p.3 q.3 second.1 first others low,
            p.0,
            q.0,
          )

      with_twins : (o : Option TwinUnits) → AreTwinsAt (shown_at (at n) hs) o → IsPairOf hs xs v (pair_in o)
      with_twins None none = let k = is.0 in absurd (none k.0 k.2)
      with_twins (Some f) twins = with_second f twins f.second twins.second_is

  pub pair_noted : (o : Option ℕ) (p : Option PairUnits) → slice_index_or least v None ≡ o → ((n : ℕ) → o ≡ Some n → p ≡ pair_in (lookup (place_eq (at n)) entries)) → (o ≡ None → p ≡ None) → IsPairOf hs xs v p
  pair_noted None p e some none = subst (λ (q : Option PairUnits). IsPairOf hs xs v q) (sym (none refl)) (no_pair (subst (λ (o : Option ℕ). IsLeast hs v o) e (noted.least_are v v_in)))
  pair_noted (Some n) p e some none = subst (λ (q : Option PairUnits). IsPairOf hs xs v q) (sym (some n refl)) (least_pair n (subst (λ (o : Option ℕ). IsLeast hs v o) e (noted.least_are v v_in)))
