-- The two units of the least digests at the least sequence number that two have are the pair that shows the creator.
use Rattle.std.proofs.Common.{◌≡◌, ℕ, ◌<◌, ◌⊎◌, inl, inr, Bool, true, false, List, [], ◌∷◌, Option, Some, None, refl, sym, ap, subst, ◌∙◌}
use Rattle.std.specs.Prelude.{IfSome}
use Rattle.std.specs.List.{list_any}
use Rattle.hw_types.specs.declared.unit.Digest.{Digest}
use Rattle.hw_types.specs.Graph.{Node, digest_lt}
use Rattle.hw_types.specs.Below.{Among}
use Rattle.hw_types.specs.Same.{unit_eq}
use Rattle.hw_types.specs.Spelling.{digest_of}
use Rattle.hw_types.specs.Culprits.{least_seq, at_seq, first_two, equivocations_of, pair_of}
use Rattle.hw_types.proofs.OrderLaws.{unit_same, unit_self}
use Rattle.hw_types.proofs.PastLaws.{or_left}
use Rattle.hw_types.proofs.WordsLaws.{never_both}
use Rattle.hw_dag.specs.declared.numbers.UnitNo.{UnitNo}
use Rattle.hw_dag.specs.Dag.{UnitGraph, unit_at, node_at, count_of, graph}
use Rattle.hw_dag.specs.Admission.{IsGraph}
use Rattle.hw_dag.proofs.NodeLaws.{among_node, node_among}
use Rattle.hw_forks.proofs.BestLaws.{digest_lt_never}
use Rattle.hw_safety.proofs.UnitOrderLaws.{Comes}
use Rattle.hw_safety.proofs.CulpritPairLaws.{no_culprit, pair_is}
use Rattle.hw_needs.specs.Forks.{StandsAt, HasTwo, IsLeastWithTwo, AreLeastTwo, AreNamed, nodes_at}

module _ (dag : UnitGraph) (g : IsGraph dag) (named : AreNamed (graph dag)) (creator : ℕ) where
  abbrev xs : List Node
  xs = graph dag

  -- a unit of the creator has a number
  at_number : (x : Node) → Among x xs → x.unit.creator ≡ creator → (seq : ℕ) → x.unit.seq ≡ seq → (n : ℕ) × StandsAt dag (count_of dag) creator seq n × (node_at dag n ≡ x)
  at_number x m c seq s =
      let n = among_node dag x m in (
        n.0,
        record { within = n.1; creator_is = ap (λ (y : Node). y.unit.creator) n.2 ∙ c; seq_is = ap (λ (y : Node). y.unit.seq) n.2 ∙ s },
        n.2,
      )

  -- two different units of one number are two
  two_of : (x y : Node) → Among x xs → Among y xs → x.unit.creator ≡ creator → y.unit.creator ≡ creator → y.unit.seq ≡ x.unit.seq → unit_eq x.unit y.unit ≡ false → HasTwo dag (count_of dag) creator x.unit.seq
  two_of x y mx my cx cy s d =
      let i = at_number x mx cx x.unit.seq refl in
      let j = at_number y my cy x.unit.seq s in
      record {
        one = i.0;
        other = j.0;
        one_at = i.1;
        other_at = j.1;
        apart = λ e. (let same : x ≡ y = sym i.2 ∙ ap (λ (n : ℕ). node_at dag n) e ∙ j.2 in
            never_both (unit_eq x.unit y.unit) (subst (λ (z : Node). unit_eq x.unit z.unit ≡ true) same (unit_self x.unit)) d);
      }

  -- no two units of one number make no pair
  pub none_is : IsLeastWithTwo dag (count_of dag) creator None → pair_of xs creator ≡ None
  unfolding pair_of
  none_is none = none_of (equivocations_of xs creator) refl (no_culprit xs creator (λ x y mx my cx cy s d. none x.unit.seq (two_of x y mx my cx cy s d)))
    where
      none_of : (forks : List Node) → equivocations_of xs creator ≡ forks → list_any (λ x. true) forks ≡ false → pair_of xs creator ≡ None
      none_of [] e h = ap (λ (forks : List Node). first_two (at_seq (least_seq None forks) forks)) e
      none_of (x ∷ forks) e h = absurd cc

  -- the two are the pair
  pub two_is : (seq : ℕ) (a b : UnitNo) → IsLeastWithTwo dag (count_of dag) creator (Some seq) → AreLeastTwo dag creator seq (Some (a, b)) → pair_of xs creator ≡ Some (node_at dag a.0, node_at dag b.0)
  two_is seq a b least two =
      pair_is xs creator seq (node_at dag a.0) (node_at dag b.0) (node_among dag g a.0 two.0.0.within) (node_among dag g b.0 two.1.0.within) two.0.0.creator_is two.1.0.creator_is two.0.0.seq_is two.1.0.seq_is
      differ first second (λ x y mx my cx cy s d. least.1 x.unit.seq (two_of x y mx my cx cy s d))
    where
      comes : (m n : ℕ) (y : Node) → node_at dag n ≡ y → digest_lt (unit_at dag m).digest (unit_at dag n).digest ≡ true → Comes (node_at dag m) y
      comes m n y e lt = subst (λ (z : Node). Comes (node_at dag m) z) e (or_left (digest_lt (unit_at dag m).digest (unit_at dag n).digest) _ lt)

      differ : unit_eq (unit_at dag a.0).signed.unit (unit_at dag b.0).signed.unit ≡ false
      differ = go (unit_eq (unit_at dag a.0).signed.unit (unit_at dag b.0).signed.unit) refl
        where
          go : (c : Bool) → unit_eq (unit_at dag a.0).signed.unit (unit_at dag b.0).signed.unit ≡ c → c ≡ false
          go false e = refl
          go true e =
              let same : (unit_at dag a.0).digest ≡ (unit_at dag b.0).digest = named (node_at dag a.0) (node_among dag g a.0 two.0.0.within) ∙ ap digest_of (unit_same _ _ e) ∙ sym (named (node_at dag b.0) (node_among dag g b.0 two.1.0.within)) in
              let before : digest_lt (unit_at dag b.0).digest (unit_at dag b.0).digest ≡ true = subst (λ (d : Digest). digest_lt d (unit_at dag b.0).digest ≡ true) same two.1.1 in
              absurd (digest_lt_never (unit_at dag b.0).digest (unit_at dag b.0).digest before before)

      first : (y : Node) → Among y xs → y.unit.creator ≡ creator → y.unit.seq ≡ seq → (y ≡ node_at dag a.0) ⊎ Comes (node_at dag a.0) y
      first y m c s =
          let n = at_number y m c seq s in
          elim (two.0.2 n.0 n.1 tt) [
            | inl e ↦ inl (sym n.2 ∙ ap (λ (k : ℕ). node_at dag k) e)
            | inr lt ↦ inr (comes a.0 n.0 y n.2 lt)
          ]

      second : (y : Node) → Among y xs → y.unit.creator ≡ creator → y.unit.seq ≡ seq → (y ≡ node_at dag a.0) ⊎ ((y ≡ node_at dag b.0) ⊎ Comes (node_at dag b.0) y)
      second y m c s =
          let n = at_number y m c seq s in
          elim (two.0.2 n.0 n.1 tt) [
            | inl e ↦ inl (sym n.2 ∙ ap (λ (k : ℕ). node_at dag k) e)
            | inr above ↦ inr (elim (two.1.2 n.0 n.1 above) [
              | inl e ↦ inl (sym n.2 ∙ ap (λ (k : ℕ). node_at dag k) e)
              | inr lt ↦ inr (comes b.0 n.0 y n.2 lt)
            ])
          ]

  -- where there are two of a number, the search ends at two
  pub none_never : (seq : ℕ) → IsLeastWithTwo dag (count_of dag) creator (Some seq) → AreLeastTwo dag creator seq None → ⊥
  none_never seq least none = none least.0

  pub told : (seq : ℕ) → IsLeastWithTwo dag (count_of dag) creator (Some seq) → (o : Option (UnitNo × UnitNo)) → AreLeastTwo dag creator seq o → nodes_at dag o ≡ pair_of xs creator
  told seq least None two = absurd (none_never seq least two)
  told seq least (Some p) two = sym (two_is seq p.0 p.1 least two)

pub known : (dag : UnitGraph) (creator seq : ℕ) (o : Option (UnitNo × UnitNo)) → AreLeastTwo dag creator seq o → IfSome o (λ p. (p.0.0 < count_of dag) × (p.1.0 < count_of dag))
known dag creator seq None two = tt
known dag creator seq (Some p) two = (two.0.0.within, two.1.0.within)
