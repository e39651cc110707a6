-- The first unit of a place and the first of the others, with one unit more.
use Rattle.std.proofs.Common.{◌≡◌, ◌⊎◌, inl, inr, true, List, [], ◌∷◌, ◌++◌, Option, Some, None, Result, Ok, Err, IfOk, refl, sym, ap, subst, ◌∙◌}
use Rattle.hw_types.specs.Graph.{Node}
use Rattle.hw_types.specs.Below.{Among}
use Rattle.hw_types.specs.Same.{unit_eq}
use Rattle.hw_types.specs.Spelling.{digest_of}
use Rattle.hw_types.proofs.EntryLaws.{append_cases}
use Rattle.hw_types.proofs.UnionLaws.{from_left, from_right}
use Rattle.hw_types.proofs.OrderLaws.{unit_same}
use Rattle.hw_audit.specs.Held.{HeldUnit, node_held}
use Rattle.hw_audit.specs.Twins.{Precedes, AreOne, Differ, IsLesser, TwinUnits, IsSecond, AreTwins}
use Rattle.hw_safety.proofs.CulpritPairLaws.{unit_turned}
use Rattle.hw_safety.proofs.UnitOrderLaws.{comes_trans}

-- ---- one more

pub each_last : (P : HeldUnit → Type 0) (ys : List HeldUnit) (h : HeldUnit) → ((y : HeldUnit) → Among y ys → P y) → P h → (y : HeldUnit) → Among y (ys ++ h ∷ []) → P y
each_last P ys h each last y m = go (append_cases y ys (h ∷ []) m)
  where
    go : (Among y ys ⊎ ((h ≡ y) ⊎ ⊥)) → P y
    go (inl k) = each y k
    go (inr (inl e)) = subst P e last
    go (inr (inr never)) = absurd never

pub last_in : (ys : List HeldUnit) (h : HeldUnit) → Among h (ys ++ h ∷ [])
last_in ys h = from_right h ys (h ∷ []) (inl refl)

-- units that are equal have one name
pub one_unit : (x y : HeldUnit) → x.name ≡ digest_of x.signed.unit → y.name ≡ digest_of y.signed.unit → unit_eq x.signed.unit y.signed.unit ≡ true → AreOne y x
one_unit x y p q e =
    let unit : y.signed.unit ≡ x.signed.unit = sym (unit_same x.signed.unit y.signed.unit e) in
    let name : y.name ≡ x.name = q ∙ ap digest_of unit ∙ sym p in
    λ i. record { digest = name i; unit = unit i }

before_one : (x y z : HeldUnit) → Precedes x y → AreOne z y → Precedes x z
before_one x y z p e = subst (λ (n : Node). Rattle.hw_types.specs.Culprits.stands_before (node_held x) n ≡ true) (sym e) p

before_far : (x y z : HeldUnit) → Precedes x y → Precedes y z → Precedes x z
before_far x y z = comes_trans (node_held x) (node_held y) (node_held z)

-- ---- the twins with one unit more

module _ (ys : List HeldUnit) (f : TwinUnits) (h : HeldUnit) (is : AreTwins ys f) where
  in_more : (y : HeldUnit) → Among y ys → Among y (ys ++ h ∷ [])
  in_more y m = from_left y ys (h ∷ []) m

  second_one : (o : Option HeldUnit) → IsSecond ys f.first o → AreOne h f.first → IsSecond (ys ++ h ∷ []) f.first o
  second_one None s one = each_last (λ y. AreOne y f.first) ys h s one
  second_one (Some b) s one = (in_more b s.0, s.1, each_last (λ y. AreOne y f.first ⊎ (AreOne y b ⊎ Precedes b y)) ys h s.2 (inl one))

  -- it is the first one again
  pub twins_one : AreOne h f.first → AreTwins (ys ++ h ∷ []) (record { first = f.first; second = f.second })
  twins_one one = record {
    first_in = in_more f.first is.first_in;
    first_is = each_last (λ y. AreOne y f.first ⊎ Precedes f.first y) ys h is.first_is (inl one);
    second_is = second_one f.second is.second_is one;
  }

  -- it comes first
  pub twins_before : Precedes h f.first → Differ f.first h → AreTwins (ys ++ h ∷ []) (record { first = h; second = Some f.first })
  twins_before before differ = record {
    first_in = last_in ys h;
    first_is = each_last (λ y. AreOne y h ⊎ Precedes h y) ys h (λ y m. inr (elim (is.first_is y m) [ inl one ↦ before_one h f.first y before one | inr later ↦ before_far h f.first y before later ])) (inl refl);
    second_is = (
      in_more f.first is.first_in,
      unit_turned h.signed.unit f.first.signed.unit ∙ differ,
      each_last (λ y. AreOne y h ⊎ (AreOne y f.first ⊎ Precedes f.first y)) ys h (λ y m. inr (is.first_is y m)) (inl refl),
    );
  }

  -- it is the first of the others
  pub twins_second : AreOne h f.first ⊎ Precedes f.first h → Differ f.first h → f.second ≡ None → AreTwins (ys ++ h ∷ []) (record { first = f.first; second = Some h })
  twins_second behind differ none = record {
    first_in = in_more f.first is.first_in;
    first_is = each_last (λ y. AreOne y f.first ⊎ Precedes f.first y) ys h is.first_is behind;
    second_is = (
      last_in ys h,
      differ,
      each_last (λ y. AreOne y f.first ⊎ (AreOne y h ⊎ Precedes h y)) ys h (λ y m. inl (alone y m)) (inr (inl refl)),
    );
  }
    where
      alone : (y : HeldUnit) → Among y ys → AreOne y f.first
      alone = subst (λ (o : Option HeldUnit). IsSecond ys f.first o) none is.second_is

  -- or it is compared with the first of the others
  pub twins_lesser : AreOne h f.first ⊎ Precedes f.first h → Differ f.first h → (b l : HeldUnit) → f.second ≡ Some b → IsLesser b h l → AreTwins (ys ++ h ∷ []) (record { first = f.first; second = Some l })
  twins_lesser behind differ b l some lesser = record {
    first_in = in_more f.first is.first_in;
    first_is = each_last (λ y. AreOne y f.first ⊎ Precedes f.first y) ys h is.first_is behind;
    second_is = go lesser;
  }
    where
      was : IsSecond ys f.first (Some b)
      was = subst (λ (o : Option HeldUnit). IsSecond ys f.first o) some is.second_is

      newer : Precedes h b → IsSecond (ys ++ h ∷ []) f.first (Some h)
      newer before = (
        last_in ys h,
        differ,
        each_last (λ y. AreOne y f.first ⊎ (AreOne y h ⊎ Precedes h y)) ys h (λ y m. elim (was.2 y m) [
          | inl one ↦ inl one
          | inr (inl other) ↦ inr (inr (before_one h b y before other))
          | inr (inr later) ↦ inr (inr (before_far h b y before later))
        ]) (inr (inl refl)),
      )

      older : AreOne h b ⊎ Precedes b h → IsSecond (ys ++ h ∷ []) f.first (Some b)
      older p = (in_more b was.0, was.1, each_last (λ y. AreOne y f.first ⊎ (AreOne y b ⊎ Precedes b y)) ys h was.2 (inr p))

      go : ((l ≡ h) × Precedes h b) ⊎ ((l ≡ b) × (AreOne h b ⊎ Precedes b h)) → IsSecond (ys ++ h ∷ []) f.first (Some l)
      go (inl p) = subst (λ (x : HeldUnit). IsSecond (ys ++ h ∷ []) f.first (Some x)) (sym p.0) (newer p.1)
      go (inr p) = subst (λ (x : HeldUnit). IsSecond (ys ++ h ∷ []) f.first (Some x)) (sym p.0) (older p.1)

-- the first unit of a place
pub twins_new : (ys : List HeldUnit) (h : HeldUnit) → ((y : HeldUnit) → Among y ys → ⊥) → AreTwins (ys ++ h ∷ []) (record { first = h; second = None })
twins_new ys h none = record {
  first_in = last_in ys h;
  first_is = each_last (λ y. AreOne y h ⊎ Precedes h y) ys h (λ y m. absurd (none y m)) (inl refl);
  second_is = each_last (λ y. AreOne y h) ys h (λ y m. absurd (none y m)) refl;
}

-- what an answer tells, told otherwise
pub ok_so : {A E : Type 0} {P Q : A → Type 0} (r : Result A E) → IfOk r P → ((x : A) → P x → Q x) → IfOk r Q
ok_so (Ok x) p so = so x p
ok_so (Err e) p so = tt
