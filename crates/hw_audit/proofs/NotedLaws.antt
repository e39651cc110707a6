-- The twins of all places and the least numbers of all validators, with one unit more.
use Rattle.std.proofs.Common.{◌≡◌, ◌≢◌, ℕ, ◌≤◌, ◌<◌, ◌⊎◌, inl, inr, Bool, true, false, cond, List, [], ◌∷◌, ◌++◌, length, min, Option, Some, None, is_some, refl, sym, ap, subst, ◌∙◌, arith, eqb-true, eq-eqb}
use Rattle.std.specs.Prelude.{◌&&◌, ◌==◌, filter, ◌↔◌, slice_index_or}
use Rattle.std.specs.Map.{lookup}
use Rattle.std.specs.Option.{option_map}
use Rattle.std.proofs.lemmas.List.{append-nil}
use Rattle.std.proofs.lemmas.List.Elements.{filter-append}
use Rattle.std.proofs.lemmas.Bool.{cases_lt}
use Rattle.hw_types.specs.declared.unit.WireUnit.{WireUnit}
use Rattle.hw_types.specs.Graph.{Node}
use Rattle.hw_types.specs.Below.{Among}
use Rattle.hw_types.specs.Same.{unit_eq}
use Rattle.hw_types.proofs.StableLaws.{and_parts, and_whole}
use Rattle.hw_types.proofs.UnionLaws.{from_left}
use Rattle.hw_types.proofs.WordsLaws.{never_both}
use Rattle.hw_types.proofs.OrderLaws.{unit_self}
use Rattle.hw_audit.specs.declared.twins.LanePlace.{LanePlace}
use Rattle.hw_audit.specs.Held.{HeldUnit}
use Rattle.hw_audit.specs.Twins.{place_of, place_eq, stands_at, shown_at, TwinUnits, IsSecond, AreTwins, AreTwinsAt, AreTwinsOfEach, HasTwins, IsLeast, AreLeast, IsLowered, AreNoted}
use Rattle.hw_safety.specs.Pairs.{lower_of}

-- ---- places

pub place_same : (p q : LanePlace) → place_eq p q ≡ true → p ≡ q
place_same p q h =
    let parts = and_parts (p.creator == q.creator) (p.seq == q.seq) h in
    let creator = eqb-true p.creator q.creator parts.0 in
    let seq = eqb-true p.seq q.seq parts.1 in
    λ i. record { creator = creator i; seq = seq i }

pub place_self : (p : LanePlace) → place_eq p p ≡ true
place_self p = and_whole (p.creator == p.creator) (p.seq == p.seq) (eq-eqb p.creator p.creator refl) (eq-eqb p.seq p.seq refl)

module _ (hs : List HeldUnit) (h : HeldUnit) where
  split : (p : LanePlace) → shown_at p (hs ++ h ∷ []) ≡ shown_at p hs ++ filter (stands_at p) (h ∷ [])
  split p = filter-append (stands_at p) hs (h ∷ [])

  -- the unit stands there
  pub shown_here : (p : LanePlace) → stands_at p h ≡ true → shown_at p (hs ++ h ∷ []) ≡ shown_at p hs ++ h ∷ []
  shown_here p e = split p ∙ ap (λ (b : Bool). shown_at p hs ++ cond b (h ∷ []) []) e

  -- or it doesn't
  pub shown_elsewhere : (p : LanePlace) → stands_at p h ≡ false → shown_at p (hs ++ h ∷ []) ≡ shown_at p hs
  shown_elsewhere p e = split p ∙ ap (λ (b : Bool). shown_at p hs ++ cond b (h ∷ []) []) e ∙ append-nil (shown_at p hs)

  shown_more : (p : LanePlace) (x : HeldUnit) → Among x (shown_at p hs) → Among x (shown_at p (hs ++ h ∷ []))
  shown_more p x m = subst (λ (ys : List HeldUnit). Among x ys) (sym (split p)) (from_left x (shown_at p hs) (filter (stands_at p) (h ∷ [])) m)

  twins_more : (p : LanePlace) → HasTwins hs p → HasTwins (hs ++ h ∷ []) p
  twins_more p f = (f.0, f.1, shown_more p f.0 f.2, shown_more p f.1 f.3, f.4)

  twins_elsewhere : (p : LanePlace) → stands_at p h ≡ false → HasTwins (hs ++ h ∷ []) p → HasTwins hs p
  twins_elsewhere p e f =
      (f.0, f.1, subst (λ (ys : List HeldUnit). Among f.0 ys) (shown_elsewhere p e) f.2, subst (λ (ys : List HeldUnit). Among f.1 ys) (shown_elsewhere p e) f.3, f.4)

  -- ---- the table

  -- the units of the place get the unit, and those of the others stay
  pub twins_step : h.is_shown ≡ true → (entries new : List (LanePlace × TwinUnits)) (next : TwinUnits) → AreTwinsOfEach entries hs
      → ((ys : List HeldUnit) → AreTwinsAt ys (lookup (place_eq (place_of h)) entries) → AreTwins (ys ++ h ∷ []) next)
      → ((p : LanePlace) → lookup (place_eq p) new ≡ cond (place_eq (place_of h) p) (Some next) (lookup (place_eq p) entries)) → AreTwinsOfEach new (hs ++ h ∷ [])
  twins_step shown entries new next table step is p = subst (λ (o : Option TwinUnits). AreTwinsAt (shown_at p (hs ++ h ∷ [])) o) (sym (is p)) (go (place_eq (place_of h) p) refl)
    where
      go : (b : Bool) → place_eq (place_of h) p ≡ b → AreTwinsAt (shown_at p (hs ++ h ∷ [])) (cond b (Some next) (lookup (place_eq p) entries))
      go true e =
          subst (λ (ys : List HeldUnit). AreTwins ys next) (sym (shown_here p (and_whole h.is_shown (place_eq (place_of h) p) shown e)))
          (step (shown_at p hs) (subst (λ (q : LanePlace). AreTwinsAt (shown_at p hs) (lookup (place_eq q) entries)) (sym (place_same (place_of h) p e)) (table p)))
      go false e =
          subst (λ (ys : List HeldUnit). AreTwinsAt ys (lookup (place_eq p) entries))
          (sym (shown_elsewhere p (ap (λ (b : Bool). b && place_eq (place_of h) p) shown ∙ e))) (table p)

  -- two different units stand where there is a second one
  pub two_is : (f : TwinUnits) → AreTwins (shown_at (place_of h) (hs ++ h ∷ [])) f → (is_some f.second ≡ true) ↔ HasTwins (hs ++ h ∷ []) (place_of h)
  two_is f is = (λ t. there f.second is.second_is t, λ k. back f.second is.second_is k)
    where
      there : (o : Option HeldUnit) → IsSecond (shown_at (place_of h) (hs ++ h ∷ [])) f.first o → is_some o ≡ true → HasTwins (hs ++ h ∷ []) (place_of h)
      there None s t = absurd cc
      there (Some b) s t = (f.first, b, is.first_in, s.0, s.1)

      back : (o : Option HeldUnit) → IsSecond (shown_at (place_of h) (hs ++ h ∷ [])) f.first o → HasTwins (hs ++ h ∷ []) (place_of h) → is_some o ≡ true
      back (Some b) s k = refl
      back None s k =
          let one : k.0.signed.unit ≡ k.1.signed.unit = ap (λ (n : Node). n.unit) (s k.0 k.2 ∙ sym (s k.1 k.3)) in
          absurd (never_both (unit_eq k.0.signed.unit k.1.signed.unit) (subst (λ (u : WireUnit). unit_eq k.0.signed.unit u ≡ true) one (unit_self k.0.signed.unit)) k.4)

  pub two_told : h.is_shown ≡ true → (f : TwinUnits) (b : Bool) → b ≡ is_some f.second → AreTwins (shown_at (place_of h) hs ++ h ∷ []) f → (b ≡ true) ↔ HasTwins (hs ++ h ∷ []) (place_of h)
  two_told shown f b is twins =
      let told = two_is f (subst (λ (ys : List HeldUnit). AreTwins ys f) (sym (shown_here (place_of h) (and_whole h.is_shown (place_eq (place_of h) (place_of h)) shown (place_self (place_of h))))) twins) in
      (λ t. told.0 (sym is ∙ t), λ k. is ∙ told.1 k)

  -- ---- the least numbers

  abbrev at : ℕ → ℕ → LanePlace
  at v n = record { creator = v; seq = n }

  -- no new twins of the validator
  least_stays : (v : ℕ) (o : Option ℕ) → ((n : ℕ) → HasTwins (hs ++ h ∷ []) (at v n) → HasTwins hs (at v n)) → IsLeast hs v o → IsLeast (hs ++ h ∷ []) v o
  least_stays v None old is = λ n f. is n (old n f)
  least_stays v (Some m) old is = (twins_more (at v m) is.0, λ n f. is.1 n (old n f))

  old_or_here : (p : LanePlace) → HasTwins (hs ++ h ∷ []) p → (place_of h ≡ p) ⊎ HasTwins hs p
  old_or_here p f = go (stands_at p h) refl
    where
      go : (b : Bool) → stands_at p h ≡ b → (place_of h ≡ p) ⊎ HasTwins hs p
      go true e = inl (place_same (place_of h) p (and_parts h.is_shown (place_eq (place_of h) p) e).1)
      go false e = inr (twins_elsewhere p e f)

  -- a twins of the unit's place
  least_lowered : (o : Option ℕ) → HasTwins (hs ++ h ∷ []) (place_of h) → IsLeast hs h.signed.unit.creator o → IsLeast (hs ++ h ∷ []) h.signed.unit.creator (Some (lower_of o h.signed.unit.seq))
  least_lowered None here is = (
    here,
    λ m f. elim (old_or_here (at h.signed.unit.creator m) f) [
      | inl e ↦ (let same : h.signed.unit.seq ≡ m = ap (λ (p : LanePlace). p.seq) e in omega arith)
      | inr old ↦ absurd (is m old)
    ],
  )
  least_lowered (Some n) here is = (
    least (cases_lt h.signed.unit.seq n),
    λ m f. elim (old_or_here (at h.signed.unit.creator m) f) [
      | inl e ↦ (let same : h.signed.unit.seq ≡ m = ap (λ (p : LanePlace). p.seq) e in omega arith)
      | inr old ↦ (let low = is.1 m old in omega arith)
    ],
  )
    where
      least : ((h.signed.unit.seq < n) ⊎ (n ≤ h.signed.unit.seq)) → HasTwins (hs ++ h ∷ []) (at h.signed.unit.creator (min n h.signed.unit.seq))
      least (inl lt) = let same : h.signed.unit.seq ≡ min n h.signed.unit.seq = omega arith in subst (λ (k : ℕ). HasTwins (hs ++ h ∷ []) (at h.signed.unit.creator k)) same here
      least (inr le) = let same : n ≡ min n h.signed.unit.seq = omega arith in subst (λ (k : ℕ). HasTwins (hs ++ h ∷ []) (at h.signed.unit.creator k)) same (twins_more (at h.signed.unit.creator n) is.0)

  -- no two different units stand at the unit's place
  pub least_kept : (least : List (Option ℕ)) → (HasTwins (hs ++ h ∷ []) (place_of h) → ⊥) → AreLeast least hs → AreLeast least (hs ++ h ∷ [])
  least_kept least none are v lt = least_stays v (slice_index_or least v None) (λ n f. elim (old_or_here (at v n) f) [
    | inl e ↦ absurd (none (subst (λ (p : LanePlace). HasTwins (hs ++ h ∷ []) p) (sym e) f))
    | inr old ↦ old
  ]) (are v lt)

  -- two do
  pub least_step : (least new : List (Option ℕ)) → HasTwins (hs ++ h ∷ []) (place_of h) → IsLowered least new h.signed.unit.creator h.signed.unit.seq → AreLeast least hs → AreLeast new (hs ++ h ∷ [])
  least_step least new here lowered are v lt = go (h.signed.unit.creator == v) refl
    where
      long : v < length least
      long = let same = lowered.length_is in omega arith

      go : (b : Bool) → (h.signed.unit.creator == v) ≡ b → IsLeast (hs ++ h ∷ []) v (slice_index_or new v None)
      go true e =
          let same : h.signed.unit.creator ≡ v = eqb-true h.signed.unit.creator v e in
          subst (λ (w : ℕ). IsLeast (hs ++ h ∷ []) w (slice_index_or new w None)) same
          (subst (λ (o : Option ℕ). IsLeast (hs ++ h ∷ []) h.signed.unit.creator o) (sym (lowered.own (subst (λ (w : ℕ). w < length least) (sym same) long)))
          (least_lowered (slice_index_or least h.signed.unit.creator None) here (subst (λ (w : ℕ). IsLeast hs w (slice_index_or least w None)) (sym same) (are v long))))
      go false e =
          let apart : v ≢ h.signed.unit.creator = λ is. never_both (h.signed.unit.creator == v) (eq-eqb h.signed.unit.creator v (sym is)) e in
          subst (λ (o : Option ℕ). IsLeast (hs ++ h ∷ []) v o) (sym (lowered.others v apart))
          (least_stays v (slice_index_or least v None) (λ n f. elim (old_or_here (at v n) f) [
            | inl same ↦ absurd (apart (sym (ap (λ (p : LanePlace). p.creator) same)))
            | inr old ↦ old
          ]) (are v long))

  -- ---- a unit that isn't shown

  pub noted_hidden : h.is_shown ≡ false → (entries : List (LanePlace × TwinUnits)) (least : List (Option ℕ)) → AreNoted entries least hs → AreNoted entries least (hs ++ h ∷ [])
  noted_hidden hidden entries least noted = record {
    twins = λ p. subst (λ (ys : List HeldUnit). AreTwinsAt ys (lookup (place_eq p) entries)) (sym (shown_elsewhere p (nowhere p))) (noted.twins p);
    least_are = λ v lt. least_stays v (slice_index_or least v None) (λ n f. twins_elsewhere (at v n) (nowhere (at v n)) f) (noted.least_are v lt);
  }
    where
      nowhere : (p : LanePlace) → stands_at p h ≡ false
      nowhere p = ap (λ (b : Bool). b && place_eq (place_of h) p) hidden

-- a copied answer is there where the answer is
pub copied_some : {A B : Type 0} (f : A → B) (o : Option A) → is_some o ≡ is_some (option_map f o)
copied_some f None = refl
copied_some f (Some x) = refl
