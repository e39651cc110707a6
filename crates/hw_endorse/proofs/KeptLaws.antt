-- Laws of what is kept.
use Rattle.std.proofs.Common.{◌≡◌, ℕ, ◌+◌, ◌*◌, ◌^◌, ◌<◌, Bool, true, false, not, ◌||◌, ◌&&◌, nat_lt, eqb, List, [], ◌∷◌, ◌++◌, length, sum, slice_index, None, Result, Ok, Err, OnErr, refl, sym, ap, ◌∙◌, subst, arith, eqb-true, if◌then◌else◌}
use Rattle.std.specs.Ordering.{is_lt}
use Rattle.std.specs.List.{range_with_len}
use Rattle.std.specs.List.Sorted.{IsStrictlySortedBy}
use Rattle.std.proofs.lemmas.Bool.{le-ltb}
use Rattle.hw_types.specs.declared.unit.Digest.{Digest}
use Rattle.hw_types.specs.declared.config.Config.{Config}
use Rattle.hw_types.specs.Below.{Among}
use Rattle.hw_types.specs.Graph.{digest_eq}
use Rattle.hw_types.specs.Limits.{config_fault}
use Rattle.hw_types.specs.Rules.{is_rising, is_rising_after}
use Rattle.hw_types.specs.Votes.{weight_of}
use Rattle.hw_types.proofs.LimitLaws.{within_limits}
use Rattle.hw_types.proofs.PastLaws.{some_of, any_of}
use Rattle.hw_types.proofs.SettledLaws.{digest_same, digest_self}
use Rattle.hw_endorse.specs.declared.tally.Endorsers.{Endorsers}
use Rattle.hw_endorse.specs.Told.{in_order, is_told, with_pair, has_majority, HaveMajority}
use Rattle.hw_endorse.specs.Kept.{told_by, weight_in, is_heavy, AreListed, IsKept}
use Rattle.hw_endorse.proofs.KeyLaws.{order}
use Rattle.hw_endorse.proofs.PairLaws.{told-append, told_again, order_same, told_in_order}
use Rattle.hw_endorse.proofs.WeightLaws.{weight_more, weight_most, weight_one, weight_none}

-- ---- weights of units

-- a unit weighs more than before, and each other what it did
abbrev pub Weighs : List (Digest × Endorsers) → List (Digest × Endorsers) → Digest → ℕ → Type 0
Weighs old new unit w = (d : Digest) → weight_in new d ≡ weight_in old d + (if digest_eq unit d then w else 0)

-- what holds holds where there is an error
pub err_is : {T E P : Type 0} (r : Result T E) → P → OnErr r P
err_is (Ok x) p = tt
err_is (Err e) p = p

-- what a test that was turned says
pub turned_false : (b : Bool) → not b ≡ false → b ≡ true
turned_false true h = refl
turned_false false h = absurd cc

pub turned_true : (b : Bool) → not b ≡ true → b ≡ false
turned_true true h = absurd cc
turned_true false h = refl

-- ---- what is kept

-- nothing is kept at first
pub kept_none : (config : Config) (total : ℕ) → config_fault config ≡ None → total ≡ sum config.weights → IsKept config.weights total [] [] []
kept_none config total lawful total_is =
    let limits = within_limits config lawful in
    record {
      total_is = total_is;
      total_fits = omega (arith, limits.total, total_is);
      weighed = λ d. sym (weight_none config.weights (range_with_len 0 (length config.weights)));
      listed = λ d. sym (le-ltb total 0 (omega arith));
    }

-- one pair more, which is new
abbrev pub HasOneMore : List (Digest × ℕ) → List (Digest × ℕ) → Digest → ℕ → Type 0
HasOneMore old new unit e = (d : Digest) (v : ℕ) → is_told new d v ≡ is_told old d v || (digest_eq unit d && eqb e v)

-- what was kept, after a new pair was put in and its endorser's weight added
pub kept_more : (weights : List ℕ) (total : ℕ) (pairs more : List (Digest × ℕ)) (tallies raised : List (Digest × Endorsers)) (units longer : List Digest) (unit : Digest) (e : ℕ)
    → IsKept weights total pairs tallies units → e < length weights → is_told pairs unit e ≡ false → HasOneMore pairs more unit e → Weighs tallies raised unit (slice_index weights e) → AreListed total raised longer
    → IsKept weights total more raised longer
kept_more weights total pairs more tallies raised units longer unit e kept within new puts weighs listed = record {
  total_is = kept.total_is;
  total_fits = kept.total_fits;
  weighed = λ d.
      weighs d
      ∙ ap (λ (n : ℕ). n + (if digest_eq unit d then slice_index weights e else 0)) (kept.weighed d)
      ∙ ap (λ (n : ℕ). weight_of weights (is_told pairs d) + n) (own_weight d (digest_eq unit d) refl)
      ∙ sym (weight_more weights (is_told pairs d) (digest_eq unit d) e within)
      ∙ sym (ap (weight_of weights) (λ i v. puts d v i));
  listed = listed;
}
  where
    own_weight : (d : Digest) (b : Bool) → digest_eq unit d ≡ b → (if b then slice_index weights e else 0) ≡ (if b && not (is_told pairs d e) then slice_index weights e else 0)
    own_weight d true same = ap (λ (b : Bool). if not b then slice_index weights e else 0) (sym new ∙ ap (λ (x : Digest). is_told pairs x e) (digest_same unit d same))
    own_weight d false apart = refl

-- what was kept, where pairs, weights and list are what they were
pub kept_same : (weights : List ℕ) (total : ℕ) (pairs again : List (Digest × ℕ)) (tallies after : List (Digest × Endorsers)) (units listed : List Digest)
    → IsKept weights total pairs tallies units → ((d : Digest) (v : ℕ) → is_told again d v ≡ is_told pairs d v) → ((d : Digest) → weight_in after d ≡ weight_in tallies d) → AreListed total after listed
    → IsKept weights total again after listed
kept_same weights total pairs again tallies after units listed kept told same are = record {
  total_is = kept.total_is;
  total_fits = kept.total_fits;
  weighed = λ d. same d ∙ kept.weighed d ∙ sym (ap (weight_of weights) (λ i v. told d v i));
  listed = are;
}

-- a pair that was there is not more
pub told_again_same : (old more : List (Digest × ℕ)) (unit : Digest) (e : ℕ) → is_told old unit e ≡ true → HasOneMore old more unit e → (d : Digest) (v : ℕ) → is_told more d v ≡ is_told old d v
told_again_same old more unit e there puts d v = puts d v ∙ go (digest_eq unit d) (eqb e v) refl refl
  where
    plain : (b : Bool) → b || false ≡ b
    plain true = refl
    plain false = refl

    whole : (b : Bool) → b ≡ true → b || true ≡ b
    whole true h = refl
    whole false h = absurd cc

    go : (a b : Bool) → digest_eq unit d ≡ a → eqb e v ≡ b → is_told old d v || (a && b) ≡ is_told old d v
    go true true same number = whole (is_told old d v) (subst (λ w. is_told old d w ≡ true) (eqb-true e v number) (subst (λ x. is_told old x e ≡ true) (digest_same unit d same) there))
    go true false same number = plain (is_told old d v)
    go false b same number = plain (is_told old d v)

-- what was kept, after an endorser was put in, who may have been there
pub kept_put : (weights : List ℕ) (total : ℕ) (pairs more : List (Digest × ℕ)) (tallies raised : List (Digest × Endorsers)) (units longer : List Digest) (unit : Digest) (e : ℕ) (added : Bool)
    → IsKept weights total pairs tallies units → e < length weights → added ≡ not (is_told pairs unit e) → HasOneMore pairs more unit e
    → Weighs tallies raised unit (if added then slice_index weights e else 0) → AreListed total raised longer → IsKept weights total more raised longer
kept_put weights total pairs more tallies raised units longer unit e true kept within is puts weighs listed =
    kept_more weights total pairs more tallies raised units longer unit e kept within (turned_true (is_told pairs unit e) (sym is)) puts weighs listed
kept_put weights total pairs more tallies raised units longer unit e false kept within is puts weighs listed =
    kept_same weights total pairs more tallies raised units longer kept (told_again_same pairs more unit e (turned_false (is_told pairs unit e) (sym is)) puts) (λ d. weighs d ∙ nothing d (digest_eq unit d)) listed
  where
    nothing : (d : Digest) (b : Bool) → weight_in tallies d + (if b then 0 else 0) ≡ weight_in tallies d
    nothing d true = omega arith
    nothing d false = omega arith

-- the weight that is added fits
pub added_fits : (weights : List ℕ) (total : ℕ) (pairs : List (Digest × ℕ)) (tallies : List (Digest × Endorsers)) (units : List Digest) (unit : Digest) (e : ℕ)
    → IsKept weights total pairs tallies units → e < length weights → weight_in tallies unit + slice_index weights e < 2 ^ 63
added_fits weights total pairs tallies units unit e kept within =
    omega (arith, kept.weighed unit, weight_most weights (is_told pairs unit), weight_one weights e within, kept.total_is, kept.total_fits)

-- ---- what the pairs stand for

-- one pair more
pub told_one_more : (weights : List ℕ) (old new : List (Digest × ℕ)) (unit : Digest) (e : ℕ) → HasOneMore old new unit e
    → told_by weights new ≡ record (told_by weights old) { pairs = with_pair (told_by weights old).pairs unit e }
told_one_more weights old new unit e puts =
    let same : in_order new ≡ with_pair (in_order old) unit e =
    order_same new (in_order old ++ (unit, e) ∷ []) (λ d v.
    puts d v
    ∙ ap (λ (b : Bool). b || (digest_eq unit d && eqb e v)) (sym (told_in_order old d v))
    ∙ sym (told-append (in_order old) unit e d v)) in
    λ i. record { weights = weights; pairs = same i }

-- the same pairs
pub told_same : (weights : List ℕ) (old new : List (Digest × ℕ)) → ((d : Digest) (v : ℕ) → is_told new d v ≡ is_told old d v) → told_by weights new ≡ told_by weights old
told_same weights old new told = let same = order_same new old told in λ i. record { weights = weights; pairs = same i }

-- a pair that is there changes nothing
pub told_repeat : (weights : List ℕ) (pairs : List (Digest × ℕ)) (unit : Digest) (e : ℕ) → is_told pairs unit e ≡ true
    → record (told_by weights pairs) { pairs = with_pair (told_by weights pairs).pairs unit e } ≡ told_by weights pairs
told_repeat weights pairs unit e there =
    let same = told_again pairs unit e (told_in_order pairs unit e ∙ there) in
    λ i. record { weights = weights; pairs = same i }

-- whether the kept weight is a majority
pub majority_is : (weights : List ℕ) (total : ℕ) (pairs : List (Digest × ℕ)) (tallies : List (Digest × Endorsers)) (units : List Digest) (d : Digest) → IsKept weights total pairs tallies units
    → is_heavy total tallies d ≡ has_majority (told_by weights pairs) d
majority_is weights total pairs tallies units d kept =
    let weighed = kept.weighed d ∙ ap (weight_of weights) (λ i v. sym (told_in_order pairs d v) i) in
    λ i. nat_lt (kept.total_is i) (2 * weighed i)

-- the listed units have a majority
pub listed_majority : (weights : List ℕ) (total : ℕ) (pairs : List (Digest × ℕ)) (tallies : List (Digest × Endorsers)) (units : List Digest) → IsKept weights total pairs tallies units → HaveMajority (told_by weights pairs) units
listed_majority weights total pairs tallies units kept = record {
  right = λ d m. sym (majority_is weights total pairs tallies units d kept) ∙ sym (kept.listed d) ∙ any_of (digest_eq d) d units m (digest_self d);
  all = λ d h.
      let found = some_of (digest_eq d) units (kept.listed d ∙ majority_is weights total pairs tallies units d kept ∙ h) in
      subst (λ x. Among x units) (sym (digest_same d found.0 found.2)) found.1;
}

-- keys that ascend are digests that rise
rise_after : (d : Digest) (units : List Digest) → IsStrictlySortedBy order (d ∷ units) → is_rising_after d units ≡ true
unfolding IsStrictlySortedBy
rise_after d [] sorted = refl
rise_after d (e ∷ units) sorted = both (is_lt (order d e)) (is_rising_after e units) (ap is_lt sorted.0.0) (rise_after e units sorted.1)
  where
    both : (a b : Bool) → a ≡ true → b ≡ true → a && b ≡ true
    both true true p q = refl
    both true false p q = q
    both false b p q = p

pub keys_rise : (units : List Digest) → IsStrictlySortedBy order units → is_rising units ≡ true
keys_rise [] sorted = refl
keys_rise (d ∷ units) sorted = rise_after d units sorted
