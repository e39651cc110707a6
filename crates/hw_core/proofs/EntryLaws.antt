-- Names with values, where the names stand in one list and the values in another.
use Rattle.std.proofs.Common.{◌≡◌, ℕ, zero, suc, ◌<◌, Bool, true, false, true≢false, cond, List, [], ◌∷◌, ◌++◌, length, get_or, set, slice_get, position, zip, Some, None, refl, sym, ap, subst, ◌∙◌, arith}
use Rattle.std.specs.Prelude.{◌||◌}
use Rattle.std.specs.Cmp.{IsEquivalence}
use Rattle.std.specs.List.{list_any}
use Rattle.std.specs.Map.{lookup}
use Rattle.std.proofs.lemmas.List.Quantifiers.{position-Some}
use Rattle.std.proofs.lemmas.Option.{none-some}
use Rattle.hw_types.specs.declared.unit.Digest.{Digest}
use Rattle.hw_types.specs.Graph.{digest_eq}
use Rattle.hw_types.proofs.SettledLaws.{digest_same, digest_self}
use Rattle.hw_types.proofs.StableLaws.{both_ways}
use Rattle.hw_core.specs.Entries.{insert_entry}

-- digests are equal where they are the same
pub digests_alike : IsEquivalence digest_eq
digests_alike = record {
  refl = digest_self;
  symm = λ x y. both_ways (digest_eq x y) (digest_eq y x) (λ e. alike y x (sym (digest_same x y e))) (λ e. alike x y (sym (digest_same y x e)));
  congr = λ x y z e. ap (λ (d : Digest). digest_eq d z) (digest_same x y e);
}
  where
    alike : (d e : Digest) → d ≡ e → digest_eq d e ≡ true
    alike d e same = subst (λ (c : Digest). digest_eq d c ≡ true) same (digest_self d)

-- one name more, with its value
pub zip_push : {K V : Type 0} (ks : List K) (vs : List V) (k : K) (v : V) → length vs ≡ length ks → zip (ks ++ k ∷ []) (vs ++ v ∷ []) ≡ zip ks vs ++ (k, v) ∷ []
zip_push [] [] k v e = refl
zip_push [] (w ∷ ws) k v e = absurd (omega arith)
zip_push (l ∷ ls) [] k v e = absurd (omega arith)
zip_push {K} {V} (l ∷ ls) (w ∷ ws) k v e = ap (λ (es : List (K × V)). (l, w) ∷ es) (zip_push ls ws k v (omega arith))

module _ {K V : Type 0} (test : K → Bool) where
  -- where no name passes, no value is found
  pub found_nowhere : (ks : List K) (vs : List V) → list_any test ks ≡ false → lookup test (zip ks vs) ≡ None
  found_nowhere [] vs h = refl
  found_nowhere (k ∷ ks) [] h = refl
  found_nowhere (k ∷ ks) (v ∷ vs) h = go (test k) refl h (found_nowhere ks vs)
    where
      go : (b : Bool) → test k ≡ b → (b || list_any test ks) ≡ false → (list_any test ks ≡ false → lookup test (zip ks vs) ≡ None) → cond (test k) (Some v) (lookup test (zip ks vs)) ≡ None
      go true e none rest = absurd (true≢false none)
      go false e none rest = ap (λ (c : Bool). cond c (Some v) (lookup test (zip ks vs))) e ∙ rest none

  -- where no value is found, no name passes
  pub passes_nowhere : (ks : List K) (vs : List V) → length vs ≡ length ks → lookup test (zip ks vs) ≡ None → list_any test ks ≡ false
  passes_nowhere [] vs e h = refl
  passes_nowhere (k ∷ ks) [] e h = absurd (omega arith)
  passes_nowhere (k ∷ ks) (v ∷ vs) e h = go (test k) refl h (passes_nowhere ks vs (omega arith))
    where
      go : (b : Bool) → test k ≡ b → cond b (Some v) (lookup test (zip ks vs)) ≡ None → (lookup test (zip ks vs) ≡ None → list_any test ks ≡ false) → (test k || list_any test ks) ≡ false
      go true t found rest = absurd (none-some v (sym found))
      go false t none rest = ap (λ (c : Bool). c || list_any test ks) t ∙ rest none

  first_value : (ks : List K) (vs : List V) (i : ℕ) (d : K) → length vs ≡ length ks → i < length ks → test (get_or ks i d) ≡ true → ((j : ℕ) → j < i → test (get_or ks j d) ≡ false)
      → slice_get vs i ≡ lookup test (zip ks vs)
  first_value [] vs i d e lt here before = absurd (omega arith)
  first_value (k ∷ ks) [] i d e lt here before = absurd (omega arith)
  first_value (k ∷ ks) (v ∷ vs) zero d e lt here before = sym (ap (λ (b : Bool). cond b (Some v) (lookup test (zip ks vs))) here)
  first_value (k ∷ ks) (v ∷ vs) (suc i) d e lt here before =
      first_value ks vs i d (omega arith) (omega arith) here (λ j l. before (suc j) (omega arith))
      ∙ sym (ap (λ (b : Bool). cond b (Some v) (lookup test (zip ks vs))) (before zero (omega arith)))

  -- the value at the place of the first name that passes is the one that is found
  pub found_at : (ks : List K) (vs : List V) (i : ℕ) → length vs ≡ length ks → position test ks ≡ Some i → slice_get vs i ≡ lookup test (zip ks vs)
  found_at [] vs i e at = absurd (none-some i at)
  found_at (k ∷ ks) vs i e at = let first = position-Some test (k ∷ ks) i k at in first_value (k ∷ ks) vs i k e first.0 first.1 first.2

module _ {K V : Type 0} (eq : K → K → Bool) (name : K) (value : V) where
  -- a new name goes last
  pub inserted_new : (es : List (K × V)) → lookup (eq name) es ≡ None → insert_entry eq es name value ≡ es ++ (name, value) ∷ []
  inserted_new [] h = refl
  inserted_new (e ∷ es) h = go (eq name e.0) refl h (inserted_new es)
    where
      go : (b : Bool) → eq name e.0 ≡ b → cond b (Some e.1) (lookup (eq name) es) ≡ None → (lookup (eq name) es ≡ None → insert_entry eq es name value ≡ es ++ (name, value) ∷ [])
          → insert_entry eq (e ∷ es) name value ≡ e ∷ (es ++ (name, value) ∷ [])
      go true t found rest = absurd (none-some e.1 (sym found))
      go false t none rest = ap (λ (b : Bool). cond b ((e.0, value) ∷ es) (e ∷ insert_entry eq es name value)) t ∙ ap (λ (fs : List (K × V)). e ∷ fs) (rest none)

  first_changed : (ks : List K) (vs : List V) (i : ℕ) (d : K) → length vs ≡ length ks → i < length ks → eq name (get_or ks i d) ≡ true → ((j : ℕ) → j < i → eq name (get_or ks j d) ≡ false)
      → zip ks (set vs i value) ≡ insert_entry eq (zip ks vs) name value
  first_changed [] vs i d e lt here before = absurd (omega arith)
  first_changed (k ∷ ks) [] i d e lt here before = absurd (omega arith)
  first_changed (k ∷ ks) (v ∷ vs) zero d e lt here before = sym (ap (λ (b : Bool). cond b ((k, value) ∷ zip ks vs) ((k, v) ∷ insert_entry eq (zip ks vs) name value)) here)
  first_changed (k ∷ ks) (v ∷ vs) (suc i) d e lt here before =
      ap (λ (es : List (K × V)). (k, v) ∷ es) (first_changed ks vs i d (omega arith) (omega arith) here (λ j l. before (suc j) (omega arith)))
      ∙ sym (ap (λ (b : Bool). cond b ((k, value) ∷ zip ks vs) ((k, v) ∷ insert_entry eq (zip ks vs) name value)) (before zero (omega arith)))

  -- a name that is there keeps its place
  pub inserted_old : (ks : List K) (vs : List V) (i : ℕ) → length vs ≡ length ks → position (eq name) ks ≡ Some i → zip ks (set vs i value) ≡ insert_entry eq (zip ks vs) name value
  inserted_old [] vs i e at = absurd (none-some i at)
  inserted_old (k ∷ ks) vs i e at = let first = position-Some (eq name) (k ∷ ks) i k at in first_changed (k ∷ ks) vs i k e first.0 first.1 first.2
