-- The last units of validators.
use Rattle.std.proofs.Common.{◌≡◌, ℕ, zero, suc, ◌+◌, ◌<◌, ◌≤◌, inl, inr, cond, eqb, List, [], ◌∷◌, ◌++◌, length, map, get_or, Option, Some, None, refl, sym, ap, ◌∙◌, arith, eq-eqb, append-nil, append_assoc}
use Rattle.std.specs.Prelude.{fold, slice_index_or}
use Rattle.std.specs.Option.{option_map}
use Rattle.std.specs.List.{range_with_len}
use Rattle.std.proofs.Math.ListN.{set, length-set}
use Rattle.std.proofs.lemmas.Bool.{cases_eq, ne_eqb}
use Rattle.std.proofs.lemmas.List.{get_or-set_same, get_or-set_other}
use Rattle.std.proofs.lemmas.List.FromFn.{fill_by_all, length-map-range_with_len, get_or-map-range_with_len}
use Rattle.std.proofs.lemmas.List.Sums.{fold-append}
use Rattle.hw_types.specs.declared.config.Config.{Config}
use Rattle.hw_types.specs.declared.unit.Digest.{Digest}
use Rattle.hw_types.specs.Below.{Among}
use Rattle.hw_types.specs.Graph.{Node}
use Rattle.hw_types.specs.Real.{setting_of}
use Rattle.hw_types.specs.Settled.{validators, correct_or_absent}
use Rattle.hw_types.specs.Spelling.{digest_of}
use Rattle.hw_types.specs.Step.{next_seq}
use Rattle.hw_honest.specs.Generated.{last_by, next_unit}
use Rattle.hw_cluster.specs.declared.lanes.LastUnit.{LastUnit}
use Rattle.hw_cluster.specs.Lanes.{LanesState, seq_behind, highest, observed, unit_over, with_unit}
use Rattle.hw_cluster.specs.Made.{kept_of, lanes_of}

-- ---- numbers

pub highest_at : (xs : List (Option LastUnit)) (i : ℕ) → seq_behind (get_or xs i None) ≤ highest xs
highest_at [] i = omega arith
highest_at (x ∷ xs) zero = omega arith
highest_at (x ∷ xs) (suc i) = (let old = highest_at xs i in omega arith)

pub highest_set : (xs : List (Option LastUnit)) (i : ℕ) (y : Option LastUnit) (m : ℕ) → highest xs ≤ m → seq_behind y ≤ m → highest (set xs i y) ≤ m
highest_set [] i y m old new = omega arith
highest_set (x ∷ xs) zero y m old new = omega arith
highest_set (x ∷ xs) (suc i) y m old new = (let rest = highest_set xs i y m (omega arith) new in omega arith)

-- ---- one unit more

module _ (made : List Node) (x : Node) where
  last_more : (v : ℕ) → last_by (made ++ x ∷ []) v ≡ cond (eqb x.unit.creator v) (Some x) (last_by made v)
  last_more v = fold-append (λ (found : Option Node) (y : Node). cond (eqb y.unit.creator v) (Some y) found) None made (x ∷ [])

  own_last : (v : ℕ) → v ≡ x.unit.creator → last_by (made ++ x ∷ []) v ≡ Some x
  own_last v e = last_more v ∙ ap (λ b. cond b (Some x) (last_by made v)) (eq-eqb x.unit.creator v (sym e))

  others_stay : (v : ℕ) → (v ≡ x.unit.creator → ⊥) → last_by (made ++ x ∷ []) v ≡ last_by made v
  others_stay v other = last_more v ∙ ap (λ b. cond b (Some x) (last_by made v)) (ne_eqb x.unit.creator v (λ e. other (sym e)))

module _ (config : Config) where
  abbrev count : ℕ
  count = length config.weights

  -- what is kept of a validator
  abbrev kept_at : List Node → ℕ → Option LastUnit
  kept_at made v = option_map kept_of (last_by made v)

  abbrev kept_in : List Node → List (Option LastUnit)
  kept_in made = map (kept_at made) (range_with_len 0 count)

  pub lanes_length : (made : List Node) → length (lanes_of config made).last ≡ count
  lanes_length made = length-map-range_with_len (kept_at made) 0 count

  -- a unit more is the last one of its creator
  kept_more : (made : List Node) (x : Node) → x.unit.creator < count → kept_in (made ++ x ∷ []) ≡ set (kept_in made) x.unit.creator (Some (kept_of x))
  kept_more made x lt = sym (fill_by_all (kept_at (made ++ x ∷ [])) after count None (length-set (kept_in made) x.unit.creator (Some (kept_of x)) ∙ length-map-range_with_len (kept_at made) 0 count) at)
    where
      after : List (Option LastUnit)
      after = set (kept_in made) x.unit.creator (Some (kept_of x))

      at : (k : ℕ) → k < count → get_or after k None ≡ kept_at (made ++ x ∷ []) k
      at k low = elim (cases_eq k x.unit.creator) [
        | inl own ↦ ap (λ i. get_or after i None) own ∙ get_or-set_same (kept_in made) x.unit.creator (Some (kept_of x)) None (let n = length-map-range_with_len (kept_at made) 0 count in omega arith)
            ∙ sym (ap (option_map kept_of) (own_last made x k own))
        | inr other ↦ get_or-set_other (kept_in made) x.unit.creator k (Some (kept_of x)) None other ∙ get_or-map-range_with_len (kept_at made) 0 count k k None low (omega arith)
            ∙ sym (ap (option_map kept_of) (others_stay made x k other))
      ]

  pub lanes_more : (made : List Node) (x : Node) → x.digest ≡ digest_of x.unit → x.unit.creator < count → lanes_of config (made ++ x ∷ []) ≡ with_unit (lanes_of config made) x.unit
  lanes_more made x name lt =
      let e = kept_more made x lt in
      let f = ap (λ (d : Digest). let y : LastUnit = record { name = d; seq = x.unit.seq } in set (kept_in made) x.unit.creator (Some y)) name in
      let g = e ∙ f in
      λ i. record { instance = (lanes_of config made).instance; last = g i }

-- ---- many units more

module _ (config : Config) where
  -- units under their names, by validators
  abbrev pub AreUnits : List Node → Type 0
  AreUnits units = (x : Node) → Among x units → (x.digest ≡ digest_of x.unit) × (x.unit.creator < length config.weights)

  pub lanes_all : (made units : List Node) → AreUnits units → lanes_of config (made ++ units) ≡ fold with_unit (lanes_of config made) (map (λ (x : Node). x.unit) units)
  lanes_all made [] are = ap (lanes_of config) (append-nil made)
  lanes_all made (x ∷ xs) are =
      let here = are x (inl refl) in
      ap (lanes_of config) (sym (append_assoc made (x ∷ []) xs)) ∙ lanes_all (made ++ x ∷ []) xs (λ y m. are y (inr m)) ∙ ap (λ (l : LanesState). fold with_unit l (map (λ (y : Node). y.unit) xs)) (lanes_more config made x here.0 here.1)

-- ---- the next unit

module _ (config : Config) (made : List Node) (v : ℕ) (lt : v < length config.weights) where
  kept_is : slice_index_or (lanes_of config made).last v None ≡ option_map kept_of (last_by made v)
  kept_is = get_or-map-range_with_len (λ w. option_map kept_of (last_by made w)) 0 (length config.weights) v v None lt (omega arith)

  seq_is : (o : Option Node) → seq_behind (option_map kept_of o) ≡ next_seq o
  seq_is None = refl
  seq_is (Some x) = refl

  observed_is : (o : Option Node) → observed (option_map kept_of o) ≡ correct_or_absent o
  observed_is None = refl
  observed_is (Some x) = refl

  all_observed : (vs : List ℕ) → map observed (map (λ w. option_map kept_of (last_by made w)) vs) ≡ map (λ w. correct_or_absent (last_by made w)) vs
  all_observed [] = refl
  all_observed (w ∷ ws) = (let e = observed_is (last_by made w) in let f = all_observed ws in λ i. e i ∷ f i)

  pub next_is : (time : ℕ) (value : Option (List ℕ)) → unit_over (lanes_of config made) v time value ≡ (next_unit (setting_of config) made v time value).unit
  next_is time value =
      let e = ap seq_behind kept_is ∙ seq_is (last_by made v) in
      let f = all_observed (validators config) in
      λ i. record { instance = (setting_of config).instance; creator = v; seq = e i; time = time; exponent = 4; panorama = f i; value = value; endorsed = [] }

-- ---- all validators

range_suc : (a n : ℕ) → range_with_len a (suc n) ≡ range_with_len a n ++ (a + n) ∷ []
range_suc a zero = ap (λ m. m ∷ []) (omega arith)
range_suc a (suc n) = ap (λ (ms : List ℕ). a ∷ ms) (range_suc (a + 1) n ∙ ap (λ m. range_with_len (a + 1) n ++ m ∷ []) (omega arith))

pub range_more : (n : ℕ) → range_with_len 0 (n + 1) ≡ range_with_len 0 n ++ n ∷ []
range_more n =
    let one : n + 1 ≡ suc n = omega arith in
    let none : 0 + n ≡ n = omega arith in
    ap (range_with_len 0) one ∙ range_suc 0 n ∙ ap (λ m. range_with_len 0 n ++ m ∷ []) none
