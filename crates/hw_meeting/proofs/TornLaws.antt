-- Torn validators: look-ups by number, and what a list of them is.
use Rattle.std.proofs.Common.{◌≡◌, ℕ, zero, suc, ◌+◌, ◌<◌, ◌≤◌, Bool, true, false, cond, List, [], ◌∷◌, ◌++◌, Option, Some, None, refl, sym, ap, ◌∙◌, add-one, arith, le-leb, lt-ltb}
use Rattle.std.specs.Prelude.{nat_lt, nat_le, filter}
use Rattle.std.specs.List.{list_any, list_all, range_with_len}
use Rattle.std.proofs.lemmas.List.Elements.{filter-append}
use Rattle.hw_types.specs.declared.unit.Digest.{Digest}
use Rattle.hw_types.specs.Graph.{Node, digest_eq, is_some_and, find_node, lane_of}
use Rattle.hw_types.specs.Below.{Among}
use Rattle.hw_types.proofs.SettledLaws.{digest_same}
use Rattle.hw_types.proofs.StableLaws.{and_whole}
use Rattle.hw_types.proofs.WordsLaws.{none_any, find_node_is}
use Rattle.hw_dag.specs.Dag.{UnitGraph, unit_at, count_of, node_at, graph}
use Rattle.hw_dag.specs.Admission.{IsGraph, IsNew}
use Rattle.hw_dag.specs.Lanes.{is_lane_below}
use Rattle.hw_dag.proofs.NodeLaws.{among_node, node_found}
use Rattle.hw_dag.proofs.LaneLaws.{lane_in}
use Rattle.hw_agree.specs.Converge.{is_below_tip}
use Rattle.hw_meeting.specs.Frames.{rise_from, are_validators}

-- ---- a unit of the one name on the lane of the other's

module _ (dag : UnitGraph) (g : IsGraph dag) where
  -- both names are there
  pub both_found : (low high : ℕ) (d e : Digest) → low < count_of dag → high < count_of dag → (unit_at dag low).digest ≡ d → (unit_at dag high).digest ≡ e
      → is_lane_below dag low high ≡ is_below_tip (graph dag) d e
  both_found low high d e lo hi is_d is_e =
      ap (λ (c : Digest). list_any (λ (x : Node). digest_eq x.digest c) (lane_of (graph dag) (node_at dag high))) is_d
      ∙ sym (ap (is_some_and (λ (t : Node). list_any (λ (x : Node). digest_eq x.digest d) (lane_of (graph dag) t))) (ap (find_node (graph dag)) (sym is_e) ∙ node_found dag g high hi))

  -- the higher one is there
  pub low_new : (high : ℕ) (d e : Digest) → high < count_of dag → (unit_at dag high).digest ≡ e → IsNew dag d → false ≡ is_below_tip (graph dag) d e
  low_new high d e hi is_e new =
      sym (none_any (λ (x : Node). digest_eq x.digest d) (lane_of (graph dag) (node_at dag high)) (λ x m. not_named x (lane_in dag g high x m)))
      ∙ sym (ap (is_some_and (λ (t : Node). list_any (λ (x : Node). digest_eq x.digest d) (lane_of (graph dag) t))) (ap (find_node (graph dag)) (sym is_e) ∙ node_found dag g high hi))
    where
      not_named : (x : Node) → Among x (graph dag) → digest_eq x.digest d ≡ false
      not_named x m = go (digest_eq x.digest d) refl
        where
          go : (b : Bool) → digest_eq x.digest d ≡ b → b ≡ false
          go true h = absurd (let n = among_node dag x m in new n.0 n.1 (ap (λ (y : Node). y.digest) n.2 ∙ digest_same x.digest d h))
          go false h = refl

  -- it isn't
  pub high_new : (d e : Digest) → IsNew dag e → false ≡ is_below_tip (graph dag) d e
  high_new d e new = go (find_node (graph dag) e) refl
    where
      go : (o : Option Node) → find_node (graph dag) e ≡ o → false ≡ is_some_and (λ (t : Node). list_any (λ (x : Node). digest_eq x.digest d) (lane_of (graph dag) t)) o
      go None h = refl
      go (Some t) h = absurd (
          let f = find_node_is (graph dag) t e h in
          let n = among_node dag t f.0 in
          new n.0 n.1 (ap (λ (y : Node). y.digest) n.2 ∙ f.1))

-- ---- numbers that pass a test

range_more : (a n : ℕ) → range_with_len a (suc n) ≡ range_with_len a n ++ (a + n) ∷ []
range_more a zero = let k : a ≡ a + 0 = omega arith in ap (λ (x : ℕ). x ∷ []) k
range_more a (suc n) = ap (λ (xs : List ℕ). a ∷ xs) (range_more (a + 1) n ∙ (let k : a + 1 + n ≡ a + suc n = omega arith in ap (λ (x : ℕ). range_with_len (a + 1) n ++ x ∷ []) k))

module _ (test : ℕ → Bool) where
  filter_more : (n : ℕ) → filter test (range_with_len 0 (n + 1)) ≡ filter test (range_with_len 0 n) ++ cond (test n) (n ∷ []) []
  filter_more n =
      ap (λ (k : ℕ). filter test (range_with_len 0 k)) (add-one n) ∙ ap (filter test) (range_more 0 n) ∙ filter-append test (range_with_len 0 n) ((0 + n) ∷ [])
      ∙ (let k : 0 + n ≡ n = omega arith in ap (λ (x : ℕ). filter test (range_with_len 0 n) ++ cond (test x) (x ∷ []) []) k)

  -- one number more, which is put last or isn't
  pub one_number : (b : Bool) (n : ℕ) (so_far : List ℕ) → b ≡ test n → so_far ≡ filter test (range_with_len 0 n) → so_far ++ cond b (n ∷ []) [] ≡ filter test (range_with_len 0 (n + 1))
  one_number b n so_far is e = ap (λ (xs : List ℕ). xs ++ cond b (n ∷ []) []) e ∙ ap (λ c. filter test (range_with_len 0 n) ++ cond c (n ∷ []) []) is ∙ sym (filter_more n)

  rises : (least a n : ℕ) → least ≤ a → rise_from least (filter test (range_with_len a n)) ≡ true
  unfolding rise_from
  rises least a zero le = refl
  rises least a (suc n) le = go (test a) (rises (a + 1) (a + 1) n (omega arith)) (rises least (a + 1) n (omega arith))
    where
      go : (b : Bool) → rise_from (a + 1) (filter test (range_with_len (a + 1) n)) ≡ true → rise_from least (filter test (range_with_len (a + 1) n)) ≡ true
          → rise_from least (cond b (a ∷ filter test (range_with_len (a + 1) n)) (filter test (range_with_len (a + 1) n))) ≡ true
      go true above beside = and_whole (nat_le least a) (rise_from (a + 1) (filter test (range_with_len (a + 1) n))) (le-leb least a le) above
      go false above beside = beside

  below : (most a n : ℕ) → a + n ≤ most → list_all (λ v. nat_lt v most) (filter test (range_with_len a n)) ≡ true
  below most a zero le = refl
  below most a (suc n) le = go (test a) (below most (a + 1) n (omega arith))
    where
      go : (b : Bool) → list_all (λ v. nat_lt v most) (filter test (range_with_len (a + 1) n)) ≡ true
          → list_all (λ v. nat_lt v most) (cond b (a ∷ filter test (range_with_len (a + 1) n)) (filter test (range_with_len (a + 1) n))) ≡ true
      go true others = and_whole (nat_lt a most) (list_all (λ v. nat_lt v most) (filter test (range_with_len (a + 1) n))) (lt-ltb a most (omega arith)) others
      go false others = others

  -- they are validators in rising order
  pub passing_are_validators : (n : ℕ) → are_validators n (filter test (range_with_len 0 n)) ≡ true
  passing_are_validators n = and_whole (rise_from 0 (filter test (range_with_len 0 n))) (list_all (λ v. nat_lt v n) (filter test (range_with_len 0 n))) (rises 0 0 n (omega arith)) (below n 0 n (omega arith))
