-- What is missing, counted need by need.
use Rattle.std.proofs.Common.{◌≡◌, ℕ, zero, suc, ◌+◌, ◌-◌, ◌<◌, ◌≤◌, Bool, true, false, not, cond, List, [], ◌∷◌, ◌++◌, length, map, filter, take, drop, refl, sym, ap, subst, ◌∙◌, arith, eqb-true}
use Rattle.std.specs.Prelude.{◌||◌, ◌==◌, Some, slice_get, slice_index_or}
use Rattle.std.specs.List.{list_any, range_with_len}
use Rattle.hw_types.specs.declared.unit.Digest.{Digest}
use Rattle.hw_types.specs.declared.unit.Obs.{Obs}
use Rattle.hw_types.specs.declared.unit.Obs.TheVariants.{Absent, Correct, Faulty}
use Rattle.hw_types.specs.declared.unit.Need.{Need}
use Rattle.hw_types.specs.declared.unit.Need.TheVariants as need
use Rattle.hw_types.specs.declared.config.Config.{Config}
use Rattle.hw_types.specs.Graph.{Node, digest_eq, slot, is_faulty_mark}
use Rattle.hw_types.specs.Settled.{Received, need_eq, distinct, unit_needs, evidence_needs, is_need_met, missing_of}
use Rattle.hw_core.specs.Missing.{is_wanted, with_need, with_needs, unmet, needs_as_they_stand}
use Rattle.hw_core.proofs.KeptLaws.{get_append}
use Rattle.hw_core.proofs.MissingLaws.{need_same, any_last, all_with, with_append, wanted_missing}

module _ (met : Need → Bool) where
  -- the need is among these or met
  abbrev pub there : List Need → Need → Bool
  there needs n = list_any (λ m. need_eq m n) needs || met n

  -- what is wanted of some is among them
  any_with : (needs xs : List Need) (n : Need) → there (with_needs met needs xs) n ≡ ((list_any (λ m. need_eq m n) needs || list_any (λ m. need_eq m n) xs) || met n)
  any_with needs [] n = ap (λ (b : Bool). b || met n) (sym (right (list_any (λ m. need_eq m n) needs)))
    where
      right : (b : Bool) → (b || false) ≡ b
      right true = refl
      right false = refl
  any_with needs (x ∷ xs) n = any_with (with_need met needs x) xs n ∙ go (is_wanted met needs x) refl
    where
      regroup : (a b c d : Bool) → (((a || b) || c) || d) ≡ ((a || (b || c)) || d)
      regroup true b c d = refl
      regroup false b c d = refl

      known : (a b c d e : Bool) → not (a || d) ≡ false → (b ≡ true → (a ≡ c) × (d ≡ e)) → ((c || false) || e) ≡ (c || e)
      known a b true d e h same = refl
      known a b false d e h same = refl

      gone : (a b c d : Bool) → (b ≡ true → (a || d) ≡ true) → ((a || c) || d) ≡ ((a || (b || c)) || d)
      gone true b c d h = refl
      gone false false c d h = refl
      gone false true true d h = refl
      gone false true false true h = refl
      gone false true false false h = absurd (let f : false ≡ true = h refl in cc)

      denied : (b : Bool) → not b ≡ false → b ≡ true
      denied true e = refl
      denied false e = absurd cc

      go : (b : Bool) → is_wanted met needs x ≡ b
          → ((list_any (λ m. need_eq m n) (cond b (needs ++ x ∷ []) needs) || list_any (λ m. need_eq m n) xs) || met n)
          ≡ ((list_any (λ m. need_eq m n) needs || (need_eq x n || list_any (λ m. need_eq m n) xs)) || met n)
      go true e = ap (λ (b : Bool). (b || list_any (λ m. need_eq m n) xs) || met n) (any_last x n needs) ∙ regroup (list_any (λ m. need_eq m n) needs) (need_eq x n) (list_any (λ m. need_eq m n) xs) (met n)
      go false e = gone (list_any (λ m. need_eq m n) needs) (need_eq x n) (list_any (λ m. need_eq m n) xs) (met n)
          (λ t. subst (λ (k : Need). there needs k ≡ true) (need_same x n t) (denied (there needs x) e))

  any_unmet : (xs : List Need) (n : Need) → there (unmet met xs) n ≡ there xs n
  any_unmet xs n = any_with [] xs n

  one_more : (xs : List Need) (n : Need) → unmet met (xs ++ n ∷ []) ≡ cond (not (there xs n)) (unmet met xs ++ n ∷ []) (unmet met xs)
  one_more xs n = with_append met [] xs (n ∷ []) ∙ ap (λ (b : Bool). cond (not b) (unmet met xs ++ n ∷ []) (unmet met xs)) (any_unmet xs n)

  -- a need that is there or met adds nothing
  pub unmet_skip : (xs : List Need) (n : Need) → not (there xs n) ≡ false → unmet met (xs ++ n ∷ []) ≡ unmet met xs
  unmet_skip xs n e = one_more xs n ∙ ap (λ (b : Bool). cond b (unmet met xs ++ n ∷ []) (unmet met xs)) e

  -- another goes last
  pub unmet_last : (xs : List Need) (n : Need) → not (there xs n) ≡ true → unmet met (xs ++ n ∷ []) ≡ unmet met xs ++ n ∷ []
  unmet_last xs n e = one_more xs n ∙ ap (λ (b : Bool). cond b (unmet met xs ++ n ∷ []) (unmet met xs)) e

  last_length : (xs : List Need) (n : Need) → length (xs ++ n ∷ []) ≡ suc (length xs)
  last_length [] n = refl
  last_length (x ∷ xs) n = ap suc (last_length xs n)

  get_at_end : (xs : List Need) (n : Need) → slice_get (xs ++ n ∷ []) (length xs) ≡ Some n
  get_at_end [] n = refl
  get_at_end (x ∷ xs) n = get_at_end xs n

  pub unmet_longer : (xs : List Need) (n : Need) → not (there xs n) ≡ true → length (unmet met (xs ++ n ∷ [])) ≡ length (unmet met xs) + 1
  unmet_longer xs n e = let last = ap length (unmet_last xs n e) in let long = last_length (unmet met xs) n in omega arith

  -- what is at a place of some is there of more
  pub unmet_stays : (xs ys : List Need) (k : ℕ) (n : Need) → slice_get (unmet met xs) k ≡ Some n → slice_get (unmet met (xs ++ ys)) k ≡ Some n
  unmet_stays xs ys k n h =
      let more = with_append met [] xs ys ∙ all_with met (unmet met xs) ys in
      subst (λ (ns : List Need). slice_get ns k ≡ Some n) (sym more) (get_append (unmet met xs) (filter (is_wanted met (unmet met xs)) (distinct ys)) k n h)

  -- the need that comes next, at the place that is its own
  pub unmet_here : (xs : List Need) (n : Need) (k : ℕ) → not (there xs n) ≡ true → length (unmet met xs) ≡ k → slice_get (unmet met (xs ++ n ∷ [])) k ≡ Some n
  unmet_here xs n k e long =
      subst (λ (ns : List Need). slice_get ns k ≡ Some n) (sym (unmet_last xs n e))
      (subst (λ (m : ℕ). slice_get (unmet met xs ++ n ∷ []) m ≡ Some n) long (get_at_end (unmet met xs) n))

-- ---- the first of a list, and one more

get_in : {A : Type 0} (xs : List A) (k : ℕ) (x : A) → slice_get xs k ≡ Some x → k < length xs → take (suc k) xs ≡ take k xs ++ x ∷ []
get_in [] k x h lt = absurd (omega arith)
get_in (y ∷ ys) zero x h lt = let same : y ≡ x = (let e : Some y ≡ Some x = h in cc) in ap (λ (z : _). z ∷ []) same
get_in (y ∷ ys) (suc k) x h lt = ap (λ (zs : List _). y ∷ zs) (get_in ys k x h (omega arith))

-- one more of a list
pub take_one : {A : Type 0} (xs : List A) (k : ℕ) (x : A) → slice_get xs k ≡ Some x → k < length xs → take (k + 1) xs ≡ take k xs ++ x ∷ []
take_one xs k x h lt = let next : k + 1 ≡ suc k = omega arith in ap (λ (n : ℕ). take n xs) next ∙ get_in xs k x h lt

pub units_append : (xs ys : List Obs) → unit_needs (xs ++ ys) ≡ unit_needs xs ++ unit_needs ys
units_append [] ys = refl
units_append (Correct d ∷ xs) ys = ap (λ (ns : List Need). need.Unit d ∷ ns) (units_append xs ys)
units_append (Absent ∷ xs) ys = units_append xs ys
units_append (Faulty ∷ xs) ys = units_append xs ys

pub endorsed_append : (xs ys : List Digest) → map need.Endorsed (xs ++ ys) ≡ map need.Endorsed xs ++ map need.Endorsed ys
endorsed_append [] ys = refl
endorsed_append (x ∷ xs) ys = ap (λ (ns : List Need). need.Endorsed x ∷ ns) (endorsed_append xs ys)

-- ---- the marks below a validator

abbrev pub marks_below : List Obs → ℕ → List Need
marks_below panorama v = map need.Evidence (filter (λ w. is_faulty_mark (slot panorama w)) (range_with_len 0 v))

range_up : (a n : ℕ) → range_with_len a (suc n) ≡ range_with_len a n ++ (a + n) ∷ []
range_up a zero = ap (λ (k : ℕ). k ∷ []) (omega arith)
range_up a (suc n) = ap (λ (ks : List ℕ). a ∷ ks) (range_up (a + 1) n ∙ ap (λ (k : ℕ). range_with_len (a + 1) n ++ k ∷ []) (omega arith))

range_last : (v : ℕ) → range_with_len 0 (v + 1) ≡ range_with_len 0 v ++ v ∷ []
range_last v =
    let next : v + 1 ≡ suc v = omega arith in
    let here : 0 + v ≡ v = omega arith in
    ap (λ (n : ℕ). range_with_len 0 n) next ∙ range_up 0 v ∙ ap (λ (k : ℕ). range_with_len 0 v ++ k ∷ []) here

filter_last : (p : ℕ → Bool) (xs : List ℕ) (x : ℕ) → filter p (xs ++ x ∷ []) ≡ cond (p x) (filter p xs ++ x ∷ []) (filter p xs)
filter_last p [] x = go (p x) refl
  where
    go : (b : Bool) → p x ≡ b → cond b (x ∷ []) [] ≡ cond b ([] ++ x ∷ []) []
    go true e = refl
    go false e = refl
filter_last p (y ∷ ys) x = ap (λ (zs : List ℕ). cond (p y) (y ∷ zs) zs) (filter_last p ys x) ∙ go (p y) (p x)
  where
    go : (a b : Bool) → cond a (y ∷ cond b (filter p ys ++ x ∷ []) (filter p ys)) (cond b (filter p ys ++ x ∷ []) (filter p ys))
        ≡ cond b (cond a (y ∷ filter p ys) (filter p ys) ++ x ∷ []) (cond a (y ∷ filter p ys) (filter p ys))
    go true true = refl
    go true false = refl
    go false true = refl
    go false false = refl

evidence_last : (xs : List ℕ) (x : ℕ) → map need.Evidence (xs ++ x ∷ []) ≡ map need.Evidence xs ++ need.Evidence x ∷ []
evidence_last [] x = refl
evidence_last (y ∷ ys) x = ap (λ (ns : List Need). need.Evidence y ∷ ns) (evidence_last ys x)

pub marks_last : (panorama : List Obs) (v : ℕ) → is_faulty_mark (slot panorama v) ≡ true → marks_below panorama (v + 1) ≡ marks_below panorama v ++ need.Evidence v ∷ []
marks_last panorama v e =
    ap (λ (vs : List ℕ). map need.Evidence (filter (λ w. is_faulty_mark (slot panorama w)) vs)) (range_last v)
    ∙ ap (map need.Evidence) (filter_last (λ w. is_faulty_mark (slot panorama w)) (range_with_len 0 v) v)
    ∙ ap (λ (b : Bool). map need.Evidence (cond b (filter (λ w. is_faulty_mark (slot panorama w)) (range_with_len 0 v) ++ v ∷ []) (filter (λ w. is_faulty_mark (slot panorama w)) (range_with_len 0 v)))) e
    ∙ evidence_last (filter (λ w. is_faulty_mark (slot panorama w)) (range_with_len 0 v)) v

pub marks_same : (panorama : List Obs) (v : ℕ) → is_faulty_mark (slot panorama v) ≡ false → marks_below panorama (v + 1) ≡ marks_below panorama v
marks_same panorama v e =
    ap (λ (vs : List ℕ). map need.Evidence (filter (λ w. is_faulty_mark (slot panorama w)) vs)) (range_last v)
    ∙ ap (map need.Evidence) (filter_last (λ w. is_faulty_mark (slot panorama w)) (range_with_len 0 v) v)
    ∙ ap (λ (b : Bool). map need.Evidence (cond b (filter (λ w. is_faulty_mark (slot panorama w)) (range_with_len 0 v) ++ v ∷ []) (filter (λ w. is_faulty_mark (slot panorama w)) (range_with_len 0 v)))) e

-- no mark of a validator is among the units or the marks of those below
no_unit : (v : ℕ) (panorama : List Obs) → list_any (λ m. need_eq m (need.Evidence v)) (unit_needs panorama) ≡ false
no_unit v [] = refl
no_unit v (Correct d ∷ xs) = no_unit v xs
no_unit v (Absent ∷ xs) = no_unit v xs
no_unit v (Faulty ∷ xs) = no_unit v xs

no_mark : (v : ℕ) (p : ℕ → Bool) (a n : ℕ) → a + n ≤ v → list_any (λ m. need_eq m (need.Evidence v)) (map need.Evidence (filter p (range_with_len a n))) ≡ false
no_mark v p a zero le = refl
no_mark v p a (suc n) le = go (p a) (a == v) refl (no_mark v p (a + 1) n (omega arith))
  where
    go : (b c : Bool) → (a == v) ≡ c → list_any (λ m. need_eq m (need.Evidence v)) (map need.Evidence (filter p (range_with_len (a + 1) n))) ≡ false
        → list_any (λ m. need_eq m (need.Evidence v)) (map need.Evidence (cond b (a ∷ filter p (range_with_len (a + 1) n)) (filter p (range_with_len (a + 1) n)))) ≡ false
    go true true e rest = absurd (let same = eqb-true a v e in omega arith)
    go true false e rest = rw e rest
    go false c e rest = rest

any_append : (n : Need) (xs ys : List Need) → list_any (λ m. need_eq m n) (xs ++ ys) ≡ (list_any (λ m. need_eq m n) xs || list_any (λ m. need_eq m n) ys)
any_append n [] ys = refl
any_append n (x ∷ xs) ys = ap (λ (b : Bool). need_eq x n || b) (any_append n xs ys) ∙ go (need_eq x n) (list_any (λ m. need_eq m n) xs)
  where
    go : (a b : Bool) → (a || (b || list_any (λ m. need_eq m n) ys)) ≡ ((a || b) || list_any (λ m. need_eq m n) ys)
    go true b = refl
    go false b = refl

pub new_mark : (panorama : List Obs) (v : ℕ) → list_any (λ m. need_eq m (need.Evidence v)) (unit_needs panorama ++ marks_below panorama v) ≡ false
new_mark panorama v =
    any_append (need.Evidence v) (unit_needs panorama) (marks_below panorama v)
    ∙ ap (λ (b : Bool). b || list_any (λ m. need_eq m (need.Evidence v)) (marks_below panorama v)) (no_unit v panorama)
    ∙ no_mark v (λ w. is_faulty_mark (slot panorama w)) 0 v (omega arith)

-- ---- what stands before a digest of the list

no_unit_listed : (d : Digest) (panorama : List Obs) → list_any (λ m. need_eq m (need.Endorsed d)) (unit_needs panorama) ≡ false
no_unit_listed d [] = refl
no_unit_listed d (Correct e ∷ xs) = no_unit_listed d xs
no_unit_listed d (Absent ∷ xs) = no_unit_listed d xs
no_unit_listed d (Faulty ∷ xs) = no_unit_listed d xs

no_mark_listed : (d : Digest) (vs : List ℕ) → list_any (λ m. need_eq m (need.Endorsed d)) (map need.Evidence vs) ≡ false
no_mark_listed d [] = refl
no_mark_listed d (v ∷ vs) = no_mark_listed d vs

pub listed_before : (d : Digest) (panorama : List Obs) (before : List Need)
    → list_any (λ m. need_eq m (need.Endorsed d)) (unit_needs panorama ++ evidence_needs panorama ++ before) ≡ list_any (λ m. need_eq m (need.Endorsed d)) before
listed_before d panorama before =
    any_append (need.Endorsed d) (unit_needs panorama ++ evidence_needs panorama) before
    ∙ ap (λ (b : Bool). b || list_any (λ m. need_eq m (need.Endorsed d)) before)
    (any_append (need.Endorsed d) (unit_needs panorama) (evidence_needs panorama)
    ∙ ap (λ (b : Bool). b || list_any (λ m. need_eq m (need.Endorsed d)) (evidence_needs panorama)) (no_unit_listed d panorama)
    ∙ no_mark_listed d (filter (λ v. is_faulty_mark (slot panorama v)) (range_with_len 0 (length panorama))))

-- ---- among digests and observations

pub listed_any : (same : Digest → Digest → Bool) → ((a b : Digest) → same a b ≡ digest_eq a b) → (d : Digest) (ds : List Digest)
    → list_any (λ y. same y d) ds ≡ list_any (λ m. need_eq m (need.Endorsed d)) (map need.Endorsed ds)
listed_any same is d [] = refl
listed_any same is d (e ∷ es) = ap (λ (b : Bool). b || list_any (λ y. same y d) es) (is e d) ∙ ap (λ (b : Bool). digest_eq e d || b) (listed_any same is d es)

pub observed_any : (same : Obs → Obs → Bool) (d : Digest) → ((e : Digest) → same (Correct e) (Correct d) ≡ digest_eq e d) → same Absent (Correct d) ≡ false → same Faulty (Correct d) ≡ false → (panorama : List Obs)
    → list_any (λ y. same y (Correct d)) panorama ≡ list_any (λ m. need_eq m (need.Unit d)) (unit_needs panorama)
observed_any same d is absent faulty [] = refl
observed_any same d is absent faulty (Correct e ∷ xs) = ap (λ (b : Bool). b || list_any (λ y. same y (Correct d)) xs) (is e) ∙ ap (λ (b : Bool). digest_eq e d || b) (observed_any same d is absent faulty xs)
observed_any same d is absent faulty (Absent ∷ xs) = ap (λ (b : Bool). b || list_any (λ y. same y (Correct d)) xs) absent ∙ observed_any same d is absent faulty xs
observed_any same d is absent faulty (Faulty ∷ xs) = ap (λ (b : Bool). b || list_any (λ y. same y (Correct d)) xs) faulty ∙ observed_any same d is absent faulty xs

-- ---- one step of each search

pub get_of : {A : Type 0} (xs : List A) (k : ℕ) (d : A) → k < length xs → slice_get xs k ≡ Some (slice_index_or xs k d)
get_of [] k d lt = absurd (omega arith)
get_of (x ∷ xs) zero d lt = refl
get_of (x ∷ xs) (suc k) d lt = get_of xs k d (omega arith)

split_at : {A : Type 0} (xs : List A) (k : ℕ) → xs ≡ take k xs ++ drop k xs
split_at [] zero = refl
split_at [] (suc k) = refl
split_at (x ∷ xs) zero = refl
split_at (x ∷ xs) (suc k) = ap (λ (ys : List _). x ∷ ys) (split_at xs k)

assoc : (xs ys zs : List Need) → (xs ++ ys) ++ zs ≡ xs ++ (ys ++ zs)
assoc [] ys zs = refl
assoc (x ∷ xs) ys zs = ap (λ (ns : List Need). x ∷ ns) (assoc xs ys zs)

append_none : (xs : List Need) → xs ≡ xs ++ []
append_none [] = refl
append_none (x ∷ xs) = ap (λ (ns : List Need). x ∷ ns) (append_none xs)

pub not_correct : (o : Obs) → ((d : Digest) → o ≡ Correct d → ⊥) → unit_needs (o ∷ []) ≡ []
not_correct (Correct d) other = absurd (other d refl)
not_correct Absent other = refl
not_correct Faulty other = refl

module _ (met : Need → Bool) (panorama : List Obs) (k : ℕ) (lt : k < length panorama) where
  abbrev so_far : List Need
  so_far = unit_needs (take k panorama)

  units_next : (o : Obs) → slice_get panorama k ≡ Some o → unit_needs (take (k + 1) panorama) ≡ so_far ++ unit_needs (o ∷ [])
  units_next o at = ap (λ (xs : List Obs). unit_needs xs) (take_one panorama k o at lt) ∙ units_append (take k panorama) (o ∷ [])

  pub units_other : (o : Obs) → slice_get panorama k ≡ Some o → unit_needs (o ∷ []) ≡ [] → length (unmet met (unit_needs (take (k + 1) panorama))) ≡ length (unmet met so_far)
  units_other o at none = ap (λ (ns : List Need). length (unmet met ns)) (units_next o at ∙ ap (λ (ns : List Need). so_far ++ ns) none ∙ sym (append_none so_far))

  module _ (d : Digest) (at : slice_get panorama k ≡ Some (Correct d)) where
    pub units_more : not (there met so_far (need.Unit d)) ≡ true → length (unmet met (unit_needs (take (k + 1) panorama))) ≡ length (unmet met so_far) + 1
    units_more wanted = ap (λ (ns : List Need). length (unmet met ns)) (units_next (Correct d) at) ∙ unmet_longer met so_far (need.Unit d) wanted

    pub units_skip : not (there met so_far (need.Unit d)) ≡ false → length (unmet met (unit_needs (take (k + 1) panorama))) ≡ length (unmet met so_far)
    units_skip unwanted = ap (λ (ns : List Need). length (unmet met ns)) (units_next (Correct d) at) ∙ ap (λ (ns : List Need). length ns) (unmet_skip met so_far (need.Unit d) unwanted)

    pub units_found : (place : ℕ) → not (there met so_far (need.Unit d)) ≡ true → length (unmet met so_far) ≡ place → slice_get (unmet met (unit_needs panorama)) place ≡ Some (need.Unit d)
    units_found place wanted long =
        let whole : unit_needs panorama ≡ (so_far ++ need.Unit d ∷ []) ++ unit_needs (drop (k + 1) panorama) =
        ap (λ (xs : List Obs). unit_needs xs) (split_at panorama (k + 1)) ∙ units_append (take (k + 1) panorama) (drop (k + 1) panorama)
        ∙ ap (λ (ns : List Need). ns ++ unit_needs (drop (k + 1) panorama)) (units_next (Correct d) at) in
        subst (λ (ns : List Need). slice_get (unmet met ns) place ≡ Some (need.Unit d)) (sym whole)
        (unmet_stays met (so_far ++ need.Unit d ∷ []) (unit_needs (drop (k + 1) panorama)) place (need.Unit d) (unmet_here met so_far (need.Unit d) place wanted long))

module _ (panorama : List Obs) (v : ℕ) where
  marks_grow : (m : ℕ) → (rest : List Need) × (marks_below panorama (v + m) ≡ marks_below panorama v ++ rest)
  marks_grow zero = ([], (let same : v + 0 ≡ v = omega arith in ap (marks_below panorama) same ∙ append_none (marks_below panorama v)))
  marks_grow (suc m) = go (is_faulty_mark (slot panorama (v + m))) refl (marks_grow m)
    where
      go : (b : Bool) → is_faulty_mark (slot panorama (v + m)) ≡ b → (rest : List Need) × (marks_below panorama (v + m) ≡ marks_below panorama v ++ rest)
          → (rest : List Need) × (marks_below panorama (v + suc m) ≡ marks_below panorama v ++ rest)
      go true e before =
          let next : v + suc m ≡ (v + m) + 1 = omega arith in (
            before.0 ++ need.Evidence (v + m) ∷ [],
            ap (marks_below panorama) next ∙ marks_last panorama (v + m) e ∙ ap (λ (ns : List Need). ns ++ need.Evidence (v + m) ∷ []) before.1 ∙ assoc (marks_below panorama v) before.0 (need.Evidence (v + m) ∷ []),
          )
      go false e before =
          let next : v + suc m ≡ (v + m) + 1 = omega arith in
          (before.0, ap (marks_below panorama) next ∙ marks_same panorama (v + m) e ∙ before.1)

module _ (met : Need → Bool) (panorama : List Obs) (v : ℕ) (lt : v < length panorama) where
  abbrev marked : List Need
  marked = unit_needs panorama ++ marks_below panorama v

  pub marks_other : is_faulty_mark (slot panorama v) ≡ false → length (unmet met (unit_needs panorama ++ marks_below panorama (v + 1))) ≡ length (unmet met marked)
  marks_other e = ap (λ (ns : List Need). length (unmet met (unit_needs panorama ++ ns))) (marks_same panorama v e)

  module _ (mark : is_faulty_mark (slot panorama v) ≡ true) where
    is_there : there met marked (need.Evidence v) ≡ met (need.Evidence v)
    is_there = ap (λ (b : Bool). b || met (need.Evidence v)) (new_mark panorama v)

    marks_next : unit_needs panorama ++ marks_below panorama (v + 1) ≡ marked ++ need.Evidence v ∷ []
    marks_next = ap (λ (ns : List Need). unit_needs panorama ++ ns) (marks_last panorama v mark) ∙ sym (assoc (unit_needs panorama) (marks_below panorama v) (need.Evidence v ∷ []))

    pub marks_more : not (met (need.Evidence v)) ≡ true → length (unmet met (unit_needs panorama ++ marks_below panorama (v + 1))) ≡ length (unmet met marked) + 1
    marks_more wanted = ap (λ (ns : List Need). length (unmet met ns)) marks_next ∙ unmet_longer met marked (need.Evidence v) (ap not is_there ∙ wanted)

    pub marks_skip : not (met (need.Evidence v)) ≡ false → length (unmet met (unit_needs panorama ++ marks_below panorama (v + 1))) ≡ length (unmet met marked)
    marks_skip unwanted = ap (λ (ns : List Need). length (unmet met ns)) marks_next ∙ ap (λ (ns : List Need). length ns) (unmet_skip met marked (need.Evidence v) (ap not is_there ∙ unwanted))

    pub marks_found : (place : ℕ) → not (met (need.Evidence v)) ≡ true → length (unmet met marked) ≡ place → slice_get (unmet met (unit_needs panorama ++ evidence_needs panorama)) place ≡ Some (need.Evidence v)
    marks_found place wanted long =
        let rest = marks_grow panorama (v + 1) (length panorama - (v + 1)) in
        let all : length panorama ≡ (v + 1) + (length panorama - (v + 1)) = omega arith in
        let whole : unit_needs panorama ++ evidence_needs panorama ≡ (marked ++ need.Evidence v ∷ []) ++ rest.0 =
        ap (λ (n : ℕ). unit_needs panorama ++ marks_below panorama n) all ∙ ap (λ (ns : List Need). unit_needs panorama ++ ns) rest.1
        ∙ sym (assoc (unit_needs panorama) (marks_below panorama (v + 1)) rest.0) ∙ ap (λ (ns : List Need). ns ++ rest.0) marks_next in
        subst (λ (ns : List Need). slice_get (unmet met ns) place ≡ Some (need.Evidence v)) (sym whole)
        (unmet_stays met (marked ++ need.Evidence v ∷ []) rest.0 place (need.Evidence v) (unmet_here met marked (need.Evidence v) place (ap not is_there ∙ wanted) long))

-- the digest at this place of the list is wanted
abbrev pub wanted_at : (Need → Bool) → List Digest → ℕ → Bool
wanted_at met ds k =
    not (list_any (λ m. need_eq m (need.Endorsed (slice_index_or ds k (record { 0 = [] })))) (map need.Endorsed (take k ds)) || met (need.Endorsed (slice_index_or ds k (record { 0 = [] }))))

module _ (met : Need → Bool) (panorama : List Obs) (endorsed : List Digest) (k : ℕ) (lt : k < length endorsed) (d : Digest) (at : slice_get endorsed k ≡ Some d) where
  abbrev slots_needs : List Need
  slots_needs = unit_needs panorama ++ evidence_needs panorama

  abbrev listed : List Need
  listed = slots_needs ++ map need.Endorsed (take k endorsed)

  abbrev wanted_here : Bool
  wanted_here = not (list_any (λ m. need_eq m (need.Endorsed d)) (map need.Endorsed (take k endorsed)) || met (need.Endorsed d))

  is_wanted_here : not (there met listed (need.Endorsed d)) ≡ wanted_here
  is_wanted_here = ap (λ (b : Bool). not (b || met (need.Endorsed d))) (listed_before d panorama (map need.Endorsed (take k endorsed)))

  list_next : slots_needs ++ map need.Endorsed (take (k + 1) endorsed) ≡ listed ++ need.Endorsed d ∷ []
  list_next =
      ap (λ (ds : List Digest). slots_needs ++ map need.Endorsed ds) (take_one endorsed k d at lt)
      ∙ ap (λ (ns : List Need). slots_needs ++ ns) (endorsed_append (take k endorsed) (d ∷ []))
      ∙ sym (assoc slots_needs (map need.Endorsed (take k endorsed)) (need.Endorsed d ∷ []))

  pub list_more : wanted_here ≡ true → length (unmet met (slots_needs ++ map need.Endorsed (take (k + 1) endorsed))) ≡ length (unmet met listed) + 1
  list_more wanted = ap (λ (ns : List Need). length (unmet met ns)) list_next ∙ unmet_longer met listed (need.Endorsed d) (is_wanted_here ∙ wanted)

  pub list_skip : wanted_here ≡ false → length (unmet met (slots_needs ++ map need.Endorsed (take (k + 1) endorsed))) ≡ length (unmet met listed)
  list_skip unwanted = ap (λ (ns : List Need). length (unmet met ns)) list_next ∙ ap (λ (ns : List Need). length ns) (unmet_skip met listed (need.Endorsed d) (is_wanted_here ∙ unwanted))

  pub list_found : (place : ℕ) → wanted_here ≡ true → length (unmet met listed) ≡ place → slice_get (unmet met (slots_needs ++ map need.Endorsed endorsed)) place ≡ Some (need.Endorsed d)
  list_found place wanted long =
      let whole : slots_needs ++ map need.Endorsed endorsed ≡ (listed ++ need.Endorsed d ∷ []) ++ map need.Endorsed (drop (k + 1) endorsed) =
      ap (λ (ds : List Digest). slots_needs ++ map need.Endorsed ds) (split_at endorsed (k + 1))
      ∙ ap (λ (ns : List Need). slots_needs ++ ns) (endorsed_append (take (k + 1) endorsed) (drop (k + 1) endorsed))
      ∙ sym (assoc slots_needs (map need.Endorsed (take (k + 1) endorsed)) (map need.Endorsed (drop (k + 1) endorsed)))
      ∙ ap (λ (ns : List Need). ns ++ map need.Endorsed (drop (k + 1) endorsed)) list_next in
      subst (λ (ns : List Need). slice_get (unmet met ns) place ≡ Some (need.Endorsed d)) (sym whole)
      (unmet_stays met (listed ++ need.Endorsed d ∷ []) (map need.Endorsed (drop (k + 1) endorsed)) place (need.Endorsed d) (unmet_here met listed (need.Endorsed d) place (is_wanted_here ∙ wanted) long))

-- what is unmet of all needs is what is missing
pub unmet_missing : (config : Config) (known : Received) (units : List Node) (u : Node) → unmet (is_need_met config known units) (needs_as_they_stand u.unit) ≡ missing_of config known units u
unmet_missing config known units u =
    let met : Need → Bool = is_need_met config known units in
    with_append met [] (unit_needs u.unit.panorama ++ evidence_needs u.unit.panorama) (map need.Endorsed u.unit.endorsed)
    ∙ ap (λ (ns : List Need). with_needs met ns (map need.Endorsed u.unit.endorsed)) (with_append met [] (unit_needs u.unit.panorama) (evidence_needs u.unit.panorama))
    ∙ wanted_missing config known units u
