-- A receipt says where the unit is.
use Rattle.std.proofs.Common.{◌≡◌, ℕ, zero, suc, inl, inr, Bool, true, false, cond, not, List, [], ◌∷◌, ◌++◌, length, Option, Some, None, refl, sym, ap, subst, ◌∙◌, arith, eqb-true, eq-eqb, ltb-false, ltb-true}
use Rattle.std.specs.Prelude.{is_none, ◌==◌, nat_lt}
use Rattle.hw_types.specs.declared.unit.SignedUnit.{SignedUnit}
use Rattle.hw_types.specs.declared.unit.Need.{Need}
use Rattle.hw_types.specs.declared.unit.Need.TheVariants as need
use Rattle.hw_types.specs.declared.unit.Vertex.{Vertex}
use Rattle.hw_types.specs.declared.unit.Vertex.TheVariants as vertex
use Rattle.hw_types.specs.declared.config.Config.{Config}
use Rattle.hw_types.specs.declared.answers.Rule.{Rule}
use Rattle.hw_types.specs.declared.answers.Receipt.{Receipt}
use Rattle.hw_types.specs.declared.answers.Receipt.TheVariants as receipt
use Rattle.hw_types.specs.Graph.{Node}
use Rattle.hw_types.specs.Below.{Among}
use Rattle.hw_types.specs.ByName.{by_name}
use Rattle.hw_types.specs.Rules.{local_rule, state_rule}
use Rattle.hw_types.specs.Settled.{Received, settles, settled_of, parked_of, dropped_of, missing_of, needs_of, is_need_met}
use Rattle.hw_types.specs.Journal.{Setting, named, unit_of_vertex, received_of, refusal, clash_among, receipt_of, newly_settled}
use Rattle.hw_types.specs.declared.answers.Cause.{Cause}
use Rattle.hw_types.specs.declared.answers.Cause.TheVariants as cause
use Rattle.hw_types.specs.laws.StateLaws.{units_in, NamesApart, begin, TellsWhere}
use Rattle.hw_types.proofs.StableLaws.{and_parts, and_whole}
use Rattle.hw_types.proofs.WordsLaws.{never_both}
use Rattle.hw_types.proofs.LawfulLaws.{settled_part, settled_has}
use Rattle.hw_types.proofs.EntryLaws.{append_cases, among_mapped}
use Rattle.hw_types.proofs.JournalLaws.{received_rising, filter_alike, longer_extends}
use Rattle.hw_types.proofs.GrowsLaws.{settled_none_missing}
use Rattle.hw_types.proofs.OrderLaws.{Accepted, one_vertex}
use Rattle.hw_types.proofs.StepLaws.{new_known, accepted_leads, parked_is, parked_has, dropped_has}
use Rattle.hw_types.proofs.RunLaws.{by_name_rising}
use Rattle.hw_types.proofs.VertexLaws.{faulty_evidence_but, endorsed_but}

-- a unit that isn't refused keeps the rules of the unit alone
pub local_none : (s : Setting) (journal : List Vertex) (u : SignedUnit) → refusal s journal (vertex.Unit u) ≡ None → unit_of_vertex s (vertex.Unit u) ≡ Some (named s u.unit)
local_none s journal u h = go (local_rule s.config s.instance u.unit) (elim (clash_among s (received_of s journal).units u.unit) as (λ z. Option Cause) [ Some d ↦ Some (cause.Clash d) | None ↦ None ]) h
  where
    go : (o : Option Rule) (c : Option Cause) → elim o as (λ z. Option Cause) [ Some rule ↦ Some (cause.Local rule) | None ↦ c ] ≡ None → cond (is_none o) (Some (named s u.unit)) None ≡ Some (named s u.unit)
    go None c k = refl
    go (Some r) c k = absurd cc

-- where needs are met alike, the same is missing
missing_alike : (config : Config) (k l : Received) (units : List Node) (u : Node) → ((n : Need) → is_need_met config l units n ≡ is_need_met config k units n) → missing_of config l units u ≡ missing_of config k units u
unfolding missing_of
missing_alike config k l units u same = filter_alike _ _ (needs_of u) (λ n. ap not (same n))

no_length : {A : Type 0} (xs : List A) → (length xs == 0) ≡ true → xs ≡ []
no_length [] h = refl
no_length (x ∷ xs) h = absurd (let e : suc (length xs) ≡ 0 = eqb-true _ _ h in cc)

module _ (s : Setting) (journal : List Vertex) (u : SignedUnit) (apart : NamesApart (units_in s journal)) (ok : Accepted s journal (vertex.Unit u)) where
  abbrev k : Received
  k = received_of s journal

  abbrev l : Received
  l = received_of s (journal ++ vertex.Unit u ∷ [])

  abbrev x : Node
  x = named s u.unit

  abbrev Sk : List Node
  Sk = settled_of s.config k

  abbrev Sl : List Node
  Sl = settled_of s.config l

  x_known : Among x l.units
  x_known = new_known s journal (vertex.Unit u) apart ok x (among_mapped (unit_of_vertex s) (vertex.Unit u) x (vertex.Unit u ∷ []) (inl refl) (local_none s journal u ok.not_refused))

  need_alike : (units : List Node) (n : Need) → is_need_met s.config l units n ≡ is_need_met s.config k units n
  need_alike units (need.Unit d) = refl
  need_alike units (need.Evidence v) = faulty_evidence_but s journal (vertex.Unit u) units v (λ e. absurd cc)
  need_alike units (need.Endorsed d) = endorsed_but s journal (vertex.Unit u) d (λ w e. absurd cc)

  only_x : (y : Node) → Among y (units_in s (vertex.Unit u ∷ [])) → y ≡ x
  only_x y m = let same : Some y ≡ Some x = sym (one_vertex s (vertex.Unit u) y m) ∙ local_none s journal u ok.not_refused in cc

  -- nothing settles over what was settled, where the unit misses something
  waits : (length (missing_of s.config k Sk x) == 0) ≡ false → (y : Node) → Among y (parked_of s.config k ++ units_in s (vertex.Unit u ∷ [])) → (length (missing_of s.config l Sk y) == 0) ≡ true → ⊥
  waits misses y m ready =
      let before : (length (missing_of s.config k Sk y) == 0) ≡ true = ap (λ ns. length ns == 0) (sym (missing_alike s.config k l Sk y (need_alike Sk))) ∙ ready in
      elim (append_cases y (parked_of s.config k) (units_in s (vertex.Unit u ∷ [])) m) [
        | inl h ↦ (parked_is s.config k (received_rising s journal) y h).1 before
        | inr h ↦ never_both _ (subst (λ z. (length (missing_of s.config k Sk z) == 0) ≡ true) (only_x y h) before) misses
      ]

  abbrev sorted : by_name Sk ≡ Sk
  sorted = by_name_rising Sk (settled_part s.config k (received_rising s journal)).in_order

  none_settles : (length (missing_of s.config k Sk x) == 0) ≡ false → Sl ≡ Sk
  none_settles misses = sym (sym sorted ∙ (accepted_leads s journal (vertex.Unit u) apart ok Sk Sk sorted begin).over
      (λ y m t. absurd (waits misses y m (and_parts _ _ (subst (λ units. settles s.config l units y ≡ true) sorted t)).0)))

  agrees : missing_of s.config l Sl x ≡ missing_of s.config k Sk x
  agrees = go (length (missing_of s.config k Sk x) == 0) refl
    where
      go : (b : Bool) → (length (missing_of s.config k Sk x) == 0) ≡ b → missing_of s.config l Sl x ≡ missing_of s.config k Sk x
      go true ready = no_length _ (settled_none_missing s.config k (received_rising s journal) l (received_rising s (journal ++ vertex.Unit u ∷ [])) (longer_extends s journal (vertex.Unit u ∷ [])) x ready) ∙ sym (no_length _ ready)
      go false misses = ap (λ units. missing_of s.config l units x) (none_settles misses) ∙ missing_alike s.config k l Sk x (need_alike Sk)

  not_ready : (n : ℕ) → nat_lt 0 n ≡ true → (n == 0) ≡ false
  not_ready zero h = absurd (let lt = ltb-true 0 0 h in omega arith)
  not_ready (suc n) h = go (suc n == 0) refl
    where
      go : (b : Bool) → (suc n == 0) ≡ b → b ≡ false
      go true e = absurd (let z : suc n ≡ 0 = eqb-true _ _ e in cc)
      go false e = refl

  is_ready : (n : ℕ) → nat_lt 0 n ≡ false → (n == 0) ≡ true
  is_ready n h = let le = ltb-false 0 n h in eq-eqb n 0 (omega arith)

  -- the receipt by its two tests
  abbrev told : Bool → ℕ → Option Rule → Receipt
  told b n o = cond b (receipt.Parked n) (elim o as (λ z. Receipt) [ Some rule ↦ receipt.Dropped rule | None ↦ receipt.Admitted (newly_settled s journal (vertex.Unit u)) ])

  is_told : receipt_of s journal (vertex.Unit u) ≡ told (nat_lt 0 (length (missing_of s.config l Sl x))) (length (missing_of s.config l Sl x)) (state_rule s.config Sl x)
  is_told = refl

  pub tells_where : TellsWhere s journal u
  tells_where = record {
    parked = λ n e. when_parked n (nat_lt 0 (length (missing_of s.config l Sl x))) (state_rule s.config Sl x) refl e;
    dropped = λ r e. when_dropped r (nat_lt 0 (length (missing_of s.config l Sl x))) (state_rule s.config Sl x) refl refl e;
    admitted = λ n e. when_admitted n (nat_lt 0 (length (missing_of s.config l Sl x))) (state_rule s.config Sl x) refl refl e;
    missing_agrees = agrees;
    none_settles = λ misses. none_settles (go misses (length (missing_of s.config k Sk x) == 0) refl);
  }
    where
      go : (length (missing_of s.config k Sk x) ≡ 0 → ⊥) → (b : Bool) → (length (missing_of s.config k Sk x) == 0) ≡ b → (length (missing_of s.config k Sk x) == 0) ≡ false
      go misses true e = absurd (misses (eqb-true _ _ e))
      go misses false e = e

      when_parked : (n : ℕ) (b : Bool) (o : Option Rule) → nat_lt 0 (length (missing_of s.config l Sl x)) ≡ b → told b (length (missing_of s.config l Sl x)) o ≡ receipt.Parked n → Among x (parked_of s.config l)
      when_parked n true o e h = parked_has s.config l (received_rising s (journal ++ vertex.Unit u ∷ [])) x x_known (not_ready _ e)
      when_parked n false None e h = absurd cc
      when_parked n false (Some r) e h = absurd cc

      when_dropped : (r : Rule) (b : Bool) (o : Option Rule) → nat_lt 0 (length (missing_of s.config l Sl x)) ≡ b → state_rule s.config Sl x ≡ o → told b (length (missing_of s.config l Sl x)) o ≡ receipt.Dropped r
          → Among x (dropped_of s.config l) × (state_rule s.config Sl x ≡ Some r)
      when_dropped r true o e f h = absurd cc
      when_dropped r false None e f h = absurd cc
      when_dropped r false (Some q) e f h =
          (dropped_has s.config l (received_rising s (journal ++ vertex.Unit u ∷ [])) x x_known (is_ready _ e) (ap is_none f), f ∙ (let same : q ≡ r = cc in ap Some same))

      when_admitted : (n : ℕ) (b : Bool) (o : Option Rule) → nat_lt 0 (length (missing_of s.config l Sl x)) ≡ b → state_rule s.config Sl x ≡ o → told b (length (missing_of s.config l Sl x)) o ≡ receipt.Admitted n → Among x Sl
      when_admitted n true o e f h = absurd cc
      when_admitted n false None e f h = settled_has s.config l (received_rising s (journal ++ vertex.Unit u ∷ [])) x x_known (and_whole _ _ (is_ready _ e) (ap is_none f))
      when_admitted n false (Some q) e f h = absurd cc
