-- The needs of a unit with a usable panorama are met.
use Rattle.std.proofs.Common.{◌≡◌, ℕ, ◌<◌, inl, inr, Bool, true, false, not, List, [], ◌∷◌, ◌++◌, length, Some, refl, ap, subst}
use Rattle.std.specs.Prelude.{map, filter}
use Rattle.hw_types.specs.declared.unit.Digest.{Digest}
use Rattle.hw_types.specs.declared.unit.Need.{Need}
use Rattle.hw_types.specs.declared.unit.Need.TheVariants as need
use Rattle.hw_types.specs.declared.unit.Obs.{Obs}
use Rattle.hw_types.specs.declared.unit.Obs.TheVariants.{Absent, Correct, Faulty}
use Rattle.hw_types.specs.Graph.{Node, digest_eq, is_faulty_mark, slot, slots}
use Rattle.hw_types.specs.Below.{Among}
use Rattle.hw_types.specs.Settled.{distinct, unit_need, unit_needs, evidence_needs, needs_of, is_need_met, missing_of}
use Rattle.hw_types.specs.Journal.{Setting}
use Rattle.hw_types.specs.Step.{list_of}
use Rattle.hw_types.proofs.ClosureLaws.{Among-filter}
use Rattle.hw_types.proofs.PastLaws.{any_of}
use Rattle.hw_types.proofs.SettledLaws.{digest_self, distinct_from}
use Rattle.hw_types.proofs.WordsLaws.{among_slot}
use Rattle.hw_types.proofs.EntryLaws.{map_among, mapped_among, append_cases}
use Rattle.hw_honest.proofs.ListLaws.{list_from}
use Rattle.hw_honest.proofs.KeptLaws.{KeptGraph, known, settled, list_endorsed}
use Rattle.hw_honest.proofs.ChosenLaws.{IsUsable}
use Rattle.hw_types.proofs.LawfulLaws.{faulty_is}

-- what the needs are
data NeedCase (os : List Obs) (endorsed : List Digest) : Need → Type 0 where
  a_unit : (v : ℕ) (d : Digest) → slot os v ≡ Correct d → NeedCase os endorsed (need.Unit d)
  a_mark : (v : ℕ) → slot os v ≡ Faulty → NeedCase os endorsed (need.Evidence v)
  a_digest : (d : Digest) → Among d endorsed → NeedCase os endorsed (need.Endorsed d)

module _ (os : List Obs) (endorsed : List Digest) where
  unit_case : (n : Need) → Among n (unit_needs os) → NeedCase os endorsed n
  unit_case n m =
      let o = mapped_among unit_need n os m in
      go o.0 (among_slot os o.0 o.1) o.2
    where
      go : (o : Obs) → ((v : ℕ) × (v < length os) × (slot os v ≡ o)) → unit_need o ≡ Some n → NeedCase os endorsed n
      go Absent v e = absurd cc
      go Faulty v e = absurd cc
      go (Correct d) v e = subst (NeedCase os endorsed) (let same : need.Unit d ≡ n = cc in same) (a_unit v.0 d v.2)

  mark_case : (n : Need) → Among n (evidence_needs os) → NeedCase os endorsed n
  mark_case n m =
      let v = map_among need.Evidence n (filter (λ w. is_faulty_mark (slot os w)) (slots os)) m in
      let f = Among-filter (λ w. is_faulty_mark (slot os w)) v.0 (slots os) v.1 in
      subst (NeedCase os endorsed) v.2 (a_mark v.0 (faulty_is (slot os v.0) f.1))

  digest_case : (n : Need) → Among n (map need.Endorsed endorsed) → NeedCase os endorsed n
  digest_case n m = let d = map_among need.Endorsed n endorsed m in subst (NeedCase os endorsed) d.2 (a_digest d.0 d.1)

  need_case : (n : Need) → Among n (distinct (unit_needs os ++ evidence_needs os ++ map need.Endorsed endorsed)) → NeedCase os endorsed n
  need_case n m = elim (append_cases n (unit_needs os ++ evidence_needs os) (map need.Endorsed endorsed) (distinct_from n _ m)) [
    | inr h ↦ digest_case n h
    | inl h ↦ elim (append_cases n (unit_needs os) (evidence_needs os) h) [ inl k ↦ unit_case n k | inr k ↦ mark_case n k ]
  ]

filter_none : {A : Type 0} (p : A → Bool) (xs : List A) → ((x : A) → Among x xs → p x ≡ false) → filter p xs ≡ []
filter_none p [] h = refl
filter_none p (x ∷ xs) h = let here = h x (inl refl) in rw here (filter_none p xs (λ y m. h y (inr m)))

module _ (s : Setting) (graph : KeptGraph s) (me time : ℕ) where
  need_met : (os : List Obs) → IsUsable s graph me time os → (n : Need) → NeedCase os (list_of s (known s graph) (settled s graph) os) n → is_need_met s.config (known s graph) (settled s graph) n ≡ true
  need_met os usable _ (a_unit v d e) =
      let x = usable.sound.names v d e in
      any_of (λ y. digest_eq y.digest d) x.0 (settled s graph) x.1 (subst (λ c. digest_eq x.0.digest c ≡ true) x.2 (digest_self x.0.digest))
  need_met os usable _ (a_mark v e) = usable.sound.marks v e
  need_met os usable _ (a_digest d m) = elim (list_from s (known s graph) (settled s graph) os d m) [
    | inl w ↦ list_endorsed s graph w.0 w.1 d w.3
    | inr x ↦ x.3
  ]

  -- Nothing is missing.
  pub none_missing : (u : Node) → IsUsable s graph me time u.unit.panorama → u.unit.endorsed ≡ list_of s (known s graph) (settled s graph) u.unit.panorama
      → missing_of s.config (known s graph) (settled s graph) u ≡ []
  unfolding missing_of needs_of
  none_missing u usable e = filter_none (λ n. not (is_need_met s.config (known s graph) (settled s graph) n)) (needs_of u)
      (λ n m. ap not (need_met u.unit.panorama usable n (subst (λ ds. NeedCase u.unit.panorama ds n) e (need_case u.unit.panorama u.unit.endorsed n m))))
