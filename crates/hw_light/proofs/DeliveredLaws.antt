-- What a journal that deliveries made has.
use Rattle.std.proofs.Common.{◌≡◌, inl, inr, Bool, true, false, cond, List, [], ◌∷◌, ◌++◌, Option, Some, None, refl, sym, ap, subst, ◌∙◌}
use Rattle.std.specs.Prelude.{filter_map, find, is_none, fold}
use Rattle.hw_types.specs.declared.unit.Digest.{Digest}
use Rattle.hw_types.specs.declared.unit.SignedUnit.{SignedUnit}
use Rattle.hw_types.specs.declared.unit.Vertex.{Vertex}
use Rattle.hw_types.specs.declared.unit.Vertex.TheVariants as vertex
use Rattle.hw_types.specs.declared.answers.Cause.{Cause}
use Rattle.hw_types.specs.declared.answers.Cause.TheVariants as cause
use Rattle.hw_types.specs.declared.answers.Rule.{Rule}
use Rattle.hw_types.specs.Graph.{Node, digest_eq}
use Rattle.hw_types.specs.Below.{Among}
use Rattle.hw_types.specs.Rules.{local_rule}
use Rattle.hw_types.specs.Spelling.{digest_of}
use Rattle.hw_types.specs.Journal.{Setting, named, unit_of_vertex, received_of, clash_among, refusal, is_accepted, answer, journal_after, journal_of}
use Rattle.hw_types.specs.Real.{CoreState, setting_of, settled_in}
use Rattle.hw_types.specs.laws.StateLaws.{units_in, NamesApart}
use Rattle.hw_types.proofs.EntryLaws.{append_cases, mapped_among, among_mapped}
use Rattle.hw_types.proofs.OrderLaws.{accepted, unit_vertex, received_in, journal_apart}
use Rattle.hw_types.proofs.SettledLaws.{digest_self, digest_same}
use Rattle.hw_safety.proofs.AccountLaws.{in_journal}
use Rattle.hw_core.specs.Readers.{signed_unit, unit_in}

-- a vertex of a journal that deliveries made wasn't refused when it came
module _ (s : Setting) where
  abbrev WasTaken : Vertex → Type 0
  WasTaken v = (before : List Vertex) × (refusal s before v ≡ None)

  taken_from : (journal : List Vertex) → ((v : Vertex) → Among v journal → WasTaken v) → (deliveries : List (Vertex × Bool)) → (v : Vertex) → Among v (fold (journal_after s) journal deliveries) → WasTaken v
  taken_from journal were [] v m = were v m
  taken_from journal were (d ∷ ds) v m = taken_from (journal_after s journal d) (go (is_accepted (answer s journal d.0 d.1)) refl) ds v m
    where
      go : (b : Bool) → is_accepted (answer s journal d.0 d.1) ≡ b → (w : Vertex) → Among w (cond b (journal ++ d.0 ∷ []) journal) → WasTaken w
      go true e w n = elim (append_cases w journal (d.0 ∷ []) n) [
        | inl old ↦ were w old
        | inr new ↦ elim new [ inl is ↦ subst WasTaken is (journal, (accepted s journal d.0 d.1 e).not_refused) | inr never ↦ absurd never ]
      ]
      go false e w n = were w n

  pub was_taken : (deliveries : List (Vertex × Bool)) (v : Vertex) → Among v (journal_of s deliveries) → WasTaken v
  was_taken deliveries v m = taken_from [] (λ w n. absurd n) deliveries v m

  -- so a unit keeps the rules of the unit alone
  pub local_of : (before : List Vertex) (u : SignedUnit) → refusal s before (vertex.Unit u) ≡ None → local_rule s.config s.instance u.unit ≡ None
  local_of before u e = go (local_rule s.config s.instance u.unit) refl e
    where
      go : (o : Option Rule) → local_rule s.config s.instance u.unit ≡ o
          → elim o as (λ z. Option Cause) [ Some rule ↦ Some (cause.Local rule) | None ↦ elim (clash_among s (received_of s before).units u.unit) as (λ z. Option Cause) [ Some d ↦ Some (cause.Clash d) | None ↦ None ] ] ≡ None
          → o ≡ None
      go (Some rule) is h = absurd cc
      go None is h = refl

  pub in_units : (journal : List Vertex) (u : SignedUnit) → Among (vertex.Unit u) journal → local_rule s.config s.instance u.unit ≡ None → Among (named s u.unit) (units_in s journal)
  in_units journal u m local = among_mapped (unit_of_vertex s) (vertex.Unit u) (named s u.unit) journal m (ap (λ (o : Option Rule). cond (is_none o) (Some (named s u.unit)) None) local)

-- ---- what a look-up finds

pub found : {A : Type 0} (p : A → Bool) (x : A) (xs : List A) → Among x xs → p x ≡ true → (y : A) × (find p xs ≡ Some y) × Among y xs × (p y ≡ true)
found p x [] m t = absurd m
found p x (z ∷ zs) m t = go (p z) refl (λ n. found p x zs n t)
  where
    rest : (b : Bool) → p z ≡ b → b ≡ false → Among x zs
    rest b e f = elim m [ inl is ↦ absurd (let bad : true ≡ false = sym t ∙ ap p (sym is) ∙ e ∙ f in cc) | inr n ↦ n ]

    go : (b : Bool) → p z ≡ b → (Among x zs → (y : _) × (find p zs ≡ Some y) × Among y zs × (p y ≡ true)) → (y : _) × (cond b (Some z) (find p zs) ≡ Some y) × Among y (z ∷ zs) × (p y ≡ true)
    go true e later = (z, refl, inl refl, e)
    go false e later = let y = later (rest false e refl) in (y.0, y.1, inr y.2, y.3)

pub found_is : {A : Type 0} (p : A → Bool) (y : A) (xs : List A) → find p xs ≡ Some y → Among y xs × (p y ≡ true)
found_is p y [] e = absurd (let bad : None ≡ Some y = e in cc)
found_is p y (z ∷ zs) e = go (p z) refl e (λ h. found_is p y zs h)
  where
    go : (b : Bool) → p z ≡ b → cond b (Some z) (find p zs) ≡ Some y → (find p zs ≡ Some y → Among y zs × (p y ≡ true)) → Among y (z ∷ zs) × (p y ≡ true)
    go true t h later = let is : z ≡ y = cc in (inl is, subst (λ w. p w ≡ true) is t)
    go false f h later = let y = later h in (inr y.0, y.1)

-- the vertex of a signed unit
of_unit : (v : Vertex) (u : SignedUnit) → signed_unit v ≡ Some u → v ≡ vertex.Unit u
of_unit (vertex.Unit w) u e = cc
of_unit (vertex.Evidence w) u e = absurd (let bad : None ≡ Some u = e in cc)
of_unit (vertex.Endorsement w) u e = absurd (let bad : None ≡ Some u = e in cc)

-- a settled unit of a node stands in the journal as it was signed
module _ (core : CoreState) (deliveries : List (Vertex × Bool)) (from : core.journal ≡ journal_of (setting_of core.config) deliveries) where
  abbrev s : Setting
  s = setting_of core.config

  pub taken : (v : Vertex) → Among v core.journal → WasTaken s v
  taken v m = was_taken s deliveries v (subst (λ (vs : List Vertex). Among v vs) from m)

  pub apart : NamesApart (units_in s core.journal)
  apart = subst (λ (vs : List Vertex). NamesApart (units_in s vs)) (sym from) (journal_apart s deliveries)

  pub signed_there : (x : Node) → Among x (settled_in core) → (u : SignedUnit) × (unit_in core x.digest ≡ Some u) × (named s u.unit ≡ x) × Among (vertex.Unit u) core.journal
  unfolding unit_in
  signed_there x m =
      let there = received_in s core.journal x (in_journal s core.journal x m) in
      let v = mapped_among (unit_of_vertex s) x core.journal there in
      let w = unit_vertex s v.0 x v.2 in
      let inside = among_mapped signed_unit v.0 w.0 core.journal v.1 (ap signed_unit w.1) in
      let name : digest_eq x.digest (digest_of w.0.unit) ≡ true = subst (λ (d : Digest). digest_eq x.digest d ≡ true) (ap (λ (z : Node). z.digest) w.2) (digest_self x.digest) in
      let f = found (λ (u : SignedUnit). digest_eq x.digest (digest_of u.unit)) w.0 (filter_map signed_unit core.journal) inside name in
      let origin = mapped_among signed_unit f.0 core.journal f.2 in
      let stands = subst (λ (z : Vertex). Among z core.journal) (of_unit origin.0 f.0 origin.2) origin.1 in
      let ok = taken (vertex.Unit f.0) stands in
      let in_known = in_units s core.journal f.0 stands (local_of s ok.0 f.0 ok.1) in
      (f.0, f.1, apart (named s f.0.unit) x in_known there (sym (digest_same x.digest (digest_of f.0.unit) f.3)), stands)
