-- A unit that misses nothing.
use Rattle.std.proofs.Common.{◌≡◌, ◌≢◌, ℕ, inl, inr, Bool, true, not, cond, List, [], ◌∷◌, ◌++◌, ◌<◌, length, map, None, Some, refl, sym, ap, subst, ◌∙◌, arith}
use Rattle.std.specs.Prelude.{slice_get}
use Rattle.std.proofs.lemmas.Option.{slice_get_past}
use Rattle.hw_types.specs.declared.unit.Digest.{Digest}
use Rattle.hw_types.specs.declared.unit.Need.{Need}
use Rattle.hw_types.specs.declared.unit.Need.TheVariants as need
use Rattle.hw_types.specs.declared.unit.Obs.{Obs}
use Rattle.hw_types.specs.declared.unit.Obs.TheVariants.{Absent, Correct, Faulty}
use Rattle.hw_types.specs.declared.unit.SignedUnit.{SignedUnit}
use Rattle.hw_types.specs.declared.unit.WireUnit.{WireUnit}
use Rattle.hw_types.specs.Graph.{Node, digest_eq}
use Rattle.hw_types.specs.Below.{Among}
use Rattle.hw_types.specs.Settled.{missing_of, unit_needs, evidence_needs}
use Rattle.hw_types.proofs.PastLaws.{any_of}
use Rattle.hw_types.proofs.SettledLaws.{digest_self}
use Rattle.hw_dag.specs.Dag.{graph}
use Rattle.hw_dag.specs.Admission.{PreparedUnit, AllKnown, node_prepared}
use Rattle.hw_admit.specs.State.{NodeState}
use Rattle.hw_core.specs.Settle.{known_in}
use Rattle.hw_core.specs.Missing.{is_met_in, with_needs, unmet, needs_as_they_stand}
use Rattle.hw_core.proofs.UnmetLaws.{unmet_stays, unmet_missing}

pub more_than_none : {A : Type 0} (xs : List A) → xs ≢ [] → 0 < length xs
more_than_none [] some = absurd (some refl)
more_than_none (x ∷ xs) some = omega arith

-- what has something at a place isn't empty
pub some_there : {A : Type 0} (xs : List A) (k : ℕ) (x : A) → slice_get xs k ≡ Some x → xs ≢ []
some_there [] k x h e = absurd (let none : None ≡ Some x = sym (slice_get_past [] k (omega arith)) ∙ h in cc)
some_there (y ∷ ys) k x h e = absurd cc

pub none_there : {A : Type 0} (xs : List A) (n : ℕ) → length xs ≡ n → n < 1 → xs ≡ []
none_there [] n e le = refl
none_there (x ∷ xs) n e le = absurd (omega arith)

-- where each unit that is observed is met, none of them is missing
units_met : (met : Need → Bool) (panorama : List Obs) → ((d : Digest) → Among (Correct d) panorama → met (need.Unit d) ≡ true) → unmet met (unit_needs panorama) ≡ []
units_met met [] all = refl
units_met met (Absent ∷ os) all = units_met met os (λ d m. all d (inr m))
units_met met (Faulty ∷ os) all = units_met met os (λ d m. all d (inr m))
units_met met (Correct d ∷ os) all = ap (λ (b : Bool). with_needs met (cond (not b) (need.Unit d ∷ []) []) (unit_needs os)) (all d (inl refl)) ∙ units_met met os (λ e m. all e (inr m))

pub known_met : (s : NodeState) (panorama : List Obs) → AllKnown (graph s.dag) panorama → unmet (is_met_in s) (unit_needs panorama) ≡ []
known_met s panorama known = units_met (is_met_in s) panorama (λ d m. let x = known d m in
    any_of (λ (y : Node). digest_eq y.digest d) x.0 (graph s.dag) x.1 (subst (λ (e : Digest). digest_eq e d ≡ true) (sym x.2) (digest_self d)))

-- a panorama in numbers is no part of the unit under its name
pub node_same : (p q : PreparedUnit) → q.signed ≡ p.signed → q.digest ≡ p.digest → node_prepared q ≡ node_prepared p
node_same p q signed digest = ap (λ (u : SignedUnit). record { digest = q.digest; unit = u.unit }) signed ∙ ap (λ (d : Digest). record { digest = d; unit = p.signed.unit }) digest

module _ (s : NodeState) (unit : WireUnit) (d : Digest) where
  -- what is found among the units and the marks is missing
  pub marks_missing : (n : Need) → slice_get (unmet (is_met_in s) (unit_needs unit.panorama ++ evidence_needs unit.panorama)) 0 ≡ Some n → missing_of s.config (known_in s) (graph s.dag) (record { digest = d; unit = unit }) ≢ []
  marks_missing n h = some_there (missing_of s.config (known_in s) (graph s.dag) (record { digest = d; unit = unit })) 0 n
      (subst (λ (ns : List Need). slice_get ns 0 ≡ Some n) (unmet_missing s.config (known_in s) (graph s.dag) (record { digest = d; unit = unit }))
      (unmet_stays (is_met_in s) (unit_needs unit.panorama ++ evidence_needs unit.panorama) (map need.Endorsed unit.endorsed) 0 n h))

  pub list_missing : (n : Need) → slice_get (unmet (is_met_in s) (needs_as_they_stand unit)) 0 ≡ Some n → missing_of s.config (known_in s) (graph s.dag) (record { digest = d; unit = unit }) ≢ []
  list_missing n h = some_there (missing_of s.config (known_in s) (graph s.dag) (record { digest = d; unit = unit })) 0 n
      (subst (λ (ns : List Need). slice_get ns 0 ≡ Some n) (unmet_missing s.config (known_in s) (graph s.dag) (record { digest = d; unit = unit })) h)

  pub nothing_missing : (k : ℕ) → length (unmet (is_met_in s) (needs_as_they_stand unit)) ≡ k → k < 1 → missing_of s.config (known_in s) (graph s.dag) (record { digest = d; unit = unit }) ≡ []
  nothing_missing k e le = sym (unmet_missing s.config (known_in s) (graph s.dag) (record { digest = d; unit = unit })) ∙ none_there (unmet (is_met_in s) (needs_as_they_stand unit)) k e le
