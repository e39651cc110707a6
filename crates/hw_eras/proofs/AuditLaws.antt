-- What an audit says of eras that agreed so far.
use Rattle.std.proofs.lemmas.Bool.{cases_lt}
use Rattle.std.proofs.Common.{◌≡◌, ◌≢◌, ◌↔◌, ℕ, zero, suc, ◌⊎◌, inl, inr, ◌+◌, ◌*◌, ◌^◌, ◌≤◌, ◌<◌, List, [], ◌∷◌, length, map, Option, Some, None, Result, Ok, Err, IfOk, refl, sym, ap, subst, ◌∙◌, arith}
use Rattle.std.specs.Prelude.{slice_get, min}
use Rattle.std.specs.Option.{option_map}
use Rattle.hw_types.specs.declared.config.Config.{Config}
use Rattle.hw_types.specs.declared.unit.Vertex.{Vertex}
use Rattle.hw_types.specs.declared.answers.Decision.{Decision}
use Rattle.hw_types.specs.Graph.{Node}
use Rattle.hw_types.specs.Votes.{height_of, height_within, unit_fork}
use Rattle.hw_types.specs.Decisions.{AreDecisions}
use Rattle.hw_types.specs.Real.{CoreState, setting_of, settled_in}
use Rattle.hw_safety.specs.declared.verdict.Verdict.{Verdict}
use Rattle.hw_safety.specs.declared.verdict.Verdict.TheVariants as verdict
use Rattle.hw_safety.specs.Verdicts.{IsVerdict, IsAccountable}
use Rattle.hw_safety.proofs.DecidedLaws.{decisions_are}
use Rattle.hw_safety.proofs.HeightLaws.{one_block_each}
use Rattle.hw_safety.proofs.ListLaws.{numbered}
use Rattle.hw_safety.proofs.DecidedChainLaws.{heights}
use Rattle.hw_safety.proofs.StoodLaws.{record_in, record_height}
use Rattle.hw_audit.specs.Audit.{IsVerdictOn}
use Rattle.hw_audit.specs.First.{ShowsFirstClash}
use Rattle.hw_audit.specs.declared.nodes.AuditError.{AuditError}
use Rattle.hw_audit.specs.declared.nodes.AuditError.TheVariants as fault_of
use Rattle.hw_core.specs.Decided.{decided_in}
use Rattle.hw_eras.specs.declared.verdict.EraVerdict.{EraVerdict}
use Rattle.hw_eras.specs.declared.verdict.EraVerdict.TheVariants as eras
use Rattle.hw_eras.specs.Eras.{journal_in, config_after, VerdictIn, ErasAgree, ErasDiffer, IsNoAgreement}
use Rattle.hw_eras.specs.Nodes.{real, era_of, IsMadeAgain, next_of, AreErasFrom, first_config, AreNodeEras}
use Rattle.hw_eras.proofs.EraLaws.{one_next, agreeing, differ as differing}
use Rattle.hw_eras.proofs.NodeLaws.{era_decisions, nodes_eras}
use Rattle.hw_eras.specs.EraAudit.{AreOfDifferent, IsVerdictOnEras, AreAgreed, IsVerdictByEras, IsAccounted, IsShort}
use Rattle.hw_eras.proofs.SameLaws.{same_configs}

-- ---- the verdict on one era

module _ (c d : CoreState) (same : c.config ≡ d.config) (made_c : IsMadeAgain c) (made_d : IsMadeAgain d) where
  pub verdict_in : (v : Verdict) → IsVerdictOn c d v → VerdictIn (setting_of c.config) (era_of c) (era_of d) v
  verdict_in v is =
      let s = setting_of c.config in
      let right : journal_in s (era_of d) ≡ d.journal = subst (λ (k : Config). journal_in (setting_of k) (era_of d) ≡ d.journal) (sym same) made_d in
      subst (λ (j : List Vertex). IsVerdict s j (journal_in s (era_of d)) (decided_in c) (decided_in d) v) (sym made_c)
      (subst (λ (j : List Vertex). IsVerdict s c.journal j (decided_in c) (decided_in d) v) (sym right) is)

  -- where they agree, the next configurations are one
  pub next_same : (common : ℕ) → IsVerdictOn c d (verdict.Agree common) → (p q : Config) → next_of c ≡ Some p → next_of d ≡ Some q → p ≡ q
  next_same common is p q e f =
      let s = setting_of c.config in
      let right = subst (λ (k : Config). AreDecisions (setting_of k) (journal_in (setting_of k) (era_of d)) (decided_in d)) (sym same) (era_decisions d made_d) in
      one_next s (era_of c) (era_of d) (era_decisions c made_c) right common (verdict_in (verdict.Agree common) is) p q e
      (subst (λ (k : Config). config_after (setting_of k) (era_of d) ≡ Some q) (sym same) f)

-- ---- eras that agreed

-- one more era agrees
agreed_one : (n : ℕ) (cs ds : List CoreState) (common here : ℕ) (c d : CoreState) → slice_get cs n ≡ Some c → slice_get ds n ≡ Some d → c.config ≡ d.config → IsVerdictOn c d (verdict.Agree here)
    → AreAgreed cs ds n common → AreAgreed cs ds (suc n) (common + here)
agreed_one n [] ds common here c d i j same v are = absurd cc
agreed_one n (x ∷ xs) [] common here c d i j same v are = absurd cc
agreed_one zero (x ∷ xs) (y ∷ ys) common here c d i j same v are =
    let p : c ≡ x = cc in
    let q : d ≡ y = cc in (
      here,
      0,
      ap (λ (k : CoreState). k.config) (sym p) ∙ same ∙ ap (λ (k : CoreState). k.config) q,
      subst (λ (k : CoreState). IsVerdictOn k y (verdict.Agree here)) p (subst (λ (k : CoreState). IsVerdictOn c k (verdict.Agree here)) q v),
      refl,
      omega arith,
    )
agreed_one (suc n) (x ∷ xs) (y ∷ ys) common here c d i j same v are =
    (are.0, are.1 + here, are.2, are.3, agreed_one n xs ys are.1 here c d i j same v are.4, let sum = are.5 in omega arith)

pub agreed_more : (n : ℕ) (cs ds : List CoreState) (common here : ℕ) (c d : CoreState) → slice_get cs n ≡ Some c → slice_get ds n ≡ Some d → c.config ≡ d.config → IsVerdictOn c d (verdict.Agree here)
    → AreAgreed cs ds n common → AreAgreed cs ds (n + 1) (common + here)
agreed_more n cs ds common here c d i j same v are =
    let one : suc n ≡ n + 1 = omega arith in
    subst (λ k. AreAgreed cs ds k (common + here)) one (agreed_one n cs ds common here c d i j same v are)

-- the next eras of the second node have the first one's next configuration
followed : (x y f g : CoreState) (fs gs : List CoreState) (common : ℕ) → x.config ≡ y.config → IsMadeAgain x → IsMadeAgain y → IsVerdictOn x y (verdict.Agree common)
    → AreErasFrom (next_of x) (f ∷ fs) → AreErasFrom (next_of y) (g ∷ gs) → AreErasFrom (next_of x) (g ∷ gs)
followed x y f g fs gs common same made_x made_y is are_f are_g =
    let one = next_same x y same made_x made_y common is f.config g.config are_f.0 are_g.0 in
    subst (λ (o : Option Config). AreErasFrom o (g ∷ gs)) (are_g.0 ∙ ap Some (sym one) ∙ sym are_f.0) are_g

-- so the next era of the two has one configuration
pub same_config : (n : ℕ) (next : Option Config) (cs ds : List CoreState) (common : ℕ) → AreErasFrom next cs → AreErasFrom next ds → AreAgreed cs ds n common
    → (c d : CoreState) → slice_get cs n ≡ Some c → slice_get ds n ≡ Some d → c.config ≡ d.config
same_config n next [] ds common are_c are_d are c d i j = absurd cc
same_config n next (x ∷ xs) [] common are_c are_d are c d i j = absurd cc
same_config zero next (x ∷ xs) (y ∷ ys) common are_c are_d are c d i j =
    let p : x ≡ c = cc in
    let q : y ≡ d = cc in
    let both : Some x.config ≡ Some y.config = sym are_c.0 ∙ are_d.0 in
    let same : x.config ≡ y.config = cc in
    ap (λ (k : CoreState). k.config) (sym p) ∙ same ∙ ap (λ (k : CoreState). k.config) q
same_config (suc n) next (x ∷ []) (y ∷ ys) common are_c are_d are c d i j = absurd cc
same_config (suc n) next (x ∷ f ∷ fs) (y ∷ []) common are_c are_d are c d i j = absurd cc
same_config (suc n) next (x ∷ f ∷ fs) (y ∷ g ∷ gs) common are_c are_d are c d i j =
    same_config n (next_of x) (f ∷ fs) (g ∷ gs) are.1 are_c.2 (followed x y f g fs gs are.0 are.2 are_c.1 are_d.1 are.3 are_c.2 are_d.2) are.4 c d i j

none_left : (n : ℕ) (ds : List CoreState) (common : ℕ) → AreAgreed [] ds n common → common ≡ 0
none_left zero ds common are = are
none_left (suc n) ds common are = absurd are

none_right : (n : ℕ) (c : CoreState) (cs : List CoreState) (common : ℕ) → AreAgreed (c ∷ cs) [] n common → common ≡ 0
none_right zero c cs common are = are
none_right (suc n) c cs common are = absurd are

-- all eras that both have agree
all_agree : (n : ℕ) (next : Option Config) (cs ds : List CoreState) (common : ℕ) → AreErasFrom next cs → AreErasFrom next ds → AreAgreed cs ds n common → (length cs ≤ n) ⊎ (length ds ≤ n)
    → ErasAgree real next (map era_of cs) (map era_of ds) common
all_agree n next [] ds common are_c are_d are end = none_left n ds common are
all_agree n next (c ∷ cs) [] common are_c are_d are end = none_right n c cs common are
all_agree n None (c ∷ cs) (d ∷ ds) common are_c are_d are end = absurd (let bad = are_c.0 in cc)
all_agree zero (Some config) (c ∷ cs) (d ∷ ds) common are_c are_d are end = absurd (elim end [ inl le ↦ omega arith | inr le ↦ omega arith ])
all_agree (suc n) (Some config) (c ∷ []) (d ∷ ds) common are_c are_d are end =
    let same : c.config ≡ config = (let e = are_c.0 in cc) in
    subst (λ (k : Config). ErasAgree real (Some k) (map era_of (c ∷ [])) (map era_of (d ∷ ds)) common) same
    (are.0, are.1, verdict_in c d are.2 are_c.1 are_d.1 (verdict.Agree are.0) are.3, none_left n ds are.1 are.4, are.5)
all_agree (suc n) (Some config) (c ∷ f ∷ fs) (d ∷ []) common are_c are_d are end =
    let same : c.config ≡ config = (let e = are_c.0 in cc) in
    subst (λ (k : Config). ErasAgree real (Some k) (map era_of (c ∷ f ∷ fs)) (map era_of (d ∷ [])) common) same
    (are.0, are.1, verdict_in c d are.2 are_c.1 are_d.1 (verdict.Agree are.0) are.3, none_right n f fs are.1 are.4, are.5)
all_agree (suc n) (Some config) (c ∷ f ∷ fs) (d ∷ g ∷ gs) common are_c are_d are end =
    let same : c.config ≡ config = (let e = are_c.0 in cc) in
    let rest = followed c d f g fs gs are.0 are.2 are_c.1 are_d.1 are.3 are_c.2 are_d.2 in
    let later : (length (f ∷ fs) ≤ n) ⊎ (length (g ∷ gs) ≤ n) = elim end [ inl le ↦ inl (omega arith) | inr le ↦ inr (omega arith) ] in
    subst (λ (k : Config). ErasAgree real (Some k) (map era_of (c ∷ f ∷ fs)) (map era_of (d ∷ g ∷ gs)) common) same
    (are.0, are.1, verdict_in c d are.2 are_c.1 are_d.1 (verdict.Agree are.0) are.3, all_agree n (next_of c) (f ∷ fs) (g ∷ gs) are.1 are_c.2 rest are.4 later, are.5)

-- the first era that doesn't agree
differ_at : (n : ℕ) (next : Option Config) (cs ds : List CoreState) (common : ℕ) → AreErasFrom next cs → AreErasFrom next ds → AreAgreed cs ds n common
    → (c d : CoreState) → slice_get cs n ≡ Some c → slice_get ds n ≡ Some d → (v : Verdict) → IsNoAgreement v → IsVerdictOn c d v
    → ErasDiffer real next (map era_of cs) (map era_of ds) n c.config v
differ_at n next [] ds common are_c are_d are c d i j v none is = absurd cc
differ_at n next (x ∷ xs) [] common are_c are_d are c d i j v none is = absurd cc
differ_at n None (x ∷ xs) (y ∷ ys) common are_c are_d are c d i j v none is = absurd (let bad = are_c.0 in cc)
differ_at zero (Some config) (x ∷ xs) (y ∷ ys) common are_c are_d are c d i j v none is =
    let p : c ≡ x = cc in
    let q : d ≡ y = cc in
    let same : x.config ≡ config = (let e = are_c.0 in cc) in
    let both : Some x.config ≡ Some y.config = sym are_c.0 ∙ are_d.0 in
    let alike : x.config ≡ y.config = cc in
    let there = subst (λ (k : CoreState). IsVerdictOn k y v) p (subst (λ (k : CoreState). IsVerdictOn c k v) q is) in
    subst (λ (k : Config). ErasDiffer real (Some k) (map era_of (x ∷ xs)) (map era_of (y ∷ ys)) 0 c.config v) same
    (ap (λ (k : CoreState). k.config) p, verdict_in x y alike are_c.1 are_d.1 v there, none)
differ_at (suc n) (Some config) (x ∷ []) (y ∷ ys) common are_c are_d are c d i j v none is = absurd cc
differ_at (suc n) (Some config) (x ∷ f ∷ fs) (y ∷ []) common are_c are_d are c d i j v none is = absurd cc
differ_at (suc n) (Some config) (x ∷ f ∷ fs) (y ∷ g ∷ gs) common are_c are_d are c d i j v none is =
    let same : x.config ≡ config = (let e = are_c.0 in cc) in
    let rest = followed x y f g fs gs are.0 are.2 are_c.1 are_d.1 are.3 are_c.2 are_d.2 in
    subst (λ (k : Config). ErasDiffer real (Some k) (map era_of (x ∷ f ∷ fs)) (map era_of (y ∷ g ∷ gs)) (suc n) c.config v) same
    (are.0, verdict_in x y are.2 are_c.1 are_d.1 (verdict.Agree are.0) are.3, differ_at n (next_of x) (f ∷ fs) (g ∷ gs) are.1 are_c.2 rest are.4 c d i j v none is)

-- ---- the audit of all eras

module _ (cs ds : List CoreState) (left : AreNodeEras cs) (right : AreNodeEras ds) (first : first_config cs ≡ first_config ds) where
  abbrev right_from : AreErasFrom (first_config cs) ds
  right_from = subst (λ (o : Option Config). AreErasFrom o ds) (sym first) right.eras

  pub one_config : (n common : ℕ) → AreAgreed cs ds n common → (c d : CoreState) → slice_get cs n ≡ Some c → slice_get ds n ≡ Some d → c.config ≡ d.config
  one_config n common are c d i j = same_config n (first_config cs) cs ds common left.eras right_from are c d i j

  -- there is a first configuration
  begins_with : (config : Config) × (first_config cs ≡ Some config)
  begins_with = go cs left.some
    where
      go : (xs : List CoreState) → 1 ≤ length xs → (config : Config) × (first_config xs ≡ Some config)
      go [] le = absurd (omega arith)
      go (x ∷ xs) le = (x.config, refl)

  module _ (n common : ℕ) (are : AreAgreed cs ds n common) where
    pub all_agreed : (length cs ≤ n) ⊎ (length ds ≤ n) → IsVerdictOnEras cs ds (eras.Agree common)
    all_agreed end config is = subst (λ (o : Option Config). ErasAgree real o (map era_of cs) (map era_of ds) common) is (all_agree n (first_config cs) cs ds common left.eras right_from are end)

    pub all_accounted : (length cs ≤ n) ⊎ (length ds ≤ n) → IsAccounted cs ds (eras.Agree common)
    all_accounted end =
        let k = begins_with in
        agreeing real k.0 (map era_of cs) (map era_of ds) common (nodes_eras cs k.0 left k.1) (nodes_eras ds k.0 right (sym first ∙ k.1)) (all_agreed end k.0 k.1)

    module _ (c d : CoreState) (i : slice_get cs n ≡ Some c) (j : slice_get ds n ≡ Some d) (v : Verdict) (none : IsNoAgreement v) (is : IsVerdictOn c d v) where
      differs : (config : Config) → first_config cs ≡ Some config → ErasDiffer real (Some config) (map era_of cs) (map era_of ds) n c.config v
      differs config e = subst (λ (o : Option Config). ErasDiffer real o (map era_of cs) (map era_of ds) n c.config v) e (differ_at n (first_config cs) cs ds common left.eras right_from are c d i j v none is)

      pub one_differs : IsVerdictOnEras cs ds (eras.At n v)
      one_differs config e = (c.config, differs config e)

      pub one_accounted : IsAccounted cs ds (eras.At n v)
      one_accounted core e =
          let k = begins_with in
          let same : c ≡ core = (let both : Some c ≡ Some core = sym i ∙ e in cc) in
          let all = differing real k.0 c.config (map era_of cs) (map era_of ds) n v (nodes_eras cs k.0 left k.1) (nodes_eras ds k.0 right (sym first ∙ k.1)) (differs k.0 k.1) in
          subst (λ (x : CoreState). IsAccountable x.config.ftt v) same all

-- ---- no more blocks are decided than units are settled, and one

steps_bound : (n : ℕ) (parent : Node → Option Node) (y : Node) → height_within n parent y ≤ n
unfolding height_within
steps_bound zero parent y = omega arith
steps_bound (suc n) parent y = go (parent y) (λ p. steps_bound n parent p)
  where
    go : (o : Option Node) → ((p : Node) → height_within n parent p ≤ n) → (elim o as (λ z. ℕ) [ None ↦ 0 | Some p ↦ 1 + height_within n parent p ]) ≤ suc n
    go None less = omega arith
    go (Some p) less = (let one = less p in omega arith)

height_bound : (weights : List ℕ) (units : List Node) (y : Node) → height_of weights units y ≤ length units
unfolding height_of
height_bound weights units y = steps_bound (length units) (unit_fork weights units) y

few_decided : (c : CoreState) → length (decided_in c) ≤ length (settled_in c) + 1
few_decided c = go (length (decided_in c)) refl
  where
    go : (n : ℕ) → length (decided_in c) ≡ n → n ≤ length (settled_in c) + 1
    go zero e = omega arith
    go (suc m) e =
        let s = setting_of c.config in
        let are = decisions_are s c.journal (one_block_each s c.journal) in
        let d = numbered (λ (d : Decision). d.height) 0 (decided_in c) (heights s c.journal (decided_in c) are) m (omega arith) (omega arith) in
        let r = record_in s c.journal (decided_in c) are d.0 d.1 in
        let is = record_height s c.journal d.0 r in
        let low = height_bound c.config.weights (settled_in c) r.block in
        let tall = d.2 in
        omega arith

pub is_short : (c d : CoreState) (v : Verdict) → length (settled_in c) < 2 ^ 32 → IsVerdictOn c d v → IsShort v
is_short c d (verdict.Agree common) few is =
    let most = few_decided c in
    let least = is.1.shorter in
    omega arith
is_short c d (verdict.Conflict height a b culprits weight) few is = tt
is_short c d (verdict.Clash a b) few is = tt

pub answers_short : (c d : CoreState) (r : Result Verdict AuditError) → length (settled_in c) < 2 ^ 32 → IfOk r (λ v. IsVerdictOn c d v) → IfOk r IsShort
answers_short c d (Ok v) few is = is_short c d v few is
answers_short c d (Err e) few is = tt

-- ---- the loop

-- the eras below this one agree, in so many blocks, and behind era 0 the first configurations are one
pub record Audited (cs ds : List CoreState) (era common : ℕ) : Type 0 where
  pub agreed : AreAgreed cs ds era common
  pub first : 0 < era → first_config cs ≡ first_config ds
  pub short : common ≤ era * 2 ^ 32

no_agreement : (v : Verdict) → ((common : ℕ) → v ≡ verdict.Agree common → ⊥) → IsNoAgreement v
no_agreement (verdict.Agree common) other = absurd (other common refl)
no_agreement (verdict.Conflict height a b culprits weight) other = tt
no_agreement (verdict.Clash a b) other = tt

-- the shorter of two lists is at an end
pub shorter : (m n k : ℕ) → min m n ≤ k → (m ≤ k) ⊎ (n ≤ k)
shorter m n k le = elim (cases_lt k m) [
  | inr less ↦ inl less
  | inl more ↦ inr (omega arith)
]

-- no verdict on one era, and on all
abbrev unsaid : AuditError → Result Verdict AuditError
unsaid fault = Err fault

abbrev unsaid_of_all : AuditError → Result EraVerdict AuditError
unsaid_of_all fault = Err fault

module _ (cs ds : List CoreState) (left : AreNodeEras cs) (right : AreNodeEras ds) (era common : ℕ) (so_far : Audited cs ds era common)
    (c d : CoreState) (i : slice_get cs era ≡ Some c) (j : slice_get ds era ≡ Some d) where
  -- where the two nodes have one configuration in this era, they have one in era 0
  first_known : c.config ≡ d.config → first_config cs ≡ first_config ds
  first_known same = go era i j so_far.first
    where
      go : (n : ℕ) → slice_get cs n ≡ Some c → slice_get ds n ≡ Some d → (0 < n → first_config cs ≡ first_config ds) → first_config cs ≡ first_config ds
      go zero e f known = ap (option_map (λ (k : CoreState). k.config)) e ∙ ap Some same ∙ sym (ap (option_map (λ (k : CoreState). k.config)) f)
      go (suc n) e f known = known (omega arith)

  -- no verdict: the configurations of era 0 differ, or there was no memory
  pub fault_is : (fault : AuditError) → (c.config ≢ d.config) ↔ (unsaid fault ≡ unsaid fault_of.Instances) → AreOfDifferent cs ds ↔ (unsaid_of_all fault ≡ unsaid_of_all fault_of.Instances)
  fault_is fault instances = (
    λ differ. (let bad = instances.0 (λ same. differ (first_known same)) in let is : fault ≡ fault_of.Instances = cc in ap unsaid_of_all is),
    λ e. λ first. (let is : fault ≡ fault_of.Instances = cc in instances.1 (ap unsaid is) (one_config cs ds left right first era common so_far.agreed c d i j)),
  )

  module _ (v : Verdict) (instances : (c.config ≢ d.config) ↔ (Ok v ≡ unsaid fault_of.Instances)) (is : IsVerdictOn c d v) where
    same : c.config ≡ d.config
    same = same_configs c.config d.config (λ differ. let bad = instances.0 differ in cc)

    abbrev first : first_config cs ≡ first_config ds
    first = first_known same

    pub more : (here : ℕ) → v ≡ verdict.Agree here → IsShort v → Audited cs ds (era + 1) (common + here)
    more here agree short =
        let few : here ≤ 2 ^ 32 = subst IsShort agree short in
        let so = so_far.short in
        record {
          agreed = agreed_more era cs ds common here c d i j same (subst (λ (w : Verdict). IsVerdictOn c d w) agree is) so_far.agreed;
          first = λ lt. first;
          short = omega arith;
        }

    module _ (other : (here : ℕ) → v ≡ verdict.Agree here → ⊥) where
      pub at_instances : AreOfDifferent cs ds ↔ (Ok (eras.At era v) ≡ unsaid_of_all fault_of.Instances)
      at_instances = (λ differ. absurd (differ first), λ e. absurd cc)

      pub at_verdict : IsVerdictOnEras cs ds (eras.At era v)
      at_verdict = one_differs cs ds left right first era common so_far.agreed c d i j v (no_agreement v other) is

      pub at_eras : ShowsFirstClash (setting_of c.config) c.journal d.journal v → IsVerdictByEras cs ds (eras.At era v)
      at_eras first_shown = record {
        before = common;
        agreed = so_far.agreed;
        first = c;
        first_is = i;
        second = d;
        second_is = j;
        one_config = same;
        is_verdict = is;
        shows_first = first_shown;
        other = no_agreement v other;
      }

      pub at_accounted : IsAccounted cs ds (eras.At era v)
      at_accounted = one_accounted cs ds left right first era common so_far.agreed c d i j v (no_agreement v other) is

module _ (cs ds : List CoreState) (left : AreNodeEras cs) (right : AreNodeEras ds) (era common : ℕ) (so_far : Audited cs ds era common) (end : min (length cs) (length ds) ≤ era) where
  begun : 0 < era
  begun = (let some = left.some in let other = right.some in omega arith)

  pub end_verdict : IsVerdictOnEras cs ds (eras.Agree common)
  end_verdict = all_agreed cs ds left right (so_far.first begun) era common so_far.agreed (shorter (length cs) (length ds) era end)

  pub end_eras : era ≤ min (length cs) (length ds) → IsVerdictByEras cs ds (eras.Agree common)
  end_eras le = subst (λ (n : ℕ). AreAgreed cs ds n common) (omega arith) so_far.agreed

  pub end_accounted : IsAccounted cs ds (eras.Agree common)
  end_accounted = all_accounted cs ds left right (so_far.first begun) era common so_far.agreed (shorter (length cs) (length ds) era end)
