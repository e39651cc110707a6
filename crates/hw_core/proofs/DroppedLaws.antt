-- How many units were dropped.
use Rattle.std.proofs.Common.{◌≡◌, ◌⊎◌, inl, inr, suc, ◌≤◌, true, false, List, [], ◌∷◌, length, map, Some, None, refl, sym, ap, subst, ◌∙◌, arith}
use Rattle.std.specs.List.{AllByRecursion, IsDistinct}
use Rattle.std.specs.Map.{keys_of}
use Rattle.std.proofs.lemmas.List.{length-map}
use Rattle.std.proofs.lemmas.Map.Keys.{IsDistinct-head, IsDistinct-tail}
use Rattle.hw_types.specs.declared.unit.Digest.{Digest}
use Rattle.hw_types.specs.declared.answers.Rule.{Rule}
use Rattle.hw_types.specs.declared.config.Config.{Config}
use Rattle.hw_types.specs.declared.unit.Vertex.{Vertex}
use Rattle.hw_types.specs.Graph.{Node, digest_eq}
use Rattle.hw_types.specs.Below.{Among}
use Rattle.hw_types.specs.ByName.{Before, IsRising}
use Rattle.hw_types.specs.Settled.{Received, dropped_of}
use Rattle.hw_types.specs.Journal.{Setting, received_of}
use Rattle.hw_types.proofs.EntryLaws.{map_among, among_map}
use Rattle.hw_types.proofs.RisingLaws.{never_itself, rising_filter}
use Rattle.hw_types.proofs.JournalLaws.{received_rising}
use Rattle.hw_types.proofs.SettledLaws.{digest_same, digest_self}
use Rattle.hw_types.proofs.WordsLaws.{either, never_both}
use Rattle.hw_core.specs.Settle.{rule_in}
use Rattle.hw_core.specs.Keeps.{AreRules}

-- ---- names without repeats

-- no name comes twice
abbrev pub AreDifferent : List Digest → Type 0
AreDifferent [] = Unit {0}
AreDifferent (d ∷ ds) = (Among d ds → ⊥) × AreDifferent ds

-- the others
record Others (d : Digest) (ds : List Digest) : Type 0 where
  pub rest : List Digest
  pub fewer : length ds ≡ suc (length rest)
  pub kept : (e : Digest) → Among e ds → (d ≡ e) ⊎ Among e rest

others : (d : Digest) (ds : List Digest) → Among d ds → Others d ds
others d [] m = absurd m
others d (e ∷ es) (inl same) = record { rest = es; fewer = refl; kept = λ f m. elim m [ inl h ↦ inl (sym same ∙ h) | inr n ↦ inr n ] }
others d (e ∷ es) (inr m) = go (others d es m)
  where
    go : Others d es → Others d (e ∷ es)
    go o = record {
      rest = e ∷ o.rest;
      fewer = ap suc o.fewer;
      kept = λ f n. elim n [ inl h ↦ inr (inl h) | inr p ↦ elim (o.kept f p) [ inl s ↦ inl s | inr q ↦ inr (inr q) ] ];
    }

pub no_more : (ds es : List Digest) → AreDifferent ds → ((d : Digest) → Among d ds → Among d es) → length ds ≤ length es
no_more [] es apart inside = omega arith
no_more (d ∷ ds) es apart inside =
    let o = others d es (inside d (inl refl)) in
    let fewer = o.fewer in
    let rest = no_more ds o.rest apart.1 (λ e m. elim (o.kept e (inside e (inr m))) [ inl s ↦ absurd (apart.0 (subst (λ (f : Digest). Among f ds) (sym s) m)) | inr q ↦ q ]) in
    omega arith

at_each : {A : Type 0} (P : A → Type 0) (xs : List A) → AllByRecursion P xs → (x : A) → Among x xs → P x
at_each P [] all x m = absurd m
at_each P (y ∷ ys) all x (inl e) = subst P e all.0
at_each P (y ∷ ys) all x (inr m) = at_each P ys all.1 x m

distinct_names : (ds : List Digest) → IsDistinct digest_eq ds → AreDifferent ds
distinct_names [] apart = tt
distinct_names (d ∷ ds) apart = (
  λ m. never_both (digest_eq d d) (digest_self d) (at_each (λ e. digest_eq d e ≡ false) ds (IsDistinct-head digest_eq d ds apart) d m),
  distinct_names ds (IsDistinct-tail digest_eq d ds apart),
)

pub rising_names : (xs : List Node) → IsRising xs → AreDifferent (map (λ (x : Node). x.digest) xs)
rising_names [] rising = tt
rising_names (x ∷ xs) rising = (
  λ m. (let y = map_among (λ (z : Node). z.digest) x.digest xs m in never_itself x (subst (λ (d : Digest). Before x (record { digest = d; unit = x.unit })) y.2 (rising.0 y.0 y.1))),
  rising_names xs rising.1,
)

-- ---- the names that have a rule

key_looked : (d : Digest) (es : List (Digest × Rule)) → Among d (keys_of es) → (rule : Rule) × (rule_in es d ≡ Some rule)
key_looked d [] m = absurd m
key_looked d (e ∷ es) m = elim (either (digest_eq d e.0)) [
  | inl t ↦ (e.1, rw t refl)
  | inr f ↦ elim m [
    | inl same ↦ absurd (never_both (digest_eq d e.0) (subst (λ (c : Digest). digest_eq d c ≡ true) (sym same) (digest_self d)) f)
    | inr n ↦ (let rest = key_looked d es n in (rest.0, rw f rest.1))
  ]
]

looked_key : (d : Digest) (es : List (Digest × Rule)) (rule : Rule) → rule_in es d ≡ Some rule → Among d (keys_of es)
looked_key d [] rule h = absurd (let none : None ≡ Some rule = h in cc)
looked_key d (e ∷ es) rule h = elim (either (digest_eq d e.0)) [
  | inl t ↦ inl (sym (digest_same d e.0 t))
  | inr f ↦ inr (looked_key d es rule (rest f))
]
  where
    rest : digest_eq d e.0 ≡ false → rule_in es d ≡ Some rule
    rest f = (let skipped : rule_in (e ∷ es) d ≡ rule_in es d = rw f refl in sym skipped ∙ h)

dropped_rising : (config : Config) (received : Received) → IsRising received.units → IsRising (dropped_of config received)
unfolding dropped_of
dropped_rising config received rising = rising_filter _ received.units rising

-- as many rules are kept as units are dropped
pub rules_length : (s : Setting) (journal : List Vertex) (rules : List (Digest × Rule)) → AreRules s journal rules → IsDistinct digest_eq (keys_of rules) → length rules ≡ length (dropped_of s.config (received_of s journal))
rules_length s journal rules are apart =
    let dropped = dropped_of s.config (received_of s journal) in
    let most = no_more (keys_of rules) (map (λ (x : Node). x.digest) dropped) (distinct_names (keys_of rules) apart)
    (λ d m. let rule = key_looked d rules m in let x = are.known d rule.0 rule.1 in subst (λ (e : Digest). Among e (map (λ (y : Node). y.digest) dropped)) x.2 (among_map (λ (y : Node). y.digest) x.0 dropped x.1)) in
    let least = no_more (map (λ (x : Node). x.digest) dropped) (keys_of rules) (rising_names dropped (dropped_rising s.config (received_of s journal) (received_rising s journal)))
    (λ d m. let x = map_among (λ (y : Node). y.digest) d dropped m in let rule = are.all x.0 x.1 in subst (λ (e : Digest). Among e (keys_of rules)) x.2 (looked_key x.0.digest rules rule.0 rule.1)) in
    let keys = length-map rules (λ (e : Digest × Rule). e.0) in
    let names = length-map dropped (λ (x : Node). x.digest) in
    omega arith
