-- The text of a verdict is what the definitions give of the two journals.
use Rattle.std.proofs.Common.{◌≡◌, ℕ, ◌+◌, ◌≤◌, ◌⊎◌, inl, inr, Bool, true, false, cond, List, [], ◌∷◌, ◌++◌, length, take, min, codes, map, Option, Some, None, refl, sym, ap, subst, ◌∙◌, arith, length-append}
use Rattle.std.specs.Prelude.{◌-◌, ◌&&◌, not, find, filter}
use Rattle.std.specs.List.{flat_map, list_any}
use Rattle.std.specs.Option.{option_map, option_or}
use Rattle.std.proofs.lemmas.List.{take_at}
use Rattle.sha2.specs.Sha256.{sha256}
use Rattle.hw_types.specs.declared.unit.Digest.{Digest}
use Rattle.hw_types.specs.declared.unit.WireUnit.{WireUnit}
use Rattle.hw_types.specs.declared.unit.SignedUnit.{SignedUnit}
use Rattle.hw_types.specs.declared.unit.Vertex.{Vertex}
use Rattle.hw_types.specs.declared.config.Config.{Config}
use Rattle.hw_types.specs.declared.answers.Decision.{Decision}
use Rattle.hw_types.specs.declared.answers.Culprit.{Culprit}
use Rattle.hw_types.specs.Graph.{Node, digest_eq}
use Rattle.hw_types.specs.Below.{Among}
use Rattle.hw_types.specs.Same.{unit_eq}
use Rattle.hw_types.specs.Spelling.{digest_of, unit_bytes, signed_bytes}
use Rattle.hw_types.specs.Settled.{settled_of, validators}
use Rattle.hw_types.specs.Journal.{Setting, named, clashes, received_of}
use Rattle.hw_types.specs.Real.{setting_of}
use Rattle.hw_types.specs.Culprits.{shown_in_either, equivocations_of, pair_of, culprits_of, SignedAs, IsShown, AreCulprits}
use Rattle.hw_types.proofs.ClosureLaws.{Among-filter}
use Rattle.hw_types.proofs.WordsLaws.{any_none}
use Rattle.hw_types.proofs.EntryLaws.{append_cases}
use Rattle.hw_types.proofs.OrderedLaws.{all_among}
use Rattle.hw_text.specs.Text.{number_text, digest_text}
use Rattle.hw_text.specs.Lines.{line_feed}
use Rattle.hw_safety.specs.Chain.{Begins}
use Rattle.hw_safety.specs.Verdicts.{held_in, journals_clash, chain_of, AreInAgreement, DifferAt, AreInConflict, culprit_weight}
use Rattle.hw_safety.specs.declared.verdict.Verdict.TheVariants as verdict
use Rattle.hw_safety.proofs.VerdictLaws.{never_apart, one}
use Rattle.hw_safety.proofs.ShownLaws.{paired}
use Rattle.hw_audit.specs.declared.chains.Parting.{Parting}
use Rattle.hw_audit.specs.Held.{HeldUnit, node_held}
use Rattle.hw_audit.specs.Read.{units_of}
use Rattle.hw_audit.specs.Clashes.{UnitPair, clash_with}
use Rattle.hw_audit.specs.First.{other_among, first_among, first_of}
use Rattle.hw_audit.specs.Chains.{parting_of}
use Rattle.hw_audit.specs.Text.{name_in, culprit_line, conflict_line, weight_line}
use Rattle.hw_audit.specs.Told.{pair_line, told_line, conflict_text}
use Rattle.hw_audit.proofs.LinkLaws.{held_signed, both_shown}
use Rattle.hw_audit.proofs.ChainLaws.{part_differs, no_part}

-- ---- a culprit's line

-- each unit that stands in these journals has a signature of 32 bytes
abbrev pub AreSigned : List Vertex → Type 0
AreSigned journal = (u : SignedUnit) → Among u (held_in journal) → length u.signature.0 ≡ 32

-- the name of a unit that is spelled with such a signature
name_is : (u : SignedUnit) → length u.signature.0 ≡ 32 → name_in (signed_bytes u) ≡ digest_of u.unit
unfolding digest_of
name_is u long =
    let front : length (unit_bytes u.unit) ≡ length (signed_bytes u) - 32 = omega (arith, length-append (unit_bytes u.unit) u.signature.0, long) in
    ap (λ (bytes : List ℕ). record { 0 = sha256 bytes }) (take_at (unit_bytes u.unit) u.signature.0 (length (signed_bytes u) - 32) front)

module _ (config : Config) (left right : List Vertex) where
  abbrev s : Setting
  s = setting_of config

  abbrev shown : List Node
  shown = shown_in_either s left right

  -- what is shown is named by its spelling
  named_shown : (x : Node) → Among x shown → x.digest ≡ digest_of x.unit
  named_shown x m =
      let h = (both_shown config left right).back x m in
      let name : h.0.name ≡ digest_of h.0.signed.unit = elim (append_cases h.0 (units_of config left) (units_of config right) h.1) [
        | inl k ↦ (held_signed (settled_of config (received_of s left)) h.0 left k).1
        | inr k ↦ (held_signed (settled_of config (received_of s right)) h.0 right k).1
      ] in
      subst (λ (y : Node). y.digest ≡ digest_of y.unit) h.3 name

  -- the bytes of a shown unit tell its name
  name_told : AreSigned (left ++ right) → (x : Node) (bytes : List ℕ) → Among x shown → SignedAs (left ++ right) x bytes → name_in bytes ≡ x.digest
  name_told signed x bytes m spelled =
      ap name_in spelled.3 ∙ name_is spelled.0 (signed spelled.0 spelled.1) ∙ ap digest_of spelled.2 ∙ sym (named_shown x m)

  pair_same : (v : ℕ) (a b c d : Node) → pair_of shown v ≡ Some (a, b) → pair_of shown v ≡ Some (c, d) → (a ≡ c) × (b ≡ d)
  pair_same v a b c d e f = let both : Some (a, b) ≡ Some (c, d) = sym e ∙ f in let is : (a, b) ≡ (c, d) = cc in (ap (λ (p : Node × Node). p.0) is, ap (λ (p : Node × Node). p.1) is)

  line_told : AreSigned (left ++ right) → (c : Culprit) → Among c.validator (culprits_of s left right) → IsShown s left right c → culprit_line c ≡ told_line s left right c.validator
  unfolding culprits_of culprit_line told_line
  line_told signed c m shown_by =
      let v = c.validator in
      let test = (Among-filter (λ w. list_any (λ x. true) (equivocations_of shown w)) v (validators config) m).1 in
      let pair = paired shown v test in
      let same = pair_same v pair.0 pair.1 shown_by.first shown_by.second pair.2 shown_by.pair in
      let first = name_told signed shown_by.first c.first (subst (λ (x : Node). Among x shown) same.0 pair.3) shown_by.first_bytes in
      let second = name_told signed shown_by.second c.second (subst (λ (x : Node). Among x shown) same.1 pair.4) shown_by.second_bytes in
      ap (λ (d : Digest). codes "culprit " ++ number_text v ++ codes " " ++ digest_text d ++ codes " " ++ digest_text (name_in c.second) ++ line_feed) first
      ∙ ap (λ (d : Digest). codes "culprit " ++ number_text v ++ codes " " ++ digest_text shown_by.first.digest ++ codes " " ++ digest_text d ++ line_feed) second
      ∙ ap (pair_line v) (sym shown_by.pair)

  lines_told : (cs : List Culprit) → ((c : Culprit) → Among c cs → culprit_line c ≡ told_line s left right c.validator) → flat_map culprit_line cs ≡ flat_map (told_line s left right) (map (λ (c : Culprit). c.validator) cs)
  lines_told [] each = refl
  lines_told (c ∷ cs) each =
      ap (λ (line : List ℕ). line ++ flat_map culprit_line cs) (each c (inl refl)) ∙ ap (λ (lines : List ℕ). told_line s left right c.validator ++ lines) (lines_told cs (λ d m. each d (inr m)))

  validator_in : (cs : List Culprit) (c : Culprit) → Among c cs → Among c.validator (map (λ (d : Culprit). d.validator) cs)
  validator_in [] c m = absurd m
  validator_in (d ∷ ds) c (inl is) = inl (ap (λ (e : Culprit). e.validator) is)
  validator_in (d ∷ ds) c (inr m) = inr (validator_in ds c m)

  -- all lines of the culprits
  culprits_told : AreSigned (left ++ right) → (cs : List Culprit) → AreCulprits s left right cs → flat_map culprit_line cs ≡ flat_map (told_line s left right) (culprits_of s left right)
  culprits_told signed cs are =
      lines_told cs (λ c m. line_told signed c (subst (λ (vs : List ℕ). Among c.validator vs) are.validators_are (validator_in cs c m)) (all_among (IsShown s left right) cs are.each c m))
      ∙ ap (flat_map (told_line s left right)) are.validators_are

  -- the text of a conflict
  pub conflict_told : AreSigned (left ++ right) → (dl dr : List Decision) (height : ℕ) (a b : Digest) (cs : List Culprit) (weight : ℕ) → AreInConflict s left right dl dr (record { height = height; left_block = a; right_block = b; culprits = cs; weight = weight })
      → conflict_line height a b ++ flat_map culprit_line cs ++ weight_line weight config.ftt ≡ conflict_text s left right (record { height = height; left = a; right = b })
  unfolding conflict_text
  conflict_told signed dl dr height a b cs weight is =
      ap (λ (lines : List ℕ). conflict_line height a b ++ lines ++ weight_line weight config.ftt) (culprits_told signed cs is.culprits_are)
      ∙ ap (λ (w : ℕ). conflict_line height a b ++ flat_map (told_line s left right) (culprits_of s left right) ++ weight_line w config.ftt) is.weight_is

-- ---- which case it is

module _ (dl dr : List Decision) where
  -- chains in agreement don't differ
  pub agree_differ : (common height : ℕ) (a b : Digest) → AreInAgreement dl dr common → DifferAt dl dr height a b → ⊥
  agree_differ common height a b agree d = elim agree.begins [
    | inl begins ↦ d.differ (never_apart (chain_of dl) (chain_of dr) height a b begins d.left_is d.right_is)
    | inr begins ↦ d.differ (sym (never_apart (chain_of dr) (chain_of dl) height b a begins d.right_is d.left_is))
  ]

  -- chains in agreement part nowhere
  pub agree_part : (common : ℕ) → AreInAgreement dl dr common → parting_of (chain_of dl) (chain_of dr) ≡ None
  agree_part common agree = go (parting_of (chain_of dl) (chain_of dr)) refl
    where
      go : (o : Option Parting) → parting_of (chain_of dl) (chain_of dr) ≡ o → o ≡ None
      go None e = refl
      go (Some p) e = absurd (agree_differ common p.height p.left p.right agree (part_differs dl dr p e))

-- chains that are in conflict part there
pub conflict_part : (s : Setting) (left right : List Vertex) (dl dr : List Decision) (height : ℕ) (a b : Digest) (cs : List Culprit) (weight : ℕ) → journals_clash s left right ≡ false
    → AreInConflict s left right dl dr (record { height = height; left_block = a; right_block = b; culprits = cs; weight = weight }) → parting_of (chain_of dl) (chain_of dr) ≡ Some (record { height = height; left = a; right = b })
conflict_part s left right dl dr height a b cs weight none is = go (parting_of (chain_of dl) (chain_of dr)) refl
  where
    go : (o : Option Parting) → parting_of (chain_of dl) (chain_of dr) ≡ o → o ≡ Some (record { height = height; left = a; right = b })
    go None e = absurd (agree_differ dl dr (min (length dl) (length dr)) height a b (no_part dl dr e) is.blocks)
    go (Some p) e =
        let parts = part_differs dl dr p e in
        let same = one s left right dl dr (verdict.Conflict p.height p.left p.right cs weight) (verdict.Conflict height a b cs weight) (none, record { blocks = parts; culprits_are = is.culprits_are; weight_is = is.weight_is }) (none, is) in
        λ i. Some (record { height = same.0 i; left = same.1 i; right = same.2 i })

-- ---- no clash

none_found : {A : Type 0} (p : A → Bool) (xs : List A) → ((x : A) → Among x xs → p x ≡ false) → find p xs ≡ None
none_found p [] none = refl
none_found {A} p (x ∷ xs) none = ap (λ (b : Bool). cond b (Some x) (find p xs)) (none x (inl refl)) ∙ none_found p xs (λ y m. none y (inr m))

module _ (s : Setting) (ls : List SignedUnit) where
  no_first : (us : List SignedUnit) → ((u v : SignedUnit) → Among u us → Among v ls → clashes s v.unit (named s u.unit) ≡ false) → first_among s ls us ≡ None
  no_first [] none = refl
  no_first (u ∷ us) none =
      ap (λ (o : Option SignedUnit). option_or (clash_with (option_map (λ (v : SignedUnit). v.unit) o) u.unit) (first_among s ls us)) (none_found (λ (v : SignedUnit). clashes s v.unit (named s u.unit)) ls (λ v m. none u v (inl refl) m))
      ∙ no_first us (λ w v m k. none w v (inr m) k)

-- where the test finds none, none is the first
pub none_first : (s : Setting) (left right : List Vertex) → journals_clash s left right ≡ false → first_of s left right ≡ None
unfolding journals_clash
none_first s left right e =
    no_first s (held_in left) (held_in right) (λ u v m k.
    any_none (λ (w : SignedUnit). clashes s v.unit (named s w.unit)) (held_in right)
    (any_none (λ (v : SignedUnit). list_any (λ (w : SignedUnit). clashes s v.unit (named s w.unit)) (held_in right)) (held_in left) e v k) u m)
