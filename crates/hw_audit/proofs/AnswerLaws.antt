-- What is found is the verdict on the two journals.
use Rattle.std.proofs.Common.{◌≡◌, ℕ, ◌⊎◌, inl, inr, Bool, true, false, cond, not, List, [], ◌∷◌, ◌++◌, length, take, drop, min, Option, Some, None, refl, sym, ap, subst, ◌∙◌}
use Rattle.std.specs.Prelude.{◌&&◌, find, map}
use Rattle.std.specs.List.{list_any}
use Rattle.std.specs.Option.{option_map, option_or}
use Rattle.std.proofs.lemmas.List.{take_at, drop_at}
use Rattle.hw_types.specs.declared.unit.Digest.{Digest}
use Rattle.hw_types.specs.declared.unit.WireUnit.{WireUnit}
use Rattle.hw_types.specs.declared.unit.SignedUnit.{SignedUnit}
use Rattle.hw_types.specs.declared.unit.Vertex.{Vertex}
use Rattle.hw_types.specs.declared.config.Config.{Config}
use Rattle.hw_types.specs.declared.answers.Decision.{Decision}
use Rattle.hw_types.specs.declared.answers.Culprit.{Culprit}
use Rattle.hw_types.specs.Graph.{Node, digest_eq}
use Rattle.hw_types.specs.Below.{Among}
use Rattle.hw_types.specs.Same.{unit_eq}
use Rattle.hw_types.specs.Spelling.{digest_of, unit_bytes}
use Rattle.hw_types.specs.Settled.{settled_of}
use Rattle.hw_types.specs.Journal.{named, clashes, received_of}
use Rattle.hw_types.specs.Real.{setting_of}
use Rattle.hw_types.specs.Culprits.{shown_in_either, culprits_of, IsShown, AreCulprits}
use Rattle.hw_types.proofs.PastLaws.{some_of}
use Rattle.hw_types.proofs.StableLaws.{and_parts, and_whole, both_ways}
use Rattle.hw_types.proofs.SettledLaws.{digest_same}
use Rattle.hw_types.proofs.WordsLaws.{never_both, not_true}
use Rattle.hw_types.proofs.OrderedLaws.{among_all, all_among}
use Rattle.hw_safety.specs.declared.verdict.Verdict.{Verdict}
use Rattle.hw_safety.specs.declared.verdict.Verdict.TheVariants as verdict
use Rattle.hw_safety.specs.Verdicts.{held_in, journals_clash, IsClash, chain_of, culprit_weight}
use Rattle.hw_safety.proofs.VerdictWeightLaws.{weigh}
use Rattle.hw_audit.specs.declared.culprits.Blamed.{Blamed}
use Rattle.hw_audit.specs.declared.chains.Parting.{Parting}
use Rattle.hw_audit.specs.Held.{HeldUnit, node_held}
use Rattle.hw_audit.specs.Clashes.{UnitPair, other_of_name, clash_with, first_clash}
use Rattle.hw_audit.specs.Twins.{PairUnits}
use Rattle.hw_audit.specs.Shown.{IsShownBy, ShowsFirst}
use Rattle.hw_audit.specs.Chains.{parting_of}
use Rattle.hw_audit.specs.Read.{units_of, IsRead, IsConflict, IsAnswer}
use Rattle.hw_audit.specs.First.{other_among, first_among, first_of}
use Rattle.hw_audit.proofs.ChainLaws.{part_differs, no_part}
use Rattle.hw_audit.proofs.LinkLaws.{held_signed, signed_held, signed_units, both_shown, both_signed}

-- ---- the first clash

found_first : {A : Type 0} (p : A → Bool) (xs : List A) (x : A) → find p xs ≡ Some x → Among x xs × (p x ≡ true)
found_first p [] x e = absurd cc
found_first {A} p (y ∷ ys) x e = go (p y) refl e (found_first p ys x)
  where
    go : (b : Bool) → p y ≡ b → cond b (Some y) (find p ys) ≡ Some x → (find p ys ≡ Some x → Among x ys × (p x ≡ true)) → Among x (y ∷ ys) × (p x ≡ true)
    go true t f later = let is : y ≡ x = cc in (inl is, subst (λ (z : A). p z ≡ true) is t)
    go false t f later = let rest = later f in (inr rest.0, rest.1)

found_none : {A : Type 0} (p : A → Bool) (xs : List A) (x : A) → find p xs ≡ None → Among x xs → p x ≡ false
found_none p [] x e m = absurd m
found_none {A} p (y ∷ ys) x e m = go (p y) refl e m (found_none p ys x)
  where
    go : (b : Bool) → p y ≡ b → cond b (Some y) (find p ys) ≡ None → ((y ≡ x) ⊎ Among x ys) → (find p ys ≡ None → Among x ys → p x ≡ false) → p x ≡ false
    go true t f k later = absurd cc
    go false t f (inl is) later = subst (λ (z : A). p z ≡ false) is t
    go false t f (inr k) later = later f k

abbrev unlike_of : HeldUnit → HeldUnit → Bool
unlike_of u v = digest_eq v.name u.name && not (unit_eq v.signed.unit u.signed.unit)

-- two units that clash
record Found (l r : List HeldUnit) (p : UnitPair) : Type 0 where
  left : HeldUnit
  right : HeldUnit
  in_left : Among left l
  in_right : Among right r
  one_name : left.name ≡ right.name
  differ : unit_eq left.signed.unit right.signed.unit ≡ false
  left_is : p.left ≡ left.signed.unit
  right_is : p.right ≡ right.signed.unit

clash_some : (l r : List HeldUnit) (p : UnitPair) → first_clash l r ≡ Some p → Found l r p
clash_some l [] p e = absurd cc
clash_some l (u ∷ us) p e = go (find (unlike_of u) l) refl e (clash_some l us p)
  where
    go : (o : Option HeldUnit) → find (unlike_of u) l ≡ o → option_or (clash_with (option_map (λ (v : HeldUnit). v.signed.unit) o) u.signed.unit) (first_clash l us) ≡ Some p
        → (first_clash l us ≡ Some p → Found l us p) → Found l (u ∷ us) p
    go None f g later = let k = later g in record {
      left = k.left;
      right = k.right;
      in_left = k.in_left;
      in_right = inr k.in_right;
      one_name = k.one_name;
      differ = k.differ;
      left_is = k.left_is;
      right_is = k.right_is;
    }
    go (Some v) f g later =
        let is : record { left = v.signed.unit; right = u.signed.unit } ≡ p = cc in
        let m = found_first (unlike_of u) l v f in
        let q = and_parts (digest_eq v.name u.name) (not (unit_eq v.signed.unit u.signed.unit)) m.1 in
        record {
          left = v;
          right = u;
          in_left = m.0;
          in_right = inl refl;
          one_name = digest_same v.name u.name q.0;
          differ = not_true (unit_eq v.signed.unit u.signed.unit) q.1;
          left_is = ap (λ (c : UnitPair). c.left) (sym is);
          right_is = ap (λ (c : UnitPair). c.right) (sym is);
        }

clash_none : (l r : List HeldUnit) → first_clash l r ≡ None → (v u : HeldUnit) → Among v l → Among u r → unlike_of u v ≡ false
clash_none l [] e v u m k = absurd k
clash_none l (w ∷ ws) e v u m k = go (find (unlike_of w) l) refl e k (λ f. clash_none l ws f v u m)
  where
    go : (o : Option HeldUnit) → find (unlike_of w) l ≡ o → option_or (clash_with (option_map (λ (v : HeldUnit). v.signed.unit) o) w.signed.unit) (first_clash l ws) ≡ None
        → ((w ≡ u) ⊎ Among u ws) → (first_clash l ws ≡ None → Among u ws → unlike_of u v ≡ false) → unlike_of u v ≡ false
    go (Some x) f g k later = absurd cc
    go None f g (inr n) later = later g n
    go None f g (inl is) later = subst (λ (z : HeldUnit). unlike_of z v ≡ false) is (found_none (unlike_of w) l v f m)

-- ---- the same clash among the signed units

AreNamed : List HeldUnit → Type 0
AreNamed hs = (h : HeldUnit) → Among h hs → h.name ≡ digest_of h.signed.unit

abbrev signed_of : List HeldUnit → List SignedUnit
signed_of hs = map (λ (h : HeldUnit). h.signed) hs

module _ (config : Config) where
  abbrev clashing : SignedUnit → SignedUnit → Bool
  clashing u v = clashes (setting_of config) v.unit (named (setting_of config) u.unit)

  other_same : (l : List HeldUnit) (u : HeldUnit) → AreNamed l → u.name ≡ digest_of u.signed.unit → other_of_name l u ≡ other_among (setting_of config) (signed_of l) u.signed
  unfolding AreNamed
  other_same [] u named_l n = refl
  other_same (h ∷ hs) u named_l n = go (unlike_of u h) (clashing u.signed h.signed) test (other_same hs u (λ k m. named_l k (inr m)) n)
    where
      test : unlike_of u h ≡ clashing u.signed h.signed
      test = ap (λ (d : Digest). digest_eq d u.name && not (unit_eq h.signed.unit u.signed.unit)) (named_l h (inl refl)) ∙ ap (λ (d : Digest). digest_eq (digest_of h.signed.unit) d && not (unit_eq h.signed.unit u.signed.unit)) n

      go : (a b : Bool) → a ≡ b → other_of_name hs u ≡ other_among (setting_of config) (signed_of hs) u.signed
          → option_map (λ (v : HeldUnit). v.signed.unit) (cond a (Some h) (find (unlike_of u) hs)) ≡ option_map (λ (v : SignedUnit). v.unit) (cond b (Some h.signed) (find (clashing u.signed) (signed_of hs)))
      go true true e later = refl
      go false false e later = later
      go true false e later = absurd cc
      go false true e later = absurd cc

  first_same : (l r : List HeldUnit) → AreNamed l → AreNamed r → first_clash l r ≡ first_among (setting_of config) (signed_of l) (signed_of r)
  unfolding AreNamed
  first_same l [] named_l named_r = refl
  first_same l (u ∷ us) named_l named_r =
      ap (λ (o : Option WireUnit). option_or (clash_with o u.signed.unit) (first_clash l us)) (other_same l u named_l (named_r u (inl refl)))
      ∙ ap (λ (o : Option UnitPair). option_or (clash_with (other_among (setting_of config) (signed_of l) u.signed) u.signed.unit) o) (first_same l us named_l (λ k m. named_r k (inr m)))

module _ (config : Config) (left right : List Vertex) where
  abbrev settled : List Vertex → List Node
  settled journal = settled_of config (received_of (setting_of config) journal)

  -- the clash that was found is one
  clash_is : (p : UnitPair) → first_clash (units_of config left) (units_of config right) ≡ Some p → IsClash (setting_of config) left right (unit_bytes p.left) (unit_bytes p.right)
  clash_is p e =
      let f = clash_some (units_of config left) (units_of config right) p e in
      let v = held_signed (settled left) f.left left f.in_left in
      let u = held_signed (settled right) f.right right f.in_right in
      record {
        first_unit = f.left.signed;
        second_unit = f.right.signed;
        in_left = v.0;
        in_right = u.0;
        one_name = sym v.1 ∙ f.one_name ∙ u.1;
        differ = f.differ;
        first_bytes = ap unit_bytes f.left_is;
        second_bytes = ap unit_bytes f.right_is;
      }

  -- where none was found there is none
  no_clash_is : first_clash (units_of config left) (units_of config right) ≡ None → journals_clash (setting_of config) left right ≡ false
  unfolding journals_clash
  no_clash_is e = both_ways (journals_clash (setting_of config) left right) false (λ h.
      let u = some_of (λ (u : SignedUnit). list_any (λ (w : SignedUnit). clashes (setting_of config) u.unit (named (setting_of config) w.unit)) (held_in right)) (held_in left) h in
      let w = some_of (λ (w : SignedUnit). clashes (setting_of config) u.0.unit (named (setting_of config) w.unit)) (held_in right) u.2 in
      let p = and_parts (digest_eq (digest_of u.0.unit) (digest_of w.0.unit)) (not (unit_eq u.0.unit w.0.unit)) w.2 in
      let a = signed_held (settled left) u.0 left u.1 in
      let b = signed_held (settled right) w.0 right w.1 in
      let an = (held_signed (settled left) a.0 left a.1).1 ∙ ap (λ (z : SignedUnit). digest_of z.unit) a.2 in
      let bn = (held_signed (settled right) b.0 right b.1).1 ∙ ap (λ (z : SignedUnit). digest_of z.unit) b.2 in
      let names : digest_eq a.0.name b.0.name ≡ true = ap (λ (d : Digest). digest_eq d b.0.name) an ∙ ap (λ (d : Digest). digest_eq (digest_of u.0.unit) d) bn ∙ p.0 in
      let units : not (unit_eq a.0.signed.unit b.0.signed.unit) ≡ true = ap (λ (z : SignedUnit). not (unit_eq z.unit b.0.signed.unit)) a.2 ∙ ap (λ (z : SignedUnit). not (unit_eq u.0.unit z.unit)) b.2 ∙ p.1 in
      absurd (never_both (unlike_of b.0 a.0) (and_whole (digest_eq a.0.name b.0.name) (not (unit_eq a.0.signed.unit b.0.signed.unit)) names units)
      (clash_none (units_of config left) (units_of config right) e a.0 b.0 a.1 b.1))) (λ h. absurd cc)

  named_units : (journal : List Vertex) → AreNamed (units_of config journal)
  unfolding AreNamed
  named_units journal h m = (held_signed (settled journal) h journal m).1

  -- it is the first among the signed units of the journals
  first_is : first_clash (units_of config left) (units_of config right) ≡ first_of (setting_of config) left right
  first_is =
      first_same config (units_of config left) (units_of config right) (named_units left) (named_units right)
      ∙ ap (λ (us : List SignedUnit). first_among (setting_of config) us (signed_of (units_of config right))) (signed_units (settled left) left)
      ∙ ap (λ (us : List SignedUnit). first_among (setting_of config) (held_in left) us) (signed_units (settled right) right)

  -- each culprit is shown as the definition asks
  shown_is : (c : Culprit) → IsShownBy (units_of config left ++ units_of config right) (shown_in_either (setting_of config) left right) c → IsShown (setting_of config) left right c
  shown_is c s = record {
    first = node_held s.pair.first;
    second = node_held s.pair.second;
    pair = s.pair_is;
    first_bytes = (s.pair.first.signed, both_signed config left right s.pair.first s.first_in, refl, ap (λ (d : Culprit). d.first) s.culprit_is);
    second_bytes = (s.pair.second.signed, both_signed config left right s.pair.second s.second_in, refl, ap (λ (d : Culprit). d.second) s.culprit_is);
  }

  blamed_are : (b : Blamed) → ShowsFirst (units_of config left ++ units_of config right) (shown_in_either (setting_of config) left right) config.weights (length config.weights) b → AreCulprits (setting_of config) left right b.culprits
  unfolding culprits_of
  blamed_are b s = record {
    validators_are = s.validators_are;
    each = among_all (IsShown (setting_of config) left right) b.culprits (λ c m. shown_is c (all_among (IsShownBy (units_of config left ++ units_of config right) (shown_in_either (setting_of config) left right)) b.culprits s.each c m));
  }

  blamed_weigh : (b : Blamed) → ShowsFirst (units_of config left ++ units_of config right) (shown_in_either (setting_of config) left right) config.weights (length config.weights) b → b.weight ≡ culprit_weight (setting_of config) left right
  unfolding culprits_of
  blamed_weigh b s = s.weight_is ∙ sym (weigh (setting_of config) left right)

module _ (config : Config) (left right : List Vertex) (dl dr : List Decision) (weights : List ℕ) (units : List HeldUnit) (middle : ℕ) (left_chain right_chain : List Digest)
    (read : IsRead config left right dl dr (record { weights = weights; units = units; middle = middle; left_chain = left_chain; right_chain = right_chain })) (l r : List HeldUnit) (front : l ≡ take middle units) (back : r ≡ drop middle units) where
  left_units : l ≡ units_of config left
  left_units = front ∙ ap (take middle) read.units_are ∙ take_at (units_of config left) (units_of config right) middle (sym read.middle_is)

  right_units : r ≡ units_of config right
  right_units = back ∙ ap (drop middle) read.units_are ∙ drop_at (units_of config left) (units_of config right) middle (sym read.middle_is)

  searched : (o : Option UnitPair) → o ≡ first_clash l r → first_clash (units_of config left) (units_of config right) ≡ o
  searched o e = ap (λ (us : List HeldUnit). first_clash us (units_of config right)) (sym left_units) ∙ ap (λ (us : List HeldUnit). first_clash l us) (sym right_units) ∙ sym e

  pub clash_verdict : (p : UnitPair) (v : Verdict) → Some p ≡ first_clash l r → v ≡ verdict.Clash (unit_bytes p.left) (unit_bytes p.right) → IsAnswer config left right dl dr v
  clash_verdict p v e is = subst (λ (w : Verdict). IsAnswer config left right dl dr w) (sym is) (record {
    is_verdict = clash_is config left right p (searched (Some p) e);
    shows_first = record { pair = p; pair_is = sym (first_is config left right) ∙ searched (Some p) e; first_bytes = refl; second_bytes = refl };
  })

  none : None ≡ first_clash l r → journals_clash (setting_of config) left right ≡ false
  none e = no_clash_is config left right (searched None e)

  pub agree_verdict : None ≡ first_clash l r → None ≡ parting_of left_chain right_chain → (common : ℕ) → common ≡ min (length left_chain) (length right_chain) → IsAnswer config left right dl dr (verdict.Agree common)
  agree_verdict e f common is =
      let chains : parting_of (chain_of dl) (chain_of dr) ≡ None = ap (λ (ds : List Digest). parting_of ds (chain_of dr)) (sym read.left_is) ∙ ap (λ (ds : List Digest). parting_of left_chain ds) (sym read.right_is) ∙ sym f in
      let agree = no_part dl dr chains in
      let long = Rattle.hw_safety.proofs.VerdictLaws.chain_length dl in
      let other = Rattle.hw_safety.proofs.VerdictLaws.chain_length dr in
      let left_long = ap (λ (ds : List Digest). length ds) read.left_is in
      let right_long = ap (λ (ds : List Digest). length ds) read.right_is in
      let shorter : common ≡ min (length dl) (length dr) = is ∙ ap (λ (n : ℕ). min n (length right_chain)) (left_long ∙ long) ∙ ap (λ (n : ℕ). min (length dl) n) (right_long ∙ other) in
      record { is_verdict = (none e, record { begins = agree.begins; shorter = shorter }); shows_first = tt }

  pub conflict_verdict : None ≡ first_clash l r → (p : Parting) → Some p ≡ parting_of left_chain right_chain → (v : Verdict)
      → ((nodes : List Node) → Rattle.hw_audit.specs.Twins.AreShown units nodes → IsConflict units nodes weights p.height p.left p.right v) → IsAnswer config left right dl dr v
  conflict_verdict e p f v told =
      let chains : parting_of (chain_of dl) (chain_of dr) ≡ Some p = ap (λ (ds : List Digest). parting_of ds (chain_of dr)) (sym read.left_is) ∙ ap (λ (ds : List Digest). parting_of left_chain ds) (sym read.right_is) ∙ sym f in
      let shown = subst (λ (us : List HeldUnit). Rattle.hw_audit.specs.Twins.AreShown us (shown_in_either (setting_of config) left right)) (sym read.units_are) (both_shown config left right) in
      let c = told (shown_in_either (setting_of config) left right) shown in
      let shows : ShowsFirst (units_of config left ++ units_of config right) (shown_in_either (setting_of config) left right) config.weights (length config.weights) c.blamed =
      subst (λ (us : List HeldUnit). ShowsFirst us (shown_in_either (setting_of config) left right) config.weights (length config.weights) c.blamed) read.units_are
      (subst (λ (ws : List ℕ). ShowsFirst units (shown_in_either (setting_of config) left right) ws (length ws) c.blamed) read.weights_are c.shows) in
      subst (λ (w : Verdict). IsAnswer config left right dl dr w) (sym c.is) (record {
        is_verdict = (none e, record { blocks = part_differs dl dr p chains; culprits_are = blamed_are config left right c.blamed shows; weight_is = blamed_weigh config left right c.blamed shows });
        shows_first = tt;
      })
