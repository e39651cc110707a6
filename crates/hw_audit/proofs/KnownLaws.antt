-- What is known of a name, unit by unit.
use Rattle.std.proofs.Common.{◌≡◌, Bool, true, false, cond, not, List, [], ◌∷◌, ◌++◌, Option, Some, None, is_some, refl, sym, ap, subst, ◌∙◌}
use Rattle.std.specs.Prelude.{◌&&◌, ◌||◌, find}
use Rattle.std.specs.Option.{option_map, option_or}
use Rattle.hw_types.specs.declared.unit.Digest.{Digest}
use Rattle.hw_types.specs.declared.unit.WireUnit.{WireUnit}
use Rattle.hw_types.specs.Graph.{digest_eq}
use Rattle.hw_types.specs.Same.{unit_eq}
use Rattle.hw_types.proofs.OrderLaws.{unit_same}
use Rattle.hw_audit.specs.Held.{HeldUnit}
use Rattle.std.specs.Map.{lookup}
use Rattle.hw_types.proofs.SettledLaws.{digest_same}
use Rattle.hw_audit.specs.Clashes.{KnownUnits, UnitPair, AreKnown, clash_with, known_with, known_after, unlike, other_of_name, first_clash}
use Rattle.hw_audit.proofs.UnitLaws.{unit_as}
use Rattle.hw_safety.proofs.CulpritPairLaws.{unit_turned}

-- one unit more
pub known_last : (d : Digest) (known : Option KnownUnits) (hs : List HeldUnit) (h : HeldUnit)
    → known_after d known (hs ++ h ∷ []) ≡ cond (digest_eq h.name d) (Some (known_with (known_after d known hs) h.signed.unit)) (known_after d known hs)
known_last d known [] h = refl
known_last d known (g ∷ gs) h = known_last d (cond (digest_eq g.name d) (Some (known_with known g.signed.unit)) known) gs h

-- ---- the first other unit of a name

same_first : (k : KnownUnits) (u w : WireUnit) → unit_eq k.first u ≡ true → unlike (Some (known_with (Some k) u)) w ≡ unlike (Some k) w
same_first k u w e = go (unit_eq k.first u) e k.other
  where
    go : (b : Bool) → b ≡ true → (o : Option WireUnit) → unlike (Some (record { first = k.first; other = cond (is_some o || b) o (Some u) })) w ≡ unlike (Some (record { first = k.first; other = o })) w
    go true h None = refl
    go true h (Some v) = refl
    go false h o = absurd cc

-- one unit more of the name is what is looked for only where nothing was
unlike_with : (known : Option KnownUnits) (u w : WireUnit) → unlike (Some (known_with known u)) w ≡ option_or (unlike known w) (cond (not (unit_eq u w)) (Some u) None)
unlike_with None u w = go (unit_eq u w)
  where
    go : (b : Bool) → cond b None (Some u) ≡ cond (not b) (Some u) None
    go true = refl
    go false = refl
unlike_with (Some k) u w = go k.other (unit_eq k.first u) refl (unit_eq k.first w) refl (unit_eq u w) refl
  where
    go : (o : Option WireUnit) (a : Bool) → unit_eq k.first u ≡ a → (b : Bool) → unit_eq k.first w ≡ b → (c : Bool) → unit_eq u w ≡ c
        → cond b (cond (is_some o || a) o (Some u)) (Some k.first) ≡ option_or (cond b o (Some k.first)) (cond (not c) (Some u) None)
    go o a e false f c g = refl
    go (Some v) a e true f c g = refl
    go None false e true f false g = refl
    go None true e true f true g = refl
    go None true e true f false g = absurd (let one : unit_eq u w ≡ true = sym (unit_as k.first u w e) ∙ f in let no : true ≡ false = sym one ∙ g in cc)
    go None false e true f true g = absurd (let one : unit_eq k.first u ≡ true = unit_turned k.first u ∙ back in let no : true ≡ false = sym one ∙ e in cc)
      where
        back : unit_eq u k.first ≡ true
        back = subst (λ (x : WireUnit). unit_eq u x ≡ true) (sym (unit_same k.first w f)) g

abbrev is_other : Digest → WireUnit → HeldUnit → Bool
is_other d w v = digest_eq v.name d && not (unit_eq v.signed.unit w)

-- what is looked for is found among what is known
unlike_after : (d : Digest) (w : WireUnit) (known : Option KnownUnits) (hs : List HeldUnit)
    → unlike (known_after d known hs) w ≡ option_or (unlike known w) (option_map (λ (v : HeldUnit). v.signed.unit) (find (is_other d w) hs))
unlike_after d w known [] = or_none (unlike known w)
  where
    or_none : (o : Option WireUnit) → o ≡ option_or o None
    or_none None = refl
    or_none (Some v) = refl
unlike_after d w known (h ∷ hs) = go (digest_eq h.name d) refl (unlike_after d w known hs) (unlike_after d w (Some (known_with known h.signed.unit)) hs)
  where
    found : Bool → Option WireUnit
    found b = option_map (λ (v : HeldUnit). v.signed.unit) (cond b (Some h) (find (is_other d w) hs))

    chosen : (o : Option WireUnit) (c : Bool) → option_or (option_or o (cond (not c) (Some h.signed.unit) None)) (option_map (λ (v : HeldUnit). v.signed.unit) (find (is_other d w) hs)) ≡ option_or o (found (not c))
    chosen (Some v) c = refl
    chosen None true = refl
    chosen None false = refl

    go : (b : Bool) → digest_eq h.name d ≡ b
        → unlike (known_after d known hs) w ≡ option_or (unlike known w) (option_map (λ (v : HeldUnit). v.signed.unit) (find (is_other d w) hs))
        → unlike (known_after d (Some (known_with known h.signed.unit)) hs) w ≡ option_or (unlike (Some (known_with known h.signed.unit)) w) (option_map (λ (v : HeldUnit). v.signed.unit) (find (is_other d w) hs))
        → unlike (known_after d (cond b (Some (known_with known h.signed.unit)) known) hs) w ≡ option_or (unlike known w) (found (b && not (unit_eq h.signed.unit w)))
    go false e p q = p
    go true e p q =
        q ∙ ap (λ (o : Option WireUnit). option_or o (option_map (λ (v : HeldUnit). v.signed.unit) (find (is_other d w) hs))) (unlike_with known h.signed.unit w)
        ∙ chosen (unlike known w) (unit_eq h.signed.unit w)

pub unlike_known : (left : List HeldUnit) (u : HeldUnit) → unlike (known_after u.name None left) u.signed.unit ≡ other_of_name left u
unlike_known left u = unlike_after u.name u.signed.unit None left

-- the table with one unit more
pub known_step : (entries new : List (Digest × KnownUnits)) (hs : List HeldUnit) (h : HeldUnit) (next : KnownUnits)
    → AreKnown entries hs → next ≡ known_with (lookup (digest_eq h.name) entries) h.signed.unit
    → ((d : Digest) → lookup (digest_eq d) new ≡ cond (digest_eq h.name d) (Some next) (lookup (digest_eq d) entries)) → AreKnown new (hs ++ h ∷ [])
known_step entries new hs h next table is told d = told d ∙ go (digest_eq h.name d) refl ∙ sym (known_last d None hs h)
  where
    go : (b : Bool) → digest_eq h.name d ≡ b → cond b (Some next) (lookup (digest_eq d) entries) ≡ cond b (Some (known_with (known_after d None hs) h.signed.unit)) (known_after d None hs)
    go false e = table d
    go true e = ap Some (is ∙ ap (λ (k : Option KnownUnits). known_with k h.signed.unit) (table h.name ∙ ap (λ (n : Digest). known_after n None hs) (digest_same h.name d e)))

-- ---- the loop over the right units

pub clash_found : (left : List HeldUnit) (u : HeldUnit) (us : List HeldUnit) (entries : List (Digest × KnownUnits)) (found : Option UnitPair) → AreKnown entries left
    → found ≡ clash_with (unlike (lookup (digest_eq u.name) entries) u.signed.unit) u.signed.unit
    → first_clash left (u ∷ us) ≡ option_or found (first_clash left us)
clash_found left u us entries found table is =
    ap (λ (o : Option UnitPair). option_or o (first_clash left us))
    (ap (λ (o : Option WireUnit). clash_with o u.signed.unit) (sym (unlike_known left u) ∙ ap (λ (k : Option KnownUnits). unlike k u.signed.unit) (sym (table u.name))) ∙ sym is)
