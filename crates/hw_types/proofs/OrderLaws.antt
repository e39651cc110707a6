-- Journals that say the same make the same known.
use Rattle.std.proofs.Common.{◌≡◌, ℕ, ◌⊎◌, inl, inr, Bool, true, false, cond, not, List, [], ◌∷◌, ◌++◌, Option, Some, None, Result, Ok, Err, refl, sym, ap, subst, ◌∙◌, eqb-true, eq-eqb}
use Rattle.std.specs.Prelude.{map, filter, filter_map, fold, is_none, ◌==◌, nat_le, length}
use Rattle.std.specs.List.{list_any}
use Rattle.std.proofs.lemmas.List.Elements.{filter_map-append}
use lib.Pointwise.{pointwise_decides, bytes_decides}
use Rattle.hw_types.specs.declared.unit.Digest.{Digest}
use Rattle.hw_types.specs.declared.unit.Obs.{Obs}
use Rattle.hw_types.specs.declared.unit.Obs.TheVariants.{Absent, Correct, Faulty}
use Rattle.hw_types.specs.declared.unit.WireUnit.{WireUnit}
use Rattle.hw_types.specs.declared.unit.SignedUnit.{SignedUnit}
use Rattle.hw_types.specs.declared.unit.Vertex.{Vertex}
use Rattle.hw_types.specs.declared.unit.Vertex.TheVariants as vertex
use Rattle.hw_types.specs.declared.config.Config.{Config}
use Rattle.hw_types.specs.declared.answers.Cause.{Cause}
use Rattle.hw_types.specs.declared.answers.Cause.TheVariants as cause
use Rattle.hw_types.specs.declared.answers.Rule.{Rule}
use Rattle.hw_types.specs.declared.answers.Receipt.{Receipt}
use Rattle.hw_types.specs.declared.answers.Receipt.TheVariants as receipt
use Rattle.hw_types.specs.Graph.{Node, digest_eq}
use Rattle.hw_types.specs.Below.{Among}
use Rattle.hw_types.specs.ByName.{by_name}
use Rattle.hw_types.specs.Same.{obs_eq, value_eq, unit_eq}
use Rattle.hw_types.specs.Rules.{local_rule}
use Rattle.hw_types.specs.Settled.{Received, validators, has_evidence, settled_of, is_faulty, panorama_of, fork_choice, faulty_weight}
use Rattle.hw_types.specs.Summit.{Stands}
use Rattle.hw_types.specs.Journal.{Setting, named, unit_of_vertex, evidence_in, endorsement_in, pairs_of, received_of, refusal, is_repeat, clashes, is_park_full, receipt_of, answer, is_accepted, journal_after, journal_of}
use Rattle.hw_types.specs.laws.StateLaws.{units_in, SaysTheSame, NamesApart, HasSameState}
use Rattle.hw_types.proofs.ClosureLaws.{Within}
use Rattle.hw_types.proofs.PastLaws.{any_within}
use Rattle.hw_types.proofs.StableLaws.{OneName, and_parts, and_whole, both_ways}
use Rattle.hw_types.proofs.SettledLaws.{digest_same, digest_self}
use Rattle.hw_types.proofs.WordsLaws.{any_none, not_false, and_none}
use Rattle.hw_types.proofs.EntryLaws.{entries_same, append_cases, in_by_name, by_name_in, name_of, unit_of, entries_are, mapped_among}
use Rattle.hw_types.proofs.JournalLaws.{pair_key, pair_self, pairs_single, pairs_are, second, filter_alike}

-- ---- the three fields

pub by_name_alike : (xs ys : List Node) → NamesApart ys → Within xs ys → Within ys xs → by_name xs ≡ by_name ys
unfolding by_name
by_name_alike xs ys apart w v = ap (map _) (entries_are xs ∙ entries_same name_of unit_of xs ys
    (λ x y m n e. ap unit_of (apart x y m n (λ i. record { 0 = e i }))) w v ∙ sym (entries_are ys))

pairs_alike : (xs ys : List (Digest × ℕ)) → Within xs ys → Within ys xs → map second (pairs_of xs) ≡ map second (pairs_of ys)
pairs_alike xs ys w v = ap (map second) (pairs_are xs ∙ entries_same pair_key pair_self xs ys (pairs_single ys) w v ∙ sym (pairs_are ys))

evidence_alike : (xs ys us : List ℕ) → Within xs ys → Within ys xs → filter (has_evidence xs) us ≡ filter (has_evidence ys) us
evidence_alike xs ys us w v = filter_alike (has_evidence xs) (has_evidence ys) us
    (λ u. both_ways (has_evidence xs u) (has_evidence ys u) (any_within (λ z. z == u) xs ys w) (any_within (λ z. z == u) ys xs v))

pub received_same : (s : Setting) (left right : List Vertex) → NamesApart (units_in s left) → SaysTheSame s left right → received_of s left ≡ received_of s right
unfolding received_of
received_same s left right apart same =
    let units = by_name_alike (units_in s left) (units_in s right) (λ x y m n e. apart x y (same.units.back x m) (same.units.back y n) e) same.units.to same.units.back in
    let with_evidence = evidence_alike (filter_map evidence_in left) (filter_map evidence_in right) (validators s.config) same.with_evidence.to same.with_evidence.back in
    let pairs = pairs_alike (filter_map endorsement_in left) (filter_map endorsement_in right) same.pairs.to same.pairs.back in
    λ i. record { units = units i; with_evidence = with_evidence i; endorsements = pairs i }

pub state_same : (config : Config) (k l : Received) → k ≡ l → HasSameState config k l
state_same config k l e = record {
  settled = ap (settled_of config) e;
  faulty = λ v. ap (λ (z : Received). is_faulty z (settled_of config z) v) e;
  weight = ap (faulty_weight config) e;
  panorama = ap (panorama_of config) e;
  fork = ap (fork_choice config) e;
  stands = λ block level quorum. (subst (λ z. Stands config z block level quorum) e, subst (λ z. Stands config z block level quorum) (sym e));
}

-- ---- equal units

obs_exact : (o p : Obs) → (obs_eq o p ≡ true → o ≡ p) × (o ≡ p → obs_eq o p ≡ true)
obs_exact Absent Absent = (λ h. refl, λ h. refl)
obs_exact Faulty Faulty = (λ h. refl, λ h. refl)
obs_exact (Correct d) (Correct e) = (λ h. ap Correct (digest_same d e h), λ h. let same : d ≡ e = cc in subst (λ c. digest_eq d c ≡ true) same (digest_self d))
obs_exact Absent (Correct e) = (λ h. absurd cc, λ h. absurd cc)
obs_exact Absent Faulty = (λ h. absurd cc, λ h. absurd cc)
obs_exact Faulty Absent = (λ h. absurd cc, λ h. absurd cc)
obs_exact Faulty (Correct e) = (λ h. absurd cc, λ h. absurd cc)
obs_exact (Correct d) Absent = (λ h. absurd cc, λ h. absurd cc)
obs_exact (Correct d) Faulty = (λ h. absurd cc, λ h. absurd cc)

digest_exact : (d e : Digest) → (digest_eq d e ≡ true → d ≡ e) × (d ≡ e → digest_eq d e ≡ true)
digest_exact d e = (digest_same d e, λ h. subst (λ c. digest_eq d c ≡ true) h (digest_self d))

value_same : (x y : Option (List ℕ)) → value_eq x y ≡ true → x ≡ y
value_same None None h = refl
value_same (Some x) (Some y) h = ap Some ((bytes_decides x y).0 h)
value_same None (Some y) h = absurd cc
value_same (Some x) None h = absurd cc

-- the test says when two units are one
pub unit_same : (u v : WireUnit) → unit_eq u v ≡ true → u ≡ v
unit_same u v h =
    let g7 = and_parts _ _ h in
    let g6 = and_parts _ _ g7.0 in
    let g5 = and_parts _ _ g6.0 in
    let g4 = and_parts _ _ g5.0 in
    let g3 = and_parts _ _ g4.0 in
    let g2 = and_parts _ _ g3.0 in
    let g1 = and_parts _ _ g2.0 in
    let instance = digest_same u.instance v.instance g1.0 in
    let creator = eqb-true u.creator v.creator g1.1 in
    let seq = eqb-true u.seq v.seq g2.1 in
    let time = eqb-true u.time v.time g3.1 in
    let exponent = eqb-true u.exponent v.exponent g4.1 in
    let panorama = (pointwise_decides obs_exact u.panorama v.panorama).0 g5.1 in
    let value = value_same u.value v.value g6.1 in
    let endorsed = (pointwise_decides digest_exact u.endorsed v.endorsed).0 g7.1 in
    λ i. record { instance = instance i; creator = creator i; seq = seq i; time = time i; exponent = exponent i; panorama = panorama i; value = value i; endorsed = endorsed i }

pub unit_self : (u : WireUnit) → unit_eq u u ≡ true
unit_self u =
    and_whole _ _ (and_whole _ _ (and_whole _ _ (and_whole _ _ (and_whole _ _ (and_whole _ _ (and_whole _ _ (digest_self u.instance) (eq-eqb u.creator u.creator refl))
    (eq-eqb u.seq u.seq refl)) (eq-eqb u.time u.time refl)) (eq-eqb u.exponent u.exponent refl))
    ((pointwise_decides obs_exact u.panorama u.panorama).1 refl)) (value_self u.value)) ((pointwise_decides digest_exact u.endorsed u.endorsed).1 refl)
  where
    value_self : (value : Option (List ℕ)) → value_eq value value ≡ true
    value_self None = refl
    value_self (Some bytes) = (bytes_decides bytes bytes).1 refl

-- ---- a journal that deliveries made

names_one : (xs : List Node) → NamesApart xs → OneName xs
names_one xs apart x y d m n s t = apart x y m n (digest_same x.digest d s ∙ sym (digest_same y.digest d t))

-- a unit that isn't refused is the one of its name
refused_none : (s : Setting) (journal : List Vertex) (u : SignedUnit) → refusal s journal (vertex.Unit u) ≡ None → list_any (clashes s u.unit) (received_of s journal).units ≡ false
refused_none s journal u h = go (local_rule s.config s.instance u.unit) (list_any (clashes s u.unit) (received_of s journal).units) refl h
  where
    go : (o : Option Rule) (b : Bool) → list_any (clashes s u.unit) (received_of s journal).units ≡ b
        → elim o as (λ z. Option Cause) [ Some rule ↦ Some (cause.Local rule) | None ↦ elim (cond b (Some (s.name u.unit)) None) as (λ z. Option Cause) [ Some d ↦ Some (cause.Clash d) | None ↦ None ] ] ≡ None
        → b ≡ false
    go (Some r) b e k = absurd cc
    go None true e k = absurd cc
    go None false e k = refl

pub record Accepted (s : Setting) (journal : List Vertex) (v : Vertex) : Type 0 where
  pub not_refused : refusal s journal v ≡ None
  pub not_repeat : is_repeat s journal v ≡ false
  pub room : nat_le s.config.max_records (length journal) ≡ false
  pub park_room : is_park_full s journal v ≡ false

-- what is accepted has a true verdict
pub verdict_is : (s : Setting) (journal : List Vertex) (v : Vertex) (verdict : Bool) → is_accepted (answer s journal v verdict) ≡ true → verdict ≡ true
unfolding answer
verdict_is s journal v true h = refl
verdict_is s journal v false h = h

-- what is accepted isn't refused, and isn't there yet
pub accepted : (s : Setting) (journal : List Vertex) (v : Vertex) (verdict : Bool) → is_accepted (answer s journal v verdict) ≡ true → Accepted s journal v
unfolding answer
accepted s journal v verdict h = go verdict (refusal s journal v) (is_repeat s journal v) (nat_le s.config.max_records (length journal)) (is_park_full s journal v) (receipt_of s journal v) refl refl refl refl h
  where
    go : (ok : Bool) (r : Option Cause) (again full park : Bool) (given : Receipt) → refusal s journal v ≡ r → is_repeat s journal v ≡ again → nat_le s.config.max_records (length journal) ≡ full → is_park_full s journal v ≡ park
        → is_accepted (cond (not ok) (Err cause.BadSignature) (elim r as (λ z. Result Receipt Cause) [ Some c ↦ Err c | None ↦ cond again (Ok receipt.Repeat) (cond full (Err cause.RecordsFull) (cond park (Err cause.ParkFull) (Ok given))) ])) ≡ true
        → Accepted s journal v
    go false r again full park given e f i j k = absurd cc
    go true (Some c) again full park given e f i j k = absurd cc
    go true None true full park given e f i j k = absurd cc
    go true None false true park given e f i j k = absurd cc
    go true None false false true given e f i j k = absurd cc
    go true None false false false given e f i j k = record { not_refused = e; not_repeat = f; room = i; park_room = j }

apart_append : (xs ys : List Node) → NamesApart xs → NamesApart ys → ((x y : Node) → Among x xs → Among y ys → x.digest ≡ y.digest → x ≡ y) → NamesApart (xs ++ ys)
apart_append xs ys a b across x y m n e = go (append_cases x xs ys m) (append_cases y xs ys n)
  where
    go : (Among x xs ⊎ Among x ys) → (Among y xs ⊎ Among y ys) → x ≡ y
    go (inl h) (inl k) = a x y h k e
    go (inl h) (inr k) = across x y h k e
    go (inr h) (inl k) = sym (across y x k h (sym e))
    go (inr h) (inr k) = b x y h k e

-- the units of a vertex
pub unit_vertex : (s : Setting) (v : Vertex) (x : Node) → unit_of_vertex s v ≡ Some x → (u : SignedUnit) × (v ≡ vertex.Unit u) × (x ≡ named s u.unit)
unit_vertex s (vertex.Unit u) x e = (u, refl, go (local_rule s.config s.instance u.unit) e)
  where
    go : (o : Option Rule) → cond (is_none o) (Some (named s u.unit)) None ≡ Some x → x ≡ named s u.unit
    go None h = cc
    go (Some r) h = absurd cc
unit_vertex s (vertex.Evidence e) x h = absurd cc
unit_vertex s (vertex.Endorsement e) x h = absurd cc

pub one_vertex : (s : Setting) (v : Vertex) (x : Node) → Among x (units_in s (v ∷ [])) → unit_of_vertex s v ≡ Some x
one_vertex s v x m = let w = mapped_among (unit_of_vertex s) x (v ∷ []) m in go w.0 w.1 w.2
  where
    go : (w : Vertex) → ((v ≡ w) ⊎ ⊥) → unit_of_vertex s w ≡ Some x → unit_of_vertex s v ≡ Some x
    go w (inl e) h = ap (unit_of_vertex s) e ∙ h
    go w (inr never) h = absurd never

pub in_known : (s : Setting) (journal : List Vertex) → NamesApart (units_in s journal) → (z : Node) → Among z (units_in s journal) → Among z (received_of s journal).units
unfolding received_of
in_known s journal apart z k = in_by_name (units_in s journal) (names_one (units_in s journal) apart) z k

pub received_in : (s : Setting) (journal : List Vertex) (z : Node) → Among z (received_of s journal).units → Among z (units_in s journal)
unfolding received_of
received_in s journal z k = by_name_in (units_in s journal) z k

-- an accepted unit shares its name with no other
pub accepted_apart : (s : Setting) (journal : List Vertex) (v : Vertex) → NamesApart (units_in s journal) → Accepted s journal v
    → (x y : Node) → Among x (units_in s journal) → Among y (units_in s (v ∷ [])) → x.digest ≡ y.digest → x ≡ y
accepted_apart s journal v apart ok x y m n e =
    let u = unit_vertex s v y (one_vertex s v y n) in
    let none = refused_none s journal u.0 (subst (λ w. refusal s journal w ≡ None) u.1 ok.not_refused) in
    let there : Among x (received_of s journal).units = in_known s journal apart x m in
    let no = any_none (clashes s u.0.unit) (received_of s journal).units none x there in
    let name : x.digest ≡ s.name u.0.unit = e ∙ ap (λ (z : Node). z.digest) u.2 in
    let same : u.0.unit ≡ x.unit = unit_same u.0.unit x.unit (not_false _ (and_none _ _ no (subst (λ d. digest_eq d x.digest ≡ true) name (digest_self x.digest)))) in
    (λ i. record { digest = name i; unit = sym same i }) ∙ sym u.2

single_apart : (s : Setting) (v : Vertex) → NamesApart (units_in s (v ∷ []))
single_apart s v x y m n e =
    let same : Some x ≡ Some y = sym (one_vertex s v x m) ∙ one_vertex s v y n in cc

pub apart_after : (s : Setting) (journal : List Vertex) (v : Vertex) → NamesApart (units_in s journal) → Accepted s journal v → NamesApart (units_in s (journal ++ v ∷ []))
apart_after s journal v apart ok = subst NamesApart (sym (filter_map-append (unit_of_vertex s) journal (v ∷ []))) (apart_append (units_in s journal) (units_in s (v ∷ [])) apart (single_apart s v) (accepted_apart s journal v apart ok))

apart_from : (s : Setting) (journal : List Vertex) (deliveries : List (Vertex × Bool)) → NamesApart (units_in s journal) → NamesApart (units_in s (fold (journal_after s) journal deliveries))
apart_from s journal [] apart = apart
apart_from s journal (d ∷ ds) apart = apart_from s (journal_after s journal d) ds (go (is_accepted (answer s journal d.0 d.1)) refl)
  where
    go : (b : Bool) → is_accepted (answer s journal d.0 d.1) ≡ b → NamesApart (units_in s (cond b (journal ++ d.0 ∷ []) journal))
    go true e = apart_after s journal d.0 apart (accepted s journal d.0 d.1 e)
    go false e = apart

pub journal_apart : (s : Setting) (deliveries : List (Vertex × Bool)) → NamesApart (units_in s (journal_of s deliveries))
journal_apart s deliveries = apart_from s [] deliveries (λ x y m n e. absurd m)
