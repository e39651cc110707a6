-- What follows for a node and its deliveries.
use Rattle.std.proofs.Common.{◌≡◌, ◌≢◌, inl, inr, ℕ, ◌<◌, Bool, true, false, not, cond, List, [], ◌∷◌, ◌++◌, length, Option, Some, None, refl, sym, ap, subst, subst₂, ◌∙◌, arith, eqb-true}
use Rattle.std.specs.Prelude.{◌==◌, ◌&&◌, fold, nat_lt, nat_le, Result, Ok}
use Rattle.std.proofs.lemmas.Bool.Decides.{nat_tests}
use Rattle.hw_types.specs.declared.unit.Digest.{Digest}
use Rattle.hw_types.specs.declared.unit.Need.{Need}
use Rattle.hw_types.specs.declared.unit.SignedUnit.{SignedUnit}
use Rattle.hw_types.specs.declared.unit.Vertex.{Vertex}
use Rattle.hw_types.specs.declared.unit.Vertex.TheVariants as vertex
use Rattle.hw_types.specs.declared.config.Config.{Config}
use Rattle.hw_types.specs.declared.answers.Rule.{Rule}
use Rattle.hw_types.specs.declared.answers.Rule.TheVariants.{UnknownCreator}
use Rattle.hw_types.specs.declared.answers.PairFault.{PairFault}
use Rattle.hw_types.specs.declared.answers.Receipt.{Receipt}
use Rattle.hw_types.specs.declared.answers.Receipt.TheVariants as receipt
use Rattle.hw_types.specs.declared.answers.Cause.{Cause}
use Rattle.hw_types.specs.declared.answers.Cause.TheVariants as cause
use Rattle.hw_types.specs.Graph.{Node, digest_eq}
use Rattle.hw_types.specs.Below.{Among}
use Rattle.hw_types.specs.Same.{unit_eq}
use Rattle.hw_types.specs.Rules.{state_rule}
use Rattle.hw_types.specs.Settled.{Received, has_evidence, missing_of, settled_of, parked_of, dropped_of, panorama_of, faulty_weight, fork_choice}
use Rattle.hw_types.specs.Journal.{Setting, named, received_of, refusal, clashes, clash_among, is_park_full, receipt_of, newly_settled, answer, journal_after, journal_of, answers_from}
use Rattle.hw_types.specs.Real.{CoreState, setting_of, answer_in, after_in}
use Rattle.hw_types.proofs.WordsLaws.{either, none_any}
use Rattle.hw_types.proofs.SettledLaws.{digest_same}
use Rattle.hw_types.proofs.StableLaws.{and_parts}
use Rattle.hw_types.proofs.JournalLaws.{received_rising, longer_extends}
use Rattle.hw_types.proofs.GrowsLaws.{received_grows}
use Rattle.hw_types.proofs.ReceiptLaws.{tells_where}
use Rattle.hw_types.proofs.BoundLaws.{journal_bounded}
use Rattle.hw_types.proofs.OrderLaws.{Accepted, received_same, journal_apart}
use Rattle.hw_safety.proofs.PairLaws.{delivered_pairs}
use Rattle.hw_core.specs.Deliver.{HasCome}
use Rattle.hw_core.specs.Promises.{begun, delivered, answers_to, DeliveriesAreTheJournal, IsSound, NodesAreSound, TellsTheSame, OrderOfDeliveriesDoesNotCount, IsFreshUnit, WholeUnitIsAdmitted, LackingUnitIsParked, NewEndorsementIsAdmitted, NewEvidenceIsAdmitted, OnlyMemoryRefuses}
use Rattle.hw_core.proofs.AnswerLaws.{answer_taken}
use Rattle.hw_core.proofs.FreshLaws.{fresh_clash, fresh_unit}

-- ---- deliveries

delivered_from : (c : CoreState) (ds : List (Vertex × Bool)) → fold (λ (k : CoreState) (d : Vertex × Bool). after_in k d.0 d.1) c ds ≡ record c { journal = fold (journal_after (setting_of c.config)) c.journal ds }
delivered_from c [] = refl
delivered_from c (d ∷ ds) = delivered_from (after_in c d.0 d.1) ds

answers_are : (c : CoreState) (ds : List (Vertex × Bool)) → answers_to c ds ≡ answers_from (setting_of c.config) c.journal ds
unfolding answers_from
answers_are c [] = refl
answers_are c (d ∷ ds) = ap (λ (rs : List (Result Receipt Cause)). answer_in c d.0 d.1 ∷ rs) (answers_are (after_in c d.0 d.1) ds)

delivered_is : (config : Config) (ds : List (Vertex × Bool)) → delivered config ds ≡ record { config = config; journal = journal_of (setting_of config) ds; asked = None }
delivered_is config ds = delivered_from (begun config) ds

pub deliveries_are : DeliveriesAreTheJournal
deliveries_are config ds = (delivered_is config ds, answers_are (begun config) ds)

pub nodes_sound : NodesAreSound
nodes_sound config ds = subst IsSound (sym (delivered_is config ds)) (record {
  pairs = delivered_pairs (setting_of config) ds;
  records = (journal_bounded (setting_of config) ds).records;
  parked = (journal_bounded (setting_of config) ds).parked;
  apart = journal_apart (setting_of config) ds;
})

-- so is one whose journal deliveries made
pub come_sound : (c : CoreState) → HasCome c.config c.journal → IsSound c
come_sound c come =
    let is = subst IsSound (delivered_is c.config come.0 ∙ ap (λ (vs : List Vertex). record { config = c.config; journal = vs; asked = None }) (sym come.1)) (nodes_sound c.config come.0) in
    record { pairs = is.pairs; records = is.records; parked = is.parked; apart = is.apart }

-- ---- order

tells_same : (config : Config) (left right : List Vertex) → received_of (setting_of config) left ≡ received_of (setting_of config) right → TellsTheSame (record { config = config; journal = left; asked = None }) (record { config = config; journal = right; asked = None })
tells_same config left right e = record {
  settled = ap (λ (k : Received). settled_of config k) e;
  parked = ap (λ (k : Received). parked_of config k) e;
  dropped = ap (λ (k : Received). dropped_of config k) e;
  missing = λ x. ap (λ (k : Received). missing_of config k (settled_of config k) x) e;
  rules = λ x. ap (λ (k : Received). state_rule config (settled_of config k) x) e;
  panorama = ap (λ (k : Received). panorama_of config k) e;
  fork = ap (λ (k : Received). name_of (fork_choice config k)) e;
  weight = ap (λ (k : Received). faulty_weight config k) e;
  exceeded = ap (λ (k : Received). cond (nat_lt config.ftt (faulty_weight config k)) (Some (faulty_weight config k)) None) e;
}
  where
    name_of : Option Node → Option Digest
    name_of None = None
    name_of (Some x) = Some x.digest

pub order_does_not_count : OrderOfDeliveriesDoesNotCount
order_does_not_count config left right same =
    let s = setting_of config in
    subst₂ TellsTheSame (sym (delivered_is config left)) (sym (delivered_is config right))
    (tells_same config (journal_of s left) (journal_of s right) (received_same s (journal_of s left) (journal_of s right) (journal_apart s left) same))

-- ---- a fresh unit

module _ (c : CoreState) (u : SignedUnit) (sound : IsSound c) (is : IsFreshUnit c u) where
  abbrev s : Setting
  s = setting_of c.config

  abbrev v : Vertex
  v = vertex.Unit u

  abbrev k : Received
  k = received_of s c.journal

  abbrev l : Received
  l = received_of s (c.journal ++ v ∷ [])

  abbrev x : Node
  x = named s u.unit

  abbrev clashed : Option Digest → Option Cause
  clashed o = elim o as (λ z. Option Cause) [ Some d ↦ Some (cause.Clash d) | None ↦ None ]

  abbrev refused_by : Option Rule → Option Cause
  refused_by o = elim o as (λ z. Option Cause) [ Some rule ↦ Some (cause.Local rule) | None ↦ clashed (clash_among s k.units u.unit) ]

  not_refused : refusal s c.journal v ≡ None
  not_refused =
      ap (λ (o : Option Rule). refused_by o) is.local
      ∙ ap (λ (b : Bool). clashed (cond b (Some (s.name u.unit)) None)) (none_any (clashes s u.unit) k.units (fresh_clash s c.journal u.unit is.fresh))

  taken : is_park_full s c.journal v ≡ false → Accepted s c.journal v
  taken room = record {
    not_refused = not_refused;
    not_repeat = none_any (λ (y : Node). unit_eq y.unit u.unit) k.units (fresh_unit s c.journal u.unit is.fresh);
    room = (let lt = is.room in grind (arith, nat_tests));
    park_room = room;
  }

  told : (b : Bool) (n : ℕ) (o : Option Rule) → nat_lt 0 (length (missing_of s.config l (settled_of s.config l) x)) ≡ b → length (missing_of s.config l (settled_of s.config l) x) ≡ n → state_rule s.config (settled_of s.config l) x ≡ o
      → receipt_of s c.journal v ≡ cond b (receipt.Parked n) (elim o as (λ z. Receipt) [ Some rule ↦ receipt.Dropped rule | None ↦ receipt.Admitted (newly_settled s c.journal v) ])
  told b n o e f g =
      ap (λ (t : Bool). cond t (receipt.Parked (length (missing_of s.config l (settled_of s.config l) x))) (elim (state_rule s.config (settled_of s.config l) x) as (λ z. Receipt) [ Some rule ↦ receipt.Dropped rule | None ↦ receipt.Admitted (newly_settled s c.journal v) ])) e
      ∙ ap (λ (m : ℕ). cond b (receipt.Parked m) (elim (state_rule s.config (settled_of s.config l) x) as (λ z. Receipt) [ Some rule ↦ receipt.Dropped rule | None ↦ receipt.Admitted (newly_settled s c.journal v) ])) f
      ∙ ap (λ (q : Option Rule). cond b (receipt.Parked n) (elim q as (λ z. Receipt) [ Some rule ↦ receipt.Dropped rule | None ↦ receipt.Admitted (newly_settled s c.journal v) ])) g

  module _ (ok : Accepted s c.journal v) where
    agrees : missing_of s.config l (settled_of s.config l) x ≡ missing_of s.config k (settled_of s.config k) x
    agrees = (tells_where s c.journal u sound.apart ok).missing_agrees

    whole_told : missing_of s.config k (settled_of s.config k) x ≡ [] → state_rule s.config (settled_of s.config k) x ≡ None → answer s c.journal v true ≡ Ok (receipt.Admitted (newly_settled s c.journal v))
    whole_told none kept =
        let verdict = (received_grows s.config k l (received_rising s c.journal) (received_rising s (c.journal ++ v ∷ [])) (longer_extends s c.journal (v ∷ []))).verdict_stays x (ap (λ (ns : List Need). length ns) none) in
        answer_taken s c.journal v ok ∙ ap Ok (told false 0 None (ap (λ (ns : List Need). nat_lt 0 (length ns)) (agrees ∙ none)) (ap (λ (ns : List Need). length ns) (agrees ∙ none)) (verdict ∙ kept))

    lacking_told : 0 < length (missing_of s.config k (settled_of s.config k) x) → answer s c.journal v true ≡ Ok (receipt.Parked (length (missing_of s.config k (settled_of s.config k) x)))
    lacking_told some =
        let long = ap (λ (ns : List Need). length ns) agrees in
        answer_taken s c.journal v ok ∙ ap Ok (told true (length (missing_of s.config k (settled_of s.config k) x)) (state_rule s.config (settled_of s.config l) x) (grind (arith, nat_tests)) long refl)

  pub whole_unit : missing_of s.config k (settled_of s.config k) x ≡ [] → state_rule s.config (settled_of s.config k) x ≡ None → (settled : ℕ) × (answer s c.journal v true ≡ Ok (receipt.Admitted settled))
  whole_unit none kept = (newly_settled s c.journal v, whole_told (taken (ap (λ (ns : List Need). nat_lt 0 (length ns) && nat_le s.config.max_parked (length (parked_of s.config k))) none)) none kept)

  pub lacking_unit : 0 < length (missing_of s.config k (settled_of s.config k) x) → length (parked_of s.config k) < s.config.max_parked
      → answer s c.journal v true ≡ Ok (receipt.Parked (length (missing_of s.config k (settled_of s.config k) x)))
  lacking_unit some few = lacking_told (taken (both (nat_lt 0 (length (missing_of s.config k (settled_of s.config k) x))) (nat_le s.config.max_parked (length (parked_of s.config k))) (grind (arith, nat_tests)))) some
    where
      both : (a b : Bool) → b ≡ false → (a && b) ≡ false
      both true b e = e
      both false b e = refl

pub whole_admitted : WholeUnitIsAdmitted
whole_admitted c u sound is none kept = whole_unit c u sound is none kept

pub lacking_parked : LackingUnitIsParked
lacking_parked c u sound is some few = lacking_unit c u sound is some few

-- ---- endorsements and evidence

pub endorsement_admitted : NewEndorsementIsAdmitted
endorsement_admitted c e known new lt =
    (newly_settled s c.journal v, answer_taken s c.journal v (record { not_refused = ap (λ (b : Bool). cond b (Some (cause.Local UnknownCreator)) None) below; not_repeat = none_any told (received_of s c.journal).endorsements other; room = grind (arith, nat_tests); park_room = refl }))
  where
    s : Setting
    s = setting_of c.config

    v : Vertex
    v = vertex.Endorsement e

    below : nat_le (length c.config.weights) e.endorser ≡ false
    below = grind (arith, nat_tests)

    told : Digest × ℕ → Bool
    told p = digest_eq p.0 e.unit && (p.1 == e.endorser)

    other : (p : Digest × ℕ) → Among p (received_of s c.journal).endorsements → told p ≡ false
    other p m = elim (either (told p)) [
      | inr f ↦ f
      | inl t ↦
          (let parts = and_parts _ _ t in
          let one = digest_same p.0 e.unit parts.0 in
          let two = eqb-true p.1 e.endorser parts.1 in
          absurd (new (subst (λ (q : Digest × ℕ). Among q (received_of s c.journal).endorsements) (λ i. (one i, two i)) m)))
    ]

pub evidence_admitted : NewEvidenceIsAdmitted
evidence_admitted c e pair apart new lt =
    (newly_settled s c.journal v, answer_taken s c.journal v (record { not_refused = not_refused; not_repeat = not_repeat (has_evidence (received_of s c.journal).with_evidence e.left.unit.creator) new; room = grind (arith, nat_tests); park_room = refl }))
  where
    s : Setting
    s = setting_of c.config

    v : Vertex
    v = vertex.Evidence e

    clashed : Option Digest → Option Cause
    clashed o = elim o as (λ z. Option Cause) [ Some d ↦ Some (cause.Clash d) | None ↦ None ]

    not_repeat : (b : Bool) → b ≢ true → b ≡ false
    not_repeat true h = absurd (h refl)
    not_repeat false h = refl

    other : (y : Node) → Among y (named s e.left.unit ∷ []) → clashes s e.right.unit y ≡ false
    other y (inl is) = elim (either (digest_eq (s.name e.right.unit) y.digest)) [
      | inr f ↦ ap (λ (b : Bool). b && not (unit_eq e.right.unit y.unit)) f
      | inl t ↦ absurd (apart (ap (λ (z : Node). z.digest) is ∙ sym (digest_same (s.name e.right.unit) y.digest t)))
    ]
    other y (inr never) = absurd never

    not_refused : refusal s c.journal v ≡ None
    not_refused =
        ap (λ (o : Option PairFault). elim o as (λ z. Option Cause) [ Some f ↦ Some (cause.Pair f) | None ↦ clashed (clash_among s (named s e.left.unit ∷ []) e.right.unit) ]) pair
        ∙ ap (λ (b : Bool). clashed (cond b (Some (s.name e.right.unit)) None)) (none_any (clashes s e.right.unit) (named s e.left.unit ∷ []) other)

pub only_memory : OnlyMemoryRefuses
only_memory cause.OutOfMemory r h = refl
only_memory cause.BadSignature r h = absurd cc
only_memory (cause.Local rule) r h = absurd cc
only_memory (cause.Pair fault) r h = absurd cc
only_memory (cause.Clash d) r h = absurd cc
only_memory cause.RecordsFull r h = absurd cc
only_memory cause.ParkFull r h = absurd cc
