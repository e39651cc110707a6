-- The unit of a plan is new, and its delivery is admitted.
use Rattle.std.proofs.Common.{◌≡◌, ◌≢◌, ℕ, ◌+◌, ◌≤◌, ◌<◌, ◌⊎◌, inl, inr, Bool, true, false, cond, not, List, [], ◌∷◌, ◌++◌, length, Option, Some, None, refl, sym, ap, subst, ◌∙◌, arith}
use Rattle.std.specs.Prelude.{◌&&◌, ◌==◌, nat_lt, nat_le, filter, is_none, Ok, Err, Result, fold}
use Rattle.std.specs.List.{list_any}
use Rattle.std.proofs.lemmas.Bool.{lt-leb, le-leb}
use Rattle.hw_types.specs.declared.unit.Obs.{Obs}
use Rattle.hw_types.specs.declared.unit.Obs.TheVariants.{Absent, Correct, Faulty}
use Rattle.hw_types.specs.declared.unit.Signature.{Signature}
use Rattle.hw_types.specs.declared.unit.SignedUnit.{SignedUnit}
use Rattle.hw_types.specs.declared.unit.Vertex.{Vertex}
use Rattle.hw_types.specs.declared.unit.Vertex.TheVariants as vertex
use Rattle.hw_types.specs.declared.answers.Plan.{Plan}
use Rattle.hw_types.specs.declared.answers.Receipt.{Receipt}
use Rattle.hw_types.specs.declared.answers.Receipt.TheVariants as receipt
use Rattle.hw_types.specs.declared.answers.Cause.{Cause}
use Rattle.hw_types.specs.declared.answers.Cause.TheVariants as cause
use Rattle.hw_types.specs.declared.answers.Rule.{Rule}
use Rattle.hw_types.specs.Graph.{slot, observed, Node, node_eq, lane_of, digest_eq}
use Rattle.hw_types.specs.Below.{Among}
use Rattle.hw_types.specs.ByName.{IsRising}
use Rattle.hw_types.specs.Rules.{local_rule, state_rule}
use Rattle.hw_types.specs.Same.{unit_eq}
use Rattle.hw_types.specs.Settled.{missing_of, parked_of}
use Rattle.hw_types.specs.Journal.{Setting, named, unit_of_vertex, received_of, journal_of, clashes, refusal, is_repeat, is_park_full, receipt_of, newly_settled, answer, clash_among, journal_after, is_accepted}
use Rattle.hw_types.specs.laws.StateLaws.{units_in, NamesApart, Grows}
use Rattle.hw_types.specs.Spelling.{Fits, VertexFits}
use Rattle.hw_types.specs.Step.{next_seq}
use Rattle.hw_honest.specs.Plans.{settled_in, observed_over, own_unit, JournalFits, PlanFits, IsPlannedOver, IsPlanned, HasNamesake, delivered, IsAnswered, PlanIsNew, PlanIsAnswered, PlanIsAdmitted}
use Rattle.hw_types.proofs.ClosureLaws.{Within, filter-Among}
use Rattle.hw_types.proofs.PastLaws.{some_of, any_of}
use Rattle.hw_types.proofs.StableLaws.{and_parts, and_whole}
use Rattle.hw_types.proofs.SettledLaws.{digest_same, digest_self}
use Rattle.hw_types.proofs.GraphLaws.{rising_one_name}
use Rattle.hw_types.proofs.WordsLaws.{find_node_is, either, never_both, named_among, none_any}
use Rattle.hw_types.proofs.LawfulLaws.{settled_has, settled_part}
use Rattle.hw_types.proofs.EntryLaws.{mapped_among, among_mapped, append_cases}
use Rattle.hw_types.proofs.LaneLaws.{lane_within, lane_seq}
use Rattle.hw_types.proofs.JournalLaws.{received_rising, longer_extends}
use Rattle.hw_types.proofs.GrowsLaws.{received_grows}
use Rattle.hw_types.proofs.OrderLaws.{unit_same, unit_vertex, in_known, received_in, journal_apart, Accepted, accepted}
use Rattle.hw_types.proofs.ReceiptLaws.{tells_where}
use Rattle.hw_types.proofs.BoundLaws.{rising_length}
use Rattle.hw_honest.proofs.KeptLaws.{graph_of, known, settled, faulty, lawful}
use Rattle.hw_honest.proofs.PlanRuleLaws.{planned_is_over_settled, plan_keeps_rules, step_fits, plan_number, plan_creator, on_last_lane}
use Rattle.hw_types.proofs.ChoiceLaws.{misses}

-- ---- one that fails a test shortens the filtered list

one_longer : (units more : List Node) (x : Node) → IsRising units → IsRising more → Within units more → Among x more → (Among x units → ⊥) → length units < length more
one_longer units more x r t w m new =
    let others = λ (y : Node). not (node_eq y x) in
    let lt = misses others x more m (ap not (digest_self x.digest)) in
    let le = rising_length units (filter others more) r (λ y n. filter-Among others y more (w y n) (ap not (apart y n (either (node_eq y x))))) in
    omega (arith, lt, le)
  where
    apart : (y : Node) → Among y units → ((node_eq y x ≡ true) ⊎ (node_eq y x ≡ false)) → node_eq y x ≡ false
    apart y n (inr e) = e
    apart y n (inl e) = absurd (new (subst (λ z. Among z units) (rising_one_name more t y x x.digest (w y n) m e (digest_self x.digest)) n))

-- ---- answers

module _ (s : Setting) (journal : List Vertex) (v : Vertex) where
  abbrev told : Option Cause → Bool → Bool → Bool → Result Receipt Cause
  told r again full park =
      elim r as (λ z. Result Receipt Cause) [
        | Some c ↦ Err c
        | None ↦ cond again (Ok receipt.Repeat) (cond full (Err cause.RecordsFull) (cond park (Err cause.ParkFull) (Ok (receipt_of s journal v))))
      ]

  answer_is : answer s journal v true ≡ told (refusal s journal v) (is_repeat s journal v) (nat_le s.config.max_records (length journal)) (is_park_full s journal v)
  unfolding answer
  answer_is = refl

  -- a refusal is the answer
  pub answer_refused : (c : Cause) → refusal s journal v ≡ Some c → answer s journal v true ≡ Err c
  answer_refused c e = answer_is ∙ ap (λ r. told r (is_repeat s journal v) (nat_le s.config.max_records (length journal)) (is_park_full s journal v)) e

  -- and where nothing stands against it, the receipt
  pub answer_accepted : Accepted s journal v → answer s journal v true ≡ Ok (receipt_of s journal v)
  answer_accepted ok = answer_is ∙ (let a = ok.not_refused in let b = ok.not_repeat in let c = ok.room in let d = ok.park_room in λ i. told (a i) (b i) (c i) (d i))

-- ---- units of a journal that deliveries made keep the rules of the unit alone

-- each unit of the journal keeps the rules of the unit alone
abbrev LocalUnits : Setting → List Vertex → Type 0
LocalUnits s journal = (u : SignedUnit) → Among (vertex.Unit u) journal → local_rule s.config s.instance u.unit ≡ None

accepted_local : (s : Setting) (journal : List Vertex) (u : SignedUnit) → refusal s journal (vertex.Unit u) ≡ None → local_rule s.config s.instance u.unit ≡ None
accepted_local s journal u h = go (local_rule s.config s.instance u.unit) (elim (clash_among s (received_of s journal).units u.unit) as (λ z. Option Cause) [ Some d ↦ Some (cause.Clash d) | None ↦ None ]) h
  where
    go : (o : Option Rule) (c : Option Cause) → elim o as (λ z. Option Cause) [ Some rule ↦ Some (cause.Local rule) | None ↦ c ] ≡ None → o ≡ None
    go None c k = refl
    go (Some r) c k = absurd cc

local_after : (s : Setting) (journal : List Vertex) (d : Vertex × Bool) → LocalUnits s journal → LocalUnits s (journal_after s journal d)
local_after s journal d all = go (is_accepted (answer s journal d.0 d.1)) refl
  where
    go : (b : Bool) → is_accepted (answer s journal d.0 d.1) ≡ b → LocalUnits s (cond b (journal ++ d.0 ∷ []) journal)
    go false e = all
    go true e = λ u m. elim (append_cases (vertex.Unit u) journal (d.0 ∷ []) m) [
      | inl old ↦ all u old
      | inr (inl new) ↦ accepted_local s journal u (subst (λ v. refusal s journal v ≡ None) new (accepted s journal d.0 d.1 e).not_refused)
      | inr (inr none) ↦ absurd none
    ]

local_from : (s : Setting) (journal : List Vertex) (deliveries : List (Vertex × Bool)) → LocalUnits s journal → LocalUnits s (fold (journal_after s) journal deliveries)
local_from s journal [] all = all
local_from s journal (d ∷ ds) all = local_from s (journal_after s journal d) ds (local_after s journal d all)

journal_local : (s : Setting) (deliveries : List (Vertex × Bool)) → LocalUnits s (journal_of s deliveries)
journal_local s deliveries = local_from s [] deliveries (λ u m. absurd m)

-- ---- the unit of a plan

module _ (s : Setting) (journal : List Vertex) (apart : NamesApart (units_in s journal)) (me now : ℕ) (value : List ℕ) (p : Plan) (planned : IsPlanned s journal me now value p) where
  abbrev x : Node
  x = named s p.unit

  over : IsPlannedOver s (received_of s journal) (settled_in s journal) me now value p
  over = (planned_is_over_settled s journal me now value p planned).1

  missing_none : missing_of s.config (known s (graph_of s journal)) (settled s (graph_of s journal)) x ≡ []
  missing_none = (plan_keeps_rules s journal me now value p planned).needs

  rules_kept : state_rule s.config (settled s (graph_of s journal)) x ≡ None
  rules_kept = (plan_keeps_rules s journal me now value p planned).rules

  -- it isn't settled
  not_settled : Among x (settled s (graph_of s journal)) → ⊥
  not_settled m =
      let t = on_last_lane s (graph_of s journal) me now value p over x m (plan_creator s (graph_of s journal) me now value p over) in
      let on = named_among (settled s (graph_of s journal)) (lane_of (settled s (graph_of s journal)) t.0) x (rising_one_name (settled s (graph_of s journal)) (lawful s (graph_of s journal)).in_order) (lane_within s.config.weights (faulty s (graph_of s journal)) (settled s (graph_of s journal)) (lawful s (graph_of s journal)) t.0) m t.3 in
      let number : p.unit.seq ≡ t.0.unit.seq + 1 = plan_number s (graph_of s journal) me now value p over ∙ ap next_seq t.1 in
      elim (lane_seq s.config.weights (faulty s (graph_of s journal)) (settled s (graph_of s journal)) (lawful s (graph_of s journal)) t.0 x t.2 on) [
        | inl same ↦ (let n = ap (λ (z : Node). z.unit.seq) same in absurd (omega arith))
        | inr lt ↦ absurd (omega arith)
      ]

  -- and no known unit is it
  not_known : (y : Node) → Among y (received_of s journal).units → y.unit ≢ p.unit
  not_known y m e =
      let z = mapped_among (unit_of_vertex s) y journal (received_in s journal y m) in
      let w = unit_vertex s z.0 y z.2 in
      let same : y ≡ x = w.2 ∙ ap (named s) (sym (ap (λ (n : Node). n.unit) w.2) ∙ e) in
      not_settled (settled_has s.config (known s (graph_of s journal)) (received_rising s journal) x (subst (λ n. Among n (received_of s journal).units) same m)
      (and_whole _ _ (ap (λ ns. length ns == 0) missing_none) (ap is_none rules_kept)))

  -- no unit of the journal is it
  pub is_new : (u : SignedUnit) → Among (vertex.Unit u) journal → u.unit ≢ p.unit
  is_new u m e =
      let alone : local_rule s.config s.instance u.unit ≡ None = ap (local_rule s.config s.instance) e ∙ (plan_keeps_rules s journal me now value p planned).alone in
      not_known (named s u.unit) (in_known s journal apart (named s u.unit)
      (among_mapped (unit_of_vertex s) (vertex.Unit u) (named s u.unit) journal m (ap (λ o. cond (is_none o) (Some (named s u.unit)) None) alone))) e

  not_again : list_any (λ y. unit_eq y.unit p.unit) (received_of s journal).units ≡ false
  not_again = none_any (λ y. unit_eq y.unit p.unit) (received_of s journal).units (λ y m. differs y m (either (unit_eq y.unit p.unit)))
    where
      differs : (y : Node) → Among y (received_of s journal).units → ((unit_eq y.unit p.unit ≡ true) ⊎ (unit_eq y.unit p.unit ≡ false)) → unit_eq y.unit p.unit ≡ false
      differs y m (inr e) = e
      differs y m (inl e) = absurd (not_known y m (unit_same y.unit p.unit e))

  module _ (signature : Signature) where
    abbrev signed : SignedUnit
    signed = record { unit = p.unit; signature = signature }

    abbrev v : Vertex
    v = vertex.Unit signed

    abbrev clash : Bool → Option Cause
    clash b = elim (cond b (Some (s.name p.unit)) None) as (λ z. Option Cause) [ Some d ↦ Some (cause.Clash d) | None ↦ None ]

    refusal_is : (b : Bool) → list_any (clashes s p.unit) (received_of s journal).units ≡ b → refusal s journal v ≡ clash b
    refusal_is b e =
        ap (λ o. elim o as (λ z. Option Cause) [ Some rule ↦ Some (cause.Local rule) | None ↦ clash (list_any (clashes s p.unit) (received_of s journal).units) ]) ((plan_keeps_rules s journal me now value p planned).alone)
        ∙ ap clash e

    -- ---- where the name is another unit's

    namesake : list_any (clashes s p.unit) (received_of s journal).units ≡ true → HasNamesake s journal p
    namesake e =
        let y = some_of (clashes s p.unit) (received_of s journal).units e in
        let z = mapped_among (unit_of_vertex s) y.0 journal (received_in s journal y.0 y.1) in
        let w = unit_vertex s z.0 y.0 z.2 in
        let m : Among (vertex.Unit w.0) journal = subst (λ a. Among a journal) w.1 z.1 in
        let name : s.name p.unit ≡ y.0.digest = digest_same (s.name p.unit) y.0.digest (and_parts _ _ y.2).0 in
        (w.0, m, sym (name ∙ ap (λ (n : Node). n.digest) w.2), is_new w.0 m)

    -- ---- where no other has it

    module _ (room : length journal < s.config.max_records) (clear : list_any (clashes s p.unit) (received_of s journal).units ≡ false) where
      accepted_it : Accepted s journal v
      accepted_it = record {
        not_refused = refusal_is false clear;
        not_repeat = not_again;
        room = lt-leb s.config.max_records (length journal) room;
        park_room = ap (λ ns. nat_lt 0 (length ns) && nat_le s.config.max_parked (length (parked_of s.config (known s (graph_of s journal))))) missing_none;
      }

      abbrev later : List Vertex
      later = journal ++ v ∷ []

      grown : Grows s.config (known s (graph_of s journal)) (known s (graph_of s later))
      grown = received_grows s.config (known s (graph_of s journal)) (known s (graph_of s later)) (received_rising s journal) (received_rising s later) (longer_extends s journal (v ∷ []))

      abbrev given : Bool → Option Rule → Receipt
      given b o = cond b (receipt.Parked (length (missing_of s.config (known s (graph_of s later)) (settled s (graph_of s later)) x))) (elim o as (λ z. Receipt) [ Some rule ↦ receipt.Dropped rule | None ↦ receipt.Admitted (newly_settled s journal v) ])

      receipt_is : receipt_of s journal v ≡ receipt.Admitted (newly_settled s journal v)
      receipt_is =
          let before : length (missing_of s.config (known s (graph_of s journal)) (settled s (graph_of s journal)) x) ≡ 0 = ap length missing_none in
          let ready = ap (nat_lt 0) (grown.ready x before) in
          let kept = grown.verdict_stays x before ∙ rules_kept in
          λ i. given (ready i) (kept i)

      more : 1 ≤ newly_settled s journal v
      more =
          let there = (tells_where s journal signed apart accepted_it).admitted (newly_settled s journal v) receipt_is in
          let lt = one_longer (settled s (graph_of s journal)) (settled s (graph_of s later)) x (lawful s (graph_of s journal)).in_order (lawful s (graph_of s later)).in_order grown.settled there not_settled in
          omega (arith, lt)

      admitted : answer s journal v true ≡ Ok (receipt.Admitted (newly_settled s journal v))
      admitted = answer_accepted s journal v accepted_it ∙ ap Ok receipt_is

    abbrev taken : Bool
    taken = list_any (clashes s p.unit) (received_of s journal).units

    clashed : taken ≡ true → delivered s journal p signature ≡ Err (cause.Clash (s.name p.unit))
    clashed e = answer_refused s journal v (cause.Clash (s.name p.unit)) (refusal_is true e)

    -- another unit of that name clashes
    taken_by : LocalUnits s journal → HasNamesake s journal p → taken ≡ true
    taken_by local n =
        let alone = local n.0 n.1 in
        let y = named s n.0.unit in
        let known_it = in_known s journal apart y (among_mapped (unit_of_vertex s) (vertex.Unit n.0) y journal n.1 (ap (λ o. cond (is_none o) (Some y) None) alone)) in
        any_of (clashes s p.unit) y (received_of s journal).units known_it
        (and_whole _ _ (subst (λ d. digest_eq (s.name p.unit) d ≡ true) (sym n.2) (digest_self (s.name p.unit))) (ap not (other (either (unit_eq p.unit n.0.unit)))))
      where
        other : ((unit_eq p.unit n.0.unit ≡ true) ⊎ (unit_eq p.unit n.0.unit ≡ false)) → unit_eq p.unit n.0.unit ≡ false
        other (inr e) = e
        other (inl e) = absurd (n.3 (sym (unit_same p.unit n.0.unit e)))

    free : (HasNamesake s journal p → ⊥) → taken ≡ false
    free none = elim (either taken) [ inr e ↦ e | inl e ↦ absurd (none (namesake e)) ]

    -- the journal is full
    no_room : taken ≡ false → s.config.max_records ≤ length journal → delivered s journal p signature ≡ Err cause.RecordsFull
    no_room e full = answer_is s journal v
        ∙ (let a = refusal_is false e in let b = not_again in let c = le-leb s.config.max_records (length journal) full in λ i. told s journal v (a i) (b i) (c i) (is_park_full s journal v))

    pub is_answered : LocalUnits s journal → IsAnswered s journal p signature
    is_answered local = record {
      decided = elim (either taken) [ inl e ↦ inl (namesake e) | inr e ↦ inr (λ n. never_both _ (taken_by local n) e) ];
      clash = λ n. clashed (taken_by local n);
      full = λ none full. no_room (free none) full;
      admitted = λ none room. (newly_settled s journal v, more room (free none), admitted room (free none));
    }

-- ---- the laws

pub plan_is_new : PlanIsNew
plan_is_new s deliveries me now value p planned = is_new s (journal_of s deliveries) (journal_apart s deliveries) me now value p planned

pub plan_is_answered : PlanIsAnswered
plan_is_answered s deliveries me now value p signature planned = is_answered s (journal_of s deliveries) (journal_apart s deliveries) me now value p planned signature (journal_local s deliveries)

pub plan_is_admitted : PlanIsAdmitted
plan_is_admitted s deliveries me now value p signature planned room =
    let told = plan_is_answered s deliveries me now value p signature planned in
    elim told.decided [
      | inl n ↦ inr (n, told.clash n)
      | inr none ↦ inl (told.admitted none room)
    ]

-- ---- limits of a journal

fit_units : (s : Setting) (journal : List Vertex) → JournalFits journal → (u : Node) → Among u (settled_in s journal) → length u.unit.endorsed ≤ 256
fit_units s journal fits u m =
    let z = mapped_among (unit_of_vertex s) u journal (received_in s journal u ((settled_part s.config (received_of s journal) (received_rising s journal)).part u m)) in
    let w = unit_vertex s z.0 u z.2 in
    let fit : Fits w.0.unit = subst VertexFits w.1 (fits z.0 z.1) in
    subst (λ (n : Node). length n.unit.endorsed ≤ 256) (sym w.2) fit.endorsed

pub plan_fits : PlanFits
plan_fits s journal me now value p planned fits =
    let over = planned_is_over_settled s journal me now value p planned in
    step_fits s (received_of s journal) (settled_in s journal) me now value p over.0 over.1 (λ last e. by_slot last e (slot (observed_over s (received_of s journal) (settled_in s journal)) me) refl)
  where
    by_slot : (last : Node) → own_unit s (received_of s journal) (settled_in s journal) me ≡ Some last → (o : Obs) → slot (observed_over s (received_of s journal) (settled_in s journal)) me ≡ o → length last.unit.endorsed ≤ 256
    by_slot last e Absent h = absurd (let no : None ≡ Some last = sym (ap (observed (settled_in s journal)) h) ∙ e in cc)
    by_slot last e Faulty h = absurd (let no : None ≡ Some last = sym (ap (observed (settled_in s journal)) h) ∙ e in cc)
    by_slot last e (Correct d) h = fit_units s journal fits last (find_node_is (settled_in s journal) last d (sym (ap (observed (settled_in s journal)) h) ∙ e)).0
