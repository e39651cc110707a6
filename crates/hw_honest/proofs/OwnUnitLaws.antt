-- A step's own unit keeps the line.
use Rattle.std.proofs.Common.{◌≡◌, ℕ, ◌<◌, Bool, true, false, cond, not, List, [], ◌∷◌, ◌++◌, length, Option, Some, None, Result, Ok, Err, refl, sym, ap, subst, ◌∙◌, arith}
use Rattle.std.specs.Prelude.{nat_le, nat_lt}
use Rattle.hw_types.specs.declared.unit.SignedUnit.{SignedUnit}
use Rattle.hw_types.specs.declared.unit.WireUnit.{WireUnit}
use Rattle.hw_types.specs.declared.unit.Vertex.{Vertex}
use Rattle.hw_types.specs.declared.unit.Vertex.TheVariants as vertex
use Rattle.hw_types.specs.declared.answers.Plan.{Plan}
use Rattle.hw_types.specs.declared.answers.Rule.{Rule}
use Rattle.hw_types.specs.declared.answers.Receipt.{Receipt}
use Rattle.hw_types.specs.declared.answers.Receipt.TheVariants as receipt
use Rattle.hw_types.specs.declared.answers.Cause.{Cause}
use Rattle.hw_types.specs.declared.answers.Cause.TheVariants as cause
use Rattle.hw_types.specs.Graph.{Node, latest}
use Rattle.hw_types.specs.Same.{unit_eq}
use Rattle.hw_types.specs.Rules.{state_rule}
use Rattle.hw_types.specs.Below.{Among}
use Rattle.hw_types.specs.Limits.{config_fault}
use Rattle.hw_types.specs.Settled.{Received, settled_of, panorama_of, missing_of}
use Rattle.hw_types.specs.Journal.{Setting, named, received_of, refusal, is_repeat, is_park_full, newly_settled, answer, is_accepted, journal_after}
use Rattle.hw_types.specs.Step.{step, next_seq}
use Rattle.hw_types.specs.laws.StateLaws.{units_in, NamesApart}
use Rattle.hw_types.proofs.PastLaws.{some_of}
use Rattle.hw_types.proofs.JournalLaws.{received_rising}
use Rattle.hw_types.proofs.OrderLaws.{Accepted, accepted, unit_same}
use Rattle.hw_types.proofs.StepLaws.{is_split}
use Rattle.hw_types.proofs.ReceiptLaws.{tells_where}
use Rattle.hw_honest.proofs.PlanRuleLaws.{plan_keeps_rules}
use Rattle.hw_honest.specs.Cluster.{is_admitted}
use Rattle.hw_honest.specs.OneLine.{OneLine, units_by}
use Rattle.hw_honest.proofs.PlanLaws.{plan_is}
use Rattle.hw_honest.proofs.OneLineLaws.{by_has, is_by, below_next, line_unfaulty, next_is_count, one_more, answer_is, line_after, Settles, settles_later}
use Rattle.hw_honest.specs.Plans.{settled_in}

-- a unit that is answered Repeat is there
repeat_is : (s : Setting) (journal : List Vertex) (u : SignedUnit) (verdict : Bool) → answer s journal (vertex.Unit u) verdict ≡ Ok receipt.Repeat → is_repeat s journal (vertex.Unit u) ≡ true
unfolding answer
repeat_is s journal u verdict e = go verdict (refusal s journal v) (is_repeat s journal v) (nat_le s.config.max_records (length journal)) (is_park_full s journal v)
    (nat_lt 0 (length (missing_of s.config l Sl x))) (length (missing_of s.config l Sl x)) (state_rule s.config Sl x) e
  where
    v : Vertex
    v = vertex.Unit u

    l : Received
    l = received_of s (journal ++ vertex.Unit u ∷ [])

    Sl : List Node
    Sl = settled_of s.config l

    x : Node
    x = named s u.unit

    go : (ok : Bool) (o : Option Cause) (again full park waits : Bool) (n : ℕ) (broken : Option Rule)
        → cond (not ok) (Err cause.BadSignature) (elim o as (λ z. Result Receipt Cause) [
          | Some c ↦ Err c
          | None ↦ cond again (Ok receipt.Repeat) (cond full (Err cause.RecordsFull) (cond park (Err cause.ParkFull)
              (Ok (cond waits (receipt.Parked n) (elim broken as (λ z. Receipt) [ Some rule ↦ receipt.Dropped rule | None ↦ receipt.Admitted (newly_settled s journal (vertex.Unit u)) ])))))
        ]) ≡ Ok receipt.Repeat
        → again ≡ true
    go false o again full park waits n broken k = absurd cc
    go true (Some c) again full park waits n broken k = absurd cc
    go true None true full park waits n broken k = refl
    go true None false true park waits n broken k = absurd cc
    go true None false false true waits n broken k = absurd cc
    go true None false false false true n broken k = absurd cc
    go true None false false false false n None k = absurd cc
    go true None false false false false n (Some r) k = absurd cc

-- what a step makes settles
pub plan_settles : (s : Setting) (journal : List Vertex) (me now : ℕ) (value : List ℕ) (p : Plan) → config_fault s.config ≡ None → me < length s.config.weights → step s (received_of s journal) me now value ≡ Some p → Settles s journal p.unit
plan_settles s journal me now value p sound validator made = let kept = plan_keeps_rules s journal me now value p (record { sound = sound; validator = validator; is = made }) in (kept.needs, kept.rules)

module _ (s : Setting) (journal : List Vertex) (me now : ℕ) (value : List ℕ) (p : Plan) (one : OneLine s journal me) (made : step s (received_of s journal) me now value ≡ Some p) where
  pub number_is_count : (p.unit.creator ≡ me) × (p.unit.seq ≡ length (units_by s journal me))
  number_is_count = let is = plan_is s (received_of s journal) me now value p made in (is.0, is.1 ∙ next_is_count s journal me one)

  module _ (apart : NamesApart (units_in s journal)) (u : SignedUnit) (same : u.unit ≡ p.unit) where
    -- where it is accepted and settles
    own_kept : Accepted s journal (vertex.Unit u) → Among (named s u.unit) (settled_in s (journal ++ vertex.Unit u ∷ [])) → OneLine s (journal ++ vertex.Unit u ∷ []) me
    own_kept ok there =
        let is = plan_is s (received_of s journal) me now value p made in
        one_more s journal me apart one u (ap (λ (w : WireUnit). w.creator) same ∙ is.0) (ap (λ (w : WireUnit). w.seq) same ∙ is.1) ok there

    pub admitted_keeps : (n : ℕ) → answer s journal (vertex.Unit u) true ≡ Ok (receipt.Admitted n) → OneLine s (journal ++ vertex.Unit u ∷ []) me
    admitted_keeps n e =
        let ok = accepted s journal (vertex.Unit u) true (ap is_accepted e) in
        own_kept ok ((tells_where s journal u apart ok).admitted n (answer_is s journal (vertex.Unit u) true (receipt.Admitted n) e refl))

    pub step_keeps : Settles s journal p.unit → (verdict : Bool) → OneLine s (journal_after s journal (vertex.Unit u, verdict)) me
    step_keeps settles verdict = line_after s journal me (vertex.Unit u) verdict one
        (λ h. let ok = accepted s journal (vertex.Unit u) verdict h in own_kept ok (settles_later s journal u apart ok (subst (Settles s journal) (sym same) settles)))

    -- no other receipt than Admitted is answered
    never_repeat : is_repeat s journal (vertex.Unit u) ≡ true → ⊥
    never_repeat h =
        let is = plan_is s (received_of s journal) me now value p made in
        let x = some_of (λ y. unit_eq y.unit u.unit) (received_of s journal).units h in
        let e : x.0.unit ≡ p.unit = unit_same x.0.unit u.unit x.2 ∙ same in
        let m = by_has s journal me x.0 x.1 (ap (λ (w : WireUnit). w.creator) e ∙ is.0) in
        let lt = below_next s journal me (line_unfaulty s journal me one) x.0 (one.settled x.0 m) (is_by s journal me x.0 m).1 in
        let number : x.0.unit.seq ≡ next_seq (latest (settled_in s journal) (panorama_of s.config (received_of s journal)) me) = ap (λ (w : WireUnit). w.seq) e ∙ is.1 in
        absurd (omega arith)

    pub settled_answer : Settles s journal p.unit → (verdict : Bool) (r : Receipt) → (answer s journal (vertex.Unit u) verdict ≡ Ok r) × (is_admitted (Ok r) ≡ false) → ⊥
    settled_answer settles verdict r e = go r e.0 e.1
      where
        there : (q : Receipt) → answer s journal (vertex.Unit u) verdict ≡ Ok q → is_accepted (Ok q) ≡ true → Accepted s journal (vertex.Unit u) × Among (named s u.unit) (settled_in s (journal ++ vertex.Unit u ∷ []))
        there q k h = let ok = accepted s journal (vertex.Unit u) verdict (ap is_accepted k ∙ h) in (ok, settles_later s journal u apart ok (subst (Settles s journal) (sym same) settles))

        later : Received
        later = received_of s (journal ++ vertex.Unit u ∷ [])

        go : (q : Receipt) → answer s journal (vertex.Unit u) verdict ≡ Ok q → is_admitted (Ok q) ≡ false → ⊥
        go (receipt.Admitted n) k h = absurd cc
        go receipt.Repeat k h = never_repeat (repeat_is s journal u verdict k)
        go (receipt.Parked n) k h =
            let t = there (receipt.Parked n) k refl in
            (is_split s.config later (received_rising s (journal ++ vertex.Unit u ∷ []))).settled_parked (named s u.unit) t.1
            ((tells_where s journal u apart t.0).parked n (answer_is s journal (vertex.Unit u) verdict (receipt.Parked n) k refl))
        go (receipt.Dropped q) k h =
            let t = there (receipt.Dropped q) k refl in
            (is_split s.config later (received_rising s (journal ++ vertex.Unit u ∷ []))).settled_dropped (named s u.unit) t.1
            ((tells_where s journal u apart t.0).dropped q (answer_is s journal (vertex.Unit u) verdict (receipt.Dropped q) k refl)).0
