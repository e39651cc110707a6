-- A node keeps the line of its own units.
use Rattle.std.proofs.Common.{◌≡◌, ℕ, ◌<◌, Bool, true, false, cond, List, [], ◌∷◌, ◌++◌, length, Option, Some, None, Result, Ok, Err, inl, inr, refl, sym, ap, subst, ◌∙◌}
use Rattle.hw_types.specs.declared.unit.Signature.{Signature}
use Rattle.hw_types.specs.declared.unit.Vertex.{Vertex}
use Rattle.hw_types.specs.declared.answers.Plan.{Plan}
use Rattle.hw_types.specs.Journal.{Setting, is_accepted}
use Rattle.hw_types.specs.Real.{setting_of, answer_in}
use Rattle.hw_types.specs.laws.StateLaws.{units_in, NamesApart}
use Rattle.hw_types.proofs.OrderLaws.{journal_apart}
use Rattle.hw_honest.specs.OneLine.{OneLine, units_by}
use Rattle.hw_honest.specs.Restart.{Logged, make, logged, signed_by, after_event}
use Rattle.hw_honest.proofs.ReplayLaws.{after_accepted}
use Rattle.hw_honest.proofs.OwnUnitLaws.{number_is_count, step_keeps, plan_settles}
use Rattle.hw_session.specs.declared.fault.MakeFault.{MakeFault}
use Rattle.hw_session.specs.declared.fault.MakeFault.TheVariants as fault
use Rattle.hw_session.specs.Node.{NodeState, IsKept}
use Rattle.hw_session.specs.Make.{planned_by, own_unit, own_vertex, IsToMake, Makes, IsAStep}
use Rattle.hw_session.specs.Restart.{logged_of, MakeIsAnEvent, KeepsLine}
use Rattle.hw_session.proofs.MakeLaws.{journal_is, own_accepted, own_clashes}

module _ (n : NodeState) (kept : IsKept n) (me now : ℕ) (value : List ℕ) (validator : me < length n.core.config.weights) where
  abbrev s : Setting
  s = setting_of n.core.config

  is_a_step : (p : Plan) → planned_by n me now value ≡ Some p → IsAStep n p
  is_a_step p planned = (me, now, value, record { sound = kept.lawful; validator = validator; is = planned })

  apart : NamesApart (units_in s n.core.journal)
  apart = subst (λ (j : List Vertex). NamesApart (units_in s j)) (sym (journal_is n.core kept.reached)) (journal_apart s kept.reached.deliveries)

  -- the own unit last in the journal keeps the line
  vertex_keeps : (p : Plan) → IsToMake n (planned_by n me now value) p → OneLine s n.core.journal me → OneLine s (n.core.journal ++ own_vertex n p ∷ []) me
  vertex_keeps p made line =
      subst (λ (j : List Vertex). OneLine s j me) (after_accepted s n.core.journal (own_vertex n p) true (own_accepted n p kept.reached (is_a_step p made.is) made.apart made.room))
      (step_keeps s n.core.journal me now value p line made.is apart (own_unit n p) refl (plan_settles s n.core.journal me now value p kept.lawful validator made.is) true)

  counted : (p : Plan) → planned_by n me now value ≡ Some p → OneLine s n.core.journal me → p.unit.seq ≡ length (units_by s n.core.journal me)
  counted p planned line = (number_is_count s n.core.journal me now value p line planned).1

  stays : (m : NodeState) → m ≡ n → OneLine s n.core.journal me → OneLine s m.core.journal me
  stays m is line = subst (λ (k : NodeState). OneLine s k.core.journal me) (sym is) line

  pub keeps_line : (m : NodeState) (result : Result (Option Plan) MakeFault) → Makes n (planned_by n me now value) m result → KeepsLine n me m result
  keeps_line m (Ok (Some p)) makes = record {
    line = λ line. subst (λ (k : NodeState). OneLine s k.core.journal me) (sym makes.1) (vertex_keeps p makes.0 line);
    number = counted p makes.0.is;
  }
  keeps_line m (Ok None) makes = record { line = stays m makes.1; number = tt }
  keeps_line m (Err fault.RecordsFull) makes = record { line = λ line. subst (λ (k : NodeState). OneLine s k.core.journal me) (sym makes.1) line; number = tt }
  keeps_line m (Err fault.AppendFault) (p, made, is) = record { line = λ line. subst (λ (k : NodeState). OneLine s k.core.journal me) (sym is) (vertex_keeps p made line); number = tt }
  keeps_line m (Err fault.OutOfMemory) (inl is) = record { line = stays m is; number = tt }
  keeps_line m (Err fault.OutOfMemory) (inr (p, made, is)) = record { line = λ line. subst (λ (k : NodeState). OneLine s k.core.journal me) (sym is) (vertex_keeps p made line); number = tt }

  -- ---- a step of a life

  -- the step of a life, by what is planned
  abbrev by_plan : Option Plan → Signature → Logged
  by_plan o signature = elim o as (λ z. Logged) [ None ↦ logged_of n | Some p ↦ logged s (logged_of n) (signed_by signature p.unit) true ]

  event_is : (o : Option Plan) (signature : Signature) → planned_by n me now value ≡ o → after_event s me (logged_of n) (make now value signature) ≡ by_plan o signature
  unfolding after_event
  event_is o signature is = ap (λ (x : Option Plan). by_plan x signature) is

  -- by the answer to a vertex
  abbrev by_answer : Vertex → Bool → Logged
  by_answer v b = record { journal = cond b (n.core.journal ++ v ∷ []) n.core.journal; log = cond b (n.core.journal ++ v ∷ []) n.core.journal }

  answered_event : (p : Plan) (b : Bool) → planned_by n me now value ≡ Some p → is_accepted (answer_in n.core (own_vertex n p) true) ≡ b
      → by_answer (own_vertex n p) b ≡ after_event s me (logged_of n) (make now value (own_unit n p).signature)
  answered_event p b planned is = ap (by_answer (own_vertex n p)) (sym is) ∙ sym (event_is (Some p) (own_unit n p).signature planned)

  pub is_an_event : (m : NodeState) (made : Option Plan) → Makes n (planned_by n me now value) m (Ok made)
      → (signature : Signature) × (logged_of m ≡ after_event s me (logged_of n) (make now value signature))
  is_an_event m (Some p) makes =
      ((own_unit n p).signature, ap logged_of makes.1 ∙ answered_event p true makes.0.is (own_accepted n p kept.reached (is_a_step p makes.0.is) makes.0.apart makes.0.room))
  is_an_event m None (inl none, same) = let zero : Signature = record { 0 = [] } in (zero, ap logged_of same ∙ sym (event_is None zero none))
  is_an_event m None (inr (p, planned, namesake), same) =
      ((own_unit n p).signature, ap logged_of same ∙ answered_event p false planned (ap is_accepted (own_clashes n p kept.reached (is_a_step p planned) namesake)))

pub make_is_an_event : MakeIsAnEvent
make_is_an_event n m me now value made kept validator makes = is_an_event n kept me now value validator m made makes
