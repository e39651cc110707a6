-- A vertex more: what is admitted, what changes, and what the receipt tells.
use Rattle.std.proofs.Common.{◌≡◌, inl, inr, true, [], ◌∷◌, refl, sym, subst, ap, ◌∙◌}
use Rattle.hw_types.proofs.OrderLaws.{accepted}
use Rattle.hw_types.proofs.StepLaws.{accepted_leads, accepted_step, accepted_lawful, accepted_one_more, accepted_moves}
use Rattle.hw_types.proofs.VertexLaws.{evidence_but, endorsed_but, slot_evidence_but}
use Rattle.hw_types.proofs.ReceiptLaws.{tells_where}
use Rattle.hw_samples.proofs.Members.{each_member, no_clash, are_same_where_named}
use Rattle.std.specs.Prelude.{◌⊎◌}
use Rattle.hw_types.specs.declared.unit.Vertex.{Vertex}
use Rattle.hw_types.specs.declared.answers.Receipt.TheVariants.{Admitted, Parked, Dropped}
use Rattle.hw_types.specs.Graph.{Node}
use Rattle.hw_types.specs.Below.{Among}
use Rattle.hw_types.specs.ByName.{by_name}
use Rattle.hw_types.specs.Journal.{named, received_of, answer, is_accepted, receipt_of}
use Rattle.hw_types.specs.laws.StateLaws.{units_in, NamesApart, Admits, begin, admit, LeadsToSettled, candidates, IsStep, HasOneMore, IsLawfulRun, IsOneChange}
use Rattle.hw_samples.specs.Words.{equal_three, three, unsigned_as, sent, both, endorses, settled_in, unfold_answers}
use Rattle.hw_samples.specs.FourUnits.{a0, b0, a1, second, third}
use Rattle.hw_samples.specs.Forks.{fork}
use Rattle.hw_samples.specs.Steps.{x}
use Rattle.hw_samples.specs.Relations.{first_two, waiting, arrived, both_admitted, StepIsMade, ReceiptsTellWhere}
use Rattle.hw_types.specs.declared.answers.Rule.TheVariants as rule

apart_is : NamesApart (named three b0 ∷ [])
apart_is x y (inl e) (inl f) h = sym e ∙ f
apart_is x y (inl e) (inr n) h = absurd n
apart_is x y (inr m) n h = absurd m

pub waiting_apart : NamesApart (units_in three waiting)
unfolding unfold_answers
waiting_apart = apart_is

pub is_in : is_accepted (answer three waiting (sent a0) true) ≡ true
unfolding unfold_answers
is_in = refl

pub begins : by_name [] ≡ settled_in three waiting
unfolding unfold_answers
begins = refl

first_run : Admits equal_three (received_of three arrived) (candidates three waiting (sent a0)) [] (named three a0 ∷ [])
unfolding unfold_answers
first_run = admit (named three a0) [] begin (inr (inl refl)) refl

pub run : Admits equal_three (received_of three arrived) (candidates three waiting (sent a0)) [] both_admitted
unfolding unfold_answers
run = admit (named three b0) (named three a0 ∷ []) first_run (inl refl) refl

leads : LeadsToSettled equal_three (received_of three arrived) (candidates three waiting (sent a0)) both_admitted
leads = accepted_leads three waiting (sent a0) waiting_apart (accepted three waiting (sent a0) true is_in) [] both_admitted begins run

all_in : (x : Node) → Among x (named three b0 ∷ named three a0 ∷ []) → Among x both_admitted
all_in = each_member (λ x. Among x both_admitted) (named three b0 ∷ named three a0 ∷ []) (inr (inl refl), (inl refl, tt))

parked_then_new : candidates three waiting (sent a0) ≡ named three b0 ∷ named three a0 ∷ []
unfolding unfold_answers
parked_then_new = refl

is_step : IsStep equal_three (received_of three waiting) (received_of three arrived) (named three a0 ∷ [])
unfolding unfold_answers
is_step = accepted_step three waiting (sent a0) waiting_apart (accepted three waiting (sent a0) true is_in)

lawful_run : IsLawfulRun equal_three (received_of three arrived) (candidates three waiting (sent a0)) (named three a0 ∷ [])
lawful_run = let a = accepted three waiting (sent a0) true is_in in record {
  lawful = accepted_lawful three waiting (sent a0) waiting_apart a [] (named three a0 ∷ []) begins first_run;
  one_more = λ x m t was_not. accepted_one_more three waiting (sent a0) waiting_apart a [] (named three a0 ∷ []) x begins first_run m t was_not;
  moves = λ x m t was_not. accepted_moves three waiting (sent a0) waiting_apart a [] (named three a0 ∷ []) x begins first_run m t was_not;
}

other : named three a0 ≡ named three b0 → ⊥
other e = absurd (let f : 0 ≡ 1 = ap (λ (x : Node). x.unit.creator) e in cc)

b0_more : HasOneMore (named three a0 ∷ []) both_admitted (named three b0)
b0_more = record {
  part = each_member (λ y. Among y both_admitted) (named three a0 ∷ []) (inl refl, tt);
  new = inr (inl refl);
  was_not = was_not;
  no_other = each_member (λ y. Among y (named three a0 ∷ []) ⊎ (y ≡ named three b0)) both_admitted (inl (inl refl), (inr refl, tt));
}
  where
    was_not : Among (named three b0) (named three a0 ∷ []) → ⊥
    was_not (inl e) = other e
    was_not (inr n) = absurd n

pub one_more : HasOneMore (settled_in three (sent a0 ∷ [])) (settled_in three first_two) (named three b0)
unfolding unfold_answers
one_more = b0_more

one_change : (v : Vertex) → IsOneChange three waiting v
one_change v = record { with_evidence = evidence_but three waiting v; endorsed = endorsed_but three waiting v; slots = slot_evidence_but three waiting v }

pub step_is_made : StepIsMade
step_is_made = record {
  admits = run;
  leads = leads;
  settled = leads.over (λ x m t. all_in x (subst (λ xs. Among x xs) parked_then_new m));
  is_step = is_step;
  lawful_run = lawful_run;
  one_more = one_more;
  change_by_unit = one_change (sent a0);
  change_by_evidence = one_change (both b0 fork);
  change_by_endorsement = one_change (endorses b0 0);
}

-- ---- receipts

two_test : are_same_where_named (units_in three first_two) (units_in three first_two) ≡ true
unfolding unfold_answers Rattle.hw_samples.proofs.Members.same_where_named
two_test = refl

second_test : are_same_where_named (units_in three (sent a0 ∷ sent second ∷ [])) (units_in three (sent a0 ∷ sent second ∷ [])) ≡ true
unfolding unfold_answers Rattle.hw_samples.proofs.Members.same_where_named
second_test = refl

a1_in : is_accepted (answer three first_two (sent a1) true) ≡ true
unfolding unfold_answers
a1_in = refl

a1_waits : is_accepted (answer three [] (sent a1) true) ≡ true
unfolding unfold_answers
a1_waits = refl

third_taken : is_accepted (answer three (sent a0 ∷ sent second ∷ []) (sent third) true) ≡ true
unfolding unfold_answers
third_taken = refl

admitted_receipt : receipt_of three first_two (sent a1) ≡ Admitted 1
unfolding unfold_answers
admitted_receipt = refl

parked_receipt : receipt_of three [] (sent a1) ≡ Parked 2
unfolding unfold_answers
parked_receipt = refl

dropped_receipt : receipt_of three (sent a0 ∷ sent second ∷ []) (sent third) ≡ Dropped rule.ThirdInRound
unfolding unfold_answers
dropped_receipt = refl

pub receipts_tell_where : ReceiptsTellWhere
receipts_tell_where = record {
  admitted = tells_where three first_two (unsigned_as a1) (no_clash (units_in three first_two) (units_in three first_two) two_test) (accepted three first_two (sent a1) true a1_in);
  admitted_receipt = admitted_receipt;
  parked = tells_where three [] (unsigned_as a1) (λ x y m. absurd m) (accepted three [] (sent a1) true a1_waits);
  parked_receipt = parked_receipt;
  dropped = tells_where three (sent a0 ∷ sent second ∷ []) (unsigned_as third) (no_clash (units_in three (sent a0 ∷ sent second ∷ [])) (units_in three (sent a0 ∷ sent second ∷ [])) second_test)
      (accepted three (sent a0 ∷ sent second ∷ []) (sent third) true third_taken);
  dropped_receipt = dropped_receipt;
}
