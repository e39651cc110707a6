-- The laws of graphs and journals say something: their premises are met.
use Rattle.std.proofs.Common.{◌≡◌, ◌≤◌, ◌++◌, inl, inr, true, false, [], ◌∷◌, length, refl, sym, subst, arith}
use Rattle.hw_types.proofs.RisingLaws.{past_stable, state_rule_stable}
use Rattle.hw_types.proofs.ForkLaws.{fork_stable}
use Rattle.hw_types.proofs.LaneLaws.{below_on_lane, entry_lane, incomparable_fork}
use Rattle.hw_types.proofs.OrderLaws.{accepted, received_same, state_same, journal_apart}
use Rattle.hw_types.proofs.TogetherLaws.{either_in_both}
use Rattle.hw_types.proofs.WalkLaws.{settled_walk}
use Rattle.hw_types.proofs.ChoiceLaws.{fork_is_walk}
use Rattle.hw_types.proofs.GraphLaws.{graph_by_name, rising_by_name, rising_one_name}
use Rattle.hw_types.proofs.SettledLaws.{rounds_settle}
use Rattle.hw_types.proofs.JournalLaws.{received_rising}
use Rattle.hw_types.proofs.BoundLaws.{one_more_length}
use Rattle.hw_types.proofs.RunLaws.{accepted_ends, by_name_rising}
use Rattle.hw_types.proofs.StepLaws.{accepted_units}
use Rattle.hw_safety.proofs.AccountLaws.{lawful_journal}
use Rattle.hw_samples.proofs.Members.{no_clash, are_same_where_named}
use Rattle.hw_samples.proofs.GraphMembers.{extension, cites_old}
use Rattle.hw_samples.proofs.JournalMembers.{apart, same}
use Rattle.hw_samples.proofs.StepMembers.{waiting_apart, is_in, begins, one_more}
use Rattle.hw_types.specs.Graph.{past, are_comparable}
use Rattle.hw_types.specs.Closure.{closure_after}
use Rattle.hw_types.specs.Below.{Among}
use Rattle.hw_types.specs.ByName.{by_name}
use Rattle.hw_types.specs.Settled.{settles}
use Rattle.hw_types.specs.Journal.{named, received_of}
use Rattle.hw_types.specs.Lawful.{settled_in_either}
use Rattle.hw_types.specs.laws.GraphLaws.{IsAcyclic}
use Rattle.hw_types.specs.laws.StateLaws.{units_in, SaysTheSame, NamesApart, begin, HasOneMore}
use Rattle.hw_samples.specs.Words.{equal_three, three, sent, deliver, after, settled_in, is_faulty_in, panorama_in, unfold_answers}
use Rattle.hw_samples.specs.FourUnits.{a0, b0, b1, in_order, last_first}
use Rattle.hw_samples.specs.Forks.{fork, with_fork}
use Rattle.hw_samples.specs.Relations.{first_two, against, waiting, arrived, both_admitted}
use Rattle.hw_samples.specs.Premises.{MoreUnitsChangeNothing, LanesFork, OrdersAgree, WalksAndRounds, StepsEnd}

pub more_units_change_nothing : MoreUnitsChangeNothing
more_units_change_nothing = record {
  extension = extension;
  cites_old = cites_old;
  past = past_stable (settled_in three first_two) (settled_in three in_order) extension.rising extension.rising_more extension.part extension.closed b1.panorama cites_old;
  choice = fork_stable equal_three.weights (settled_in three first_two) (settled_in three in_order) extension.rising extension.rising_more extension.part extension.closed b1.panorama cites_old;
  verdict = state_rule_stable (settled_in three first_two) (settled_in three in_order) extension.rising extension.rising_more extension.part extension.closed equal_three (named three b1) cites_old;
}

-- ---- lanes

left : Among (named three b0) (settled_in three with_fork)
unfolding unfold_answers
left = inr (inl refl)

right : Among (named three fork) (settled_in three with_fork)
unfolding unfold_answers
right = inr (inr (inl refl))

not_comparable : are_comparable (settled_in three with_fork) (named three b0) (named three fork) ≡ false
unfolding unfold_answers
not_comparable = refl

below : Among (named three b0) (past (settled_in three in_order) b1.panorama)
unfolding unfold_answers
below = inr (inl refl)

entry_below : Among (named three a0) (past (settled_in three in_order) b1.panorama)
unfolding unfold_answers
entry_below = inl refl

b1_in : Among (named three b1) (settled_in three in_order)
unfolding unfold_answers
b1_in = inr (inr (inr (inl refl)))

pub lanes_fork : LanesFork
lanes_fork = record {
  left = left;
  right = right;
  apart = not_comparable;
  pair = incomparable_fork equal_three.weights (is_faulty_in three with_fork) (settled_in three with_fork) (lawful_journal three with_fork) (named three b0) (named three fork) left right refl not_comparable;
  below = below;
  on_lane = below_on_lane equal_three.weights (is_faulty_in three in_order) (settled_in three in_order) (lawful_journal three in_order) (named three b1) (named three b0) b1_in refl below;
  entry_below = entry_below;
  entry = entry_lane equal_three.weights (is_faulty_in three in_order) (settled_in three in_order) (lawful_journal three in_order) (named three b1) (named three a0) b1_in entry_below;
}

-- ---- orders

delivered : SaysTheSame three (after three in_order) (after three last_first)
unfolding unfold_answers
delivered = same

together_test : are_same_where_named (units_in three (in_order ++ against)) (units_in three (in_order ++ against)) ≡ true
unfolding unfold_answers Rattle.hw_samples.proofs.Members.same_where_named
together_test = refl

together_apart : NamesApart (units_in three (in_order ++ against))
together_apart = no_clash (units_in three (in_order ++ against)) (units_in three (in_order ++ against)) together_test

in_either : Among (named three fork) (settled_in_either equal_three (received_of three in_order) (received_of three against))
unfolding unfold_answers
in_either = inr (inr (inr (inl refl)))

pub orders_agree : OrdersAgree
orders_agree = record {
  apart = apart;
  received = received_same three in_order last_first apart same;
  delivered = delivered;
  same_state = state_same equal_three (received_of three (after three in_order)) (received_of three (after three last_first))
      (received_same three (after three in_order) (after three last_first) (journal_apart three (deliver in_order)) delivered);
  together_apart = together_apart;
  in_either = in_either;
  in_both = either_in_both three in_order against together_apart (named three fork) in_either;
}

-- ---- walks and rounds

canonical : by_name (settled_in three in_order) ≡ settled_in three in_order
canonical = by_name_rising (settled_in three in_order) (lawful_journal three in_order).in_order

acyclic : IsAcyclic (by_name (settled_in three in_order))
acyclic = subst (λ xs. IsAcyclic xs) (sym canonical) (settled_walk three in_order).0

four_are_enough : length (received_of three in_order).units ≤ 4
unfolding unfold_answers
four_are_enough = omega arith

too_few : length (closure_after 2 (settles equal_three (received_of three in_order)) (received_of three in_order).units) ≡ 2
unfolding unfold_answers
too_few = refl

pub walks_and_rounds : WalksAndRounds
walks_and_rounds = record {
  acyclic = acyclic;
  walk = fork_is_walk equal_three.weights (by_name (settled_in three in_order)) (graph_by_name (settled_in three in_order) acyclic) (panorama_in three in_order);
  rounds = rounds_settle equal_three (received_of three in_order) (received_rising three in_order) (rising_one_name (received_of three in_order).units (received_rising three in_order)) 4 four_are_enough;
  too_few = too_few;
}

-- ---- a step to its end

one_by_name : HasOneMore (by_name (named three a0 ∷ [])) (by_name both_admitted) (named three b0)
unfolding unfold_answers
one_by_name = one_more

units : (received_of three arrived).units ≡ by_name ((received_of three waiting).units ++ named three a0 ∷ [])
unfolding unfold_answers
units = accepted_units three waiting (sent a0) waiting_apart (accepted three waiting (sent a0) true is_in)

pub steps_end : StepsEnd
steps_end = record {
  names_apart = waiting_apart;
  taken = is_in;
  begins = begins;
  ends = accepted_ends three waiting (sent a0) waiting_apart (accepted three waiting (sent a0) true is_in) [] begins [] begin;
  units = units;
  one_more = one_by_name;
  longer = one_more_length (by_name (named three a0 ∷ [])) (by_name both_admitted) (named three b0) (rising_by_name (named three a0 ∷ [])) (rising_by_name both_admitted) one_by_name;
}
