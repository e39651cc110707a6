-- Journals say the same, grow, have no clash, and are split.
use Rattle.std.proofs.Common.{◌≡◌, inl, inr, true, List, [], ◌∷◌, refl}
use Rattle.hw_types.proofs.OrderLaws.{received_same, state_same}
use Rattle.hw_types.proofs.GrowsLaws.{received_grows}
use Rattle.hw_types.proofs.JournalLaws.{received_rising, received_local, longer_extends}
use Rattle.hw_types.proofs.StepLaws.{is_split}
use Rattle.hw_types.proofs.UnionLaws as union
use Rattle.hw_types.proofs.LawfulLaws.{settled_lawful}
use Rattle.hw_samples.proofs.Members.{each_member, no_clash, are_same_where_named}
use Rattle.hw_types.specs.Graph.{Node}
use Rattle.hw_types.specs.Below.{Among}
use Rattle.hw_types.specs.Settled.{Received, parked_of, dropped_of}
use Rattle.hw_types.specs.Journal.{named, received_of}
use Rattle.hw_types.specs.Lawful.{NoClash}
use Rattle.hw_types.specs.laws.StateLaws.{units_in, HasSame, SaysTheSame, NamesApart}
use Rattle.hw_samples.specs.Words.{equal_three, three, sent, settled_in, unfold_answers}
use Rattle.hw_samples.specs.FourUnits.{a0, b0, a1, b1, in_order, last_first, without_last, second, third}
use Rattle.hw_samples.specs.Relations.{one_of_each, against, JournalsRelate}

abbrev forwards : List Node
forwards = named three a0 ∷ named three b0 ∷ named three a1 ∷ named three b1 ∷ []

abbrev backwards : List Node
backwards = named three b1 ∷ named three a1 ∷ named three b0 ∷ named three a0 ∷ []

turned : HasSame forwards backwards
turned = record {
  to = each_member (λ x. Among x backwards) forwards (inr (inr (inr (inl refl))), (inr (inr (inl refl)), (inr (inl refl), (inl refl, tt))));
  back = each_member (λ x. Among x forwards) backwards (inr (inr (inr (inl refl))), (inr (inr (inl refl)), (inr (inl refl), (inl refl, tt))));
}

same_units : HasSame (units_in three in_order) (units_in three last_first)
unfolding unfold_answers
same_units = turned

pub same : SaysTheSame three in_order last_first
same = record { units = same_units; with_evidence = record { to = λ x m. absurd m; back = λ x m. absurd m }; pairs = record { to = λ x m. absurd m; back = λ x m. absurd m } }

apart_test : are_same_where_named (units_in three in_order) (units_in three in_order) ≡ true
unfolding unfold_answers Rattle.hw_samples.proofs.Members.same_where_named
apart_test = refl

pub apart : NamesApart (units_in three in_order)
apart = no_clash (units_in three in_order) (units_in three in_order) apart_test

clash_test : are_same_where_named (received_of three in_order).units (received_of three against).units ≡ true
unfolding unfold_answers Rattle.hw_samples.proofs.Members.same_where_named
clash_test = refl

pub against_apart : NoClash (received_of three in_order).units (received_of three against).units
against_apart = no_clash (received_of three in_order).units (received_of three against).units clash_test

abbrev k : Received
k = received_of three in_order

abbrev l : Received
l = received_of three against

second_settles : Among (named three second) (settled_in three one_of_each)
unfolding unfold_answers
second_settles = inr (inl refl)

third_is_dropped : Among (named three third) (dropped_of equal_three (received_of three one_of_each))
unfolding unfold_answers
third_is_dropped = inl refl

b1_waits : Among (named three b1) (parked_of equal_three (received_of three one_of_each))
unfolding unfold_answers
b1_waits = inl refl

pub journals_relate : JournalsRelate
journals_relate =
    let rk = received_rising three in_order in let rl = received_rising three against in record {
      same_units = same_units;
      same = same;
      same_state = state_same equal_three k (received_of three last_first) (received_same three in_order last_first apart same);
      apart = apart;
      grows = received_grows equal_three (received_of three without_last) k (received_rising three without_last) rk (longer_extends three without_last (sent b1 ∷ []));
      no_clash = against_apart;
      union = record {
        lawful = union.either_lawful equal_three k l rk rl against_apart (settled_lawful equal_three k rk three.instance (received_local three in_order)) (settled_lawful equal_three l rl three.instance (received_local three against));
        left = union.left_within equal_three k l rk rl against_apart;
        right = union.right_within equal_three k l rk rl against_apart;
        no_other = union.either_in equal_three k l rk rl against_apart;
        left_faulty = union.left_faulty equal_three k l rk rl against_apart;
        right_faulty = union.right_faulty equal_three k l rk rl against_apart;
      };
      split = is_split equal_three (received_of three one_of_each) (received_rising three one_of_each);
      settled = second_settles;
      dropped = third_is_dropped;
      parked = b1_waits;
    }
