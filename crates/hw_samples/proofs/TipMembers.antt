-- Tips and slots, as one unit more moves or marks them.
use Rattle.std.proofs.Common.{◌≡◌, inl, inr, true, false, List, [], ◌∷◌, refl, ap}
use Rattle.hw_types.proofs.TipLaws.{one_tip, other_slots, moves_own, faulty_but}
use Rattle.hw_types.proofs.PanoramaLaws.{over_all}
use Rattle.hw_types.proofs.TipStepLaws.{panorama_set, seen_no_fork, no_fork_seen}
use Rattle.hw_safety.proofs.AccountLaws.{lawful_journal}
use Rattle.hw_samples.proofs.Members.{each_member}
use Rattle.std.specs.Prelude.{◌⊎◌}
use Rattle.hw_types.specs.declared.unit.Obs.TheVariants.{Absent, Faulty}
use Rattle.hw_types.specs.declared.unit.WireUnit.{WireUnit}
use Rattle.hw_types.specs.Graph.{Node, slot, is_on_lane}
use Rattle.hw_types.specs.Below.{Among}
use Rattle.hw_types.specs.Settled.{Received, is_faulty}
use Rattle.hw_types.specs.Journal.{named, received_of}
use Rattle.hw_types.specs.Lawful.{IsLawful}
use Rattle.hw_types.specs.laws.StateLaws.{HasOneMore, IsSeenStep}
use Rattle.hw_samples.specs.Words.{equal_three, three, after, settled_in, is_faulty_in, panorama_in, unfold_answers}
use Rattle.hw_samples.specs.FourUnits.{a0, b0, a1, b1, in_order, without_last}
use Rattle.hw_samples.specs.Forks.{fork, with_fork}
use Rattle.hw_samples.specs.Steps.{x}
use Rattle.hw_samples.specs.Relations.{four_nodes, first_two, before_b1, before_fork, TipsAreSeen}

abbrev k : Received
k = received_of three in_order

abbrev m : Received
m = received_of three with_fork

not_other : (u v : WireUnit) → (u.seq ≡ v.seq → ⊥) → named three u ≡ named three v → ⊥
not_other u v f e = f (ap (λ (x : Node). x.unit.seq) e)

b1_lane : (x : Node) → Among x (settled_in three in_order) → x.unit.creator ≡ 1 → is_on_lane (settled_in three in_order) x (named three b1) ≡ true
unfolding unfold_answers
b1_lane = each_member (λ x. x.unit.creator ≡ 1 → is_on_lane (settled_in three in_order) x (named three b1) ≡ true) four_nodes (λ e. absurd cc, (λ e. absurd cc, (λ e. refl, (λ e. refl, tt))))

b1_in : Among (named three b1) (settled_in three in_order)
unfolding unfold_answers
b1_in = inr (inr (inr (inl refl)))

not_faulty : is_faulty_in three in_order 1 ≡ false
unfolding unfold_answers
not_faulty = refl

is_fork : is_faulty_in three with_fork 1 ≡ true
unfolding unfold_answers
is_fork = refl

silent : slot (panorama_in three with_fork) 2 ≡ Absent
unfolding unfold_answers
silent = refl

marked : slot (panorama_in three with_fork) 1 ≡ Faulty
unfolding unfold_answers
marked = refl

-- ---- one unit more

abbrev three_nodes : List Node
three_nodes = named three a0 ∷ named three a1 ∷ named three b0 ∷ []

abbrev two_nodes : List Node
two_nodes = named three a0 ∷ named three b0 ∷ []

abbrev with_fork_nodes : List Node
with_fork_nodes = named three a0 ∷ named three b0 ∷ named three fork ∷ []

was_none : (x : Node) (xs : List Node) → ((y : Node) → Among y xs → y ≡ x → ⊥) → Among x xs → ⊥
was_none x xs f m = f x m refl

b1_new : (y : Node) → Among y three_nodes → y ≡ named three b1 → ⊥
b1_new = each_member (λ y. y ≡ named three b1 → ⊥) three_nodes (
  λ e. absurd (let f : 0 ≡ 1 = ap (λ (x : Node). x.unit.creator) e in cc),
  (λ e. absurd (let f : 0 ≡ 1 = ap (λ (x : Node). x.unit.creator) e in cc), (λ e. absurd (let f : 0 ≡ 1 = ap (λ (x : Node). x.unit.seq) e in cc), tt)),
)

b1_more : HasOneMore three_nodes four_nodes (named three b1)
b1_more = record {
  part = each_member (λ y. Among y four_nodes) three_nodes (inl refl, (inr (inl refl), (inr (inr (inl refl)), tt)));
  new = inr (inr (inr (inl refl)));
  was_not = was_none (named three b1) three_nodes b1_new;
  no_other = each_member (λ y. Among y three_nodes ⊎ (y ≡ named three b1)) four_nodes (inl (inl refl), (inl (inr (inl refl)), (inl (inr (inr (inl refl))), (inr refl, tt))));
}

fork_new : (y : Node) → Among y two_nodes → y ≡ named three fork → ⊥
fork_new = each_member (λ y. y ≡ named three fork → ⊥) two_nodes (
  λ e. absurd (let f : 0 ≡ 1 = ap (λ (x : Node). x.unit.creator) e in cc),
  (λ e. absurd (let f : 17 ≡ 18 = ap (λ (x : Node). x.unit.time) e in cc), tt),
)

fork_more : HasOneMore two_nodes with_fork_nodes (named three fork)
fork_more = record {
  part = each_member (λ y. Among y with_fork_nodes) two_nodes (inl refl, (inr (inl refl), tt));
  new = inr (inr (inl refl));
  was_not = was_none (named three fork) two_nodes fork_new;
  no_other = each_member (λ y. Among y two_nodes ⊎ (y ≡ named three fork)) with_fork_nodes (inl (inl refl), (inl (inr (inl refl)), (inr refl, tt)));
}

pub one_b1 : HasOneMore before_b1 (settled_in three in_order) (named three b1)
unfolding unfold_answers
one_b1 = b1_more

pub one_fork : HasOneMore before_fork (settled_in three with_fork) (named three fork)
unfolding unfold_answers
one_fork = fork_more

pub lawful_before : IsLawful equal_three.weights (is_faulty k before_b1) before_b1
unfolding unfold_answers
lawful_before = lawful_journal three without_last

pub lawful_before_fork : IsLawful equal_three.weights (is_faulty m before_fork) before_fork
unfolding unfold_answers
lawful_before_fork = lawful_journal three first_two

-- one unit more in lawful graphs is seen
seen_step : (received : Received) (units more : List Node) (x : Node) → IsLawful equal_three.weights (is_faulty received units) units → IsLawful equal_three.weights (is_faulty received more) more
    → HasOneMore units more x → IsSeenStep equal_three received units more x
seen_step received units more x before after one = record {
  panorama = panorama_set equal_three received units more x before after one;
  no_fork = λ ok unmarked. (λ good. no_fork_seen equal_three received units more x before after one ok good unmarked, λ e. seen_no_fork equal_three received units more x before after one ok e);
}

pub tips_are_seen : TipsAreSeen
tips_are_seen =
    let lawful = lawful_journal three in_order in let forked = lawful_journal three with_fork in record {
      tip = record { member = b1_in; creator = refl; lane = b1_lane };
      one_tip = one_tip equal_three (is_faulty_in three in_order) (settled_in three in_order) lawful 1 (named three b1) not_faulty b1_in refl;
      other_slots = other_slots equal_three (is_faulty_in three with_fork) (settled_in three with_fork) forked;
      silent = silent;
      marked = marked;
      over_all = over_all equal_three (is_faulty_in three with_fork) (settled_in three with_fork) forked;
      moves = moves_own equal_three (is_faulty k before_b1) (is_faulty_in three in_order) before_b1 (settled_in three in_order) (named three b1) lawful_before lawful one_b1
          (faulty_but k before_b1 (settled_in three in_order) (named three b1) one_b1.part one_b1.no_other);
      seen = seen_step k before_b1 (settled_in three in_order) (named three b1) lawful_before lawful one_b1;
      no_fork = not_faulty;
      fork_seen = seen_step m before_fork (settled_in three with_fork) (named three fork) lawful_before_fork forked one_fork;
      is_fork = is_fork;
    }
