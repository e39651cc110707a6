-- Random journals with what they decide, by a third reading.
use Rattle.std.proofs.Common.{refl}
use Rattle.hw_samples.specs.RandomDecisions1.{Decided1}
use Rattle.hw_samples.specs.RandomDecisions1.{Decided2}
use Rattle.hw_samples.specs.RandomDecisions1.{Decided3}
use Rattle.hw_samples.specs.RandomDecisions1.{Decided4}
use Rattle.hw_samples.specs.RandomDecisions2.{Decided5}
use Rattle.hw_samples.specs.RandomDecisions2.{Decided6}
use Rattle.hw_samples.specs.RandomDecisions2.{Decided7}
use Rattle.hw_samples.specs.RandomDecisions2.{Decided8}
use Rattle.hw_samples.specs.RandomDecisions3.{Decided9}
use Rattle.hw_samples.specs.RandomDecisions3.{Decided10}
use Rattle.hw_samples.specs.RandomDecisions3.{Decided11}
use Rattle.hw_samples.specs.RandomDecisions3.{Decided12}
use Rattle.hw_samples.specs.RandomDecisions4.{Decided13}
use Rattle.hw_samples.specs.RandomDecisions4.{Decided14}
use Rattle.hw_samples.specs.RandomDecisions4.{Decided15}
use Rattle.hw_samples.specs.RandomDecisions4.{Decided16}
use Rattle.hw_samples.specs.RandomDecisions5.{Decided17}
use Rattle.hw_samples.specs.RandomDecisions5.{Decided18}
use Rattle.hw_samples.specs.RandomDecisions5.{Decided19}
use Rattle.hw_samples.specs.RandomDecisions5.{Decided20}
use Rattle.hw_samples.specs.RandomDecisions6.{Decided21}
use Rattle.hw_samples.specs.RandomDecisions6.{Decided22}
use Rattle.hw_samples.specs.RandomDecisions6.{Decided23}
use Rattle.hw_samples.specs.RandomDecisions6.{Decided24}
use Rattle.hw_samples.specs.Gathered.{RandomDecisions}
use Rattle.hw_samples.specs.Words.{unfold_decisions}

decided_1 : Decided1
unfolding unfold_decisions
decided_1 = record { answers = refl; kept = refl; settled = refl; parked = refl; dropped = refl; faulty = refl; panorama = refl; fork = refl; decisions = refl }

decided_2 : Decided2
unfolding unfold_decisions
decided_2 = record { answers = refl; kept = refl; settled = refl; parked = refl; dropped = refl; faulty = refl; panorama = refl; fork = refl; decisions = refl }

decided_3 : Decided3
unfolding unfold_decisions
decided_3 = record { answers = refl; kept = refl; settled = refl; parked = refl; dropped = refl; faulty = refl; panorama = refl; fork = refl; decisions = refl }

decided_4 : Decided4
unfolding unfold_decisions
decided_4 = record { answers = refl; kept = refl; settled = refl; parked = refl; dropped = refl; faulty = refl; panorama = refl; fork = refl; decisions = refl }

decided_5 : Decided5
unfolding unfold_decisions
decided_5 = record { answers = refl; kept = refl; settled = refl; parked = refl; dropped = refl; faulty = refl; panorama = refl; fork = refl; decisions = refl }

decided_6 : Decided6
unfolding unfold_decisions
decided_6 = record { answers = refl; kept = refl; settled = refl; parked = refl; dropped = refl; faulty = refl; panorama = refl; fork = refl; decisions = refl }

decided_7 : Decided7
unfolding unfold_decisions
decided_7 = record { answers = refl; kept = refl; settled = refl; parked = refl; dropped = refl; faulty = refl; panorama = refl; fork = refl; decisions = refl }

decided_8 : Decided8
unfolding unfold_decisions
decided_8 = record { answers = refl; kept = refl; settled = refl; parked = refl; dropped = refl; faulty = refl; panorama = refl; fork = refl; decisions = refl }

decided_9 : Decided9
unfolding unfold_decisions
decided_9 = record { answers = refl; kept = refl; settled = refl; parked = refl; dropped = refl; faulty = refl; panorama = refl; fork = refl; decisions = refl }

decided_10 : Decided10
unfolding unfold_decisions
decided_10 = record { answers = refl; kept = refl; settled = refl; parked = refl; dropped = refl; faulty = refl; panorama = refl; fork = refl; decisions = refl }

decided_11 : Decided11
unfolding unfold_decisions
decided_11 = record { answers = refl; kept = refl; settled = refl; parked = refl; dropped = refl; faulty = refl; panorama = refl; fork = refl; decisions = refl }

decided_12 : Decided12
unfolding unfold_decisions
decided_12 = record { answers = refl; kept = refl; settled = refl; parked = refl; dropped = refl; faulty = refl; panorama = refl; fork = refl; decisions = refl }

decided_13 : Decided13
unfolding unfold_decisions
decided_13 = record { answers = refl; kept = refl; settled = refl; parked = refl; dropped = refl; faulty = refl; panorama = refl; fork = refl; decisions = refl }

decided_14 : Decided14
unfolding unfold_decisions
decided_14 = record { answers = refl; kept = refl; settled = refl; parked = refl; dropped = refl; faulty = refl; panorama = refl; fork = refl; decisions = refl }

decided_15 : Decided15
unfolding unfold_decisions
decided_15 = record { answers = refl; kept = refl; settled = refl; parked = refl; dropped = refl; faulty = refl; panorama = refl; fork = refl; decisions = refl }

decided_16 : Decided16
unfolding unfold_decisions
decided_16 = record { answers = refl; kept = refl; settled = refl; parked = refl; dropped = refl; faulty = refl; panorama = refl; fork = refl; decisions = refl }

decided_17 : Decided17
unfolding unfold_decisions
decided_17 = record { answers = refl; kept = refl; settled = refl; parked = refl; dropped = refl; faulty = refl; panorama = refl; fork = refl; decisions = refl }

decided_18 : Decided18
unfolding unfold_decisions
decided_18 = record { answers = refl; kept = refl; settled = refl; parked = refl; dropped = refl; faulty = refl; panorama = refl; fork = refl; decisions = refl }

decided_19 : Decided19
unfolding unfold_decisions
decided_19 = record { answers = refl; kept = refl; settled = refl; parked = refl; dropped = refl; faulty = refl; panorama = refl; fork = refl; decisions = refl }

decided_20 : Decided20
unfolding unfold_decisions
decided_20 = record { answers = refl; kept = refl; settled = refl; parked = refl; dropped = refl; faulty = refl; panorama = refl; fork = refl; decisions = refl }

decided_21 : Decided21
unfolding unfold_decisions
decided_21 = record { answers = refl; kept = refl; settled = refl; parked = refl; dropped = refl; faulty = refl; panorama = refl; fork = refl; decisions = refl }

decided_22 : Decided22
unfolding unfold_decisions
decided_22 = record { answers = refl; kept = refl; settled = refl; parked = refl; dropped = refl; faulty = refl; panorama = refl; fork = refl; decisions = refl }

decided_23 : Decided23
unfolding unfold_decisions
decided_23 = record { answers = refl; kept = refl; settled = refl; parked = refl; dropped = refl; faulty = refl; panorama = refl; fork = refl; decisions = refl }

decided_24 : Decided24
unfolding unfold_decisions
decided_24 = record { answers = refl; kept = refl; settled = refl; parked = refl; dropped = refl; faulty = refl; panorama = refl; fork = refl; decisions = refl }

pub random_decisions : RandomDecisions
random_decisions = record {
  decided_1 = decided_1;
  decided_2 = decided_2;
  decided_3 = decided_3;
  decided_4 = decided_4;
  decided_5 = decided_5;
  decided_6 = decided_6;
  decided_7 = decided_7;
  decided_8 = decided_8;
  decided_9 = decided_9;
  decided_10 = decided_10;
  decided_11 = decided_11;
  decided_12 = decided_12;
  decided_13 = decided_13;
  decided_14 = decided_14;
  decided_15 = decided_15;
  decided_16 = decided_16;
  decided_17 = decided_17;
  decided_18 = decided_18;
  decided_19 = decided_19;
  decided_20 = decided_20;
  decided_21 = decided_21;
  decided_22 = decided_22;
  decided_23 = decided_23;
  decided_24 = decided_24;
}
