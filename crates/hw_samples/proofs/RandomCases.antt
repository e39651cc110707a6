-- Random journals, by another reading.
use Rattle.std.proofs.Common.{refl}
use Rattle.hw_samples.specs.RandomCases1.{RandomCase1, RandomCase2, RandomCase3, RandomCase4, RandomCase5, RandomCase6, RandomCase7, RandomCase8, RandomCase9, RandomCase10, RandomCases1}
use Rattle.hw_samples.specs.RandomCases2.{RandomCase11, RandomCase12, RandomCase13, RandomCase14, RandomCase15, RandomCase16, RandomCase17, RandomCase18, RandomCase19, RandomCase20, RandomCases2}
use Rattle.hw_samples.specs.RandomCases3.{RandomCase21, RandomCase22, RandomCase23, RandomCase24, RandomCase25, RandomCase26, RandomCase27, RandomCase28, RandomCase29, RandomCase30, RandomCases3}
use Rattle.hw_samples.specs.RandomCases4.{RandomCase31, RandomCase32, RandomCase33, RandomCase34, RandomCase35, RandomCase36, RandomCase37, RandomCase38, RandomCase39, RandomCase40, RandomCases4}
use Rattle.hw_samples.specs.Words.{unfold_decisions}
use Rattle.hw_samples.specs.JournalWords.{unfold_all}

random_case_1 : RandomCase1
unfolding unfold_all unfold_decisions
random_case_1 = record { answers = refl; kept = refl; settled = refl; parked = refl; dropped = refl; faulty = refl; panorama = refl; fork = refl; decisions = refl; culprits = refl; steps = refl }

random_case_2 : RandomCase2
unfolding unfold_all unfold_decisions
random_case_2 = record { answers = refl; kept = refl; settled = refl; parked = refl; dropped = refl; faulty = refl; panorama = refl; fork = refl; decisions = refl; culprits = refl; steps = refl }

random_case_3 : RandomCase3
unfolding unfold_all unfold_decisions
random_case_3 = record { answers = refl; kept = refl; settled = refl; parked = refl; dropped = refl; faulty = refl; panorama = refl; fork = refl; decisions = refl; culprits = refl; steps = refl }

random_case_4 : RandomCase4
unfolding unfold_all unfold_decisions
random_case_4 = record { answers = refl; kept = refl; settled = refl; parked = refl; dropped = refl; faulty = refl; panorama = refl; fork = refl; decisions = refl; culprits = refl; steps = refl }

random_case_5 : RandomCase5
unfolding unfold_all unfold_decisions
random_case_5 = record { answers = refl; kept = refl; settled = refl; parked = refl; dropped = refl; faulty = refl; panorama = refl; fork = refl; decisions = refl; culprits = refl; pair0 = refl; steps = refl }

random_case_6 : RandomCase6
unfolding unfold_all unfold_decisions
random_case_6 = record { answers = refl; kept = refl; settled = refl; parked = refl; dropped = refl; faulty = refl; panorama = refl; fork = refl; decisions = refl; culprits = refl; steps = refl }

random_case_7 : RandomCase7
unfolding unfold_all unfold_decisions
random_case_7 = record { answers = refl; kept = refl; settled = refl; parked = refl; dropped = refl; faulty = refl; panorama = refl; fork = refl; decisions = refl; missing = refl; culprits = refl; steps = refl }

random_case_8 : RandomCase8
unfolding unfold_all unfold_decisions
random_case_8 = record { answers = refl; kept = refl; settled = refl; parked = refl; dropped = refl; faulty = refl; panorama = refl; fork = refl; decisions = refl; culprits = refl; steps = refl }

random_case_9 : RandomCase9
unfolding unfold_all unfold_decisions
random_case_9 = record { answers = refl; kept = refl; settled = refl; parked = refl; dropped = refl; faulty = refl; panorama = refl; fork = refl; decisions = refl; culprits = refl; pair0 = refl; steps = refl }

random_case_10 : RandomCase10
unfolding unfold_all unfold_decisions
random_case_10 = record { answers = refl; kept = refl; settled = refl; parked = refl; dropped = refl; faulty = refl; panorama = refl; fork = refl; decisions = refl; culprits = refl; steps = refl }

pub random_cases_1 : RandomCases1
random_cases_1 = record { case1 = random_case_1; case2 = random_case_2; case3 = random_case_3; case4 = random_case_4; case5 = random_case_5; case6 = random_case_6; case7 = random_case_7; case8 = random_case_8; case9 = random_case_9; case10 = random_case_10 }

random_case_11 : RandomCase11
unfolding unfold_all unfold_decisions
random_case_11 = record { answers = refl; kept = refl; settled = refl; parked = refl; dropped = refl; faulty = refl; panorama = refl; fork = refl; decisions = refl; culprits = refl; steps = refl }

random_case_12 : RandomCase12
unfolding unfold_all unfold_decisions
random_case_12 = record { answers = refl; kept = refl; settled = refl; parked = refl; dropped = refl; faulty = refl; panorama = refl; fork = refl; decisions = refl; culprits = refl; steps = refl }

random_case_13 : RandomCase13
unfolding unfold_all unfold_decisions
random_case_13 = record { answers = refl; kept = refl; settled = refl; parked = refl; dropped = refl; faulty = refl; panorama = refl; fork = refl; decisions = refl; missing = refl; culprits = refl; pair1 = refl; steps = refl }

random_case_14 : RandomCase14
unfolding unfold_all unfold_decisions
random_case_14 = record { answers = refl; kept = refl; settled = refl; parked = refl; dropped = refl; faulty = refl; panorama = refl; fork = refl; decisions = refl; culprits = refl; pair1 = refl; steps = refl }

random_case_15 : RandomCase15
unfolding unfold_all unfold_decisions
random_case_15 = record { answers = refl; kept = refl; settled = refl; parked = refl; dropped = refl; faulty = refl; panorama = refl; fork = refl; decisions = refl; missing = refl; culprits = refl; steps = refl }

random_case_16 : RandomCase16
unfolding unfold_all unfold_decisions
random_case_16 = record { answers = refl; kept = refl; settled = refl; parked = refl; dropped = refl; faulty = refl; panorama = refl; fork = refl; decisions = refl; missing = refl; culprits = refl; steps = refl }

random_case_17 : RandomCase17
unfolding unfold_all unfold_decisions
random_case_17 = record { answers = refl; kept = refl; settled = refl; parked = refl; dropped = refl; faulty = refl; panorama = refl; fork = refl; decisions = refl; culprits = refl; steps = refl }

random_case_18 : RandomCase18
unfolding unfold_all unfold_decisions
random_case_18 = record { answers = refl; kept = refl; settled = refl; parked = refl; dropped = refl; faulty = refl; panorama = refl; fork = refl; decisions = refl; culprits = refl; pair0 = refl; steps = refl }

random_case_19 : RandomCase19
unfolding unfold_all unfold_decisions
random_case_19 = record { answers = refl; kept = refl; settled = refl; parked = refl; dropped = refl; faulty = refl; panorama = refl; fork = refl; decisions = refl; culprits = refl; steps = refl }

random_case_20 : RandomCase20
unfolding unfold_all unfold_decisions
random_case_20 = record { answers = refl; kept = refl; settled = refl; parked = refl; dropped = refl; faulty = refl; panorama = refl; fork = refl; decisions = refl; culprits = refl; steps = refl }

pub random_cases_2 : RandomCases2
random_cases_2 = record { case11 = random_case_11; case12 = random_case_12; case13 = random_case_13; case14 = random_case_14; case15 = random_case_15; case16 = random_case_16; case17 = random_case_17; case18 = random_case_18; case19 = random_case_19; case20 = random_case_20 }

random_case_21 : RandomCase21
unfolding unfold_all unfold_decisions
random_case_21 = record { answers = refl; kept = refl; settled = refl; parked = refl; dropped = refl; faulty = refl; panorama = refl; fork = refl; decisions = refl; culprits = refl; steps = refl }

random_case_22 : RandomCase22
unfolding unfold_all unfold_decisions
random_case_22 = record { answers = refl; kept = refl; settled = refl; parked = refl; dropped = refl; faulty = refl; panorama = refl; fork = refl; decisions = refl; culprits = refl; steps = refl }

random_case_23 : RandomCase23
unfolding unfold_all unfold_decisions
random_case_23 = record { answers = refl; kept = refl; settled = refl; parked = refl; dropped = refl; faulty = refl; panorama = refl; fork = refl; decisions = refl; culprits = refl; steps = refl }

random_case_24 : RandomCase24
unfolding unfold_all unfold_decisions
random_case_24 = record { answers = refl; kept = refl; settled = refl; parked = refl; dropped = refl; faulty = refl; panorama = refl; fork = refl; decisions = refl; culprits = refl; steps = refl }

random_case_25 : RandomCase25
unfolding unfold_all unfold_decisions
random_case_25 = record { answers = refl; kept = refl; settled = refl; parked = refl; dropped = refl; faulty = refl; panorama = refl; fork = refl; decisions = refl; culprits = refl; pair3 = refl; steps = refl }

random_case_26 : RandomCase26
unfolding unfold_all unfold_decisions
random_case_26 = record { answers = refl; kept = refl; settled = refl; parked = refl; dropped = refl; faulty = refl; panorama = refl; fork = refl; decisions = refl; missing = refl; culprits = refl; steps = refl }

random_case_27 : RandomCase27
unfolding unfold_all unfold_decisions
random_case_27 = record { answers = refl; kept = refl; settled = refl; parked = refl; dropped = refl; faulty = refl; panorama = refl; fork = refl; decisions = refl; culprits = refl; steps = refl }

random_case_28 : RandomCase28
unfolding unfold_all unfold_decisions
random_case_28 = record { answers = refl; kept = refl; settled = refl; parked = refl; dropped = refl; faulty = refl; panorama = refl; fork = refl; decisions = refl; missing = refl; culprits = refl; steps = refl }

random_case_29 : RandomCase29
unfolding unfold_all unfold_decisions
random_case_29 = record { answers = refl; kept = refl; settled = refl; parked = refl; dropped = refl; faulty = refl; panorama = refl; fork = refl; decisions = refl; culprits = refl; pair0 = refl; steps = refl }

random_case_30 : RandomCase30
unfolding unfold_all unfold_decisions
random_case_30 = record { answers = refl; kept = refl; settled = refl; parked = refl; dropped = refl; faulty = refl; panorama = refl; fork = refl; decisions = refl; missing = refl; culprits = refl; steps = refl }

pub random_cases_3 : RandomCases3
random_cases_3 = record { case21 = random_case_21; case22 = random_case_22; case23 = random_case_23; case24 = random_case_24; case25 = random_case_25; case26 = random_case_26; case27 = random_case_27; case28 = random_case_28; case29 = random_case_29; case30 = random_case_30 }

random_case_31 : RandomCase31
unfolding unfold_all unfold_decisions
random_case_31 = record { answers = refl; kept = refl; settled = refl; parked = refl; dropped = refl; faulty = refl; panorama = refl; fork = refl; decisions = refl; culprits = refl; pair3 = refl; steps = refl }

random_case_32 : RandomCase32
unfolding unfold_all unfold_decisions
random_case_32 = record { answers = refl; kept = refl; settled = refl; parked = refl; dropped = refl; faulty = refl; panorama = refl; fork = refl; decisions = refl; culprits = refl; steps = refl }

random_case_33 : RandomCase33
unfolding unfold_all unfold_decisions
random_case_33 = record { answers = refl; kept = refl; settled = refl; parked = refl; dropped = refl; faulty = refl; panorama = refl; fork = refl; decisions = refl; culprits = refl; pair0 = refl; steps = refl }

random_case_34 : RandomCase34
unfolding unfold_all unfold_decisions
random_case_34 = record { answers = refl; kept = refl; settled = refl; parked = refl; dropped = refl; faulty = refl; panorama = refl; fork = refl; decisions = refl; culprits = refl; pair0 = refl; steps = refl }

random_case_35 : RandomCase35
unfolding unfold_all unfold_decisions
random_case_35 = record { answers = refl; kept = refl; settled = refl; parked = refl; dropped = refl; faulty = refl; panorama = refl; fork = refl; decisions = refl; culprits = refl; steps = refl }

random_case_36 : RandomCase36
unfolding unfold_all unfold_decisions
random_case_36 = record { answers = refl; kept = refl; settled = refl; parked = refl; dropped = refl; faulty = refl; panorama = refl; fork = refl; decisions = refl; culprits = refl; steps = refl }

random_case_37 : RandomCase37
unfolding unfold_all unfold_decisions
random_case_37 = record { answers = refl; kept = refl; settled = refl; parked = refl; dropped = refl; faulty = refl; panorama = refl; fork = refl; decisions = refl; culprits = refl; pair0 = refl; steps = refl }

random_case_38 : RandomCase38
unfolding unfold_all unfold_decisions
random_case_38 = record { answers = refl; kept = refl; settled = refl; parked = refl; dropped = refl; faulty = refl; panorama = refl; fork = refl; decisions = refl; culprits = refl; steps = refl }

random_case_39 : RandomCase39
unfolding unfold_all unfold_decisions
random_case_39 = record { answers = refl; kept = refl; settled = refl; parked = refl; dropped = refl; faulty = refl; panorama = refl; fork = refl; decisions = refl; culprits = refl; steps = refl }

random_case_40 : RandomCase40
unfolding unfold_all unfold_decisions
random_case_40 = record { answers = refl; kept = refl; settled = refl; parked = refl; dropped = refl; faulty = refl; panorama = refl; fork = refl; decisions = refl; culprits = refl; steps = refl }

pub random_cases_4 : RandomCases4
random_cases_4 = record { case31 = random_case_31; case32 = random_case_32; case33 = random_case_33; case34 = random_case_34; case35 = random_case_35; case36 = random_case_36; case37 = random_case_37; case38 = random_case_38; case39 = random_case_39; case40 = random_case_40 }
