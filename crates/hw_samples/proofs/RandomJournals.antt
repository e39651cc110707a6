-- Random journals, by a second reading.
use Rattle.std.proofs.Common.{refl}
use Rattle.hw_samples.specs.RandomJournal1.{RandomJournal1}
use Rattle.hw_samples.specs.RandomJournal2.{RandomJournal2}
use Rattle.hw_samples.specs.RandomJournal3.{RandomJournal3}
use Rattle.hw_samples.specs.RandomJournal4.{RandomJournal4}
use Rattle.hw_samples.specs.RandomEvents1.{RandomEvents1}
use Rattle.hw_samples.specs.RandomEvents2.{RandomEvents2}
use Rattle.hw_samples.specs.RandomEvents3.{RandomEvents3}
use Rattle.hw_samples.specs.RandomEvents4.{RandomEvents4}
use Rattle.hw_samples.specs.RandomCollisions1.{RandomCollisions1}
use Rattle.hw_samples.specs.RandomCollisions2.{RandomCollisions2}
use Rattle.hw_samples.specs.RandomCollisions3.{RandomCollisions3}
use Rattle.hw_samples.specs.RandomCollisions4.{RandomCollisions4}
use Rattle.hw_samples.specs.RandomRounds1.{RandomRounds1}
use Rattle.hw_samples.specs.RandomRounds2.{RandomRounds2}
use Rattle.hw_samples.specs.RandomRounds3.{RandomRounds3}
use Rattle.hw_samples.specs.RandomCommittees.{RandomCommittees}
use Rattle.hw_samples.specs.Gathered.{RandomJournals}
use Rattle.hw_samples.specs.JournalWords.{unfold_all}

random_journal_1 : RandomJournal1
unfolding unfold_all
random_journal_1 = record { answers = refl; settled = refl; parked = refl; dropped = refl; panorama = refl; weight = refl; fork = refl; endorsed = refl; votes = refl; heights = refl; missing = refl; rules = refl; naive = refl; steps = refl; culprits = refl; pair0 = refl; pair1 = refl; summits = refl }

random_journal_2 : RandomJournal2
unfolding unfold_all
random_journal_2 = record { answers = refl; settled = refl; parked = refl; dropped = refl; panorama = refl; weight = refl; fork = refl; endorsed = refl; votes = refl; heights = refl; missing = refl; rules = refl; steps = refl; summits = refl }

random_journal_3 : RandomJournal3
unfolding unfold_all
random_journal_3 = record { answers = refl; settled = refl; parked = refl; dropped = refl; panorama = refl; weight = refl; fork = refl; votes = refl; heights = refl; missing = refl; rules = refl; naive = refl; steps = refl; culprits = refl; pair0 = refl; summits = refl }

random_journal_4 : RandomJournal4
unfolding unfold_all
random_journal_4 = record { answers = refl; settled = refl; parked = refl; dropped = refl; panorama = refl; weight = refl; fork = refl; endorsed = refl; votes = refl; heights = refl; missing = refl; rules = refl; naive = refl; steps = refl; culprits = refl; pair3 = refl; summits = refl }

random_events_1 : RandomEvents1
unfolding unfold_all
random_events_1 = record { answers = refl; settled = refl; parked = refl; dropped = refl; panorama = refl; weight = refl; fork = refl; endorsed = refl; votes = refl; heights = refl; missing = refl; rules = refl; naive = refl; steps = refl; culprits = refl; pair2 = refl; summits = refl }

random_events_2 : RandomEvents2
unfolding unfold_all
random_events_2 = record { answers = refl; settled = refl; parked = refl; dropped = refl; panorama = refl; weight = refl; fork = refl; endorsed = refl; votes = refl; heights = refl; missing = refl; rules = refl; naive = refl; steps = refl; culprits = refl; pair1 = refl; summits = refl }

random_events_3 : RandomEvents3
unfolding unfold_all
random_events_3 = record { answers = refl; settled = refl; parked = refl; dropped = refl; panorama = refl; weight = refl; fork = refl; endorsed = refl; votes = refl; heights = refl; missing = refl; rules = refl; naive = refl; steps = refl; culprits = refl; pair2 = refl; summits = refl }

random_events_4 : RandomEvents4
unfolding unfold_all
random_events_4 = record { answers = refl; settled = refl; parked = refl; dropped = refl; panorama = refl; weight = refl; fork = refl; endorsed = refl; votes = refl; heights = refl; missing = refl; rules = refl; naive = refl; steps = refl; culprits = refl; pair1 = refl; summits = refl }

random_collisions_1 : RandomCollisions1
unfolding unfold_all
random_collisions_1 = record { answers = refl; settled = refl; parked = refl; dropped = refl; panorama = refl; weight = refl; fork = refl; endorsed = refl; votes = refl; heights = refl; missing = refl; rules = refl; naive = refl; steps = refl; culprits = refl; pair0 = refl; summits = refl }

random_collisions_2 : RandomCollisions2
unfolding unfold_all
random_collisions_2 = record { answers = refl; settled = refl; parked = refl; dropped = refl; panorama = refl; weight = refl; fork = refl; missing = refl; rules = refl; steps = refl; culprits = refl; pair0 = refl }

random_collisions_3 : RandomCollisions3
unfolding unfold_all
random_collisions_3 = record { answers = refl; settled = refl; parked = refl; dropped = refl; panorama = refl; weight = refl; fork = refl; votes = refl; heights = refl; missing = refl; rules = refl; naive = refl; steps = refl; summits = refl }

random_collisions_4 : RandomCollisions4
unfolding unfold_all
random_collisions_4 = record { answers = refl; settled = refl; parked = refl; dropped = refl; panorama = refl; weight = refl; fork = refl; endorsed = refl; votes = refl; heights = refl; missing = refl; rules = refl; steps = refl; culprits = refl; pair1 = refl; summits = refl }

random_rounds_1 : RandomRounds1
unfolding unfold_all
random_rounds_1 = record { answers = refl; order = refl; kept = refl; settled = refl; parked = refl; dropped = refl; panorama = refl; weight = refl; fork = refl; votes = refl; heights = refl; missing = refl; rules = refl; naive = refl; steps = refl; summits = refl }

random_rounds_2 : RandomRounds2
unfolding unfold_all
random_rounds_2 = record { answers = refl; order = refl; kept = refl; settled = refl; parked = refl; dropped = refl; panorama = refl; weight = refl; fork = refl; votes = refl; heights = refl; missing = refl; rules = refl; steps = refl; culprits = refl; summits = refl }

random_rounds_3 : RandomRounds3
unfolding unfold_all
random_rounds_3 = record { answers = refl; order = refl; kept = refl; settled = refl; parked = refl; dropped = refl; panorama = refl; weight = refl; fork = refl; missing = refl; steps = refl }

random_committees : RandomCommittees
unfolding unfold_all
random_committees = record { order = refl; kept = refl; voting = refl; seen0_1 = refl; seen0_2 = refl; seen1_1 = refl; seen1_2 = refl; seeing = refl }

pub random_journals : RandomJournals
random_journals = record {
  random_journal_1 = random_journal_1;
  random_journal_2 = random_journal_2;
  random_journal_3 = random_journal_3;
  random_journal_4 = random_journal_4;
  random_events_1 = random_events_1;
  random_events_2 = random_events_2;
  random_events_3 = random_events_3;
  random_events_4 = random_events_4;
  random_collisions_1 = random_collisions_1;
  random_collisions_2 = random_collisions_2;
  random_collisions_3 = random_collisions_3;
  random_collisions_4 = random_collisions_4;
  random_rounds_1 = random_rounds_1;
  random_rounds_2 = random_rounds_2;
  random_rounds_3 = random_rounds_3;
  random_committees = random_committees;
}
