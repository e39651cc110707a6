-- Journals made by hand, one for each thing that a reading may get wrong.
use Rattle.std.proofs.Common.{refl}
use Rattle.hw_samples.specs.NoVertexJournal.{NoVertexJournal}
use Rattle.hw_samples.specs.CycleJournal.{CycleJournal}
use Rattle.hw_samples.specs.SelfCitationJournal.{SelfCitationJournal}
use Rattle.hw_samples.specs.SelfListingJournal.{SelfListingJournal}
use Rattle.hw_samples.specs.ThreeRootsJournal.{ThreeRootsJournal}
use Rattle.hw_samples.specs.ThreeRootsWeighedJournal.{ThreeRootsWeighedJournal}
use Rattle.hw_samples.specs.TiedRootsJournal.{TiedRootsJournal}
use Rattle.hw_samples.specs.TwoBlocksOneNumberJournal.{TwoBlocksOneNumberJournal}
use Rattle.hw_samples.specs.TwoBlocksWeighedJournal.{TwoBlocksWeighedJournal}
use Rattle.hw_samples.specs.ThreeWayForkJournal.{ThreeWayForkJournal}
use Rattle.hw_samples.specs.EvidenceAloneJournal.{EvidenceAloneJournal}
use Rattle.hw_samples.specs.CitedTwiceJournal.{CitedTwiceJournal}
use Rattle.hw_samples.specs.ListOfUnseenJournal.{ListOfUnseenJournal}
use Rattle.hw_samples.specs.ThirdInRoundJournal.{ThirdInRoundJournal}
use Rattle.hw_samples.specs.BlockTwiceJournal.{BlockTwiceJournal}
use Rattle.hw_samples.specs.EndAt0Journal.{EndAt0Journal}
use Rattle.hw_samples.specs.EndAt1Journal.{EndAt1Journal}
use Rattle.hw_samples.specs.EndAt2Journal.{EndAt2Journal}
use Rattle.hw_samples.specs.ChainJournal.{ChainJournal}
use Rattle.hw_samples.specs.ChainToEndJournal.{ChainToEndJournal}
use Rattle.hw_samples.specs.LostMarkJournal.{LostMarkJournal}
use Rattle.hw_samples.specs.OtherForkBelowJournal.{OtherForkBelowJournal}
use Rattle.hw_samples.specs.Gathered.{HandMadeJournals}
use Rattle.hw_samples.specs.JournalWords.{unfold_all}

no_vertex_journal : NoVertexJournal
unfolding unfold_all
no_vertex_journal = record { answers = refl; order = refl; kept = refl; settled = refl; parked = refl; dropped = refl; panorama = refl; weight = refl; fork = refl; missing = refl; steps = refl; culprits = refl }

cycle_journal : CycleJournal
unfolding unfold_all
cycle_journal = record { answers = refl; order = refl; kept = refl; settled = refl; parked = refl; dropped = refl; panorama = refl; weight = refl; fork = refl; missing = refl; steps = refl; culprits = refl }

self_citation_journal : SelfCitationJournal
unfolding unfold_all
self_citation_journal = record { answers = refl; order = refl; kept = refl; settled = refl; parked = refl; dropped = refl; panorama = refl; weight = refl; fork = refl; votes = refl; heights = refl; missing = refl; rules = refl; steps = refl; summits = refl }

self_listing_journal : SelfListingJournal
unfolding unfold_all
self_listing_journal = record { answers = refl; order = refl; kept = refl; settled = refl; parked = refl; dropped = refl; panorama = refl; weight = refl; fork = refl; endorsed = refl; votes = refl; heights = refl; missing = refl; rules = refl; steps = refl; summits = refl }

three_roots_journal : ThreeRootsJournal
unfolding unfold_all
three_roots_journal = record { answers = refl; order = refl; kept = refl; settled = refl; parked = refl; dropped = refl; panorama = refl; weight = refl; fork = refl; votes = refl; heights = refl; missing = refl; rules = refl; naive = refl; steps = refl; summits = refl }

three_roots_weighed_journal : ThreeRootsWeighedJournal
unfolding unfold_all
three_roots_weighed_journal = record { answers = refl; order = refl; kept = refl; settled = refl; parked = refl; dropped = refl; panorama = refl; weight = refl; fork = refl; votes = refl; heights = refl; missing = refl; rules = refl; naive = refl; steps = refl; culprits = refl; summits = refl }

tied_roots_journal : TiedRootsJournal
unfolding unfold_all
tied_roots_journal = record { answers = refl; order = refl; kept = refl; settled = refl; parked = refl; dropped = refl; panorama = refl; weight = refl; fork = refl; votes = refl; heights = refl; missing = refl; rules = refl; naive = refl; steps = refl; culprits = refl; summits = refl }

two_blocks_one_number_journal : TwoBlocksOneNumberJournal
unfolding unfold_all
two_blocks_one_number_journal = record { answers = refl; order = refl; kept = refl; settled = refl; parked = refl; dropped = refl; panorama = refl; weight = refl; fork = refl; endorsed = refl; votes = refl; heights = refl; missing = refl; rules = refl; naive = refl; steps = refl; summits = refl }

two_blocks_weighed_journal : TwoBlocksWeighedJournal
unfolding unfold_all
two_blocks_weighed_journal = record { answers = refl; order = refl; kept = refl; settled = refl; parked = refl; dropped = refl; panorama = refl; weight = refl; fork = refl; endorsed = refl; votes = refl; heights = refl; missing = refl; rules = refl; naive = refl; steps = refl; summits = refl }

three_way_fork_journal : ThreeWayForkJournal
unfolding unfold_all
three_way_fork_journal = record { answers = refl; order = refl; kept = refl; settled = refl; parked = refl; dropped = refl; panorama = refl; weight = refl; fork = refl; votes = refl; heights = refl; missing = refl; rules = refl; naive = refl; steps = refl; culprits = refl; pair1 = refl; summits = refl }

evidence_alone_journal : EvidenceAloneJournal
unfolding unfold_all
evidence_alone_journal = record { answers = refl; order = refl; kept = refl; settled = refl; parked = refl; dropped = refl; panorama = refl; weight = refl; fork = refl; votes = refl; heights = refl; missing = refl; rules = refl; naive = refl; steps = refl; culprits = refl; pair1 = refl; summits = refl }

cited_twice_journal : CitedTwiceJournal
unfolding unfold_all
cited_twice_journal = record { answers = refl; order = refl; kept = refl; settled = refl; parked = refl; dropped = refl; panorama = refl; weight = refl; fork = refl; endorsed = refl; votes = refl; heights = refl; missing = refl; rules = refl; steps = refl; summits = refl }

list_of_unseen_journal : ListOfUnseenJournal
unfolding unfold_all
list_of_unseen_journal = record { answers = refl; order = refl; kept = refl; settled = refl; parked = refl; dropped = refl; panorama = refl; weight = refl; fork = refl; endorsed = refl; votes = refl; heights = refl; missing = refl; rules = refl; steps = refl; summits = refl }

third_in_round_journal : ThirdInRoundJournal
unfolding unfold_all
third_in_round_journal = record { answers = refl; order = refl; kept = refl; settled = refl; parked = refl; dropped = refl; panorama = refl; weight = refl; fork = refl; votes = refl; heights = refl; missing = refl; rules = refl; naive = refl; steps = refl; summits = refl }

block_twice_journal : BlockTwiceJournal
unfolding unfold_all
block_twice_journal = record { answers = refl; order = refl; kept = refl; settled = refl; parked = refl; dropped = refl; panorama = refl; weight = refl; fork = refl; votes = refl; heights = refl; missing = refl; rules = refl; naive = refl; steps = refl; culprits = refl; summits = refl }

end_at_0journal : EndAt0Journal
unfolding unfold_all
end_at_0journal = record { answers = refl; order = refl; kept = refl; settled = refl; parked = refl; dropped = refl; panorama = refl; weight = refl; fork = refl; votes = refl; heights = refl; missing = refl; rules = refl; steps = refl; culprits = refl; summits = refl }

end_at_1journal : EndAt1Journal
unfolding unfold_all
end_at_1journal = record { answers = refl; order = refl; kept = refl; settled = refl; parked = refl; dropped = refl; panorama = refl; weight = refl; fork = refl; votes = refl; heights = refl; missing = refl; rules = refl; naive = refl; steps = refl; culprits = refl; summits = refl }

end_at_2journal : EndAt2Journal
unfolding unfold_all
end_at_2journal = record { answers = refl; order = refl; kept = refl; settled = refl; parked = refl; dropped = refl; panorama = refl; weight = refl; fork = refl; votes = refl; heights = refl; missing = refl; rules = refl; naive = refl; steps = refl; summits = refl }

chain_journal : ChainJournal
unfolding unfold_all
chain_journal = record { answers = refl; order = refl; kept = refl; settled = refl; parked = refl; dropped = refl; panorama = refl; weight = refl; fork = refl; votes = refl; heights = refl; missing = refl; rules = refl; naive = refl; steps = refl; summits = refl }

chain_to_end_journal : ChainToEndJournal
unfolding unfold_all
chain_to_end_journal = record { answers = refl; order = refl; kept = refl; settled = refl; parked = refl; dropped = refl; panorama = refl; weight = refl; fork = refl; votes = refl; heights = refl; missing = refl; rules = refl; naive = refl; steps = refl; culprits = refl; summits = refl }

lost_mark_journal : LostMarkJournal
unfolding unfold_all
lost_mark_journal = record { answers = refl; order = refl; kept = refl; settled = refl; parked = refl; dropped = refl; panorama = refl; weight = refl; fork = refl; votes = refl; heights = refl; missing = refl; rules = refl; naive = refl; steps = refl; culprits = refl; pair1 = refl; summits = refl }

other_fork_below_journal : OtherForkBelowJournal
unfolding unfold_all
other_fork_below_journal = record { answers = refl; order = refl; kept = refl; settled = refl; parked = refl; dropped = refl; panorama = refl; weight = refl; fork = refl; votes = refl; heights = refl; missing = refl; rules = refl; naive = refl; steps = refl; culprits = refl; pair1 = refl; summits = refl }

pub hand_made_journals : HandMadeJournals
hand_made_journals = record {
  no_vertex_journal = no_vertex_journal;
  cycle_journal = cycle_journal;
  self_citation_journal = self_citation_journal;
  self_listing_journal = self_listing_journal;
  three_roots_journal = three_roots_journal;
  three_roots_weighed_journal = three_roots_weighed_journal;
  tied_roots_journal = tied_roots_journal;
  two_blocks_one_number_journal = two_blocks_one_number_journal;
  two_blocks_weighed_journal = two_blocks_weighed_journal;
  three_way_fork_journal = three_way_fork_journal;
  evidence_alone_journal = evidence_alone_journal;
  cited_twice_journal = cited_twice_journal;
  list_of_unseen_journal = list_of_unseen_journal;
  third_in_round_journal = third_in_round_journal;
  block_twice_journal = block_twice_journal;
  end_at_0journal = end_at_0journal;
  end_at_1journal = end_at_1journal;
  end_at_2journal = end_at_2journal;
  chain_journal = chain_journal;
  chain_to_end_journal = chain_to_end_journal;
  lost_mark_journal = lost_mark_journal;
  other_fork_below_journal = other_fork_below_journal;
}
