-- The journals and values of files of their own, gathered.
use Rattle.hw_samples.specs.NoVertexJournal.{NoVertexJournal}
use Rattle.hw_samples.specs.CycleJournal.{CycleJournal}
use Rattle.hw_samples.specs.SelfCitationJournal.{SelfCitationJournal}
use Rattle.hw_samples.specs.SelfListingJournal.{SelfListingJournal}
use Rattle.hw_samples.specs.ThreeRootsJournal.{ThreeRootsJournal}
use Rattle.hw_samples.specs.ThreeRootsWeighedJournal.{ThreeRootsWeighedJournal}
use Rattle.hw_samples.specs.TiedRootsJournal.{TiedRootsJournal}
use Rattle.hw_samples.specs.TwoBlocksOneNumberJournal.{TwoBlocksOneNumberJournal}
use Rattle.hw_samples.specs.TwoBlocksWeighedJournal.{TwoBlocksWeighedJournal}
use Rattle.hw_samples.specs.ThreeWayForkJournal.{ThreeWayForkJournal}
use Rattle.hw_samples.specs.EvidenceAloneJournal.{EvidenceAloneJournal}
use Rattle.hw_samples.specs.CitedTwiceJournal.{CitedTwiceJournal}
use Rattle.hw_samples.specs.ListOfUnseenJournal.{ListOfUnseenJournal}
use Rattle.hw_samples.specs.ThirdInRoundJournal.{ThirdInRoundJournal}
use Rattle.hw_samples.specs.BlockTwiceJournal.{BlockTwiceJournal}
use Rattle.hw_samples.specs.EndAt0Journal.{EndAt0Journal}
use Rattle.hw_samples.specs.EndAt1Journal.{EndAt1Journal}
use Rattle.hw_samples.specs.EndAt2Journal.{EndAt2Journal}
use Rattle.hw_samples.specs.ChainJournal.{ChainJournal}
use Rattle.hw_samples.specs.ChainToEndJournal.{ChainToEndJournal}
use Rattle.hw_samples.specs.LostMarkJournal.{LostMarkJournal}
use Rattle.hw_samples.specs.OtherForkBelowJournal.{OtherForkBelowJournal}
use Rattle.hw_samples.specs.RandomJournal1.{RandomJournal1}
use Rattle.hw_samples.specs.RandomJournal2.{RandomJournal2}
use Rattle.hw_samples.specs.RandomJournal3.{RandomJournal3}
use Rattle.hw_samples.specs.RandomJournal4.{RandomJournal4}
use Rattle.hw_samples.specs.RandomEvents1.{RandomEvents1}
use Rattle.hw_samples.specs.RandomEvents2.{RandomEvents2}
use Rattle.hw_samples.specs.RandomEvents3.{RandomEvents3}
use Rattle.hw_samples.specs.RandomEvents4.{RandomEvents4}
use Rattle.hw_samples.specs.RandomCollisions1.{RandomCollisions1}
use Rattle.hw_samples.specs.RandomCollisions2.{RandomCollisions2}
use Rattle.hw_samples.specs.RandomCollisions3.{RandomCollisions3}
use Rattle.hw_samples.specs.RandomCollisions4.{RandomCollisions4}
use Rattle.hw_samples.specs.RandomRounds1.{RandomRounds1}
use Rattle.hw_samples.specs.RandomRounds2.{RandomRounds2}
use Rattle.hw_samples.specs.RandomRounds3.{RandomRounds3}
use Rattle.hw_samples.specs.RandomCommittees.{RandomCommittees}
use Rattle.hw_samples.specs.RandomBytes1.{RandomBytes1}
use Rattle.hw_samples.specs.RandomBytes2.{RandomBytes2}
use Rattle.hw_samples.specs.RandomNumbers.{RandomNumbers}
use Rattle.hw_samples.specs.ListLimit.{ListLimit}
use Rattle.hw_samples.specs.RandomDecisions1.{Decided1}
use Rattle.hw_samples.specs.RandomDecisions1.{Decided2}
use Rattle.hw_samples.specs.RandomDecisions1.{Decided3}
use Rattle.hw_samples.specs.RandomDecisions1.{Decided4}
use Rattle.hw_samples.specs.RandomDecisions2.{Decided5}
use Rattle.hw_samples.specs.RandomDecisions2.{Decided6}
use Rattle.hw_samples.specs.RandomDecisions2.{Decided7}
use Rattle.hw_samples.specs.RandomDecisions2.{Decided8}
use Rattle.hw_samples.specs.RandomDecisions3.{Decided9}
use Rattle.hw_samples.specs.RandomDecisions3.{Decided10}
use Rattle.hw_samples.specs.RandomDecisions3.{Decided11}
use Rattle.hw_samples.specs.RandomDecisions3.{Decided12}
use Rattle.hw_samples.specs.RandomDecisions4.{Decided13}
use Rattle.hw_samples.specs.RandomDecisions4.{Decided14}
use Rattle.hw_samples.specs.RandomDecisions4.{Decided15}
use Rattle.hw_samples.specs.RandomDecisions4.{Decided16}
use Rattle.hw_samples.specs.RandomDecisions5.{Decided17}
use Rattle.hw_samples.specs.RandomDecisions5.{Decided18}
use Rattle.hw_samples.specs.RandomDecisions5.{Decided19}
use Rattle.hw_samples.specs.RandomDecisions5.{Decided20}
use Rattle.hw_samples.specs.RandomDecisions6.{Decided21}
use Rattle.hw_samples.specs.RandomDecisions6.{Decided22}
use Rattle.hw_samples.specs.RandomDecisions6.{Decided23}
use Rattle.hw_samples.specs.RandomDecisions6.{Decided24}

-- journals made by hand, one for each thing that a reading may get wrong
pub record HandMadeJournals : Type 0 where
  pub no_vertex_journal : NoVertexJournal
  pub cycle_journal : CycleJournal
  pub self_citation_journal : SelfCitationJournal
  pub self_listing_journal : SelfListingJournal
  pub three_roots_journal : ThreeRootsJournal
  pub three_roots_weighed_journal : ThreeRootsWeighedJournal
  pub tied_roots_journal : TiedRootsJournal
  pub two_blocks_one_number_journal : TwoBlocksOneNumberJournal
  pub two_blocks_weighed_journal : TwoBlocksWeighedJournal
  pub three_way_fork_journal : ThreeWayForkJournal
  pub evidence_alone_journal : EvidenceAloneJournal
  pub cited_twice_journal : CitedTwiceJournal
  pub list_of_unseen_journal : ListOfUnseenJournal
  pub third_in_round_journal : ThirdInRoundJournal
  pub block_twice_journal : BlockTwiceJournal
  pub end_at_0journal : EndAt0Journal
  pub end_at_1journal : EndAt1Journal
  pub end_at_2journal : EndAt2Journal
  pub chain_journal : ChainJournal
  pub chain_to_end_journal : ChainToEndJournal
  pub lost_mark_journal : LostMarkJournal
  pub other_fork_below_journal : OtherForkBelowJournal

-- random journals, by a second reading
pub record RandomJournals : Type 0 where
  pub random_journal_1 : RandomJournal1
  pub random_journal_2 : RandomJournal2
  pub random_journal_3 : RandomJournal3
  pub random_journal_4 : RandomJournal4
  pub random_events_1 : RandomEvents1
  pub random_events_2 : RandomEvents2
  pub random_events_3 : RandomEvents3
  pub random_events_4 : RandomEvents4
  pub random_collisions_1 : RandomCollisions1
  pub random_collisions_2 : RandomCollisions2
  pub random_collisions_3 : RandomCollisions3
  pub random_collisions_4 : RandomCollisions4
  pub random_rounds_1 : RandomRounds1
  pub random_rounds_2 : RandomRounds2
  pub random_rounds_3 : RandomRounds3
  pub random_committees : RandomCommittees

-- random bytes and numbers, by a second reading
pub record RandomValues : Type 0 where
  pub random_bytes_1 : RandomBytes1
  pub random_bytes_2 : RandomBytes2
  pub random_numbers : RandomNumbers
  pub list_limit : ListLimit

-- random journals with what they decide, by a third reading
pub record RandomDecisions : Type 0 where
  pub decided_1 : Decided1
  pub decided_2 : Decided2
  pub decided_3 : Decided3
  pub decided_4 : Decided4
  pub decided_5 : Decided5
  pub decided_6 : Decided6
  pub decided_7 : Decided7
  pub decided_8 : Decided8
  pub decided_9 : Decided9
  pub decided_10 : Decided10
  pub decided_11 : Decided11
  pub decided_12 : Decided12
  pub decided_13 : Decided13
  pub decided_14 : Decided14
  pub decided_15 : Decided15
  pub decided_16 : Decided16
  pub decided_17 : Decided17
  pub decided_18 : Decided18
  pub decided_19 : Decided19
  pub decided_20 : Decided20
  pub decided_21 : Decided21
  pub decided_22 : Decided22
  pub decided_23 : Decided23
  pub decided_24 : Decided24
