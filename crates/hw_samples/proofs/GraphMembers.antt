-- What journals settle is a lawful graph, in which chains lead.
use Rattle.std.proofs.Common.{◌≡◌, inl, inr, true, List, [], ◌∷◌, refl}
use Rattle.hw_types.proofs.PastLaws.{LeadsTo-reach}
use Rattle.hw_types.proofs.WalkLaws.{settled_walk}
use Rattle.hw_types.proofs.GrowsLaws.{received_grows}
use Rattle.hw_types.proofs.JournalLaws.{received_rising, longer_extends}
use Rattle.hw_safety.proofs.AccountLaws.{lawful_journal}
use Rattle.hw_samples.proofs.Members.{each_member}
use Rattle.hw_types.specs.Graph.{Node, cites, unit_cites}
use Rattle.hw_types.specs.Below.{Among, LeadsTo, begin, further}
use Rattle.hw_types.specs.Journal.{named, received_of}
use Rattle.hw_types.specs.laws.GraphLaws.{IsExtension, CitesOld}
use Rattle.hw_samples.specs.Words.{equal_three, three, sent, settled_in, unfold_answers}
use Rattle.hw_samples.specs.FourUnits.{a0, b0, a1, b1, in_order}
use Rattle.hw_samples.specs.Forks.{with_fork}
use Rattle.hw_samples.specs.Steps.{x}
use Rattle.hw_samples.specs.Relations.{four_nodes, first_two, GraphsAreLawful}

abbrev two_nodes : List Node
two_nodes = named three a0 ∷ named three b0 ∷ []

leads : LeadsTo unit_cites (cites b1.panorama) four_nodes (named three a0)
leads = further (named three a0) (named three b0) (begin (named three b0) (inr (inr (inl refl))) refl) (inl refl) refl

four_settled : settled_in three in_order ≡ four_nodes
unfolding unfold_answers
four_settled = refl

-- the four nodes that a panorama cites are the two
of_a0 : (x : Node) → Among x four_nodes → cites a0.panorama x ≡ true → Among x two_nodes
of_a0 x n c = absurd cc

of_b0 : (x : Node) → Among x four_nodes → cites b0.panorama x ≡ true → Among x two_nodes
of_b0 = each_member (λ x. cites b0.panorama x ≡ true → Among x two_nodes) four_nodes (λ c. inl refl, (λ c. absurd cc, (λ c. inr (inl refl), (λ c. absurd cc, tt))))

of_b1 : (x : Node) → Among x four_nodes → cites b1.panorama x ≡ true → Among x two_nodes
of_b1 = each_member (λ x. cites b1.panorama x ≡ true → Among x two_nodes) four_nodes (λ c. inl refl, (λ c. absurd cc, (λ c. inr (inl refl), (λ c. absurd cc, tt))))

closed : (y : Node) → Among y two_nodes → (x : Node) → Among x four_nodes → cites y.unit.panorama x ≡ true → Among x two_nodes
closed = each_member (λ y. (x : Node) → Among x four_nodes → cites y.unit.panorama x ≡ true → Among x two_nodes) two_nodes (of_a0, (of_b0, tt))

pub extension : IsExtension (settled_in three first_two) (settled_in three in_order)
unfolding unfold_answers
extension = record {
  rising = (lawful_journal three first_two).in_order;
  rising_more = (lawful_journal three in_order).in_order;
  part = (received_grows equal_three (received_of three first_two) (received_of three in_order) (received_rising three first_two) (received_rising three in_order) (longer_extends three first_two (sent a1 ∷ sent b1 ∷ []))).settled;
  closed = λ x y m n c. closed y m x n c;
}

pub cites_old : CitesOld (settled_in three first_two) (settled_in three in_order) b1.panorama
unfolding unfold_answers
cites_old = of_b1

pub graphs_are_lawful : GraphsAreLawful
graphs_are_lawful = record {
  settled = four_settled;
  leads = leads;
  reached = LeadsTo-reach unit_cites (cites b1.panorama) four_nodes (named three a0) leads;
  lawful = lawful_journal three in_order;
  with_a_fork = lawful_journal three with_fork;
  rising = (lawful_journal three in_order).in_order;
  acyclic = (settled_walk three in_order).0;
  extension = extension;
  cites_old = cites_old;
}
