-- Nodes that are fed the same vertices.
use Rattle.std.proofs.Common.{◌≡◌, List, [], Option, None, sym, ap, subst, ◌∙◌}
use Rattle.std.specs.Prelude.{filter_map}
use Rattle.hw_types.specs.declared.unit.Vertex.{Vertex}
use Rattle.hw_types.specs.declared.config.Config.{Config}
use Rattle.hw_types.specs.Below.{Among}
use Rattle.hw_types.specs.Journal.{Setting, unit_of_vertex, evidence_in, endorsement_in, journal_of}
use Rattle.hw_types.specs.Real.{CoreState, setting_of}
use Rattle.hw_types.specs.laws.StateLaws.{HasSame, SaysTheSame}
use Rattle.hw_types.proofs.EntryLaws.{mapped_among, among_mapped}
use Rattle.hw_safety.proofs.TakenLaws.{says_all}
use Rattle.hw_core.specs.Promises.{delivered, TellsTheSame}
use Rattle.hw_core.proofs.PromiseLaws.{deliveries_are, order_does_not_count}
use Rattle.hw_honest.specs.Restart.{trusted}
use Rattle.hw_client.specs.Feeding.{FedAlike, CoresTellTheSame}

through : {A B : Type 0} (h : A → Option B) (xs ys : List A) → HasSame xs ys → (b : B) → Among b (filter_map h xs) → Among b (filter_map h ys)
through h xs ys same b m = let w = mapped_among h b xs m in among_mapped h w.0 b ys (same.to w.0 w.1) w.2

turned : {A : Type 0} (xs ys : List A) → HasSame xs ys → HasSame ys xs
turned xs ys same = record { to = same.back; back = same.to }

mapped : {A B : Type 0} (h : A → Option B) (xs ys : List A) → HasSame xs ys → HasSame (filter_map h xs) (filter_map h ys)
mapped h xs ys same = record { to = through h xs ys same; back = through h ys xs (turned xs ys same) }

both_same : {A : Type 0} (xs ys zs : List A) → HasSame xs ys → HasSame ys zs → HasSame xs zs
both_same xs ys zs a b = record { to = λ x m. b.to x (a.to x m); back = λ x m. a.back x (b.back x m) }

module _ (s : Setting) where
  says : (xs ys : List Vertex) → HasSame xs ys → SaysTheSame s xs ys
  says xs ys same = record { units = mapped (unit_of_vertex s) xs ys same; with_evidence = mapped evidence_in xs ys same; pairs = mapped endorsement_in xs ys same }

  says_both : (a b c : List Vertex) → SaysTheSame s a b → SaysTheSame s b c → SaysTheSame s a c
  says_both a b c h k = record { units = both_same _ _ _ h.units k.units; with_evidence = both_same _ _ _ h.with_evidence k.with_evidence; pairs = both_same _ _ _ h.pairs k.pairs }

  says_back : (a b : List Vertex) → SaysTheSame s a b → SaysTheSame s b a
  says_back a b h = record { units = turned _ _ h.units; with_evidence = turned _ _ h.with_evidence; pairs = turned _ _ h.pairs }

pub fed : FedAlike
fed config xs ys same left right =
    let s = setting_of config in
    order_does_not_count config (trusted xs) (trusted ys)
    (says_both s (journal_of s (trusted xs)) ys (journal_of s (trusted ys))
    (says_both s (journal_of s (trusted xs)) xs ys (says_all s [] xs left) (says s xs ys same))
    (says_back s (journal_of s (trusted ys)) ys (says_all s [] ys right)))

-- what a node tells is told by its configuration and its journal
pub in_hand : CoresTellTheSame
in_hand c d config come_c come_d same =
    let s = setting_of c.config in
    let of : List Vertex → CoreState = λ j. record { config = c.config; journal = j; asked = None } in
    let e : delivered c.config come_c.0 ≡ of c.journal = (deliveries_are c.config come_c.0).0 ∙ ap of (sym come_c.1) in
    let come : d.journal ≡ journal_of s come_d.0 = come_d.1 ∙ ap (λ (k : Config). journal_of (setting_of k) come_d.0) (sym config) in
    let f : delivered c.config come_d.0 ≡ of d.journal = (deliveries_are c.config come_d.0).0 ∙ ap of (sym come) in
    let says_so : SaysTheSame s (journal_of s come_c.0) (journal_of s come_d.0) = subst (λ (j : List Vertex). SaysTheSame s j (journal_of s come_d.0)) come_c.1 (subst (λ (j : List Vertex). SaysTheSame s c.journal j) come same) in
    let told = order_does_not_count c.config come_c.0 come_d.0 says_so in
    let left : TellsTheSame (of c.journal) (delivered c.config come_d.0) = subst (λ (k : CoreState). TellsTheSame k (delivered c.config come_d.0)) e told in
    let both : TellsTheSame (of c.journal) (of d.journal) = subst (λ (k : CoreState). TellsTheSame (of c.journal) k) f left in
    let all : TellsTheSame (of c.journal) (record { config = d.config; journal = d.journal; asked = None }) =
    subst (λ (k : Config). TellsTheSame (of c.journal) (record { config = k; journal = d.journal; asked = None })) config both in
    record { settled = all.settled; parked = all.parked; dropped = all.dropped; missing = all.missing; rules = all.rules; panorama = all.panorama; fork = all.fork; weight = all.weight; exceeded = all.exceeded }
