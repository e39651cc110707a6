-- A new unit at the end of the journal.
use Rattle.std.proofs.Common.{◌≡◌, ◌≢◌, ◌⊎◌, inl, inr, ℕ, ◌+◌, ◌≤◌, Bool, true, false, cond, List, [], ◌∷◌, ◌++◌, length, get_or, Option, Some, None, refl, sym, ap, subst, subst₂, ◌∙◌, arith, All}
use Rattle.std.specs.Prelude.{nat_lt, filter_map}
use Rattle.std.proofs.lemmas.Bool.Decides.{nat_tests}
use Rattle.std.proofs.lemmas.List.{append-nil, length-append}
use Rattle.std.proofs.lemmas.List.Elements.{filter_map-append}
use Rattle.hw_types.specs.declared.unit.Digest.{Digest}
use Rattle.hw_types.specs.declared.unit.Need.{Need}
use Rattle.hw_types.specs.declared.unit.SignedUnit.{SignedUnit}
use Rattle.hw_types.specs.declared.unit.Vertex.{Vertex}
use Rattle.hw_types.specs.declared.unit.Vertex.TheVariants as vertex
use Rattle.hw_types.specs.declared.answers.Rule.{Rule}
use Rattle.hw_types.specs.declared.answers.Receipt.{Receipt}
use Rattle.hw_types.specs.declared.answers.Receipt.TheVariants as receipt
use Rattle.hw_types.specs.Graph.{Node}
use Rattle.hw_types.specs.Below.{Among}
use Rattle.hw_types.specs.Rules.{local_rule, state_rule}
use Rattle.hw_types.specs.Spelling.{instance_of}
use Rattle.hw_types.specs.Settled.{Received, missing_of, settled_of, parked_of}
use Rattle.hw_types.specs.laws.StateLaws.{units_in}
use Rattle.hw_types.specs.Journal.{Setting, named, received_of, unit_of_vertex, endorsement_in, newly_settled, receipt_of}
use Rattle.hw_types.specs.Real.{setting_of}
use Rattle.hw_types.proofs.UnionLaws.{from_left, from_right}
use Rattle.hw_types.proofs.EntryLaws.{append_cases}
use Rattle.hw_types.proofs.JournalLaws.{received_rising, longer_extends}
use Rattle.hw_types.proofs.GrowsLaws.{received_grows}
use Rattle.hw_types.proofs.OrderLaws.{Accepted}
use Rattle.hw_types.proofs.ReceiptLaws.{tells_where}
use Rattle.hw_types.proofs.VertexLaws.{evidence_but}
use Rattle.hw_dag.specs.Dag.{graph}
use Rattle.hw_dag.specs.Admission.{PreparedUnit, node_prepared}
use Rattle.hw_endorse.specs.Told.{in_order}
use Rattle.hw_admit.specs.State.{NodeState}
use Rattle.hw_park.specs.Parked.{Parked, Waiting}
use Rattle.hw_core.specs.Settle.{IsPart, known_in, waiting_nodes, IsUnawaited, AreApart, Awaits, CanSettle, IsOnce}
use Rattle.hw_core.specs.Keeps.{HasTaken, IsNode}
use Rattle.hw_core.specs.Units.{IsNewUnit}
use Rattle.hw_core.proofs.UnitTakeLaws.{at_among, none_ready, new_unknown, new_unawaited}
use Rattle.hw_core.proofs.UnitBoundLaws.{missing_here}
use Rattle.hw_core.proofs.SettleLaws.{all_at}
use Rattle.hw_core.proofs.PartLaws.{part_last, once_last}

nodes_last : (ws : List (Waiting PreparedUnit)) (w : Waiting PreparedUnit) → waiting_nodes (ws ++ w ∷ []) ≡ waiting_nodes ws ++ node_prepared w.item ∷ []
nodes_last [] w = refl
nodes_last (v ∷ vs) w = ap (λ (xs : List Node). node_prepared v.item ∷ xs) (nodes_last vs w)

apart_more : (ws : List (Waiting PreparedUnit)) (last : Waiting PreparedUnit) → AreApart ws → IsUnawaited last.item.digest ws → AreApart (ws ++ last ∷ [])
apart_more [] last apart un = (λ w m. absurd m, tt)
apart_more (w ∷ ws) last apart un = (
  λ v m. elim (append_cases v ws (last ∷ []) m) [
    | inl old ↦ apart.0 v old
    | inr new ↦ elim new [ inl e ↦ (λ d. un w (inl refl) (sym d ∙ ap (λ (x : Waiting PreparedUnit). x.item.digest) (sym e))) | inr none ↦ absurd none ]
  ],
  apart_more ws last apart.1 (λ v m. un v (inr m)),
)

module _ (journal : List Vertex) (park : Parked PreparedUnit) (state : NodeState) (node : IsNode journal park state) (u : SignedUnit) (name : Digest) (new : IsNewUnit state.config journal u name)
    (p : PreparedUnit) (signed : p.signed ≡ u) (digest : p.digest ≡ name) where
  abbrev s : Setting
  s = setting_of state.config

  abbrev v : Vertex
  v = vertex.Unit u

  abbrev k : Received
  k = received_of s journal

  abbrev l : Received
  l = received_of s (journal ++ v ∷ [])

  abbrev x : Node
  x = named s u.unit

  pub prepared_is : node_prepared p ≡ x
  prepared_is = ap (λ (t : SignedUnit). record { digest = p.digest; unit = t.unit }) signed ∙ ap (λ (d : Digest). record { digest = d; unit = u.unit }) (digest ∙ new.name_is)

  units_are : units_in s (v ∷ []) ≡ x ∷ []
  units_are = let none = new.local in rw none refl

  pairs_stay : state.pairs ≡ l.endorsements
  unfolding received_of
  pairs_stay =
      node.is_of.knows.endorsements
      ∙ ap in_order (sym (append-nil (filter_map endorsement_in journal)))
      ∙ ap in_order (sym (filter_map-append endorsement_in journal (v ∷ [])))

  module _ (needs : List Need) where
    abbrev last : Waiting PreparedUnit
    last = record { needs = needs; item = p }

    abbrev waiting : List (Waiting PreparedUnit)
    waiting = park.waiting ++ last ∷ []

    taken_reserved : (spare room : ℕ) → HasTaken s journal v (record state { spare = spare; dag = record state.dag { spare = room } }) waiting
    taken_reserved spare room = record {
      config = refl;
      settled = node.is_of.settled;
      knows = record { evidence = λ w. node.is_of.knows.evidence w ∙ sym (evidence_but s journal v w (λ e. absurd cc)); endorsements = pairs_stay };
      waits = record {
        to = λ y m. to y (append_cases y (waiting_nodes park.waiting) (node_prepared p ∷ []) (subst (λ (xs : List Node). Among y xs) (nodes_last park.waiting last) m));
        back = λ y m. subst (λ (xs : List Node). Among y xs) (sym (nodes_last park.waiting last)) (back y (append_cases y (parked_of s.config k) (units_in s (v ∷ [])) m));
      };
      order = subst₂ (λ (ns us : List Node). IsPart ns us) (sym (nodes_last park.waiting last)) longer (part_last (waiting_nodes park.waiting) (units_in s journal) (node_prepared p) node.is_of.order);
      once = subst IsOnce longer (once_last (units_in s journal) (node_prepared p) node.is_of.once (λ m. new.fresh (node_prepared p) m digest));
      in_order = node.is_of.in_order;
    }
      where
        new_one : node_prepared p ∷ [] ≡ units_in s (v ∷ [])
        new_one = ap (λ (y : Node). y ∷ []) prepared_is ∙ sym units_are

        longer : units_in s journal ++ node_prepared p ∷ [] ≡ units_in s (journal ++ v ∷ [])
        longer = ap (λ (us : List Node). units_in s journal ++ us) new_one ∙ sym (filter_map-append (unit_of_vertex s) journal (v ∷ []))

        to : (y : Node) → (Among y (waiting_nodes park.waiting) ⊎ Among y (node_prepared p ∷ [])) → Among y (parked_of s.config k ++ units_in s (v ∷ []))
        to y (inl old) = from_left y (parked_of s.config k) (units_in s (v ∷ [])) (node.is_of.parked.to y old)
        to y (inr m) = from_right y (parked_of s.config k) (units_in s (v ∷ [])) (subst (λ (xs : List Node). Among y xs) new_one m)

        back : (y : Node) → (Among y (parked_of s.config k) ⊎ Among y (units_in s (v ∷ []))) → Among y (waiting_nodes park.waiting ++ node_prepared p ∷ [])
        back y (inl old) = from_left y (waiting_nodes park.waiting) (node_prepared p ∷ []) (node.is_of.parked.back y old)
        back y (inr m) = from_right y (waiting_nodes park.waiting) (node_prepared p ∷ []) (subst (λ (xs : List Node). Among y xs) (sym new_one) m)

    -- the new one waits last
    pub new_taken : (later : NodeState) → later ≡ record state { spare = later.spare; dag = record state.dag { spare = later.dag.spare } } → HasTaken s journal v later waiting
    new_taken later is = subst (λ (t : NodeState). HasTaken s journal v t waiting) (sym is) (taken_reserved later.spare later.dag.spare)

    module _ (needs_are : needs ≡ missing_of state.config (known_in state) (graph state.dag) (record { digest = name; unit = u.unit })) where
      new_awaits : Awaits state.config (known_in state) (graph state.dag) last
      new_awaits = record {
        needs_are = needs_are ∙ ap (λ (d : Digest). missing_of state.config (known_in state) (graph state.dag) (record { digest = d; unit = u.unit })) (sym digest)
            ∙ ap (λ (t : SignedUnit). missing_of state.config (known_in state) (graph state.dag) (record { digest = p.digest; unit = t.unit })) (sym signed);
        local = (instance_of state.config, subst (λ (t : SignedUnit). local_rule state.config (instance_of state.config) t.unit ≡ None) (sym signed) new.local);
        unknown = λ y m e. new_unknown journal park state node u name new y m (e ∙ digest);
      }

      can_reserved : (spare room : ℕ) → length park.waiting + 1 ≤ spare → CanSettle (record state { spare = spare; dag = record state.dag { spare = room } }) waiting
      can_reserved spare room fits = record {
        room = let long = length-append park.waiting (last ∷ []) in omega arith;
        are = record {
          each = λ w m. elim (append_cases w park.waiting (last ∷ []) m) [
            | inl old ↦ node.is_of.can.are.each w old
            | inr new ↦ elim new [ inl e ↦ subst (λ (y : Waiting PreparedUnit). Awaits state.config (known_in state) (graph state.dag) y) e new_awaits | inr none ↦ absurd none ]
          ];
          apart = apart_more park.waiting last node.is_of.can.are.apart (λ w m e. new_unawaited journal park state node u name new w m (e ∙ digest));
        };
      }

      -- where it misses something it waits as the others do
      pub can_parked : (later : NodeState) → later ≡ record state { spare = later.spare; dag = record state.dag { spare = later.dag.spare } } → length park.waiting + 1 ≤ later.spare → CanSettle later waiting
      can_parked later is fits = subst (λ (t : NodeState). CanSettle t waiting) (sym is) (can_reserved later.spare later.dag.spare fits)

      pub none_parked : needs ≢ [] → All (λ w. w.needs ≢ []) waiting
      none_parked some i d lt = each (get_or waiting i d) (append_cases (get_or waiting i d) park.waiting (last ∷ []) (at_among waiting i d lt))
        where
          each : (w : Waiting PreparedUnit) → (Among w park.waiting ⊎ Among w (last ∷ [])) → w.needs ≢ []
          each w (inl old) = all_at (λ w. w.needs ≢ []) park.waiting (none_ready journal park state node) w old
          each w (inr (inl e)) = λ h. some (ap (λ (y : Waiting PreparedUnit). y.needs) e ∙ h)
          each w (inr (inr none)) = absurd none

      -- ---- the receipt

      module _ (ok : Accepted s journal v) where
        missing_after : length (missing_of s.config l (settled_of s.config l) x) ≡ length needs
        missing_after = ap (λ (ns : List Need). length ns) ((tells_where s journal u node.apart ok).missing_agrees ∙ sym (missing_here journal park state node u name new needs needs_are))

        told : (b : Bool) (n : ℕ) (o : Option Rule) → nat_lt 0 (length (missing_of s.config l (settled_of s.config l) x)) ≡ b → length (missing_of s.config l (settled_of s.config l) x) ≡ n → state_rule s.config (settled_of s.config l) x ≡ o
            → receipt_of s journal v ≡ cond b (receipt.Parked n) (elim o as (λ z. Receipt) [ Some rule ↦ receipt.Dropped rule | None ↦ receipt.Admitted (newly_settled s journal v) ])
        told b n o e f g =
            ap (λ (c : Bool). cond c (receipt.Parked (length (missing_of s.config l (settled_of s.config l) x))) (elim (state_rule s.config (settled_of s.config l) x) as (λ z. Receipt) [ Some rule ↦ receipt.Dropped rule | None ↦ receipt.Admitted (newly_settled s journal v) ])) e
            ∙ ap (λ (m : ℕ). cond b (receipt.Parked m) (elim (state_rule s.config (settled_of s.config l) x) as (λ z. Receipt) [ Some rule ↦ receipt.Dropped rule | None ↦ receipt.Admitted (newly_settled s journal v) ])) f
            ∙ ap (λ (q : Option Rule). cond b (receipt.Parked n) (elim q as (λ z. Receipt) [ Some rule ↦ receipt.Dropped rule | None ↦ receipt.Admitted (newly_settled s journal v) ])) g

        pub receipt_parked : needs ≢ [] → receipt_of s journal v ≡ receipt.Parked (length needs)
        receipt_parked some = told true (length needs) (state_rule s.config (settled_of s.config l) x) (ap (λ (n : ℕ). nat_lt 0 n) missing_after ∙ positive needs some) missing_after refl
          where
            positive : (ns : List Need) → ns ≢ [] → nat_lt 0 (length ns) ≡ true
            positive [] f = absurd (f refl)
            positive (n ∷ ns) f = grind (arith, nat_tests)

        -- the verdict over what is settled stays
        verdict_after : needs ≡ [] → state_rule s.config (settled_of s.config l) x ≡ state_rule state.config (graph state.dag) (node_prepared p)
        verdict_after none =
            let nothing : length (missing_of s.config k (settled_of s.config k) x) ≡ 0 = ap (λ (ns : List Need). length ns) (sym (missing_here journal park state node u name new needs needs_are) ∙ none) in
            (received_grows s.config k l (received_rising s journal) (received_rising s (journal ++ v ∷ [])) (longer_extends s journal (v ∷ []))).verdict_stays x nothing
            ∙ ap (λ (units : List Node). state_rule state.config units x) (sym node.is_of.settled)
            ∙ ap (λ (y : Node). state_rule state.config (graph state.dag) y) (sym prepared_is)

        nothing_after : needs ≡ [] → nat_lt 0 (length (missing_of s.config l (settled_of s.config l) x)) ≡ false
        nothing_after none = ap (λ (n : ℕ). nat_lt 0 n) missing_after ∙ ap (λ (ns : List Need). nat_lt 0 (length ns)) none

        pub receipt_dropped : needs ≡ [] → (rule : Rule) → state_rule state.config (graph state.dag) (node_prepared p) ≡ Some rule → receipt_of s journal v ≡ receipt.Dropped rule
        receipt_dropped none rule e = told false (length needs) (Some rule) (nothing_after none) missing_after (verdict_after none ∙ e)

        pub receipt_admitted : needs ≡ [] → state_rule state.config (graph state.dag) (node_prepared p) ≡ None → (n : ℕ) → newly_settled s journal v ≡ n → receipt_of s journal v ≡ receipt.Admitted n
        receipt_admitted none e n f = told false (length needs) None (nothing_after none) missing_after (verdict_after none ∙ e) ∙ ap receipt.Admitted f
