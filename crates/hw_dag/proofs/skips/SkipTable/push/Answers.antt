use Rattle.std.proofs.Common.{◌≡◌, ℕ, ◌+◌, ◌-◌, length, List, [], ◌∷◌, ◌++◌, Option, refl, sym, ap, ◌∙◌, subst, arith}
use Rattle.std.specs.Prelude.{vec_len, vec_capacity}
use Rattle.hw_dag.specs.Jumps.{pointer_count_of}
use Rattle.hw_dag.specs.declared.numbers.UnitNo.{UnitNo}
use Rattle.hw_dag.specs.Skips.{BackLinks, IsDepth, IsSkipTable, IsAddedBehind, backs_of, lists_of}
use Rattle.hw_dag.proofs.SkipLaws.{few_pointers}
use Rattle.hw_dag.proofs.ArenaLaws.{HasItsPointers, many_starts, its_pointers, no_pointers, arena_more, backs_are, length_after}
use Rattle.hw_dag.proofs.skips.SkipTable.push.Goals as goal
use Rattle.hw_dag.proofs.skips.SkipTable.push.Goals.{in-Some, in_default}

pub push_pointers-requires-clause-table : goal.push_pointers-requires-clause-table
push_pointers-requires-clause-table c = subst (λ (xs : List ℕ). IsSkipTable (lists_of xs c.self.inside.pointers.items)) (sym c.as_slice.ensures.value) c.self.invariant.table

pub push_pointers-requires-clause-room : goal.push_pointers-requires-clause-room
push_pointers-requires-clause-room c =
    let few = few_pointers c.args.depth c.requires.small in
    let spare = ap (λ (b : BackLinks). b.spare) c.self.view_is in
    let some = c.requires.spare in
    let fit = c.self.invariant.pointers_fit in
    omega arith

pub push_pointers-requires-clause-known : goal.push_pointers-requires-clause-known
push_pointers-requires-clause-known c =
    let backs = ap (λ (b : BackLinks). b.backs) c.self.view_is in
    let many = many_starts c.self.inside.starts.items c.self.inside.pointers.items c.self.invariant.table c.args.self.now.backs backs in
    let known = c.requires.known c.in-Some.back c.in-Some.is in
    let same = ap length c.as_slice.ensures.value in
    omega arith

pub push_pointers-requires-clause-some : goal.push_pointers-requires-clause-some
push_pointers-requires-clause-some c = (c.requires.next c.in-Some.back c.in-Some.is).0

pub push_pointers-requires-clause-depth : goal.push_pointers-requires-clause-depth
push_pointers-requires-clause-depth c =
    let backs = ap (λ (b : BackLinks). b.backs) c.self.view_is in
    let here = ap (λ (xs : List ℕ). backs_of (lists_of xs c.self.inside.pointers.items)) c.as_slice.ensures.value ∙ backs in
    subst (λ (bs : List (Option UnitNo)). IsDepth bs c.in-Some.back.0 (c.args.depth - 1)) (sym here) (c.requires.next c.in-Some.back c.in-Some.is).1

-- the pointers of the new unit, and the room that they leave
made : (c : goal.After-self-1) → HasItsPointers c.args.self.now.backs c.args.back c.args.depth c.self.inside.pointers.items c.match-back.self-inside.pointers.items
    × (c.match-back.self-inside.spare ≡ c.self.inside.spare) × (c.match-back.self-inside.starts ≡ c.self.inside.starts) × (vec_capacity c.match-back.self-inside.pointers ≡ vec_capacity c.self.inside.pointers)
made c = elim c.match-back.branch [
  | in-Some w ↦
      let backs = ap (λ (b : BackLinks). b.backs) c.self.view_is in
      let here = ap (λ (xs : List ℕ). backs_of (lists_of xs c.self.inside.pointers.items)) w.as_slice.ensures.value ∙ backs in
      let added = subst (λ (bs : List (Option UnitNo)). IsAddedBehind bs w.in-Some.back.0 (pointer_count_of c.args.depth) c.self.inside.pointers.items w.push_pointers.new.pointers.items) here w.push_pointers.ensures.added in
      rw w.self-inside-is (
        its_pointers c.args.self.now.backs c.args.back c.args.depth c.self.inside.pointers.items w.push_pointers.new.pointers.items w.in-Some.back
            c.ranges.depth.fits c.requires.known c.requires.next w.in-Some.is added,
        refl,
        refl,
        w.push_pointers.ensures.capacity,
      )
  | in_default w ↦
      rw w.self-inside-is (no_pointers c.args.self.now.backs c.args.back c.args.depth c.self.inside.pointers.items c.ranges.depth.fits w.in_default.is c.requires.first, refl, refl, refl)
]

pub invariant_of-self : goal.invariant_of-self
invariant_of-self c =
    let backs = ap (λ (b : BackLinks). b.backs) c.self.view_is in
    let spare = ap (λ (b : BackLinks). b.spare) c.self.view_is in
    let some = c.requires.spare in
    let m = made c in
    let same = m.1 in
    let capacity = c.push_reserved.ensures.capacity ∙ (λ i. vec_capacity (m.2 i)) in
    let len = c.push_reserved.ensures.len ∙ (λ i. vec_len (m.2 i) + 1) in
    let room = m.3 in
    let starts_fit = c.self.invariant.starts_fit in
    let pointers_fit = c.self.invariant.pointers_fit in
    let few = few_pointers c.args.depth c.requires.small in
    let before = c.self.inside.pointers.ok in
    let after = c.match-back.self-inside.pointers.ok in
    let longer = length_after c.self.inside.starts.items c.self.inside.pointers.items c.self.invariant.table c.self.invariant.ordered c.args.self.now.backs backs
    c.args.back c.args.depth c.match-back.self-inside.pointers.items m.0 in
    arena_more c.self.inside.starts.items c.self.inside.pointers.items c.self.invariant.table c.self.invariant.ordered c.args.self.now.backs backs
    c.args.back c.args.depth c.match-back.self-inside.pointers.items m.0 _ _ _ c.push_reserved.new.self.items c.len-start.result
    (c.push_reserved.ensures.items ∙ (λ i. (m.2 i).items ++ c.len-start.result ∷ [])) (c.len-start.ensures ∙ before.0) (omega arith) (omega arith)

pub returns-clause-backs : goal.returns-clause-backs
returns-clause-backs c =
    let backs = ap (λ (b : BackLinks). b.backs) c.self.view_is in
    let m = made c in
    backs_are c.self.inside.starts.items c.self.inside.pointers.items c.self.invariant.table c.self.invariant.ordered c.args.self.now.backs backs
    c.args.back c.args.depth c.match-back.self-inside.pointers.items m.0 c.push_reserved.new.self.items c.len-start.result
    (c.push_reserved.ensures.items ∙ (λ i. (m.2 i).items ++ c.len-start.result ∷ [])) (c.len-start.ensures ∙ c.self.inside.pointers.ok.0)
