use Rattle.std.proofs.Common.{◌≡◌, ℕ, ◌+◌, ◌-◌, ◌^◌, ◌<◌, length, List, get_or, Some, refl, sym, ap, ◌∙◌, subst, arith}
use Rattle.std.specs.Prelude.{slice_index_or}
use Rattle.hw_dag.specs.declared.numbers.UnitNo.{UnitNo}
use Rattle.hw_dag.specs.Jumps.{pointer_count_of}
use Rattle.hw_dag.specs.Skips.{back_from, backs_of, lists_of}
use Rattle.hw_dag.proofs.SkipLaws.{back_from-none}
use Rattle.hw_dag.proofs.ArenaLaws.{start_known, many_starts, next_known, next_leads, none_added, added_more}
use Rattle.hw_dag.proofs.skips.push_pointers.Goals as goal
use Rattle.hw_dag.proofs.skips.push_pointers.Goals.{then-i-gt0, else-i-gt0}

pub loop-i-init : goal.loop-i-init
loop-i-init c = (none_added _ c.args.back.0 c.args.pointers.now.items, back_from-none _ c.args.back.0, omega arith, refl)

pub bounds-starts-at : goal.bounds-starts-at
bounds-starts-at c =
    let known : c.args.back.0 < length (backs_of (lists_of c.args.starts.now c.args.pointers.now.items)) = (let many = many_starts _ _ c.requires.table _ refl in let lt = c.requires.known in omega arith) in
    start_known c.args.starts.now c.args.pointers.now.items c.requires.table _ refl c.args.back.0 (2 ^ (c.loop-i.i - 1) - 1) c.loop-i.at.0 known c.loop-i.invariant.1

pub overflow_add-start : goal.overflow_add-start
overflow_add-start c =
    let known : c.args.back.0 < length (backs_of (lists_of c.args.starts.now c.args.pointers.now.items)) = (let many = many_starts _ _ c.requires.table _ refl in let lt = c.requires.known in omega arith) in
    let few : c.loop-i.i < pointer_count_of c.args.depth = subst (λ (n : ℕ). c.loop-i.i < n) c.pointer_count-i-end.ensures c.loop-i-test.true in
    let place = next_known c.args.starts.now c.args.pointers.now.items c.requires.table _ refl c.args.back.0 c.args.depth known c.requires.some c.ranges.depth.fits c.requires.depth
    c.loop-i.at.0 c.loop-i.i (slice_index_or c.args.starts.now c.loop-i.at.0 0) c.loop-i.invariant.1 c.if-i-gt0.true few refl in
    let len = c.args.pointers.now.ok in
    let small = c.args.pointers.now.small in
    let some = c.if-i-gt0.true in
    omega arith

pub index-at-requires : goal.index-at-requires
index-at-requires c =
    let known : c.args.back.0 < length (backs_of (lists_of c.args.starts.now c.args.pointers.now.items)) = (let many = many_starts _ _ c.requires.table _ refl in let lt = c.requires.known in omega arith) in
    let few : c.loop-i.i < pointer_count_of c.args.depth = subst (λ (n : ℕ). c.loop-i.i < n) c.pointer_count-i-end.ensures c.loop-i-test.true in
    let place = next_known c.args.starts.now c.args.pointers.now.items c.requires.table _ refl c.args.back.0 c.args.depth known c.requires.some c.ranges.depth.fits c.requires.depth
    c.loop-i.at.0 c.loop-i.i (slice_index_or c.args.starts.now c.loop-i.at.0 0) c.loop-i.invariant.1 c.if-i-gt0.true few refl in
    let len = c.args.pointers.now.ok in
    let longer = c.loop-i.invariant.2 in
    omega arith

pub loop-i-preserved : goal.loop-i-preserved
loop-i-preserved c =
    let i = c.loop-i.invariant in
    let here = at_pointer c in
    let down : c.loop-i.i + 1 - 1 ≡ c.loop-i.i = omega arith in
    let len = c.push_reserved.ensures.len in
    let longer = i.2 in (
      added_more _ c.args.back.0 c.loop-i.i c.args.pointers.now.items c.loop-i.pointers.items c.push_reserved.new.self.items c.if-i-gt0.at i.0 c.push_reserved.ensures.items here,
      ap (λ (n : ℕ). back_from (backs_of (lists_of c.args.starts.now c.args.pointers.now.items)) (2 ^ n - 1) c.args.back.0) down ∙ here,
      omega arith,
      c.push_reserved.ensures.capacity ∙ i.3,
    )
  where
    at_pointer : (c : goal.After-push_reserved) → back_from (backs_of (lists_of c.args.starts.now c.args.pointers.now.items)) (2 ^ c.loop-i.i - 1) c.args.back.0 ≡ Some c.if-i-gt0.at.0
    at_pointer c =
        let i = c.loop-i.invariant in
        let known : c.args.back.0 < length (backs_of (lists_of c.args.starts.now c.args.pointers.now.items)) = (let many = many_starts _ _ c.requires.table _ refl in let lt = c.requires.known in omega arith) in
        let few : c.loop-i.i < pointer_count_of c.args.depth = subst (λ (n : ℕ). c.loop-i.i < n) c.pointer_count-i-end.ensures c.loop-i-test.true in
        elim c.if-i-gt0.branch [
          | then-i-gt0 w ↦
              let read = subst (λ (xs : List UnitNo). w.index-at.result.now ≡ get_or xs (slice_index_or c.args.starts.now c.loop-i.at.0 0 + c.loop-i.i - 1) w.index-at.result.now) i.0.items w.index-at.ensures in
              next_leads c.args.starts.now c.args.pointers.now.items c.requires.table _ refl c.args.back.0 c.args.depth known c.requires.some c.ranges.depth.fits c.requires.depth
              c.loop-i.at.0 c.loop-i.i (slice_index_or c.args.starts.now c.loop-i.at.0 0) i.1 w.if-i-gt0.true few refl i.0.added w.index-at.result.now read
              ∙ ap (λ (p : UnitNo). Some p.0) (sym w.at-is)
          | else-i-gt0 w ↦
              let low = w.if-i-gt0.false in
              let zero : c.loop-i.i ≡ c.loop-i.i - 1 = omega arith in
              ap (λ (n : ℕ). back_from (backs_of (lists_of c.args.starts.now c.args.pointers.now.items)) (2 ^ n - 1) c.args.back.0) zero ∙ i.1 ∙ ap (λ (p : UnitNo). Some p.0) (sym w.at-is)
        ]
