use Rattle.std.proofs.Common.{◌≡◌, ℕ, ◌-◌, length, refl, ap, ◌∙◌, arith}
use Rattle.std.proofs.lemmas.Nat.{one_shl}
use Rattle.std.proofs.lemmas.List.{get_or_read_under}
use Rattle.hw_dag.proofs.JumpLaws.{jump_count-arrived}
use Rattle.hw_dag.specs.Skips.{BackLinks, back_from}
use Rattle.hw_dag.proofs.SkipLaws.{back_from-none}
use Rattle.hw_dag.proofs.ArenaLaws.{start_known, jump_known, jump_leads}
use Rattle.hw_dag.proofs.skips.SkipTable.walk.Goals as goal

pub loop-depth-init : goal.loop-depth-init
loop-depth-init g c =
    let none : c.args.from - c.args.from ≡ 0 = omega arith in
    (c.requires.within, omega arith, ap (λ (k : ℕ). back_from c.args.self.now.backs k c.args.no.0) none ∙ back_from-none c.args.self.now.backs c.args.no.0, refl)

pub index-start-requires : goal.index-start-requires
index-start-requires g c =
    let backs = ap (λ (b : BackLinks). b.backs) c.self.view_is in
    let known = start_known c.self.inside.starts.items c.self.inside.pointers.items c.self.invariant.table c.args.self.now.backs backs
    c.args.no.0 (c.args.from - c.loop-depth.depth) c.loop-depth.at.0 c.requires.known c.loop-depth.invariant.2 in
    let len = c.self.inside.starts.ok in
    omega arith

pub overflow_add-start : goal.overflow_add-start
overflow_add-start g c =
    let backs = ap (λ (b : BackLinks). b.backs) c.self.view_is in
    let i = c.loop-depth.invariant in
    let known = start_known c.self.inside.starts.items c.self.inside.pointers.items c.self.invariant.table c.args.self.now.backs backs
    c.args.no.0 (c.args.from - c.loop-depth.depth) c.loop-depth.at.0 c.requires.known i.2 in
    let start = get_or_read_under c.self.inside.starts.items c.loop-depth.at.0 (length c.self.inside.starts.items) c.index-start.result.now 0 c.index-start.ensures known refl in
    let place = jump_known c.self.inside.starts.items c.self.inside.pointers.items c.self.invariant.table c.args.self.now.backs backs
    c.args.no.0 c.loop-depth.at.0 c.args.from c.loop-depth.depth c.jump-pointer.result c.index-start.result.now c.requires.known c.requires.depth i.1 i.2 c.jump-pointer.ensures.kept start in
    let len = c.self.inside.pointers.ok in
    let small = c.self.inside.pointers.small in
    omega arith

pub index-at-requires : goal.index-at-requires
index-at-requires g c =
    let backs = ap (λ (b : BackLinks). b.backs) c.self.view_is in
    let i = c.loop-depth.invariant in
    let known = start_known c.self.inside.starts.items c.self.inside.pointers.items c.self.invariant.table c.args.self.now.backs backs
    c.args.no.0 (c.args.from - c.loop-depth.depth) c.loop-depth.at.0 c.requires.known i.2 in
    let start = get_or_read_under c.self.inside.starts.items c.loop-depth.at.0 (length c.self.inside.starts.items) c.index-start.result.now 0 c.index-start.ensures known refl in
    let place = jump_known c.self.inside.starts.items c.self.inside.pointers.items c.self.invariant.table c.args.self.now.backs backs
    c.args.no.0 c.loop-depth.at.0 c.args.from c.loop-depth.depth c.jump-pointer.result c.index-start.result.now c.requires.known c.requires.depth i.1 i.2 c.jump-pointer.ensures.kept start in
    let len = c.self.inside.pointers.ok in
    omega arith

pub loop-depth-preserved : goal.loop-depth-preserved
loop-depth-preserved g c =
    let backs = ap (λ (b : BackLinks). b.backs) c.self.view_is in
    let i = c.loop-depth.invariant in
    let j = c.jump-pointer.ensures in
    let known = start_known c.self.inside.starts.items c.self.inside.pointers.items c.self.invariant.table c.args.self.now.backs backs
    c.args.no.0 (c.args.from - c.loop-depth.depth) c.loop-depth.at.0 c.requires.known i.2 in
    let start = get_or_read_under c.self.inside.starts.items c.loop-depth.at.0 (length c.self.inside.starts.items) c.index-start.result.now 0 c.index-start.ensures known refl in
    let shift = one_shl c.jump-pointer.result 64 j.bound in
    let leads = jump_leads c.self.inside.starts.items c.self.inside.pointers.items c.self.invariant.table c.args.self.now.backs backs
    c.args.no.0 c.loop-depth.at.0 c.args.from c.loop-depth.depth c.jump-pointer.result c.index-start.result.now c.index-at.result.now
    c.requires.known c.requires.depth i.1 i.2 j.kept (let low = j.within in omega arith) start c.index-at.ensures in
    let counted = j.counted in
    let low = j.within in
    let ticked = c.tick.ensures in
    let sum = i.3 in
    rw shift (omega arith, omega arith, leads, omega arith)

pub returns-clause-jumps : goal.returns-clause-jumps
returns-clause-jumps g c = omega (arith, c.loop-depth.invariant.3, jump_count-arrived c.loop-depth.depth c.args.to (omega arith))
