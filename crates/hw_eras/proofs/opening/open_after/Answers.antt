use Rattle.std.proofs.Common.{◌≡◌, ◌<◌, length, List, Ok, Err, Some, None, refl, subst, arith}
use Rattle.hw_types.specs.Real.{CoreState}
use Rattle.hw_eras.specs.declared.answers.EraOpen.TheVariants as opening
use Rattle.hw_eras.specs.Nodes.{last_core}
use Rattle.hw_eras.proofs.EndedLaws.{last_made, unended_none, unended_full, ended_none, ended_full}
use Rattle.hw_eras.proofs.NodeLaws.{opened_has}
use Rattle.hw_eras.proofs.opening.open_after.Goals as goal

pub last_block-requires : goal.last_block-requires
last_block-requires c =
    let last = subst (λ (ks : List CoreState). last_core ks ≡ Some c.last.result.now) c.deref.ensures.value c.last.ensures in
    last_made c.args.cores.now.items c.last.result.now c.requires last

pub returns-in-None-clause-none : goal.returns-in-None-clause-none
returns-in-None-clause-none c =
    let last = subst (λ (ks : List CoreState). last_core ks ≡ Some c.last.result.now) c.deref.ensures.value c.last.ensures in
    unended_none c.args.cores.now.items c.last.result.now last (Ok None) refl (c.in-None.ensures.none refl)

pub returns-in-None-clause-full : goal.returns-in-None-clause-full
returns-in-None-clause-full c =
    let last = subst (λ (ks : List CoreState). last_core ks ≡ Some c.last.result.now) c.deref.ensures.value c.last.ensures in
    unended_full c.args.cores.now.items c.last.result.now last (Ok None) refl (c.in-None.ensures.none refl)

pub returns-then-len-eq-MAX_ERAS-clause-none : goal.returns-then-len-eq-MAX_ERAS-clause-none
returns-then-len-eq-MAX_ERAS-clause-none c =
    let last = subst (λ (ks : List CoreState). last_core ks ≡ Some c.last.result.now) c.deref.ensures.value c.last.ensures in
    ended_none c.args.cores.now.items c.last.result.now last c.in-Some.block (last_made c.args.cores.now.items c.last.result.now c.requires last) c.in-Some.ensures.some (Err opening.Full) (λ e. cc)

pub returns-then-len-eq-MAX_ERAS-clause-full : goal.returns-then-len-eq-MAX_ERAS-clause-full
returns-then-len-eq-MAX_ERAS-clause-full c =
    let last = subst (λ (ks : List CoreState). last_core ks ≡ Some c.last.result.now) c.deref.ensures.value c.last.ensures in
    ended_full c.args.cores.now.items c.last.result.now last c.in-Some.block (last_made c.args.cores.now.items c.last.result.now c.requires last) c.in-Some.ensures.some (Err opening.Full) refl (omega arith)

pub returns-in-Ok-clause-none : goal.returns-in-Ok-clause-none
returns-in-Ok-clause-none c =
    let last = subst (λ (ks : List CoreState). last_core ks ≡ Some c.last.result.now) c.deref.ensures.value c.last.ensures in
    ended_none c.args.cores.now.items c.last.result.now last c.in-Some.block (last_made c.args.cores.now.items c.last.result.now c.requires last) c.in-Some.ensures.some (Ok (Some c.in-Ok.number)) (λ e. cc)

pub returns-in-Err-clause-none : goal.returns-in-Err-clause-none
returns-in-Err-clause-none c =
    let last = subst (λ (ks : List CoreState). last_core ks ≡ Some c.last.result.now) c.deref.ensures.value c.last.ensures in
    ended_none c.args.cores.now.items c.last.result.now last c.in-Some.block (last_made c.args.cores.now.items c.last.result.now c.requires last) c.in-Some.ensures.some (Err opening.OutOfMemory) (λ e. cc)

pub returns-in-Ok-clause-eras : goal.returns-in-Ok-clause-eras
returns-in-Ok-clause-eras c =
    let few : length c.args.cores.now.items < 64 = (let most = c.requires.few in let count = c.len.ensures in let other = c.if-len-eq-MAX_ERAS.false in omega arith) in
    opened_has c.args.cores.now.items c.open.new.cores.items c.in-Ok.number c.requires few c.in-Ok.ensures.opened
