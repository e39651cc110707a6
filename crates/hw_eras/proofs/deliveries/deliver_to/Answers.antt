use Rattle.std.proofs.Common.{◌<◌, length, ap, sym, subst, arith}
use Rattle.hw_eras.specs.declared.answers.EraCause.{EraCause}
use Rattle.hw_eras.specs.declared.answers.EraRefused.{EraRefused}
use Rattle.hw_eras.specs.Nodes.{IsEraRefusal}
use Rattle.hw_eras.proofs.NodeLaws.{has_eras, is_refusal}
use Rattle.hw_eras.proofs.deliveries.deliver_to.Goals as goal

pub returns-in-Ok-clause-eras : goal.returns-in-Ok-clause-eras
returns-in-Ok-clause-eras c =
    let lt : c.args.era < length c.args.cores.now.items = (let count = c.len.ensures in let below = c.if-place-len.false in omega arith) in
    has_eras c.args.cores.now.items c.args.era c.index_mut.result.now c.deliver.new.self c.args.vertex c.args.verdict lt c.index_mut.ensures.value c.requires.eras c.in-Ok.ensures.journal

pub returns-in-Err-clause-refused : goal.returns-in-Err-clause-refused
returns-in-Err-clause-refused c =
    let lt : c.args.era < length c.args.cores.now.items = (let count = c.len.ensures in let below = c.if-place-len.false in omega arith) in
    subst (λ (k : EraCause). IsEraRefusal c.args.cores.now.items c.args.era c.args.vertex c.args.verdict k) (sym (ap (λ (r : EraRefused). r.cause) c.of_era.ensures))
    (is_refusal c.args.cores.now.items c.args.era c.index_mut.result.now c.deliver.new.self c.args.vertex c.args.verdict lt c.index_mut.ensures.value c.in-Err.refused.cause c.in-Err.ensures.refused)
