use Rattle.std.proofs.Common.{[], sym, ◌∙◌, arith}
use Rattle.hw_dag.proofs.PlaceLaws.{among_place}
use Rattle.hw_naivety.proofs.sight.Sight.end_of_list.Goals as goal

pub returns : goal.returns
returns c = λ name m n lt e.
    let k = among_place (record { 0 = [] }) name c.args.self.now.endorsed.now m in
    c.loop-name.invariant k.0 (let inside = k.1 in let over = c.loop-name-test.false in omega arith) n lt (e ∙ sym k.2)
