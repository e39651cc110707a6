use Rattle.hw_dag.proofs.ListLaws.{name_below}
use Rattle.hw_naivety.proofs.sight.Sight.has_list.Goals as goal

pub returns-clause-below : goal.returns-clause-below
returns-clause-below c = λ t name m n lt e. name_below c.args.self.now.dag.now c.requires.sight.graph_is c.args.self.now.panorama.now n name lt e (c.has_all_below.ensures.below.0 t name m)
