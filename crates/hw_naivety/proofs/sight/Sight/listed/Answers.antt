use Rattle.std.proofs.Common.{◌≡◌, true, Option, Some, None, sym, subst, ◌∙◌}
use Rattle.std.specs.Prelude.{is_some, IfSome}
use Rattle.hw_dag.specs.declared.numbers.UnitNo.{UnitNo}
use Rattle.hw_naivety.specs.Heirs.{IsBequeathed, IsOnly}
use Rattle.hw_naivety.proofs.HeirLaws.{list_through}
use Rattle.hw_naivety.proofs.sight.Sight.listed.Goals as goal

the_heir : (P : UnitNo → Type 0) (o : Option UnitNo) → is_some o ≡ true → IfSome o P → (before : UnitNo) × P before
the_heir P (Some before) e h = (before, h)
the_heir P None e h = absurd cc

pub returns-then-is_some-clause-listed : goal.returns-then-is_some-clause-listed
returns-then-is_some-clause-listed c =
    let s = c.requires.sight in
    record {
      end = c.end_of_list.ensures;
      only = λ no e. subst (λ (o : Option UnitNo). IfSome o (IsOnly c.args.self.now.dag.now c.args.self.now.endorsed.now)) e c.only.ensures.only;
      heir = λ before e. subst (λ (o : Option UnitNo). IfSome o (IsBequeathed c.args.self.now.dag.now c.args.self.now.panorama.now c.args.self.now.endorsed.now)) e c.heir-heir.ensures.heir;
      below = λ t.
          let heir = the_heir (IsBequeathed c.args.self.now.dag.now c.args.self.now.panorama.now c.args.self.now.endorsed.now) c.heir-heir.result (sym c.is_some.ensures ∙ t) c.heir-heir.ensures.heir in
          list_through c.args.self.now.dag.now s.graph_is c.args.self.now.panorama.now s.panorama_is.known c.args.self.now.endorsed.now heir.0 heir.1;
    }
