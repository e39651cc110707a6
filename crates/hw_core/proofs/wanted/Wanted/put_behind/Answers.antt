use Rattle.std.proofs.Common.{◌≡◌, Bool, true, cond, List, [], ◌∷◌, ◌++◌, length, drop, sym, ap, subst, ◌∙◌, arith}
use Rattle.std.specs.List.{list_any}
use Rattle.hw_types.specs.declared.unit.Need.{Need}
use Rattle.hw_types.specs.Settled.{need_eq}
use Rattle.hw_park.specs.declared.key.NeedKey.{NeedKey}
use Rattle.hw_park.specs.Keys.{ties}
use Rattle.hw_core.specs.Missing.{AreKeysBehind}
use Rattle.hw_core.proofs.WantedLaws.{behind_more, added_new, added_old}
use Rattle.hw_core.proofs.wanted.Wanted.put_behind.Goals as goal

pub invariant_of-self-then-branch : goal.invariant_of-self-then-branch
invariant_of-self-then-branch c =
    let old = c.self.inside in
    let n = c.args.need in
    let view = ap length c.self.view_is in
    let P : NeedKey → Type 0 = λ k. (q : NeedKey) → list_any (ties q) c.insert.new.self.keys ≡ cond (ties k q) true (list_any (ties q) old.keys.keys) in
    subst (AreKeysBehind c.insert.new.self.keys) (sym (c.push_reserved.ensures.items ∙ ap (λ (ns : List Need). ns ++ n ∷ []) c.reserve.ensures.items))
    (behind_more old.keys.keys c.insert.new.self.keys old.needs.items n (omega (arith, view, c.requires)) (subst P c.key_of.ensures c.in_ok-insert.ensures.updates.0) c.self.invariant)

pub returns-then-branch : goal.returns-then-branch
returns-then-branch c =
    let n = c.args.need in
    let now = c.args.self.now in
    let behind = ap (λ (key : NeedKey). list_any (ties key) c.self.inside.keys.keys) c.key_of.ensures ∙ c.self.invariant n ∙ ap (λ (ns : List Need). list_any (λ m. need_eq m n) (drop 16 ns)) c.self.view_is in
    let absent = added_new c.in_ok-insert.ensures.added behind c.if-branch.true in
    c.push_reserved.ensures.items ∙ ap (λ (ns : List Need). ns ++ n ∷ []) (c.reserve.ensures.items ∙ c.self.view_is) ∙ sym (ap (λ (b : Bool). cond b now (now ++ n ∷ [])) absent)

pub returns-else-branch : goal.returns-else-branch
returns-else-branch c =
    let n = c.args.need in
    let now = c.args.self.now in
    let behind = ap (λ (key : NeedKey). list_any (ties key) c.self.inside.keys.keys) c.key_of.ensures ∙ c.self.invariant n ∙ ap (λ (ns : List Need). list_any (λ m. need_eq m n) (drop 16 ns)) c.self.view_is in
    let there = added_old c.in_ok-insert.ensures.added behind c.if-branch.false in
    c.reserve.ensures.items ∙ c.self.view_is ∙ sym (ap (λ (b : Bool). cond b now (now ++ n ∷ [])) there)
