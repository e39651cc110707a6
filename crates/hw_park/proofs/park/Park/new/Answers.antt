use Rattle.std.proofs.Common.{refl, ap, List, ℕ}
use Rattle.std.specs.declared.vec.Vec.{Vec}
use Rattle.std.specs.declared.alloc.Global.{Global}
use Rattle.hw_park.specs.declared.key.NeedKey.{NeedKey}
use Rattle.hw_park.specs.Numbers.{numbers_at}
use Rattle.hw_park.specs.Kept.{listed}
use Rattle.hw_park.proofs.StartLaws.{kept_none}
use Rattle.hw_park.proofs.park.Park.new.Goals as goal

pub invariant_of-result : goal.invariant_of-result
invariant_of-result g c =
    kept_none _ _ _ _ _ _ c.new.ensures.places c.new.ensures.slots (λ n. ap (λ (es : List (NeedKey × Vec ℕ Global)). numbers_at es n) c.new-2.ensures.empty)
    c.new-3.ensures.items c.new-3.ensures.heap_order c.new-3.ensures.len

pub returns : goal.returns
unfolding listed
returns g c = refl
