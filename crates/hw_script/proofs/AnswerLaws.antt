-- What a refusal says.
use Rattle.std.proofs.Common.{◌≡◌, true, Result, Err, refl, ap}
use Rattle.hw_types.specs.declared.unit.Vertex.{Vertex}
use Rattle.hw_types.specs.declared.answers.Receipt.{Receipt}
use Rattle.hw_types.specs.declared.answers.Cause.{Cause}
use Rattle.hw_types.specs.declared.answers.Cause.TheVariants as cause
use Rattle.hw_types.specs.Journal.{is_accepted}
use Rattle.hw_types.specs.Real.{CoreState, answer_in, after_in}
use Rattle.hw_core.specs.Deliver.{IsRefusal}
use Rattle.std.specs.Prelude.{◌++◌, ◌∷◌, [], if◌then◌else◌}

-- a cause other than want of memory is that of the answer
pub refusal_is : (why : Cause) (given : Result Receipt Cause) → IsRefusal why given → (why ≡ cause.OutOfMemory → ⊥) → given ≡ Err why
refusal_is cause.OutOfMemory given is known = absurd (known refl)
refusal_is cause.BadSignature given is known = is
refusal_is (cause.Local rule) given is known = is
refusal_is (cause.Pair fault) given is known = is
refusal_is (cause.Clash d) given is known = is
refusal_is cause.RecordsFull given is known = is
refusal_is cause.ParkFull given is known = is

-- a refused vertex changes nothing
pub refused_stays : (c : CoreState) (v : Vertex) (why : Cause) → answer_in c v true ≡ Err why → after_in c v true ≡ c
refused_stays c v why is = ap (λ (a : Result Receipt Cause). record c { journal = if is_accepted a then c.journal ++ v ∷ [] else c.journal }) is
