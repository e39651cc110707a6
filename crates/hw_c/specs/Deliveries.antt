-- Deliveries of several vertices in one call.
-- Source: ours.
use Rattle.std.specs.Prelude.{◌≡◌, ◌≢◌, ◌⊎◌, ℕ, ◌+◌, ◌<◌, ◌≤◌, ◌==◌, List, [], ◌∷◌, slice_range, length, Result, Ok, Err}
use Rattle.hw_types.specs.declared.answers.Receipt.{Receipt}
use Rattle.hw_types.specs.Real.{CoreState}
use Rattle.hw_c.specs.declared.codes.Fault.{Fault}
use Rattle.hw_c.specs.declared.codes.Fault.TheVariants as fault
use Rattle.hw_c.specs.declared.sent.Sent.{Sent}
use Rattle.hw_c.specs.declared.sent.Delivered.{Delivered}
use Rattle.hw_c.specs.Calls.{IsDelivery}
use Rattle.hw_c.specs.Told.{status, delivery_answer}

-- the bytes of a vertex that is among other bytes
abbrev pub bytes_of : List ℕ → Sent → List ℕ
bytes_of bytes sent = slice_range bytes sent.start (sent.start + sent.length)

-- the bytes hold the whole vertex, and its verdict is no (0) or yes (1)
abbrev pub IsInRange : List ℕ → Sent → Type 0
IsInRange bytes sent = (sent.start + sent.length ≤ length bytes) × (sent.verdict ≤ 1)

-- they don't hold the whole vertex, or its verdict is neither 0 nor 1
abbrev pub IsOutside : List ℕ → Sent → Type 0
IsOutside bytes sent = (length bytes < sent.start + sent.length) ⊎ (1 < sent.verdict)

-- The answer to a vertex among other bytes, and the node after it. The vertex is delivered as if there were no other
-- bytes. A vertex that is out of range changes nothing.
abbrev pub IsDeliveryOf : CoreState → List ℕ → Sent → Result Receipt Fault → CoreState → Type 0
IsDeliveryOf old bytes sent (Err fault.OutOfRange) new = IsOutside bytes sent × (new ≡ old)
IsDeliveryOf old bytes sent r new = IsInRange bytes sent × IsDelivery old (bytes_of bytes sent) (sent.verdict == 1) r new

-- the answer to a delivery: its status, and the details of that
abbrev pub delivered_of : Result Receipt Fault → Delivered
delivered_of r = record { status = status r; answer = delivery_answer r }

-- The answer to each of the vertices, and the node after the last one. They are delivered in order: each one to the
-- node after the vertex before it.
abbrev pub AreDeliveries : CoreState → List ℕ → List Sent → List Delivered → CoreState → Type 0
AreDeliveries old bytes [] [] new = new ≡ old
AreDeliveries old bytes (s ∷ sent) (d ∷ delivered) new =
    (r : Result Receipt Fault) × (d ≡ delivered_of r) × ((next : CoreState) × IsDeliveryOf old bytes s r next × AreDeliveries next bytes sent delivered new)
AreDeliveries old bytes [] (d ∷ delivered) new = ⊥
AreDeliveries old bytes (s ∷ sent) [] new = ⊥

-- The same of a call. Nothing changes where there are not as many places for answers as vertices.
abbrev pub AreAnswered : CoreState → List ℕ → List Sent → List Delivered → Result Unit Fault → List Delivered → CoreState → Type 0
AreAnswered old bytes sent before (Ok done) delivered new = AreDeliveries old bytes sent delivered new
AreAnswered old bytes sent before (Err fault.OutOfRange) delivered new = (length sent ≢ length before) × (delivered ≡ before) × (new ≡ old)
AreAnswered old bytes sent before (Err f) delivered new = ⊥
