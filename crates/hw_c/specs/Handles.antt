-- What a call does with the handle of a node, which may be empty.
-- Source: ours.
use Rattle.std.specs.Prelude.{◌≡◌, ℕ, List, Option, Some, None, Result, Ok, Err}
use Rattle.hw_types.specs.Real.{CoreState}
use Rattle.hw_c.specs.declared.codes.Fault.{Fault}
use Rattle.hw_c.specs.declared.codes.Fault.TheVariants as fault
use Rattle.hw_c.specs.declared.sent.Sent.{Sent}
use Rattle.hw_c.specs.declared.sent.Delivered.{Delivered}
use Rattle.hw_c.specs.Calls.{IsNodeOf}
use Rattle.hw_c.specs.Deliveries.{AreAnswered}

-- An empty handle gets a new node of the configuration that the bytes spell. After a fault it stays empty. A full
-- handle stays as it is.
abbrev pub Begins : Option CoreState → List ℕ → Result Unit Fault → Option CoreState → Type 0
Begins (Some old) bytes r new = (r ≡ Err fault.Full) × (new ≡ Some old)
Begins None bytes (Ok done) new = (core : CoreState) × (new ≡ Some core) × IsNodeOf bytes (Ok core)
Begins None bytes (Err f) new = (new ≡ None) × IsNodeOf bytes (Err f)

-- The handle is empty after the call. The call succeeds exactly when the handle held a node.
abbrev pub Ends : Option CoreState → Result Unit Fault → Option CoreState → Type 0
Ends None r new = (r ≡ Err fault.Empty) × (new ≡ None)
Ends (Some old) r new = (r ≡ Ok tt) × (new ≡ None)

-- The vertices are delivered to the node in order, with an answer to each. Nothing changes where there is no node, or
-- where there are not as many places for answers as vertices.
abbrev pub Delivers : Option CoreState → List ℕ → List Sent → List Delivered → Result Unit Fault → List Delivered → Option CoreState → Type 0
Delivers None bytes sent before r delivered new = (r ≡ Err fault.Empty) × (delivered ≡ before) × (new ≡ None)
Delivers (Some old) bytes sent before r delivered new = (core : CoreState) × (new ≡ Some core) × AreAnswered old bytes sent before r delivered core

-- the call reads a node, which stays as it is
abbrev pub Reads : {A : Type 0} → (CoreState → Result A Fault → Type 0) → Option CoreState → Result A Fault → Option CoreState → Type 0
Reads Is None r new = (r ≡ Err fault.Empty) × (new ≡ None)
Reads Is (Some core) r new = Is core r × (new ≡ Some core)

-- the call reads two nodes, which stay as they are
abbrev pub ReadsBoth : {A : Type 0} → (CoreState → CoreState → Result A Fault → Type 0) → Option CoreState → Option CoreState → Result A Fault → Option CoreState → Option CoreState → Type 0
ReadsBoth Is None right r left_new right_new = (r ≡ Err fault.Empty) × (left_new ≡ None) × (right_new ≡ right)
ReadsBoth Is (Some left) None r left_new right_new = (r ≡ Err fault.Empty) × (left_new ≡ Some left) × (right_new ≡ None)
ReadsBoth Is (Some left) (Some right) r left_new right_new = Is left right r × (left_new ≡ Some left) × (right_new ≡ Some right)
