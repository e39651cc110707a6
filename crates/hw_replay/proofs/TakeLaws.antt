-- One entry, by the answer of its delivery.
use Rattle.std.proofs.Common.{◌≡◌, ◌≢◌, ◌⊎◌, ℕ, ◌+◌, Bool, true, false, [], ◌∷◌, ◌++◌, Some, None, Result, Ok, Err, OnOk, IfErr, inl, inr, arith, refl, sym, ap, subst, ◌∙◌}
use Rattle.std.specs.Prelude.{if◌then◌else◌}
use Rattle.hw_types.specs.declared.unit.Digest.{Digest}
use Rattle.hw_types.specs.declared.unit.Vertex.{Vertex}
use Rattle.hw_types.specs.declared.unit.Vertex.TheVariants as vertex
use Rattle.hw_types.specs.declared.answers.Receipt.{Receipt}
use Rattle.hw_types.specs.declared.answers.Receipt.TheVariants as receipt
use Rattle.hw_types.specs.declared.answers.Cause.{Cause}
use Rattle.hw_types.specs.declared.answers.Cause.TheVariants as cause
use Rattle.hw_types.specs.Journal.{is_accepted}
use Rattle.hw_types.specs.Real.{CoreState, answer_in, after_in}
use Rattle.hw_log.specs.declared.entry.LogEntry.{LogEntry}
use Rattle.hw_core.specs.Deliver.{IsRefusal}
use Rattle.hw_replay.specs.declared.fault.StartFault.{StartFault}
use Rattle.hw_replay.specs.declared.fault.StartFault.TheVariants as fault
use Rattle.hw_replay.specs.Taken.{Taken, clash_with, stop_of, counted_or_stopped, taken_or_stopped, entry_taken}
use Rattle.hw_replay.specs.declared.replay.Replay.{Replay}
use Rattle.hw_replay.specs.Replay.{taken_in, GrowsByOne}
use Rattle.hw_replay.specs.Steps.{IsStop, IsOfEntry, repeats_in}

-- a refusal that is no want of memory is the answer
is_answer : (c : Cause) (given : Result Receipt Cause) → IsRefusal c given → c ≢ cause.OutOfMemory → given ≡ Err c
is_answer cause.BadSignature given is known = is
is_answer (cause.Local rule) given is known = is
is_answer (cause.Pair f) given is known = is
is_answer (cause.Clash d) given is known = is
is_answer cause.RecordsFull given is known = is
is_answer cause.ParkFull given is known = is
is_answer cause.OutOfMemory given is known = absurd (known refl)

-- the node with this vertex last where the answer says so
abbrev pub core_by : CoreState → Vertex → Result Receipt Cause → CoreState
core_by c v given = record c { journal = if is_accepted given then c.journal ++ v ∷ [] else c.journal }

-- what is taken with this node, and so many repeats
abbrev pub with_repeats : Taken → CoreState → ℕ → Result Taken StartFault
with_repeats t core n = Ok (record { core = core; refused = t.refused; repeats = n })

-- no repeat more
not_repeated : (t : Taken) (core : CoreState) → with_repeats t core t.repeats ≡ with_repeats t core (t.repeats + 0)
not_repeated t core = let none : t.repeats ≡ t.repeats + 0 = omega arith in ap (with_repeats t core) none

-- a receipt is what is taken
by_receipt : (t : Taken) (e : LogEntry) (r : Receipt) → taken_or_stopped t e (Ok r) ≡ with_repeats t (core_by t.core e.vertex (Ok r)) (t.repeats + repeats_in r)
by_receipt t e receipt.Repeat = refl
by_receipt t e (receipt.Admitted n) = not_repeated t (core_by t.core e.vertex (Ok (receipt.Admitted n)))
by_receipt t e (receipt.Parked n) = not_repeated t (core_by t.core e.vertex (Ok (receipt.Parked n)))
by_receipt t e (receipt.Dropped r) = not_repeated t (core_by t.core e.vertex (Ok (receipt.Dropped r)))

pub taken_answered : (t : Taken) (e : LogEntry) (r : Receipt) → answer_in t.core e.vertex e.verdict ≡ Ok r
    → entry_taken t e ≡ with_repeats t (after_in t.core e.vertex e.verdict) (t.repeats + repeats_in r)
unfolding entry_taken
taken_answered t e r is =
    ap (taken_or_stopped t e) is ∙ by_receipt t e r
    ∙ ap (λ given. with_repeats t (core_by t.core e.vertex given) (t.repeats + repeats_in r)) (sym is)

-- a delivery leaves the node as it was, or the vertex goes last
grown : (c : CoreState) (v : Vertex) (b : Bool) → GrowsByOne c (record c { journal = if b then c.journal ++ v ∷ [] else c.journal })
grown c v true = inr (v, refl)
grown c v false = inl refl

pub grows_accepted : (c : CoreState) (v : Vertex) (verdict : Bool) → GrowsByOne c (after_in c v verdict)
grows_accepted c v verdict = grown c v (is_accepted (answer_in c v verdict))

-- a refusal that doesn't stop is counted
pub taken_refused : (t : Taken) (e : LogEntry) (c : Cause) → IsRefusal c (answer_in t.core e.vertex e.verdict) → c ≢ cause.OutOfMemory
    → stop_of t.core e.at e.vertex c ≡ None → entry_taken t e ≡ Ok (record t { refused = t.refused + 1 })
unfolding entry_taken
taken_refused t e c is known none = ap (taken_or_stopped t e) (is_answer c (answer_in t.core e.vertex e.verdict) is known) ∙ ap (counted_or_stopped t) none

-- a cause that stops is known
stops_known : (core : CoreState) (at : ℕ) (v : Vertex) (c : Cause) (f : StartFault) → stop_of core at v c ≡ Some f → c ≢ cause.OutOfMemory
stops_known core at v c f stops want = let none : None ≡ Some f = sym (ap (stop_of core at v) want) ∙ stops in absurd cc

-- and one that does stops it
pub stopped_refused : (t : Taken) (e : LogEntry) (c : Cause) (f : StartFault) → IsRefusal c (answer_in t.core e.vertex e.verdict)
    → (f ≡ fault.OutOfMemory) ⊎ (stop_of t.core e.at e.vertex c ≡ Some f) → IsStop f (entry_taken t e)
unfolding entry_taken
stopped_refused t e c f is (inl want) = inl want
stopped_refused t e c f is (inr stops) =
    inr (ap (taken_or_stopped t e) (is_answer c (answer_in t.core e.vertex e.verdict) is (stops_known t.core e.at e.vertex c f stops)) ∙ ap (counted_or_stopped t) stops)

-- by no error of the log
of_clash : (core : CoreState) (v : Vertex) (d : Digest) → IsOfEntry (clash_with core v d)
of_clash core (vertex.Unit u) d = tt
of_clash core (vertex.Evidence e) d = tt
of_clash core (vertex.Endorsement e) d = tt

same_kind : (f g : StartFault) → f ≡ g → IsOfEntry f → IsOfEntry g
same_kind f g is h = subst IsOfEntry is h

some_same : (f g : StartFault) → Some f ≡ Some g → f ≡ g
some_same f g is = cc

pub stop_is_of_entry : (core : CoreState) (at : ℕ) (v : Vertex) (c : Cause) (f : StartFault)
    → (f ≡ fault.OutOfMemory) ⊎ (stop_of core at v c ≡ Some f) → IsOfEntry f
stop_is_of_entry core at v c f (inl want) = same_kind fault.OutOfMemory f (sym want) tt
stop_is_of_entry core at v (cause.Clash d) f (inr is) = same_kind (clash_with core v d) f (some_same (clash_with core v d) f is) (of_clash core v d)
stop_is_of_entry core at v cause.RecordsFull f (inr is) = same_kind (fault.RecordsFull at) f (some_same (fault.RecordsFull at) f is) tt
stop_is_of_entry core at v cause.ParkFull f (inr is) = same_kind (fault.ParkFull at) f (some_same (fault.ParkFull at) f is) tt
stop_is_of_entry core at v cause.BadSignature f (inr is) = absurd cc
stop_is_of_entry core at v (cause.Local r) f (inr is) = absurd cc
stop_is_of_entry core at v (cause.Pair p) f (inr is) = absurd cc
stop_is_of_entry core at v cause.OutOfMemory f (inr is) = absurd cc

-- ---- the same, by what a call of `refuse` answered

-- it was counted
pub took_refused : {A : Type 0} (r : Result A StartFault) (p q : Replay) (t : Taken) (e : LogEntry) (c : Cause) (v : Vertex) → taken_in p ≡ t → v ≡ e.vertex
    → IsRefusal c (answer_in t.core e.vertex e.verdict) → OnOk r (q ≡ record p { refused = p.refused + 1 })
    → OnOk r ((stop_of p.core e.at v c ≡ None) × (c ≢ cause.OutOfMemory)) → OnOk r (entry_taken t e ≡ Ok (taken_in q))
took_refused (Ok x) p q t e c v same vertex_is is counted stops =
    let none : stop_of t.core e.at e.vertex c ≡ None = sym (λ i. stop_of (same i).core e.at (vertex_is i) c) ∙ stops.0 in
    let more : taken_in q ≡ record t { refused = t.refused + 1 } = ap taken_in counted ∙ ap (λ (u : Taken). record u { refused = u.refused + 1 }) same in
    taken_refused t e c is stops.1 none ∙ ap Ok (sym more)
took_refused (Err f) p q t e c v same vertex_is is counted stops = tt

-- or it stopped
pub stopped_by : {A : Type 0} (r : Result A StartFault) (p : Replay) (t : Taken) (e : LogEntry) (c : Cause) (v : Vertex) → taken_in p ≡ t → v ≡ e.vertex
    → IsRefusal c (answer_in t.core e.vertex e.verdict) → IfErr r (λ f. (f ≡ fault.OutOfMemory) ⊎ (stop_of p.core e.at v c ≡ Some f))
    → IfErr r (λ f. IsStop f (entry_taken t e))
stopped_by (Ok x) p t e c v same vertex_is is stops = tt
stopped_by (Err f) p t e c v same vertex_is is stops =
    let why : (f ≡ fault.OutOfMemory) ⊎ (stop_of t.core e.at e.vertex c ≡ Some f) = subst (λ o. (f ≡ fault.OutOfMemory) ⊎ (o ≡ Some f)) (λ i. stop_of (same i).core e.at (vertex_is i) c) stops in
    stopped_refused t e c f is why
