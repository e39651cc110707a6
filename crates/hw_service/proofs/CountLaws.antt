-- Counts that rise.
use Rattle.std.specs.Prelude.{◌||◌, ◌≢◌, IfOk}
use Rattle.std.proofs.Common.{◌≡◌, ℕ, zero, suc, ◌*◌, ◌+◌, Bool, true, false, Option, List, Result, Ok, Err, refl, sym, ap, subst, ◌∙◌, arith}
use Rattle.hw_io.specs.Faults.{raised}
use Rattle.hw_link.specs.declared.end.SessionEnd.{SessionEnd}
use Rattle.hw_link.specs.declared.end.SessionEnd.TheVariants as end
use Rattle.hw_session.specs.Node.{NodeState}
use Rattle.hw_session.specs.Handling.{IsLogEnd, IsLinkEnd}
use Rattle.hw_service.specs.declared.fault.ServiceFault.{ServiceFault}
use Rattle.hw_service.specs.declared.fault.ServiceFault.TheVariants as fault
use Rattle.hw_service.specs.Counts.{IsAppendCounted, IsDoorCounted, raised_by}
use Rattle.hw_service.specs.Told.{GoesOn, is_link_fault, TellsEnd}

-- ---- appends

-- a session that lets the run go on appended without a fault
plain_appends : (before now : ℕ) (e : SessionEnd) → e ≢ end.AppendFault → IsLogEnd before now e → now ≡ before
plain_appends before now end.Done apart is = is
plain_appends before now end.EndOfInput apart is = is
plain_appends before now end.WrongInstance apart is = is
plain_appends before now (end.BadFrame at) apart is = is
plain_appends before now end.LinkFault apart is = is
plain_appends before now end.AppendFault apart is = absurd (apart refl)
plain_appends before now end.ByteLimit apart is = is
plain_appends before now end.Clash apart is = is
plain_appends before now end.OutOfMemory apart is = is

goes_apart : (e : SessionEnd) → GoesOn e → e ≢ end.AppendFault
goes_apart end.AppendFault goes is = goes
goes_apart end.Done goes is = cc
goes_apart end.EndOfInput goes is = cc
goes_apart end.WrongInstance goes is = cc
goes_apart (end.BadFrame at) goes is = cc
goes_apart end.LinkFault goes is = cc
goes_apart end.ByteLimit goes is = cc
goes_apart end.Clash goes is = cc
goes_apart end.OutOfMemory goes is = cc

clash_apart : (e : SessionEnd) → e ≡ end.Clash → e ≢ end.AppendFault
clash_apart e is other = let both : end.Clash ≡ end.AppendFault = sym is ∙ other in cc

pub appends_told : (who : List ℕ) (number : ℕ) (e : SessionEnd) (n : NodeState) (old new : Option (List ℕ)) (result : Result Bool ServiceFault) (before now : ℕ)
    → TellsEnd who number e n old new result → IsLogEnd before now e → IsAppendCounted before now result
appends_told who number e n old new (Ok failed) before now told is = plain_appends before now e (goes_apart e told.0) is
appends_told who number e n old new (Err fault.Write) before now told is = plain_appends before now e (goes_apart e told.0) is
appends_told who number e n old new (Err fault.Append) before now told is = subst (λ (x : SessionEnd). IsLogEnd before now x) told.0 is
appends_told who number e n old new (Err (fault.Clash units)) before now told is = plain_appends before now e (clash_apart e told.0) is
appends_told who number e n old new (Err fault.OutOfMemory) before now told is = plain_appends before now e told.0 is
appends_told who number e n old new (Err (fault.Settings f)) before now told is = absurd told
appends_told who number e n old new (Err (fault.Keys at)) before now told is = absurd told
appends_told who number e n old new (Err (fault.Log f)) before now told is = absurd told
appends_told who number e n old new (Err fault.NoValidator) before now told is = absurd told
appends_told who number e n old new (Err fault.Read) before now told is = absurd told

-- behind steps that appended without a fault
pub appends_then : {T : Type 0} (x y z : ℕ) (result : Result T ServiceFault) → y ≡ x → IsAppendCounted y z result → IsAppendCounted x z result
appends_then x y z result same counted = subst (λ (n : ℕ). IsAppendCounted n z result) same counted

-- ---- the door

link_told_at : (before now : ℕ) (e : SessionEnd) → IsLinkEnd before now e → IsDoorCounted (is_link_fault e) before now
link_told_at before now end.Done is = is
link_told_at before now end.EndOfInput is = is
link_told_at before now end.WrongInstance is = is
link_told_at before now (end.BadFrame at) is = is
link_told_at before now end.LinkFault is = is
link_told_at before now end.AppendFault is = is
link_told_at before now end.ByteLimit is = is
link_told_at before now end.Clash is = is
link_told_at before now end.OutOfMemory is = is

pub link_told : (before now : ℕ) (e : SessionEnd) (failed : Bool) → failed ≡ is_link_fault e → IsLinkEnd before now e → IsDoorCounted failed before now
link_told before now e failed is link = subst (λ (b : Bool). IsDoorCounted b before now) (sym is) (link_told_at before now e link)

pub door_then : (a b : Bool) (x y z : ℕ) → IsDoorCounted a x y → IsDoorCounted b y z → IsDoorCounted (a || b) x z
door_then true true x y z first then = omega (arith, first, then)
door_then true false x y z first then = omega (arith, first, then)
door_then false true x y z first then = omega (arith, first, then)
door_then false false x y z first then = then ∙ first

pub link_of : (who : List ℕ) (number : ℕ) (e : SessionEnd) (n : NodeState) (old new : Option (List ℕ)) (result : Result Bool ServiceFault) (before now : ℕ) → TellsEnd who number e n old new result → IsLinkEnd before now e
    → IfOk result (λ failed. IsDoorCounted failed before now)
link_of who number e n old new (Ok failed) before now told link = link_told before now e failed told.1 link
link_of who number e n old new (Err f) before now told link = tt

-- ---- numbers

pub raised_sum : (a b x : ℕ) → raised_by a (raised_by b x) ≡ raised_by (a + b) x
unfolding raised_by
raised_sum zero b x = ap (λ (n : ℕ). raised_by n x) (let e : b ≡ 0 + b = omega arith in e)
raised_sum (suc a) b x =
    let e : suc (a + b) ≡ suc a + b = omega arith in
    ap raised (raised_sum a b x) ∙ ap (λ (n : ℕ). raised_by n x) e
