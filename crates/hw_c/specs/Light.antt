-- What calls answer about certificates.
-- Source: ours.
use Rattle.std.specs.Prelude.{◌≡◌, ℕ, ◌≤◌, ◌==◌, nat_le, Bool, true, List, [], length, map, sum, Some, None, Result, Ok, Err}
use Rattle.std.specs.List.{list_all}
use Rattle.hw_types.specs.declared.config.Config.{Config}
use Rattle.hw_types.specs.declared.unit.Digest.{Digest}
use Rattle.hw_types.specs.Real.{CoreState}
use Rattle.hw_types.specs.Limits.{config_fault}
use Rattle.hw_types.specs.Spelling.{instance_of}
use Rattle.hw_core.specs.Readers.{unit_in}
use Rattle.hw_core.specs.Decided.{decided_in}
use Rattle.hw_light.specs.declared.certificate.Certificate.{Certificate}
use Rattle.hw_light.specs.declared.answers.Certified.TheVariants.{NotNow}
use Rattle.hw_light.specs.declared.answers.Checked.{Checked}
use Rattle.hw_light.specs.declared.answers.Checked.TheVariants.{Yes, No}
use Rattle.hw_light.specs.declared.answers.CheckFault.{CheckFault}
use Rattle.hw_light.specs.declared.answers.CheckFault.TheVariants as fault
use Rattle.hw_light.specs.Certify.{IsMade, IsTooLong, IsCertifiedAs, IsYesFor}
use Rattle.hw_light.specs.Checked.{IsAnswer, IfYes, IsCertified}
use Rattle.hw_light.specs.Asked.{decided_block}
use Rattle.hw_light.specs.CheckedTexts.{height_or_zero}
use Rattle.hw_light.specs.Reading.{certificate_of, IsErrorOf}
use Rattle.hw_light.specs.Spelling.{SpellsCertificate}
use Rattle.hw_c.specs.declared.codes.Fault.{Fault}
use Rattle.hw_c.specs.declared.codes.Fault.TheVariants as why
use Rattle.hw_c.specs.declared.signed.Signed.{Signed}
use Rattle.hw_c.specs.declared.light.Judged.{Judged}
use Rattle.hw_c.specs.declared.put.WithBytes.{WithBytes}
use Rattle.hw_c.specs.Answers.{signed_of}
use Rattle.hw_c.specs.Buffers.{copied}
use Rattle.hw_c.specs.Calls.{IsWant}
use Rattle.hw_c.specs.Facts.{value_bytes}
use Rattle.hw_c.specs.Told.{config_status, cause_status}

-- The certificate of the decided block of that place. A check of it answers yes where its signatures are right. Or why
-- there is none. No block is decided at that place, or the node can't certify the block now. Or the certificate would
-- have more vertices than a journal may have.
abbrev pub IsCertificate : CoreState → ℕ → Result (List ℕ) Fault → Type 0
IsCertificate c index (Ok bytes) = (made : Certificate) × IsMade c index made × IsYesFor made × SpellsCertificate bytes made
IsCertificate c index (Err why.OutOfRange) = length (decided_in c) ≤ index
IsCertificate c index (Err why.Nothing) = IsCertifiedAs c index NotNow
IsCertificate c index (Err why.TooLong) = (count : ℕ) × IsTooLong c index count
IsCertificate c index (Err f) = IsWant f

-- Who signed each vertex of the certificate that the bytes spell, and which units: as many as fit, and after them what
-- was there before. The count is that of all its vertices. After a fault nothing has changed.
abbrev pub AreCertifiedSigned : List ℕ → List Signed → List Signed → Result ℕ Fault → Type 0
AreCertifiedSigned bytes old new (Ok count) =
    (c : Certificate) × (certificate_of bytes ≡ Ok c) × (count ≡ length c.vertices) × (new ≡ copied (map signed_of c.vertices) old)
AreCertifiedSigned bytes old new (Err (why.Certificate e)) = IsErrorOf (certificate_of bytes) e × (new ≡ old)
AreCertifiedSigned bytes old new (Err f) = IsWant f × (new ≡ old)

-- the block of a certificate, its instance, and the weight of all its validators
abbrev pub unjudged : Digest → Digest → ℕ → Judged
unjudged block instance total = record { kind = 0; status = 0; number = 0; weight = 0; height = 0; length = 0; total = total; block = block.0; instance = instance.0 }

-- A no. Kind 1: the configuration breaks a limit. Kind 2: a vertex is refused. Kind 3: the faulty validators weigh more
-- than the threshold. Kind 4: the block has no summit.
abbrev pub refused : Judged → CheckFault → Judged
refused judged (fault.Config limit) = record judged { kind = 1; status = config_status limit }
refused judged (fault.Refused number cause) = record judged { kind = 2; status = cause_status cause; number = number }
refused judged (fault.Exceeded weight) = record judged { kind = 3; weight = weight }
refused judged fault.Unstood = record judged { kind = 4 }

-- the value of the journal's unit of this digest: no bytes where there is none
abbrev pub value_in : CoreState → Digest → List ℕ
value_in core block = elim (unit_in core block) [ None ↦ [] | Some u ↦ value_bytes u.unit ]

-- a yes, which is kind 0, by the node that decided the block
abbrev pub accepted : Judged → CoreState → Digest → Judged
accepted judged core block = record judged { height = height_or_zero (decided_block core block); length = length (value_in core block) }

-- The answer to a certificate as a struct, and beside a yes the block's value. A configuration that breaks a limit has no
-- weight of all.
abbrev pub IsJudgedAs : Certificate → Checked → WithBytes Judged → Type 0
IsJudgedAs c (Yes core) both = (both.value ≡ accepted (unjudged c.block (instance_of c.config) (sum c.config.weights)) core c.block) × (both.bytes ≡ value_in core c.block)
IsJudgedAs c (No (fault.Config limit)) both = (both.value ≡ refused (unjudged c.block (instance_of c.config) 0) (fault.Config limit)) × (both.bytes ≡ [])
IsJudgedAs c (No f) both = (both.value ≡ refused (unjudged c.block (instance_of c.config) (sum c.config.weights)) f) × (both.bytes ≡ [])

-- the configuration keeps its limits, unless that it doesn't is the answer
abbrev pub HasKeptLimits : Checked → Config → Type 0
HasKeptLimits (No (fault.Config limit)) config = Unit {0}
HasKeptLimits checked config = config_fault config ≡ None

-- the verdicts that these numbers say: 1 yes, and another number no
abbrev pub verdicts_of : List ℕ → List Bool
verdicts_of numbers = map (λ n. n == 1) numbers

-- each of the numbers is 0 or 1, and there is one for each vertex
abbrev pub AreVerdictsOn : Certificate → List ℕ → Type 0
AreVerdictsOn c numbers = (length numbers ≡ length c.vertices) × (list_all (λ n. nat_le n 1) numbers ≡ true)

-- The answer to the certificate that the bytes spell with these verdicts, and what a yes proves. Or there are other
-- verdicts than one, 0 or 1, for each vertex.
abbrev pub IsJudged : List ℕ → List ℕ → Result (WithBytes Judged) Fault → Type 0
IsJudged bytes numbers (Ok both) =
    (c : Certificate) × (certificate_of bytes ≡ Ok c) × AreVerdictsOn c numbers
    × ((checked : Checked) × IsAnswer c (verdicts_of numbers) checked × IfYes (IsCertified c) checked × IsJudgedAs c checked both)
IsJudged bytes numbers (Err (why.Certificate e)) = IsErrorOf (certificate_of bytes) e
IsJudged bytes numbers (Err why.OutOfRange) = (c : Certificate) × (certificate_of bytes ≡ Ok c) × (AreVerdictsOn c numbers → ⊥)
IsJudged bytes numbers (Err f) = IsWant f
