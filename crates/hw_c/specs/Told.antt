-- The numbers in an answer: its status, and the details of that.
-- Source: ours.
use Rattle.std.specs.Prelude.{◌≡◌, ℕ, ◌+◌, List, replicate, Result, Ok, Err}
use Rattle.hw_types.specs.declared.answers.CodecError.{CodecError}
use Rattle.hw_types.specs.declared.answers.CodecError.TheVariants as codec
use Rattle.hw_types.specs.declared.answers.PairFault.TheVariants as pair
use Rattle.hw_types.specs.declared.answers.Cause.{Cause}
use Rattle.hw_types.specs.declared.answers.Cause.TheVariants as cause
use Rattle.hw_types.specs.declared.answers.Receipt.{Receipt}
use Rattle.hw_types.specs.declared.answers.Receipt.TheVariants as receipt
use Rattle.hw_types.specs.declared.config.ConfigFault.{ConfigFault}
use Rattle.hw_types.specs.declared.config.ConfigFault.TheVariants as limit
use Rattle.hw_text.specs.Text.{rule_number}
use Rattle.hw_light.specs.declared.error.CertError.{CertError}
use Rattle.hw_light.specs.declared.error.CertError.TheVariants as cert
use Rattle.hw_c.specs.declared.codes.Answer.{Answer}
use Rattle.hw_c.specs.declared.codes.Fault.{Fault}
use Rattle.hw_c.specs.declared.codes.Fault.TheVariants as fault

-- the 32 bytes of a digest or signature that is not there
abbrev pub zeros : List ℕ
zeros = replicate 32 0

-- ---- faults

-- why bytes are no spelling
abbrev pub codec_status : CodecError → ℕ
codec_status (codec.Truncated at) = 256
codec_status (codec.Trailing at) = 257
codec_status (codec.BadTag at) = 258
codec_status (codec.TooLong at) = 259
codec_status (codec.OutOfRange at) = 260
codec_status codec.OutOfMemory = 1

-- where the refused field begins
abbrev pub codec_place : CodecError → ℕ
codec_place (codec.Truncated at) = at
codec_place (codec.Trailing at) = at
codec_place (codec.BadTag at) = at
codec_place (codec.TooLong at) = at
codec_place (codec.OutOfRange at) = at
codec_place codec.OutOfMemory = 0

-- which limit a configuration breaks
abbrev pub config_status : ConfigFault → ℕ
config_status limit.Validators = 513
config_status (limit.ZeroWeight v) = 514
config_status limit.Total = 515
config_status limit.Threshold = 516
config_status limit.Levels = 517
config_status limit.Exponents = 518
config_status limit.LeaderTable = 519
config_status limit.Records = 520
config_status limit.Parked = 521

-- the validator without weight, where that is the limit
abbrev pub config_place : ConfigFault → ℕ
config_place (limit.ZeroWeight v) = v
config_place limit.Validators = 0
config_place limit.Total = 0
config_place limit.Threshold = 0
config_place limit.Levels = 0
config_place limit.Exponents = 0
config_place limit.LeaderTable = 0
config_place limit.Records = 0
config_place limit.Parked = 0

-- why a vertex was refused
abbrev pub cause_status : Cause → ℕ
cause_status cause.BadSignature = 768
cause_status (cause.Local r) = 1024 + rule_number r
cause_status (cause.Pair pair.Creator) = 784
cause_status (cause.Pair pair.Sequence) = 785
cause_status (cause.Pair pair.Instance) = 786
cause_status (cause.Pair pair.Same) = 787
cause_status (cause.Clash known) = 800
cause_status cause.RecordsFull = 801
cause_status cause.ParkFull = 802
cause_status cause.OutOfMemory = 1

-- the digest that two units share, where they clash
abbrev pub cause_digest : Cause → List ℕ
cause_digest (cause.Clash known) = known.0
cause_digest cause.BadSignature = zeros
cause_digest (cause.Local r) = zeros
cause_digest (cause.Pair p) = zeros
cause_digest cause.RecordsFull = zeros
cause_digest cause.ParkFull = zeros
cause_digest cause.OutOfMemory = zeros

-- why bytes are no certificate
abbrev pub cert_status : CertError → ℕ
cert_status cert.BadMagic = 1280
cert_status (cert.Version v) = 1281
cert_status (cert.Torn at) = 1282
cert_status (cert.TooLong at) = 1283
cert_status (cert.Trailing at) = 1284
cert_status (cert.BadConfig e) = codec_status e + 1040
cert_status (cert.BadVertex at e) = codec_status e + 1056
cert_status cert.OutOfMemory = 1

-- Where the refused field begins. In a configuration that is refused, the place counts from its first byte. Of a vertex
-- that is refused, the place is that of its length.
abbrev pub cert_place : CertError → ℕ
cert_place cert.BadMagic = 0
cert_place (cert.Version v) = 4
cert_place (cert.Torn at) = at
cert_place (cert.TooLong at) = at
cert_place (cert.Trailing at) = at
cert_place (cert.BadConfig e) = codec_place e
cert_place (cert.BadVertex at e) = at
cert_place cert.OutOfMemory = 0

-- the status of a fault
abbrev pub status_of : Fault → ℕ
status_of fault.Empty = 4
status_of fault.Full = 5
status_of fault.OutOfMemory = 1
status_of fault.Nothing = 2
status_of fault.OutOfRange = 3
status_of fault.TooLong = 6
status_of fault.OtherInstance = 7
status_of (fault.Bytes e) = codec_status e
status_of (fault.Config f) = config_status f
status_of (fault.Refused c) = cause_status c
status_of (fault.Certificate e) = cert_status e

-- the status has no details
abbrev pub blank : Answer
blank = record { kind = 0; count = 0; at = 0; digest = zeros }

-- the details of a fault's status
abbrev pub answer_of : Fault → Answer
answer_of (fault.Bytes e) = record blank { at = codec_place e }
answer_of (fault.Config f) = record blank { at = config_place f }
answer_of (fault.Refused c) = record blank { digest = cause_digest c }
answer_of (fault.Certificate e) = record blank { at = cert_place e }
answer_of fault.Empty = blank
answer_of fault.Full = blank
answer_of fault.OutOfMemory = blank
answer_of fault.Nothing = blank
answer_of fault.OutOfRange = blank
answer_of fault.TooLong = blank
answer_of fault.OtherInstance = blank

-- ---- what a call answers

-- 0 where the call succeeded
abbrev pub status : {A : Type 0} → Result A Fault → ℕ
status (Ok x) = 0
status (Err f) = status_of f

-- the details of a status: none where the call succeeded
abbrev pub behind : {A : Type 0} → Result A Fault → Answer
behind (Ok x) = blank
behind (Err f) = answer_of f

-- the value where the call succeeded, and else what was there before
abbrev pub put : {A : Type 0} → Result A Fault → A → A
put (Ok x) old = x
put (Err f) old = old

-- What became of a vertex. Kind 0: this number of units settled. Kind 1: it waits for this number of needs. Kind 2: it
-- breaks the rule of this number. Kind 3: the node had it already.
abbrev pub receipt_answer : Receipt → Answer
receipt_answer (receipt.Admitted settled) = record blank { kind = 0; count = settled }
receipt_answer (receipt.Parked missing) = record blank { kind = 1; count = missing }
receipt_answer (receipt.Dropped rule) = record blank { kind = 2; count = rule_number rule }
receipt_answer receipt.Repeat = record blank { kind = 3 }

-- the answer to a delivery
abbrev pub delivery_answer : Result Receipt Fault → Answer
delivery_answer (Ok r) = receipt_answer r
delivery_answer (Err f) = answer_of f

-- the value is in the caller's struct where the call succeeded, and the status is the answer
abbrev pub Puts : {A : Type 0} → Result A Fault → A → A → ℕ → Type 0
Puts r old new said = (new ≡ put r old) × (said ≡ status r)

-- the same, and the details of the status
abbrev pub PutsWith : {A : Type 0} → Result A Fault → A → A → Answer → ℕ → Type 0
PutsWith r old new answer said = Puts r old new said × (answer ≡ behind r)
