-- What a run leaves of the file into which a certificate is written.
-- Source: ours.
use Rattle.std.specs.Prelude.{◌≡◌, ◌≢◌, ◌⊎◌, ℕ, List, ◌++◌, take, Some, None, Result, Ok, Err}
use Rattle.hw_types.specs.declared.unit.Digest.{Digest}
use Rattle.hw_types.specs.Real.{CoreState}
use Rattle.hw_io.specs.Files.{SameFiles, Appended, bytes_of}
use Rattle.hw_replay.specs.Taken.{Taken}
use Rattle.hw_light.specs.declared.certificate.Certificate.{Certificate}
use Rattle.hw_light.specs.declared.answers.Certified.TheVariants.{Made}
use Rattle.hw_light.specs.Spelling.{CertificateFits, certificate_bytes}
use Rattle.hw_light.specs.Certify.{IsMade}
use Rattle.hw_light.specs.declared.asked.Asked.{Asked}
use Rattle.hw_light.specs.declared.asked.Asked.TheVariants as asked
use Rattle.hw_light.specs.Asked.{IsDecisionOf}
use Rattle.hw_commands.specs.declared.ended.RunFault.{RunFault}
use Rattle.hw_commands.specs.Commands.{Word}
use Rattle.hw_commands.specs.Program.{Held, log_replayed}

-- this certificate is made of the node for the decided block of the digest, and may be spelled
pub record IsCertificateOf (core : CoreState) (block : Digest) (made : Certificate) : Type 0 where
  pub index : ℕ
  pub decision : IsDecisionOf core block index
  pub is : IsMade core index made
  pub fits : CertificateFits made

-- the log's entries leave a node, of which it is made so; and the file that is to be new isn't there
pub record IsCertificateBy (held : Held) (log : Word) (block : Digest) (new : Word) (made : Certificate) : Type 0 where
  pub taken : Taken
  pub replayed : log_replayed held None log ≡ Ok taken
  pub is : IsCertificateOf taken.core block made
  pub absent : held new ≡ None

-- the file holds the spelling of such a certificate
pub record HoldsCertificate (before now : Held) (log : Word) (block : Digest) (new : Word) : Type 0 where
  pub made : Certificate
  pub is : IsCertificateBy before log block new made
  pub holds : now new ≡ Some (certificate_bytes made)

-- it holds a part of one, from its first byte on
pub record HoldsCertificatePart (before now : Held) (log : Word) (block : Digest) (new : Word) : Type 0 where
  pub made : Certificate
  pub is : IsCertificateBy before log block new made
  pub some : ℕ
  pub holds : bytes_of (now new) ≡ take some (certificate_bytes made)

-- With status 0 the new file holds the whole certificate. With 5 (an append failed) and 7 (out of memory) it may hold a
-- part of it. With each other status no file changes. Whatever the status, the other files stay.
pub record IsCertified (log : Word) (block : Digest) (new : Word) (status : ℕ) (before now : Held) : Type 0 where
  pub done : status ≡ 0 → HoldsCertificate before now log block new
  pub unwritten : status ≢ 0 → status ≢ 5 → status ≢ 7 → SameFiles before now
  pub cut : (now new ≡ before new) ⊎ HoldsCertificatePart before now log block new
  pub others : (name : List ℕ) → name ≢ new → now name ≡ before name

-- ---- on the way

-- the certificate was made, so the answer is
abbrev pub IsAnswered : Asked → Certificate → Type 0
IsAnswered answer made = answer ≡ asked.Answered (Made made)

-- the same of certificates that are so, after what the file held
pub record IsWritten (IsSo : Certificate → Type 0) (new : Word) (status : ℕ) (before now : Held) : Type 0 where
  pub done : status ≡ 0 → (made : Certificate) × IsSo made × (now new ≡ Some (bytes_of (before new) ++ certificate_bytes made))
  pub unwritten : status ≢ 0 → status ≢ 5 → status ≢ 7 → SameFiles before now
  pub cut : (now new ≡ before new) ⊎ ((made : Certificate) × IsSo made × ((some : ℕ) × (bytes_of (now new) ≡ bytes_of (before new) ++ take some (certificate_bytes made))))
  pub others : (name : List ℕ) → name ≢ new → now name ≡ before name

-- its spelling went last; or a part of it, or nothing was written
abbrev pub IsAppended : {T : Type 0} → Certificate → Word → Result T RunFault → Held → Held → Type 0
IsAppended {T} made new (Ok x) before now = Appended {T = T} {E = RunFault} before now new (certificate_bytes made) (Ok x)
IsAppended {T} made new (Err fault) before now = SameFiles before now ⊎ Appended {T = T} {E = RunFault} before now new (certificate_bytes made) (Err fault)

-- that of the certificate that was made, if one was
abbrev pub IsPut : {T : Type 0} → Asked → Word → Result T RunFault → Held → Held → Type 0
IsPut (asked.Answered (Made made)) new result before now = IsAppended made new result before now
IsPut answer new result before now = SameFiles before now
