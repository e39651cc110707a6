-- A check of a certificate, part by part.
use Rattle.std.proofs.Common.{◌≡◌, ℕ, inl, inr, List, Option, Some, None, Result, Ok, Err, IfOk, sym, ap, subst, ◌∙◌}
use Rattle.std.specs.Prelude.{◌≢◌}
use Rattle.hw_io.specs.Files.{SameFiles}
use Rattle.hw_light.specs.declared.certificate.Certificate.{Certificate}
use Rattle.hw_light.specs.declared.error.CertError.{CertError}
use Rattle.hw_light.specs.declared.error.CertError.TheVariants as cert
use Rattle.hw_light.specs.Reading.{certificate_of, IsErrorOf}
use Rattle.hw_light.specs.Texts.{error_text}
use Rattle.hw_commands.specs.declared.ended.Ended.{Ended}
use Rattle.hw_commands.specs.declared.ended.RunFault.{RunFault}
use Rattle.hw_commands.specs.Commands.{Word}
use Rattle.hw_commands.specs.Texts.{input_ended, read_fault_ended}
use Rattle.hw_commands.specs.Program.{◌>>=◌, Held, Part, or_misread, certificate_said}
use Rattle.hw_commands.specs.Shown.{IsAlike, IsAlikeIn}

-- what is said of a file that was read
pub certificate_read : (held : Held) (file : Word) (bytes : List ℕ) → held file ≡ Some bytes → certificate_said held file ≡ or_misread file (certificate_of bytes)
certificate_read held file bytes is =
    ap (λ (o : Option (List ℕ)). elim o as (λ z. Part (List ℕ)) [ None ↦ Err read_fault_ended | Some bytes ↦ Ok bytes ] >>= λ bytes. or_misread file (certificate_of bytes)) is

-- a part before it left the files
module _ (held mid : Held) (same : SameFiles held mid) where
  one : mid ≡ held
  one = λ i name. same name i

  pub then_alike : (c : Certificate) (log : Option Word) (r : Result Ended RunFault) → IfOk r (λ e. e.status ≡ 3 → IsAlike mid c log) → IfOk r (λ e. e.status ≡ 3 → IsAlike held c log)
  then_alike c log (Ok e) alike = λ three. subst (λ (h : Held). IsAlike h c log) one (alike three)
  then_alike c log (Err f) alike = tt

-- the certificate of the file
pub then_alike_in : (held mid : Held) (same : SameFiles held mid) (file : Word) (c : Certificate) (log : Option Word) (r : Result Ended RunFault) → Ok c ≡ certificate_said held file
    → IfOk r (λ e. e.status ≡ 3 → IsAlike mid c log) → IfOk r (λ e. e.status ≡ 3 → IsAlikeIn held file log)
then_alike_in held mid same file c log (Ok e) part alike = λ three bytes d there reads.
    let both : Ok c ≡ Ok d = part ∙ certificate_read held file bytes there ∙ ap (or_misread file) reads in
    let is : c ≡ d = cc in
    subst (λ (k : Certificate). IsAlike held k log) is (then_alike held mid same c log (Ok e) alike three)
then_alike_in held mid same file c log (Err f) part alike = tt

-- ---- bytes that are no certificate

pub misread_said : (file : Word) (bytes : List ℕ) (error : CertError) (e : Ended) → IsErrorOf (certificate_of bytes) error → (e ≡ input_ended file (error_text error)) × (error ≢ cert.OutOfMemory) → Err e ≡ or_misread file (certificate_of bytes)
misread_said file bytes error e (inl want) said = absurd (said.1 want)
misread_said file bytes error e (inr read) said = ap Err said.0 ∙ sym (ap (or_misread file) read)
