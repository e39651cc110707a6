-- A session that nothing outside disturbs ends as both said.
use Rattle.std.proofs.Common.{◌≡◌, ℕ, ◌≤◌, List, [], ◌∷◌, ◌++◌, length, refl, sym, ap, subst, ◌∙◌, inl, inr, arith, length-append, append-nil}
use Rattle.hw_link.specs.declared.end.SessionEnd.{SessionEnd}
use Rattle.hw_link.specs.declared.end.SessionEnd.TheVariants as end
use Rattle.hw_link.specs.Frames.{byte_limit}
use Rattle.hw_session.specs.Sessions.{IsOfOutside, EndsAs, IsEndOf}
use Rattle.hw_session.specs.Serving.{serve_step, served}
use Rattle.hw_session.specs.Driving.{hello, drive_step, greeting, driven}
use Rattle.hw_session.specs.Drives.{IsDrivenEnd}
use Rattle.hw_run_laws.specs.Complete.{IsUndisturbed, IsWhole, ServesAreComplete, DrivesAreComplete}
use Rattle.hw_run_laws.proofs.FrameLaws.{IsOfFrame, stays}

-- as many bytes were read as may be
nothing_more : (ends : List ℕ → SessionEnd) (read more : List ℕ) → byte_limit ≤ length read → length (read ++ more) ≤ byte_limit → ends (read ++ more) ≡ ends read
nothing_more ends read [] full few = ap ends (append-nil read)
nothing_more ends read (b ∷ more) full few = absurd (let all = length-append read (b ∷ more) in omega (arith, all, full, few))

module _ (ends : List ℕ → SessionEnd) (held : (read more : List ℕ) → length (read ++ more) ≤ byte_limit → IsOfFrame (ends read) → ends (read ++ more) ≡ ends read) (read more : List ℕ) (few : length (read ++ more) ≤ byte_limit) (done : ends (read ++ more) ≡ end.Done) where
  -- the end that a frame brought is the one of all bytes
  by_frame : (e : SessionEnd) → e ≡ ends read → IsOfFrame e → e ≡ end.Done
  by_frame e is by = is ∙ sym (held read more few (subst IsOfFrame is by)) ∙ done

  -- so is one that more bytes don't change
  by_all : (e : SessionEnd) → ends (read ++ more) ≡ e → e ≡ end.Done
  by_all e is = sym is ∙ done

  -- an end that is not of the outside is the one of the bytes
  of_bytes : (e : SessionEnd) → EndsAs e (ends read) → (IsOfOutside e → ⊥) → e ≡ ends read
  of_bytes e (inl same) plain = same
  of_bytes e (inr of) plain = absurd (plain of)

pub serves_complete : ServesAreComplete
serves_complete n m read written tells held_old held_new ends_old ends_new e s u more few done = go e s.ended s.end_counted u
  where
    held : (read more : List ℕ) → length (read ++ more) ≤ byte_limit → IsOfFrame (served n read).end → (served n (read ++ more)).end ≡ (served n read).end
    held = stays serve_step [] n

    go : (e : SessionEnd) → EndsAs e (served n read).end → IsEndOf n read ends_old ends_new e → IsUndisturbed ends_old ends_new e → IsWhole e
    go end.Done ended counted u = inl refl
    go end.OutOfMemory ended counted u = inr refl
    go end.EndOfInput ended counted u = absurd (u.goes_on counted)
    go end.LinkFault ended counted u = absurd (u.no_link u.link)
    go end.AppendFault ended counted u = absurd (u.no_log u.log)
    go (end.BadFrame at) ended counted u = elim counted [ inl rose ↦ absurd (u.goes_on rose) | inr final ↦ inl (by_all (λ (bytes : List ℕ). (served n bytes).end) held read more few done (end.BadFrame at) (final more few)) ]
    go end.WrongInstance ended counted u = inl (by_frame (λ (bytes : List ℕ). (served n bytes).end) held read more few done end.WrongInstance (of_bytes (λ (bytes : List ℕ). (served n bytes).end) held read more few done end.WrongInstance ended (λ of. of)) tt)
    go end.Clash ended counted u = inl (by_frame (λ (bytes : List ℕ). (served n bytes).end) held read more few done end.Clash (of_bytes (λ (bytes : List ℕ). (served n bytes).end) held read more few done end.Clash ended (λ of. of)) tt)
    go end.ByteLimit ended counted u = inl (of_bytes (λ (bytes : List ℕ). (served n bytes).end) held read more few done end.ByteLimit ended (λ of. of) ∙ sym (nothing_more (λ (bytes : List ℕ). (served n bytes).end) read more counted few) ∙ done)

pub drives_complete : DrivesAreComplete
drives_complete n m mark now read written tells held_old held_new ends_old ends_new e s u more few done = go e s.ended s.end_counted u
  where
    held : (read more : List ℕ) → length (read ++ more) ≤ byte_limit → IsOfFrame (driven n mark read).end → (driven n mark (read ++ more)).end ≡ (driven n mark read).end
    held = stays drive_step (hello n) (greeting n mark)

    go : (e : SessionEnd) → EndsAs e (driven n mark read).end → IsDrivenEnd n mark read ends_old ends_new e → IsUndisturbed ends_old ends_new e → IsWhole e
    go end.Done ended counted u = inl refl
    go end.OutOfMemory ended counted u = inr refl
    go end.EndOfInput ended counted u = absurd (u.goes_on counted)
    go end.LinkFault ended counted u = absurd (u.no_link u.link)
    go end.AppendFault ended counted u = absurd (u.no_log u.log)
    go (end.BadFrame at) ended counted u = elim counted [ inl rose ↦ absurd (u.goes_on rose) | inr final ↦ inl (by_all (λ (bytes : List ℕ). (driven n mark bytes).end) held read more few done (end.BadFrame at) (final more few)) ]
    go end.WrongInstance ended counted u = inl (by_frame (λ (bytes : List ℕ). (driven n mark bytes).end) held read more few done end.WrongInstance (of_bytes (λ (bytes : List ℕ). (driven n mark bytes).end) held read more few done end.WrongInstance ended (λ of. of)) tt)
    go end.Clash ended counted u = inl (by_frame (λ (bytes : List ℕ). (driven n mark bytes).end) held read more few done end.Clash (of_bytes (λ (bytes : List ℕ). (driven n mark bytes).end) held read more few done end.Clash ended (λ of. of)) tt)
    go end.ByteLimit ended counted u = inl (of_bytes (λ (bytes : List ℕ). (driven n mark bytes).end) held read more few done end.ByteLimit ended (λ of. of) ∙ sym (nothing_more (λ (bytes : List ℕ). (driven n mark bytes).end) read more counted few) ∙ done)
