-- The line of a session.
use Rattle.std.specs.Prelude.{◌≢◌}
use Rattle.std.specs.Io.KnownBytes.{Appends}
use Rattle.std.proofs.Common.{ℕ, false, List, [], Option, Some, None, Ok, Err, refl, sym}
use Rattle.std.proofs.lemmas.List.{append-nil}
use Rattle.hw_io.specs.Sinks.{AppendsPrefix}
use Rattle.hw_link.specs.declared.end.SessionEnd.{SessionEnd}
use Rattle.hw_link.specs.declared.end.SessionEnd.TheVariants as end
use Rattle.hw_session.specs.Node.{NodeState}
use Rattle.hw_service.specs.declared.fault.ServiceFault.{ServiceFault}
use Rattle.hw_service.specs.declared.fault.ServiceFault.TheVariants as fault
use Rattle.hw_service.specs.Lines.{line_of_end, end_line}
use Rattle.hw_service.specs.Told.{GoesOn, is_link_fault, TellsEnd}
use Rattle.hw_service.specs.Written.{IsOfOutput, TellsClash}

-- nothing was written
pub appends_none : (old : Option (List ℕ)) → Appends old old []
appends_none None = tt
appends_none (Some xs) = sym (append-nil xs)

pub prefix_none : (old : Option (List ℕ)) (bytes : List ℕ) → AppendsPrefix old old bytes
prefix_none old bytes = (0, appends_none old)

-- a session that ended as Done has no line
pub done_told : (who : List ℕ) (number : ℕ) (n : NodeState) (old : Option (List ℕ)) → TellsEnd who number end.Done n old old (Ok false)
unfolding end_line
done_told who number n old = (tt, refl, appends_none old)

-- nor has one that ended the run
pub memory_told : (who : List ℕ) (number : ℕ) (n : NodeState) (e : SessionEnd) (old : Option (List ℕ)) → e ≢ end.AppendFault → TellsEnd who number e n old old (Err fault.OutOfMemory)
memory_told who number n e old apart = (apart, prefix_none old (end_line who number e))

clash_apart : end.Clash ≢ end.AppendFault
clash_apart is = cc

pub clash_told : (who : List ℕ) (number : ℕ) (n : NodeState) (f : ServiceFault) (old : Option (List ℕ)) → TellsClash n.clash f → TellsEnd who number end.Clash n old old (Err f)
clash_told who number n (fault.Clash units) old told = (refl, told, refl)
clash_told who number n fault.OutOfMemory old told = (clash_apart, prefix_none old (end_line who number end.Clash))
clash_told who number n (fault.Settings f) old told = absurd told
clash_told who number n fault.NoValidator old told = absurd told
clash_told who number n (fault.Keys at) old told = absurd told
clash_told who number n (fault.Log f) old told = absurd told
clash_told who number n fault.Read old told = absurd told
clash_told who number n fault.Append old told = absurd told
clash_told who number n fault.Write old told = absurd told

module _ (who : List ℕ) (number : ℕ) (n : NodeState) (old new : Option (List ℕ)) where
  -- the line of another end
  pub line_told : (e : SessionEnd) → e ≢ end.Done → e ≢ end.AppendFault → e ≢ end.Clash → e ≢ end.OutOfMemory → Appends old new (line_of_end who number e) → TellsEnd who number e n old new (Ok (is_link_fault e))
  unfolding end_line
  line_told end.EndOfInput a b c d wrote = (tt, refl, wrote)
  line_told end.WrongInstance a b c d wrote = (tt, refl, wrote)
  line_told (end.BadFrame at) a b c d wrote = (tt, refl, wrote)
  line_told end.LinkFault a b c d wrote = (tt, refl, wrote)
  line_told end.ByteLimit a b c d wrote = (tt, refl, wrote)
  line_told end.Done a b c d wrote = absurd (a refl)
  line_told end.AppendFault a b c d wrote = absurd (b refl)
  line_told end.Clash a b c d wrote = absurd (c refl)
  line_told end.OutOfMemory a b c d wrote = absurd (d refl)

  cut_here : (e : SessionEnd) → GoesOn e → e ≢ end.AppendFault → (f : ServiceFault) → IsOfOutput f → AppendsPrefix old new (end_line who number e) → TellsEnd who number e n old new (Err f)
  cut_here e goes apart fault.Write of wrote = (goes, wrote)
  cut_here e goes apart fault.OutOfMemory of wrote = (apart, wrote)
  cut_here e goes apart (fault.Settings f) of wrote = absurd of
  cut_here e goes apart fault.NoValidator of wrote = absurd of
  cut_here e goes apart (fault.Keys at) of wrote = absurd of
  cut_here e goes apart (fault.Log f) of wrote = absurd of
  cut_here e goes apart (fault.Clash units) of wrote = absurd of
  cut_here e goes apart fault.Read of wrote = absurd of
  cut_here e goes apart fault.Append of wrote = absurd of

  -- or a first part of it
  pub cut_told : (e : SessionEnd) → e ≢ end.Done → e ≢ end.AppendFault → e ≢ end.Clash → e ≢ end.OutOfMemory → (f : ServiceFault) → IsOfOutput f → AppendsPrefix old new (line_of_end who number e) → TellsEnd who number e n old new (Err f)
  unfolding end_line
  cut_told end.EndOfInput a b c d f of wrote = cut_here end.EndOfInput tt b f of wrote
  cut_told end.WrongInstance a b c d f of wrote = cut_here end.WrongInstance tt b f of wrote
  cut_told (end.BadFrame at) a b c d f of wrote = cut_here (end.BadFrame at) tt b f of wrote
  cut_told end.LinkFault a b c d f of wrote = cut_here end.LinkFault tt b f of wrote
  cut_told end.ByteLimit a b c d f of wrote = cut_here end.ByteLimit tt b f of wrote
  cut_told end.Done a b c d f of wrote = absurd (a refl)
  cut_told end.AppendFault a b c d f of wrote = absurd (b refl)
  cut_told end.Clash a b c d f of wrote = absurd (c refl)
  cut_told end.OutOfMemory a b c d f of wrote = absurd (d refl)
