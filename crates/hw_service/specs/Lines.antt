-- The lines that are written of a node's run.
use Rattle.std.specs.Prelude.{ℕ, zero, suc, List, [], ◌∷◌, ◌++◌, codes}
use Rattle.hw_types.specs.Real.{setting_of}
use Rattle.hw_text.specs.Text.{number_text}
use Rattle.hw_text.specs.Lines.{line_of}
use Rattle.hw_link.specs.declared.end.SessionEnd.{SessionEnd}
use Rattle.hw_link.specs.declared.end.SessionEnd.TheVariants as end
use Rattle.hw_explain.specs.Report.{report_text}
use Rattle.hw_replay.specs.State.{FanoutState}
use Rattle.hw_replay.specs.Lines.{drop_lines}
use Rattle.hw_session.specs.Node.{NodeState}

-- how a session ended, in words
abbrev pub end_words : SessionEnd → List ℕ
end_words end.EndOfInput = codes "end of input"
end_words end.WrongInstance = codes "wrong instance"
end_words (end.BadFrame at) = codes "bad frame at " ++ number_text at
end_words end.LinkFault = codes "link fault"
end_words end.ByteLimit = codes "byte limit"
end_words end.Done = []
end_words end.AppendFault = []
end_words end.Clash = []
end_words end.OutOfMemory = []

-- a line of that
abbrev pub line_of_end : List ℕ → ℕ → SessionEnd → List ℕ
line_of_end who number e = line_of (who ∷ number_text number ∷ end_words e ∷ [])

-- The line of a session that didn't end as Done. A session that ends the run has no line.
unfoldable pub end_line : List ℕ → ℕ → SessionEnd → List ℕ
end_line who number end.EndOfInput = line_of_end who number end.EndOfInput
end_line who number end.WrongInstance = line_of_end who number end.WrongInstance
end_line who number (end.BadFrame at) = line_of_end who number (end.BadFrame at)
end_line who number end.LinkFault = line_of_end who number end.LinkFault
end_line who number end.ByteLimit = line_of_end who number end.ByteLimit
end_line who number end.Done = []
end_line who number end.AppendFault = []
end_line who number end.Clash = []
end_line who number end.OutOfMemory = []

-- how many vertices and own units met a limit, if some did
abbrev pub limits_line : ℕ → List ℕ
limits_line zero = []
limits_line (suc n) = line_of (codes "limits" ∷ number_text (suc n) ∷ [])

-- What is written at the end: the report on the node, the consumers that were dropped, and the limits.
unfoldable pub closing_text : {B : Type 0} → NodeState → FanoutState B → List ℕ
closing_text n kept = report_text (setting_of n.core.config) n.core.journal n.refused n.repeats ++ drop_lines kept.drops ++ limits_line n.limited
