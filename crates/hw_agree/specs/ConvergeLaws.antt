-- Laws of convergence: the statements.
use Rattle.std.specs.Prelude.{◌⊎◌, Bool, List}
use Rattle.hw_types.specs.declared.unit.Vertex.{Vertex}
use Rattle.hw_types.specs.Journal.{Setting, received_of, journal_of}
use Rattle.hw_types.specs.laws.StateLaws.{SaysTheSame, HasSameState}
use Rattle.hw_safety.specs.Taken.{taken, NoneRefused}
use Rattle.hw_agree.specs.Converge.{due_to, UnitsClash}

-- Two nodes each of which took what the other sent, with nothing refused, say the same, or units of the two clash.
abbrev pub NodesConverge : Type 0
NodesConverge = (s : Setting) (left right : List (Vertex × Bool))
    → NoneRefused s (journal_of s left) (due_to s (journal_of s right) (journal_of s left)) → NoneRefused s (journal_of s right) (due_to s (journal_of s left) (journal_of s right))
    → SaysTheSame s (taken s (journal_of s left) (due_to s (journal_of s right) (journal_of s left))) (taken s (journal_of s right) (due_to s (journal_of s left) (journal_of s right)))
    ⊎ UnitsClash s (taken s (journal_of s left) (due_to s (journal_of s right) (journal_of s left))) (taken s (journal_of s right) (due_to s (journal_of s left) (journal_of s right)))

-- And then they are in one state.
abbrev pub ConvergedStatesAreOne : Type 0
ConvergedStatesAreOne = (s : Setting) (left right : List (Vertex × Bool))
    → NoneRefused s (journal_of s left) (due_to s (journal_of s right) (journal_of s left)) → NoneRefused s (journal_of s right) (due_to s (journal_of s left) (journal_of s right))
    → HasSameState s.config (received_of s (taken s (journal_of s left) (due_to s (journal_of s right) (journal_of s left)))) (received_of s (taken s (journal_of s right) (due_to s (journal_of s left) (journal_of s right))))
    ⊎ UnitsClash s (taken s (journal_of s left) (due_to s (journal_of s right) (journal_of s left))) (taken s (journal_of s right) (due_to s (journal_of s left) (journal_of s right)))
