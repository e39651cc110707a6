-- What the reads of the file that was begun leave, and what they count.
use Rattle.std.specs.Prelude.{◌≡◌, ℕ, ◌+◌, List, ◌++◌, length, IsTrue, Result}
use Rattle.std.specs.Io.{StartsWith}
use Rattle.hw_io.specs.declared.outside.IoFault.{IoFault}
use Rattle.hw_io.specs.declared.outside.Files.{Ghosts as Files}
use Rattle.hw_io.specs.Faults.{HasCause, IsCountedAbout}
use Rattle.hw_io.specs.Files.{SameFiles}

-- no file changes, the one that was begun is begun still, and no append is counted
pub record OnlyReads {F : Type 0} (tells : Files F) (old new : F) : Type 0 where
  pub files : SameFiles (tells.held old) (tells.held new)
  pub begun : tells.begun new ≡ tells.begun old
  pub appends : tells.append_faults new ≡ tells.append_faults old

-- a failed read is counted, for the file that was begun, and nothing else is
pub record CountsReads {F T : Type 0} (tells : Files F) (old new : F) (result : Result T IoFault) : Type 0 where
  pub cause : HasCause (tells.read_faults old) (tells.read_faults new) result
  pub about : IsCountedAbout (tells.begun old) (tells.faults_about old) (tells.faults_about new) result

-- what was held is held, and these bytes and then the file's unread ones are what is left of the file, as before
pub record HoldsMore {F : Type 0} (tells : Files F) (old new : F) (before now : List ℕ) : Type 0 where
  pub held : StartsWith now before
  pub left : IsTrue tells.tells → now ++ tells.unread new ≡ before ++ tells.unread old
  pub allowance : tells.allowance new + length now ≡ tells.allowance old + length before
