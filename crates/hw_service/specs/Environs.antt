-- What is outside of a node, of the environment that it works with.
use Rattle.std.specs.Prelude.{List}
use Rattle.hw_io.specs.declared.outside.Files.{Ghosts as Files}
use Rattle.hw_io.specs.declared.outside.Sink.{Ghosts as Sink}
use Rattle.hw_io.specs.declared.outside.Door.{Ghosts as Door}
use Rattle.hw_service.specs.declared.environment.Environment.{Environment}
use Rattle.hw_service.specs.Scene.{Outside, outside_of}

-- the outside of an environment, seen by these ghosts of its files, output and door, and of these consumers
abbrev pub outside_in : {F S C D B : Type 0} → Files F → Sink S → Door D → Environment F S C D → List B → Outside B
outside_in reads writes calls environment consumers = outside_of reads writes calls environment.files.now environment.out.now environment.door.now consumers
