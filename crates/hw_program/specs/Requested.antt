-- What the words of a command line ask for, as the program has it.
use Rattle.std.specs.Prelude.{Option, Some, None, IfSome}
use Rattle.hw_program.specs.declared.request.Request.{Request as AnyRequest}
use Rattle.hw_program.specs.declared.request.Request.TheVariants as request
use Rattle.hw_commands.specs.Commands.{Request}
use Rattle.hw_program.specs.Services.{Service}
use Rattle.hw_commands.specs.Asked.{asked, IsInRange}
use Rattle.hw_program.specs.Serving.{service}

-- the request whose text is worked out, if it is one
abbrev pub worked_request : AnyRequest → Option Request
worked_request (request.Node command) = None
worked_request (request.Work command) = asked command

-- the run of a node, if it is one
abbrev pub node_request : AnyRequest → Option Service
node_request (request.Node command) = Some (service command)
node_request (request.Work command) = None

-- the numbers of a command whose text is worked out are in their ranges
abbrev pub HasRange : AnyRequest → Type 0
HasRange (request.Node command) = Unit {0}
HasRange (request.Work command) = IfSome command IsInRange
