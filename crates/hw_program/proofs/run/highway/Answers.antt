-- In the branch Work each clause is the one of `work`. In the branch Node a premise that the words ask for no run of a node is absurd.
use Rattle.std.proofs.Common.{refl, sym, subst, inl, inr}
use Rattle.hw_commands.specs.Files.{IsAllowed}
use Rattle.hw_commands.specs.Run.{IsServiceStatus}
use Rattle.hw_program.specs.Services.{UsesNoClock}
use Rattle.hw_program.specs.Serving.{service}
use Rattle.hw_program.specs.Served.{AsksNoValidator, CanRun, OnlyLogChanges}
use Rattle.hw_program.proofs.NodeLaws.{node_status, node_link, node_read_fault, node_about, node_write_fault, node_reads, node_appended, node_read_line, node_usage_line, node_usage, node_validator, run_end, service_is_status, service_not_three, worked_not_six}
use Rattle.hw_program.proofs.ServiceLaws.{service_no_request, asked_so, if_asked, is_asked, not_worked_out, if_none, none_so, none_asked, none_changes, checks_none}
use Rattle.hw_theorem.proofs.ClauseLaws.{says_of_logs, reported_reads, reported_done}
use Rattle.hw_agreement.proofs.ReportLaws.{accuses_no_innocent}
use Rattle.hw_program.proofs.LogLaws.{node_log}
use Rattle.hw_program.proofs.ReportLaws.{node_says_none, reported_is_worked}
use Rattle.hw_program.proofs.run.highway.Goals as goal

-- ---- a run of a node

pub returns-in-Node-clause-read_fault : goal.returns-in-Node-clause-read_fault
returns-in-Node-clause-read_fault g c = λ four. node_read_fault _ _ _ _ _ _ c.run_node.ensures.node four

pub returns-in-Node-clause-write_fault : goal.returns-in-Node-clause-write_fault
returns-in-Node-clause-write_fault g c = λ five. node_write_fault _ _ _ _ _ _ c.run_node.ensures.node five

pub returns-in-Node-clause-read_line : goal.returns-in-Node-clause-read_line
returns-in-Node-clause-read_line g c = λ four. node_read_line _ _ _ _ _ _ c.run_node.ensures.node refl four

pub returns-in-Node-clause-usage_line : goal.returns-in-Node-clause-usage_line
returns-in-Node-clause-usage_line g c = λ one. node_usage_line _ _ _ _ _ _ c.run_node.ensures.node refl one

pub returns-in-Node-clause-node_reads : goal.returns-in-Node-clause-node_reads
returns-in-Node-clause-node_reads g c = λ asked not. node_reads _ _ _ _ _ _ c.run_node.ensures.node not

pub returns-in-Node-clause-node_appended : goal.returns-in-Node-clause-node_appended
returns-in-Node-clause-node_appended g c = λ asked not. node_appended _ _ _ _ _ _ c.run_node.ensures.node not

pub returns-in-Node-clause-usage : goal.returns-in-Node-clause-usage
returns-in-Node-clause-usage g c = λ one. inr (asked_so (λ o. AsksNoValidator g.F.Files.tells o (g.F.Files.held c.args.files.now)) _ _ c.in-Node.ensures.node (node_usage _ _ _ _ _ _ c.run_node.ensures.node one))

pub returns-in-Node-clause-validator : goal.returns-in-Node-clause-validator
returns-in-Node-clause-validator g c = λ tells vain. node_validator _ _ _ _ _ _ c.run_node.ensures.node tells (subst (λ o. AsksNoValidator g.F.Files.tells o (g.F.Files.held c.args.files.now)) (sym c.in-Node.ensures.node) vain)

pub returns-in-Node-clause-runs : goal.returns-in-Node-clause-runs
returns-in-Node-clause-runs g c = λ tells may reads writes appends. run_end _ _ _ _ _ _ c.run_node.ensures.node tells (subst (λ o. CanRun o (g.F.Files.held c.args.files.now)) (sym c.in-Node.ensures.node) may) reads writes appends

pub returns-in-Node-clause-link : goal.returns-in-Node-clause-link
returns-in-Node-clause-link g c = λ six. (is_asked _ _ c.in-Node.ensures.node, node_link _ _ _ _ _ _ c.run_node.ensures.node six)

pub returns-in-Node-clause-service : goal.returns-in-Node-clause-service
returns-in-Node-clause-service g c = if_asked (λ s. IsServiceStatus c.run_node.result) _ _ c.in-Node.ensures.node (node_status _ _ _ _ _ _ c.run_node.ensures.node)

pub returns-in-Node-clause-node_about : goal.returns-in-Node-clause-node_about
returns-in-Node-clause-node_about g c = λ tells four. if_asked _ _ _ c.in-Node.ensures.node (node_about _ _ _ _ _ _ c.run_node.ensures.node tells four)

pub returns-in-Node-clause-node : goal.returns-in-Node-clause-node
returns-in-Node-clause-node g c = if_asked _ _ _ c.in-Node.ensures.node c.run_node.ensures.node

pub returns-in-Node-clause-log : goal.returns-in-Node-clause-log
returns-in-Node-clause-log g c = λ tells. asked_so (λ o. OnlyLogChanges o (g.F.Files.held c.args.files.now) (g.F.Files.held c.run_node.new.files)) _ _ c.in-Node.ensures.node (node_log _ _ _ _ _ _ c.run_node.ensures.node tells)

pub returns-in-Node-clause-worked : goal.returns-in-Node-clause-worked
returns-in-Node-clause-worked g c = λ worked. absurd (not_worked_out _ _ c.in-Node.ensures.node worked)

pub returns-in-Node-clause-said : goal.returns-in-Node-clause-said
returns-in-Node-clause-said g c = λ worked. absurd (not_worked_out _ _ c.in-Node.ensures.node worked)

pub returns-in-Node-clause-read_about : goal.returns-in-Node-clause-read_about
returns-in-Node-clause-read_about g c = λ worked. absurd (not_worked_out _ _ c.in-Node.ensures.node worked)

pub returns-in-Node-clause-unwritten : goal.returns-in-Node-clause-unwritten
returns-in-Node-clause-unwritten g c = λ worked. absurd (not_worked_out _ _ c.in-Node.ensures.node worked)

pub returns-in-Node-clause-reads : goal.returns-in-Node-clause-reads
returns-in-Node-clause-reads g c = λ worked. absurd (not_worked_out _ _ c.in-Node.ensures.node worked)

pub returns-in-Node-clause-appended : goal.returns-in-Node-clause-appended
returns-in-Node-clause-appended g c = λ worked. absurd (not_worked_out _ _ c.in-Node.ensures.node worked)

pub returns-in-Node-clause-complete : goal.returns-in-Node-clause-complete
returns-in-Node-clause-complete g c = λ worked. absurd (not_worked_out _ _ c.in-Node.ensures.node worked)

pub returns-in-Node-clause-text : goal.returns-in-Node-clause-text
returns-in-Node-clause-text g c = λ worked. absurd (not_worked_out _ _ c.in-Node.ensures.node worked)

pub returns-in-Node-clause-line : goal.returns-in-Node-clause-line
returns-in-Node-clause-line g c = λ worked. absurd (not_worked_out _ _ c.in-Node.ensures.node worked)

pub returns-in-Node-clause-cut : goal.returns-in-Node-clause-cut
returns-in-Node-clause-cut g c = λ worked. absurd (not_worked_out _ _ c.in-Node.ensures.node worked)

pub returns-in-Node-clause-append_line : goal.returns-in-Node-clause-append_line
returns-in-Node-clause-append_line g c = λ worked. absurd (not_worked_out _ _ c.in-Node.ensures.node worked)

pub returns-in-Node-clause-memory_line : goal.returns-in-Node-clause-memory_line
returns-in-Node-clause-memory_line g c = λ worked. absurd (not_worked_out _ _ c.in-Node.ensures.node worked)

pub returns-in-Node-clause-any_memory_line : goal.returns-in-Node-clause-any_memory_line
returns-in-Node-clause-any_memory_line g c = λ worked. absurd (not_worked_out _ _ c.in-Node.ensures.node worked)

pub returns-in-Node-clause-left : goal.returns-in-Node-clause-left
returns-in-Node-clause-left g c = λ worked. absurd (not_worked_out _ _ c.in-Node.ensures.node worked)

pub returns-in-Node-clause-consumers : goal.returns-in-Node-clause-consumers
returns-in-Node-clause-consumers g c = λ worked. absurd (not_worked_out _ _ c.in-Node.ensures.node worked)

pub returns-in-Node-clause-files : goal.returns-in-Node-clause-files
returns-in-Node-clause-files g c = λ worked. absurd (not_worked_out _ _ c.in-Node.ensures.node worked)

pub returns-in-Node-clause-appends : goal.returns-in-Node-clause-appends
returns-in-Node-clause-appends g c = λ worked. absurd (not_worked_out _ _ c.in-Node.ensures.node worked)

pub returns-in-Node-clause-uncalled : goal.returns-in-Node-clause-uncalled
returns-in-Node-clause-uncalled g c = λ worked. absurd (not_worked_out _ _ c.in-Node.ensures.node worked)

pub returns-in-Node-clause-door : goal.returns-in-Node-clause-door
returns-in-Node-clause-door g c = λ worked. absurd (not_worked_out _ _ c.in-Node.ensures.node worked)

pub returns-in-Node-clause-grammar : goal.returns-in-Node-clause-grammar
returns-in-Node-clause-grammar g c = λ none. absurd (not_worked_out _ _ c.in-Node.ensures.node none.1)

-- ---- what a run of a node hasn't to do with

pub returns-in-Node-clause-status : goal.returns-in-Node-clause-status
returns-in-Node-clause-status g c = service_is_status _ (node_status _ _ _ _ _ _ c.run_node.ensures.node)

pub returns-in-Node-clause-allowed : goal.returns-in-Node-clause-allowed
returns-in-Node-clause-allowed g c = λ tells may. absurd (subst (λ o. IsAllowed o (g.F.Files.held c.args.files.now)) (service_no_request c.args.words.now (service c.in-Node.command) (sym c.in-Node.ensures.node)) may)

pub returns-in-Node-clause-conflict : goal.returns-in-Node-clause-conflict
returns-in-Node-clause-conflict g c = λ tells three. absurd (service_not_three _ (node_status _ _ _ _ _ _ c.run_node.ensures.node) three)

pub returns-in-Node-clause-innocent : goal.returns-in-Node-clause-innocent
returns-in-Node-clause-innocent g c = λ tells three. absurd (service_not_three _ (node_status _ _ _ _ _ _ c.run_node.ensures.node) three)

pub returns-in-Node-clause-reports : goal.returns-in-Node-clause-reports
returns-in-Node-clause-reports g c = λ tells fits done. node_says_none _ _ _ _ _ (λ worked. not_worked_out _ _ c.in-Node.ensures.node worked)

pub returns-in-Node-clause-reported : goal.returns-in-Node-clause-reported
returns-in-Node-clause-reported g c = λ tells can reads writes. absurd (not_worked_out _ _ c.in-Node.ensures.node (reported_is_worked _ _ can))

pub returns-in-Node-clause-certified : goal.returns-in-Node-clause-certified
returns-in-Node-clause-certified g c = λ tells shown. checks_none _ _ (service_no_request c.args.words.now (service c.in-Node.command) (sym c.in-Node.ensures.node))

pub returns-in-Node-clause-clock : goal.returns-in-Node-clause-clock
returns-in-Node-clause-clock g c = λ none alone. c.run_node.ensures.clock (subst (λ o. UsesNoClock o) (sym c.in-Node.ensures.node) none)

-- ---- a command that is worked out

pub returns-in-Work-clause-status : goal.returns-in-Work-clause-status
returns-in-Work-clause-status g c = inl c.work.ensures.status

pub returns-in-Work-clause-service : goal.returns-in-Work-clause-service
returns-in-Work-clause-service g c = if_none _ _ c.in-Work.ensures.node

pub returns-in-Work-clause-usage : goal.returns-in-Work-clause-usage
returns-in-Work-clause-usage g c = λ one. inl (c.work.ensures.usage one, sym c.in-Work.ensures.node)

pub returns-in-Work-clause-grammar : goal.returns-in-Work-clause-grammar
returns-in-Work-clause-grammar g c = λ none. c.work.ensures.grammar none.0

pub returns-in-Work-clause-validator : goal.returns-in-Work-clause-validator
returns-in-Work-clause-validator g c = λ tells vain. absurd (none_so (λ o. AsksNoValidator g.F.Files.tells o (g.F.Files.held c.args.files.now)) _ c.in-Work.ensures.node vain)

pub returns-in-Work-clause-node : goal.returns-in-Work-clause-node
returns-in-Work-clause-node g c = if_none _ _ c.in-Work.ensures.node

pub returns-in-Work-clause-link : goal.returns-in-Work-clause-link
returns-in-Work-clause-link g c = λ six. absurd (worked_not_six _ c.work.ensures.status six)

pub returns-in-Work-clause-node_about : goal.returns-in-Work-clause-node_about
returns-in-Work-clause-node_about g c = λ tells four. if_none _ _ c.in-Work.ensures.node

pub returns-in-Work-clause-node_reads : goal.returns-in-Work-clause-node_reads
returns-in-Work-clause-node_reads g c = λ asked not. absurd (none_asked _ c.in-Work.ensures.node asked)

pub returns-in-Work-clause-node_appended : goal.returns-in-Work-clause-node_appended
returns-in-Work-clause-node_appended g c = λ asked not. absurd (none_asked _ c.in-Work.ensures.node asked)

pub returns-in-Work-clause-runs : goal.returns-in-Work-clause-runs
returns-in-Work-clause-runs g c = λ tells may reads writes appends. absurd (none_so (λ o. CanRun o (g.F.Files.held c.args.files.now)) _ c.in-Work.ensures.node may)

pub returns-in-Work-clause-log : goal.returns-in-Work-clause-log
returns-in-Work-clause-log g c = λ tells. none_changes _ _ _ c.in-Work.ensures.node

pub returns-in-Work-clause-clock : goal.returns-in-Work-clause-clock
returns-in-Work-clause-clock g c = λ none alone. refl

pub returns-in-Work-clause-door : goal.returns-in-Work-clause-door
returns-in-Work-clause-door g c = λ worked alone. refl

pub returns-in-Work-clause-worked : goal.returns-in-Work-clause-worked
returns-in-Work-clause-worked g c = λ worked. c.work.ensures.status

pub returns-in-Work-clause-said : goal.returns-in-Work-clause-said
returns-in-Work-clause-said g c = λ worked. c.work.ensures.said

pub returns-in-Work-clause-read_about : goal.returns-in-Work-clause-read_about
returns-in-Work-clause-read_about g c = λ worked. c.work.ensures.read_about

pub returns-in-Work-clause-unwritten : goal.returns-in-Work-clause-unwritten
returns-in-Work-clause-unwritten g c = λ worked. c.work.ensures.unwritten

pub returns-in-Work-clause-reads : goal.returns-in-Work-clause-reads
returns-in-Work-clause-reads g c = λ worked. c.work.ensures.reads

pub returns-in-Work-clause-appended : goal.returns-in-Work-clause-appended
returns-in-Work-clause-appended g c = λ worked. c.work.ensures.appended

pub returns-in-Work-clause-innocent : goal.returns-in-Work-clause-innocent
returns-in-Work-clause-innocent g c = λ tells three. accuses_no_innocent _ _ _ _ _ _ _ _ (c.work.ensures.conflict tells three) (c.work.ensures.text tells (inr three))

pub returns-in-Work-clause-reports : goal.returns-in-Work-clause-reports
returns-in-Work-clause-reports g c = λ tells fits done. says_of_logs _ _ _ fits _ done _ _ _ _ _ (c.work.ensures.said tells (inl done)) (c.work.ensures.text tells done)

pub returns-in-Work-clause-reported : goal.returns-in-Work-clause-reported
returns-in-Work-clause-reported g c = λ tells can reads writes. reported_done _ _ _ can (c.work.ensures.complete tells reads writes (inl (reported_reads _ _ can)))

pub returns-in-Work-clause-complete : goal.returns-in-Work-clause-complete
returns-in-Work-clause-complete g c = λ worked. c.work.ensures.complete

pub returns-in-Work-clause-text : goal.returns-in-Work-clause-text
returns-in-Work-clause-text g c = λ worked. c.work.ensures.text

pub returns-in-Work-clause-line : goal.returns-in-Work-clause-line
returns-in-Work-clause-line g c = λ worked. c.work.ensures.line

pub returns-in-Work-clause-cut : goal.returns-in-Work-clause-cut
returns-in-Work-clause-cut g c = λ worked. c.work.ensures.cut

pub returns-in-Work-clause-append_line : goal.returns-in-Work-clause-append_line
returns-in-Work-clause-append_line g c = λ worked. c.work.ensures.append_line

pub returns-in-Work-clause-memory_line : goal.returns-in-Work-clause-memory_line
returns-in-Work-clause-memory_line g c = λ worked. c.work.ensures.memory_line

pub returns-in-Work-clause-any_memory_line : goal.returns-in-Work-clause-any_memory_line
returns-in-Work-clause-any_memory_line g c = λ worked. c.work.ensures.any_memory_line

pub returns-in-Work-clause-left : goal.returns-in-Work-clause-left
returns-in-Work-clause-left g c = λ worked. c.work.ensures.left

pub returns-in-Work-clause-consumers : goal.returns-in-Work-clause-consumers
returns-in-Work-clause-consumers g c = λ worked. c.work.ensures.consumers

pub returns-in-Work-clause-files : goal.returns-in-Work-clause-files
returns-in-Work-clause-files g c = λ worked. c.work.ensures.files

pub returns-in-Work-clause-appends : goal.returns-in-Work-clause-appends
returns-in-Work-clause-appends g c = λ worked. c.work.ensures.appends

pub returns-in-Work-clause-uncalled : goal.returns-in-Work-clause-uncalled
returns-in-Work-clause-uncalled g c = λ worked. c.work.ensures.uncalled
