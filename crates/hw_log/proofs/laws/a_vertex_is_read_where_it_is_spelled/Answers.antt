use Rattle.std.proofs.Common.{ap, ◌∙◌}
use Rattle.hw_log.specs.Lasts.{vertex_in}
use Rattle.hw_log.proofs.RangeLaws.{vertex_read}
use Rattle.hw_log.proofs.AppendLaws.{vertex_again}
use Rattle.hw_log.proofs.laws.a_vertex_is_read_where_it_is_spelled.Goals as goal

pub returns : goal.returns
returns c = λ lasts bytes vertex each fits. (λ e. vertex_read lasts bytes vertex each fits e, λ h. ap (vertex_in lasts) h.1.is ∙ vertex_again lasts vertex h.0 h.1.limits)
