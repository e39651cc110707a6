use Rattle.hw_agreement.proofs.MemberLaws.{lives_begin, own_lived, copies_are_there, one_is_heavy}
use Rattle.hw_agreement.proofs.RunMemberLaws.{turn_is_taken, sessions_are_served}
use Rattle.hw_agreement.proofs.laws.hosts_are_there.Goals as goal

pub returns-clause-lives : goal.returns-clause-lives
returns-clause-lives c = lives_begin

pub returns-clause-own : goal.returns-clause-own
returns-clause-own c = own_lived

pub returns-clause-copies : goal.returns-clause-copies
returns-clause-copies c = copies_are_there

pub returns-clause-heavy : goal.returns-clause-heavy
returns-clause-heavy c = one_is_heavy

pub returns-clause-turn : goal.returns-clause-turn
returns-clause-turn c = turn_is_taken

pub returns-clause-session : goal.returns-clause-session
returns-clause-session c = sessions_are_served
