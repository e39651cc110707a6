use Rattle.hw_samples.proofs.RandomCases.{random_cases_1, random_cases_2, random_cases_3, random_cases_4}
use Rattle.hw_samples.proofs.journals.random_cases.Goals as goal

pub returns-clause-first : goal.returns-clause-first
returns-clause-first c = random_cases_1

pub returns-clause-second : goal.returns-clause-second
returns-clause-second c = random_cases_2

pub returns-clause-third : goal.returns-clause-third
returns-clause-third c = random_cases_3

pub returns-clause-fourth : goal.returns-clause-fourth
returns-clause-fourth c = random_cases_4
