use Rattle.cases.proofs.Computed.{all-stand}
use Rattle.cases.proofs.worked_cases.Goals as goal

pub returns-clause-stand : goal.returns-clause-stand
returns-clause-stand c = all-stand
