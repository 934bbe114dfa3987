use Rattle.answers.proofs.trouble.TroubleDisplay.fmt.Goals as goal

pub returns-in-NotNumber-clause-writes : goal.returns-in-NotNumber-clause-writes
returns-in-NotNumber-clause-writes g c = λ p o. rw c.in-NotNumber.is (c.write.ensures.writes p o)
