use Rattle.answers.proofs.fault.WayFaultDisplay.fmt.Goals as goal

pub returns-in-Parted-clause-writes : goal.returns-in-Parted-clause-writes
returns-in-Parted-clause-writes g c = λ p o. rw c.in-Parted.is (c.write-in-Parted.ensures.writes p o)
