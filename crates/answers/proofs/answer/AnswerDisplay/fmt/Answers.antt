use Rattle.std.proofs.Common.{decimal}
use Rattle.answers.specs.Texts.{label_text}
use Rattle.answers.proofs.Shown.{spaced_items-Some}
use Rattle.answers.proofs.answer.AnswerDisplay.fmt.Goals as goal

pub returns-in-Route-clause-writes : goal.returns-in-Route-clause-writes
returns-in-Route-clause-writes g c = λ p o. rw (c.in-Route.is, ← c.len.ensures)
    ((rw (spaced_items-Some decimal c.in-Route.links) at c.write-in-Route.ensures.writes) p o)

pub returns-in-Labels-clause-writes : goal.returns-in-Labels-clause-writes
returns-in-Labels-clause-writes g c = λ p o. rw c.in-Labels.is
    ((rw (spaced_items-Some label_text c.in-Labels.labels) at c.write-in-Labels.ensures.writes) p o)

pub returns-in-Entries-clause-writes : goal.returns-in-Entries-clause-writes
returns-in-Entries-clause-writes g c = λ p o. rw c.in-Entries.is
    ((rw (spaced_items-Some decimal c.in-Entries.entries) at c.write-in-Entries.ensures.writes) p o)
