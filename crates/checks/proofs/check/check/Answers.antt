use Rattle.std.proofs.Common.{rules}
use Rattle.net.proofs.Tails.{star_of}
use Rattle.plans.specs.Plan.{plan}
use Rattle.checks.proofs.Accepting.{accepts_trees}
use Rattle.checks.proofs.check.check.Goals as goal

pub returns-in_err-test_gateway-clause-finds : goal.returns-in_err-test_gateway-clause-finds
returns-in_err-test_gateway-clause-finds g c = search rules

pub returns-in_err-test_gateway-clause-accepts : goal.returns-in_err-test_gateway-clause-accepts
returns-in_err-test_gateway-clause-accepts g c =
    accepts_trees g.K.Kind g.met.K.Kind.lawful (star_of c.args.net.now) c.args.gateway c.args.grades.now (plan c.args.labels.now c.args.entries.now) c.from_residual-in_err-test_gateway.result
    (returns-in_err-test_gateway-clause-finds g c)

pub returns-in_err-test_entries-clause-finds : goal.returns-in_err-test_entries-clause-finds
returns-in_err-test_entries-clause-finds g c = search rules

pub returns-in_err-test_entries-clause-accepts : goal.returns-in_err-test_entries-clause-accepts
returns-in_err-test_entries-clause-accepts g c =
    accepts_trees g.K.Kind g.met.K.Kind.lawful (star_of c.args.net.now) c.args.gateway c.args.grades.now (plan c.args.labels.now c.args.entries.now) c.from_residual-in_err-test_entries.result
    (returns-in_err-test_entries-clause-finds g c)

pub returns-in_err-test_walks-clause-finds : goal.returns-in_err-test_walks-clause-finds
returns-in_err-test_walks-clause-finds g c = search rules

pub returns-in_err-test_walks-clause-accepts : goal.returns-in_err-test_walks-clause-accepts
returns-in_err-test_walks-clause-accepts g c =
    accepts_trees g.K.Kind g.met.K.Kind.lawful (star_of c.args.net.now) c.args.gateway c.args.grades.now (plan c.args.labels.now c.args.entries.now) c.from_residual-in_err-test_walks.result
    (returns-in_err-test_walks-clause-finds g c)

pub returns-clause-finds : goal.returns-clause-finds
returns-clause-finds g c = search rules

pub returns-clause-accepts : goal.returns-clause-accepts
returns-clause-accepts g c =
    accepts_trees g.K.Kind g.met.K.Kind.lawful (star_of c.args.net.now) c.args.gateway c.args.grades.now (plan c.args.labels.now c.args.entries.now) c.test_links.result
    (returns-clause-finds g c)
