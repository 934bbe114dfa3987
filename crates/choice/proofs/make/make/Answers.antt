use Rattle.choice.proofs.Leaving.{leaving}
use Rattle.choice.proofs.make.make.Goals as goal

pub returns-in_err-new-in-Bucket-clause-leaving : goal.returns-in_err-new-in-Bucket-clause-leaving
returns-in_err-new-in-Bucket-clause-leaving g c = leaving g.K.Kind g.met.K.Kind.lawful c.args.choice

pub returns-in-FirstIn-clause-leaving : goal.returns-in-FirstIn-clause-leaving
returns-in-FirstIn-clause-leaving g c = leaving g.K.Kind g.met.K.Kind.lawful c.args.choice

pub returns-in-TwoEnded-clause-leaving : goal.returns-in-TwoEnded-clause-leaving
returns-in-TwoEnded-clause-leaving g c = leaving g.K.Kind g.met.K.Kind.lawful c.args.choice

pub returns-in-SmallLabel-clause-leaving : goal.returns-in-SmallLabel-clause-leaving
returns-in-SmallLabel-clause-leaving g c = leaving g.K.Kind g.met.K.Kind.lawful c.args.choice

pub returns-in-Threshold-clause-leaving : goal.returns-in-Threshold-clause-leaving
returns-in-Threshold-clause-leaving g c = leaving g.K.Kind g.met.K.Kind.lawful c.args.choice

pub returns-in_ok-new-in-Bucket-clause-leaving : goal.returns-in_ok-new-in-Bucket-clause-leaving
returns-in_ok-new-in-Bucket-clause-leaving g c = leaving g.K.Kind g.met.K.Kind.lawful c.args.choice
