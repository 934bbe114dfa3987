use Rattle.law.proofs.law.law_stands.Goals as goal
use Rattle.net.specs.View.{table_of}
use Rattle.net.proofs.Tails.{star_of}
use Rattle.law.proofs.Main.{law}

pub returns : goal.returns
returns g c = law g.K.Kind g.L.CandidateList (table_of c.args.net.now) g.met.K.Kind.lawful g.met.L.CandidateList.lawful (star_of c.args.net.now)
