-- The listing of simple paths is right at every net.
use Rattle.net.proofs.Tails.{star_of}
use Rattle.paths.proofs.Listing.{listing}
use Rattle.paths.proofs.simple.beginning.Goals as goal

pub returns-in_err-first-clause-listed : goal.returns-in_err-first-clause-listed
returns-in_err-first-clause-listed c = listing (star_of c.args.net.now)

pub returns-clause-listed : goal.returns-clause-listed
returns-clause-listed c = listing (star_of c.args.net.now)
