-- An answer that tells the first fault accepts exactly the trees of best paths.
use Rattle.std.proofs.Common.{◌≡◌, ℕ, List, ◌↔◌, Some, None, Option, Result, IsOk, refl}
use Rattle.refusals.specs.declared.check.CheckFault.{CheckFault}
use Rattle.kinds.specs.declared.kind.Kind.{Ghosts as Kind}
use Rattle.kinds.specs.Laws.{Laws}
use Rattle.net.specs.Judged.{judged}
use Rattle.net.specs.Table.{Table, ForwardStar}
use Rattle.plans.specs.Best.{BestTree}
use Rattle.plans.specs.Faults.{first_fault}
use Rattle.plans.specs.Plan.{Plan}
use Rattle.plans.proofs.Exact.{exact}

-- it is `Ok` where there is no fault
ok-where : {E : Type 0} (o : Option E) {B : Type 0} (r : Result (Unit {0}) E) → r ≡ judged o → (o ≡ None) ↔ B → IsOk r ↔ B
ok-where None r e exact = rw e (λ _. exact.0 refl, λ _. refl)
ok-where (Some f) r e exact = rw e (λ no. absurd cc, λ b. let none = exact.1 b in absurd cc)

pub accepts_trees : {K L G : Type 0} (k : Kind K L G) → Laws k.carry k.at_least k.rank → {t : Table} → ForwardStar t → (gateway : ℕ) (grades : List G) (p : Plan L)
    (r : Result (Unit {0}) CheckFault) → r ≡ judged (first_fault k t gateway grades p) → IsOk r ↔ BestTree k t gateway grades p
accepts_trees k laws {t} star gateway grades p r told = ok-where (first_fault k t gateway grades p) r told (exact k laws star gateway grades p)
