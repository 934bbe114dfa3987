use Rattle.std.proofs.Common.{◌≡◌, ℕ, List, Some, Ok, Err, Option, Result, MatchResult, IfOk, string_bytes, rules}
use Rattle.std.specs.Prelude.{String}
use Rattle.std.specs.declared.alloc.AllocError.{AllocError}
use Rattle.std.specs.declared.alloc.Global.{Global}
use Rattle.answers.specs.declared.answer.Answer.{Answer}
use Rattle.answers.specs.declared.trouble.Trouble.{Trouble}
use Rattle.site.specs.Commands.{Obeyed, as_line}
use Rattle.site.specs.Desks.{desk_of}
use Rattle.site.specs.Model.{Model}
use Rattle.site.specs.Replies.{Replied, reply_text}
use Rattle.site.proofs.desk.Desk.reply.Goals as goal

replied : (o p : Option Model) (n : ℕ) (line : List ℕ) (x : Result Answer Trouble) (f : Result (String Global) AllocError) (r : Result (Option (String Global)) AllocError)
    → Obeyed o line (as_line x) p → IfOk f (λ s. string_bytes s ≡ reply_text n x) → MatchResult f (λ s. r ≡ Ok (Some s)) (λ e. r ≡ Err e) → Replied o n line r p
replied o p n line x (Ok s) r k t m = rw m (x, k, t)
replied o p n line x (Err e) r k t m = rw m (x, k)

pub returns-in-Ok-Some : goal.returns-in-Ok-Some
returns-in-Ok-Some c =
    replied (desk_of c.args.self.now) (desk_of c.obey.new.self) c.args.number c.args.line.now (Ok c.in-Ok-Some.answer) c.format.result c.map.result
    (rw c.in-Ok-Some.field-0-is at c.in-Ok-Some.ensures) c.format.ensures.ok (search rules)

pub returns-in-Err : goal.returns-in-Err
returns-in-Err c =
    replied (desk_of c.args.self.now) (desk_of c.obey.new.self) c.args.number c.args.line.now (Err c.in-Err.trouble) c.format-in-Err.result c.map-in-Err.result
    c.in-Err.ensures c.format-in-Err.ensures.ok (search rules)
