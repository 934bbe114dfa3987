-- The text that answers a line of a script.
use Rattle.std.specs.Prelude.{◌≡◌, ℕ, List, Some, None, Ok, Err, string_bytes, Option, Result, String}
use Rattle.std.specs.declared.alloc.AllocError.{AllocError}
use Rattle.std.specs.declared.alloc.Global.{Global}
use Rattle.answers.specs.declared.answer.Answer.{Answer}
use Rattle.answers.specs.declared.trouble.Trouble.{Trouble}
use Rattle.site.specs.Commands.{Obeyed, as_line}
use Rattle.site.specs.Model.{Model}
use Rattle.answers.specs.Texts.{answer_text, error_text}

-- the text of what line n came to
abbrev pub reply_text : ℕ → Result Answer Trouble → List ℕ
reply_text n (Ok a) = answer_text a
reply_text n (Err e) = error_text n e

-- where the text found no memory, nothing is said of it; the line was carried out, or found no memory itself
abbrev pub Replied : Option Model → ℕ → List ℕ → Result (Option (String Global)) AllocError → Option Model → Type 0
Replied o n line (Ok None) p = Obeyed o line (Ok None) p
Replied o n line (Ok (Some text)) p = (x : Result Answer Trouble) × Obeyed o line (as_line x) p × (string_bytes text ≡ reply_text n x)
Replied o n line (Err e) p = (x : Result Answer Trouble) × Obeyed o line (as_line x) p
