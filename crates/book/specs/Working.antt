-- Work on a plan, of a book that was started.
use Rattle.std.specs.Prelude.{ℕ, true}
use Rattle.book.specs.declared.book.Book.{Book}

-- the book that was started from this gateway
abbrev pub started_at : ℕ → Book
started_at gateway = record { started = true; gateway = gateway }
