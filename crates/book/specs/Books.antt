-- A book that was not started.
use Rattle.std.specs.Prelude.{false}
use Rattle.book.specs.declared.book.Book.{Book}

abbrev pub new_book : Book
new_book = record { started = false; gateway = 0 }
