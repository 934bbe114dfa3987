-- The number, the place and the layer of every refusal. This is the one table that all promises about refusals use.
use Rattle.std.specs.Prelude.{ℕ}
use Rattle.refusals.specs.declared.told.Layer.{Layer}
use Rattle.refusals.specs.declared.told.Told.{Told}
use Rattle.refusals.specs.declared.net.NetFault.{NetFault}
use Rattle.refusals.specs.declared.net.NetFault.TheVariants.{Stations, Links, Starts, Head}
use Rattle.refusals.specs.declared.kind.KindFault.{KindFault}
use Rattle.refusals.specs.declared.kind.KindFault.TheVariants.{Chance}
use Rattle.refusals.specs.declared.list.ListFault.{ListFault}
use Rattle.refusals.specs.declared.list.ListFault.TheVariants.{Station, Buckets}
use Rattle.refusals.specs.declared.book.BookFault.{BookFault}
use Rattle.refusals.specs.declared.book.BookFault.TheVariants as book
use Rattle.refusals.specs.declared.check.CheckFault.{CheckFault}
use Rattle.refusals.specs.declared.check.CheckFault.TheVariants as check
use Rattle.refusals.specs.declared.refusal.Refusal.{Refusal}
use Rattle.refusals.specs.declared.refusal.Refusal.TheVariants.{OfNet, OfKind, OfList, OfBook, OfCheck}

abbrev pub told_as : ℕ → ℕ → Layer → Told
told_as n p l = record { number = n; place = p; layer = l }

abbrev pub net_tells : NetFault → Told
net_tells Stations = told_as 1 0 Layer.Net
net_tells Links = told_as 2 0 Layer.Net
net_tells Starts = told_as 3 0 Layer.Net
net_tells (Head link) = told_as 4 link Layer.Net

abbrev pub kind_tells : KindFault → Told
kind_tells Chance = told_as 13 0 Layer.Kind

abbrev pub list_tells : ListFault → Told
list_tells Station = told_as 14 0 Layer.List
list_tells Buckets = told_as 15 0 Layer.List

-- a refusal of the list that a book passes on is told as the list tells it
abbrev pub book_tells : BookFault → Told
book_tells book.Grades = told_as 5 0 Layer.Book
book_tells book.Stations = told_as 6 0 Layer.Book
book_tells book.NoStation = told_as 7 0 Layer.Book
book_tells book.NotStarted = told_as 8 0 Layer.Book
book_tells book.NoLink = told_as 9 0 Layer.Book
book_tells book.Unlabelled = told_as 10 0 Layer.Book
book_tells book.Astray = told_as 11 0 Layer.Book
book_tells (book.Short needed) = told_as 12 needed Layer.Book
book_tells (book.InList fault) = list_tells fault

abbrev pub check_tells : CheckFault → Told
check_tells check.Grades = told_as 5 0 Layer.Check
check_tells check.Stations = told_as 6 0 Layer.Check
check_tells check.NoStation = told_as 7 0 Layer.Check
check_tells check.Gateway = told_as 16 0 Layer.Check
check_tells (check.Entry station) = told_as 17 station Layer.Check
check_tells (check.Walk station) = told_as 18 station Layer.Check
check_tells (check.Link link) = told_as 19 link Layer.Check

abbrev pub refusal_tells : Refusal → Told
refusal_tells (OfNet fault) = net_tells fault
refusal_tells (OfKind fault) = kind_tells fault
refusal_tells (OfList fault) = list_tells fault
refusal_tells (OfBook fault) = book_tells fault
refusal_tells (OfCheck fault) = check_tells fault
