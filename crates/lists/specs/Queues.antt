-- A queue in a ring of 1024 places, as a list of stations from top to bottom.
use Rattle.std.specs.Prelude.{ℕ, List}
use Rattle.lists.specs.declared.queue.Queue.{Queue}
use Rattle.lists.specs.Ring.{ring_from, numbers_of}

abbrev pub line_of : Queue → List ℕ
line_of q = ring_from (numbers_of q.ring) q.top q.len
