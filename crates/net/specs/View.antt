-- The table that a net is a view of.
use Rattle.net.specs.declared.star.Net.{Net}
use Rattle.net.specs.Table.{Table, table}

abbrev pub table_of : Net → Table
table_of n = table n.starts.now n.heads.now
