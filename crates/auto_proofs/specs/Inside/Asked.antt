-- Relations that are asked for.
use Rattle.term_table.specs.Table.{TableView, IsKnown}
use Rattle.auto_proofs.specs.declared.chains.Asked.{Asked}

-- both words that are asked about are the table's
abbrev pub IsAsked : TableView → Asked → Type 0
IsAsked t q = IsKnown t q.a × IsKnown t q.b
