-- Facts, orders and relations whose ids are of a table.
use Rattle.term_table.specs.Table.{TableView, IsKnown}
use Rattle.auto_facts.specs.declared.derived.Fact.{Fact}
use Rattle.auto_facts.specs.declared.links.Link.{Link}
use Rattle.auto_facts.specs.declared.links.Related.{Related}

-- both ids of the fact are the table's
abbrev pub IsFact : TableView → Fact → Type 0
IsFact t f = IsKnown t f.form × IsKnown t f.proof

-- both ids of the link are the table's
abbrev pub IsLink : TableView → Link → Type 0
IsLink t l = IsKnown t l.to × IsKnown t l.proof

-- the three ids of the relation are the table's
abbrev pub IsKnownRelation : TableView → Related → Type 0
IsKnownRelation t r = IsKnown t r.a × IsKnown t r.b × IsKnown t r.proof
