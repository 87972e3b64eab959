-- The front of a container as its reader holds it.
use Rattle.proof_container.specs.declared.fields.Fields.{Fields}
use Rattle.proof_container.specs.declared.reading.Start.{Start}
use Rattle.proof_container.specs.Decoding.{Front}

-- what was read, up to the next field
abbrev pub front_of : Start → Fields → Front
front_of start fields = record {
  version = start.version;
  head = start.head;
  bound = start.bound;
  code = start.code.now;
  next = fields.read;
}
