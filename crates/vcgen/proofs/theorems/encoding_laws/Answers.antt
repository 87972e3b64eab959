use Rattle.vcgen.proofs.Encodings.{forms-wider, encoding-exists, encoding-unique, encoded-annotates, policy-safe, policy-returns}
use Rattle.vcgen.proofs.theorems.encoding_laws.Goals as goal

pub returns : goal.returns
returns c = record {
  wider = forms-wider;
  exists = encoding-exists;
  unique = encoding-unique;
  annotates = encoded-annotates;
  safe = policy-safe;
  returns = policy-returns;
}
