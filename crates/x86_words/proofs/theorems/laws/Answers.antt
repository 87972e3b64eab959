use Rattle.x86_words.proofs.Fronts.{one-front, front-exactly, length-bytes_of}
use Rattle.x86_words.proofs.theorems.laws.Goals as goal

pub returns : goal.returns
returns c = record { one = one-front; front = front-exactly; lengths = length-bytes_of }
