use Rattle.std.proofs.Common.{◌≡◌, ◌++◌, take}
use Rattle.native_object.specs.Object.{xword_bytes}
use Rattle.native_object.proofs.fields.put_xwords.Given as goal

abbrev pub invariant-loop-word : goal.invariant-loop-word
invariant-loop-word l = l.out.items ≡ l.initial.out.items ++ xword_bytes (take l.word-index l.words)
