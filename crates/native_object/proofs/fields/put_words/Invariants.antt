use Rattle.std.proofs.Common.{◌≡◌, ◌++◌, take}
use Rattle.native_object.specs.Object.{word_bytes}
use Rattle.native_object.proofs.fields.put_words.Given as goal

abbrev pub invariant-loop-word : goal.invariant-loop-word
invariant-loop-word l = l.out.items ≡ l.initial.out.items ++ word_bytes (take l.word-index l.words)
