-- What normal forms say of a relation.
use Rattle.std.specs.Prelude.{ℕ, Option, Some, None}
use Rattle.term_table.specs.Tree.{Tree}
use Rattle.word_ops.specs.declared.Rel.{Rel}
use Rattle.formula_tree.specs.Formulas.{Exp, ELit}
use Rattle.prover_class.specs.NormalForms.{Rewritten, held_of_words, equal_forms}
use Rattle.prover_class.specs.Goals.{first_of}

-- the word that the expression is, or none
abbrev pub word_in : Exp → Option ℕ
word_in (ELit w) = Some w
word_in _ = None

-- the proof of (r a b) by the normal forms p of a and q of b, or none
abbrev pub form_proof : Rel → Exp → Exp → Rewritten → Rewritten → Option Tree
form_proof r a b p q = first_of (held_of_words r a b p.now p.proof q.now q.proof) (equal_forms r a b p q)
