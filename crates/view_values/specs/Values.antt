-- The words of closed expressions, and formulas that are false by computing them.
use Rattle.std.specs.Prelude.{ℕ, Bool, true, false, not, ◌||◌, Option, Some, None}
use Rattle.word_ops.specs.declared.Op.{Op}
use Rattle.word_ops.specs.declared.Rel.{Rel}
use Rattle.word_ops.specs.Words.{word_of, test_of}
use Rattle.formula_tree.specs.Formulas.{Exp, ELit, EOp, Form, FFalse, FRel, FAnd}

-- what an operator gives at two words, where both are known
abbrev pub applied : Op → Option ℕ → Option ℕ → Option ℕ
applied o None b = None
applied o (Some v) None = None
applied o (Some v) (Some w) = Some (word_of o v w)

-- the word of an expression of literals and operators alone: 5 of (add 2 3)
abbrev pub closed_value : Exp → Option ℕ
closed_value (ELit w) = Some w
closed_value (EOp o a b) = applied o (closed_value a) (closed_value b)
closed_value e = None

-- whether two words are known of which the relation doesn't hold
abbrev pub fails : Rel → Option ℕ → Option ℕ → Bool
fails p None b = false
fails p (Some v) None = false
fails p (Some v) (Some w) = not (test_of p v w)

-- Whether a formula is false by computing: ff, a relation that doesn't hold of closed expressions, or a
-- conjunction with such a part.
abbrev pub is_false : Form → Bool
is_false FFalse = true
is_false (FRel p a b) = fails p (closed_value a) (closed_value b)
is_false (FAnd A B) = is_false A || is_false B
is_false A = false
