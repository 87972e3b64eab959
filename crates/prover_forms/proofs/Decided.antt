-- Whether a relation is proved by normal forms, as tests of these.
use Rattle.std.proofs.Common.{◌≡◌, Bool, true, false, cond, Option, Some, None, is_some, refl, sym}
use Rattle.std.proofs.lemmas.Bool.{false≢true}
use Rattle.term_table.specs.Tree.{Tree}
use Rattle.word_ops.specs.declared.Rel.{Rel}
use Rattle.word_ops.specs.Words.{test_of}
use Rattle.formula_tree.specs.Formulas.{Exp, ELit}
use Rattle.prover_class.specs.NormalForms.{words_proof, held_of_words}
use Rattle.prover_class.specs.Goals.{first_of}
use Rattle.prover_forms.specs.Decided.{word_in}
use Rattle.prover_forms.specs.Inside.Deciding.{words_hold}

pub some_if : (b : Bool) (p : Tree) → is_some (cond b (Some p) None) ≡ b
some_if true p = refl
some_if false p = refl

-- by words exactly where both are words of which it holds
pub held_is : (r : Rel) (a b f g : Exp) (p q : Tree) → is_some (held_of_words r a b f p g q) ≡ words_hold r (word_in f) (word_in g)
held_is r a b (ELit v) (ELit w) p q = some_if (test_of r v w) (words_proof r a b v w p q)
held_is r a b (ELit v) _ p q = refl
held_is r a b _ g p q = refl

-- the first is there
pub some_first : (o p : Option Tree) → true ≡ is_some o → true ≡ is_some (first_of o p)
some_first (Some t) p e = refl
some_first None p e = absurd (false≢true (sym e))

-- the first isn't there
pub none_first : (b : Bool) (o p : Option Tree) → false ≡ is_some o → b ≡ is_some p → b ≡ is_some (first_of o p)
none_first b (Some t) p e q = absurd (false≢true e)
none_first b None p e q = q
