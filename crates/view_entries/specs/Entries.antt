-- An entry of a table as a line of text: `e7 = ult e3 #4`. A part that is a variable, a literal, a
-- numbered constant or a family stands there itself, any other by the name of its own entry. The
-- text is this project's own.
use Rattle.std.specs.Prelude.{ℕ, ◌-◌, nat_lt, if◌then◌else◌, List, [], ◌∷◌, ◌++◌, codes, decimal, Option, Some, None}
use Rattle.word_ops.specs.declared.Op.{Op}
use Rattle.word_ops.specs.declared.Rel.TheVariants.{Eq, Ult, Ule, Slt, Sle}
use Rattle.word_ops.specs.Operators.{op_keyword, op_of_constant}
use Rattle.term_table.specs.Tree.{Tree, Var, Con, App, Lam, Fam, TApp, Pi, Const, Num, Lit, Calc, Fact, Deny, Lemma, at}
use Rattle.term_table.specs.Table.{tree_in}
use Rattle.lf_signature.specs.declared.numbers.TheConstants.{SEL}
use Rattle.proof_container.specs.Encoding.{entry_number}
use Rattle.formula_text.specs.declared.keywords.Keyword.TheVariants as K
use Rattle.formula_text.specs.Keywords.{keyword_text}

-- ---- words

-- the names in formulas of the constants from SEL to ALLM, in the order of their numbers
abbrev pub formula_words : List (List ℕ)
formula_words =
    keyword_text K.Sel ∷ keyword_text K.Upd ∷ codes "tt" ∷ codes "ff" ∷
    keyword_text (K.Rel Eq) ∷ keyword_text (K.Rel Ult) ∷ keyword_text (K.Rel Ule) ∷
    keyword_text (K.Rel Slt) ∷ keyword_text (K.Rel Sle) ∷ keyword_text K.Rd ∷ keyword_text K.Wr ∷
    keyword_text K.And ∷ keyword_text K.Or ∷ keyword_text K.Imp ∷ keyword_text K.All ∷
    keyword_text K.Allm ∷ []

-- the name of a constant among these
abbrev pub formula_word : ℕ → Option (List ℕ)
formula_word c = if nat_lt c SEL then None else at formula_words (c - SEL)

-- the operator's keyword, else the word, else `c` and the number
abbrev pub first_name : Option Op → Option (List ℕ) → ℕ → List ℕ
first_name (Some o) w c = op_keyword o
first_name None (Some w) c = w
first_name None None c = 99 ∷ decimal c

-- the name of a numbered constant: formulas' own, or `c` and its number
abbrev pub constant_name : ℕ → List ℕ
constant_name c = first_name (op_of_constant c) (formula_word c) c

-- a variable, 0 the nearest: `#` and its number
abbrev pub variable_name : ℕ → List ℕ
variable_name n = 35 ∷ decimal n

-- a family of types: `t` and its number
abbrev pub family_name : ℕ → List ℕ
family_name n = 116 ∷ decimal n

-- an entry: `e` and its number
abbrev pub entry_name : ℕ → List ℕ
entry_name n = 101 ∷ decimal n

-- ---- texts

-- a word and others, with a blank between each two
abbrev pub with_blanks : List ℕ → List (List ℕ) → List ℕ
with_blanks w [] = w
with_blanks w (v ∷ vs) = w ++ (32 ∷ with_blanks v vs)

-- an evaluation of the operator or relation of a number at two words
abbrev pub evaluation_text : List ℕ → ℕ → ℕ → ℕ → List ℕ
evaluation_text w n a b = with_blanks w (decimal n ∷ decimal a ∷ decimal b ∷ [])

-- a constant
abbrev pub const_text : Const → List ℕ
const_text (Num c) = constant_name c
const_text (Lit w) = decimal w
const_text (Calc o a b) = evaluation_text (codes "calc") o a b
const_text (Fact p a b) = evaluation_text (codes "fact") p a b
const_text (Deny p a b) = evaluation_text (codes "deny") p a b
const_text (Lemma n) = with_blanks (codes "lemma") (decimal n ∷ [])

-- a tree, where the function shows its parts: a numbered constant stands before up to three
-- arguments, another application is a function before its argument
abbrev pub entry_text : (Tree → List ℕ) → Tree → List ℕ
entry_text part (Var n) = variable_name n
entry_text part (Con c) = const_text c
entry_text part (App (Con (Num k)) a) = with_blanks (constant_name k) (part a ∷ [])
entry_text part (App (App (Con (Num k)) a) b) =
    with_blanks (constant_name k) (part a ∷ part b ∷ [])
entry_text part (App (App (App (Con (Num k)) a) b) c) =
    with_blanks (constant_name k) (part a ∷ part b ∷ part c ∷ [])
entry_text part (App f a) = with_blanks (part f) (part a ∷ [])
entry_text part (Lam b) = with_blanks (codes "\\") (part b ∷ [])
entry_text part (Fam n) = family_name n
entry_text part (TApp p a) = with_blanks (part p) (part a ∷ [])
entry_text part (Pi a b) = with_blanks (codes "pi") (part a ∷ part b ∷ [])

-- a part, where the function numbers trees
abbrev pub part_text : (Tree → ℕ) → Tree → List ℕ
part_text number (Var n) = variable_name n
part_text number (Con (Num c)) = constant_name c
part_text number (Con (Lit w)) = decimal w
part_text number (Fam n) = family_name n
part_text number t = entry_name (number t)

-- ---- entries

-- a part of the entries, by the number of the first that has it
abbrev pub part_in : List Tree → Tree → List ℕ
part_in es tree = part_text (entry_number es) tree

-- the entry of a number: its name, and its tree with the parts by name
abbrev pub entry_line : List Tree → ℕ → List ℕ
entry_line es id = entry_name id ++ (codes " = " ++ entry_text (part_in es) (tree_in es id))
