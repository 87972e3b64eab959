-- Keywords, and what stands in parentheses behind each.
use Rattle.std.specs.Prelude.{ℕ, Bool, true, if◌then◌else◌, List, [], ◌∷◌, codes, Option, Some, None}
use Rattle.std.specs.Str.{bytes_eq}
use Rattle.word_ops.specs.declared.Op.{Op}
use Rattle.word_ops.specs.declared.Profile.{Profile}
use Rattle.word_ops.specs.Operators.{op_keyword, op_of_keyword, has_op, of_profile}
use Rattle.word_ops.specs.declared.Rel.{Rel}
use Rattle.word_ops.specs.declared.Rel.TheVariants as R
use Rattle.formula_text.specs.declared.keywords.PhraseSort.{PhraseSort}
use Rattle.formula_text.specs.declared.keywords.PhraseSort.TheVariants as S
use Rattle.formula_text.specs.declared.keywords.Keyword.{Keyword}
use Rattle.formula_text.specs.declared.keywords.Keyword.TheVariants as K

-- the name of a relation
abbrev pub relation_text : Rel → List ℕ
relation_text R.Eq = codes "eq"
relation_text R.Ult = codes "ult"
relation_text R.Ule = codes "ule"
relation_text R.Slt = codes "slt"
relation_text R.Sle = codes "sle"

-- the lexeme that stands first in parentheses
abbrev pub keyword_text : Keyword → List ℕ
keyword_text (K.Rel p) = relation_text p
keyword_text K.Rd = codes "rd"
keyword_text K.Wr = codes "wr"
keyword_text K.And = codes "and"
keyword_text K.Or = codes "or"
keyword_text K.Imp = codes "imp"
keyword_text K.All = codes "all"
keyword_text K.Allm = codes "allm"
keyword_text (K.Oper o) = op_keyword o
keyword_text K.Sel = codes "sel"
keyword_text K.Upd = codes "upd"

-- what the parentheses stand for
abbrev pub phrase_sort : Keyword → PhraseSort
phrase_sort (K.Oper o) = S.Exp
phrase_sort K.Sel = S.Exp
phrase_sort K.Upd = S.Mem
phrase_sort k = S.Form

-- what stands behind the keyword, in order; a bound name stands before it
abbrev pub part_sorts : Keyword → List PhraseSort
part_sorts (K.Rel p) = S.Exp ∷ S.Exp ∷ []
part_sorts K.Rd = S.Exp ∷ []
part_sorts K.Wr = S.Exp ∷ []
part_sorts K.And = S.Form ∷ S.Form ∷ []
part_sorts K.Or = S.Form ∷ S.Form ∷ []
part_sorts K.Imp = S.Form ∷ S.Form ∷ []
part_sorts K.All = S.Form ∷ []
part_sorts K.Allm = S.Form ∷ []
part_sorts (K.Oper o) = S.Exp ∷ S.Exp ∷ []
part_sorts K.Sel = S.Mem ∷ S.Exp ∷ []
part_sorts K.Upd = S.Mem ∷ S.Exp ∷ S.Exp ∷ []

-- the sort of the variable that is bound, if one is
abbrev pub binder_sort : Keyword → Option PhraseSort
binder_sort K.All = Some S.Exp
binder_sort K.Allm = Some S.Mem
binder_sort k = None

-- all but the operators, which word_ops names (specs/Operators)
unfoldable pub keywords : List Keyword
keywords =
    K.Rel R.Eq ∷ K.Rel R.Ult ∷ K.Rel R.Ule ∷ K.Rel R.Slt ∷ K.Rel R.Sle ∷ K.Rd ∷ K.Wr ∷ K.And ∷ K.Or ∷ K.Imp ∷ K.All ∷ K.Allm ∷
    K.Sel ∷ K.Upd ∷ []

-- the first of these keywords that the lexeme is
abbrev pub keyword_in : List Keyword → List ℕ → Option Keyword
keyword_in [] w = None
keyword_in (k ∷ ks) w = if bytes_eq w (keyword_text k) then Some k else keyword_in ks w

-- the operator, if there is one, else another keyword
abbrev pub keyword_or : Option Op → Option Keyword → Option Keyword
keyword_or (Some o) other = Some (K.Oper o)
keyword_or None other = other

-- whether a profile has the keyword: it lacks none but operators
abbrev pub has_keyword : Profile → Keyword → Bool
has_keyword profile (K.Oper o) = has_op profile o
has_keyword profile k = true

-- the profile's keyword that the lexeme is
unfoldable pub keyword_of : Profile → List ℕ → Option Keyword
keyword_of profile w = keyword_or (of_profile profile (op_of_keyword w)) (keyword_in keywords w)
