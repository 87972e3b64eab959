-- When each parameter of a rule stands only where its sort may stand.
use Rattle.std.specs.Prelude.{Bool, true, false, ◌&&◌, Option, Some, None, List, [], ◌∷◌}
use Rattle.term_table.specs.Tree.{at}
use Rattle.lf_signature.specs.Rules.{Sort, OfExp, OfMem, OfForm, OfExpForm, OfMemForm, SExp, SPar, SOwn, SLit, SOp, SSel, SMem, MPar, MOwn, SUpd, SForm, STrue, SFalse, FPar, FOf, FOfMem, SRel, SAnd, SOr, SImp, SAll, SAllm, Premise, Plain, Under, ForExp, ForMem, Rule}

-- whether the two sorts are one
abbrev pub is_sort : Sort → Sort → Bool
is_sort OfExp OfExp = true
is_sort OfMem OfMem = true
is_sort OfForm OfForm = true
is_sort OfExpForm OfExpForm = true
is_sort OfMemForm OfMemForm = true
is_sort _ _ = false

-- whether there is a sort, and it is this one
abbrev pub has_sort : Option Sort → Sort → Bool
has_sort None t = false
has_sort (Some s) t = is_sort s t

abbrev mutual
  -- whether an expression over parameters of these sorts is sorted; own is the sort of the variable that the premise binds
  pub sorted_exp : List Sort → Option Sort → SExp → Bool
  sorted_exp l own (SPar i) = has_sort (at l i) OfExp
  sorted_exp l own SOwn = has_sort own OfExp
  sorted_exp l own (SLit w) = true
  sorted_exp l own (SOp o a b) = sorted_exp l own a && sorted_exp l own b
  sorted_exp l own (SSel m a) = sorted_mem l own m && sorted_exp l own a

  -- whether a memory is
  pub sorted_mem : List Sort → Option Sort → SMem → Bool
  sorted_mem l own (MPar i) = has_sort (at l i) OfMem
  sorted_mem l own MOwn = has_sort own OfMem
  sorted_mem l own (SUpd m a b) = sorted_mem l own m && sorted_exp l own a && sorted_exp l own b

-- whether a formula is
abbrev pub sorted_form : List Sort → Option Sort → SForm → Bool
sorted_form l own STrue = true
sorted_form l own SFalse = true
sorted_form l own (FPar i) = has_sort (at l i) OfForm
sorted_form l own (FOf i a) = has_sort (at l i) OfExpForm && sorted_exp l own a
sorted_form l own (FOfMem i m) = has_sort (at l i) OfMemForm && sorted_mem l own m
sorted_form l own (SRel r a b) = sorted_exp l own a && sorted_exp l own b
sorted_form l own (SAnd p q) = sorted_form l own p && sorted_form l own q
sorted_form l own (SOr p q) = sorted_form l own p && sorted_form l own q
sorted_form l own (SImp p q) = sorted_form l own p && sorted_form l own q
sorted_form l own (SAll i) = has_sort (at l i) OfExpForm
sorted_form l own (SAllm i) = has_sort (at l i) OfMemForm

-- whether a premise is; one for each word or memory binds a variable of that sort
abbrev pub sorted_premise : List Sort → Premise → Bool
sorted_premise l (Plain p) = sorted_form l None p
sorted_premise l (Under p q) = sorted_form l None p && sorted_form l None q
sorted_premise l (ForExp p) = sorted_form l (Some OfExp) p
sorted_premise l (ForMem p) = sorted_form l (Some OfMem) p

-- whether all premises are
abbrev pub sorted_premises : List Sort → List Premise → Bool
sorted_premises l [] = true
sorted_premises l (q ∷ qs) = sorted_premise l q && sorted_premises l qs

-- whether a rule is: each parameter that it names is one of its own, and stands where its sort may stand
abbrev pub is_sorted : Rule → Bool
is_sorted r = sorted_premises r.parameters r.premises && sorted_form r.parameters None r.conclusion
