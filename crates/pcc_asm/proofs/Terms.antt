-- Encodings of invariants are terms, and stand for them as a table grows.
use Rattle.std.proofs.Common.{◌≡◌, ℕ, zero, suc, ◌+◌, ◌<◌, ◌≤◌, Bool, List, [], ◌∷◌, ◌++◌, length, take, get_or, map, refl, sym, ap, ◌∙◌, subst, arith}
use Rattle.std.specs.List.{AllByRecursion}
use Rattle.std.proofs.lemmas.List.{take_more, take_all, map-append}
use Rattle.formula_tree.specs.Formulas.{Exp, EReg, ELeft, EVar, ELit, EOp, ESel, MemExp, MMem, MVar, MUpd, Form, FTrue, FFalse, FRel, FRd, FWr, FAnd, FOr, FImp, FAll, FAllm}
use Rattle.formula_tree.specs.declared.form.Form as lent
use Rattle.formula_tree.specs.Views.{form_view}
use Rattle.formula_tree.specs.Substitution.{subst_form}
use Rattle.term_table.specs.Table.{TableView, IsKnown, tree_at, Extends, id_trees}
use Rattle.lf_signature.specs.Nodes.{IsIdOf}
use Rattle.lf_encode.specs.Encoding.{exp_encoding, mem_encoding, form_encoding}
use Rattle.lf_encode.specs.Contexts.{machine_context, names_in, encoding_in}
use Rattle.proof_container.specs.Views.{AllTerms}
use Rattle.proof_container.specs.Encoding.{AreRising, IsEntryTerm}
use Rattle.asm_text.specs.Sources.{HaveInsns}
use Rattle.pcc_asm.specs.Assembling.{inv_encodings}
use Rattle.pcc_asm.specs.Inside.Views.{inv_views, IsEncodableForm, AreEncoded}

-- ---- terms

mutual
  exp_term : (v : ℕ) (a : Exp) → IsEntryTerm v (exp_encoding a)
  exp_term v (EReg r) = tt
  exp_term v ELeft = tt
  exp_term v (EVar n) = tt
  exp_term v (ELit w) = tt
  exp_term v (EOp o a b) = ((tt, tt, exp_term v a), tt, exp_term v b)
  exp_term v (ESel m a) = ((tt, tt, mem_term v m), tt, exp_term v a)

  mem_term : (v : ℕ) (m : MemExp) → IsEntryTerm v (mem_encoding m)
  mem_term v MMem = tt
  mem_term v (MVar n) = tt
  mem_term v (MUpd m a w) = (((tt, tt, mem_term v m), tt, exp_term v a), tt, exp_term v w)

form_term : (v : ℕ) (F : Form) → IsEntryTerm v (form_encoding F)
form_term v FTrue = tt
form_term v FFalse = tt
form_term v (FRel p a b) = ((tt, tt, exp_term v a), tt, exp_term v b)
form_term v (FRd a) = (tt, tt, exp_term v a)
form_term v (FWr a) = (tt, tt, exp_term v a)
form_term v (FAnd A B) = ((tt, tt, form_term v A), tt, form_term v B)
form_term v (FOr A B) = ((tt, tt, form_term v A), tt, form_term v B)
form_term v (FImp A B) = ((tt, tt, form_term v A), tt, form_term v B)
form_term v (FAll A) = (tt, tt, form_term v A)
form_term v (FAllm A) = (tt, tt, form_term v A)

-- in every version, since an encoding cites no lemma
pub all_terms : (v : ℕ) (invs : List (ℕ × Form))
    → AllTerms v (map (λ p. p.1) (inv_encodings invs) ++ [])
all_terms v [] = tt
all_terms v (inv ∷ invs) = (
  form_term v (subst_form inv.1 (names_in machine_context)),
  all_terms v invs,
)

-- ---- places

pub rising : (low count : ℕ) (invs : List (ℕ × Form)) → HaveInsns low count invs → AreRising low count (inv_encodings invs)
rising low count [] h = tt
rising low count (v ∷ invs) h = (h.0, h.1, rising (suc v.0) count invs h.2)

-- ---- as the table grows

known_more : (t u : TableView) (ids : List (ℕ × ℕ)) → Extends t u → AllByRecursion (λ (inv : ℕ × ℕ). IsKnown t inv.1) ids → AllByRecursion (λ (inv : ℕ × ℕ). IsKnown u inv.1) ids
known_more t u [] e k = tt
known_more t u (p ∷ ids) e k = (omega (arith, k.0, e.longer), known_more t u ids e k.1)

trees_same : (t u : TableView) (ids : List (ℕ × ℕ)) → Extends t u → AllByRecursion (λ (inv : ℕ × ℕ). IsKnown t inv.1) ids → id_trees u ids ≡ id_trees t ids
trees_same t u [] e k = refl
trees_same t u (p ∷ ids) e k = λ i. (p.0, e.same p.1 k.0 i) ∷ trees_same t u ids e k.1 i

known_last : (t : TableView) (ids : List (ℕ × ℕ)) (p : ℕ × ℕ) → AllByRecursion (λ (inv : ℕ × ℕ). IsKnown t inv.1) ids → IsKnown t p.1 → AllByRecursion (λ (inv : ℕ × ℕ). IsKnown t inv.1) (ids ++ p ∷ [])
known_last t [] p k l = (l, tt)
known_last t (q ∷ ids) p k l = (k.0, known_last t ids p k.1 l)

pub none_encoded : (t : TableView) (xs : List (ℕ × lent.Form)) (ids : List (ℕ × ℕ)) → ids ≡ [] → AreEncoded t (inv_views (take 0 xs)) ids
none_encoded t xs ids e = subst (λ l. AreEncoded t [] l) (sym e) (record { known = (tt, tt); trees = refl })

taken : (xs : List (ℕ × lent.Form)) (i : ℕ) (d : ℕ × lent.Form) → i < length xs → inv_encodings (inv_views (take (i + 1) xs)) ≡ inv_encodings (inv_views (take i xs)) ++ ((get_or xs i d).0, encoding_in machine_context (form_view (get_or xs i d).1)) ∷ []
taken xs i d h =
    ap (λ l. inv_encodings (inv_views l)) (take_more xs i d h)
    ∙ ap inv_encodings (map-append (λ p. (p.0, form_view p.1)) (take i xs) (get_or xs i d ∷ []))
    ∙ map-append (λ p. (p.0, encoding_in machine_context p.1)) (inv_views (take i xs)) (((get_or xs i d).0, form_view (get_or xs i d).1) ∷ [])

pub more_encoded : (t u : TableView) (xs : List (ℕ × lent.Form)) (i : ℕ) (d : ℕ × lent.Form)
    (ids all : List (ℕ × ℕ)) (id : ℕ) → i < length xs → d ≡ get_or xs i d
    → AreEncoded t (inv_views (take i xs)) ids → Extends t u
    → IsIdOf u (encoding_in machine_context (form_view d.1)) id → all ≡ ids ++ ((d.0, id) ∷ [])
    → AreEncoded u (inv_views (take (i + 1) xs)) all
more_encoded t u xs i d ids all id h s k e is a =
    let front = inv_encodings (inv_views (take i xs)) in
    let trees : id_trees u (ids ++ ((d.0, id) ∷ [])) ≡ inv_encodings (inv_views (take (i + 1) xs)) =
    map-append (λ (inv : ℕ × ℕ). (inv.0, tree_at u inv.1)) ids ((d.0, id) ∷ [])
    ∙ ap (λ l. l ++ ((d.0, tree_at u id) ∷ [])) (trees_same t u ids e k.known.0 ∙ k.trees)
    ∙ ap (λ y. front ++ ((d.0, y) ∷ [])) is.is
    ∙ ap (λ (p : ℕ × lent.Form).
    front ++ ((p.0, encoding_in machine_context (form_view p.1)) ∷ [])) s
    ∙ sym (taken xs i d h) in
    subst (λ l. AreEncoded u (inv_views (take (i + 1) xs)) l) (sym a)
    (record {
      known = (known_last u ids (d.0, id) (known_more t u ids e k.known.0) is.known, tt);
      trees = trees;
    })

closed_at : (left : Bool) (xs : List (ℕ × lent.Form)) (i : ℕ) (d : ℕ × lent.Form)
    → AllByRecursion (λ p. IsEncodableForm left p.1) (inv_views xs) → i < length xs
    → IsEncodableForm left (form_view (get_or xs i d).1)
closed_at left [] i d h l = absurd (omega arith)
closed_at left (x ∷ xs) zero d h l = h.0
closed_at left (x ∷ xs) (suc i) d h l = closed_at left xs i d h.1 (omega (arith, l))

pub closed_here : (left : Bool) (xs : List (ℕ × lent.Form)) (i : ℕ) (d : ℕ × lent.Form)
    → AllByRecursion (λ p. IsEncodableForm left p.1) (inv_views xs) → i < length xs
    → d ≡ get_or xs i d → IsEncodableForm left (form_view d.1)
closed_here left xs i d h l s =
    subst (λ (p : ℕ × lent.Form). IsEncodableForm left (form_view p.1)) (sym s)
    (closed_at left xs i d h l)

pub all_encoded : (t : TableView) (xs : List (ℕ × lent.Form)) (i : ℕ) (ids : List (ℕ × ℕ)) → length xs ≤ i → AreEncoded t (inv_views (take i xs)) ids → AreEncoded t (inv_views xs) ids
all_encoded t xs i ids h k = subst (λ l. AreEncoded t (inv_views l) ids) (take_all i xs h) k
