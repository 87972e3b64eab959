-- The lemmas before one of them: what checks with these alone.
use Rattle.std.proofs.Common.{◌≡◌, ◌↔◌, ℕ, ◌<◌, ◌^◌, true, Option, Some, List, [], take, refl, ◌∙◌, ap, option_map}
use Rattle.std.proofs.lemmas.Bool.{ltb-true, lt-ltb}
use Rattle.term_table.specs.Tree.{Tree, Var, Con, App, Lam, Fam, TApp, Pi, fits, Const, Lemma, at}
use Rattle.term_table.specs.Table.{IsSmall}
use Rattle.term_table.proofs.Options.{map_some}
use Rattle.lf_signature.specs.Typing.{Checks, lam_checks, atom_checks, Synth, var_synth, con_synth, app_synth}
use Rattle.lf_signature.specs.Terms.{pf}
use Rattle.lf_signature.specs.Laws.Booleans.{both, and_of}
use Rattle.lf_signature.specs.Laws.Restricted.{checks_more}
use Rattle.lf_lemmas.specs.Lemmas.{formulas_of, with_lemmas}
use Rattle.lf_lemmas.specs.WrittenOut.{cites_below}
use Rattle.lf_lemmas.specs.Checking.{LemmasCheck, AllProve, CiteBackwards}
use Rattle.lf_lemmas.proofs.Lists.{at-take, at_take}
use Rattle.lf_lemmas.proofs.Citing.{checks_cites}

-- the trees of a table fit
pub small_fits : (t : Tree) → IsSmall t → fits t ≡ true
small_fits (Var n) h = lt-ltb n (2 ^ 32) h
small_fits (Con c) h = refl
small_fits (App f a) h = and_of _ _ (small_fits f h.0) (small_fits a h.1)
small_fits (Lam b) h = small_fits b h
small_fits (Fam a) h = refl
small_fits (TApp p a) h = and_of _ _ (small_fits p h.0) (small_fits a h.1)
small_fits (Pi a b) h = and_of _ _ (small_fits a h.0) (small_fits b h.1)

module _ (sig : Const → Option Tree) (forms : List Tree) (j : ℕ) where
  part_keeps : (c : Const) (A : Tree) → with_lemmas sig (take j forms) c ≡ Some A →
      with_lemmas sig forms c ≡ Some A
  part_keeps (Lemma n) A e =
      let w = map_some (at (take j forms) n) pf A e in
      ap (option_map pf) (at_take forms j n w.0 w.1).1 ∙ ap Some w.2
  part_keeps c A e = e

  part_below : (n : ℕ) (F : Tree) → at (take j forms) n ≡ Some F → n < j
  part_below n F e = (at_take forms j n F e).0

  con_whole : (c : Const) (A : Tree) → with_lemmas sig forms c ≡ Some A →
      cites_below j (Con c) ≡ true → with_lemmas sig (take j forms) c ≡ Some A
  con_whole (Lemma n) A e k = ap (option_map pf) (at-take forms j n (ltb-true n j k)) ∙ e
  con_whole c A e k = e

  mutual
    whole_part : {Γ : List Tree} {t A : Tree} → Checks (with_lemmas sig forms) Γ t A →
        cites_below j t ≡ true → Checks (with_lemmas sig (take j forms)) Γ t A
    whole_part (lam_checks d) k = lam_checks (whole_part d k)
    whole_part (atom_checks d h) k = atom_checks (whole_synth d k) h

    whole_synth : {Γ : List Tree} {t A : Tree} → Synth (with_lemmas sig forms) Γ t A →
        cites_below j t ≡ true → Synth (with_lemmas sig (take j forms)) Γ t A
    whole_synth (var_synth e f) k = var_synth e f
    whole_synth (con_synth {c = c} {a = A} e) k = con_synth (con_whole c A e k)
    whole_synth (app_synth d g h) k =
        let b = both _ _ k in
        app_synth (whole_synth d b.0) (whole_part g b.1) h

  pub part_law : (Γ : List Tree) (t A : Tree) →
      Checks (with_lemmas sig (take j forms)) Γ t A
      ↔ (Checks (with_lemmas sig forms) Γ t A × (cites_below j t ≡ true))
  part_law Γ t A = (
    λ d. (
      checks_more (with_lemmas sig (take j forms)) (with_lemmas sig forms) part_keeps d,
      checks_cites sig (take j forms) j part_below d,
    ),
    λ h. whole_part h.0 h.1,
  )

-- one signature serves the proofs of all lemmas
pub at_once_law : (sig : Const → Option Tree) (lemmas : List (Tree × Tree)) →
    LemmasCheck sig lemmas
    ↔ (AllProve (with_lemmas sig (formulas_of lemmas)) lemmas × CiteBackwards lemmas)
at_once_law sig lemmas = (
  λ h. (
    λ n l e. ((part_law sig (formulas_of lemmas) n [] l.1 (pf l.0)).0 (h n l e)).0,
    λ n l e. ((part_law sig (formulas_of lemmas) n [] l.1 (pf l.0)).0 (h n l e)).1,
  ),
  λ h n l e. (part_law sig (formulas_of lemmas) n [] l.1 (pf l.0)).1 (h.0 n l e, h.1 n l e),
)
