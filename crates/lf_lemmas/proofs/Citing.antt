-- What checks cites lemmas of the signature alone; and what cites none stays as it is.
use Rattle.std.proofs.Common.{◌≡◌, ℕ, ◌<◌, true, Option, Some, List, refl, ap, arith}
use Rattle.std.proofs.lemmas.Bool.{ltb-true, lt-ltb}
use Rattle.term_table.specs.Tree.{Tree, Var, Con, App, Lam, Fam, TApp, Pi, Const, Lemma, at}
use Rattle.term_table.proofs.Options.{map_some}
use Rattle.lf_signature.specs.Typing.{Checks, lam_checks, atom_checks, Synth, var_synth, con_synth, app_synth}
use Rattle.lf_signature.specs.Terms.{pf}
use Rattle.lf_signature.specs.Laws.Booleans.{both, and_of}
use Rattle.lf_lemmas.specs.Lemmas.{with_lemmas}
use Rattle.lf_lemmas.specs.WrittenOut.{inlined, cites_below}

-- k lemmas, or fewer
module _ (sig : Const → Option Tree) (forms : List Tree) (k : ℕ)
    (below : (n : ℕ) (F : Tree) → at forms n ≡ Some F → n < k) where
  con_cites : (c : Const) (A : Tree) → with_lemmas sig forms c ≡ Some A →
      cites_below k (Con c) ≡ true
  con_cites (Lemma n) A e =
      let w = map_some (at forms n) pf A e in
      lt-ltb n k (below n w.0 w.1)
  con_cites c A e = refl

  mutual
    pub checks_cites : {Γ : List Tree} {t A : Tree} → Checks (with_lemmas sig forms) Γ t A →
        cites_below k t ≡ true
    checks_cites (lam_checks d) = checks_cites d
    checks_cites (atom_checks d h) = synth_cites d

    synth_cites : {Γ : List Tree} {t A : Tree} → Synth (with_lemmas sig forms) Γ t A →
        cites_below k t ≡ true
    synth_cites (var_synth e f) = refl
    synth_cites (con_synth {c = c} {a = A} e) = con_cites c A e
    synth_cites (app_synth d g h) = and_of _ _ (synth_cites d) (checks_cites g)

-- a term without lemmas stays
pub inlined_plain : (Qs : List Tree) (t : Tree) → cites_below 0 t ≡ true → inlined Qs t ≡ t
inlined_plain Qs (Var n) h = refl
inlined_plain Qs (Con (Lemma n)) h = let l = ltb-true n 0 h in absurd (omega (arith, l))
inlined_plain Qs (Con c) h = refl
inlined_plain Qs (App f a) h =
    let b = both _ _ h in
    λ i. App (inlined_plain Qs f b.0 i) (inlined_plain Qs a b.1 i)
inlined_plain Qs (Lam b) h = ap Lam (inlined_plain Qs b h)
inlined_plain Qs (Fam a) h = refl
inlined_plain Qs (TApp p a) h =
    let b = both _ _ h in
    λ i. TApp (inlined_plain Qs p b.0 i) (inlined_plain Qs a b.1 i)
inlined_plain Qs (Pi a b) h =
    let d = both _ _ h in
    λ i. Pi (inlined_plain Qs a d.0 i) (inlined_plain Qs b d.1 i)
