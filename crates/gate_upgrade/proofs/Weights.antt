-- What is typed over a signature weighs the same by the parameters of a longer one.
use Rattle.std.proofs.Common.{◌≡◌, ◌+◌, ◌≤◌, if◌then◌else◌, nat_lt, List, Some, refl, sym, ◌∙◌, ap, arith}
use Rattle.term_table.specs.Tree.{Tree, Const, Num, Lit, Calc, Fact, Deny, Lemma}
use Rattle.term_table.specs.Measures.{arguments, parameters, head_parameters, weight_of}
use Rattle.lf_signature.specs.Typing.{Checks, lam_checks, atom_checks, Synth, var_synth, con_synth, app_synth}
use Rattle.lf_signature.specs.Constants.{size_of, places_of, declared}
use Rattle.lf_signature.specs.declared.editions.WordSignature.{WordSignature}
use Rattle.lf_signature.specs.Laws.Within.{declared-number}
use Rattle.lf_signature.proofs.Lookup.{places-parameters}

module _ (s u : WordSignature) (longer : size_of s ≤ size_of u) where
  -- a constant that has a type has the same parameters in both
  parameters-same : (c : Const) (a : Tree) → declared s c ≡ Some a
      → parameters (places_of u) c ≡ parameters (places_of s) c
  parameters-same (Num n) a e =
      let below = (declared-number s n a e).0 in
      places-parameters u n (omega (arith, below, longer)) ∙ sym (places-parameters s n below)
  parameters-same (Lit w) a e = refl
  parameters-same (Calc o x y) a e = refl
  parameters-same (Fact r x y) a e = refl
  parameters-same (Deny r x y) a e = refl
  parameters-same (Lemma n) a e = refl

  -- so has the head of a term
  head-same : {ctx : List Tree} {r a : Tree} → Synth (declared s) ctx r a
      → head_parameters (places_of u) r ≡ head_parameters (places_of s) r
  head-same (var_synth e f) = refl
  head-same (con_synth {c = c} {a = a} e) = parameters-same c a e
  head-same (app_synth d g h) = head-same d

  mutual
    pub checks-weigh : {ctx : List Tree} {m a : Tree} → Checks (declared s) ctx m a
        → weight_of (places_of u) m ≡ weight_of (places_of s) m
    checks-weigh (lam_checks d) = ap (λ k. 1 + k) (checks-weigh d)
    checks-weigh (atom_checks d h) = synth-weigh d

    synth-weigh : {ctx : List Tree} {r a : Tree} → Synth (declared s) ctx r a
        → weight_of (places_of u) r ≡ weight_of (places_of s) r
    synth-weigh (var_synth e f) = refl
    synth-weigh (con_synth e) = refl
    synth-weigh (app_synth {r = r} d g h) =
        let head = head-same d in
        let front = synth-weigh d in
        let last = checks-weigh g in
        λ i. front i + (if nat_lt (arguments r) (head i) then 1 else last i)
