-- A rule's constant at arguments and at proofs of its premises is a proof of its conclusion.
use Rattle.std.proofs.Common.{◌≡◌, ℕ, suc, ◌+◌, ◌-◌, ◌≤◌, Bool, true, false, ◌&&◌, Option, Some, List, [], ◌∷◌, refl, sym, ◌∙◌, ap, subst, length, arith}
use Rattle.term_table.specs.Tree.{Tree, Const, Con, App, Num, at, apps}
use Rattle.term_table.specs.Subst.{Simple, erase, hsub_type}
use Rattle.term_table.proofs.Agree.{hsub_type_follows}
use Rattle.lf_signature.specs.Terms.{pf}
use Rattle.lf_signature.specs.Typing.{Checks, Synth, con_synth, app_synth, atom_checks}
use Rattle.lf_signature.specs.Rules.{Sort, sort_type, SForm, Premise, Rule, over_sorts, rule_type}
use Rattle.lf_signature.specs.Constants.{the_rules, rule_at}
use Rattle.lf_signature.specs.Laws.Booleans.{both, every, every-at}
use Rattle.lf_signature.proofs.Lookup.{rule_found, rule_at-short}
use Rattle.lf_terms.specs.Instance.{nth_arg, by_rule, form_with, AreArguments, AreProofs}
use Rattle.lf_terms.proofs.Shifts.{shift-none}
use Rattle.lf_terms.proofs.Slots.{Slot, Got, premise_in, form_in, under_in, next, ok_premise, ok_premises, ok_form, FunClear}
use Rattle.lf_terms.proofs.Giving.{sorts_next, under_next}
use Rattle.lf_terms.proofs.Given.{slot_of, slot_step, slot_last, how_many, first_slots, base_clear, fun_clear, base_given, fun_given, under_start, form_here, premise_here, functions_written}

abbrev is_ok : ℕ → Rule → Bool
is_ok n r = ok_premises r.parameters r.premises && ok_form false r.parameters r.conclusion

-- the test runs over the whole table
all_ok : every is_ok the_rules ≡ true
unfolding the_rules
all_ok = refl

rule_ok : (n : ℕ) (r : Rule) → rule_at n ≡ Some r → is_ok n r ≡ true
rule_ok n r e = let f = rule_found n r e in every-at is_ok the_rules f.0 r all_ok f.1

module _ (sig : Const → Option Tree) (ctx : List Tree) (d : ℕ) (ts : List Sort) (ps : List Premise) (C : SForm) (ok : ok_premises ts ps ≡ true) (okc : ok_form false ts C ≡ true)
    (short : length ts + length ps ≤ 7) (args : List Tree) (are : AreArguments sig ctx d ts args) where
  -- the arguments from j on
  use_args : (rest : List Sort) (l : List Tree) (j : ℕ) → AreArguments sig ctx d rest l → ((i : ℕ) → at ts (i + j) ≡ at rest i) → ((i : ℕ) → nth_arg args (i + j) ≡ nth_arg l i) →
      length ts ≡ j + length rest → (f : Tree) → Synth sig ctx f (over_sorts rest (under_in ps C (slot_of args j) (length rest))) →
      Synth sig ctx (apps f l) (under_in ps C (λ i. Got (nth_arg args i)) 0)
  use_args [] [] j h s a e f w =
      let k : j ≡ length args = omega (arith, e, how_many sig ctx d ts args are) in
      subst (λ σ. Synth sig ctx f (under_in ps C σ 0)) (λ p i. (ap (λ z. slot_of args z i) k ∙ slot_last args i) p) w
  use_args (t ∷ rest) (a ∷ l) j h s g e f w =
      let own : nth_arg args j ≡ a = ap (nth_arg args) (omega arith) ∙ g 0 in
      let sort : at ts j ≡ Some t = ap (at ts) (omega arith) ∙ s 0 in
      let K : length ts - j ≡ suc (length rest) = omega (arith, e) in
      let step : hsub_type (erase (sort_type t)) a 0 (over_sorts rest (under_in ps C (slot_of args j) (suc (length rest)))) ≡ Some (over_sorts rest (under_in ps C (slot_of args (suc j)) (length rest))) =
      ap (λ z. hsub_type (erase (sort_type t)) z 0 (over_sorts rest (under_in ps C (slot_of args j) (suc (length rest))))) (sym (shift-none a 0))
      ∙ sorts_next (erase (sort_type t)) a (suc (length rest)) d h.0.room (slot_of args j) ts (base_clear sig ctx d ts args are j (suc (length rest)) (sym K))
      (λ i q. subst (λ z. FunClear d z (erase (sort_type t)) (suc (length rest)) (slot_of args j i)) own (fun_clear sig ctx d ts args are j (suc (length rest)) (sym K) t sort i q))
      rest ps C ok okc 0 (length rest) (omega arith) (omega arith) (omega (arith, e, short))
      ∙ (λ p. Some (over_sorts rest (under_in ps C (λ i. (ap (λ z. next z (slot_of args j i)) (sym own) ∙ slot_step args j i (omega (arith, e, how_many sig ctx d ts args are))) p) (length rest)))) in
      use_args rest l (suc j) h.1 (λ i. ap (at ts) (omega arith) ∙ s (suc i)) (λ i. ap (nth_arg args) (omega arith) ∙ g (suc i)) (omega (arith, e)) (App f a)
      (app_synth w h.0.checks (hsub_type_follows (erase (sort_type t)) (over_sorts rest (under_in ps C (slot_of args j) (suc (length rest)))) a 0 (over_sorts rest (under_in ps C (slot_of args (suc j)) (length rest))) step))
  use_args [] (a ∷ l) j h s g e f w = elim h [ ]
  use_args (t ∷ rest) [] j h s g e f w = elim h [ ]

  abbrev σ : ℕ → Slot
  σ i = Got (nth_arg args i)

  use_proofs : (qs : List Premise) (l : List Tree) → ok_premises ts qs ≡ true → length qs ≤ 7 → AreProofs sig ctx d (nth_arg args) qs l → (f : Tree) → Synth sig ctx f (under_in qs C σ 0) →
      Synth sig ctx (apps f l) (pf (form_in C σ 0))
  use_proofs [] [] o w h f k = k
  use_proofs (q ∷ qs) (p ∷ l) o w h f k =
      let g : (ok_premise ts q ≡ true) × (ok_premises ts qs ≡ true) = both _ _ o in
      let s : Simple = erase (premise_in q σ 0) in
      let step : hsub_type s p 0 (under_in qs C σ 1) ≡ Some (under_in qs C σ 0) =
      ap (λ z. hsub_type s z 0 (under_in qs C σ 1)) (sym (shift-none p 0))
      ∙ under_next s p 0 d h.0.room σ ts (base_given sig ctx d ts args are 0) (fun_given sig ctx d ts args are p s 0) qs C g.1 okc 0 (omega arith) (omega (arith, w)) in
      use_proofs qs l g.1 (omega (arith, w)) h.1 (App f p)
      (app_synth k (subst (λ z. Checks sig ctx p z) (sym (premise_here (nth_arg args) ts (functions_written sig ctx d ts args are) q g.0)) h.0.checks) (hsub_type_follows s (under_in qs C σ 1) p 0 (under_in qs C σ 0) step))
  use_proofs [] (p ∷ l) o w h f k = elim h [ ]
  use_proofs (q ∷ qs) [] o w h f k = elim h [ ]

pub rule_synth : (sig : Const → Option Tree) (n : ℕ) (r : Rule) → rule_at n ≡ Some r → sig (Num n) ≡ Some (rule_type r) → (ctx : List Tree) (d : ℕ) (args proofs : List Tree) → AreArguments sig ctx d r.parameters args → AreProofs sig ctx d (nth_arg args) r.premises proofs →
    Synth sig ctx (by_rule n args proofs) (pf (form_with r.conclusion (nth_arg args)))
rule_synth sig n r e has ctx d args proofs h g =
    let o = both _ _ (rule_ok n r e) in
    let short = rule_at-short n r e in
    let ts = r.parameters in
    let start : rule_type r ≡ over_sorts ts (under_in r.premises r.conclusion (slot_of args 0) (length ts)) =
    ap (over_sorts ts) (under_start ts (slot_of args 0) (λ i w. first_slots sig ts args ctx d i h w) r.premises r.conclusion o.0 o.1 (length ts)) in
    let c : Synth sig ctx (Con (Num n)) (over_sorts ts (under_in r.premises r.conclusion (slot_of args 0) (length ts))) =
    con_synth (has ∙ ap Some start) in
    let a = use_args sig ctx d ts r.premises r.conclusion o.0 o.1 short args h ts args 0 h (λ i. ap (at ts) (omega arith)) (λ i. ap (nth_arg args) (omega arith)) (omega arith) (Con (Num n)) c in
    let p = use_proofs sig ctx d ts r.premises r.conclusion o.0 o.1 short args h r.premises proofs o.0 (omega (arith, short)) g (apps (Con (Num n)) args) a in
    subst (λ z. Synth sig ctx (apps (apps (Con (Num n)) args) proofs) (pf z)) (form_here (nth_arg args) ts (functions_written sig ctx d ts args h) false r.conclusion o.1) p

pub rule_checks : (sig : Const → Option Tree) (n : ℕ) (r : Rule) → rule_at n ≡ Some r → sig (Num n) ≡ Some (rule_type r) → (ctx : List Tree) (d : ℕ) (args proofs : List Tree) → AreArguments sig ctx d r.parameters args → AreProofs sig ctx d (nth_arg args) r.premises proofs →
    Checks sig ctx (by_rule n args proofs) (pf (form_with r.conclusion (nth_arg args)))
rule_checks sig n r e has ctx d args proofs h g = atom_checks (rule_synth sig n r e has ctx d args proofs h g) tt
