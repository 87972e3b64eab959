-- The flags of a compare decide the branch that is joined to it.
use Rattle.std.proofs.Common.{◌≡◌, ℕ, ◌^◌, ◌<◌, Bool, true, false, not, ◌++◌, Option, Some, None, refl, sym, ap, ◌∙◌, arith, inl, if◌then◌else◌}
use Rattle.word_ops.specs.declared.Op.{Op}
use Rattle.word_ops.specs.declared.Op.TheVariants as ops
use Rattle.word_ops.specs.declared.Rel.{Rel}
use Rattle.word_ops.specs.declared.Rel.TheVariants.{Eq, Ult, Ule, Slt, Sle}
use Rattle.word_ops.specs.Registers.{read_reg}
use Rattle.word_ops.specs.Words.{word_of, test_of, flag_of}
use Rattle.alpha_words.specs.declared.insn.Rhs.{Rhs}
use Rattle.alpha_words.specs.declared.conditions.Cond.{Cond}
use Rattle.alpha_words.specs.declared.conditions.Cond.TheVariants.{LowClear, Zero, Negative, NotPositive, LowSet, NotZero, NotNegative, Positive}
use Rattle.alpha_words.specs.Encoding.{IsRhs}
use Rattle.alpha_cfg.specs.Machine.{State, IsState, rhs_word, takes}
use Rattle.x86_words.specs.declared.operators.AluOp.TheVariants as alu
use Rattle.x86_words.specs.declared.operators.X86Cond.{X86Cond}
use Rattle.x86_words.specs.declared.operators.X86Cond.TheVariants.{Below, AboveOrEqual, Equal, NotEqual, BelowOrEqual, Above, Less, GreaterOrEqual}
use Rattle.x86_words.specs.declared.operators.X86Cond.TheVariants.{LessOrEqual, Greater}
use Rattle.x86_machine.specs.Flags.{alu_flags, cond_holds, AfterCmp}
use Rattle.x86_machine.specs.Machine.{X86}
use Rattle.native_steps.specs.Places.{Places, ArePlaces, IsSomewhere, RAX}
use Rattle.native_steps.specs.Sequences.{RhsIsPlaced, ready, cmp_code}
use Rattle.native_steps.specs.Agreement.{Call, IsLent, Agrees}
use Rattle.native_steps.specs.Compares.{compare_cond, compare_on, taken_on, joined_cond, ready_cmp_code, DecidesJoined, Joins}
use Rattle.native_steps.proofs.Straights.{Runs, both-run}
use Rattle.native_steps.proofs.Frames.{SameBut, same-trans, only-same, agrees-same}
use Rattle.native_steps.proofs.Operands.{IsWork, readied}
use Rattle.native_steps.proofs.Computing.{Compared, compared, cmp}

some-cond : (a b : X86Cond) → Some a ≡ Some b → a ≡ b
some-cond a b e = cc

-- a branch on a flag
on-flag : (cond : Cond) (b t : Bool) → taken_on cond ≡ Some b → takes cond (flag_of t) ≡ (if b then t else not t)
on-flag NotZero true true e = refl
on-flag NotZero true false e = refl
on-flag LowSet true true e = refl
on-flag LowSet true false e = refl
on-flag Zero false true e = refl
on-flag Zero false false e = refl
on-flag LowClear false true e = refl
on-flag LowClear false false e = refl
on-flag NotZero false t e = absurd cc
on-flag LowSet false t e = absurd cc
on-flag Zero true t e = absurd cc
on-flag LowClear true t e = absurd cc
on-flag Negative b t e = absurd cc
on-flag NotPositive b t e = absurd cc
on-flag NotNegative b t e = absurd cc
on-flag Positive b t e = absurd cc

-- what the flags of a compare say of the word that it would give
record Says (op : Op) (b : Bool) (jump : X86Cond) (a c : ℕ) : Type 0 where
  holds : Bool
  word : word_of op a c ≡ flag_of holds
  says : cond_holds jump (alu_flags alu.Cmp a c) ≡ (if b then holds else not holds)

says-of : (op : Op) (b : Bool) (jump : X86Cond) (a c : ℕ) → AfterCmp a c → compare_cond op b ≡ Some jump → Says op b jump a c
says-of ops.Cmpeq true jump a c k e = record {
  holds = test_of Eq a c;
  word = refl;
  says = ap (λ j. cond_holds j (alu_flags alu.Cmp a c)) (sym (some-cond Equal jump e)) ∙ k.equal;
}
says-of ops.Cmpeq false jump a c k e = record {
  holds = test_of Eq a c;
  word = refl;
  says = ap (λ j. cond_holds j (alu_flags alu.Cmp a c)) (sym (some-cond NotEqual jump e)) ∙ ap not k.equal;
}
says-of ops.Cmplt true jump a c k e = record {
  holds = test_of Slt a c;
  word = refl;
  says = ap (λ j. cond_holds j (alu_flags alu.Cmp a c)) (sym (some-cond Less jump e)) ∙ k.less;
}
says-of ops.Cmplt false jump a c k e = record {
  holds = test_of Slt a c;
  word = refl;
  says = ap (λ j. cond_holds j (alu_flags alu.Cmp a c)) (sym (some-cond GreaterOrEqual jump e)) ∙ ap not k.less;
}
says-of ops.Cmple true jump a c k e = record {
  holds = test_of Sle a c;
  word = refl;
  says = ap (λ j. cond_holds j (alu_flags alu.Cmp a c)) (sym (some-cond LessOrEqual jump e)) ∙ k.less_or_equal;
}
says-of ops.Cmple false jump a c k e = record {
  holds = test_of Sle a c;
  word = refl;
  says = ap (λ j. cond_holds j (alu_flags alu.Cmp a c)) (sym (some-cond Greater jump e)) ∙ ap not k.less_or_equal;
}
says-of ops.Cmpult true jump a c k e = record {
  holds = test_of Ult a c;
  word = refl;
  says = ap (λ j. cond_holds j (alu_flags alu.Cmp a c)) (sym (some-cond Below jump e)) ∙ k.below;
}
says-of ops.Cmpult false jump a c k e = record {
  holds = test_of Ult a c;
  word = refl;
  says = ap (λ j. cond_holds j (alu_flags alu.Cmp a c)) (sym (some-cond AboveOrEqual jump e)) ∙ ap not k.below;
}
says-of ops.Cmpule true jump a c k e = record {
  holds = test_of Ule a c;
  word = refl;
  says = ap (λ j. cond_holds j (alu_flags alu.Cmp a c)) (sym (some-cond BelowOrEqual jump e)) ∙ k.below_or_equal;
}
says-of ops.Cmpule false jump a c k e = record {
  holds = test_of Ule a c;
  word = refl;
  says = ap (λ j. cond_holds j (alu_flags alu.Cmp a c)) (sym (some-cond Above jump e)) ∙ ap not k.below_or_equal;
}
says-of ops.Add b jump a c k e = absurd cc
says-of ops.Sub b jump a c k e = absurd cc
says-of ops.Band b jump a c k e = absurd cc
says-of ops.Bis b jump a c k e = absurd cc
says-of ops.Sll b jump a c k e = absurd cc
says-of ops.Srl b jump a c k e = absurd cc
says-of ops.Xor b jump a c k e = absurd cc
says-of ops.Bic b jump a c k e = absurd cc
says-of ops.S4add b jump a c k e = absurd cc
says-of ops.S8add b jump a c k e = absurd cc
says-of ops.Sra b jump a c k e = absurd cc
says-of ops.Extb b jump a c k e = absurd cc
says-of ops.Extw b jump a c k e = absurd cc
says-of ops.Extl b jump a c k e = absurd cc

module _ (p : Places) (call : Call) (places : ArePlaces p) (s : State) (x : X86) (state : IsState s) (lent : IsLent call s.rights)
    (agrees : Agrees p call s x) (op : Op) (left : ℕ) (right : Rhs) (cond : Cond) (jump : X86Cond) (h : IsSomewhere p left) (there : RhsIsPlaced p right)
    (small : IsRhs right)
  where
    abbrev first : ℕ
    first = read_reg s.regs left

    abbrev second : ℕ
    second = rhs_word s.regs right

    by-taken : (o : Option Bool) → taken_on cond ≡ o → compare_on op o ≡ Some jump → DecidesJoined p call op left right cond jump x s
    by-taken None on e = absurd cc
    by-taken (Some b) on e =
        let y = readied p call places s x state lent agrees left 0 h (omega arith) in
        let y-agrees : Agrees p call s y.end = agrees-same p call s x y.end places agrees (only-same 0 x y.end (omega arith) y.only) in
        let k = compared p call places s x state lent agrees 0 RAX (inl refl) left right y.end y-agrees y.has there small in
        let ran : Runs (ready_cmp_code p left right) x k.end = both-run (ready p left RAX) (cmp_code p left right) x y.end k.end y.runs k.runs in
        let f = says-of op b jump first second (cmp p call places s x state lent agrees 0 RAX (inl refl) left right small) e in
        record {
          comes = record { end = k.end; runs = ran.runs; at = ran.at; agrees = agrees-same p call s y.end k.end places y-agrees k.same };
          flags = alu_flags alu.Cmp first second;
          set = k.set;
          says = f.says ∙ sym (ap (takes cond) f.word ∙ on-flag cond b f.holds on);
        }

pub joins : Joins
joins = λ p call op left right cond jump s x places h there small state lent agrees e.
    by-taken p call places s x state lent agrees op left right cond jump h there small (taken_on cond) refl e
