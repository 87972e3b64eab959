-- What holds of each instruction of the memory format, and of those that are found.
use Rattle.std.proofs.Common.{◌≡◌, ℕ, Bool, true, eqb, List, map, slice_get, Some, refl, sym, ◌∙◌, ap, eqb-true, ℤ}
use Rattle.std.specs.List.{list_all}
use Rattle.std.specs.Option.{option_map}
use Rattle.std.specs.Str.{bytes_eq}
use Rattle.std.proofs.lemmas.Slice.Eq.{bytes_eq-Decides}
use Rattle.std.proofs.lemmas.Option.{same_Some, slice_get-map}
use Rattle.word_ops.proofs.EachOp.{list_all-get, find-passes}
use Rattle.alpha_words.specs.declared.memory.MemoryOp.{MemoryOp}
use Rattle.alpha_words.specs.declared.memory.MemoryOp.TheVariants as M
use Rattle.alpha_words.specs.declared.insn.Insn.{Insn}
use Rattle.alpha_words.specs.declared.insn.Insn.TheVariants.{Lda, Ldq, Ldah, LdqU, Stq, Oper, Branch, Br, Ret}
use Rattle.alpha_words.specs.declared.insn.Format.{Format}
use Rattle.alpha_words.specs.declared.insn.Format.TheVariants as F
use Rattle.alpha_words.specs.MemoryOps.{memory_ops, memory_opcode, memory_mnemonic, memory_op_at, memory_op_named}
use Rattle.alpha_words.specs.Formats.{format_of, memory_insn, insn_of}

-- ---- each one is listed

-- its place in the list
abbrev place : MemoryOp → ℕ
place M.Lda = 0
place M.Ldah = 1
place M.LdqU = 2
place M.Ldq = 3
place M.Stq = 4

listed : (o : MemoryOp) → slice_get memory_ops (place o) ≡ Some o
listed M.Lda = refl
listed M.Ldah = refl
listed M.LdqU = refl
listed M.Ldq = refl
listed M.Stq = refl

-- what a test finds true of the list is true of each one
pub each_memory_op : (test : MemoryOp → Bool) → list_all test memory_ops ≡ true → (o : MemoryOp) → test o ≡ true
each_memory_op test h o = list_all-get test memory_ops (place o) o h (listed o)

value_at : {A : Type 0} (f : MemoryOp → A) (o : MemoryOp) → slice_get (map f memory_ops) (place o) ≡ Some (f o)
value_at f o = slice_get-map f memory_ops (place o) ∙ ap (option_map f) (listed o)

-- what has the same values at the list has them at each one
pub each_memory_op_same : {A : Type 0} (f g : MemoryOp → A) → map f memory_ops ≡ map g memory_ops → (o : MemoryOp) → f o ≡ g o
each_memory_op_same f g e o = same_Some (f o) (g o) (sym (value_at f o) ∙ ap (λ l. slice_get l (place o)) e ∙ value_at g o)

-- ---- what is found

pub memory_op_at-memory_opcode : (o : MemoryOp) → memory_op_at (memory_opcode o) ≡ Some o
memory_op_at-memory_opcode = each_memory_op_same (λ o. memory_op_at (memory_opcode o)) Some refl

pub memory_op_named-memory_mnemonic : (o : MemoryOp) → memory_op_named (memory_mnemonic o) ≡ Some o
unfolding memory_op_named
memory_op_named-memory_mnemonic = each_memory_op_same (λ o. memory_op_named (memory_mnemonic o)) Some refl

pub memory_opcode_is : (n : ℕ) (o : MemoryOp) → memory_op_at n ≡ Some o → memory_opcode o ≡ n
memory_opcode_is n o e = eqb-true (memory_opcode o) n (find-passes (λ p. eqb (memory_opcode p) n) memory_ops o e)

pub memory_mnemonic_is : (w : List ℕ) (o : MemoryOp) → memory_op_named w ≡ Some o → w ≡ memory_mnemonic o
unfolding memory_op_named
memory_mnemonic_is w o e = (bytes_eq-Decides w (memory_mnemonic o)).0 (find-passes (λ p. bytes_eq w (memory_mnemonic p)) memory_ops o e)

-- ---- formats

-- the instruction of the memory format has that
pub format_of-memory_insn : (o : MemoryOp) (ra rb : ℕ) (disp : ℤ) → format_of (memory_insn o ra rb disp) ≡ F.Memory o ra rb disp
format_of-memory_insn M.Lda ra rb disp = refl
format_of-memory_insn M.Ldah ra rb disp = refl
format_of-memory_insn M.LdqU ra rb disp = refl
format_of-memory_insn M.Ldq ra rb disp = refl
format_of-memory_insn M.Stq ra rb disp = refl

-- an instruction is that of its format
pub insn_of-format_of : (i : Insn) → insn_of (format_of i) ≡ i
insn_of-format_of (Lda ra rb disp) = refl
insn_of-format_of (Ldah ra rb disp) = refl
insn_of-format_of (LdqU ra rb disp) = refl
insn_of-format_of (Ldq ra rb disp) = refl
insn_of-format_of (Stq ra rb disp) = refl
insn_of-format_of (Oper op ra rhs rc) = refl
insn_of-format_of (Branch cond ra disp) = refl
insn_of-format_of (Br disp) = refl
insn_of-format_of Ret = refl
