-- The part at the first word of a block is one of the parts of programs.
use Rattle.std.proofs.Common.{◌≡◌, ℕ, suc, ◌+◌, ◌/◌, ◌<◌, ◌≤◌, ◌⊎◌, true, false, cond, eqb, inl, inr, refl, sym, ap, ◌∙◌, subst, arith}
use Rattle.std.specs.Prelude.{nat_le}
use Rattle.std.proofs.lemmas.Bool.{cases_Bool, eqb-true, eqb-false, le-leb}
use Rattle.bpf_words.specs.declared.insn.BpfOp.{BpfOp}
use Rattle.bpf_words.specs.declared.insn.BpfOp.TheVariants as ops
use Rattle.bpf_code.specs.Blocks.{nonzero_flag, straight_code}
use Rattle.bpf_code.specs.Inside.Bounds.{KeepsTo}
use Rattle.bpf_code.proofs.Numbers.{below_eight}
use Rattle.bpf_condition.specs.Invariants.{packet_invariant, end_invariant}
use Rattle.bpf_condition.specs.PartForms.{from_packet, loads_condition, literal_condition}
use Rattle.bpf_condition.proofs.Before.{before_all, start_condition, before-straight}
use Rattle.bpf_condition.proofs.Evaluated.{IsPartForm}

-- a load within one quadword
one_quad-known : (d : ℕ) → d < 8 → IsPartForm (from_packet (loads_condition d d))
one_quad-known = below_eight (λ d. IsPartForm (from_packet (loads_condition d d)))
    (7, omega arith, refl) (8, omega arith, refl) (9, omega arith, refl) (10, omega arith, refl)
    (11, omega arith, refl) (12, omega arith, refl) (13, omega arith, refl) (14, omega arith, refl)

-- the next quadword; past the seventh there is none
abbrev next_quad : ℕ → ℕ
next_quad d = cond (nat_le d 6) (suc d) d

-- a load over two of them
two_quads-known : (d : ℕ) → d < 8 → IsPartForm (from_packet (loads_condition d (next_quad d)))
two_quads-known = below_eight (λ d. IsPartForm (from_packet (loads_condition d (next_quad d))))
    (15, omega arith, refl) (16, omega arith, refl) (17, omega arith, refl) (18, omega arith, refl)
    (19, omega arith, refl) (20, omega arith, refl) (21, omega arith, refl) (14, omega arith, refl)

-- a load stays in one quadword or goes on into the next
second_quad : (k n : ℕ) → n ≤ 3 → ((k + n) / 8 ≡ k / 8) ⊎ ((k + n) / 8 ≡ suc (k / 8))
second_quad k n few = elim (cases_Bool (eqb ((k + n) / 8) (k / 8))) [
  | inl e ↦ inl (eqb-true ((k + n) / 8) (k / 8) e)
  | inr e ↦ let apart = eqb-false ((k + n) / 8) (k / 8) e in inr (omega (arith, few, apart))
]

loads-known : (k n : ℕ) → n ≤ 3 → k + suc n ≤ 64 → IsPartForm (from_packet (loads_condition (k / 8) ((k + n) / 8)))
loads-known k n few inside =
    elim (second_quad k n few) [
      | inl e ↦ subst (λ d. IsPartForm (from_packet (loads_condition (k / 8) d))) (sym e) (one_quad-known (k / 8) (omega (arith, inside)))
      | inr e ↦
          let low : k / 8 ≤ 6 = omega (arith, e, inside) in
          let there : next_quad (k / 8) ≡ (k + n) / 8 = ap (λ b. cond b (suc (k / 8)) (k / 8)) (le-leb (k / 8) 6 low) ∙ sym e in
          subst (λ d. IsPartForm (from_packet (loads_condition (k / 8) d))) there (two_quads-known (k / 8) (omega (arith, low)))
    ]

return-known : (k : ℕ) → IsPartForm (from_packet (literal_condition (nonzero_flag k)))
return-known k = elim (eqb k 0) as (λ b. IsPartForm (from_packet (literal_condition (cond b 0 1)))) [
  | true ↦ (4, omega arith, refl)
  | false ↦ (5, omega arith, refl)
]

same-known : IsPartForm (from_packet packet_invariant)
same-known = (2, omega arith, refl)

condition-known : (op : BpfOp) (k : ℕ) → KeepsTo op k → IsPartForm (from_packet (start_condition op k))
condition-known ops.Ld k fits = loads-known k 3 (omega arith) fits
condition-known ops.Ldh k fits = loads-known k 1 (omega arith) fits
condition-known ops.Ldb k fits = loads-known k 0 (omega arith) fits
condition-known ops.LdImm k fits = same-known
condition-known ops.Add k fits = same-known
condition-known ops.Or k fits = same-known
condition-known ops.And k fits = same-known
condition-known ops.Rsh k fits = same-known
condition-known ops.Ja k fits = same-known
condition-known (ops.Jump t) k fits = same-known
condition-known ops.Ret k fits = return-known k
condition-known ops.RetA k fits = (6, omega arith, refl)

pub start-known : (op : BpfOp) (k : ℕ) → KeepsTo op k → IsPartForm (from_packet (before_all (straight_code op k) (end_invariant op)))
start-known op k fits = subst (λ F. IsPartForm (from_packet F)) (sym (before-straight op k)) (condition-known op k fits)
