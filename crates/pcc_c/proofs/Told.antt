-- What a status tells of what was made.
use Rattle.std.proofs.Common.{◌≡◌, ℕ, List, take, Vec, Global, Result, Ok, Err, IfOk, IfErr, inl, inr, arith, sym, subst}
use Rattle.pcc_gate.specs.declared.refusal.Refusal.{Refusal}
use Rattle.pcc_gate.specs.declared.refusal.Refusal.TheVariants as refusal
use Rattle.pcc_c.specs.declared.statuses.TheConstants.{DONE, BAD_SOURCE}
use Rattle.pcc_c.specs.declared.reason.Reason.{Reason}
use Rattle.pcc_c.specs.declared.reason.Reason.TheVariants as reason
use Rattle.pcc_c.specs.declared.fault.Fault.{Fault}
use Rattle.pcc_c.specs.declared.fault.Fault.TheVariants as fault
use Rattle.pcc_c.specs.Statuses.{reason_status}
use Rattle.pcc_c.specs.Reasons.{reason_text}
use Rattle.pcc_c.specs.Buffers.{StoresIn}
use Rattle.pcc_c.specs.Inside.Answers.{TellsMade, TellsFault, IfAt}

-- no refusal has the status of success
refused-undone : (r : Refusal) → reason_status (reason.Refused r) ≡ DONE → ⊥
refused-undone (refusal.TooLong length) e = omega (arith, e)
refused-undone r e = omega (arith, e)

-- nor has a reason
pub reason-undone : (why : Reason) → reason_status why ≡ DONE → ⊥
reason-undone (reason.Refused r) e = refused-undone r e
reason-undone why e = omega (arith, e)

-- what is told of a reason isn't the status of success
told-undone : (why : Reason) (bytes old new : List ℕ) (count : ℕ)
    → StoresIn bytes (reason_status why) old new count DONE → ⊥
told-undone why bytes old new count told = elim told.stored [
  | inl fills ↦ reason-undone why (sym fills.is)
  | inr lacks ↦ absurd (omega (arith, lacks.is))
]

-- nor is what is told of a fault
fault-undone : (why : Fault) (old new : List ℕ) (count : ℕ)
    → TellsFault why old new count DONE → ⊥
fault-undone (fault.At why) old new count (inl left) = omega (arith, left.ran_out)
fault-undone (fault.At why) old new count (inr told) =
    told-undone why (reason_text why) old new count told
fault-undone fault.Memory old new count left = omega (arith, left.ran_out)
fault-undone fault.Results old new count left = omega (arith, left.ran_out)

-- with the status of success, what was made is at the front of the buffer
stored-front : (P : List ℕ → Type 0) (bytes old new : List ℕ) (count : ℕ)
    → StoresIn bytes DONE old new count DONE → P bytes → P (take count new)
stored-front P bytes old new count told made = elim told.stored [
  | inl fills ↦ subst (λ n. P (take n new)) (sym told.counted) (subst P (sym fills.front) made)
  | inr lacks ↦ absurd (omega (arith, lacks.is))
]

-- the same of what was made, or a fault
pub done-front : (P : List ℕ → Type 0) (made : Result (Vec ℕ Global) Fault) (old new : List ℕ)
    (count status : ℕ) → TellsMade made old new count status → status ≡ DONE
    → IfOk made (λ v. P v.items) → P (take count new)
done-front P (Ok v) old new count status told done has =
    stored-front P v.items old new count
    (subst (λ s. StoresIn v.items DONE old new count s) done told) has
done-front P (Err why) old new count status told done has = absurd
    (fault-undone why old new count (subst (λ s. TellsFault why old new count s) done told))

-- ---- the status of a bad source

-- what ran out, or has no room, or was made, isn't told with the status of a bad source
pub bad-source : (P : Type 0) (made : Result (Vec ℕ Global) Fault) (old new : List ℕ)
    (count status : ℕ) → TellsMade made old new count status → status ≡ BAD_SOURCE
    → IfErr made (IfAt P) → P
bad-source P (Ok v) old new count status told bad has = elim told.stored [
  | inl fills ↦ absurd (omega (arith, bad, fills.is))
  | inr lacks ↦ absurd (omega (arith, bad, lacks.is))
]
bad-source P (Err (fault.At why)) old new count status told bad has = has
bad-source P (Err fault.Memory) old new count status told bad has = absurd (omega (arith, bad, told.ran_out))
bad-source P (Err fault.Results) old new count status told bad has = absurd (omega (arith, bad, told.ran_out))
