-- Worked rows: containers that a reader can encode by hand, and their faults.
use Rattle.std.proofs.Common.{◌≡◌, ℕ, List, [], ◌∷◌, ◌++◌, None, Some, Ok, Err, refl, take}
use Rattle.term_table.specs.Tree.{Con, Num, Lemma, Var, App, Lam}
use Rattle.proof_container.specs.declared.container.Head.TheVariants.{Number, Digest}
use Rattle.proof_container.specs.declared.fault.Flaw.TheVariants.{Cut, Version, Count, EntryKind, ForwardRef, DoubleEntry, Order, LambdaHead, Trailing}
use Rattle.proof_container.specs.Contents.{Contents}
use Rattle.proof_container.specs.Postorder.{entries}
use Rattle.proof_container.specs.Encoding.{field_bytes, encoding_of}
use Rattle.proof_container.specs.Decoding.{decoded_container, entries_at, decoded_entries, decoded_head, policy_at, step_bound_at, raw_at, decoded_invs, invs_at, decoded_lemmas, lemmas_at, decoded_proof, decoded_end, kind_at}

-- a loop of one instruction, whose invariant is truth
abbrev looping : Contents
looping = record {
  version = 1;
  head = Number 1;
  bound = None;
  code = 255 ∷ 255 ∷ 255 ∷ 195 ∷ [];
  invs = (0, Con (Num 13)) ∷ [];
  lemmas = [];
  proof = None;
}

abbrev looping_bytes : List ℕ
looping_bytes =
    80 ∷ 67 ∷ 67 ∷ 65 ∷ 1 ∷ 0 ∷ 0 ∷ 0 ∷ 1 ∷ 0 ∷ 0 ∷ 0 ∷ 1 ∷ 0 ∷ 0 ∷ 0 ∷ 255 ∷ 255 ∷ 255 ∷ 195 ∷
    1 ∷ 0 ∷ 0 ∷ 0 ∷ 1 ∷ 0 ∷ 0 ∷ 0 ∷ 13 ∷ 0 ∷ 0 ∷ 0 ∷ 1 ∷ 0 ∷ 0 ∷ 0 ∷ 0 ∷ 0 ∷ 0 ∷ 0 ∷ 0 ∷ 0 ∷ 0 ∷ 0 ∷ 0 ∷ 0 ∷ 0 ∷ 0 ∷ []

looping_spelled : encoding_of looping ≡ looping_bytes
unfolding encoding_of entries
looping_spelled = refl

looping_read : decoded_container looping_bytes ≡ Ok looping
unfolding decoded_container decoded_head policy_at step_bound_at raw_at decoded_entries entries_at kind_at decoded_invs invs_at decoded_lemmas lemmas_at decoded_proof decoded_end entries
looping_read = refl

cut_in_the_end : decoded_container (take 47 looping_bytes) ≡ Err (44, Cut)
unfolding decoded_container decoded_head policy_at step_bound_at raw_at decoded_entries entries_at kind_at decoded_invs invs_at decoded_lemmas lemmas_at decoded_proof decoded_end entries
cut_in_the_end = refl

cut_in_the_code : decoded_container (take 19 looping_bytes) ≡ Err (16, Cut)
unfolding decoded_container decoded_head policy_at step_bound_at raw_at decoded_entries entries_at kind_at decoded_invs invs_at decoded_lemmas lemmas_at decoded_proof decoded_end entries
cut_in_the_code = refl

one_byte_more : decoded_container (looping_bytes ++ 0 ∷ []) ≡ Err (48, Trailing)
unfolding decoded_container decoded_head policy_at step_bound_at raw_at decoded_entries entries_at kind_at decoded_invs invs_at decoded_lemmas lemmas_at decoded_proof decoded_end entries
one_byte_more = refl

-- the same for the policy of a digest
abbrev digest : List ℕ
digest =
    1 ∷ 2 ∷ 3 ∷ 4 ∷ 5 ∷ 6 ∷ 7 ∷ 8 ∷ 9 ∷ 10 ∷ 11 ∷ 12 ∷ 13 ∷ 14 ∷ 15 ∷ 16 ∷
    17 ∷ 18 ∷ 19 ∷ 20 ∷ 21 ∷ 22 ∷ 23 ∷ 24 ∷ 25 ∷ 26 ∷ 27 ∷ 28 ∷ 29 ∷ 30 ∷ 31 ∷ 32 ∷ []

abbrev later : Contents
later = record looping { version = 2; head = Digest digest }

abbrev later_bytes : List ℕ
later_bytes =
    80 ∷ 67 ∷ 67 ∷ 65 ∷ 2 ∷ 0 ∷ 0 ∷ 0 ∷
    1 ∷ 2 ∷ 3 ∷ 4 ∷ 5 ∷ 6 ∷ 7 ∷ 8 ∷ 9 ∷ 10 ∷ 11 ∷ 12 ∷ 13 ∷ 14 ∷ 15 ∷ 16 ∷
    17 ∷ 18 ∷ 19 ∷ 20 ∷ 21 ∷ 22 ∷ 23 ∷ 24 ∷ 25 ∷ 26 ∷ 27 ∷ 28 ∷ 29 ∷ 30 ∷ 31 ∷ 32 ∷
    1 ∷ 0 ∷ 0 ∷ 0 ∷ 255 ∷ 255 ∷ 255 ∷ 195 ∷ 1 ∷ 0 ∷ 0 ∷ 0 ∷ 1 ∷ 0 ∷ 0 ∷ 0 ∷ 13 ∷ 0 ∷ 0 ∷ 0 ∷
    1 ∷ 0 ∷ 0 ∷ 0 ∷ 0 ∷ 0 ∷ 0 ∷ 0 ∷ 0 ∷ 0 ∷ 0 ∷ 0 ∷ 0 ∷ 0 ∷ 0 ∷ 0 ∷ []

later_spelled : encoding_of later ≡ later_bytes
unfolding encoding_of entries
later_spelled = refl

later_read : decoded_container later_bytes ≡ Ok later
unfolding decoded_container decoded_head policy_at step_bound_at raw_at decoded_entries entries_at kind_at decoded_invs invs_at decoded_lemmas lemmas_at decoded_proof decoded_end entries
later_read = refl

cut_in_the_digest : decoded_container (take 39 later_bytes) ≡ Err (36, Cut)
unfolding decoded_container decoded_head policy_at step_bound_at raw_at
cut_in_the_digest = refl

-- the same with a bound of 258 steps
abbrev bounded : Contents
bounded = record later { version = 3; bound = Some 258 }

-- the front of version 3, up to the bound
abbrev opening : List ℕ
opening =
    80 ∷ 67 ∷ 67 ∷ 65 ∷ 3 ∷ 0 ∷ 0 ∷ 0 ∷
    1 ∷ 2 ∷ 3 ∷ 4 ∷ 5 ∷ 6 ∷ 7 ∷ 8 ∷ 9 ∷ 10 ∷ 11 ∷ 12 ∷ 13 ∷ 14 ∷ 15 ∷ 16 ∷
    17 ∷ 18 ∷ 19 ∷ 20 ∷ 21 ∷ 22 ∷ 23 ∷ 24 ∷ 25 ∷ 26 ∷ 27 ∷ 28 ∷ 29 ∷ 30 ∷ 31 ∷ 32 ∷ []

abbrev bounded_bytes : List ℕ
bounded_bytes =
    opening ++
    2 ∷ 1 ∷ 0 ∷ 0 ∷ 1 ∷ 0 ∷ 0 ∷ 0 ∷ 255 ∷ 255 ∷ 255 ∷ 195 ∷
    1 ∷ 0 ∷ 0 ∷ 0 ∷ 1 ∷ 0 ∷ 0 ∷ 0 ∷ 13 ∷ 0 ∷ 0 ∷ 0 ∷
    1 ∷ 0 ∷ 0 ∷ 0 ∷ 0 ∷ 0 ∷ 0 ∷ 0 ∷ 0 ∷ 0 ∷ 0 ∷ 0 ∷ 0 ∷ 0 ∷ 0 ∷ 0 ∷ []

bounded_spelled : encoding_of bounded ≡ bounded_bytes
unfolding encoding_of entries
bounded_spelled = refl

bounded_read : decoded_container bounded_bytes ≡ Ok bounded
unfolding decoded_container decoded_head policy_at step_bound_at raw_at decoded_entries entries_at kind_at decoded_invs invs_at decoded_lemmas lemmas_at decoded_proof decoded_end entries
bounded_read = refl

cut_in_the_bound : decoded_container (take 43 bounded_bytes) ≡ Err (40, Cut)
unfolding decoded_container decoded_head policy_at step_bound_at raw_at
cut_in_the_bound = refl

no_steps : decoded_container (opening ++ 0 ∷ 0 ∷ 0 ∷ 0 ∷ []) ≡ Err (40, Count)
unfolding decoded_container decoded_head policy_at step_bound_at raw_at
no_steps = refl

-- 1,000,000,000 is the greatest bound, behind which the count of words is looked for
most_steps : decoded_container (opening ++ 0 ∷ 202 ∷ 154 ∷ 59 ∷ []) ≡ Err (44, Cut)
unfolding decoded_container decoded_head policy_at step_bound_at raw_at
most_steps = refl

too_many_steps : decoded_container (opening ++ 1 ∷ 202 ∷ 154 ∷ 59 ∷ []) ≡ Err (40, Count)
unfolding decoded_container decoded_head policy_at step_bound_at raw_at
too_many_steps = refl

version_5 : decoded_container (80 ∷ 67 ∷ 67 ∷ 65 ∷ 5 ∷ 0 ∷ 0 ∷ 0 ∷ []) ≡ Err (4, Version)
unfolding decoded_container decoded_head
version_5 = refl

-- ---- lemmas

-- the same with a digest in version 4: its lemma's formula is constant 13 and its proof constant 20,
-- and its proof cites it
abbrev cited : Contents
cited = record later {
  version = 4;
  lemmas = (Con (Num 13), Con (Num 20)) ∷ [];
  proof = Some (Con (Lemma 0));
}

-- the front of version 4, up to the entries
abbrev fourth : List ℕ
fourth =
    80 ∷ 67 ∷ 67 ∷ 65 ∷ 4 ∷ 0 ∷ 0 ∷ 0 ∷
    1 ∷ 2 ∷ 3 ∷ 4 ∷ 5 ∷ 6 ∷ 7 ∷ 8 ∷ 9 ∷ 10 ∷ 11 ∷ 12 ∷ 13 ∷ 14 ∷ 15 ∷ 16 ∷
    17 ∷ 18 ∷ 19 ∷ 20 ∷ 21 ∷ 22 ∷ 23 ∷ 24 ∷ 25 ∷ 26 ∷ 27 ∷ 28 ∷ 29 ∷ 30 ∷ 31 ∷ 32 ∷
    1 ∷ 0 ∷ 0 ∷ 0 ∷ 255 ∷ 255 ∷ 255 ∷ 195 ∷ []

-- three entries; one invariant; one lemma, of the entries 0 and 1; the proof is entry 2
abbrev cited_bytes : List ℕ
cited_bytes =
    fourth ++
    3 ∷ 0 ∷ 0 ∷ 0 ∷ 1 ∷ 0 ∷ 0 ∷ 0 ∷ 13 ∷ 0 ∷ 0 ∷ 0 ∷ 1 ∷ 0 ∷ 0 ∷ 0 ∷ 20 ∷ 0 ∷ 0 ∷ 0 ∷
    8 ∷ 0 ∷ 0 ∷ 0 ∷ 0 ∷ 0 ∷ 0 ∷ 0 ∷
    1 ∷ 0 ∷ 0 ∷ 0 ∷ 0 ∷ 0 ∷ 0 ∷ 0 ∷ 0 ∷ 0 ∷ 0 ∷ 0 ∷
    1 ∷ 0 ∷ 0 ∷ 0 ∷ 0 ∷ 0 ∷ 0 ∷ 0 ∷ 1 ∷ 0 ∷ 0 ∷ 0 ∷
    3 ∷ 0 ∷ 0 ∷ 0 ∷ []

cited_spelled : encoding_of cited ≡ cited_bytes
unfolding encoding_of entries
cited_spelled = refl

cited_read : decoded_container cited_bytes ≡ Ok cited
unfolding decoded_container decoded_head policy_at step_bound_at raw_at decoded_entries entries_at kind_at decoded_invs invs_at decoded_lemmas lemmas_at decoded_proof decoded_end entries
cited_read = refl

-- where there is no lemma, their count stands there all the same
no_lemma : decoded_container (fourth ++ field_bytes (1 ∷ 1 ∷ 13 ∷ 1 ∷ 0 ∷ 0 ∷ 0 ∷ 0 ∷ []))
    ≡ Ok (record later { version = 4 })
unfolding decoded_container decoded_head policy_at step_bound_at raw_at decoded_entries entries_at kind_at decoded_invs invs_at decoded_lemmas lemmas_at decoded_proof decoded_end entries
no_lemma = refl

-- kind 8 is none in versions 2 and 3
lemma_in_version_2 : decoded_container (take 48 later_bytes ++ field_bytes (1 ∷ 8 ∷ 0 ∷ [])) ≡ Err (52, EntryKind)
unfolding decoded_container decoded_head policy_at step_bound_at raw_at decoded_entries entries_at kind_at
lemma_in_version_2 = refl

lemma_in_version_3 : decoded_container (take 52 bounded_bytes ++ field_bytes (1 ∷ 8 ∷ 0 ∷ [])) ≡ Err (56, EntryKind)
unfolding decoded_container decoded_head policy_at step_bound_at raw_at decoded_entries entries_at kind_at
lemma_in_version_3 = refl

-- nor is there a kind 9 in version 4
kind_9 : decoded_container (fourth ++ field_bytes (1 ∷ 9 ∷ 0 ∷ [])) ≡ Err (52, EntryKind)
unfolding decoded_container decoded_head policy_at step_bound_at raw_at decoded_entries entries_at kind_at
kind_9 = refl

-- 256 lemmas are the most: behind their count the first is looked for
most_lemmas : decoded_container (fourth ++ field_bytes (1 ∷ 1 ∷ 13 ∷ 0 ∷ 256 ∷ [])) ≡ Err (68, Cut)
unfolding decoded_container decoded_head policy_at step_bound_at raw_at decoded_entries entries_at kind_at decoded_invs invs_at decoded_lemmas lemmas_at
most_lemmas = refl

too_many_lemmas : decoded_container (fourth ++ field_bytes (1 ∷ 1 ∷ 13 ∷ 0 ∷ 257 ∷ [])) ≡ Err (64, Count)
unfolding decoded_container decoded_head policy_at step_bound_at raw_at decoded_entries entries_at kind_at decoded_invs invs_at decoded_lemmas lemmas_at
too_many_lemmas = refl

-- a lemma's formula, and then its proof, past the one entry
formula_past_the_count : decoded_container (fourth ++ field_bytes (1 ∷ 1 ∷ 13 ∷ 0 ∷ 1 ∷ 1 ∷ 0 ∷ 0 ∷ [])) ≡ Err (68, ForwardRef)
unfolding decoded_container decoded_head policy_at step_bound_at raw_at decoded_entries entries_at kind_at decoded_invs invs_at decoded_lemmas lemmas_at
formula_past_the_count = refl

proof_past_the_count : decoded_container (fourth ++ field_bytes (1 ∷ 1 ∷ 13 ∷ 0 ∷ 1 ∷ 0 ∷ 1 ∷ 0 ∷ [])) ≡ Err (72, ForwardRef)
unfolding decoded_container decoded_head policy_at step_bound_at raw_at decoded_entries entries_at kind_at decoded_invs invs_at decoded_lemmas lemmas_at
proof_past_the_count = refl

-- the proof's entry before those of the lemma: the walk leaves 13 first, which is at entry 1
proof_first : decoded_container (fourth ++ field_bytes (3 ∷ 8 ∷ 0 ∷ 1 ∷ 13 ∷ 1 ∷ 20 ∷ 0 ∷ 1 ∷ 1 ∷ 2 ∷ 1 ∷ [])) ≡ Err (52, Order)
unfolding decoded_container decoded_head policy_at step_bound_at raw_at decoded_entries entries_at kind_at decoded_invs invs_at decoded_lemmas lemmas_at decoded_proof decoded_end entries
proof_first = refl

-- the entry of a lemma's proof before that of its formula
lemma_proof_first : decoded_container (fourth ++ field_bytes (2 ∷ 1 ∷ 20 ∷ 1 ∷ 13 ∷ 0 ∷ 1 ∷ 1 ∷ 0 ∷ 0 ∷ [])) ≡ Err (52, Order)
unfolding decoded_container decoded_head policy_at step_bound_at raw_at decoded_entries entries_at kind_at decoded_invs invs_at decoded_lemmas lemmas_at decoded_proof decoded_end entries
lemma_proof_first = refl

-- the entries of the second lemma before those of the first
second_first : decoded_container (fourth ++ field_bytes (4 ∷ 1 ∷ 14 ∷ 1 ∷ 21 ∷ 1 ∷ 13 ∷ 1 ∷ 20 ∷ 0 ∷ 2 ∷ 2 ∷ 3 ∷ 0 ∷ 1 ∷ 0 ∷ [])) ≡ Err (52, Order)
unfolding decoded_container decoded_head policy_at step_bound_at raw_at decoded_entries entries_at kind_at decoded_invs invs_at decoded_lemmas lemmas_at decoded_proof decoded_end entries
second_first = refl

-- ---- the order of entries

-- the entries 13 and 14 where the invariant is the second
unordered : decoded_container (take 20 looping_bytes ++ field_bytes (2 ∷ 1 ∷ 13 ∷ 1 ∷ 14 ∷ 1 ∷ 0 ∷ 1 ∷ 0 ∷ [])) ≡ Err (24, Order)
unfolding decoded_container decoded_head policy_at step_bound_at raw_at decoded_entries entries_at kind_at decoded_invs invs_at decoded_lemmas lemmas_at decoded_proof decoded_end entries
unordered = refl

doubled : decoded_container (take 20 looping_bytes ++ field_bytes (2 ∷ 1 ∷ 13 ∷ 1 ∷ 13 ∷ 1 ∷ 0 ∷ 1 ∷ 0 ∷ [])) ≡ Err (32, DoubleEntry)
unfolding decoded_container decoded_head policy_at step_bound_at raw_at decoded_entries entries_at kind_at decoded_invs invs_at decoded_lemmas lemmas_at decoded_proof decoded_end entries
doubled = refl

lam_applied : decoded_container (take 20 looping_bytes ++ field_bytes (3 ∷ 1 ∷ 13 ∷ 7 ∷ 0 ∷ 6 ∷ 1 ∷ 0 ∷ 1 ∷ 0 ∷ 2 ∷ 0 ∷ [])) ≡ Err (44, LambdaHead)
unfolding decoded_container decoded_head policy_at step_bound_at raw_at decoded_entries entries_at kind_at decoded_invs invs_at decoded_lemmas lemmas_at decoded_proof decoded_end entries
lam_applied = refl

-- a walk leaves the parts first, what is applied before what it is applied to, and each tree once
walked : entries (App (Var 0) (App (Lam (Var 1)) (Var 0)) ∷ Var 2 ∷ Var 1 ∷ []) ≡ Var 0 ∷ Var 1 ∷ Lam (Var 1) ∷ App (Lam (Var 1)) (Var 0) ∷ App (Var 0) (App (Lam (Var 1)) (Var 0)) ∷ Var 2 ∷ []
unfolding entries
walked = refl
