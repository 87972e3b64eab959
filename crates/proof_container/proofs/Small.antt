-- What stands in a container's fields is below 2 ^ 32.
use Rattle.std.proofs.Common.{◌≡◌, ℕ, suc, ◌+◌, ◌/◌, ◌^◌, ◌<◌, ◌≤◌, Bool, true, false, cond, List, [], ◌∷◌, ◌++◌, length, Option, Some, None, sym, ap, subst, append_assoc, length-append, arith}
use Rattle.std.specs.List.{flat_map}
use Rattle.term_table.specs.Tree.{Tree, Var, Con, App, Lam, Fam, TApp, Pi, Num, Lit, Calc, Fact, Deny, Lemma}
use Rattle.term_table.specs.Table.{IsSmall}
use Rattle.proof_container.specs.Versions.{has_lemmas, AreLemmasOf}
use Rattle.proof_container.specs.Contents.{Contents, one_or_none, lemma_roots, roots}
use Rattle.proof_container.specs.Postorder.{entries, HasPartsFirst, ArePostorder, AreEmitted}
use Rattle.proof_container.specs.Encoding.{word_fields, entry_fields, inv_fields, lemma_fields, lemmas_fields, proof_field, tail_fields, AreTerms, AreRising, IsContents}
use Rattle.proof_container.proofs.Walks.{entries_grow, entries_listed, entries_terms, number_is}
use Rattle.proof_container.proofs.FieldLaws.{AreFields, AreFields-append, word_small}
use Rattle.proof_container.proofs.Sections.{later_fields, later_fields-cons, inv_trees_of}
use Rattle.proof_container.proofs.LemmaIds.{few_lemmas}

entry_small : (ts : List Tree) (t : Tree) → length ts ≤ 262144 → HasPartsFirst ts t → IsSmall t → AreFields (entry_fields ts t)
entry_small ts (Var n) few parts small = (omega arith, (small, tt))
entry_small ts (Con (Num n)) few parts small = (omega arith, (small, tt))
entry_small ts (Con (Lit w)) few parts small = (omega arith, word_small w small)
entry_small ts (Con (Calc o a b)) few parts small = (omega arith, (small.0, AreFields-append (word_fields a) (word_fields b) (word_small a small.1) (word_small b small.2)))
entry_small ts (Con (Fact p a b)) few parts small = (omega arith, (small.0, AreFields-append (word_fields a) (word_fields b) (word_small a small.1) (word_small b small.2)))
entry_small ts (Con (Deny p a b)) few parts small = (omega arith, (small.0, AreFields-append (word_fields a) (word_fields b) (word_small a small.1) (word_small b small.2)))
entry_small ts (Con (Lemma n)) few parts small = (omega arith, (small, tt))
entry_small ts (App f a) few parts small =
    let first = number_is ts f parts.0 in
    let second = number_is ts a parts.1 in
    (omega arith, (omega (arith, first.0), (omega (arith, second.0), tt)))
entry_small ts (Lam b) few parts small = let body = number_is ts b parts in (omega arith, (omega (arith, body.0), tt))
entry_small ts (Fam a) few parts small = tt
entry_small ts (TApp p a) few parts small = tt
entry_small ts (Pi a b) few parts small = tt

entries_small : (v : ℕ) (us ts : List Tree) → length (ts ++ us) ≤ 262144 → ArePostorder ts us → AreTerms v us → AreFields (later_fields ts us)
entries_small v [] ts few extends terms = tt
entries_small v (t ∷ us) ts few extends terms =
    let all : length (ts ++ t ∷ us) ≡ length ts + length (t ∷ us) = length-append ts (t ∷ us) in
    let same : length ((ts ++ t ∷ []) ++ us) ≡ length (ts ++ t ∷ us) = ap length (append_assoc ts (t ∷ []) us) in
    let first = entry_small ts t (omega arith) extends.0 terms.1 in
    let others = entries_small v us (ts ++ t ∷ []) (omega arith) extends.2 terms.2 in
    subst AreFields (sym (later_fields-cons ts us t extends.0)) (AreFields-append (entry_fields ts t) (later_fields (ts ++ t ∷ []) us) first others)

invs_small : (es : List Tree) (words low : ℕ) (invs : List (ℕ × Tree)) → length es ≤ 262144 → words ≤ 1024 → AreRising low words invs → AreEmitted es (inv_trees_of invs) → AreFields (flat_map (inv_fields es) invs)
invs_small es words low [] few short rising listed = tt
invs_small es words low (inv ∷ invs) few short rising listed =
    let number = number_is es inv.1 listed.0 in
    (omega (arith, rising.1), (omega (arith, number.0), invs_small es words (suc inv.0) invs few short rising.2 listed.1))

pairs_small : (es : List Tree) (lemmas : List (Tree × Tree)) → length es ≤ 262144
    → AreEmitted es (lemma_roots lemmas) → AreFields (flat_map (lemma_fields es) lemmas)
pairs_small es [] few listed = tt
pairs_small es (l ∷ lemmas) few listed =
    let formula = number_is es l.0 listed.0 in
    let proof = number_is es l.1 listed.1.0 in (
      omega (arith, formula.0),
      (omega (arith, proof.0), pairs_small es lemmas few listed.1.1),
    )

lemmas_small : (v : ℕ) (es : List Tree) (lemmas : List (Tree × Tree)) → length es ≤ 262144
    → AreLemmasOf v lemmas → AreEmitted es (lemma_roots lemmas)
    → AreFields (lemmas_fields v es lemmas)
lemmas_small v es lemmas few of_version listed = go (has_lemmas v)
  where
    go : (b : Bool) → AreFields (cond b (length lemmas ∷ flat_map (lemma_fields es) lemmas) [])
    go true = (omega (arith, few_lemmas v lemmas of_version), pairs_small es lemmas few listed)
    go false = tt

proof_small : (es : List Tree) (proof : Option Tree) → length es ≤ 262144 → AreEmitted es (one_or_none proof) → proof_field es proof < 2 ^ 32
proof_small es None few listed = omega arith
proof_small es (Some t) few listed = let number = number_is es t listed.0 in omega (arith, number.0)

pub AreEmitted-split : (es rs qs : List Tree) → AreEmitted es (rs ++ qs) → AreEmitted es rs × AreEmitted es qs
AreEmitted-split es [] qs p = (tt, p)
AreEmitted-split es (r ∷ rs) qs p = let both = AreEmitted-split es rs qs p.1 in ((p.0, both.0), both.1)

pub AreEmitted-append : (es rs qs : List Tree) → AreEmitted es rs → AreEmitted es qs → AreEmitted es (rs ++ qs)
AreEmitted-append es [] qs p q = q
AreEmitted-append es (r ∷ rs) qs p q = (p.0, AreEmitted-append es rs qs p.1 q)

-- there are at most 1024 words of code
pub words_short : (c : Contents) → IsContents c → length c.code / 4 ≤ 1024
words_short c p = omega (arith, p.short)

pub tail_small : (c : Contents) → IsContents c → AreFields (tail_fields (entries (roots c)) c)
tail_small c p =
    let es : List Tree = entries (roots c) in
    let listed =
    AreEmitted-split es (inv_trees_of c.invs) (lemma_roots c.lemmas ++ one_or_none c.proof)
    (entries_listed (roots c)) in
    let both = AreEmitted-split es (lemma_roots c.lemmas) (one_or_none c.proof) listed.1 in
    let of_entries = entries_small c.version es [] p.entries (entries_grow (roots c)) (entries_terms c.version (roots c) p.terms) in
    let of_invs = invs_small es (length c.code / 4) 0 c.invs p.entries (words_short c p) p.rising listed.0 in
    let lemmas : List ℕ = lemmas_fields c.version es c.lemmas in
    let of_lemmas : AreFields lemmas =
    lemmas_small c.version es c.lemmas p.entries p.lemmas both.0 in
    let proof : List ℕ = proof_field es c.proof ∷ [] in
    let of_proof : AreFields proof = (proof_small es c.proof p.entries both.1, tt) in
    let invs : List ℕ = length c.invs ∷ flat_map (inv_fields es) c.invs in
    let last = AreFields-append lemmas proof of_lemmas of_proof in
    let behind = AreFields-append invs (lemmas ++ proof) (omega (arith, p.invs), of_invs) last in
    AreFields-append (length es ∷ flat_map (entry_fields es) es) (invs ++ (lemmas ++ proof))
    (omega (arith, p.entries), of_entries) behind
