-- What the stages find is what the listing tells.
use Rattle.std.proofs.Common.{◌≡◌, ℕ, List, Option, Some, None, Result, Ok, Err, refl, sym, ap, ◌∙◌, subst}
use Rattle.std.specs.Prelude.{is_some}
use Rattle.std.specs.Result.{IsErrAnd}
use Rattle.alpha_words.specs.declared.insn.Insn.{Insn}
use Rattle.term_table.specs.Tree.{Tree}
use Rattle.term_table.specs.Steps.{◌>>=◌}
use Rattle.lf_signature.specs.declared.editions.WordSignature.{WordSignature}
use Rattle.vcgen.specs.Encoded.{AreForms}
use Rattle.proof_container.specs.Contents.{Contents, roots}
use Rattle.proof_container.specs.Versions.{signature_of}
use Rattle.pcc_gate.specs.First.{formless, formulas}
use Rattle.pcc_gate.proofs.Searches.{none_forms}
use Rattle.asm_print.specs.Listing.{code_text}
use Rattle.view_container.specs.declared.stop.NoSource.{NoSource}
use Rattle.view_container.specs.declared.stop.NoSource.TheVariants.{NotForm}
use Rattle.view_container.specs.declared.stop.Stop.{Stop}
use Rattle.view_container.specs.declared.stop.Stop.TheVariants as stop
use Rattle.view_container.specs.declared.stop.ListFault.{ListFault}
use Rattle.view_container.specs.declared.stop.ListFault.TheVariants as fault
use Rattle.view_container.specs.Sources.{extras_of, unless, listed_code, if_low, if_forms, if_short, if_whole, source_listing}
use Rattle.view_container.specs.Beside.{BesideView}
use Rattle.view_container.specs.Plain.{plain_text}
use Rattle.view_container.specs.Listing.{source_or_comments, listing_text, contents_read, comments_in, listing_of}
use Rattle.view_container.specs.Answers.{IsTold, IsReason, Finds}

-- ---- a source

no-formless : (o : Option ℕ)
    → ◌≡◌ {A = Result (Unit {0}) NoSource} (unless (is_some o) NotForm tt) (Ok tt) → o ≡ None
no-formless None e = refl
no-formless (Some k) e = absurd cc

-- the invariants are formulas
pub are-forms : (s : WordSignature) (bound : Option ℕ) (invs : List (ℕ × Tree))
    → if_forms s bound invs ≡ Ok tt → AreForms s bound invs
are-forms s bound invs e = none_forms s bound invs 0 (no-formless (formless s bound 0 invs) e)

-- what is left where the contents are code, low, and formulas
abbrev pub rest_of : Contents → BesideView → List Insn → Result (List ℕ) NoSource
rest_of c beside code =
    if_short (formulas c.invs) >>= λ invs. if_whole (code_text (extras_of c beside) code invs)

pub source-rest : (c : Contents) (beside : BesideView) (code : List Insn) → listed_code c ≡ Ok code
    → if_low (roots c) ≡ Ok tt → if_forms (signature_of c.version) c.bound c.invs ≡ Ok tt
    → source_listing c beside ≡ rest_of c beside code
source-rest c beside code is low forms =
    ap (λ r. r >>= λ code. if_low (roots c) >>= λ _.
    if_forms (signature_of c.version) c.bound c.invs >>= λ _. rest_of c beside code) is
    ∙ ap (λ r. r >>= λ _.
    if_forms (signature_of c.version) c.bound c.invs >>= λ _. rest_of c beside code) low
    ∙ ap (λ r. r >>= λ _. rest_of c beside code) forms

-- a reason stays the first where more would follow
pub reason-first : {A B : Type 0} (r : Result A NoSource) (f : A → Result B NoSource) (e : Stop)
    → IsReason r e → IsReason (r >>= f) e
reason-first r f (stop.Not why) h = ap (λ x. x >>= f) h
reason-first r f stop.Memory h = tt
reason-first r f stop.Results h = tt

-- an early return keeps what is said of its error
pub carried : {X Y : Type 0} (view : X → Y) (said : Result Y NoSource) (e : Stop) → IsReason said e
    → (r : Result X Stop) → IsErrAnd r (λ y. y ≡ e) → Finds view said r
carried view said e h (Ok x) k = absurd k
carried view said e h (Err y) k = subst (λ z. IsReason said z) (sym k) h

-- ---- a listing

pub told-fault : (bytes : List ℕ) (beside : BesideView) (e : ListFault) → IsTold (contents_read bytes) e
    → IsTold (listing_of bytes beside) e
unfolding listing_of
told-fault bytes beside (fault.TooLong length) h = ap (λ r. r >>= λ c. Ok (listing_text c beside)) h
told-fault bytes beside (fault.Malformed offset flaw) h =
    ap (λ r. r >>= λ c. Ok (listing_text c beside)) h
told-fault bytes beside fault.Memory h = tt
told-fault bytes beside fault.Results h = tt

pub told-source : (bytes : List ℕ) (beside : BesideView) (c : Contents) (text : List ℕ)
    → contents_read bytes ≡ Ok c → source_listing c beside ≡ Ok text
    → listing_of bytes beside ≡ Ok text
unfolding listing_of
told-source bytes beside c text read is =
    ap (λ r. r >>= λ d. Ok (listing_text d beside)) read ∙ ap (λ s. Ok (source_or_comments c s)) is

pub told-comments : (bytes : List ℕ) (beside : BesideView) (c : Contents) (why : NoSource)
    → contents_read bytes ≡ Ok c → source_listing c beside ≡ Err why
    → listing_of bytes beside ≡ comments_in bytes why
unfolding listing_of
told-comments bytes beside c why read is =
    ap (λ r. r >>= λ d. Ok (listing_text d beside)) read
    ∙ ap (λ s. Ok (source_or_comments c s)) is
    ∙ sym (ap (λ r. r >>= λ d. Ok (plain_text d why)) read)
