use Rattle.std.specs.Prelude.{◌≡◌, ℕ, Bool, List, Option, is_some, Ok}
use Rattle.std.proofs.Common.{ap, ◌∙◌}
use Rattle.word_ops.specs.declared.Profile.{Profile}
use Rattle.formula_tree.specs.Formulas.{Form}
use Rattle.alpha_words.specs.declared.insn.Insn.{Insn}
use Rattle.policy_set.specs.Views.{PolicyView}
use Rattle.proof_container.specs.Versions.{profile_of}
use Rattle.pcc_asm.specs.Assembling.{plain_contents, assembled_code, assembled_contents}
use Rattle.asm_print.specs.Listing.{no_extras, code_text, code_source}
use Rattle.asm_print.specs.Laws.{IsSpellableCode, AreSpellableExtras}
use Rattle.view_container.proofs.Assembled.{code_is, contents_are, plain_without, one_source}
use Rattle.view_container.proofs.WrittenWords.{words_are}
use Rattle.view_container.proofs.theorems.assembly_laws.Goals as goal

pub returns : goal.returns
returns c =
    let parse = c.laws.ensures in
    let label = c.insn_laws.ensures in
    let print = c.laws-2.ensures in
    let assemble = c.laws-3.ensures in
    let none : AreSpellableExtras no_extras = record { comments = tt; hints = tt; notes = tt } in
    let back : (p : Profile) (left : Bool) (code : List Insn) (invs : List (ℕ × Form))
    → IsSpellableCode p left code invs → assembled_code p (code_source code invs) ≡ Ok code =
    λ p left code invs h.
    let s = code_source code invs in
    code_is label.one_label p left code (code_text no_extras code invs) s
    (assemble.assembled p left s code) (print.spells p left code invs no_extras h none)
    h.is_code h.of_profile
    (record { insns = print.insns code invs; labels = print.labels code invs }) in
    let held : (v : ℕ) (bound : Option ℕ) (policy : PolicyView) (code : List Insn)
    (invs : List (ℕ × Form)) → IsSpellableCode (profile_of v) (is_some bound) code invs
    → assembled_contents v bound policy (code_source code invs)
    ≡ Ok (plain_contents v bound policy invs code) =
    λ v bound policy code invs h.
    contents_are v bound policy code invs (code_source code invs)
    (print.invs code invs h.belong) (back (profile_of v) (is_some bound) code invs h) in
    record {
      source =
          λ p left code invs x s h g.
          one_source p left (code_text x code invs) (code_source code invs)
          (parse.sources p left (code_text x code invs)) (print.spells p left code invs x h g) s;
      code = back;
      contents = held;
      container =
          λ policy code invs k can h. held k.version k.bound policy code invs can
          ∙ ap Ok (plain_without policy code invs k h);
      words = words_are;
    }
