use Rattle.std.proofs.Common.{◌≡◌, is_some, ◌↔◌, ap, subst}
use Rattle.asm_text.specs.Sources.{SpellsSource}
use Rattle.proof_container.specs.Versions.{profile_of}
use Rattle.pcc_gate.specs.First.{formulas}
use Rattle.asm_print.specs.Listing.{code_source}
use Rattle.view_container.specs.Sources.{extras_of}
use Rattle.view_container.specs.Listing.{source_or_comments}
use Rattle.view_container.proofs.Comments.{spellable_extras}
use Rattle.view_container.proofs.Listed.{shown, code_read, same_invs, spellable_code}
use Rattle.view_container.proofs.Differences.{same_code}
use Rattle.view_container.proofs.theorems.laws.Goals as goal

pub returns : goal.returns
returns c =
    let back = c.assembly_laws.ensures in record {
      source =
          λ k beside text h numbers e.
          let show = shown k beside text e in
          let p = profile_of k.version in
          let read = code_read p k.code show.code h.whole h.some h.short show.read in
          let can = spellable_code k show.code h read show.forms show.short in
          let extras = spellable_extras k beside h numbers in
          let invs = formulas k.invs in record {
            listed = ap (source_or_comments k) e;
            source = code_source show.code invs;
            spells =
                λ s.
                subst (λ t. SpellsSource p (is_some k.bound) t s ↔ (s ≡ code_source show.code invs))
                show.text_is
                (back.source p (is_some k.bound) show.code invs (extras_of k beside) s can extras);
            code = show.code;
            code_is = show.code_is;
            assembled = back.code p (is_some k.bound) show.code invs can;
            contents_are =
                λ policy head returns.
                back.container policy show.code invs k can
                (record {
                  head = head;
                  words = back.words p k.code show.code h.bytes read.encoded returns;
                  encodings = same_invs k.version k.bound k.invs show.forms;
                });
          };
      same = λ code other. same_code code other;
    }
