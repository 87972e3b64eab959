use Rattle.std.proofs.Common.{[], ◌∷◌}
use Rattle.native_object.specs.Object.{word_bytes, xword_bytes}
use Rattle.native_object.proofs.Appending.{four-parts}
use Rattle.native_object.proofs.sections.Section.put.Goals as goal

pub returns : goal.returns
returns c =
    let s = c.args.self.now in
    four-parts c.args.out.now.items (word_bytes (s.name ∷ s.kind ∷ [])) (xword_bytes (s.flags ∷ 0 ∷ s.offset ∷ s.size ∷ []))
    (word_bytes (s.link ∷ s.info ∷ [])) (xword_bytes (s.align ∷ s.entry ∷ []))
    c.put_words.new.out.items c.put_xwords.new.out.items c.put_words-2.new.out.items c.put_xwords-2.new.out.items
    c.in_ok-put_words.ensures c.in_ok-put_xwords.ensures c.in_ok-put_words-2.ensures c.in_ok-put_xwords-2.ensures
