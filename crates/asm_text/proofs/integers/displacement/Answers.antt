use Rattle.std.proofs.Common.{ℕ, List, Bor, sym, subst}
use Rattle.std.specs.Option.{option_map}
use Rattle.asm_text.specs.Integers.{lexeme_integer}
use Rattle.asm_text.specs.InsnParsing.{displacement_of}
use Rattle.asm_text.specs.Inside.Views.{Yields}
use Rattle.asm_text.proofs.integers.displacement.Goals as goal

pub returns-in-Some : goal.returns-in-Some
returns-in-Some c =
    subst (λ o. Yields (λ d. d) (displacement_of (option_map {T = Bor (List ℕ)} (λ w. w.now) o)) c.in_displacement.result) (sym c.in-Some.is)
    (c.in_displacement.ensures (lexeme_integer c.in-Some.lexeme.now) c.read_integer.ensures)
