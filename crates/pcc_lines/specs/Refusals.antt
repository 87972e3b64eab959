-- Why a container is refused.
use Rattle.std.specs.Prelude.{ℕ, List, ◌++◌, codes, decimal}
use Rattle.alpha_words.specs.declared.fault.BadWord.{BadWord}
use Rattle.alpha_words.specs.Names.{bad_word_name}
use Rattle.alpha_cfg.specs.declared.fault.CodeFlaw.{CodeFlaw}
use Rattle.alpha_cfg.specs.declared.fault.CodeFlaw.TheVariants as code
use Rattle.proof_container.specs.declared.fault.Flaw.{Flaw}
use Rattle.proof_container.specs.Names.{flaw_name}
use Rattle.proof_container.specs.declared.container.Head.{Head}
use Rattle.proof_container.specs.declared.container.Head.TheVariants.{Number, Digest}
use Rattle.pcc_lines.specs.Line.{hex_digits, hex_bytes}
use Rattle.pcc_gate.specs.declared.refusal.Refusal.{Refusal}
use Rattle.pcc_gate.specs.declared.refusal.Refusal.TheVariants as refusal

-- a word that is no instruction: its index, the kind of fault, and the word
abbrev pub bad_word_text : ℕ → ℕ → BadWord → List ℕ
bad_word_text i word bad = decimal i ++ codes " " ++ bad_word_name bad ++ codes " " ++ hex_digits 8 word

-- what is wrong with code
abbrev pub code_flaw_text : CodeFlaw → List ℕ
code_flaw_text (code.BadWord i word bad) = bad_word_text i word bad
code_flaw_text (code.Target i) = decimal i ++ codes " Target"
code_flaw_text (code.FallsOff i) = decimal i ++ codes " FallsOff"

-- where bytes are no container, and what is wrong there
abbrev pub malformed_text : ℕ → Flaw → List ℕ
malformed_text offset flaw = decimal offset ++ codes " " ++ flaw_name flaw

-- what names a policy: its number, or the digits of its digest
abbrev pub head_text : Head → List ℕ
head_text (Number number) = decimal number
head_text (Digest digest) = hex_bytes digest

-- the number that a refusal's line has after `refused`
abbrev pub refusal_number : Refusal → ℕ
refusal_number (refusal.TooLong length) = 1
refusal_number (refusal.Malformed offset flaw) = 2
refusal_number (refusal.OtherPolicy head) = 3
refusal_number (refusal.BadCode flaw) = 4
refusal_number (refusal.Height h) = 5
refusal_number (refusal.InvNotForm k) = 6
refusal_number (refusal.LemmaNotForm k) = 13
refusal_number (refusal.Uncut i) = 7
refusal_number (refusal.UnfoldLimit n) = 8
refusal_number refusal.NoProof = 9
refusal_number (refusal.ProofWeight n) = 10
refusal_number (refusal.LemmaNotProof k) = 14
refusal_number refusal.NotProof = 11

-- the number and the name of a check, and what is wrong
abbrev pub refusal_words : Refusal → List ℕ
refusal_words (refusal.TooLong length) = codes "1 TooLong"
refusal_words (refusal.Malformed offset flaw) = codes "2 Malformed " ++ malformed_text offset flaw
refusal_words (refusal.OtherPolicy head) = codes "3 OtherPolicy " ++ head_text head
refusal_words (refusal.BadCode flaw) = codes "4 BadCode " ++ code_flaw_text flaw
refusal_words (refusal.Height h) = codes "5 Height " ++ decimal h
refusal_words (refusal.InvNotForm k) = codes "6 InvNotForm " ++ decimal k
refusal_words (refusal.LemmaNotForm k) = codes "13 LemmaNotForm " ++ decimal k
refusal_words (refusal.Uncut i) = codes "7 Uncut " ++ decimal i
refusal_words (refusal.UnfoldLimit n) = codes "8 UnfoldLimit " ++ decimal n
refusal_words refusal.NoProof = codes "9 NoProof"
refusal_words (refusal.ProofWeight n) = codes "10 ProofWeight " ++ decimal n
refusal_words (refusal.LemmaNotProof k) = codes "14 LemmaNotProof " ++ decimal k
refusal_words refusal.NotProof = codes "11 NotProof"

-- why a container is refused
abbrev pub refusal_text : Refusal → List ℕ
refusal_text refusal = codes "refused " ++ refusal_words refusal

-- the line of a refusal
unfoldable pub refusal_line : Refusal → List ℕ
refusal_line refusal = refusal_text refusal ++ codes "\n"
