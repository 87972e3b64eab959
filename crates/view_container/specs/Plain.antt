-- A container in comments, the last of which says why it is no source.
use Rattle.std.specs.Prelude.{ℕ, suc, ◌^◌, max, ◌==◌, if◌then◌else◌, List, [], ◌∷◌, ◌++◌, codes, map, Option, Some, None, Result, Ok, Err}
use Rattle.std.specs.List.{flat_map, range_with_len}
use Rattle.word_ops.specs.declared.Profile.{Profile}
use Rattle.alpha_words.specs.declared.insn.Insn.{Insn}
use Rattle.alpha_words.specs.declared.fault.BadWord.{BadWord}
use Rattle.alpha_words.specs.Names.{bad_word_name}
use Rattle.alpha_words.specs.Decoding.{decoded}
use Rattle.alpha_words.specs.Lawful.{target_of}
use Rattle.alpha_cfg.specs.CodeBytes.{code_word_at}
use Rattle.alpha_cfg.specs.CodeDecoding.{is_inside}
use Rattle.term_table.specs.Tree.{Tree}
use Rattle.proof_container.specs.Versions.{profile_of}
use Rattle.proof_container.specs.Contents.{Contents, roots}
use Rattle.proof_container.specs.Postorder.{entries}
use Rattle.proof_container.specs.Encoding.{entry_number}
use Rattle.asm_print.specs.Printing.{insn_text}
use Rattle.view_entries.specs.Entries.{entry_name, entry_line}
use Rattle.view_container.specs.declared.stop.NoSource.{NoSource}
use Rattle.view_container.specs.declared.stop.NoSource.TheVariants.{NotCode, TooHigh, NotForm, LongInv, LongText}
use Rattle.view_container.specs.Words.{indices_of, indexed_word}
use Rattle.view_container.specs.Notes.{notes_of}

-- ---- words

-- the instruction at an index, where its branch, if it's one, leads to an index of 32 bits
abbrev pub insn_or_flaw : ℕ → Result Insn BadWord → List ℕ
insn_or_flaw i (Ok insn) =
    if is_inside (2 ^ 32) (target_of i insn) then insn_text i insn else codes "Target"
insn_or_flaw i (Err bad) = bad_word_name bad

-- a word with its index, and the instruction or what is wrong with it
abbrev pub word_line : Profile → List ℕ → ℕ → List ℕ
word_line p code i = indexed_word code i ++ (32 ∷ insn_or_flaw i (decoded p (code_word_at code i)))

-- the invariant of an index
abbrev pub index_inv : ℕ → List (ℕ × Tree) → Option Tree
index_inv i [] = None
index_inv i (inv ∷ invs) = if inv.0 == i then Some inv.1 else index_inv i invs

-- an invariant by the name of its entry, if there is one
abbrev pub inv_lines : List Tree → Option Tree → List (List ℕ)
inv_lines es None = []
inv_lines es (Some t) = (codes "   .inv " ++ entry_name (entry_number es t)) ∷ []

-- an index: its invariant, if it has one, and its word
abbrev pub index_lines : Contents → ℕ → List (List ℕ)
index_lines c i =
    inv_lines (entries (roots c)) (index_inv i c.invs)
    ++ word_line (profile_of c.version) c.code i ∷ []

-- ---- entries

-- how many entries there are up to the last that is an invariant
abbrev pub inv_entries : List Tree → List (ℕ × Tree) → ℕ
inv_entries es [] = 0
inv_entries es (inv ∷ invs) = max (suc (entry_number es inv.1)) (inv_entries es invs)

-- so many entries
abbrev pub entry_lines : List Tree → ℕ → List (List ℕ)
entry_lines es count = map (entry_line es) (range_with_len 0 count)

-- ---- all

-- why the contents are no source
abbrev pub no_source_text : NoSource → List ℕ
no_source_text NotCode = codes "this is no source: the words are no code"
no_source_text TooHigh = codes "this is no source: a term is too high"
no_source_text NotForm = codes "this is no source: an invariant is no formula"
no_source_text LongInv = codes "this is no source: an invariant is too long"
no_source_text LongText = codes "this is no source: the text is too long"

-- the indices, the entries that invariants are made of, the notes, and why they are no source
abbrev pub plain_lines : Contents → NoSource → List (List ℕ)
plain_lines c why =
    let es = entries (roots c) in
    flat_map (index_lines c) (indices_of c.code)
    ++ (entry_lines es (inv_entries es c.invs) ++ (notes_of c ++ no_source_text why ∷ []))

-- a line that is a comment
abbrev pub comment_line : List ℕ → List ℕ
comment_line line = codes "# " ++ (line ++ 10 ∷ [])

-- the contents in comments
abbrev pub plain_text : Contents → NoSource → List ℕ
plain_text c why = flat_map comment_line (plain_lines c why)
