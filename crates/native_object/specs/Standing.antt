-- The parts of an object file stand where its headers and symbols say.
use Rattle.std.specs.Prelude.{◌≡◌, ℕ, ◌+◌, List, ◌∷◌, ◌++◌, drop, length, codes}
use Rattle.std.specs.List.{flat_map}
use Rattle.native_object.specs.Object.{SECTIONS_AT, SYMBOLS_AT, TEXT_AT, elf_header, section_bytes, sections, symbols, symbol_section, name_section, front, names}

-- Each part begins where it is said to, and is as long as it is said to be.
pub record StandsAsSaid (name text : List ℕ) : Type 0 where
  pub sections_at : length elf_header ≡ SECTIONS_AT
  pub symbols_at : length elf_header + length (flat_map section_bytes (sections (length name) (length text))) ≡ SYMBOLS_AT
  pub text_at : length (front (length name) (length text)) ≡ TEXT_AT
  pub symbol_size : length (symbols (length text)) ≡ symbol_section.size
  pub name_size : length (names name) ≡ (name_section (TEXT_AT + length text) (40 + length name)).size

-- The name at an offset of the string table: it ends before the next 0.
pub record HasNameAt (table name : List ℕ) (at : ℕ) : Type 0 where
  pub after : List ℕ
  pub begins : drop at table ≡ name ++ 0 ∷ after

-- The names of the sections and of the function stand where the headers and the symbol say.
pub record NamesStand (name : List ℕ) : Type 0 where
  pub text : HasNameAt (names name) (codes ".text") 1
  pub stack : HasNameAt (names name) (codes ".note.GNU-stack") 7
  pub symbols : HasNameAt (names name) (codes ".symtab") 23
  pub strings : HasNameAt (names name) (codes ".strtab") 31
  pub function : HasNameAt (names name) name 39
