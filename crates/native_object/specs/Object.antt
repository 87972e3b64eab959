-- An object file that has one function: relocatable ELF for x86-64, without relocations.
-- System V Application Binary Interface, edition 4.1 and its 64-bit drafts, chapter 4, "Object Files": "ELF Header" (figures 4-3, 4-4 and those of
-- e_ident), "Sections" (figures 4-8 to 4-12, "Special Sections"), "String Table", "Symbol Table" (figures 4-15 to 4-18). AMD64 Architecture Processor
-- Supplement, section 4.1, "ELF Header": machine 62. `.note.GNU-stack`, a section of GNU's: the program wants no executable stack.
use Rattle.std.specs.Prelude.{ℕ, ◌+◌, List, [], ◌∷◌, ◌++◌, length, replicate, codes}
use Rattle.std.specs.List.{flat_map}
use Rattle.std.specs.Int.{to_le_bytes, w16, w32, w64}
use Rattle.native_object.specs.declared.sections.Section.{Section}

-- numbers of two bytes each, little-endian (ELFDATA2LSB)
abbrev pub half_bytes : List ℕ → List ℕ
half_bytes l = flat_map (to_le_bytes w16) l

-- numbers of four bytes each
abbrev pub word_bytes : List ℕ → List ℕ
word_bytes l = flat_map (to_le_bytes w32) l

-- numbers of eight bytes each
abbrev pub xword_bytes : List ℕ → List ℕ
xword_bytes l = flat_map (to_le_bytes w64) l

-- ---- the parts, in the file's order

-- section headers stand after the ELF header
abbrev pub SECTIONS_AT : ℕ
SECTIONS_AT = 64

-- then symbols
abbrev pub SYMBOLS_AT : ℕ
SYMBOLS_AT = 384

-- then the text, at a multiple of 32; names stand at the end
abbrev pub TEXT_AT : ℕ
TEXT_AT = 448

-- e_ident: the magic number, ELFCLASS64, ELFDATA2LSB, EV_CURRENT, ELFOSABI_NONE, ABI version 0, padding
abbrev pub ident : List ℕ
ident = 0x7F ∷ codes "ELF" ++ (2 ∷ 1 ∷ 1 ∷ replicate 9 0)

-- The ELF header: e_type ET_REL, e_machine EM_X86_64; e_version EV_CURRENT; e_entry, e_phoff, e_shoff; e_flags;
-- e_ehsize, e_phentsize, e_phnum, e_shentsize, e_shnum, e_shstrndx.
abbrev pub elf_header : List ℕ
elf_header =
    ident ++ (half_bytes (1 ∷ 62 ∷ []) ++ (word_bytes (1 ∷ []) ++ (xword_bytes (0 ∷ 0 ∷ SECTIONS_AT ∷ []) ++ (word_bytes (0 ∷ [])
    ++ half_bytes (64 ∷ 0 ∷ 0 ∷ 64 ∷ 5 ∷ 4 ∷ [])))))

-- A section header: sh_name, sh_type; sh_flags, sh_addr, sh_offset, sh_size; sh_link, sh_info; sh_addralign, sh_entsize.
abbrev pub section_bytes : Section → List ℕ
section_bytes s =
    word_bytes (s.name ∷ s.kind ∷ []) ++ (xword_bytes (s.flags ∷ 0 ∷ s.offset ∷ s.size ∷ []) ++ (word_bytes (s.link ∷ s.info ∷ []) ++ xword_bytes (s.align ∷ s.entry ∷ [])))

-- names of sections, each with its end; they begin at 1, 7, 23 and 31, and the function's name at 39
abbrev pub section_names : List ℕ
section_names = 0 ∷ codes ".text" ++ (0 ∷ codes ".note.GNU-stack" ++ (0 ∷ codes ".symtab" ++ (0 ∷ codes ".strtab" ++ (0 ∷ []))))

-- section 0, which is nothing (SHT_NULL)
abbrev pub null_section : Section
null_section = record { name = 0; kind = 0; flags = 0; offset = 0; size = 0; link = 0; info = 0; align = 0; entry = 0 }

-- .text: SHT_PROGBITS, SHF_ALLOC and SHF_EXECINSTR, aligned to 32
abbrev pub text_section : ℕ → Section
text_section size = record { name = 1; kind = 1; flags = 6; offset = TEXT_AT; size = size; link = 0; info = 0; align = 32; entry = 0 }

-- .note.GNU-stack: SHT_PROGBITS, empty
abbrev pub stack_section : ℕ → Section
stack_section end = record { name = 7; kind = 1; flags = 0; offset = end; size = 0; link = 0; info = 0; align = 1; entry = 0 }

-- .symtab: SHT_SYMTAB; its names are in section 4, and the first global symbol is 1
abbrev pub symbol_section : Section
symbol_section = record { name = 23; kind = 2; flags = 0; offset = SYMBOLS_AT; size = 48; link = 4; info = 1; align = 8; entry = 24 }

-- .strtab: SHT_STRTAB, the names of sections and of the function
abbrev pub name_section : ℕ → ℕ → Section
name_section at size = record { name = 31; kind = 3; flags = 0; offset = at; size = size; link = 0; info = 0; align = 1; entry = 0 }

-- all section headers, for the lengths of name and text
abbrev pub sections : ℕ → ℕ → List Section
sections name text =
    null_section ∷ text_section text ∷ stack_section (TEXT_AT + text) ∷ symbol_section ∷ name_section (TEXT_AT + text) (40 + name) ∷ []

-- Symbol 0, which is nothing, and the function: st_name; st_info (STB_GLOBAL and STT_FUNC), st_other (STV_DEFAULT); st_shndx, .text; st_value, st_size.
abbrev pub symbols : ℕ → List ℕ
symbols text = replicate 24 0 ++ (word_bytes (39 ∷ []) ++ (18 ∷ 0 ∷ half_bytes (1 ∷ []) ++ xword_bytes (0 ∷ text ∷ [])))

-- what stands in front of the text, for the lengths of name and text
abbrev pub front : ℕ → ℕ → List ℕ
front name text = elf_header ++ (flat_map section_bytes (sections name text) ++ (symbols text ++ replicate 16 0))

-- the string table: the names of sections, then the function's
abbrev pub names : List ℕ → List ℕ
names name = section_names ++ (name ++ 0 ∷ [])

-- The object file of a function with this name and this text.
abbrev pub object_bytes : List ℕ → List ℕ → List ℕ
object_bytes name text = front (length name) (length text) ++ (text ++ names name)
