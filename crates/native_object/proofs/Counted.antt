-- Lengths of the parts of an object file.
use Rattle.std.proofs.Common.{◌≡◌, ℕ, ◌+◌, List, [], ◌∷◌, ◌++◌, length, codes, refl, arith, length-append}
use Rattle.native_object.specs.Object.{section_names, names}
use Rattle.native_object.specs.Standing.{StandsAsSaid, NamesStand}

names-count : (name : List ℕ) → length (names name) ≡ 40 + length name
names-count name =
    let e = length-append name (0 ∷ []) in
    let whole = length-append section_names (name ++ 0 ∷ []) in
    let front : length section_names ≡ 39 = refl in
    omega (arith, e, whole, front)

pub parts-stand : (name text : List ℕ) → StandsAsSaid name text
parts-stand name text = record {
  sections_at = refl;
  symbols_at = refl;
  text_at = refl;
  symbol_size = refl;
  name_size = names-count name;
}

pub names-stand : (name : List ℕ) → NamesStand name
names-stand name = record {
  text = record { after = codes ".note.GNU-stack" ++ (0 ∷ codes ".symtab" ++ (0 ∷ codes ".strtab" ++ (0 ∷ (name ++ 0 ∷ [])))); begins = refl };
  stack = record { after = codes ".symtab" ++ (0 ∷ codes ".strtab" ++ (0 ∷ (name ++ 0 ∷ []))); begins = refl };
  symbols = record { after = codes ".strtab" ++ (0 ∷ (name ++ 0 ∷ [])); begins = refl };
  strings = record { after = name ++ 0 ∷ []; begins = refl };
  function = record { after = []; begins = refl };
}
