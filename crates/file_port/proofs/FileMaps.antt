-- What a map of files has of a name: in the map of a list it is what a search of the list finds.
use Rattle.std.proofs.Common.{◌≡◌, ◌≢◌, ℕ, Bool, true, false, cond, List, [], ◌∷◌, map, find, option_map, string_bytes, Option, Some, refl, sym, ap, ◌∙◌}
use Rattle.std.specs.Ordering.{nat_cmp}
use Rattle.std.specs.Cmp.Lexicographic.{slice_cmp, texts_ties}
use Rattle.std.proofs.lemmas.Bool.{false_from_ne_true}
use Rattle.std.proofs.lemmas.Slice.Eq.{bytes_eq-Decides}
use Rattle.std.proofs.lemmas.Cmp.{nat_list_cmp_total}
use Rattle.std.specs.FinMap as finmap
use Rattle.std.specs.Str.{bytes_eq}
use Rattle.std.specs.declared.string.String.{String}
use Rattle.std.specs.declared.vec.Vec.{Vec}
use Rattle.std.specs.declared.alloc.Global.{Global}
use Rattle.file_port.specs.Files.{FileMap}
use Rattle.file_port.specs.MemFiles.{file_map}

option_map-cond : {X Y : Type 0} (f : X → Y) (b : Bool) (x : X) (o : Option X) → option_map f (cond b (Some x) o) ≡ cond b (Some (f x)) (option_map f o)
option_map-cond f true x o = refl
option_map-cond f false x o = refl

find-files : (files : List (String Global × Vec ℕ Global)) (name : List ℕ) → finmap.find (slice_cmp nat_cmp) name (map (λ e. (string_bytes e.0, e.1.items)) files) ≡ option_map (λ e. e.1.items) (find (λ e. bytes_eq name (string_bytes e.0)) files)
find-files [] name = refl
find-files (e ∷ files) name =
    ap (λ b. cond b (Some e.1.items) (finmap.find (slice_cmp nat_cmp) name (map (λ e. (string_bytes e.0, e.1.items)) files))) (sym (texts_ties name (string_bytes e.0)))
    ∙ ap (cond (bytes_eq name (string_bytes e.0)) (Some e.1.items)) (find-files files name)
    ∙ sym (option_map-cond (λ e. e.1.items) (bytes_eq name (string_bytes e.0)) e _)

pub get-file_map : (files : List (String Global × Vec ℕ Global)) (name : List ℕ) → finmap.get (file_map files) name ≡ option_map (λ e. e.1.items) (find (λ e. bytes_eq name (string_bytes e.0)) files)
get-file_map files name = finmap.get-from_entries nat_list_cmp_total _ name ∙ find-files files name

get-insert : (files : FileMap) (name bytes other : List ℕ) → finmap.get (finmap.insert files name bytes) other ≡ cond (bytes_eq other name) (Some bytes) (finmap.get files other)
get-insert files name bytes other =
    finmap.get-insert nat_list_cmp_total files name bytes other ∙ ap (λ b. cond b (Some bytes) (finmap.get files other)) (sym (texts_ties other name))

-- the file that was set
pub get-insert_same : (files : FileMap) (name bytes : List ℕ) → finmap.get (finmap.insert files name bytes) name ≡ Some bytes
get-insert_same files name bytes =
    get-insert files name bytes name ∙ ap (λ b. cond b (Some bytes) (finmap.get files name)) ((bytes_eq-Decides name name).1 refl)

-- another file
pub get-insert_other : (files : FileMap) (name bytes other : List ℕ) → other ≢ name → finmap.get (finmap.insert files name bytes) other ≡ finmap.get files other
get-insert_other files name bytes other apart =
    get-insert files name bytes other
    ∙ ap (λ b. cond b (Some bytes) (finmap.get files other)) (false_from_ne_true (bytes_eq other name) (λ same. apart ((bytes_eq-Decides other name).0 same)))
