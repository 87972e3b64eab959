-- The bytes of placed instructions, one more at a time, and the lengths of their fronts.
use Rattle.std.proofs.Common.{◌≡◌, ℕ, zero, suc, ◌+◌, ◌<◌, ◌≤◌, List, [], ◌∷◌, ◌++◌, take, get_or, length}
use Rattle.std.proofs.Common.{refl, sym, ap, ◌∙◌, arith}
use Rattle.std.proofs.Math.Seq.{take-suc}
use Rattle.std.specs.List.{All, flat_map}
use Rattle.std.proofs.lemmas.List.{append-nil}
use Rattle.std.proofs.lemmas.Grind.{flat_map-append}
use Rattle.x86_words.specs.Encoding.{bytes_of}
use Rattle.native_code.specs.declared.insn.NativeInsn.{NativeInsn}
use Rattle.native_code.specs.declared.insn.NativeInsn.TheVariants.{Plain, Go, GoIf}
use Rattle.native_code.specs.Layout.{native_length, code_length, placed, placed_from, LeadsBelow}
use Rattle.native_code.proofs.Texts.{length-append-code, placed-append, placed-length, bytes-length}

-- the bytes of instructions from offset 0 on
abbrev pub bytes_placed : (ℕ → ℕ) → List NativeInsn → List ℕ
bytes_placed f l = flat_map bytes_of (placed_from f 0 l)

pub bytes-count : (f : ℕ → ℕ) (l : List NativeInsn) → length (bytes_placed f l) ≡ code_length l
bytes-count f l = bytes-length (placed_from f 0 l) ∙ placed-length f 0 l

pub bytes-more : (f : ℕ → ℕ) (l : List NativeInsn) (i : NativeInsn)
    → bytes_placed f (l ++ i ∷ []) ≡ bytes_placed f l ++ bytes_of (placed f (code_length l) i)
bytes-more f l i =
    let zero_up : 0 + code_length l ≡ code_length l = omega arith in
    let split : placed_from f 0 (l ++ i ∷ []) ≡ placed_from f 0 l ++ (placed f (code_length l) i ∷ []) =
    placed-append f 0 l (i ∷ []) ∙ ap (λ n. placed_from f 0 l ++ placed_from f n (i ∷ [])) zero_up in
    ap (flat_map bytes_of) split ∙ flat_map-append bytes_of (placed_from f 0 l) (placed f (code_length l) i ∷ [])
    ∙ ap (λ b. bytes_placed f l ++ b) (append-nil (bytes_of (placed f (code_length l) i)))

-- ---- lengths

pub length-more : (l : List NativeInsn) (i : NativeInsn) → code_length (l ++ i ∷ []) ≡ code_length l + native_length i
length-more l i = let e = length-append-code l (i ∷ []) in omega (arith, e)

pub front-length : (n : ℕ) (l : List NativeInsn) → code_length (take n l) ≤ code_length l
front-length zero l = omega arith
front-length (suc n) [] = omega arith
front-length (suc n) (i ∷ rest) = let h = front-length n rest in omega (arith, h)

-- ---- the front is one longer

pub taken : (l : List NativeInsn) (n : ℕ) (x : NativeInsn) → n < length l → x ≡ get_or l n x → take (n + 1) l ≡ take n l ++ x ∷ []
taken l n x low is =
    let one : n + 1 ≡ suc n = omega arith in
    ap (λ k. take k l) one ∙ take-suc l n x low ∙ ap (λ y. take n l ++ y ∷ []) (sym is)

pub length-taken : (l : List NativeInsn) (n : ℕ) (x : NativeInsn) → n < length l → x ≡ get_or l n x
    → code_length (take (n + 1) l) ≡ code_length (take n l) + native_length x
length-taken l n x low is = ap code_length (taken l n x low is) ∙ length-more (take n l) x

pub length-within : (l : List NativeInsn) (n : ℕ) (x : NativeInsn) → n < length l → x ≡ get_or l n x
    → code_length (take n l) + native_length x ≤ code_length l
length-within l n x low is =
    let e = length-taken l n x low is in
    let h = front-length (n + 1) l in
    omega (arith, e, h)

-- the bytes that stand in front are as many as their instructions take
pub count-below : (f : ℕ → ℕ) (l : List NativeInsn) (n : ℕ) (out : List ℕ) → out ≡ bytes_placed f (take n l) → length out ≤ code_length l
count-below f l n out is =
    let e = ap length is ∙ bytes-count f (take n l) in
    let h = front-length n l in
    omega (arith, e, h)

pub one-placed : (f : ℕ → ℕ) (l : List NativeInsn) (n at : ℕ) (x : NativeInsn) (out out' : List ℕ) → n < length l → x ≡ get_or l n x
    → at ≡ length out → out ≡ bytes_placed f (take n l) → out' ≡ out ++ bytes_of (placed f at x) → out' ≡ bytes_placed f (take (n + 1) l)
one-placed f l n at x out out' low is count before after =
    let here : at ≡ code_length (take n l) = count ∙ ap length before ∙ bytes-count f (take n l) in
    after ∙ ap (λ k. out ++ bytes_of (placed f k x)) here ∙ ap (λ b. b ++ bytes_of (placed f (code_length (take n l)) x)) before
    ∙ sym (bytes-more f (take n l) x) ∙ ap (bytes_placed f) (sym (taken l n x low is))

-- ---- where blocks begin decides

placed-same : (f g : ℕ → ℕ) (n at : ℕ) (i : NativeInsn) → ((k : ℕ) → k < n → f k ≡ g k) → LeadsBelow n i → placed f at i ≡ placed g at i
placed-same f g n at (Plain i) same h = refl
placed-same f g n at (Go k) same h = ap (λ z. placed (λ j. z) at (Go k)) (same k h)
placed-same f g n at (GoIf c k) same h = ap (λ z. placed (λ j. z) at (GoIf c k)) (same k h)

pub all-same : (f g : ℕ → ℕ) (n at : ℕ) (l : List NativeInsn) → ((k : ℕ) → k < n → f k ≡ g k) → All (LeadsBelow n) l
    → placed_from f at l ≡ placed_from g at l
all-same f g n at [] same h = refl
all-same f g n at (i ∷ rest) same h =
    let first = placed-same f g n at i same (h 0 i (omega arith)) in
    let tail : All (LeadsBelow n) rest = λ k d low. h (suc k) d (omega (arith, low)) in
    let others = all-same f g n (at + native_length i) rest same tail in
    ap (λ x. x ∷ placed_from f (at + native_length i) rest) first ∙ ap (λ l. placed g at i ∷ l) others
