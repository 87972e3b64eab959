-- Blocks that are laid out fit, and their bytes are native code.
use Rattle.std.proofs.Common.{◌≡◌, ℕ, zero, suc, ◌+◌, ◌-◌, ◌%◌, ◌^◌, ◌<◌, ◌≤◌, ◌==◌, Bool, true, false, cond, replicate, List, [], ◌∷◌, ◌++◌, length}
use Rattle.std.proofs.Common.{slice_get, slice_index}
use Rattle.std.proofs.Common.{refl, sym, ap, ◌∙◌, subst, arith, inl, inr, length-append}
use Rattle.std.specs.List.{All, flat_map}
use Rattle.std.proofs.lemmas.Bool.{cases_Bool, cases_lt, cases_eq}
use Rattle.std.proofs.lemmas.List.{append-nil, get_or_past, get_or_push, get_or_append_left}
use Rattle.alpha_words.specs.declared.insn.Insn.{Insn}
use Rattle.alpha_cfg.specs.Flow.{IsCode}
use Rattle.x86_words.specs.Encoding.{bytes_of}
use Rattle.native_steps.specs.Places.{Places, ArePlaces}
use Rattle.x86_words.specs.declared.insn.X86Insn.TheVariants.{Nop}
use Rattle.native_code.specs.declared.insn.NativeInsn.{NativeInsn}
use Rattle.native_code.specs.declared.insn.NativeInsn.TheVariants.{Plain, Go}
use Rattle.native_code.specs.Heads.{is_loop_head}
use Rattle.native_code.specs.Lives.{Lean, IsLean}
use Rattle.native_code.specs.Blocks.{plain, entry_code, block_at}
use Rattle.native_code.specs.Layout.{code_length, padding, placed_from, front_code, whole_code, offset_of, LeadsBelow, SmallOffsets, InnerTargets}
use Rattle.native_code.specs.Calls.{ArePlacesOf}
use Rattle.native_code.proofs.Heading.{head-inside}
use Rattle.native_code.proofs.Texts.{length-append-code, offset-next, end-is, block, pad}
use Rattle.native_translator.specs.Translation.{IsTranslation}
use Rattle.native_translator.specs.Inside.Parts.{AreBlocks, FitsLayout}
use Rattle.native_translator.proofs.Placing.{all-same, bytes-count}

-- an index past the code is no loop head
pub no_head_past : (code : List Insn) (i : ℕ) → length code ≤ i → is_loop_head code i ≡ false
no_head_past code i past = elim (cases_Bool (is_loop_head code i)) [
  | inl h ↦ let low = head-inside code i h in absurd (omega (arith, low, past))
  | inr none ↦ none
]

-- the padding that is made
pub padding-made : (code : List Insn) (i at : ℕ) (out : List NativeInsn) → is_loop_head code i ≡ true → (at % 32 == 0) ≡ false →
    out ≡ Go i ∷ replicate ((32 - (at + 5) % 32) % 32) (Plain Nop) → out ≡ cond (is_loop_head code i) (padding i at) []
padding-made code i at out head odd is =
    is ∙ ap (λ b. cond b [] (Go i ∷ replicate ((32 - (at + 5) % 32) % 32) (Plain Nop))) (sym odd) ∙ ap (λ h. cond h (padding i at) []) (sym head)

module _ (p : Places) (lean : Lean) (metered : Bool) (code : List Insn) where
  abbrev pub start : ℕ → ℕ
  start = offset_of p lean metered code

  -- ---- while blocks are made

  -- the blocks of the indices below i, with no padding behind
  abbrev pub behind : ℕ → List NativeInsn
  behind zero = plain (entry_code p lean)
  behind (suc i) = front_code p lean metered code i ++ block p lean metered code i

  abbrev padding_at : ℕ → ℕ → List NativeInsn
  padding_at = pad p lean metered code

  front-is : (i : ℕ) → front_code p lean metered code i ≡ behind i ++ padding_at i (code_length (behind i))
  front-is zero = refl
  front-is (suc i) = refl

  -- they are made, and where they begin
  pub record AreFirst (i : ℕ) (insns : List NativeInsn) (starts : List ℕ) (at : ℕ) : Type 0 where
    pub front : insns ≡ behind i
    pub count : length starts ≡ i
    pub begins : (k : ℕ) → k < i → slice_index starts k ≡ start k
    pub next : at ≡ code_length (behind i)

  -- where the next block begins
  pub padded : (i : ℕ) (insns more : List NativeInsn) (starts : List ℕ) (at : ℕ) → more ≡ padding_at i at → AreFirst i insns starts at →
      at + code_length more ≡ start i
  padded i insns more starts at is first =
      let e = length-append-code (behind i) (padding_at i (code_length (behind i))) in
      let f = ap code_length (front-is i) in
      let m = ap code_length (is ∙ ap (padding_at i) first.next) in
      let n = first.next in
      omega (arith, e, f, m, n)

  pub first-more : (i : ℕ) (insns more block insns' : List NativeInsn) (starts starts' : List ℕ) (at at' at'' : ℕ)
      → more ≡ padding_at i at → at' ≡ at + code_length more
      → block ≡ block_at p lean metered code i (slice_get code i) → insns' ≡ (insns ++ more) ++ block → starts' ≡ starts ++ at' ∷ []
      → at'' ≡ at' + code_length block → AreFirst i insns starts at → AreFirst (i + 1) insns' starts' at''
  first-more i insns more block insns' starts starts' at at' at'' padding-is place is whole pushed sum first =
      let begin : at' ≡ start i = place ∙ padded i insns more starts at padding-is first in
      let front : insns ++ more ≡ front_code p lean metered code i =
      ap (λ l. l ++ more) first.front ∙ ap (λ l. behind i ++ l) (padding-is ∙ ap (padding_at i) first.next) ∙ sym (front-is i) in
      let one : suc i ≡ i + 1 = omega arith in subst (λ n. AreFirst n insns' starts' at'') one (record {
        front = whole ∙ ap (λ l. l ++ block) front ∙ ap (λ l. front_code p lean metered code i ++ l) is;
        count = ap length pushed ∙ (let n = first.count in let e = length-append starts (at' ∷ []) in omega (arith, n, e));
        begins = λ k low. elim (cases_eq k i) [
          | inl same ↦
              let last : slice_index (starts ++ at' ∷ []) k ≡ at' = get_or_push starts at' 0 k (first.count ∙ sym same) in
              ap (λ l. slice_index l k) pushed ∙ last ∙ begin ∙ ap start (sym same)
          | inr less ↦
              let n = first.count in
              let old : slice_index (starts ++ at' ∷ []) k ≡ slice_index starts k =
              get_or_append_left starts (at' ∷ []) 0 k (omega (arith, low, less, n)) in
              ap (λ l. slice_index l k) pushed ∙ old ∙ first.begins k (omega (arith, low, less))
        ];
        next = sum ∙ ap (λ n. n + code_length block) begin ∙ ap (λ l. start i + code_length l) is ∙ sym (end-is p lean metered code i);
      })

  pub all-made : (i : ℕ) (insns : List NativeInsn) (starts : List ℕ) (at : ℕ) → i ≡ suc (length code) → AreFirst i insns starts at
      → AreBlocks p lean metered code insns starts
  all-made i insns starts at e first =
      let n : ℕ = suc (length code) in
      let none : padding_at n (code_length (behind n)) ≡ [] =
      ap (λ h. cond h (padding n (code_length (behind n))) []) (no_head_past code n (omega arith)) in
      record {
        whole =
            first.front ∙ ap behind e ∙ sym (append-nil (behind n)) ∙ ap (λ l. behind n ++ l) (sym none) ∙ sym (front-is n);
        count = first.count ∙ e;
        begins = λ k low. first.begins k (omega (arith, low, e));
      }

  -- what stands in front of padding is short
  pub behind-small : (i : ℕ) → IsCode code → ArePlaces p → SmallOffsets → i ≤ length code → code_length (behind i) < 2 ^ 30
  behind-small i ok places small low =
      let s = small p lean metered code ok places i (omega (arith, low)) in
      let e = length-append-code (behind i) (padding_at i (code_length (behind i))) in
      let f = ap code_length (front-is i) in
      omega (arith, s, e, f)

  -- the next block begins, and ends, below 2^30
  pub begin-small : (i : ℕ) (insns more : List NativeInsn) (starts : List ℕ) (at : ℕ) → IsCode code → ArePlaces p → SmallOffsets → i ≤ length code
      → more ≡ padding_at i at → AreFirst i insns starts at → at + code_length more < 2 ^ 30
  begin-small i insns more starts at ok places small low is first =
      let s = small p lean metered code ok places i (omega (arith, low)) in
      let e = padded i insns more starts at is first in
      omega (arith, s, e)

  pub block-small : (i : ℕ) (block : List NativeInsn) → IsCode code → ArePlaces p → SmallOffsets → i ≤ length code
      → block ≡ block_at p lean metered code i (slice_get code i) → start i + code_length block < 2 ^ 30
  block-small i block ok places small low is =
      let s = small p lean metered code ok places (suc i) (omega (arith, low)) in
      let e = offset-next p lean metered code i in
      let b = ap code_length is in
      omega (arith, s, e, b)

  -- ---- when they are made

  pub blocks-fit : (insns : List NativeInsn) (starts : List ℕ) → IsCode code → ArePlaces p → SmallOffsets → InnerTargets
      → AreBlocks p lean metered code insns starts → FitsLayout insns starts
  blocks-fit insns starts ok places small targets made =
      let n = made.count in
      let leads : All (LeadsBelow (length starts)) insns =
      subst (λ l. All (LeadsBelow (length starts)) l) (sym made.whole)
      (subst (λ m. All (LeadsBelow m) (whole_code p lean metered code)) (sym n) (targets p lean metered code ok)) in
      let short : code_length insns < 2 ^ 30 =
      subst (λ l. code_length l < 2 ^ 30) (sym made.whole) (small p lean metered code ok places (suc (length code)) (omega arith)) in
      record {
        leads = leads;
        near = λ k. elim (cases_lt k (length starts)) [
          | inl low ↦
              subst (λ m. m < 2 ^ 30) (sym (made.begins k (omega (arith, low, n))))
              (small p lean metered code ok places k (omega (arith, low, n)))
          | inr past ↦ let none : slice_index starts k ≡ 0 = get_or_past starts k 0 past in omega (arith, none)
        ];
        short = short;
      }

  pub text-short : (insns : List NativeInsn) (starts bytes : List ℕ) → FitsLayout insns starts
      → bytes ≡ flat_map bytes_of (placed_from (slice_index starts) 0 insns) → length bytes < 2 ^ 30
  text-short insns starts bytes fits is =
      let e = ap length is ∙ bytes-count (slice_index starts) insns in
      let s = fits.short in
      omega (arith, e, s)

  pub translated : (insns : List NativeInsn) (starts bytes : List ℕ) → IsCode code → IsLean lean code → ArePlacesOf p lean code → InnerTargets
      → AreBlocks p lean metered code insns starts → bytes ≡ flat_map bytes_of (placed_from (slice_index starts) 0 insns)
      → IsTranslation metered code bytes
  translated insns starts bytes ok lives lawful targets made is =
      let n = made.count in
      let same : (k : ℕ) → k < suc (length code) → slice_index starts k ≡ start k = λ k low. made.begins k (omega (arith, low)) in
      let placed : placed_from (slice_index starts) 0 (whole_code p lean metered code) ≡ placed_from start 0 (whole_code p lean metered code) =
      all-same (slice_index starts) start (suc (length code)) 0 (whole_code p lean metered code) same (targets p lean metered code ok) in
      record {
        places = p;
        lean = lean;
        lives = lives;
        lawful = lawful;
        text = is ∙ ap (λ l. flat_map bytes_of (placed_from (slice_index starts) 0 l)) made.whole ∙ ap (flat_map bytes_of) placed;
      }
