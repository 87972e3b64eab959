-- The source of `demo N`: N loads from the packet's front, each summed, then a loop that sums the whole packet; it returns whether the sum is odd.
use Rattle.std.specs.Prelude.{ℕ, zero, suc, ◌*◌, ◌%◌, List, [], ◌++◌, codes, decimal}

-- register 2 is cleared
abbrev pub clear_line : List ℕ
clear_line = codes "      lda $2,0($31)\n"

-- quadword number j of the first eight, counted round, is loaded and summed
abbrev pub load_lines : ℕ → List ℕ
load_lines j = codes "      ldq $1," ++ (decimal (8 * (j % 8)) ++ codes "($16)\n      addq $2,$1,$2\n")

-- the first n of these, in order
abbrev pub loads : ℕ → List ℕ
loads zero = []
loads (suc n) = loads n ++ load_lines n

-- the loop over the packet's quadwords, with its invariant, and the return
abbrev pub last_lines : List ℕ
last_lines = codes "      lda $3,0($31)\n      .inv (and (eq (band r3 7) 0) (all i (imp (and (ult i r17) (eq (band i 7) 0)) (rd (add r16 i)))))\nloop: cmpult $3,$17,$4\n      beq $4,done\n      addq $16,$3,$5\n      ldq $6,0($5)\n      addq $2,$6,$2\n      addq $3,8,$3\n      br loop\ndone: and $2,1,$0\n      ret\n"

-- the source with n loads
abbrev pub demo_source : ℕ → List ℕ
demo_source n = (clear_line ++ loads n) ++ last_lines
