-- A host that C holds and its parts own what a box at the same types owns.
use mathlib.Core.Bool.{Bool, true, false, ◌&&◌}
use mathlib.Core.List.{[]}
use mathlib.Core.Path.{◌≡◌, refl}
use lib.Dec.{T, lit<}
use mir.Syntax.{impl, tnil, dnil, ty_ptr}
use mir.Val.{has_ty, WT}
use denote.RawPtr.{Ptr, block_ptr, null_ptr, ptr_val}
use denote.Signature.{Slot, plain}
use Rattle.std.specs.Prelude.{Option, Some, None, IsSome}
use Rattle.std.proofs.BoxSteps.Form.{Bx}
use Rattle.std.specs.contracts.alloc.Global as Heap
use Rattle.std.specs.contracts.impls.GlobalAllocator.TheImpl.{ghosts, dict}
use Rattle.std.proofs.alloc.Global.TheLaws as heap
use Rattle.safe_host.specs.contracts.runner.HostRunner as Runner
use Rattle.safe_host.proofs.runner.HostRunner.TheLaws as runner
use Rattle.pcc_c.specs.contracts.held.parts.Parts as Parts
use Rattle.pcc_c.specs.contracts.held.HeldHost as HeldHost

abbrev pub E : Bx
E = record {
  row = Runner.the_row;
  laws = runner.the_row_laws;
  al = record {
    row = Heap.the_row;
    laws = heap.the_row_laws;
    g = ghosts;
    d = dict;
    drops = impl [] tnil dnil;
  };
}

abbrev pub FromParts : Slot 0
FromParts = plain (λ _. Parts.the_row Runner.the_row Heap.the_row ghosts)

abbrev pub FromHost : Slot 0
FromHost = plain (λ _. HeldHost.the_row)

pub some_of : {A : Type 0} → (o : Option A) → IsSome o → (x : A) × (o ≡ Some x)
some_of None h = absurd (cc)
some_of (Some x) h = (x, refl)

pub both_tt : (x y : Bool) → T x → T y → T (x && (y && true))
both_tt true true s t = tt
both_tt true false s t = absurd t
both_tt false y s t = absurd s

pub Ptr-Good : (p : Ptr) → T (has_ty ty_ptr (ptr_val p)) × WT (ptr_val p)
Ptr-Good (block_ptr b o) = (tt, tt)
Ptr-Good null_ptr = (tt, record { fits = lit< tt })
