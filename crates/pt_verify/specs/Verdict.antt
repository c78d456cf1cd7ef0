-- Which code is verified, and why other code isn't.
use Rattle.std.specs.Prelude.{◌≡◌, ℕ, ◌<◌, slice_get, Option, Some, None}
use Rattle.pt_base.specs.declared.numbers.BlockId.{BlockId}
use Rattle.pt_code.specs.declared.CodeBlock.{CodeBlock}
use Rattle.pt_code.specs.declared.Code.{Code}
use Rattle.pt_code.specs.View.{Ins, IsView}
use Rattle.sem_fits.specs.fits.Block.{block_of}
use Rattle.sem_fits.specs.fits.Fits.{BlockFits, Misfit, Refused, stack, kind, target, table, silent_loop, depth}
use Rattle.pt_refusals.specs.declared.failures.Refusal.{Refusal}
use Rattle.pt_refusals.specs.declared.failures.Refusal.TheVariants as refusal
use Rattle.pt_verify.specs.declared.error.VerifyErr.{VerifyErr}
use Rattle.pt_verify.specs.declared.error.VerifyErr.TheVariants as err

-- a block is refused by each view that its bytes have
abbrev pub BlockRefused : Code → CodeBlock → Misfit → Type 0
BlockRefused c b m = (view : ℕ → Option Ins) → IsView b view → Refused (block_of c b view) m

-- the first block that doesn't fit is refused
pub record FirstRefused (c : Code) (n : ℕ) (m : Misfit) : Type 0 where
  pub block : CodeBlock
  pub is : slice_get c.blocks n ≡ Some block
  pub refused : BlockRefused c block m
  pub before : (k : ℕ) (b : CodeBlock) → k < n → slice_get c.blocks k ≡ Some b → BlockFits c b

abbrev pub IsRefused : Code → VerifyErr → Type 0
IsRefused c (err.Stack b pc) = FirstRefused c b.0 (stack pc.0)
IsRefused c (err.Kind b pc) = FirstRefused c b.0 (kind pc.0)
IsRefused c (err.Target b pc) = FirstRefused c b.0 (target pc.0)
IsRefused c (err.Table b row) = FirstRefused c b.0 (table row)
IsRefused c (err.SilentLoop b pc) = FirstRefused c b.0 (silent_loop pc.0)
IsRefused c (err.Depth b) = FirstRefused c b.0 depth
IsRefused c err.Memory = Unit {0}

-- the number of a refusal, and the place that is told of it
abbrev pub number_and_place : VerifyErr → Option (ℕ × ℕ)
number_and_place (err.Stack b pc) = Some (23, pc.0)
number_and_place (err.Kind b pc) = Some (24, pc.0)
number_and_place (err.Target b pc) = Some (25, pc.0)
number_and_place (err.Table b row) = Some (26, row)
number_and_place (err.SilentLoop b pc) = Some (27, pc.0)
number_and_place (err.Depth b) = Some (28, b.0)
number_and_place err.Memory = None

abbrev pub place_of : Refusal → ℕ
place_of (refusal.Stack p) = p
place_of (refusal.Kind p) = p
place_of (refusal.Target p) = p
place_of (refusal.Table p) = p
place_of (refusal.SilentLoop p) = p
place_of refusal.Depth = 0

abbrev pub placed : BlockId → Refusal → (place : ℕ) → VerifyErr
placed b (refusal.Stack p) n = err.Stack b (record { 0 = n })
placed b (refusal.Kind p) n = err.Kind b (record { 0 = n })
placed b (refusal.Target p) n = err.Target b (record { 0 = n })
placed b (refusal.Table p) n = err.Table b n
placed b (refusal.SilentLoop p) n = err.SilentLoop b (record { 0 = n })
placed b refusal.Depth n = err.Depth b
