-- The instructions of a block stand in its bytes, each under the rows that cover it.
use Rattle.std.proofs.Common.{◌≡◌, ℕ, ◌+◌, ◌<◌, Bool, true, false, List, [], ◌∷◌, length, filter, Option, Some, refl, sym, ap, ◌∙◌, subst, arith}
use Rattle.std.specs.Prelude.{cond, nat_eq}
use Rattle.std.proofs.lemmas.Option.{same_Some}
use Rattle.pt_instr.specs.declared.Instr.{Instr}
use Rattle.pt_instr.specs.Encoding.{encoding}
use Rattle.pt_ranges.specs.Rows.{covers}
use Rattle.pt_code.specs.declared.CodeBlock.{CodeBlock}
use Rattle.pt_code.specs.declared.Code.{Code}
use Rattle.pt_code.specs.View.{Ins, ins_at, laid_from, IsView}
use Rattle.pt_sizes.proofs.Tables.{some_or_none}
use Rattle.sem_fits.specs.fits.Block.{block_of}
use Rattle.sem_fits.proofs.fits.ViewLaid.{view_is_laid}
use Rattle.pt_block_kinds.specs.Graph.{IsSeen}

laid_rows : (b : CodeBlock) (at : ℕ) (is : List Instr) (pc : ℕ) (i : Ins) → laid_from b at is pc ≡ Some i → i.rows ≡ filter (λ row. covers row (record { 0 = pc })) b.handlers
laid_rows b at [] pc i e = absurd (some_or_none i (sym e))
laid_rows b at (j ∷ is) pc i e = by (nat_eq at pc) (laid_rows b (at + length (encoding j)) is pc i) e
  where
    by : (t : Bool) → (laid_from b (at + length (encoding j)) is pc ≡ Some i → i.rows ≡ filter (λ row. covers row (record { 0 = pc })) b.handlers)
        → cond t (Some (ins_at b pc j)) (laid_from b (at + length (encoding j)) is pc) ≡ Some i → i.rows ≡ filter (λ row. covers row (record { 0 = pc })) b.handlers
    by true ih f = subst (λ x. x.rows ≡ filter (λ row. covers row (record { 0 = pc })) b.handlers) (same_Some (ins_at b pc j) i f) refl
    by false ih f = ih f

pub is_seen : (c : Code) (b : CodeBlock) (view : ℕ → Option Ins) → IsView b view → (count : ℕ) → length b.instructions < count → IsSeen (block_of c b view) count
is_seen c b view v count h = record {
  below = λ pc i e. let l = view_is_laid c b view v pc i e in omega (arith, l, h);
  rows = λ pc i e. laid_rows b 0 v.instrs pc i (sym (ap (λ f. f pc) v.view_is) ∙ e);
}
