use Rattle.std.proofs.Common.{◌≡◌, ◌∙◌, ◌&&◌, ℕ, Bool, List, Some, ap, subst, sym}
use Rattle.std.specs.Prelude.{Decides}
use Rattle.std.specs.List.{IsDistinct}
use Rattle.std.specs.Str.{bytes_eq}
use Rattle.pt_instr.specs.declared.TextNo.{TextNo}
use Rattle.pt_code.specs.declared.Code.{Code}
use Rattle.pt_code.specs.View.{Ins}
use Rattle.pt_standing.specs.Texts.{AreIds}
use Rattle.pt_supported_code.specs.Built.{IsBuiltBlock, TakesAsListed, named_by}
use Rattle.pt_supported_code.specs.Numbers.{AreThere}
use Rattle.pt_supported_code.proofs.BlockLemmas.{parts_tell}
use Rattle.pt_supported_code.proofs.blocks.is_built.Goals as goal

pub returns : goal.returns
returns c =
    let read = c.requires.read in
    let takes = subst
    (λ (lists : List (List ℕ)). Decides c.in_ok-takes.takes ((pc : ℕ) (i : Ins) → read.view pc ≡ Some i → TakesAsListed lists i.instr))
    c.as_slice-4.ensures (c.in_ok-takes.ensures read.view read.is_view) in
    let code = c.args.code.now in
    let block = c.args.block.now in
    let at : (xs ys : List TextNo) (different : Bool) → ys ≡ xs → AreThere code xs
    → ((d : Code) → AreIds d.texts c.args.ids.now → AreThere d ys → Decides different (IsDistinct bytes_eq (named_by d.texts ys)))
    → Decides different (IsDistinct bytes_eq (named_by code.texts xs)) =
    λ xs ys different same there f.
    subst (λ zs. Decides different (IsDistinct bytes_eq (named_by code.texts zs))) same (f code c.requires.texts (subst (AreThere code) (sym same) there)) in
    let told = parts_tell code block read c.in_ok-locals.locals c.in_ok-cells.cells c.in_ok-free.free c.in_ok-takes.takes
    (at block.locals c.as_slice.result.now c.in_ok-locals.locals c.as_slice.ensures read.locals c.in_ok-locals.ensures)
    (at block.cells c.as_slice-2.result.now c.in_ok-cells.cells c.as_slice-2.ensures read.cells c.in_ok-cells.ensures)
    (at block.free c.as_slice-3.result.now c.in_ok-free.free c.as_slice-3.ensures read.free c.in_ok-free.ensures) takes in
    let rest = c.in_ok-locals.locals && (c.in_ok-cells.cells && (c.in_ok-free.free && c.in_ok-takes.takes)) in
    subst (λ b. Decides b (IsBuiltBlock c.args.code.now c.args.block.now))
    (sym (c.all_hold.ensures ∙ ap (λ k. k && rest) c.is_plain_kind-kind.ensures)) told
