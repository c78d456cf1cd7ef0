-- The blocks of a script are numbered in their order.
use Rattle.std.proofs.Common.{◌≡◌, ◌∙◌, ap, sym, subst, refl, ℕ, zero, suc, length, Some}
use Rattle.pt_tree.specs.Syntax as T
use Rattle.pt_tree.specs.Blocks as tree
use Rattle.pt_wide.specs.Syntax as W
use Rattle.pt_refine_expr.specs.StatementBlocks.{blocks_stms}
use Rattle.pt_refine_expr.specs.StatementNarrow.{narrow_script}
use Rattle.sem_control.specs.numbering.Numbered.{IsNumbered, numbers_stms}
use Rattle.law_front.proofs.script_numbers.Counting.{from, Counts, there}
use Rattle.law_front.proofs.script_numbers.Lengths.{length_stms, counted}
use Rattle.law_front.proofs.script_numbers.Statements.{counts_stms}

length-from : (n k : ℕ) → length (from n k) ≡ k
length-from n zero = refl
length-from n (suc k) = ap suc (length-from (suc n) k)

which : {ss : T.Stms} {n k : ℕ} → Counts numbers_stms n k (Some ss) → numbers_stms ss ≡ from n k
which (there x a) = a

pub numbered : (script : W.Stms) (narrow : T.Stms) → narrow_script script ≡ Some narrow → IsNumbered narrow
numbered w ss is =
    let counts : numbers_stms ss ≡ from 1 (blocks_stms w) = which (subst (Counts numbers_stms 1 (blocks_stms w)) is (counts_stms 1 w)) in
    let as_many : blocks_stms w ≡ length (tree.blocks_stms ss) = sym (length-from 1 (blocks_stms w)) ∙ sym (ap length counts) ∙ length_stms ss in
    counts ∙ ap (from 1) as_many ∙ sym (counted 1 (tree.blocks_stms ss))
