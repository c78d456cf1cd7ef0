-- Numbers that go on from the first are below the last and one more.
use Rattle.std.proofs.Common.{ℕ, suc, ◌<◌, ◌≤◌, ◌+◌, List, [], ◌∷◌, length, sym, subst, arith}
use Rattle.std.specs.List.{AllByRecursion}
use Rattle.pt_tree.specs.Syntax.{Stms}
use Rattle.pt_tree.specs.Blocks.{blocks_script, blocks_stms}
use Rattle.sem_control.specs.numbering.Numbered.{counted_from, numbers_stms, IsNumbered}

counted_below : {A : Type 0} (end n : ℕ) (xs : List A) → n + length xs ≤ end → AllByRecursion (λ b. b < end) (counted_from n xs)
counted_below end n [] h = tt
counted_below end n (x ∷ xs) h = (omega arith, counted_below end (suc n) xs (omega arith))

pub numbers_below : (ss : Stms) → IsNumbered ss → AllByRecursion (λ b. b < length (blocks_script ss)) (numbers_stms ss)
numbers_below ss is =
    subst (AllByRecursion (λ b. b < length (blocks_script ss))) (sym is) (counted_below (length (blocks_script ss)) 1 (blocks_stms ss) (omega arith))
