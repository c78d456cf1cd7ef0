-- What is told of cell names and free names.
use Rattle.std.proofs.Common.{◌≡◌, ◌∙◌, ◌<◌, ◌≤◌, ℕ, Bool, true, false, length, sym, ap, arith}
use Rattle.std.specs.Prelude.{nat_lt, if◌then◌else◌}
use Rattle.std.proofs.lemmas.Bool.Decides.{nat_tests}
use Rattle.pt_tree.specs.Syntax.{Name}
use Rattle.sem_control.specs.control.Turn as T
use Rattle.pt_builtins.specs.pt_host.World.{CodeFacts}
use Rattle.pt_moves.specs.sem_rows.declared.heap_rows.progress.Progress.{Progress}
use Rattle.pt_moves.specs.sem_rows.variables.Numbers.{cell_name}
use Rattle.pt_name_rows.specs.Names.{unbound, cell_unbound, local_unbound, free_unbound}

-- a cell name is told as a local one, and a free name as one of a function around

is_below : (n m : ℕ) → n < m → nat_lt n m ≡ true
is_below n m h = grind (arith, nat_tests)

isnt_below : (n m : ℕ) → m ≤ n → nat_lt n m ≡ false
isnt_below n m h = grind (arith, nat_tests)

module _ (facts : CodeFacts) (n : ℕ) (x : Name) (p : Progress) where
  told : (b : Bool) → nat_lt n (length facts.cells) ≡ b → x ≡ cell_name facts n → unbound (if b then T.cell else T.free) x ≡ cell_unbound facts n
  told b e f = ap (λ y. unbound (if b then T.cell else T.free) y) f ∙ ap (λ c. unbound (if c then T.cell else T.free) (cell_name facts n)) (sym e)

  pub cell_told : n < length facts.cells → x ≡ cell_name facts n → p ≡ local_unbound x → p ≡ cell_unbound facts n
  cell_told h f e = e ∙ told true (is_below n (length facts.cells) h) f

  pub free_told : length facts.cells ≤ n → x ≡ cell_name facts n → p ≡ free_unbound x → p ≡ cell_unbound facts n
  free_told h f e = e ∙ told false (isnt_below n (length facts.cells) h) f
