-- What is collected block by block.
use Rattle.std.proofs.Common.{◌≡◌, ◌+◌, ◌∙◌, ℕ, zero, suc, List, [], ◌∷◌, ◌++◌, map, take, refl, sym, ap, append_assoc, append-nil, add-one}
use Rattle.std.specs.Prelude.{flat_map, slice_get}
use Rattle.std.proofs.lemmas.List.{map-append}
use Rattle.pt_tree.specs.declared.act.ActRow.{ActRow}
use Rattle.pt_base.specs.declared.numbers.Line.{Line}
use Rattle.pt_tree.specs.Syntax.{Name, Stms}
use Rattle.pt_tree.specs.Blocks.{Block, blocks_script}
use Rattle.pt_blocks.specs.Visits.{behind_blocks}
use Rattle.pt_reported.specs.Reported.{Parts, act_line, if_any, block_lines, block_name, lines_of, names_of, with_block}

-- one act more
taken : (xs : List ActRow) (i : ℕ) → take (suc i) xs ≡ take i xs ++ if_any (slice_get xs i)
taken [] zero = refl
taken [] (suc i) = refl
taken (x ∷ xs) zero = refl
taken (x ∷ xs) (suc i) = ap (λ ys. x ∷ ys) (taken xs i)

pub lines_further : (xs : List ActRow) (i : ℕ) (before old new : List Line) → new ≡ old ++ map act_line (if_any (slice_get xs i))
    → old ≡ before ++ map act_line (take i xs) → new ≡ before ++ map act_line (take (i + 1) xs)
lines_further xs i before old new is had =
    is ∙ ap (λ ls. ls ++ map act_line (if_any (slice_get xs i))) had
    ∙ append_assoc before (map act_line (take i xs)) (map act_line (if_any (slice_get xs i)))
    ∙ ap (λ ls. before ++ ls) (sym (map-append act_line (take i xs) (if_any (slice_get xs i))) ∙ ap (map act_line) (sym (ap (λ k. take k xs) (add-one i) ∙ taken xs i)))

abbrev parts : List Line → List Name → Parts
parts ls ns = record { lines = ls; names = ns }

behind : (bs : List Block) (ls : List Line) (ns : List Name)
    → behind_blocks with_block bs (parts ls ns) ≡ parts (ls ++ flat_map block_lines bs) (ns ++ map block_name bs)
behind [] ls ns = λ i. parts (sym (append-nil ls) i) (sym (append-nil ns) i)
behind (b ∷ bs) ls ns =
    behind bs (ls ++ block_lines b) (ns ++ block_name b ∷ [])
    ∙ (λ i. parts (append_assoc ls (block_lines b) (flat_map block_lines bs) i) (append_assoc ns (block_name b ∷ []) (map block_name bs) i))

pub all_behind : (ss : Stms) → behind_blocks with_block (blocks_script ss) (parts [] []) ≡ parts (lines_of ss) (names_of ss)
all_behind ss = behind (blocks_script ss) [] []
