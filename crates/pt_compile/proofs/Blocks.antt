-- Blocks that are visited one after the other make the code of the script.
use Rattle.std.proofs.Common.{◌≡◌, ℕ, ◌+◌, List, [], ◌∷◌, ◌++◌, map, length, slice_get, Option, Some, None, refl, sym, ap, ◌∙◌, append_assoc, length-append}
use Rattle.std.proofs.lemmas.List.{append-nil}
use Rattle.pt_tree.specs.Syntax.{Stms}
use Rattle.pt_tree.specs.Blocks.{Block, blocks_script}
use Rattle.pt_code.specs.declared.CodeBlock.{CodeBlock}
use Rattle.pt_blocks.specs.Visits.{without_class, behind_blocks}
use Rattle.sem_names.specs.Around.{around_of, names_at, names_of}
use Rattle.sem_names.specs.Script.{Naming, naming_script}
use Rattle.law_files.specs.sem_compile.compile.ScriptCode.{Tables, BlockLayout, no_tables, tables_of, layout_of, layouts, tables_behind, code_block, code_of}
use Rattle.pt_block_names.specs.Named.{names_in_region, names_with}
use Rattle.pt_compile.specs.PartialCode.{PartialCode, whole, with_block}

names_same : (g : Naming) (b : ℕ) (k : Block) (r : Option ℕ) → names_at g b (Some k) r ≡ names_in_region g b k.params r
names_same g b k None = refl
names_same g b k (Some h) = refl

-- the block behind others is the one with their count as its number
at_length : {A : Type 0} (xs : List A) (x : A) (ys : List A) → slice_get (xs ++ x ∷ ys) (length xs) ≡ Some x
at_length [] x ys = refl
at_length (y ∷ xs) x ys = at_length xs x ys

names_known : (ss : Stms) (before : List Block) (k : Block) (ks : List Block) → blocks_script ss ≡ before ++ k ∷ ks
    → names_of ss (length before) ≡ names_with (naming_script ss) (length before) k.params
names_known ss before k ks e =
    ap (λ o. names_at (naming_script ss) (length before) o (slice_get (naming_script ss).places.blocks (length before)))
    (ap (λ bs. slice_get bs (length before)) e ∙ at_length before k ks)
    ∙ names_same (naming_script ss) (length before) k (slice_get (naming_script ss).places.blocks (length before))

abbrev partial_code : Stms → Tables → List CodeBlock → PartialCode
partial_code ss t bs = record { naming = naming_script ss; tables = t; blocks = bs }

-- the layout of a block behind others
abbrev layout_behind : Stms → List Block → Tables → Block → BlockLayout
layout_behind ss before t k = layout_of t (around_of tt ss (length before)) (names_of ss (length before)) k

one_more : (ss : Stms) (before : List Block) (k : Block) (ks : List Block) (t : Tables) (bs : List CodeBlock) → blocks_script ss ≡ before ++ k ∷ ks
    → length bs ≡ length before
    → with_block (without_class k) (partial_code ss t bs)
    ≡ partial_code ss (tables_of (layout_behind ss before t k).written) (bs ++ code_block (layout_behind ss before t k) ∷ [])
unfolding with_block
one_more ss before k ks t bs e n = rw (n, names_known ss before k ks e)

all_blocks : (ss : Stms) (before ks : List Block) (t : Tables) (bs : List CodeBlock) → blocks_script ss ≡ before ++ ks → length bs ≡ length before
    → behind_blocks with_block ks (partial_code ss t bs)
    ≡ partial_code ss (tables_behind t (layouts ss (length before) ks t)) (bs ++ map code_block (layouts ss (length before) ks t))
all_blocks ss before [] t bs e n = ap (λ cs. partial_code ss t cs) (sym (append-nil bs))
all_blocks ss before (k ∷ ks) t bs e n =
    let b = layout_behind ss before t k in
    let more : blocks_script ss ≡ (before ++ k ∷ []) ++ ks = e ∙ sym (append_assoc before (k ∷ []) ks) in
    let count : length (before ++ k ∷ []) ≡ length before + 1 = length-append before (k ∷ []) in
    let counts : length (bs ++ code_block b ∷ []) ≡ length (before ++ k ∷ []) =
    length-append bs (code_block b ∷ []) ∙ ap (λ m. m + 1) n ∙ sym count in
    ap (λ c. behind_blocks with_block ks c) (one_more ss before k ks t bs e n)
    ∙ all_blocks ss (before ++ k ∷ []) ks (tables_of b.written) (bs ++ code_block b ∷ []) more counts
    ∙ ap (λ m. partial_code ss (tables_behind (tables_of b.written) (layouts ss m ks (tables_of b.written)))
    ((bs ++ code_block b ∷ []) ++ map code_block (layouts ss m ks (tables_of b.written)))) count
    ∙ ap (λ cs. partial_code ss (tables_behind (tables_of b.written) (layouts ss (length before + 1) ks (tables_of b.written))) cs)
    (append_assoc bs (code_block b ∷ []) (map code_block (layouts ss (length before + 1) ks (tables_of b.written))))

script_code : (ss : Stms) → whole (behind_blocks with_block (blocks_script ss) (partial_code ss no_tables [])) ≡ code_of ss
script_code ss = ap whole (all_blocks ss [] (blocks_script ss) no_tables [] refl refl)

-- the blocks of a script, visited from nothing
pub code_from_nothing : (ss : Stms) (first last : PartialCode) → first ≡ partial_code ss no_tables [] → last ≡ behind_blocks with_block (blocks_script ss) first → whole last ≡ code_of ss
code_from_nothing ss first last is_first is_last = ap whole (is_last ∙ ap (λ c. behind_blocks with_block (blocks_script ss) c) is_first) ∙ script_code ss
