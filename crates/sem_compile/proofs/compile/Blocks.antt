-- Blocks that are laid out one after the other, over tables that only grow.
use Rattle.std.proofs.Common.{◌≡◌, ℕ, zero, suc, ◌+◌, List, [], ◌∷◌, map, length, slice_get, Some, None, refl, sym, ap, ◌∙◌, subst, arith}
use Rattle.pt_tree.specs.Syntax.{Name, Stms}
use Rattle.pt_tree.specs.Blocks.{Block, blocks_script}
use Rattle.sem_names.specs.Around.{Names, around_of, names_of}
use Rattle.pt_assembler.specs.Tables.{Begins}
use Rattle.pt_assembler.specs.Layout.{Written, with_text, with_local, with_cell, with_free, number_of_text, layout}
use Rattle.pt_assembler.proofs.TableLemmas.{begins_same, begins_then}
use Rattle.pt_assembler.proofs.Growth.{Tabled, tabled_same, tabled_then, only_then, text_only, local_only, cell_only, free_only, grows}
use Rattle.sem_compile.specs.stm_pieces.StmPiece.{code_piece}
use Rattle.sem_compile.specs.compile.ScriptCode.{Tables, no_tables, tables_of, with_all, empty_block, with_names, BlockLayout, layout_of, layouts, tables_behind, code_block}
use Rattle.sem_compile.specs.compile.Laws.{BlocksAreLaidOut, AsManyBlocks}

-- tables of a code that only grow
record Grown (s t : Tables) : Type 0 where
  texts : Begins s.texts t.texts
  constants : Begins s.constants t.constants
  lists : Begins s.lists t.lists

grown_not : (t : Tables) → Grown t t
grown_not t = record { texts = begins_same t.texts; constants = begins_same t.constants; lists = begins_same t.lists }

grown_on : (a b c : Tables) → Grown a b → Grown b c → Grown a c
grown_on a b c g h = record {
  texts = begins_then a.texts b.texts c.texts g.texts h.texts;
  constants = begins_then a.constants b.constants c.constants g.constants h.constants;
  lists = begins_then a.lists b.lists c.lists g.lists h.lists;
}

grown_by : (v w : Written) → Tabled v w → Grown (tables_of v) (tables_of w)
grown_by v w (t, (k, (l, r))) = record { texts = t; constants = k; lists = l }

local_tabled : (x : Name) (w : Written) → Tabled w (with_local x w)
local_tabled x w = (only_then w (with_text x w) (with_local x w) (text_only x w) (local_only (number_of_text x w) (with_text x w))).tables

pub cell_tabled : (x : Name) (w : Written) → Tabled w (with_cell x w)
cell_tabled x w = (only_then w (with_text x w) (with_cell x w) (text_only x w) (cell_only (number_of_text x w) (with_text x w))).tables

pub free_tabled : (x : Name) (w : Written) → Tabled w (with_free x w)
free_tabled x w = (only_then w (with_text x w) (with_free x w) (text_only x w) (free_only (number_of_text x w) (with_text x w))).tables

pub all_tabled : (f : Name → Written → Written) → ((x : Name) (w : Written) → Tabled w (f x w)) → (xs : List Name) (w : Written) → Tabled w (with_all f xs w)
all_tabled f g [] w = tabled_same w
all_tabled f g (x ∷ xs) w = tabled_then w (f x w) (with_all f xs (f x w)) (g x w) (all_tabled f g xs (f x w))

pub names_tabled : (ns : Names) (w : Written) → Tabled w (with_names ns w)
names_tabled ns w =
    let a = with_all with_local ns.locals w in
    let b = with_all with_cell ns.cells a in
    let c = with_all with_free ns.frees b in
    tabled_then w a c (all_tabled with_local local_tabled ns.locals w)
    (tabled_then a b c (all_tabled with_cell cell_tabled ns.cells a) (all_tabled with_free free_tabled ns.frees b))

layout_grown : (t : Tables) (a : _) (ns : Names) (k : Block) → Grown t (tables_of (layout_of t a ns k).written)
layout_grown t a ns k =
    let v = empty_block t k.code in
    let b = with_text k.name v in
    let c = with_names ns b in
    grown_by v (layout (code_piece a k.code) [] c)
    (tabled_then v b (layout (code_piece a k.code) [] c) (text_only k.name v).tables
    (tabled_then b c (layout (code_piece a k.code) [] c) (names_tabled ns b) (grows (code_piece a k.code) [] c).tables))

behind_grown : (ss : Stms) (n : ℕ) (ks : List Block) (t : Tables) → Grown t (tables_behind t (layouts ss n ks t))
behind_grown ss n [] t = grown_not t
behind_grown ss n (k ∷ ks) t =
    let b = layout_of t (around_of tt ss n) (names_of ss n) k in
    grown_on t (tables_of b.written) (tables_behind t (layouts ss n (k ∷ ks) t)) (layout_grown t (around_of tt ss n) (names_of ss n) k) (behind_grown ss (n + 1) ks (tables_of b.written))

-- a layout among those of blocks
record Among (ss : Stms) (n : ℕ) (ks : List Block) (t : Tables) (i : ℕ) (b : BlockLayout) : Type 0 where
  block : Block
  is_block : slice_get ks i ≡ Some block
  tables : Tables
  is : b ≡ layout_of tables (around_of tt ss (n + i)) (names_of ss (n + i)) block
  grown : Grown (tables_of b.written) (tables_behind t (layouts ss n ks t))

some_same : {A : Type 0} (a b : A) → Some a ≡ Some b → a ≡ b
some_same a b e = ap (λ o. elim o [ None ↦ a | Some x ↦ x ]) e

none_not_some : {A B : Type 0} (b : A) → None ≡ Some b → B
none_not_some b e = absurd cc

among : (ss : Stms) (n : ℕ) (ks : List Block) (t : Tables) (i : ℕ) (b : BlockLayout) → slice_get (layouts ss n ks t) i ≡ Some b → Among ss n ks t i b
among ss n [] t i b e = none_not_some b e
among ss n (k ∷ ks) t zero b e = record {
  block = k;
  is_block = refl;
  tables = t;
  is = sym (some_same _ b e) ∙ ap (λ m. layout_of t (around_of tt ss m) (names_of ss m) k) (omega arith);
  grown = subst (λ c. Grown (tables_of c.written) (tables_behind t (layouts ss n (k ∷ ks) t))) (some_same _ b e)
      (behind_grown ss (n + 1) ks (tables_of (layout_of t (around_of tt ss n) (names_of ss n) k).written));
}
among ss n (k ∷ ks) t (suc i) b e =
    let a = among ss (n + 1) ks (tables_of (layout_of t (around_of tt ss n) (names_of ss n) k).written) i b e in
    record {
      block = a.block;
      is_block = a.is_block;
      tables = a.tables;
      is = a.is ∙ ap (λ m. layout_of a.tables (around_of tt ss m) (names_of ss m) a.block) (omega arith);
      grown = a.grown;
    }

pub blocks_are_laid_out : BlocksAreLaidOut
blocks_are_laid_out ss n b e =
    let a = among ss 0 (blocks_script ss) no_tables n b e in
    let same : 0 + n ≡ n = omega arith in
    record {
      block = a.block;
      is_block = a.is_block;
      tables = a.tables;
      is = a.is ∙ ap (λ m. layout_of a.tables (around_of tt ss m) (names_of ss m) a.block) same;
      whole = record {
        texts = a.grown.texts;
        constants = a.grown.constants;
        lists = a.grown.lists;
        locals = refl;
        cells = refl;
        free = refl;
        instructions = refl;
        marks = refl;
        handlers = refl;
        starts = refl;
      };
    }

as_many : (ss : Stms) (n : ℕ) (ks : List Block) (t : Tables) → length (map code_block (layouts ss n ks t)) ≡ length ks
as_many ss n [] t = refl
as_many ss n (k ∷ ks) t = ap suc (as_many ss (n + 1) ks (tables_of (layout_of t (around_of tt ss n) (names_of ss n) k).written))

pub as_many_blocks : AsManyBlocks
as_many_blocks ss = as_many ss 0 (blocks_script ss) no_tables
