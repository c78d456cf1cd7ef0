-- In the code of a script each text that constants, lists and blocks have by its number is one of the code's texts.
use Rattle.std.proofs.Common.{◌≡◌, ℕ, ◌<◌, ◌≤◌, ◌+◌, List, [], ◌∷◌, length, Some, sym, subst}
use Rattle.std.specs.Prelude.{slice_get}
use Rattle.std.specs.List.{AllByRecursion}
use Rattle.pt_tree.specs.Syntax.{Stms}
use Rattle.pt_tree.specs.Blocks.{Block, blocks_script}
use Rattle.sem_control.specs.control.Turn.{Around}
use Rattle.sem_names.specs.Around.{Names, around_of, names_of}
use Rattle.pt_assembler.specs.Layout.{Written, with_local, with_cell, with_free, with_text}
use Rattle.pt_assembler.proofs.TableLemmas.{begins_length}
use Rattle.pt_assembler.proofs.Growth.{grows}
use Rattle.sem_compile.specs.stm_pieces.StmPiece.{code_piece}
use Rattle.sem_compile.specs.compile.ScriptCode.{Tables, no_tables, tables_of, with_all, empty_block, with_names, begun_block, BlockLayout, layout_of, layouts, script_layouts, tables_behind, code_block, code_of}
use Rattle.sem_compile.proofs.compile.Blocks.{names_tabled, blocks_are_laid_out}
use Rattle.law_files.specs.code_files.Laws.{TextIn, ConstantIn, ListIn, HasTexts, TextsAreKnown}
use Rattle.law_files.proofs.code_files.Each.{weaken, mapped, at_each, each_at}
use Rattle.law_files.proofs.code_files.Known.{Known, known, known_text, local_known, cell_known, free_known, all_known, text_in, text_later, begins_count}

abbrev KnownTables : Tables → Type 0
KnownTables t = AllByRecursion (ConstantIn (length t.texts)) t.constants × AllByRecursion (ListIn (length t.texts)) t.lists

tables_known : (w : Written) → Known w → KnownTables (tables_of w)
tables_known w h = (h.constants, h.lists)

names_known : (ns : Names) (w : Written) → Known w → Known (with_names ns w)
names_known ns w h =
    let a = with_all with_local ns.locals w in
    let b = with_all with_cell ns.cells a in
    all_known with_free free_known ns.frees b
    (all_known with_cell cell_known ns.cells a (all_known with_local local_known ns.locals w h))

layout_known : (t : Tables) (a : Around (Unit {0})) (ns : Names) (k : Block) → KnownTables t → Known (layout_of t a ns k).written
layout_known t a ns k h =
    let v = empty_block t k.code in
    known (code_piece a k.code) [] (begun_block t ns k)
    (names_known ns (with_text k.name v) (known_text k.name v (record { constants = h.0; lists = h.1; locals = tt; cells = tt; free = tt })))

layouts_known : (ss : Stms) (n : ℕ) (ks : List Block) (t : Tables) → KnownTables t → AllByRecursion (λ b. Known b.written) (layouts ss n ks t)
layouts_known ss n [] t h = tt
layouts_known ss n (k ∷ ks) t h =
    let a = layout_known t (around_of tt ss n) (names_of ss n) k h in
    let w = (layout_of t (around_of tt ss n) (names_of ss n) k).written in
    (a, layouts_known ss (n + 1) ks (tables_of w) (tables_known w a))

behind_known : (ss : Stms) (n : ℕ) (ks : List Block) (t : Tables) → KnownTables t → KnownTables (tables_behind t (layouts ss n ks t))
behind_known ss n [] t h = h
behind_known ss n (k ∷ ks) t h =
    let w = (layout_of t (around_of tt ss n) (names_of ss n) k).written in
    behind_known ss (n + 1) ks (tables_of w) (tables_known w (layout_known t (around_of tt ss n) (names_of ss n) k h))

-- the name of a block is the first of its texts

names_grown : (ns : Names) (w : Written) (i : ℕ) → i < length w.texts → i < length (with_names ns w).texts
names_grown ns w i h = begins_length w.texts (with_names ns w).texts i (names_tabled ns w).0 h

heading_in : (t : Tables) (a : Around (Unit {0})) (ns : Names) (k : Block) → TextIn (length (layout_of t a ns k).written.texts) (layout_of t a ns k).heading.name
heading_in t a ns k =
    let b = with_text k.name (empty_block t k.code) in
    let c = with_names ns b in
    begins_length c.texts (layout_of t a ns k).written.texts _ (grows (code_piece a k.code) [] c).tables.0
    (names_grown ns b _ (text_in k.name (empty_block t k.code)))

block_named : (ss : Stms) (n : ℕ) (b : BlockLayout) → slice_get (script_layouts ss) n ≡ Some b → HasTexts (length (code_of ss).texts) (code_block b)
block_named ss n b at =
    let l = blocks_are_laid_out ss n b at in
    let h = each_at (λ (c : BlockLayout). Known c.written) (script_layouts ss) n b at (layouts_known ss 0 (blocks_script ss) no_tables (tt, tt)) in
    let e : length b.written.texts ≤ length (code_of ss).texts = begins_count b.written.texts (code_of ss).texts l.whole.texts in
    let name : TextIn (length b.written.texts) b.heading.name =
    subst (λ (c : BlockLayout). TextIn (length c.written.texts) c.heading.name) (sym l.is) (heading_in l.tables (around_of tt ss n) (names_of ss n) l.block) in
    let later = text_later (length b.written.texts) (length (code_of ss).texts) e in (
      later b.heading.name name,
      (
        weaken (TextIn (length b.written.texts)) (TextIn (length (code_of ss).texts)) later b.written.locals h.locals,
        (
          weaken (TextIn (length b.written.texts)) (TextIn (length (code_of ss).texts)) later b.written.cells h.cells,
          weaken (TextIn (length b.written.texts)) (TextIn (length (code_of ss).texts)) later b.written.free h.free,
        ),
      ),
    )

pub texts_are_known : TextsAreKnown
texts_are_known ss =
    let t = behind_known ss 0 (blocks_script ss) no_tables (tt, tt) in (
      t.0,
      (
        t.1,
        mapped (HasTexts (length (code_of ss).texts)) code_block (script_layouts ss)
            (at_each (λ (b : BlockLayout). HasTexts (length (code_of ss).texts) (code_block b)) (script_layouts ss) (block_named ss)),
      ),
    )
