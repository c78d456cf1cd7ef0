-- The operands of a script's code fit in their bytes.
use Rattle.std.proofs.Common.{◌≡◌, ℕ, ◌+◌, ◌<◌, ◌≤◌, ◌^◌, true, List, [], ◌∷◌, length, map, Some, sym, ap, subst, arith}
use Rattle.std.specs.Prelude.{slice_get}
use Rattle.std.specs.List.{AllByRecursion}
use Rattle.pt_tree.specs.Syntax.{Stms}
use Rattle.pt_tree.specs.Blocks.{Block, blocks_script}
use Rattle.pt_instr.specs.declared.Instr.{Instr}
use Rattle.pt_instr.specs.Encoding.{code_of, Fits as InstrFits}
use Rattle.pt_code.specs.declared.Code.{Code}
use Rattle.pt_code.specs.declared.CodeBlock.{CodeBlock}
use Rattle.pt_code.specs.declared.parts.Within.{Within}
use Rattle.pt_code.specs.declared.parts.Operand.{Operand}
use Rattle.pt_code.specs.declared.parts.Operand.TheVariants as operand
use Rattle.pt_code.specs.File.{operands, naming, inside, names_of as names_of_block}
use Rattle.sem_control.specs.control.Turn.{Around}
use Rattle.sem_names.specs.Around.{Names, around_of, names_of}
use Rattle.pt_assembler.specs.declared.operation.Placed.{Placed}
use Rattle.pt_assembler.specs.Layout.{at, wide, instr_in, instrs_of}
use Rattle.pt_assembler.specs.Laws.{IsBlockOf}
use Rattle.pt_assembler.proofs.Growth.{tabled_same}
use Rattle.sem_compile.specs.stm_pieces.StmPiece.{code_piece}
use Rattle.sem_compile.specs.compile.ScriptCode.{Tables, empty_block, begun_block, BlockLayout, layout_of, script_layouts, code_block}
use Rattle.sem_compile.specs.compile.ScriptCode as script
use Rattle.sem_compile.proofs.compile.Blocks.{blocks_are_laid_out, as_many_blocks}
use Rattle.law_files.specs.code_files.Numbers.{NumbersFit, BlockFits}
use Rattle.law_files.proofs.code_files.Each.{each_at}
use Rattle.law_files.proofs.code_files.Known.{begins_count}
use Rattle.law_files.proofs.code_files.Wrapped.{NamesOne, Names as NamesAre, NamesIn}
use Rattle.law_files.proofs.code_files.Placed.{layout_good}
use Rattle.law_files.proofs.code_files.Statements.{code_names}
use Rattle.law_files.specs.piece_counts.Counts.{AtMostOne, AtMost, NumbersIn, NumbersPiece, instructions}
use Rattle.law_files.specs.operands_fit.Laws.{CellsFit, OperandsFit}
use Rattle.law_files.proofs.piece_counts.Forms.{piece-more}
use Rattle.law_files.proofs.piece_counts.Statements.{counts_have_code}
use Rattle.law_files.proofs.operands_fit.Places.{Standing, stand, label-stands, at-least, bytes-are}
use Rattle.law_files.proofs.operands_fit.Layouts.{Small, small}
use Rattle.law_files.proofs.operands_fit.Blocks.{BelowCode, made_below, blocks_below, Anything, any_free, all_any, begun-only}

-- the counts of what a block names fit in four bytes
record IsSmall (within : Within) (most : ℕ) : Type 0 where
  constants : within.constants < 2 ^ 32
  texts : within.texts < 2 ^ 32
  locals : within.locals < 2 ^ 32
  cells : within.cells < 2 ^ 32
  lists : within.lists < 2 ^ 32
  blocks : within.blocks < 2 ^ 32
  numbers : most < 2 ^ 32

module _ (within : Within) (most : ℕ) (is : IsSmall within most) where
  one-fits : (o : Operand) (n : ℕ) → NamesOne within o n → AtMostOne most o n → n < 2 ^ 32
  one-fits operand.Number n h a = omega (arith, a, is.numbers)
  one-fits operand.Constant n h a = omega (arith, h, is.constants)
  one-fits operand.Text n h a = omega (arith, h, is.texts)
  one-fits operand.Local n h a = omega (arith, h, is.locals)
  one-fits operand.Cell n h a = omega (arith, h, is.cells)
  one-fits operand.List n h a = omega (arith, h, is.lists)
  one-fits operand.Block n h a = omega (arith, h, is.blocks)
  one-fits operand.Unary n h a = omega (arith, h)
  one-fits operand.Binary n h a = omega (arith, h)
  one-fits operand.Comparison n h a = omega (arith, h)
  one-fits operand.Conversion n h a = omega (arith, h)
  one-fits operand.Flag n h a = omega (arith, h)

  all-fit : (os : List Operand) (ns : List ℕ) → NamesAre within os ns → AtMost most os ns → AllByRecursion (λ n. n < 2 ^ 32) ns
  all-fit os [] h a = tt
  all-fit [] (n ∷ ns) h a = absurd h
  all-fit (o ∷ os) (n ∷ ns) h a = (one-fits o n h.0 a.0, all-fit os ns h.1 a.1)

  instr-fits : (i : Instr) → NamesIn within i → NumbersIn most i → InstrFits i
  instr-fits i h a = all-fit (operands i) (code_of i).operands h a

abbrev within_of : Code → BlockLayout → Within
within_of c b = naming (inside (length c.texts) (length c.constants) (length c.lists) (length c.blocks) true) (names_of_block (code_block b))

together : {A B : Type 0} (f : A → B) (P Q : A → Type 0) (S : B → Type 0) → ((x : A) → P x → Q x → S (f x)) → (xs : List A) → AllByRecursion P xs
    → AllByRecursion Q xs → AllByRecursion S (map f xs)
together f P Q S g [] h k = tt
together f P Q S g (x ∷ xs) h k = (g x h.0 k.0, together f P Q S g xs h.1 k.1)

-- the names of a block that is laid out are inside, and its counts and places at most its bytes
layout-fits : (c : Code) (N : ℕ) → length c.blocks ≡ N → (t : Tables) (a : Around (Unit {0})) (ns : Names) (k : Block) → BelowCode N k.code
    → IsBlockOf (layout_of t a ns k).written c (code_block (layout_of t a ns k))
    → IsSmall (within_of c (layout_of t a ns k)) (at (layout_of t a ns k).written) → AllByRecursion InstrFits (instrs_of (layout_of t a ns k).written)
layout-fits c N count t a ns k below is fits =
    let b = layout_of t a ns k in
    let w = b.written in
    let within = within_of c b in
    let p = code_piece a k.code in
    let v = begun_block t ns k in
    let only = begun-only t ns k in
    let named = layout_good Anything w within N count (begins_count w.texts c.texts is.texts) (begins_count w.constants c.constants is.constants)
    (begins_count w.lists c.lists is.lists) (omega arith) (omega arith) p [] v
    (code_names a N Anything (λ b. b < N) (λ b h. h) (λ within x. any_free (a.variable within x).scope (a.variable within x).name)
    (λ b h. all_any (a.captured b)) k.code (made_below N k.code below)) (tabled_same w)
    (subst (AllByRecursion (λ (p : Placed). NamesIn within (instr_in w p.operation))) (sym only.instrs) tt) in
    let begins : at v ≡ 0 = ap wide only.instrs in
    let standing : Standing v = subst (λ ls. AllByRecursion (λ t. t.pc.0 ≤ at v) ls) (sym only.labels) (omega arith, tt) in
    let labels = label-stands w (stand p [] v standing) in
    let numbers : NumbersPiece (at w) p = piece-more (0 + instructions p) (at w) (omega (arith, begins, at-least p [] v)) p
    (counts_have_code a k.code 0).numbers in
    let counted = small w (at w) labels p [] v numbers (subst (AllByRecursion (Small w (at w) labels)) (sym only.instrs) tt) in
    together (λ (p : Placed). instr_in w p.operation) (λ (p : Placed). NamesIn within (instr_in w p.operation)) (λ (p : Placed). NumbersIn (at w)
    (instr_in w p.operation)) InstrFits
    (λ p h n. instr-fits within (at w) fits (instr_in w p.operation) h n) w.instrs named counted

block-fits : (ss : Stms) (n : ℕ) (b : BlockLayout) → slice_get (script_layouts ss) n ≡ Some b → NumbersFit (script.code_of ss) → CellsFit (script.code_of ss)
    → BlockFits (code_block b) × (length b.written.cells + length b.written.free < 2 ^ 32)
block-fits ss n b e f cells = (own BlockFits f.blocks.1, own (λ d. length d.cells + length d.free < 2 ^ 32) cells)
  where
    unmapped : (P : CodeBlock → Type 0) (ls : List BlockLayout) → AllByRecursion P (map code_block ls)
        → AllByRecursion (λ (d : BlockLayout). P (code_block d)) ls
    unmapped P [] h = tt
    unmapped P (l ∷ ls) h = (h.0, unmapped P ls h.1)

    own : (P : CodeBlock → Type 0) → AllByRecursion P (map code_block (script_layouts ss)) → P (code_block b)
    own P h = each_at (λ (d : BlockLayout). P (code_block d)) (script_layouts ss) n b e (unmapped P (script_layouts ss) h)

pub operands_fit : OperandsFit
operands_fit ss n b numbered f cells e =
    let c = script.code_of ss in
    let l = blocks_are_laid_out ss n b e in
    let own = block-fits ss n b e f cells in
    let fits : IsSmall (within_of c b) (at b.written) = record {
      constants = f.constants.0;
      texts = f.texts.0;
      locals = own.0.locals;
      cells = own.1;
      lists = f.lists.0;
      blocks = f.blocks.0;
      numbers = omega (arith, bytes-are b.written, own.0.instructions);
    } in
    let below = each_at (λ (k : Block). BelowCode (length (blocks_script ss)) k.code) (blocks_script ss) n l.block l.is_block (blocks_below ss numbered) in
    subst (λ (d : BlockLayout). IsBlockOf d.written c (code_block d) → IsSmall (within_of c d) (at d.written)
    → AllByRecursion InstrFits (instrs_of d.written)) (sym l.is)
    (layout-fits c (length (blocks_script ss)) (as_many_blocks ss) l.tables (around_of tt ss n) (names_of ss n) l.block below) l.whole fits
