-- The code of a supported script is supported, and it is run where it isn't too deep.
use Rattle.std.proofs.Common.{◌≡◌, ◌++◌, ℕ, Bool, true, false, if◌then◌else◌, List, [], length, Option, Some, refl, sym, ap, ◌∙◌, subst}
use Rattle.std.specs.Prelude.{slice_get, slice_index_or, ◌||◌}
use Rattle.std.specs.List.{AllByRecursion, IsDistinct, list_any}
use Rattle.std.specs.Str.{bytes_eq}
use Rattle.std.proofs.Math.Bool.{or-true}
use Rattle.std.proofs.lemmas.Bool.{false≢true}
use Rattle.std.proofs.lemmas.List.{length-map}
use Rattle.std.proofs.lemmas.List.Folds.{list_any-append}
use Rattle.pt_tree.specs.Syntax.{Stms}
use Rattle.pt_tree.specs.Acts.{act, acts_clauses, acts_exp, acts_target}
use Rattle.pt_tree.specs.declared.act.ActKind.TheVariants as A
use Rattle.pt_tree.specs.declared.act.ActRow.{ActRow}
use Rattle.pt_tree.specs.Blocks as B
use Rattle.pt_tree.specs.Blocks.{Code as BlockCode, yields}
use Rattle.pt_instr.specs.declared.Instr.{Instr}
use Rattle.pt_instr.specs.declared.Instr.TheVariants as instr
use Rattle.pt_code.specs.declared.BlockKind.TheVariants as kind
use Rattle.pt_code.specs.declared.Code.{Code}
use Rattle.pt_code.specs.declared.CodeBlock.{CodeBlock}
use Rattle.pt_code.specs.View.{Ins, IsView, laid_from}
use Rattle.pt_code.proofs.OneView.{one_view}
use Rattle.pt_assembler.specs.Layout.{instrs_of}
use Rattle.law_typed_pieces.specs.law_operands.law_files.sem_compile.compile.ScriptCode.{BlockLayout, code_block, code_of, kind_of, script_layouts}
use Rattle.law_typed_pieces.proofs.law_operands.law_files.operands_fit.Operands.{operands_fit}
use Rattle.sem_fits.specs.fits.Block.{links_of}
use Rattle.law_typed_pieces.proofs.standing_pieces.Script.{instructions_may_stand}
use Rattle.pt_supported.proofs.Quiet.{gives_on}
use Rattle.pt_supported.proofs.Silent.{built_blocks_give_nothing_on}
use Rattle.pt_supported_code.specs.Built.{IsBuiltBlock, TakesAsListed, is_plain_kind}
use Rattle.pt_prog.proofs.pt_run_script.pt_run_code.law_loading.script_program.Facts.{locals_are_different}
use Rattle.pt_prog.proofs.pt_run_script.pt_run_code.law_loading.code_names.Instructions.{TakesAsNamed, all-take, laid-is}
use Rattle.law_compile.proofs.fitting_scripts.Fitting.{code_of_texts_fits}
use Rattle.law_program.specs.script_files.Laws.{CodeIsSupported, HasCodeFile, ShallowCodeIsRunnable}
use Rattle.law_program.proofs.script_files.Named.{cells_fit, different_cells, different_frees, in_script, names, numbered_blocks, numbers}

-- kinds of blocks

-- an act in the midst of others gives a value on
gives_within : (xs ys zs : List ActRow) → list_any (λ r. gives_on r.kind) ys ≡ true → list_any (λ r. gives_on r.kind) (xs ++ ys ++ zs) ≡ true
gives_within xs ys zs e =
    let gives : ActRow → Bool = λ r. gives_on r.kind in
    list_any-append gives (xs ++ ys) zs
    ∙ ap (λ (b : Bool). b || list_any gives zs) (list_any-append gives xs ys ∙ (ap (λ (b : Bool). list_any gives xs || b) e ∙ or-true (list_any gives xs)))

-- what gives no value on is a module, a function or the body of a class
plain_kind : (c : BlockCode) → yields c ≡ false → is_plain_kind (kind_of c) ≡ true
plain_kind (B.of_module ss) silent = refl
plain_kind (B.of_function ss) silent = ap (λ (t : Bool). is_plain_kind (if t then kind.Generator else kind.Function)) silent
plain_kind (B.of_class ss) silent = refl
plain_kind (B.of_lambda l e) silent = ap (λ (t : Bool). is_plain_kind (if t then kind.Generator else kind.Function)) silent
plain_kind (B.of_generator l e k t cs) silent =
    let gives : yields (B.of_generator l e k t cs) ≡ true =
    gives_within (act A.Next k ++ acts_target t ++ acts_clauses l cs ++ acts_exp e) (act A.Yield l) (act A.Discard l) refl in
    absurd (false≢true (sym silent ∙ gives))

-- as many defaults as the code lists
as_listed : (c : Code) (i : Instr) → TakesAsNamed (λ l. length ((links_of c).texts l)) i → TakesAsListed c.lists i
as_listed c (instr.MakeFunction b n l) h = h ∙ length-map (slice_index_or c.lists l.0 []) (λ t. slice_index_or c.texts t [])
as_listed c i h = tt

module _ (text : List ℕ) (ss : Stms) (h : HasCodeFile text ss) where
  abbrev c : Code
  c = code_of ss

  -- of a block
  module _ (n : ℕ) (b : BlockLayout) (at : slice_get (script_layouts ss) n ≡ Some b) where
    laid_view : IsView (code_block b) (laid_from (code_block b) 0 (instrs_of b.written))
    laid_view = record {
      instrs = instrs_of b.written;
      fits = operands_fit ss n b (numbered_blocks text ss h) (numbers text ss h) (cells_fit text ss h) at;
      spelled = refl;
      view_is = refl;
    }

    takes : (view : ℕ → Option Ins) → IsView (code_block b) view → (pc : ℕ) (i : Ins) → view pc ≡ Some i → TakesAsListed c.lists i.instr
    takes view seen pc i e =
        let T : Instr → Type 0 = TakesAsNamed (λ l. length ((links_of c).texts l)) in
        let same : view ≡ laid_from (code_block b) 0 (instrs_of b.written) =
        one_view (code_block b) view (laid_from (code_block b) 0 (instrs_of b.written)) seen laid_view in
        let all : AllByRecursion T (instrs_of b.written) =
        all-take b.heading.kind (links_of c) b.written b.written.instrs
        (instructions_may_stand ss h.is_script.no_fault (numbered_blocks text ss h) n b at) in
        as_listed c i.instr (laid-is T (code_block b) 0 (instrs_of b.written) pc i all (ap (λ v. v pc) (sym same) ∙ e))

  built_block : (n : ℕ) (b : CodeBlock) → slice_get c.blocks n ≡ Some b → IsBuiltBlock c b
  built_block n b e =
      let i = in_script ss n b e in
      let k = i.layout in
      subst (IsBuiltBlock c) i.is (record {
        is_plain =
            ap is_plain_kind i.kind
            ∙ plain_kind i.block.code (built_blocks_give_nothing_on ss h.is_built n i.block i.is_block);
        locals = subst (IsDistinct bytes_eq) (sym (names text ss h n k i.is_layout).locals) (locals_are_different ss n);
        cells = different_cells text ss h n k i.is_layout;
        free = different_frees text ss h n k i.is_layout;
        takes = takes n k i.is_layout;
      })

pub code_is_supported : CodeIsSupported
code_is_supported text ss h = built_block text ss h

pub shallow_code_is_runnable : ShallowCodeIsRunnable
shallow_code_is_runnable text ss h shallow = record {
  has_file = h.has_file;
  fit = λ n b at view seen.
      code_of_texts_fits text ss h.is_script (numbers text ss h) (cells_fit text ss h) n b at view seen (shallow n b at view seen);
  built = code_is_supported text ss h;
}
