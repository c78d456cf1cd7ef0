-- The code object of a block of a script runs the block, and both begin alike.
use Rattle.std.proofs.Common.{◌≡◌, Bool, true, false, if◌then◌else◌, [], ◌∷◌, Option, Some, None, refl, sym, ap, ◌∙◌}
use Rattle.pt_tree.specs.Syntax.{Stms}
use Rattle.pt_tree.specs.Blocks as B
use Rattle.pt_tree.specs.Blocks.{Block, Code}
use Rattle.pt_scopes.specs.Mentions.{places_script}
use Rattle.pt_scopes.specs.Refusals.{fault_of}
use Rattle.pt_instr.specs.declared.kinds.Kind.TheVariants.{Iter}
use Rattle.pt_code.specs.View.{Ins}
use Rattle.sem_code.specs.slots.CodeObject.{CodeObject}
use Rattle.sem_code.specs.slots.Machine as slots
use Rattle.sem_fits.specs.fits.Block as F
use Rattle.sem_fits.specs.fits.Block.{kinds_at_start}
use Rattle.sem_fits.specs.fits.Fits.{Fits}
use Rattle.sem_fits.specs.fits.Laws as laws
use Rattle.sem_fits.specs.fits.Laws.{Runs, Starts}
use Rattle.sem_fits.proofs.fits.Ways.{place_of}
use Rattle.pt_verify_depths.proofs.ObjectRuns.{object_runs}
use Rattle.sem_compile.specs.compile.ScriptCode.{BlockLayout, code_block, code_of}
use Rattle.sem_compile.specs.compile.Laws.{IsLayoutIn}
use Rattle.sem_compile.proofs.compile.Blocks.{blocks_are_laid_out}
use Rattle.law_pieces.specs.piece_kinds.Walk.{kinds_of}
use Rattle.law_pieces.specs.piece_kinds.Table.{IsTableOf}
use Rattle.law_pieces.specs.piece_kinds.Laws.{table_of}
use Rattle.sem_compile.specs.stm_pieces.StmPiece.{code_piece}
use Rattle.law_typed_pieces.specs.typed_pieces.Laws.{first_slots}
use Rattle.law_typed_pieces.specs.script_tables.Laws.{around_block}
use Rattle.law_typed_pieces.proofs.script_tables.Tables.{begins_so, blocks_have_tables}
use Rattle.law_typed_pieces.specs.law_operands.piece_names.Laws.{HasPlainArguments}
use Rattle.law_typed_pieces.proofs.law_operands.piece_names.Script.{names_are_found}
use Rattle.sem_run.specs.run.Machine.{BlockId}
use Rattle.sem_run.specs.run.Source.{Source, or_null}
use Rattle.law_code_runs.specs.code_run.CodeMachine.{CodeSource, start_of}
use Rattle.law_code_runs.specs.code_follows.Laws.{iterates, HasItsFreeNames, IsOfScript}
use Rattle.law_code_runs.proofs.code_follows.Objects.{shows}
use Rattle.law_code_runs.proofs.code_follows.Agreement.{free_names_have_cells}
use Rattle.law_jumps.specs.start_nests.Laws.{own_block}

same_some : {A : Type 0} {x y : A} (o : Option A) → o ≡ Some x → o ≡ Some y → x ≡ y
same_some o e f = let s : Some _ ≡ Some _ = sym e ∙ f in cc

-- the kinds with which the code of a block begins
first_kinds : (c : Code) → kinds_of (first_slots c) ≡ (if iterates c then Iter ∷ [] else [])
first_kinds (B.of_module ss) = refl
first_kinds (B.of_function ss) = refl
first_kinds (B.of_class ss) = refl
first_kinds (B.of_lambda l e) = refl
first_kinds (B.of_generator l e k t cs) = refl

-- which values there are doesn't matter
plain_anyway : {V : Type 0} (null : V) (c : Code) → HasPlainArguments null c
    → HasPlainArguments {V = Unit {0}} tt c
plain_anyway null c h = h

module _ {V : Type 0} (null : V) (ss : Stms) (source : Source V) (code : CodeSource V) (b : BlockId)
    (no_fault : fault_of (places_script ss) ≡ None) (keeps : HasItsFreeNames ss)
    (of : IsOfScript null ss source code b) where
  abbrev own : F.Block
  own = own_block null ss source code b of

  abbrev object : CodeObject V
  object = code.object b

  abbrev layout : BlockLayout
  layout = of.has_object.layout

  pub runs : Fits own → Runs object own
  runs fit = object_runs V (code_of ss) (code_block layout) object of.has_object.is_object fit

  table : IsTableOf own
      (table_of own (code_piece (around_block ss of.number) of.block.code) (first_slots of.block.code))
  table =
      let has = of.has_object in
      blocks_have_tables ss of.number of.block layout object no_fault has.is_block has.is_layout
      (shows null ss of.number of.block object has)
      (names_are_found {V = Unit {0}} tt ss of.number of.block has.is_block
      (plain_anyway null of.block.code has.plain))
      (λ m. free_names_have_cells ss of.number m keeps)

  -- an instruction stands where it begins
  begins_there : (i : Ins) × (own.at 0 ≡ Some i)
  begins_there = place_of (table.reached 0 table.first table.start)

  kinds : kinds_at_start own.kind ≡ (if iterates of.block.code then Iter ∷ [] else [])
  kinds =
      let laid : IsLayoutIn ss of.number layout =
      blocks_are_laid_out ss of.number layout of.has_object.is_layout in
      let same : laid.block ≡ of.block = same_some _ laid.is_block of.has_object.is_block in
      ap (λ (l : BlockLayout). kinds_at_start (code_block l).kind) laid.is
      ∙ begins_so laid.block.code
      ∙ ap (λ (k : Block). kinds_of (first_slots k.code)) same ∙ first_kinds of.block.code

  begins_by : (g : Bool) (i : Option V) → kinds_at_start own.kind ≡ (if g then Iter ∷ [] else [])
      → Starts own (if g then slots.start_generator (or_null object.null i) else slots.start)
  begins_by true i e = laws.iterating begins_there.0 begins_there.1 e (or_null object.null i)
  begins_by false i e = laws.empty begins_there.0 begins_there.1 e

  pub begins : (i : Option V) → Starts own (start_of code b i)
  begins i =
      begins_by (code.iterates b) i
      (kinds ∙ ap (λ g. if g then Iter ∷ [] else []) (sym of.same_start))
