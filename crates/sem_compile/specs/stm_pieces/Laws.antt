-- What laws say of the code of statements and of blocks in pieces.
use Rattle.std.specs.Prelude.{◌≡◌, ◌<◌, ℕ, List, [], ◌∷◌, Bool, false, Option, Some, None}
use Rattle.pt_tree.specs.Syntax.{Name, Stm, Stms}
use Rattle.pt_tree.specs.Blocks as B
use Rattle.pt_tree.specs.Blocks.{Code as BlockCode, function_body}
use Rattle.pt_instr.specs.declared.TextNo.{TextNo}
use Rattle.pt_code.specs.declared.Const.{Const}
use Rattle.pt_code.specs.declared.Code.{Code}
use Rattle.pt_code.specs.declared.CodeBlock.{CodeBlock}
use Rattle.pt_code.specs.declared.Start.{Start}
use Rattle.sem_control.specs.control.Turn.{Around}
use Rattle.sem_control.specs.control.Control as control
use Rattle.sem_code.specs.slots.CodeObject.{CodeObject}
use Rattle.sem_code.specs.slots.Machine as machine
use Rattle.pt_assembler.specs.declared.operation.Exit.{Exit}
use Rattle.pt_assembler.specs.declared.operation.Target.{Target}
use Rattle.pt_assembler.specs.PieceAt.{Exits, Context, Piece_at, Fits}
use Rattle.pt_assembler.specs.Layout.{layout, begun}
use Rattle.pt_assembler.specs.Laws.{IsBlockOf, Shows}
use Rattle.sem_compile.specs.emitter.Laws.{Agrees}
use Rattle.sem_code.specs.comp.Surroundings.{Loop, Surroundings}
use Rattle.sem_code.specs.comp.Places.{Stm_at, All_at, Block_at, Lambda_at, Generator_at}
use Rattle.sem_code.specs.comp.Law.{Comes}
use Rattle.sem_compile.specs.stm_pieces.Needed.{some_exits, Behind}
use Rattle.sem_compile.specs.stm_pieces.Names.{TakesCells, Code_named}
use Rattle.sem_compile.specs.stm_pieces.StmPiece.{stm_piece, all_piece, code_piece}

-- the surroundings of the statements in a context
abbrev pub loop_of : Option Exits → Option Loop
loop_of None = None
loop_of (Some x) = Some (record {
  next = x.continue_to.pc.0;
  next_depth = x.continue_to.depth;
  end = x.break_to.pc.0;
  end_depth = x.break_to.depth;
})

abbrev pub surroundings : List Start → Context → Surroundings
surroundings starts x = record { rows = x.rows; depth = x.depth; loop = loop_of x.around; starts = starts }

abbrev pub outermost : (depth : ℕ) → Context
outermost d = record { rows = []; depth = d; around = None }

-- code knows its truths
abbrev pub KnowsTruths : {V : Type 0} → CodeObject V → Type 0
KnowsTruths code = (b : Bool) → code.is_truth (code.truth b) ≡ Some b

-- where the piece of a statement stands, there stands the code of the statement, and where those of several stand, that of them all
abbrev pub StatementIsCode : (V : Type 0) → Type 0
StatementIsCode V = (block : Around V) (code : CodeObject V) (starts : List Start) → Agrees block code → KnowsTruths code → (st : Stm) (n : ℕ) (b : Behind)
    (labels : List Target) (x : Context) (from to : ℕ) → Piece_at code starts (stm_piece block st n b) labels x from to
    → Stm_at block code st n (surroundings starts x) from to

abbrev pub StatementsAreCode : (V : Type 0) → Type 0
StatementsAreCode V = (block : Around V) (code : CodeObject V) (starts : List Start) → Agrees block code → KnowsTruths code → (ss : Stms) (n : ℕ) (b : Behind)
    (labels : List Target) (x : Context) (from to : ℕ) → Piece_at code starts (all_piece block ss n b) labels x from to
    → All_at block code ss n (surroundings starts x) from to

-- the code of what a block runs
abbrev pub Code_at : {V : Type 0} → Around V → CodeObject V → List Start → BlockCode → Type 0
Code_at block code starts (B.of_module ss) = Block_at block code starts ss
Code_at block code starts (B.of_function ss) = Block_at block code starts (function_body ss)
Code_at block code starts (B.of_class ss) = Block_at block code starts ss
Code_at block code starts (B.of_lambda l e) = Lambda_at block code l e
Code_at block code starts (B.of_generator l e k t cs) = Generator_at block code l e k t cs

-- how many slots lie where it begins
abbrev pub slots_of : BlockCode → ℕ
slots_of (B.of_generator l e k t cs) = 1
slots_of c = 0

-- a block whose piece was laid out has the code of what it runs
abbrev pub BlocksAreCode : (V : Type 0) → Type 0
BlocksAreCode V = (around : Around V) (c : BlockCode) (texts : List Name) (constants : List Const) (lists : List (List ℕ)) (locals cells free : List TextNo)
    (code : Code) (block : CodeBlock) (object : CodeObject V)
    → Fits (code_piece around c) [] false
    → IsBlockOf (layout (code_piece around c) [] (begun texts constants lists locals cells free (slots_of c))) code block
    → Shows (layout (code_piece around c) [] (begun texts constants lists locals cells free (slots_of c))) code block object
    → Agrees around object → KnowsTruths object → Code_at around object block.starts c

-- from the beginning of its block code comes to where it is what control is; a generator expression begins with its first iterator
abbrev pub Begins : {V : Type 0} → Around V → CodeObject V → BlockCode → Type 0
Begins block code (B.of_module ss) = Comes block code (control.start block ss) machine.start
Begins block code (B.of_function ss) = Comes block code (control.start block (function_body ss)) machine.start
Begins block code (B.of_class ss) = Comes block code (control.start block ss) machine.start
Begins block code (B.of_lambda l e) = Comes block code (control.start_lambda block l e) machine.start
Begins {V = V} block code (B.of_generator l e k t cs) = (i : V) → Comes block code (control.start_generator block l e k t cs i) (machine.start_generator i)

abbrev pub BlocksBegin : (V : Type 0) → Type 0
BlocksBegin V = (around : Around V) (object : CodeObject V) (starts : List Start) (c : BlockCode) → Code_at around object starts c → Begins around object c

-- no `break` or `continue` of a loop around stands in it
abbrev pub NoExits : Stms → Type 0
NoExits ss = (e : Exit) → some_exits e ss ≡ false

abbrev pub StandsInLoops : BlockCode → Type 0
StandsInLoops (B.of_module ss) = NoExits ss
StandsInLoops (B.of_function ss) = NoExits (function_body ss)
StandsInLoops (B.of_class ss) = NoExits ss
StandsInLoops (B.of_lambda l e) = Unit {0}
StandsInLoops (B.of_generator l e k t cs) = Unit {0}

-- where exits of loops stand in loops, and names are found as they may be, an instruction does what each act asks
abbrev pub PiecesFit : (V : Type 0) → Type 0
PiecesFit V = (around : Around V) (c : BlockCode) → TakesCells around → StandsInLoops c → Code_named around c → Fits (code_piece around c) [] false

-- starts of statements, each behind the one before
abbrev pub AllBehind : (pc : ℕ) → List Start → Type 0
AllBehind p [] = Unit {0}
AllBehind p (s ∷ ss) = (p < s.pc.0) × AllBehind p ss

abbrev pub Rise : List Start → Type 0
Rise [] = Unit {0}
Rise (s ∷ ss) = AllBehind s.pc.0 ss × Rise ss

abbrev pub StartsRise : (V : Type 0) → Type 0
StartsRise V = (around : Around V) (c : BlockCode) (texts : List Name) (constants : List Const) (lists : List (List ℕ)) (locals cells free : List TextNo)
    → TakesCells around → Code_named around c
    → Rise (layout (code_piece around c) [] (begun texts constants lists locals cells free (slots_of c))).starts
