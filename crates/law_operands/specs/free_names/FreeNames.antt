-- What laws say of the free names of blocks and of their code.
use Rattle.std.specs.Prelude.{◌≡◌, ℕ, true, false, List, [], ◌∷◌, length, bytes_eq, slice_get, Some, None}
use Rattle.std.specs.List.{AllByRecursion, list_any}
use Rattle.pt_tree.specs.Syntax.{Name, Stms}
use Rattle.pt_tree.specs.Blocks.{Block, blocks_script}
use Rattle.pt_scopes.specs.declared.region.Kind.TheVariants.{Comprehension}
use Rattle.pt_scopes.specs.declared.region.Mention.{Mention}
use Rattle.pt_scopes.specs.Mentions.{places_script}
use Rattle.pt_scopes.specs.declared.region.Region.{Region}
use Rattle.pt_scopes.specs.Refusals.{fault_of}
use Rattle.pt_scopes.specs.Scope.{home_of}
use Rattle.sem_control.specs.control.Turn as T
use Rattle.sem_control.specs.control.Turn.{Scope, Variable}
use Rattle.sem_names.specs.Around.{around_of, captured_in, names_of}
use Rattle.sem_names.specs.BlockNames.{class_name, free_names, named_at}
use Rattle.sem_names.specs.Naming.{variable_in}
use Rattle.sem_names.specs.Script.{Naming, functions_of, naming_script}
use Rattle.pt_assembler.specs.Piece as P
use Rattle.pt_assembler.specs.Piece.{Op, Piece}
use Rattle.law_files.specs.sem_compile.stm_pieces.StmPiece.{code_piece}
use Rattle.law_files.specs.sem_compile.compile.ScriptCode.{BlockLayout, script_layouts}

abbrev pub Among : List Name → Name → Type 0
Among xs x = list_any (λ y. bytes_eq y x) xs ≡ true

-- no name that is mentioned is the one under which a class stands in a cell: no name of a script has a dot
abbrev pub ClassNameIsUnused : Stms → Type 0
ClassNameIsUnused ss = AllByRecursion (λ (m : Mention). bytes_eq m.name class_name ≡ false) (places_script ss).mentions

-- what is so of each name in a slot that an operand names: a local name, one in a cell, or a free one

abbrev pub NamedOperand : (Scope → Name → Type 0) → Op → Type 0
NamedOperand Q (P.with_local u x) = Q T.local x
NamedOperand Q (P.with_cell u x) = Q T.cell x
NamedOperand Q (P.with_free u x) = Q T.free x
NamedOperand Q op = Unit {0}

abbrev pub NamedOperands : (Scope → Name → Type 0) → Piece → Type 0
NamedOperands Q P.empty = Unit {0}
NamedOperands Q (P.act op k l g) = NamedOperand Q op
NamedOperands Q (P.move op) = NamedOperand Q op
NamedOperands Q (P.seq a b) = NamedOperands Q a × NamedOperands Q b
NamedOperands Q (P.block p) = NamedOperands Q p
NamedOperands Q (P.headed p) = NamedOperands Q p
NamedOperands Q (P.closed p) = NamedOperands Q p
NamedOperands Q (P.looped b p) = NamedOperands Q p
NamedOperands Q (P.leave e k l) = Unit {0}
NamedOperands Q (P.ensured p) = NamedOperands Q p
NamedOperands Q (P.caught p q) = NamedOperands Q p × NamedOperands Q q
NamedOperands Q (P.deeper k p) = NamedOperands Q p
NamedOperands Q (P.started l p) = NamedOperands Q p
NamedOperands Q (P.numbered k p) = NamedOperands Q p

-- of the free ones alone
abbrev pub OnlyFree : (Name → Type 0) → Scope → Name → Type 0
OnlyFree Q T.free x = Q x
OnlyFree Q s x = Unit {0}

abbrev pub FreeOperand : (Name → Type 0) → Op → Type 0
FreeOperand Q op = NamedOperand (OnlyFree Q) op

abbrev pub FreeOperands : (Name → Type 0) → Piece → Type 0
FreeOperands Q p = NamedOperands (OnlyFree Q) p

-- A block whose operands name none but its free names has as many of them in code as in the script: it begins with all of them, and each once.
abbrev pub OperandsLeaveFreeNames : Type 0
OperandsLeaveFreeNames = (ss : Stms) (n : ℕ) (layout : BlockLayout) (block : Block) → slice_get (script_layouts ss) n ≡ Some layout
    → slice_get (blocks_script ss) n ≡ Some block → ClassNameIsUnused ss
    → FreeOperands (Among (names_of ss n).frees) (code_piece (around_of {V = Unit {0}} tt ss n) block.code)
    → length layout.written.free ≡ length (names_of ss n).frees

-- what a mention in a block, or in a comprehension of it, has from further out than the block is one of the block's free names
abbrev pub NamedIsFree : Type 0
NamedIsFree = (ss : Stms) (b h : ℕ) → let g = places_script ss in
    fault_of g ≡ None → slice_get g.blocks b ≡ Some h
    → AllByRecursion (λ (m : Mention). home_of g.regions m.region ≡ h → (named_at g b h m).scope ≡ T.free
    → Among (free_names g (functions_of (naming_script ss)) h) m.name) g.mentions

-- a region in which a block's code runs, within comprehensions of the block whose first Nexts have numbers, the innermost first: the block itself, or
-- the innermost of them
abbrev pub StandsIn : Naming → (block : ℕ) → (within : List ℕ) → (region : ℕ) → Type 0
StandsIn g h [] r = r ≡ h
StandsIn g h (n ∷ v) r =
    (here : Region) × (slice_get g.places.regions r ≡ Some here) × (here.kind ≡ Comprehension) × (here.home ≡ h) × (slice_get g.nexts r ≡ Some (Some n))

-- so is what the block's code looks up where a name is mentioned, if the block has it from further out
abbrev pub LookedUpIsFree : Type 0
LookedUpIsFree = (ss : Stms) (b h : ℕ) (within : List ℕ) → let g = naming_script ss in
    fault_of g.places ≡ None → slice_get g.places.blocks b ≡ Some h
    → AllByRecursion (λ (m : Mention). StandsIn g h within m.region → (variable_in g b within m.name).scope ≡ T.free
    → Among (free_names g.places (functions_of g) h) (variable_in g b within m.name).name) g.places.mentions

-- what a block takes along that its maker has from further out is one of the maker's free names
abbrev pub TakenAlongIsFree : Type 0
TakenAlongIsFree = (ss : Stms) (h n k : ℕ) (block : Region) → let g = places_script ss in
    slice_get g.blocks n ≡ Some k → slice_get g.regions k ≡ Some block → home_of g.regions block.around ≡ h
    → AllByRecursion (λ (v : Variable). v.scope ≡ T.free → Among (free_names g (functions_of (naming_script ss)) h) v.name) (captured_in (naming_script ss) n)
