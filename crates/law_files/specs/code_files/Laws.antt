-- What laws say of the fields of a script's code.
use Rattle.std.specs.Prelude.{◌≡◌, ◌<◌, ℕ, Bool, true, false, List, [], ◌∷◌, length, nat_le, nat_eq, None}
use Rattle.std.specs.List.{flat_map, AllByRecursion}
use Rattle.pt_ranges.specs.Marks.{Rises}
use Rattle.pt_tree.specs.Syntax.{Stms}
use Rattle.pt_scopes.specs.Mentions.{places_script}
use Rattle.pt_scopes.specs.Refusals.{fault_of}
use Rattle.pt_instr.specs.declared.TextNo.{TextNo}
use Rattle.pt_instr.specs.declared.Instr.{Instr}
use Rattle.pt_instr.specs.Encoding.{encoding}
use Rattle.pt_code.specs.declared.Const.{Const}
use Rattle.pt_code.specs.declared.Const.TheVariants as const
use Rattle.pt_code.specs.declared.CodeBlock.{CodeBlock}
use Rattle.pt_code.specs.declared.Code.{Code}
use Rattle.pt_code.specs.File.{stands_first, may_count, flags, naming, inside, names_of, NamesAll, parameter_count, signature_of, HasFile}
use Rattle.sem_compile.specs.compile.ScriptCode.{code_of}
use Rattle.law_files.specs.code_files.Numbers.{NumbersFit}
use Rattle.sem_control.specs.numbering.Numbered.{IsNumbered}

abbrev pub MarksRise : Type 0
MarksRise = (ss : Stms) → AllByRecursion (λ b. Rises b.marks) (code_of ss).blocks

-- the block's kind is one that may stand first or behind the first, and that may have its parameters
abbrev pub HasKind : (first : Bool) → CodeBlock → Type 0
HasKind first b = (stands_first first b.kind ≡ true)
    × ((may_count b.kind b.parameters ≡ true) × ((may_count b.kind (flags b.rest) ≡ true) × (may_count b.kind b.keyword_only ≡ true)))

abbrev pub ModuleFirst : List CodeBlock → Type 0
ModuleFirst [] = ⊥
ModuleFirst (b ∷ bs) = HasKind true b × AllByRecursion (HasKind false) bs

abbrev pub ModuleStandsFirst : Type 0
ModuleStandsFirst = (ss : Stms) → ModuleFirst (code_of ss).blocks

-- each number of a text is below the count of texts

abbrev pub TextIn : (texts : ℕ) → TextNo → Type 0
TextIn texts t = t.0 < texts

abbrev pub ConstantIn : (texts : ℕ) → Const → Type 0
ConstantIn texts (const.Text t) = TextIn texts t
ConstantIn texts k = Unit {0}

abbrev pub ListIn : (texts : ℕ) → List ℕ → Type 0
ListIn texts l = AllByRecursion (λ n. n < texts) l

-- the name of a block, and those of its variables
abbrev pub HasTexts : (texts : ℕ) → CodeBlock → Type 0
HasTexts texts b =
    TextIn texts b.name × (AllByRecursion (TextIn texts) b.locals × (AllByRecursion (TextIn texts) b.cells × AllByRecursion (TextIn texts) b.free))

abbrev pub TextsAreKnown : Type 0
TextsAreKnown = (ss : Stms) → AllByRecursion (ConstantIn (length (code_of ss).texts)) (code_of ss).constants
    × (AllByRecursion (ListIn (length (code_of ss).texts)) (code_of ss).lists × AllByRecursion (HasTexts (length (code_of ss).texts)) (code_of ss).blocks)

-- The bytes of a block are those of instructions, of which there is one at least, and each of their operands names what the code or the block has, or
-- is below its bound.
pub record NamesInside (c : Code) (first : Bool) (b : CodeBlock) : Type 0 where
  pub some : 0 < length b.instructions
  pub instrs : List Instr
  pub spelled : b.instructions ≡ flat_map encoding instrs
  pub named : AllByRecursion (NamesAll (naming (inside (length c.texts) (length c.constants) (length c.lists) (length c.blocks) first) (names_of b))) instrs

abbrev pub InstructionsNameInside : Type 0
InstructionsNameInside = (ss : Stms) → IsNumbered ss → (first : Bool) → AllByRecursion (NamesInside (code_of ss) first) (code_of ss).blocks

-- its locals are as many as its parameters, or more
abbrev pub HasParameters : CodeBlock → Type 0
HasParameters b = nat_le (parameter_count (signature_of b)) (length b.locals) ≡ true

abbrev pub ParametersAreLocals : Type 0
ParametersAreLocals = (ss : Stms) → fault_of (places_script ss) ≡ None → AllByRecursion HasParameters (code_of ss).blocks

-- the first block has no free names
abbrev pub FirstHasNoFree : List CodeBlock → Type 0
FirstHasNoFree [] = Unit {0}
FirstHasNoFree (b ∷ bs) = nat_eq (length b.free) 0 ≡ true

abbrev pub ModuleHasNoFreeNames : Type 0
ModuleHasNoFreeNames = (ss : Stms) → IsNumbered ss → fault_of (places_script ss) ≡ None → FirstHasNoFree (code_of ss).blocks

-- Where blocks have their numbers and declarations no fault, only the sizes of its numbers can keep a code from having a file.
abbrev pub ScriptHasFile : Type 0
ScriptHasFile = (ss : Stms) → IsNumbered ss → fault_of (places_script ss) ≡ None → NumbersFit (code_of ss) → HasFile (code_of ss)
