-- The listing of code, for people: blocks with their numbers and names, instructions with their places and operands, acts with their
-- lines where they begin (Library Reference, "dis").
use Rattle.std.specs.Prelude.{◌≡◌, ◌<◌, ◌+◌, ◌^◌, ℕ, List, [], ◌∷◌, ◌++◌, length, codes, nat_eq, Option, Some, None, if◌then◌else◌, slice_index_or}
use Rattle.std.specs.List.{flat_map, AllByRecursion}
use Rattle.std.specs.Fmt.{decimal}
use Rattle.pt_ranges.specs.declared.lines.ActMark.{ActMark}
use Rattle.pt_ranges.specs.Marks.{Rises, mark_over}
use Rattle.pt_instr.specs.declared.Instr.{Instr}
use Rattle.pt_instr.specs.Encoding.{code_of, encoding, Fits}
use Rattle.pt_instr.specs.Names.{name_of}
use Rattle.pt_code.specs.declared.CodeBlock.{CodeBlock}
use Rattle.pt_code.specs.declared.Code.{Code}

-- words with one blank between them are a line
abbrev pub line_end : List ℕ
line_end = 10 ∷ []

abbrev pub behind_blank : ℕ → List ℕ
behind_blank n = 32 ∷ decimal n

abbrev pub block_line : (number : ℕ) → (name : List ℕ) → List ℕ
block_line n name = codes "block " ++ decimal n ++ 32 ∷ name ++ line_end

abbrev pub act_line : ActMark → List ℕ
act_line m = codes "act " ++ decimal m.act.0 ++ codes " line " ++ decimal m.line.0 ++ line_end

-- the act that begins at a place, if one does
abbrev pub act_lines : Option ActMark → List ℕ
act_lines (Some m) = act_line m
act_lines None = []

abbrev pub instr_line : (pc : ℕ) → Instr → List ℕ
instr_line pc i = decimal pc ++ 32 ∷ name_of i ++ flat_map behind_blank (code_of i).operands ++ line_end

-- the mark that covers a place, where it stands there
abbrev pub standing : (pc : ℕ) → Option ActMark → Option ActMark
standing pc (Some m) = if nat_eq m.pc.0 pc then Some m else None
standing pc None = None

abbrev pub mark_at : List ActMark → (pc : ℕ) → Option ActMark
mark_at ms pc = standing pc (mark_over ms (record { 0 = pc }))

-- the lines of instructions, of which the first stands at a place
abbrev pub instr_lines : List ActMark → (at : ℕ) → List Instr → List ℕ
instr_lines ms at [] = []
instr_lines ms at (i ∷ is) = act_lines (mark_at ms at) ++ instr_line at i ++ instr_lines ms (at + length (encoding i)) is

-- the bytes of a block are those of instructions
pub record IsSpelled (b : CodeBlock) (is : List Instr) : Type 0 where
  pub fits : AllByRecursion Fits is
  pub spelled : b.instructions ≡ flat_map encoding is

abbrev pub block_lines : (texts : List (List ℕ)) → (number : ℕ) → CodeBlock → List Instr → List ℕ
block_lines texts n b is = block_line n (slice_index_or texts b.name.0 []) ++ instr_lines b.marks 0 is

abbrev pub IsBlockListing : (texts : List (List ℕ)) → (number : ℕ) → CodeBlock → (lines : List ℕ) → Type 0
IsBlockListing texts n b lines = (is : List Instr) × IsSpelled b is × (lines ≡ block_lines texts n b is)

-- of blocks, of which the first has a number
abbrev pub AreListings : (texts : List (List ℕ)) → (number : ℕ) → List CodeBlock → (lines : List ℕ) → Type 0
AreListings texts n [] lines = lines ≡ []
AreListings texts n (b ∷ bs) lines = (first : List ℕ) × (rest : List ℕ) × IsBlockListing texts n b first
    × AreListings texts (n + 1) bs rest × (lines ≡ first ++ rest)

abbrev pub IsListing : Code → (lines : List ℕ) → Type 0
IsListing c lines = AreListings c.texts 0 c.blocks lines

-- what a block needs to be listed: a name among the texts, marks that rise, and bytes that are those of instructions and can be counted
pub record CanBeListed (texts : List (List ℕ)) (b : CodeBlock) : Type 0 where
  pub named : b.name.0 < length texts
  pub rise : Rises b.marks
  pub counted : length b.instructions < 2 ^ 32
  pub instrs : List Instr
  pub is_spelled : IsSpelled b instrs
