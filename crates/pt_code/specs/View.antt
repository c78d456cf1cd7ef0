-- Code as a view, for what runs it: what stands at each place of a block, the act that begins there and the handler
-- rows that cover it. Bytes and tables are left behind (Library Reference, "dis").
use Rattle.std.specs.Prelude.{◌≡◌, ◌+◌, ℕ, List, [], ◌∷◌, nat_eq, find, length, if◌then◌else◌, Option, None, Some}
use Rattle.std.specs.List.{flat_map, filter, AllByRecursion}
use Rattle.pt_instr.specs.declared.Instr.{Instr}
use Rattle.pt_instr.specs.Encoding.{encoding, Fits}
use Rattle.pt_ranges.specs.declared.lines.ActMark.{ActMark}
use Rattle.pt_ranges.specs.declared.handlers.Handler.{Handler}
use Rattle.pt_ranges.specs.Rows.{covers}
use Rattle.pt_code.specs.declared.CodeBlock.{CodeBlock}

-- an instruction as it stands: the act that begins there, the place behind it, and the rows that cover it, inner rows first
pub record Ins : Type 0 where
  pub instr : Instr
  pub mark : Option ActMark
  pub next : ℕ
  pub rows : List Handler

abbrev pub ins_at : CodeBlock → (pc : ℕ) → Instr → Ins
ins_at b pc i = record {
  instr = i;
  mark = find (λ m. nat_eq m.pc.0 pc) b.marks;
  next = pc + length (encoding i);
  rows = filter (λ row. covers row (record { 0 = pc })) b.handlers;
}

-- what stands at a place of instructions, of which the first stands at `at`
abbrev pub laid_from : CodeBlock → (at : ℕ) → List Instr → (pc : ℕ) → Option Ins
laid_from b at [] pc = None
laid_from b at (i ∷ is) pc = if nat_eq at pc then Some (ins_at b pc i) else laid_from b (at + length (encoding i)) is pc

-- the view of a block whose bytes are those of instructions
pub record IsView (b : CodeBlock) (view : ℕ → Option Ins) : Type 0 where
  pub instrs : List Instr
  pub fits : AllByRecursion Fits instrs
  pub spelled : b.instructions ≡ flat_map encoding instrs
  pub view_is : view ≡ laid_from b 0 instrs
