-- Where a piece stands in a code object: from a place to another.
use Rattle.std.specs.Prelude.{◌≡◌, ℕ, ◌+◌, List, [], ◌∷◌, Bool, true, false, Option, Some, None}
use Rattle.std.specs.List.{Contains}
use Rattle.pt_ranges.specs.declared.handlers.Handler.{Handler}
use Rattle.pt_ranges.specs.Rows.{covers}
use Rattle.pt_instr.specs.declared.ConstNo.{ConstNo}
use Rattle.pt_instr.specs.declared.TextNo.{TextNo}
use Rattle.pt_instr.specs.declared.ListNo.{ListNo}
use Rattle.pt_instr.specs.declared.SlotNo.{SlotNo}
use Rattle.pt_instr.specs.declared.Instr.{Instr}
use Rattle.pt_instr.specs.declared.Instr.TheVariants as instr
use Rattle.pt_code.specs.declared.Start.{Start}
use Rattle.sem_control.specs.control.Turn as T
use Rattle.sem_code.specs.slots.Slots.{jump_to}
use Rattle.sem_code.specs.slots.CodeObject.{Pool, CodeObject, named}
use Rattle.sem_code.specs.slots.Landing.{takes}
use Rattle.sem_code.specs.slots.Stretches.{◌⨾◌, act_mark, Stands}
use Rattle.pt_assembler.specs.declared.operation.Jump.{Jump}
use Rattle.pt_assembler.specs.declared.operation.Jump.TheVariants.{AtEnd, Always, IfTrue, IfFalse, IfTrueKeep, IfFalseKeep, Leave}
use Rattle.pt_assembler.specs.declared.operation.FreeUse.{FreeUse}
use Rattle.pt_assembler.specs.declared.operation.FreeUse.TheVariants.{Load, Store, Delete, Renew, Push}
use Rattle.pt_assembler.specs.declared.operation.Target.{Target}
use Rattle.pt_assembler.specs.declared.operation.Exit.{Exit}
use Rattle.pt_assembler.specs.declared.operation.Exit.TheVariants.{Break, Continue}
use Rattle.pt_assembler.specs.Piece.{Op, plain, never, const, with_local, with_cell, with_free, with_text, with_list, to, Piece, empty, act, move, seq, block, headed, closed, looped, leave, ensured, caught, deeper, started, numbered, pick}

abbrev pub instr_to : Jump → (pc : ℕ) → Instr
instr_to AtEnd p = instr.Next (record { 0 = p })
instr_to Always p = instr.Jump (record { 0 = p })
instr_to IfTrue p = instr.JumpIf (record { 0 = p })
instr_to IfFalse p = instr.JumpUnless (record { 0 = p })
instr_to IfTrueKeep p = instr.JumpIfKeep (record { 0 = p })
instr_to IfFalseKeep p = instr.JumpUnlessKeep (record { 0 = p })
instr_to Leave p = instr.Leave (record { 0 = p })

abbrev pub instr_of_free : FreeUse → (slot : ℕ) → Instr
instr_of_free Load i = instr.Cell (record { 0 = i })
instr_of_free Store i = instr.SetCell (record { 0 = i })
instr_of_free Delete i = instr.DelCell (record { 0 = i })
instr_of_free Renew i = instr.FreshCell (record { 0 = i })
instr_of_free Push i = instr.PushCell (record { 0 = i })

abbrev pub target : (pc depth : ℕ) → Target
target p d = record { pc = record { 0 = p }; depth = d }

abbrev pub start_of : Target
start_of = target 0 0

-- the instruction's operand names this, or its place is that of the label
abbrev pub Is : Pool → List Target → Op → Instr → Type 0
Is pool L (plain i) j = j ≡ i
Is pool L never j = ⊥
Is pool L (const k) j = (c : ConstNo) × (j ≡ instr.Const c) × (pool.constant c.0 ≡ k)
Is pool L (with_local f x) j = (i : SlotNo) × (j ≡ f i) × (pool.local i.0 ≡ x)
Is pool L (with_cell f x) j = (i : SlotNo) × (j ≡ f i) × (pool.cell i.0 ≡ named T.cell x)
Is pool L (with_free u x) j = (i : ℕ) × (j ≡ instr_of_free u i) × (pool.cell i ≡ named T.free x)
Is pool L (with_text f x) j = (t : TextNo) × (j ≡ f t) × (pool.text t.0 ≡ x)
Is pool L (with_list f xs) j = (l : ListNo) × (j ≡ f l) × (pool.texts l.0 ≡ xs)
Is pool L (to k l) j = j ≡ instr_to k (pick start_of L l).pc.0

-- where the exits of a loop go
pub record Exits : Type 0 where
  pub break_to : Target
  pub continue_to : Target

abbrev pub exit_of : Exit → Exits → Target
exit_of Break x = x.break_to
exit_of Continue x = x.continue_to

-- what the code of a statement depends on: the handler rows that cover it, inner ones first, how many slots lie below, and the loop around it
pub record Context : Type 0 where
  pub rows : List Handler
  pub depth : ℕ
  pub around : Option Exits

abbrev pub in_loop : (break_to : Target) → (end : ℕ) → Context → Context
in_loop b e x = record x { around = Some (record { break_to = b; continue_to = target e x.depth }) }

abbrev pub under : Handler → Context → Context
under row x = record x { rows = row ∷ x.rows }

abbrev pub over : ℕ → Context → Context
over k x = record x { depth = x.depth + k }

abbrev pub row_of : (from to target depth : ℕ) → (always : Bool) → Handler
row_of f t p d a = record { from = record { 0 = f }; to = record { 0 = t }; target = record { 0 = p }; depth = d; always = a }

-- no row takes a jump to the place
abbrev pub Passes : List Handler → (pc : ℕ) → Type 0
Passes [] p = Unit {0}
Passes (row ∷ rows) p = (takes {V = ℕ} row (jump_to p) ≡ false) × Passes rows p

-- the exits of the loop around lie outside of a row
abbrev pub LeadsOut : Handler → Option Exits → Type 0
LeadsOut row None = Unit {0}
LeadsOut row (Some x) = (covers row x.break_to.pc ≡ false) × (covers row x.continue_to.pc ≡ false)

module _ {V : Type 0} (code : CodeObject V) (starts : List Start) where
  -- an instruction that goes out of the loop around, at whose target so many slots lie
  abbrev pub Exit_at : Option Exits → Exit → (n l : ℕ) → List Handler → ℕ → ℕ → Type 0
  Exit_at None e n l rows = λ from to. ⊥
  Exit_at (Some x) e n l rows = λ from to. (code.depth_at (exit_of e x).pc.0 ≡ (exit_of e x).depth)
      × Stands code rows (instr.Leave (exit_of e x).pc) (act_mark from n l false) from to

  abbrev pub Piece_at : Piece → List Target → Context → ℕ → ℕ → Type 0
  Piece_at empty L x = λ from to. from ≡ to
  Piece_at (act op n l g) L x = λ from to. (j : Instr) × Is code.pool L op j × Stands code x.rows j (act_mark from n l g) from to
  Piece_at (move op) L x = λ from to. (j : Instr) × Is code.pool L op j × Stands code x.rows j None from to
  Piece_at (seq a b) L x = Piece_at a L x ⨾ Piece_at b L x
  Piece_at (block p) L x = λ from to. Piece_at p (target to x.depth ∷ L) x from to
  Piece_at (headed p) L x = λ from to. Piece_at p (target from x.depth ∷ L) x from to
  Piece_at (closed p) L x = Piece_at p [] x
  Piece_at (looped b p) L x = λ from to. Passes x.rows (pick start_of L b).pc.0 × Passes x.rows to
      × Piece_at p [] (in_loop (pick start_of L b) to x) from to
  Piece_at (leave e n l) L x = Exit_at x.around e n l x.rows
  Piece_at (ensured p) L x = λ from to. LeadsOut (row_of from to to x.depth true) x.around
      × (Piece_at p [] (under (row_of from to to x.depth true) x)
      ⨾ Stands code (row_of from to to x.depth true ∷ x.rows) instr.Normal None) from to
  Piece_at (caught p q) L x = λ from to. (mid : ℕ) × Piece_at p [] (under (row_of from mid to x.depth false) x) from mid × Piece_at q L x mid to
  Piece_at (deeper k p) L x = Piece_at p L (over k x)
  Piece_at (started l p) L x = λ from to. Contains starts (record { pc = record { 0 = from }; line = record { 0 = l } }) × Piece_at p L x from to
  Piece_at (numbered n p) L x = Piece_at p L x

-- some instruction does it
abbrev pub IsDone : Op → Type 0
IsDone never = ⊥
IsDone op = Unit {0}

-- each instruction does something, and exits of loops stand within loops alone, to labels that are ends
abbrev pub Fits : Piece → (are_ends : List Bool) → (in_loop : Bool) → Type 0
Fits (act op n l h) es g = IsDone op
Fits (move op) es g = IsDone op
Fits (seq a b) es g = Fits a es g × Fits b es g
Fits (block p) es g = Fits p (true ∷ es) g
Fits (headed p) es g = Fits p (false ∷ es) g
Fits (closed p) es g = Fits p [] g
Fits (looped b p) es g = (pick false es b ≡ true) × Fits p [] true
Fits (leave e n l) es g = g ≡ true
Fits (ensured p) es g = Fits p [] g
Fits (caught p q) es g = Fits p [] g × Fits q es g
Fits (deeper k p) es g = Fits p es g
Fits (started l p) es g = Fits p es g
Fits (numbered n p) es g = Fits p es g
Fits p es g = Unit {0}
