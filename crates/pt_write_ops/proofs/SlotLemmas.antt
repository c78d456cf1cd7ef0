-- The operation on the slot of a name, once the writer has numbered it.
use Rattle.std.proofs.Common.{◌≡◌, [], ap}
use Rattle.pt_tree.specs.Syntax.{Name}
use Rattle.pt_instr.specs.declared.SlotNo.{SlotNo}
use Rattle.pt_instr.specs.declared.Instr.{Instr}
use Rattle.pt_assembler.specs.declared.operation.FreeUse.{FreeUse}
use Rattle.pt_assembler.specs.declared.operation.Operation.TheVariants.{Plain, Free}
use Rattle.pt_assembler.specs.Piece as P
use Rattle.pt_assembler.specs.Piece.{Op}
use Rattle.pt_assembler.specs.Layout.{Written, local_no, with_local, cell_no, with_cell, free_no, with_free, operation_of, with_operand}

pub on_local : (f : SlotNo → Instr) (op : Op) (x y : Name) (s : SlotNo) (w u : Written) → op ≡ P.with_local f y → x ≡ y
    → (s.0 ≡ local_no x w) × (u ≡ with_local x w) × (u.act ≡ w.act)
    → (Plain (f s) ≡ operation_of op [] w) × (u ≡ with_operand op w) × (u.act ≡ w.act)
on_local f op x y s w u is same (number, new, act) =
    rw (is, ← same) (ap (λ n. Plain (f (record { 0 = n }))) number, new, act)

pub on_cell : (f : SlotNo → Instr) (op : Op) (x y : Name) (s : SlotNo) (w u : Written) → op ≡ P.with_cell f y → x ≡ y
    → (s.0 ≡ cell_no x w) × (u ≡ with_cell x w) × (u.act ≡ w.act)
    → (Plain (f s) ≡ operation_of op [] w) × (u ≡ with_operand op w) × (u.act ≡ w.act)
on_cell f op x y s w u is same (number, new, act) =
    rw (is, ← same) (ap (λ n. Plain (f (record { 0 = n }))) number, new, act)

pub on_free : (k : FreeUse) (op : Op) (x y : Name) (s : SlotNo) (w u : Written) → op ≡ P.with_free k y → x ≡ y
    → (s.0 ≡ free_no x w) × (u ≡ with_free x w) × (u.act ≡ w.act)
    → (Free k s ≡ operation_of op [] w) × (u ≡ with_operand op w) × (u.act ≡ w.act)
on_free k op x y s w u is same (number, new, act) =
    rw (is, ← same) (ap (λ n. Free k (record { 0 = n })) number, new, act)
