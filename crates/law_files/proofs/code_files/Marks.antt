-- Marks stand one behind the other, since each instruction has a byte at least.
use Rattle.std.proofs.Common.{◌≡◌, ◌<◌, ◌≤◌, ◌+◌, ℕ, zero, suc, List, [], ◌∷◌, ◌++◌, map, length, slice_index, Option, Some, None, subst, arith}
use Rattle.std.specs.List.{AllByRecursion}
use Rattle.pt_ranges.specs.declared.lines.ActMark.{ActMark}
use Rattle.pt_ranges.specs.Marks.{Rises}
use Rattle.pt_assembler.specs.declared.operation.Act.{Act}
use Rattle.pt_assembler.specs.declared.operation.Placed.{Placed}
use Rattle.pt_assembler.specs.Layout.{width, mark_at, listed, marks_from}
use Rattle.pt_assembler.proofs.Shown.{width_some}
use Rattle.sem_compile.specs.compile.ScriptCode.{BlockLayout, script_layouts, code_block}
use Rattle.law_files.specs.code_files.Laws.{MarksRise}

abbrev places : List ActMark → List ℕ
places ms = map (λ m. m.pc.0) ms

-- at a place or behind it
abbrev From : (pc : ℕ) → List ActMark → Type 0
From pc ms = (k : ℕ) → k < length (places ms) → pc ≤ slice_index (places ms) k

one_from : (pc w : ℕ) (a : Option Act) (ms : List ActMark) → From (pc + w) ms → From pc (listed (mark_at pc a) ++ ms)
one_from pc w None ms h k within = let behind : pc + w ≤ slice_index (places ms) k = h k within in omega arith
one_from pc w (Some a) ms h zero within = omega arith
one_from pc w (Some a) ms h (suc k) within = let behind : pc + w ≤ slice_index (places ms) k = h k (omega arith) in omega arith

from_place : (pc : ℕ) (ps : List Placed) → From pc (marks_from pc ps)
from_place pc [] k within = absurd (omega arith)
from_place pc (p ∷ ps) k within =
    one_from pc (width p.operation) p.act (marks_from (pc + width p.operation) ps) (from_place (pc + width p.operation) ps) k within

one_rises : (pc w : ℕ) (a : Option Act) (ms : List ActMark) → 0 < w → From (pc + w) ms → Rises ms → Rises (listed (mark_at pc a) ++ ms)
one_rises pc w None ms some h rises k within = rises k within
one_rises pc w (Some a) ms some h rises zero within = let behind : pc + w ≤ slice_index (places ms) 0 = h 0 (omega arith) in omega arith
one_rises pc w (Some a) ms some h rises (suc k) within =
    let e : suc (k + 1) ≡ suc k + 1 = omega arith in
    subst (λ n. slice_index (places ms) k < slice_index (pc ∷ places ms) n) e (rises k (omega arith))

rise_from : (pc : ℕ) (ps : List Placed) → Rises (marks_from pc ps)
rise_from pc [] k within = absurd (omega arith)
rise_from pc (p ∷ ps) k within =
    one_rises pc (width p.operation) p.act (marks_from (pc + width p.operation) ps) (width_some p.operation)
    (from_place (pc + width p.operation) ps) (rise_from (pc + width p.operation) ps) k within

all_rise : (bs : List BlockLayout) → AllByRecursion (λ b. Rises b.marks) (map code_block bs)
all_rise [] = tt
all_rise (b ∷ bs) = (rise_from 0 b.written.instrs, all_rise bs)

pub marks_rise : MarksRise
marks_rise ss = all_rise (script_layouts ss)
