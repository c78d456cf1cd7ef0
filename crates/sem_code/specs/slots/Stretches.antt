-- Stretches of code: what stands from a place to the next, one stretch behind another.
use Rattle.std.specs.Prelude.{◌≡◌, ℕ, List, Bool, Option, Some, None}
use Rattle.pt_ranges.specs.declared.lines.ActMark.{ActMark}
use Rattle.pt_ranges.specs.declared.handlers.Handler.{Handler}
use Rattle.pt_instr.specs.declared.Instr.{Instr}
use Rattle.pt_code.specs.View.{Ins}
use Rattle.sem_code.specs.slots.CodeObject.{CodeObject}

-- one stretch of code behind another
infixr 30 ◌⨾◌
abbrev pub ◌⨾◌ : (ℕ → ℕ → Type 0) → (ℕ → ℕ → Type 0) → ℕ → ℕ → Type 0
◌⨾◌ a b from to = (mid : ℕ) × a from mid × b mid to

-- no code
abbrev pub here : ℕ → ℕ → Type 0
here from to = from ≡ to

abbrev pub act_mark : (pc n l : ℕ) → Bool → Option ActMark
act_mark pc n l g = Some (record { pc = record { 0 = pc }; act = record { 0 = n }; line = record { 0 = l }; again = g })

abbrev pub ins : Instr → Option ActMark → (next : ℕ) → List Handler → Ins
ins j m next rows = record { instr = j; mark = m; next = next; rows = rows }

-- an instruction stands from a place to the next, under these handler rows
abbrev pub Stands : {V : Type 0} → CodeObject V → List Handler → Instr → Option ActMark → ℕ → ℕ → Type 0
Stands code rows j m from to = code.at from ≡ Some (ins j m to rows)
