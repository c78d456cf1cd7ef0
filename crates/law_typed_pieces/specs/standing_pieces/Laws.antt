-- What the law says of the instructions of a script's code.
use Rattle.std.specs.Prelude.{◌≡◌, ℕ, true, false, slice_get, Some, None}
use Rattle.std.specs.List.{AllByRecursion}
use Rattle.pt_tree.specs.Syntax.{Stms}
use Rattle.sem_control.specs.numbering.Numbered.{IsNumbered}
use Rattle.pt_scopes.specs.Mentions.{places_script}
use Rattle.pt_scopes.specs.Refusals.{fault_of}
use Rattle.pt_assembler.specs.declared.operation.Operation.{Operation}
use Rattle.pt_assembler.specs.declared.operation.Operation.TheVariants.{Plain, To, Free}
use Rattle.pt_assembler.specs.declared.operation.Placed.{Placed}
use Rattle.pt_assembler.specs.Layout.{Written, instr_in}
use Rattle.sem_fits.specs.fits.Block.{Links, links_of}
use Rattle.sem_fits.specs.fits.Standing.{may_stand}
use Rattle.law_pieces.specs.piece_kinds.Exits.{is_leave}
use Rattle.pt_code.specs.declared.BlockKind.{BlockKind}
use Rattle.law_operands.specs.law_files.sem_compile.compile.ScriptCode.{BlockLayout, code_of, script_layouts}

-- an exit of a loop is written with its label
abbrev pub LeavesByLabel : Operation → Type 0
LeavesByLabel (Plain i) = is_leave i ≡ false
LeavesByLabel (To j k) = Unit {0}
LeavesByLabel (Free u i) = Unit {0}

-- an instruction that is laid out may stand in a block of the kind
pub record StandsLaid (kind : BlockKind) (links : Links) (w : Written) (p : Placed) : Type 0 where
  pub stands : may_stand kind links (instr_in w p.operation) ≡ true
  pub leaves : LeavesByLabel p.operation

-- In a script whose declarations have no fault and whose blocks have their numbers each instruction of a block may stand there (4.2.2, 6.2.8, 6.2.9,
-- 6.3.4, 8.7, 8.8).
abbrev pub InstructionsMayStand : Type 0
InstructionsMayStand = (ss : Stms) → fault_of (places_script ss) ≡ None → IsNumbered ss → (n : ℕ) (b : BlockLayout) → slice_get (script_layouts ss) n ≡ Some b
    → AllByRecursion (StandsLaid b.heading.kind (links_of (code_of ss)) b.written) b.written.instrs
