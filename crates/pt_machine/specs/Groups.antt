-- Groups of instructions by what they change.
use Rattle.std.specs.Prelude.{Bool, true, false}
use Rattle.pt_instr.specs.declared.Instr.{Instr}
use Rattle.pt_instr.specs.declared.Instr.TheVariants as instr

-- the slots alone
abbrev pub moves_slots : Instr → Bool
moves_slots instr.Nop = true
moves_slots (instr.Const k) = true
moves_slots instr.Pop = true
moves_slots instr.Copy = true
moves_slots instr.Copy2 = true
moves_slots instr.Swap = true
moves_slots instr.Rot3 = true
moves_slots (instr.Jump t) = true
moves_slots instr.Return = true
moves_slots (instr.Leave t) = true
moves_slots instr.Caught = true
moves_slots instr.EndHandler = true
moves_slots instr.Rethrow = true
moves_slots instr.Normal = true
moves_slots instr.EndFinally = true
moves_slots j = false

-- the slots and the heap, by an operation
abbrev pub operates : Instr → Bool
operates (instr.Unary o) = true
operates instr.Not = true
operates (instr.Binary o) = true
operates (instr.InPlace o) = true
operates (instr.Compare o) = true
operates (instr.JumpIf t) = true
operates (instr.JumpUnless t) = true
operates (instr.JumpIfKeep t) = true
operates (instr.JumpUnlessKeep t) = true
operates j = false

-- the same with containers, iterators and texts
abbrev pub uses_containers : Instr → Bool
uses_containers instr.Item = true
uses_containers instr.SetItem = true
uses_containers instr.DelItem = true
uses_containers instr.Slice = true
uses_containers (instr.Tuple n) = true
uses_containers (instr.List n) = true
uses_containers (instr.Set n) = true
uses_containers (instr.Dict n) = true
uses_containers (instr.ListAdd n) = true
uses_containers (instr.SetAdd n) = true
uses_containers (instr.DictAdd n) = true
uses_containers (instr.Format c) = true
uses_containers (instr.Join n) = true
uses_containers (instr.Unpack n) = true
uses_containers (instr.UnpackStar n m) = true
uses_containers instr.Spread = true
uses_containers instr.SpreadMap = true
uses_containers instr.Iter = true
uses_containers (instr.Next t) = true
uses_containers j = false

-- a context manager, which is entered or left
abbrev pub manages : Instr → Bool
manages instr.Enter = true
manages instr.Exit = true
manages j = false

-- an attribute, whose name the operand names
abbrev pub of_attributes : Instr → Bool
of_attributes (instr.Attr t) = true
of_attributes (instr.SetAttr t) = true
of_attributes (instr.DelAttr t) = true
of_attributes j = false

-- a module, or what a name is in it, that the operand names
abbrev pub imports : Instr → Bool
imports (instr.Import t) = true
imports (instr.ImportName t) = true
imports j = false

-- the same with what is raised and the classes of handlers
abbrev pub raises : Instr → Bool
raises instr.Raise = true
raises instr.RaiseFrom = true
raises instr.RaiseAgain = true
raises (instr.AssertFail b) = true
raises instr.Match = true
raises j = false

-- names
abbrev pub names_local : Instr → Bool
names_local (instr.Local x) = true
names_local (instr.SetLocal x) = true
names_local (instr.DelLocal x) = true
names_local (instr.FreshLocal x) = true
names_local j = false

abbrev pub names_cell : Instr → Bool
names_cell (instr.Cell x) = true
names_cell (instr.SetCell x) = true
names_cell (instr.DelCell x) = true
names_cell (instr.FreshCell x) = true
names_cell (instr.PushCell x) = true
names_cell j = false

abbrev pub names_global : Instr → Bool
names_global (instr.Global t) = true
names_global (instr.SetGlobal t) = true
names_global (instr.DelGlobal t) = true
names_global j = false

abbrev pub names_body : Instr → Bool
names_body (instr.Name t) = true
names_body (instr.SetName t) = true
names_body (instr.DelName t) = true
names_body j = false

-- functions and calls: cells and the heap
abbrev pub calls : Instr → Bool
calls (instr.Call n) = true
calls (instr.CallKw n l) = true
calls (instr.CallSpread n l) = true
calls (instr.MakeFunction b n l) = true
calls (instr.MakeClass b) = true
calls j = false
