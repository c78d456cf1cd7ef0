-- How many slots an instruction takes off as it asks: those below them stay, by which a raise lands,
-- and what the reply gives lies above them (Library Reference, "dis"; Language Reference 8.4).
use Rattle.std.specs.Prelude.{ℕ, suc, ◌+◌, Bool, true, false}
use Rattle.pt_instr.specs.declared.Instr.{Instr}
use Rattle.pt_instr.specs.declared.Instr.TheVariants as instr
use Rattle.sem_control.specs.control.Turn as T
use Rattle.sem_control.specs.control.Turn.{Ask}
use Rattle.sem_code.specs.slots.CodeObject.{Pool}

-- what only jumps, holds or reads takes none
abbrev pub taken : Pool → Instr → ℕ
taken pool (instr.SetLocal x) = 1
taken pool (instr.SetCell x) = 1
taken pool (instr.SetGlobal t) = 1
taken pool (instr.SetName t) = 1
taken pool instr.Pop = 1
taken pool instr.Copy = 1
taken pool instr.Copy2 = 2
taken pool instr.Swap = 2
taken pool instr.Rot3 = 3
taken pool (instr.Attr t) = 1
taken pool (instr.SetAttr t) = 2
taken pool (instr.DelAttr t) = 1
taken pool instr.Item = 2
taken pool instr.SetItem = 3
taken pool instr.DelItem = 2
taken pool instr.Slice = 3
taken pool (instr.Unary o) = 1
taken pool instr.Not = 1
taken pool (instr.Binary o) = 2
taken pool (instr.InPlace o) = 2
taken pool (instr.Compare o) = 2
taken pool (instr.Tuple n) = n
taken pool (instr.List n) = n
taken pool (instr.Set n) = n
taken pool (instr.Dict n) = n + n
taken pool (instr.ListAdd n) = 1
taken pool (instr.SetAdd n) = 1
taken pool (instr.DictAdd n) = 2
taken pool (instr.Format c) = 2
taken pool (instr.Join n) = n
taken pool instr.TupleJoin = 2
taken pool instr.DictMerge = 2
taken pool (instr.Unpack n) = 1
taken pool (instr.UnpackStar n m) = 1
taken pool instr.Spread = 1
taken pool instr.SpreadMap = 1
taken pool (instr.Call n) = suc n
taken pool (instr.CallKw n l) = suc n
taken pool (instr.CallSpread n l) = suc n
taken pool instr.Super = 2
taken pool (instr.MakeFunction b n l) = n + pool.captures b.0
taken pool (instr.MakeClass b) = suc (pool.captures b.0)
taken pool (instr.MakeGenerator b) = suc (pool.captures b.0)
taken pool instr.Iter = 1
taken pool (instr.Next t) = 1
taken pool (instr.JumpIf t) = 1
taken pool (instr.JumpUnless t) = 1
taken pool (instr.JumpIfKeep t) = 1
taken pool (instr.JumpUnlessKeep t) = 1
taken pool instr.Return = 1
taken pool instr.Yield = 1
taken pool instr.Delegate = 2
taken pool instr.Raise = 1
taken pool instr.RaiseFrom = 2
taken pool (instr.AssertFail true) = 1
taken pool instr.Match = 1
taken pool instr.EndHandler = 1
taken pool instr.Rethrow = 1
taken pool instr.Enter = 1
taken pool instr.Exit = 2
taken pool instr.EndFinally = 1
taken pool j = 0

-- an ask whose answer gives something, so that the block goes on above what lies below
abbrev pub Gives : {V : Type 0} → Ask V → Type 0
Gives (T.deed d) = ⊥
Gives (T.leave l) = ⊥
Gives (T.throw t) = ⊥
Gives (T.delegate i r) = ⊥
Gives a = Unit {0}
