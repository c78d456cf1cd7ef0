-- What each instruction takes and gives, the top last.
use Rattle.std.specs.Prelude.{ℕ, true, false, List, [], ◌∷◌, ◌++◌, replicate, None, Some, if◌then◌else◌}
use Rattle.pt_instr.specs.declared.Instr.{Instr}
use Rattle.pt_instr.specs.declared.Instr.TheVariants as instr
use Rattle.pt_instr.specs.declared.effects.Effect.{Effect}
use Rattle.pt_instr.specs.declared.kinds.Kind.{Kind}
use Rattle.pt_instr.specs.declared.kinds.Kind.TheVariants.{Value, Cell, Iter, Exc, Pending, With}

abbrev pub Kinds : Type 0
Kinds = List Kind

-- it takes these, and gives nothing and goes nowhere
abbrev pub taking : Kinds → Effect
taking kinds = record { takes = kinds; above = None; gives = None; aside = None; leaves = false; again = false; swaps = false; keeps = 0 }

-- it takes these and gives those
abbrev pub giving : Kinds → Kinds → Effect
giving taken given = record (taking taken) { gives = Some given }

abbrev pub keeping : ℕ → Effect → Effect
keeping count effect = record effect { keeps = count }

-- at its target it gives these
abbrev pub aside : Kinds → Effect → Effect
aside given effect = record effect { aside = Some given }

-- it leaves the place
abbrev pub leaving : Effect → Effect
leaving effect = record effect { leaves = true }

-- a value stands so many slots below those that it takes
abbrev pub above : ℕ → Effect → Effect
above count effect = record effect { above = Some count }

-- the row of an instruction; free is how many free names the block has that it names
unfoldable pub effect_of : Instr → (free : ℕ) → Effect
effect_of instr.Nop free = giving [] []
effect_of (instr.Const k) free = giving [] (Value ∷ [])
effect_of (instr.Local i) free = giving [] (Value ∷ [])
effect_of (instr.SetLocal i) free = giving (Value ∷ []) []
effect_of (instr.DelLocal i) free = giving [] []
effect_of (instr.Cell i) free = giving [] (Value ∷ [])
effect_of (instr.SetCell i) free = giving (Value ∷ []) []
effect_of (instr.DelCell i) free = giving [] []
effect_of (instr.Global t) free = giving [] (Value ∷ [])
effect_of (instr.SetGlobal t) free = giving (Value ∷ []) []
effect_of (instr.DelGlobal t) free = giving [] []
effect_of (instr.Name t) free = giving [] (Value ∷ [])
effect_of (instr.SetName t) free = giving (Value ∷ []) []
effect_of (instr.DelName t) free = giving [] []
effect_of (instr.PushCell i) free = giving [] (Cell ∷ [])
effect_of instr.Pop free = giving (Value ∷ []) []
effect_of instr.Copy free = keeping 1 (giving (Value ∷ []) (Value ∷ Value ∷ []))
effect_of instr.Copy2 free = keeping 2 (giving (Value ∷ Value ∷ []) (Value ∷ Value ∷ Value ∷ Value ∷ []))
effect_of instr.Swap free = record (giving (Value ∷ Value ∷ []) (Value ∷ Value ∷ [])) { swaps = true }
effect_of instr.Rot3 free = giving (Value ∷ Value ∷ Value ∷ []) (Value ∷ Value ∷ Value ∷ [])
effect_of (instr.Attr t) free = giving (Value ∷ []) (Value ∷ [])
effect_of (instr.SetAttr t) free = giving (Value ∷ Value ∷ []) []
effect_of (instr.DelAttr t) free = giving (Value ∷ []) []
effect_of instr.Item free = giving (Value ∷ Value ∷ []) (Value ∷ [])
effect_of instr.SetItem free = giving (Value ∷ Value ∷ Value ∷ []) []
effect_of instr.DelItem free = giving (Value ∷ Value ∷ []) []
effect_of instr.Slice free = giving (Value ∷ Value ∷ Value ∷ []) (Value ∷ [])
effect_of (instr.Unary o) free = giving (Value ∷ []) (Value ∷ [])
effect_of instr.Not free = giving (Value ∷ []) (Value ∷ [])
effect_of (instr.Binary o) free = giving (Value ∷ Value ∷ []) (Value ∷ [])
effect_of (instr.InPlace o) free = giving (Value ∷ Value ∷ []) (Value ∷ [])
effect_of (instr.Compare o) free = giving (Value ∷ Value ∷ []) (Value ∷ [])
effect_of (instr.Tuple n) free = giving (replicate n Value) (Value ∷ [])
effect_of (instr.List n) free = giving (replicate n Value) (Value ∷ [])
effect_of (instr.Set n) free = giving (replicate n Value) (Value ∷ [])
effect_of (instr.Dict n) free = giving (replicate n Value ++ replicate n Value) (Value ∷ [])
effect_of (instr.ListAdd n) free = above n (giving (Value ∷ []) [])
effect_of (instr.SetAdd n) free = above n (giving (Value ∷ []) [])
effect_of (instr.DictAdd n) free = above n (giving (Value ∷ Value ∷ []) [])
effect_of (instr.Format c) free = giving (Value ∷ Value ∷ []) (Value ∷ [])
effect_of (instr.Join n) free = giving (replicate n Value) (Value ∷ [])
effect_of (instr.Unpack n) free = giving (Value ∷ []) (replicate n Value)
effect_of (instr.UnpackStar n m) free = giving (Value ∷ []) (replicate m Value ++ (Value ∷ replicate n Value))
effect_of instr.Spread free = giving (Value ∷ []) (Value ∷ [])
effect_of instr.SpreadMap free = giving (Value ∷ []) (Value ∷ [])
effect_of (instr.Call n) free = giving (Value ∷ replicate n Value) (Value ∷ [])
effect_of (instr.CallKw n l) free = giving (Value ∷ replicate n Value) (Value ∷ [])
effect_of (instr.CallSpread n l) free = giving (Value ∷ replicate n Value) (Value ∷ [])
effect_of (instr.MakeFunction b n l) free = giving (replicate n Value ++ replicate free Cell) (Value ∷ [])
effect_of (instr.MakeClass b) free = giving (Value ∷ replicate free Cell) (Value ∷ [])
effect_of (instr.MakeGenerator b) free = giving (Iter ∷ replicate free Cell) (Value ∷ [])
effect_of instr.Iter free = giving (Value ∷ []) (Iter ∷ [])
effect_of (instr.Next to) free = keeping 1 (aside [] (giving (Iter ∷ []) (Iter ∷ Value ∷ [])))
effect_of (instr.Jump to) free = aside [] (taking [])
effect_of (instr.JumpIf to) free = aside [] (giving (Value ∷ []) [])
effect_of (instr.JumpUnless to) free = aside [] (giving (Value ∷ []) [])
effect_of (instr.JumpIfKeep to) free = keeping 1 (aside (Value ∷ []) (giving (Value ∷ []) []))
effect_of (instr.JumpUnlessKeep to) free = keeping 1 (aside (Value ∷ []) (giving (Value ∷ []) []))
effect_of instr.Return free = leaving (taking (Value ∷ []))
effect_of instr.Yield free = giving (Value ∷ []) (Value ∷ [])
effect_of instr.Delegate free = record (giving (Iter ∷ Value ∷ []) (Value ∷ [])) { again = true }
effect_of instr.Raise free = leaving (taking (Value ∷ []))
effect_of instr.RaiseFrom free = leaving (taking (Value ∷ Value ∷ []))
effect_of instr.RaiseAgain free = leaving (taking [])
effect_of instr.Match free = keeping 1 (giving (Exc ∷ Value ∷ []) (Exc ∷ Value ∷ []))
effect_of instr.Caught free = giving (Exc ∷ []) (Exc ∷ Value ∷ [])
effect_of instr.EndHandler free = giving (Exc ∷ []) []
effect_of instr.Rethrow free = leaving (taking (Exc ∷ []))
effect_of instr.Enter free = giving (Value ∷ []) (With ∷ Value ∷ [])
effect_of instr.Normal free = giving [] (Pending ∷ [])
effect_of instr.Exit free = giving (With ∷ Pending ∷ []) (Pending ∷ [])
effect_of instr.EndFinally free = leaving (giving (Pending ∷ []) [])
effect_of (instr.Leave to) free = leaving (taking [])
effect_of (instr.Import t) free = giving [] (Value ∷ [])
effect_of (instr.ImportName t) free = keeping 1 (giving (Value ∷ []) (Value ∷ Value ∷ []))
effect_of (instr.AssertFail given) free = leaving (taking (replicate (if given then 1 else 0) Value))
effect_of instr.TupleJoin free = giving (Value ∷ Value ∷ []) (Value ∷ [])
effect_of instr.DictMerge free = giving (Value ∷ Value ∷ []) (Value ∷ [])
effect_of instr.Super free = giving (Value ∷ Value ∷ []) (Value ∷ [])
effect_of (instr.FreshLocal i) free = giving [] []
effect_of (instr.FreshCell i) free = giving [] []
