-- Which operations leave all objects as they are, and at most put new ones behind them.
use Rattle.std.specs.Prelude.{◌≡◌, ◌++◌, Bool, true, false, List}
use Rattle.pt_heap.specs.declared.object.Object.{Object}
use Rattle.pt_content.specs.declared.op.Op.{Op}
use Rattle.pt_content.specs.declared.op.Op.TheVariants as op

abbrev pub only_adds : Op → Bool
only_adds op.Truth = true
only_adds op.Not = true
only_adds (op.Unary o) = true
only_adds (op.Binary o) = true
only_adds (op.Compare o) = true
only_adds op.Tuple = true
only_adds op.List = true
only_adds op.Set = true
only_adds op.Dict = true
only_adds op.Item = true
only_adds op.Slice = true
only_adds (op.Format c) = true
only_adds op.Join = true
only_adds o = false

-- objects stand behind those that are there
abbrev pub Grows : (old new : List Object) → Type 0
Grows h k = (more : List Object) × (k ≡ h ++ more)
