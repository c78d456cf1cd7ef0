-- A heap above a mark: what stands below it stays.
use Rattle.std.specs.Prelude.{List}
use Rattle.pt_heap.specs.declared.object.Object.{Object}

pub record Marked : Type 0 where
  pub objects : List Object
  pub below : List Object
