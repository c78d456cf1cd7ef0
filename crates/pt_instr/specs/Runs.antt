-- Kinds of slots in runs of one kind.
use Rattle.std.specs.Prelude.{List, replicate}
use Rattle.pt_instr.specs.declared.kinds.Kind.{Kind}
use Rattle.pt_instr.specs.declared.kinds.Run.{Run}

-- as many of its kind as it counts
abbrev pub kinds_of : Run → List Kind
kinds_of run = replicate run.count run.kind
