use Rattle.std.proofs.Common.{◌≡◌, drop}
use Rattle.pt_assembler.specs.Layout.{with_local}
use Rattle.law_files.specs.sem_compile.compile.ScriptCode.{with_all}
use Rattle.pt_compile.proofs.names.enter_locals.Given as goal

abbrev pub invariant-loop-name : goal.invariant-loop-name
invariant-loop-name l = record {
  is : with_all with_local (drop l.name-index l.names) l.w ≡ with_all with_local l.names l.fn.w;
  act : l.w.act ≡ l.fn.w.act;
}
