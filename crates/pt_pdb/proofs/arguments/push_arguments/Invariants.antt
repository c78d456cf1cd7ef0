use Rattle.std.proofs.Common.{◌≡◌, ◌++◌, drop}
use Rattle.std.specs.List.{flat_map}
use Rattle.pt_pdb.specs.Arguments.{argument_text, arguments_text}
use Rattle.pt_pdb.proofs.arguments.push_arguments.Given as goal

abbrev pub invariant-loop-name : goal.invariant-loop-name
invariant-loop-name g l = record {
  kept : g.N.Names.held l.names ≡ g.N.Names.held l.fn.names;
  text : l.out.items ++ flat_map (argument_text (g.N.Names.answer (g.N.Names.held l.fn.names)) l.frame.locals) (drop l.name-index l.frame.params)
      ≡ l.fn.out.items ++ arguments_text (g.N.Names.answer (g.N.Names.held l.fn.names)) l.frame;
}
