use Rattle.pt_tree.specs.StatementFold.{script_of}
use Rattle.pt_prog.proofs.ListingLemmas.{is_file}
use Rattle.pt_prog.proofs.build.file_of.Goals as goal

pub returns : goal.returns
returns c =
    is_file c.requires.0 (script_of c.args.script.now) c.requires.1 c.in_ok-code.code c.in_ok-code.ensures c.write.result (λ v. v.items) c.write.ensures
