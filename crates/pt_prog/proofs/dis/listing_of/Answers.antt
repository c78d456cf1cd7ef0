use Rattle.pt_tree.specs.StatementFold.{script_of}
use Rattle.pt_prog.proofs.ListingLemmas.{has_file, rise}
use Rattle.pt_prog.proofs.dis.listing_of.Goals as goal

pub listing-requires-clause-file : goal.listing-requires-clause-file
listing-requires-clause-file c = has_file c.requires.0 (script_of c.args.script.now) c.requires.1 c.in_ok-code.code c.in_ok-code.ensures

pub listing-requires-clause-rise : goal.listing-requires-clause-rise
listing-requires-clause-rise c = rise c.requires.0 (script_of c.args.script.now) c.requires.1 c.in_ok-code.code c.in_ok-code.ensures
