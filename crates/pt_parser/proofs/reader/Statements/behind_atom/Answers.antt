use Rattle.pt_parser.proofs.reader.Statements.behind_atom.Goals as goal

pub returns : goal.returns
returns c = rw (← c.self.view_is) c.behind_atom.ensures
