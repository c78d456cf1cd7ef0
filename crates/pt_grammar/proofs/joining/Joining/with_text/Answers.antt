use Rattle.std.proofs.Common.{map, sym, ap}
use Rattle.pt_tree.specs.Fold.{chained}
use Rattle.pt_wide.specs.Fold.{piece_of}
use Rattle.pt_grammar.specs.Nodes.{pieces_of}
use Rattle.pt_grammar.proofs.PieceLemmas.{texts_join}
use Rattle.pt_grammar.proofs.joining.Joining.with_text.Goals as goal

pub returns : goal.returns
returns c = λ r. rw (c.in-Some.is, c.in_ok-push_str.ensures.ok, c.as_str.ensures)
    (ap (λ p. chained p (map piece_of c.args.self.done.items)) (sym (texts_join c.in-Some.before.line.0 c.args.line.0 c.in-Some.before.text c.args.text (pieces_of r))))
