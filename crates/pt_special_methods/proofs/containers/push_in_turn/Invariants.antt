use Rattle.std.proofs.Common.{◌≡◌, drop}
use denote.Shadow.{shadow}
use denote.Text.{Utf8}
use Rattle.pt_reprs.specs.Pieces.{with_pieces}
use Rattle.pt_special_methods.specs.Containers.{in_turn}
use Rattle.pt_special_methods.proofs.containers.push_in_turn.Given as goal

abbrev pub invariant-loop-text : goal.invariant-loop-text
invariant-loop-text l = record {
  writes : with_pieces (in_turn l.heap l.before l.next l.texts) l.fn.writer
      ≡ with_pieces (in_turn l.heap l.first l.second (drop l.text-index l.texts)) l.writer;
  first : shadow (Utf8 l.first);
  second : shadow (Utf8 l.second);
}
