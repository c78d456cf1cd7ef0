use Rattle.std.proofs.Common.{Bool, ◌≡◌, ◌+◌, ◌≤◌, ◌++◌, length, drop, encode_utf8_all}
use Rattle.std.specs.Str.{chars}
use Rattle.pt_literals.specs.Source.{placed, end_behind}
use Rattle.pt_literals.proofs.source.place.Given as goal

abbrev pub invariant-loop-c : goal.invariant-loop-c
invariant-loop-c l = record {
  spots : l.spots ++ placed l.at l.line l.before (drop (length l.yielded) (chars l.text)) ≡ placed 0 1 0 (chars l.text);
  end : (whole : Bool) → end_behind l.at l.line l.before (drop (length l.yielded) (chars l.text)) whole ≡ end_behind 0 1 0 (chars l.text) whole;
  at : l.at + length (encode_utf8_all (drop (length l.yielded) (chars l.text))) ≡ length l.text;
  line : l.line ≤ 1 + length l.yielded;
}
