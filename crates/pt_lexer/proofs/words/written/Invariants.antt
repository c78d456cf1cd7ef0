use Rattle.std.proofs.Common.{◌≡◌, take, string_bytes, encode_utf8_all}
use Rattle.pt_literals.specs.Source.{chars_of}
use Rattle.pt_lexer.proofs.words.written.Given as goal

abbrev pub invariant-loop-spot : goal.invariant-loop-spot
invariant-loop-spot l = string_bytes l.text ≡ encode_utf8_all (chars_of (take l.spot-index l.front))
