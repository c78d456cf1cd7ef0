use Rattle.std.proofs.Common.{◌≡◌, ◌++◌, true, length, map}
use Rattle.std.specs.Str.{chars}
use Rattle.pt_strs.specs.Answer.{are_within}
use Rattle.pt_strs.specs.Blank.{is_blank}
use Rattle.pt_strs.specs.Strip.{without_front}
use Rattle.pt_strs.specs.Words.{words}
use Rattle.pt_strs.proofs.parts.words.Given as goal

abbrev pub invariant-loop-rest : goal.invariant-loop-rest
invariant-loop-rest l = record {
  whole : map chars l.words ++ words l.rest ≡ words (chars l.text);
  fits : are_within (map chars l.words) ≡ true;
  begins : without_front is_blank l.rest ≡ l.rest;
}

abbrev pub decreases-loop-rest : goal.decreases-loop-rest
decreases-loop-rest l = length l.rest
