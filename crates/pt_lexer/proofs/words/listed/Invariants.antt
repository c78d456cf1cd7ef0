use Rattle.std.proofs.Common.{◌≡◌, take, map, false}
use Rattle.pt_literals.specs.Source.{chars_of}
use Rattle.pt_lexer.specs.Words.{is_listed}
use Rattle.pt_lexer.proofs.words.listed.Given as goal

abbrev pub invariant-loop-spelling : goal.invariant-loop-spelling
invariant-loop-spelling l = is_listed (map (λ k. k.now) (take l.spelling-index l.list)) (chars_of l.front) ≡ false
