use Rattle.std.proofs.Common.{◌≡◌, take, map, false}
use Rattle.pt_lexer.specs.Words.{is_listed}
use Rattle.pt_lexer.proofs.brackets.lists.Given as goal

abbrev pub invariant-loop-word : goal.invariant-loop-word
invariant-loop-word l = is_listed (map (λ k. k.now) (take l.word-index l.list)) l.sign ≡ false
