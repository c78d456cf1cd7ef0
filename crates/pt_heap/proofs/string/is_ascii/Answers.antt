use Rattle.std.proofs.Common.{◌≡◌, Bool, true, false}
use Rattle.std.specs.Bool.{MatchBool}
use Rattle.std.specs.Str.{IsAscii, IsNotAscii}
use Rattle.std.proofs.Common.{true≢false, sym}
use Rattle.pt_heap.proofs.string.is_ascii.Goals as goal

when : (b : Bool) (A B : Type 0) → MatchBool b A B → b ≡ true → A
when true A B m e = m
when false A B m e = absurd (true≢false (sym e))

pub returns : goal.returns
returns c = when c.is_ascii.result (IsAscii c.args.text.now) (IsNotAscii c.args.text.now) c.is_ascii.ensures.cases
