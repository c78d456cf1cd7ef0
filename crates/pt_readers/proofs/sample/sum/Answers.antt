use Rattle.std.proofs.Common.{ℕ, List, Result, Ok, Err, ◌≡◌, sym, refl, subst}
use Rattle.pt_readers.specs.declared.halt.Halt.{Halt}
use Rattle.pt_readers.specs.declared.sample.Mark.{Mark}
use Rattle.pt_readers.specs.Sample.{a_sum}
use Rattle.pt_readers.specs.Settled.{Settled}
use Rattle.pt_readers.specs.Whole.{Tells}
use Rattle.pt_readers.proofs.Wholes.{settled_tells, seen}
use Rattle.pt_readers.proofs.sample.sum.Goals as goal

seen_same : (r : Result ℕ Halt) → seen (λ d. d) r ≡ r
seen_same (Ok d) = refl
seen_same (Err e) = refl

told : (most : ℕ) (ts rest : List Mark) (r : Result ℕ Halt) → Settled (a_sum most) (λ d. d) ts rest r → Tells (a_sum most) ts rest r
told most ts rest r h = subst (Tells (a_sum most) ts rest) (seen_same r) (settled_tells (a_sum most) (λ d. tt) (λ d. d) ts rest r h)

pub returns : goal.returns
returns c = (_, sym c.len.ensures, told c.args.depth c.args.marks.now _ c.sum-answer.result (subst (λ u. Settled (a_sum c.args.depth) (λ d. d) u c.sum-answer.new.self.marks c.sum-answer.result) c.new.ensures c.sum-answer.ensures))
