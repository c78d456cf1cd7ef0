use Rattle.std.proofs.Common.{◌≡◌, ◌++◌, drop, map}
use Rattle.pt_tracebacks.specs.Texts.{stack_text}
use Rattle.pt_tracebacks.proofs.text.push_stack.Given as goal

abbrev pub invariant-loop-frame : goal.invariant-loop-frame
invariant-loop-frame l =
    l.bytes.items ++ stack_text l.file (map (λ s. s.now) l.lines) (drop l.frame-index l.stack)
    ≡ l.fn.bytes.items ++ stack_text l.file (map (λ s. s.now) l.lines) l.stack
