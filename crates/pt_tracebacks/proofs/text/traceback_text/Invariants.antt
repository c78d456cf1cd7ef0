use Rattle.std.proofs.Common.{◌≡◌, ◌++◌, drop, map}
use Rattle.pt_tracebacks.specs.Texts.{traceback_text}
use Rattle.pt_tracebacks.proofs.text.traceback_text.Given as goal

abbrev pub invariant-loop-exception : goal.invariant-loop-exception
invariant-loop-exception l =
    l.bytes.items ++ traceback_text l.file (map (λ s. s.now) l.lines.items) (drop l.exception-index l.exceptions)
    ≡ traceback_text l.file (map (λ s. s.now) l.lines.items) l.exceptions
