-- What a log has taken to which nothing is passed on any more once a write of it failed: the pieces, or a front of them.
use Rattle.std.specs.Prelude.{◌++◌, [], Option, Some, None, Result, Ok, Err}
use Rattle.pt_base.specs.Taken.{Pieces, TookFront}
use Rattle.pt_base.specs.declared.sink.SinkErr.{SinkErr}

abbrev pub Passed : (failed : Option SinkErr) → (Taken : Pieces → Type 0) → Pieces → Type 0
Passed None Taken pieces = Taken pieces
Passed (Some error) Taken pieces = TookFront Taken [] pieces

-- from old to new, these pieces were passed on, behind whatever came later than the first
abbrev pub PassesOn : (failed failed_now : Option SinkErr) → (old new : Pieces → Pieces → Type 0) → Pieces → Type 0
PassesOn failed failed_now old new pieces =
    (first later h : Pieces) → Passed failed (λ ps. old first (later ++ ps)) h → Passed failed_now (λ ps. new first (later ++ ps)) (h ++ pieces)

-- the first answer of a write that wasn't Ok
abbrev pub first_failure : (before : Option SinkErr) → (answer : Result (Unit {0}) SinkErr) → Option SinkErr
first_failure (Some error) answer = Some error
first_failure None (Ok done) = None
first_failure None (Err error) = Some error
