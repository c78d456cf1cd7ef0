-- The numbers of the acts behind the parts of a compound statement, each part named once.
use Rattle.std.specs.Prelude.{ℕ, ◌+◌, Option, Some, None}
use Rattle.pt_tree.specs.Syntax.{Name, Exp, Tgt, Stms, Handlers}
use Rattle.pt_tree.specs.Sizes.{size, target_size, stms_size, handlers_size}

-- the body of an `if`, `elif` or `while` and what stands behind it; n numbers the first act of the test
abbrev pub tested_body : (n : ℕ) → (test : Exp) → ℕ
tested_body n c = n + size c + 1

abbrev pub behind_body : (n : ℕ) → (test : Exp) → (body : Stms) → ℕ
behind_body n c body = n + size c + 1 + stms_size body

-- the body and the `else` part of a `for`; n numbers Next
abbrev pub for_body : (n : ℕ) → Tgt → ℕ
for_body n t = n + 1 + target_size t

abbrev pub for_else : (n : ℕ) → Tgt → (body : Stms) → ℕ
for_else n t body = n + 1 + target_size t + stms_size body

-- the handlers of a `try`, its `else` and its `finally` part; n numbers Try
abbrev pub try_handlers : (n : ℕ) → (body : Stms) → ℕ
try_handlers n body = n + 1 + stms_size body

abbrev pub try_else : (n : ℕ) → (body : Stms) → Handlers → ℕ
try_else n body hs = n + 1 + stms_size body + handlers_size hs

abbrev pub try_finally : (n : ℕ) → (body : Stms) → Handlers → (els : Stms) → ℕ
try_finally n body hs els = n + 1 + stms_size body + handlers_size hs + stms_size els

-- the body of a handler is behind its Match, and behind the Store of its name, if it has one; n numbers its Match
abbrev pub handler_body : (n : ℕ) → Option Name → ℕ
handler_body n None = n + 1
handler_body n (Some x) = n + 1 + 1
