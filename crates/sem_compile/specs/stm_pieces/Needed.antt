-- Where the code of a statement must lead to the place behind it by a branch that is never taken, and which statements need a place: so that some way comes to the
-- start of each statement, as a jump may land there, and to each place that a loop is left for (Library Reference, "inspect": `f_lineno`).
use Rattle.std.specs.Prelude.{Bool, true, false, not, ◌&&◌, ◌||◌, List, [], ◌∷◌, Option, Some, None}
use Rattle.pt_tree.specs.Syntax as S
use Rattle.pt_tree.specs.Syntax.{Name, Place, Stm, Stms, Branches, Handlers, none, more}
use Rattle.sem_control.specs.control.Statements.{all_places}
use Rattle.pt_assembler.specs.declared.operation.Exit.{Exit}
use Rattle.pt_assembler.specs.declared.operation.Exit.TheVariants.{Break, Continue}

abbrev pub is_break : Exit → Bool
is_break Break = true
is_break Continue = false

-- a `break` or a `continue` of the loop around stands in it
abbrev mutual
  pub exits : Exit → Stm → Bool
  exits e (S.break l) = is_break e
  exits e (S.continue l) = not (is_break e)
  exits e (S.choice l bs els) = some_branch_exits e bs || some_exits e els
  exits e (S.while l c body els) = some_exits e els
  exits e (S.for l t it body els) = some_exits e els
  exits e (S.try l body hs els fin) = some_exits e body || (some_handler_exits e hs || (some_exits e els || some_exits e fin))
  exits e (S.with l is body) = some_exits e body
  exits e st = false

  pub some_exits : Exit → Stms → Bool
  some_exits e none = false
  some_exits e (more st ss) = exits e st || some_exits e ss

  pub some_branch_exits : Exit → Branches → Bool
  some_branch_exits e S.no_branches = false
  some_branch_exits e (S.branch l c body r) = some_exits e body || some_branch_exits e r

  pub some_handler_exits : Exit → Handlers → Bool
  some_handler_exits e S.no_handlers = false
  some_handler_exits e (S.handler l c x body r) = some_exits e body || some_handler_exits e r

-- a handler that has bound a name goes on at its end, where that is unbound
abbrev pub is_bound : Option Name → Bool
is_bound None = false
is_bound (Some x) = true

-- the `else` part of a `try` stands behind its body
abbrev pub either : Stms → (body otherwise : Bool) → Bool
either none body otherwise = body
either (more st ss) body otherwise = otherwise

-- a `finally` part goes on with what it holds, and so does what it isn't written behind
abbrev pub at_last : Stms → (guarded finally : Bool) → Bool
at_last none guarded finally = guarded
at_last (more st ss) guarded finally = finally

-- the place behind is reached, whether or not it must be. A `break` is one way to the end of its loop
abbrev mutual
  pub goes_on : Stm → Bool
  goes_on (S.return l e) = false
  goes_on (S.raise l e c) = false
  goes_on (S.raise_again l) = false
  goes_on (S.break l) = false
  goes_on (S.continue l) = false
  goes_on (S.choice l bs els) = some_branch_goes_on bs || all_go_on els
  goes_on (S.while l c body els) = some_exits Break body || all_go_on els
  goes_on (S.for l t it body els) = some_exits Break body || all_go_on els
  goes_on (S.try l body hs els fin) = at_last fin (either els (all_go_on body) (all_go_on els) || some_handler_goes_on hs) (all_go_on fin)
  goes_on st = true

  pub all_go_on : Stms → Bool
  all_go_on none = true
  all_go_on (more st none) = goes_on st
  all_go_on (more st (more u ss)) = all_go_on (more u ss)

  pub some_branch_goes_on : Branches → Bool
  some_branch_goes_on S.no_branches = false
  some_branch_goes_on (S.branch l c body r) = all_go_on body || some_branch_goes_on r

  pub some_handler_goes_on : Handlers → Bool
  some_handler_goes_on S.no_handlers = false
  some_handler_goes_on (S.handler l c x body r) = (is_bound x || all_go_on body) || some_handler_goes_on r

-- a statement that never goes on by itself
abbrev pub leaves : Stm → Bool
leaves (S.return l e) = true
leaves (S.raise l e c) = true
leaves (S.raise_again l) = true
leaves (S.break l) = true
leaves (S.continue l) = true
leaves st = false

abbrev pub is_nowhere : List Place → Bool
is_nowhere [] = true
is_nowhere (p ∷ ps) = false

-- a statement that has no instruction in front of the statements within, if it has any
abbrev pub is_silent : Stm → Bool
is_silent (S.del l ts) = is_nowhere (all_places ts)
is_silent (S.import l []) = true
is_silent (S.global l xs) = true
is_silent (S.nonlocal l xs) = true
is_silent (S.choice l S.no_branches els) = true
is_silent (S.with l S.no_items body) = true
is_silent (S.docstring l) = true
is_silent st = false

-- what is asked of the place behind: that some way comes there, or nothing; or something comes there anyway, since it is the place behind another way too
pub data Behind : Type 0 where
  needed : Behind
  free : Behind
  reached : Behind

abbrev pub is_needed : Behind → Bool
is_needed needed = true
is_needed b = false

abbrev pub needed_if : Bool → Behind
needed_if true = needed
needed_if false = free

-- behind a statement in front of these, the last of which has this place behind it
abbrev pub in_front : Stms → Behind → Behind
in_front none b = b
in_front (more st ss) b = needed

-- behind the `else` part of an `if`, where its branches go on too; behind that of a loop, where its `break` goes
abbrev pub behind_branches : (some_goes_on : Bool) → Behind → Behind
behind_branches true b = reached
behind_branches false b = b

abbrev pub behind_loop : (breaks : Bool) → Behind → Behind
behind_loop true reached = reached
behind_loop true b = needed
behind_loop false b = b

-- behind the body of a `try` and its `else` part: a Normal, where a `finally` part stands; a jump to the end, where handlers stand
abbrev pub behind_tried : Handlers → (finally : Stms) → Behind → Behind
behind_tried hs (more st ss) b = free
behind_tried S.no_handlers none b = b
behind_tried hs none b = needed_if (is_needed b && not (some_handler_goes_on hs))
