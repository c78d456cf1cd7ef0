-- Jumps to another line of a block (`frame.f_lineno`, Library Reference, sys.settrace): which are permitted, and where control is behind one.
use Rattle.std.specs.Prelude.{◌≡◌, ℕ, ◌+◌, ◌==◌, Bool, true, false, not, ◌&&◌, ◌||◌, List, [], ◌∷◌, ◌++◌, map, Option, Some, None, if◌then◌else◌}
use Rattle.std.specs.List.{list_any, filter_map}
use Rattle.pt_tree.specs.Syntax as S
use Rattle.pt_tree.specs.Syntax.{Name, Items, Stm, Stms, Branches, Handlers, none, more}
use Rattle.pt_tree.specs.Sizes.{size, target_size, opt_size, items_size, stm_size, stms_size}
use Rattle.pt_tree.specs.Blocks as B
use Rattle.pt_tree.specs.Blocks.{Code, function_body}
use Rattle.sem_control.specs.control.Frames as F
use Rattle.sem_control.specs.control.Frames.{Completion, normal, Frame, Nest, rest, looping, iterating, guarded, testing, handling, naming, ensuring, ending, withing, exiting, Way}
use Rattle.sem_control.specs.control.Numbers.{tested_body, behind_body, for_body, for_else, try_handlers, try_else, try_finally, handler_body}

-- the closed parts of a block: a `for` from its first Next on, the body of a `with` and its exit, each by the number of its Next or Exit; the
-- tests of handlers by their first act, a handler by its Match, and a `finally` part by the Try of its `try`
pub data Part : Type 0 where
  for_part : ℕ → Part
  with_part : ℕ → Part
  tests_part : ℕ → Part
  handler_part : ℕ → Part
  finally_part : ℕ → Part
  exit_part : ℕ → Part

-- the exit of a `with` counts as a `finally` part
abbrev pub is_final : Part → Bool
is_final (finally_part n) = true
is_final (exit_part n) = true
is_final q = false

abbrev pub same : Part → Part → Bool
same (for_part n) (for_part m) = n == m
same (with_part n) (with_part m) = n == m
same (tests_part n) (tests_part m) = n == m
same (handler_part n) (handler_part m) = n == m
same (finally_part n) (finally_part m) = n == m
same (exit_part n) (exit_part m) = n == m
same p q = false

-- what a closed part holds
pub data Held (V : Type 0) : Type 0 where
  iterator : V → Held V
  exception : V → Held V
  completion : Completion V → Held V
  exit : V → Held V
  exit_and : V → Completion V → Held V

-- the closed part that a frame is, if it is one, and what it holds
abbrev pub kept_by : {V : Type 0} → Frame V → Option (Part × Held V)
kept_by (iterating l n i t body els) = Some (for_part n, iterator i)
kept_by (testing n e) = Some (tests_part n, exception e)
kept_by (handling n e) = Some (handler_part n, exception e)
kept_by (ending t held) = Some (finally_part t, completion held)
kept_by (withing l n w) = Some (with_part n, exit w)
kept_by (exiting n w held) = Some (exit_part n, exit_and w held)
kept_by f = None

abbrev pub kept : {V : Type 0} → Nest V → List (Part × Held V)
kept s = filter_map kept_by s

-- the closed parts in which a nest lies
abbrev pub parts : {V : Type 0} → Nest V → List Part
parts s = map (λ k. k.0) (kept s)

abbrev pub has : List Part → Part → Bool
has ps q = list_any (same q) ps

-- what the innermost part that is the same one holds
abbrev pub holding : {V : Type 0} → List (Part × Held V) → Part → Option (Held V)
holding [] q = None
holding (k ∷ ks) q = if same q k.0 then Some k.1 else holding ks q

pub data Verdict : Type 0 where
  permitted : Verdict
  -- no statement starts on the line
  no_statement : Verdict
  into_block : Verdict
  out_of_finally : Verdict

-- of the closed parts of the place and of the target: a `finally` part can be neither entered nor left, and no other part entered
abbrev pub verdict : (place target : List Part) → Verdict
verdict ps ts =
    if list_any (λ q. is_final q && not (has ts q)) ps || list_any (λ q. is_final q && not (has ps q)) ts then out_of_finally
    else if list_any (λ q. not (has ps q)) ts then into_block
    else permitted

-- a nest without the values that its frames hold
abbrev pub Shape : Type 0
Shape = Nest (Unit {0})

-- where a statement starts: its line, the number of its first act or of what stands behind it where it has none, the statement with those behind
-- it in its list, and where it lies
pub record Target : Type 0 where
  pub line : ℕ
  pub n : ℕ
  pub ss : Stms
  pub within : Shape

abbrev pub starts_on : Stm → ℕ
starts_on (S.expr l e) = l
starts_on (S.assign l ts e) = l
starts_on (S.augmented l p o e) = l
starts_on (S.annotated l p a v) = l
starts_on (S.assert l c m) = l
starts_on (S.pass l) = l
starts_on (S.del l ts) = l
starts_on (S.return l v) = l
starts_on (S.raise l e c) = l
starts_on (S.raise_again l) = l
starts_on (S.break l) = l
starts_on (S.continue l) = l
starts_on (S.import l xs) = l
starts_on (S.import_from l m xs) = l
starts_on (S.global l xs) = l
starts_on (S.nonlocal l xs) = l
starts_on (S.choice l bs els) = l
starts_on (S.while l c body els) = l
starts_on (S.for l t it body els) = l
starts_on (S.try l body hs els fin) = l
starts_on (S.with l is body) = l
starts_on (S.def l ds k b x ps r body) = l
starts_on (S.class l ds k b x base body) = l
starts_on (S.docstring l) = l

-- the name that a handler binds lies around its body
abbrev pub with_name : Option Name → Shape → Shape
with_name None s = s
with_name (Some x) s = naming x ∷ s

-- the body of a `with`: its first act, and where it lies, each item around those behind it; k is the size of the body
abbrev pub body_at : Items → (n : ℕ) → ℕ
body_at S.no_items n = n
body_at (S.with_item l e None r) n = body_at r (n + size e + 1)
body_at (S.with_item l e (Some t) r) n = body_at r (n + size e + 1 + target_size t)

abbrev pub within_items : Items → (k n : ℕ) → Shape → Shape
within_items S.no_items k n s = s
within_items (S.with_item l e None r) k n s = within_items r k (n + size e + 1) (withing l (n + size e + 1 + items_size r k) tt ∷ s)
within_items (S.with_item l e (Some t) r) k n s =
    within_items r k (n + size e + 1 + target_size t) (withing l (n + size e + 1 + target_size t + items_size r k) tt ∷ s)

-- the number of an `else` behind an `if` and each `elif`
abbrev pub behind_branches : Branches → (n : ℕ) → ℕ
behind_branches S.no_branches n = n
behind_branches (S.branch l c body r) n = behind_branches r (n + size c + 1 + stms_size body)

-- where the statements of a block start, in source order, the blocks of functions and classes apart
abbrev mutual
  pub starts_in : Stm → (n : ℕ) → Shape → List Target
  starts_in (S.choice l bs els) n s = branch_starts bs n s ++ starts els (behind_branches bs n) s
  starts_in (S.while l c body els) n s = starts body (tested_body n c) (looping l n c body els ∷ s) ++ starts els (behind_body n c body) s
  starts_in (S.for l t it body els) n s =
      starts body (for_body (n + size it + 1) t) (iterating l (n + size it + 1) tt t body els ∷ s) ++ starts els (for_else (n + size it + 1) t body) s
  starts_in (S.try l body hs els fin) n s =
      starts body (n + 1) (guarded (try_handlers n body) hs els ∷ ensuring n (try_finally n body hs els) fin ∷ s)
      ++ (handler_starts hs (try_handlers n body) (ensuring n (try_finally n body hs els) fin ∷ s)
      ++ (starts els (try_else n body hs) (ensuring n (try_finally n body hs els) fin ∷ s) ++ starts fin (try_finally n body hs els) (ending n normal ∷ s)))
  starts_in (S.with l is body) n s = starts body (body_at is n) (within_items is (stms_size body) n s)
  starts_in st n s = []

  pub starts : Stms → (n : ℕ) → Shape → List Target
  starts none n s = []
  starts (more st ss) n s =
      record { line = starts_on st; n = n; ss = more st ss; within = s } ∷ (starts_in st n (rest (n + stm_size st) ss ∷ s) ++ starts ss (n + stm_size st) s)

  pub branch_starts : Branches → (n : ℕ) → Shape → List Target
  branch_starts S.no_branches n s = []
  branch_starts (S.branch l c body r) n s = starts body (tested_body n c) s ++ branch_starts r (behind_body n c body) s

  pub handler_starts : Handlers → (n : ℕ) → Shape → List Target
  handler_starts S.no_handlers n s = []
  handler_starts (S.handler l c x body r) n s =
      starts body (handler_body (n + opt_size c) x) (with_name x (handling (n + opt_size c) tt ∷ s)) ++ handler_starts r (handler_body (n + opt_size c) x + stms_size body) s

-- the statements of a block; a lambda and a generator expression have none
abbrev pub statements_of : Code → Stms
statements_of (B.of_module ss) = ss
statements_of (B.of_function ss) = function_body ss
statements_of (B.of_class ss) = ss
statements_of (B.of_lambda l e) = none
statements_of (B.of_generator l e k t cs) = none

abbrev pub starts_of : Code → List Target
starts_of code = starts (statements_of code) 0 []

-- the first that starts on a line
abbrev pub on_line : (line : ℕ) → List Target → Option Target
on_line k [] = None
on_line k (t ∷ ts) = if t.line == k then Some t else on_line k ts

abbrev pub with_iterator : {V : Type 0} → (V → Frame V) → Option (Held V) → Option (Frame V)
with_iterator f (Some (iterator i)) = Some (f i)
with_iterator f o = None

abbrev pub with_exception : {V : Type 0} → (V → Frame V) → Option (Held V) → Option (Frame V)
with_exception f (Some (exception e)) = Some (f e)
with_exception f o = None

abbrev pub with_completion : {V : Type 0} → (Completion V → Frame V) → Option (Held V) → Option (Frame V)
with_completion f (Some (completion c)) = Some (f c)
with_completion f o = None

abbrev pub with_exit : {V : Type 0} → (V → Frame V) → Option (Held V) → Option (Frame V)
with_exit f (Some (exit w)) = Some (f w)
with_exit f o = None

-- a frame of a shape with what the same closed part holds; no statement lies in the tests of handlers or in an exit
abbrev pub filled_frame : {V : Type 0} → Frame (Unit {0}) → (held : List (Part × Held V)) → Option (Frame V)
filled_frame (rest n ss) ks = Some (rest n ss)
filled_frame (looping l n c body els) ks = Some (looping l n c body els)
filled_frame (iterating l n u t body els) ks = with_iterator (λ i. iterating l n i t body els) (holding ks (for_part n))
filled_frame (guarded n hs els) ks = Some (guarded n hs els)
filled_frame (testing n u) ks = None
filled_frame (handling n u) ks = with_exception (handling n) (holding ks (handler_part n))
filled_frame (naming x) ks = Some (naming x)
filled_frame (ensuring t n fin) ks = Some (ensuring t n fin)
filled_frame (ending t u) ks = with_completion (ending t) (holding ks (finally_part t))
filled_frame (withing l n u) ks = with_exit (withing l n) (holding ks (with_part n))
filled_frame (exiting n u held) ks = None

abbrev pub joined : {V : Type 0} → Option (Frame V) → Option (Nest V) → Option (Nest V)
joined (Some f) (Some s) = Some (f ∷ s)
joined (Some f) None = None
joined None o = None

abbrev pub filled : {V : Type 0} → Shape → (held : List (Part × Held V)) → Option (Nest V)
filled [] ks = Some []
filled (f ∷ s) ks = joined (filled_frame f ks) (filled s ks)

-- a jump is refused, or lands at its target: there the block is, before anything of the statement has begun, so that a raise and another jump
-- go from the target's nest
pub data Jumped (V : Type 0) : Type 0 where
  refused : Verdict → Jumped V
  lands : Way V → Jumped V

abbrev pub at_target : {V : Type 0} → Target → Option (Nest V) → Jumped V
at_target t (Some s) = lands (F.stms t.n t.ss s)
at_target t None = refused into_block

abbrev pub by_verdict : {V : Type 0} → Verdict → Target → (place : Nest V) → Jumped V
by_verdict permitted t p = at_target t (filled t.within (kept p))
by_verdict v t p = refused v

abbrev pub by_target : {V : Type 0} → Option Target → (place : Nest V) → Jumped V
by_target (Some t) p = by_verdict (verdict (parts p) (parts t.within)) t p
by_target None p = refused no_statement

-- a jump to a line of a block from a nest in it: that of the control there, or of the target of another jump
abbrev pub jump : {V : Type 0} → Code → (place : Nest V) → (line : ℕ) → Jumped V
jump code p k = by_target (on_line k (starts_of code)) p

-- a frame without the values that it holds
abbrev pub shape_of : {V : Type 0} → Frame V → Frame (Unit {0})
shape_of (rest n ss) = rest n ss
shape_of (looping l n c body els) = looping l n c body els
shape_of (iterating l n i t body els) = iterating l n tt t body els
shape_of (guarded n hs els) = guarded n hs els
shape_of (testing n e) = testing n tt
shape_of (handling n e) = handling n tt
shape_of (naming x) = naming x
shape_of (ensuring t n fin) = ensuring t n fin
shape_of (ending t held) = ending t normal
shape_of (withing l n w) = withing l n tt
shape_of (exiting n w held) = exiting n tt normal

abbrev pub shape : {V : Type 0} → Nest V → Shape
shape s = map shape_of s

-- what a closed part holds in the one nest, the same part holds in the other
abbrev pub Keeps : {V : Type 0} → (new place : Nest V) → Type 0
Keeps {V = V} new place = (q : Part) (h : Held V) → holding (kept new) q ≡ Some h → holding (kept place) q ≡ Some h

-- what a permitted jump gives
pub record Landing {V : Type 0} (t : Target) (place : Nest V) : Type 0 where
  pub nest : Nest V
  pub filled_so : filled t.within (kept place) ≡ Some nest
  -- each frame stands where the syntax has it
  pub shaped : shape nest ≡ t.within
  pub keeps : Keeps nest place
