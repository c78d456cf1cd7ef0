-- Where the code of a statement, of statements and of a block stands: a relation of two places, by recursion over the tree. The numbers of acts are spelled as control
-- spells them. A statement's first place is its start.
use Rattle.std.specs.Prelude.{Contains, ◌≡◌, ℕ, ◌+◌, List, [], ◌∷◌, Bool, true, false, Option, Some, None, if◌then◌else◌}
use Rattle.pt_base.specs.declared.operators.BinOp.{BinOp}
use Rattle.pt_ranges.specs.declared.lines.ActMark.{ActMark}
use Rattle.pt_ranges.specs.declared.handlers.Handler.{Handler}
use Rattle.pt_code.specs.declared.Start.{Start}
use Rattle.pt_tree.specs.declared.expression.Constant.TheVariants as constant
use Rattle.pt_tree.specs.declared.statement.Alias.{Alias}
use Rattle.pt_tree.specs.Syntax as S
use Rattle.pt_tree.specs.Syntax.{Name, Exp, Opt, Clauses, Place, Tgt, Tgts, Decorators, Items, Stm, Stms, Branches, Handlers, none, more}
use Rattle.pt_tree.specs.Sizes.{size, place_size, target_size, params_size, items_size, stm_size, stms_size, handlers_size}
use Rattle.pt_instr.specs.declared.Instr.{Instr}
use Rattle.pt_instr.specs.declared.Instr.TheVariants as instr
use Rattle.sem_control.specs.control.Turn as T
use Rattle.sem_control.specs.control.Turn.{Around, Variable, move}
use Rattle.sem_control.specs.control.Frames.{Definition, a_function, a_class}
use Rattle.sem_control.specs.control.Numbers.{tested_body, behind_body, for_body, for_else, try_handlers, try_finally, handler_body}
use Rattle.sem_control.specs.control.Statements.{all_places, bound_name}
use Rattle.sem_control.specs.control.Jump.{starts_on}
use Rattle.sem_code.specs.slots.Slots.{Slots, value, on}
use Rattle.sem_code.specs.slots.CodeObject.{CodeObject}
use Rattle.sem_code.specs.slots.Steps.{asks, does}
use Rattle.sem_code.specs.slots.Instructions.{perform}
use Rattle.sem_code.specs.comp_expr.Places.{◌⨾◌, here, above, act_mark, ins, Ins_at, Act_at, Move_at, Null_at, Stores, Sets, Made_at, Op_at, Exp_at, Clauses_at, Target_at}
use Rattle.sem_code.specs.comp.Surroundings.{Loop, Surroundings, outermost, in_while, in_for, deeper, under, Reached, TakesAll, TakesRaises}

module _ {V : Type 0} (block : Around V) (code : CodeObject V) (rows : List Handler) where
  -- an instruction that deletes a name, and one that deletes an attribute
  pub record Deletes (x : Variable) (m : Option ActMark) (from to : ℕ) : Type 0 where
    pub instr : Instr
    pub stands : Ins_at block code rows instr m from to
    pub does : (ss : Slots V) → perform code from (ins instr m to rows) instr ss ≡ does code (ins instr m to rows) (T.delete x) ss

  pub record DeletesAttribute (x : Name) (m : Option ActMark) (from to : ℕ) : Type 0 where
    pub instr : Instr
    pub stands : Ins_at block code rows instr m from to
    pub does : (a : V) (ss : Slots V)
        → perform code from (ins instr m to rows) instr (value a ∷ ss) ≡ does code (ins instr m to rows) (T.delete_attribute x a) ss

  -- one that takes a name out of a module, which stays below
  pub record ImportsName (x : Name) (m : Option ActMark) (from to : ℕ) : Type 0 where
    pub instr : Instr
    pub stands : Ins_at block code rows instr m from to
    pub does : (v : V) (ss : Slots V) → perform code from (ins instr m to rows) instr (value v ∷ ss)
        ≡ asks code (ins instr m to rows) (T.seek (T.operate (T.import_name x) (v ∷ []))) (value v ∷ ss) (λ u. on to (value u ∷ value v ∷ ss))

  -- without an act: one that goes by a truth to the next place or to another; one that gives a truth, and one by which that leads to the next place
  pub record Splits (other from to : ℕ) : Type 0 where
    pub instr : Instr
    pub stands : Ins_at block code rows instr None from to
    pub does : (b : Bool) (ss : Slots V)
        → perform code from (ins instr None to rows) instr (value (code.truth b) ∷ ss) ≡ move (on (if b then to else other) ss)

  pub record GivesTruth (b : Bool) (from to : ℕ) : Type 0 where
    pub instr : Instr
    pub stands : Ins_at block code rows instr None from to
    pub does : (ss : Slots V) → perform code from (ins instr None to rows) instr ss ≡ move (on to (value (code.truth b) ∷ ss))

  pub record LeadsOn (b : Bool) (from to : ℕ) : Type 0 where
    pub instr : Instr
    pub stands : Ins_at block code rows instr None from to
    pub does : (ss : Slots V) → perform code from (ins instr None to rows) instr (value (code.truth b) ∷ ss) ≡ move (on to ss)

  -- the start of a statement: that stands there at once, or behind an instruction that does nothing, so that one without acts has a place of its own, or
  -- behind a branch that is never taken, so that what stands behind it is reached. Where that branch goes to doesn't matter
  pub data Starts : ℕ → ℕ → Type 0 where
    at_once : (p : ℕ) → Starts p p
    behind_nop : (p q : ℕ) → Move_at block code rows instr.Nop p q → Starts p q
    never_left : (p m q : ℕ) (b : Bool) → GivesTruth b p m → LeadsOn b m q → Starts p q

module _ {V : Type 0} (block : Around V) (code : CodeObject V) where
  -- what stands in surroundings
  abbrev pub Value_at : Surroundings → Exp → (n : ℕ) → (is_retest : Bool) → ℕ → ℕ → Type 0
  Value_at x e n g = Exp_at block code x.rows e n g []

  abbrev pub Act_in : Surroundings → Instr → (n l : ℕ) → ℕ → ℕ → Type 0
  Act_in x j n l = Act_at block code x.rows j n l false

  abbrev pub Move_in : Surroundings → Instr → ℕ → ℕ → Type 0
  Move_in x j = Move_at block code x.rows j

  abbrev pub Jump_in : Surroundings → (to : ℕ) → ℕ → ℕ → Type 0
  Jump_in x to = Move_in x (instr.Jump (record { 0 = to }))

  abbrev pub Null_in : Surroundings → ℕ → ℕ → Type 0
  Null_in x = Null_at block code x.rows

  abbrev pub Store_in : Surroundings → Name → (n l : ℕ) → ℕ → ℕ → Type 0
  Store_in x y n l from = Stores block code x.rows (block.variable [] y) (act_mark from n l false) from

  -- 7.2: each target gets the value, which is copied for as long as there is another
  abbrev pub Assigned_at : Tgts → (n : ℕ) → Surroundings → ℕ → ℕ → Type 0
  Assigned_at S.no_targets n x = Move_in x instr.Pop
  Assigned_at (S.more_targets t S.no_targets) n x = Target_at block code x.rows t n []
  Assigned_at (S.more_targets t (S.more_targets u ts)) n x =
      Move_in x instr.Copy ⨾ Target_at block code x.rows t n [] ⨾ Assigned_at (S.more_targets u ts) (n + target_size t) x

  -- 7.2.1: what an operator gives goes back to its place, whose object and index lie below
  abbrev pub Back_to_name : Name → (n l : ℕ) → Surroundings → ℕ → ℕ → Type 0
  Back_to_name y n l x = Store_in x y n l

  abbrev pub Back_to_attribute : Name → (n l : ℕ) → Surroundings → ℕ → ℕ → Type 0
  Back_to_attribute y n l x = Move_in x instr.Swap ⨾ (λ from. Sets block code x.rows (block.spelled y) (act_mark from n l false) from)

  abbrev pub Back_to_item : (n l : ℕ) → Surroundings → ℕ → ℕ → Type 0
  Back_to_item n l x = Move_in x instr.Rot3 ⨾ Act_in x instr.SetItem n l

  -- the other operand and the operator, behind the present value; n numbers the operand
  abbrev pub Changed_at : BinOp → Exp → (l n : ℕ) → (back : (n : ℕ) → ℕ → ℕ → Type 0) → Surroundings → ℕ → ℕ → Type 0
  Changed_at o e l n back x = Value_at x e n false ⨾ Act_in x (instr.InPlace o) (n + size e) l ⨾ back (n + size e + 1)

  abbrev pub Augmented_at : Place → BinOp → Exp → (l n : ℕ) → Surroundings → ℕ → ℕ → Type 0
  Augmented_at (S.name_at k y) o e l n x = Value_at x (S.name k y) n false ⨾ Changed_at o e l (n + 1) (λ m. Back_to_name y m k x) x
  Augmented_at (S.attribute_at k a y) o e l n x = Value_at x a n false ⨾ Move_in x instr.Copy
      ⨾ Op_at block code x.rows (T.get (block.spelled y)) k (n + size a) false 1 ⨾ Changed_at o e l (n + size a + 1) (λ m. Back_to_attribute y m k x) x
  Augmented_at (S.item_at k a i) o e l n x = Value_at x a n false ⨾ Value_at x i (n + size a) false ⨾ Move_in x instr.Copy2
      ⨾ Op_at block code x.rows T.item k (n + size a + size i) false 2 ⨾ Changed_at o e l (n + size a + size i + 1) (λ m. Back_to_item m k x) x

  -- 7.5
  abbrev pub Deleted_at : Place → (n : ℕ) → Surroundings → ℕ → ℕ → Type 0
  Deleted_at (S.name_at l y) n x = λ from. Deletes block code x.rows (block.variable [] y) (act_mark from n l false) from
  Deleted_at (S.attribute_at l a y) n x =
      Value_at x a n false ⨾ (λ from. DeletesAttribute block code x.rows (block.spelled y) (act_mark from (n + size a) l false) from)
  Deleted_at (S.item_at l a i) n x = Value_at x a n false ⨾ Value_at x i (n + size a) false ⨾ Act_in x instr.DelItem (n + size a + size i) l

  abbrev pub All_deleted_at : List Place → (n : ℕ) → Surroundings → ℕ → ℕ → Type 0
  All_deleted_at [] n x = here
  All_deleted_at (p ∷ ps) n x = Deleted_at p n x ⨾ All_deleted_at ps (n + place_size p) x

  -- 7.3: the message of an `assert` that failed
  abbrev pub Failed_at : Opt → (l n : ℕ) → Surroundings → ℕ → ℕ → Type 0
  Failed_at S.absent l n x = Act_in x (instr.AssertFail false) n l
  Failed_at (S.given m) l n x = Value_at x m n false ⨾ Act_in x (instr.AssertFail true) (n + size m) l

  -- 7.6, 7.8
  abbrev pub Returned_at : Opt → (l n : ℕ) → Surroundings → ℕ → ℕ → Type 0
  Returned_at S.absent l n x = Null_in x ⨾ Act_in x instr.Return n l
  Returned_at (S.given e) l n x = Value_at x e n false ⨾ Act_in x instr.Return (n + size e) l

  abbrev pub Thrown_at : Opt → (l n : ℕ) → Surroundings → ℕ → ℕ → Type 0
  Thrown_at S.absent l n x = Act_in x instr.Raise n l
  Thrown_at (S.given c) l n x = Value_at x c n false ⨾ Act_in x instr.RaiseFrom (n + size c) l

  -- 7.9, 7.10: the loop around is left for its next test, or for its end
  abbrev pub Left_at : Option Loop → (place depth : Loop → ℕ) → (n l : ℕ) → Surroundings → ℕ → ℕ → Type 0
  Left_at None place depth n l x = λ from to. ⊥
  Left_at (Some a) place depth n l x = λ from to. (code.depth_at (place a) ≡ depth a) × Act_in x (instr.Leave (record { 0 = place a })) n l from to

  -- 7.11
  abbrev pub Imported_at : List Alias → (l n : ℕ) → Surroundings → ℕ → ℕ → Type 0
  Imported_at [] l n x = here
  Imported_at (a ∷ as') l n x = Made_at block code x.rows [] (T.import (block.spelled a.name)) above l n false 0 0 ⨾ Store_in x (bound_name a) (n + 1) l
      ⨾ Imported_at as' l (n + 1 + 1) x

  abbrev pub Imported_from_at : List Alias → (l n : ℕ) → Surroundings → ℕ → ℕ → Type 0
  Imported_from_at [] l n x = Move_in x instr.Pop
  Imported_from_at (a ∷ as') l n x = (λ from. ImportsName block code x.rows (block.spelled a.name) (act_mark from n l false) from)
      ⨾ Store_in x (bound_name a) (n + 1) l ⨾ Imported_from_at as' l (n + 1 + 1) x

  -- 8.7, 8.8: what is made is given to the decorators, whose values lie below, and then bound; the lines are theirs, the last one's first
  abbrev pub Bound_at : (lines : List ℕ) → (l n : ℕ) → Name → Surroundings → ℕ → ℕ → Type 0
  Bound_at [] l n y x = Store_in x y n l
  Bound_at (k ∷ ks) l n y x = Made_at block code x.rows [] (T.call (T.positional ∷ [])) above k n false 2 0 ⨾ Bound_at ks l (n + 1) y x

  -- a function is made as a lambda is, of the same defaults
  abbrev pub Definition_at : Definition → (lines : List ℕ) → (l n : ℕ) → Name → Surroundings → ℕ → ℕ → Type 0
  Definition_at (a_function b ps) ks l n y x = Value_at x (S.lambda l b ps (S.constant l constant.None)) n false ⨾ Bound_at ks l (n + params_size ps + 1) y x
  Definition_at (a_class b S.absent) ks l n y x =
      Null_in x ⨾ Made_at block code x.rows (block.captured b) (T.class b) above l n false 1 0 ⨾ Bound_at ks l (n + 1) y x
  Definition_at (a_class b (S.given e)) ks l n y x =
      Value_at x e n false ⨾ Op_at block code x.rows (T.class b) l (n + size e) false 1 ⨾ Bound_at ks l (n + size e + 1) y x

  -- behind a decorator, which stands on line k
  abbrev pub Decorated_at : Decorators → Definition → (k : ℕ) → (lines : List ℕ) → (l n : ℕ) → Name → Surroundings → ℕ → ℕ → Type 0
  Decorated_at S.no_decorators what k ks l n y x = Definition_at what (k ∷ ks) l n y x
  Decorated_at (S.decorator j e r) what k ks l n y x = Value_at x e n false ⨾ Decorated_at r what j (k ∷ ks) l (n + size e) y x

  abbrev pub Defined_at : Decorators → Definition → (l n : ℕ) → Name → Surroundings → ℕ → ℕ → Type 0
  Defined_at S.no_decorators what l n y x = Definition_at what [] l n y x
  Defined_at (S.decorator j e r) what l n y x = Value_at x e n false ⨾ Decorated_at r what j [] l (n + size e) y x

  -- 8.2: a `while` behind its first test. The test stands once more behind the body, since a re-test begins with it there
  abbrev pub While_at : (l n : ℕ) → Exp → (body : Surroundings → ℕ → ℕ → Type 0) → (otherwise : ℕ → ℕ → Type 0) → Surroundings
      → (first next other end : ℕ) → Type 0
  While_at l n c body otherwise x first next other end =
      Reached next x.rows × Reached end x.rows × body (in_while next end x) first next
      × (Value_at x c n true ⨾ Act_in x (instr.JumpIf (record { 0 = first })) (n + size c) l) next other
      × otherwise other end

  -- 8.3: a `for` behind its first Next, which stands once more behind the body; n numbers Next
  abbrev pub For_at : (l n : ℕ) → Tgt → (body : Surroundings → ℕ → ℕ → Type 0) → (otherwise : ℕ → ℕ → Type 0) → Surroundings
      → (first next other end : ℕ) → Type 0
  For_at l n t body otherwise x first next other end =
      Reached next x.rows × Reached end x.rows
      × (Target_at block code x.rows t (n + 1) [] ⨾ body (in_for next end x)) first next
      × (Act_at block code x.rows (instr.Next (record { 0 = other })) n l true ⨾ Jump_in x first) next other
      × otherwise other end

  -- 8.4: the body of a `try` with its handlers and its `else`; a raise in the body goes to the handlers, which go on at the end
  abbrev pub Guarded_at : Handlers → (body otherwise : Surroundings → ℕ → ℕ → Type 0) → (handlers : (end : ℕ) → Surroundings → ℕ → Type 0)
      → Surroundings → ℕ → ℕ → Type 0
  Guarded_at S.no_handlers body otherwise handlers x = body x ⨾ otherwise x
  Guarded_at (S.handler l c y b r) body otherwise handlers x = λ from to. (row : Handler) × (behind : ℕ) × TakesRaises row x
      × (body (under row x) ⨾ otherwise x ⨾ Jump_in x to) from behind × handlers to x row.target.0

  -- 8.4.4: all of that with a `finally` part, if there is one; the row covers the place of Normal too
  abbrev pub Ensured_at : (finally : Stms) → (part guarded : Surroundings → ℕ → ℕ → Type 0) → Surroundings → ℕ → ℕ → Type 0
  Ensured_at none part guarded x = guarded x
  Ensured_at (more st ss) part guarded x = λ from to. (row : Handler) × TakesAll row x
      × (guarded (under row x) ⨾ Move_in (under row x) instr.Normal) from row.target.0
      × (part (deeper x) ⨾ Move_in x instr.EndFinally) row.target.0 to

  -- 8.4.1: a handler behind its Match, whose number is n; a name that it binds is unbound however it ends. It goes on at the end. Caught gives it a slot of
  -- its own, so that it isn't entered by a jump from the tests
  abbrev pub Handled_at : (l n : ℕ) → Option Name → (body : (n : ℕ) → Surroundings → ℕ → ℕ → Type 0) → (end : ℕ) → Surroundings → ℕ → ℕ → Type 0
  Handled_at l n None body end x =
      Move_in x instr.Caught ⨾ Move_in x instr.Pop ⨾ body (n + 1) (deeper x) ⨾ Move_in x instr.EndHandler ⨾ Jump_in x end
  Handled_at l n (Some y) body end x = λ from to. (row : Handler) × TakesAll row (deeper x)
      × (Move_in x instr.Caught ⨾ Store_in x y (n + 1) l ⨾ body (n + 1 + 1) (under row (deeper x)) ⨾ Move_in (under row x) instr.Normal) from row.target.0
      × (Null_in x ⨾ Stores block code x.rows (block.variable [] y) None ⨾ Deletes block code x.rows (block.variable [] y) None
      ⨾ Move_in x instr.EndFinally ⨾ Move_in x instr.EndHandler ⨾ Jump_in x end) row.target.0 to

  -- 8.5: what Enter gives goes to a target, or is dropped; and the number behind that
  abbrev pub Taken_at : Option Tgt → Handler → (n : ℕ) → Surroundings → ℕ → ℕ → Type 0
  Taken_at None row n x = Move_in (under row x) instr.Pop
  Taken_at (Some t) row n x = Target_at block code (row ∷ x.rows) t n []

  abbrev pub behind_target : Option Tgt → (n : ℕ) → ℕ
  behind_target None n = n
  behind_target (Some t) n = n + target_size t

  -- the items of a `with`, and its body of k acts; the exit lies below all that stands behind its Enter
  abbrev pub Items_at : Items → (body : (n : ℕ) → Surroundings → ℕ → ℕ → Type 0) → (k n : ℕ) → Surroundings → ℕ → ℕ → Type 0
  Items_at S.no_items body k n x = body n x
  Items_at (S.with_item l e t r) body k n x = λ from to. (row : Handler) × TakesAll row (deeper x)
      × (Value_at x e n false ⨾ Act_in x instr.Enter (n + size e) l ⨾ Taken_at t row (n + size e + 1) x
      ⨾ Items_at r body k (behind_target t (n + size e + 1)) (under row (deeper x)) ⨾ Move_in (under row x) instr.Normal) from row.target.0
      × (Act_in x instr.Exit (behind_target t (n + size e + 1) + items_size r k) l ⨾ Move_in x instr.EndFinally) row.target.0 to

  abbrev mutual
    pub Stm_at : Stm → (n : ℕ) → Surroundings → ℕ → ℕ → Type 0
    Stm_at (S.expr l e) n x = Value_at x e n false ⨾ Act_in x instr.Pop (n + size e) l
    Stm_at (S.assign l ts e) n x = Value_at x e n false ⨾ Assigned_at ts (n + size e) x
    Stm_at (S.augmented l p o e) n x = Augmented_at p o e l n x
    Stm_at (S.annotated l p a S.absent) n x = Act_in x instr.Nop n l
    Stm_at (S.annotated l p a (S.given e)) n x = Value_at x e n false ⨾ Assigned_at (S.more_targets (S.single p) S.no_targets) (n + size e) x
    Stm_at (S.assert l c m) n x = λ from to.
        (Value_at x c n false ⨾ Act_in x (instr.JumpIf (record { 0 = to })) (n + size c) l ⨾ Failed_at m l (n + size c + 1) x) from to
    Stm_at (S.pass l) n x = Act_in x instr.Nop n l
    Stm_at (S.del l ts) n x = All_deleted_at (all_places ts) n x
    Stm_at (S.return l e) n x = Returned_at e l n x
    Stm_at (S.raise l e c) n x = Value_at x e n false ⨾ Thrown_at c l (n + size e) x
    Stm_at (S.raise_again l) n x = Act_in x instr.RaiseAgain n l
    Stm_at (S.break l) n x = Left_at x.loop (λ a. a.end) (λ a. a.end_depth) n l x
    Stm_at (S.continue l) n x = Left_at x.loop (λ a. a.next) (λ a. a.next_depth) n l x
    Stm_at (S.import l xs) n x = Imported_at xs l n x
    Stm_at (S.import_from l m xs) n x =
        Made_at block code x.rows [] (T.import (block.spelled m)) above l n false 0 0 ⨾ Imported_from_at xs l (n + 1) x
    Stm_at (S.global l xs) n x = here
    Stm_at (S.nonlocal l xs) n x = here
    Stm_at (S.choice l bs els) n x = Branches_at bs (λ m. All_at els m x) n x
    Stm_at (S.while l c body els) n x = λ from to. (first next other : ℕ)
        × (Value_at x c n false ⨾ Act_in x (instr.JumpUnless (record { 0 = other })) (n + size c) l) from first
        × While_at l n c (All_at body (tested_body n c)) (All_at els (behind_body n c body) x) x first next other to
    Stm_at (S.for l t it body els) n x = λ from to. (first next other : ℕ)
        × (Value_at x it n false ⨾ Act_in x instr.Iter (n + size it) l ⨾ Act_in x (instr.Next (record { 0 = other })) (n + size it + 1) l) from first
        × For_at l (n + size it + 1) t (All_at body (for_body (n + size it + 1) t)) (All_at els (for_else (n + size it + 1) t body) x) x first next other to
    Stm_at (S.try l body hs els fin) n x = Act_in x instr.Nop n l ⨾ Ensured_at fin (All_at fin (try_finally n body hs els))
        (Guarded_at hs (All_at body (n + 1)) (All_at els (try_handlers n body + handlers_size hs)) (Handlers_at hs (try_handlers n body))) x
    Stm_at (S.with l is body) n x = Items_at is (All_at body) (stms_size body) n x
    Stm_at (S.def l ds k b y ps a body) n x = Defined_at ds (a_function b ps) k n y x
    Stm_at (S.class l ds k b y base body) n x = Defined_at ds (a_class b base) k n y x
    Stm_at (S.docstring l) n x = here

    pub All_at : Stms → (n : ℕ) → Surroundings → ℕ → ℕ → Type 0
    All_at none n x = here
    All_at (more st ss) n x = λ from to. Contains x.starts (record { pc = record { 0 = from }; line = record { 0 = starts_on st } })
        × (Starts block code x.rows ⨾ Stm_at st n x ⨾ All_at ss (n + stm_size st) x) from to

    -- 8.1
    pub Branches_at : Branches → (otherwise : (n : ℕ) → ℕ → ℕ → Type 0) → (n : ℕ) → Surroundings → ℕ → ℕ → Type 0
    Branches_at S.no_branches otherwise n x = otherwise n
    Branches_at (S.branch l c body r) otherwise n x = λ from to. (other : ℕ)
        × (Value_at x c n false ⨾ Act_in x (instr.JumpUnless (record { 0 = other })) (n + size c) l ⨾ All_at body (tested_body n c) x ⨾ Jump_in x to) from other
        × Branches_at r otherwise (behind_body n c body) x other to

    -- handlers are tried in order, and behind them the raise goes on. What matches goes on at the end
    pub Handlers_at : Handlers → (n end : ℕ) → Surroundings → ℕ → Type 0
    Handlers_at S.no_handlers n end x from = (behind : ℕ) × Move_in x instr.Rethrow from behind
    Handlers_at (S.handler l S.absent y body r) n end x from = (other : ℕ)
        × (Null_in x ⨾ Act_in x instr.Match n l ⨾ Splits block code x.rows other ⨾ Handled_at l n y (All_at body) end x) from other
        × Handlers_at r (handler_body n y + stms_size body) end x other
    Handlers_at (S.handler l (S.given c) y body r) n end x from = (other : ℕ)
        × (Value_at x c n false ⨾ Act_in x instr.Match (n + size c) l ⨾ Splits block code x.rows other ⨾ Handled_at l (n + size c) y (All_at body) end x) from other
        × Handlers_at r (handler_body (n + size c) y + stms_size body) end x other

  -- a block of statements with its starts, which gives None at its end; a lambda's; and that of a generator expression
  abbrev pub Block_at : List Start → Stms → Type 0
  Block_at starts ss = (end behind : ℕ) × All_at ss 0 (outermost starts) 0 end × (Null_in (outermost starts) ⨾ Move_in (outermost starts) instr.Return) end behind

  abbrev pub Lambda_at : (l : ℕ) → Exp → Type 0
  Lambda_at l e = (behind : ℕ) × (Value_at (outermost []) e 0 false ⨾ Act_in (outermost []) instr.Return (size e) l) 0 behind

  abbrev pub Generator_at : (l : ℕ) → (item : Exp) → (for_line : ℕ) → Tgt → Clauses → Type 0
  Generator_at l e k t cs = (end behind behind_all : ℕ)
      × (Act_in (outermost []) (instr.Next (record { 0 = end })) 0 k ⨾ Target_at block code [] t (0 + 1) []
      ⨾ Clauses_at block code [] cs l (0 + 1 + target_size t) 1 0 [] (λ n d head. Value_at (outermost []) e n false ⨾ Act_in (outermost []) instr.Yield (n + size e) l
      ⨾ Act_in (outermost []) instr.Pop (n + size e + 1) l ⨾ Jump_in (outermost []) head)) 0 behind
      × (Null_in (outermost []) ⨾ Move_in (outermost []) instr.Return) end behind_all
