-- When a state of the code of a block stands for a state of its control, and that code follows: for every nest of syntax, with the place behind it, its surroundings and
-- the slots.
use Rattle.std.specs.Prelude.{◌≡◌, ℕ, ◌+◌, List, [], ◌∷◌, Bool, true, false, Option, Some, None}
use Rattle.pt_base.specs.declared.operators.BinOp.{BinOp}
use Rattle.pt_ranges.specs.declared.handlers.Handler.{Handler}
use Rattle.pt_tree.specs.declared.statement.Alias.{Alias}
use Rattle.pt_tree.specs.Syntax as S
use Rattle.pt_tree.specs.Syntax.{Name, Exp, Opt, Clauses, Place, Tgt, Tgts, Decorators, Items, Stm, Stms, Branches, Handlers, none, more}
use Rattle.pt_tree.specs.Sizes.{size, items_size, stms_size, handlers_size}
use Rattle.pt_instr.specs.declared.Instr.TheVariants as instr
use Rattle.pt_code.specs.View.{Ins}
use Rattle.pt_code.specs.declared.Start.{Start}
use Rattle.sem_control.specs.control.Turn as T
use Rattle.sem_control.specs.control.Turn.{Mark, Around, Deed, Throw, Test, Note, raised_again, Ask, Answer, Reply, End, Turn, act, note, move, over}
use Rattle.sem_control.specs.control.Frames as F
use Rattle.sem_control.specs.control.Frames.{Abrupt, Completion, Nest, Way, Wait, Address, Definition, Decorating, Control, for_leave, for_throw, for_truth, for_iter, for_item, for_entry, noting, closed}
use Rattle.sem_control.specs.control.Bases as bases
use Rattle.sem_control.specs.control.Bases.{way_base, around_way}
use Rattle.sem_control.specs.control.Numbers.{tested_body, behind_body, for_body, for_else}
use Rattle.sem_control.specs.control.Control as control
use Rattle.sem_code.specs.slots.Slots.{Slot, value, iterator, exception, pending, exit, Slots, State, on, reraises, off, active}
use Rattle.sem_code.specs.slots.CodeObject.{CodeObject}
use Rattle.sem_code.specs.slots.Landing.{land}
use Rattle.sem_code.specs.slots.Steps.{after, with_item}
use Rattle.sem_code.specs.slots.Machine as machine
use Rattle.sem_code.specs.comp_expr.Places.{◌⨾◌, act_mark, Stores, Op_at, Exp_at}
use Rattle.sem_code.specs.comp_expr.Law as expressions
use Rattle.sem_code.specs.comp_expr.Law.{Outer, wait, way, active_at, slots_in}
use Rattle.sem_code.specs.comp.Surroundings.{Surroundings, outermost, in_while, in_for, deeper, under, TakesAll, TakesRaises, as_code, held_as, May, May_hold}
use Rattle.sem_code.specs.comp.Places.{Deletes, DeletesAttribute, Splits, Value_at, Act_in, Move_in, Jump_in, Null_in, Store_in, Assigned_at, Back_to_name, Back_to_attribute, Back_to_item, Changed_at, All_deleted_at, Failed_at, Thrown_at, Imported_at, Imported_from_at, Bound_at, Decorated_at, While_at, For_at, Taken_at, behind_target, Items_at, All_at, Branches_at, Handlers_at, Block_at, Lambda_at, Generator_at}

-- the parts of a place that is changed lie on top
abbrev pub addressed : {V : Type 0} → Address V → Slots V → Slots V
addressed (F.a_name y) ss = ss
addressed (F.an_attribute a y) ss = value a ∷ ss
addressed (F.an_item a i) ss = value i ∷ value a ∷ ss

-- and so do decorators, the last first
abbrev pub decorators_above : {V : Type 0} → List (Decorating V) → Slots V → Slots V
decorators_above [] ss = ss
decorators_above (d ∷ ds) ss = value d.value ∷ decorators_above ds ss

abbrev pub lines_of : {V : Type 0} → List (Decorating V) → List ℕ
lines_of [] = []
lines_of (d ∷ ds) = d.line ∷ lines_of ds

-- slots with any others above them
pub data Above {V : Type 0} (σ : Slots V) : Slots V → Type 0 where
  level : Above σ σ
  raised_by : (u : Slot V) (τ : Slots V) → Above σ τ → Above σ (u ∷ τ)

module _ {V : Type 0} (block : Around V) (code : CodeObject V) where
  abbrev pub Back_at : Address V → (n l : ℕ) → Surroundings → ℕ → ℕ → Type 0
  Back_at (F.a_name y) n l x = Back_to_name block code y n l x
  Back_at (F.an_attribute a y) n l x = Back_to_attribute block code y n l x
  Back_at (F.an_item a i) n l x = Back_to_item block code n l x

  -- where a statement is complete with these slots, the code at this place goes on as the nest does
  pub data Nest_on : Nest V → Surroundings → Slots V → (pc : ℕ) → Type 0 where
    at_end : (starts : List Start) (p q : ℕ) → (Null_in block code (outermost starts) ⨾ Move_in block code (outermost starts) instr.Return) p q
        → Nest_on [] (outermost starts) [] p
    at_rest : (n : ℕ) (ss : Stms) (s : Nest V) (x : Surroundings) (σ : Slots V) (p q : ℕ)
        → All_at block code ss n x p q → Nest_on s x σ q → Nest_on (F.rest n ss ∷ s) x σ p
    at_looping : (l n : ℕ) (c : Exp) (body els : Stms) (s : Nest V) (x : Surroundings) (σ : Slots V) (first next other end : ℕ)
        → While_at block code l n c (All_at block code body (tested_body n c)) (All_at block code els (behind_body n c body) x) x first next other end
        → Nest_on s x σ end → Nest_on (F.looping l n c body els ∷ s) (in_while next end x) σ next
    at_iterating : (l n : ℕ) (i : V) (t : Tgt) (body els : Stms) (s : Nest V) (x : Surroundings) (σ : Slots V) (first next other end : ℕ)
        → For_at block code l n t (All_at block code body (for_body n t)) (All_at block code els (for_else n t body) x) x first next other end
        → Nest_on s x σ end → Nest_on (F.iterating l n i t body els ∷ s) (in_for next end x) (iterator i ∷ σ) next
    at_unguarded : (n : ℕ) (els : Stms) (s : Nest V) (x : Surroundings) (σ : Slots V) (p q : ℕ)
        → All_at block code els (n + handlers_size S.no_handlers) x p q → Nest_on s x σ q → Nest_on (F.guarded n S.no_handlers els ∷ s) x σ p
    at_guarded : (l n : ℕ) (c : Opt) (y : Option Name) (body : Stms) (r : Handlers) (els : Stms) (s : Nest V) (x : Surroundings) (σ : Slots V) (row : Handler)
        (p q behind end : ℕ) → TakesRaises row x → All_at block code els (n + handlers_size (S.handler l c y body r)) x p q → Jump_in block code x end q behind
        → Handlers_at block code (S.handler l c y body r) n end x row.target.0 → Nest_on s x σ end
        → Nest_on (F.guarded n (S.handler l c y body r) els ∷ s) (under row x) σ p
    at_unensured : (tried n : ℕ) (s : Nest V) (x : Surroundings) (σ : Slots V) (p : ℕ) → Nest_on s x σ p → Nest_on (F.ensuring tried n none ∷ s) x σ p
    at_ensured : (tried n : ℕ) (st : Stm) (ss : Stms) (s : Nest V) (x : Surroundings) (σ : Slots V) (row : Handler) (p q end : ℕ)
        → TakesAll row x → Move_in block code (under row x) instr.Normal p row.target.0 → All_at block code (more st ss) n (deeper x) row.target.0 q
        → Move_in block code x instr.EndFinally q end → Nest_on s x σ end → Nest_on (F.ensuring tried n (more st ss) ∷ s) (under row x) σ p
    at_ending : (tried : ℕ) (held : Completion V) (s : Nest V) (x : Surroundings) (σ : Slots V) (p q : ℕ)
        → May_hold code held x → Move_in block code x instr.EndFinally p q → Nest_on s x σ q
        → Nest_on (F.ending tried held ∷ s) (deeper x) (pending (held_as held x) ∷ σ) p
    at_handling : (n : ℕ) (e : V) (s : Nest V) (x : Surroundings) (σ : Slots V) (p q : ℕ)
        → Move_in block code x instr.EndHandler p q → Nest_on s x σ q → Nest_on (F.handling n e ∷ s) (deeper x) (exception e ∷ σ) p
    at_naming : (y : Name) (s : Nest V) (x : Surroundings) (σ : Slots V) (row : Handler) (p q : ℕ)
        → TakesAll row x → Move_in block code (under row x) instr.Normal p row.target.0
        → (Null_in block code x ⨾ Stores block code x.rows (block.variable [] y) None ⨾ Deletes block code x.rows (block.variable [] y) None
        ⨾ Move_in block code x instr.EndFinally) row.target.0 q → Nest_on s x σ q → Nest_on (F.naming y ∷ s) (under row x) σ p
    at_withing : (l n : ℕ) (w : V) (s : Nest V) (x : Surroundings) (σ : Slots V) (row : Handler) (p end : ℕ)
        → TakesAll row (deeper x) → Move_in block code (under row x) instr.Normal p row.target.0
        → (Act_in block code x instr.Exit n l ⨾ Move_in block code x instr.EndFinally) row.target.0 end → Nest_on s x σ end
        → Nest_on (F.withing l n w ∷ s) (under row (deeper x)) (exit w ∷ σ) p
    nest_behind_jump : (s : Nest V) (x : Surroundings) (σ : Slots V) (p m q : ℕ) → Jump_in block code x q p m → Nest_on s x σ q → Nest_on s x σ p

  -- a nest to which a raise goes from these slots. The tests of handlers and an exit that is due are code of the statement around
  pub data Inside : Nest V → Surroundings → Slots V → Type 0 where
    inside : (s : Nest V) (x : Surroundings) (σ τ : Slots V) (p : ℕ) → Nest_on s x σ p → Above σ τ → Inside s x τ
    alone : (starts : List Start) (τ : Slots V) → Inside [] (outermost starts) τ
    in_tests : (n : ℕ) (e : V) (s : Nest V) (x : Surroundings) (σ τ : Slots V) (p : ℕ) → Nest_on s x σ p → Above (exception e ∷ σ) τ
        → Inside (F.testing n e ∷ s) x τ
    in_exit : (n : ℕ) (w : V) (held : Completion V) (s : Nest V) (x : Surroundings) (τ : Slots V) → Inside s x τ → Inside (F.exiting n w held ∷ s) x τ

  -- the same where the exception that is active is that of the nest
  pub record Within (s : Nest V) (x : Surroundings) (σ : Slots V) : Type 0 where
    pub stands : Inside s x σ
    pub same_active : active σ ≡ bases.active s

  -- the same of what waits for nothing
  pub data Way_on : Way V → Surroundings → Slots V → (pc : ℕ) → Type 0 where
    at_finished : (s : Nest V) (x : Surroundings) (σ : Slots V) (p : ℕ) → Nest_on s x σ p → Way_on (F.finished s) x σ p
    at_stms : (n : ℕ) (ss : Stms) (s : Nest V) (x : Surroundings) (σ : Slots V) (p q : ℕ)
        → All_at block code ss n x p q → Nest_on s x σ q → Way_on (F.stms n ss s) x σ p
    at_branches : (n : ℕ) (bs : Branches) (els : Stms) (s : Nest V) (x : Surroundings) (σ : Slots V) (p q : ℕ)
        → Branches_at block code bs (λ m. All_at block code els m x) n x p q → Nest_on s x σ q → Way_on (F.branches n bs els s) x σ p
    at_lets_go : (held : Completion V) (s : Nest V) (x : Surroundings) (σ : Slots V) (p q : ℕ)
        → May_hold code held x → Move_in block code x instr.EndFinally p q → Nest_on s x σ q → Way_on (F.lets_go held s) x (pending (held_as held x) ∷ σ) p
    at_unbinds : (y : Name) (held : Completion V) (s : Nest V) (x : Surroundings) (σ : Slots V) (p q : ℕ)
        → May_hold code held x → (Deletes block code x.rows (block.variable [] y) None ⨾ Move_in block code x instr.EndFinally) p q → Nest_on s x σ q
        → Way_on (F.unbinds y held s) x (pending (held_as held x) ∷ σ) p
    at_tests : (k n : ℕ) (hs : Handlers) (e : V) (s : Nest V) (x : Surroundings) (σ : Slots V) (p end : ℕ)
        → Handlers_at block code hs n end x p → Nest_on s x σ end → Way_on (F.tests k n hs e s) x (exception e ∷ σ) p
    at_binding : (l n : ℕ) (y : Name) (e : V) (k : Way V) (s : Nest V) (x z : Surroundings) (σ : Slots V) (p q r : ℕ)
        → Move_in block code x instr.Caught p q → Store_in block code x y n l q r → Way_on k z (exception e ∷ σ) r → Within s x (exception e ∷ σ)
        → Way_on (F.binding l n y e k s) x (exception e ∷ σ) p
    at_assigns : (n : ℕ) (v : V) (ts : Tgts) (s : Nest V) (x : Surroundings) (σ : Slots V) (p q : ℕ)
        → Assigned_at block code ts n x p q → Nest_on s x σ q → Way_on (F.assigns n v ts s) x (value v ∷ σ) p
    at_deletes : (n : ℕ) (ps : List Place) (s : Nest V) (x : Surroundings) (σ : Slots V) (p q : ℕ)
        → All_deleted_at block code ps n x p q → Nest_on s x σ q → Way_on (F.deletes n ps s) x σ p
    at_imports : (l n : ℕ) (xs : List Alias) (s : Nest V) (x : Surroundings) (σ : Slots V) (p q : ℕ)
        → Imported_at block code xs l n x p q → Nest_on s x σ q → Way_on (F.imports l n xs s) x σ p
    at_imports_from : (l n : ℕ) (xs : List Alias) (m : V) (s : Nest V) (x : Surroundings) (σ : Slots V) (p q : ℕ)
        → Imported_from_at block code xs l n x p q → Nest_on s x σ q → Way_on (F.imports_from l n xs m s) x (value m ∷ σ) p
    at_within_items : (n : ℕ) (is : Items) (body : Stms) (s : Nest V) (x : Surroundings) (σ : Slots V) (p q : ℕ)
        → Items_at block code is (All_at block code body) (stms_size body) n x p q → Nest_on s x σ q → Way_on (F.within_items n is body s) x σ p
    at_failed : (l n : ℕ) (m : Opt) (s : Nest V) (x : Surroundings) (σ : Slots V) (p q : ℕ)
        → Failed_at block code m l n x p q → Within s x σ → Way_on (F.failed l n m s) x σ p

  -- by moves the code comes to where it goes on so
  pub data Lands : Way V → State V → Type 0 where
    lands : (k : Way V) (x : Surroundings) (σ : Slots V) (p : ℕ) → Way_on k x σ p → Lands k (on p σ)
    lands_by : (k : Way V) (t u : State V) → machine.turn code t ≡ move u → Lands k u → Lands k t

  -- where a value is there above these slots, the code at this place goes on as the wait does
  pub data Waits_on : Wait V → Surroundings → Slots V → (pc : ℕ) → Type 0 where
    at_dropped : (l n : ℕ) (s : Nest V) (x : Surroundings) (σ : Slots V) (p q : ℕ)
        → Act_in block code x instr.Pop n l p q → Nest_on s x σ q → Waits_on (F.dropped l n s) x σ p
    at_assigned : (n : ℕ) (ts : Tgts) (s : Nest V) (x : Surroundings) (σ : Slots V) (p q : ℕ)
        → Assigned_at block code ts n x p q → Nest_on s x σ q → Waits_on (F.assigned n ts s) x σ p
    -- a test goes to the next place or to another, whichever way round
    at_asked : (l n : ℕ) (t f : Way V) (x z : Surroundings) (σ : Slots V) (p q other : ℕ)
        → Act_in block code x (instr.JumpUnless (record { 0 = other })) n l p q → Way_on t z σ q → Way_on f x σ other
        → active σ ≡ bases.active (way_base f) → Waits_on (F.asked l n t f) x σ p
    at_asked_back : (l n : ℕ) (t f : Way V) (x z : Surroundings) (σ : Slots V) (p q other : ℕ)
        → Act_in block code x (instr.JumpIf (record { 0 = other })) n l p q → Way_on t z σ other → Way_on f x σ q
        → active σ ≡ bases.active (way_base f) → Waits_on (F.asked l n t f) x σ p
    at_iterated : (l k n m : ℕ) (t : Tgt) (body els : Stms) (s : Nest V) (x : Surroundings) (σ : Slots V) (p q first next other end : ℕ)
        → Act_in block code x instr.Iter k l p q → Act_in block code x (instr.Next (record { 0 = other })) n m q first
        → For_at block code m n t (All_at block code body (for_body n t)) (All_at block code els (for_else n t body) x) x first next other end
        → Nest_on s x σ end → Waits_on (F.iterated l k (F.for_over m n t body els s)) x σ p
    -- the parts of a place that is deleted, or changed by an operator, are due
    at_deleted_attribute : (l n : ℕ) (y : Name) (k : Way V) (x : Surroundings) (σ : Slots V) (p q : ℕ)
        → DeletesAttribute block code x.rows (block.spelled y) (act_mark p n l false) p q → Way_on k x σ q → active σ ≡ bases.active (way_base k)
        → Waits_on (F.of_attribute l n y (F.deleting k)) x σ p
    at_deleted_item : (l n : ℕ) (i : Exp) (k : Way V) (x : Surroundings) (σ : Slots V) (p q : ℕ)
        → (Exp_at block code x.rows i n false (around_way k) ⨾ Act_in block code x instr.DelItem (n + size i) l) p q → Way_on k x σ q
        → active σ ≡ bases.active (way_base k) → Waits_on (F.of_item l n i (F.deleting k)) x σ p
    at_deleted_index : (l n : ℕ) (a : V) (k : Way V) (x : Surroundings) (σ : Slots V) (p q : ℕ)
        → Act_in block code x instr.DelItem n l p q → Way_on k x σ q → active σ ≡ bases.active (way_base k)
        → Waits_on (F.at_item l n a (F.deleting k)) x (value a ∷ σ) p
    at_changed_attribute : (l n j : ℕ) (y : Name) (o : BinOp) (e : Exp) (s : Nest V) (x : Surroundings) (σ : Slots V) (p q : ℕ)
        → (Move_in block code x instr.Copy ⨾ Op_at block code x.rows (T.get (block.spelled y)) l n false 1
        ⨾ Changed_at block code o e j (n + 1) (λ m. Back_to_attribute block code y m l x) x) p q → Nest_on s x σ q
        → Waits_on (F.of_attribute l n y (F.changing_by j o e s)) x σ p
    at_changed_item : (l n j : ℕ) (i : Exp) (o : BinOp) (e : Exp) (s : Nest V) (x : Surroundings) (σ : Slots V) (p q : ℕ)
        → (Value_at block code x i n false ⨾ Move_in block code x instr.Copy2 ⨾ Op_at block code x.rows T.item l (n + size i) false 2
        ⨾ Changed_at block code o e j (n + size i + 1) (λ m. Back_to_item block code m l x) x) p q → Nest_on s x σ q
        → Waits_on (F.of_item l n i (F.changing_by j o e s)) x σ p
    at_changed_index : (l n j : ℕ) (a : V) (o : BinOp) (e : Exp) (s : Nest V) (x : Surroundings) (σ : Slots V) (p q : ℕ)
        → (Move_in block code x instr.Copy2 ⨾ Op_at block code x.rows T.item l n false 2
        ⨾ Changed_at block code o e j (n + 1) (λ m. Back_to_item block code m l x) x) p q → Nest_on s x σ q
        → Waits_on (F.at_item l n a (F.changing_by j o e s)) x (value a ∷ σ) p
    -- what an operator changes: the present value, the other operand, and the result
    at_changing : (l n k : ℕ) (to : Address V) (o : BinOp) (e : Exp) (s : Nest V) (x : Surroundings) (σ : Slots V) (p q : ℕ)
        → Changed_at block code o e l n (λ m. Back_at to m k x) x p q → Nest_on s x σ q → Waits_on (F.changing l n k to o e s) x (addressed to σ) p
    at_changed : (l n k : ℕ) (to : Address V) (v : V) (o : BinOp) (s : Nest V) (x : Surroundings) (σ : Slots V) (p q : ℕ)
        → (Act_in block code x (instr.InPlace o) n l ⨾ Back_at to (n + 1) k x) p q → Nest_on s x σ q
        → Waits_on (F.changed_by l n k to v o s) x (value v ∷ addressed to σ) p
    at_given_back : (n k : ℕ) (to : Address V) (s : Nest V) (x : Surroundings) (σ : Slots V) (p q : ℕ)
        → Back_at to n k x p q → Nest_on s x σ q → Waits_on (F.change_stored n k to s) x (addressed to σ) p
    at_returned : (l n : ℕ) (s : Nest V) (x : Surroundings) (σ : Slots V) (p q : ℕ)
        → Act_in block code x instr.Return n l p q → Within s x σ → Waits_on (F.returned_by l n s) x σ p
    at_thrown : (l n : ℕ) (c : Opt) (s : Nest V) (x : Surroundings) (σ : Slots V) (p q : ℕ)
        → Thrown_at block code c l n x p q → Within s x σ → Waits_on (F.thrown l n c s) x σ p
    at_caused : (l n : ℕ) (v : V) (s : Nest V) (x : Surroundings) (σ : Slots V) (p q : ℕ)
        → Act_in block code x instr.RaiseFrom n l p q → Within s x σ → Waits_on (F.caused l n v s) x (value v ∷ σ) p
    at_message : (l n : ℕ) (s : Nest V) (x : Surroundings) (σ : Slots V) (p q : ℕ)
        → Act_in block code x (instr.AssertFail true) n l p q → Within s x σ → Waits_on (F.message_of l n s) x σ p
    at_imported : (l n : ℕ) (y : Name) (xs : List Alias) (s : Nest V) (x : Surroundings) (σ : Slots V) (p q : ℕ)
        → (Store_in block code x y n l ⨾ Imported_at block code xs l (n + 1) x) p q → Nest_on s x σ q → Waits_on (F.imported l n y xs s) x σ p
    at_imported_origin : (l n : ℕ) (xs : List Alias) (s : Nest V) (x : Surroundings) (σ : Slots V) (p q : ℕ)
        → Imported_from_at block code xs l n x p q → Nest_on s x σ q → Waits_on (F.imported_origin l n xs s) x σ p
    at_imported_name : (l n : ℕ) (y : Name) (xs : List Alias) (m : V) (s : Nest V) (x : Surroundings) (σ : Slots V) (p q : ℕ)
        → (Store_in block code x y n l ⨾ Imported_from_at block code xs l (n + 1) x) p q → Nest_on s x σ q
        → Waits_on (F.imported_name l n y xs m s) x (value m ∷ σ) p
    at_matched : (l k n m : ℕ) (e : V) (t : Way V) (hs : Handlers) (s : Nest V) (x : Surroundings) (σ : Slots V) (p q r other end : ℕ)
        → Act_in block code x instr.Match n l p q → Splits block code x.rows other q r → Lands t (on r (exception e ∷ σ))
        → Handlers_at block code hs m end x other → Nest_on s x σ end → Waits_on (F.matched l k n e t (F.tests k m hs e s)) x (exception e ∷ σ) p
    at_entered : (l n : ℕ) (t : Option Tgt) (is : Items) (body : Stms) (s : Nest V) (x : Surroundings) (σ : Slots V) (row : Handler) (p end : ℕ)
        → TakesAll row (deeper x)
        → (Act_in block code x instr.Enter n l ⨾ Taken_at block code t row (n + 1) x
        ⨾ Items_at block code is (All_at block code body) (stms_size body) (behind_target block code t (n + 1)) (under row (deeper x))
        ⨾ Move_in block code (under row x) instr.Normal) p row.target.0
        → (Act_in block code x instr.Exit (behind_target block code t (n + 1) + items_size is (stms_size body)) l ⨾ Move_in block code x instr.EndFinally)
        row.target.0 end → Nest_on s x σ end → Waits_on (F.entered l n t is body s) x σ p
    at_decorated : (k n : ℕ) (before : List (Decorating V)) (ds : Decorators) (l : ℕ) (y : Name) (what : Definition) (s : Nest V) (x : Surroundings) (σ : Slots V)
        (p q : ℕ) → Decorated_at block code ds what k (lines_of before) l n y x p q → Nest_on s x σ q
        → Waits_on (F.decorated k n before ds l y what s) x (decorators_above before σ) p
    at_defined : (l n : ℕ) (y : Name) (calls : List (Decorating V)) (s : Nest V) (x : Surroundings) (σ : Slots V) (p q : ℕ)
        → Bound_at block code (lines_of calls) l n y x p q → Nest_on s x σ q → Waits_on (F.defined l n y calls s) x (decorators_above calls σ) p

  -- what goes on behind an expression or a target of a statement, under these rows
  pub record Waiting (w : Wait V) (rows : List Handler) (σ : Slots V) (pc : ℕ) : Type 0 where
    pub surroundings : Surroundings
    pub same_rows : surroundings.rows ≡ rows
    pub stands : Waits_on w surroundings σ pc

  pub record Going (k : Way V) (rows : List Handler) (σ : Slots V) (pc : ℕ) : Type 0 where
    pub surroundings : Surroundings
    pub same_rows : surroundings.rows ≡ rows
    pub stands : Way_on k surroundings σ pc
    pub same_active : active σ ≡ bases.active (way_base k)

  abbrev pub Beyond : Outer V → List Handler → Slots V → (pc : ℕ) → Type 0
  Beyond (wait w) rows σ p = Waiting w rows σ p
  Beyond (way k) rows σ p = Going k rows σ p

  -- the place behind an instruction is the first of a body, or a jump to that stands there
  pub data Leads (x : Surroundings) : ℕ → ℕ → Type 0 where
    is_there : (p : ℕ) → Leads x p p
    by_jump : (p m q : ℕ) → Jump_in block code x q p m → Leads x p q

  -- a state of the code stands for one of control, at the beginning of an act or of an ask without a mark, at a note, or at the end
  pub data Match : Control V → State V → Type 0 where
    m_within : (outer : Outer V) (rows : List Handler) (σ : Slots V) (p : ℕ) (c : Control V) (t : State V)
        → Beyond outer rows σ p → expressions.Match block code rows outer σ p c t → Match c t
    m_deed : (m : Option Mark) (d : Deed V) (k : Way V) (s : Nest V) (x : Surroundings) (t : State V) (i : Ins) (τ : Slots V) (u : State V) (c : Control V)
        → machine.turn code t ≡ act m (T.deed d) (after code i τ (λ r. u)) → control.turn block c ≡ act m (T.deed d) (control.after_deed block k s)
        → i.rows ≡ x.rows → Above τ (slots_in t) → Inside s x τ → Lands k u → active_at t ≡ control.context_at c → control.nest_at c ≡ s → Match c t
    m_leave : (m : Mark) (a : Abrupt V) (s : Nest V) (x : Surroundings) (t : State V) (i : Ins) (τ : Slots V)
        → machine.turn code t ≡ act (Some m) (T.leave (control.leave_by block a)) (after code i τ (λ r. land code x.rows (as_code a x) τ))
        → i.rows ≡ x.rows → Above τ (slots_in t) → May code a x → Inside s x τ → active_at t ≡ bases.active s → Match (for_leave m a s) t
    m_throw : (m : Mark) (a : Throw V) (s : Nest V) (x : Surroundings) (t : State V) (i : Ins) (τ : Slots V)
        → machine.turn code t ≡ act (Some m) (T.throw a) (after code i τ (λ r. elim r [ ])) → i.rows ≡ x.rows → Above τ (slots_in t) → Inside s x τ
        → active_at t ≡ bases.active s → Match (for_throw m a s) t
    m_truth : (m : Mark) (a : Test V) (k f : Way V) (s : Nest V) (x : Surroundings) (t : State V) (i : Ins) (τ : Slots V) (next : Bool → State V)
        → machine.turn code t ≡ act (Some m) (T.test a) (after code i τ next) → i.rows ≡ x.rows → Above τ (slots_in t) → Inside s x τ
        → Lands k (next true) → Lands f (next false) → active_at t ≡ bases.active s → Match (for_truth m a k f s) t
    m_iter : (m : Mark) (v : V) (l n : ℕ) (tg : Tgt) (body els : Stms) (s : Nest V) (x : Surroundings) (t : State V) (i : Ins) (σ : Slots V) (q first next other end : ℕ)
        → machine.turn code t ≡ act (Some m) (T.iter_of v) (after code i σ (λ it. on q (iterator it ∷ σ))) → i.rows ≡ x.rows
        → Above σ (slots_in t)
        → Act_in block code x (instr.Next (record { 0 = other })) n l q first
        → For_at block code l n tg (All_at block code body (for_body n tg)) (All_at block code els (for_else n tg body) x) x first next other end
        → Nest_on s x σ end → active_at t ≡ active σ → Match (for_iter m v (F.for_over l n tg body els s)) t
    m_next : (m : Mark) (it : V) (l n : ℕ) (tg : Tgt) (body els : Stms) (s : Nest V) (x : Surroundings) (t : State V) (i : Ins) (σ : Slots V) (first next other end : ℕ)
        → machine.turn code t ≡ act (Some m) (T.next_of it) (after code i σ (with_item code i other it σ)) → i.rows ≡ x.rows
        → Above (iterator it ∷ σ) (slots_in t) → Leads x i.next first
        → For_at block code l n tg (All_at block code body (for_body n tg)) (All_at block code els (for_else n tg body) x) x first next other end
        → Nest_on s x σ end → active_at t ≡ active σ
        → Match (for_item m it (n + 1) tg (F.stms (for_body n tg) body (F.iterating l n it tg body els ∷ s)) (F.stms (for_else n tg body) els s)) t
    m_entry : (m : Mark) (v : V) (l n : ℕ) (tg : Option Tgt) (is : Items) (body : Stms) (s : Nest V) (x : Surroundings) (t : State V) (i : Ins) (σ : Slots V)
        (row : Handler) (q end : ℕ)
        → machine.turn code t ≡ act (Some m) (T.enter v) (after code i σ (λ r. on q (value r.1 ∷ exit r.0 ∷ σ))) → i.rows ≡ x.rows
        → Above σ (slots_in t) → TakesAll row (deeper x)
        → (Taken_at block code tg row n x
        ⨾ Items_at block code is (All_at block code body) (stms_size body) (behind_target block code tg n) (under row (deeper x))
        ⨾ Move_in block code (under row x) instr.Normal) q row.target.0
        → (Act_in block code x instr.Exit (behind_target block code tg n + items_size is (stms_size body)) l ⨾ Move_in block code x instr.EndFinally)
        row.target.0 end → Nest_on s x σ end → active_at t ≡ active σ → Match (for_entry m v l n tg is body s) t
    m_note : (e : V) (s : Nest V) (x : Surroundings) (rows : List Handler) (τ : Slots V)
        → rows ≡ x.rows → Inside s x τ → active τ ≡ bases.active s → Match (noting (raised_again e) (F.raises e s) s) (reraises e rows τ)
    m_over : (e : End V) → Match (closed e) (off e)

  -- by moves the code comes to such a state
  pub data Comes : Control V → State V → Type 0 where
    there : (c : Control V) (t : State V) → Match c t → Comes c t
    moves : (c : Control V) (t u : State V) → machine.turn code t ≡ move u → Comes c u → Comes c t

  -- the same act or ask, the same note, or the same end; behind each reply both come to states that match again
  pub data Same : Turn (Control V) V → Turn (State V) V → Type 0 where
    same_act : (m : Option Mark) (a : Ask V) (k : Reply V (Answer V a) → Control V) (k' : Reply V (Answer V a) → State V)
        → ((r : Reply V (Answer V a)) → Comes (k r) (k' r)) → Same (act m a k) (act m a k')
    same_note : (a : Note V) (k : Reply V (Unit {0}) → Control V) (k' : Reply V (Unit {0}) → State V)
        → ((r : Reply V (Unit {0})) → Comes (k r) (k' r)) → Same (note a k) (note a k')
    same_over : (e : End V) → Same (over e) (over e)

  -- from all matching states
  abbrev pub Follows : Type 0
  Follows = (c : Control V) (t : State V) → Match c t → Same (control.turn block c) (machine.turn code t)

  -- code comes to such states from where it goes on, as a jump lands there
  abbrev pub WaysGoOn : Type 0
  WaysGoOn = (k : Way V) (x : Surroundings) (σ : Slots V) (p : ℕ) → Way_on k x σ p → Comes (control.go block k) (on p σ)

  -- in matching states the same exception is active (8.4.1, 8.4.4)
  abbrev pub ActiveAlike : Type 0
  ActiveAlike = (c : Control V) (t : State V) → Match c t → active_at t ≡ control.context_at c

  -- and slots lie there as in control's nest, with any others above them
  abbrev pub NestsLie : Type 0
  NestsLie = (c : Control V) (t : State V) → Match c t → (x : Surroundings) × Inside (control.nest_at c) x (slots_in t)

  -- and code comes from the beginning of its block to such states: a block of statements, a lambda's, and a generator expression's with its first iterator
  abbrev pub BlocksBegin : Type 0
  BlocksBegin = (starts : List Start) (ss : Stms) → Block_at block code starts ss → Comes (control.start block ss) machine.start

  abbrev pub LambdasBegin : Type 0
  LambdasBegin = (l : ℕ) (e : Exp) → Lambda_at block code l e → Comes (control.start_lambda block l e) machine.start

  abbrev pub GeneratorsBegin : Type 0
  GeneratorsBegin = (l : ℕ) (e : Exp) (k : ℕ) (t : Tgt) (cs : Clauses) (i : V) → Generator_at block code l e k t cs
      → Comes (control.start_generator block l e k t cs i) (machine.start_generator i)
