-- What code asks names what its block has.
use Rattle.std.proofs.Common.{◌≡◌, ◌+◌, ◌<◌, ℕ, zero, suc, Bool, true, false, List, [], ◌∷◌, ◌++◌, length, Option, Some, None, refl, sym, subst, arith, if◌then◌else◌}
use Rattle.std.specs.Prelude.{nat_lt}
use Rattle.pt_ranges.specs.declared.lines.ActMark.{ActMark}
use Rattle.pt_tree.specs.declared.expression.Constant.{Constant}
use Rattle.pt_tree.specs.Syntax.{Name}
use Rattle.pt_instr.specs.declared.Instr.{Instr}
use Rattle.pt_instr.specs.declared.Instr.TheVariants as instr
use Rattle.pt_heap.specs.declared.value.Value.{Value}
use Rattle.pt_heap.specs.declared.value.Value.TheVariants as value
use Rattle.pt_code.specs.View.{Ins}
use Rattle.sem_control.specs.control.Turn as T
use Rattle.sem_control.specs.control.Turn.{Operation, Turn, Variable}
use Rattle.sem_code.specs.slots.Slots as S
use Rattle.sem_code.specs.slots.Slots.{Slots, State}
use Rattle.sem_code.specs.slots.CodeObject.{CodeObject}
use Rattle.sem_code.specs.slots.Pops.{Next, values, cells, one, two, three, an_iterator, movable, an_exception, a_completion, an_exit, the_value}
use Rattle.sem_code.specs.slots.Steps.{unmarked, gives_known, branches, lets_go}
use Rattle.sem_code.specs.slots.Instructions.{perform}
use Rattle.sem_code.specs.slots.Machine.{turn, here, thrown_here}
use Rattle.sem_run.specs.run.Machine.{BlockId}
use Rattle.pt_base.specs.declared.what.What.TheVariants.{Feature}
use Rattle.sem_run.specs.run.Host.{Here, leave}
use Rattle.sem_rows.specs.pt_host.World.{CodeFacts, Program, Stores, no_names}
use Rattle.sem_rows.specs.pt_host.Answers.{operate}
use Rattle.sem_rows.specs.heap_rows.Leads.{LeavesFeature}
use Rattle.sem_rows.specs.sem_code_machine.code_machine.CodeBlocks.{CodeBlocks}
use Rattle.sem_rows.specs.variables.Numbers.{cell_name}
use Rattle.law_frames.specs.Operands.{OperandsName, CodeNamesItsBlocks}
use Rattle.law_frames.proofs.Answers.{IsMadeAnew, NamesInAsk, NamesInOperation}

-- what holds of a stuck turn and of what goes on, whatever is popped, holds of popping
module _ {V : Type 0} (P : Turn (State V) V → Type 0) (p : P T.stuck) where
  if-one : (ss : Slots V) (next : Next V V) → ((v : V) (below : Slots V) → P (next v below)) → P (one ss next)
  if-one (S.value v ∷ ss) next f = f v ss
  if-one ss next f = p

  if-two : (ss : Slots V) (next : V → Next V V) → ((a b : V) (below : Slots V) → P (next a b below)) → P (two ss next)
  if-two (S.value b ∷ S.value a ∷ ss) next f = f a b ss
  if-two ss next f = p

  if-three : (ss : Slots V) (next : V → V → Next V V) → ((a b c : V) (below : Slots V) → P (next a b c below)) → P (three ss next)
  if-three (S.value c ∷ S.value b ∷ S.value a ∷ ss) next f = f a b c ss
  if-three ss next f = p

  -- of the values that are taken it is known how many there are
  if-values : (n : ℕ) (above : List V) (ss : Slots V) (next : Next V (List V)) → ((vs : List V) (below : Slots V) → length vs ≡ n + length above
      → P (next vs below))
      → P (values n above ss next)
  if-values zero above ss next f = f above ss (omega arith)
  if-values (suc n) above (S.value v ∷ ss) next f = if-values n (v ∷ above) ss next (λ vs below e. f vs below (omega (arith, e)))
  if-values (suc n) above ss next f = p

  if-cells : (n : ℕ) (above : List V) (ss : Slots V) (next : Next V (List V)) → ((vs : List V) (below : Slots V) → length vs ≡ n + length above
      → P (next vs below))
      → P (cells n above ss next)
  if-cells zero above ss next f = f above ss (omega arith)
  if-cells (suc n) above (S.cell v ∷ ss) next f = if-cells n (v ∷ above) ss next (λ vs below e. f vs below (omega (arith, e)))
  if-cells (suc n) above ss next f = p

  if-iterator : (ss : Slots V) (next : Next V V) → ((v : V) (below : Slots V) → P (next v below)) → P (an_iterator ss next)
  if-iterator (S.iterator v ∷ ss) next f = f v ss
  if-iterator ss next f = p

  if-movable : (ss : Slots V) (next : Next V (S.Slot V)) → ((s : S.Slot V) (below : Slots V) → P (next s below)) → P (movable ss next)
  if-movable (S.value v ∷ ss) next f = f (S.value v) ss
  if-movable (S.iterator v ∷ ss) next f = f (S.iterator v) ss
  if-movable ss next f = p

  if-exception : (ss : Slots V) (next : Next V V) → ((v : V) (below : Slots V) → P (next v below)) → P (an_exception ss next)
  if-exception (S.exception v ∷ ss) next f = f v ss
  if-exception ss next f = p

  if-completion : (ss : Slots V) (next : Next V (S.Completion V)) → ((c : S.Completion V) (below : Slots V) → P (next c below)) → P (a_completion ss next)
  if-completion (S.pending c ∷ ss) next f = f c ss
  if-completion ss next f = p

  if-exit : (ss : Slots V) (next : Next V V) → ((v : V) (below : Slots V) → P (next v below)) → P (an_exit ss next)
  if-exit (S.exit v ∷ ss) next f = f v ss
  if-exit ss next f = p

  if-value-below : (n : ℕ) (ss : Slots V) (next : V → Turn (State V) V) → ((v : V) → P (next v)) → P (the_value n ss next)
  if-value-below zero ss next f = p
  if-value-below (suc zero) [] next f = p
  if-value-below (suc (suc n)) [] next f = p
  if-value-below (suc zero) (S.value v ∷ ss) next f = f v
  if-value-below (suc zero) (s ∷ ss) next f = p
  if-value-below (suc (suc n)) (s ∷ ss) next f = if-value-below (suc n) ss next f

-- an operation that leaves the profile makes neither a function nor a class
module _ (program : Program) (b : BlockId) where
  empty : Stores
  empty = record { names = no_names; world = record { heap = []; globals = []; cells = [] } }

  somewhere : Here Value
  somewhere = record { frame = 0; block = b; active = None }

  no-function : (o : Operation) (vs : List Value) → LeavesFeature o → NamesInOperation program b o vs
  unfolding empty
  no-function (T.function n xs) vs leaves = let e : operate program
      (T.function n xs) [] somewhere empty ≡ leave Feature = leaves program [] somewhere empty in absurd (cc)
  no-function (T.class n) vs leaves = let e : operate program
      (T.class n) (value.None ∷ []) somewhere empty ≡ leave Feature = leaves program (value.None ∷ []) somewhere empty in absurd (cc)
  no-function o vs leaves = tt

-- a turn that asks names what its block has
abbrev pub NamesInTurn : {S : Type 0} → Program → BlockId → Turn S Value → Type 0
NamesInTurn program b (T.act m a k) = NamesInAsk program b a
NamesInTurn program b t = Unit {0}

module _ (program : Program) (code : CodeBlocks Value) (known : CodeNamesItsBlocks program code) (b : BlockId) where
  abbrev object : CodeObject Value
  object = code.object b

  abbrev facts : CodeFacts
  facts = program.facts b

  abbrev P : Turn (State Value) Value → Type 0
  P t = NamesInTurn program b t

  cell-anew : (n : ℕ) (c : Bool) → n < length (facts.cells ++ facts.frees) → IsMadeAnew program b (if c then T.cell else T.free) (cell_name facts n)
  cell-anew n true h = (n, (h, refl))
  cell-anew n false h = tt

  anew-cell : (n : ℕ) → n < length (facts.cells ++ facts.frees) → IsMadeAnew program b (object.pool.cell n).scope (object.pool.cell n).name
  anew-cell n h = subst (λ (x : Variable). IsMadeAnew program b x.scope x.name) (sym ((known.names b).cell n)) (cell-anew n (nat_lt n (length facts.cells)) h)

  module _ (pc : ℕ) (i : Ins) where
    unmarked-names : (m : Option ActMark) (s : State Value) (t : Turn (State Value) Value) → P t → P (unmarked m s t)
    unmarked-names None s t p = tt
    unmarked-names (Some m) s t p = p

    known-names : (k : Constant) (o : Option Value) (ss : Slots Value) → P (gives_known object i k o ss)
    known-names k None ss = tt
    known-names k (Some v) ss = unmarked-names i.mark _ _ tt

    branches-names : (o : Option Bool) (t f : Value → Slots Value → State Value) (v : Value) (ss : Slots Value) → P (branches object i o t f v ss)
    branches-names None t f v ss = tt
    branches-names (Some c) t f v ss = unmarked-names i.mark _ _ tt

    let-go-names : (c : S.Completion Value) (ss : Slots Value) → P (lets_go object i c ss)
    let-go-names S.normal ss = unmarked-names i.mark _ _ tt
    let-go-names (S.by (S.raise v)) ss = unmarked-names i.mark _ _ tt
    let-go-names (S.by (S.return v)) ss = unmarked-names i.mark _ _ tt
    let-go-names (S.by (S.jump_to t)) ss = unmarked-names i.mark _ _ tt

    -- a function of a block takes the values of defaults, as many as there are names, and the cells
    function-names : (n k : ℕ) (xs : List Name) (cs vs : List Value) → n ≡ length xs → length cs ≡ object.pool.captures k + 0 → length vs ≡ n + length cs
        → NamesInOperation program b (T.function k xs) vs
    function-names n k xs cs vs e h g = omega (arith, e, h, g, known.captures b k)

    -- a class the base, and the cells
    class-names : (k : ℕ) (v : Value) (cs : List Value) → length cs ≡ object.pool.captures k + 0 → NamesInOperation program b (T.class k) (v ∷ cs)
    class-names k v cs g = omega (arith, g, known.captures b k)

    by-instruction : (j : Instr) (ss : Slots Value) → OperandsName facts object.pool j → P (perform object pc i j ss)
    by-instruction instr.Nop ss h = unmarked-names i.mark _ _ tt
    by-instruction (instr.Const k) ss h = known-names (object.pool.constant k.0) _ ss
    by-instruction (instr.Local x) ss h = tt
    by-instruction (instr.DelLocal x) ss h = tt
    by-instruction (instr.FreshLocal x) ss h = tt
    by-instruction (instr.Cell x) ss h = tt
    by-instruction (instr.DelCell x) ss h = tt
    by-instruction (instr.FreshCell x) ss h = anew-cell x.0 h
    by-instruction (instr.PushCell x) ss h = tt
    by-instruction (instr.Global x) ss h = tt
    by-instruction (instr.DelGlobal x) ss h = tt
    by-instruction (instr.Name x) ss h = tt
    by-instruction (instr.DelName x) ss h = tt
    by-instruction (instr.SetLocal x) ss h = if-one P tt ss _ (λ v below. tt)
    by-instruction (instr.SetCell x) ss h = if-one P tt ss _ (λ v below. tt)
    by-instruction (instr.SetGlobal x) ss h = if-one P tt ss _ (λ v below. tt)
    by-instruction (instr.SetName x) ss h = if-one P tt ss _ (λ v below. tt)
    by-instruction instr.Pop ss h = if-one P tt ss _ (λ v below. unmarked-names i.mark _ _ tt)
    by-instruction instr.Copy ss h = if-one P tt ss _ (λ v below. unmarked-names i.mark _ _ tt)
    by-instruction instr.Copy2 ss h = if-two P tt ss _ (λ a c below. unmarked-names i.mark _ _ tt)
    by-instruction instr.Swap ss h = if-one P tt ss _ (λ v below. if-movable P tt below _ (λ s under. unmarked-names i.mark _ _ tt))
    by-instruction instr.Rot3 ss h = if-three P tt ss _ (λ a c d below. unmarked-names i.mark _ _ tt)
    by-instruction (instr.Attr t) ss h = if-values P tt 1 [] ss _ (λ vs below e. tt)
    by-instruction (instr.SetAttr t) ss h = if-two P tt ss _ (λ a c below. tt)
    by-instruction (instr.DelAttr t) ss h = if-one P tt ss _ (λ v below. tt)
    by-instruction instr.Item ss h = if-values P tt 2 [] ss _ (λ vs below e. tt)
    by-instruction instr.SetItem ss h = if-three P tt ss _ (λ a c d below. tt)
    by-instruction instr.DelItem ss h = if-two P tt ss _ (λ a c below. tt)
    by-instruction instr.Slice ss h = if-values P tt 3 [] ss _ (λ vs below e. tt)
    by-instruction (instr.Unary o) ss h = if-values P tt 1 [] ss _ (λ vs below e. tt)
    by-instruction instr.Not ss h = if-values P tt 1 [] ss _ (λ vs below e. tt)
    by-instruction (instr.Binary o) ss h = if-values P tt 2 [] ss _ (λ vs below e. tt)
    by-instruction (instr.InPlace o) ss h = if-values P tt 2 [] ss _ (λ vs below e. tt)
    by-instruction (instr.Compare o) ss h = if-values P tt 2 [] ss _ (λ vs below e. tt)
    by-instruction (instr.Tuple n) ss h = if-values P tt n [] ss _ (λ vs below e. tt)
    by-instruction (instr.List n) ss h = if-values P tt n [] ss _ (λ vs below e. tt)
    by-instruction (instr.Set n) ss h = if-values P tt n [] ss _ (λ vs below e. tt)
    by-instruction (instr.Join n) ss h = if-values P tt n [] ss _ (λ vs below e. tt)
    by-instruction (instr.Dict n) ss h = if-values P tt (n + n) [] ss _ (λ vs below e. tt)
    by-instruction (instr.ListAdd n) ss h = if-one P tt ss _ (λ v below. if-value-below P tt n below _ (λ m. tt))
    by-instruction (instr.SetAdd n) ss h = if-one P tt ss _ (λ v below. if-value-below P tt n below _ (λ m. tt))
    by-instruction (instr.DictAdd n) ss h = if-two P tt ss _ (λ k v below. if-value-below P tt n below _ (λ m. tt))
    by-instruction (instr.Format c) ss h = if-values P tt 2 [] ss _ (λ vs below e. tt)
    by-instruction instr.TupleJoin ss h = if-values P tt 2 [] ss _ (λ vs below e. no-function program b object.extras.tuple_join vs (known.extras b).tuple_join)
    by-instruction instr.DictMerge ss h = if-values P tt 2 [] ss _ (λ vs below e. no-function program b object.extras.dict_merge vs (known.extras b).dict_merge)
    by-instruction instr.Super ss h = if-values P tt 2 [] ss _ (λ vs below e. no-function program b object.extras.super vs (known.extras b).super)
    by-instruction (instr.Unpack n) ss h = if-one P tt ss _ (λ v below. tt)
    by-instruction (instr.UnpackStar n m) ss h = if-one P tt ss _ (λ v below. tt)
    by-instruction instr.Spread ss h = if-values P tt 1 [] ss _ (λ vs below e. tt)
    by-instruction instr.SpreadMap ss h = if-values P tt 1 [] ss _ (λ vs below e. tt)
    by-instruction (instr.Call n) ss h = if-values P tt (suc n) [] ss _ (λ vs below e. tt)
    by-instruction (instr.CallKw n l) ss h = if-values P tt (suc n) [] ss _ (λ vs below e. tt)
    by-instruction (instr.CallSpread n l) ss h = if-values P tt (suc n) [] ss _ (λ vs below e. tt)
    by-instruction (instr.MakeFunction k n l) ss h =
        if-cells P tt (object.pool.captures k.0) [] ss _ (λ cs below g. if-values P tt n cs below _
        (λ vs under e. function-names n k.0 (object.pool.texts l.0) cs vs h g e))
    by-instruction (instr.MakeClass k) ss h = if-cells P tt (object.pool.captures k.0) [] ss _ (λ cs below g. if-one P tt below _ (λ v under. class-names k.0 v cs g))
    by-instruction (instr.MakeGenerator k) ss h = if-cells P tt (object.pool.captures k.0) [] ss _ (λ cs below g. if-iterator P tt below _ (λ v under. tt))
    by-instruction instr.Iter ss h = if-one P tt ss _ (λ v below. tt)
    by-instruction (instr.Next t) ss h = if-iterator P tt ss _ (λ v below. tt)
    by-instruction (instr.Jump t) ss h = unmarked-names i.mark _ _ tt
    by-instruction (instr.JumpIf t) ss h = if-one P tt ss _ (λ v below. branches-names (object.is_truth v) _ _ v below)
    by-instruction (instr.JumpUnless t) ss h = if-one P tt ss _ (λ v below. branches-names (object.is_truth v) _ _ v below)
    by-instruction (instr.JumpIfKeep t) ss h = if-one P tt ss _ (λ v below. branches-names (object.is_truth v) _ _ v below)
    by-instruction (instr.JumpUnlessKeep t) ss h = if-one P tt ss _ (λ v below. branches-names (object.is_truth v) _ _ v below)
    by-instruction instr.Return ss h = if-one P tt ss _ (λ v below. unmarked-names i.mark _ _ tt)
    by-instruction instr.Yield ss h = if-one P tt ss _ (λ v below. tt)
    by-instruction instr.Delegate ss h = if-one P tt ss _ (λ v below. if-iterator P tt below _ (λ it under. tt))
    by-instruction instr.Raise ss h = if-one P tt ss _ (λ v below. tt)
    by-instruction instr.RaiseFrom ss h = if-two P tt ss _ (λ a c below. tt)
    by-instruction instr.RaiseAgain ss h = tt
    by-instruction (instr.AssertFail false) ss h = tt
    by-instruction (instr.AssertFail true) ss h = if-one P tt ss _ (λ v below. tt)
    by-instruction (instr.Leave t) ss h = unmarked-names i.mark _ _ tt
    by-instruction instr.Match ss h = if-one P tt ss _ (λ c below. if-exception P tt below _ (λ e under. tt))
    by-instruction instr.Caught ss h = if-exception P tt ss _ (λ e below. unmarked-names i.mark _ _ tt)
    by-instruction instr.EndHandler ss h = if-exception P tt ss _ (λ e below. unmarked-names i.mark _ _ tt)
    by-instruction instr.Rethrow ss h = if-exception P tt ss _ (λ e below. unmarked-names i.mark _ _ tt)
    by-instruction instr.Enter ss h = if-one P tt ss _ (λ v below. tt)
    by-instruction instr.Normal ss h = unmarked-names i.mark _ _ tt
    by-instruction instr.Exit ss h = if-completion P tt ss _ (λ c below. if-exit P tt below _ (λ w under. tt))
    by-instruction instr.EndFinally ss h = if-completion P tt ss _ (λ c below. let-go-names c below)
    by-instruction (instr.Import t) ss h = tt
    by-instruction (instr.ImportName t) ss h = if-one P tt ss _ (λ v below. tt)

  here-names : (pc : ℕ) (o : Option Ins) (ss : Slots Value) → object.at pc ≡ o → P (here object pc o ss)
  here-names pc (Some i) ss e = by-instruction pc i i.instr ss (known.operands b pc i e)
  here-names pc None ss e = tt

  thrown-names : (pc : ℕ) (o : Option Ins) (v : Value) (ss : Slots Value) → P (thrown_here object pc o v ss)
  thrown-names pc (Some i) v ss = if-one P tt ss _ (λ u below. if-iterator P tt below _ (λ it under. tt))
  thrown-names pc None v ss = tt

  pub turn-names : (s : State Value) → P (turn object s)
  turn-names (S.on pc ss) = here-names pc (object.at pc) ss refl
  turn-names (S.thrown_to pc e ss) = thrown-names pc (object.at pc) e ss
  turn-names (S.reraises e rows ss) = tt
  turn-names (S.off e) = tt
