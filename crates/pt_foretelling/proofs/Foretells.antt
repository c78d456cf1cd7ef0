-- What is told before the act of an instruction is told of its turn.
use Rattle.std.proofs.Common.{◌≡◌, ◌∙◌, ◌≤◌, ◌<◌, ◌⊎◌, inl, inr, arith, lt-ltb, le-ltb, ℕ, ◌+◌, ◌-◌, zero, suc, Bool, true, false, List, [], ◌∷◌, ◌++◌, Option, Some, None, map, length, replicate, refl, sym, ap, subst, append_assoc, append-nil}
use Rattle.std.proofs.lemmas.Bool.{cases_lt}
use Rattle.std.specs.Prelude.{slice_get, if◌then◌else◌}
use Rattle.std.specs.Option.{option_or}
use Rattle.pt_base.specs.declared.numbers.ActNo.{ActNo}
use Rattle.pt_ranges.specs.declared.lines.ActMark.{ActMark}
use Rattle.pt_tree.specs.declared.expression.Constant.{Constant}
use Rattle.pt_tree.specs.Syntax.{Name}
use Rattle.pt_instr.specs.declared.Instr.{Instr}
use Rattle.pt_instr.specs.declared.Instr.TheVariants as instr
use Rattle.pt_heap.specs.declared.value.Value.{Value}
use Rattle.pt_heap.specs.declared.value.Value.TheVariants as val
use Rattle.pt_heap.specs.declared.object.Object.{Object}
use Rattle.pt_heap.specs.declared.object.Object.TheVariants as object
use Rattle.pt_content.specs.pt_attrs.Look.{object_of}
use Rattle.pt_frames.specs.declared.slot.Slot.{Slot as Held}
use Rattle.pt_frames.specs.declared.slot.Slot.TheVariants as slot
use Rattle.pt_code.specs.View.{Ins}
use Rattle.sem_control.specs.control.Turn as T
use Rattle.sem_control.specs.control.Turn.{Operation, Role, Turn, stuck}
use Rattle.sem_code.specs.slots.Slots.{raise, return, jump_to, Completion, normal, by, Slot, value, cell, iterator, exception, pending, exit, Slots, State}
use Rattle.sem_code.specs.slots.CodeObject.{CodeObject}
use Rattle.sem_code.specs.slots.Pops.{Next, values, cells, one, two, three, an_iterator, movable, an_exception, a_completion, an_exit, the_value}
use Rattle.sem_code.specs.slots.Steps.{unmarked, known, asks, gives, gives_known, branches, lets_go}
use Rattle.sem_code.specs.slots.Landing.{land}
use Rattle.sem_code.specs.slots.Instructions.{all_positional, last_named, role_of, perform}
use Rattle.sem_run.specs.run.Events as run
use Rattle.pt_happenings.specs.declared.happening.Happening.TheVariants as happening
use Rattle.pt_host.specs.World.{World, Program}
use Rattle.pt_host.specs.HeapHost.{first_argument, first_spread, is_builtin, is_builtin_object}
use Rattle.pt_host.specs.HeapHost as host
use Rattle.pt_host.specs.declared.places.TheConstants.{MISSING}
use Rattle.sem_rows.specs.heap_rows.Views.{slots_view}
use Rattle.pt_foretelling.specs.declared.acts.Foretold.{Foretold}
use Rattle.pt_foretelling.specs.Calls.{value_in, values_in, first_item, first_of, first_by, first_plain, or_missing}
use Rattle.pt_foretelling.specs.Foretelling.{calling_first, calling, nothing, foretold}
use Rattle.pt_foretelling.specs.Laws.{TellsBefore, IsNoCall, HasNoCalls, HasTexts, LeadsTo, AreForetold}

-- what holds of a stuck turn and of what goes on, whatever is popped, holds of popping
module _ (P : Turn (State Value) Value → Type 0) (p : P stuck) where
  if_one : (ss : Slots Value) (next : Next Value Value) → ((v : Value) (below : Slots Value) → P (next v below)) → P (one ss next)
  if_one (value v ∷ ss) next f = f v ss
  if_one ss next f = p

  if_two : (ss : Slots Value) (next : Value → Next Value Value) → ((a b : Value) (below : Slots Value) → P (next a b below)) → P (two ss next)
  if_two (value b ∷ value a ∷ ss) next f = f a b ss
  if_two ss next f = p

  if_three : (ss : Slots Value) (next : Value → Value → Next Value Value) → ((a b c : Value) (below : Slots Value) → P (next a b c below)) → P (three ss next)
  if_three (value c ∷ value b ∷ value a ∷ ss) next f = f a b c ss
  if_three ss next f = p

  if_values : (n : ℕ) (above : List Value) (ss : Slots Value) (next : Next Value (List Value)) → ((vs : List Value) (below : Slots Value) → P (next vs below)) → P (values n above ss next)
  if_values zero above ss next f = f above ss
  if_values (suc n) above (value v ∷ ss) next f = if_values n (v ∷ above) ss next f
  if_values (suc n) above ss next f = p

  if_cells : (n : ℕ) (above : List Value) (ss : Slots Value) (next : Next Value (List Value)) → ((vs : List Value) (below : Slots Value) → P (next vs below)) → P (cells n above ss next)
  if_cells zero above ss next f = f above ss
  if_cells (suc n) above (cell v ∷ ss) next f = if_cells n (v ∷ above) ss next f
  if_cells (suc n) above ss next f = p

  if_iterator : (ss : Slots Value) (next : Next Value Value) → ((v : Value) (below : Slots Value) → P (next v below)) → P (an_iterator ss next)
  if_iterator (iterator v ∷ ss) next f = f v ss
  if_iterator ss next f = p

  if_movable : (ss : Slots Value) (next : Next Value (Slot Value)) → ((s : Slot Value) (below : Slots Value) → P (next s below)) → P (movable ss next)
  if_movable (value v ∷ ss) next f = f (value v) ss
  if_movable (iterator v ∷ ss) next f = f (iterator v) ss
  if_movable ss next f = p

  if_exception : (ss : Slots Value) (next : Next Value Value) → ((v : Value) (below : Slots Value) → P (next v below)) → P (an_exception ss next)
  if_exception (exception v ∷ ss) next f = f v ss
  if_exception ss next f = p

  if_completion : (ss : Slots Value) (next : Next Value (Completion Value)) → ((c : Completion Value) (below : Slots Value) → P (next c below)) → P (a_completion ss next)
  if_completion (pending c ∷ ss) next f = f c ss
  if_completion ss next f = p

  if_exit : (ss : Slots Value) (next : Next Value Value) → ((v : Value) (below : Slots Value) → P (next v below)) → P (an_exit ss next)
  if_exit (exit v ∷ ss) next f = f v ss
  if_exit ss next f = p

  if_value_below : (n : ℕ) (ss : Slots Value) (next : Value → Turn (State Value) Value) → ((v : Value) → P (next v)) → P (the_value n ss next)
  if_value_below zero ss next f = p
  if_value_below (suc zero) [] next f = p
  if_value_below (suc (suc n)) [] next f = p
  if_value_below (suc zero) (value v ∷ ss) next f = f v
  if_value_below (suc zero) (s ∷ ss) next f = p
  if_value_below (suc (suc n)) (s ∷ ss) next f = if_value_below (suc n) ss next f

-- calls and jumps apart
abbrev IsSilent : Instr → Type 0
IsSilent (instr.Call n) = ⊥
IsSilent (instr.CallKw n l) = ⊥
IsSilent (instr.CallSpread n l) = ⊥
IsSilent (instr.Leave t) = ⊥
IsSilent j = Unit {0}

-- the values in slots are those that are taken
values-behind : (n : ℕ) (v : Value) (slots : List Held)
    → values_in (suc n) (slot.Value v ∷ slots) ≡ values_in n slots ++ v ∷ []
values-behind zero v slots = refl
values-behind (suc n) v slots = ap (λ vs. value_in (slice_get slots n) ∷ vs) (values-behind n v slots)

module _ (P : Turn (State Value) Value → Type 0) (p : P stuck) where
  if_values_in : (n : ℕ) (above : List Value) (slots : List Held) (next : Next Value (List Value))
      → ((below : Slots Value) → P (next (values_in n slots ++ above) below))
      → P (values n above (slots_view slots) next)
  if_values_in zero above slots next f = f (slots_view slots)
  if_values_in (suc n) above (slot.Value v ∷ slots) next f =
      if_values_in n (v ∷ above) slots next
      (λ below. subst (λ vs. P (next vs below)) (ap (λ us. us ++ above) (values-behind n v slots) ∙ append_assoc (values_in n slots) (v ∷ []) above) (f below))
  if_values_in (suc n) above [] next f = p
  if_values_in (suc n) above (slot.Cell c ∷ slots) next f = p
  if_values_in (suc n) above (slot.Iter v ∷ slots) next f = p
  if_values_in (suc n) above (slot.Exc v ∷ slots) next f = p
  if_values_in (suc n) above (slot.Pending c ∷ slots) next f = p
  if_values_in (suc n) above (slot.With v ∷ slots) next f = p

-- whether a builtin is called is told by its object
builtin-is : (v : Value) (w : World) → is_builtin v w ≡ is_builtin_object (object_of w.heap v)
builtin-is (val.Obj id) w = refl
builtin-is val.None w = refl
builtin-is (val.Bool b) w = refl
builtin-is (val.Int k) w = refl
builtin-is val.Ellipsis w = refl
builtin-is val.NotImplemented w = refl

-- the first argument
item-is : (o : Option Object) (rest : Option Value)
    → host.first_item o (or_missing rest) ≡ or_missing (option_or (first_item o) rest)
item-is (Some (object.Tuple (v ∷ vs))) rest = refl
item-is (Some (object.Tuple [])) rest = refl
item-is o rest = refl

spread-is : (v : Value) (w : World) (rest : Option Value)
    → first_spread v (or_missing rest) w ≡ or_missing (option_or (first_item (object_of w.heap v)) rest)
spread-is (val.Obj id) w rest = item-is (slice_get w.heap id.0) rest
spread-is val.None w rest = refl
spread-is (val.Bool b) w rest = refl
spread-is (val.Int k) w rest = refl
spread-is val.Ellipsis w rest = refl
spread-is val.NotImplemented w rest = refl

module _ (slots : List Held) (w : World) where
  one-is : (r : Role) (rs : List Role) (n : ℕ) (rest : Option Value)
      → first_argument rs (values_in n slots) w ≡ or_missing rest
      → first_argument (r ∷ rs) (values_in (suc n) slots) w
      ≡ or_missing (option_or (first_of w.heap r (value_in (slice_get slots n))) rest)
  one-is T.positional rs n rest e = refl
  one-is (T.named x) rs n rest e = e
  one-is T.spread rs n rest e =
      ap (λ u. first_spread (value_in (slice_get slots n)) u w) e
      ∙ spread-is (value_in (slice_get slots n)) w rest
  one-is T.spread_named rs n rest e = e

  none-given : (r : Role) (rs : List Role) → first_argument (r ∷ rs) [] w ≡ val.Obj MISSING
  none-given T.positional rs = refl
  none-given (T.named y) rs = refl
  none-given T.spread rs = refl
  none-given T.spread_named rs = refl

  roles-are : (xs : List Name) (n : ℕ)
      → first_argument (map role_of xs) (values_in n slots) w ≡ or_missing (first_by w.heap xs n slots)
  roles-are [] zero = refl
  roles-are [] (suc n) = refl
  roles-are (x ∷ xs) zero = none-given (role_of x) (map role_of xs)
  roles-are (x ∷ xs) (suc n) =
      one-is (role_of x) (map role_of xs) n (first_by w.heap xs n slots) (roles-are xs n)

  named-are : (xs : List Name) (vs : List Value) → first_argument (map T.named xs) vs w ≡ val.Obj MISSING
  named-are [] [] = refl
  named-are [] (v ∷ vs) = refl
  named-are (x ∷ xs) [] = refl
  named-are (x ∷ xs) (v ∷ vs) = named-are xs vs

  -- where some are passed by position, the first of all is the first
  by-place : (n k : ℕ) (rs : List Role) → k < suc n
      → first_argument (replicate (suc n - k) T.positional ++ rs) (values_in (suc n) slots) w
      ≡ or_missing (first_plain (suc n) k slots)
  by-place n k rs fewer =
      let left : suc n - k ≡ suc (n - k) = omega (arith, fewer) in
      let top : suc n - 1 ≡ n = omega arith in
      ap (λ j. first_argument (replicate j T.positional ++ rs) (values_in (suc n) slots) w) left
      ∙ ap (λ j. value_in (slice_get slots j)) (sym top)
      ∙ ap (λ b. or_missing (if b then Some (value_in (slice_get slots (suc n - 1))) else None)) (sym (lt-ltb k (suc n) fewer))

  by-name : (n k : ℕ) (rs : List Role) → n ≤ k
      → first_argument rs (values_in n slots) w ≡ val.Obj MISSING
      → first_argument (replicate (n - k) T.positional ++ rs) (values_in n slots) w
      ≡ or_missing (first_plain n k slots)
  by-name n k rs more e =
      let none : n - k ≡ 0 = omega (arith, more) in
      ap (λ j. first_argument (replicate j T.positional ++ rs) (values_in n slots) w) none
      ∙ e
      ∙ ap (λ b. or_missing (if b then Some (value_in (slice_get slots (n - 1))) else None)) (sym (le-ltb k n more))

  plain-are : (n k : ℕ) (rs : List Role) → first_argument rs (values_in n slots) w ≡ val.Obj MISSING
      → first_argument (replicate (n - k) T.positional ++ rs) (values_in n slots) w
      ≡ or_missing (first_plain n k slots)
  plain-are n k rs e = either-way (cases_lt k n)
    where
      some-left : (m : ℕ) → n ≡ m → k < m
          → first_argument (replicate (m - k) T.positional ++ rs) (values_in m slots) w
          ≡ or_missing (first_plain m k slots)
      some-left zero same fewer = let no_less : ⊥ = omega (arith, fewer) in absurd no_less
      some-left (suc m) same fewer = by-place m k rs fewer

      either-way : (k < n) ⊎ (n ≤ k)
          → first_argument (replicate (n - k) T.positional ++ rs) (values_in n slots) w
          ≡ or_missing (first_plain n k slots)
      either-way (inl fewer) = some-left n refl fewer
      either-way (inr more) = by-name n k rs more e

  all-are : (n : ℕ) → first_argument (replicate n T.positional) (values_in n slots) w
      ≡ or_missing (first_plain n 0 slots)
  all-are zero = refl
  all-are (suc n) =
      let top : suc n - 1 ≡ n = omega arith in
      let some : 0 < suc n = omega arith in
      ap (λ j. value_in (slice_get slots j)) (sym top)
      ∙ ap (λ b. or_missing (if b then Some (value_in (slice_get slots (suc n - 1))) else None)) (sym (lt-ltb 0 (suc n) some))

module _ (program : Program) (w : World) (leads : State Value → ℕ) where
  abbrev Told : Foretold → Turn (State Value) Value → Type 0
  Told f t = TellsBefore program w leads f t

  abbrev Silent : Turn (State Value) Value → Type 0
  Silent t = Told nothing t

  unmarked-told : (m : Option ActMark) (s : State Value) (t : Turn (State Value) Value) → Silent t → Silent (unmarked m s t)
  unmarked-told None s t p = tt
  unmarked-told (Some m) s t p = p

  module _ (code : CodeObject Value) (no_calls : HasNoCalls code) (pc : ℕ) (i : Ins) where
    known-told : (k : Constant) (o : Option Value) (ss : Slots Value) → Silent (gives_known code i k o ss)
    known-told k None ss = (refl, refl)
    known-told k (Some v) ss = unmarked-told i.mark _ _ (refl, refl)

    let-go-told : (c : Completion Value) (ss : Slots Value) → Silent (lets_go code i c ss)
    let-go-told normal ss = unmarked-told i.mark _ _ (refl, refl)
    let-go-told (by (raise v)) ss = unmarked-told i.mark _ _ (refl, refl)
    let-go-told (by (return v)) ss = unmarked-told i.mark _ _ (refl, refl)
    let-go-told (by (jump_to t)) ss = unmarked-told i.mark _ _ (refl, refl)

    branches-told : (o : Option Bool) (t f : Value → Slots Value → State Value) (v : Value) (ss : Slots Value) → Silent (branches code i o t f v ss)
    branches-told None t f v ss = (refl, refl)
    branches-told (Some b) t f v ss = unmarked-told i.mark _ _ (refl, refl)

    no-call-told : (o : Operation) → IsNoCall o → (vs : List Value) (ss : Slots Value) → Silent (gives code i (T.operate o vs) ss)
    no-call-told T.tuple other vs ss = (refl, refl)
    no-call-told T.list other vs ss = (refl, refl)
    no-call-told T.set other vs ss = (refl, refl)
    no-call-told T.dict other vs ss = (refl, refl)
    no-call-told (T.get x) other vs ss = (refl, refl)
    no-call-told T.item other vs ss = (refl, refl)
    no-call-told T.slice other vs ss = (refl, refl)
    no-call-told (T.unary x) other vs ss = (refl, refl)
    no-call-told T.inverted other vs ss = (refl, refl)
    no-call-told (T.binary x) other vs ss = (refl, refl)
    no-call-told (T.in_place x) other vs ss = (refl, refl)
    no-call-told (T.compare x) other vs ss = (refl, refl)
    no-call-told (T.format x) other vs ss = (refl, refl)
    no-call-told T.join other vs ss = (refl, refl)
    no-call-told T.spread_out other vs ss = (refl, refl)
    no-call-told T.spread_named_out other vs ss = (refl, refl)
    no-call-told (T.function b x) other vs ss = (refl, refl)
    no-call-told (T.class b) other vs ss = (refl, refl)
    no-call-told (T.generator b) other vs ss = (refl, refl)
    no-call-told (T.import x) other vs ss = (refl, refl)
    no-call-told (T.import_name x) other vs ss = (refl, refl)
    no-call-told (T.call rs) other vs ss = absurd other

    told-instruction : (j : Instr) (ss : Slots Value) → IsSilent j → Silent (perform code pc i j ss)
    told-instruction instr.Nop ss other = unmarked-told i.mark _ _ (refl, refl)
    told-instruction (instr.Const k) ss other = known-told (code.pool.constant k.0) (known code (code.pool.constant k.0)) ss
    told-instruction (instr.Local x) ss other = (refl, refl)
    told-instruction (instr.DelLocal x) ss other = (refl, refl)
    told-instruction (instr.FreshLocal x) ss other = (refl, refl)
    told-instruction (instr.Cell x) ss other = (refl, refl)
    told-instruction (instr.DelCell x) ss other = (refl, refl)
    told-instruction (instr.FreshCell x) ss other = (refl, refl)
    told-instruction (instr.PushCell x) ss other = (refl, refl)
    told-instruction (instr.Global x) ss other = (refl, refl)
    told-instruction (instr.DelGlobal x) ss other = (refl, refl)
    told-instruction (instr.Name x) ss other = (refl, refl)
    told-instruction (instr.DelName x) ss other = (refl, refl)
    told-instruction (instr.SetLocal x) ss other = if_one Silent tt ss _ (λ v below. (refl, refl))
    told-instruction (instr.SetCell x) ss other = if_one Silent tt ss _ (λ v below. (refl, refl))
    told-instruction (instr.SetGlobal x) ss other = if_one Silent tt ss _ (λ v below. (refl, refl))
    told-instruction (instr.SetName x) ss other = if_one Silent tt ss _ (λ v below. (refl, refl))
    told-instruction instr.Pop ss other = if_one Silent tt ss _ (λ v below. unmarked-told i.mark _ _ (refl, refl))
    told-instruction instr.Copy ss other = if_one Silent tt ss _ (λ v below. unmarked-told i.mark _ _ (refl, refl))
    told-instruction instr.Copy2 ss other = if_two Silent tt ss _ (λ a b below. unmarked-told i.mark _ _ (refl, refl))
    told-instruction instr.Swap ss other = if_one Silent tt ss _ (λ v below. if_movable Silent tt below _ (λ s under. unmarked-told i.mark _ _ (refl, refl)))
    told-instruction instr.Rot3 ss other = if_three Silent tt ss _ (λ a b c below. unmarked-told i.mark _ _ (refl, refl))
    told-instruction (instr.Attr t) ss other = if_values Silent tt 1 [] ss _ (λ vs below. (refl, refl))
    told-instruction (instr.SetAttr t) ss other = if_two Silent tt ss _ (λ a b below. (refl, refl))
    told-instruction (instr.DelAttr t) ss other = if_one Silent tt ss _ (λ v below. (refl, refl))
    told-instruction instr.Item ss other = if_values Silent tt 2 [] ss _ (λ vs below. (refl, refl))
    told-instruction instr.SetItem ss other = if_three Silent tt ss _ (λ a b c below. (refl, refl))
    told-instruction instr.DelItem ss other = if_two Silent tt ss _ (λ a b below. (refl, refl))
    told-instruction instr.Slice ss other = if_values Silent tt 3 [] ss _ (λ vs below. (refl, refl))
    told-instruction (instr.Unary o) ss other = if_values Silent tt 1 [] ss _ (λ vs below. (refl, refl))
    told-instruction instr.Not ss other = if_values Silent tt 1 [] ss _ (λ vs below. (refl, refl))
    told-instruction (instr.Binary o) ss other = if_values Silent tt 2 [] ss _ (λ vs below. (refl, refl))
    told-instruction (instr.InPlace o) ss other = if_values Silent tt 2 [] ss _ (λ vs below. (refl, refl))
    told-instruction (instr.Compare o) ss other = if_values Silent tt 2 [] ss _ (λ vs below. (refl, refl))
    told-instruction (instr.Tuple n) ss other = if_values Silent tt n [] ss _ (λ vs below. (refl, refl))
    told-instruction (instr.List n) ss other = if_values Silent tt n [] ss _ (λ vs below. (refl, refl))
    told-instruction (instr.Set n) ss other = if_values Silent tt n [] ss _ (λ vs below. (refl, refl))
    told-instruction (instr.Join n) ss other = if_values Silent tt n [] ss _ (λ vs below. (refl, refl))
    told-instruction (instr.Dict n) ss other = if_values Silent tt (n + n) [] ss _ (λ vs below. (refl, refl))
    told-instruction (instr.ListAdd n) ss other = if_one Silent tt ss _ (λ v below. if_value_below Silent tt n below _ (λ m. (refl, refl)))
    told-instruction (instr.SetAdd n) ss other = if_one Silent tt ss _ (λ v below. if_value_below Silent tt n below _ (λ m. (refl, refl)))
    told-instruction (instr.DictAdd n) ss other = if_two Silent tt ss _ (λ k v below. if_value_below Silent tt n below _ (λ m. (refl, refl)))
    told-instruction (instr.Format c) ss other = if_values Silent tt 2 [] ss _ (λ vs below. (refl, refl))
    told-instruction instr.TupleJoin ss other = if_values Silent tt 2 [] ss _ (λ vs below. no-call-told code.extras.tuple_join no_calls.tuple_join vs below)
    told-instruction instr.DictMerge ss other = if_values Silent tt 2 [] ss _ (λ vs below. no-call-told code.extras.dict_merge no_calls.dict_merge vs below)
    told-instruction instr.Super ss other = if_values Silent tt 2 [] ss _ (λ vs below. no-call-told code.extras.super no_calls.super vs below)
    told-instruction (instr.Unpack n) ss other = if_one Silent tt ss _ (λ v below. (refl, refl))
    told-instruction (instr.UnpackStar n m) ss other = if_one Silent tt ss _ (λ v below. (refl, refl))
    told-instruction instr.Spread ss other = if_values Silent tt 1 [] ss _ (λ vs below. (refl, refl))
    told-instruction instr.SpreadMap ss other = if_values Silent tt 1 [] ss _ (λ vs below. (refl, refl))
    told-instruction (instr.MakeFunction b n l) ss other = if_cells Silent tt (code.pool.captures b.0) [] ss _ (λ cs below. if_values Silent tt n cs below _ (λ vs under. (refl, refl)))
    told-instruction (instr.MakeClass b) ss other = if_cells Silent tt (code.pool.captures b.0) [] ss _ (λ cs below. if_one Silent tt below _ (λ v under. (refl, refl)))
    told-instruction (instr.MakeGenerator b) ss other = if_cells Silent tt (code.pool.captures b.0) [] ss _ (λ cs below. if_iterator Silent tt below _ (λ v under. (refl, refl)))
    told-instruction instr.Iter ss other = if_one Silent tt ss _ (λ v below. (refl, refl))
    told-instruction (instr.Jump t) ss other = unmarked-told i.mark _ _ (refl, refl)
    told-instruction instr.Return ss other = if_one Silent tt ss _ (λ v below. unmarked-told i.mark _ _ (refl, refl))
    told-instruction instr.Yield ss other = if_one Silent tt ss _ (λ v below. (refl, refl))
    told-instruction instr.Delegate ss other = if_one Silent tt ss _ (λ v below. if_iterator Silent tt below _ (λ it under. (refl, refl)))
    told-instruction instr.Raise ss other = if_one Silent tt ss _ (λ v below. (refl, refl))
    told-instruction instr.RaiseFrom ss other = if_two Silent tt ss _ (λ a b below. (refl, refl))
    told-instruction (instr.AssertFail false) ss other = (refl, refl)
    told-instruction (instr.AssertFail true) ss other = if_one Silent tt ss _ (λ v below. (refl, refl))
    told-instruction instr.Caught ss other = if_exception Silent tt ss _ (λ e below. unmarked-told i.mark _ _ (refl, refl))
    told-instruction instr.EndHandler ss other = if_exception Silent tt ss _ (λ e below. unmarked-told i.mark _ _ (refl, refl))
    told-instruction instr.Rethrow ss other = if_exception Silent tt ss _ (λ e below. unmarked-told i.mark _ _ (refl, refl))
    told-instruction instr.Enter ss other = if_one Silent tt ss _ (λ v below. (refl, refl))
    told-instruction instr.Normal ss other = unmarked-told i.mark _ _ (refl, refl)
    told-instruction instr.Exit ss other = if_completion Silent tt ss _ (λ c below. if_exit Silent tt below _ (λ w under. (refl, refl)))
    told-instruction instr.EndFinally ss other = if_completion Silent tt ss _ (λ c below. let-go-told c below)
    told-instruction (instr.Import t) ss other = (refl, refl)
    told-instruction (instr.ImportName t) ss other = if_one Silent tt ss _ (λ v below. (refl, refl))
    told-instruction instr.RaiseAgain ss other = (refl, refl)
    told-instruction (instr.Next t) ss other = if_iterator Silent tt ss _ (λ v below. (refl, refl))
    told-instruction (instr.JumpIf t) ss other = if_one Silent tt ss _ (λ v below. branches-told (code.is_truth v) _ _ v below)
    told-instruction (instr.JumpUnless t) ss other = if_one Silent tt ss _ (λ v below. branches-told (code.is_truth v) _ _ v below)
    told-instruction (instr.JumpIfKeep t) ss other = if_one Silent tt ss _ (λ v below. branches-told (code.is_truth v) _ _ v below)
    told-instruction (instr.JumpUnlessKeep t) ss other = if_one Silent tt ss _ (λ v below. branches-told (code.is_truth v) _ _ v below)
    told-instruction instr.Match ss other = if_one Silent tt ss _ (λ c below. if_exception Silent tt below _ (λ e under. (refl, refl)))
    told-instruction (instr.Call n) ss other = absurd other
    told-instruction (instr.CallKw n l) ss other = absurd other
    told-instruction (instr.CallSpread n l) ss other = absurd other
    told-instruction (instr.Leave t) ss other = absurd other

    -- a call of what lies below its arguments
    module _ (rs : List Role) (o : Option Value) where
      call-told : (f : Value) (vs : List Value) (below : Slots Value) → first_argument rs vs w ≡ or_missing o
          → Told (calling_first w.heap f (or_missing o)) (gives code i (T.operate (T.call rs) (f ∷ vs)) below)
      call-told f vs below e = (
        ap (λ u. run.calls f u ∷ []) (sym e),
        ap (λ u. Some (record { first = u; is_builtin = is_builtin f w })) e
            ∙ ap (λ b. Some (record { first = or_missing o; is_builtin = b })) (builtin-is f w),
      )

      calls-told : (n : ℕ) (slots : List Held) → first_argument rs (values_in n slots) w ≡ or_missing o
          → Told (calling w.heap n o slots) (values (suc n) [] (slots_view slots) (λ vs below. gives code i (T.operate (T.call rs) vs) below))
      calls-told n slots e =
          if_values_in (Told (calling w.heap n o slots)) tt (suc n) [] slots (λ vs below. gives code i (T.operate (T.call rs) vs) below)
          (λ below. subst (λ vs. Told (calling w.heap n o slots) (gives code i (T.operate (T.call rs) vs) below)) (sym (append-nil (values_in (suc n) slots)))
          (call-told (value_in (slice_get slots n)) (values_in n slots) below e))

    jumps-told : (m : Option ActMark) (t : ℕ) (d : ActNo) (ss : Slots Value)
        → leads (land code i.rows (jump_to t) ss) ≡ d.0
        → Told (record { before = Some (happening.Jumps d); callee = None })
        (unmarked m (land code i.rows (jump_to t) ss) (asks code i (T.leave T.jumping) ss (λ u. land code i.rows (jump_to t) ss)))
    jumps-told None t d ss e = tt
    jumps-told (Some m) t d ss e = (ap (λ k. run.jumps k ∷ []) (sym e), refl)

    foretells : (j : Instr) (slots : List Held) (xs : List Name) (d : ActNo) → HasTexts code j xs
        → LeadsTo code i j slots leads d
        → Told (foretold w.heap j xs slots d) (perform code pc i j (slots_view slots))
    foretells (instr.Call n) slots xs d texts to =
        calls-told (all_positional n) (first_plain n 0 slots) n slots (all-are slots w n)
    foretells (instr.CallKw n l) slots xs d texts to =
        subst (λ ys. Told (calling w.heap n (first_plain n (length xs) slots) slots)
        (values (suc n) [] (slots_view slots) (λ vs below. gives code i (T.operate (T.call (last_named n ys)) vs) below))) texts
        (calls-told (last_named n xs) (first_plain n (length xs) slots) n slots
        (plain-are slots w n (length xs) (map T.named xs) (named-are slots w xs (values_in n slots))))
    foretells (instr.CallSpread n l) slots xs d texts to =
        subst (λ ys. Told (calling w.heap n (first_by w.heap xs n slots) slots)
        (values (suc n) [] (slots_view slots) (λ vs below. gives code i (T.operate (T.call (map role_of ys)) vs) below))) texts
        (calls-told (map role_of xs) (first_by w.heap xs n slots) n slots (roles-are slots w xs n))
    foretells (instr.Leave t) slots xs d texts to = jumps-told i.mark t.0 d (slots_view slots) to
    foretells instr.Nop slots xs d texts to = told-instruction instr.Nop (slots_view slots) tt
    foretells (instr.Const k) slots xs d texts to = told-instruction (instr.Const k) (slots_view slots) tt
    foretells (instr.Local x) slots xs d texts to = told-instruction (instr.Local x) (slots_view slots) tt
    foretells (instr.DelLocal x) slots xs d texts to = told-instruction (instr.DelLocal x) (slots_view slots) tt
    foretells (instr.FreshLocal x) slots xs d texts to = told-instruction (instr.FreshLocal x) (slots_view slots) tt
    foretells (instr.Cell x) slots xs d texts to = told-instruction (instr.Cell x) (slots_view slots) tt
    foretells (instr.DelCell x) slots xs d texts to = told-instruction (instr.DelCell x) (slots_view slots) tt
    foretells (instr.FreshCell x) slots xs d texts to = told-instruction (instr.FreshCell x) (slots_view slots) tt
    foretells (instr.PushCell x) slots xs d texts to = told-instruction (instr.PushCell x) (slots_view slots) tt
    foretells (instr.Global x) slots xs d texts to = told-instruction (instr.Global x) (slots_view slots) tt
    foretells (instr.DelGlobal x) slots xs d texts to = told-instruction (instr.DelGlobal x) (slots_view slots) tt
    foretells (instr.Name x) slots xs d texts to = told-instruction (instr.Name x) (slots_view slots) tt
    foretells (instr.DelName x) slots xs d texts to = told-instruction (instr.DelName x) (slots_view slots) tt
    foretells (instr.SetLocal x) slots xs d texts to = told-instruction (instr.SetLocal x) (slots_view slots) tt
    foretells (instr.SetCell x) slots xs d texts to = told-instruction (instr.SetCell x) (slots_view slots) tt
    foretells (instr.SetGlobal x) slots xs d texts to = told-instruction (instr.SetGlobal x) (slots_view slots) tt
    foretells (instr.SetName x) slots xs d texts to = told-instruction (instr.SetName x) (slots_view slots) tt
    foretells instr.Pop slots xs d texts to = told-instruction instr.Pop (slots_view slots) tt
    foretells instr.Copy slots xs d texts to = told-instruction instr.Copy (slots_view slots) tt
    foretells instr.Copy2 slots xs d texts to = told-instruction instr.Copy2 (slots_view slots) tt
    foretells instr.Swap slots xs d texts to = told-instruction instr.Swap (slots_view slots) tt
    foretells instr.Rot3 slots xs d texts to = told-instruction instr.Rot3 (slots_view slots) tt
    foretells (instr.Attr t) slots xs d texts to = told-instruction (instr.Attr t) (slots_view slots) tt
    foretells (instr.SetAttr t) slots xs d texts to = told-instruction (instr.SetAttr t) (slots_view slots) tt
    foretells (instr.DelAttr t) slots xs d texts to = told-instruction (instr.DelAttr t) (slots_view slots) tt
    foretells instr.Item slots xs d texts to = told-instruction instr.Item (slots_view slots) tt
    foretells instr.SetItem slots xs d texts to = told-instruction instr.SetItem (slots_view slots) tt
    foretells instr.DelItem slots xs d texts to = told-instruction instr.DelItem (slots_view slots) tt
    foretells instr.Slice slots xs d texts to = told-instruction instr.Slice (slots_view slots) tt
    foretells (instr.Unary o) slots xs d texts to = told-instruction (instr.Unary o) (slots_view slots) tt
    foretells instr.Not slots xs d texts to = told-instruction instr.Not (slots_view slots) tt
    foretells (instr.Binary o) slots xs d texts to = told-instruction (instr.Binary o) (slots_view slots) tt
    foretells (instr.InPlace o) slots xs d texts to = told-instruction (instr.InPlace o) (slots_view slots) tt
    foretells (instr.Compare o) slots xs d texts to = told-instruction (instr.Compare o) (slots_view slots) tt
    foretells (instr.Tuple n) slots xs d texts to = told-instruction (instr.Tuple n) (slots_view slots) tt
    foretells (instr.List n) slots xs d texts to = told-instruction (instr.List n) (slots_view slots) tt
    foretells (instr.Set n) slots xs d texts to = told-instruction (instr.Set n) (slots_view slots) tt
    foretells (instr.Join n) slots xs d texts to = told-instruction (instr.Join n) (slots_view slots) tt
    foretells (instr.Dict n) slots xs d texts to = told-instruction (instr.Dict n) (slots_view slots) tt
    foretells (instr.ListAdd n) slots xs d texts to = told-instruction (instr.ListAdd n) (slots_view slots) tt
    foretells (instr.SetAdd n) slots xs d texts to = told-instruction (instr.SetAdd n) (slots_view slots) tt
    foretells (instr.DictAdd n) slots xs d texts to = told-instruction (instr.DictAdd n) (slots_view slots) tt
    foretells (instr.Format c) slots xs d texts to = told-instruction (instr.Format c) (slots_view slots) tt
    foretells instr.TupleJoin slots xs d texts to = told-instruction instr.TupleJoin (slots_view slots) tt
    foretells instr.DictMerge slots xs d texts to = told-instruction instr.DictMerge (slots_view slots) tt
    foretells instr.Super slots xs d texts to = told-instruction instr.Super (slots_view slots) tt
    foretells (instr.Unpack n) slots xs d texts to = told-instruction (instr.Unpack n) (slots_view slots) tt
    foretells (instr.UnpackStar n m) slots xs d texts to = told-instruction (instr.UnpackStar n m) (slots_view slots) tt
    foretells instr.Spread slots xs d texts to = told-instruction instr.Spread (slots_view slots) tt
    foretells instr.SpreadMap slots xs d texts to = told-instruction instr.SpreadMap (slots_view slots) tt
    foretells (instr.MakeFunction b n l) slots xs d texts to = told-instruction (instr.MakeFunction b n l) (slots_view slots) tt
    foretells (instr.MakeClass b) slots xs d texts to = told-instruction (instr.MakeClass b) (slots_view slots) tt
    foretells (instr.MakeGenerator b) slots xs d texts to = told-instruction (instr.MakeGenerator b) (slots_view slots) tt
    foretells instr.Iter slots xs d texts to = told-instruction instr.Iter (slots_view slots) tt
    foretells (instr.Jump t) slots xs d texts to = told-instruction (instr.Jump t) (slots_view slots) tt
    foretells instr.Return slots xs d texts to = told-instruction instr.Return (slots_view slots) tt
    foretells instr.Yield slots xs d texts to = told-instruction instr.Yield (slots_view slots) tt
    foretells instr.Delegate slots xs d texts to = told-instruction instr.Delegate (slots_view slots) tt
    foretells instr.Raise slots xs d texts to = told-instruction instr.Raise (slots_view slots) tt
    foretells instr.RaiseFrom slots xs d texts to = told-instruction instr.RaiseFrom (slots_view slots) tt
    foretells (instr.AssertFail false) slots xs d texts to = told-instruction (instr.AssertFail false) (slots_view slots) tt
    foretells (instr.AssertFail true) slots xs d texts to = told-instruction (instr.AssertFail true) (slots_view slots) tt
    foretells instr.Caught slots xs d texts to = told-instruction instr.Caught (slots_view slots) tt
    foretells instr.EndHandler slots xs d texts to = told-instruction instr.EndHandler (slots_view slots) tt
    foretells instr.Rethrow slots xs d texts to = told-instruction instr.Rethrow (slots_view slots) tt
    foretells instr.Enter slots xs d texts to = told-instruction instr.Enter (slots_view slots) tt
    foretells instr.Normal slots xs d texts to = told-instruction instr.Normal (slots_view slots) tt
    foretells instr.Exit slots xs d texts to = told-instruction instr.Exit (slots_view slots) tt
    foretells instr.EndFinally slots xs d texts to = told-instruction instr.EndFinally (slots_view slots) tt
    foretells (instr.Import t) slots xs d texts to = told-instruction (instr.Import t) (slots_view slots) tt
    foretells (instr.ImportName t) slots xs d texts to = told-instruction (instr.ImportName t) (slots_view slots) tt
    foretells instr.RaiseAgain slots xs d texts to = told-instruction instr.RaiseAgain (slots_view slots) tt
    foretells (instr.Next t) slots xs d texts to = told-instruction (instr.Next t) (slots_view slots) tt
    foretells (instr.JumpIf t) slots xs d texts to = told-instruction (instr.JumpIf t) (slots_view slots) tt
    foretells (instr.JumpUnless t) slots xs d texts to = told-instruction (instr.JumpUnless t) (slots_view slots) tt
    foretells (instr.JumpIfKeep t) slots xs d texts to = told-instruction (instr.JumpIfKeep t) (slots_view slots) tt
    foretells (instr.JumpUnlessKeep t) slots xs d texts to = told-instruction (instr.JumpUnlessKeep t) (slots_view slots) tt
    foretells instr.Match slots xs d texts to = told-instruction instr.Match (slots_view slots) tt

pub are_foretold : (program : Program) → AreForetold program
are_foretold program code no_calls pc i slots xs texts leads d to w =
    foretells program w leads code no_calls pc i i.instr slots xs d texts to
