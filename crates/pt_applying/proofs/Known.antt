-- What is known of asks by their instructions is told of them.
use Rattle.std.proofs.Common.{◌≡◌, ◌∙◌, ℕ, ◌+◌, zero, suc, Bool, true, false, List, [], ◌∷◌, Option, Some, None, map, refl, sym, ap, subst}
use Rattle.std.specs.Prelude.{slice_get}
use Rattle.pt_base.specs.declared.numbers.ActNo.{ActNo}
use Rattle.pt_ranges.specs.declared.lines.ActMark.{ActMark}
use Rattle.pt_tree.specs.declared.expression.Constant.{Constant}
use Rattle.pt_instr.specs.declared.Instr.{Instr}
use Rattle.pt_instr.specs.declared.Instr.TheVariants as instr
use Rattle.pt_heap.specs.declared.value.Value.{Value}
use Rattle.pt_heap.specs.declared.value.Value.TheVariants as val
use Rattle.pt_frames.specs.declared.slot.Slot.{Slot as Held}
use Rattle.pt_frames.specs.declared.slot.Slot.TheVariants as slot
use Rattle.pt_code.specs.View.{Ins}
use Rattle.sem_control.specs.control.Turn as T
use Rattle.sem_control.specs.control.Turn.{Answer, Role, Turn, got, stuck}
use Rattle.sem_control.specs.control.Events as E
use Rattle.sem_code.specs.slots.Slots.{raise, return, jump_to, Completion, normal, by, Slot, value, cell, iterator, exception, pending, exit, Slots, State, on}
use Rattle.sem_code.specs.slots.CodeObject.{CodeObject}
use Rattle.sem_code.specs.slots.Pops.{Next, values, cells, one, two, three, an_iterator, movable, an_exception, a_completion, an_exit, the_value}
use Rattle.sem_code.specs.slots.Steps.{unmarked, known, gives, gives_known, branches, lets_go}
use Rattle.sem_code.specs.slots.Instructions.{all_positional, last_named, role_of, perform}
use Rattle.law_doing.specs.pt_machine_state.pt_code_facts.sem_rows.heap_rows.Leads.{HasHeapTruths}
use Rattle.law_doing.specs.pt_machine_state.pt_code_facts.sem_rows.heap_rows.Views.{slots_view}
use Rattle.law_doing.specs.pt_machine_state.pt_code_facts.sem_rows.declared.heap_rows.progress.Progress.{Progress}
use Rattle.law_doing.specs.pt_machine_state.pt_code_facts.sem_rows.declared.heap_rows.progress.Progress.TheVariants as progress
use Rattle.law_doing.specs.pt_answering.pt_opening.pt_purposes.Asks.{told_by_control}
use Rattle.law_doing.specs.pt_answering.pt_opening.pt_purposes.declared.purpose.Called.{Called}
use Rattle.law_doing.specs.pt_answering.pt_replying.declared.replying.Decided.{Decided}
use Rattle.law_doing.specs.pt_answering.pt_replying.declared.replying.Decided.TheVariants as decided
use Rattle.law_doing.specs.pt_answering.pt_replying.Replying.{decided_events}
use Rattle.pt_pendings.specs.declared.reply.Callee.{Callee}
use Rattle.law_doing.specs.pt_answering.declared.answering.Asked.{Asked}
use Rattle.law_doing.specs.pt_answering.Laws.{IfGiven}
use Rattle.pt_applying.specs.Known.{CalledSo, HasSilentExtras, value_at, call_of, known_call, tested_in, handled_by, is_decision, known_decision}
use Rattle.pt_applying.specs.Acting.{IfCalls}
use Rattle.pt_applying.proofs.AsksTold.{TellsTurn}

-- what holds of a stuck turn and of what goes on, whatever is popped, holds of popping
module _ (P : Turn (State Value) Value → Type 0) (p : P stuck) where
  if_one : (ss : Slots Value) (next : Next Value Value) → ((v : Value) (below : Slots Value) → P (next v below)) → P (one ss next)
  if_one (value v ∷ ss) next f = f v ss
  if_one ss next f = p

  if_two : (ss : Slots Value) (next : Value → Next Value Value) → ((a b : Value) (below : Slots Value) → P (next a b below)) → P (two ss next)
  if_two (value b ∷ value a ∷ ss) next f = f a b ss
  if_two ss next f = p

  if_three : (ss : Slots Value) (next : Value → Value → Next Value Value) → ((a b c : Value) (below : Slots Value) → P (next a b c below)) → P (three ss next)
  if_three (value c ∷ value b ∷ value a ∷ ss) next f = f a b c ss
  if_three ss next f = p

  if_values : (n : ℕ) (above : List Value) (ss : Slots Value) (next : Next Value (List Value)) → ((vs : List Value) (below : Slots Value) → P (next vs below)) → P (values n above ss next)
  if_values zero above ss next f = f above ss
  if_values (suc n) above (value v ∷ ss) next f = if_values n (v ∷ above) ss next f
  if_values (suc n) above ss next f = p

  if_cells : (n : ℕ) (above : List Value) (ss : Slots Value) (next : Next Value (List Value)) → ((vs : List Value) (below : Slots Value) → P (next vs below)) → P (cells n above ss next)
  if_cells zero above ss next f = f above ss
  if_cells (suc n) above (cell v ∷ ss) next f = if_cells n (v ∷ above) ss next f
  if_cells (suc n) above ss next f = p

  if_iterator : (ss : Slots Value) (next : Next Value Value) → ((v : Value) (below : Slots Value) → P (next v below)) → P (an_iterator ss next)
  if_iterator (iterator v ∷ ss) next f = f v ss
  if_iterator ss next f = p

  if_movable : (ss : Slots Value) (next : Next Value (Slot Value)) → ((s : Slot Value) (below : Slots Value) → P (next s below)) → P (movable ss next)
  if_movable (value v ∷ ss) next f = f (value v) ss
  if_movable (iterator v ∷ ss) next f = f (iterator v) ss
  if_movable ss next f = p

  if_exception : (ss : Slots Value) (next : Next Value Value) → ((v : Value) (below : Slots Value) → P (next v below)) → P (an_exception ss next)
  if_exception (exception v ∷ ss) next f = f v ss
  if_exception ss next f = p

  if_completion : (ss : Slots Value) (next : Next Value (Completion Value)) → ((c : Completion Value) (below : Slots Value) → P (next c below)) → P (a_completion ss next)
  if_completion (pending c ∷ ss) next f = f c ss
  if_completion ss next f = p

  if_exit : (ss : Slots Value) (next : Next Value Value) → ((v : Value) (below : Slots Value) → P (next v below)) → P (an_exit ss next)
  if_exit (exit v ∷ ss) next f = f v ss
  if_exit ss next f = p

  if_value_below : (n : ℕ) (ss : Slots Value) (next : Value → Turn (State Value) Value) → ((v : Value) → P (next v)) → P (the_value n ss next)
  if_value_below zero ss next f = p
  if_value_below (suc zero) [] next f = p
  if_value_below (suc (suc n)) [] next f = p
  if_value_below (suc zero) (value v ∷ ss) next f = f v
  if_value_below (suc zero) (s ∷ ss) next f = p
  if_value_below (suc (suc n)) (s ∷ ss) next f = if_value_below (suc n) ss next f

pub if-calls : {A B : Type 0} (p : Progress) → (A → B) → IfCalls p A → IfCalls p B
if-calls (progress.Calls b hidden ls why) f a = f a
if-calls progress.Next f a = tt
if-calls (progress.Goto pc) f a = tt
if-calls (progress.Leaves how) f a = tt
if-calls (progress.Reraises e) f a = tt
if-calls (progress.Print t) f a = tt
if-calls (progress.Raises e) f a = tt
if-calls progress.RaisesAgain f a = tt
if-calls (progress.Fails c x) f a = tt
if-calls (progress.FailsSaying c t) f a = tt
if-calls (progress.Outside what) f a = tt
if-calls progress.Lacks f a = tt

pub map-given : {A B : Type 0} (p : Progress) → (A → B) → IfGiven p A → IfGiven p B
map-given (progress.Calls b hidden ls why) f a = tt
map-given progress.Next f a = f a
map-given (progress.Goto pc) f a = f a
map-given (progress.Leaves how) f a = f a
map-given (progress.Reraises e) f a = f a
map-given (progress.Print t) f a = f a
map-given (progress.Raises e) f a = tt
map-given progress.RaisesAgain f a = tt
map-given (progress.Fails c x) f a = tt
map-given (progress.FailsSaying c t) f a = tt
map-given (progress.Outside what) f a = tt
map-given progress.Lacks f a = tt

pub if-given : {A : Type 0} (p : Progress) → A → IfGiven p A
if-given (progress.Calls b hidden ls why) a = tt
if-given progress.Next a = a
if-given (progress.Goto pc) a = a
if-given (progress.Leaves how) a = a
if-given (progress.Reraises e) a = a
if-given (progress.Print t) a = a
if-given (progress.Raises e) a = tt
if-given progress.RaisesAgain a = tt
if-given (progress.Fails c x) a = tt
if-given (progress.FailsSaying c t) a = tt
if-given (progress.Outside what) a = tt
if-given progress.Lacks a = tt

-- calls and decisions apart
abbrev IsSilent : Instr → Type 0
IsSilent (instr.Call n) = ⊥
IsSilent (instr.CallKw n l) = ⊥
IsSilent (instr.CallSpread n l) = ⊥
IsSilent (instr.Next t) = ⊥
IsSilent (instr.JumpIf t) = ⊥
IsSilent (instr.JumpUnless t) = ⊥
IsSilent (instr.JumpIfKeep t) = ⊥
IsSilent (instr.JumpUnlessKeep t) = ⊥
IsSilent instr.Match = ⊥
IsSilent j = Unit {0}

-- this is called, if anything is, and this is decided with each answer
abbrev Knows : Option Callee → Option Called → List (E.Event Value) → Turn (State Value) Value → Type 0
Knows callee called es (T.act m a k) = CalledSo a callee called × ((x : Answer Value a) → E.answered a x ≡ es)
Knows callee called es t = Unit {0}

module _ (callee : Option Callee) where
  abbrev Silently : Turn (State Value) Value → Type 0
  Silently t = Knows callee None [] t

  abbrev Branching : Turn (State Value) Value → Type 0
  Branching t = Knows callee None (E.branches ∷ []) t

  unmarked_silent : (m : Option ActMark) (s : State Value) (t : Turn (State Value) Value) → Silently t → Silently (unmarked m s t)
  unmarked_silent None s t p = tt
  unmarked_silent (Some m) s t p = p

  unmarked_branching : (m : Option ActMark) (s : State Value) (t : Turn (State Value) Value) → Branching t → Branching (unmarked m s t)
  unmarked_branching None s t p = tt
  unmarked_branching (Some m) s t p = p

  module _ (code : CodeObject Value) (extras : HasSilentExtras code) (pc : ℕ) (i : Ins) where
    known_silent : (k : Constant) (o : Option Value) (ss : Slots Value) → Silently (gives_known code i k o ss)
    known_silent k None ss = (refl, λ x. refl)
    known_silent k (Some v) ss = unmarked_silent i.mark _ _ (refl, λ x. refl)

    let_go_silent : (c : Completion Value) (ss : Slots Value) → Silently (lets_go code i c ss)
    let_go_silent normal ss = unmarked_silent i.mark _ _ (refl, λ x. refl)
    let_go_silent (by (raise v)) ss = unmarked_silent i.mark _ _ (refl, λ x. refl)
    let_go_silent (by (return v)) ss = unmarked_silent i.mark _ _ (refl, λ x. refl)
    let_go_silent (by (jump_to t)) ss = unmarked_silent i.mark _ _ (refl, λ x. refl)

    silent_instruction : (j : Instr) (ss : Slots Value) → IsSilent j → Silently (perform code pc i j ss)
    silent_instruction instr.Nop ss other = unmarked_silent i.mark _ _ (refl, λ x. refl)
    silent_instruction (instr.Const k) ss other = known_silent (code.pool.constant k.0) (known code (code.pool.constant k.0)) ss
    silent_instruction (instr.Local x) ss other = (refl, λ x. refl)
    silent_instruction (instr.DelLocal x) ss other = (refl, λ x. refl)
    silent_instruction (instr.FreshLocal x) ss other = (refl, λ x. refl)
    silent_instruction (instr.Cell x) ss other = (refl, λ x. refl)
    silent_instruction (instr.DelCell x) ss other = (refl, λ x. refl)
    silent_instruction (instr.FreshCell x) ss other = (refl, λ x. refl)
    silent_instruction (instr.PushCell x) ss other = (refl, λ x. refl)
    silent_instruction (instr.Global x) ss other = (refl, λ x. refl)
    silent_instruction (instr.DelGlobal x) ss other = (refl, λ x. refl)
    silent_instruction (instr.Name x) ss other = (refl, λ x. refl)
    silent_instruction (instr.DelName x) ss other = (refl, λ x. refl)
    silent_instruction (instr.SetLocal x) ss other = if_one Silently tt ss _ (λ v below. (refl, λ x. refl))
    silent_instruction (instr.SetCell x) ss other = if_one Silently tt ss _ (λ v below. (refl, λ x. refl))
    silent_instruction (instr.SetGlobal x) ss other = if_one Silently tt ss _ (λ v below. (refl, λ x. refl))
    silent_instruction (instr.SetName x) ss other = if_one Silently tt ss _ (λ v below. (refl, λ x. refl))
    silent_instruction instr.Pop ss other = if_one Silently tt ss _ (λ v below. unmarked_silent i.mark _ _ (refl, λ x. refl))
    silent_instruction instr.Copy ss other = if_one Silently tt ss _ (λ v below. unmarked_silent i.mark _ _ (refl, λ x. refl))
    silent_instruction instr.Copy2 ss other = if_two Silently tt ss _ (λ a b below. unmarked_silent i.mark _ _ (refl, λ x. refl))
    silent_instruction instr.Swap ss other = if_one Silently tt ss _ (λ v below. if_movable Silently tt below _ (λ s under. unmarked_silent i.mark _ _ (refl, λ x. refl)))
    silent_instruction instr.Rot3 ss other = if_three Silently tt ss _ (λ a b c below. unmarked_silent i.mark _ _ (refl, λ x. refl))
    silent_instruction (instr.Attr t) ss other = if_values Silently tt 1 [] ss _ (λ vs below. (refl, λ x. refl))
    silent_instruction (instr.SetAttr t) ss other = if_two Silently tt ss _ (λ a b below. (refl, λ x. refl))
    silent_instruction (instr.DelAttr t) ss other = if_one Silently tt ss _ (λ v below. (refl, λ x. refl))
    silent_instruction instr.Item ss other = if_values Silently tt 2 [] ss _ (λ vs below. (refl, λ x. refl))
    silent_instruction instr.SetItem ss other = if_three Silently tt ss _ (λ a b c below. (refl, λ x. refl))
    silent_instruction instr.DelItem ss other = if_two Silently tt ss _ (λ a b below. (refl, λ x. refl))
    silent_instruction instr.Slice ss other = if_values Silently tt 3 [] ss _ (λ vs below. (refl, λ x. refl))
    silent_instruction (instr.Unary o) ss other = if_values Silently tt 1 [] ss _ (λ vs below. (refl, λ x. refl))
    silent_instruction instr.Not ss other = if_values Silently tt 1 [] ss _ (λ vs below. (refl, λ x. refl))
    silent_instruction (instr.Binary o) ss other = if_values Silently tt 2 [] ss _ (λ vs below. (refl, λ x. refl))
    silent_instruction (instr.InPlace o) ss other = if_values Silently tt 2 [] ss _ (λ vs below. (refl, λ x. refl))
    silent_instruction (instr.Compare o) ss other = if_values Silently tt 2 [] ss _ (λ vs below. (refl, λ x. refl))
    silent_instruction (instr.Tuple n) ss other = if_values Silently tt n [] ss _ (λ vs below. (refl, λ x. refl))
    silent_instruction (instr.List n) ss other = if_values Silently tt n [] ss _ (λ vs below. (refl, λ x. refl))
    silent_instruction (instr.Set n) ss other = if_values Silently tt n [] ss _ (λ vs below. (refl, λ x. refl))
    silent_instruction (instr.Join n) ss other = if_values Silently tt n [] ss _ (λ vs below. (refl, λ x. refl))
    silent_instruction (instr.Dict n) ss other = if_values Silently tt (n + n) [] ss _ (λ vs below. (refl, λ x. refl))
    silent_instruction (instr.ListAdd n) ss other = if_one Silently tt ss _ (λ v below. if_value_below Silently tt n below _ (λ m. (refl, λ x. refl)))
    silent_instruction (instr.SetAdd n) ss other = if_one Silently tt ss _ (λ v below. if_value_below Silently tt n below _ (λ m. (refl, λ x. refl)))
    silent_instruction (instr.DictAdd n) ss other = if_two Silently tt ss _ (λ k v below. if_value_below Silently tt n below _ (λ m. (refl, λ x. refl)))
    silent_instruction (instr.Format c) ss other = if_values Silently tt 2 [] ss _ (λ vs below. (refl, λ x. refl))
    silent_instruction instr.TupleJoin ss other = if_values Silently tt 2 [] ss _ (λ vs below. (extras.tuple_join callee vs, λ x. refl))
    silent_instruction instr.DictMerge ss other = if_values Silently tt 2 [] ss _ (λ vs below. (extras.dict_merge callee vs, λ x. refl))
    silent_instruction instr.Super ss other = if_values Silently tt 2 [] ss _ (λ vs below. (extras.super callee vs, λ x. refl))
    silent_instruction (instr.Unpack n) ss other = if_one Silently tt ss _ (λ v below. (refl, λ x. refl))
    silent_instruction (instr.UnpackStar n m) ss other = if_one Silently tt ss _ (λ v below. (refl, λ x. refl))
    silent_instruction instr.Spread ss other = if_values Silently tt 1 [] ss _ (λ vs below. (refl, λ x. refl))
    silent_instruction instr.SpreadMap ss other = if_values Silently tt 1 [] ss _ (λ vs below. (refl, λ x. refl))
    silent_instruction (instr.MakeFunction b n l) ss other = if_cells Silently tt (code.pool.captures b.0) [] ss _ (λ cs below. if_values Silently tt n cs below _ (λ vs under. (refl, λ x. refl)))
    silent_instruction (instr.MakeClass b) ss other = if_cells Silently tt (code.pool.captures b.0) [] ss _ (λ cs below. if_one Silently tt below _ (λ v under. (refl, λ x. refl)))
    silent_instruction (instr.MakeGenerator b) ss other = if_cells Silently tt (code.pool.captures b.0) [] ss _ (λ cs below. if_iterator Silently tt below _ (λ v under. (refl, λ x. refl)))
    silent_instruction instr.Iter ss other = if_one Silently tt ss _ (λ v below. (refl, λ x. refl))
    silent_instruction (instr.Jump t) ss other = unmarked_silent i.mark _ _ (refl, λ x. refl)
    silent_instruction instr.Return ss other = if_one Silently tt ss _ (λ v below. unmarked_silent i.mark _ _ (refl, λ x. refl))
    silent_instruction instr.Yield ss other = if_one Silently tt ss _ (λ v below. (refl, λ x. refl))
    silent_instruction instr.Delegate ss other = if_one Silently tt ss _ (λ v below. if_iterator Silently tt below _ (λ it under. (refl, λ x. refl)))
    silent_instruction instr.Raise ss other = if_one Silently tt ss _ (λ v below. (refl, λ x. refl))
    silent_instruction instr.RaiseFrom ss other = if_two Silently tt ss _ (λ a b below. (refl, λ x. refl))
    silent_instruction (instr.AssertFail false) ss other = (refl, λ x. refl)
    silent_instruction (instr.AssertFail true) ss other = if_one Silently tt ss _ (λ v below. (refl, λ x. refl))
    silent_instruction (instr.Leave t) ss other = unmarked_silent i.mark _ _ (refl, λ x. refl)
    silent_instruction instr.Caught ss other = if_exception Silently tt ss _ (λ e below. unmarked_silent i.mark _ _ (refl, λ x. refl))
    silent_instruction instr.EndHandler ss other = if_exception Silently tt ss _ (λ e below. unmarked_silent i.mark _ _ (refl, λ x. refl))
    silent_instruction instr.Rethrow ss other = if_exception Silently tt ss _ (λ e below. unmarked_silent i.mark _ _ (refl, λ x. refl))
    silent_instruction instr.Enter ss other = if_one Silently tt ss _ (λ v below. (refl, λ x. refl))
    silent_instruction instr.Normal ss other = unmarked_silent i.mark _ _ (refl, λ x. refl)
    silent_instruction instr.Exit ss other = if_completion Silently tt ss _ (λ c below. if_exit Silently tt below _ (λ w under. (refl, λ x. refl)))
    silent_instruction instr.EndFinally ss other = if_completion Silently tt ss _ (λ c below. let_go_silent c below)
    silent_instruction (instr.Import t) ss other = (refl, λ x. refl)
    silent_instruction (instr.ImportName t) ss other = if_one Silently tt ss _ (λ v below. (refl, λ x. refl))
    silent_instruction instr.RaiseAgain ss other = (refl, λ x. refl)
    silent_instruction (instr.Call n) ss other = absurd other
    silent_instruction (instr.CallKw n l) ss other = absurd other
    silent_instruction (instr.CallSpread n l) ss other = absurd other
    silent_instruction (instr.Next t) ss other = absurd other
    silent_instruction (instr.JumpIf t) ss other = absurd other
    silent_instruction (instr.JumpUnless t) ss other = absurd other
    silent_instruction (instr.JumpIfKeep t) ss other = absurd other
    silent_instruction (instr.JumpUnlessKeep t) ss other = absurd other
    silent_instruction instr.Match ss other = absurd other

    branches_told : (o : Option Bool) (t f : Value → Slots Value → State Value) (v : Value) (ss : Slots Value) → Branching (branches code i o t f v ss)
    branches_told None t f v ss = (refl, λ x. refl)
    branches_told (Some b) t f v ss = unmarked_branching i.mark _ _ (refl, λ x. refl)

    -- what is called lies below its arguments
    called_values : (rs : List Role) (n : ℕ) (above : List Value) (old : List Held)
        → Knows callee (call_of (value_at (slice_get old n)) callee) []
        (values (suc n) above (slots_view old) (λ vs below. gives code i (T.operate (T.call rs) vs) below))
    called_values rs zero above (slot.Value v ∷ old) = (refl, λ x. refl)
    called_values rs (suc n) above (slot.Value v ∷ old) = called_values rs n (v ∷ above) old
    called_values rs n above [] = tt
    called_values rs n above (slot.Cell c ∷ old) = tt
    called_values rs n above (slot.Iter v ∷ old) = tt
    called_values rs n above (slot.Exc v ∷ old) = tt
    called_values rs n above (slot.Pending c ∷ old) = tt
    called_values rs n above (slot.With v ∷ old) = tt

    -- what is told where this is known
    module _ (decides : Bool) (there : State Value) (p : Progress) (d : Asked) where
      abbrev Tells : Turn (State Value) Value → Type 0
      Tells t = TellsTurn callee decides there p d t

      abbrev Plain : Instr → Bool → Type 0
      Plain j b = IfCalls p ((decides ≡ b) × (j ≡ instr.Match → ⊥))

      knows : (called : Option Called) (o : Decided) (b : Bool) (j : Instr) (t : Turn (State Value) Value)
          → ((A : Type 0) (x : A) → told_by_control b (got x) ≡ decided_events o)
          → Knows callee called (decided_events o) t → d.called ≡ called → d.decided ≡ o → Plain j b → Tells t
      knows called o b j (T.act m a k) same is c e plain = (
        subst (λ x. CalledSo a callee x) (sym c) is.0,
        (
          if-given p (λ x there_is. is.1 x ∙ ap decided_events (sym e)),
          if-calls p (λ f x. is.1 x ∙ sym (same (Answer Value a) x) ∙ ap (λ y. told_by_control y (got x)) (sym f.0)) plain,
        ),
      )
      knows called o b j (T.note a k) same is c e plain = tt
      knows called o b j (T.move s) same is c e plain = tt
      knows called o b j (T.over x) same is c e plain = tt
      knows called o b j T.stuck same is c e plain = tt

      silent : (j : Instr) (t : Turn (State Value) Value) → Silently t → d.called ≡ None → d.decided ≡ decided.Nothing → Plain j false → Tells t
      silent j t is c e plain = knows None decided.Nothing false j t (λ A x. refl) is c e plain

      branching : (k : ActNo) (j : Instr) (t : Turn (State Value) Value) → Branching t → d.called ≡ None → d.decided ≡ decided.Branches k → Plain j true → Tells t
      branching k j t is c e plain = knows None (decided.Branches k) true j t (λ A x. refl) is c e plain

      calling : (called : Option Called) (j : Instr) (t : Turn (State Value) Value) → Knows callee called [] t → d.called ≡ called → d.decided ≡ decided.Nothing → Plain j false → Tells t
      calling called j t is c e plain = knows called decided.Nothing false j t (λ A x. refl) is c e plain

      abbrev top : State Value → Option (Slot Value)
      top (on q (s ∷ ss)) = Some s
      top c = None

      abbrev value_in : Value → Option (Slot Value) → Value
      value_in w (Some (value v)) = v
      value_in w o = w

      -- a handler's test gives its truth
      handles : HasHeapTruths code → (q : ℕ) (c e : Value) (old new : List Held) (b : Bool)
          → on i.next (value (code.truth b) ∷ exception e ∷ slots_view old) ≡ on q (slots_view new)
          → E.answered {V = Value} (T.test (T.matches e c)) b ≡ decided_events (handled_by (Some e) (slice_get new 0))
      handles truths q c e old (slot.Value v ∷ new) b same =
          let is : val.Bool b ≡ v = sym (truths.truth b) ∙ ap (λ s. value_in (val.Bool b) (top s)) same in
          by b ∙ ap (λ u. decided_events (handled_by (Some e) (Some (slot.Value u)))) is
        where
          by : (x : Bool) → E.answered {V = Value} (T.test (T.matches e c)) x
              ≡ decided_events (handled_by (Some e) (Some (slot.Value (val.Bool x))))
          by true = refl
          by false = refl
      handles truths q c e old [] b same = absurd cc
      handles truths q c e old (slot.Cell k ∷ new) b same = absurd cc
      handles truths q c e old (slot.Iter k ∷ new) b same = absurd cc
      handles truths q c e old (slot.Exc k ∷ new) b same = absurd cc
      handles truths q c e old (slot.Pending k ∷ new) b same = absurd cc
      handles truths q c e old (slot.With k ∷ new) b same = absurd cc

      match_tells : HasHeapTruths code → (old new : List Held) → d.called ≡ None → d.decided ≡ handled_by (tested_in old) (slice_get new 0)
          → Plain instr.Match false → IfGiven p ((q : ℕ) × (there ≡ on q (slots_view new)))
          → Tells (perform code pc i instr.Match (slots_view old))
      match_tells truths (slot.Value c ∷ slot.Exc e ∷ old) new called is plain lies = (
        called,
        (
          map-given p (λ there_is b same. handles truths there_is.0 c e old new b (same ∙ there_is.1) ∙ ap decided_events (sym is)) lies,
          if-calls p (λ f. absurd (f.1 refl)) plain,
        ),
      )
      match_tells truths (slot.Cell x ∷ old) new called is plain lies = tt
      match_tells truths (slot.Iter x ∷ old) new called is plain lies = tt
      match_tells truths (slot.Exc x ∷ old) new called is plain lies = tt
      match_tells truths (slot.Pending x ∷ old) new called is plain lies = tt
      match_tells truths (slot.With x ∷ old) new called is plain lies = tt
      match_tells truths [] new called is plain lies = tt
      match_tells truths (slot.Value c ∷ []) new called is plain lies = tt
      match_tells truths (slot.Value c ∷ slot.Value x ∷ old) new called is plain lies = tt
      match_tells truths (slot.Value c ∷ slot.Cell x ∷ old) new called is plain lies = tt
      match_tells truths (slot.Value c ∷ slot.Iter x ∷ old) new called is plain lies = tt
      match_tells truths (slot.Value c ∷ slot.Pending x ∷ old) new called is plain lies = tt
      match_tells truths (slot.Value c ∷ slot.With x ∷ old) new called is plain lies = tt

      pub tells_instruction : HasHeapTruths code → (j : Instr) (old new : List Held) (k : ActNo)
          → d.called ≡ known_call j old callee → d.decided ≡ known_decision j old new k
          → Plain j (is_decision j)
          → (j ≡ instr.Match → IfGiven p ((q : ℕ) × (there ≡ on q (slots_view new))))
          → Tells (perform code pc i j (slots_view old))
      tells_instruction truths instr.Nop old new act known e plain lies = silent instr.Nop (perform code pc i instr.Nop (slots_view old)) (silent_instruction instr.Nop (slots_view old) tt) known e plain
      tells_instruction truths (instr.Const k) old new act known e plain lies = silent (instr.Const k) (perform code pc i (instr.Const k) (slots_view old)) (silent_instruction (instr.Const k) (slots_view old) tt) known e plain
      tells_instruction truths (instr.Local x) old new act known e plain lies = silent (instr.Local x) (perform code pc i (instr.Local x) (slots_view old)) (silent_instruction (instr.Local x) (slots_view old) tt) known e plain
      tells_instruction truths (instr.DelLocal x) old new act known e plain lies = silent (instr.DelLocal x) (perform code pc i (instr.DelLocal x) (slots_view old)) (silent_instruction (instr.DelLocal x) (slots_view old) tt) known e plain
      tells_instruction truths (instr.FreshLocal x) old new act known e plain lies = silent (instr.FreshLocal x) (perform code pc i (instr.FreshLocal x) (slots_view old)) (silent_instruction (instr.FreshLocal x) (slots_view old) tt) known e plain
      tells_instruction truths (instr.Cell x) old new act known e plain lies = silent (instr.Cell x) (perform code pc i (instr.Cell x) (slots_view old)) (silent_instruction (instr.Cell x) (slots_view old) tt) known e plain
      tells_instruction truths (instr.DelCell x) old new act known e plain lies = silent (instr.DelCell x) (perform code pc i (instr.DelCell x) (slots_view old)) (silent_instruction (instr.DelCell x) (slots_view old) tt) known e plain
      tells_instruction truths (instr.FreshCell x) old new act known e plain lies = silent (instr.FreshCell x) (perform code pc i (instr.FreshCell x) (slots_view old)) (silent_instruction (instr.FreshCell x) (slots_view old) tt) known e plain
      tells_instruction truths (instr.PushCell x) old new act known e plain lies = silent (instr.PushCell x) (perform code pc i (instr.PushCell x) (slots_view old)) (silent_instruction (instr.PushCell x) (slots_view old) tt) known e plain
      tells_instruction truths (instr.Global x) old new act known e plain lies = silent (instr.Global x) (perform code pc i (instr.Global x) (slots_view old)) (silent_instruction (instr.Global x) (slots_view old) tt) known e plain
      tells_instruction truths (instr.DelGlobal x) old new act known e plain lies = silent (instr.DelGlobal x) (perform code pc i (instr.DelGlobal x) (slots_view old)) (silent_instruction (instr.DelGlobal x) (slots_view old) tt) known e plain
      tells_instruction truths (instr.Name x) old new act known e plain lies = silent (instr.Name x) (perform code pc i (instr.Name x) (slots_view old)) (silent_instruction (instr.Name x) (slots_view old) tt) known e plain
      tells_instruction truths (instr.DelName x) old new act known e plain lies = silent (instr.DelName x) (perform code pc i (instr.DelName x) (slots_view old)) (silent_instruction (instr.DelName x) (slots_view old) tt) known e plain
      tells_instruction truths (instr.SetLocal x) old new act known e plain lies = silent (instr.SetLocal x) (perform code pc i (instr.SetLocal x) (slots_view old)) (silent_instruction (instr.SetLocal x) (slots_view old) tt) known e plain
      tells_instruction truths (instr.SetCell x) old new act known e plain lies = silent (instr.SetCell x) (perform code pc i (instr.SetCell x) (slots_view old)) (silent_instruction (instr.SetCell x) (slots_view old) tt) known e plain
      tells_instruction truths (instr.SetGlobal x) old new act known e plain lies = silent (instr.SetGlobal x) (perform code pc i (instr.SetGlobal x) (slots_view old)) (silent_instruction (instr.SetGlobal x) (slots_view old) tt) known e plain
      tells_instruction truths (instr.SetName x) old new act known e plain lies = silent (instr.SetName x) (perform code pc i (instr.SetName x) (slots_view old)) (silent_instruction (instr.SetName x) (slots_view old) tt) known e plain
      tells_instruction truths instr.Pop old new act known e plain lies = silent instr.Pop (perform code pc i instr.Pop (slots_view old)) (silent_instruction instr.Pop (slots_view old) tt) known e plain
      tells_instruction truths instr.Copy old new act known e plain lies = silent instr.Copy (perform code pc i instr.Copy (slots_view old)) (silent_instruction instr.Copy (slots_view old) tt) known e plain
      tells_instruction truths instr.Copy2 old new act known e plain lies = silent instr.Copy2 (perform code pc i instr.Copy2 (slots_view old)) (silent_instruction instr.Copy2 (slots_view old) tt) known e plain
      tells_instruction truths instr.Swap old new act known e plain lies = silent instr.Swap (perform code pc i instr.Swap (slots_view old)) (silent_instruction instr.Swap (slots_view old) tt) known e plain
      tells_instruction truths instr.Rot3 old new act known e plain lies = silent instr.Rot3 (perform code pc i instr.Rot3 (slots_view old)) (silent_instruction instr.Rot3 (slots_view old) tt) known e plain
      tells_instruction truths (instr.Attr t) old new act known e plain lies = silent (instr.Attr t) (perform code pc i (instr.Attr t) (slots_view old)) (silent_instruction (instr.Attr t) (slots_view old) tt) known e plain
      tells_instruction truths (instr.SetAttr t) old new act known e plain lies = silent (instr.SetAttr t) (perform code pc i (instr.SetAttr t) (slots_view old)) (silent_instruction (instr.SetAttr t) (slots_view old) tt) known e plain
      tells_instruction truths (instr.DelAttr t) old new act known e plain lies = silent (instr.DelAttr t) (perform code pc i (instr.DelAttr t) (slots_view old)) (silent_instruction (instr.DelAttr t) (slots_view old) tt) known e plain
      tells_instruction truths instr.Item old new act known e plain lies = silent instr.Item (perform code pc i instr.Item (slots_view old)) (silent_instruction instr.Item (slots_view old) tt) known e plain
      tells_instruction truths instr.SetItem old new act known e plain lies = silent instr.SetItem (perform code pc i instr.SetItem (slots_view old)) (silent_instruction instr.SetItem (slots_view old) tt) known e plain
      tells_instruction truths instr.DelItem old new act known e plain lies = silent instr.DelItem (perform code pc i instr.DelItem (slots_view old)) (silent_instruction instr.DelItem (slots_view old) tt) known e plain
      tells_instruction truths instr.Slice old new act known e plain lies = silent instr.Slice (perform code pc i instr.Slice (slots_view old)) (silent_instruction instr.Slice (slots_view old) tt) known e plain
      tells_instruction truths (instr.Unary o) old new act known e plain lies = silent (instr.Unary o) (perform code pc i (instr.Unary o) (slots_view old)) (silent_instruction (instr.Unary o) (slots_view old) tt) known e plain
      tells_instruction truths instr.Not old new act known e plain lies = silent instr.Not (perform code pc i instr.Not (slots_view old)) (silent_instruction instr.Not (slots_view old) tt) known e plain
      tells_instruction truths (instr.Binary o) old new act known e plain lies = silent (instr.Binary o) (perform code pc i (instr.Binary o) (slots_view old)) (silent_instruction (instr.Binary o) (slots_view old) tt) known e plain
      tells_instruction truths (instr.InPlace o) old new act known e plain lies = silent (instr.InPlace o) (perform code pc i (instr.InPlace o) (slots_view old)) (silent_instruction (instr.InPlace o) (slots_view old) tt) known e plain
      tells_instruction truths (instr.Compare o) old new act known e plain lies = silent (instr.Compare o) (perform code pc i (instr.Compare o) (slots_view old)) (silent_instruction (instr.Compare o) (slots_view old) tt) known e plain
      tells_instruction truths (instr.Tuple n) old new act known e plain lies = silent (instr.Tuple n) (perform code pc i (instr.Tuple n) (slots_view old)) (silent_instruction (instr.Tuple n) (slots_view old) tt) known e plain
      tells_instruction truths (instr.List n) old new act known e plain lies = silent (instr.List n) (perform code pc i (instr.List n) (slots_view old)) (silent_instruction (instr.List n) (slots_view old) tt) known e plain
      tells_instruction truths (instr.Set n) old new act known e plain lies = silent (instr.Set n) (perform code pc i (instr.Set n) (slots_view old)) (silent_instruction (instr.Set n) (slots_view old) tt) known e plain
      tells_instruction truths (instr.Join n) old new act known e plain lies = silent (instr.Join n) (perform code pc i (instr.Join n) (slots_view old)) (silent_instruction (instr.Join n) (slots_view old) tt) known e plain
      tells_instruction truths (instr.Dict n) old new act known e plain lies = silent (instr.Dict n) (perform code pc i (instr.Dict n) (slots_view old)) (silent_instruction (instr.Dict n) (slots_view old) tt) known e plain
      tells_instruction truths (instr.ListAdd n) old new act known e plain lies = silent (instr.ListAdd n) (perform code pc i (instr.ListAdd n) (slots_view old)) (silent_instruction (instr.ListAdd n) (slots_view old) tt) known e plain
      tells_instruction truths (instr.SetAdd n) old new act known e plain lies = silent (instr.SetAdd n) (perform code pc i (instr.SetAdd n) (slots_view old)) (silent_instruction (instr.SetAdd n) (slots_view old) tt) known e plain
      tells_instruction truths (instr.DictAdd n) old new act known e plain lies = silent (instr.DictAdd n) (perform code pc i (instr.DictAdd n) (slots_view old)) (silent_instruction (instr.DictAdd n) (slots_view old) tt) known e plain
      tells_instruction truths (instr.Format c) old new act known e plain lies = silent (instr.Format c) (perform code pc i (instr.Format c) (slots_view old)) (silent_instruction (instr.Format c) (slots_view old) tt) known e plain
      tells_instruction truths instr.TupleJoin old new act known e plain lies = silent instr.TupleJoin (perform code pc i instr.TupleJoin (slots_view old)) (silent_instruction instr.TupleJoin (slots_view old) tt) known e plain
      tells_instruction truths instr.DictMerge old new act known e plain lies = silent instr.DictMerge (perform code pc i instr.DictMerge (slots_view old)) (silent_instruction instr.DictMerge (slots_view old) tt) known e plain
      tells_instruction truths instr.Super old new act known e plain lies = silent instr.Super (perform code pc i instr.Super (slots_view old)) (silent_instruction instr.Super (slots_view old) tt) known e plain
      tells_instruction truths (instr.Unpack n) old new act known e plain lies = silent (instr.Unpack n) (perform code pc i (instr.Unpack n) (slots_view old)) (silent_instruction (instr.Unpack n) (slots_view old) tt) known e plain
      tells_instruction truths (instr.UnpackStar n m) old new act known e plain lies = silent (instr.UnpackStar n m) (perform code pc i (instr.UnpackStar n m) (slots_view old)) (silent_instruction (instr.UnpackStar n m) (slots_view old) tt) known e plain
      tells_instruction truths instr.Spread old new act known e plain lies = silent instr.Spread (perform code pc i instr.Spread (slots_view old)) (silent_instruction instr.Spread (slots_view old) tt) known e plain
      tells_instruction truths instr.SpreadMap old new act known e plain lies = silent instr.SpreadMap (perform code pc i instr.SpreadMap (slots_view old)) (silent_instruction instr.SpreadMap (slots_view old) tt) known e plain
      tells_instruction truths (instr.MakeFunction b n l) old new act known e plain lies = silent (instr.MakeFunction b n l) (perform code pc i (instr.MakeFunction b n l) (slots_view old)) (silent_instruction (instr.MakeFunction b n l) (slots_view old) tt) known e plain
      tells_instruction truths (instr.MakeClass b) old new act known e plain lies = silent (instr.MakeClass b) (perform code pc i (instr.MakeClass b) (slots_view old)) (silent_instruction (instr.MakeClass b) (slots_view old) tt) known e plain
      tells_instruction truths (instr.MakeGenerator b) old new act known e plain lies = silent (instr.MakeGenerator b) (perform code pc i (instr.MakeGenerator b) (slots_view old)) (silent_instruction (instr.MakeGenerator b) (slots_view old) tt) known e plain
      tells_instruction truths instr.Iter old new act known e plain lies = silent instr.Iter (perform code pc i instr.Iter (slots_view old)) (silent_instruction instr.Iter (slots_view old) tt) known e plain
      tells_instruction truths (instr.Jump t) old new act known e plain lies = silent (instr.Jump t) (perform code pc i (instr.Jump t) (slots_view old)) (silent_instruction (instr.Jump t) (slots_view old) tt) known e plain
      tells_instruction truths instr.Return old new act known e plain lies = silent instr.Return (perform code pc i instr.Return (slots_view old)) (silent_instruction instr.Return (slots_view old) tt) known e plain
      tells_instruction truths instr.Yield old new act known e plain lies = silent instr.Yield (perform code pc i instr.Yield (slots_view old)) (silent_instruction instr.Yield (slots_view old) tt) known e plain
      tells_instruction truths instr.Delegate old new act known e plain lies = silent instr.Delegate (perform code pc i instr.Delegate (slots_view old)) (silent_instruction instr.Delegate (slots_view old) tt) known e plain
      tells_instruction truths instr.Raise old new act known e plain lies = silent instr.Raise (perform code pc i instr.Raise (slots_view old)) (silent_instruction instr.Raise (slots_view old) tt) known e plain
      tells_instruction truths instr.RaiseFrom old new act known e plain lies = silent instr.RaiseFrom (perform code pc i instr.RaiseFrom (slots_view old)) (silent_instruction instr.RaiseFrom (slots_view old) tt) known e plain
      tells_instruction truths (instr.AssertFail false) old new act known e plain lies = silent (instr.AssertFail false) (perform code pc i (instr.AssertFail false) (slots_view old)) (silent_instruction (instr.AssertFail false) (slots_view old) tt) known e plain
      tells_instruction truths (instr.Leave t) old new act known e plain lies = silent (instr.Leave t) (perform code pc i (instr.Leave t) (slots_view old)) (silent_instruction (instr.Leave t) (slots_view old) tt) known e plain
      tells_instruction truths instr.Caught old new act known e plain lies = silent instr.Caught (perform code pc i instr.Caught (slots_view old)) (silent_instruction instr.Caught (slots_view old) tt) known e plain
      tells_instruction truths instr.EndHandler old new act known e plain lies = silent instr.EndHandler (perform code pc i instr.EndHandler (slots_view old)) (silent_instruction instr.EndHandler (slots_view old) tt) known e plain
      tells_instruction truths instr.Rethrow old new act known e plain lies = silent instr.Rethrow (perform code pc i instr.Rethrow (slots_view old)) (silent_instruction instr.Rethrow (slots_view old) tt) known e plain
      tells_instruction truths instr.Enter old new act known e plain lies = silent instr.Enter (perform code pc i instr.Enter (slots_view old)) (silent_instruction instr.Enter (slots_view old) tt) known e plain
      tells_instruction truths instr.Normal old new act known e plain lies = silent instr.Normal (perform code pc i instr.Normal (slots_view old)) (silent_instruction instr.Normal (slots_view old) tt) known e plain
      tells_instruction truths instr.Exit old new act known e plain lies = silent instr.Exit (perform code pc i instr.Exit (slots_view old)) (silent_instruction instr.Exit (slots_view old) tt) known e plain
      tells_instruction truths instr.EndFinally old new act known e plain lies = silent instr.EndFinally (perform code pc i instr.EndFinally (slots_view old)) (silent_instruction instr.EndFinally (slots_view old) tt) known e plain
      tells_instruction truths (instr.Import t) old new act known e plain lies = silent (instr.Import t) (perform code pc i (instr.Import t) (slots_view old)) (silent_instruction (instr.Import t) (slots_view old) tt) known e plain
      tells_instruction truths (instr.ImportName t) old new act known e plain lies = silent (instr.ImportName t) (perform code pc i (instr.ImportName t) (slots_view old)) (silent_instruction (instr.ImportName t) (slots_view old) tt) known e plain
      tells_instruction truths instr.RaiseAgain old new act known e plain lies = silent instr.RaiseAgain (perform code pc i instr.RaiseAgain (slots_view old)) (silent_instruction instr.RaiseAgain (slots_view old) tt) known e plain
      tells_instruction truths (instr.AssertFail true) old new k known e plain lies = silent (instr.AssertFail true) (perform code pc i (instr.AssertFail true) (slots_view old)) (silent_instruction (instr.AssertFail true) (slots_view old) tt) known e plain
      tells_instruction truths (instr.Call n) old new k known e plain lies =
          calling (call_of (value_at (slice_get old n)) callee) (instr.Call n) (perform code pc i (instr.Call n) (slots_view old)) (called_values (all_positional n) n [] old) known e plain
      tells_instruction truths (instr.CallKw n l) old new k known e plain lies =
          calling (call_of (value_at (slice_get old n)) callee) (instr.CallKw n l) (perform code pc i (instr.CallKw n l) (slots_view old)) (called_values (last_named n (code.pool.texts l.0)) n [] old) known e plain
      tells_instruction truths (instr.CallSpread n l) old new k known e plain lies =
          calling (call_of (value_at (slice_get old n)) callee) (instr.CallSpread n l) (perform code pc i (instr.CallSpread n l) (slots_view old)) (called_values (map role_of (code.pool.texts l.0)) n [] old) known e plain
      tells_instruction truths (instr.JumpIf t) old new k known e plain lies =
          branching k (instr.JumpIf t) (perform code pc i (instr.JumpIf t) (slots_view old)) (if_one Branching tt (slots_view old) _ (λ v below. branches_told (code.is_truth v) _ _ v below)) known e plain
      tells_instruction truths (instr.JumpUnless t) old new k known e plain lies =
          branching k (instr.JumpUnless t) (perform code pc i (instr.JumpUnless t) (slots_view old)) (if_one Branching tt (slots_view old) _ (λ v below. branches_told (code.is_truth v) _ _ v below)) known e plain
      tells_instruction truths (instr.JumpIfKeep t) old new k known e plain lies =
          branching k (instr.JumpIfKeep t) (perform code pc i (instr.JumpIfKeep t) (slots_view old)) (if_one Branching tt (slots_view old) _ (λ v below. branches_told (code.is_truth v) _ _ v below)) known e plain
      tells_instruction truths (instr.JumpUnlessKeep t) old new k known e plain lies =
          branching k (instr.JumpUnlessKeep t) (perform code pc i (instr.JumpUnlessKeep t) (slots_view old)) (if_one Branching tt (slots_view old) _ (λ v below. branches_told (code.is_truth v) _ _ v below)) known e plain
      tells_instruction truths (instr.Next t) old new k known e plain lies =
          branching k (instr.Next t) (perform code pc i (instr.Next t) (slots_view old)) (if_iterator Branching tt (slots_view old) _ (λ v below. (refl, λ x. refl))) known e plain
      tells_instruction truths instr.Match old new k known e plain lies = match_tells truths old new known e plain (lies refl)
