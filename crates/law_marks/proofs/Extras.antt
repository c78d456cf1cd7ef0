-- Operations that aren't supported are no calls, for a call that fails raises; and so they call nothing.
use Rattle.std.proofs.Common.{◌≡◌, ◌∙◌, List, [], ◌∷◌, true, false, None, refl, sym, ap, subst, if◌then◌else◌}
use Rattle.pt_base.specs.declared.what.What.{What}
use Rattle.pt_base.specs.declared.what.What.TheVariants.{Feature, Heap}
use Rattle.pt_heap.specs.declared.value.Value.{Value}
use Rattle.pt_heap.specs.declared.value.Value.TheVariants as value
use Rattle.pt_heap.specs.declared.object.Object.{Object}
use Rattle.sem_control.specs.control.Turn as T
use Rattle.sem_control.specs.control.Turn.{Role, Operation}
use Rattle.sem_code.specs.slots.CodeObject.{CodeObject}
use Rattle.sem_run.specs.run.Host as H
use Rattle.sem_run.specs.run.Host.{Here, made, beyond}
use Rattle.pt_applying.specs.law_doing.pt_answering.pt_opening.pt_host.World.{Stores, Program, Allotted}
use Rattle.pt_applying.specs.law_doing.pt_answering.pt_opening.pt_host.Trees.{Tree, raise_with}
use Rattle.pt_applying.specs.law_doing.pt_answering.pt_opening.pt_host.Arguments.{are_arguments, arguments}
use Rattle.pt_applying.specs.law_doing.pt_answering.pt_opening.pt_host.Calls.{call_value, called_within, module_names, module_world}
use Rattle.pt_applying.specs.law_doing.pt_machine_state.pt_code_facts.sem_rows.heap_rows.Leads.{LeavesFeature, HasHeapExtras}
use Rattle.pt_applying.proofs.law_doing.pt_answering.pt_machine_state.FailLemmas.{saying-heap}
use Rattle.pt_applying.specs.Known.{CallsNothing, HasSilentExtras}

-- what raises doesn't leave the profile for a feature
abbrev what_left : Tree Value → What
what_left (H.leave what) = what
what_left t = Heap

not_feature : (a : Allotted) (st : Stores) → ((what : What) → a ≡ beyond what → what ≡ Heap)
    → raise_with {A = Value} a st ≡ H.leave Feature → ⊥
not_feature (made v k) st only e = absurd cc
not_feature (beyond what) st only e =
    let same : Heap ≡ Feature = sym (only what refl) ∙ ap what_left e in absurd cc

no_arguments : (k : List Object) (rs : List Role) → are_arguments k rs [] ≡ true
no_arguments k [] = refl
no_arguments k (r ∷ rs) = refl

module _ (program : Program) where
  abbrev here : Here Value
  here = record { frame = 0; block = record { hidden = false; number = 0 }; active = None }

  abbrev st : Stores
  st = record { names = module_names program; world = module_world program }

  -- None isn't called
  none_raises : (rs : List Role)
      → call_value program value.None (arguments st.world.heap rs []) here st ≡ H.leave Feature → ⊥
  unfolding called_within
  none_raises rs e =
      not_feature _ st (λ what. saying-heap _ _ None None st.world.heap what) e

  no_call : (rs : List Role) → LeavesFeature (T.call rs) → ⊥
  no_call rs leaves =
      none_raises rs
      (subst (λ b. (if b then call_value program value.None (arguments st.world.heap rs []) here st else H.leave Feature) ≡ H.leave Feature)
      (no_arguments st.world.heap rs) (leaves program (value.None ∷ []) here st))

  calls_nothing : (o : Operation) → LeavesFeature o → CallsNothing o
  calls_nothing T.tuple leaves callee vs = refl
  calls_nothing T.list leaves callee vs = refl
  calls_nothing T.set leaves callee vs = refl
  calls_nothing T.dict leaves callee vs = refl
  calls_nothing (T.get x) leaves callee vs = refl
  calls_nothing T.item leaves callee vs = refl
  calls_nothing T.slice leaves callee vs = refl
  calls_nothing (T.unary o) leaves callee vs = refl
  calls_nothing T.inverted leaves callee vs = refl
  calls_nothing (T.binary o) leaves callee vs = refl
  calls_nothing (T.in_place o) leaves callee vs = refl
  calls_nothing (T.compare o) leaves callee vs = refl
  calls_nothing (T.format c) leaves callee vs = refl
  calls_nothing T.join leaves callee vs = refl
  calls_nothing T.spread_out leaves callee vs = refl
  calls_nothing T.spread_named_out leaves callee vs = refl
  calls_nothing (T.call rs) leaves callee vs = absurd (no_call rs leaves)
  calls_nothing (T.function b xs) leaves callee vs = refl
  calls_nothing (T.class b) leaves callee vs = refl
  calls_nothing (T.generator b) leaves callee vs = refl
  calls_nothing (T.import x) leaves callee vs = refl
  calls_nothing (T.import_name x) leaves callee vs = refl

pub silent_extras : (program : Program) (code : CodeObject Value) → HasHeapExtras code
    → HasSilentExtras code
silent_extras program code has = record {
  tuple_join = calls_nothing program code.extras.tuple_join has.tuple_join;
  dict_merge = calls_nothing program code.extras.dict_merge has.dict_merge;
  super = calls_nothing program code.extras.super has.super;
}
