-- A run leaves the profile at instructions that aren't supported yet.
use Rattle.std.proofs.Common.{◌≡◌, ◌∙◌, ◌⊎◌, inl, inr, ℕ, zero, suc, true, false, List, [], ◌∷◌, Option, Some, None, refl, sym, ap}
use Rattle.std.specs.Prelude.{option_map}
use Rattle.pt_base.specs.declared.what.What.TheVariants.{Feature}
use Rattle.pt_ranges.specs.declared.lines.ActMark.{ActMark}
use Rattle.pt_instr.specs.declared.Instr.{Instr}
use Rattle.pt_instr.specs.declared.Instr.TheVariants as instr
use Rattle.pt_heap.specs.declared.value.Value.{Value}
use Rattle.pt_code.specs.View.{Ins}
use Rattle.sem_control.specs.control.Turn as T
use Rattle.sem_control.specs.control.Turn.{Operation, Turn, stuck}
use Rattle.sem_code.specs.slots.Slots as S
use Rattle.sem_code.specs.slots.Slots.{Slots, State}
use Rattle.sem_code.specs.slots.CodeObject.{CodeObject}
use Rattle.sem_code.specs.slots.Instructions.{perform}
use Rattle.sem_code.specs.slots.Pops.{Next, values, cells, one, an_iterator}
use Rattle.sem_code.specs.slots.Steps.{mark_of, after, gives, delegated, delegates}
use Rattle.sem_run.specs.run.Host as H
use Rattle.sem_run.specs.run.Host.{Here}
use Rattle.pt_host.specs.World.{Stores, Program}
use Rattle.pt_host.specs.Answers.{operate}
use Rattle.sem_run.specs.transitions.Successors.{outside}
use Rattle.sem_rows.specs.declared.heap_rows.progress.Progress.TheVariants as progress
use Rattle.sem_rows.specs.heap_rows.Leads.{HasHeapExtras, IsStuck, by_tree, giving}
use Rattle.sem_rows.specs.heap_rows.Laws.{reached}
use Rattle.sem_rows.specs.heap_rows.Views.{slots_view}
use Rattle.sem_rows.proofs.heap_rows.RowLemmas.{operations_lead}
use Rattle.sem_rows.specs.unsupported_rows.Unsupported.{RowsOutside, is_supported}

module _ (program : Program) (code : CodeObject Value) (i : Ins) (h : Here Value) (st : Stores) where
  abbrev Outside : Turn (State Value) Value → Type 0
  Outside t = IsStuck (reached program code i h st t) ⊎ (outside Feature ≡ reached program code i h st t)

  -- whatever is taken

  values-out : (n : ℕ) (vs : List Value) (ss : Slots Value) (next : Next Value (List Value))
      → ((ws : List Value) (below : Slots Value) → Outside (next ws below)) → Outside (values n vs ss next)
  values-out zero vs ss next f = f vs ss
  values-out (suc n) vs [] next f = inl tt
  values-out (suc n) vs (S.value v ∷ ss) next f = values-out n (v ∷ vs) ss next f
  values-out (suc n) vs (S.cell v ∷ ss) next f = inl tt
  values-out (suc n) vs (S.iterator v ∷ ss) next f = inl tt
  values-out (suc n) vs (S.exception v ∷ ss) next f = inl tt
  values-out (suc n) vs (S.pending c ∷ ss) next f = inl tt
  values-out (suc n) vs (S.exit v ∷ ss) next f = inl tt

  cells-out : (n : ℕ) (vs : List Value) (ss : Slots Value) (next : Next Value (List Value))
      → ((ws : List Value) (below : Slots Value) → Outside (next ws below)) → Outside (cells n vs ss next)
  cells-out zero vs ss next f = f vs ss
  cells-out (suc n) vs [] next f = inl tt
  cells-out (suc n) vs (S.value v ∷ ss) next f = inl tt
  cells-out (suc n) vs (S.cell v ∷ ss) next f = cells-out n (v ∷ vs) ss next f
  cells-out (suc n) vs (S.iterator v ∷ ss) next f = inl tt
  cells-out (suc n) vs (S.exception v ∷ ss) next f = inl tt
  cells-out (suc n) vs (S.pending c ∷ ss) next f = inl tt
  cells-out (suc n) vs (S.exit v ∷ ss) next f = inl tt

  one-out : (ss : Slots Value) (next : Next Value Value) → ((v : Value) (below : Slots Value) → Outside (next v below)) → Outside (one ss next)
  one-out [] next f = inl tt
  one-out (S.value v ∷ ss) next f = f v ss
  one-out (S.cell v ∷ ss) next f = inl tt
  one-out (S.iterator v ∷ ss) next f = inl tt
  one-out (S.exception v ∷ ss) next f = inl tt
  one-out (S.pending c ∷ ss) next f = inl tt
  one-out (S.exit v ∷ ss) next f = inl tt

  iterator-out : (ss : Slots Value) (next : Next Value Value) → ((v : Value) (below : Slots Value) → Outside (next v below)) → Outside (an_iterator ss next)
  iterator-out [] next f = inl tt
  iterator-out (S.value v ∷ ss) next f = inl tt
  iterator-out (S.cell v ∷ ss) next f = inl tt
  iterator-out (S.iterator v ∷ ss) next f = f v ss
  iterator-out (S.exception v ∷ ss) next f = inl tt
  iterator-out (S.pending c ∷ ss) next f = inl tt
  iterator-out (S.exit v ∷ ss) next f = inl tt

  -- and with a mark or without

  gives-out : (o : Operation) (vs : List Value) (ss : Slots Value) → operate program o vs h st ≡ H.leave Feature → Outside (gives code i (T.operate o vs) ss)
  gives-out o vs ss e = inr (sym (operations_lead program code i h st o vs ss ∙ ap (by_tree code i (giving code i ss) ss) e))

  operates-out : (o : Operation) (n : ℕ) (ss : Slots Value) → ((vs : List Value) → operate program o vs h st ≡ H.leave Feature)
      → Outside (values n [] ss (λ vs below. gives code i (T.operate o vs) below))
  operates-out o n ss e = values-out n [] ss _ (λ vs below. gives-out o vs below (e vs))

  yields-out : (v : Value) (ss : Slots Value) → Outside (gives code i (T.yielding v) ss)
  yields-out v ss = by_mark i.mark
    where
      by_mark : (m : Option ActMark) → Outside (T.act (option_map mark_of m) (T.seek (T.yielding v)) (after code i ss (giving code i ss)))
      by_mark None = inl tt
      by_mark (Some m) = inl tt

  delegates-out : (pc : ℕ) (r : T.Reply Value Value) (v u : Value) (ss : Slots Value) → Outside (delegates code pc i r v u ss)
  delegates-out pc r v u ss = by_mark i.mark
    where
      by_mark : (m : Option ActMark) → Outside (T.act (option_map mark_of m) (T.delegate v r) (after code i ss (delegated code pc i v u ss)))
      by_mark None = inr refl
      by_mark (Some m) = inr refl

  performs-out : (pc : ℕ) (j : Instr) (ss : Slots Value) → HasHeapExtras code → is_supported j ≡ false → Outside (perform code pc i j ss)
  performs-out pc (instr.Attr t) ss x e = absurd (cc)
  performs-out pc (instr.SetAttr t) ss x e = absurd (cc)
  performs-out pc (instr.DelAttr t) ss x e = absurd (cc)
  performs-out pc instr.TupleJoin ss x e = operates-out _ 2 ss (λ vs. x.tuple_join program vs h st)
  performs-out pc instr.DictMerge ss x e = operates-out _ 2 ss (λ vs. x.dict_merge program vs h st)
  performs-out pc instr.Spread ss x e = absurd (cc)
  performs-out pc instr.SpreadMap ss x e = absurd (cc)
  performs-out pc instr.Super ss x e = operates-out _ 2 ss (λ vs. x.super program vs h st)
  performs-out pc (instr.MakeClass b) ss x e = absurd (cc)
  performs-out pc (instr.MakeGenerator b) ss x e = cells-out (code.pool.captures b.0) [] ss _
      (λ cs below. iterator-out below _ (λ it under. gives-out _ (it ∷ cs) under refl))
  performs-out pc instr.Yield ss x e = one-out ss _ (λ v below. yields-out v below)
  performs-out pc instr.Delegate ss x e = one-out ss _ (λ v below. iterator-out below _ (λ it under. delegates-out pc (T.got v) it v under))
  performs-out pc instr.Raise ss x e = absurd (cc)
  performs-out pc instr.RaiseFrom ss x e = absurd (cc)
  performs-out pc instr.RaiseAgain ss x e = absurd (cc)
  performs-out pc (instr.AssertFail b) ss x e = absurd (cc)
  performs-out pc instr.Match ss x e = absurd (cc)
  performs-out pc instr.Enter ss x e = absurd (cc)
  performs-out pc instr.Exit ss x e = absurd (cc)
  performs-out pc (instr.Import t) ss x e = absurd (cc)
  performs-out pc (instr.ImportName t) ss x e = absurd (cc)
  performs-out pc instr.Nop ss x e = absurd (cc)
  performs-out pc (instr.Next t) ss x e = absurd (cc)
  performs-out pc instr.Iter ss x e = absurd (cc)
  performs-out pc (instr.UnpackStar n m) ss x e = absurd (cc)
  performs-out pc (instr.Unpack n) ss x e = absurd (cc)
  performs-out pc (instr.Join n) ss x e = absurd (cc)
  performs-out pc (instr.Format c) ss x e = absurd (cc)
  performs-out pc (instr.DictAdd n) ss x e = absurd (cc)
  performs-out pc (instr.SetAdd n) ss x e = absurd (cc)
  performs-out pc (instr.ListAdd n) ss x e = absurd (cc)
  performs-out pc (instr.Dict n) ss x e = absurd (cc)
  performs-out pc (instr.Set n) ss x e = absurd (cc)
  performs-out pc (instr.List n) ss x e = absurd (cc)
  performs-out pc (instr.Tuple n) ss x e = absurd (cc)
  performs-out pc instr.Slice ss x e = absurd (cc)
  performs-out pc instr.DelItem ss x e = absurd (cc)
  performs-out pc instr.SetItem ss x e = absurd (cc)
  performs-out pc instr.Item ss x e = absurd (cc)
  performs-out pc (instr.Const k) ss x e = absurd (cc)
  performs-out pc (instr.Local k) ss x e = absurd (cc)
  performs-out pc (instr.SetLocal k) ss x e = absurd (cc)
  performs-out pc (instr.DelLocal k) ss x e = absurd (cc)
  performs-out pc (instr.FreshLocal k) ss x e = absurd (cc)
  performs-out pc (instr.Cell k) ss x e = absurd (cc)
  performs-out pc (instr.SetCell k) ss x e = absurd (cc)
  performs-out pc (instr.DelCell k) ss x e = absurd (cc)
  performs-out pc (instr.FreshCell k) ss x e = absurd (cc)
  performs-out pc (instr.PushCell k) ss x e = absurd (cc)
  performs-out pc (instr.Global t) ss x e = absurd (cc)
  performs-out pc (instr.SetGlobal t) ss x e = absurd (cc)
  performs-out pc (instr.DelGlobal t) ss x e = absurd (cc)
  performs-out pc (instr.Name t) ss x e = absurd (cc)
  performs-out pc (instr.SetName t) ss x e = absurd (cc)
  performs-out pc (instr.DelName t) ss x e = absurd (cc)
  performs-out pc instr.Pop ss x e = absurd (cc)
  performs-out pc instr.Copy ss x e = absurd (cc)
  performs-out pc instr.Copy2 ss x e = absurd (cc)
  performs-out pc instr.Swap ss x e = absurd (cc)
  performs-out pc instr.Rot3 ss x e = absurd (cc)
  performs-out pc (instr.Unary o) ss x e = absurd (cc)
  performs-out pc instr.Not ss x e = absurd (cc)
  performs-out pc (instr.Binary o) ss x e = absurd (cc)
  performs-out pc (instr.InPlace o) ss x e = absurd (cc)
  performs-out pc (instr.Compare o) ss x e = absurd (cc)
  performs-out pc (instr.Call n) ss x e = absurd (cc)
  performs-out pc (instr.CallKw n l) ss x e = absurd (cc)
  performs-out pc (instr.CallSpread n l) ss x e = absurd (cc)
  performs-out pc (instr.MakeFunction b n l) ss x e = absurd (cc)
  performs-out pc (instr.Jump t) ss x e = absurd (cc)
  performs-out pc (instr.JumpIf t) ss x e = absurd (cc)
  performs-out pc (instr.JumpUnless t) ss x e = absurd (cc)
  performs-out pc (instr.JumpIfKeep t) ss x e = absurd (cc)
  performs-out pc (instr.JumpUnlessKeep t) ss x e = absurd (cc)
  performs-out pc instr.Return ss x e = absurd (cc)
  performs-out pc (instr.Leave t) ss x e = absurd (cc)
  performs-out pc instr.Caught ss x e = absurd (cc)
  performs-out pc instr.EndHandler ss x e = absurd (cc)
  performs-out pc instr.Rethrow ss x e = absurd (cc)
  performs-out pc instr.Normal ss x e = absurd (cc)
  performs-out pc instr.EndFinally ss x e = absurd (cc)

pub rows_outside : (j : Instr) → is_supported j ≡ false → RowsOutside j (progress.Outside Feature)
unfolding RowsOutside
rows_outside j e program code pc i h st slots extras = performs-out program code i h st pc j (slots_view slots) extras e
