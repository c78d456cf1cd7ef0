-- Rows of names of bodies.
use Rattle.std.proofs.Common.{◌≡◌, ◌∙◌, ℕ, Bool, true, false, List, ◌∷◌, Option, Some, None, refl, sym, ap, subst}
use Rattle.std.specs.Prelude.{drop, if◌then◌else◌}
use Rattle.std.specs.Option.{option_or}
use Rattle.pt_base.specs.declared.what.What.TheVariants.{Special}
use Rattle.pt_tree.specs.Syntax.{Name}
use Rattle.sem_control.specs.control.Turn as T
use Rattle.sem_control.specs.control.Turn.{Scope}
use Rattle.pt_instr.specs.declared.Instr.TheVariants as instr
use Rattle.pt_instr.specs.declared.TextNo.{TextNo}
use Rattle.pt_heap.specs.declared.value.Value.{Value}
use Rattle.pt_names.specs.Names.{Named, name_value}
use Rattle.pt_frames.specs.declared.slot.Slot.{Slot}
use Rattle.pt_frames.specs.declared.slot.Slot.TheVariants as slot
use Rattle.sem_code.specs.slots.Slots.{on}
use Rattle.sem_code.specs.slots.CodeObject.{named, global}
use Rattle.sem_code.specs.slots.Steps.{gives, does}
use Rattle.sem_code.specs.slots.Pops.{one}
use Rattle.sem_run.specs.run.Host.{Here}
use Rattle.pt_name_rows.specs.pt_builtins.pt_host.World.{World, Stores}
use Rattle.pt_name_rows.specs.pt_builtins.pt_host.Trees.{Tree}
use Rattle.pt_name_rows.specs.pt_builtins.pt_host.Variables.{load_by, by_builtin, global_value, is_left_out, put}
use Rattle.pt_name_rows.specs.pt_builtins.pt_host.Builtins as builtins
use Rattle.pt_name_rows.specs.pt_builtins.pt_host.Builtins.{Builtin, meaning}
use Rattle.pt_name_rows.specs.pt_moves.sem_rows.declared.heap_rows.progress.Progress.{Progress}
use Rattle.pt_name_rows.specs.pt_moves.sem_rows.declared.heap_rows.progress.Progress.TheVariants as progress
use Rattle.pt_name_rows.specs.pt_moves.sem_rows.heap_rows.Laws.{reached}
use Rattle.pt_name_rows.specs.pt_moves.sem_rows.heap_rows.Leads.{by_tree, giving}
use Rattle.pt_name_rows.specs.pt_moves.sem_rows.heap_rows.Told.{told}
use Rattle.pt_name_rows.specs.pt_moves.sem_rows.heap_rows.RowsIn.{RowsIn}
use Rattle.pt_name_rows.specs.pt_moves.sem_rows.heap_rows.Views.{slots_view, stores_in}
use Rattle.pt_name_rows.proofs.pt_moves.sem_rows.heap_rows.RowLemmas.{loads_lead}
use Rattle.pt_name_rows.specs.pt_code_facts.declared.facts.BlockFacts.{BlockFacts}
use Rattle.pt_name_rows.specs.pt_code_facts.Facts.{facts_view}
use Rattle.pt_name_rows.specs.pt_builtins.declared.BuiltinLookup.{BuiltinLookup}
use Rattle.pt_name_rows.specs.pt_builtins.Lookups.{builtin_view}
use Rattle.pt_name_rows.specs.pt_moves.Operands.{one_value}
use Rattle.pt_name_rows.proofs.pt_moves.TakeLemmas.{one_on}
use Rattle.pt_name_rows.proofs.pt_moves.MoveLemmas.{lacks_one, stuck_row}
use Rattle.pt_name_rows.specs.Names.{RowsGlobal, RowsLoadGlobal, global_unbound}
use Rattle.pt_name_rows.proofs.AskLemmas.{goes_to, loads, stores, left_out, deletes, deletes_none}
use Rattle.pt_body_rows.specs.Bodies.{place_in, own_value, body_value, locals_with, names_with, RowsName, RowsRead, RowsLoadName, with_globals}
use Rattle.pt_body_rows.proofs.OwnLemmas.{own_reads, own_writes}

-- a name that a class body doesn't bind is one of the module

load_alike : (o : Option Value) (n : Name) (h : Here Value) (st : Stores) → ◌≡◌ {A = Tree Value} (load_by o T.global n h st) (load_by o T.of_class n h st)
load_alike (Some v) n h st = refl
load_alike None n h st = by (meaning h.block.hidden n)
  where
    by : (b : Builtin) → ◌≡◌ {A = Tree Value} (by_builtin b T.global n h st) (by_builtin b T.of_class n h st)
    by (builtins.is v) = refl
    by builtins.unavailable = refl
    by builtins.no_builtin = refl

module _ (x : Name) (facts : BlockFacts) (t : TextNo) (locals : List (Option Value)) (own globals : Named) where
  module _ (cells : List ℕ) (w : World) where
    abbrev st : Stores
    st = stores_in (facts_view facts) locals cells own (with_globals globals w)

    reads : (n : Name) → n ≡ x → name_value n st.names.values ≡ own_value facts.locals x locals own
    reads n e = ap (λ y. name_value y st.names.values) e ∙ own_reads x own facts.locals locals

    -- with another value for the name
    abbrev with_own : Option Value → Stores
    with_own v = stores_in (facts_view facts) (locals_with (place_in x facts.locals locals) v locals) cells
        (names_with (place_in x facts.locals locals) x v own) (with_globals globals w)

    abbrev stores_with : Named → Stores
    stores_with vs = record { names = record { values = vs; cells = st.names.cells }; world = st.world }

    writes : (n : Name) (v : Option Value) → n ≡ x → put T.of_class n v st ≡ with_own v
    writes n v e = ap (λ y. put T.of_class y v st) e
        ∙ ap (λ vs. stores_with vs) (own_writes x own v facts.locals locals)

  module _ (old : List Slot) where
    -- as the module does
    module _ (hidden : Bool) (b : BuiltinLookup) (means : builtin_view b ≡ meaning hidden x) (p : Progress) (new : List Slot)
        (row : RowsLoadGlobal hidden x b (instr.Global t) t.0 old globals p new) where
      of_module : RowsRead hidden x false facts (instr.Name t) t.0 old locals own globals p new
      unfolding RowsLoadGlobal RowsRead RowsIn
      of_module cells w s pc i truths knows =
          row (st cells w) means s pc i truths (record { is_text = knows.name.text; is_hidden = knows.is_hidden })
          ∙ ap (λ k. reached s.program s.code i s.here (st cells w) (gives s.code i (T.load (named k (s.code.pool.text t.0))) (slots_view old)))
          (sym knows.name.scope)

      of_body : own_value facts.locals x locals own ≡ None → RowsRead hidden x true facts (instr.Name t) t.0 old locals own globals p new
      unfolding RowsLoadGlobal RowsRead RowsIn
      of_body none cells w s pc i truths knows =
          row (st cells w) means s pc i truths (record { is_text = knows.name.text; is_hidden = knows.is_hidden })
          ∙ (loads_lead s.program s.code i s.here (st cells w) (global (s.code.pool.text t.0)) (slots_view old)
          ∙ (ap (λ d. by_tree s.code i (giving s.code i (slots_view old)) (slots_view old) d)
          (load_alike (global_value s.here.block.hidden (s.code.pool.text t.0) (st cells w)) (s.code.pool.text t.0) s.here (st cells w)
          ∙ ap (λ o. load_by (option_or o (global_value s.here.block.hidden (s.code.pool.text t.0) (st cells w))) T.of_class (s.code.pool.text t.0) s.here (st cells w))
          (sym (reads cells w _ knows.name.text ∙ none)))
          ∙ (sym (loads_lead s.program s.code i s.here (st cells w) (named T.of_class (s.code.pool.text t.0)) (slots_view old))
          ∙ ap (λ k. reached s.program s.code i s.here (st cells w) (gives s.code i (T.load (named k (s.code.pool.text t.0))) (slots_view old)))
          (sym knows.name.scope))))

    found_of : (hidden : Bool) (v : Value) → own_value facts.locals x locals own ≡ Some v
        → RowsRead hidden x true facts (instr.Name t) t.0 old locals own globals progress.Next (slot.Value v ∷ old)
    unfolding RowsRead RowsIn
    found_of hidden v e cells w s pc i truths knows =
        loads s.program s.code i s.here (st cells w) (slots_view old) (named T.of_class (s.code.pool.text t.0)) v
        (ap (λ o. option_or o (global_value s.here.block.hidden (s.code.pool.text t.0) (st cells w))) (reads cells w _ knows.name.text ∙ e))
        ∙ ap (λ k. reached s.program s.code i s.here (st cells w) (gives s.code i (T.load (named k (s.code.pool.text t.0))) (slots_view old))) (sym knows.name.scope)

    stored_of : (v : Value) → is_left_out x ≡ false → RowsName x true facts (instr.SetName t) t.0 (slot.Value v ∷ old) locals own globals progress.Next old
        (locals_with (place_in x facts.locals locals) (Some v) locals) (names_with (place_in x facts.locals locals) x (Some v) own) globals
    unfolding RowsName RowsIn
    stored_of v binds cells w s pc i truths knows =
        ap (λ (c : Stores). goes_to (on i.next (slots_view old)) c) (sym (writes cells w _ (Some v) knows.text))
        ∙ (stores s.program s.code i s.here (st cells w) (slots_view old) (named T.of_class (s.code.pool.text t.0)) v (ap (λ y. is_left_out y) knows.text ∙ binds)
        ∙ ap (λ k. reached s.program s.code i s.here (st cells w) (does s.code i (T.store (named k (s.code.pool.text t.0)) v) (slots_view old)))
        (sym knows.scope))

    left_out_of : (v : Value) → is_left_out x ≡ true
        → RowsName x true facts (instr.SetName t) t.0 (slot.Value v ∷ old) locals own globals (progress.Outside Special) old locals own globals
    unfolding RowsName RowsIn
    left_out_of v is cells w s pc i truths knows =
        left_out s.program s.code i s.here (st cells w) (slots_view old) (named T.of_class (s.code.pool.text t.0)) v (ap (λ y. is_left_out y) knows.text ∙ is)
        ∙ ap (λ k. reached s.program s.code i s.here (st cells w) (does s.code i (T.store (named k (s.code.pool.text t.0)) v) (slots_view old)))
        (sym knows.scope)

    deleted_of : (v : Value) → own_value facts.locals x locals own ≡ Some v
        → RowsName x true facts (instr.DelName t) t.0 old locals own globals progress.Next old
        (locals_with (place_in x facts.locals locals) None locals) (names_with (place_in x facts.locals locals) x None own) globals
    unfolding RowsName RowsIn
    deleted_of v e cells w s pc i truths knows =
        ap (λ (c : Stores). goes_to (on i.next (slots_view old)) c) (sym (writes cells w _ None knows.text))
        ∙ (deletes s.program s.code i s.here (st cells w) (slots_view old) (named T.of_class (s.code.pool.text t.0)) v (reads cells w _ knows.text ∙ e)
        ∙ ap (λ k. reached s.program s.code i s.here (st cells w) (does s.code i (T.delete (named k (s.code.pool.text t.0))) (slots_view old)))
        (sym knows.scope))

    delete_missing_of : own_value facts.locals x locals own ≡ None
        → RowsName x true facts (instr.DelName t) t.0 old locals own globals (global_unbound x) old locals own globals
    unfolding RowsName RowsIn
    delete_missing_of e cells w s pc i truths knows =
        ap (λ n. told s.program s.code i s.here (global_unbound n) (slots_view old) (st cells w)) (sym knows.text)
        ∙ (deletes_none s.program s.code i s.here (st cells w) (slots_view old) (named T.of_class (s.code.pool.text t.0)) (reads cells w _ knows.text ∙ e)
        ∙ ap (λ k. reached s.program s.code i s.here (st cells w) (does s.code i (T.delete (named k (s.code.pool.text t.0))) (slots_view old)))
        (sym knows.scope))

-- the same by what code found, took and wrote
module _ (x : Name) (c : Bool) (facts : BlockFacts) (t : TextNo) (old : List Slot) (locals : List (Option Value)) (own globals : Named) where
  pub found : (hidden : Bool) (b : BuiltinLookup) (new : List Slot) (v : Value) → body_value c facts.locals x locals own ≡ Some v → new ≡ slot.Value v ∷ old
      → RowsLoadName hidden x b c facts (instr.Name t) t.0 old locals own globals progress.Next new
  unfolding RowsLoadName
  found hidden b new v e f means = subst (λ n. RowsRead hidden x c facts (instr.Name t) t.0 old locals own globals progress.Next n) (sym f) (by c e)
    where
      by : (d : Bool) → body_value d facts.locals x locals own ≡ Some v
          → RowsRead hidden x d facts (instr.Name t) t.0 old locals own globals progress.Next (slot.Value v ∷ old)
      by true g = found_of x facts t locals own globals old hidden v g
      by false g = absurd (cc)

  pub otherwise : (hidden : Bool) (b : BuiltinLookup) (p : Progress) (new : List Slot) → body_value c facts.locals x locals own ≡ None
      → RowsLoadGlobal hidden x b (instr.Global t) t.0 old globals p new
      → RowsLoadName hidden x b c facts (instr.Name t) t.0 old locals own globals p new
  unfolding RowsLoadName
  otherwise hidden b p new e row means = by c e
    where
      by : (d : Bool) → body_value d facts.locals x locals own ≡ None → RowsRead hidden x d facts (instr.Name t) t.0 old locals own globals p new
      by true g = of_body x facts t locals own globals old hidden b means p new row g
      by false g = of_module x facts t locals own globals old hidden b means p new row

  pub stored_global : (p : Progress) (new : List Slot) (changed : Named) → c ≡ false → RowsGlobal x (instr.SetGlobal t) t.0 old globals p new changed
      → RowsName x c facts (instr.SetName t) t.0 old locals own globals p new locals own changed
  unfolding RowsGlobal RowsName RowsIn
  stored_global p new changed is row cells w s pc i truths knows =
      row (stores_in (facts_view facts) locals cells own w) s pc i truths knows.text
      ∙ ap (λ k. reached s.program s.code i s.here (stores_in (facts_view facts) locals cells own (with_globals globals w))
      (one (slots_view old) (λ v below. does s.code i (T.store (named k (s.code.pool.text t.0)) v) below)))
      (sym (knows.scope ∙ ap (λ b. if b then T.of_class else T.global) is))

  pub deleted_global : (p : Progress) (changed : Named) → c ≡ false → RowsGlobal x (instr.DelGlobal t) t.0 old globals p old changed
      → RowsName x c facts (instr.DelName t) t.0 old locals own globals p old locals own changed
  unfolding RowsGlobal RowsName RowsIn
  deleted_global p changed is row cells w s pc i truths knows =
      row (stores_in (facts_view facts) locals cells own w) s pc i truths knows.text
      ∙ ap (λ k. reached s.program s.code i s.here (stores_in (facts_view facts) locals cells own (with_globals globals w))
      (does s.code i (T.delete (named k (s.code.pool.text t.0))) (slots_view old))) (sym (knows.scope ∙ ap (λ b. if b then T.of_class else T.global) is))

  pub stored : (new : List Slot) (changed : List (Option Value)) (changed_own : Named) (v : Value) → c ≡ true → is_left_out x ≡ false → one_value old ≡ Some v → new ≡ drop 1 old
      → changed ≡ locals_with (place_in x facts.locals locals) (Some v) locals → changed_own ≡ names_with (place_in x facts.locals locals) x (Some v) own
      → RowsName x c facts (instr.SetName t) t.0 old locals own globals progress.Next new changed changed_own globals
  stored new changed changed_own v is binds e f g k =
      subst (λ d. RowsName x d facts (instr.SetName t) t.0 old locals own globals progress.Next new changed changed_own globals) (sym is)
      (subst (λ n. RowsName x true facts (instr.SetName t) t.0 old locals own globals progress.Next n changed changed_own globals) (sym f)
      (subst (λ l. RowsName x true facts (instr.SetName t) t.0 old locals own globals progress.Next (drop 1 old) l changed_own globals) (sym g)
      (subst (λ o. RowsName x true facts (instr.SetName t) t.0 old locals own globals progress.Next (drop 1 old)
      (locals_with (place_in x facts.locals locals) (Some v) locals) o globals) (sym k)
      (subst (λ o. RowsName x true facts (instr.SetName t) t.0 o locals own globals progress.Next (drop 1 old)
      (locals_with (place_in x facts.locals locals) (Some v) locals)
      (names_with (place_in x facts.locals locals) x (Some v) own) globals) (sym (one_on old v e))
      (stored_of x facts t locals own globals (drop 1 old) v binds)))))

  pub unbindable : (new : List Slot) (v : Value) → c ≡ true → is_left_out x ≡ true → one_value old ≡ Some v → new ≡ drop 1 old
      → RowsName x c facts (instr.SetName t) t.0 old locals own globals (progress.Outside Special) new locals own globals
  unbindable new v is out e f =
      subst (λ d. RowsName x d facts (instr.SetName t) t.0 old locals own globals (progress.Outside Special) new locals own globals) (sym is)
      (subst (λ n. RowsName x true facts (instr.SetName t) t.0 old locals own globals (progress.Outside Special) n locals own globals) (sym f)
      (subst (λ o. RowsName x true facts (instr.SetName t) t.0 o locals own globals (progress.Outside Special) (drop 1 old) locals own globals) (sym (one_on old v e))
      (left_out_of x facts t locals own globals (drop 1 old) v out)))

  pub store_lacks : (new : List Slot) (changed : List (Option Value)) (changed_own changed_globals : Named) → one_value old ≡ None
      → RowsName x c facts (instr.SetName t) t.0 old locals own globals progress.Lacks new changed changed_own changed_globals
  unfolding RowsName RowsIn
  store_lacks new changed changed_own changed_globals e cells w s pc i truths knows = stuck_row s.program s.here _ _ (lacks_one old e _)

  pub deleted : (changed : List (Option Value)) (changed_own : Named) (v : Value) → c ≡ true → own_value facts.locals x locals own ≡ Some v
      → changed ≡ locals_with (place_in x facts.locals locals) None locals → changed_own ≡ names_with (place_in x facts.locals locals) x None own
      → RowsName x c facts (instr.DelName t) t.0 old locals own globals progress.Next old changed changed_own globals
  deleted changed changed_own v is e g k =
      subst (λ d. RowsName x d facts (instr.DelName t) t.0 old locals own globals progress.Next old changed changed_own globals) (sym is)
      (subst (λ l. RowsName x true facts (instr.DelName t) t.0 old locals own globals progress.Next old l changed_own globals) (sym g)
      (subst (λ o. RowsName x true facts (instr.DelName t) t.0 old locals own globals progress.Next old
      (locals_with (place_in x facts.locals locals) None locals) o globals) (sym k)
      (deleted_of x facts t locals own globals old v e)))

  pub delete_missing : (p : Progress) → c ≡ true → own_value facts.locals x locals own ≡ None → p ≡ global_unbound x
      → RowsName x c facts (instr.DelName t) t.0 old locals own globals p old locals own globals
  delete_missing p is e f =
      subst (λ d. RowsName x d facts (instr.DelName t) t.0 old locals own globals p old locals own globals) (sym is)
      (subst (λ q. RowsName x true facts (instr.DelName t) t.0 old locals own globals q old locals own globals) (sym f)
      (delete_missing_of x facts t locals own globals old e))
