-- Where the host's answers about names lead, by what a name's value is.
use Rattle.std.proofs.Common.{◌≡◌, ◌∙◌, Bool, true, false, ◌∷◌, Some, None, refl, sym, ap}
use Rattle.std.specs.Prelude.{if◌then◌else◌}
use Rattle.pt_base.specs.declared.what.What.TheVariants.{Special}
use Rattle.sem_control.specs.control.Turn as T
use Rattle.sem_control.specs.control.Turn.{Scope, Variable}
use Rattle.pt_heap.specs.declared.value.Value.{Value}
use Rattle.pt_code.specs.View.{Ins}
use Rattle.sem_code.specs.slots.Slots as S
use Rattle.sem_code.specs.slots.Slots.{Slots, State, on}
use Rattle.sem_code.specs.slots.CodeObject.{CodeObject}
use Rattle.sem_code.specs.slots.Steps.{gives, does}
use Rattle.sem_run.specs.run.Host.{Here, answer, leave, made, beyond}
use Rattle.pt_builtins.specs.pt_host.World.{Stores, Program, Allotted}
use Rattle.pt_builtins.specs.pt_host.Trees.{Tree, raise_with}
use Rattle.pt_builtins.specs.pt_host.Errors.{error_saying}
use Rattle.pt_builtins.specs.pt_host.Texts.{unbound_text, unbound_class}
use Rattle.pt_builtins.specs.pt_host.Variables.{readable_value, variable_value, load_by, unless_bound, delete_by, is_no_method, put, make_anew}
use Rattle.sem_run.specs.transitions.Successors.{to}
use Rattle.pt_moves.specs.sem_rows.declared.heap_rows.progress.Progress.TheVariants as progress
use Rattle.pt_moves.specs.sem_rows.heap_rows.Leads.{HeapSuccessor}
use Rattle.pt_moves.specs.sem_rows.heap_rows.Leads.{by_tree, giving, behind}
use Rattle.pt_moves.specs.sem_rows.heap_rows.Laws.{reached}
use Rattle.pt_moves.specs.sem_rows.heap_rows.Told.{told}
use Rattle.pt_moves.proofs.sem_rows.heap_rows.RowLemmas.{loads_lead, deeds_lead}
use Rattle.pt_name_rows.specs.Names.{unbound}

abbrev pub goes_to : State Value → Stores → HeapSuccessor
goes_to s st = to s st

module _ (program : Program) (code : CodeObject Value) (i : Ins) (h : Here Value) (st : Stores) (ss : Slots Value) where
  -- what arises arises alike, whatever would have been given
  raised_alike : (o : Allotted) → by_tree code i (giving code i ss) ss (raise_with {A = Value} o st) ≡ by_tree code i (behind code i ss) ss (raise_with {A = Unit {0}} o st)
  raised_alike (made v k) = refl
  raised_alike (beyond what) = refl

  pub loads : (x : Variable) (v : Value) → readable_value h.block.hidden x.scope x.name st ≡ Some v → goes_to (on i.next (S.value v ∷ ss)) st ≡ reached program code i h st (gives code i (T.load x) ss)
  loads x v e = sym (loads_lead program code i h st x ss ∙ ap (λ o. by_tree code i (giving code i ss) ss (load_by o x.scope x.name h st)) e)

  pub loads_none : (x : Variable) → readable_value h.block.hidden x.scope x.name st ≡ None
      → by_tree code i (giving code i ss) ss (unless_bound x.scope x.name h st) ≡ reached program code i h st (gives code i (T.load x) ss)
  loads_none x e = sym (loads_lead program code i h st x ss ∙ ap (λ o. by_tree code i (giving code i ss) ss (load_by o x.scope x.name h st)) e)

  -- a class doesn't bind each name
  abbrev stored_unless : Variable → Value → Bool → Tree (Unit {0})
  stored_unless x v b = if b then leave Special else answer tt (put x.scope x.name (Some v) st)

  pub stores : (x : Variable) (v : Value) → is_no_method x.scope x.name ≡ false → goes_to (on i.next ss) (put x.scope x.name (Some v) st) ≡ reached program code i h st (does code i (T.store x v) ss)
  stores x v e = sym (deeds_lead program code i h st (T.store x v) ss ∙ ap (λ b. by_tree code i (behind code i ss) ss (stored_unless x v b)) e)

  pub left_out : (x : Variable) (v : Value) → is_no_method x.scope x.name ≡ true → told program code i h (progress.Outside Special) ss st ≡ reached program code i h st (does code i (T.store x v) ss)
  left_out x v e = sym (deeds_lead program code i h st (T.store x v) ss ∙ ap (λ b. by_tree code i (behind code i ss) ss (stored_unless x v b)) e)

  pub deletes : (x : Variable) (v : Value) → variable_value x.scope x.name st ≡ Some v → goes_to (on i.next ss) (put x.scope x.name None st) ≡ reached program code i h st (does code i (T.delete x) ss)
  deletes x v e = sym (deeds_lead program code i h st (T.delete x) ss ∙ ap (λ o. by_tree code i (behind code i ss) ss (delete_by o x.scope x.name h st)) e)

  pub deletes_none : (x : Variable) → variable_value x.scope x.name st ≡ None → told program code i h (unbound x.scope x.name) ss st ≡ reached program code i h st (does code i (T.delete x) ss)
  deletes_none x e = raised_alike (error_saying (unbound_class x.scope) (unbound_text x.scope x.name) None h.active st.world.heap)
      ∙ sym (deeds_lead program code i h st (T.delete x) ss ∙ ap (λ o. by_tree code i (behind code i ss) ss (delete_by o x.scope x.name h st)) e)

  pub makes_anew : (x : Variable) → goes_to (on i.next ss) (make_anew x.scope x.name st) ≡ reached program code i h st (does code i (T.fresh x) ss)
  makes_anew x = sym (deeds_lead program code i h st (T.fresh x) ss)
