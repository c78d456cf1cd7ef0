-- The text of a field is laid out as in a run.
use Rattle.std.proofs.Common.{◌≡◌, ◌⊎◌, inl, inr, ◌∙◌, ℕ, List, [], ◌∷◌, Option, Some, None, refl, sym, ap, subst}
use Rattle.pt_base.specs.declared.numbers.Line.{Line}
use Rattle.pt_base.specs.declared.numbers.ObjId.{ObjId}
use Rattle.pt_base.specs.declared.numbers.Pc.{Pc}
use Rattle.pt_base.specs.declared.what.What.{What}
use Rattle.pt_base.specs.declared.what.What.TheVariants.{Feature, Helper}
use Rattle.pt_heap.specs.declared.value.Value.{Value}
use Rattle.pt_heap.specs.declared.value.Value.TheVariants as value
use Rattle.pt_heap.specs.declared.object.Object.{Object}
use Rattle.pt_content.specs.declared.op.Op.TheVariants as op
use Rattle.pt_content.specs.declared.answer.PrimAns.{PrimAns}
use Rattle.pt_content.specs.declared.answer.PrimAns.TheVariants as prim
use Rattle.pt_prims.specs.Operations.{prim_answer, prim_heap}
use Rattle.pt_frames.specs.declared.activation.Activation.{Activation}
use Rattle.pt_frames.specs.declared.purpose.Purpose.TheVariants.{Format}
use Rattle.pt_frames.specs.Slots.{active_in}
use Rattle.sem_control.specs.control.Turn.{gave}
use Rattle.sem_code.specs.slots.Slots as S
use Rattle.sem_code.specs.slots.Slots.{State, on}
use Rattle.sem_code.specs.comp_expr.Law.{active_at}
use Rattle.sem_run.specs.run.Host.{Here, leave}
use Rattle.sem_rows.specs.pt_host.Calls.{arguments_of}
use Rattle.sem_rows.specs.pt_host.Errors.{error}
use Rattle.sem_rows.specs.pt_host.Primitives.{by_prim, of_prim, one_value}
use Rattle.sem_rows.specs.pt_host.Trees.{Tree, then_with}
use Rattle.sem_rows.specs.pt_host.World.{CodeFacts, Names, Stores, allot}
use Rattle.sem_rows.specs.declared.heap_rows.progress.Progress.TheVariants as progress
use Rattle.sem_rows.specs.heap_rows.Leads.{by_tree, giving}
use Rattle.sem_rows.specs.heap_rows.Told.{taken}
use Rattle.sem_rows.specs.heap_rows.Views.{slots_view}
use Rattle.pt_transfers.specs.pt_machine_state.Applies.{Applied, Asking, LedTo, Stands, Takes, given_by, here_at, object_of}
use Rattle.pt_transfers.specs.pt_machine_state.Changes.{given_back, visible_line}
use Rattle.pt_transfers.specs.pt_machine_state.Views.{active_of, block_of, stores_of}
use Rattle.pt_transfers.specs.pt_machine_state.Writing.{Adds, print_piece}
use Rattle.pt_transfers.specs.pt_machine_state.declared.blocks.BlockCode.{BlockCode}
use Rattle.pt_transfers.specs.pt_machine_state.declared.blocks.Blocks.{Blocks}
use Rattle.pt_transfers.specs.pt_machine_state.declared.machine.Machine.{Machine}
use Rattle.pt_transfers.specs.pt_machine_state.declared.machine.MachineEnd.TheVariants as end
use Rattle.pt_transfers.specs.pt_machine_state.declared.machine.Stride.{Stride}
use Rattle.pt_transfers.specs.pt_machine_state.declared.machine.Stride.TheVariants as stride
use Rattle.pt_transfers.specs.pt_machine_state.declared.writes.Writes.{Writes}
use Rattle.pt_transfers.proofs.pt_machine_state.ApplyLemmas.{printed_to_state}
use Rattle.pt_transfers.proofs.pt_machine_state.FailLemmas.{stands-grown}
use Rattle.pt_transfers.proofs.pt_machine_state.LineLemmas.{outside-led}
use Rattle.pt_transfers.proofs.pt_machine_state.TakeLemmas.{given-in, value-led}
use Rattle.pt_progress.proofs.ArisenLemmas.{fails_arisen}
use Rattle.pt_progress.proofs.OperatedLemmas.{TakesBy, takes-led}
use Rattle.pt_progress.specs.Arising.{ArisesOf}

laid-is : (facts : CodeFacts) (spec v : Value) (ns : Names) (h : Here Value) (st : Stores)
    → taken facts (Format spec) (record { end = gave v; names = ns }) h st ≡ by_prim (op.Format None) (v ∷ spec ∷ []) h st
unfolding then_with
laid-is facts spec v ns h st = refl

-- why an operation gives no value, where it neither fails nor prints
abbrev pub leaves_for : PrimAns → Option What
leaves_for (prim.Values vs) = Some Feature
leaves_for prim.End = Some Feature
leaves_for (prim.Help helper vs inverted) = Some Helper
leaves_for (prim.Outside what) = Some what
leaves_for p = None

some-is : (x y : What) → Some x ≡ Some y → x ≡ y
some-is x y e = cc

leaves-is : (p : PrimAns) (what : What) (h : Here Value) (st : Stores) → leaves_for p ≡ Some what → of_prim one_value p h st ≡ leave what
leaves-is (prim.Value v) what h st e = absurd (cc)
leaves-is (prim.Values vs) what h st e = subst (λ x. of_prim one_value (prim.Values vs) h st ≡ leave x) (some-is Feature what e) refl
leaves-is prim.End what h st e = subst (λ x. of_prim one_value prim.End h st ≡ leave x) (some-is Feature what e) refl
leaves-is (prim.Raise class arg) what h st e = absurd (cc)
leaves-is (prim.Help helper vs inverted) what h st e = subst (λ x. of_prim one_value (prim.Help helper vs inverted) h st ≡ leave x) (some-is Helper what e) refl
leaves-is (prim.Print t) what h st e = absurd (cc)
leaves-is (prim.Outside cause) what h st e = subst (λ x. of_prim one_value (prim.Outside cause) h st ≡ leave x) (some-is cause what e) refl

-- several values, or none further
pub leaves_by : {A : Type 0} (values : A → PrimAns) → ((x : A) → leaves_for (values x) ≡ Some Feature) → (p : PrimAns)
    → ((x : A) × (p ≡ values x)) ⊎ (p ≡ prim.End) → leaves_for p ≡ Some Feature
leaves_by values each p (inl (x, e)) = subst (λ q. leaves_for q ≡ Some Feature) (sym e) (each x)
leaves_by values each p (inr e) = subst (λ q. leaves_for q ≡ Some Feature) (sym e) refl

module _ (blocks : Blocks) (caller : BlockCode) (next : Pc) (a : Activation) (m : Machine) (w : Writes) (spec text : Value) where
  abbrev Laid : Stride → Machine → Writes → Type 0
  Laid r new w1 = Takes blocks caller next a (Format spec) text r m w new w1

  -- its value is the one of the call
  abbrev stays : Asking → Value → State Value
  stays q v = giving (object_of q m) q.ins (slots_view m.here.slots) v

  laid-by : TakesBy blocks caller next m w a (Format spec) one_value stays (op.Format None) (text ∷ spec ∷ []) text
  laid-by q = ap (λ t. by_tree (object_of q m) q.ins (stays q) (slots_view m.here.slots) t)
      (laid-is (q.program.facts (block_of a)) spec text (given_by q.program a text).names (here_at q m) (stores_of q.program m))

  module _ (p : PrimAns) (h : List Object) (is : p ≡ prim_answer (op.Format None) (text ∷ spec ∷ []) m.heap) (put : h ≡ prim_heap (op.Format None) (text ∷ spec ∷ []) m.heap) where
    abbrev with_heap : Machine
    with_heap = record m { heap = h }

    abbrev Leads : Asking → Tree Value → Stride → Machine → Writes → Type 0
    Leads q t r new w1 = LedTo (by_tree (object_of q m) q.ins (stays q) (slots_view m.here.slots) t) q r with_heap w new w1

    laid-as : (r : Stride) (new : Machine) (w1 : Writes) (x : PrimAns) → p ≡ x
        → ((q : Asking) → Stands blocks caller next m q → active_at q.before ≡ active_in m.here.slots
        → Leads q (of_prim one_value x (here_at q m) (stores_of q.program with_heap)) r new w1) → Laid r new w1
    laid-as r new w1 x same led =
        takes-led blocks caller next m w a (Format spec) one_value stays (op.Format None) (text ∷ spec ∷ []) text laid-by p h is put r new w1
        (λ q stands active. subst (λ y. Leads q (of_prim one_value y (here_at q m) (stores_of q.program with_heap)) r new w1) (sym same) (led q stands active))

    pub laid_out : (v : Value) (new : Machine) → p ≡ prim.Value v → new ≡ given_back next v with_heap → Laid stride.Goes new w
    laid_out v new same done =
        subst (λ n. Laid stride.Goes n w) (sym done)
        (laid-as stride.Goes (given_back next v with_heap) w (prim.Value v) same
        (λ q stands active. value-led blocks caller next with_heap w q (stands-grown blocks caller next m w h q stands) v))

    -- an exception arises in its place
    failed-led : (class : ObjId) (arg : Option Value) (r : Stride) (new : Machine) (w1 : Writes) (q : Asking) → Stands blocks caller next m q
        → active_at q.before ≡ active_in m.here.slots → Applied blocks caller next (progress.Fails class arg) r with_heap w new w1
        → Leads q (of_prim one_value (prim.Raise class arg) (here_at q m) (stores_of q.program with_heap)) r new w1
    unfolding Applied
    failed-led class arg r new w1 q stands active applied = applied q (stands-grown blocks caller next m w h q stands) active

    pub laid_failed : (class : ObjId) (arg : Option Value) (r : Stride) (new : Machine) (w1 : Writes) → p ≡ prim.Raise class arg
        → ArisesOf (allot (error class (arguments_of arg) None (active_of with_heap)) h) blocks caller r with_heap w new w1 → Laid r new w1
    laid_failed class arg r new w1 same it =
        laid-as r new w1 (prim.Raise class arg) same
        (λ q stands active. failed-led class arg r new w1 q stands active (fails_arisen blocks caller next with_heap w r new w1 class arg it))

    pub laid_outside : (x : PrimAns) (what : What) (r : Stride) → p ≡ x → leaves_for x ≡ Some what
        → (line : Line) × ((r ≡ stride.Ends (end.Outside what line)) × (line.0 ≡ visible_line blocks with_heap)) → Laid r with_heap w
    laid_outside x what r same leaves (line, (ends, at)) =
        subst (λ s. Laid s with_heap w) (sym ends)
        (laid-as (stride.Ends (end.Outside what line)) with_heap w x same
        (λ q stands active. subst (λ t. Leads q t (stride.Ends (end.Outside what line)) with_heap w) (sym (leaves-is x what (here_at q m) (stores_of q.program with_heap) leaves))
        (outside-led blocks caller next with_heap with_heap w what line q (stands-grown blocks caller next m w h q stands) refl at)))

    -- a text is printed, and nothing given
    pub laid_printed : (t : List ℕ) (new : Machine) (w1 : Writes) → p ≡ prim.Print t → Adds w w1 (print_piece t ∷ [])
        → new ≡ given_back next value.None with_heap → Laid stride.Goes new w1
    laid_printed t new w1 same adds done =
        subst (λ n. Laid stride.Goes n w1) (sym done)
        (laid-as stride.Goes (given_back next value.None with_heap) w1 (prim.Print t) same
        (λ q stands active. printed_to_state blocks caller next with_heap q w w1 (given_back next value.None with_heap) (on q.ins.next (S.value value.None ∷ slots_view m.here.slots)) t adds
        (given-in blocks caller next with_heap q (stands-grown blocks caller next m w h q stands) value.None) (stands.waiting, stands.placed)))
