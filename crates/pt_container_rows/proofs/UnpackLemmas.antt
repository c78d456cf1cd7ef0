-- Rows of what is unpacked.
use Rattle.std.proofs.Common.{◌≡◌, ◌∙◌, ◌+◌, ◌-◌, ◌<◌, ℕ, zero, suc, Bool, true, false, List, [], ◌∷◌, ◌++◌, length, map, get_or, Option, Some, None, Result, Ok, Err, refl, sym, ap, subst, eqb-true, eq-eqb, arith}
use Rattle.std.proofs.Math.Seq.{drop-cons}
use Rattle.std.specs.Prelude.{codes, drop, nat_eq, nat_lt, option_map, slice_get, take, if◌then◌else◌}
use Rattle.std.specs.Str.{chars}
use Rattle.pt_base.specs.declared.numbers.ObjId.{ObjId}
use Rattle.pt_base.specs.declared.what.What.TheVariants.{Feature, Heap, Length}
use Rattle.sem_control.specs.control.Turn as T
use Rattle.sem_control.specs.control.Turn.{Row}
use Rattle.pt_instr.specs.declared.Instr.TheVariants as instr
use Rattle.pt_heap.specs.Limits.{entry_limit}
use Rattle.pt_heap.specs.declared.value.Value.{Value}
use Rattle.pt_heap.specs.declared.value.Value.TheVariants as value
use Rattle.pt_heap.specs.declared.object.Cursor.{Cursor}
use Rattle.pt_heap.specs.declared.object.Object.{Object}
use Rattle.pt_heap.specs.declared.object.Object.TheVariants as object
use Rattle.pt_frames.specs.declared.slot.Slot.{Slot}
use Rattle.pt_frames.specs.declared.slot.Slot.TheVariants as slot
use Rattle.pt_frames.specs.Slots.{active_in}
use Rattle.pt_code.specs.View.{Ins}
use Rattle.sem_code.specs.slots.CodeObject.{CodeObject}
use Rattle.sem_code.specs.slots.Slots as S
use Rattle.sem_code.specs.slots.Slots.{Slots, State}
use Rattle.sem_code.specs.slots.Pops.{giving, one}
use Rattle.sem_code.specs.slots.Steps.{asks as ask_in}
use Rattle.sem_run.specs.run.Host.{Here}
use Rattle.pt_content.specs.pt_attrs.Look.{object_of}
use Rattle.pt_content.specs.declared.op.Op.{Op}
use Rattle.pt_content.specs.declared.op.Op.TheVariants as op
use Rattle.pt_content.specs.declared.operand.Operand.{Operand}
use Rattle.pt_content.specs.declared.operand.Operand.TheVariants as operand
use Rattle.pt_content.specs.declared.answer.Helper.{Helper}
use Rattle.pt_content.specs.declared.answer.Helper.TheVariants.{ListOf, TakeOf}
use Rattle.pt_content.specs.declared.class.TheConstants.{TYPE_ERROR, VALUE_ERROR}
use Rattle.pt_content.specs.declared.content.Content.{Content}
use Rattle.pt_content.specs.declared.content.Content.TheVariants as content
use Rattle.pt_content.specs.declared.content.NewObject.{NewObject}
use Rattle.pt_content.specs.declared.content.NewObject.TheVariants as new
use Rattle.pt_content.specs.declared.content.NewObject.TheVariants.{Text}
use Rattle.pt_content.specs.declared.content.Replacement.{Replacement}
use Rattle.pt_content.specs.declared.answer.PrimAns.{PrimAns}
use Rattle.pt_content.specs.declared.answer.PrimAns.TheVariants as prim
use Rattle.pt_content.specs.Changes.{has_room, next_object, places_from}
use Rattle.pt_content.specs.Classes.{class_name}
use Rattle.pt_content.specs.Operands.{operand_of}
use Rattle.pt_content.specs.TypeErrors.{sentence, use_type_error}
use Rattle.pt_block_calls.specs.pt_operators.pt_prims.pt_methods.pt_sequences.Cursors.{asked_or}
use Rattle.pt_block_calls.specs.pt_operators.pt_prims.pt_methods.pt_sequences.Ranges.{range_length}
use Rattle.pt_block_calls.specs.pt_operators.pt_prims.pt_methods.pt_sequences.Starred.{around_list, parted_behind, starred, starred_items}
use Rattle.pt_block_calls.specs.pt_operators.pt_prims.pt_methods.pt_sequences.Unpacking.{char_texts, integers_from, mismatch, unless, unpacked, values}
use Rattle.pt_block_calls.specs.pt_operators.pt_prims.pt_methods.pt_views.declared.cursor.TheConstants.{RUNTIME_ERROR}
use Rattle.pt_block_calls.specs.pt_operators.pt_prims.pt_methods.pt_views.Unpacking as views
use Rattle.pt_block_calls.specs.pt_operators.pt_prims.pt_methods.pt_views.declared.unpacking.Source.{Source}
use Rattle.pt_block_calls.specs.pt_operators.pt_prims.pt_methods.pt_views.declared.unpacking.Wanted.{Wanted}
use Rattle.pt_block_calls.specs.pt_operators.pt_prims.pt_methods.pt_views.declared.unpacking.Wanted.TheVariants.{Count, Around}
use Rattle.pt_block_calls.specs.pt_operators.pt_prims.Operations.{placed, prim_answer, prim_heap}
use Rattle.pt_block_calls.specs.pt_operators.pt_moves.sem_rows.pt_host.Answers.{unpacked_by, unpacking}
use Rattle.pt_block_calls.specs.pt_operators.pt_moves.sem_rows.pt_host.Calls.{ask_with}
use Rattle.pt_block_calls.specs.pt_operators.pt_moves.sem_rows.pt_host.Errors.{error}
use Rattle.pt_block_calls.specs.pt_operators.pt_moves.sem_rows.pt_host.Primitives.{answer_if, arguments_of, of_prim, prim_asked, row_from, so_many}
use Rattle.pt_block_calls.specs.pt_operators.pt_moves.sem_rows.pt_host.Trees.{Tree, then_with}
use Rattle.pt_block_calls.specs.pt_operators.pt_moves.sem_rows.pt_host.World.{Stores, Program, allot}
use Rattle.pt_block_calls.specs.pt_operators.pt_moves.sem_rows.declared.heap_rows.progress.Progress.{Progress}
use Rattle.pt_block_calls.specs.pt_operators.pt_moves.sem_rows.declared.heap_rows.progress.Progress.TheVariants as progress
use Rattle.pt_block_calls.specs.pt_operators.pt_moves.sem_rows.heap_rows.Laws.{reached}
use Rattle.pt_block_calls.specs.pt_operators.pt_moves.sem_rows.heap_rows.Leads.{by_tree}
use Rattle.pt_block_calls.specs.pt_operators.pt_moves.sem_rows.heap_rows.RowsIn.{RowsIn}
use Rattle.pt_block_calls.specs.pt_operators.pt_moves.sem_rows.heap_rows.Told.{row_count, told, unpacks}
use Rattle.pt_block_calls.specs.pt_operators.pt_moves.sem_rows.heap_rows.Views.{slots_view}
use Rattle.pt_block_calls.proofs.pt_operators.pt_moves.sem_rows.heap_rows.RowLemmas.{asks_lead, raises_alike}
use Rattle.pt_block_calls.specs.pt_operators.pt_moves.Operands.{one_value}
use Rattle.pt_block_calls.proofs.pt_operators.pt_moves.TakeLemmas.{one_on}
use Rattle.pt_block_calls.proofs.pt_operators.pt_moves.MoveLemmas.{lacks_one, stuck_row}
use Rattle.pt_block_calls.specs.pt_function_rows.pt_code_facts.declared.facts.Blocks.{Blocks}
use Rattle.pt_block_calls.specs.pt_class_rows.Calls.{with_parts}
use Rattle.pt_block_calls.specs.declared.blocks.Given.TheVariants as gives
use Rattle.pt_block_calls.specs.BlockCalls.{AnswersAsk, AsksFor, AsksWith, RowsOperation, is_help}
use Rattle.pt_container_rows.specs.Answers.{over_row, progress_of_row}
use Rattle.pt_container_rows.specs.Rows.{Unpacks}

-- values that are put on the slots, the first one on top

drop-all : (vs : List Value) → drop (length vs) vs ≡ []
drop-all [] = refl
drop-all (v ∷ vs) = drop-all vs

module _ (vs : List Value) (n : ℕ) (is : n ≡ length vs) where
  pub none_over : (slots : List Slot) → slots ≡ map slot.Value (drop (n - 0) vs) ++ slots
  none_over slots = ap (λ l. map slot.Value l ++ slots) (sym (ap (λ k. drop k vs) (let k : n - 0 ≡ length vs = omega (arith, is) in k) ∙ drop-all vs))

  pub one_over : (at : ℕ) (old slots new : List Slot) (v d : Value) → at < n → slots ≡ map slot.Value (drop (n - at) vs) ++ old
      → v ≡ get_or vs (n - 1 - at) d → new ≡ slot.Value v ∷ slots → new ≡ map slot.Value (drop (n - (at + 1)) vs) ++ old
  one_over at old slots new v d h e f g =
      g ∙ (ap (λ ss. slot.Value v ∷ ss) e
      ∙ (ap (λ w. slot.Value w ∷ (map slot.Value (drop (n - at) vs) ++ old)) f
      ∙ (ap (λ k. slot.Value (get_or vs (n - 1 - at) d) ∷ (map slot.Value (drop k vs) ++ old)) (let k : n - at ≡ suc (n - 1 - at) = omega (arith, h) in k)
      ∙ (ap (λ l. map slot.Value l ++ old) (sym (drop-cons vs (n - 1 - at) d (omega (arith, h, is))))
      ∙ ap (λ k. map slot.Value (drop k vs) ++ old) (let k : n - 1 - at ≡ n - (at + 1) = omega (arith, h) in k)))))

  pub all_over : (at : ℕ) (old slots : List Slot) → at ≡ n → slots ≡ map slot.Value (drop (n - at) vs) ++ old → slots ≡ map slot.Value vs ++ old
  all_over at old slots h e = e ∙ ap (λ k. map slot.Value (drop k vs) ++ old) (let k : n - at ≡ 0 = omega (arith, h) in k)

pub quiet_over_values : (vs : List Value) (slots : List Slot) → active_in (map slot.Value vs ++ slots) ≡ active_in slots
quiet_over_values [] slots = refl
quiet_over_values (v ∷ vs) slots = quiet_over_values vs slots

-- as many values as are wanted are a row of them

row_is : (n : ℕ) (vs : List Value) (slots : List Slot) → length vs ≡ n
    → (r : Row Value n) × ((row_from n vs ≡ Some r) × (giving n r (slots_view slots) ≡ slots_view (map slot.Value vs ++ slots)))
row_is zero [] slots e = (tt, (refl, refl))
row_is zero (v ∷ vs) slots e = absurd (omega (arith, e))
row_is (suc n) [] slots e = absurd (omega (arith, e))
row_is (suc n) (v ∷ vs) slots e =
    let given = row_is n vs slots (omega (arith, e)) in
    ((v, given.0), (ap (λ o. option_map (λ r. (v, r)) o) given.1.0, ap (λ ss. S.value v ∷ ss) given.1.1))

row_none : (n : ℕ) (vs : List Value) → (length vs ≡ n → ⊥) → row_from n vs ≡ None
row_none zero [] e = absurd (e refl)
row_none zero (v ∷ vs) e = refl
row_none (suc n) [] e = refl
row_none (suc n) (v ∷ vs) e = ap (λ o. option_map (λ r. (v, r)) o) (row_none n vs (λ same. e (let h : suc (length vs) ≡ suc n = omega (arith, same) in h)))

abbrev with_row : (n : ℕ) → CodeObject Value → Ins → Slots Value → Row Value n → State Value
with_row n code i ss vs = S.on i.next (giving n vs ss)

abbrev Tells : (n : ℕ) → PrimAns → Type 0
Tells n a =
    (program : Program) (code : CodeObject Value) (i : Ins) (h : Here Value) (st : Stores) (slots : List Slot)
    → told program code i h (progress_of_row n a) (slots_view (over_row n a slots)) st
    ≡ by_tree code i (with_row n code i (slots_view slots)) (slots_view slots) (of_prim (so_many n) a h st)

values_told : (n : ℕ) (vs : List Value) → Tells n (prim.Values vs)
values_told n vs program code i h st slots = by (nat_eq (length vs) n) refl
  where
    by : (b : Bool) → nat_eq (length vs) n ≡ b
        → told program code i h (if b then progress.Next else progress.Outside Feature) (slots_view (if b then map slot.Value vs ++ slots else slots)) st
        ≡ by_tree code i (with_row n code i (slots_view slots)) (slots_view slots) (answer_if (row_from n vs) st)
    by true e =
        let given = row_is n vs slots (eqb-true (length vs) n e) in
        sym (ap (λ o. by_tree code i (with_row n code i (slots_view slots)) (slots_view slots) (answer_if o st)) given.1.0
        ∙ ap (λ ss. told program code i h progress.Next ss st) given.1.1)
    by false e = sym (ap (λ o. by_tree code i (with_row n code i (slots_view slots)) (slots_view slots) (answer_if o st))
        (row_none n vs (λ same. absurd (let t : nat_eq (length vs) n ≡ true = eq-eqb (length vs) n same in cc))))

row_told : (n : ℕ) (a : PrimAns) → ((t : List ℕ) → a ≡ prim.Print t → ⊥) → Tells n a
row_told n (prim.Value v) q program code i h st slots = refl
row_told n (prim.Values vs) q program code i h st slots = values_told n vs program code i h st slots
row_told n prim.End q program code i h st slots = refl
row_told n (prim.Raise class arg) q program code i h st slots =
    raises_alike code i (with_row n code i (slots_view slots)) (slots_view slots) (allot (error class (arguments_of arg) None h.active) st.world.heap) st
row_told n (prim.Help helper vs inverted) q program code i h st slots = refl
row_told n (prim.Print t) q program code i h st slots = absurd (q t refl)
row_told n (prim.Outside what) q program code i h st slots = refl

-- what unpacks prints nothing

abbrev IsQuiet : Content → Type 0
IsQuiet c = (vs : List Value) (h : List Object) (t : List ℕ) → placed c vs h ≡ prim.Print t → ⊥

quiet_room : (b : Bool) (a : PrimAns) (t : List ℕ) → (a ≡ prim.Print t → ⊥) → (if b then a else prim.Outside Heap) ≡ prim.Print t → ⊥
quiet_room true a t q e = q e
quiet_room false a t q e = absurd (cc)

quiet_raise : (class : ObjId) (text : List ℕ) → IsQuiet (content.Raise class text)
quiet_raise class text vs h t e = quiet_room (has_room (Text text ∷ []) h) (prim.Raise class (Some (next_object h))) t (λ f. absurd (cc)) e

quiet_values : (ws : List Value) → IsQuiet (values ws)
quiet_values ws vs h t e = quiet_room (has_room [] h) (prim.Values ws) t (λ f. absurd (cc)) e

quiet_new : (os : List NewObject) → IsQuiet (content.NewValues os)
quiet_new os vs h t e = quiet_room (has_room os h) (prim.Values (places_from (length h) (length os))) t (λ f. absurd (cc)) e

quiet_unless : (a b : Bool) (c : Content) → IsQuiet c
    → IsQuiet (unless (if a then Some (content.Raise VALUE_ERROR (codes "too many values to unpack"))
    else (if b then Some (content.Raise VALUE_ERROR (codes "not enough values to unpack")) else None)) c)
quiet_unless true b c q = quiet_raise VALUE_ERROR (codes "too many values to unpack")
quiet_unless false true c q = quiet_raise VALUE_ERROR (codes "not enough values to unpack")
quiet_unless false false c q = q

quiet_mismatch : (n m : ℕ) (c : Content) → IsQuiet c → IsQuiet (unless (mismatch n m) c)
quiet_mismatch n m c q = quiet_unless (nat_lt n m) (nat_lt m n) c q

quiet_used : (h : List Object) (v : Value) (what : List ℕ) → IsQuiet (use_type_error h v what)
quiet_used h v what = quiet_raise TYPE_ERROR (sentence (codes "'" ∷ class_name h v ∷ codes "' object is not " ∷ what ∷ []))

quiet_asked : (helper : Helper) (h : List Object) (v : Value) (k : Operand) → IsQuiet (asked_or helper (codes "iterable") h v k)
quiet_asked helper h v operand.Instance = λ vs g t e. absurd (cc)
quiet_asked helper h v (operand.Number z) = quiet_used h v (codes "iterable")
quiet_asked helper h v operand.Text = quiet_used h v (codes "iterable")
quiet_asked helper h v operand.Compound = quiet_used h v (codes "iterable")
quiet_asked helper h v operand.Plain = quiet_used h v (codes "iterable")

quiet_unpacked : (h : List Object) (n : ℕ) (v : Value) (o : Option Object) → IsQuiet (unpacked h n v o)
quiet_unpacked h n v None = quiet_asked (TakeOf n) h v (operand_of h v)
quiet_unpacked h n v (Some (object.Str s)) = quiet_mismatch n (length (chars s)) (content.NewValues (char_texts (chars s))) (quiet_new (char_texts (chars s)))
quiet_unpacked h n v (Some (object.List ws)) = quiet_mismatch n (length ws) (values ws) (quiet_values ws)
quiet_unpacked h n v (Some (object.Tuple ws)) = quiet_mismatch n (length ws) (values ws) (quiet_values ws)
quiet_unpacked h n v (Some (object.Dict d)) = λ vs g t e. absurd (cc)
quiet_unpacked h n v (Some (object.Set d)) = λ vs g t e. absurd (cc)
quiet_unpacked h n v (Some (object.Range r)) = quiet_mismatch n (range_length r) (values (integers_from r 0 n)) (quiet_values (integers_from r 0 n))
quiet_unpacked h n v (Some (object.Slice r)) = quiet_asked (TakeOf n) h v (operand_of h v)
quiet_unpacked h n v (Some (object.Cursor r)) = λ vs g t e. absurd (cc)
quiet_unpacked h n v (Some (object.View r)) = λ vs g t e. absurd (cc)
quiet_unpacked h n v (Some (object.Function f)) = quiet_asked (TakeOf n) h v (operand_of h v)
quiet_unpacked h n v (Some (object.Method m)) = quiet_asked (TakeOf n) h v (operand_of h v)
quiet_unpacked h n v (Some (object.Builtin b)) = quiet_asked (TakeOf n) h v (operand_of h v)
quiet_unpacked h n v (Some (object.Class c)) = quiet_asked (TakeOf n) h v (operand_of h v)
quiet_unpacked h n v (Some (object.Instance x)) = quiet_asked (TakeOf n) h v (operand_of h v)
quiet_unpacked h n v (Some (object.Error x)) = quiet_asked (TakeOf n) h v (operand_of h v)
quiet_unpacked h n v (Some (object.Generator g)) = λ vs k t e. absurd (cc)
quiet_unpacked h n v (Some (object.Frame g)) = quiet_asked (TakeOf n) h v (operand_of h v)
quiet_unpacked h n v (Some (object.CodeRef b hid)) = quiet_asked (TakeOf n) h v (operand_of h v)
quiet_unpacked h n v (Some (object.Module m)) = quiet_asked (TakeOf n) h v (operand_of h v)
quiet_unpacked h n v (Some (object.Super x)) = quiet_asked (TakeOf n) h v (operand_of h v)

quiet_around : (h : List Object) (first between last : List Value) → IsQuiet (around_list h first between last)
quiet_around h first between last vs k t e =
    quiet_room (has_room (new.List between ∷ []) k) (prim.Values (first ++ next_object h ∷ last)) t (λ f. absurd (cc)) e

quiet_parted : (h : List Object) (m : ℕ) (first behind : List Value) → IsQuiet (parted_behind h m first behind)
quiet_parted h m first behind = quiet_around h first (take (length behind - m) behind) (drop (length behind - m) behind)

quiet_starred_items : (h : List Object) (n m : ℕ) (ws : List Value) → IsQuiet (starred_items h n m ws)
quiet_starred_items h n m ws = by (nat_lt (length ws) (n + m))
  where
    by : (b : Bool) → IsQuiet (if b then content.Raise VALUE_ERROR (codes "not enough values to unpack") else parted_behind h m (take n ws) (drop n ws))
    by true = quiet_raise VALUE_ERROR (codes "not enough values to unpack")
    by false = quiet_parted h m (take n ws) (drop n ws)

quiet_starred : (h : List Object) (n m : ℕ) (v : Value) (o : Option Object) → IsQuiet (starred h n m v o)
quiet_starred h n m v None = quiet_asked ListOf h v (operand_of h v)
quiet_starred h n m v (Some (object.List ws)) = quiet_starred_items h n m ws
quiet_starred h n m v (Some (object.Tuple ws)) = quiet_starred_items h n m ws
quiet_starred h n m v (Some (object.Str s)) = λ vs k t e. absurd (cc)
quiet_starred h n m v (Some (object.Dict d)) = λ vs k t e. absurd (cc)
quiet_starred h n m v (Some (object.Set d)) = λ vs k t e. absurd (cc)
quiet_starred h n m v (Some (object.Range r)) = λ vs k t e. absurd (cc)
quiet_starred h n m v (Some (object.Cursor r)) = λ vs k t e. absurd (cc)
quiet_starred h n m v (Some (object.View r)) = λ vs k t e. absurd (cc)
quiet_starred h n m v (Some (object.Generator g)) = λ vs k t e. absurd (cc)
quiet_starred h n m v (Some (object.Slice r)) = quiet_asked ListOf h v (operand_of h v)
quiet_starred h n m v (Some (object.Function f)) = quiet_asked ListOf h v (operand_of h v)
quiet_starred h n m v (Some (object.Method m1)) = quiet_asked ListOf h v (operand_of h v)
quiet_starred h n m v (Some (object.Builtin b)) = quiet_asked ListOf h v (operand_of h v)
quiet_starred h n m v (Some (object.Class c)) = quiet_asked ListOf h v (operand_of h v)
quiet_starred h n m v (Some (object.Instance x)) = quiet_asked ListOf h v (operand_of h v)
quiet_starred h n m v (Some (object.Error x)) = quiet_asked ListOf h v (operand_of h v)
quiet_starred h n m v (Some (object.Frame g)) = quiet_asked ListOf h v (operand_of h v)
quiet_starred h n m v (Some (object.CodeRef b hid)) = quiet_asked ListOf h v (operand_of h v)
quiet_starred h n m v (Some (object.Module k)) = quiet_asked ListOf h v (operand_of h v)
quiet_starred h n m v (Some (object.Super x)) = quiet_asked ListOf h v (operand_of h v)

-- of any iterable value

quiet_moved : (r : Option Replacement) (os : List NewObject) (a : PrimAns) → ((t : List ℕ) → a ≡ prim.Print t → ⊥)
    → IsQuiet (content.Changed (record { replacement = r; objects = os }) a)
quiet_moved r os a q vs h t e = quiet_room (has_room os h) a t (q t) e

quiet_refused : (h : List Object) (r : Option Replacement) (text : List ℕ) → IsQuiet (views.refused h r text)
quiet_refused h r text = quiet_moved r (Text text ∷ []) (prim.Raise VALUE_ERROR (Some (next_object h))) (λ t e. absurd (cc))

module _ (h : List Object) (s : Source) where
  quiet_so_many : (n : ℕ) → IsQuiet (views.so_many h n s)
  quiet_so_many n = by (nat_lt n (length s.items)) (nat_lt (length s.items) n)
    where
      by : (b c : Bool)
          → IsQuiet (if b then views.refused h s.moved (codes "too many values to unpack") else (if c then views.refused h s.ended views.too_few else views.given h s))
      by true c = quiet_refused h s.moved (codes "too many values to unpack")
      by false true = quiet_refused h s.ended views.too_few
      by false false = quiet_moved s.ended (views.new_in s.items) (prim.Values (views.values_in (length h) s.items)) (λ t e. absurd (cc))

  quiet_around_it : (n m : ℕ) (ws : List Value) → IsQuiet (views.around h n m s ws)
  quiet_around_it n m ws =
      quiet_moved s.ended (views.new_in s.items ++ new.List (take (length (drop n ws) - m) (drop n ws)) ∷ [])
      (prim.Values (take n ws ++ views.new_value (length h + length (views.new_in s.items)) ∷ drop (length (drop n ws) - m) (drop n ws))) (λ t e. absurd (cc))

  quiet_starred_in : (n m : ℕ) → IsQuiet (views.starred_in h n m s)
  quiet_starred_in n m = by (nat_lt entry_limit (length s.items)) (nat_lt (length s.items) (n + m))
    where
      by : (b c : Bool)
          → IsQuiet (if b then content.Outside Length
          else (if c then views.refused h s.ended views.too_few else views.around h n m s (views.values_in (length h) s.items)))
      by true c = λ vs k t e. absurd (cc)
      by false true = quiet_refused h s.ended views.too_few
      by false false = quiet_around_it n m (views.values_in (length h) s.items)

  quiet_from : (w : Wanted) → IsQuiet (views.unpacked_from h w s)
  quiet_from (Count n) = quiet_so_many n
  quiet_from (Around n m) = quiet_starred_in n m

module _ (h : List Object) (w : Wanted) where
  quiet_object : (o : Option Object) → IsQuiet (views.of_object h w o)
  quiet_object o = quiet_from h (record { items = views.items_from h (views.most w) 0 o; moved = None; ended = None }) w

  quiet_over : (id : ObjId) (c : Cursor) (o : Option Object) → IsQuiet (views.of_over h w id c o)
  quiet_over id c o = by (views.has_count h c.count o)
    where
      by : (b : Bool)
          → IsQuiet (if b then views.unpacked_from h w (views.of_items id c (views.items_from h (views.most w) c.place o))
          else content.Raise RUNTIME_ERROR (codes "container changed during iteration"))
      by true = quiet_from h (views.of_items id c (views.items_from h (views.most w) c.place o)) w
      by false = quiet_raise RUNTIME_ERROR (codes "container changed during iteration")

  quiet_cursor : (id : ObjId) (c : Cursor) (o : Option ObjId) → IsQuiet (views.of_cursor h w id c o)
  quiet_cursor id c (Some over) = quiet_over id c (slice_get h over.0)
  quiet_cursor id c None = quiet_from h (views.of_items id c []) w

quiet_in_place : (h : List Object) (n : ℕ) (id : ObjId) (o : Option Object) → IsQuiet (views.unpacked h n id o)
quiet_in_place h n id None = quiet_unpacked h n (value.Obj id) (object_of h (value.Obj id))
quiet_in_place h n id (Some (object.Str x)) = quiet_unpacked h n (value.Obj id) (object_of h (value.Obj id))
quiet_in_place h n id (Some (object.List x)) = quiet_unpacked h n (value.Obj id) (object_of h (value.Obj id))
quiet_in_place h n id (Some (object.Tuple x)) = quiet_unpacked h n (value.Obj id) (object_of h (value.Obj id))
quiet_in_place h n id (Some (object.Dict x)) = quiet_object h (Count n) (Some (object.Dict x))
quiet_in_place h n id (Some (object.Set x)) = quiet_object h (Count n) (Some (object.Set x))
quiet_in_place h n id (Some (object.Range x)) = quiet_unpacked h n (value.Obj id) (object_of h (value.Obj id))
quiet_in_place h n id (Some (object.Slice x)) = quiet_unpacked h n (value.Obj id) (object_of h (value.Obj id))
quiet_in_place h n id (Some (object.Cursor x)) = quiet_cursor h (Count n) id x x.over
quiet_in_place h n id (Some (object.View x)) = quiet_object h (Count n) (Some (object.View x))
quiet_in_place h n id (Some (object.Function x)) = quiet_unpacked h n (value.Obj id) (object_of h (value.Obj id))
quiet_in_place h n id (Some (object.Method x)) = quiet_unpacked h n (value.Obj id) (object_of h (value.Obj id))
quiet_in_place h n id (Some (object.Builtin x)) = quiet_unpacked h n (value.Obj id) (object_of h (value.Obj id))
quiet_in_place h n id (Some (object.Class x)) = quiet_unpacked h n (value.Obj id) (object_of h (value.Obj id))
quiet_in_place h n id (Some (object.Instance x)) = quiet_unpacked h n (value.Obj id) (object_of h (value.Obj id))
quiet_in_place h n id (Some (object.Error x)) = quiet_unpacked h n (value.Obj id) (object_of h (value.Obj id))
quiet_in_place h n id (Some (object.Generator x)) = quiet_unpacked h n (value.Obj id) (object_of h (value.Obj id))
quiet_in_place h n id (Some (object.Frame x)) = quiet_unpacked h n (value.Obj id) (object_of h (value.Obj id))
quiet_in_place h n id (Some (object.CodeRef x y)) = quiet_unpacked h n (value.Obj id) (object_of h (value.Obj id))
quiet_in_place h n id (Some (object.Module x)) = quiet_unpacked h n (value.Obj id) (object_of h (value.Obj id))
quiet_in_place h n id (Some (object.Super x)) = quiet_unpacked h n (value.Obj id) (object_of h (value.Obj id))

quiet_starred_place : (h : List Object) (n m : ℕ) (id : ObjId) (o : Option Object) → IsQuiet (views.starred h n m id o)
quiet_starred_place h n m id None = quiet_starred h n m (value.Obj id) (object_of h (value.Obj id))
quiet_starred_place h n m id (Some (object.Str x)) = quiet_object h (Around n m) (Some (object.Str x))
quiet_starred_place h n m id (Some (object.List x)) = quiet_starred h n m (value.Obj id) (object_of h (value.Obj id))
quiet_starred_place h n m id (Some (object.Tuple x)) = quiet_starred h n m (value.Obj id) (object_of h (value.Obj id))
quiet_starred_place h n m id (Some (object.Dict x)) = quiet_object h (Around n m) (Some (object.Dict x))
quiet_starred_place h n m id (Some (object.Set x)) = quiet_object h (Around n m) (Some (object.Set x))
quiet_starred_place h n m id (Some (object.Range x)) = quiet_object h (Around n m) (Some (object.Range x))
quiet_starred_place h n m id (Some (object.Slice x)) = quiet_starred h n m (value.Obj id) (object_of h (value.Obj id))
quiet_starred_place h n m id (Some (object.Cursor x)) = quiet_cursor h (Around n m) id x x.over
quiet_starred_place h n m id (Some (object.View x)) = quiet_object h (Around n m) (Some (object.View x))
quiet_starred_place h n m id (Some (object.Function x)) = quiet_starred h n m (value.Obj id) (object_of h (value.Obj id))
quiet_starred_place h n m id (Some (object.Method x)) = quiet_starred h n m (value.Obj id) (object_of h (value.Obj id))
quiet_starred_place h n m id (Some (object.Builtin x)) = quiet_starred h n m (value.Obj id) (object_of h (value.Obj id))
quiet_starred_place h n m id (Some (object.Class x)) = quiet_starred h n m (value.Obj id) (object_of h (value.Obj id))
quiet_starred_place h n m id (Some (object.Instance x)) = quiet_starred h n m (value.Obj id) (object_of h (value.Obj id))
quiet_starred_place h n m id (Some (object.Error x)) = quiet_starred h n m (value.Obj id) (object_of h (value.Obj id))
quiet_starred_place h n m id (Some (object.Generator x)) = quiet_starred h n m (value.Obj id) (object_of h (value.Obj id))
quiet_starred_place h n m id (Some (object.Frame x)) = quiet_starred h n m (value.Obj id) (object_of h (value.Obj id))
quiet_starred_place h n m id (Some (object.CodeRef x y)) = quiet_starred h n m (value.Obj id) (object_of h (value.Obj id))
quiet_starred_place h n m id (Some (object.Module x)) = quiet_starred h n m (value.Obj id) (object_of h (value.Obj id))
quiet_starred_place h n m id (Some (object.Super x)) = quiet_starred h n m (value.Obj id) (object_of h (value.Obj id))

quiet_content : (h : List Object) (n : ℕ) (v : Value) → IsQuiet (views.unpack_content h n v)
quiet_content h n value.None = quiet_unpacked h n value.None (object_of h value.None)
quiet_content h n (value.Bool b) = quiet_unpacked h n (value.Bool b) (object_of h (value.Bool b))
quiet_content h n (value.Int z) = quiet_unpacked h n (value.Int z) (object_of h (value.Int z))
quiet_content h n value.Ellipsis = quiet_unpacked h n value.Ellipsis (object_of h value.Ellipsis)
quiet_content h n value.NotImplemented = quiet_unpacked h n value.NotImplemented (object_of h value.NotImplemented)
quiet_content h n (value.Obj id) = quiet_in_place h n id (slice_get h id.0)

quiet_starred_content : (h : List Object) (n m : ℕ) (v : Value) → IsQuiet (views.starred_content h n m v)
quiet_starred_content h n m value.None = quiet_starred h n m value.None (object_of h value.None)
quiet_starred_content h n m (value.Bool b) = quiet_starred h n m (value.Bool b) (object_of h (value.Bool b))
quiet_starred_content h n m (value.Int z) = quiet_starred h n m (value.Int z) (object_of h (value.Int z))
quiet_starred_content h n m value.Ellipsis = quiet_starred h n m value.Ellipsis (object_of h value.Ellipsis)
quiet_starred_content h n m value.NotImplemented = quiet_starred h n m value.NotImplemented (object_of h value.NotImplemented)
quiet_starred_content h n m (value.Obj id) = quiet_starred_place h n m id (slice_get h id.0)

quiet_unpacking : (n : ℕ) (star : Option ℕ) (v : Value) (heap : List Object) (t : List ℕ) → prim_answer (unpacking n star) (v ∷ []) heap ≡ prim.Print t → ⊥
quiet_unpacking n None v heap t e = quiet_content heap n v (v ∷ []) heap t e
quiet_unpacking n (Some b) v heap t e = quiet_starred_content heap b (n - suc b) v (v ∷ []) heap t e

-- what an operation answers alone

unpacked_alone : (n : ℕ) (star : Option ℕ) (program : Program) (h : Here Value) (st : Stores) (a : PrimAns) → is_help a ≡ false
    → ◌≡◌ {A = Tree (Row Value n)} (of_prim (so_many n) a h st) (unpacked_by program n star a h st)
unpacked_alone n star program h st (prim.Value v) e = refl
unpacked_alone n star program h st (prim.Values vs) e = refl
unpacked_alone n star program h st prim.End e = refl
unpacked_alone n star program h st (prim.Raise class arg) e = refl
unpacked_alone n star program h st (prim.Help x us b) e = absurd (cc)
unpacked_alone n star program h st (prim.Print t) e = refl
unpacked_alone n star program h st (prim.Outside what) e = refl

module _ (before : ℕ) (after : Option ℕ) (star : Option ℕ) (same : unpacking (row_count before after) star ≡ unpacks before after) (v : Value) (blocks : Blocks)
    (below : List Slot) (cells : List (Option Value)) (heap : List Object) (p : Progress) (changed : List (Option Value)) (grown : List Object) where
  abbrev count : ℕ
  count = row_count before after

  abbrev Leads : List Slot → Type 0
  Leads new = AnswersAsk (T.unpack v count star) (with_row count) blocks below cells heap p new changed grown

  abbrev by_op : Program → Here Value → Stores → Op → Tree (Row Value count)
  by_op program h st o = unpacked_by program count star (prim_answer o (v ∷ []) heap) h (with_parts cells (prim_heap o (v ∷ []) heap) st)

  prints_nothing : (a : PrimAns) → a ≡ prim_answer (unpacks before after) (v ∷ []) heap → (t : List ℕ) → a ≡ prim.Print t → ⊥
  prints_nothing a is t e = quiet_unpacking count star v heap t (ap (λ o. prim_answer o (v ∷ []) heap) same ∙ (sym is ∙ e))

  leads_alone : (a : PrimAns) (new : List Slot) → AsksFor (unpacks before after) (v ∷ []) (gives.Unpack before after) blocks cells heap (Ok a) changed grown
      → p ≡ progress_of_row count a → new ≡ over_row count a below → Leads new
  unfolding AnswersAsk AsksFor
  leads_alone a new asks goes stands program code i h st knows =
      ap (λ x. told program code i h x (slots_view new) (with_parts changed grown st)) goes
      ∙ (ap (λ ss. told program code i h (progress_of_row count a) (slots_view ss) (with_parts changed grown st)) stands
      ∙ (row_told count a (prints_nothing a asks.0.0) program code i h (with_parts changed grown st) below
      ∙ ap (λ (t : Tree (Row Value count)). by_tree code i (with_row count code i (slots_view below)) (slots_view below) t)
      (unpacked_alone count star program h (with_parts changed grown st) a asks.0.1
      ∙ (ap (λ k. unpacked_by program count star k h (with_parts changed grown st)) asks.0.0
      ∙ (ap (λ k. unpacked_by program count star (prim_answer (unpacks before after) (v ∷ []) heap) h (with_parts changed k st)) asks.1.0
      ∙ (ap (λ k. unpacked_by program count star (prim_answer (unpacks before after) (v ∷ []) heap) h
      (with_parts k (prim_heap (unpacks before after) (v ∷ []) heap) st)) asks.1.1
      ∙ ap (by_op program h st) (sym same)))))))

  leads_asked : AsksFor (unpacks before after) (v ∷ []) (gives.Unpack before after) blocks cells heap (Err p) changed grown → Leads below
  unfolding AnswersAsk AsksFor AsksWith
  leads_asked (x, (us, (b, (is, done)))) program code i h st knows =
      done below program code i h st knows
      ∙ ap (λ (t : Tree (Row Value count)). by_tree code i (with_row count code i (slots_view below)) (slots_view below) t)
      (ap (λ o. then_with (ask_with program x us h (with_parts cells (prim_heap (unpacks before after) (v ∷ []) heap) st))
      (λ r st1. prim_asked (so_many count) o (r ∷ []) h st1)) (sym same)
      ∙ (ap (λ k. unpacked_by program count star k h (with_parts cells (prim_heap (unpacks before after) (v ∷ []) heap) st)) (sym is)
      ∙ ap (by_op program h st) (sym same)))

module _ (before : ℕ) (after : Option ℕ) (blocks : Blocks) (old : List Slot) (cells : List (Option Value)) (heap : List Object)
    (changed : List (Option Value)) (grown : List Object) where
  module _ (v : Value) (below : List Slot) (e : one_value old ≡ Some v) (b : below ≡ drop 1 old) where
    unpacks_of : (p : Progress) (new : List Slot)
        → ((star : Option ℕ) → unpacking (row_count before after) star ≡ unpacks before after
        → AnswersAsk (T.unpack v (row_count before after) star) (with_row (row_count before after)) blocks below cells heap p new changed grown)
        → Unpacks before after blocks old cells heap p new changed grown
    unfolding AnswersAsk Unpacks
    unpacks_of p new done star same program code i h st knows =
        done star same program code i h st knows
        ∙ (sym (asks_lead program code i h (with_parts cells heap st) (T.unpack v (row_count before after) star)
        (with_row (row_count before after) code i (slots_view below)) (slots_view below) tt)
        ∙ ap (λ ss. reached program code i h (with_parts cells heap st)
        (one (slots_view ss) (λ w under. ask_in code i (T.unpack w (row_count before after) star) under (λ vs. S.on i.next (giving (row_count before after) vs under)))))
        (sym (one_on old v e ∙ ap (λ ss. slot.Value v ∷ ss) (sym b))))

    abbrev Asked : Op → Result PrimAns Progress → Type 0
    Asked o r = AsksFor o (v ∷ []) (gives.Unpack before after) blocks cells heap r changed grown

    asked_so : (o : Op) (r k : Result PrimAns Progress) → o ≡ unpacks before after → r ≡ k → Asked o r → Asked (unpacks before after) k
    asked_so o r k is so asks = subst (λ x. Asked x k) is (subst (λ x. Asked o x) so asks)

    pub unpacks_alone : (r : Result PrimAns Progress) (a : PrimAns) (p : Progress) (new : List Slot) (o : Op) (n : ℕ) → o ≡ unpacks before after
        → n ≡ row_count before after → Asked o r → r ≡ Ok a → p ≡ progress_of_row n a → new ≡ over_row n a below → Unpacks before after blocks old cells heap p new changed grown
    unpacks_alone r a p new o n is counts asks so goes stands =
        unpacks_of p new (λ star same. leads_alone before after star same v blocks below cells heap p changed grown a new
        (asked_so o r (Ok a) is so asks)
        (goes ∙ ap (λ k. progress_of_row k a) counts) (stands ∙ ap (λ k. over_row k a below) counts))

    pub unpacks_asked : (r : Result PrimAns Progress) (p : Progress) (o : Op) → o ≡ unpacks before after → Asked o r → r ≡ Err p
        → Unpacks before after blocks old cells heap p below changed grown
    unpacks_asked r p o is asks so =
        unpacks_of p below (λ star same. leads_asked before after star same v blocks below cells heap p changed grown (asked_so o r (Err p) is so asks))

  pub unpacks_nothing : (new : List Slot) → one_value old ≡ None → Unpacks before after blocks old cells heap progress.Lacks new changed grown
  unfolding Unpacks
  unpacks_nothing new e star same program code i h st knows = stuck_row program h (with_parts cells heap st) _ (lacks_one old e _)

module _ (blocks : Blocks) (old : List Slot) (cells : List (Option Value)) (heap : List Object) (p : Progress) (new : List Slot)
    (changed : List (Option Value)) (grown : List Object) where
  pub unpack_row : (n : ℕ) → Unpacks n None blocks old cells heap p new changed grown → RowsOperation (instr.Unpack n) blocks old cells heap p new changed grown
  unfolding Unpacks RowsOperation RowsIn
  unpack_row n done st s pc i truths knows = done None refl s.program s.code i s.here st knows

  pub unpack_star_row : (n m : ℕ) → Unpacks n (Some m) blocks old cells heap p new changed grown
      → RowsOperation (instr.UnpackStar n m) blocks old cells heap p new changed grown
  unfolding Unpacks RowsOperation RowsIn
  unpack_star_row n m done st s pc i truths knows =
      done (Some n) (ap (λ k. op.UnpackStar n k) (let k : (n + 1 + m) - suc n ≡ m = omega arith in k)) s.program s.code i s.here st knows
