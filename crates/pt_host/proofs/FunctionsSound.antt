-- Functions that are called, also those that are written in Python, keep a store sound.
use Rattle.std.proofs.Common.{◌≡◌, ℕ, Bool, true, false, List, [], ◌∷◌, length, map, drop, Option, None, Some, Result, Ok, Err, slice_get, if◌then◌else◌, refl, not, arith}
use Rattle.std.specs.Option.{option_or}
use Rattle.std.specs.Str.{bytes_eq}
use Rattle.pt_tree.specs.Syntax.{Name}
use Rattle.sem_control.specs.control.Turn.{End, gave, left_by}
use Rattle.pt_heap.specs.declared.value.Value.{Value}
use Rattle.pt_heap.specs.declared.value.Value.TheVariants as value
use Rattle.pt_heap.specs.declared.view.Binding.{Binding}
use Rattle.pt_heap.specs.declared.object.Function.{Function}
use Rattle.pt_heap.specs.declared.object.Object.{Object}
use Rattle.pt_heap.specs.declared.object.Object.TheVariants as object
use Rattle.pt_heap.specs.Sound.{IsWithin}
use Rattle.pt_names.specs.Names.{Named, name_value}
use Rattle.pt_bind.specs.NameSets.{is_among}
use Rattle.pt_bind.specs.Binding.{value_of, names_of, by_name, plain_values, values_of, is_too_many, double_name, extra_named, unexpected_name, first_unfilled, locals_of, unless, binding_with}
use Rattle.pt_bind.specs.declared.arguments.Args.{Args}
use Rattle.pt_bind.specs.declared.arguments.Params.{Params}
use Rattle.pt_bind.specs.declared.arguments.BindErr.{BindErr}
use Rattle.pt_bind.specs.declared.arguments.BindErr.TheVariants as refusal
use Rattle.pt_bind.specs.declared.arguments.Locals.{Locals}
use Rattle.pt_content.specs.declared.op.Op.{Op}
use Rattle.pt_content.specs.declared.op.Op.TheVariants as op
use Rattle.sem_run.specs.run.Host.{Here, made, beyond}
use Rattle.pt_host.specs.declared.places.TheConstants.{TYPE_ERROR}
use Rattle.pt_host.specs.World.{Stores, CodeFacts, Program, with_objects}
use Rattle.pt_host.specs.Texts.{binding_text}
use Rattle.pt_host.specs.Calls.{parameters_given, first_value, result_of, run_block, run_given, block_of, call_bound, call_function, Values, values_given}
use Rattle.pt_host.specs.Sound.{IsWithinIf, AllWithin, CellsWithin, NamesWithin, IsSoundFrom, EndWithin, KeepsSound}
use Rattle.pt_prims.proofs.ValueLists.{all-dropped}
use Rattle.pt_host.proofs.ArgumentsSound.{below-bindings, filtered-within, BindingsWithin}
use Rattle.pt_host.proofs.StarredSound.{values-sound, LocalsWithin, ValuesSound}
use Rattle.pt_host.proofs.TreesSound.{from-fewer, made-all-sound, then-keeps, FitFrom}
use Rattle.pt_host.proofs.Within.{at-least, from-here, heap-grows, raise-text-sound, text-fits}
use Rattle.pt_host.specs.Primitives.{Awaited, one_value}
use Rattle.pt_host.proofs.VariablesSound.{named-within, cells-both}
use Rattle.std.specs.Prelude.{codes, pos}
use Rattle.pt_content.specs.declared.answer.Helper.{Helper as Asked}
use Rattle.pt_content.specs.declared.answer.Helper.TheVariants as asked
use Rattle.pt_content.specs.declared.answer.PrimAns.{PrimAns}
use Rattle.pt_content.specs.declared.answer.PrimAns.TheVariants as prim
use Rattle.pt_helper_objects.specs.Objects.{helper_place}
use Rattle.pt_helper_objects.specs.pt_prelude.declared.kinds.Helper.{Helper}
use Rattle.pt_helper_objects.specs.pt_prelude.Asked.{function_of}
use Rattle.pt_prims.specs.Laws.{AnswerIsWithin}
use Rattle.pt_prims.specs.Operations.{prim_answer, prim_heap}
use Rattle.pt_prims.proofs.Places.{all-append, all-grow, if-grows, values-below}
use Rattle.pt_host.specs.Calls.{ask, ask_with, asked_in_place, behind_helper, by_prim_or_helper, call_at, call_hidden, helper_arguments, objects_for, operated, opposite, or_usual, standing_for}
use Rattle.pt_host.specs.Operators.{method_name, reflected_name, sign_of}
use Rattle.pt_host.specs.Trees.{made_all}
use Rattle.pt_host.proofs.PrimsWithin.{Fitting, Operated, operated-within, answered, asked-sound, given-if, one-value-fits}

-- what parameters are bound to
pub value-within : (h : List Object) (x : Name) (bs : List Binding) → BindingsWithin h bs → IsWithinIf h (value_of x bs)
value-within h x [] w = tt
value-within h x (b ∷ bs) w = by (value-within h x bs w.1) (bytes_eq b.name x)
  where
    by : IsWithinIf h (value_of x bs) → (c : Bool) → IsWithinIf h (if c then Some b.value else value_of x bs)
    by rest true = w.0
    by rest false = rest

abbrev ResultWithin : List Object → Result Locals BindErr → Type 0
ResultWithin h (Ok ls) = LocalsWithin h ls
ResultWithin h (Err e) = Unit {0}

unless-within : (h : List Object) (o : Option (List ℕ)) (refuse : List ℕ → BindErr) (r : Result Locals BindErr) → ResultWithin h r → ResultWithin h (unless o refuse r)
unless-within h None refuse r w = w
unless-within h (Some x) refuse r w = tt

module _ (h : List Object) (defaults : List Binding) (args : Args) (d : BindingsWithin h defaults) (a : BindingsWithin h args.named) where
  by-name-within : (x : Name) → IsWithinIf h (by_name defaults args x)
  by-name-within x = by (value_of x args.named) (value-within h x args.named a)
    where
      by : (o : Option Value) → IsWithinIf h o → IsWithinIf h (option_or o (value_of x defaults))
      by None w = value-within h x defaults d
      by (Some v) w = w

  plain-values-within : (xs : List Name) (vs : List Value) → AllWithin h vs → CellsWithin h (plain_values defaults args xs vs)
  plain-values-within [] vs w = tt
  plain-values-within (x ∷ xs) [] w = (by-name-within x, plain-values-within xs [] tt)
  plain-values-within (x ∷ xs) (v ∷ vs) w = (w.0, plain-values-within xs vs w.1)

  only-within : (xs : List Name) → CellsWithin h (map (by_name defaults args) xs)
  only-within [] = tt
  only-within (x ∷ xs) = (by-name-within x, only-within xs)

  -- what is told, from the last cause on
  abbrev filled : Params → Result Locals BindErr
  filled ps = unless (first_unfilled (names_of ps) (values_of ps defaults args)) refusal.Missing (Ok (locals_of ps defaults args))

  abbrev expected : Params → Result Locals BindErr
  expected ps = unless (unexpected_name ps (extra_named ps args)) refusal.Unexpected (filled ps)

  binding-within : (ps : Params) → AllWithin h args.plain → ResultWithin h (binding_with ps defaults args)
  binding-within ps w =
      by (cells-both h (plain_values defaults args ps.plain args.plain) (map (by_name defaults args) ps.only) (plain-values-within ps.plain args.plain w) (only-within ps.only))
      (is_too_many ps args)
    where
      left : AllWithin h (drop (length ps.plain) args.plain)
      left = all-dropped h (length ps.plain) args.plain w

      left-named : BindingsWithin h (extra_named ps args)
      left-named = filtered-within h (λ b. not (is_among (names_of ps) b.name)) args.named a

      by : CellsWithin h (values_of ps defaults args) → (b : Bool)
          → ResultWithin h (if b then Err (refusal.TooMany (length args.plain)) else unless (double_name ps args) refusal.Double (expected ps))
      by values true = tt
      by values false =
          unless-within h (double_name ps args) refusal.Double (expected ps) (unless-within h (unexpected_name ps (extra_named ps args)) refusal.Unexpected (filled ps)
          (unless-within h (first_unfilled (names_of ps) (values_of ps defaults args)) refusal.Missing (Ok (locals_of ps defaults args)) (values, left, left-named)))

given-within : (h : List Object) (xs : List Name) (os : List (Option Value)) → CellsWithin h os → NamesWithin h (parameters_given xs os)
given-within h [] os w = tt
given-within h (x ∷ xs) [] w = tt
given-within h (x ∷ xs) (o ∷ os) w = (w.0, given-within h xs os w.1)

module _ (h : List Object) (facts : CodeFacts) (ps : Named) (w : NamesWithin h ps) where
  first-within : (x : Name) → IsWithinIf h (first_value facts ps x)
  first-within x = by (is_among facts.cells x)
    where
      by : (b : Bool) → IsWithinIf h (if b then None else name_value x ps)
      by true = tt
      by false = named-within h x ps w

  pub firsts-within : (xs : List Name) → NamesWithin h (map (λ x. (x, first_value facts ps x)) xs)
  firsts-within [] = tt
  firsts-within (x ∷ xs) = (first-within x, firsts-within xs)

  pub new-within : (xs : List Name) → CellsWithin h (map (λ x. name_value x ps) xs)
  new-within [] = tt
  new-within (x ∷ xs) = (named-within h x ps w, new-within xs)

end-sound : (n : ℕ) (st : Stores) (e : End Value) → IsSoundFrom n st → EndWithin st.world.heap e → KeepsSound IsWithin n (result_of e st)
end-sound n st (gave v) s w = (s, w)
end-sound n st (left_by v) s w = (s, w)

run-sound : (n : ℕ) (st : Stores) → IsSoundFrom n st → (facts : CodeFacts) (f : Function) (ps : Named) → NamesWithin st.world.heap ps
    → KeepsSound IsWithin n (run_block facts f ps st)
run-sound n st s facts f ps w =
    let heap : List Object = st.world.heap in (
      record {
        objects = s.objects;
        heap = s.heap;
        globals = s.globals;
        cells = cells-both heap st.world.cells (map (λ x. name_value x ps) facts.cells) s.cells (new-within heap facts ps w facts.cells);
        names = s.names;
      },
      firsts-within heap facts ps w facts.locals,
      λ x st1 s1 e. end-sound n st1 x.end (at-least n (length heap) st1 s.objects s1) e.0,
    )

module _ (n : ℕ) (st : Stores) (r : Here Value) (s : IsSoundFrom n st) (active : IsWithinIf st.world.heap r.active) where
  abbrev heap : List Object
  heap = st.world.heap

  pub type-error : (t : List ℕ) → KeepsSound IsWithin n (Rattle.pt_host.specs.Errors.raise_saying TYPE_ERROR t r st)
  type-error t = raise-text-sound IsWithin n st TYPE_ERROR t r s (_, refl) active

  given-sound-from : (facts : CodeFacts) (f : Function) (v : Values) → ValuesSound heap v → KeepsSound IsWithin n (run_given facts f v st)
  given-sound-from facts f (made vs k) w =
      run-sound n (with_objects k st) (heap-grows n n st k s w.1 w.0 (omega (arith, s.objects, w.0))) facts f (parameters_given facts.locals vs)
      (given-within k facts.locals vs w.2)
  given-sound-from facts f (beyond what) w = tt

  bound-sound : (facts : CodeFacts) (f : Function) (x : Result Locals BindErr) → ResultWithin heap x → KeepsSound IsWithin n (call_bound facts f x r st)
  bound-sound facts f (Ok ls) w = given-sound-from facts f (values_given facts.params ls heap) (values-sound heap facts.params ls s.heap w)
  bound-sound facts f (Err e) w = by f.hidden
    where
      by : (b : Bool) → KeepsSound IsWithin n (if b then Rattle.sem_run.specs.run.Host.leave Rattle.pt_base.specs.declared.what.What.TheVariants.Feature else Rattle.pt_host.specs.Errors.raise_saying TYPE_ERROR (binding_text facts.name e) r st)
      by true = tt
      by false = type-error (binding_text facts.name e)

  module _ (args : Args) (plain : AllWithin heap args.plain) (named : BindingsWithin heap args.named) where
    pub function-sound : (facts : CodeFacts) (f : Function) → BindingsWithin heap f.defaults → KeepsSound IsWithin n (call_function facts f args r st)
    function-sound facts f d = by facts.yields
      where
        by : (b : Bool) → KeepsSound IsWithin n (if b then Rattle.sem_run.specs.run.Host.leave Rattle.pt_base.specs.declared.what.What.TheVariants.Feature else call_bound facts f (binding_with facts.params f.defaults args) r st)
        by true = tt
        by false = bound-sound facts f (binding_with facts.params f.defaults args) (binding-within heap f.defaults args d named facts.params plain)

    module _ (program : Program) where
      hidden-sound : (o : Option Object) (place : ℕ) → slice_get heap place ≡ o → KeepsSound IsWithin n (call_hidden program o args r st)
      hidden-sound (Some (object.Function f)) place e =
          function-sound (program.facts (block_of f)) f (below-bindings heap f.defaults (s.heap.fits place (object.Function f) e).places)
      hidden-sound o place e = tt

      at-sound : (o : Option ℕ) → KeepsSound IsWithin n (call_at program o args r st)
      at-sound None = tt
      at-sound (Some place) = hidden-sound (slice_get heap place) place refl

      pub ask-sound : (f : Helper) → KeepsSound IsWithin n (ask program f args r st)
      ask-sound f = at-sound (helper_place f)

-- what is asked in place of an operation
module _ (h : List Object) where
  abbrev ArgsWithin : Args → Type 0
  ArgsWithin args = AllWithin h args.plain × BindingsWithin h args.named

  or-usual-within : (u v : Value) → IsWithin h u → IsWithin h v → IsWithin h (or_usual u v)
  or-usual-within u value.None w i = w
  or-usual-within u v w i = i

  helper-arguments-within : (a : Asked) (vs ms : List Value) → AllWithin h vs → AllWithin h ms → ArgsWithin (helper_arguments a vs ms)
  helper-arguments-within asked.SortOf (l ∷ key ∷ turned ∷ []) ms w m = ((w.0, tt), (w.1.0, (w.1.1.0, tt)))
  helper-arguments-within asked.InOf (v ∷ x ∷ []) ms w m = ((w.1.0, (w.0, tt)), tt)
  helper-arguments-within asked.PrintOf (separator ∷ end ∷ vs) (printed ∷ blank ∷ line ∷ []) w m =
      ((m.0, (or-usual-within blank separator m.1.0 w.0, (or-usual-within line end m.1.1.0 w.1.0, tt))), tt)
  helper-arguments-within asked.StrOf (v ∷ vs) ms w m = ((w.0, tt), tt)
  helper-arguments-within asked.ReprOf (v ∷ vs) ms w m = ((w.0, tt), tt)
  helper-arguments-within (asked.TakeOf n) vs ms w m = (all-append h vs (value.Int (pos n) ∷ []) w (tt, tt), tt)
  helper-arguments-within a vs ms w m = (all-append h vs ms w m, tt)

  objects-fit : (a : Asked) (vs : List Value) → AllWithin h vs → FitFrom (length h) (objects_for a vs)
  objects-fit (asked.BinaryOf o) vs w =
      ((λ k l. text-fits k (method_name o)), ((λ k l. text-fits k (reflected_name o)), ((λ k l. text-fits k (sign_of o)), tt)))
  objects-fit asked.PrintOf (separator ∷ end ∷ vs) w = (
    (λ k l. record { places = values-below k vs (all-grow h k vs l w.1.1); classes = tt }),
    ((λ k l. text-fits k (codes " ")), ((λ k l. text-fits k (10 ∷ [])), tt)),
  )
  objects-fit a vs w = tt

  opposite-within : (v : Value) → IsWithin h v → IsWithin h (opposite v)
  opposite-within (value.Bool b) w = tt
  opposite-within v w = w

  standing-within : (o : Op) (a : Asked) (vs : List Value) (inverted : Bool) (v : Value) → AllWithin h vs → IsWithin h v → IsWithin h (standing_for o a vs inverted v)
  standing-within (op.InPlace o) asked.ExtendOf (l ∷ vs) inverted v w i = w.0
  standing-within o a vs true v w i = opposite-within v i
  standing-within o a vs false v w i = i

module _ (program : Program) (r : Here Value) where
  pub ask-with-sound : (n : ℕ) (a : Asked) (vs : List Value) (st : Stores) → IsSoundFrom n st → AllWithin st.world.heap vs → IsWithinIf st.world.heap r.active
      → KeepsSound IsWithin n (ask_with program a vs r st)
  ask-with-sound n a vs st s w active =
      let heap : List Object = st.world.heap in
      let m : ℕ = length heap in
      let here : IsSoundFrom m st = from-here n st s in
      from-fewer IsWithin n m s.objects (ask_with program a vs r st)
      (then-keeps AllWithin IsWithin m (made_all (objects_for a vs) st) (λ ms st1. ask program (function_of a) (helper_arguments a vs ms) r st1)
      (made-all-sound m (objects_for a vs) st here (objects-fit heap a vs w))
      (λ ms st1 s1 i.
      let k : List Object = st1.world.heap in
      let within : ArgsWithin k (helper_arguments a vs ms) = helper-arguments-within k a vs ms (all-grow heap k vs s1.objects w) i in
      ask-sound m st1 r s1 (if-grows heap k r.active s1.objects active) (helper_arguments a vs ms) within.0 within.1 program (function_of a)))

  -- whatever is awaited
  module _ {A : Type 0} (P : List Object → A → Type 0) (q : Awaited A) (fits : Fitting P q) where
    behind-sound : (n : ℕ) (o : Op) (a : Asked) (vs : List Value) (inverted : Bool) (v : Value) (st : Stores) → IsSoundFrom n st → AllWithin st.world.heap vs
        → IsWithin st.world.heap v → IsWithinIf st.world.heap r.active → KeepsSound P n (behind_helper q o a vs inverted v r st)
    behind-sound n (op.Format c) a (x ∷ spec ∷ vs) inverted v st s w i active =
        asked-sound P n q fits (op.Format None) (v ∷ spec ∷ []) r st (i, (w.1.0, tt)) s active
    behind-sound n op.Truth a vs inverted v st s w i active = given-if P n q fits (q.value v) st s (fits.value st.world.heap v i)
    behind-sound n op.Iter a vs inverted v st s w i active = given-if P n q fits (q.value v) st s (fits.value st.world.heap v i)
    behind-sound n o a vs inverted v st s w i active =
        let u : Value = standing_for o a vs inverted v in
        given-if P n q fits (q.value u) st s (fits.value st.world.heap u (standing-within st.world.heap o a vs inverted v w i))

    in-place-sound : (n : ℕ) (o : Op) (a : PrimAns) (st : Stores) → IsSoundFrom n st → AnswerIsWithin st.world.heap a → IsWithinIf st.world.heap r.active
        → KeepsSound P n (asked_in_place program q o a r st)
    in-place-sound n o (prim.Help a vs inverted) st s w active =
        let heap : List Object = st.world.heap in
        let m : ℕ = length heap in
        from-fewer P n m s.objects (asked_in_place program q o (prim.Help a vs inverted) r st)
        (then-keeps IsWithin P m (ask_with program a vs r st) (λ v st1. behind_helper q o a vs inverted v r st1)
        (ask-with-sound m a vs st (from-here n st s) w active)
        (λ v st1 s1 i.
        let k : List Object = st1.world.heap in
        behind-sound m o a vs inverted v st1 s1 (all-grow heap k vs s1.objects w) i (if-grows heap k r.active s1.objects active)))
    in-place-sound n o a st s w active = answered P n q fits a r st s w active

    pub operated-sound : (n : ℕ) (o : Op) (vs : List Value) (st : Stores) → AllWithin st.world.heap vs → IsSoundFrom n st → IsWithinIf st.world.heap r.active
        → KeepsSound P n (operated program q o vs r st)
    unfolding operated
    operated-sound n o vs st all s active =
        let h : List Object = st.world.heap in
        let x : Operated n o vs r st = operated-within n o vs r st all s active in
        in-place-sound n o (prim_answer o vs h) (with_objects (prim_heap o vs h) st) x.store x.answer x.active

  pub prim-or-helper-sound : (n : ℕ) (o : Op) (vs : List Value) (st : Stores) → AllWithin st.world.heap vs → IsSoundFrom n st → IsWithinIf st.world.heap r.active
      → KeepsSound IsWithin n (by_prim_or_helper program o vs r st)
  prim-or-helper-sound n o vs st all s active = operated-sound IsWithin one_value one-value-fits n o vs st all s active
