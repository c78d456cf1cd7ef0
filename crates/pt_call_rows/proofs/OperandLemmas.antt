-- The operands of builtin functions and of methods.
use Rattle.std.proofs.Common.{◌≡◌, ◌<◌, false, true, List, [], ◌∷◌, length, get_or, Option, Some, None, refl, sym, ap, ◌∙◌, arith}
use Rattle.std.specs.Prelude.{not, ◌&&◌, codes, if◌then◌else◌, option_map}
use Rattle.std.specs.Str.{bytes_eq}
use Rattle.pt_heap.specs.declared.value.Value.{Value}
use Rattle.pt_heap.specs.declared.view.Binding.{Binding}
use Rattle.pt_bind.specs.Binding.{value_of}
use Rattle.pt_bind.specs.declared.arguments.Args.{Args}
use Rattle.pt_content.specs.declared.function.Function.{Function}
use Rattle.pt_content.specs.declared.function.Function.TheVariants as function
use Rattle.pt_content.specs.declared.method_name.MethodName.{MethodName}
use Rattle.pt_content.specs.declared.method_name.MethodName.TheVariants as method
use Rattle.pt_tree.specs.Syntax.{Name}
use Rattle.pt_block_calls.specs.pt_operators.pt_moves.sem_rows.pt_host.Calls.{are_either, are_print_names, are_sort_names, is_either, method_operands, or_none, print_operands, sort_operands, operands_of, unnamed_operands}
use Rattle.pt_call_rows.specs.CallRows.{is_print, is_sort}

-- by the count of names

module _ (p q : Name) where
  pub no_names : (bs : List Binding) → length bs ≡ 0 → true ≡ are_either p q bs
  no_names [] e = refl
  no_names (b ∷ bs) e = absurd (omega (arith, e))

  pub one_name : (bs : List Binding) (d : Binding) → length bs ≡ 1 → is_either p q (get_or bs 0 d).name ≡ are_either p q bs
  one_name [] d e = absurd (omega (arith, e))
  one_name (b ∷ []) d e = refl
  one_name (b ∷ c ∷ bs) d e = absurd (omega (arith, e))

  pub two_names : (bs : List Binding) (d e : Binding) → length bs ≡ 2
      → ((is_either p q (get_or bs 0 d).name && is_either p q (get_or bs 1 e).name) && not (bytes_eq (get_or bs 0 d).name (get_or bs 1 e).name)) ≡ are_either p q bs
  two_names [] d e h = absurd (omega (arith, h))
  two_names (b ∷ []) d e h = absurd (omega (arith, h))
  two_names (b ∷ c ∷ []) d e h = refl
  two_names (b ∷ c ∷ x ∷ bs) d e h = absurd (omega (arith, h))

  pub more_names : (bs : List Binding) → 2 < length bs → false ≡ are_either p q bs
  more_names [] h = absurd (omega (arith, h))
  more_names (b ∷ []) h = absurd (omega (arith, h))
  more_names (b ∷ c ∷ []) h = absurd (omega (arith, h))
  more_names (b ∷ c ∷ x ∷ bs) h = refl

-- all but `print` take arguments without names

pub unnamed_of : (f : Function) (args : Args) → is_print f ≡ false → operands_of f args ≡ unnamed_operands args.named args.plain
unnamed_of function.Print args e = absurd (cc)
unnamed_of function.Len args e = refl
unnamed_of function.Repr args e = refl
unnamed_of function.Isinstance args e = refl
unnamed_of function.Issubclass args e = refl
unnamed_of function.Iter args e = refl
unnamed_of function.Next args e = refl
unnamed_of function.Abs args e = refl
unnamed_of function.Divmod args e = refl
unnamed_of function.Ord args e = refl
unnamed_of function.Chr args e = refl
unnamed_of function.Hasattr args e = refl
unnamed_of function.Getattr args e = refl
unnamed_of function.Setattr args e = refl
unnamed_of function.Callable args e = refl
unnamed_of function.Exit args e = refl
unnamed_of function.Object args e = refl
unnamed_of function.Type args e = refl
unnamed_of function.Int args e = refl
unnamed_of function.Bool args e = refl
unnamed_of function.Str args e = refl
unnamed_of function.Range args e = refl
unnamed_of function.Super args e = refl
unnamed_of function.MakeTuple args e = refl
unnamed_of function.MakeSet args e = refl
unnamed_of function.IsOf args e = refl
unnamed_of function.JoinItems args e = refl
unnamed_of function.SortItems args e = refl
unnamed_of function.Refill args e = refl
unnamed_of function.HasName args e = refl
unnamed_of function.GetName args e = refl
unnamed_of function.Refuse args e = refl
unnamed_of function.IsError args e = refl
unnamed_of function.HoldsInstance args e = refl
unnamed_of function.PlainRepr args e = refl
unnamed_of function.Dots args e = refl
unnamed_of function.Parts args e = refl
unnamed_of function.Wrap args e = refl
unnamed_of function.TextGiven args e = refl
unnamed_of function.TruthGiven args e = refl
unnamed_of function.LengthGiven args e = refl
unnamed_of function.Write args e = refl

pub print_is : (f : Function) → is_print f ≡ true → f ≡ function.Print
print_is function.Print e = refl
print_is function.Len e = absurd (cc)
print_is function.Repr e = absurd (cc)
print_is function.Isinstance e = absurd (cc)
print_is function.Issubclass e = absurd (cc)
print_is function.Iter e = absurd (cc)
print_is function.Next e = absurd (cc)
print_is function.Abs e = absurd (cc)
print_is function.Divmod e = absurd (cc)
print_is function.Ord e = absurd (cc)
print_is function.Chr e = absurd (cc)
print_is function.Hasattr e = absurd (cc)
print_is function.Getattr e = absurd (cc)
print_is function.Setattr e = absurd (cc)
print_is function.Callable e = absurd (cc)
print_is function.Exit e = absurd (cc)
print_is function.Object e = absurd (cc)
print_is function.Type e = absurd (cc)
print_is function.Int e = absurd (cc)
print_is function.Bool e = absurd (cc)
print_is function.Str e = absurd (cc)
print_is function.Range e = absurd (cc)
print_is function.Super e = absurd (cc)
print_is function.MakeTuple e = absurd (cc)
print_is function.MakeSet e = absurd (cc)
print_is function.IsOf e = absurd (cc)
print_is function.JoinItems e = absurd (cc)
print_is function.SortItems e = absurd (cc)
print_is function.Refill e = absurd (cc)
print_is function.HasName e = absurd (cc)
print_is function.GetName e = absurd (cc)
print_is function.Refuse e = absurd (cc)
print_is function.IsError e = absurd (cc)
print_is function.HoldsInstance e = absurd (cc)
print_is function.PlainRepr e = absurd (cc)
print_is function.Dots e = absurd (cc)
print_is function.Parts e = absurd (cc)
print_is function.Wrap e = absurd (cc)
print_is function.TextGiven e = absurd (cc)
print_is function.TruthGiven e = absurd (cc)
print_is function.LengthGiven e = absurd (cc)
print_is function.Write e = absurd (cc)

module _ (args : Args) where
  pub printed : (vs : List Value) → are_print_names args.named ≡ true → vs ≡ print_operands args → Some vs ≡ operands_of function.Print args
  printed vs e is = ap (λ l. Some l) is ∙ sym (ap (λ b. if b then Some (print_operands args) else None) e)

  pub misnamed : are_print_names args.named ≡ false → None ≡ operands_of function.Print args
  misnamed e = sym (ap (λ b. if b then Some (print_operands args) else None) e)

  pub print_operands_of : (f : Function) (o : Option (List Value)) → is_print f ≡ true → o ≡ operands_of function.Print args → o ≡ operands_of f args
  print_operands_of f o e is = is ∙ ap (λ k. operands_of k args) (sym (print_is f e))

  pub plain_operands_of : (f : Function) (vs : List Value) → is_print f ≡ false → args.named ≡ [] → vs ≡ args.plain → Some vs ≡ operands_of f args
  plain_operands_of f vs e n is = ap (λ l. Some l) is ∙ sym (unnamed_of f args e ∙ ap (λ bs. unnamed_operands bs args.plain) n)

  pub named_operands_of : (f : Function) → is_print f ≡ false → (args.named ≡ [] → ⊥) → None ≡ operands_of f args
  named_operands_of f e n = by args.named n ∙ sym (unnamed_of f args e)
    where
      by : (bs : List Binding) → (bs ≡ [] → ⊥) → None ≡ unnamed_operands bs args.plain
      by [] n = absurd (n refl)
      by (b ∷ bs) n = refl

-- all methods but `sort` do

pub unnamed_of_method : (m : MethodName) (args : Args) → is_sort m ≡ false → method_operands m args ≡ unnamed_operands args.named args.plain
unnamed_of_method method.Sort args e = absurd (cc)
unnamed_of_method method.Join args e = refl
unnamed_of_method method.Split args e = refl
unnamed_of_method method.Strip args e = refl
unnamed_of_method method.Lstrip args e = refl
unnamed_of_method method.Rstrip args e = refl
unnamed_of_method method.Replace args e = refl
unnamed_of_method method.Find args e = refl
unnamed_of_method method.Startswith args e = refl
unnamed_of_method method.Endswith args e = refl
unnamed_of_method method.Count args e = refl
unnamed_of_method method.Append args e = refl
unnamed_of_method method.Extend args e = refl
unnamed_of_method method.Insert args e = refl
unnamed_of_method method.Pop args e = refl
unnamed_of_method method.Remove args e = refl
unnamed_of_method method.Index args e = refl
unnamed_of_method method.Reverse args e = refl
unnamed_of_method method.Clear args e = refl
unnamed_of_method method.Copy args e = refl
unnamed_of_method method.Get args e = refl
unnamed_of_method method.Keys args e = refl
unnamed_of_method method.Values args e = refl
unnamed_of_method method.Items args e = refl
unnamed_of_method method.Setdefault args e = refl
unnamed_of_method method.Update args e = refl
unnamed_of_method method.Add args e = refl
unnamed_of_method method.Discard args e = refl

pub sort_is : (m : MethodName) → is_sort m ≡ true → m ≡ method.Sort
sort_is method.Sort e = refl
sort_is method.Join e = absurd (cc)
sort_is method.Split e = absurd (cc)
sort_is method.Strip e = absurd (cc)
sort_is method.Lstrip e = absurd (cc)
sort_is method.Rstrip e = absurd (cc)
sort_is method.Replace e = absurd (cc)
sort_is method.Find e = absurd (cc)
sort_is method.Startswith e = absurd (cc)
sort_is method.Endswith e = absurd (cc)
sort_is method.Count e = absurd (cc)
sort_is method.Append e = absurd (cc)
sort_is method.Extend e = absurd (cc)
sort_is method.Insert e = absurd (cc)
sort_is method.Pop e = absurd (cc)
sort_is method.Remove e = absurd (cc)
sort_is method.Index e = absurd (cc)
sort_is method.Reverse e = absurd (cc)
sort_is method.Clear e = absurd (cc)
sort_is method.Copy e = absurd (cc)
sort_is method.Get e = absurd (cc)
sort_is method.Keys e = absurd (cc)
sort_is method.Values e = absurd (cc)
sort_is method.Items e = absurd (cc)
sort_is method.Setdefault e = absurd (cc)
sort_is method.Update e = absurd (cc)
sort_is method.Add e = absurd (cc)
sort_is method.Discard e = absurd (cc)

-- behind the object of a method

module _ (r : Value) (bs : List Binding) where
  abbrev behind : Option (List Value) → Option (List Value)
  behind o = option_map (λ vs. r ∷ vs) o

  abbrev keys : List Value
  keys = or_none (value_of (codes "key") bs) ∷ or_none (value_of (codes "reverse") bs) ∷ []

  pub sort_given : (vs operands : List Value) → vs ≡ [] → are_sort_names bs ≡ true → operands ≡ r ∷ keys → Some operands ≡ behind (sort_operands bs vs)
  sort_given [] operands e n is = ap (λ l. Some l) is ∙ sym (ap (λ b. behind (if b then Some keys else None)) n)
  sort_given (v ∷ vs) operands e n is = absurd (cc)

  pub sort_misnamed : (vs : List Value) → vs ≡ [] → are_sort_names bs ≡ false → None ≡ behind (sort_operands bs vs)
  sort_misnamed [] e n = sym (ap (λ b. behind (if b then Some keys else None)) n)
  sort_misnamed (v ∷ vs) e n = absurd (cc)

  pub sort_plain : (vs : List Value) → (vs ≡ [] → ⊥) → None ≡ behind (sort_operands bs vs)
  sort_plain [] e = absurd (e refl)
  sort_plain (v ∷ vs) e = refl

module _ (r : Value) (args : Args) where
  pub sort_called : (m : MethodName) → is_sort m ≡ true → behind r args.named (sort_operands args.named args.plain) ≡ behind r args.named (method_operands m args)
  sort_called m e = ap (λ k. behind r args.named (method_operands k args)) (sym (sort_is m e))

  pub method_named : (m : MethodName) → is_sort m ≡ false → (args.named ≡ [] → ⊥) → None ≡ behind r args.named (method_operands m args)
  method_named m e f = by args.named f ∙ sym (ap (behind r args.named) (unnamed_of_method m args e))
    where
      by : (bs : List Binding) → (bs ≡ [] → ⊥) → None ≡ behind r args.named (unnamed_operands bs args.plain)
      by [] f = absurd (f refl)
      by (b ∷ bs) f = refl

  pub method_plain : (m : MethodName) (operands : List Value) → is_sort m ≡ false → args.named ≡ [] → operands ≡ r ∷ args.plain
      → Some operands ≡ behind r args.named (method_operands m args)
  method_plain m operands e f is =
      ap (λ l. Some l) is ∙ sym (ap (behind r args.named) (unnamed_of_method m args e ∙ ap (λ bs. unnamed_operands bs args.plain) f))
