-- The arguments of a call by the texts of their roles.
use Rattle.std.proofs.Common.{◌≡◌, ◌∙◌, ◌+◌, ◌<◌, ◌≤◌, ℕ, zero, suc, Bool, true, false, List, [], ◌∷◌, ◌++◌, length, drop, get_or, map, refl, sym, ap, append_assoc, append-nil, add-one, arith}
use Rattle.std.proofs.Math.Seq.{drop-cons}
use Rattle.std.specs.Prelude.{◌&&◌, if◌then◌else◌, codes}
use Rattle.std.specs.Str.{bytes_eq}
use Rattle.pt_tree.specs.Syntax.{Name}
use Rattle.sem_control.specs.control.Turn as T
use Rattle.pt_heap.specs.declared.value.Value.{Value}
use Rattle.pt_heap.specs.declared.view.Binding.{Binding}
use Rattle.pt_heap.specs.declared.object.Object.{Object}
use Rattle.pt_heap.specs.Entries.{Entry}
use Rattle.pt_bind.specs.declared.arguments.Args.{Args}
use Rattle.pt_content.specs.pt_attrs.Look.{object_of}
use Rattle.sem_code.specs.slots.Instructions.{role_of}
use Rattle.pt_block_calls.specs.pt_operators.pt_moves.sem_rows.pt_host.Arguments.{are_arguments, arguments, entry_argument, is_argument, is_named_dict, is_tuple, items_in, named_argument, named_arguments, named_in, plain_argument, plain_arguments}
use Rattle.pt_call_rows.specs.declared.roles.Role.{Role}
use Rattle.pt_call_rows.specs.declared.roles.Role.TheVariants as role
use Rattle.pt_call_rows.specs.Roles.{as_role}

pub no_more : {A : Type 0} (xs : List A) → xs ≡ xs ++ []
no_more xs = sym (append-nil xs)

-- the role of a text

pub no_text : (x : Name) → x ≡ [] → as_role role.Positional x ≡ role_of x
no_text x e = sym (ap role_of e)

role_by : (x : Name) (a b : Bool) → (x ≡ [] → ⊥) → bytes_eq x (codes "*") ≡ a → bytes_eq x (codes "**") ≡ b
    → role_of x ≡ (if a then T.spread else (if b then T.spread_named else T.named x))
role_by [] a b n e f = absurd (n refl)
role_by (c ∷ cs) a b n e f = λ j. if e j then T.spread else (if f j then T.spread_named else T.named (c ∷ cs))

module _ (x : Name) (n : x ≡ [] → ⊥) where
  pub one_star : bytes_eq x (codes "*") ≡ true → as_role role.Spread x ≡ role_of x
  one_star e = sym (role_by x true (bytes_eq x (codes "**")) n e refl)

  pub two_stars : bytes_eq x (codes "*") ≡ false → bytes_eq x (codes "**") ≡ true → as_role role.SpreadNamed x ≡ role_of x
  two_stars e f = sym (role_by x false true n e f)

  pub a_name : bytes_eq x (codes "*") ≡ false → bytes_eq x (codes "**") ≡ false → as_role role.Named x ≡ role_of x
  a_name e f = sym (role_by x false false n e f)

-- one argument
module _ (h : List Object) (x : Name) (v : Value) (r : Role) (is : as_role r x ≡ role_of x) where
  pub is_any : r ≡ role.Positional → true ≡ is_argument h (role_of x) v
  is_any e = ap (λ q. is_argument h q v) (ap (λ y. as_role y x) (sym e) ∙ is)

  pub is_spread : r ≡ role.Spread → is_tuple (object_of h v) ≡ is_argument h (role_of x) v
  is_spread e = ap (λ q. is_argument h q v) (ap (λ y. as_role y x) (sym e) ∙ is)

  pub is_spread_named : r ≡ role.SpreadNamed → is_named_dict h (object_of h v) ≡ is_argument h (role_of x) v
  is_spread_named e = ap (λ q. is_argument h q v) (ap (λ y. as_role y x) (sym e) ∙ is)

  pub is_called_so : r ≡ role.Named → true ≡ is_argument h (role_of x) v
  is_called_so e = ap (λ q. is_argument h q v) (ap (λ y. as_role y x) (sym e) ∙ is)

  module _ (ps : List Value) where
    pub plain_pushed : r ≡ role.Positional → ps ++ v ∷ [] ≡ ps ++ plain_argument h (role_of x) v
    plain_pushed e = ap (λ q. ps ++ plain_argument h q v) (ap (λ y. as_role y x) (sym e) ∙ is)

    pub plain_spread : r ≡ role.Spread → ps ++ items_in (object_of h v) ≡ ps ++ plain_argument h (role_of x) v
    plain_spread e = ap (λ q. ps ++ plain_argument h q v) (ap (λ y. as_role y x) (sym e) ∙ is)

    pub plain_kept : r ≡ role.SpreadNamed → ps ≡ ps ++ plain_argument h (role_of x) v
    plain_kept e = no_more ps ∙ ap (λ q. ps ++ plain_argument h q v) (ap (λ y. as_role y x) (sym e) ∙ is)

    pub plain_unnamed : r ≡ role.Named → ps ≡ ps ++ plain_argument h (role_of x) v
    plain_unnamed e = no_more ps ∙ ap (λ q. ps ++ plain_argument h q v) (ap (λ y. as_role y x) (sym e) ∙ is)

  module _ (bs : List Binding) where
    pub named_kept : r ≡ role.Positional → bs ≡ bs ++ named_argument h (role_of x) v
    named_kept e = no_more bs ∙ ap (λ q. bs ++ named_argument h q v) (ap (λ y. as_role y x) (sym e) ∙ is)

    pub named_unspread : r ≡ role.Spread → bs ≡ bs ++ named_argument h (role_of x) v
    named_unspread e = no_more bs ∙ ap (λ q. bs ++ named_argument h q v) (ap (λ y. as_role y x) (sym e) ∙ is)

    pub named_spread : r ≡ role.SpreadNamed → bs ++ named_in h (object_of h v) ≡ bs ++ named_argument h (role_of x) v
    named_spread e = ap (λ q. bs ++ named_argument h q v) (ap (λ y. as_role y x) (sym e) ∙ is)

    pub named_pushed : r ≡ role.Named → bs ++ record { name = x; value = v } ∷ [] ≡ bs ++ named_argument h (role_of x) v
    named_pushed e = ap (λ q. bs ++ named_argument h q v) (ap (λ y. as_role y x) (sym e) ∙ is)

-- entries of a dictionary, one after the other
pub entry_next : (h : List Object) (bs : List Binding) (b : Binding) (e : Entry) (es : List Entry) → b ≡ entry_argument h e
    → (bs ++ b ∷ []) ++ map (entry_argument h) es ≡ bs ++ map (entry_argument h) (e ∷ es)
entry_next h bs b e es is = append_assoc bs (b ∷ []) (map (entry_argument h) es) ∙ ap (λ y. bs ++ y ∷ map (entry_argument h) es) is

-- one after the other

past : {A : Type 0} (ys : List A) (n : ℕ) → length ys ≤ n → drop n ys ≡ []
past [] zero h = refl
past [] (suc n) h = refl
past (y ∷ ys) zero h = absurd (omega (arith, h))
past (y ∷ ys) (suc n) h = past ys n (omega (arith, h))

plain_none : (h : List Object) (rs : List T.Role) → plain_arguments h rs [] ≡ []
plain_none h [] = refl
plain_none h (r ∷ rs) = refl

named_none : (h : List Object) (rs : List T.Role) → named_arguments h rs [] ≡ []
named_none h [] = refl
named_none h (r ∷ rs) = refl

all_none : (h : List Object) (rs : List T.Role) → are_arguments h rs [] ≡ true
all_none h [] = refl
all_none h (r ∷ rs) = refl

module _ (h : List Object) (xs : List Name) (vs : List Value) (at : ℕ) where
  abbrev plain_left : ℕ → List Value
  plain_left n = plain_arguments h (map role_of (drop n xs)) (drop n vs)

  abbrev named_left : ℕ → List Binding
  named_left n = named_arguments h (map role_of (drop n xs)) (drop n vs)

  abbrev are_left : ℕ → Bool
  are_left n = are_arguments h (map role_of (drop n xs)) (drop n vs)

  module _ (x d : Name) (v e : Value) (l : at < length xs) (k : at < length vs) (is : x ≡ get_or xs at d) (are : v ≡ get_or vs at e) where
    plain_here : plain_argument h (role_of x) v ++ plain_left (at + 1) ≡ plain_left at
    plain_here = ap (λ n. plain_argument h (role_of x) v ++ plain_left n) (add-one at)
        ∙ ((λ j. plain_arguments h (role_of (is j) ∷ map role_of (drop (suc at) xs)) (are j ∷ drop (suc at) vs))
        ∙ sym (ap (λ ys. plain_arguments h (map role_of ys) (drop at vs)) (drop-cons xs at d l)
        ∙ ap (λ ws. plain_arguments h (role_of (get_or xs at d) ∷ map role_of (drop (suc at) xs)) ws) (drop-cons vs at e k)))

    named_here : named_argument h (role_of x) v ++ named_left (at + 1) ≡ named_left at
    named_here = ap (λ n. named_argument h (role_of x) v ++ named_left n) (add-one at)
        ∙ ((λ j. named_arguments h (role_of (is j) ∷ map role_of (drop (suc at) xs)) (are j ∷ drop (suc at) vs))
        ∙ sym (ap (λ ys. named_arguments h (map role_of ys) (drop at vs)) (drop-cons xs at d l)
        ∙ ap (λ ws. named_arguments h (role_of (get_or xs at d) ∷ map role_of (drop (suc at) xs)) ws) (drop-cons vs at e k)))

    are_here : (is_argument h (role_of x) v && are_left (at + 1)) ≡ are_left at
    are_here = ap (λ n. is_argument h (role_of x) v && are_left n) (add-one at)
        ∙ ((λ j. are_arguments h (role_of (is j) ∷ map role_of (drop (suc at) xs)) (are j ∷ drop (suc at) vs))
        ∙ sym (ap (λ ys. are_arguments h (map role_of ys) (drop at vs)) (drop-cons xs at d l)
        ∙ ap (λ ws. are_arguments h (role_of (get_or xs at d) ∷ map role_of (drop (suc at) xs)) ws) (drop-cons vs at e k)))

    pub plain_next : (ps : List Value) → (ps ++ plain_argument h (role_of x) v) ++ plain_arguments h (map role_of (drop (at + 1) xs)) (drop (at + 1) vs)
        ≡ ps ++ plain_arguments h (map role_of (drop at xs)) (drop at vs)
    plain_next ps = append_assoc ps (plain_argument h (role_of x) v) (plain_left (at + 1)) ∙ ap (λ l. ps ++ l) plain_here

    pub named_next : (bs : List Binding) → (bs ++ named_argument h (role_of x) v) ++ named_arguments h (map role_of (drop (at + 1) xs)) (drop (at + 1) vs)
        ≡ bs ++ named_arguments h (map role_of (drop at xs)) (drop at vs)
    named_next bs = append_assoc bs (named_argument h (role_of x) v) (named_left (at + 1)) ∙ ap (λ l. bs ++ l) named_here

    pub one_is_not : is_argument h (role_of x) v ≡ false → are_arguments h (map role_of (drop at xs)) (drop at vs) ≡ false
    one_is_not n = sym are_here ∙ ap (λ b. b && are_left (at + 1)) n

    pub next_are : is_argument h (role_of x) v ≡ true
        → are_arguments h (map role_of (drop (at + 1) xs)) (drop (at + 1) vs) ≡ are_arguments h (map role_of (drop at xs)) (drop at vs)
    next_are y = sym (ap (λ b. b && are_left (at + 1)) y) ∙ are_here

  pub all_values_are : length vs ≤ at → are_arguments h (map role_of (drop at xs)) (drop at vs) ≡ true
  all_values_are l = ap (λ ws. are_arguments h (map role_of (drop at xs)) ws) (past vs at l) ∙ all_none h (map role_of (drop at xs))

  pub all_texts_are : length xs ≤ at → are_arguments h (map role_of (drop at xs)) (drop at vs) ≡ true
  all_texts_are l = ap (λ ys. are_arguments h (map role_of ys) (drop at vs)) (past xs at l)

  module _ (ps : List Value) (bs : List Binding) (p : ps ++ plain_arguments h (map role_of (drop at xs)) (drop at vs) ≡ plain_arguments h (map role_of xs) vs)
      (b : bs ++ named_arguments h (map role_of (drop at xs)) (drop at vs) ≡ named_arguments h (map role_of xs) vs) where
    both : plain_left at ≡ [] → named_left at ≡ [] → ◌≡◌ {A = Args} (record { plain = ps; named = bs }) (arguments h (map role_of xs) vs)
    both e f = λ j. record { plain = (sym (ap (λ l. ps ++ l) e ∙ append-nil ps) ∙ p) j; named = (sym (ap (λ l. bs ++ l) f ∙ append-nil bs) ∙ b) j }

    pub values_end : length vs ≤ at → ◌≡◌ {A = Args} (record { plain = ps; named = bs }) (arguments h (map role_of xs) vs)
    values_end l = both (ap (λ ws. plain_arguments h (map role_of (drop at xs)) ws) (past vs at l) ∙ plain_none h (map role_of (drop at xs)))
        (ap (λ ws. named_arguments h (map role_of (drop at xs)) ws) (past vs at l) ∙ named_none h (map role_of (drop at xs)))

    pub roles_end : length xs ≤ at → ◌≡◌ {A = Args} (record { plain = ps; named = bs }) (arguments h (map role_of xs) vs)
    roles_end l = both (ap (λ ys. plain_arguments h (map role_of ys) (drop at vs)) (past xs at l))
        (ap (λ ys. named_arguments h (map role_of ys) (drop at vs)) (past xs at l))
