-- Texts of constants, each kept once, and where their objects stand.
use Rattle.std.proofs.Common.{◌≡◌, ◌<◌, ℕ, zero, suc, ◌+◌, Bool, true, false, ◌≤◌, List, [], ◌∷◌, ◌++◌, length, take, get_or, if◌then◌else◌, Option, Some, None, refl, sym, ap, ◌∙◌, subst, arith, bytes_eq}
use Rattle.std.specs.Prelude.{position, nat_lt, cond}
use Rattle.std.specs.List.{flat_map, position_or_len}
use Rattle.std.specs.Map.{keys_of}
use Rattle.std.proofs.lemmas.Bool.Decides.{nat_tests}
use Rattle.std.proofs.lemmas.List.{map-append, take_more, take_all}
use Rattle.std.proofs.lemmas.List.Recursion.{is_position_or_len}
use Rattle.std.proofs.lemmas.Slice.Eq.{bytes_eq-Decides}
use Rattle.pt_base.specs.declared.numbers.ObjId.{ObjId}
use Rattle.pt_tree.specs.Syntax.{Name}
use Rattle.pt_heap.specs.declared.value.Value.{Value}
use Rattle.pt_heap.specs.declared.value.Value.TheVariants as value
use Rattle.pt_tree.specs.declared.expression.Constant.TheVariants as constant
use Rattle.pt_code.specs.declared.Const.{Const}
use Rattle.pt_builtin_objects.specs.declared.TheConstants.{START}
use Rattle.pt_builtin_objects.specs.Start.{start_rows}
use Rattle.pt_helper_objects.specs.Objects.{helper_rows}
use Rattle.pt_helper_objects.specs.declared.TheConstants.{HELPERS}
use Rattle.pt_names.specs.Names.{Named, place_of, unless_placed, with_place}
use Rattle.pt_assembler.specs.Tables.{kept, number_in}
use Rattle.pt_assembler.proofs.TableLemmas.{kept_within}
use Rattle.pt_code_tables.specs.pt_builtins.pt_host.World.{Program}
use Rattle.pt_code_tables.specs.pt_builtins.pt_host.Answers.{constant_value, text_object}
use Rattle.sem_code.specs.slots.BlockObject.{constant_of}
use Rattle.pt_code_loader.specs.Texts.{text_of, kept_texts, values_in, AreValues}

number_len : {A : Type 0} (is : A → Bool) (xs : List A) → number_in is xs ≡ position_or_len is xs
number_len {A} is xs = is_position_or_len (number_in is) is refl step xs
  where
    step : (x : A) (xs : List A) → number_in is (x ∷ xs) ≡ cond (is x) 0 (1 + number_in is xs)
    step x xs = by (is x)
      where
        by : (b : Bool) → (if b then 0 else suc (number_in is xs)) ≡ cond b 0 (1 + number_in is xs)
        by true = refl
        by false = omega arith

some_is : {A : Type 0} (a b : A) → Some a ≡ Some b → a ≡ b
some_is a b e = ap (λ o. elim o [ None ↦ a | Some x ↦ x ]) e

position_there : {A : Type 0} (is : A → Bool) (xs : List A) → number_in is xs < length xs → position is xs ≡ Some (number_in is xs)
position_there is xs h = ap (λ n. cond (nat_lt n (length xs)) (Some n) None) (sym (number_len is xs))
    ∙ ap (λ b. cond b (Some (number_in is xs)) None) (let t : nat_lt (number_in is xs) (length xs) ≡ true = grind (arith, nat_tests) in t)

position_is : {A : Type 0} (is : A → Bool) (xs : List A) (n : ℕ) → position is xs ≡ Some n → (n ≡ number_in is xs) × (n < length xs)
position_is is xs n e = by (nat_lt (position_or_len is xs) (length xs)) refl e
  where
    by : (b : Bool) → nat_lt (position_or_len is xs) (length xs) ≡ b → cond b (Some (position_or_len is xs)) None ≡ Some n → (n ≡ number_in is xs) × (n < length xs)
    by true t e =
        let same : position_or_len is xs ≡ n = some_is (position_or_len is xs) n e in
        (sym (number_len is xs ∙ same), subst (λ m. m < length xs) same (let l : position_or_len is xs < length xs = grind (arith, nat_tests) in l))
    by false t e = absurd (let no : None ≡ Some n = e in cc)

position_none : {A : Type 0} (is : A → Bool) (xs : List A) → position is xs ≡ None → number_in is xs < length xs → ⊥
position_none is xs e h = let no : None ≡ Some (number_in is xs) = sym e ∙ position_there is xs h in absurd cc

kept_same : {A : Type 0} (is : A → Bool) (a : A) (xs : List A) → number_in is xs < length xs → kept is a xs ≡ xs
kept_same is a [] h = absurd (omega (arith, h))
kept_same is a (x ∷ xs) h = by (is x) h (kept_same is a xs)
  where
    by : (b : Bool) → (if b then 0 else suc (number_in is xs)) < length (x ∷ xs) → (number_in is xs < length xs → kept is a xs ≡ xs)
        → (if b then x ∷ xs else x ∷ kept is a xs) ≡ x ∷ xs
    by true h rest = refl
    by false h rest = ap (λ l. x ∷ l) (rest (omega (arith, h)))

kept_new : {A : Type 0} (is : A → Bool) (a : A) (xs : List A) → (number_in is xs < length xs → ⊥) → kept is a xs ≡ xs ++ a ∷ []
kept_new is a [] h = refl
kept_new is a (x ∷ xs) h = by (is x) h (kept_new is a xs)
  where
    by : (b : Bool) → ((if b then 0 else suc (number_in is xs)) < length (x ∷ xs) → ⊥) → ((number_in is xs < length xs → ⊥) → kept is a xs ≡ xs ++ a ∷ [])
        → (if b then x ∷ xs else x ∷ kept is a xs) ≡ x ∷ (xs ++ a ∷ [])
    by true h rest = absurd (h (omega arith))
    by false h rest = ap (λ l. x ∷ l) (rest (λ l. h (omega (arith, l))))

keys_kept : (x : Name) (names : Named) → keys_of (with_place x names) ≡ kept (bytes_eq x) x (keys_of names)
keys_kept x names = by (place_of x names) refl
  where
    by : (o : Option ℕ) → place_of x names ≡ o → keys_of (unless_placed o x names) ≡ kept (bytes_eq x) x (keys_of names)
    by (Some n) e = let p = position_is (bytes_eq x) (keys_of names) n e in
        sym (kept_same (bytes_eq x) x (keys_of names) (subst (λ m. m < length (keys_of names)) p.0 p.1))
    by None e = map-append (λ e. e.0) names ((x, None) ∷ []) ∙ sym (kept_new (bytes_eq x) x (keys_of names) (position_none (bytes_eq x) (keys_of names) e))

-- the number is the same where it is kept
again : {A : Type 0} (is : A → Bool) (a : A) (xs : List A) → is a ≡ true → number_in is (kept is a xs) ≡ number_in is xs
again is a [] h = ap (λ (b : Bool). if b then 0 else 1) h
again is a (y ∷ ys) h = by (is y) refl (again is a ys h)
  where
    by : (b : Bool) → is y ≡ b → number_in is (kept is a ys) ≡ number_in is ys
        → number_in is (if b then y ∷ ys else y ∷ kept is a ys) ≡ (if b then 0 else suc (number_in is ys))
    by true e rest = ap (λ (b : Bool). if b then 0 else suc (number_in is ys)) e
    by false e rest = ap (λ (b : Bool). if b then 0 else suc (number_in is (kept is a ys))) e ∙ ap suc rest

pub names_kept : (x : Name) (ts : List Name) (old new : Named) → ts ≡ keys_of old → new ≡ with_place x old → keys_of new ≡ kept (bytes_eq x) x ts
names_kept x ts old new e f = ap keys_of f ∙ (keys_kept x old ∙ ap (kept (bytes_eq x) x) (sym e))

pub place_is : (x : Name) (ts : List Name) (old new : Named) (p : ℕ) → ts ≡ keys_of old → new ≡ with_place x old → place_of x new ≡ Some p
    → p ≡ number_in (bytes_eq x) ts
place_is x ts old new p e f g =
    (position_is (bytes_eq x) (keys_of new) p g).0 ∙ (ap (number_in (bytes_eq x)) (names_kept x ts old new e f)
    ∙ again (bytes_eq x) x ts ((bytes_eq-Decides x x).1 refl))

pub kept_end : (x : Name) (ts : List Name) (old new : Named) (p : ℕ) → ts ≡ keys_of old → new ≡ with_place x old → place_of x new ≡ Some p → p ≡ length ts
    → ts ++ x ∷ [] ≡ kept (bytes_eq x) x ts
kept_end x ts old new p e f g l =
    sym (kept_new (bytes_eq x) x ts (λ h. let s = place_is x ts old new p e f g in let no : ⊥ = omega (arith, h, s, l) in no))

number_within : {A : Type 0} (is : A → Bool) (xs : List A) → (number_in is xs ≡ length xs → ⊥) → number_in is xs < length xs
number_within is [] h = absurd (h refl)
number_within is (x ∷ xs) h = by (is x) h (number_within is xs)
  where
    by : (b : Bool) → ((if b then 0 else suc (number_in is xs)) ≡ length (x ∷ xs) → ⊥) → ((number_in is xs ≡ length xs → ⊥) → number_in is xs < length xs)
        → (if b then 0 else suc (number_in is xs)) < length (x ∷ xs)
    by true h rest = omega arith
    by false h rest = let l = rest (λ e. h (omega (arith, e))) in omega (arith, l)

pub kept_there : (x : Name) (ts : List Name) (old new : Named) (p : ℕ) → ts ≡ keys_of old → new ≡ with_place x old → place_of x new ≡ Some p → (p ≡ length ts → ⊥)
    → ts ≡ kept (bytes_eq x) x ts
kept_there x ts old new p e f g l =
    sym (kept_same (bytes_eq x) x ts (number_within (bytes_eq x) ts (λ s. l (place_is x ts old new p e f g ∙ s))))

pub id_at : (id : ObjId) (p : ℕ) → id.0 ≡ length start_rows + length helper_rows + p
    → value.Obj id ≡ value.Obj (record { 0 = length start_rows + length helper_rows + p })
id_at id p e = λ i. value.Obj (record { 0 = e i })

pub as_many_rows : length start_rows ≡ length START
as_many_rows = refl

pub as_many_helpers : length helper_rows ≡ length HELPERS
as_many_helpers = refl

-- the object of a kept text

number_front : {A : Type 0} (is : A → Bool) (xs ys : List A) → number_in is xs < length xs → number_in is (xs ++ ys) ≡ number_in is xs
number_front is [] ys h = absurd (omega (arith, h))
number_front is (x ∷ xs) ys h = by (is x) h (number_front is xs ys)
  where
    by : (b : Bool) → (if b then 0 else suc (number_in is xs)) < length (x ∷ xs) → (number_in is xs < length xs → number_in is (xs ++ ys) ≡ number_in is xs)
        → (if b then 0 else suc (number_in is (xs ++ ys))) ≡ (if b then 0 else suc (number_in is xs))
    by true h rest = refl
    by false h rest = ap suc (rest (omega (arith, h)))

front_less : {A : Type 0} (xs ys : List A) (n : ℕ) → n < length xs → n < length (xs ++ ys)
front_less [] ys n h = absurd (omega (arith, h))
front_less (x ∷ xs) ys zero h = omega arith
front_less (x ∷ xs) ys (suc n) h = let l = front_less xs ys n (omega (arith, h)) in omega (arith, l)

pub text_value : (program : Program) (x : Name) (old new more : List Name) (p : ℕ) → new ≡ kept (bytes_eq x) x old → program.texts ≡ new ++ more
    → p ≡ number_in (bytes_eq x) old → constant_value program (constant.Str x) ≡ value.Obj (record { 0 = length start_rows + length helper_rows + p })
text_value program x old new more p e f g =
    let is = bytes_eq x in
    let ks = kept is x old in
    let same : number_in is ks ≡ number_in is old = again is x old ((bytes_eq-Decides x x).1 refl) in
    let within : number_in is ks < length ks = subst (λ n. n < length ks) (sym same) (kept_within is x old) in
    let front = number_front is ks more within in
    let there = position_there is (ks ++ more) (subst (λ n. n < length (ks ++ more)) (sym front) (front_less ks more (number_in is ks) within)) in
    ap (λ ts. text_object program (position is ts)) (f ∙ ap (λ l. l ++ more) e)
    ∙ (ap (text_object program) there ∙ ap (λ n. value.Obj (record { 0 = length start_rows + length helper_rows + n })) (front ∙ (same ∙ sym g)))

-- constant by constant

kept_more : (ts xs ys : List Name) → kept_texts ts (xs ++ ys) ≡ kept_texts (kept_texts ts xs) ys
kept_more ts [] ys = refl
kept_more ts (x ∷ xs) ys = kept_more (kept (bytes_eq x) x ts) xs ys

append_assoc : {A : Type 0} (xs ys zs : List A) → (xs ++ ys) ++ zs ≡ xs ++ (ys ++ zs)
append_assoc [] ys zs = refl
append_assoc (x ∷ xs) ys zs = ap (λ l. x ∷ l) (append_assoc xs ys zs)

append_none : {A : Type 0} (xs : List A) → xs ++ [] ≡ xs
append_none [] = refl
append_none (x ∷ xs) = ap (λ l. x ∷ l) (append_none xs)

flat_more : (texts : List Name) (ks : List Const) (k : Const) → flat_map (text_of texts) (ks ++ k ∷ []) ≡ flat_map (text_of texts) ks ++ text_of texts k
flat_more texts [] k = append_none (text_of texts k)
flat_more texts (j ∷ ks) k = ap (λ l. text_of texts j ++ l) (flat_more texts ks k) ∙ sym (append_assoc (text_of texts j) (flat_map (text_of texts) ks) (text_of texts k))

pub one_more_text : (first texts : List Name) (ks : List Const) (k : Const) (old new : List Name) → old ≡ kept_texts first (flat_map (text_of texts) ks)
    → new ≡ kept_texts old (text_of texts k) → new ≡ kept_texts first (flat_map (text_of texts) (ks ++ k ∷ []))
one_more_text first texts ks k old new e f =
    f ∙ (ap (λ l. kept_texts l (text_of texts k)) e ∙ (sym (kept_more first (flat_map (text_of texts) ks) (text_of texts k))
    ∙ ap (kept_texts first) (sym (flat_more texts ks k))))

kept_begins : (ts xs : List Name) → (more : List Name) × (kept_texts ts xs ≡ ts ++ more)
kept_begins ts [] = ([], sym (append_none ts))
kept_begins ts (x ∷ xs) = by (nat_lt (number_in (bytes_eq x) ts) (length ts)) refl (kept_begins (kept (bytes_eq x) x ts) xs)
  where
    by : (b : Bool) → nat_lt (number_in (bytes_eq x) ts) (length ts) ≡ b
        → (more : List Name) × (kept_texts (kept (bytes_eq x) x ts) xs ≡ kept (bytes_eq x) x ts ++ more)
        → (more : List Name) × (kept_texts (kept (bytes_eq x) x ts) xs ≡ ts ++ more)
    by true t (more, e) = (more, e ∙ ap (λ l. l ++ more) (kept_same (bytes_eq x) x ts (let l : number_in (bytes_eq x) ts < length ts = grind (arith, nat_tests) in l)))
    by false t (more, e) = (
      x ∷ more,
      e ∙ (ap (λ l. l ++ more) (kept_new (bytes_eq x) x ts
          (λ h. let same : true ≡ false = (let y : nat_lt (number_in (bytes_eq x) ts) (length ts) ≡ true = grind (arith, nat_tests) in sym y) ∙ t in absurd cc))
          ∙ append_assoc ts (x ∷ []) more),
    )

-- the values of constants, whatever texts follow
abbrev pub ValuesSoFar : (texts : List Name) → List Const → (known : List Name) → List Value → Type 0
ValuesSoFar texts ks known vs = (program : Program) (more : List Name) → program.texts ≡ known ++ more → vs ≡ values_in texts ks program

pub one_more_value : (texts : List Name) (ks : List Const) (k : Const) (old new : List Name) (vs : List Value) (v : Value) → new ≡ kept_texts old (text_of texts k)
    → ValuesSoFar texts ks old vs → ((program : Program) (more : List Name) → program.texts ≡ new ++ more → v ≡ constant_value program (constant_of texts k))
    → ValuesSoFar texts (ks ++ k ∷ []) new (vs ++ v ∷ [])
one_more_value texts ks k old new vs v e f g program more h =
    let (end, b) = kept_begins old (text_of texts k) in
    let before = f program (end ++ more) (h ∙ (ap (λ l. l ++ more) (e ∙ b) ∙ append_assoc old end more)) in
    ap (λ l. l ++ v ∷ []) before ∙ (ap (λ z. values_in texts ks program ++ z ∷ []) (g program more h)
    ∙ sym (map-append (λ k. constant_value program (constant_of texts k)) ks (k ∷ [])))

pub one_taken : {A : Type 0} (xs : List A) (i : ℕ) (x : A) → i < length xs → x ≡ get_or xs i x → take (i + 1) xs ≡ take i xs ++ x ∷ []
one_taken xs i x h e = take_more xs i x h ∙ ap (λ y. take i xs ++ y ∷ []) (sym e)

pub all_values : (texts : List Name) (ks : List Const) (i : ℕ) (known : List Name) (vs : List Value) → length ks ≤ i
    → ValuesSoFar texts (take i ks) known vs → ValuesSoFar texts ks known vs
all_values texts ks i known vs h f program more e = f program more e ∙ ap (λ l. values_in texts l program) (take_all i ks h)

-- of a code before others, and of the last one
pub values_before : (texts : List Name) (ks : List Const) (known xs last : List Name) (vs : List Value) → last ≡ kept_texts known xs
    → ValuesSoFar texts ks known vs → AreValues texts ks last vs
values_before texts ks known xs last vs is f program e = let (more, b) = kept_begins known xs in f program more (e ∙ (is ∙ b))

pub values_last : (texts : List Name) (ks : List Const) (known : List Name) (vs : List Value) → ValuesSoFar texts ks known vs → AreValues texts ks known vs
values_last texts ks known vs f program e = f program [] (e ∙ sym (append_none known))
