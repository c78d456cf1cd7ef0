-- What a number of a table names, and that tables only grow.
use Rattle.std.proofs.Common.{◌≡◌, ℕ, suc, ◌<◌, Bool, true, false, List, [], ◌∷◌, ◌++◌, length, get_or, bytes_eq, Decides, refl, sym, ap, ◌∙◌, subst, append_assoc, append-nil, length-append, arith, if◌then◌else◌, is_eq, nat_cmp}
use Rattle.std.proofs.lemmas.List.{get_or_append_left}
use Rattle.std.proofs.lemmas.Bool.Decides.{Decides-eqb, Decides-int_eq}
use Rattle.std.proofs.lemmas.Slice.Eq.{bytes_eq-Decides}
use Rattle.pt_instr.specs.declared.TextNo.{TextNo}
use Rattle.pt_code.specs.declared.Const.{Const}
use Rattle.pt_code.specs.declared.Const.TheVariants as const
use Rattle.pt_assembler.specs.Tables.{is_text, number_in, kept, is_const, Begins}
use Rattle.pt_assembler.proofs.FoundLemmas.{nat_cmp_decides}

pub begins_same : {A : Type 0} (xs : List A) → Begins xs xs
begins_same xs = ([], sym (append-nil xs))

pub begins_then : {A : Type 0} (xs ys zs : List A) → Begins xs ys → Begins ys zs → Begins xs zs
begins_then xs ys zs b c = (b.0 ++ c.0, c.1 ∙ ap (λ l. l ++ c.0) b.1 ∙ append_assoc xs b.0 c.0)

pub begins_more : {A : Type 0} (xs ys : List A) → Begins xs (xs ++ ys)
begins_more xs ys = (ys, refl)

pub begins_get : {A : Type 0} (xs ys : List A) (i : ℕ) (d : A) → Begins xs ys → i < length xs → get_or ys i d ≡ get_or xs i d
begins_get xs ys i d b h = ap (λ l. get_or l i d) b.1 ∙ get_or_append_left xs b.0 d i h

pub begins_length : {A : Type 0} (xs ys : List A) (i : ℕ) → Begins xs ys → i < length xs → i < length ys
begins_length xs ys i b h = let e = ap length b.1 in omega (arith, e, length-append xs b.0)

pub kept_begins : {A : Type 0} (is : A → Bool) (a : A) (xs : List A) → Begins xs (kept is a xs)
kept_begins is a [] = (a ∷ [], refl)
kept_begins is a (x ∷ xs) = elim (is x) as (λ b. Begins (x ∷ xs) (if b then x ∷ xs else x ∷ kept is a xs))
    [ true ↦ begins_same (x ∷ xs) | false ↦ ((kept_begins is a xs).0, ap (λ l. x ∷ l) (kept_begins is a xs).1) ]

pub kept_within : {A : Type 0} (is : A → Bool) (a : A) (xs : List A) → number_in is xs < length (kept is a xs)
kept_within is a [] = omega arith
kept_within is a (x ∷ xs) =
    let h = kept_within is a xs in
    elim (is x) as (λ b. (if b then 0 else suc (number_in is xs)) < length (if b then x ∷ xs else x ∷ kept is a xs)) [ true ↦ omega arith | false ↦ omega arith ]

pub kept_item : {A : Type 0} (is : A → Bool) (a : A) (xs : List A) (d : A) → ((x : A) → is x ≡ true → x ≡ a) → get_or (kept is a xs) (number_in is xs) d ≡ a
kept_item is a [] d h = refl
kept_item {A} is a (x ∷ xs) d h = by (is x) refl (kept_item is a xs d h)
  where
    by : (b : Bool) → is x ≡ b → get_or (kept is a xs) (number_in is xs) d ≡ a
        → get_or (if b then x ∷ xs else x ∷ kept is a xs) (if b then 0 else suc (number_in is xs)) d ≡ a
    by true e rest = h x e
    by false e rest = rest

-- the number under which an item is kept names it in each table that goes on
pub item_kept : {A : Type 0} (is : A → Bool) (a : A) (xs ys : List A) (d : A) → ((x : A) → is x ≡ true → x ≡ a) → Begins (kept is a xs) ys
    → get_or ys (number_in is xs) d ≡ a
item_kept is a xs ys d h b = begins_get (kept is a xs) ys (number_in is xs) d b (kept_within is a xs) ∙ kept_item is a xs d h

pub item_within : {A : Type 0} (is : A → Bool) (a : A) (xs ys : List A) → Begins (kept is a xs) ys → number_in is xs < length ys
item_within is a xs ys b = begins_length (kept is a xs) ys (number_in is xs) b (kept_within is a xs)

pub bytes_same : (x y : List ℕ) → bytes_eq x y ≡ true → y ≡ x
bytes_same x y e = sym ((bytes_eq-Decides x y).0 e)

pub text_same : (s t : TextNo) → is_text s t ≡ true → t ≡ s
text_same s t e = let h = (Decides-eqb s.0 t.0).0 e in λ i. record { 0 = sym h i }

pub const_same : (j k : Const) → is_const j k ≡ true → k ≡ j
const_same const.None const.None e = refl
const_same const.False const.False e = refl
const_same const.True const.True e = refl
const_same const.Ellipsis const.Ellipsis e = refl
const_same (const.Int m) (const.Int n) e = ap const.Int (sym ((Decides-int_eq m n).0 e))
const_same (const.Text s) (const.Text t) e = ap const.Text (text_same s t e)
const_same j k e = absurd cc

same_text : (s t : TextNo) → s.0 ≡ t.0 → s ≡ t
same_text s t e = λ i. record { 0 = e i }

pub text_decides : (s t : TextNo) → Decides (is_text s t) (s ≡ t)
text_decides s t = (λ e. same_text s t ((Decides-eqb s.0 t.0).0 e), λ e. (Decides-eqb s.0 t.0).1 (ap (λ (n : TextNo). n.0) e))

pub text_by_number : (s t : TextNo) → Decides (is_eq (nat_cmp s.0 t.0)) (s ≡ t)
text_by_number s t =
    (λ e. same_text s t ((nat_cmp_decides s.0 t.0).0 e), λ e. (nat_cmp_decides s.0 t.0).1 (ap (λ (n : TextNo). n.0) e))

const_itself : (k : Const) → is_const k k ≡ true
const_itself const.None = refl
const_itself const.False = refl
const_itself const.True = refl
const_itself const.Ellipsis = refl
const_itself (const.Int n) = (Decides-int_eq n n).1 refl
const_itself (const.Text t) = (Decides-eqb t.0 t.0).1 refl

pub const_decides : (j k : Const) → Decides (is_const j k) (j ≡ k)
const_decides j k = (λ e. sym (const_same j k e), λ e. subst (λ c. is_const j c ≡ true) e (const_itself j))
