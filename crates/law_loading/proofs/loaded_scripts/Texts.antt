-- Each text of a constant of a script's code is one of the program's texts.
use Rattle.std.proofs.Common.{if◌then◌else◌, ◌≡◌, ℕ, zero, suc, Bool, true, false, List, [], ◌∷◌, ◌++◌, refl, sym, ap, ◌∙◌, subst, bytes_eq}
use Rattle.std.specs.Prelude.{◌||◌, slice_index_or}
use Rattle.std.specs.List.{flat_map, list_any}
use Rattle.std.proofs.lemmas.Slice.Eq.{bytes_eq-Decides}
use Rattle.pt_tree.specs.declared.expression.Constant.{Constant}
use Rattle.pt_tree.specs.declared.expression.Constant.TheVariants as constant
use Rattle.pt_tree.specs.Syntax.{Name}
use Rattle.pt_code.specs.declared.Const.{Const}
use Rattle.pt_code.specs.declared.Const.TheVariants as const
use Rattle.sem_code.specs.slots.CodeObject.{Pool}
use Rattle.sem_code.specs.slots.BlockObject.{constant_of, text_in}
use Rattle.pt_assembler.specs.Tables.{kept}
use Rattle.law_typed_pieces.specs.law_operands.law_files.sem_compile.compile.ScriptCode.{code_of}
use Rattle.law_typed_pieces.specs.law_operands.free_names.FreeNames.{Among}
use Rattle.pt_code_loader.specs.Texts.{constant_texts, kept_texts, program_texts, text_of}
use Rattle.pt_tree.specs.Syntax.{Stms}
use Rattle.pt_tree.specs.Blocks.{Block}
use Rattle.pt_heap.specs.declared.value.Value.{Value}
use Rattle.pt_heap.specs.declared.value.Value.TheVariants as value
use Rattle.sem_code.specs.slots.CodeObject.{CodeObject}
use Rattle.law_compile.specs.script_objects.Laws.{HasCode}
use Rattle.law_compile.specs.script_runs.ProgramBlocks as program
use Rattle.law_loading.specs.loaded_scripts.Laws.{ConstantsHaveTheirTexts}

abbrev is_text : Constant → Type 0
is_text (constant.Str t) = Unit {0}
is_text k = ⊥

abbrev text_or : Constant → Name
text_or (constant.Str t) = t
text_or k = []

-- a name among some stays among more

right : (b c : Bool) → c ≡ true → (b || c) ≡ true
right true c e = refl
right false c e = e

first : (x : Name) (xs : List Name) → Among (x ∷ xs) x
first x xs = ap (λ (b : Bool). b || list_any (λ y. bytes_eq y x) xs) ((bytes_eq-Decides x x).1 refl)

among_right : (xs ys : List Name) (x : Name) → Among ys x → Among (xs ++ ys) x
among_right [] ys x h = h
among_right (z ∷ xs) ys x h = right (bytes_eq z x) (list_any (λ y. bytes_eq y x) (xs ++ ys)) (among_right xs ys x h)

-- texts that are kept

keeps : (z : Name) (xs : List Name) (x : Name) → Among xs x → Among (kept (bytes_eq z) z xs) x
keeps z [] x h = absurd (let no : false ≡ true = h in cc)
keeps z (y ∷ xs) x h = by (bytes_eq z y) (bytes_eq y x) refl h (keeps z xs x)
  where
    by : (b c : Bool) → bytes_eq y x ≡ c → (c || list_any (λ y. bytes_eq y x) xs) ≡ true → (Among xs x → Among (kept (bytes_eq z) z xs) x)
        → Among (if b then y ∷ xs else y ∷ kept (bytes_eq z) z xs) x
    by true c e h rest = ap (λ (d : Bool). d || list_any (λ y. bytes_eq y x) xs) e ∙ h
    by false true e h rest = ap (λ (d : Bool). d || list_any (λ y. bytes_eq y x) (kept (bytes_eq z) z xs)) e
    by false false e h rest = ap (λ (d : Bool). d || list_any (λ y. bytes_eq y x) (kept (bytes_eq z) z xs)) e ∙ rest h

has_new : (z : Name) (xs : List Name) → Among (kept (bytes_eq z) z xs) z
has_new z [] = first z []
has_new z (y ∷ xs) = by (bytes_eq z y) refl (has_new z xs)
  where
    by : (b : Bool) → bytes_eq z y ≡ b → Among (kept (bytes_eq z) z xs) z → Among (if b then y ∷ xs else y ∷ kept (bytes_eq z) z xs) z
    by true e rest = subst (Among (y ∷ xs)) (sym ((bytes_eq-Decides z y).0 e)) (first y xs)
    by false e rest = right (bytes_eq y z) (list_any (λ w. bytes_eq w z) (kept (bytes_eq z) z xs)) rest

kept_keeps : (ts xs : List Name) (x : Name) → Among ts x → Among (kept_texts ts xs) x
kept_keeps ts [] x h = h
kept_keeps ts (z ∷ xs) x h = kept_keeps (kept (bytes_eq z) z ts) xs x (keeps z ts x h)

kept_has : (ts xs : List Name) (x : Name) → Among xs x → Among (kept_texts ts xs) x
kept_has ts [] x h = absurd (let no : false ≡ true = h in cc)
kept_has ts (z ∷ xs) x h = by (bytes_eq z x) refl h (kept_has (kept (bytes_eq z) z ts) xs x)
  where
    by : (b : Bool) → bytes_eq z x ≡ b → (b || list_any (λ y. bytes_eq y x) xs) ≡ true → (Among xs x → Among (kept_texts (kept (bytes_eq z) z ts) xs) x)
        → Among (kept_texts (kept (bytes_eq z) z ts) xs) x
    by true e h rest =
        kept_keeps (kept (bytes_eq z) z ts) xs x (subst (Among (kept (bytes_eq z) z ts)) ((bytes_eq-Decides z x).0 e) (has_new z ts))
    by false e h rest = rest h

no_text : {A : Type 0} (k : Constant) (t : Name) → (is_text k → ⊥) → k ≡ constant.Str t → A
no_text k t f e = absurd (f (subst is_text (sym e) tt))

of_const : (texts : List Name) (c : Const) (t : Name) (rest : List Name) → constant_of texts c ≡ constant.Str t → Among (text_of texts c ++ rest) t
of_const texts (const.Text n) t rest e = subst (Among (text_in texts n.0 ∷ rest)) (ap text_or e) (first (text_in texts n.0) rest)
of_const texts const.None t rest e = no_text constant.None t (λ f. f) e
of_const texts const.False t rest e = no_text (constant.Bool false) t (λ f. f) e
of_const texts const.True t rest e = no_text (constant.Bool true) t (λ f. f) e
of_const texts (const.Int z) t rest e = no_text (constant.Int z) t (λ f. f) e
of_const texts const.Ellipsis t rest e = no_text constant.Ellipsis t (λ f. f) e

text_there : (texts : List Name) (ks : List Const) (k : ℕ) (t : Name) → constant_of texts (slice_index_or ks k const.None) ≡ constant.Str t
    → Among (flat_map (text_of texts) ks) t
text_there texts [] k t e = no_text constant.None t (λ f. f) e
text_there texts (c ∷ ks) zero t e = of_const texts c t (flat_map (text_of texts) ks) e
text_there texts (c ∷ ks) (suc k) t e = among_right (text_of texts c) (flat_map (text_of texts) ks) t (text_there texts ks k t e)

-- of the code of a script
code_has_texts : (ss : Stms) (n : ℕ) (block : Block) (object : CodeObject Value) → HasCode value.None ss n block object → (k : ℕ) (t : List ℕ)
    → object.pool.constant k ≡ constant.Str t → Among (flat_map (text_of (code_of ss).texts) (code_of ss).constants) t
code_has_texts ss n block object h k t e =
    let c = code_of ss in
    text_there c.texts c.constants k t (sym (ap (λ (p : Pool). p.constant k) (h.is_object).pool) ∙ e)

pub constants_have_texts : ConstantsHaveTheirTexts
constants_have_texts prelude ss hidden n block object h k t e = by hidden h
  where
    behind : List Name
    behind = flat_map (text_of (code_of ss).texts) (code_of ss).constants

    by : (b : Bool) → HasCode value.None (program.text_of prelude ss b) n block object → Among (program_texts (code_of prelude) (code_of ss)) t
    by true g =
        kept_keeps (constant_texts (code_of prelude)) behind t
        (kept_has [] (flat_map (text_of (code_of prelude).texts) (code_of prelude).constants) t (code_has_texts prelude n block object g k t e))
    by false g = kept_has (constant_texts (code_of prelude)) behind t (code_has_texts ss n block object g k t e)
