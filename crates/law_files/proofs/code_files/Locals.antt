-- The names of a block's parameters stand among its locals, each once.
use Rattle.std.proofs.Common.{if◌then◌else◌, ◌≡◌, ℕ, zero, suc, ◌<◌, ◌≤◌, ◌+◌, Bool, true, false, List, [], ◌∷◌, ◌++◌, length, map, get_or, Option, Some, None, refl, sym, ap, ◌∙◌, subst, arith, length-append, bytes_eq}
use Rattle.std.specs.Prelude.{◌||◌, nat_le, slice_get, is_some}
use Rattle.std.specs.Option.{unwrap_or}
use Rattle.std.specs.List.{AllByRecursion, list_any}
use Rattle.std.proofs.lemmas.Bool.Decides.{nat_tests}
use Rattle.std.proofs.lemmas.List.{length-map}
use Rattle.std.proofs.lemmas.Slice.Eq.{bytes_eq-Decides}
use Rattle.pt_tree.specs.declared.expression.NamedParameter.{NamedParameter}
use Rattle.pt_tree.specs.Syntax as S
use Rattle.pt_tree.specs.Syntax.{Name, Params, Stms}
use Rattle.pt_tree.specs.Blocks.{Block, blocks_script}
use Rattle.pt_scopes.specs.Mentions.{places_script}
use Rattle.pt_scopes.specs.Names.{mangled}
use Rattle.pt_scopes.specs.Places.{module_context}
use Rattle.pt_scopes.specs.Refusals.{fault_of}
use Rattle.pt_scopes.specs.Scope.{facts}
use Rattle.pt_instr.specs.declared.TextNo.{TextNo}
use Rattle.pt_code.specs.File.{one_if}
use Rattle.sem_control.specs.control.Turn.{Around}
use Rattle.sem_names.specs.Around.{Names, around_of, names_at, names_of}
use Rattle.sem_names.specs.BlockNames.{with_name, distinct_behind, formal_names, named, param_names, local_names, names_in, is_local, variables_of}
use Rattle.sem_names.specs.Script.{naming_script, spelled_in, shape_in, class_name_of}
use Rattle.pt_assembler.specs.Tables.{kept, is_text}
use Rattle.pt_assembler.specs.Layout.{Written, number_of_text, with_text, keep_local, with_local, with_cell, with_free}
use Rattle.pt_assembler.proofs.TableLemmas.{kept_begins, kept_item, begins_get, begins_length, bytes_same, text_same}
use Rattle.pt_assembler.proofs.Growth.{grows}
use Rattle.sem_compile.specs.stm_pieces.StmPiece.{code_piece}
use Rattle.sem_compile.specs.compile.ScriptCode.{Tables, with_all, empty_block, rest_of, plain_count, keyword_only_count, BlockLayout, layout_of, script_layouts, code_block}
use Rattle.sem_compile.proofs.compile.Blocks.{all_tabled, cell_tabled, free_tabled, blocks_are_laid_out}
use Rattle.law_files.specs.code_files.Laws.{HasParameters, ParametersAreLocals}
use Rattle.law_files.proofs.code_files.Each.{weaken, mapped, both, each_at, at_each}
use Rattle.law_files.proofs.code_files.Known.{text_in, begins_count}
use Rattle.law_files.proofs.code_files.Sound.{Differs, Apart, all_sound}
use Rattle.law_files.proofs.code_files.Parameters.{OnceIn, each_stms}
use Rattle.law_files.proofs.code_files.Regions.{as_many_regions}

-- names that are kept apart

apart_end : (xs : List Name) (x : Name) → Apart xs → AllByRecursion (λ y. y ≡ x → ⊥) xs → Apart (xs ++ x ∷ [])
apart_end [] x h d = (tt, tt)
apart_end (y ∷ ys) x h d = (both (λ z. y ≡ z → ⊥) ys (x ∷ []) h.0 (d.0, tt), apart_end ys x h.1 d.1)

-- none of the names is this one, by a test
none_is : (x : Name) (ys : List Name) → list_any (λ y. bytes_eq y x) ys ≡ false → AllByRecursion (λ y. y ≡ x → ⊥) ys
none_is x [] h = tt
none_is x (y ∷ ys) h = by (bytes_eq y x) refl h (none_is x ys)
  where
    by : (b : Bool) → bytes_eq y x ≡ b → (b || list_any (λ y. bytes_eq y x) ys) ≡ false
        → (list_any (λ y. bytes_eq y x) ys ≡ false → AllByRecursion (λ y. y ≡ x → ⊥) ys) → (y ≡ x → ⊥) × AllByRecursion (λ y. y ≡ x → ⊥) ys
    by true e g rest = absurd (let same : true ≡ false = g in cc)
    by false e g rest = (λ s. let same : false ≡ true = sym e ∙ (bytes_eq-Decides y x).1 s in absurd cc, rest g)

apart_with : (ys : List Name) (x : Name) → Apart ys → Apart (with_name ys x)
apart_with ys x h = by (list_any (λ y. bytes_eq y x) ys) refl
  where
    by : (b : Bool) → list_any (λ y. bytes_eq y x) ys ≡ b → Apart (if b then ys else ys ++ x ∷ [])
    by true e = h
    by false e = apart_end ys x h (none_is x ys e)

apart_behind : (ys xs : List Name) → Apart ys → Apart (distinct_behind ys xs)
apart_behind ys [] h = h
apart_behind ys (x ∷ xs) h = apart_behind (with_name ys x) xs (apart_with ys x h)

count_with : (ys : List Name) (x : Name) → length ys ≤ length (with_name ys x)
count_with ys x = by (list_any (λ y. bytes_eq y x) ys)
  where
    by : (b : Bool) → length ys ≤ length (if b then ys else ys ++ x ∷ [])
    by true = omega arith
    by false = omega (arith, length-append ys (x ∷ []))

count_behind : (ys xs : List Name) → length ys ≤ length (distinct_behind ys xs)
count_behind ys [] = omega arith
count_behind ys (x ∷ xs) = omega (arith, count_with ys x, count_behind (with_name ys x) xs)

-- names that are apart are all kept

any_not : (x : Name) (ys : List Name) → AllByRecursion (λ y. y ≡ x → ⊥) ys → list_any (λ y. bytes_eq y x) ys ≡ false
any_not x [] h = refl
any_not x (y ∷ ys) h = by (bytes_eq y x) refl (any_not x ys h.1)
  where
    by : (b : Bool) → bytes_eq y x ≡ b → list_any (λ y. bytes_eq y x) ys ≡ false → (b || list_any (λ y. bytes_eq y x) ys) ≡ false
    by true e rest = absurd (h.0 ((bytes_eq-Decides y x).0 e))
    by false e rest = rest

kept_all : (ys ps os : List Name) → Apart ps → AllByRecursion (λ y. Differs y ps) ys → length ys + length ps ≤ length (distinct_behind ys (ps ++ os))
kept_all ys [] os h d = omega (arith, count_behind ys os)
kept_all ys (p ∷ ps) os h d =
    let new : with_name ys p ≡ ys ++ p ∷ [] =
    ap (λ (b : Bool). if b then ys else ys ++ p ∷ []) (any_not p ys (weaken (λ y. Differs y (p ∷ ps)) (λ y. y ≡ p → ⊥) (λ y e. e.0) ys d)) in
    let rest = kept_all (ys ++ p ∷ []) ps os h.1
    (both (λ y. Differs y ps) ys (p ∷ []) (weaken (λ y. Differs y (p ∷ ps)) (λ y. Differs y ps) (λ y e. e.1) ys d) (h.0, tt)) in
    let count : length ys + length (p ∷ ps) ≤ length (distinct_behind (ys ++ p ∷ []) (ps ++ os)) = omega (arith, rest, length-append ys (p ∷ [])) in
    subst (λ l. length ys + length (p ∷ ps) ≤ length (distinct_behind l (ps ++ os))) (sym new) count

-- locals are kept for names that are apart

abbrev text_at : List Name → ℕ → Name
text_at ts i = get_or ts i []

-- no local has one of these names
abbrev Unnamed : List Name → Written → Type 0
Unnamed zs w = AllByRecursion (λ (s : TextNo). (s.0 < length w.texts) × Differs (text_at w.texts s.0) zs) w.locals

kept_new : {A : Type 0} (is : A → Bool) (a : A) (xs : List A) → AllByRecursion (λ x. is x ≡ false) xs → kept is a xs ≡ xs ++ a ∷ []
kept_new is a [] h = refl
kept_new is a (x ∷ xs) h =
    ap (λ (b : Bool). if b then x ∷ xs else x ∷ kept is a xs) h.0 ∙ ap (λ l. x ∷ l) (kept_new is a xs h.1)

not_true : (b : Bool) → (b ≡ true → ⊥) → b ≡ false
not_true true h = absurd (h refl)
not_true false h = refl

module _ (x : Name) (zs : List Name) (w : Written) where
  abbrev later : List Name
  later = (with_text x w).texts

  abbrev new : TextNo
  new = number_of_text x w

  new_is : text_at later new.0 ≡ x
  unfolding with_text
  new_is = kept_item (bytes_eq x) x w.texts [] (bytes_same x)

  stays : (s : TextNo) → s.0 < length w.texts → text_at later s.0 ≡ text_at w.texts s.0
  unfolding with_text
  stays s h = begins_get w.texts later s.0 [] (kept_begins (bytes_eq x) x w.texts) h

  counted : (s : TextNo) → s.0 < length w.texts → s.0 < length later
  unfolding with_text
  counted s h = begins_length w.texts later s.0 (kept_begins (bytes_eq x) x w.texts) h

  other : (s : TextNo) → (s.0 < length w.texts) × Differs (text_at w.texts s.0) (x ∷ zs) → is_text new s ≡ false
  other s h =
      not_true (is_text new s)
      (λ e. h.1.0 (sym (stays s h.0) ∙ ap (λ (t : TextNo). text_at later t.0) (text_same new s e) ∙ new_is))

  locals_end : Unnamed (x ∷ zs) w → (with_local x w).locals ≡ w.locals ++ new ∷ []
  unfolding with_text keep_local
  locals_end h =
      kept_new (is_text new) new w.locals
      (weaken (λ (s : TextNo). (s.0 < length w.texts) × Differs (text_at w.texts s.0) (x ∷ zs)) (λ s. is_text new s ≡ false) other w.locals h)

  texts_later : (with_local x w).texts ≡ later
  unfolding keep_local
  texts_later = refl

  unnamed_on : Differs x zs → Unnamed (x ∷ zs) w → Unnamed zs (with_local x w)
  unnamed_on d h =
      let Q : TextNo → Type 0 = λ s. (s.0 < length later) × Differs (text_at later s.0) zs in
      let old = weaken (λ (s : TextNo). (s.0 < length w.texts) × Differs (text_at w.texts s.0) (x ∷ zs)) Q
      (λ s g. (counted s g.0, subst (λ y. Differs y zs) (sym (stays s g.0)) g.1.1)) w.locals h in
      let all = both Q w.locals (new ∷ []) old ((text_in x w, subst (λ y. Differs y zs) (sym new_is) d), tt) in
      subst (λ ts. AllByRecursion (λ (s : TextNo). (s.0 < length ts) × Differs (text_at ts s.0) zs) (with_local x w).locals) (sym texts_later)
      (subst (AllByRecursion Q) (sym (locals_end h)) all)

count_locals : (zs : List Name) (w : Written) → Apart zs → Unnamed zs w → length w.locals + length zs ≤ length (with_all with_local zs w).locals
count_locals [] w a h = omega arith
count_locals (x ∷ zs) w a h =
    let one = ap length (locals_end x zs w h) in
    let rest = count_locals zs (with_local x w) a.1 (unnamed_on x zs w a.0 h) in
    omega (arith, one, rest, length-append w.locals (number_of_text x w ∷ []))

empty_locals : (t : Tables) (k : Block) → (with_text k.name (empty_block t k.code)).locals ≡ []
unfolding with_text
empty_locals t k = refl

laid_locals : (t : Tables) (a : Around (Unit {0})) (ns : Names) (k : Block) → Apart ns.locals → length ns.locals ≤ length (layout_of t a ns k).written.locals
laid_locals t a ns k h =
    let v = with_text k.name (empty_block t k.code) in
    let b = with_all with_local ns.locals v in
    let c = with_all with_cell ns.cells b in
    let d = with_all with_free ns.frees c in
    let none : Unnamed ns.locals v =
    subst (AllByRecursion (λ (s : TextNo). (s.0 < length v.texts) × Differs (text_at v.texts s.0) ns.locals)) (sym (empty_locals t k)) tt in
    let first = count_locals ns.locals v h none in
    let second = begins_count b.locals c.locals (all_tabled with_cell cell_tabled ns.cells b).1.1.1.0 in
    let third = begins_count c.locals d.locals (all_tabled with_free free_tabled ns.frees c).1.1.1.0 in
    let fourth = begins_count d.locals (layout_of t a ns k).written.locals (grows (code_piece a k.code) [] d).tables.1.1.1.0 in
    omega (arith, first, second, third, fourth)

-- the parameters of a block

named_count : (s : Option NamedParameter) → length (named s) ≡ one_if (is_some s)
named_count None = refl
named_count (Some p) = refl

names_count : (ps : Params) → length (param_names ps) ≡ plain_count ps + keyword_only_count ps + one_if (rest_of ps).positional + one_if (rest_of ps).named
names_count (S.parameters ps s ks d) =
    omega (
      arith,
      length-append (formal_names ps ++ formal_names ks ++ named s) (named d),
      length-append (formal_names ps ++ formal_names ks) (named s),
      length-append (formal_names ps) (formal_names ks),
      named_count s,
      named_count d,
    )

mapped_at : {A B : Type 0} (f : A → B) (xs : List A) (i : ℕ) (x : A) → slice_get xs i ≡ Some x → slice_get (map f xs) i ≡ Some (f x)
mapped_at f [] i x at = absurd (let none : None ≡ Some x = at in cc)
mapped_at f (y ∷ ys) zero x at = let same : y ≡ x = (let there : Some y ≡ Some x = at in cc) in ap (λ z. Some (f z)) same
mapped_at f (y ∷ ys) (suc i) x at = mapped_at f ys i x at

there : {A B : Type 0} (xs : List A) (ys : List B) (i : ℕ) (x : A) → length ys ≡ length xs → slice_get xs i ≡ Some x → (y : B) × (slice_get ys i ≡ Some y)
there [] ys i x e at = absurd (let none : None ≡ Some x = at in cc)
there (x ∷ xs) [] i z e at = absurd (omega (arith, e))
there (x ∷ xs) (y ∷ ys) zero z e at = (y, refl)
there (x ∷ xs) (y ∷ ys) (suc i) z e at = there xs ys i z (omega (arith, e)) at

blocks_once : (ss : Stms) → fault_of (places_script ss) ≡ None → AllByRecursion (OnceIn []) (blocks_script ss)
blocks_once ss none =
    let g = places_script ss in
    (tt, each_stms module_context [] ss (1, all_sound g.regions (facts g.mentions) [] g.mentions none))

-- the names of a block with its parameters
locals_once : (ss : Stms) → fault_of (places_script ss) ≡ None → (n : ℕ) (k : Block) → slice_get (blocks_script ss) n ≡ Some k
    → Apart (names_of ss n).locals × (length (param_names k.params) ≤ length (names_of ss n).locals)
locals_once ss none n k at =
    let g = naming_script ss in
    let h = there (blocks_script ss) g.places.blocks n k (as_many_regions ss) at in
    let once : Apart (map (mangled (unwrap_or k.class [])) (param_names k.params)) = each_at (OnceIn []) (blocks_script ss) n k at (blocks_once ss none) in
    let class : class_name_of (slice_get g.blocks n) ≡ unwrap_or k.class [] = ap class_name_of (mapped_at (shape_in []) (blocks_script ss) n k at) in
    let spelled : Apart (map (spelled_in g n) (param_names k.params)) = subst (λ c. Apart (map (mangled c) (param_names k.params))) (sym class) once in
    let others = names_in is_local (variables_of g.places n h.0) in
    let is : (names_of ss n).locals ≡ local_names g k.params n h.0 =
    ap (λ (o : Option Block). (names_at g n o (slice_get g.places.blocks n)).locals) at ∙ ap (λ (o : Option ℕ). (names_at g n (Some k) o).locals) h.1 in
    let ys = map (spelled_in g n) (param_names k.params) in
    let count = kept_all [] ys others spelled tt in (
      subst Apart (sym is) (apart_behind [] (ys ++ others) tt),
      subst (λ l. length (param_names k.params) ≤ length l) (sym is) (omega (arith, count, length-map (param_names k.params) (spelled_in g n))),
    )

le_true : (m n : ℕ) → m ≤ n → nat_le m n ≡ true
le_true m n h = grind (arith, nat_tests)

block_has : (ss : Stms) → fault_of (places_script ss) ≡ None → (n : ℕ) (b : BlockLayout) → slice_get (script_layouts ss) n ≡ Some b → HasParameters (code_block b)
block_has ss none n b at =
    let l = blocks_are_laid_out ss n b at in
    let h = locals_once ss none n l.block l.is_block in
    let count = laid_locals l.tables (around_of tt ss n) (names_of ss n) l.block h.0 in
    subst (λ (c : BlockLayout). HasParameters (code_block c)) (sym l.is) (le_true _ _ (omega (arith, count, h.1, names_count l.block.params)))

pub parameters_are_locals : ParametersAreLocals
parameters_are_locals ss none =
    mapped HasParameters code_block (script_layouts ss)
    (at_each (λ (b : BlockLayout). HasParameters (code_block b)) (script_layouts ss) (block_has ss none))
