-- Where a block of a script's code stands in the script, and that it names no more texts in cells than the code has.
use Rattle.std.proofs.Common.{◌≡◌, ◌<◌, ◌≤◌, ◌+◌, ◌^◌, ℕ, zero, suc, Bool, true, false, List, [], ◌∷◌, ◌++◌, length, map, Some, None, refl, sym, ap, ◌∙◌, subst, arith}
use Rattle.std.specs.Prelude.{codes, slice_get, ◌||◌}
use Rattle.std.specs.List.{AllByRecursion, IsDistinct, list_any}
use Rattle.std.specs.Str.{bytes_eq}
use Rattle.std.proofs.Math.Bool.{or-true}
use Rattle.std.proofs.lemmas.Bool.{false≢true}
use Rattle.std.proofs.lemmas.List.{length-map, length-append}
use Rattle.std.proofs.lemmas.List.Folds.{list_any-append}
use Rattle.std.proofs.lemmas.Slice.Eq.{bytes_eq-Decides}
use Rattle.std.proofs.lemmas.Map.Made.{length-le_from_is_member}
use Rattle.pt_tree.specs.Syntax.{Name, Stms}
use Rattle.pt_tree.specs.Blocks.{Block, blocks_script}
use Rattle.sem_control.specs.numbering.Numbered.{IsNumbered}
use Rattle.pt_scopes.specs.declared.region.Mention.{Mention}
use Rattle.pt_scopes.specs.Mentions.{places_script}
use Rattle.sem_names.specs.Around.{names_of}
use Rattle.sem_names.specs.BlockNames.{class_if}
use Rattle.sem_names.specs.Naming.{dotted}
use Rattle.pt_instr.specs.declared.TextNo.{TextNo}
use Rattle.pt_code.specs.declared.CodeBlock.{CodeBlock}
use Rattle.sem_code.specs.slots.BlockObject.{text_in}
use Rattle.pt_heap.proofs.HoleLemmas.{bytes_eq_equiv}
use Rattle.law_typed_pieces.specs.law_operands.law_files.sem_compile.compile.ScriptCode.{BlockLayout, code_block, code_of, kind_of, script_layouts}
use Rattle.law_typed_pieces.specs.law_operands.law_files.sem_compile.compile.Laws.{IsLayoutIn}
use Rattle.law_typed_pieces.proofs.law_operands.law_files.sem_compile.compile.Blocks.{blocks_are_laid_out}
use Rattle.law_typed_pieces.specs.law_operands.law_files.code_files.Laws.{HasTexts, TextIn}
use Rattle.law_typed_pieces.specs.law_operands.law_files.code_files.Numbers.{NumbersFit}
use Rattle.law_typed_pieces.proofs.law_operands.law_files.code_files.Each.{at_each, both, each_at, weaken}
use Rattle.law_typed_pieces.proofs.law_operands.law_files.code_files.Named.{texts_are_known}
use Rattle.law_typed_pieces.specs.law_operands.law_files.operands_fit.Laws.{CellsFit}
use Rattle.law_typed_pieces.specs.law_operands.free_names.FreeNames.{ClassNameIsUnused}
use Rattle.law_compile.proofs.read_forms.Texts.{names_begin_as_such, names_begin_without_dot, scripts_of_texts_are_formed}
use Rattle.law_front.proofs.script_numbers.Scripts.{numbered}
use Rattle.law_supported.proofs.Different.{cells_are_different}
use Rattle.law_supported.specs.Laws.{CellsDiffer}
use Rattle.law_supported.proofs.Written.{all_named, blocks_have_names}
use Rattle.sem_rows.specs.pt_host.World.{CodeFacts}
use Rattle.pt_prog.specs.pt_run_script.pt_run_code.law_loading.script_program.ScriptProgram.{the_module_block}
use Rattle.pt_prog.proofs.pt_run_script.pt_run_code.law_loading.script_program.Facts.{code_tells}
use Rattle.pt_prog.proofs.pt_run_script.pt_run_code.law_loading.loaded_scripts.Loading.{code_has_its_module}
use Rattle.pt_prog.specs.pt_run_script.pt_run_code.law_loading.script_program.Laws.{HasItsNames}
use Rattle.pt_prog.proofs.pt_run_script.pt_run_code.law_loading.loaded_scripts.Lists.{same_some}
use Rattle.law_program.specs.script_files.Laws.{HasCodeFile}
use Rattle.law_program.proofs.script_files.Numbers.{numbers_fit}

-- a block of the script, and its layout
pub record InScript (ss : Stms) (n : ℕ) (b : CodeBlock) : Type 0 where
  pub block : Block
  pub is_block : slice_get (blocks_script ss) n ≡ Some block
  pub layout : BlockLayout
  pub is_layout : slice_get (script_layouts ss) n ≡ Some layout
  pub is : code_block layout ≡ b
  pub kind : (code_block layout).kind ≡ kind_of block.code

unmapped_at : {A B : Type 0} (f : A → B) (xs : List A) (n : ℕ) (y : B) → slice_get (map f xs) n ≡ Some y → (x : A) × (slice_get xs n ≡ Some x) × (f x ≡ y)
unmapped_at f [] n y e = absurd (let no : None ≡ Some y = e in cc)
unmapped_at f (x ∷ xs) zero y e = (x, refl, same_some (f x) y e)
unmapped_at f (x ∷ xs) (suc n) y e = unmapped_at f xs n y e

pub in_script : (ss : Stms) (n : ℕ) (b : CodeBlock) → slice_get (code_of ss).blocks n ≡ Some b → InScript ss n b
in_script ss n b e =
    let l = unmapped_at code_block (script_layouts ss) n b e in
    let laid : IsLayoutIn ss n l.0 = blocks_are_laid_out ss n l.0 l.1 in record {
      block = laid.block;
      is_block = laid.is_block;
      layout = l.0;
      is_layout = l.1;
      is = l.2;
      kind = ap (λ (c : BlockLayout). c.heading.kind) laid.is;
    }

-- a text that a number names is one of the texts

text_among : (ts : List Name) (n : ℕ) (q : Name) → n < length ts → bytes_eq q (text_in ts n) ≡ true → list_any (bytes_eq q) ts ≡ true
text_among [] n q l e = absurd (omega (arith, l))
text_among (t ∷ ts) zero q l e = ap (λ b. b || list_any (bytes_eq q) ts) e
text_among (t ∷ ts) (suc n) q l e = ap (λ (b : Bool). bytes_eq q t || b) (text_among ts n q (omega (arith, l)) e) ∙ or-true (bytes_eq q t)

texts_among : (ts : List Name) (xs : List TextNo) → AllByRecursion (TextIn (length ts)) xs → (q : Name)
    → list_any (bytes_eq q) (map (λ (x : TextNo). text_in ts x.0) xs) ≡ true → list_any (bytes_eq q) ts ≡ true
texts_among ts [] h q e = absurd (false≢true e)
texts_among ts (x ∷ xs) h q e = by (bytes_eq q (text_in ts x.0)) refl e (texts_among ts xs h.1 q)
  where
    by : (t : Bool) → bytes_eq q (text_in ts x.0) ≡ t → (t || list_any (bytes_eq q) (map (λ (x : TextNo). text_in ts x.0) xs)) ≡ true
        → (list_any (bytes_eq q) (map (λ (x : TextNo). text_in ts x.0) xs) ≡ true → list_any (bytes_eq q) ts ≡ true) → list_any (bytes_eq q) ts ≡ true
    by true is e rest = text_among ts x.0 q h.0 is
    by false is e rest = rest e

first_of : {A : Type 0} (xs : List A) → 0 < length xs → (x : A) × (slice_get xs 0 ≡ Some x)
first_of [] l = absurd (omega (arith, l))
first_of (x ∷ xs) l = (x, refl)

-- the name of a module
abbrev module_name : Name
module_name = codes "<module>"

abbrev IsOther : Name → Type 0
IsOther x = bytes_eq module_name x ≡ false

turned : (x y : Name) → bytes_eq x y ≡ false → bytes_eq y x ≡ false
turned x y e = by (bytes_eq y x) refl
  where
    by : (b : Bool) → bytes_eq y x ≡ b → b ≡ false
    by true f = absurd (false≢true (sym e ∙ (bytes_eq-Decides x y).1 (sym ((bytes_eq-Decides y x).0 f))))
    by false f = refl

other_dotted : (d : ℕ) (x : Name) → IsOther x → IsOther (dotted d x)
other_dotted zero x h = h
other_dotted (suc d) x h = refl

front_of : (Q : Name → Type 0) (xs ys : List Name) → AllByRecursion Q (xs ++ ys) → AllByRecursion Q xs
front_of Q [] ys h = tt
front_of Q (x ∷ xs) ys h = (h.0, front_of Q xs ys h.1)

-- a name that is one of the first list, or of the second
among_front : (q : Name) (xs ys : List Name) → list_any (bytes_eq q) xs ≡ true → list_any (bytes_eq q) (xs ++ ys) ≡ true
among_front q xs ys e = list_any-append (bytes_eq q) xs ys ∙ ap (λ b. b || list_any (bytes_eq q) ys) e

-- so different ones, with the name of a module, are no more than the texts
module _ (ts own frees : List Name) (cs fs : List TextNo) (known : AllByRecursion (TextIn (length ts)) cs × AllByRecursion (TextIn (length ts)) fs)
    (makes : Bool) (cells_are : map (λ (x : TextNo). text_in ts x.0) cs ≡ own ++ class_if makes) (frees_are : map (λ (x : TextNo). text_in ts x.0) fs ≡ frees)
    (m : ℕ) (there : m < length ts) (module_is : text_in ts m ≡ module_name) where
  members : (q : Name) → list_any (bytes_eq q) (module_name ∷ (own ++ frees)) ≡ true → list_any (bytes_eq q) ts ≡ true
  members q e = by (bytes_eq q module_name) refl e
    where
      of_own : (b : Bool) → list_any (bytes_eq q) own ≡ b → (b || list_any (bytes_eq q) frees) ≡ true → list_any (bytes_eq q) ts ≡ true
      of_own true o e =
          texts_among ts cs known.0 q (ap (list_any (bytes_eq q)) cells_are ∙ among_front q own (class_if makes) o)
      of_own false o e = texts_among ts fs known.1 q (ap (list_any (bytes_eq q)) frees_are ∙ e)

      by : (b : Bool) → bytes_eq q module_name ≡ b → (b || list_any (bytes_eq q) (own ++ frees)) ≡ true → list_any (bytes_eq q) ts ≡ true
      by true is e = text_among ts m q there (ap (bytes_eq q) module_is ∙ is)
      by false is e = of_own (list_any (bytes_eq q) own) refl (sym (list_any-append (bytes_eq q) own frees) ∙ e)

  distinct_with : IsDistinct bytes_eq (own ++ frees) → AllByRecursion IsOther own → AllByRecursion IsOther frees
      → IsDistinct bytes_eq (module_name ∷ (own ++ frees))
  unfolding IsDistinct
  distinct_with d o f = (both IsOther own frees o f, d)

  at_most_one : (b : Bool) → length (class_if b) ≤ 1
  at_most_one true = omega (arith)
  at_most_one false = omega (arith)

  no_more : IsDistinct bytes_eq (own ++ frees) → AllByRecursion IsOther own → AllByRecursion IsOther frees → length cs + length fs ≤ length ts
  no_more d o f =
      let few : length (module_name ∷ (own ++ frees)) ≤ length ts =
      length-le_from_is_member bytes_eq_equiv (module_name ∷ (own ++ frees)) ts (distinct_with d o f) members in
      let both : length (own ++ frees) ≡ length own + length frees = length-append own frees in
      let of_cells : length cs ≡ length own + length (class_if makes) =
      sym (length-map cs (λ (x : TextNo). text_in ts x.0)) ∙ (ap length cells_are ∙ length-append own (class_if makes)) in
      let of_frees : length fs ≡ length frees = sym (length-map fs (λ (x : TextNo). text_in ts x.0)) ∙ ap length frees_are in
      let one = at_most_one makes in
      omega (arith, few, both, of_cells, of_frees, one)

module _ (text : List ℕ) (ss : Stms) (h : HasCodeFile text ss) where
  pub numbered_blocks : IsNumbered ss
  numbered_blocks = let w = scripts_of_texts_are_formed text ss h.is_script in numbered w.0 ss w.1.is_script

  pub unused : ClassNameIsUnused ss
  unused = let w = scripts_of_texts_are_formed text ss h.is_script in w.1.class_name_is_unused

  pub numbers : NumbersFit (code_of ss)
  numbers = numbers_fit (code_of ss) h.has_file

  pub names : (n : ℕ) (b : BlockLayout) → slice_get (script_layouts ss) n ≡ Some b → HasItsNames ss n (code_block b)
  names n b at =
      let has = blocks_have_names ss h.is_script.no_fault numbered_blocks unused h.is_built n b at in
      record { locals = has.locals; cells = has.cells; frees = has.frees }

  differ : (n : ℕ) → CellsDiffer (names_of ss n)
  differ n = cells_are_different ss (names_begin_without_dot text ss h.is_script) h.is_built n

  -- no name in a cell stands twice, and no free one
  pub different_cells : (n : ℕ) (b : BlockLayout) → slice_get (script_layouts ss) n ≡ Some b
      → IsDistinct bytes_eq (map (λ (x : TextNo). text_in (code_of ss).texts x.0) (code_block b).cells)
  different_cells n b at = subst (IsDistinct bytes_eq) (sym (names n b at).cells) (differ n).cells

  pub different_frees : (n : ℕ) (b : BlockLayout) → slice_get (script_layouts ss) n ≡ Some b
      → IsDistinct bytes_eq (map (λ (x : TextNo). text_in (code_of ss).texts x.0) (code_block b).free)
  different_frees n b at = subst (IsDistinct bytes_eq) (sym (names n b at).frees) (differ n).frees

  -- none is the name of a module
  others : (n : ℕ) → AllByRecursion IsOther (names_of ss n).cells × AllByRecursion IsOther (names_of ss n).frees
  others n =
      all_named ss IsOther IsOther other_dotted
      (weaken (λ (m : Mention). bytes_eq m.name module_name ≡ false) (λ (m : Mention). IsOther m.name) (λ m e. turned m.name module_name e)
      (places_script ss).mentions (names_begin_as_such text ss h.is_script module_name refl refl)) n refl

  abbrev texts : List Name
  texts = (code_of ss).texts

  -- which is a text of the code
  module_text : (m : ℕ) × (m < length texts) × (text_in texts m ≡ module_name)
  module_text =
      let f = first_of (code_of ss).blocks (code_has_its_module ss) in
      let i = in_script ss 0 f.0 f.1 in
      let c = code_block i.layout in
      let known : HasTexts (length texts) c =
      subst (HasTexts (length texts)) (sym i.is) (each_at (HasTexts (length texts)) (code_of ss).blocks 0 f.0 f.1 (texts_are_known ss).1.1) in
      let module_is : i.block ≡ the_module_block ss = same_some i.block (the_module_block ss) (sym i.is_block) in
      let told = code_tells ss 0 i.block i.layout h.is_script.no_fault (names 0 i.layout i.is_layout) i.is_block i.is_layout in
      (c.name.0, known.0, ap (λ (f : CodeFacts). f.name) told ∙ ap (λ (k : Block). k.name) module_is)

  cells_fit_in : (n : ℕ) (b : CodeBlock) → slice_get (code_of ss).blocks n ≡ Some b → length b.cells + length b.free < 2 ^ 32
  cells_fit_in n b e =
      let i = in_script ss n b e in
      let c = code_block i.layout in
      let d = differ n in
      let has = names n i.layout i.is_layout in
      let known : HasTexts (length texts) c =
      subst (HasTexts (length texts)) (sym i.is) (each_at (HasTexts (length texts)) (code_of ss).blocks n b e (texts_are_known ss).1.1) in
      let other = others n in
      let own : AllByRecursion IsOther d.others = front_of IsOther d.others (class_if d.makes_class) (subst (AllByRecursion IsOther) d.cells_are other.0) in
      let few : length c.cells + length c.free ≤ length texts =
      no_more texts d.others (names_of ss n).frees c.cells c.free (known.1.1.0, known.1.1.1) d.makes_class (has.cells ∙ d.cells_are) has.frees
      module_text.0 module_text.1 module_text.2 d.apart own other.1 in
      let counted : length texts < 2 ^ 32 = numbers.texts.0 in
      let fits : length c.cells + length c.free < 2 ^ 32 = omega (arith, few, counted) in
      subst (λ (c : CodeBlock). length c.cells + length c.free < 2 ^ 32) i.is fits

  pub cells_fit : CellsFit (code_of ss)
  cells_fit = at_each (λ (b : CodeBlock). length b.cells + length b.free < 2 ^ 32) (code_of ss).blocks cells_fit_in
