-- The operands of a supported code name what their blocks have, and its module has no free names.
use Rattle.std.proofs.Common.{◌≡◌, ◌<◌, ◌^◌, ℕ, ◌+◌, Bool, true, false, if◌then◌else◌, nat_eq, eqb-true, List, [], ◌∷◌, ◌++◌, length, map, Option, Some, None, refl, sym, ap, ◌∙◌, subst, arith}
use Rattle.std.specs.Prelude.{slice_get, slice_index_or}
use Rattle.std.specs.List.{AllByRecursion}
use Rattle.std.proofs.lemmas.List.{length-map, length-append}
use Rattle.std.proofs.lemmas.Bool.{false≢true}
use Rattle.pt_instr.specs.declared.Instr.{Instr}
use Rattle.pt_instr.specs.declared.Instr.TheVariants as instr
use Rattle.pt_instr.specs.Encoding.{encoding, Fits as InstrFits, code_of}
use Rattle.pt_heap.specs.declared.value.Value.{Value}
use Rattle.pt_code.specs.declared.BlockKind.{BlockKind}
use Rattle.pt_code.specs.declared.BlockKind.TheVariants as kind
use Rattle.pt_code.specs.declared.CodeBlock.{CodeBlock}
use Rattle.pt_code.specs.declared.Code.{Code}
use Rattle.pt_code.specs.declared.parts.Operand.{Operand}
use Rattle.pt_code.specs.declared.parts.Within.{Within}
use Rattle.pt_code.specs.File.{AreBelow, NamesAll, may_be_free, naming, inside, names_of, operands, stands_first}
use Rattle.pt_code.specs.View.{Ins, IsView, ins_at, laid_from}
use Rattle.pt_code.proofs.OneView.{one_view}
use Rattle.sem_code.specs.slots.CodeObject.{CodeObject, Pool}
use Rattle.sem_code.specs.slots.BlockObject.{free_in, pool_of, text_in}
use Rattle.pt_code_loader.specs.pt_code_tables.pt_machine_state.pt_code_facts.Facts.{facts_of, facts_view, named_texts}
use Rattle.pt_code_loader.proofs.pt_code_tables.pt_machine_state.pt_code_facts.NameLemmas.{facts_know_names}
use Rattle.pt_code_loader.specs.pt_code_tables.pt_machine_state.pt_code_facts.sem_rows.variables.Numbers.{KnowsNames}
use Rattle.law_frames.specs.Operands.{CodeNamesItsBlocks, OperandsName, OperandsNameIn}
use Rattle.law_frames.proofs.Start.{begins_with_names}
use Rattle.pt_supported_code.specs.Built.{TakesAsListed}
use Rattle.pt_supported_code.proofs.BlockLemmas.{fields_of}
use Rattle.law_loading.proofs.loaded_scripts.Lists.{same_some}
use Rattle.law_loading.specs.code_program.CodeProgram.{AreObjectsOf, code_blocks, code_in, facts_by, number_in, number_or_module, program_of_code}
use Rattle.law_loading.specs.code_program.Laws.{IsRunnable, BuiltCodeNamesItsBlocks, RunOfCodeBeginsWithNames}
use Rattle.law_loading.proofs.code_program.Objects.{at_number, the_first}

-- what holds of each instruction holds of that at a place
laid_is : (P : Instr → Type 0) (b : CodeBlock) (at : ℕ) (is : List Instr) (pc : ℕ) (i : Ins) → AllByRecursion P is → laid_from b at is pc ≡ Some i → P i.instr
laid_is P b at [] pc i h e = absurd (let no : None ≡ Some i = e in cc)
laid_is P b at (j ∷ js) pc i h e = by (nat_eq at pc) e (laid_is P b (at + length (encoding j)) js pc i h.1)
  where
    by : (t : Bool) → (if t then Some (ins_at b pc j) else laid_from b (at + length (encoding j)) js pc) ≡ Some i
        → (laid_from b (at + length (encoding j)) js pc ≡ Some i → P i.instr) → P i.instr
    by true e f = subst (λ (x : Ins). P x.instr) (same_some (ins_at b pc j) i e) h.0
    by false e f = f e

small : (within : Within) (os : List Operand) (ns : List ℕ) → AreBelow within os ns → AllByRecursion (λ n. n < 2 ^ 32) ns
small within [] [] below = tt
small within [] (n ∷ ns) below = absurd below
small within (o ∷ os) [] below = absurd below
small within (o ∷ os) (n ∷ ns) below = (below.0.0, small within os ns below.1)

all_fit : (within : Within) (is : List Instr) → AllByRecursion (NamesAll within) is → AllByRecursion InstrFits is
all_fit within [] named = tt
all_fit within (i ∷ is) named = (small within (operands i) (code_of i).operands named.0, all_fit within is named.1)

module _ (within : Within) (lists : List (List ℕ)) (count : ℕ → ℕ) (counted : (l : ℕ) → count l ≡ length (slice_index_or lists l [])) where
  operands_name : (i : Instr) → NamesAll within i → TakesAsListed lists i → OperandsNameIn within.locals within.cells count i
  unfolding code_of
  operands_name (instr.Local x) h t = h.0.1
  operands_name (instr.SetLocal x) h t = h.0.1
  operands_name (instr.DelLocal x) h t = h.0.1
  operands_name (instr.FreshLocal x) h t = h.0.1
  operands_name (instr.Cell x) h t = h.0.1
  operands_name (instr.SetCell x) h t = h.0.1
  operands_name (instr.DelCell x) h t = h.0.1
  operands_name (instr.FreshCell x) h t = h.0.1
  operands_name (instr.PushCell x) h t = h.0.1
  operands_name (instr.MakeFunction b n l) h t = t ∙ sym (counted l.0)
  operands_name i h t = tt

no_items : {A : Type 0} (xs : List A) → length xs ≡ 0 → xs ≡ []
no_items [] e = refl
no_items (x ∷ xs) e = absurd (omega (arith, e))

-- the module has no free names
module_free : (k : BlockKind) (n : ℕ) → stands_first true k ≡ true → may_be_free k n ≡ true → n ≡ 0
module_free kind.Module n e f = eqb-true n 0 f
module_free kind.Function n e f = absurd (false≢true e)
module_free kind.Generator n e f = absurd (false≢true e)
module_free kind.Class n e f = absurd (false≢true e)
module_free kind.GeneratorExpression n e f = absurd (false≢true e)

-- in either case the module's number is 0
pub module_number : (o : Option CodeBlock) → number_or_module o 0 ≡ 0
module_number (Some b) = refl
module_number None = refl

module _ (c : Code) (ready : IsRunnable c) where
  module_frees : (o : Option CodeBlock) → slice_get c.blocks 0 ≡ o → length (facts_by c.texts o).frees ≡ 0
  module_frees None e = refl
  module_frees (Some b) e =
      let f = the_first c ready.has_file in
      let same : f.0 ≡ b = same_some f.0 b (sym f.1 ∙ e) in
      let none : length f.0.free ≡ 0 = module_free f.0.kind (length f.0.free) f.2.0.1.0.1 f.2.1.0.1.1.1 in
      length-map b.free (λ x. text_in c.texts x.0) ∙ (ap (λ (x : CodeBlock). length x.free) (sym same) ∙ none)

  module _ (object : ℕ → CodeObject Value) (are : AreObjectsOf c object) where
    -- of the block at a number
    module _ (n : ℕ) (b : CodeBlock) (is : slice_get c.blocks n ≡ Some b) where
      seen : IsView b (object n).at
      seen = (are.of_blocks n b is).view

      operands_at : (pc : ℕ) (i : Ins) → (object n).at pc ≡ Some i → OperandsName (facts_view (facts_of c.texts b)) (pool_of c b) i.instr
      operands_at pc i e =
          let fields = fields_of c ready.has_file n b is in
          let within = naming (inside (length c.texts) (length c.constants) (length c.lists) (length c.blocks) fields.first) (names_of b) in
          let instrs = fields.is.1.1.0 in
          let again : IsView b (laid_from b 0 instrs.instrs) =
          record { instrs = instrs.instrs; fits = all_fit within instrs.instrs instrs.named; spelled = instrs.spelled; view_is = refl } in
          let same : (object n).at ≡ laid_from b 0 instrs.instrs = one_view b (object n).at (laid_from b 0 instrs.instrs) seen again in
          let named : NamesAll within i.instr = laid_is (NamesAll within) b 0 instrs.instrs pc i instrs.named (ap (λ v. v pc) (sym same) ∙ e) in
          let count : ℕ → ℕ = λ l. length (map (text_in c.texts) (slice_index_or c.lists l [])) in
          let names = operands_name within c.lists count (λ l. length-map (slice_index_or c.lists l []) (text_in c.texts)) i.instr named
          ((ready.built n b is).takes (object n).at seen pc i e) in
          subst (λ m. OperandsNameIn m (length (named_texts c.texts b.cells ++ named_texts c.texts b.free)) count i.instr)
          (sym (length-map b.locals (λ x. text_in c.texts x.0)))
          (subst (λ m. OperandsNameIn (length b.locals) m count i.instr) (sym cells_long) names)
        where
          cells_long : length (named_texts c.texts b.cells ++ named_texts c.texts b.free) ≡ length b.cells + length b.free
          cells_long =
              length-append (named_texts c.texts b.cells) (named_texts c.texts b.free)
              ∙ (ap (λ m. m + length (named_texts c.texts b.free)) (length-map b.cells (λ x. text_in c.texts x.0))
              ∙ ap (λ m. length b.cells + m) (length-map b.free (λ x. text_in c.texts x.0)))

      by_pool : (pool : Pool) → pool ≡ pool_of c b → (o : Option CodeBlock) → slice_get c.blocks n ≡ o → (pc : ℕ) (i : Ins) → (object n).at pc ≡ Some i
          → OperandsName (facts_by c.texts o) pool i.instr
      by_pool pool p (Some a) q pc i e =
          subst (λ x. OperandsName (facts_view (facts_of c.texts x)) pool i.instr) (sym (same_some a b (sym q ∙ is)))
          (subst (λ x. OperandsName (facts_view (facts_of c.texts b)) x i.instr) (sym p) (operands_at pc i e))
      by_pool pool p None q pc i e = absurd (let no : None ≡ Some b = sym q ∙ is in cc)

      names_at : (o : Option CodeBlock) → slice_get c.blocks n ≡ o → KnowsNames (object n) (facts_by c.texts o)
      names_at (Some a) q =
          subst (λ x. KnowsNames (object n) (facts_view (facts_of c.texts x))) (sym (same_some a b (sym q ∙ is)))
          (facts_know_names c b (object n) (are.of_blocks n b is).pool)
      names_at None q = absurd (let no : None ≡ Some b = sym q ∙ is in cc)

    captures_by : (o : Option CodeBlock) (m : ℕ) → slice_get c.blocks m ≡ o → free_in o ≡ length (facts_by c.texts (slice_get c.blocks (number_or_module o m))).frees
    captures_by (Some a) m e =
        sym (ap (λ (x : Option CodeBlock). length (facts_by c.texts x).frees) e ∙ length-map a.free (λ x. text_in c.texts x.0))
    captures_by None m e = sym (module_frees (slice_get c.blocks 0) refl)

    operands_by : (m pc : ℕ) (i : Ins) → (object (number_in c m)).at pc ≡ Some i
        → OperandsName (facts_by c.texts (slice_get c.blocks (number_in c m))) (object (number_in c m)).pool i.instr
    operands_by m pc i e =
        let a = at_number c ready.has_file m in let n = number_in c m in
        by_pool n a.0 a.1 (object n).pool (are.of_blocks n a.0 a.1).pool (slice_get c.blocks n) refl pc i e

    names_by : (m : ℕ) → KnowsNames (object (number_in c m)) (facts_by c.texts (slice_get c.blocks (number_in c m)))
    names_by m = let a = at_number c ready.has_file m in let n = number_in c m in names_at n a.0 a.1 (slice_get c.blocks n) refl

    captured_by : (m k : ℕ) → (object (number_in c m)).pool.captures k ≡ length (facts_by c.texts (slice_get c.blocks (number_in c k))).frees
    captured_by m k =
        let a = at_number c ready.has_file m in let n = number_in c m in
        ap (λ (p : Pool). p.captures k) (are.of_blocks n a.0 a.1).pool ∙ captures_by (slice_get c.blocks k) k refl

-- of a prelude and of a code over it
module _ (prelude c : Code) (object : (hidden : Bool) → ℕ → CodeObject Value) (first : IsRunnable prelude) (ready : IsRunnable c)
    (are : (hidden : Bool) → AreObjectsOf (code_in prelude c hidden) (object hidden)) where
  runnable : (hidden : Bool) → IsRunnable (code_in prelude c hidden)
  runnable true = first
  runnable false = ready

  names_its_blocks : CodeNamesItsBlocks (program_of_code prelude c) (code_blocks prelude c object)
  names_its_blocks = record {
    operands = λ b pc i e. operands_by (code_in prelude c b.hidden) (runnable b.hidden) (object b.hidden) (are b.hidden) b.number pc i e;
    names = λ b. names_by (code_in prelude c b.hidden) (runnable b.hidden) (object b.hidden) (are b.hidden) b.number;
    extras = λ b. (are b.hidden).extras (number_in (code_in prelude c b.hidden) b.number);
    captures = λ b m. captured_by (code_in prelude c b.hidden) (runnable b.hidden) (object b.hidden) (are b.hidden) b.number m;
  }

pub built_code_names_its_blocks : BuiltCodeNamesItsBlocks
built_code_names_its_blocks prelude c object first ready are = names_its_blocks prelude c object first ready are

pub run_begins_with_names : RunOfCodeBeginsWithNames
run_begins_with_names prelude c ready =
    let n = number_in c 0 in
    let at = ap (slice_get c.blocks) (sym (module_number (slice_get c.blocks 0))) in
    begins_with_names (program_of_code prelude c) (no_items (facts_by c.texts (slice_get c.blocks n)).frees (module_frees c ready (slice_get c.blocks n) at))
