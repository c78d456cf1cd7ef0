-- Each field of a script's code is one.
use Rattle.std.proofs.Common.{if◌then◌else◌, ◌≡◌, ℕ, ◌<◌, ◌^◌, Bool, true, false, List, [], ◌∷◌, length, refl, subst, arith}
use Rattle.std.specs.Prelude.{nat_eq}
use Rattle.std.specs.List.{AllByRecursion}
use Rattle.pt_instr.specs.declared.TextNo.{TextNo}
use Rattle.pt_code.specs.declared.BlockKind.{BlockKind}
use Rattle.pt_code.specs.declared.Const.{Const}
use Rattle.pt_code.specs.declared.Const.TheVariants as const
use Rattle.pt_code.specs.declared.Code.{Code}
use Rattle.pt_code.specs.declared.CodeBlock.{CodeBlock}
use Rattle.pt_code.specs.File.{IsNumber, IsBelow, AreListed, NamesText, IsConstant, IsBlock, AreBlocks, is_module, stands_first, may_be_free, inside}
use Rattle.sem_compile.specs.compile.ScriptCode.{code_of}
use Rattle.law_files.specs.code_files.Numbers.{IntegerFits, IsCounted, BlockFits}
use Rattle.law_files.specs.code_files.Laws.{HasKind, ModuleFirst, TextIn, ConstantIn, ListIn, HasTexts, NamesInside, HasParameters, FirstHasNoFree, ScriptHasFile}
use Rattle.law_files.proofs.code_files.Each.{weaken}
use Rattle.law_files.proofs.code_files.Signatures.{module_stands_first}
use Rattle.law_files.proofs.code_files.Named.{texts_are_known}
use Rattle.law_files.proofs.code_files.Instructions.{instructions_name_inside}
use Rattle.law_files.proofs.code_files.Locals.{parameters_are_locals}
use Rattle.law_files.proofs.code_files.Module.{module_has_no_free}

-- two facts of each item
together : {A : Type 0} (P Q S : A → Type 0) → ((x : A) → P x → Q x → S x) → (xs : List A) → AllByRecursion P xs → AllByRecursion Q xs → AllByRecursion S xs
together P Q S f [] h k = tt
together P Q S f (x ∷ xs) h k = (f x h.0 k.0, together P Q S f xs h.1 k.1)

below : (n k : ℕ) → n < 2 ^ 32 → k < n → IsBelow n k
below n k small h = (omega arith, h)

constant_is : (n : ℕ) → n < 2 ^ 32 → (k : Const) → IntegerFits k → ConstantIn n k → IsConstant n k
constant_is n small (const.Int i) f h = f
constant_is n small (const.Text t) f h = below n t.0 small h
constant_is n small const.None f h = tt
constant_is n small const.False f h = tt
constant_is n small const.True f h = tt
constant_is n small const.Ellipsis f h = tt

list_is : (n : ℕ) → n < 2 ^ 32 → (l : List ℕ) → IsCounted l → ListIn n l → AreListed (IsBelow n) l
list_is n small l f h = (f, weaken (λ k. k < n) (IsBelow n) (λ k. below n k small) l h)

names_are : (n : ℕ) → n < 2 ^ 32 → (ts : List TextNo) → IsCounted ts → AllByRecursion (TextIn n) ts → AreListed (NamesText n) ts
names_are n small ts f h = (f, weaken (TextIn n) (NamesText n) (λ t. below n t.0 small) ts h)

-- a block that isn't the first may have free names
behind_first : (k : BlockKind) (count : ℕ) → stands_first false k ≡ true → may_be_free k count ≡ true
behind_first k count h = by (is_module k) h
  where
    by : (b : Bool) → (if b then false else true) ≡ true → (if b then nat_eq count 0 else true) ≡ true
    by true g = absurd (let same : false ≡ true = g in cc)
    by false g = refl

none_first : (k : BlockKind) (count : ℕ) → nat_eq count 0 ≡ true → may_be_free k count ≡ true
none_first k count h = by (is_module k)
  where
    by : (b : Bool) → (if b then nat_eq count 0 else true) ≡ true
    by true = h
    by false = refl

module _ (c : Code) (small : length c.texts < 2 ^ 32) where
  abbrev Is : (first : Bool) → CodeBlock → Type 0
  Is first b = IsBlock (inside (length c.texts) (length c.constants) (length c.lists) (length c.blocks) first) b

  block_is : (first : Bool) (b : CodeBlock) → BlockFits b → HasTexts (length c.texts) b → HasKind first b → NamesInside c first b → HasParameters b
      → may_be_free b.kind (length b.free) ≡ true → Is first b
  block_is first b f t k i p free = (
    (
      below (length c.texts) b.name.0 small t.0,
      ((tt, k.0), (f.first_line, ((f.parameters, k.1.0), ((tt, k.1.1.0), (f.keyword_only, k.1.1.1))))),
    ),
    (
      (
        (names_are (length c.texts) small b.locals f.locals t.1.0, p),
        (
          names_are (length c.texts) small b.cells f.cells t.1.1.0,
          (names_are (length c.texts) small b.free f.free t.1.1.1, free),
        ),
      ),
      (
        record { some = i.some; counted = f.instructions; instrs = i.instrs; spelled = i.spelled; named = i.named },
        (f.marks, (f.handlers, f.starts)),
      ),
    ),
  )

  rest_are : (bs : List CodeBlock) → AllByRecursion BlockFits bs → AllByRecursion (HasTexts (length c.texts)) bs → AllByRecursion (HasKind false) bs
      → AllByRecursion (NamesInside c false) bs → AllByRecursion HasParameters bs → AllByRecursion (Is false) bs
  rest_are [] f t k i p = tt
  rest_are (b ∷ bs) f t k i p =
      (block_is false b f.0 t.0 k.0 i.0 p.0 (behind_first b.kind (length b.free) k.0.0), rest_are bs f.1 t.1 k.1 i.1 p.1)

  blocks_are : (bs : List CodeBlock) → length c.blocks ≡ length bs → IsNumber (length bs) → AllByRecursion BlockFits bs
      → AllByRecursion (HasTexts (length c.texts)) bs → ModuleFirst bs → ((first : Bool) → AllByRecursion (NamesInside c first) bs)
      → AllByRecursion HasParameters bs → FirstHasNoFree bs → AreBlocks (length c.texts) (length c.constants) (length c.lists) bs
  blocks_are [] e n f t m i p no_free = absurd m
  blocks_are (b ∷ bs) e n f t m i p no_free =
      subst (λ (count : ℕ). IsNumber (length (b ∷ bs)) × IsBlock (inside (length c.texts) (length c.constants) (length c.lists) count true) b
      × AllByRecursion (IsBlock (inside (length c.texts) (length c.constants) (length c.lists) count false)) bs) e
      (n, block_is true b f.0 t.0 m.0 (i true).0 p.0 (none_first b.kind (length b.free) no_free), rest_are bs f.1 t.1 m.1 (i false).1 p.1)

pub script_has_file : ScriptHasFile
script_has_file ss numbered none f =
    let c = code_of ss in
    let small = f.texts.0 in
    let t = texts_are_known ss in (
      f.texts,
      (
        (f.constants.0, together IntegerFits (ConstantIn (length c.texts)) (IsConstant (length c.texts)) (constant_is (length c.texts) small) c.constants f.constants.1 t.0),
        (
          (f.lists.0, together IsCounted (ListIn (length c.texts)) (AreListed (IsBelow (length c.texts))) (list_is (length c.texts) small) c.lists f.lists.1 t.1.0),
          blocks_are c small c.blocks refl f.blocks.0 f.blocks.1 t.1.1 (module_stands_first ss) (instructions_name_inside ss numbered) (parameters_are_locals ss none) (module_has_no_free ss numbered none),
        ),
      ),
    )
