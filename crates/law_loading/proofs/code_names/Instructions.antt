-- What instructions of a script's code name, as they stand.
use Rattle.std.proofs.Common.{◌≡◌, ◌∙◌, ◌+◌, ◌<◌, ◌^◌, ℕ, zero, suc, Bool, true, false, ◌&&◌, if◌then◌else◌, nat_eq, List, [], ◌∷◌, length, map, Option, Some, None, refl, sym, ap, subst, arith}
use Rattle.std.proofs.lemmas.Bool.Decides.{nat_tests}
use Rattle.std.specs.Prelude.{slice_get}
use Rattle.std.specs.List.{AllByRecursion, list_all}
use Rattle.pt_tree.specs.Syntax.{Stms}
use Rattle.sem_control.specs.numbering.Numbered.{IsNumbered}
use Rattle.pt_instr.specs.declared.Instr.{Instr}
use Rattle.pt_instr.specs.declared.Instr.TheVariants as instr
use Rattle.pt_instr.specs.Encoding.{code_of as encoded, encoding, Fits as InstrFits}
use Rattle.pt_assembler.specs.declared.operation.Placed.{Placed}
use Rattle.pt_assembler.specs.Layout.{Written, instr_in}
use Rattle.pt_code.specs.declared.BlockKind.{BlockKind}
use Rattle.pt_code.specs.declared.Code.{Code}
use Rattle.pt_code.specs.declared.CodeBlock.{CodeBlock}
use Rattle.pt_code.specs.declared.parts.Operand.{Operand}
use Rattle.pt_code.specs.declared.parts.Within.{Within}
use Rattle.pt_code.specs.File.{AreBelow, NamesAll, naming, inside, names_of as names_of_block, operands}
use Rattle.pt_code.specs.View.{Ins, IsView, ins_at, laid_from}
use Rattle.pt_code.proofs.OneView.{one_view}
use Rattle.law_typed_pieces.specs.law_operands.law_files.sem_compile.compile.ScriptCode.{BlockLayout, script_layouts, code_block, code_of}
use Rattle.law_typed_pieces.specs.law_operands.law_files.code_files.Laws.{NamesInside}
use Rattle.law_typed_pieces.proofs.law_operands.law_files.code_files.Each.{each_at}
use Rattle.law_typed_pieces.proofs.law_operands.law_files.code_files.Instructions.{instructions_name_inside}
use Rattle.sem_fits.specs.fits.Block.{Links}
use Rattle.sem_fits.specs.fits.Standing.{is_function, names_defaults, are_distinct, is_among, may_stand}
use Rattle.law_typed_pieces.specs.standing_pieces.Laws.{StandsLaid}
use Rattle.law_frames.specs.Operands.{OperandsNameIn}

-- an instruction that makes a function takes as many defaults as its list has names
abbrev pub TakesAsNamed : (names : ℕ → ℕ) → Instr → Type 0
TakesAsNamed names (instr.MakeFunction b n l) = n ≡ names l.0
TakesAsNamed names i = Unit {0}

and-left : (a b : Bool) → (a && b) ≡ true → a ≡ true
and-left true b e = refl
and-left false b e = e

and-right : (a b : Bool) → (a && b) ≡ true → b ≡ true
and-right true b e = e
and-right false b e = absurd (let no : false ≡ true = e in cc)

equal : (p q : ℕ) → nat_eq p q ≡ true → q ≡ p
equal p q e = grind (arith, nat_tests)

module _ (k : BlockKind) (links : Links) where
  -- as it does where it may stand (8.7)
  stands-takes : (i : Instr) → may_stand k links i ≡ true → TakesAsNamed (λ l. length (links.texts l)) i
  stands-takes (instr.MakeFunction b n l) h =
      let xs = links.texts l.0 in
      let ps = links.parameters b.0 in
      let named = and-right (is_function (links.kind b.0)) (names_defaults ps n xs) h in
      equal (length xs) n (and-left (nat_eq (length xs) n) (are_distinct xs && list_all (is_among ps) xs) named)
  stands-takes i h = tt

  pub all-take : (w : Written) (is : List Placed) → AllByRecursion (StandsLaid k links w) is
      → AllByRecursion (TakesAsNamed (λ l. length (links.texts l))) (map (λ p. instr_in w p.operation) is)
  all-take w [] h = tt
  all-take w (p ∷ is) h = (stands-takes (instr_in w p.operation) h.0.stands, all-take w is h.1)

-- instructions whose operands are below their bounds have bytes

fits-below : (within : Within) (os : List Operand) (ns : List ℕ) → AreBelow within os ns → AllByRecursion (λ n. n < 2 ^ 32) ns
fits-below within [] [] h = tt
fits-below within [] (n ∷ ns) h = absurd h
fits-below within (o ∷ os) [] h = absurd h
fits-below within (o ∷ os) (n ∷ ns) h = (h.0.0, fits-below within os ns h.1)

all-fit : (within : Within) (is : List Instr) → AllByRecursion (NamesAll within) is → AllByRecursion InstrFits is
all-fit within [] h = tt
all-fit within (i ∷ is) h = (fits-below within (operands i) (encoded i).operands h.0, all-fit within is h.1)

abbrev pub within_of : Code → CodeBlock → Within
within_of c b = naming (inside (length c.texts) (length c.constants) (length c.lists) (length c.blocks) true) (names_of_block b)

pub mapped-at : {A B : Type 0} (f : A → B) (xs : List A) (n : ℕ) (x : A) → slice_get xs n ≡ Some x → slice_get (map f xs) n ≡ Some (f x)
mapped-at f [] n x e = absurd (let no : None ≡ Some x = e in cc)
mapped-at f (y ∷ xs) zero x e = let same : y ≡ x = cc in ap (λ z. Some (f z)) same
mapped-at f (y ∷ xs) (suc n) x e = mapped-at f xs n x e

-- what stands at a place is one of the instructions that are laid out
pub laid-is : (P : Instr → Type 0) (b : CodeBlock) (at : ℕ) (is : List Instr) (pc : ℕ) (i : Ins) → AllByRecursion P is → laid_from b at is pc ≡ Some i
    → P i.instr
laid-is P b at [] pc i all e = absurd (let no : None ≡ Some i = e in cc)
laid-is P b at (j ∷ js) pc i all e = by (nat_eq at pc) e (laid-is P b (at + length (encoding j)) js pc i all.1)
  where
    by : (t : Bool) → (if t then Some (ins_at b pc j) else laid_from b (at + length (encoding j)) js pc) ≡ Some i
        → (laid_from b (at + length (encoding j)) js pc ≡ Some i → P i.instr) → P i.instr
    by true e f = let same : ins_at b pc j ≡ i = cc in subst (λ (k : Ins). P k.instr) same all.0
    by false e f = f e

-- so it names what the code and the block have
pub seen-names : (ss : Stms) (n : ℕ) (b : BlockLayout) → slice_get (script_layouts ss) n ≡ Some b → IsNumbered ss → (view : ℕ → Option Ins)
    → IsView (code_block b) view → (pc : ℕ) (i : Ins) → view pc ≡ Some i → NamesAll (within_of (code_of ss) (code_block b)) i.instr
seen-names ss n b at numbered view seen pc i e =
    let within = within_of (code_of ss) (code_block b) in
    let names : NamesInside (code_of ss) true (code_block b) =
    each_at (NamesInside (code_of ss) true) (code_of ss).blocks n (code_block b) (mapped-at code_block (script_layouts ss) n b at)
    (instructions_name_inside ss numbered true) in
    let again : IsView (code_block b) (laid_from (code_block b) 0 names.instrs) =
    record { instrs = names.instrs; fits = all-fit within names.instrs names.named; spelled = names.spelled; view_is = refl } in
    let same : view ≡ laid_from (code_block b) 0 names.instrs = one_view (code_block b) view (laid_from (code_block b) 0 names.instrs) seen again in
    laid-is (NamesAll within) (code_block b) 0 names.instrs pc i names.named (ap (λ f. f pc) (sym same) ∙ e)

module _ (within : Within) (names : ℕ → ℕ) where
  pub operands-name : (i : Instr) → NamesAll within i → TakesAsNamed names i → OperandsNameIn within.locals within.cells names i
  unfolding encoded
  operands-name (instr.Local x) h t = h.0.1
  operands-name (instr.SetLocal x) h t = h.0.1
  operands-name (instr.DelLocal x) h t = h.0.1
  operands-name (instr.FreshLocal x) h t = h.0.1
  operands-name (instr.Cell x) h t = h.0.1
  operands-name (instr.SetCell x) h t = h.0.1
  operands-name (instr.DelCell x) h t = h.0.1
  operands-name (instr.FreshCell x) h t = h.0.1
  operands-name (instr.PushCell x) h t = h.0.1
  operands-name (instr.MakeFunction b n l) h t = t
  operands-name i h t = tt
