-- Code that has a file can be listed, one block after the other.
use Rattle.std.proofs.Common.{◌≡◌, ◌<◌, ◌+◌, ◌^◌, ℕ, suc, Bool, true, false, List, [], ◌∷◌, ◌++◌, length, drop, get_or, refl, sym, subst, ap, ◌∙◌, arith, append_assoc, append-nil}
use Rattle.std.proofs.Math.Seq.{drop-cons}
use Rattle.std.specs.List.{AllByRecursion}
use Rattle.pt_ranges.specs.Marks.{Rises}
use Rattle.pt_instr.specs.declared.Instr.{Instr}
use Rattle.pt_instr.specs.Encoding.{code_of, Fits}
use Rattle.pt_code.specs.declared.parts.Within.{Within}
use Rattle.pt_code.specs.declared.parts.Operand.{Operand}
use Rattle.pt_code.specs.declared.CodeBlock.{CodeBlock}
use Rattle.pt_code.specs.declared.Code.{Code}
use Rattle.pt_code.specs.File.{operands, inside, naming, names_of, AreBelow, NamesAll, IsBlock, AreBlocks, HasFile}
use Rattle.pt_listing.specs.Listing.{block_lines, AreListings, CanBeListed, IsSpelled}

fits_below : (within : Within) (os : List Operand) (ns : List ℕ) → AreBelow within os ns → AllByRecursion (λ n. n < 2 ^ 32) ns
fits_below within [] [] below = tt
fits_below within [] (n ∷ ns) below = absurd below
fits_below within (o ∷ os) [] below = absurd below
fits_below within (o ∷ os) (n ∷ ns) below = (below.0.0, fits_below within os ns below.1)

all_fit : (within : Within) (is : List Instr) → AllByRecursion (NamesAll within) is → AllByRecursion Fits is
all_fit within [] named = tt
all_fit within (i ∷ is) named = (fits_below within (operands i) (code_of i).operands named.0, all_fit within is named.1)

block_can : (texts constants lists blocks : ℕ) (first : Bool) (names : List (List ℕ)) (b : CodeBlock) → length names ≡ texts
    → IsBlock (inside texts constants lists blocks first) b → Rises b.marks → CanBeListed names b
block_can texts constants lists blocks first names b counted is rise = record {
  named = subst (λ n. b.name.0 < n) (sym counted) is.0.0.1;
  rise = rise;
  counted = is.1.1.0.counted;
  instrs = is.1.1.0.instrs;
  is_spelled =
      record {
        fits = all_fit (naming (inside texts constants lists blocks first) (names_of b)) is.1.1.0.instrs is.1.1.0.named;
        spelled =
            is.1.1.0.spelled;
      };
}

others_can : (texts constants lists blocks : ℕ) (names : List (List ℕ)) (bs : List CodeBlock) → length names ≡ texts
    → AllByRecursion (IsBlock (inside texts constants lists blocks false)) bs → AllByRecursion (λ b. Rises b.marks) bs
    → AllByRecursion (CanBeListed names) bs
others_can texts constants lists blocks names [] counted are rise = tt
others_can texts constants lists blocks names (b ∷ bs) counted are rise =
    (block_can texts constants lists blocks false names b counted are.0 rise.0, others_can texts constants lists blocks names bs counted are.1 rise.1)

pub all_can : (c : Code) → HasFile c → AllByRecursion (λ b. Rises b.marks) c.blocks → AllByRecursion (CanBeListed c.texts) c.blocks
all_can c has rise = by_blocks c.blocks has.1.1.1 rise
  where
    by_blocks : (bs : List CodeBlock) → AreBlocks (length c.texts) (length c.constants) (length c.lists) bs
        → AllByRecursion (λ b. Rises b.marks) bs → AllByRecursion (CanBeListed c.texts) bs
    by_blocks [] are rise = absurd are
    by_blocks (b ∷ bs) are rise = (
      block_can (length c.texts) (length c.constants) (length c.lists) (length (b ∷ bs)) true c.texts b refl are.1 rise.0,
      others_can (length c.texts) (length c.constants) (length c.lists) (length (b ∷ bs)) c.texts bs refl are.2 rise.1,
    )

-- so many blocks are listed, and the lines of the others make those of all
abbrev pub Listed : (texts : List (List ℕ)) → (all : List CodeBlock) → (number : ℕ) → (left : List CodeBlock) → (lines : List ℕ) → Type 0
Listed texts all n left lines = (rest : List ℕ) → AreListings texts n left rest → AreListings texts 0 all (lines ++ rest)

pub none_listed : (texts : List (List ℕ)) (all : List CodeBlock) → Listed texts all 0 all []
none_listed texts all rest are = are

pub one_listed : (texts : List (List ℕ)) (all : List CodeBlock) (n : ℕ) (b : CodeBlock) (left : List CodeBlock) (lines more : List ℕ) → CanBeListed texts b
    → ((is : List Instr) → IsSpelled b is → more ≡ lines ++ block_lines texts n b is) → Listed texts all n (b ∷ left) lines → Listed texts all (n + 1) left more
one_listed texts all n b left lines more can pushed listed rest are =
    let first = block_lines texts n b can.instrs in
    let whole : AreListings texts n (b ∷ left) (first ++ rest) = (first, rest, (can.instrs, can.is_spelled, refl), are, refl) in
    subst (AreListings texts 0 all)
    (sym (append_assoc lines first rest) ∙ ap (λ l. l ++ rest) (sym (pushed can.instrs can.is_spelled)))
    (listed (first ++ rest) whole)

pub all_listed : (texts : List (List ℕ)) (all : List CodeBlock) (n : ℕ) (lines : List ℕ) → Listed texts all n [] lines → AreListings texts 0 all lines
all_listed texts all n lines listed = subst (AreListings texts 0 all) (append-nil lines) (listed [] refl)

one_more : (i : ℕ) → suc i ≡ i + 1
one_more i = omega arith

-- the next block of a list
pub next_block : (items all : List CodeBlock) (i : ℕ) (b : CodeBlock) → items ≡ all → i < length items → b ≡ get_or items i b
    → drop i all ≡ b ∷ drop (i + 1) all
next_block items all i b same within is =
    subst (λ bs. drop i bs ≡ b ∷ drop (i + 1) bs) same (drop-cons items i b within ∙ ap (λ x. x ∷ drop (suc i) items) (sym is)
    ∙ ap (λ n. b ∷ drop n items) (one_more i))
