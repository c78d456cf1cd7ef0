-- Blocks of a code that has a file.
use Rattle.std.proofs.Common.{◌≡◌, ◌<◌, ◌≤◌, ℕ, zero, suc, Bool, true, false, ◌+◌, ◌&&◌, List, [], ◌∷◌, length, Option, Some, None, nat_eq, eqb-true, eq-eqb, get_or, refl, sym, ap, ◌∙◌, subst, arith}
use Rattle.std.specs.Prelude.{Decides, slice_get}
use Rattle.std.specs.List.{AllByRecursion, IsDistinct}
use Rattle.std.specs.Str.{bytes_eq}
use Rattle.std.proofs.lemmas.Bool.{false≢true}
use Rattle.std.proofs.lemmas.Option.{slice_get_within, slice_get_read, get_or_from_slice_get}
use Rattle.pt_instr.specs.declared.TextNo.{TextNo}
use Rattle.pt_code.specs.declared.CodeBlock.{CodeBlock}
use Rattle.pt_code.specs.declared.Code.{Code}
use Rattle.pt_code.specs.File.{HasFile, AreBlocks, IsBlock, NamesText, inside}
use Rattle.pt_code.specs.View.{Ins, IsView}
use Rattle.pt_code.proofs.OneView.{one_view}
use Rattle.pt_places.specs.declared.places.Place.{Place}
use Rattle.pt_places.specs.PlaceTable.{HasPlaces, place_at, place_of}
use Rattle.sem_fits.proofs.fits.ViewLaid.{view_is_laid}
use Rattle.pt_verify_depths.proofs.ViewLemmas.{blocks_are_seen}
use Rattle.pt_supported_code.specs.Built.{IsBuiltBlock, TakesAsListed, is_plain_kind, named_by}
use Rattle.pt_supported_code.specs.Numbers.{IsReadBlock, AllTake}

some_is : {A : Type 0} (a b : A) → Some a ≡ Some b → a ≡ b
some_is a b e = ap (λ o. elim o [ None ↦ a | Some x ↦ x ]) e

-- what stands in the view stands in the table, up to the end
no_code : Code
no_code = record { texts = []; constants = []; lists = []; blocks = [] }

module _ (lists : List (List ℕ)) (b : CodeBlock) (table : List (Option Place)) (view : ℕ → Option Ins) (seen : IsView b view) (has : HasPlaces view table) where
  by_table : (size : ℕ) → size ≡ length b.instructions → AllTake lists size table → (pc : ℕ) (i : Ins) → view pc ≡ Some i → TakesAsListed lists i.instr
  by_table size s all pc i e =
      all pc (place_of i.instr i.mark i.next) (subst (λ n. pc ≤ n) (sym s) (view_is_laid no_code b view seen pc i e)) (has pc ∙ ap place_at e)

  by_view : (size : ℕ) → ((pc : ℕ) (i : Ins) → view pc ≡ Some i → TakesAsListed lists i.instr) → AllTake lists size table
  by_view size all pc p l e = at_place (view pc) refl (sym (has pc) ∙ e)
    where
      at_place : (o : Option Ins) → view pc ≡ o → place_at o ≡ Some p → TakesAsListed lists p.instr
      at_place None v f = absurd (let no : None ≡ Some p = f in cc)
      at_place (Some i) v f = subst (λ (x : Place). TakesAsListed lists x.instr) (some_is (place_of i.instr i.mark i.next) p f) (all pc i v)

  pub takes_by_places : (size : ℕ) → size ≡ length b.instructions → (all : Bool) → Decides all (AllTake lists size table)
      → Decides all ((pc : ℕ) (i : Ins) → view pc ≡ Some i → TakesAsListed lists i.instr)
  takes_by_places size s all d = ((λ e. by_table size s (d.0 e)), (λ h. d.1 (by_view size h)))

-- the fields of a block that a code with a file has
pub record HasFields (c : Code) (b : CodeBlock) : Type 0 where
  pub first : Bool
  pub is : IsBlock (inside (length c.texts) (length c.constants) (length c.lists) (length c.blocks) first) b

each : {X : Type 0} (P : X → Type 0) (xs : List X) → AllByRecursion P xs → (n : ℕ) (x : X) → slice_get xs n ≡ Some x → P x
each P [] all n x e = absurd (let no : None ≡ Some x = e in cc)
each P (y ∷ ys) all zero x e = subst P (some_is y x e) all.0
each P (y ∷ ys) all (suc n) x e = each P ys all.1 n x e

one_among : (texts constants lists : ℕ) (bs : List CodeBlock) → AreBlocks texts constants lists bs → (n : ℕ) (b : CodeBlock) → slice_get bs n ≡ Some b
    → (first : Bool) × IsBlock (inside texts constants lists (length bs) first) b
one_among texts constants lists [] are n b e = absurd are
one_among texts constants lists (a ∷ bs) are zero b e =
    (true, subst (IsBlock (inside texts constants lists (length (a ∷ bs)) true)) (some_is a b e) are.1)
one_among texts constants lists (a ∷ bs) are (suc n) b e =
    (false, each (IsBlock (inside texts constants lists (length (a ∷ bs)) false)) bs are.2 n b e)

pub fields_of : (c : Code) → HasFile c → (n : ℕ) (b : CodeBlock) → slice_get c.blocks n ≡ Some b → HasFields c b
fields_of c has n b e =
    let f = one_among (length c.texts) (length c.constants) (length c.lists) c.blocks has.1.1.1 n b e in
    record { first = f.0; is = f.1 }

below : (texts : ℕ) (xs : List TextNo) → AllByRecursion (NamesText texts) xs → AllByRecursion (λ (x : TextNo). x.0 < texts) xs
below texts [] all = tt
below texts (x ∷ xs) all = (all.0.1, below texts xs all.1)

pub is_read : (c : Code) → HasFile c → (n : ℕ) (b : CodeBlock) → slice_get c.blocks n ≡ Some b → IsReadBlock c b
is_read c has n b e =
    let names = (fields_of c has n b e).is.1.0 in
    let seen = blocks_are_seen c has b (n, slice_get_within c.blocks n b e, get_or_from_slice_get c.blocks n b b e) in
    record {
      locals = below (length c.texts) b.locals names.0.0.1;
      cells = below (length c.texts) b.cells names.1.0.1;
      free = below (length c.texts) b.free names.1.1.0.1;
      view = seen.view;
      is_view = seen.is;
    }

-- what is told of the parts of a block
module _ (c : Code) (b : CodeBlock) (read : IsReadBlock c b) where
  abbrev Takes : Type 0
  Takes = (pc : ℕ) (i : Ins) → read.view pc ≡ Some i → TakesAsListed c.lists i.instr

  abbrev has_kind : Bool
  has_kind = is_plain_kind b.kind

  both_true : (s t : Bool) → (s && t) ≡ true → (s ≡ true) × (t ≡ true)
  both_true true t e = (refl, e)
  both_true false t e = absurd (false≢true e)

  both : (s t : Bool) → s ≡ true → t ≡ true → (s && t) ≡ true
  both true t e f = f
  both false t e f = absurd (false≢true e)

  one_view_takes : Takes → (view : ℕ → Option Ins) → IsView b view → (pc : ℕ) (i : Ins) → view pc ≡ Some i → TakesAsListed c.lists i.instr
  one_view_takes t view seen pc i e = t pc i (ap (λ v. v pc) (one_view b read.view view read.is_view seen) ∙ e)

  pub parts_tell : (locals cells free takes : Bool) → Decides locals (IsDistinct bytes_eq (named_by c.texts b.locals))
      → Decides cells (IsDistinct bytes_eq (named_by c.texts b.cells)) → Decides free (IsDistinct bytes_eq (named_by c.texts b.free)) → Decides takes Takes
      → Decides (has_kind && (locals && (cells && (free && takes)))) (IsBuiltBlock c b)
  parts_tell locals cells free takes l m f n = (told, asked)
    where
      told : (has_kind && (locals && (cells && (free && takes)))) ≡ true → IsBuiltBlock c b
      told e =
          let p = both_true has_kind (locals && (cells && (free && takes))) e in
          let q = both_true locals (cells && (free && takes)) p.1 in
          let r = both_true cells (free && takes) q.1 in
          let s = both_true free takes r.1 in
          record { is_plain = p.0; locals = l.0 q.0; cells = m.0 r.0; free = f.0 s.0; takes = one_view_takes (n.0 s.1) }

      asked : IsBuiltBlock c b → (has_kind && (locals && (cells && (free && takes)))) ≡ true
      asked x =
          both has_kind (locals && (cells && (free && takes))) x.is_plain
          (both locals (cells && (free && takes)) (l.1 x.locals)
          (both cells (free && takes) (m.1 x.cells) (both free takes (f.1 x.free) (n.1 (x.takes read.view read.is_view)))))

-- blocks one after another
pub read_at : (xs bs : List CodeBlock) (n : ℕ) (b : CodeBlock) → xs ≡ bs → n < length xs → b ≡ get_or xs n b → slice_get bs n ≡ Some b
read_at xs bs n b s l e = subst (λ ys. slice_get ys n ≡ Some b) s (slice_get_read xs (length xs) n b refl l e)

module _ (c : Code) where
  pub built_so_far : (n : ℕ) (b : CodeBlock) → slice_get c.blocks n ≡ Some b
      → ((m : ℕ) (a : CodeBlock) → m < n → slice_get c.blocks m ≡ Some a → IsBuiltBlock c a) → IsBuiltBlock c b
      → (m : ℕ) (a : CodeBlock) → m < n + 1 → slice_get c.blocks m ≡ Some a → IsBuiltBlock c a
  built_so_far n b at before x m a l e = by (nat_eq m n) refl
    where
      by : (t : Bool) → nat_eq m n ≡ t → IsBuiltBlock c a
      by true f =
          let same : m ≡ n = eqb-true m n f in
          subst (IsBuiltBlock c) (some_is b a (sym at ∙ (ap (slice_get c.blocks) (sym same) ∙ e))) x
      by false f = before m a (let apart : m ≡ n → ⊥ = λ s. false≢true (sym f ∙ eq-eqb m n s) in omega (arith, l, apart)) e

  pub built_to_the_end : (n : ℕ) → length c.blocks ≤ n → ((m : ℕ) (a : CodeBlock) → m < n → slice_get c.blocks m ≡ Some a → IsBuiltBlock c a)
      → (m : ℕ) (a : CodeBlock) → slice_get c.blocks m ≡ Some a → IsBuiltBlock c a
  built_to_the_end n l before m a e = before m a (let h = slice_get_within c.blocks m a e in omega (arith, l, h)) e
