-- What sizes and a view tell of a block, and a view of any table of places.
use Rattle.std.proofs.Common.{◌≡◌, ℕ, ◌+◌, ◌<◌, ◌≤◌, Bool, true, false, List, [], ◌∷◌, length, Option, Some, None, refl, sym, ap, ◌∙◌, arith, length-append}
use Rattle.std.specs.Prelude.{cond, nat_eq, option_map}
use Rattle.std.specs.List.{flat_map}
use Rattle.std.proofs.lemmas.Bool.{eqb-true}
use Rattle.pt_instr.specs.declared.Instr.{Instr}
use Rattle.pt_instr.specs.Encoding.{encoding}
use Rattle.pt_code.specs.declared.Code.{Code}
use Rattle.pt_code.specs.declared.CodeBlock.{CodeBlock}
use Rattle.pt_code.specs.View.{Ins, ins_at, laid_from, IsView}
use Rattle.pt_places.specs.declared.places.Place.{Place}
use Rattle.pt_places.specs.PlaceTable.{entry, place_at, HasPlaces}
use Rattle.sem_fits.specs.fits.Block.{Block, block_of}
use Rattle.pt_verify_depths.specs.Sizes as S
use Rattle.pt_verify_depths.specs.Sizes.{Sized}
use Rattle.pt_verify_depths.specs.PlaceTable as T
use Rattle.pt_verify_depths.specs.PlaceTable.{AreSizesUpTo}
use Rattle.pt_block_limits.proofs.SilentLemmas.{rows_laid}
use Rattle.pt_kind_flow.specs.Search.{IsFlow}
use Rattle.pt_block_kinds.specs.declared.graph.BlockKinds.{BlockKinds}
use Rattle.pt_block_kinds.specs.Graph.{HasSizes, IsSeen}
use Rattle.pt_block_kinds.specs.Drawing.{Draws}

none_is_some : {X : Type 0} (x : X) → None ≡ Some x → ⊥
none_is_some x e = cc

-- an instruction has a byte
before_end : (b : CodeBlock) (at : ℕ) (is : List Instr) (pc : ℕ) (i : Ins) → laid_from b at is pc ≡ Some i
    → pc < at + length (flat_map encoding is)
before_end b at [] pc i e = absurd (none_is_some i e)
before_end b at (j ∷ js) pc i e = by_place (λ f. before_end b (at + length (encoding j)) js pc i f) (nat_eq at pc) refl e
  where
    total : length (flat_map encoding (j ∷ js)) ≡ length (encoding j) + length (flat_map encoding js)
    total = length-append (encoding j) (flat_map encoding js)

    some : 0 < length (encoding j)
    some = omega arith

    by_place : (laid_from b (at + length (encoding j)) js pc ≡ Some i → pc < at + length (encoding j) + length (flat_map encoding js))
        → (t : Bool) → nat_eq at pc ≡ t → cond t (Some (ins_at b pc j)) (laid_from b (at + length (encoding j)) js pc) ≡ Some i
        → pc < at + length (flat_map encoding (j ∷ js))
    by_place ih true f e = let same : at ≡ pc = eqb-true at pc f in let t = total in let s = some in omega (arith, same, t, s)
    by_place ih false f e = let l = ih e in let t = total in omega (arith, l, t)

pub is_seen : (c : Code) (b : CodeBlock) (view : ℕ → Option Ins) → IsView b view → (count : ℕ) → length b.instructions ≤ count
    → IsSeen (block_of c b view) count
is_seen c b view v count h = record {
  below = λ pc i e. let l = before_end b 0 v.instrs pc i (laid pc i e) in let n = ap length v.spelled in omega (arith, l, n, h);
  rows = λ pc i e. rows_laid b 0 v.instrs pc i (laid pc i e);
}
  where
    laid : (pc : ℕ) (i : Ins) → view pc ≡ Some i → laid_from b 0 v.instrs pc ≡ Some i
    laid pc i e = sym (ap (λ f. f pc) v.view_is) ∙ e

module _ (b : Block) (p : ℕ) where
  sized_stands : {q n : ℕ} → Sized b p q n → b.at q ≡ None → ⊥
  sized_stands (S.start i e) none = none_is_some i (sym none ∙ e)
  sized_stands (S.onward s l c i e) none = none_is_some i (sym none ∙ e)

  pub has_sizes : (sizes : List (Option ℕ)) → AreSizesUpTo b p sizes → HasSizes b p sizes
  has_sizes sizes are = record {
    whole = λ q n s. are.whole q n s;
    stands = λ q n e none. sized_stands (are.sound q n e) none;
    within = λ row d. are.agree (T.deep row d);
  }

-- any table of places is that of a view
abbrev ins_of : Place → Ins
ins_of p = record { instr = p.instr; mark = p.mark; next = p.next.0; rows = [] }

abbrev view_of : (places : List (Option Place)) → (pc : ℕ) → Option Ins
view_of places pc = option_map ins_of (entry places pc)

has_places : (places : List (Option Place)) → HasPlaces (view_of places) places
has_places places pc = by (entry places pc)
  where
    by : (o : Option Place) → o ≡ place_at (option_map ins_of o)
    by (Some p) = refl
    by None = refl

pub is_flow : (c : Code) (b : CodeBlock) (places : List (Option Place)) (sizes : List (Option ℕ)) (limit : ℕ) (kinds : BlockKinds)
    → ((view : ℕ → Option Ins) → HasPlaces view places → Draws (block_of c b view) limit sizes kinds) → IsFlow kinds.flow
is_flow c b places sizes limit kinds draws = (draws (view_of places) (has_places places)).flow
