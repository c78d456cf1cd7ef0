-- What the pieces tell of a block, put together.
use Rattle.std.proofs.Common.{◌≡◌, ◌⊎◌, inl, inr, ℕ, ◌+◌, ◌<◌, ◌≤◌, Bool, true, false, nat_eq, if◌then◌else◌, List, length, Option, Some, None, option_map, refl, sym, ◌∙◌, subst, arith, eqb-true, eq-eqb, true≢false}
use Rattle.std.proofs.lemmas.Bool.{cases_order}
use Rattle.std.proofs.lemmas.Option.{slice_get_within}
use Rattle.pt_ranges.specs.declared.handlers.Handler.{Handler}
use Rattle.pt_code.specs.View.{Ins, IsView}
use Rattle.pt_code.specs.declared.Code.{Code}
use Rattle.pt_code.specs.declared.CodeBlock.{CodeBlock}
use Rattle.pt_sizes.specs.declared.flow.Sizes.{Sizes}
use Rattle.pt_sizes.specs.declared.flow.Sizes.TheVariants as sizes
use Rattle.sem_fits.specs.fits.Block.{Block, block_of}
use Rattle.sem_fits.specs.fits.Agreement as A
use Rattle.sem_fits.specs.fits.Agreement.{Agrees, HandlerFails}
use Rattle.sem_fits.specs.fits.Fits.{IsLeast, TablesHold}
use Rattle.pt_verify_depths.specs.Sizes.{SizesMeet}
use Rattle.pt_verify_depths.specs.PlaceTable.{AreSizes, AreSizesUpTo, DeepFirst, FewFirst, SizesDisagree, TellsSizes}
use Rattle.pt_verify_depths.specs.Refusals as R
use Rattle.pt_verify_depths.specs.Refusals.{CutsDiffer, CutsOf}
use Rattle.pt_block_limits.specs.Limits.{HasHeld, LetsGo}
use Rattle.pt_common_slots.specs.Common.{RowsLead}
use Rattle.pt_cut_failures.specs.Cuts.{TellsCutBelow}
use Rattle.pt_verify_leaves.specs.Held.{HasHeldUpTo, LetsGoUpTo}
use Rattle.pt_kind_failures.proofs.Laid.{rows_land}
use Rattle.pt_refusals.specs.declared.failures.Failures.TheVariants as failures
use Rattle.pt_refusals.specs.Told.{TellsFailures, TellsLeast, TellsLeastBelow}
use Rattle.pt_refusals.specs.Laws.{ListsRows}
use Rattle.pt_refusals.proofs.Placing.{rows_listed, sizes_tell_failures}
use Rattle.pt_verify.specs.declared.probe.Answer.{Answer}
use Rattle.pt_verify.specs.declared.probe.BlockProbe.{BlockProbe}
use Rattle.pt_verify.specs.declared.probe.Disagreement.TheVariants.{Meet, TooDeep, TooFew}
use Rattle.pt_verify.specs.Probing.{TellsAnswer, TellsOf, disagreement_at, last_of}

some_none : {X : Type 0} (x : X) → Some x ≡ None → ⊥
some_none x e = cc

none_some : {X : Type 0} (x : X) → None ≡ Some x → ⊥
none_some x e = cc

-- an answer that is told where a test holds
told_where : {X : Type 0} (t : Bool) (x y : X) → (if t then Some x else None) ≡ Some y → (t ≡ true) × (x ≡ y)
told_where true x y e = (refl, cc)
told_where false x y e = absurd (none_some y e)

untold : {X : Type 0} (t : Bool) (x : X) → (if t then Some x else None) ≡ None → t ≡ false
untold true x e = absurd (some_none x e)
untold false x e = refl

module _ (b : Block) (p : ℕ) where
  pub meets : (s : Sizes) → TellsSizes b s → disagreement_at p s ≡ Some Meet → SizesMeet b p
  meets (sizes.Agree table) t e = absurd (none_some Meet e)
  meets (sizes.Meet q) t e = subst (SizesMeet b) (sym (eqb-true p q (told_where (nat_eq p q) Meet Meet e).0)) t.meet
  meets (sizes.TooDeep q n) t e = absurd (let x : TooDeep n ≡ Meet = (told_where (nat_eq p q) (TooDeep n) Meet e).1 in cc)
  meets (sizes.TooFew q) t e = absurd (let x : TooFew ≡ Meet = (told_where (nat_eq p q) TooFew Meet e).1 in cc)

  pub deep_first : (s : Sizes) (n : ℕ) → TellsSizes b s → disagreement_at p s ≡ Some (TooDeep n) → DeepFirst b p n
  deep_first (sizes.Agree table) n t e = absurd (none_some (TooDeep n) e)
  deep_first (sizes.Meet q) n t e = absurd (let x : Meet ≡ TooDeep n = (told_where (nat_eq p q) Meet (TooDeep n) e).1 in cc)
  deep_first (sizes.TooDeep q m) n t e =
      let x = told_where (nat_eq p q) (TooDeep m) (TooDeep n) e in
      let same : m ≡ n = (let y : TooDeep m ≡ TooDeep n = x.1 in cc) in
      subst (λ k. DeepFirst b p k) same (subst (λ r. DeepFirst b r m) (sym (eqb-true p q x.0)) t)
  deep_first (sizes.TooFew q) n t e = absurd (let x : TooFew ≡ TooDeep n = (told_where (nat_eq p q) TooFew (TooDeep n) e).1 in cc)

  pub few_first : (s : Sizes) → TellsSizes b s → disagreement_at p s ≡ Some TooFew → FewFirst b p
  few_first (sizes.Agree table) t e = absurd (none_some TooFew e)
  few_first (sizes.Meet q) t e = absurd (let x : Meet ≡ TooFew = (told_where (nat_eq p q) Meet TooFew e).1 in cc)
  few_first (sizes.TooDeep q n) t e = absurd (let x : TooDeep n ≡ TooFew = (told_where (nat_eq p q) (TooDeep n) TooFew e).1 in cc)
  few_first (sizes.TooFew q) t e = subst (FewFirst b) (sym (eqb-true p q (told_where (nat_eq p q) TooFew TooFew e).0)) t

  before : (q : ℕ) → IsLeast (SizesDisagree b) q → p ≤ q → nat_eq p q ≡ false → SizesDisagree b p → ⊥
  before q least le e = least.least p (by (cases_order p q))
    where
      by : (p ≡ q) ⊎ ((p < q) ⊎ (q < p)) → p < q
      by (inl same) = absurd (true≢false (sym (eq-eqb p q same) ∙ e))
      by (inr (inl lt)) = lt
      by (inr (inr gt)) = absurd (omega (arith, gt, le))

  -- up to a place before the first they agree
  pub agree_before : (s : Sizes) (size : ℕ) → TellsSizes b s → disagreement_at p s ≡ None → p ≤ last_of s size → SizesDisagree b p → ⊥
  agree_before (sizes.Agree table) size t e le = t.agree p
  agree_before (sizes.Meet q) size t e le = before q t.first le (untold (nat_eq p q) Meet e)
  agree_before (sizes.TooDeep q n) size t e le = before q t.first le (untold (nat_eq p q) (TooDeep n) e)
  agree_before (sizes.TooFew q) size t e le = before q t.first le (untold (nat_eq p q) TooFew e)

  -- cuts are counted among handler rows, and through the tables
  pub cut_counted : (rows n m : ℕ) → TellsCutBelow b p rows (Some n) → m ≡ length b.marks + n → TellsLeastBelow (CutsOf b p) (length b.marks + rows) (Some m)
  cut_counted rows n m t e = let below = t.0 in record {
    holds = (omega (arith, below, e), subst (CutsOf b p) (sym e) t.1.holds);
    least = λ k lt c. let at = c.1.number.counted in t.1.least c.1.number.among (omega (arith, lt, e, at)) (subst (CutsOf b p) at c.1);
  }

  pub no_cut : (rows : ℕ) → TellsCutBelow b p rows None → TellsLeastBelow (CutsOf b p) (length b.marks + rows) None
  no_cut rows t n c = let at = c.1.number.counted in let lt = c.0 in t c.1.number.among (omega (arith, lt, at)) (subst (CutsOf b p) at c.1)

  pub counted_cut : (rows : ℕ) (row told : Option ℕ) → TellsCutBelow b p rows row → told ≡ option_map (λ k. length b.marks + k) row
      → TellsLeastBelow (CutsOf b p) (length b.marks + rows) told
  counted_cut rows (Some n) told t e = subst (TellsLeastBelow (CutsOf b p) (length b.marks + rows)) (sym e) (cut_counted rows n (length b.marks + n) t refl)
  counted_cut rows None told t e = subst (TellsLeastBelow (CutsOf b p) (length b.marks + rows)) (sym e) (no_cut rows t)

  -- all rows are so many
  pub cuts_of_all : (cuts : Option ℕ) → TellsLeastBelow (CutsOf b p) (length b.marks + length b.handlers) cuts → TellsLeast (CutsOf b p) cuts
  cuts_of_all (Some n) t = record { holds = t.holds.1; least = λ m lt c. let low = t.holds.0 in t.least m lt (omega (arith, lt, low), c) }
  cuts_of_all None t = λ n c. t n (let at = c.number.counted in let low = slice_get_within b.handlers c.number.among c.row c.number.is in omega (arith, at, low), c)

  -- a block doesn't agree up to where cuts differ
  pub cuts_disagree : (n : ℕ) → CutsOf b p n → Agrees b p → ⊥
  cuts_disagree n c a = a.handlers c.row (by_cuts c.differ)
    where
      by_cuts : {row : Handler} → CutsDiffer b p row → HandlerFails b p row
      by_cuts (R.differs r c s d e) = A.differs r c s d e

module _ (b : Block) (p : ℕ) where
  pub told_deep : (n deep : ℕ) (cuts : Option ℕ) → DeepFirst b p n → deep ≡ length b.marks + n
      → TellsLeastBelow (CutsOf b p) (length b.marks + n) cuts → TellsFailures b p (failures.TooDeep deep cuts)
  told_deep n deep cuts d e t = subst (λ r. TellsFailures b p (failures.TooDeep r cuts)) (sym e) ((sizes_tell_failures b).deep p n d cuts t)

  pub told_few : (cuts : Option ℕ) → FewFirst b p → TellsLeastBelow (CutsOf b p) (length b.marks + length b.handlers) cuts
      → TellsFailures b p (failures.TooFew cuts)
  told_few cuts d t = (sizes_tell_failures b).few p d cuts (cuts_of_all b p cuts t)

-- what is told of a block that is put together so is told of the block
module _ (probe : BlockProbe) (b : Block) (t : TellsOf probe b) where
  abbrev pub its : Block
  its = block_of probe.code.now probe.block.now t.view

  pub its_sizes : TellsSizes its probe.sizes.now
  its_sizes = subst (λ x. TellsSizes x probe.sizes.now) t.same t.sizes

  pub its_tables : TablesHold its
  its_tables = subst TablesHold t.same t.tables

  pub its_lists : ListsRows b
  its_lists = subst ListsRows (sym t.same) (rows_listed probe.code.now probe.block.now t.view t.seen)

  pub told_of_its : (p : ℕ) (answer : Answer) → TellsAnswer its p answer → TellsAnswer b p answer
  told_of_its p answer = subst (λ x. TellsAnswer x p answer) (sym t.same)

pub lead : (c : Code) (b : CodeBlock) (view : ℕ → Option Ins) → IsView b view → TablesHold (block_of c b view) → RowsLead (block_of c b view)
lead c b view v hold pc i e row among = rows_land (block_of c b view) hold row (rows_listed c b view v pc i e row among)

module _ (b : Block) where
  pub all_sizes : (table : List (Option ℕ)) → AreSizes b table → AreSizesUpTo b b.size table
  all_sizes table a = record { sound = a.sound; whole = a.whole b.size; agree = a.agree b.size }

  lets_go : {pc t : ℕ} → LetsGoUpTo b b.size pc t → LetsGo b pc t
  lets_go l = record { ins = l.ins; kinds = l.kinds; reached = l.reached; ends = l.ends; holds = l.holds }

  lets_go_up_to : {pc t : ℕ} → LetsGo b pc t → LetsGoUpTo b b.size pc t
  lets_go_up_to l = record { ins = l.ins; kinds = l.kinds; reached = l.reached; ends = l.ends; holds = l.holds }

  pub all_held : (bundles : List (List ℕ)) (held : List (Option ℕ)) → HasHeldUpTo b b.size bundles held → HasHeld b bundles held
  all_held bundles held h = record { sound = λ pc t i. lets_go (h.sound pc t i); whole = λ pc t l. h.whole pc t (lets_go_up_to l) }
