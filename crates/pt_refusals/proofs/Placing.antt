-- Of how a block fails up to a place its refusal there follows.
use Rattle.std.proofs.Common.{◌≡◌, ◌⊎◌, inl, inr, ℕ, zero, suc, ◌+◌, Bool, true, false, ◌||◌, List, [], ◌∷◌, length, Option, Some, None, refl, sym, ap, ◌∙◌, subst, arith}
use Rattle.std.specs.Prelude.{Contains, slice_get}
use Rattle.std.specs.Bool.{Decides}
use Rattle.std.proofs.lemmas.Bool.{false≢true}
use Rattle.pt_ranges.specs.declared.handlers.Handler.{Handler}
use Rattle.pt_ranges.specs.Rows.{covers}
use Rattle.sem_fits.specs.fits.Block.{Block}
use Rattle.sem_fits.specs.fits.Agreement as A
use Rattle.sem_fits.specs.fits.Agreement.{HandlerFails, KindsClash, LengthsMeet, Strays, TooFew}
use Rattle.sem_fits.specs.fits.Fits as F
use Rattle.sem_fits.specs.fits.Fits.{NumberFails, table}
use Rattle.pt_verify_depths.specs.Sizes.{SizesMeet}
use Rattle.pt_verify_depths.specs.PlaceTable as T
use Rattle.pt_verify_depths.specs.PlaceTable.{SizesDisagree}
use Rattle.pt_verify_depths.specs.Refusals as R
use Rattle.pt_verify_depths.specs.Refusals.{CutsDiffer, CutsOf, LeaveLacks}
use Rattle.pt_verify_depths.proofs.SizeLemmas.{lack_as_few, rows_are_as_deep, sizes_meet_as_lengths}
use Rattle.pt_block_limits.proofs.Steps.{kept}
use Rattle.pt_block_limits.proofs.SilentLemmas.{rows_laid}
use Rattle.pt_refusals.specs.declared.failures.Failures.{Failures}
use Rattle.pt_refusals.specs.declared.failures.Failures.TheVariants as failures
use Rattle.pt_refusals.specs.declared.failures.KindFailures.{KindFailures}
use Rattle.pt_refusals.specs.declared.failures.LeaveFailures.{LeaveFailures}
use Rattle.pt_refusals.specs.Told as D
use Rattle.pt_refusals.specs.Told.{Clashes, DeepOf, LeaveClashes, TellsAgreeing, TellsDeep, TellsFailures, TellsFew, TellsLeast, TellsRow}
use Rattle.pt_refusals.specs.Verdicts.{agreeing, behind_rows, refusal_at, too_deep, too_few}
use Rattle.pt_refusals.specs.Laws.{BlocksListRows, ListsRows, PlacesAreTold, SizesTellFailures, TellsPlace}

listed_at : {X : Type 0} (xs : List X) (x : X) → Contains xs x → (k : ℕ) × (slice_get xs k ≡ Some x)
listed_at [] x (k, l, e) = absurd (omega (arith, l))
listed_at (y ∷ ys) x (zero, l, e) = (zero, ap (λ z. Some z) e)
listed_at (y ∷ ys) x (suc k, l, e) = let (i, g) = listed_at ys x (k, (omega (arith, l)), e) in (suc i, g)

-- what a truth value decides
holds : {P : Type 0} (t : Bool) → Decides t P → t ≡ true → P
holds t d e = d.0 e

fails : {P : Type 0} (t : Bool) → Decides t P → t ≡ false → P → ⊥
fails t d e p = false≢true (sym e ∙ d.1 p)

-- how a block fails up to a place, each way asked only where none before it fails
record Failing (b : Block) (p : ℕ) (f c s : Bool) : Type 0 where
  apart : LengthsMeet b p → ⊥
  rows : (row : Handler) → HandlerFails b p row → ⊥
  few : Decides f (TooFew b p)
  clash : f ≡ false → Decides c (KindsClash b p)
  strays : Decides s (Strays b p)

module _ {b : Block} {p : ℕ} (lists : ListsRows b) where
  -- a row that fails has its number
  numbered : (row : Handler) → HandlerFails b p row → (n : ℕ) × NumberFails b p n
  numbered row f = by_row (listed_at b.handlers row (contained f))
    where
      contained : HandlerFails b p row → Contains b.handlers row
      contained (A.too_deep {q = q} {i = i} r c e) = lists q i r.stands row c
      contained (A.differs {q = q} {i = i} r c s d e) = lists q i r.stands row c

      by_row : (k : ℕ) × (slice_get b.handlers k ≡ Some row) → (n : ℕ) × NumberFails b p n
      by_row (k, e) = (length b.marks + k, record { row = row; number = record { among = k; is = e; counted = refl }; fails = f })

  no_row : TellsLeast (NumberFails b p) None → (row : Handler) → HandlerFails b p row → ⊥
  no_row none row f = let (n, g) = numbered row f in none n g

told_behind : {b : Block} {p : ℕ} (few clash strays : Bool) → Failing b p few clash strays → TellsPlace b p (behind_rows p few clash strays)
told_behind true clash strays f = F.enough f.apart f.rows (holds true f.few refl)
told_behind false true strays f = F.kinds f.apart f.rows (fails false f.few refl) (holds true (f.clash refl) refl)
told_behind false false true f =
    F.inside f.apart f.rows (fails false f.few refl) (fails false (f.clash refl) refl) (holds true f.strays refl)
told_behind false false false f = record {
  lengths = f.apart;
  handlers = f.rows;
  enough = fails false f.few refl;
  kinds = fails false (f.clash refl) refl;
  inside = fails false f.strays refl;
}

nothing : {P : Type 0} → (P → ⊥) → Decides false P
nothing none = ((λ e. absurd (false≢true e)), (λ p. absurd (none p)))

something : {P : Type 0} → P → Decides true P
something p = ((λ e. p), (λ q. refl))

module _ (b : Block) (p : ℕ) where
  met : LengthsMeet b p → SizesMeet b p
  met m = (sizes_meet_as_lengths b p).sizes m

  -- each failure of a row is one that sizes or kinds tell
  row_either : (n : ℕ) → NumberFails b p n → DeepOf b p n ⊎ CutsOf b p n
  row_either n f = by_row f.fails
    where
      by_row : HandlerFails b p f.row → DeepOf b p n ⊎ CutsOf b p n
      by_row (A.too_deep {q = q} {i = i} {ks = ks} r c e) = inl (record {
        row = f.row;
        number = f.number;
        deep = (rows_are_as_deep b p f.row).sizes (record { pc = q; ins = i; kinds = ks; reached = r; under = c; fails = e });
      })
      by_row (A.differs r c s d e) = inr (record { row = f.row; number = f.number; differ = R.differs r c s d e })

  deep_fails : (n : ℕ) → DeepOf b p n → NumberFails b p n
  deep_fails n d = record { row = d.row; number = d.number; fails = (let x = (rows_are_as_deep b p d.row).kinds d.deep in A.too_deep x.reached x.under x.fails) }

  cuts_fail : (n : ℕ) → CutsOf b p n → NumberFails b p n
  cuts_fail n c = record { row = c.row; number = c.number; fails = by_cuts c.differ }
    where
      by_cuts : {row : Handler} → CutsDiffer b p row → HandlerFails b p row
      by_cuts (R.differs r c s d e) = A.differs r c s d e

  -- a row that is too deep, and those before it
  told_deep : (row : ℕ) (cuts : Option ℕ) → TellsDeep b p row cuts → TellsPlace b p (Some (too_deep row cuts))
  told_deep row (Some n) t = F.handlers (λ m. t.apart (met m)) n (record {
    holds = cuts_fail n t.before.holds.1;
    least = λ m lt f. let below = t.before.holds.0 in elim (row_either m f) [
      | inl d ↦ t.deep.least m (omega (arith, lt, below)) d
      | inr c ↦ t.before.least m lt (omega (arith, lt, below), c)
    ];
  })
  told_deep row None t = F.handlers (λ m. t.apart (met m)) row (record {
    holds = deep_fails row t.deep.holds;
    least = λ m lt f. elim (row_either m f) [ inl d ↦ t.deep.least m lt d | inr c ↦ t.before m (lt, c) ];
  })

  -- where sizes agree, rows fail by cuts alone
  by_cuts : (SizesDisagree b p → ⊥) → (n : ℕ) → NumberFails b p n → CutsOf b p n
  by_cuts agree n f = elim (row_either n f) [ inl d ↦ absurd (agree (T.deep d.row d.deep)) | inr c ↦ c ]

  told_row : (row : ℕ) → TellsRow b p row → TellsPlace b p (Some (table row))
  told_row row t = F.handlers (λ m. t.agree (T.meet (met m))) row (record {
    holds = cuts_fail row t.cut.holds;
    least = λ m lt f. t.cut.least m lt (by_cuts t.agree m f);
  })

  module _ (lists : ListsRows b) where
    told_few : (cuts : Option ℕ) → TellsFew b p cuts → TellsPlace b p (Some (too_few p cuts))
    told_few (Some n) t = F.handlers (λ m. t.apart (met m)) n (record {
      holds = cuts_fail n t.rows.holds;
      least = λ m lt f. elim (row_either m f) [ inl d ↦ t.shallow d.row d.deep | inr c ↦ t.rows.least m lt c ];
    })
    told_few None t = F.enough (λ m. t.apart (met m))
        (no_row lists (λ n f. elim (row_either n f) [ inl d ↦ t.shallow d.row d.deep | inr c ↦ t.rows n c ]))
        (let x = (lack_as_few b p).kinds t.few in A.lacks x.reached x.fails)

    told_agreeing : (k : KindFailures) (l : LeaveFailures) → TellsAgreeing b p k l → TellsPlace b p (agreeing p k l)
    told_agreeing k l t = told_behind l.lacks (k.clash || l.clash) k.strays (record {
      apart = λ m. t.agree (T.meet (met m));
      rows = no_row lists (λ n f. t.uncut n (by_cuts t.agree n f));
      few = few l.lacks t.leaves.lacks;
      clash = λ e. clash k.clash l.clash t.kinds.clash (λ c. t.leaves.clash c (fails l.lacks t.leaves.lacks e));
      strays = t.kinds.strays;
    })
      where
        few : (u : Bool) → Decides u (LeaveLacks b p) → Decides u (TooFew b p)
        few true d = something (by_leave (d.0 refl))
          where
            by_leave : LeaveLacks b p → TooFew b p
            by_leave (R.leaves x g e) = A.leaves x g e
        few false d = nothing none
          where
            none : TooFew b p → ⊥
            none (A.lacks {q = q} {i = i} {ks = ks} r e) =
                t.agree (T.few ((lack_as_few b p).sizes (record { pc = q; ins = i; kinds = ks; reached = r; fails = e })))
            none (A.leaves x g e) = fails false d refl (R.leaves x g e)

        clash : (u v : Bool) → Decides u (Clashes b p) → ((Clashes b p → ⊥) → Decides v (LeaveClashes b p)) → Decides (u || v) (KindsClash b p)
        clash true v d l = something (by_kinds (d.0 refl))
          where
            by_kinds : Clashes b p → KindsClash b p
            by_kinds (D.two g h e) = A.two g h e
            by_kinds (D.lacks r e) = A.lacks r e
            by_kinds (D.misplaced r e) = A.misplaced r e
        clash false true d l = something (by_leave ((l (fails false d refl)).0 refl))
          where
            by_leave : LeaveClashes b p → KindsClash b p
            by_leave (D.leaves x g e) = A.leaves x g e
        clash false false d l = nothing none
          where
            none : KindsClash b p → ⊥
            none (A.two g h e) = fails false d refl (D.two g h e)
            none (A.lacks r e) = fails false d refl (D.lacks r e)
            none (A.misplaced r e) = fails false d refl (D.misplaced r e)
            none (A.leaves x g e) = fails false (l (fails false d refl)) refl (D.leaves x g e)

    told_failures : (f : Failures) → TellsFailures b p f → TellsPlace b p (refusal_at p f)
    told_failures failures.Meet t = F.lengths ((sizes_meet_as_lengths b p).lengths t)
    told_failures (failures.TooDeep row cuts) t = told_deep row cuts t
    told_failures (failures.TooFew cuts) t = told_few cuts t
    told_failures (failures.Cut row) t = told_row row t
    told_failures (failures.Agree k l) t = told_agreeing k l t

pub places_are_told : (b : Block) → PlacesAreTold b
places_are_told b lists p f t = told_failures b p lists f t

pub sizes_tell_failures : (b : Block) → SizesTellFailures b
sizes_tell_failures b = record {
  meet = λ p t. t.meet;
  deep = λ p n t cuts before. record {
    apart = t.apart;
    deep = record {
      holds = record { row = t.deep.holds.row; number = record { among = n; is = t.deep.holds.is; counted = refl }; deep = t.deep.holds.deep };
      least = λ m lt d. t.deep.least d.number.among (let e = d.number.counted in omega (arith, lt, e))
          (record { row = d.row; is = d.number.is; deep = d.deep });
    };
    before = before;
  };
  few = λ p t cuts rows. record { apart = t.apart; shallow = t.shallow; few = t.few; rows = rows };
}

-- the handler rows over a place are among those of its block
pub rows_listed : BlocksListRows
rows_listed c b view v pc i e row among =
    (kept (λ x. covers x (record { 0 = pc })) b.handlers row
    (subst (λ rows. Contains rows row) (rows_laid b 0 v.instrs pc i (sym (ap (λ f. f pc) v.view_is) ∙ e)) among)).0
