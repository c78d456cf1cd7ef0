-- Where a `break` or `continue` goes that `finally` parts and exits hold on its way, and which slots are in common (Language Reference 7.9, 7.10,
-- 8.4.4, 8.5). A Leave is known by its target. All of it is said of the instructions at p and below.
use Rattle.std.specs.Prelude.{◌≡◌, ℕ, ◌-◌, ◌<◌, min, List, length, take, find, Contains, Bool, not, ◌&&◌, Option, Some}
use Rattle.pt_instr.specs.declared.Instr.TheVariants.{Leave, EndFinally, Exit}
use Rattle.pt_instr.specs.Effects.{Kinds}
use Rattle.pt_ranges.specs.declared.handlers.Handler.{Handler}
use Rattle.pt_ranges.specs.Rows.{covers}
use Rattle.pt_code.specs.View.{Ins}
use Rattle.sem_fits.specs.fits.Block.{Block}
use Rattle.sem_fits.specs.fits.Steps.{step, steps, cut}
use Rattle.sem_fits.specs.fits.Places.{Gets, Reached}

-- an always row takes a Leave for a target that it doesn't cover; of the rows around a place the first such
abbrev pub takes_leave : (target : ℕ) → Handler → Bool
takes_leave t row = row.always && not (covers row (record { 0 = t }))

abbrev pub taker : List Handler → (target : ℕ) → Option Handler
taker rows t = find (takes_leave t) rows

mutual
  -- from this place, under these rows and with these slots a Leave for t goes on: its own place, and an EndFinally that lets it go
  pub data Departs (b : Block) (p : ℕ) : (target pc : ℕ) → List Handler → Kinds → Type 0 where
    leaves : {t q : ℕ} {i : Ins} {ks : Kinds} → Reached b p q i ks → i.instr ≡ Leave (record { 0 = t }) → Departs b p t q i.rows ks
    let_go : {t q : ℕ} {i : Ins} {ks : Kinds} → Reached b p q i ks → i.instr ≡ EndFinally → Holds b p t q (length ks - 1) → Departs b p t q i.rows (take (length ks - 1) ks)

  -- a step between places, which keeps so many of the lowest slots
  pub data Goes (b : Block) (p : ℕ) : (from to kept : ℕ) → Type 0 where
    by_row : {q r k : ℕ} {i j : Ins} {ks ls : Kinds} → Reached b p q i ks → Contains (steps b q ks) (step r ls k) → b.at r ≡ Some j → Goes b p q r k
    -- a Leave comes to its target, also where a row takes it
    by_leave : {q t : ℕ} {rows : List Handler} {ks ls : Kinds} → Departs b p t q rows ks → Gets b p t ls → Goes b p q t (min (length ls) (length ks))

  -- slot d, counted from the lowest, is the same at two places
  pub data Common (b : Block) (p : ℕ) : (slot one other : ℕ) → Type 0 where
    kept : {d q r k : ℕ} → Goes b p q r k → d < k → Common b p d q r
    same : {d q : ℕ} → Common b p d q q
    back : {d q r : ℕ} → Common b p d q r → Common b p d r q
    along : {d q r s : ℕ} → Common b p d q r → Common b p d r s → Common b p d q s

  -- slot d of a place may hold a Leave for t
  pub data Holds (b : Block) (p : ℕ) : (target pc slot : ℕ) → Type 0 where
    caught : {t q : ℕ} {rows : List Handler} {ks : Kinds} → Departs b p t q rows ks → (row : Handler) → taker rows t ≡ Some row → Holds b p t row.target.0 row.depth
    exited : {t q : ℕ} {i : Ins} {ks : Kinds} → Reached b p q i ks → i.instr ≡ Exit → Holds b p t q (length ks - 1) → Holds b p t i.next (length ks - 2)
    shared : {t q r d : ℕ} → Common b p d q r → Holds b p t q d → Holds b p t r d

-- of these slots a Leave for t leaves as many as its target has: those where it goes on, and those under which a row takes it
pub data Leaving (b : Block) (p t : ℕ) : Kinds → Type 0 where
  free : {q : ℕ} {rows : List Handler} {ks : Kinds} → Departs b p t q rows ks → Leaving b p t ks
  held : {q : ℕ} {rows : List Handler} {ks : Kinds} → Departs b p t q rows ks → (row : Handler) → taker rows t ≡ Some row → Leaving b p t (cut row ks)
