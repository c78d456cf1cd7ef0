-- Above the numbers of all acts of a piece.
use Rattle.std.proofs.Common.{◌≡◌, ◌≤◌, ◌+◌, ℕ, suc, max, ◌∙◌, arith}
use Rattle.pt_assembler.specs.Piece.{Piece, empty, act, move, seq, block, headed, closed, looped, leave, ensured, caught, deeper, started, numbered}

abbrev pub above : Piece → ℕ
above empty = 0
above (act op n l g) = suc n
above (move op) = 0
above (seq a b) = max (above a) (above b)
above (block p) = above p
above (headed p) = above p
above (closed p) = above p
above (looped b p) = above p
above (leave e n l) = suc n
above (ensured p) = above p
above (caught p q) = max (above p) (above q)
above (deeper k p) = above p
above (started l p) = above p
above (numbered n p) = above p

-- a piece whose acts are numbered from the one number up to below the other
abbrev pub Tops : Piece → (n m : ℕ) → Type 0
Tops p n m = max n (above p) ≡ m

pub act_tops : (n : ℕ) → max n (suc n) ≡ n + 1
act_tops n = omega arith

pub no_tops : (n : ℕ) → max n 0 ≡ n
no_tops n = omega arith

-- the one behind the other
pub and_tops : (n i m a b : ℕ) → max n a ≡ i → max i b ≡ m → max n (max a b) ≡ m
and_tops n i m a b e f = omega (arith, e, f)

pub ends : (x i m : ℕ) → x ≡ i → i ≡ m → x ≡ m
ends x i m e f = e ∙ f

-- acts that come again
pub again_tops : (k j n a : ℕ) → max k a ≡ j → j ≤ n → max n a ≡ n
again_tops k j n a e h = omega (arith, e, h)
