-- How many places a part has in a text.
use Rattle.std.proofs.Common.{◌≡◌, ◌∙◌, ℕ, ◌+◌, ◌<◌, ◌≤◌, List, [], ◌∷◌, None, Some, length, refl, sym, ap, arith, add-one}
use Rattle.pt_strs.specs.Cut.{cut, pieces, pieces_at}
use Rattle.pt_strs.specs.Replace.{apart}
use Rattle.pt_text_operations.specs.Ends.{occurrences}
use Rattle.pt_strs.proofs.PieceLemmas.{cut-shorter, pieces-last}

-- a piece before the first of so many separators
pub one-piece : (sep cs front rest : List ℕ) (left more : ℕ) → cut sep cs ≡ Some (front, rest) → left ≡ more + 1 → length (pieces left sep cs) ≡ length (pieces more sep rest) + 1
one-piece sep cs front rest left more e l =
    ap (λ n. length (pieces n sep cs)) (l ∙ add-one more) ∙ ap (λ o. length (pieces_at (pieces more sep) cs o)) e ∙ sym (add-one (length (pieces more sep rest)))

-- what is left behind it has less characters
pub less-left : (sep : List ℕ) → 0 < length sep → (cs front rest : List ℕ) → cut sep cs ≡ Some (front, rest) → (left : ℕ) → length cs ≤ left → length rest + 1 ≤ left
less-left sep some cs front rest e left l = omega (arith, l, cut-shorter sep some cs front rest e)

-- there is no separator in the last piece
pub last-piece : (sep cs : List ℕ) → cut sep cs ≡ None → (left : ℕ) → length (pieces left sep cs) ≡ 1
last-piece sep cs e left = ap length (pieces-last sep cs e left)

length-apart : (cs : List ℕ) → length (apart cs) ≡ length cs + 1
length-apart [] = refl
length-apart (c ∷ cs) = let m : length (apart cs) ≡ length cs + 1 = length-apart cs in omega (arith, m)

-- an empty part stands before each character and at the end
pub count-empty : (cs : List ℕ) → occurrences [] cs ≡ length cs + 1
count-empty cs = let m : length (apart cs) ≡ length cs + 1 = length-apart cs in omega (arith, m)
