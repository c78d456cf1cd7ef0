-- The script that is made of a number is no long text.
use Rattle.std.proofs.Common.{◌≡◌, ◌+◌, ◌*◌, ◌<◌, ◌≤◌, ℕ, zero, suc, List, [], ◌∷◌, ◌++◌, fold, length, codes, arith, length-append}
use Rattle.std.specs.List.{AllByRecursion}
use Rattle.std.specs.Fmt.{decimal}
use Rattle.std.proofs.lemmas.Fmt.{length-decimal-le}
use Rattle.pt_generated.specs.Script.{Text, function_lines, functions_below, script_of}

both : (a b : Text) (m n : ℕ) → length a ≤ m → length b ≤ n → length (a ++ b) ≤ m + n
both a b m n x y = omega (arith, length-append a b, x, y)

up : (n k : ℕ) → n ≤ n + k
up n k = omega arith

-- parts of 27 characters at most behind a text
parts-short : (a : Text) (ps : List Text) (m : ℕ) → length a ≤ m → AllByRecursion (λ p. length p ≤ 27) ps
    → length (fold (λ x y. x ++ y) a ps) ≤ m + 27 * length ps
parts-short a [] m x all = omega (arith, x)
parts-short a (p ∷ ps) m x all = let more = parts-short (a ++ p) ps (m + 27) (both a p m 27 x all.0) all.1 in omega (arith, more)

module _ (i : ℕ) (small : i < 2000) where
  number : length (decimal i) ≤ 27
  number = let four : length (decimal i) ≤ 4 = length-decimal-le 4 i (omega arith) (omega (arith, small)) (omega (arith, small)) in omega (arith, four)

  parts : List Text
  parts =
      decimal i ∷ codes "(x):\n" ∷ codes "    try:\n" ∷ codes "        if x % 2 == 0:\n" ∷ codes "            return x + " ∷ decimal i ∷
      codes "\n" ∷ codes "        for j in range(3):\n" ∷ codes "            x += j\n" ∷ codes "    finally:\n" ∷ codes "        k = x\n" ∷
      codes "    return x * 2\n" ∷ codes "total += f" ∷ decimal i ∷ codes "(" ∷ decimal i ∷ codes ")\n" ∷ []

  parts-fit : AllByRecursion (λ p. length p ≤ 27) parts
  unfolding parts
  parts-fit = (
    number,
    (
      up 5 22,
      (
        up 9 18,
        (
          up 23 4,
          (
            up 23 4,
            (
              number,
              (
                up 1 26,
                (
                  up 27 0,
                  (
                    up 19 8,
                    (
                      up 13 14,
                      (
                        up 14 13,
                        (
                          up 17 10,
                          (
                            up 10 17,
                            (number, (up 1 26, (number, (up 2 25, tt)))),
                          ),
                        ),
                      ),
                    ),
                  ),
                ),
              ),
            ),
          ),
        ),
      ),
    ),
  )

  lines-short : length (function_lines i) ≤ 500
  unfolding parts
  lines-short =
      let all : length (function_lines i) ≤ 5 + 27 * 17 = parts-short (codes "def f") parts 5 (up 5 0) parts-fit in
      omega (arith, all)

below-short : (n : ℕ) → n ≤ 2000 → length (functions_below n) ≤ n * 500
below-short zero small = omega arith
below-short (suc i) small =
    let before : length (functions_below i) ≤ i * 500 = below-short i (omega (arith, small)) in
    let lines : length (function_lines i) ≤ 500 = lines-short i (omega (arith, small)) in
    omega (arith, length-append (functions_below i) (function_lines i), before, lines)

pub script-short : (n : ℕ) → n ≤ 2000 → length (script_of n) ≤ 1048576
script-short n small =
    let functions : length (functions_below n) ≤ n * 500 = below-short n small in
    let all : length (script_of n) ≤ 10 + n * 500 + 13 =
    both (codes "total = 0\n" ++ functions_below n) (codes "print(total)\n") (10 + n * 500) 13 (both (codes "total = 0\n") (functions_below n) 10 (n * 500) (up 10 0) functions) (up 13 0) in
    omega (arith, all, small)
