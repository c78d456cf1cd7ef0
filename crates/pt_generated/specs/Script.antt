-- The script that is made of a count: for each number below it ten lines, with a function of that number and its call.
use Rattle.std.specs.Prelude.{ℕ, zero, suc, List, [], ◌++◌, codes}
use Rattle.std.specs.Fmt.{decimal}

abbrev pub Text : Type 0
Text = List ℕ

abbrev pub function_lines : (i : ℕ) → Text
function_lines i =
    codes "def f" ++ decimal i ++ codes "(x):\n"
    ++ codes "    try:\n"
    ++ codes "        if x % 2 == 0:\n"
    ++ codes "            return x + " ++ decimal i ++ codes "\n"
    ++ codes "        for j in range(3):\n"
    ++ codes "            x += j\n"
    ++ codes "    finally:\n"
    ++ codes "        k = x\n"
    ++ codes "    return x * 2\n"
    ++ codes "total += f" ++ decimal i ++ codes "(" ++ decimal i ++ codes ")\n"

-- those of the numbers from 0 on, one behind the other
abbrev pub functions_below : (count : ℕ) → Text
functions_below zero = []
functions_below (suc i) = functions_below i ++ function_lines i

abbrev pub script_of : (count : ℕ) → Text
script_of count = codes "total = 0\n" ++ functions_below count ++ codes "print(total)\n"
