-- The characters that a slice picks (Language Reference 6.3.3; Library Reference, "Common Sequence Operations", `slice.indices`).
use Rattle.std.specs.Prelude.{ℕ, zero, suc, ◌+◌, ◌-◌, ◌^◌, ◌<◌, min, ℤ, pos, negsuc, List, [], ◌∷◌, Option, None, Some, length, take, drop, reverse}
use Rattle.pt_strs.specs.declared.subscript.Stride.{Stride}
use Rattle.pt_strs.specs.declared.subscript.Stride.TheVariants.{Forward, Back}

-- each character behind so many that are passed over
abbrev pub every : (between : ℕ) (pass : ℕ) → List ℕ → List ℕ
every between pass [] = []
every between zero (c ∷ cs) = c ∷ every between between cs
every between (suc pass) (c ∷ cs) = every between pass cs

-- the place of an index in n characters; below 0 it counts from the end
abbrev pub place : (n : ℕ) → ℤ → ℕ
place n (pos i) = min i n
place n (negsuc i) = n - (i + 1)

-- the place behind it
abbrev pub behind : (n : ℕ) → ℤ → ℕ
behind n (pos i) = min (i + 1) n
behind n (negsuc i) = n - i

abbrev pub bound : (ℤ → ℕ) → (default : ℕ) → Option ℤ → ℕ
bound place default None = default
bound place default (Some i) = place i

-- the characters from one place to another, from the first on or from the last back
abbrev pub between : (from to : ℕ) → List ℕ → List ℕ
between from to cs = drop from (take to cs)

-- a step of k passes k - 1 characters over; one below 0 goes back
abbrev pub stride_of : Option ℤ → Stride
stride_of None = Forward 0
stride_of (Some (pos k)) = Forward (k - 1)
stride_of (Some (negsuc k)) = Back k

abbrev pub IsShort : Stride → Type 0
IsShort (Forward k) = k < 2 ^ 127
IsShort (Back k) = k < 2 ^ 127

abbrev pub strided : Stride → (start stop : Option ℤ) → List ℕ → List ℕ
strided (Forward k) start stop cs = every k 0 (between (bound (place (length cs)) 0 start) (bound (place (length cs)) (length cs) stop) cs)
strided (Back k) start stop cs = every k 0 (reverse (between (bound (behind (length cs)) 0 stop) (bound (behind (length cs)) (length cs) start) cs))

abbrev pub sliced : (start stop step : Option ℤ) → List ℕ → List ℕ
sliced start stop step cs = strided (stride_of step) start stop cs
