-- How a format spec is read: `[[fill]align][sign][0][width][type]` (Library Reference, "Format Specification Mini-Language").
use Rattle.std.specs.Prelude.{ℕ, ◌+◌, ◌-◌, ◌*◌, Bool, true, false, ◌==◌, List, [], ◌∷◌, Option, None, Some, if◌then◌else◌}
use Rattle.std.specs.Int.{is_in_range}
use Rattle.pt_strs.specs.Answer.{counted}
use Rattle.pt_formats.specs.declared.spec.Align.{Align}
use Rattle.pt_formats.specs.declared.spec.Align.TheVariants.{Left, Right, Center, Inside}
use Rattle.pt_formats.specs.declared.spec.Sign.{Sign}
use Rattle.pt_formats.specs.declared.spec.Sign.TheVariants.{Plus, Minus, Blank}
use Rattle.pt_formats.specs.declared.spec.Kind.{Kind}
use Rattle.pt_formats.specs.declared.spec.Kind.TheVariants.{Absent, Decimal, Hex, UpperHex, Binary, Octal, String}
use Rattle.pt_formats.specs.declared.spec.Spec.{Spec}

abbrev pub align_of : ℕ → Option Align
align_of c = if c == 60 then Some Left else (if c == 62 then Some Right else (if c == 94 then Some Center else (if c == 61 then Some Inside else None)))

abbrev pub sign_of : ℕ → Option Sign
sign_of c = if c == 43 then Some Plus else (if c == 45 then Some Minus else (if c == 32 then Some Blank else None))

-- what is read of a spec, and what is left of it
pub record Read (A : Type 0) : Type 0 where
  pub value : A
  pub rest : List ℕ

abbrev pub Fill : Type 0
Fill = Option ℕ × Option Align

-- an align with no fill, or none
abbrev pub alone : Option Align → ℕ → List ℕ → Read Fill
alone None c cs = record { value = (None, None); rest = c ∷ cs }
alone (Some align) c cs = record { value = (None, Some align); rest = cs }

abbrev pub with_fill : Option Align → (fill c : ℕ) → List ℕ → Read Fill
with_fill None fill c cs = alone (align_of fill) fill (c ∷ cs)
with_fill (Some align) fill c cs = record { value = (Some fill, Some align); rest = cs }

abbrev pub fill_of : List ℕ → Read Fill
fill_of [] = record { value = (None, None); rest = [] }
fill_of (c ∷ []) = alone (align_of c) c []
fill_of (c ∷ d ∷ cs) = with_fill (align_of d) c d cs

abbrev pub sign_at : Option Sign → ℕ → List ℕ → Read (Option Sign)
sign_at None c cs = record { value = None; rest = c ∷ cs }
sign_at (Some sign) c cs = record { value = Some sign; rest = cs }

abbrev pub read_sign : List ℕ → Read (Option Sign)
read_sign [] = record { value = None; rest = [] }
read_sign (c ∷ cs) = sign_at (sign_of c) c cs

abbrev pub read_zero : List ℕ → Read Bool
read_zero [] = record { value = false; rest = [] }
read_zero (c ∷ cs) = if c == 48 then record { value = true; rest = cs } else record { value = false; rest = c ∷ cs }

-- decimal digits, behind a number
abbrev pub read_width : ℕ → List ℕ → Read ℕ
read_width n [] = record { value = n; rest = [] }
read_width n (c ∷ cs) = if is_in_range 48 57 c then read_width (10 * n + (c - 48)) cs else record { value = n; rest = c ∷ cs }

abbrev pub kind_of : List ℕ → Option Kind
kind_of [] = Some Absent
kind_of (c ∷ []) = if c == 100 then Some Decimal else (if c == 120 then Some Hex else (if c == 88 then Some UpperHex else (if c == 98 then Some Binary else (if c == 111 then Some Octal else (if c == 115 then Some String else None)))))
kind_of (c ∷ d ∷ cs) = None

abbrev pub made : Fill → Option Sign → Bool → (width : ℕ) → Option Kind → Option Spec
made fill sign zero width None = None
made fill sign zero width (Some kind) = Some (record { fill = fill.0; align = fill.1; sign = sign; zero = zero; width = counted width; kind = kind })

-- a width of 64 bits or more is beyond that of every text
abbrev pub spec_of : List ℕ → Option Spec
spec_of cs =
    let fill = fill_of cs in
    let sign = read_sign fill.rest in
    let zero = read_zero sign.rest in
    let width = read_width 0 zero.rest in
    made fill.value sign.value zero.value width.value (kind_of width.rest)
