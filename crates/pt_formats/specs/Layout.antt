-- A value laid out in a field, and the answer of `format` (Library Reference, "Format Specification Mini-Language").
use Rattle.std.specs.Prelude.{ℕ, ◌+◌, ◌-◌, ◌/◌, Bool, true, false, List, [], ◌∷◌, ◌++◌, Option, None, Some, Result, Err, ℤ, length, replicate, if◌then◌else◌}
use Rattle.std.specs.Str.{chars}
use Rattle.pt_strs.specs.declared.error.StrErr.{StrErr}
use Rattle.pt_strs.specs.declared.error.StrErr.TheVariants.{Format}
use Rattle.pt_strs.specs.Answer.{within}
use Rattle.pt_formats.specs.declared.layout.Margins.{Margins}
use Rattle.pt_formats.specs.declared.spec.Align.{Align}
use Rattle.pt_formats.specs.declared.spec.Align.TheVariants.{Left, Right, Center, Inside}
use Rattle.pt_formats.specs.declared.spec.Sign.{Sign}
use Rattle.pt_formats.specs.declared.spec.Kind.{Kind}
use Rattle.pt_formats.specs.declared.spec.Kind.TheVariants.{Absent, Decimal, Hex, UpperHex, Binary, Octal, String}
use Rattle.pt_formats.specs.declared.spec.Spec.{Spec}
use Rattle.pt_formats.specs.declared.value.FormatValue.{FormatValue}
use Rattle.pt_formats.specs.declared.value.FormatValue.TheVariants.{Int, Str}
use Rattle.pt_formats.specs.Number.{digits_of, sign_char}

-- how often the fill stands before the sign, behind it and at the end
abbrev pub margins_of : Align → (room : ℕ) → Margins
margins_of Left room = record { left = 0; inner = 0; right = room }
margins_of Right room = record { left = room; inner = 0; right = 0 }
margins_of Center room = record { left = room / 2; inner = 0; right = room - room / 2 }
margins_of Inside room = record { left = 0; inner = room; right = 0 }

abbrev pub sign_text : Option ℕ → List ℕ
sign_text None = []
sign_text (Some c) = c ∷ []

abbrev pub filled : Margins → (fill : ℕ) → (sign body : List ℕ) → List ℕ
filled m fill sign body = replicate m.left fill ++ (sign ++ (replicate m.inner fill ++ (body ++ replicate m.right fill)))

abbrev pub laid : Align → (fill width : ℕ) → (sign body : List ℕ) → List ℕ
laid align fill width sign body = filled (margins_of align (width - (length sign + length body))) fill sign body

-- what is filled with: what the spec says, else the 0 of the spec, else a blank
abbrev pub fill_char : Option ℕ → (zero : Bool) → ℕ
fill_char (Some c) zero = c
fill_char None zero = if zero then 48 else 32

abbrev pub align_or : Option Align → Align → Align
align_or (Some align) default = align
align_or None default = default

-- the base of a type of integers, and whether its letters are capitals
abbrev pub base_of : Kind → Option (ℕ × Bool)
base_of Absent = Some (10, false)
base_of Decimal = Some (10, false)
base_of Hex = Some (16, false)
base_of UpperHex = Some (16, true)
base_of Binary = Some (2, false)
base_of Octal = Some (8, false)
base_of String = None

abbrev pub is_text : Kind → Bool
is_text Absent = true
is_text String = true
is_text _ = false

abbrev pub not_inside : Option Align → Bool
not_inside (Some Inside) = false
not_inside _ = true

-- whether a spec is one of texts: no sign, none but a text's type, and no fill behind a sign
abbrev pub is_for_text : Option Sign → Option Align → Kind → Bool
is_for_text (Some sign) align kind = false
is_for_text None align kind = if not_inside align then is_text kind else false

abbrev pub formatted_int : ℤ → Spec → Option (ℕ × Bool) → Result (List ℕ) StrErr
formatted_int z s None = Err Format
formatted_int z s (Some b) =
    within (laid (align_or s.align (if s.zero then Inside else Right)) (fill_char s.fill s.zero) s.width (sign_text (sign_char s.sign z)) (digits_of b.0 b.1 z))

abbrev pub formatted_text : List ℕ → Spec → Result (List ℕ) StrErr
formatted_text t s = if is_for_text s.sign s.align s.kind then within (laid (align_or s.align Left) (fill_char s.fill s.zero) s.width [] t) else Err Format

abbrev pub formatted : FormatValue → Option Spec → Result (List ℕ) StrErr
formatted value None = Err Format
formatted (Int z) (Some s) = formatted_int z s (base_of s.kind)
formatted (Str t) (Some s) = formatted_text (chars t) s
