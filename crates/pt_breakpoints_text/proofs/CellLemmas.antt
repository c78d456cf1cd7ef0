-- A number at the left of four columns.
use Rattle.std.proofs.Common.{◌≡◌, ◌∙◌, ◌-◌, ◌^◌, ◌++◌, ℕ, false, List, [], ◌∷◌, length, ap, arith}
use Rattle.std.proofs.Math.Utf8.{encode}
use Rattle.std.proofs.lemmas.Str.{encode_ascii}
use Rattle.std.specs.List.{repeat}
use Rattle.std.specs.Fmt.{char_count, decimal, format_spec, padded_integral}
use Rattle.pt_breakpoints_text.specs.BreakpointList.{cell}

-- what `{:<4}` writes
pub padded_left : (n : ℕ) → padded_integral (format_spec 32 1 0 4 (2 ^ 64 - 1)) false [] (decimal n) ≡ cell n
unfolding padded_integral char_count
padded_left n =
    let blank : encode 32 ≡ 32 ∷ [] = encode_ascii 32 (omega arith) in
    let few : 4 - length (decimal n) - 0 - 0 - 0 ≡ 4 - length (decimal n) = omega arith in
    ap (λ (b : List ℕ). decimal n ++ repeat (4 - length (decimal n) - 0 - 0 - 0) b) blank ∙ ap (λ (k : ℕ). decimal n ++ repeat k (32 ∷ [])) few
