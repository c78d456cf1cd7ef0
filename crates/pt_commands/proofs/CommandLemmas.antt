-- What lines of blanks are, and what stands behind a comma.
use Rattle.std.proofs.Common.{◌≡◌, ◌==◌, ◌≢◌, ◌<◌, ◌&&◌, ◌∙◌, ℕ, Bool, true, false, cond, List, [], ◌∷◌, Option, Result, Ok, Err, IfOk, length, refl, sym, ap, arith}
use Rattle.std.specs.List.{list_all}
use Rattle.pt_literals.specs.Source.{is_blank}
use Rattle.pt_strs.specs.Strip.{front, without_end, without_front}
use Rattle.pt_commands.specs.declared.parts.Part.TheVariants.{Item}
use Rattle.pt_commands.specs.declared.command.Command.TheVariants as command
use Rattle.pt_commands.specs.declared.command.Command.{Command}
use Rattle.pt_commands.specs.Commands.{break_always, break_by, break_if, break_on, command_in, command_on}
use Rattle.pt_commands.specs.Numbers.{number_of}
use Rattle.pt_commands.specs.Parts.{from_comma, is_in, item, trimmed}
use Rattle.pt_commands.proofs.PartLemmas.{no_comma}

and_parts : (a b : Bool) → (a && b) ≡ true → (a ≡ true) × (b ≡ true)
and_parts true b e = (refl, e)
and_parts false b e = absurd cc

all_go : (line : List ℕ) → list_all is_blank line ≡ true → without_front is_blank line ≡ []
all_go [] e = refl
all_go (c ∷ cs) e =
    let parts = and_parts (is_blank c) (list_all is_blank cs) e in
    ap (λ b. cond b (without_front is_blank cs) (c ∷ cs)) parts.0 ∙ all_go cs parts.1

pub blanks_are_bad : (line : List ℕ) → list_all is_blank line ≡ true → 0 < length line → command_on line ≡ command.Bad
blanks_are_bad [] e h = absurd (omega arith)
blanks_are_bad (c ∷ cs) e h = ap (λ text. command_in (without_end is_blank text)) (all_go (c ∷ cs) e)

pub ok_same : {E : Type 0} (r : Result Command E) (x y : Command) → IfOk r (λ c. c ≡ x) → x ≡ y → IfOk r (λ c. c ≡ y)
ok_same (Ok c) x y is same = is ∙ same
ok_same (Err e) x y is same = tt

pub line_number : (rest line kept : List ℕ) (n : Option ℕ) → line ≡ front (is_in Item) rest → kept ≡ without_end is_blank line → n ≡ number_of 32 kept
    → n ≡ number_of 32 (item rest)
line_number rest line kept n is_line is_kept is = is ∙ ap (λ (t : List ℕ). number_of 32 t) (is_kept ∙ ap (λ (t : List ℕ). without_end is_blank t) is_line)

-- where a comma stands there is a condition behind it
pub break_found : {E : Type 0} (t : Bool) (rest from condition behind : List ℕ) (n : Option ℕ) (r : Result Command E)
    → IfOk r (λ c. c ≡ break_if t n behind) → n ≡ number_of 32 (item rest) → from ≡ without_front (is_in Item) rest
    → behind ≡ without_front is_blank condition → from ≡ 44 ∷ condition → IfOk r (λ c. c ≡ break_on t rest)
break_found t rest from condition behind n r h is_n is_from is_behind found =
    let comma : from_comma rest ≡ 44 ∷ condition = sym is_from ∙ found in
    ok_same r (break_if t n behind) (break_on t rest) h
    (ap (λ (m : Option ℕ). break_if t m behind) is_n ∙ ap (λ (b : List ℕ). break_if t (number_of 32 (item rest)) b) is_behind
    ∙ sym (ap (λ (b : List ℕ). break_by t (number_of 32 (item rest)) b) comma))

-- where none stands there is none
pub break_plain : (t : Bool) (rest from : List ℕ) (n : Option ℕ) (k : Command) → k ≡ break_always t n → n ≡ number_of 32 (item rest)
    → from ≡ without_front (is_in Item) rest → ((x : List ℕ) → from ≢ 44 ∷ x) → k ≡ break_on t rest
break_plain t rest from n k is is_n is_from none =
    let comma : from_comma rest ≡ [] = no_comma rest (λ x e. none x (is_from ∙ e)) in
    is ∙ ap (λ (m : Option ℕ). break_always t m) is_n ∙ sym (ap (λ (b : List ℕ). break_by t (number_of 32 (item rest)) b) comma)

-- a line that isn't empty is a command by its words
pub by_words : (line text : List ℕ) → (length line == 0) ≡ false → text ≡ trimmed line → command_in text ≡ command_on line
by_words [] text some is = absurd cc
by_words (c ∷ cs) text some is = ap (λ (t : List ℕ). command_in t) is
