-- The shape of every list of tokens (Language Reference 2.1.5, 2.1.8, 2.4.3).
use Rattle.std.specs.Prelude.{◌≡◌, ℕ, zero, suc, ◌≤◌, List, [], ◌∷◌, Bool, true, false}
use Rattle.pt_literals.specs.declared.token.Token.{Token}
use Rattle.pt_literals.specs.declared.token.TokenKind.{TokenKind}
use Rattle.pt_literals.specs.declared.token.TokenKind.TheVariants as kind

-- One token: so many blocks are open before it, and maybe a line with words. What follows has a shape by the same two,
-- or is nothing.
abbrev pub HasPlace : TokenKind → (depth : ℕ) (in_line : Bool) → (follows : ℕ → Bool → Type 0) → (none : Type 0) → Type 0
HasPlace kind.Indent n b follows none = (b ≡ false) × follows (suc n) false
HasPlace kind.Dedent zero b follows none = ⊥
HasPlace kind.Dedent (suc n) b follows none = (b ≡ false) × follows n false
HasPlace kind.Newline n b follows none = (b ≡ true) × follows n false
HasPlace kind.End n b follows none = (n ≡ 0) × (b ≡ false) × none
HasPlace _ n b follows none = follows n true

-- Each INDENT has its DEDENT; both stand between lines; each line has words and ends with NEWLINE; END is last, and alone.
abbrev pub IsWellFormed : List Token → (depth : ℕ) (in_line : Bool) → Type 0
IsWellFormed [] n b = ⊥
IsWellFormed (t ∷ ts) n b = HasPlace t.kind n b (IsWellFormed ts) (ts ≡ [])

-- One token where so many f-strings are open.
abbrev pub HasStrings : TokenKind → (strings : ℕ) → (follows : ℕ → Type 0) → Type 0
HasStrings kind.FStart n follows = follows (suc n)
HasStrings kind.FEnd zero follows = ⊥
HasStrings kind.FEnd (suc n) follows = follows n
HasStrings kind.Newline n follows = (n ≡ 0) × follows n
HasStrings _ n follows = follows n

-- Each FSTART has one FEND, in the same line (Language Reference 2.4.3).
abbrev pub StringsEnd : List Token → (strings : ℕ) → Type 0
StringsEnd [] n = n ≡ 0
StringsEnd (t ∷ ts) n = HasStrings t.kind n (StringsEnd ts)

-- no token stands before the one in front of it
abbrev pub PlacesRise : ℕ → List Token → Type 0
PlacesRise at [] = Unit {0}
PlacesRise at (t ∷ ts) = (at ≤ t.at) × PlacesRise t.at ts
