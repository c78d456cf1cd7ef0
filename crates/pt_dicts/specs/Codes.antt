-- A value as a key, and how that is written as a list of numbers.
use Rattle.std.specs.Prelude.{ℕ, suc, ◌-◌, ◌^◌, ◌<◌, ℤ, pos, negsuc, List, [], ◌∷◌, ◌++◌, nat_lt, if◌then◌else◌}
use Rattle.std.specs.Fmt.{signed_decimal}

-- None, numbers, texts and tuples by value, all else by object (Language Reference 6.2.7; Library Reference, `hash`)
mutual
  pub data KeyValue : Type 0 where
    none : KeyValue
    ellipsis : KeyValue
    not_implemented : KeyValue
    number : ℤ → KeyValue
    text : List ℕ → KeyValue
    tuple : KeyValues → KeyValue
    object : (place : ℕ) → KeyValue

  pub data KeyValues : Type 0 where
    no_keys : KeyValues
    more_keys : KeyValue → KeyValues → KeyValues

-- bytes that could end a text stand behind 254
abbrev pub escaped : ℕ → List ℕ
escaped b = if nat_lt b 254 then b ∷ [] else 254 ∷ (b - 254) ∷ []

-- bytes up to an end
abbrev pub bytes_codes : List ℕ → List ℕ
bytes_codes [] = 255 ∷ []
bytes_codes (b ∷ bs) = escaped b ++ bytes_codes bs

abbrev mutual
  pub codes_of : KeyValue → List ℕ
  codes_of none = 0 ∷ []
  codes_of ellipsis = 1 ∷ []
  codes_of not_implemented = 2 ∷ []
  codes_of (number z) = 3 ∷ bytes_codes (signed_decimal z)
  codes_of (text bytes) = 4 ∷ bytes_codes bytes
  codes_of (tuple keys) = 5 ∷ list_codes keys
  codes_of (object place) = 6 ∷ bytes_codes (signed_decimal (pos place))

  pub list_codes : KeyValues → List ℕ
  list_codes no_keys = 255 ∷ []
  list_codes (more_keys key keys) = codes_of key ++ list_codes keys

-- numbers of at most 64 digits, as those of 128 bits are
abbrev pub IsShort : ℤ → Type 0
IsShort (pos n) = n < 10 ^ 64
IsShort (negsuc n) = suc n < 10 ^ 64

abbrev mutual
  pub AreShort : KeyValue → Type 0
  AreShort none = Unit {0}
  AreShort ellipsis = Unit {0}
  AreShort not_implemented = Unit {0}
  AreShort (number z) = IsShort z
  AreShort (text bytes) = Unit {0}
  AreShort (tuple keys) = AllShort keys
  AreShort (object place) = IsShort (pos place)

  pub AllShort : KeyValues → Type 0
  AllShort no_keys = Unit {0}
  AllShort (more_keys key keys) = AreShort key × AllShort keys
