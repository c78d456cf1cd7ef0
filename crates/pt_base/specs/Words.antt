-- The word for each cause to leave the profile.
use Rattle.std.specs.Prelude.{ℕ, List, codes}
use Rattle.pt_base.specs.declared.what.What.{What}
use Rattle.pt_base.specs.declared.what.What.TheVariants.{Integer, Float, Length, Heap, Special, Hash, Surrogate, Format, Sort, Exit, Feature, Helper}

abbrev pub word_of : What → List ℕ
word_of Integer = codes "integer"
word_of Float = codes "float"
word_of Length = codes "length"
word_of Heap = codes "heap"
word_of Special = codes "special"
word_of Hash = codes "hash"
word_of Surrogate = codes "surrogate"
word_of Format = codes "format"
word_of Sort = codes "sort"
word_of Exit = codes "exit"
word_of Feature = codes "feature"
word_of Helper = codes "helper"
