-- Each function of the text stands in the row of its name.
use Rattle.std.proofs.Common.{◌≡◌, refl}
use Rattle.std.specs.Prelude.{option_map}
use Rattle.pt_helper_objects.specs.pt_prelude.declared.kinds.Helper.{Helper}
use Rattle.pt_helper_objects.specs.pt_prelude.declared.kinds.Helper.TheVariants as helper
use Rattle.pt_helper_objects.specs.pt_prelude.Helpers.{block_of, name_of}
use Rattle.pt_helper_objects.specs.declared.HelperKind.TheVariants as kind
use Rattle.pt_helper_objects.specs.Objects.{kind_named}

pub in_rows : (h : Helper) → kind_named (name_of h) ≡ option_map (λ b. kind.Function h) (block_of h)
in_rows helper.IterOf = refl
in_rows helper.NextOf = refl
in_rows helper.NextOrOf = refl
in_rows helper.LenOf = refl
in_rows helper.TruthOf = refl
in_rows helper.BinaryOf = refl
in_rows helper.SameOf = refl
in_rows helper.PairsOf = refl
in_rows helper.InOf = refl
in_rows helper.ListOf = refl
in_rows helper.TakeOf = refl
in_rows helper.TupleOf = refl
in_rows helper.SetOf = refl
in_rows helper.UpdateOf = refl
in_rows helper.DictOf = refl
in_rows helper.ExtendOf = refl
in_rows helper.JoinOf = refl
in_rows helper.SumOf = refl
in_rows helper.AnyOf = refl
in_rows helper.AllOf = refl
in_rows helper.BestOf = refl
in_rows helper.MinOf = refl
in_rows helper.MaxOf = refl
in_rows helper.SortedOf = refl
in_rows helper.SortOf = refl
in_rows helper.MapGo = refl
in_rows helper.MapOf = refl
in_rows helper.FilterGo = refl
in_rows helper.FilterOf = refl
in_rows helper.ZipGo = refl
in_rows helper.ZipOf = refl
in_rows helper.EnumerateGo = refl
in_rows helper.EnumerateOf = refl
in_rows helper.ReversedGo = refl
in_rows helper.ReversedOf = refl
in_rows helper.ReprOf = refl
in_rows helper.ReprIn = refl
in_rows helper.StrOf = refl
in_rows helper.PrintOf = refl
