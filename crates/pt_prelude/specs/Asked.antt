-- Which function of the prelude an operation on values asks (Language Reference 3.3).
use Rattle.pt_content.specs.declared.answer.Helper.{Helper as Asked}
use Rattle.pt_content.specs.declared.answer.Helper.TheVariants as asked
use Rattle.pt_prelude.specs.declared.kinds.Helper.{Helper}
use Rattle.pt_prelude.specs.declared.kinds.Helper.TheVariants as helper

abbrev pub function_of : Asked → Helper
function_of asked.TruthOf = helper.TruthOf
function_of (asked.BinaryOf operator) = helper.BinaryOf
function_of asked.PrintOf = helper.PrintOf
function_of asked.StrOf = helper.StrOf
function_of asked.ReprOf = helper.ReprOf
function_of asked.LenOf = helper.LenOf
function_of asked.IterOf = helper.IterOf
function_of asked.NextOf = helper.NextOf
function_of asked.NextOrOf = helper.NextOrOf
function_of asked.InOf = helper.InOf
function_of asked.SameOf = helper.SameOf
function_of asked.PairsOf = helper.PairsOf
function_of (asked.TakeOf count) = helper.TakeOf
function_of asked.ListOf = helper.ListOf
function_of asked.TupleOf = helper.TupleOf
function_of asked.SetOf = helper.SetOf
function_of asked.DictOf = helper.DictOf
function_of asked.ExtendOf = helper.ExtendOf
function_of asked.UpdateOf = helper.UpdateOf
function_of asked.JoinOf = helper.JoinOf
function_of asked.SortOf = helper.SortOf
