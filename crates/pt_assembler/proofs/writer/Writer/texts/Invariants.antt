use Rattle.std.proofs.Common.{◌≡◌, ◌++◌, drop}
use Rattle.pt_assembler.specs.Layout.{with_texts, list_for}
use Rattle.pt_assembler.proofs.writer.Writer.texts.Given as goal

abbrev pub invariant-loop-name : goal.invariant-loop-name
invariant-loop-name l = record {
  texts : with_texts (drop l.name-index l.names) l.self ≡ with_texts l.names l.fn.self;
  numbers : l.numbers ++ list_for (drop l.name-index l.names) l.self ≡ list_for l.names l.fn.self;
  lists : l.self.lists ≡ l.fn.self.lists;
  act : l.self.act ≡ l.fn.self.act;
}
