-- Statements that are formed have their parts.
use Rattle.pt_tree.specs.Syntax as S
use Rattle.pt_tree.specs.Syntax.{Stm, Stms, Branches, Handlers, none, more}
use Rattle.pt_tree.specs.Blocks as B
use Rattle.pt_tree.specs.Blocks.{first_statement, function_body}
use Rattle.law_compile.specs.loop_exits.Parts.{HasParts, AllHaveParts, BranchesHaveParts, HandlersHaveParts}
use Rattle.law_compile.specs.formed.Formed.{StmFormed, StmsFormed, BranchesFormed, HandlersFormed}
use Rattle.law_compile.specs.formed.Laws.{StatementsHaveParts}
use Rattle.law_compile.proofs.formed.Arguments.{body_formed}

mutual
  stm : (st : Stm) → StmFormed st → HasParts st
  stm (S.choice l bs els) h = (branches bs h.0, statements els h.1)
  stm (S.while l c body els) h = (statements body h.1, statements els h.2)
  stm (S.for l t it body els) h = (statements body h.2, statements els h.3)
  stm (S.try l body hs els fin) h = (h.0, statements body h.1, handlers hs h.2, statements els h.3, statements fin h.4)
  stm (S.with l is body) h = (h.0, statements body h.2)
  stm st h = tt

  statements : (ss : Stms) → StmsFormed ss → AllHaveParts ss
  statements none h = tt
  statements (more st ss) h = (stm st h.0, statements ss h.1)

  branches : (bs : Branches) → BranchesFormed bs → BranchesHaveParts bs
  branches S.no_branches h = tt
  branches (S.branch l c body r) h = (statements body h.1, branches r h.2)

  handlers : (hs : Handlers) → HandlersFormed hs → HandlersHaveParts hs
  handlers S.no_handlers h = tt
  handlers (S.handler l c x body r) h = (statements body h.1, handlers r h.2)

pub statements_have_parts : StatementsHaveParts
statements_have_parts (B.of_module ss) h = statements ss h
statements_have_parts (B.of_function ss) h = statements (function_body ss) (body_formed ss h)
statements_have_parts (B.of_class ss) h = statements ss h
statements_have_parts (B.of_lambda l e) h = tt
statements_have_parts (B.of_generator l e k t cs) h = tt
