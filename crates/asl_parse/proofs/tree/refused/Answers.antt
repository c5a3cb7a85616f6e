use Rattle.std.proofs.Common.{◌∙◌, ap, sym, subst, Err, length}
use Rattle.asl_grammar.specs.grammar.Faults.{lexemes, SyntaxFault, refusal}
use Rattle.asl_parse.proofs.FaultPlaces.{not_allowed, too_deep, same_fault}
use Rattle.asl_parse.proofs.tree.refused.Goals as goal

pub returns-in-Syntax-clause-fault : goal.returns-in-Syntax-clause-fault
returns-in-Syntax-clause-fault c = λ f e h.
    subst (SyntaxFault c.args.file c.args.bytes.now c.args.toks.now)
    (sym (c.refusal.ensures ∙ ap (λ ts. refusal c.args.file (length c.args.bytes.now) (lexemes c.args.bytes.now ts)) c.ahead_of.ensures) ∙ same_fault c.refusal.result f e)
    (not_allowed c.args.file c.args.bytes.now c.args.toks.now c.in-Syntax.left (h ∙ ap (λ z. Err z) c.in-Syntax.is))

pub returns-in-TooDeep-clause-fault : goal.returns-in-TooDeep-clause-fault
returns-in-TooDeep-clause-fault c = λ f e h.
    subst (SyntaxFault c.args.file c.args.bytes.now c.args.toks.now)
    (sym (c.level_fault.ensures c.args.bytes.now) ∙ same_fault c.level_fault.result f e)
    (too_deep c.args.file c.args.bytes.now c.args.toks.now c.in-TooDeep.left c.in-TooDeep.late (h ∙ ap (λ z. Err z) c.in-TooDeep.is))
