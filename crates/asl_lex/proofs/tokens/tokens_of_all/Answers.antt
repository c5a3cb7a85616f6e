use Rattle.std.proofs.Common.{◌≡◌, ap, map, subst, Err}
use Rattle.std.proofs.lemmas.List.{map-append}
use Rattle.asl_grammar.specs.lexemes.Refusals.{max_width}
use Rattle.asl_grammar.specs.lexemes.Tokens.{Tokens, LexFault}
use Rattle.asl_grammar.proofs.lexemes.Faults.{first_fault_placed}
use Rattle.asl_syn.specs.declared.code.Refused.TheVariants as Refused
use Rattle.asl_lex.proofs.FileSteps.{one_more, fault_here, handed_on}
use Rattle.asl_lex.proofs.tokens.tokens_of_all.Goals as goal

pub returns-in_err-tokens-clause-fault : goal.returns-in_err-tokens-clause-fault
returns-in_err-tokens-clause-fault c = λ f e.
    let given : c.in_err-tokens.field-0.0 ≡ Refused.At f = handed_on c.from_residual.result c.in_err-tokens.field-0.0 f c.from_residual.ensures.1 e in
    fault_here c.args.files.now c.loop-number.number c.index-files-number.result (map (λ ts. ts.items) c.loop-number.all.items)
    c.loop-number-test.true c.index-files-number.is c.loop-number.invariant f
    (subst (λ b. LexFault max_width c.loop-number.number b f) c.as_slice.ensures.value (c.in_err-tokens.ensures.fault f (ap (λ z. Err z) given)))

pub returns-in_err-tokens-clause-placed : goal.returns-in_err-tokens-clause-placed
returns-in_err-tokens-clause-placed c = λ f e.
    first_fault_placed max_width c.args.files.now f c.requires.small (returns-in_err-tokens-clause-fault c f e)

pub loop-number-preserved : goal.loop-number-preserved
loop-number-preserved c =
    rw c.in_ok-push.ensures.items (rw map-append
    (one_more c.args.files.now c.loop-number.number c.index-files-number.result (map (λ ts. ts.items) c.loop-number.all.items)
    c.loop-number-test.true c.index-files-number.is c.loop-number.invariant c.in_ok-tokens.tokens.items
    (subst (λ b. Tokens max_width c.loop-number.number b c.in_ok-tokens.tokens.items) c.as_slice.ensures.value c.in_ok-tokens.ensures.tokens)))
