use Rattle.std.proofs.Common.{◌≡◌, ◌<◌, ap, map, subst, length, Err, arith}
use Rattle.asl_grammar.specs.grammar.Faults.{Parses, SyntaxFault}
use Rattle.asl_syn.specs.declared.code.Refused.TheVariants as Refused
use Rattle.asl_grammar.specs.Reading.{text_of}
use Rattle.asl_parse.proofs.Filing.{next, fault_here, mapped_at, map_within, handed_on}
use Rattle.asl_parse.proofs.files.trees_of_all.Goals as goal

pub returns-in_err-found-clause-fault : goal.returns-in_err-found-clause-fault
returns-in_err-found-clause-fault c = λ f e.
    let given : c.in_err-found.field-0.0 ≡ Refused.At f = handed_on c.from_residual.result c.in_err-found.field-0.0 f c.from_residual.ensures.1 e in
    let i = c.loop-number.number in
    let within : i < length c.args.tokens.now = (let l = c.loop-number-test.true in let q = c.requires.same in omega (arith, l, q)) in
    fault_here (map text_of c.args.files.now) (map (λ ts. ts.items) c.args.tokens.now) i (text_of c.index-files-number.result) c.index-tokens-number.result.items c.loop-number.decls
    (map_within text_of c.args.files.now i c.loop-number-test.true) (map_within (λ ts. ts.items) c.args.tokens.now i within)
    (mapped_at text_of c.args.files.now i c.index-files-number.result c.index-files-number.is) (mapped_at (λ ts. ts.items) c.args.tokens.now i c.index-tokens-number.result c.index-tokens-number.is)
    c.loop-number.invariant f
    (subst (λ b. SyntaxFault i b c.index-tokens-number.result.items f) c.as_slice.ensures.value
    (subst (λ ts. SyntaxFault i c.as_slice.result.now ts f) c.as_slice-in-loop-number.ensures.value (c.in_err-found.ensures.fault f (ap (λ z. Err z) given))))

pub loop-number-preserved : goal.loop-number-preserved
loop-number-preserved c =
    let i = c.loop-number.number in
    let within : i < length c.args.tokens.now = (let l = c.loop-number-test.true in let q = c.requires.same in omega (arith, l, q)) in
    rw c.in_ok-append.ensures
    (next (map text_of c.args.files.now) (map (λ ts. ts.items) c.args.tokens.now) i (text_of c.index-files-number.result) c.index-tokens-number.result.items c.loop-number.decls
    (map_within text_of c.args.files.now i c.loop-number-test.true) (map_within (λ ts. ts.items) c.args.tokens.now i within)
    (mapped_at text_of c.args.files.now i c.index-files-number.result c.index-files-number.is) (mapped_at (λ ts. ts.items) c.args.tokens.now i c.index-tokens-number.result c.index-tokens-number.is)
    c.loop-number.invariant c.in_ok-found.found
    (subst (λ b. Parses b c.index-tokens-number.result.items c.in_ok-found.found) c.as_slice.ensures.value
    (subst (λ ts. Parses c.as_slice.result.now ts c.in_ok-found.found) c.as_slice-in-loop-number.ensures.value c.in_ok-found.ensures.tree)))
