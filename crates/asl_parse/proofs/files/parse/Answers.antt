use Rattle.std.proofs.Common.{◌∙◌, inl, inr, sym, ap, subst, map, length, Ok, Err}
use Rattle.std.proofs.lemmas.List.{length-map}
use Rattle.asl_grammar.specs.lexemes.Refusals.{max_width}
use Rattle.asl_grammar.proofs.lexemes.Files.{length-AllTokens}
use Rattle.asl_grammar.specs.Reading.{text_of, HasTrees, FirstSyntaxFault}
use Rattle.asl_parse.proofs.Filing.{handed_on, read_to}
use Rattle.asl_parse.proofs.files.parse.Goals as goal

pub trees_of_all-requires-clause-same : goal.trees_of_all-requires-clause-same
trees_of_all-requires-clause-same c =
    ap length c.as_slice.ensures.value
    ∙ sym (length-map c.in_ok-tokens.tokens.items (λ ts. ts.items))
    ∙ length-AllTokens max_width 0 (map text_of c.args.files.now) (map (λ ts. ts.items) c.in_ok-tokens.tokens.items) c.in_ok-tokens.ensures.tokens
    ∙ length-map c.args.files.now text_of

pub returns-in_err-tokens-clause-fault : goal.returns-in_err-tokens-clause-fault
returns-in_err-tokens-clause-fault c = λ f e.
    let given = handed_on c.from_residual.result c.in_err-tokens.field-0.0 f c.from_residual.ensures.1 e in
    read_to c.args.files.now (Err f) (inl (c.in_err-tokens.ensures.fault f (ap (λ z. Err z) given)))

pub returns-in_err-decls-clause-fault : goal.returns-in_err-decls-clause-fault
returns-in_err-decls-clause-fault c = λ f e.
    let given = handed_on c.from_residual-in_err-decls.result c.in_err-decls.field-0.0 f c.from_residual-in_err-decls.ensures.1 e in
    read_to c.args.files.now (Err f) (inr (record {
      tokens = map (λ ts. ts.items) c.in_ok-tokens.tokens.items;
      lexemes = c.in_ok-tokens.ensures.tokens;
      fault = subst (λ tss. FirstSyntaxFault 0 (map text_of c.args.files.now) (map (λ ts. ts.items) tss) f) c.as_slice.ensures.value (c.in_err-decls.ensures.fault f (ap (λ z. Err z) given));
    }))

pub returns-clause-program : goal.returns-clause-program
returns-clause-program c =
    read_to c.args.files.now (Ok c.in_ok-decls.decls) (record {
      tokens = map (λ ts. ts.items) c.in_ok-tokens.tokens.items;
      lexemes = c.in_ok-tokens.ensures.tokens;
      trees = subst (λ tss. HasTrees (map text_of c.args.files.now) (map (λ ts. ts.items) tss) c.in_ok-decls.decls) c.as_slice.ensures.value c.in_ok-decls.ensures.trees;
    })
