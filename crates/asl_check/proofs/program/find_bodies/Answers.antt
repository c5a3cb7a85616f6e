use Rattle.std.proofs.Common.{map, sym, subst, ◌∙◌, List}
use Rattle.asl_syn.specs.declared.tree.Func.{Func}
use Rattle.asl_rules.specs.declarations.Scopes.{Signature}
use Rattle.asl_types.specs.private.Answers.{Met}
use Rattle.asl_decl.specs.Heads.{heads_of}
use Rattle.asl_check.specs.private.Bringing.{with_bodies}
use Rattle.asl_check.specs.private.Verdicts.{accepted_of}
use Rattle.asl_check.proofs.BodyTurns.{signatures_are, as_many}
use Rattle.asl_check.proofs.program.find_bodies.Goals as goal

pub returns : goal.returns
returns c = λ t s.
    let fs : List Func = map (λ f. f.now) c.args.funcs.now in
    subst (λ (ss : List Signature). Met (accepted_of c.args.entry) c.judge_bodies.result (with_bodies c.args.entry c.args.names (heads_of c.args.names fs c.args.subs) ss t))
    (sym (signatures_are c.args.names fs c.args.subs (as_many (λ f. f.now) c.args.funcs.now ∙ c.requires)))
    (c.judge_bodies.ensures t s)
