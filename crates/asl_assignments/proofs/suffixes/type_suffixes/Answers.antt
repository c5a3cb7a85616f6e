use Rattle.std.proofs.Common.{arith, List, ◌++◌, refl, map, ◌∙◌, ap, sym, Ok}
use Rattle.std.proofs.lemmas.List.{drop_all}
use Rattle.asl_rules.specs.Faults.{◌>>=◌}
use Rattle.asl_rules.specs.statements.Targets.{typed_suffix, typed_suffixes, up_to}
use Rattle.asl_assignments.specs.declared.suffixes.TypedSuffix.{TypedSuffix}
use Rattle.asl_assignments.specs.private.TargetViews.{suffix_of}
use Rattle.asl_blocks.specs.private.Views.{body_of}
use Rattle.asl_blocks.proofs.Chains.{each_one, then_itself, append_nothing}
use Rattle.asl_blocks.proofs.Turns.{map_more}
use Rattle.asl_assignments.proofs.suffixes.type_suffixes.Goals as goal

pub loop-x-init : goal.loop-x-init
loop-x-init c = λ t s.
    let R = typed_suffixes t c.args.name.now c.args.suffixes.now (body_of c.args.names.now c.args.body.now).scope in
    ap (λ (xs : List TypedSuffix). R >>= λ ys. Ok (map (suffix_of t) xs ++ ys)) c.new-typed.ensures.items ∙ then_itself R

pub loop-x-preserved : goal.loop-x-preserved
loop-x-preserved c = λ t s.
    let G = (body_of c.args.names.now c.args.body.now).scope in
    each_one (λ xs. typed_suffixes t c.args.name.now xs G) (λ x. typed_suffix t (up_to c.args.name.now x.end) x.suffix G) (λ x xs. refl) c.args.suffixes.now c.loop-x.x-index c.x-item.result (suffix_of t c.in_ok-suffix.suffix) (map (suffix_of t) c.loop-x.typed.items) _ _
    (omega (arith, c.loop-x-test.true)) c.x-item.is
    (ap (λ at. typed_suffix t at c.x-item.result.suffix G) (sym c.up_to.ensures) ∙ c.in_ok-suffix.ensures t s)
    (map_more (suffix_of t) c.loop-x.typed.items c.push.new.self.items c.in_ok-suffix.suffix _ c.in_ok-push.ensures.items refl)
    (c.loop-x.invariant t s)

pub returns : goal.returns
returns c = λ t s.
    sym (c.loop-x.invariant t s)
    ∙ ap (λ xs. typed_suffixes t c.args.name.now xs (body_of c.args.names.now c.args.body.now).scope >>= λ ys. Ok (map (suffix_of t) c.loop-x.typed.items ++ ys)) (drop_all c.loop-x.x-index c.args.suffixes.now (omega (arith, c.loop-x-test.false)))
    ∙ ap Ok (append_nothing (map (suffix_of t) c.loop-x.typed.items))
