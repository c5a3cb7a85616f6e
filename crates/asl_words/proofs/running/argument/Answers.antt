use Rattle.std.proofs.Common.{sym, ap, ◌∙◌}
use Rattle.std.specs.Prelude.{slice_get}
use Rattle.asl_words.proofs.Decoding.{func_at, no_func_at, tree_there, formal_there, argument_callable, argument_word}
use Rattle.asl_words.proofs.running.argument.Goals as goal

pub unreachable-requires : goal.unreachable-requires
unreachable-requires c =
    tree_there c.args.checked.now c.parts-parts.result.now.subs _ c.parts-parts.ensures.sealed
    c.args.word c.requires.named c.args.entry c.requires.entry
    (no_func_at c.parts-parts.result.now.subs c.as_slice.result.now c.args.entry c.number.result
    c.as_slice.ensures c.number.ensures c.in_default.ensures.lookup)

pub unreachable-requires-in_default-first : goal.unreachable-requires-in_default-first
unreachable-requires-in_default-first c =
    formal_there c.args.checked.now c.parts-parts.result.now.subs _ c.parts-parts.ensures.sealed
    c.args.word c.requires.named c.args.entry c.requires.entry
    c.in-Some.func.now
    (func_at c.parts-parts.result.now.subs c.as_slice.result.now c.args.entry c.number.result c.in-Some.func
    c.as_slice.ensures c.number.ensures c.in-Some.ensures.lookup)
    (ap (λ Ts. slice_get Ts 0) (sym c.as_slice-2.ensures) ∙ sym c.in_default-first.ensures.value)

pub returns-clause-callable : goal.returns-clause-callable
returns-clause-callable c =
    argument_callable c.see.result c.args.checked.now c.parts-parts.result.now.subs _ c.parts-parts.ensures.sealed
    c.args.word c.requires.named c.args.entry c.requires.entry
    c.in-Some.func.now
    (func_at c.parts-parts.result.now.subs c.as_slice.result.now c.args.entry c.number.result c.in-Some.func
    c.as_slice.ensures c.number.ensures c.in-Some.ensures.lookup)
    c.in-Some-first.formal.now (ap (λ Ts. slice_get Ts 0) (sym c.as_slice-2.ensures) ∙ sym c.in-Some-first.ensures.value) _ c.in_ok-plain.ensures c.see.ensures

pub returns-clause-word : goal.returns-clause-word
returns-clause-word c = argument_word c.see.result c.in-Some-first.formal.now c.args.word _ c.in_ok-plain.ensures c.see.ensures
