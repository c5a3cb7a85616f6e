use Rattle.std.proofs.Common.{sym, ◌∙◌}
use Rattle.asl_subprograms.specs.private.ContextView.{scope_of}
use Rattle.asl_widths.specs.WidthViews.{number_of}
use Rattle.asl_widths.proofs.WidthLemmas.{name_number, combined_numbers, divided_numbers}
use Rattle.asl_widths.proofs.widths.+type_number.Goals as goal

pub returns-in-Name : goal.returns-in-Name
returns-in-Name t c t' =
    name_number t' c.args.e.now c.in-Name.span c.in-Name.name c.as_slice.result.now (scope_of c.args.context) c.number_of_name.result c.in-Name.is c.as_slice.ensures c.number_of_name.ensures

pub returns-in_ok-b-in-Combines : goal.returns-in_ok-b-in-Combines
returns-in_ok-b-in-Combines t c t' =
    let e = c.in-Binary in
    let G = scope_of c.args.context in
    let left = c.in_ok-a-in-Combines in
    let right = c.in_ok-b-in-Combines in
    let a = c.get-in-Combines.result.now in
    let b = c.get-in-Combines-2.result.now in
    combined_numbers t' c.args.e.now e.span e.op c.in-Combines.o a b G (number_of left.a) (number_of right.b) c.combined_number.result
    (cc) (sym c.in-Combines.is ∙ c.joining.ensures) (left.ensures t') (right.ensures t') c.combined_number.ensures

pub returns-in_ok-a-in-Divides : goal.returns-in_ok-a-in-Divides
returns-in_ok-a-in-Divides t c t' =
    let e = c.in-Binary in
    let G = scope_of c.args.context in
    let left = c.in_ok-a-in-Divides in
    let a = c.get-in-Divides.result.now in
    let b = c.get-in-Divides-2.result.now in
    divided_numbers t' c.args.e.now e.span e.op a b G (number_of left.a) c.divided_number.result
    (cc) (sym c.in-Divides.is ∙ c.joining.ensures) (left.ensures t') (c.divided_number.ensures t')
