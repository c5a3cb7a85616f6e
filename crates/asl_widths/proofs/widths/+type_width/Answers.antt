use Rattle.std.proofs.Common.{sym, ◌∙◌}
use Rattle.asl_subprograms.specs.private.ContextView.{scope_of}
use Rattle.asl_widths.specs.WidthViews.{width_of}
use Rattle.asl_widths.proofs.WidthLemmas.{name_width, combined_widths, divided_widths}
use Rattle.asl_widths.proofs.widths.+type_width.Goals as goal

pub returns-in-Name : goal.returns-in-Name
returns-in-Name t c t' =
    name_width t' c.args.e.now c.in-Name.span c.in-Name.name c.as_slice.result.now (scope_of c.args.context) c.width_of_name.result c.in-Name.is c.as_slice.ensures c.width_of_name.ensures

pub returns-in_ok-b-in-Combines : goal.returns-in_ok-b-in-Combines
returns-in_ok-b-in-Combines t c t' =
    let e = c.in-Binary in
    let G = scope_of c.args.context in
    let left = c.in_ok-a-in-Combines in
    let right = c.in_ok-b-in-Combines in
    let a = c.get-in-Combines.result.now in
    let b = c.get-in-Combines-2.result.now in
    combined_widths t' c.args.e.now e.span e.op c.in-Combines.o a b G (width_of left.a) (width_of right.b) c.combined_width.result
    (cc) (sym c.in-Combines.is ∙ c.joining.ensures) (left.ensures t') (right.ensures t') c.combined_width.ensures

pub returns-in_ok-a-in-Divides : goal.returns-in_ok-a-in-Divides
returns-in_ok-a-in-Divides t c t' =
    let e = c.in-Binary in
    let G = scope_of c.args.context in
    let left = c.in_ok-a-in-Divides in
    let a = c.get-in-Divides.result.now in
    let b = c.get-in-Divides-2.result.now in
    divided_widths t' c.args.e.now e.span e.op a b G (width_of left.a) c.divided_width.result
    (cc) (sym c.in-Divides.is ∙ c.joining.ensures) (left.ensures t') (c.divided_width.ensures t')
