-- What is done with the values of operands.
use Rattle.std.specs.Prelude.{List, Some}
use Rattle.asl_bits.specs.declared.TheConstants.{WIDTH_LIMIT}
use Rattle.asl_syn.specs.declared.token.Span.{Span}
use Rattle.asl_rules.specs.runs.ByNames.{matched_in}
use Rattle.asl_rules.specs.private.ByPlace as places
use Rattle.asl_rules.specs.values.Operators as operators
use Rattle.asl_rules.specs.runs.Plans.{Pure, Good}
use Rattle.asl_rules.specs.values.Structures.{values_of}
use Rattle.asl_rules.specs.values.Values.{Value, tuple_with}
use Rattle.asl_rules.specs.values.Vectors as vectors
use Rattle.asl_rules.specs.types.Written.{converted}
use Rattle.asl_shape.specs.View.{all_given, type_of, pattern_of}
use Rattle.asl_value.specs.private.Forms.{shell_of}
use Rattle.asl_value.specs.View.{all_slices}
use Rattle.asl_run.specs.declared.operations.One.{One}
use Rattle.asl_run.specs.declared.operations.One.TheVariants as one
use Rattle.asl_run.specs.declared.operations.Many.{Many}
use Rattle.asl_run.specs.declared.operations.Many.TheVariants as many
use Rattle.asl_run.specs.declared.operations.More.{More}
use Rattle.asl_run.specs.declared.operations.More.TheVariants as more

abbrev pub one_given : Span → One → Value → Pure Value
one_given span (one.Unary o) x = operators.unary_value span o x
one_given span (one.Field i) x = places.field_in span i x
one_given span (one.Bitfield f) x = vectors.bitfield_of span f.now x
one_given span (one.Bitfields fs) x = vectors.bitfields_of WIDTH_LIMIT span fs.now x

abbrev pub many_given : Span → Many → List Value → Pure Value
many_given span many.Tuple xs = Good (tuple_with (values_of xs))
many_given span (many.Construct s gs) xs = places.constructed span (shell_of s.now) (all_given gs.now) xs

abbrev pub more_given : Span → More → Value → List Value → Pure Value
more_given span (more.Slices ss) x zs = vectors.slices_of WIDTH_LIMIT span (all_slices ss.now) zs x
more_given span (more.As T) x zs = converted WIDTH_LIMIT span (Some (type_of T.now)) zs x
more_given span (more.In p) x zs = matched_in WIDTH_LIMIT (pattern_of p.now) zs x
