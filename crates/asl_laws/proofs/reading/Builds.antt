-- The functions by which the grammar puts trees together: the spans of what they give lie in the file, where those of the parts do.
use Rattle.std.proofs.Common.{ℕ, ◌≤◌, ◌⊎◌, inl, inr, true, List, [], ◌∷◌, ◌++◌, Option, Some, None, arith}
use Rattle.asl_syn.specs.declared.token.Span.{Span}
use Rattle.asl_syn.specs.declared.tree.Ident.{Ident}
use Rattle.asl_syn.specs.declared.tree.UnaryOperator.{UnaryOperator}
use Rattle.asl_syn.specs.declared.tree.UnaryOperator.TheVariants as un
use Rattle.asl_syn.specs.declared.tree.Expr.{Expr}
use Rattle.asl_syn.specs.declared.tree.Expr.TheVariants as ex
use Rattle.asl_syn.specs.declared.tree.FieldValue.{FieldValue}
use Rattle.asl_syn.specs.declared.tree.Pattern.{Pattern}
use Rattle.asl_syn.specs.declared.tree.Suffix.{Suffix}
use Rattle.asl_syn.specs.declared.tree.Suffix.TheVariants as su
use Rattle.asl_syn.specs.declared.tree.PlacedSuffix.{PlacedSuffix}
use Rattle.asl_syn.specs.declared.tree.LocalKind.TheVariants as lk
use Rattle.asl_syn.specs.declared.read.ReadStmt.{ReadStmt}
use Rattle.asl_syn.specs.declared.read.ReadOtherwise.{ReadOtherwise}
use Rattle.asl_syn.specs.declared.read.BodyWord.{BodyWord}
use Rattle.asl_grammar.specs.declared.parts.Braces.{Braces}
use Rattle.asl_grammar.specs.declared.parts.Braces.TheVariants as br
use Rattle.asl_grammar.specs.declared.parts.AfterName.{AfterName}
use Rattle.asl_grammar.specs.declared.parts.AfterName.TheVariants as an
use Rattle.asl_grammar.specs.declared.parts.SliceForm.{SliceForm}
use Rattle.asl_grammar.specs.declared.parts.SliceForm.TheVariants as sf
use Rattle.asl_grammar.specs.declared.parts.VarTail.{VarTail}
use Rattle.asl_grammar.specs.declared.parts.VarTail.TheVariants as vt
use Rattle.asl_grammar.specs.declared.parts.Bodied.{Bodied}
use Rattle.asl_grammar.specs.declared.parts.Bodied.TheVariants as bo
use Rattle.asl_grammar.specs.grammar.Cursor.{Extent, end_of, span_to}
use Rattle.asl_grammar.specs.grammar.Kinds.{kind_of}
use Rattle.asl_grammar.specs.grammar.Operators.{binary_of}
use Rattle.asl_grammar.specs.grammar.Build.{Link, Links, AsLinks, linked, chained, compared, as_chained, logically, one_link, joined, finished, suffix_on, suffixed, in_on, Posts, posted, parens_of, after_of, named_of, parameters_or, empty_or, braced, LateTail, NameTail, prefixed_at, late_of, after_name_of, parameters_from_minus, parameters_from_name, fields_from_name, minus_in_braces_of, name_in_braces_of, slice_by, slice_of, constraint_part_of, bitfield_of, pattern_of, SumTail, LateRange, late_sum_of, late_range_of, minus_pattern_of, bang_pattern_of, pattern_parens_of, last_end, place_of, VarRest, MoreNames, Typed, Untyped, var_tail_of, var_of, called_of, name_statement_of, or_no_otherwise, no_catchers, catch_of, bodied_of, untyped}
use Rattle.asl_laws.proofs.basics.Lists.{AllOf}
use Rattle.asl_laws.specs.Spans.{slice_spans}
use Rattle.asl_laws.proofs.reading.Inside.{ExtIn, in_opt, between_in}
use Rattle.asl_laws.proofs.reading.Predicates.{P, FromIn, IdentIn, ExprIn, SliceIn, FieldValueIn, TypeExprIn, ConstraintPartIn, BitfieldIn, PatternIn, SuffixIn, PlacedSuffixIn, TargetIn, StmtIn, ReadStmtIn, ReadOtherwiseIn, ReadCatcherIn, ReadDeclIn, BodiedIn, SliceFormIn, BracesIn, AfterNameIn, VarTailIn, VarRestIn, LinkIn, LinksIn, AsLinksIn, PostsIn, LateTailIn, NameTailIn, SumTailIn, LateRangeIn, in_pair, in_sum, of_each_in, of_each_names_in, span_from, or_nil_in, append_in}
use Rattle.asl_laws.proofs.reading.Nodes.{name_node, unary_node, binary_node, tuple_node, construct_node, call_node, field_node, fields_node, slices_node, element_node, as_node, in_node, bit_at_node, high_low_node, low_width_node, factor_width_node, given_node, only_node, from_to_node, one_bit_node, bit_range_node, any_pattern_node, set_pattern_node, tuple_pattern_node, value_pattern_node, range_pattern_node}
use Rattle.asl_laws.proofs.reading.StmtNodes.{place_node, local_node, local_vars_node, assign_node, invoke_node}
use Rattle.asl_laws.proofs.reading.ReadNodes.{read_simple_node, read_store_node, read_catch_node, read_no_otherwise_node, read_func_node, read_accessor_node}

module _ (n size limit : ℕ) where
  -- ---- operators between operands

  pub linked_in : (from : Span) (left : Expr) (x : Link) → FromIn n size limit from → ExprIn n size limit left → LinkIn n size limit x → ExprIn n size limit (linked from left x)
  linked_in from left x f h k = binary_node n size limit (span_to from x.1.1.to) (binary_of (kind_of x.0.kind)) left x.1.0 (between_in n size from x.1.1.to f.0 f.1 k.1.1.ends) h k.1.0

  pub chained_in : (from : Span) (left : Expr) (xs : Links) → FromIn n size limit from → ExprIn n size limit left → LinksIn n size limit xs → ExprIn n size limit (chained from left xs)
  chained_in from left [] f h k = h
  chained_in from left (x ∷ xs) f h k = chained_in from (linked from left x) xs f (linked_in from left x f h k.0) k.1

  pub compared_in : (from : Span) (left : Expr) (o : Option Link) → FromIn n size limit from → ExprIn n size limit left → in_opt (LinkIn n size limit) o → ExprIn n size limit (compared from left o)
  compared_in from left None f h k = h
  compared_in from left (Some x) f h k = linked_in from left x f h k

  pub as_chained_in : (from : Span) (left : Expr) (xs : AsLinks) → FromIn n size limit from → ExprIn n size limit left → AsLinksIn n size limit xs → ExprIn n size limit (as_chained from left xs)
  as_chained_in from left [] f h k = h
  as_chained_in from left (x ∷ xs) f h k =
      as_chained_in from (ex.As (span_to from x.1.to) left x.0) xs f (as_node n size limit (span_to from x.1.to) left x.0 (between_in n size from x.1.to f.0 f.1 k.0.1.ends) h k.0.0) k.1

  pub logically_in : (from : Span) (left : Expr) (o : Option Links) → FromIn n size limit from → ExprIn n size limit left → in_opt (LinksIn n size limit) o → ExprIn n size limit (logically from left o)
  logically_in from left None f h k = h
  logically_in from left (Some xs) f h k = chained_in from left xs f h k

  one_link_in : (o : Option Link) → in_opt (LinkIn n size limit) o → LinksIn n size limit (one_link o)
  one_link_in None h = tt
  one_link_in (Some x) h = (h, tt)

  both_links : (xs ys : Links) → LinksIn n size limit xs → LinksIn n size limit ys → LinksIn n size limit (xs ++ ys)
  both_links xs ys h k = append_in (LinkIn n size limit) xs ys h k

  pub joined_in : (a b c : Links) (d : Option Link) (e : Links) (f : Option Links) → LinksIn n size limit a → LinksIn n size limit b → LinksIn n size limit c → in_opt (LinkIn n size limit) d → LinksIn n size limit e → in_opt (LinksIn n size limit) f → LinksIn n size limit (joined a b c d e f)
  joined_in a b c d e f h k l m o p =
      both_links a _ h (both_links b _ k (both_links c _ l (both_links (one_link d) _ (one_link_in d m) (both_links e _ o (or_nil_in (LinkIn n size limit) f p)))))

  pub finished_in : (from : Span) (left : Expr) (r : Links × AsLinks) → FromIn n size limit from → ExprIn n size limit left → in_pair (LinksIn n size limit) (AsLinksIn n size limit) r → ExprIn n size limit (finished from left r)
  finished_in from left r f h k = as_chained_in from (chained from left r.0) r.1 f (chained_in from left r.0 f h k.0) k.1

  -- ---- suffixes

  suffix_on_in : (span : Span) (e : Expr) (x : Suffix) → P n size limit span → ExprIn n size limit e → SuffixIn n size limit x → ExprIn n size limit (suffix_on span e x)
  suffix_on_in span e (su.FieldOf i) p h k = field_node n size limit span e i p h k
  suffix_on_in span e (su.FieldsOf is) p h k = fields_node n size limit span e is p h (of_each_names_in n size limit is k)
  suffix_on_in span e (su.SlicesOf xs) p h k = slices_node n size limit span e xs p h (of_each_in n size limit slice_spans xs k)
  suffix_on_in span e (su.ElementOf i) p h k = element_node n size limit span e i p h k

  pub suffixed_in : (from : Span) (e : Expr) (xs : List PlacedSuffix) → FromIn n size limit from → ExprIn n size limit e → AllOf (PlacedSuffixIn n size limit) xs → ExprIn n size limit (suffixed from e xs)
  suffixed_in from e [] f h k = h
  suffixed_in from e (x ∷ xs) f h k =
      suffixed_in from (suffix_on (span_to from x.end) e x.suffix) xs f (suffix_on_in (span_to from x.end) e x.suffix (between_in n size from x.end f.0 f.1 k.0.1) h k.0.0) k.1

  pub in_on_in : (from : Span) (e : Expr) (o : Option (Pattern × Extent)) → FromIn n size limit from → ExprIn n size limit e → in_opt (in_pair (PatternIn n size limit) (ExtIn n size)) o → ExprIn n size limit (in_on from e o)
  in_on_in from e None f h k = h
  in_on_in from e (Some x) f h k = in_node n size limit (span_to from x.1.to) e x.0 (between_in n size from x.1.to f.0 f.1 k.1.ends) h k.0

  pub posted_in : (from : Span) (e : Expr) (r : Posts) → FromIn n size limit from → ExprIn n size limit e → PostsIn n size limit r → ExprIn n size limit (posted from e r)
  posted_in from e r f h k = in_on_in from (suffixed from e r.0) r.1 f (suffixed_in from e r.0 f h k.0) k.1

  pub parens_of_in : (span : Span) (es : List Expr) → P n size limit span → AllOf (ExprIn n size limit) es → ExprIn n size limit (parens_of span es)
  parens_of_in span [] p h = tuple_node n size limit span [] p h
  parens_of_in span (x ∷ []) p h = h.0
  parens_of_in span (x ∷ y ∷ xs) p h = tuple_node n size limit span (x ∷ y ∷ xs) p h

  -- ---- names and what stands behind them

  pub after_of_in : (i : Ident) (span : Span) (a : AfterName) → IdentIn n size limit i → P n size limit span → AfterNameIn n size limit a → ExprIn n size limit (after_of i span a)
  after_of_in i span (an.Built fs) h p k = construct_node n size limit span i fs p h k
  after_of_in i span (an.Called ps xs) h p k = call_node n size limit span i ps xs p h k.0 k.1

  pub named_of_in : (i : Ident) (o : Option (AfterName × Extent)) → IdentIn n size limit i → in_opt (in_pair (AfterNameIn n size limit) (ExtIn n size)) o → ExprIn n size limit (named_of i o)
  named_of_in i None h k = name_node n size limit i.span i.text h
  named_of_in i (Some r) h k = after_of_in i (span_to i.span r.1.to) r.0 h (between_in n size i.span r.1.to h.0 (span_from n size limit i.span h).1 k.1.ends) k.0

  pub parameters_or_in : (b : Braces) → BracesIn n size limit b → in_sum (in_opt (AllOf (FieldValueIn n size limit))) (AllOf (ExprIn n size limit)) (parameters_or b)
  parameters_or_in br.Empty h = tt
  parameters_or_in (br.Fields fs) h = h
  parameters_or_in (br.Parameters ps) h = h

  pub empty_or_in : (x : Option (List FieldValue) ⊎ (List Expr × List Expr)) → in_sum (in_opt (AllOf (FieldValueIn n size limit))) (in_pair (AllOf (ExprIn n size limit)) (AllOf (ExprIn n size limit))) x → in_sum (AfterNameIn n size limit) (AllOf (FieldValueIn n size limit)) (empty_or x)
  empty_or_in (inl None) h = tt
  empty_or_in (inl (Some fs)) h = h
  empty_or_in (inr r) h = h

  pub braced_in : (x : AfterName ⊎ (List FieldValue × Option (List Expr))) → in_sum (AfterNameIn n size limit) (in_pair (AllOf (FieldValueIn n size limit)) (in_opt (AllOf (ExprIn n size limit)))) x → AfterNameIn n size limit (braced x)
  braced_in (inl a) h = h
  braced_in (inr (fs, None)) h = h.0
  braced_in (inr (fs, Some xs)) h = (tt, h.1)

  pub prefixed_at_in : (from : Span) (operator : UnaryOperator) (x : Expr × Extent) → FromIn n size limit from → in_pair (ExprIn n size limit) (ExtIn n size) x → ExprIn n size limit (prefixed_at from operator x)
  prefixed_at_in from operator x f h = unary_node n size limit (span_to from x.1.to) operator x.0 (between_in n size from x.1.to f.0 f.1 h.1.ends) h.0

  pub late_of_in : (from : Span) (operator : UnaryOperator) (r : LateTail) → FromIn n size limit from → LateTailIn n size limit r → ExprIn n size limit (late_of from operator r)
  late_of_in from operator r f h = finished_in from (prefixed_at from operator r.0) r.1 f (prefixed_at_in from operator r.0 f h.0) h.1

  pub after_name_of_in : (i : Ident) (r : NameTail) → IdentIn n size limit i → NameTailIn n size limit r → ExprIn n size limit (after_name_of i r)
  after_name_of_in i r h k =
      let f = span_from n size limit i.span h in
      finished_in i.span (posted i.span (named_of i r.0) r.1.0) r.1.1 f (posted_in i.span (named_of i r.0) r.1.0 f (named_of_in i r.0 h k.0) k.1.0) k.1.1

  pub parameters_from_minus_in : (minus : Span) (r : LateTail × List Expr) → FromIn n size limit minus → in_pair (LateTailIn n size limit) (AllOf (ExprIn n size limit)) r → AllOf (ExprIn n size limit) (parameters_from_minus minus r)
  parameters_from_minus_in minus r f h = (late_of_in minus un.Negate r.0 f h.0, h.1)

  pub parameters_from_name_in : (i : Ident) (r : NameTail × List Expr) → IdentIn n size limit i → in_pair (NameTailIn n size limit) (AllOf (ExprIn n size limit)) r → AllOf (ExprIn n size limit) (parameters_from_name i r)
  parameters_from_name_in i r h k = (after_name_of_in i r.0 h k.0, k.1)

  pub fields_from_name_in : (i : Ident) (r : Expr × List FieldValue) → IdentIn n size limit i → in_pair (ExprIn n size limit) (AllOf (FieldValueIn n size limit)) r → AllOf (FieldValueIn n size limit) (fields_from_name i r)
  fields_from_name_in i r h k = (given_node n size limit i r.0 h k.0, k.1)

  pub minus_in_braces_of_in : (minus : Span) (o : Option (LateTail × List Expr)) → FromIn n size limit minus → in_opt (in_pair (LateTailIn n size limit) (AllOf (ExprIn n size limit))) o → BracesIn n size limit (minus_in_braces_of minus o)
  minus_in_braces_of_in minus None f h = tt
  minus_in_braces_of_in minus (Some r) f h = parameters_from_minus_in minus r f h

  pub name_in_braces_of_in : (i : Ident) (x : (Expr × List FieldValue) ⊎ (NameTail × List Expr)) → IdentIn n size limit i → in_sum (in_pair (ExprIn n size limit) (AllOf (FieldValueIn n size limit))) (in_pair (NameTailIn n size limit) (AllOf (ExprIn n size limit))) x → BracesIn n size limit (name_in_braces_of i x)
  name_in_braces_of_in i (inl r) h k = fields_from_name_in i r h k
  name_in_braces_of_in i (inr r) h k = parameters_from_name_in i r h k

  -- ---- slices, constraints, bitfields

  slice_by_in : (e : Expr) (form : SliceForm) (f : Expr) → ExprIn n size limit e → ExprIn n size limit f → SliceIn n size limit (slice_by e form f)
  slice_by_in e sf.HighLow f h k = high_low_node n size limit e f h k
  slice_by_in e sf.LowWidth f h k = low_width_node n size limit e f h k
  slice_by_in e sf.FactorWidth f h k = factor_width_node n size limit e f h k

  pub slice_of_in : (e : Expr) (o : Option (SliceForm × Expr)) → ExprIn n size limit e → in_opt (in_pair (SliceFormIn n size limit) (ExprIn n size limit)) o → SliceIn n size limit (slice_of e o)
  slice_of_in e None h k = bit_at_node n size limit e h
  slice_of_in e (Some x) h k = slice_by_in e x.0 x.1 h k.1

  pub constraint_part_of_in : (e : Expr) (o : Option Expr) → ExprIn n size limit e → in_opt (ExprIn n size limit) o → ConstraintPartIn n size limit (constraint_part_of e o)
  constraint_part_of_in e None h k = only_node n size limit e h
  constraint_part_of_in e (Some f) h k = from_to_node n size limit e f h k

  pub bitfield_of_in : (e : Expr) (o : Option Expr) (i : Ident) → ExprIn n size limit e → in_opt (ExprIn n size limit) o → IdentIn n size limit i → BitfieldIn n size limit (bitfield_of e o i)
  bitfield_of_in e None i h k l = one_bit_node n size limit e i h l
  bitfield_of_in e (Some f) i h k l = bit_range_node n size limit e f i h k l

  -- ---- patterns

  pub pattern_of_in : (e : Expr) (span : Span) (o : Option Expr) → ExprIn n size limit e → P n size limit span → in_opt (ExprIn n size limit) o → PatternIn n size limit (pattern_of e span o)
  pattern_of_in e span None h p k = value_pattern_node n size limit span e p h
  pattern_of_in e span (Some f) h p k = range_pattern_node n size limit span e f p h k

  pub late_sum_of_in : (from : Span) (operator : UnaryOperator) (r : SumTail) → FromIn n size limit from → SumTailIn n size limit r → ExprIn n size limit (late_sum_of from operator r)
  late_sum_of_in from operator r f h = chained_in from (prefixed_at from operator r.0) r.1 f (prefixed_at_in from operator r.0 f h.0) h.1

  pub late_range_of_in : (from : Span) (operator : UnaryOperator) (span : Span) (r : LateRange) → FromIn n size limit from → P n size limit span → LateRangeIn n size limit r → PatternIn n size limit (late_range_of from operator span r)
  late_range_of_in from operator span r f p h = pattern_of_in (late_sum_of from operator r.0) span r.1 (late_sum_of_in from operator r.0 f h.0) p h.1

  pub minus_pattern_of_in : (minus span : Span) (o : Option LateRange) → FromIn n size limit minus → P n size limit span → in_opt (LateRangeIn n size limit) o → PatternIn n size limit (minus_pattern_of minus span o)
  minus_pattern_of_in minus span None f p h = any_pattern_node n size limit span p
  minus_pattern_of_in minus span (Some r) f p h = late_range_of_in minus un.Negate span r f p h

  pub bang_pattern_of_in : (bang span : Span) (x : List Pattern ⊎ LateRange) → FromIn n size limit bang → P n size limit span → in_sum (AllOf (PatternIn n size limit)) (LateRangeIn n size limit) x → PatternIn n size limit (bang_pattern_of bang span x)
  bang_pattern_of_in bang span (inl ps) f p h = set_pattern_node n size limit span true ps p h
  bang_pattern_of_in bang span (inr r) f p h = late_range_of_in bang un.Not span r f p h

  pub pattern_parens_of_in : (span : Span) (ps : List Pattern) → P n size limit span → AllOf (PatternIn n size limit) ps → PatternIn n size limit (pattern_parens_of span ps)
  pattern_parens_of_in span [] p h = tuple_pattern_node n size limit span [] p h
  pattern_parens_of_in span (x ∷ []) p h = h.0
  pattern_parens_of_in span (x ∷ y ∷ xs) p h = tuple_pattern_node n size limit span (x ∷ y ∷ xs) p h

  -- ---- statements

  end_of_in : (span : Span) → P n size limit span → end_of span ≤ size
  unfolding end_of
  end_of_in span p = let k = p.1 in omega (arith, k)

  last_end_in : (e : ℕ) (xs : List PlacedSuffix) → e ≤ size → AllOf (PlacedSuffixIn n size limit) xs → last_end e xs ≤ size
  last_end_in e [] h k = h
  last_end_in e (x ∷ xs) h k = last_end_in x.end xs k.0.1 k.1

  pub place_of_in : (i : Ident) (xs : List PlacedSuffix) → IdentIn n size limit i → AllOf (PlacedSuffixIn n size limit) xs → TargetIn n size limit (place_of i xs)
  place_of_in i xs h k =
      let e = last_end_in (end_of i.span) xs (end_of_in i.span h) k in
      place_node n size limit (span_to i.span (last_end (end_of i.span) xs)) i xs (between_in n size i.span (last_end (end_of i.span) xs) h.0 (span_from n size limit i.span h).1 e) h k

  pub var_tail_of_in : (i : Ident) (r : VarRest) → IdentIn n size limit i → VarRestIn n size limit r → VarTailIn n size limit (var_tail_of i r)
  var_tail_of_in i (MoreNames is ty) h k = ((h, k.0), k.1)
  var_tail_of_in i (Typed ty None) h k = ((h, tt), k.0)
  var_tail_of_in i (Typed ty (Some e)) h k = (h, (k.0, k.1))
  var_tail_of_in i (Untyped e) h k = (h, (tt, k))

  pub var_of_in : (span : Span) (x : VarTail) → P n size limit span → VarTailIn n size limit x → StmtIn n size limit (var_of span x)
  var_of_in span (vt.Declared is ty) p h = local_vars_node n size limit span is ty p h.0 h.1
  var_of_in span (vt.Initialised b ty e) p h = local_node n size limit span lk.Var b ty e p h.0 h.1.0 h.1.1

  pub called_of_in : (i : Ident) (span : Span) (r : List Expr × List Expr) (o : Option (List PlacedSuffix × Expr)) → IdentIn n size limit i → P n size limit span → in_pair (AllOf (ExprIn n size limit)) (AllOf (ExprIn n size limit)) r → in_opt (in_pair (AllOf (PlacedSuffixIn n size limit)) (ExprIn n size limit)) o → ReadStmtIn n size limit (called_of i span r o)
  called_of_in i span r None h p k l = read_simple_node n size limit _ (invoke_node n size limit span i r.0 r.1 p h k.0 k.1)
  called_of_in i span r (Some s) h p k l = read_store_node n size limit span i r.0 r.1 s.0 s.1 p h k.0 k.1 l.0 l.1

  pub name_statement_of_in : (i : Ident) (span : Span) (x : ((List Expr × List Expr) × Option (List PlacedSuffix × Expr)) ⊎ (List PlacedSuffix × Expr)) → IdentIn n size limit i → P n size limit span → in_sum (in_pair (in_pair (AllOf (ExprIn n size limit)) (AllOf (ExprIn n size limit))) (in_opt (in_pair (AllOf (PlacedSuffixIn n size limit)) (ExprIn n size limit)))) (in_pair (AllOf (PlacedSuffixIn n size limit)) (ExprIn n size limit)) x → ReadStmtIn n size limit (name_statement_of i span x)
  name_statement_of_in i span (inl r) h p k = called_of_in i span r.0 r.1 h p k.0 k.1
  name_statement_of_in i span (inr r) h p k = read_simple_node n size limit _ (assign_node n size limit span (place_of i r.0) r.1 p (place_of_in i r.0 h k.0) k.1)

  pub or_no_otherwise_in : (o : Option ReadOtherwise) → in_opt (ReadOtherwiseIn n size limit) o → ReadOtherwiseIn n size limit (or_no_otherwise o)
  or_no_otherwise_in None h = read_no_otherwise_node n size limit
  or_no_otherwise_in (Some o) h = h

  pub no_catchers_in : (o : ReadOtherwise) → ReadOtherwiseIn n size limit o → in_pair (AllOf (ReadCatcherIn n size limit)) (ReadOtherwiseIn n size limit) (no_catchers o)
  no_catchers_in o h = (tt, h)

  pub catch_of_in : (i : Ident) (o : Option Ident) (ss : List ReadStmt) → IdentIn n size limit i → in_opt (IdentIn n size limit) o → AllOf (ReadStmtIn n size limit) ss → ReadCatcherIn n size limit (catch_of i o ss)
  catch_of_in i None ss h k l = read_catch_node n size limit None i ss tt h l
  catch_of_in i (Some t) ss h k l = read_catch_node n size limit (Some i) t ss h k l

  pub bodied_of_in : (span : Span) (w : BodyWord) (x : Bodied) → P n size limit span → BodiedIn n size limit x → ReadDeclIn n size limit (bodied_of span w x)
  bodied_of_in span w (bo.Subprogram q i ps fs result most ss) p h =
      read_func_node n size limit (record { span = span; word = w; qualifier = q; name = i; params = ps; formals = fs; result = result; limit = most; body = ss })
      p h.1.0 h.1.1.0 h.1.1.1.0 h.1.1.1.1.0 h.1.1.1.1.1.0 h.1.1.1.1.1.1
  bodied_of_in span w (bo.Accessor i ps fs value q getter setter) p h =
      read_accessor_node n size limit (record { span = span; word = w; name = i; params = ps; formals = fs; value = value; qualifier = q; getter = getter; setter = setter })
      p h.0 h.1.0 h.1.1.0 h.1.1.1.0 h.1.1.1.1.1.0 h.1.1.1.1.1.1

  pub untyped_in : (e : Expr) → ExprIn n size limit e → in_pair (in_opt (TypeExprIn n size limit)) (in_opt (ExprIn n size limit)) (untyped e)
  untyped_in e h = (tt, h)
