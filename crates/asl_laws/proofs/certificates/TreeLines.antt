-- The lines that are read off the typed tree of an expression are those of its sites.
use Rattle.std.proofs.Common.{◌≡◌, ℕ, Bool, true, false, List, [], ◌∷◌, ◌++◌, map, Option, Some, None, Result, Ok, refl, sym, ap, ◌∙◌}
use Rattle.std.proofs.Common.{subst, append_assoc}
use Rattle.std.specs.Prelude.{if◌then◌else◌}
use Rattle.asl_syn.specs.declared.code.Fault.{Fault}
use Rattle.asl_syn.specs.declared.token.Span.{Span}
use Rattle.asl_syn.specs.declared.tree.Bitfield.{Bitfield}
use Rattle.asl_syn.specs.declared.tree.ConstraintPart.{ConstraintPart}
use Rattle.asl_syn.specs.declared.tree.Expr.{Expr, out-Expr}
use Rattle.asl_syn.specs.declared.tree.FieldValue.{FieldValue, roll-FieldValue}
use Rattle.asl_syn.specs.declared.tree.Pattern.{Pattern, roll-Pattern}
use Rattle.asl_syn.specs.declared.tree.Slice.{Slice, roll-Slice}
use Rattle.asl_syn.specs.declared.tree.TypeExpr.{TypeExpr}
use Rattle.asl_syn.specs.declared.tree.Ident.{Ident}
use Rattle.asl_syn.specs.declared.tree.Bitfield.TheOpen as ex
use Rattle.asl_syn.specs.declared.tree.Bitfield.TheFolds.{fold-roll-Expr, fold-roll-FieldValue, fold-roll-Pattern, fold-roll-Slice}
use Rattle.asl_syn.specs.declared.tree.Bitfield.TheFolds.{para-roll-Expr, para-roll-FieldValue, para-roll-Pattern, para-roll-Slice}
use Rattle.asl_syn.specs.declared.tree.Bitfield.TheFolds.{map-Expr, map-FieldValue, map-Pattern, map-Slice}
use Rattle.asl_syn.specs.Layers.{ExprLayer}
use Rattle.asl_syn.specs.declared.code.StaticCode.TheVariants.{T02, T23}
use Rattle.asl_rules.specs.declared.effect.Effect.TheVariants.{Pure}
use Rattle.asl_rules.specs.Faults.{need, found_or}
use Rattle.asl_rules.specs.Tests.{Tests}
use Rattle.asl_rules.specs.types.Types.{Ty, Parts, no_part, part, tuple_parts}
use Rattle.asl_rules.specs.runs.Trees.{Tree, Trees, Note, no_tree, tree_and, note_of, tree_at}
use Rattle.asl_rules.specs.declarations.Scopes.{Scope, Standing, Stored, Label, with_class, standing_of, is_subprogram}
use Rattle.asl_rules.specs.expressions.Typing.{Found, Typed, Operand, operand, operands, trees_from, trees_in, trees_of}
use Rattle.asl_rules.specs.expressions.Slicing.{FoundSlice, all_operands}
use Rattle.asl_rules.specs.types.Writing.{FoundPart, FoundBitfield, FoundType}
use Rattle.asl_rules.specs.expressions.Patterns.{FoundPattern, Matched, all_match, as_many, parts_match, pattern_trees}
use Rattle.asl_rules.specs.values.Members.{Member, a_field, a_bitfield, member_tree}
use Rattle.asl_rules.specs.declarations.Routines.{Routine, routine_named}
use Rattle.asl_rules.specs.expressions.Calls.{call_begun, function_of}
use Rattle.asl_rules.specs.expressions.Exprs.{expr_span, ExprOf, FoundField, span_of, name_of_standing, typed_rule, found, found_slice, found_pattern, typed, values_given, expr_rule, given_rule, slice_rule, part_rule, bitfield_rule, type_rule, pattern_rule}
use Rattle.asl_rules.proofs.basics.Inversions.{bind_ok, then_ok, need_ok, ok_ok}
use Rattle.asl_rules.proofs.basics.Answering.{OfAnswer, steps_before, of_this}
use Rattle.asl_rules.proofs.basics.Opening.{found_field, opened, unrolled, field_opened, pattern_opened}
use Rattle.asl_rules.proofs.expressions.Places.{typed_at, tree_typed}
use Rattle.asl_laws.proofs.spans.Inductions.{Shown, Exprs, Givens, Patterns, Slices, ExprNode, FieldValueNode, PatternNode, SliceNode}
use Rattle.asl_laws.proofs.spans.Inductions.{expr_trees, given_trees, pattern_trees as pattern_nodes, slice_trees, Steps, each_expr}
use Rattle.asl_laws.specs.certificates.Texts.{Line, expr_line}
use Rattle.asl_laws.specs.certificates.Lines as lines
use Rattle.asl_laws.specs.certificates.Lines.{Lined, ◌and◌, of_typed, Site, Sites, Unread, site, pure_site, site_scope, whole, pure_whole}
use Rattle.asl_laws.specs.certificates.Lines.{sites_in, inside_expr, expr_sites, pattern_sites, slice_sites, site_lines, call_in}
use Rattle.asl_laws.specs.certificates.TreeLines.{trees_inside, Reading, Children, child, pure_child, line_of, children_lines, children_in}
use Rattle.asl_laws.specs.certificates.TreeLines.{expr_children, given_children, slice_children, pattern_children, read_layer, read_inside}
use Rattle.asl_laws.specs.certificates.TreeLines.{children_of_given, children_of_pattern, children_of_slice, expr_lines}
use Rattle.asl_laws.proofs.certificates.Sites.{Goes, AllGo, all_append, all_map, given_sites, expr_paired, given_paired, pattern_paired}
use Rattle.asl_laws.proofs.certificates.Sites.{slice_paired, slice_opened, goes_pure, expr_inside_goes, expr_sites_go}

-- ---- the note of a tree, and the trees inside it

member_effect : (a : Tree) (m : Member) (n : Note) → (note_of (member_tree a m n)).effect ≡ n.effect
member_effect a (a_field i T) n = refl
member_effect a (a_bitfield f) n = refl

ruleset effect_facts = (steps_before, refl, member_effect)

abbrev HasEffect : Result Typed Fault → Type 0
HasEffect r = OfAnswer (λ S. (note_of S.tree).effect ≡ S.effect) r

name_effect : (span : Span) (name : List ℕ) (o : Option Standing) (G : Scope) → HasEffect (name_of_standing span name o G)
name_effect span name (Some (Stored s)) G = search effect_facts
name_effect span name (Some (Label T x)) G = search effect_facts
name_effect span name o G = tt

function_effect : (t : Tests) (span : Span) (i : Ident) (ps : List Found) (os : List Operand) (G : Scope) (o : Option Routine) →
    HasEffect (function_of t span i ps os G o)
function_effect t span i ps os G (Some r) = search effect_facts depth 20
function_effect t span i ps os G None = search effect_facts depth 20

layer_effect : (t : Tests) (layer : ExprOf) (G : Scope) → HasEffect (typed_rule t layer G)
layer_effect t (ex.Name span name) G = name_effect span name (standing_of name G.names) G
layer_effect t (ex.Call span i ps es) G = search (steps_before, function_effect)
layer_effect t layer G = search effect_facts depth 20

tree_effect : (t : Tests) (e : Expr) (G : Scope) (S : Typed) → typed t e G ≡ Ok S → (note_of S.tree).effect ≡ S.effect
tree_effect t e G S h =
    let layer = opened t (out-Expr e) in
    of_this (λ (T : Typed). (note_of T.tree).effect ≡ T.effect) (typed_rule t layer G) S
    (sym (ap (λ (f : Found). f.typed G) (unrolled t e)) ∙ h) (layer_effect t layer G)

span_opened : (t : Tests) (l : ExprLayer) → span_of (opened t l) ≡ span_of l
span_opened t (ex.Int span n) = refl
span_opened t l = refl

found_span : (t : Tests) (e : Expr) → (found t e).span ≡ expr_span e
found_span t e = ap (λ (f : Found). f.span) (unrolled t e) ∙ span_opened t (out-Expr e)

-- a line that is read is the line that the rule gives
line_is : (t : Tests) (e : Expr) (G : Scope) (S : Typed) → typed t e G ≡ Ok S →
    expr_line G.names (expr_span e) S.effect S.ty (call_in t (out-Expr e) S.tree G) ≡ line_of t e S.tree G
line_is t e G S h =
    ap (λ x. expr_line G.names x S.effect S.ty (call_in t (out-Expr e) S.tree G)) (sym (typed_at t e G S h ∙ found_span t e)) ∙
    (ap (λ k. expr_line G.names (tree_at S.tree) k S.ty (call_in t (out-Expr e) S.tree G)) (sym (tree_effect t e G S h)) ∙
    ap (λ T. expr_line G.names (tree_at S.tree) (note_of S.tree).effect T (call_in t (out-Expr e) S.tree G)) (sym (tree_typed t e G S h)))

member_inside : (a : Tree) (m : Member) (n : Note) → trees_inside (member_tree a m n) ≡ tree_and a no_tree
member_inside a (a_field i T) n = refl
member_inside a (a_bitfield f) n = refl

ruleset inside_facts = (steps_before, refl, member_inside)

abbrev HasInside : Trees → Result Typed Fault → Type 0
HasInside ss r = OfAnswer (λ S. trees_inside S.tree ≡ ss) r

name_inside : (span : Span) (name : List ℕ) (o : Option Standing) (G : Scope) → HasInside no_tree (name_of_standing span name o G)
name_inside span name (Some (Stored s)) G = search inside_facts
name_inside span name (Some (Label T x)) G = search inside_facts
name_inside span name o G = tt

function_inside : (t : Tests) (span : Span) (i : Ident) (ps : List Found) (os : List Operand) (G : Scope) (o : Option Routine) →
    HasInside (trees_of os) (function_of t span i ps os G o)
function_inside t span i ps os G (Some r) = search inside_facts depth 20
function_inside t span i ps os G None = search inside_facts depth 20

-- ---- a layer with what is read of its parts

module _ (t : Tests) where
  abbrev expr_read : ExprLayer → ex.Expr-F (Bitfield × Unread) (ConstraintPart × Unread) (Expr × Reading) (FieldValue × Children)
      (Pattern × Children) (Slice × Children) (TypeExpr × Unread)
  expr_read = map-Expr Bitfield ConstraintPart Expr FieldValue Pattern Slice TypeExpr (Bitfield × Unread) (ConstraintPart × Unread)
      (Expr × Reading) (FieldValue × Children) (Pattern × Children) (Slice × Children) (TypeExpr × Unread) (λ b. (b, tt)) (λ p. (p, tt))
      (λ e. (e, read_inside t e)) (λ f. (f, children_of_given t f)) (λ p. (p, children_of_pattern t p)) (λ s. (s, children_of_slice t s))
      (λ y. (y, tt))

  abbrev given_read : ex.FieldValue-F Bitfield ConstraintPart Expr FieldValue Pattern Slice TypeExpr →
      ex.FieldValue-F (Bitfield × Unread) (ConstraintPart × Unread) (Expr × Reading) (FieldValue × Children) (Pattern × Children)
      (Slice × Children) (TypeExpr × Unread)
  given_read = map-FieldValue Bitfield ConstraintPart Expr FieldValue Pattern Slice TypeExpr (Bitfield × Unread) (ConstraintPart × Unread)
      (Expr × Reading) (FieldValue × Children) (Pattern × Children) (Slice × Children) (TypeExpr × Unread) (λ b. (b, tt)) (λ p. (p, tt))
      (λ e. (e, read_inside t e)) (λ f. (f, children_of_given t f)) (λ p. (p, children_of_pattern t p)) (λ s. (s, children_of_slice t s))
      (λ y. (y, tt))

  abbrev pattern_read : ex.Pattern-F Bitfield ConstraintPart Expr FieldValue Pattern Slice TypeExpr →
      ex.Pattern-F (Bitfield × Unread) (ConstraintPart × Unread) (Expr × Reading) (FieldValue × Children) (Pattern × Children)
      (Slice × Children) (TypeExpr × Unread)
  pattern_read = map-Pattern Bitfield ConstraintPart Expr FieldValue Pattern Slice TypeExpr (Bitfield × Unread) (ConstraintPart × Unread)
      (Expr × Reading) (FieldValue × Children) (Pattern × Children) (Slice × Children) (TypeExpr × Unread) (λ b. (b, tt)) (λ p. (p, tt))
      (λ e. (e, read_inside t e)) (λ f. (f, children_of_given t f)) (λ p. (p, children_of_pattern t p)) (λ s. (s, children_of_slice t s))
      (λ y. (y, tt))

  abbrev slice_read : ex.Slice-F Bitfield ConstraintPart Expr FieldValue Pattern Slice TypeExpr →
      ex.Slice-F (Bitfield × Unread) (ConstraintPart × Unread) (Expr × Reading) (FieldValue × Children) (Pattern × Children)
      (Slice × Children) (TypeExpr × Unread)
  slice_read = map-Slice Bitfield ConstraintPart Expr FieldValue Pattern Slice TypeExpr (Bitfield × Unread) (ConstraintPart × Unread)
      (Expr × Reading) (FieldValue × Children) (Pattern × Children) (Slice × Children) (TypeExpr × Unread) (λ b. (b, tt)) (λ p. (p, tt))
      (λ e. (e, read_inside t e)) (λ f. (f, children_of_given t f)) (λ p. (p, children_of_pattern t p)) (λ s. (s, children_of_slice t s))
      (λ y. (y, tt))

  -- ---- lines of sites

  site_line : (G : Scope) (s : Site) → Goes t G s → Line
  site_line G s g = expr_line (site_scope s G).names (expr_span s.expr) g.gives.effect g.gives.ty
      (call_in t (out-Expr s.expr) g.gives.tree (site_scope s G))

  node_first : (G : Scope) (s : Site) (g : Goes t G s) (m : Lined (Unit {0})) →
      (lines.expr_node t s.expr (site_scope s G) and m).lines ≡ site_line G s g ∷ m.lines
  unfolding site_line
  node_first G s g m = ap (λ r. (of_typed t s.expr (site_scope s G) r and m).lines) g.is

  sites_append : (G : Scope) (ss ms : Sites) → AllGo t G ss →
      (site_lines t (ss ++ ms) G).lines ≡ (site_lines t ss G).lines ++ (site_lines t ms G).lines
  sites_append G [] ms g = refl
  sites_append G (s ∷ ss) ms g =
      node_first G s g.0 (site_lines t (ss ++ ms) G) ∙
      (ap (λ z. site_line G s g.0 ∷ z) (sites_append G ss ms g.1)
      ∙ ap (λ z. z ++ (site_lines t ms G).lines) (sym (node_first G s g.0 (site_lines t ss G))))

  pure_scope : (G : Scope) (b : Bool) → (if b then with_class (with_class G Pure) Pure else with_class G Pure) ≡ with_class G Pure
  pure_scope G true = refl
  pure_scope G false = refl

  pure_sites : (G : Scope) (ss : Sites) → site_lines t (map pure_site ss) G ≡ site_lines t ss (with_class G Pure)
  pure_sites G [] = refl
  pure_sites G (s ∷ ss) =
      ap (λ m. lines.expr_node t s.expr (with_class G Pure) and m) (pure_sites G ss)
      ∙ ap (λ H. lines.expr_node t s.expr H and site_lines t ss (with_class G Pure)) (sym (pure_scope G s.is_pure))

  -- ---- the sites of parts, what is read of these, and their trees

  record Reads (G : Scope) (ss : Sites) (cs : Children) (xs : List Tree) : Type 0 where
    go : AllGo t G ss
    are : (more : Children) (ys : List Tree) → children_lines t (cs ++ more) (trees_from (xs ++ ys)) G
        ≡ (site_lines t ss G).lines ++ children_lines t more (trees_from ys) G

  reads_none : (G : Scope) → Reads G [] [] []
  reads_none G = record { go = tt; are = λ more ys. refl }

  reads_both : (G : Scope) (ss ms : Sites) (cs ds : Children) (xs zs : List Tree) → Reads G ss cs xs → Reads G ms ds zs →
      Reads G (ss ++ ms) (cs ++ ds) (xs ++ zs)
  reads_both G ss ms cs ds xs zs p q = record {
    go = all_append (Goes t G) ss ms p.go q.go;
    are = λ more ys.
        ap (λ z. children_lines t z (trees_from ((xs ++ zs) ++ ys)) G) (append_assoc cs ds more) ∙
        (ap (λ z. children_lines t (cs ++ (ds ++ more)) (trees_from z) G) (append_assoc xs zs ys) ∙
        (p.are (ds ++ more) (zs ++ ys) ∙ (ap (λ z. (site_lines t ss G).lines ++ z) (q.are more ys) ∙
        (sym (append_assoc (site_lines t ss G).lines (site_lines t ms G).lines (children_lines t more (trees_from ys) G)) ∙
        ap (λ z. z ++ children_lines t more (trees_from ys) G) (sym (sites_append G ss ms p.go))))));
  }

  whole_lines : (e : Expr) (G : Scope) (S : Typed) → (site_lines t (inside_expr e) G).lines ≡ read_inside t e S.tree G →
      typed t e G ≡ Ok S → (site_lines t (expr_sites e) G).lines ≡ expr_lines t e S.tree G
  unfolding site_line
  whole_lines e G S k h =
      sites_append G (inside_expr e) (site e ∷ []) (expr_inside_goes t e G S h) ∙
      (ap (λ z. z ++ (site_lines t (site e ∷ []) G).lines) k ∙
      ap (λ z. read_inside t e S.tree G ++ z)
      (node_first G (site e) (record { gives = S; is = h }) (lines.gives tt) ∙ ap (λ l. l ∷ []) (line_is t e G S h)))

  reads_one : (e : Expr) (G : Scope) (S : Typed) → (site_lines t (inside_expr e) G).lines ≡ read_inside t e S.tree G → typed t e G ≡ Ok S →
      Reads G (expr_sites e) (child (e, read_inside t e) ∷ []) (S.tree ∷ [])
  reads_one e G S k h = record {
    go = expr_sites_go t e G S h;
    are = λ more ys. ap (λ z. z ++ children_lines t more (trees_from ys) G) (sym (whole_lines e G S k h));
  }

  reads_pure : (e : Expr) (G : Scope) (S : Typed) →
      (site_lines t (inside_expr e) (with_class G Pure)).lines ≡ read_inside t e S.tree (with_class G Pure) →
      typed t e (with_class G Pure) ≡ Ok S → Reads G (pure_whole (e, inside_expr e)) (pure_child (e, read_inside t e) ∷ []) (S.tree ∷ [])
  reads_pure e G S k h = record {
    go = all_map (Goes t (with_class G Pure)) (Goes t G) pure_site (goes_pure t G) (expr_sites e)
        (expr_sites_go t e (with_class G Pure) S h);
    are = λ more ys. ap (λ z. z ++ children_lines t more (trees_from ys) G)
        (sym (ap (λ (l : Lined (Unit {0})). l.lines) (pure_sites G (expr_sites e)) ∙ whole_lines e (with_class G Pure) S k h));
  }

  abbrev shown : Shown
  shown = record {
    of_bitfield = λ x. Unit {0};
    of_part = λ x. Unit {0};
    of_expr = λ x. (G : Scope) (S : Typed) → typed t x G ≡ Ok S → (site_lines t (inside_expr x) G).lines ≡ read_inside t x S.tree G;
    of_given = λ x. (G : Scope) (S : Typed) → (found_field t x).value.typed G ≡ Ok S →
        Reads G (given_sites x) (children_of_given t x) (S.tree ∷ []);
    of_pattern = λ x. (T : Ty) (G : Scope) (m : Matched) → found_pattern t x T (with_class G Pure) ≡ Ok m →
        Reads G (pattern_sites x) (children_of_pattern t x) m.trees;
    of_slice = λ x. (G : Scope) (os : List Operand) → (found_slice t x).operands G ≡ Ok os →
        Reads G (slice_sites x) (children_of_slice t x) (trees_in os);
    of_type = λ x. Unit {0};
  }

  one : (a : Exprs shown) (G : Scope) (S : Typed) → typed t a.0 G ≡ Ok S →
      Reads G (expr_sites a.0) (child (a.0, read_inside t a.0) ∷ []) (S.tree ∷ [])
  one a G S h = reads_one a.0 G S (a.1 G S h) h

  one_pure : (a : Exprs shown) (G : Scope) (S : Typed) → typed t a.0 (with_class G Pure) ≡ Ok S →
      Reads G (pure_whole (a.0, inside_expr a.0)) (pure_child (a.0, read_inside t a.0) ∷ []) (S.tree ∷ [])
  one_pure a G S h = reads_pure a.0 G S (a.1 (with_class G Pure) S h) h

  trees_both : (os ps : List Operand) → trees_in (os ++ ps) ≡ trees_in os ++ trees_in ps
  trees_both [] ps = refl
  trees_both (o ∷ os) ps = ap (λ z. o.typed.tree ∷ z) (trees_both os ps)

  several : (es : List (Exprs shown)) (G : Scope) (os : List Operand) → operands (map (found t) (map (λ x. x.0) es)) G ≡ Ok os →
      Reads G (lines.joined (map whole (map (λ e. (e, inside_expr e)) (map (λ x. x.0) es))))
      (map child (map (λ e. (e, read_inside t e)) (map (λ x. x.0) es))) (trees_in os)
  several [] G os h = subst (λ zs. Reads G [] [] (trees_in zs)) (ok_ok [] os h) (reads_none G)
  several (e ∷ es) G os h =
      let a = bind_ok (typed t e.0 G) _ os h in
      let b = bind_ok (operands (map (found t) (map (λ x. x.0) es)) G) _ os a.then in
      subst (λ zs. Reads G (lines.joined (map whole (map (λ e. (e, inside_expr e)) (map (λ x. x.0) (e ∷ es)))))
      (map child (map (λ e. (e, read_inside t e)) (map (λ x. x.0) (e ∷ es)))) (trees_in zs))
      (ok_ok (operand (found t e.0).span a.value ∷ b.value) os b.then)
      (reads_both G (expr_sites e.0) _ (child (e.0, read_inside t e.0) ∷ []) _ (a.value.tree ∷ []) _ (one e G a.value a.first)
      (several es G b.value b.first))

  givens : (gs : List (Givens shown)) (G : Scope) (os : List Operand) →
      operands (values_given (map (found_field t) (map (λ x. x.0) gs))) G ≡ Ok os →
      Reads G (sites_in (map (λ f. (f, given_sites f)) (map (λ x. x.0) gs)))
      (children_in (map (λ f. (f, children_of_given t f)) (map (λ x. x.0) gs))) (trees_in os)
  givens [] G os h = subst (λ zs. Reads G [] [] (trees_in zs)) (ok_ok [] os h) (reads_none G)
  givens (g ∷ gs) G os h =
      let a = bind_ok ((found_field t g.0).value.typed G) _ os h in
      let b = bind_ok (operands (values_given (map (found_field t) (map (λ x. x.0) gs))) G) _ os a.then in
      subst (λ zs. Reads G (sites_in (map (λ f. (f, given_sites f)) (map (λ x. x.0) (g ∷ gs))))
      (children_in (map (λ f. (f, children_of_given t f)) (map (λ x. x.0) (g ∷ gs)))) (trees_in zs))
      (ok_ok (operand (found_field t g.0).value.span a.value ∷ b.value) os b.then)
      (reads_both G (given_sites g.0) _ (children_of_given t g.0) _ (a.value.tree ∷ []) _ (g.1 G a.value a.first)
      (givens gs G b.value b.first))

  slices : (ss : List (Slices shown)) (G : Scope) (os : List Operand) → all_operands (map (found_slice t) (map (λ x. x.0) ss)) G ≡ Ok os →
      Reads G (sites_in (map (λ s. (s, slice_sites s)) (map (λ x. x.0) ss)))
      (children_in (map (λ s. (s, children_of_slice t s)) (map (λ x. x.0) ss))) (trees_in os)
  slices [] G os h = subst (λ zs. Reads G [] [] (trees_in zs)) (ok_ok [] os h) (reads_none G)
  slices (s ∷ ss) G os h =
      let a = bind_ok ((found_slice t s.0).operands G) _ os h in
      let b = bind_ok (all_operands (map (found_slice t) (map (λ x. x.0) ss)) G) _ os a.then in
      subst (λ zs. Reads G (sites_in (map (λ s. (s, slice_sites s)) (map (λ x. x.0) (s ∷ ss))))
      (children_in (map (λ s. (s, children_of_slice t s)) (map (λ x. x.0) (s ∷ ss)))) zs)
      (sym (trees_both a.value b.value) ∙ ap trees_in (ok_ok (a.value ++ b.value) os b.then))
      (reads_both G (slice_sites s.0) _ (children_of_slice t s.0) _ (trees_in a.value) _ (s.1 G a.value a.first)
      (slices ss G b.value b.first))

  all_patterns : (ps : List (Patterns shown)) (T : Ty) (G : Scope) (ms : List Matched) →
      all_match (map (found_pattern t) (map (λ x. x.0) ps)) T (with_class G Pure) ≡ Ok ms →
      Reads G (sites_in (map (λ p. (p, pattern_sites p)) (map (λ x. x.0) ps)))
      (children_in (map (λ p. (p, children_of_pattern t p)) (map (λ x. x.0) ps))) (pattern_trees ms)
  all_patterns [] T G ms h = subst (λ zs. Reads G [] [] (pattern_trees zs)) (ok_ok [] ms h) (reads_none G)
  all_patterns (p ∷ ps) T G ms h =
      let a = bind_ok (found_pattern t p.0 T (with_class G Pure)) _ ms h in
      let b = bind_ok (all_match (map (found_pattern t) (map (λ x. x.0) ps)) T (with_class G Pure)) _ ms a.then in
      subst (λ zs. Reads G (sites_in (map (λ p. (p, pattern_sites p)) (map (λ x. x.0) (p ∷ ps))))
      (children_in (map (λ p. (p, children_of_pattern t p)) (map (λ x. x.0) (p ∷ ps)))) (pattern_trees zs))
      (ok_ok (a.value ∷ b.value) ms b.then)
      (reads_both G (pattern_sites p.0) _ (children_of_pattern t p.0) _ a.value.trees _ (p.1 T G a.value a.first)
      (all_patterns ps T G b.value b.first))

  not_true : {A : Type 0} → false ≡ true → A
  not_true h = absurd (isnt h)
    where
      isnt : false ≡ true → ⊥
      isnt h = cc

  tuple_patterns : (ps : List (Patterns shown)) (Ts : Parts) (G : Scope) (ms : List Matched) →
      as_many (map (found_pattern t) (map (λ x. x.0) ps)) Ts ≡ true →
      parts_match (map (found_pattern t) (map (λ x. x.0) ps)) Ts (with_class G Pure) ≡ Ok ms →
      Reads G (sites_in (map (λ p. (p, pattern_sites p)) (map (λ x. x.0) ps)))
      (children_in (map (λ p. (p, children_of_pattern t p)) (map (λ x. x.0) ps))) (pattern_trees ms)
  tuple_patterns [] no_part G ms n h = subst (λ zs. Reads G [] [] (pattern_trees zs)) (ok_ok [] ms h) (reads_none G)
  tuple_patterns [] (part T Ts) G ms n h = not_true n
  tuple_patterns (p ∷ ps) no_part G ms n h = not_true n
  tuple_patterns (p ∷ ps) (part T Ts) G ms n h =
      let a = bind_ok (found_pattern t p.0 T (with_class G Pure)) _ ms h in
      let b = bind_ok (parts_match (map (found_pattern t) (map (λ x. x.0) ps)) Ts (with_class G Pure)) _ ms a.then in
      subst (λ zs. Reads G (sites_in (map (λ p. (p, pattern_sites p)) (map (λ x. x.0) (p ∷ ps))))
      (children_in (map (λ p. (p, children_of_pattern t p)) (map (λ x. x.0) (p ∷ ps)))) (pattern_trees zs))
      (ok_ok (a.value ∷ b.value) ms b.then)
      (reads_both G (pattern_sites p.0) _ (children_of_pattern t p.0) _ a.value.trees _ (p.1 T G a.value a.first)
      (tuple_patterns ps Ts G b.value n b.first))

  -- ---- each layer

  -- what is read of the parts of a node are its sites' lines, and their trees stand in the node's tree
  record NodeReads (G : Scope) (ss : Sites) (cs : Children) (s : Tree) : Type 0 where
    trees : List Tree
    reads : Reads G ss cs trees
    stand : trees_inside s ≡ trees_from trees

  abbrev NodeSays : ExprNode shown → Scope → Typed → Type 0
  NodeSays y G S = NodeReads G (lines.expr_layer (expr_paired (expr_trees shown y))) (expr_children (expr_read (expr_trees shown y))) S.tree

  says : (y : ExprNode shown) (G : Scope) (S : Typed) (xs : List Tree) →
      Reads G (lines.expr_layer (expr_paired (expr_trees shown y))) (expr_children (expr_read (expr_trees shown y))) xs →
      (r : Result Typed Fault) → r ≡ Ok S → HasInside (trees_from xs) r → NodeSays y G S
  says y G S xs k r h i = record { trees = xs; reads = k; stand = of_this (λ (T : Typed). trees_inside T.tree ≡ trees_from xs) r S h i }

  expr_says : (y : ExprNode shown) (G : Scope) (S : Typed) → typed_rule t (opened t (expr_trees shown y)) G ≡ Ok S → NodeSays y G S
  expr_says (ex.Int span n) G S h = says (ex.Int span n) G S [] (reads_none G) _ h (search inside_facts depth 20)
  expr_says (ex.Bits span text) G S h = says (ex.Bits span text) G S [] (reads_none G) _ h (search inside_facts depth 20)
  expr_says (ex.Bool span b) G S h = says (ex.Bool span b) G S [] (reads_none G) _ h (search inside_facts depth 20)
  expr_says (ex.Name span name) G S h = says (ex.Name span name) G S [] (reads_none G) _ h
      (name_inside span name (standing_of name G.names) G)
  expr_says (ex.Unary span o a) G S h =
      let x = bind_ok (typed t a.0 G) _ S h in
      says (ex.Unary span o a) G S (x.value.tree ∷ []) (one a G x.value x.first) _ x.then (search inside_facts depth 20)
  expr_says (ex.Binary span o a b) G S h =
      let x = bind_ok (typed t a.0 G) _ S h in
      let y = bind_ok (typed t b.0 G) _ S x.then in
      says (ex.Binary span o a b) G S (x.value.tree ∷ y.value.tree ∷ [])
      (reads_both G (expr_sites a.0) _ (child (a.0, read_inside t a.0) ∷ []) _ (x.value.tree ∷ []) _ (one a G x.value x.first)
      (one b G y.value y.first)) _ y.then (search inside_facts depth 20)
  expr_says (ex.Conditional span c a b) G S h =
      let z = bind_ok (typed t c.0 G) _ S h in
      let x = bind_ok (typed t a.0 G) _ S z.then in
      let y = bind_ok (typed t b.0 G) _ S x.then in
      says (ex.Conditional span c a b) G S (z.value.tree ∷ x.value.tree ∷ y.value.tree ∷ [])
      (reads_both G (expr_sites c.0) _ (child (c.0, read_inside t c.0) ∷ []) _ (z.value.tree ∷ []) _ (one c G z.value z.first)
      (reads_both G (expr_sites a.0) _ (child (a.0, read_inside t a.0) ∷ []) _ (x.value.tree ∷ []) _ (one a G x.value x.first)
      (one b G y.value y.first))) _ y.then (search inside_facts depth 20)
  expr_says (ex.Tuple span es) G S h =
      let x = bind_ok (operands (map (found t) (map (λ x. x.0) es)) G) _ S h in
      says (ex.Tuple span es) G S (trees_in x.value) (several es G x.value x.first) _ x.then (search inside_facts depth 20)
  expr_says (ex.Construct span i gs) G S h =
      let x = bind_ok (operands (values_given (map (found_field t) (map (λ x. x.0) gs))) G) _ S h in
      says (ex.Construct span i gs) G S (trees_in x.value) (givens gs G x.value x.first) _ x.then (search inside_facts depth 20)
  expr_says (ex.Call span i ps es) G S h =
      let x = bind_ok (call_begun i (map (found t) (map (λ x. x.0) es)) G) _ S h in
      let y = bind_ok (operands (map (found t) (map (λ x. x.0) es)) G) _ x.value x.first in
      let n = then_ok (need (is_subprogram (standing_of i.text G.names)) T02 i.span) (Ok y.value) x.value y.then in
      says (ex.Call span i ps es) G S (trees_in x.value)
      (subst (λ zs. Reads G (lines.joined (map whole (map (λ e. (e, inside_expr e)) (map (λ x. x.0) es))))
      (map child (map (λ e. (e, read_inside t e)) (map (λ x. x.0) es))) (trees_in zs)) (ok_ok y.value x.value n.then)
      (several es G y.value y.first)) _ x.then
      (function_inside t span i (map (found t) (map (λ x. x.0) ps)) x.value G (routine_named i.text))
  expr_says (ex.Field span a i) G S h =
      let x = bind_ok (typed t a.0 G) _ S h in
      says (ex.Field span a i) G S (x.value.tree ∷ []) (one a G x.value x.first) _ x.then (search inside_facts depth 20)
  expr_says (ex.Fields span a is) G S h =
      let x = bind_ok (typed t a.0 G) _ S h in
      says (ex.Fields span a is) G S (x.value.tree ∷ []) (one a G x.value x.first) _ x.then (search inside_facts depth 20)
  expr_says (ex.Slices span a ss) G S h =
      let x = bind_ok (typed t a.0 G) _ S h in
      let y = bind_ok (all_operands (map (found_slice t) (map (λ x. x.0) ss)) G) _ S x.then in
      says (ex.Slices span a ss) G S (x.value.tree ∷ trees_in y.value)
      (reads_both G (expr_sites a.0) _ (child (a.0, read_inside t a.0) ∷ []) _ (x.value.tree ∷ []) _ (one a G x.value x.first)
      (slices ss G y.value y.first)) _ y.then (search inside_facts depth 20)
  expr_says (ex.Element span a i) G S h =
      let x = bind_ok (typed t a.0 G) _ S h in
      let y = bind_ok (typed t i.0 G) _ S x.then in
      says (ex.Element span a i) G S (x.value.tree ∷ y.value.tree ∷ [])
      (reads_both G (expr_sites a.0) _ (child (a.0, read_inside t a.0) ∷ []) _ (x.value.tree ∷ []) _ (one a G x.value x.first)
      (one i G y.value y.first)) _ y.then (search inside_facts depth 20)
  expr_says (ex.As span a T) G S h =
      let x = bind_ok (typed t a.0 G) _ S h in
      says (ex.As span a T) G S (x.value.tree ∷ []) (one a G x.value x.first) _ x.then (search inside_facts depth 20)
  expr_says (ex.In span a p) G S h =
      let x = bind_ok (typed t a.0 G) _ S h in
      let y = bind_ok (found_pattern t p.0 x.value.ty (with_class G Pure)) _ S x.then in
      says (ex.In span a p) G S (x.value.tree ∷ y.value.trees)
      (reads_both G (expr_sites a.0) _ (child (a.0, read_inside t a.0) ∷ []) _ (x.value.tree ∷ []) _ (one a G x.value x.first)
      (p.1 x.value.ty G y.value y.first)) _ y.then (search inside_facts depth 20)

  append_none : {A : Type 0} (xs : List A) → xs ++ [] ≡ xs
  append_none [] = refl
  append_none (x ∷ xs) = ap (λ z. x ∷ z) (append_none xs)

  expr_reads : (y : ExprNode shown) (G : Scope) (S : Typed) → typed_rule t (opened t (expr_trees shown y)) G ≡ Ok S →
      (site_lines t (lines.expr_layer (expr_paired (expr_trees shown y))) G).lines ≡ read_layer t (expr_read (expr_trees shown y)) S.tree G
  expr_reads y G S h =
      let n = expr_says y G S h in
      let cs = expr_children (expr_read (expr_trees shown y)) in
      sym (append_none (site_lines t (lines.expr_layer (expr_paired (expr_trees shown y))) G).lines) ∙
      (sym (n.reads.are [] []) ∙ (ap (λ z. children_lines t z (trees_from (n.trees ++ [])) G) (append_none cs) ∙
      (ap (λ z. children_lines t cs (trees_from z) G) (append_none n.trees) ∙ ap (λ z. children_lines t cs z G) (sym n.stand))))

  given_reads : (y : FieldValueNode shown) (G : Scope) (S : Typed) →
      (given_rule (field_opened t (given_trees shown y))).value.typed G ≡ Ok S →
      Reads G (lines.given_layer (given_paired (given_trees shown y))) (given_children (given_read (given_trees shown y))) (S.tree ∷ [])
  given_reads (ex.Given i e) G S h = one e G S h

  two : (a b : Exprs shown) (G : Scope) (os : List Operand) → operands (found t a.0 ∷ found t b.0 ∷ []) G ≡ Ok os →
      Reads G (expr_sites a.0 ++ expr_sites b.0) (child (a.0, read_inside t a.0) ∷ child (b.0, read_inside t b.0) ∷ []) (trees_in os)
  two a b G os h =
      let x = bind_ok (typed t a.0 G) _ os h in
      let z = bind_ok (operands (found t b.0 ∷ []) G) _ os x.then in
      let y = bind_ok (typed t b.0 G) _ z.value z.first in
      let p : operand (found t b.0).span y.value ∷ [] ≡ z.value = ok_ok (operand (found t b.0).span y.value ∷ []) z.value y.then in
      let q : operand (found t a.0).span x.value ∷ z.value ≡ os = ok_ok (operand (found t a.0).span x.value ∷ z.value) os z.then in
      subst (λ zs. Reads G (expr_sites a.0 ++ expr_sites b.0) (child (a.0, read_inside t a.0) ∷ child (b.0, read_inside t b.0) ∷ [])
      (trees_in zs)) (ap (λ zs. operand (found t a.0).span x.value ∷ zs) p ∙ q)
      (reads_both G (expr_sites a.0) _ (child (a.0, read_inside t a.0) ∷ []) _ (x.value.tree ∷ []) _ (one a G x.value x.first)
      (one b G y.value y.first))

  slice_reads : (y : SliceNode shown) (G : Scope) (os : List Operand) →
      (slice_rule (slice_opened t (slice_trees shown y))).operands G ≡ Ok os →
      Reads G (lines.slice_layer (slice_paired (slice_trees shown y))) (slice_children (slice_read (slice_trees shown y))) (trees_in os)
  slice_reads (ex.BitAt e) G os h =
      let x = bind_ok (typed t e.0 G) _ os h in
      subst (λ zs. Reads G (expr_sites e.0) (child (e.0, read_inside t e.0) ∷ []) (trees_in zs))
      (ok_ok (operand (found t e.0).span x.value ∷ []) os x.then) (one e G x.value x.first)
  slice_reads (ex.HighLow a b) G os h = two a b G os h
  slice_reads (ex.LowWidth a b) G os h = two a b G os h
  slice_reads (ex.FactorWidth a b) G os h = two a b G os h

  -- what a pattern gives has these trees
  abbrev Holds : List Tree → Result Matched Fault → Type 0
  Holds xs r = OfAnswer (λ m. xs ≡ m.trees) r

  held : (G : Scope) (ss : Sites) (cs : Children) (xs : List Tree) (m : Matched) (r : Result Matched Fault) → r ≡ Ok m → Holds xs r →
      Reads G ss cs xs → Reads G ss cs m.trees
  held G ss cs xs m r h i k = subst (Reads G ss cs) (of_this (λ (n : Matched). xs ≡ n.trees) r m h i) k

  ruleset matched_facts = (steps_before, refl)

  pattern_reads : (y : PatternNode shown) (T : Ty) (G : Scope) (m : Matched) →
      pattern_rule t (pattern_opened t (pattern_nodes shown y)) T (with_class G Pure) ≡ Ok m →
      Reads G (lines.pattern_layer (pattern_paired (pattern_nodes shown y))) (pattern_children (pattern_read (pattern_nodes shown y)))
      m.trees
  pattern_reads (ex.AnyPattern span) T G m h = held G [] [] [] m _ h (search matched_facts) (reads_none G)
  pattern_reads (ex.SetPattern span b ps) T G m h =
      let x = bind_ok (all_match (map (found_pattern t) (map (λ x. x.0) ps)) T (with_class G Pure)) _ m h in
      held G _ _ (pattern_trees x.value) m _ x.then (search matched_facts) (all_patterns ps T G x.value x.first)
  pattern_reads (ex.MaskPattern span text) T G m h = held G [] [] [] m _ h (search matched_facts depth 10) (reads_none G)
  pattern_reads (ex.AtMost span e) T G m h =
      let x = bind_ok (typed t e.0 (with_class G Pure)) _ m h in
      held G _ _ (x.value.tree ∷ []) m _ x.then (search matched_facts depth 10) (one_pure e G x.value x.first)
  pattern_reads (ex.AtLeast span e) T G m h =
      let x = bind_ok (typed t e.0 (with_class G Pure)) _ m h in
      held G _ _ (x.value.tree ∷ []) m _ x.then (search matched_facts depth 10) (one_pure e G x.value x.first)
  pattern_reads (ex.TuplePattern span ps) T G m h =
      let x = bind_ok (found_or (tuple_parts T) T23 span) _ m h in
      let n = then_ok (need (as_many (map (found_pattern t) (map (λ x. x.0) ps)) x.value) T23 span) _ m x.then in
      let y = bind_ok (parts_match (map (found_pattern t) (map (λ x. x.0) ps)) x.value (with_class G Pure)) _ m n.then in
      held G _ _ (pattern_trees y.value) m _ y.then (search matched_facts)
      (tuple_patterns ps x.value G y.value (need_ok (as_many (map (found_pattern t) (map (λ x. x.0) ps)) x.value) T23 span tt n.first)
      y.first)
  pattern_reads (ex.ValuePattern span e) T G m h =
      let x = bind_ok (typed t e.0 (with_class G Pure)) _ m h in
      held G _ _ (x.value.tree ∷ []) m _ x.then (search matched_facts depth 10) (one_pure e G x.value x.first)
  pattern_reads (ex.RangePattern span a b) T G m h =
      let x = bind_ok (typed t a.0 (with_class G Pure)) _ m h in
      let y = bind_ok (typed t b.0 (with_class G Pure)) _ m x.then in
      held G _ _ (x.value.tree ∷ y.value.tree ∷ []) m _ y.then (search matched_facts depth 10)
      (reads_both G (pure_whole (a.0, inside_expr a.0)) _ (pure_child (a.0, read_inside t a.0) ∷ []) _ (x.value.tree ∷ []) _
      (one_pure a G x.value x.first) (one_pure b G y.value y.first))

  -- ---- by induction over trees

  steps_all : Steps shown
  steps_all = record {
    bitfield_has = λ y. tt;
    part_has = λ y. tt;
    expr_has = λ y G S h.
        ap (λ ss. (site_lines t ss G).lines)
        (para-roll-Expr Unread Unread Sites Sites Sites Sites Unread (λ _. tt) (λ _. tt) lines.expr_layer lines.given_layer
        lines.pattern_layer lines.slice_layer (λ _. tt) (expr_trees shown y)) ∙
        (expr_reads y G S (sym
        (ap (λ (f : Found). f.typed G) (fold-roll-Expr FoundBitfield FoundPart Found FoundField FoundPattern FoundSlice FoundType
        bitfield_rule part_rule (expr_rule t) given_rule (pattern_rule t) slice_rule (type_rule t) (expr_trees shown y))) ∙ h) ∙
        sym (ap (λ (f : Reading). f S.tree G)
        (para-roll-Expr Unread Unread Reading Children Children Children Unread (λ _. tt) (λ _. tt) (read_layer t) given_children
        pattern_children slice_children (λ _. tt) (expr_trees shown y))));
    given_has = λ y G S h.
        subst (λ ss. Reads G ss (children_of_given t (roll-FieldValue (given_trees shown y))) (S.tree ∷ []))
        (sym (para-roll-FieldValue Unread Unread Sites Sites Sites Sites Unread (λ _. tt) (λ _. tt) lines.expr_layer lines.given_layer
        lines.pattern_layer lines.slice_layer (λ _. tt) (given_trees shown y)))
        (subst (λ cs. Reads G (lines.given_layer (given_paired (given_trees shown y))) cs (S.tree ∷ []))
        (sym (para-roll-FieldValue Unread Unread Reading Children Children Children Unread (λ _. tt) (λ _. tt) (read_layer t)
        given_children pattern_children slice_children (λ _. tt) (given_trees shown y)))
        (given_reads y G S (sym
        (ap (λ (f : FoundField). f.value.typed G)
        (fold-roll-FieldValue FoundBitfield FoundPart Found FoundField FoundPattern FoundSlice FoundType bitfield_rule part_rule
        (expr_rule t) given_rule (pattern_rule t) slice_rule (type_rule t) (given_trees shown y))) ∙ h)));
    pattern_has = λ y T G m h.
        subst (λ ss. Reads G ss (children_of_pattern t (roll-Pattern (pattern_nodes shown y))) m.trees)
        (sym (para-roll-Pattern Unread Unread Sites Sites Sites Sites Unread (λ _. tt) (λ _. tt) lines.expr_layer lines.given_layer
        lines.pattern_layer lines.slice_layer (λ _. tt) (pattern_nodes shown y)))
        (subst (λ cs. Reads G (lines.pattern_layer (pattern_paired (pattern_nodes shown y))) cs m.trees)
        (sym (para-roll-Pattern Unread Unread Reading Children Children Children Unread (λ _. tt) (λ _. tt) (read_layer t) given_children
        pattern_children slice_children (λ _. tt) (pattern_nodes shown y)))
        (pattern_reads y T G m (sym
        (ap (λ (f : FoundPattern). f T (with_class G Pure))
        (fold-roll-Pattern FoundBitfield FoundPart Found FoundField FoundPattern FoundSlice FoundType bitfield_rule part_rule
        (expr_rule t) given_rule (pattern_rule t) slice_rule (type_rule t) (pattern_nodes shown y))) ∙ h)));
    slice_has = λ y G os h.
        subst (λ ss. Reads G ss (children_of_slice t (roll-Slice (slice_trees shown y))) (trees_in os))
        (sym (para-roll-Slice Unread Unread Sites Sites Sites Sites Unread (λ _. tt) (λ _. tt) lines.expr_layer lines.given_layer
        lines.pattern_layer lines.slice_layer (λ _. tt) (slice_trees shown y)))
        (subst (λ cs. Reads G (lines.slice_layer (slice_paired (slice_trees shown y))) cs (trees_in os))
        (sym (para-roll-Slice Unread Unread Reading Children Children Children Unread (λ _. tt) (λ _. tt) (read_layer t) given_children
        pattern_children slice_children (λ _. tt) (slice_trees shown y)))
        (slice_reads y G os (sym
        (ap (λ (f : FoundSlice). f.operands G)
        (fold-roll-Slice FoundBitfield FoundPart Found FoundField FoundPattern FoundSlice FoundType bitfield_rule part_rule (expr_rule t)
        given_rule (pattern_rule t) slice_rule (type_rule t) (slice_trees shown y))) ∙ h)));
    type_has = λ y. tt;
  }

  -- the lines of an expression are those that are read off its typed tree
  pub read_lines : (e : Expr) (G : Scope) (S : Typed) → typed t e G ≡ Ok S → (site_lines t (expr_sites e) G).lines ≡ expr_lines t e S.tree G
  read_lines e G S h = whole_lines e G S (each_expr shown steps_all e G S h) h
