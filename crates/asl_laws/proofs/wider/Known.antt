-- What is evaluated before any run has the same value under a wider limit.
use Rattle.std.proofs.Common.{◌≡◌, ℕ, ◌≤◌, List, [], ◌∷◌, ◌++◌, sym, ap, subst, map, ◌∙◌}
use Rattle.asl_syn.specs.declared.token.Span.{Span}
use Rattle.asl_syn.specs.declared.tree.Expr.{Expr, roll-Expr, out-roll-Expr, out-Expr}
use Rattle.asl_syn.specs.declared.tree.Bitfield.TheOpen as ex
use Rattle.asl_syn.specs.declared.tree.Bitfield.TheFolds.{ind-Expr}
use Rattle.asl_syn.specs.Layers.{ExprLayer}
use Rattle.asl_rules.specs.declarations.Scopes.{Entry}
use Rattle.asl_rules.specs.runs.States.{resting}
use Rattle.asl_rules.specs.runs.Plans.{Plan}
use Rattle.asl_rules.specs.runs.Pures.{◌>>=◌}
use Rattle.asl_rules.specs.values.Operators.{unary_value}
use Rattle.asl_rules.specs.values.Structures.{field_of, constructed}
use Rattle.asl_rules.specs.values.Vectors.{literal_bits, slices_of, bitfields_of, bitfields_named}
use Rattle.asl_rules.specs.types.Written.{converted}
use Rattle.asl_rules.specs.types.Views.{stripped}
use Rattle.asl_rules.specs.runs.Forms.{function_gives, behind_all}
use Rattle.asl_rules.specs.types.Shaped.{Shaped, itself, exprs_in, shapes_in, given_parts, slice_parts, pattern_parts, type_parts}
use Rattle.asl_rules.specs.runs.ByNames.{matched_in, types_among}
use Rattle.asl_rules.specs.declarations.Constants.{Known, before_runs, settled, constant_layer, constant}
use Rattle.asl_rules.specs.declarations.Programs.{Environment}
use Rattle.asl_rules.proofs.constants.KnownParts.{known_given, known_slice, known_pattern, known_type, known_layer, parts_of, shapes_of}
use Rattle.asl_rules.proofs.constants.KnownParts.{given_known, slice_known, pattern_known, type_known, constant_out}
use Rattle.asl_laws.proofs.constants.KnownTwins.{AllOf, OfBitfield, OfPart, OfField, OfPattern, OfSlice, OfType, ExprBelow, expr_trees}
use Rattle.asl_laws.proofs.constants.KnownTwins.{bitfield_step, part_step, field_step, pattern_step, slice_step, type_step}
use Rattle.asl_laws.proofs.wider.Steps.{Wider, wider_same, wider_bind, wider_narrow, wider_step}
use Rattle.asl_laws.proofs.wider.Pures.{literal_wider, slices_wider, bitfields_wider, converted_wider, matched_in_wider}
use Rattle.asl_laws.proofs.wider.Plans.{Relates, AllR, behind_widens, behind_all_widens, behind_more_widens, once_widens, operation_widens}
use Rattle.asl_laws.proofs.wider.Plans.{conditional_widens, tuple_widens, element_widens, call_widens}

-- ---- the expressions in lists of parts

all_append : (P : Expr → Type 0) (xs ys : List Expr) → AllOf P xs → AllOf P ys → AllOf P (xs ++ ys)
all_append P [] ys a b = b
all_append P (x ∷ xs) ys a b = (a.0, all_append P xs ys a.1 b)

all_in : {A X : Type 0} (P : Expr → Type 0) (g : X → Shaped A Expr) (xs : List ((x : X) × AllOf P ((g x).exprs))) →
    AllOf P (exprs_in g (map (λ x. x.0) xs))
all_in P g [] = tt
all_in P g (x ∷ xs) = all_append P ((g x.0).exprs) (exprs_in g (map (λ y. y.0) xs)) x.1 (all_in P g xs)

all_here : (P : Expr → Type 0) (es : List ((e : Expr) × P e)) → AllOf P (map (λ e. e.0) es)
all_here P [] = tt
all_here P (e ∷ es) = (e.1, all_here P es)

module _ (env : Environment) (m : ℕ) (le : env.limit ≤ m) where
  abbrev pub KnownWider : Expr → Type 0
  KnownWider e = Wider (constant env.limit e env.names) (constant m e env.names)

  abbrev R : Known → Known → Type 0
  R e f = Wider (e env.names) (f env.names)

  abbrev W : Span → (A : Type 0) → Plan (List Entry) Known Known A → Plan (List Entry) Known Known A → Type 0
  W at A p q = Wider (settled at env.names p) (settled at env.names q)

  known_relate : (at : Span) → Relates R (W at)
  known_relate at = record {
    self = λ e. wider_same (e env.names);
    same = λ p. wider_same (settled at env.names p);
    narrow = λ e c q i. wider_narrow e (settled at env.names q) i;
    eval = λ a b c k k2 r h. wider_bind (a env.names) (b env.names) (λ x. settled at env.names (k x env.names))
        (λ x. settled at env.names (k2 x env.names)) r (λ x. h x env.names);
    follows = λ p q k k2 r h. wider_bind (settled at env.names p) (settled at env.names q) (λ x. settled at env.names (k x env.names))
        (λ x. settled at env.names (k2 x env.names)) r (λ x. h x env.names);
  }

  abbrev All : Span → List Known → List Known → Type 0
  All at xs ys = AllR R (W at) (known_relate at) xs ys

  all_known : (at : Span) (es : List Expr) → AllOf KnownWider es → All at (map (constant env.limit) es) (map (constant m) es)
  all_known at [] h = tt
  all_known at (e ∷ es) h = (h.0, all_known at es h.1)

  these_known : (at : Span) (es : List Expr) (ks ns : List Known) → AllOf KnownWider es → ks ≡ map (constant env.limit) es →
      ns ≡ map (constant m) es → All at ks ns
  these_known at es ks ns h i j = subst (λ xs. All at xs ns) (sym i)
      (subst (λ ys. All at (map (constant env.limit) es) ys) (sym j) (all_known at es h))

  abbrev Below : Type 0
  Below = ExprBelow env (resting []) KnownWider (Unit {0})

  abbrev trees : Below → ExprLayer
  trees = expr_trees env (resting []) KnownWider (Unit {0})

  layer_wider : (y : Below) → Wider (constant_layer env.limit (known_layer env.limit (trees y)) env.names)
      (constant_layer m (known_layer m (trees y)) env.names)
  layer_wider (ex.Bool span b) = wider_same _
  layer_wider (ex.Int span n) = wider_same _
  layer_wider (ex.Name span name) = wider_same _
  layer_wider (ex.Bits span t) = once_widens R (W span) (known_relate span) (literal_bits env.limit span t) (literal_bits m span t)
      env.names (literal_wider env.limit m le span t)
  layer_wider (ex.Unary span o a) = behind_widens R (W span) (known_relate span) (constant env.limit a.0) (constant m a.0) env.names
      (unary_value span o) (unary_value span o) a.1 (λ x. wider_same _)
  layer_wider (ex.Binary span o a b) = operation_widens R (W span) (known_relate span) env.limit m le span o (constant env.limit a.0)
      (constant m a.0) (constant env.limit b.0) (constant m b.0) env.names a.1 b.1
  layer_wider (ex.Conditional span e a b) = conditional_widens R (W span) (known_relate span) stripped span (constant env.limit e.0)
      (constant m e.0) (constant env.limit a.0) (constant m a.0) (constant env.limit b.0) (constant m b.0) env.names e.1 a.1 b.1
  layer_wider (ex.Tuple span es) =
      let xs = map (λ e. e.0) es in
      tuple_widens R (W span) (known_relate span) (map (constant env.limit) xs) (map (constant m) xs) env.names
      (all_known span xs (all_here KnownWider es))
  layer_wider (ex.Construct span i fs) =
      let gs = map (λ f. f.0) fs in
      let ks = map (known_given env.limit) gs in
      let ns = map (known_given m) gs in
      let T = types_among env.names i.text in
      subst (λ hs. Wider (settled span env.names (behind_all (exprs_in itself ks) env.names (constructed span T (shapes_in itself ks))))
      (settled span env.names (behind_all (exprs_in itself ns) env.names (constructed span T hs))))
      (shapes_of env.limit (known_given env.limit) given_parts (given_known env.limit) gs
      ∙ sym (shapes_of m (known_given m) given_parts (given_known m) gs))
      (behind_all_widens R (W span) (known_relate span) (exprs_in itself ks) (exprs_in itself ns) env.names
      (constructed span T (shapes_in itself ks)) (constructed span T (shapes_in itself ks))
      (these_known span (exprs_in given_parts gs) (exprs_in itself ks) (exprs_in itself ns) (all_in KnownWider given_parts fs)
      (parts_of env.limit (known_given env.limit) given_parts (given_known env.limit) gs)
      (parts_of m (known_given m) given_parts (given_known m) gs))
      (λ xs. wider_same _))
  layer_wider (ex.Call span i ps es) =
      let qs = map (λ e. e.0) ps in
      let fs = map (λ e. e.0) es in
      call_widens R (W span) (known_relate span) (map (constant env.limit) qs) (map (constant m) qs) (map (constant env.limit) fs)
      (map (constant m) fs) env.names (λ ys xs c. (before_runs env.limit).call span i.text ys xs c)
      (λ ys xs c. (before_runs m).call span i.text ys xs c) (function_gives span)
      (all_known span qs (all_here KnownWider ps)) (all_known span fs (all_here KnownWider es)) (λ ys xs c. wider_same _)
  layer_wider (ex.Field span a i) = behind_widens R (W span) (known_relate span) (constant env.limit a.0) (constant m a.0) env.names
      (field_of span i.text) (field_of span i.text) a.1 (λ x. wider_same _)
  layer_wider (ex.Fields span a iss) = behind_widens R (W span) (known_relate span) (constant env.limit a.0) (constant m a.0) env.names
      (λ x. bitfields_named span iss x >>= λ fs. bitfields_of env.limit span fs x)
      (λ x. bitfields_named span iss x >>= λ fs. bitfields_of m span fs x) a.1
      (λ x. wider_step (bitfields_named span iss x) (λ fs. bitfields_of env.limit span fs x) (λ fs. bitfields_of m span fs x)
      (λ fs. bitfields_wider env.limit m le span fs x))
  layer_wider (ex.Slices span a ss) =
      let ts = map (λ s. s.0) ss in
      let ks = map (known_slice env.limit) ts in
      let ns = map (known_slice m) ts in
      behind_more_widens R (W span) (known_relate span) (constant env.limit a.0) (constant m a.0) (exprs_in itself ks) (exprs_in itself ns)
      env.names (λ x zs. slices_of env.limit span (shapes_in itself ks) zs x) (λ x zs. slices_of m span (shapes_in itself ns) zs x) a.1
      (these_known span (exprs_in slice_parts ts) (exprs_in itself ks) (exprs_in itself ns) (all_in KnownWider slice_parts ss)
      (parts_of env.limit (known_slice env.limit) slice_parts (slice_known env.limit) ts)
      (parts_of m (known_slice m) slice_parts (slice_known m) ts))
      (λ x zs. subst (λ hs. Wider (slices_of env.limit span (shapes_in itself ks) zs x) (slices_of m span hs zs x))
      (shapes_of env.limit (known_slice env.limit) slice_parts (slice_known env.limit) ts
      ∙ sym (shapes_of m (known_slice m) slice_parts (slice_known m) ts))
      (slices_wider env.limit m le span (shapes_in itself ks) zs x))
  layer_wider (ex.Element span a i) = element_widens R (W span) (known_relate span) span (constant env.limit a.0) (constant m a.0)
      (constant env.limit i.0) (constant m i.0) env.names a.1 i.1
  layer_wider (ex.As span a t) =
      let k = known_type env.limit t.0 in
      let n = known_type m t.0 in
      behind_more_widens R (W span) (known_relate span) (constant env.limit a.0) (constant m a.0) k.exprs n.exprs env.names
      (λ x zs. converted env.limit span (k.shape (types_among env.names)) zs x)
      (λ x zs. converted m span (n.shape (types_among env.names)) zs x) a.1
      (these_known span ((type_parts t.0).exprs) k.exprs n.exprs t.1 (type_known env.limit t.0).exprs (type_known m t.0).exprs)
      (λ x zs. subst (λ o. Wider (converted env.limit span (k.shape (types_among env.names)) zs x) (converted m span o zs x))
      ((type_known env.limit t.0).shape (types_among env.names) ∙ sym ((type_known m t.0).shape (types_among env.names)))
      (converted_wider env.limit m le span (k.shape (types_among env.names)) zs x))
  layer_wider (ex.In span a p) =
      let k = known_pattern env.limit p.0 in
      let n = known_pattern m p.0 in
      behind_more_widens R (W span) (known_relate span) (constant env.limit a.0) (constant m a.0) k.exprs n.exprs env.names
      (λ x zs. matched_in env.limit k.shape zs x) (λ x zs. matched_in m n.shape zs x) a.1
      (these_known span ((pattern_parts p.0).exprs) k.exprs n.exprs p.1 (ap (λ s. s.exprs) (pattern_known env.limit p.0))
      (ap (λ s. s.exprs) (pattern_known m p.0)))
      (λ x zs. subst (λ s. Wider (matched_in env.limit k.shape zs x) (matched_in m s zs x))
      (ap (λ s. s.shape) (pattern_known env.limit p.0) ∙ sym (ap (λ s. s.shape) (pattern_known m p.0)))
      (matched_in_wider env.limit m le k.shape zs x))

  expr_step : (x : ExprLayer) (y : Below) → trees y ≡ x → KnownWider (roll-Expr x)
  expr_step x y is =
      let e = roll-Expr x in
      let back : trees y ≡ out-Expr e = is ∙ sym (out-roll-Expr x) in
      subst (λ (k : Known). Wider (k env.names) (constant m e env.names)) (sym (constant_out env.limit e))
      (subst (λ (n : Known). Wider (constant_layer env.limit (known_layer env.limit (out-Expr e)) env.names) (n env.names))
      (sym (constant_out m e))
      (subst (λ z. Wider (constant_layer env.limit (known_layer env.limit z) env.names) (constant_layer m (known_layer m z) env.names)) back
      (layer_wider y)))

  pub known_wider : (e : Expr) → KnownWider e
  known_wider = ind-Expr (OfBitfield env (resting []) KnownWider (Unit {0})) (OfPart env (resting []) KnownWider (Unit {0})) KnownWider
      (OfField env (resting []) KnownWider (Unit {0})) (OfPattern env (resting []) KnownWider (Unit {0}))
      (OfSlice env (resting []) KnownWider (Unit {0})) (OfType env (resting []) KnownWider (Unit {0}))
      (bitfield_step env (resting []) KnownWider (Unit {0})) (part_step env (resting []) KnownWider (Unit {0})) expr_step
      (field_step env (resting []) KnownWider (Unit {0})) (pattern_step env (resting []) KnownWider (Unit {0}))
      (slice_step env (resting []) KnownWider (Unit {0})) (type_step env (resting []) KnownWider (Unit {0}))
