-- Runs under a wider limit: each node does the same, or is too wide under the narrower one; so do calls from outside, and calls for words.
use Rattle.std.proofs.Common.{◌≡◌, ℕ, zero, suc, ◌+◌, ◌≤◌, pos, Bool, true, false, ◌&&◌, cond, inl, inr, ◌⊎◌, List, [], ◌∷◌, ◌++◌, Option}
use Rattle.std.proofs.Common.{Some, None, refl, sym, ap, ap₂, subst, map}
use Rattle.std.specs.Prelude.{slice_get}
use Rattle.std.specs.Str.{bytes_eq}
use Rattle.asl_syn.specs.declared.token.Span.{Span}
use Rattle.asl_syn.specs.declared.code.DynCode.TheVariants.{D11, D12}
use Rattle.asl_syn.specs.declared.tree.Expr.{Expr, out-Expr}
use Rattle.asl_syn.specs.declared.tree.Bitfield.TheOpen as ex
use Rattle.asl_syn.specs.declared.tree.Ident.{Ident}
use Rattle.asl_syn.specs.declared.tree.TypeExpr.{TypeExpr}
use Rattle.asl_syn.specs.declared.tree.Binder.TheVariants.{Bound, Unbound}
use Rattle.asl_syn.specs.declared.tree.Bind.{Bind}
use Rattle.asl_syn.specs.declared.tree.Bind.TheVariants.{Single, Several}
use Rattle.asl_syn.specs.declared.tree.Target.{Target, roll-Target, fold-roll-Target, map-Target, ind-Target}
use Rattle.asl_syn.specs.declared.tree.Target.TheOpen as tg
use Rattle.asl_syn.specs.declared.tree.Alternative.{Alternative, out-Alternative}
use Rattle.asl_syn.specs.declared.tree.Catcher.{Catcher}
use Rattle.asl_syn.specs.declared.tree.ElseIf.{ElseIf}
use Rattle.asl_syn.specs.declared.tree.Otherwise.{Otherwise}
use Rattle.asl_syn.specs.declared.tree.Stmt.{Stmt, out-Stmt}
use Rattle.asl_syn.specs.declared.tree.Alternative.TheOpen as st
use Rattle.asl_syn.specs.declared.tree.Formal.{Formal}
use Rattle.asl_syn.specs.declared.tree.Param.{Param}
use Rattle.asl_syn.specs.declared.tree.Func.{Func}
use Rattle.asl_syn.specs.Layers.{ExprLayer, StmtLayer}
use Rattle.asl_rules.specs.types.Alone.{Polynomials}
use Rattle.asl_rules.specs.declarations.Programs.{Environment, funcs_of, origin, Entries}
use Rattle.asl_rules.specs.statements.Locals.{is_var}
use Rattle.asl_rules.specs.values.Values.{Value, Exit}
use Rattle.asl_rules.specs.runs.States.{Binding, Core, entered, restored, resting}
use Rattle.asl_rules.specs.types.Numbers.{Numbers, present, outside}
use Rattle.asl_rules.specs.declarations.Routines.{Routine, routine_named}
use Rattle.asl_rules.specs.values.Library.{routine_value}
use Rattle.asl_rules.specs.values.Structures.{parts, field_of, element_of}
use Rattle.asl_rules.specs.values.Vectors.{literal_bits, slices_of, slice_places, bitfields_named, bitfields_of, bits_at}
use Rattle.asl_rules.specs.types.Written.{Sized, converted, type_span, kind_written}
use Rattle.asl_rules.specs.types.Shaped.{exprs_in, shapes_in, slice_parts, pattern_parts, type_parts, shapes_of_patterns, sizes_in}
use Rattle.asl_rules.specs.types.Shaped.{shape_of}
use Rattle.asl_rules.specs.declarations.Constants.{constant}
use Rattle.asl_rules.specs.runs.ByNames.{matched_in}
use Rattle.asl_rules.specs.runs.Pures.{◌>>=◌, there, known, found_type}
use Rattle.asl_rules.specs.runs.Plans.{Meter, Faulted, Outcome, Done, Thrown, Halt, wrote, Stop, Meaning, run, Pure, Good, Bad, lift}
use Rattle.asl_rules.specs.values.Operators.{less}
use Rattle.asl_rules.specs.runs.Forms.{Keeps, call, unless_full, activations, in_frame, function_gives, procedure_gives}
use Rattle.asl_rules.specs.runs.StatementForms.{in_order}
use Rattle.asl_rules.specs.runs.Evaluation.{Does, declare, declare_each, bound_to, stored_under, unders_or, type_under, declare_all}
use Rattle.asl_rules.specs.runs.Evaluation.{declare_first, sized_at, param_value, param_under, type_at, types_of, params_bound, formals_bound, Entering}
use Rattle.asl_rules.specs.runs.Evaluation.{entering, run_body, run_with, result_at, under_written, limit_of, params_of, is_kind, takes}
use Rattle.asl_rules.specs.runs.Evaluation.{width_over, overload, Numbered, call_one, call_named, called, expr_node, frames, choice_layer}
use Rattle.asl_rules.specs.runs.Evaluation.{choice_in, otherwise_in, held, Step, into_field, into_fields, into_slices, into_element}
use Rattle.asl_rules.specs.runs.Evaluation.{updated, store_at, Stores, Assigning, assign_each, assigning_layer, assigned, stmt_node}
use Rattle.asl_rules.specs.expressions.Exprs.{expr_span}
use Rattle.asl_rules.specs.runs.Evaluation.{meaning, stmt_span}
use Rattle.asl_rules.specs.runs.Machines.{most_open, run_of}
use Rattle.asl_rules.specs.report.WordList.{Word}
use Rattle.asl_rules.specs.runs.Words.{WordsEnd, AllReturned, WordThrew, WordHalted, behind_word, entry_for, run_word, run_words, word_line, word_value}
use Rattle.asl_laws.proofs.names.SameConstants.{pure_same}
use Rattle.asl_laws.specs.Wider.{IsNarrow, WordsFitLimit}
use Rattle.asl_laws.proofs.wider.Steps.{Wider, wider_same, wider_equal, wider_bind, wider_step}
use Rattle.asl_laws.proofs.wider.Pures.{SizedSame, sized_same, literal_wider, slices_wider, slice_places_wider}
use Rattle.asl_laws.proofs.wider.Pures.{with_slices_wider, bitfields_wider, with_bitfields_wider, routine_wider, is_matched_wider}
use Rattle.asl_laws.proofs.wider.Pures.{matched_in_wider, converted_wider}
use Rattle.asl_laws.proofs.wider.Plans.{OutWider, NarrowEnd, out_same, WiderMeaning, Widens, SameExpr, runs_relate, StoresWider}
use Rattle.asl_laws.proofs.wider.Plans.{AssignsWider, ChoiceWider, all_self, lift_widens, choose_widens, once_widens, behind_widens}
use Rattle.asl_laws.proofs.wider.Plans.{behind_more_widens, operation_widens, call_widens, value_widens, values_widens, assignment_widens}
use Rattle.asl_laws.proofs.wider.Plans.{case_widens, enter_wider}
use Rattle.asl_laws.proofs.wider.Known.{known_wider}

module _ (env : Environment) (m : ℕ) (le : env.limit ≤ m) where
  abbrev pub wide : Environment
  wide = record env { limit = m }

  -- ---- written types stand for the same

  type_same : (f : Numbers) (t : TypeExpr) → type_at wide f t ≡ type_at env f t
  type_same f t = refl

  stored_same : (c : Core) (t : Option TypeExpr) (x : Value) → stored_under wide c t x ≡ stored_under env c t x
  stored_same c None x = refl
  stored_same c (Some t) x = ap type_under (type_same (present c) t)

  bound_wider : (span : Span) (b : Bind) (k : Bool) (t : Option TypeExpr) (x : Value) (c : Core) →
      Wider (bound_to env span b k t x c) (bound_to wide span b k t x c)
  bound_wider span (Single (Bound i)) k t x c = wider_equal _ _ (ap (λ o. declare span i.text k o x c) (stored_same c t x))
  bound_wider span (Single (Unbound at)) k t x c = wider_same _
  bound_wider span (Several at bs) k t x c = wider_equal _ _
      (ap (λ o. unders_or span o >>= λ us. parts span x >>= λ xs. declare_each span bs k us xs c) (stored_same c t x))

  firsts_wider : (span : Span) (is : List Ident) (c : Core) (o p : Option Sized) → SizedSame env.limit m le o p →
      Wider (found_type span o >>= λ (s : Sized). s.first >>= λ x. Good (declare_all is s.type_is x c))
      (found_type span p >>= λ (s : Sized). s.first >>= λ x. Good (declare_all is s.type_is x c))
  firsts_wider span is c None None h = wider_same _
  firsts_wider span is c (Some s) (Some q) h = wider_bind s.first q.first _ _ h.first_wider
      (λ x. wider_equal _ _ (ap (λ T. Good (declare_all is T x c)) h.type_same))
  firsts_wider span is c None (Some q) h = absurd h
  firsts_wider span is c (Some s) None h = absurd h

  first_wider : (span : Span) (is : List Ident) (t : TypeExpr) (zs : List Value) (c : Core) →
      Wider (declare_first env span is t zs c) (declare_first wide span is t zs c)
  first_wider span is t zs c = firsts_wider span is c (sized_at env t zs) (sized_at wide t zs)
      (sized_same env.limit m le (type_span t) zs (shape_of (types_of env) t))

  -- ---- calls begin in the same state

  under_same : (c : Core) (t : Option TypeExpr) (x : Value) → param_under wide c t x ≡ param_under env c t x
  under_same c None x = refl
  under_same c (Some t) x = ap type_under (type_same (present c) t)

  params_same : (span : Span) (ps : List Param) (xs : List Value) (c : Core) →
      params_bound wide span ps xs c ≡ params_bound env span ps xs c
  params_same span [] [] c = refl
  params_same span [] (x ∷ xs) c = refl
  params_same span (p ∷ ps) [] c = refl
  params_same span (p ∷ ps) (x ∷ xs) c = pure_same (there span (param_value p.ty x)) _ _ _ refl
      (λ y. pure_same _ _ _ _ (ap (λ o. declare span p.name.text false o y c) (under_same c p.ty y)) (λ c1. params_same span ps xs c1))

  formals_same : (span : Span) (f : Numbers) (gs : List Formal) (xs : List Value) (c : Core) →
      formals_bound wide span f gs xs c ≡ formals_bound env span f gs xs c
  formals_same span f [] [] c = refl
  formals_same span f [] (x ∷ xs) c = refl
  formals_same span f (g ∷ gs) [] c = refl
  formals_same span f (g ∷ gs) (x ∷ xs) c = pure_same _ _ _ _
      (ap (λ o. declare span g.name.text false (type_under o) x c) (type_same f g.ty)) (λ c1. formals_same span f gs xs c1)

  entering_same : (span : Span) (id : ℕ) (f : Func) (ps xs : List Value) (c : Core) →
      entering wide span id f ps xs c ≡ entering env span id f ps xs c
  entering_same span id f ps xs c = pure_same _ _ _ _ (params_same span f.params ps (entered id c))
      (λ c1. ap (λ r. r >>= λ c2. Good (record { params = c1; inner = c2 })) (formals_same span (present c1) f.formals xs c1))

  result_same : (span : Span) (f : Numbers) (t : Option TypeExpr) → result_at wide span f t ≡ result_at env span f t
  result_same span f None = refl
  result_same span f (Some t) = ap (λ o. Some (under_written span o)) (type_same f t)

  takes_same : (f : Polynomials) (gs : List Formal) (xs : List Value) → takes wide f gs xs ≡ takes env f gs xs
  takes_same f [] [] = refl
  takes_same f [] (x ∷ xs) = refl
  takes_same f (g ∷ gs) [] = refl
  takes_same f (g ∷ gs) (x ∷ xs) = ap (λ b. is_kind x (kind_written (types_of env) f g.ty) && b) (takes_same f gs xs)

  overload_same : (f : Numbers) (n : ℕ) (gs : List Func) (name : List ℕ) (xs : List Value) →
      overload wide f n gs name xs ≡ overload env f n gs name xs
  overload_same f n [] name xs = refl
  overload_same f n (g ∷ gs) name xs = ap₂ (λ b o. cond (bytes_eq g.name.text name && b) (Some (record { id = n; func = g })) o)
      (takes_same (width_over f g.params 0) g.formals xs) (overload_same f (n + 1) gs name xs)

  limit_wider : (span : Span) (o : Option Expr) → Wider (limit_of env span o) (limit_of wide span o)
  limit_wider span None = wider_same _
  limit_wider span (Some e) = wider_bind (constant env.limit e env.names) (constant m e env.names) _ _ (known_wider env m le e)
      (λ x. wider_same _)

  -- ---- stores

  updated_wider : (at : Span) (ss : List Step) (y x : Value) → Wider (updated env at ss y x) (updated wide at ss y x)
  updated_wider at [] y x = wider_same _
  updated_wider at (into_field span f ∷ ss) y x =
      wider_step (field_of span f x) _ _
      (λ q. wider_bind (updated env at ss y q) (updated wide at ss y q) _ _ (updated_wider at ss y q) (λ r. wider_same _))
  updated_wider at (into_fields span is ∷ ss) y x =
      wider_step (bitfields_named span is x) _ _
      (λ fs. wider_bind (bitfields_of env.limit span fs x) (bitfields_of m span fs x) _ _ (bitfields_wider env.limit m le span fs x) (λ q.
      wider_bind (updated env at ss y q) (updated wide at ss y q) _ _ (updated_wider at ss y q)
      (λ r. with_bitfields_wider env.limit m le span fs r x)))
  updated_wider at (into_slices span sl zs ∷ ss) y x =
      wider_bind (slice_places env.limit span sl zs x) (slice_places m span sl zs x) _ _ (slice_places_wider env.limit m le span sl zs x)
      (λ ps. wider_step (bits_at span ps x) _ _ (λ q.
      wider_bind (updated env at ss y q) (updated wide at ss y q) _ _ (updated_wider at ss y q)
      (λ r. with_slices_wider env.limit m le span sl zs r x)))
  updated_wider at (into_element span i ∷ ss) y x =
      wider_step (element_of span x i) _ _
      (λ q. wider_bind (updated env at ss y q) (updated wide at ss y q) _ _ (updated_wider at ss y q) (λ r. wider_same _))

  store_wider : (i : Ident) (y : Value) (ss : List Step) (c : Core) → Wider (store_at env i y ss c) (store_at wide i y ss c)
  store_wider i y ss c = wider_step (held i.span i.text c) _ _
      (λ x. wider_bind (updated env i.span ss y x) (updated wide i.span ss y x) _ _ (updated_wider i.span ss y x) (λ z. wider_same _))

  choice_wider_layer : (k n : Meaning Core Expr Stmt) (v : WiderMeaning k n)
      (a : st.Alternative-F Alternative Catcher ElseIf Otherwise Stmt) →
      ChoiceWider (SameExpr k n v) (λ A p q. Widens k n v p q) (runs_relate k n v) (choice_layer env a) (choice_layer wide a)
  choice_wider_layer k n v (st.When ps e ss) =
      record { parts_same = refl; matches_wider = λ zs x. is_matched_wider env.limit m le (shapes_of_patterns ps) zs x }

  -- ---- nodes

  module _ (k n : Meaning Core Expr Stmt) (v : WiderMeaning k n) where
    abbrev R : Expr → Expr → Type 0
    R e f = SameExpr k n v e f

    abbrev W : (A : Type 0) → Does A → Does A → Type 0
    W A p q = Widens k n v p q

    body_widens : (span : Span) (f : Func) (c : Core) (e : Entering) → W (Option Value) (run_body env f c e) (run_body wide f c e)
    body_widens span f c e = subst (λ (r : Keeps).
        W (Option Value) (run_body env f c e) (in_frame f.name.span r (restored c) (in_order f.body e.inner)))
        (sym (result_same f.name.span (present e.params) f.result)) ((runs_relate k n v).same (run_body env f c e))

    with_widens : (span : Span) (id : ℕ) (f : Func) (ps xs : List Value) (c : Core) →
        W (Option Value) (run_with env span id f ps xs c) (run_with wide span id f ps xs c)
    with_widens span id f ps xs c = lift_widens R W (runs_relate k n v) (entering env span id f ps xs c) (entering wide span id f ps xs c) c
        (run_body env f c) (run_body wide f c) (wider_equal _ _ (entering_same span id f ps xs c)) (body_widens span f c)

    one_widens : (span : Span) (ps xs : List Value) (s : Numbered) (c : Core) →
        W (Option Value) (call_one env span ps xs s c) (call_one wide span ps xs s c)
    one_widens span ps xs s c =
        lift_widens R W (runs_relate k n v) (limit_of env span s.func.limit) (limit_of wide span s.func.limit) c
        (λ limit. unless_full span s.id c.live limit
        (lift (params_of span (outside c) s.func ps xs) c (λ qs. run_with env span s.id s.func qs xs c)) c)
        (λ limit. unless_full span s.id c.live limit
        (lift (params_of span (outside c) s.func ps xs) c (λ qs. run_with wide span s.id s.func qs xs c)) c)
        (limit_wider span s.func.limit)
        (λ limit. choose_widens R W (runs_relate k n v) (less (pos (activations s.id c.live)) limit)
        (lift (params_of span (outside c) s.func ps xs) c (λ qs. run_with env span s.id s.func qs xs c)) (Stop (Faulted D11 span) c)
        (lift (params_of span (outside c) s.func ps xs) c (λ qs. run_with wide span s.id s.func qs xs c)) (Stop (Faulted D11 span) c)
        (lift_widens R W (runs_relate k n v) (params_of span (outside c) s.func ps xs) (params_of span (outside c) s.func ps xs) c
        (λ qs. run_with env span s.id s.func qs xs c) (λ qs. run_with wide span s.id s.func qs xs c) (wider_same _)
        (λ qs. with_widens span s.id s.func qs xs c))
        ((runs_relate k n v).same (Stop (Faulted D11 span) c)))

    named_widens : (span : Span) (name : List ℕ) (ps xs : List Value) (c : Core) (r : Option Routine) →
        W (Option Value) (call_named env span name ps xs c r) (call_named wide span name ps xs c r)
    named_widens span name ps xs c (Some r) = lift_widens R W (runs_relate k n v) (routine_value env.limit span r ps xs)
        (routine_value m span r ps xs) c _ _ (routine_wider env.limit m le span r ps xs) (λ x. (runs_relate k n v).same _)
    named_widens span name ps xs c None =
        lift_widens R W (runs_relate k n v) (known span (overload env (outside c) 0 (funcs_of env.decls) name xs))
        (known span (overload wide (outside c) 0 (funcs_of env.decls) name xs)) c (λ s. call_one env span ps xs s c)
        (λ s. call_one wide span ps xs s c)
        (wider_equal _ _ (ap (known span) (overload_same (outside c) 0 (funcs_of env.decls) name xs))) (λ s. one_widens span ps xs s c)

    calls_widens : {A : Type 0} (span : Span) (name : List ℕ) (ps es : List Expr) (c : Core) (g : Option Value → Core → Does A) →
        W A (call ps es c (called env span name) g) (call ps es c (called wide span name) g)
    calls_widens span name ps es c g = call_widens R W (runs_relate k n v) ps ps es es c (called env span name) (called wide span name) g
        (all_self R W (runs_relate k n v) ps) (all_self R W (runs_relate k n v) es)
        (λ ys xs c1. named_widens span name ys xs c1 (routine_named name))

    -- each expression: those that don't ask for the limit do the same
    expr_widens : (layer : ExprLayer) (c : Core) → W Value (expr_node env layer c) (expr_node wide layer c)
    expr_widens (ex.Bits span t) c = once_widens R W (runs_relate k n v) (literal_bits env.limit span t) (literal_bits m span t) c
        (literal_wider env.limit m le span t)
    expr_widens (ex.Binary span o a b) c = operation_widens R W (runs_relate k n v) env.limit m le span o a a b b c (v.expr a) (v.expr b)
    expr_widens (ex.Call span i ps es) c = calls_widens span i.text ps es c (function_gives span)
    expr_widens (ex.Fields span a iss) c = behind_widens R W (runs_relate k n v) a a c
        (λ x. bitfields_named span iss x >>= λ fs. bitfields_of env.limit span fs x)
        (λ x. bitfields_named span iss x >>= λ fs. bitfields_of m span fs x) (v.expr a)
        (λ x. wider_step (bitfields_named span iss x) _ _ (λ fs. bitfields_wider env.limit m le span fs x))
    expr_widens (ex.Slices span a ss) c = behind_more_widens R W (runs_relate k n v) a a (exprs_in slice_parts ss) (exprs_in slice_parts ss)
        c (λ x zs. slices_of env.limit span (shapes_in slice_parts ss) zs x) (λ x zs. slices_of m span (shapes_in slice_parts ss) zs x)
        (v.expr a) (all_self R W (runs_relate k n v) (exprs_in slice_parts ss))
        (λ x zs. slices_wider env.limit m le span (shapes_in slice_parts ss) zs x)
    expr_widens (ex.As span a t) c = behind_more_widens R W (runs_relate k n v) a a ((type_parts t).exprs) ((type_parts t).exprs) c
        (λ x zs. converted env.limit span ((type_parts t).shape (types_of env)) zs x)
        (λ x zs. converted m span ((type_parts t).shape (types_of env)) zs x) (v.expr a)
        (all_self R W (runs_relate k n v) ((type_parts t).exprs))
        (λ x zs. converted_wider env.limit m le span ((type_parts t).shape (types_of env)) zs x)
    expr_widens (ex.In span a p) c = behind_more_widens R W (runs_relate k n v) a a ((pattern_parts p).exprs) ((pattern_parts p).exprs) c
        (λ x zs. matched_in env.limit ((pattern_parts p).shape) zs x) (λ x zs. matched_in m ((pattern_parts p).shape) zs x) (v.expr a)
        (all_self R W (runs_relate k n v) ((pattern_parts p).exprs))
        (λ x zs. matched_in_wider env.limit m le ((pattern_parts p).shape) zs x)
    expr_widens layer c = (runs_relate k n v).same (expr_node env layer c)

    -- ---- assignments

    abbrev Assigns : Assigning → Type 0
    Assigns t = (span : Span) (x : Value) → AssignsWider R W (runs_relate k n v) (t env span x) (t wide span x)

    abbrev AllAssign : List Assigning → Type 0
    AllAssign [] = Unit {0}
    AllAssign (t ∷ ts) = Assigns t × AllAssign ts

    abbrev Two : Stores → Stores → Type 0
    Two ss ts = StoresWider R W (runs_relate k n v) ss ts

    abbrev Both : Pure Stores → Pure Stores → Type 0
    Both r s = AssignsWider R W (runs_relate k n v) r s

    join_two : (ps qs ss ts : Stores) → Two ps qs → Two ss ts → Two (ps ++ ss) (qs ++ ts)
    join_two [] [] ss ts h i = i
    join_two [] (q ∷ qs) ss ts h i = absurd h
    join_two (p ∷ ps) [] ss ts h i = absurd h
    join_two (p ∷ ps) (q ∷ qs) ss ts h i = (h.0, (h.1.0, join_two ps qs ss ts h.1.1 i))

    then_both : (r s p q : Pure Stores) → Both r s → Both p q →
        Both (r >>= λ ps. p >>= λ qs. Good (ps ++ qs)) (s >>= λ ps. q >>= λ qs. Good (ps ++ qs))
    then_both (Good ps) (Good qs) (Good ss) (Good ts) h i = join_two ps qs ss ts h i
    then_both (Good ps) (Good qs) (Good ss) (Bad e) h i = absurd i
    then_both (Good ps) (Good qs) (Bad e) (Good ts) h i = absurd i
    then_both (Good ps) (Good qs) (Bad e) (Bad d) h i = i
    then_both (Good ps) (Bad e) p q h i = absurd h
    then_both (Bad e) (Good qs) p q h i = absurd h
    then_both (Bad e) (Bad d) p q h i = h

    each_both : (ts : List Assigning) (span : Span) (xs : List Value) → AllAssign ts →
        Both (assign_each ts env span xs) (assign_each ts wide span xs)
    each_both [] span [] a = tt
    each_both [] span (x ∷ xs) a = refl
    each_both (t ∷ ts) span [] a = refl
    each_both (t ∷ ts) span (x ∷ xs) a = then_both (t env span x) (t wide span x) (assign_each ts env span xs) (assign_each ts wide span xs)
        (a.0 span x) (each_both ts span xs a.1)

    parts_both : (r : Pure (List Value)) (f g : List Value → Pure Stores) → ((xs : List Value) → Both (f xs) (g xs)) →
        Both (r >>= f) (r >>= g)
    parts_both (Good xs) f g h = h xs
    parts_both (Bad e) f g h = refl

    TargetGood : Target → Type 0
    TargetGood t = Assigns (assigned t)

    abbrev Below : Type 0
    Below = tg.Target-F ((t : Target) × TargetGood t)

    targets_assign : (ts : List ((t : Target) × TargetGood t)) → AllAssign (map assigned (map (λ t. t.0) ts))
    unfolding TargetGood
    targets_assign [] = tt
    targets_assign (t ∷ ts) = (t.1, targets_assign ts)

    layer_assigns : (y : Below) → Assigns (assigning_layer
        (map-Target Target Assigning assigned (map-Target ((t : Target) × TargetGood t) Target (λ t. t.0) y)))
    layer_assigns (tg.Discarded at) span x = tt
    layer_assigns (tg.Place at i xs) span x = (refl, ((λ ns c. store_wider i x ns c), tt))
    layer_assigns (tg.Targets at ts) span x =
        parts_both (parts span x) (λ xs. assign_each (map assigned (map (λ t. t.0) ts)) env span xs)
        (λ xs. assign_each (map assigned (map (λ t. t.0) ts)) wide span xs)
        (λ xs. each_both (map assigned (map (λ t. t.0) ts)) span xs (targets_assign ts))

    target_step : (l : tg.Target-F Target) (y : Below) → map-Target ((t : Target) × TargetGood t) Target (λ t. t.0) y ≡ l →
        TargetGood (roll-Target l)
    unfolding TargetGood
    target_step l y is span x =
        subst (λ (z : Assigning). Both (z env span x) (z wide span x)) (sym (fold-roll-Target Assigning assigning_layer l))
        (subst (λ z. Both (assigning_layer (map-Target Target Assigning assigned z) env span x)
        (assigning_layer (map-Target Target Assigning assigned z) wide span x)) is (layer_assigns y span x))

    target_good : (t : Target) → TargetGood t
    target_good = ind-Target TargetGood target_step

    assigns : (t : Target) → Assigns (assigned t)
    unfolding TargetGood
    assigns t = target_good t

    -- each statement: those that don't ask for the limit do the same
    stmt_widens : (layer : StmtLayer) (c : Core) → W Exit (stmt_node env layer c) (stmt_node wide layer c)
    stmt_widens (st.Local span kind b t e) c = value_widens R W (runs_relate k n v) e (bound_to env span b (is_var kind) t)
        (bound_to wide span b (is_var kind) t) c (λ x c1. bound_wider span b (is_var kind) t x c1)
    stmt_widens (st.LocalVars span iss t) c = values_widens R W (runs_relate k n v) (sizes_in t) (declare_first env span iss t)
        (declare_first wide span iss t) c (λ xs c1. first_wider span iss t xs c1)
    stmt_widens (st.Assign span t e) c = assignment_widens R W (runs_relate k n v) e (assigned t env span) (assigned t wide span) c
        (λ x. assigns t span x)
    stmt_widens (st.Invoke span i ps es) c = calls_widens span i.text ps es c (procedure_gives span)
    stmt_widens (st.Case span e alts o) c = case_widens R W (runs_relate k n v) frames (choice_in env) (choice_in wide) span e alts
        (otherwise_in o) c (λ a. choice_wider_layer k n v (out-Alternative a))
    stmt_widens layer c = (runs_relate k n v).same (stmt_node env layer c)

  pub meanings_wider : (d : ℕ) → WiderMeaning (meaning env d) (meaning wide d)
  meanings_wider zero = record {
    expr = λ e c h. enter_wider (expr_span e) true c h (λ h1. Halt (Faulted D12 (expr_span e)) c h1)
        (λ h1. Halt (Faulted D12 (expr_span e)) c h1) (λ h1. out_same _);
    stmt = λ t c h. enter_wider (stmt_span t) true c h (λ h1. Halt (Faulted D12 (stmt_span t)) c h1)
        (λ h1. Halt (Faulted D12 (stmt_span t)) c h1) (λ h1. out_same _);
  }
  meanings_wider (suc d) = record {
    expr = λ e c h. enter_wider (expr_span e) false c h (run (meaning env d) (expr_node env (out-Expr e) c))
        (run (meaning wide d) (expr_node wide (out-Expr e) c))
        (λ h1. (expr_widens (meaning env d) (meaning wide d) (meanings_wider d) (out-Expr e) c).runs h1);
    stmt = λ t c h. enter_wider (stmt_span t) false c h (run (meaning env d) (stmt_node env (out-Stmt t) c))
        (run (meaning wide d) (stmt_node wide (out-Stmt t) c))
        (λ h1. (stmt_widens (meaning env d) (meaning wide d) (meanings_wider d) (out-Stmt t) c).runs h1);
  }

  -- ---- calls from outside

  pub run_wider : (id : ℕ) (args : List Value) (globals : List Binding) (h : Meter) →
      OutWider (run_of env id args globals h) (run_of wide id args globals h)
  unfolding run_of
  run_wider id args globals h =
      let k = meaning env most_open in
      let n = meaning wide most_open in
      let v = meanings_wider most_open in
      let f = known origin (slice_get (funcs_of env.decls) id) in
      let c = resting globals in
      (lift_widens (SameExpr k n v) (λ A p q. Widens k n v p q) (runs_relate k n v) f f c (λ g. run_with env g.name.span id g [] args c)
      (λ g. run_with wide g.name.span id g [] args c) (wider_same _) (λ g. with_widens k n v g.name.span id g [] args c)).runs h

  -- ---- words

  abbrev pub NarrowWords : WordsEnd → Type 0
  NarrowWords (AllReturned globals h) = ⊥
  NarrowWords (WordThrew x globals h) = ⊥
  NarrowWords (WordHalted e globals h) = IsNarrow e

  behind_narrow : (r : Outcome Core (Option Value)) (f : List Binding → Meter → WordsEnd) → NarrowEnd r → NarrowWords (behind_word f r)
  behind_narrow (Done x c h) f n = absurd n
  behind_narrow (Thrown x c h) f n = absurd n
  behind_narrow (Halt e c h) f n = n

  abbrev pub WordsWider : WordsEnd → WordsEnd → Type 0
  WordsWider r s = (s ≡ r) ⊎ NarrowWords r

  one_behind : (r : Outcome Core (Option Value)) (f g : List Binding → Meter → WordsEnd) →
      ((globals : List Binding) (h : Meter) → WordsWider (f globals h) (g globals h)) → WordsWider (behind_word f r) (behind_word g r)
  one_behind (Done x c h) f g w = w c.globals h
  one_behind (Thrown x c h) f g w = inl refl
  one_behind (Halt e c h) f g w = inl refl

  behind_wider : (r s : Outcome Core (Option Value)) (f g : List Binding → Meter → WordsEnd) → OutWider r s →
      ((globals : List Binding) (h : Meter) → WordsWider (f globals h) (g globals h)) → WordsWider (behind_word f r) (behind_word g s)
  unfolding OutWider
  behind_wider r s f g (inl e) w = subst (λ z. WordsWider (behind_word f r) (behind_word g z)) (sym e) (one_behind r f g w)
  behind_wider r s f g (inr i) w = inr (behind_narrow r f i)

  word_wider : (o : Option ℕ) (w : Word) (globals : List Binding) (h : Meter) →
      OutWider (run_word env o w globals h) (run_word wide o w globals h)
  unfolding OutWider
  word_wider None w globals h = inl refl
  word_wider (Some id) w globals h = run_wider id (word_value w ∷ []) globals h

  pub words_wider : (es : Entries) (words : List Word) (globals : List Binding) (h : Meter) →
      WordsWider (run_words env es words globals h) (run_words wide es words globals h)
  words_wider es [] globals h = inl refl
  words_wider es (w ∷ ws) globals h =
      let begun = wrote h (word_line h.text_open w) in
      let o = entry_for es w in
      behind_wider (run_word env o w globals begun) (run_word wide o w globals begun)
      (run_words env es ws) (run_words wide es ws) (word_wider o w globals begun) (words_wider es ws)

words_fit_not : (env : Environment) (m : ℕ) (le : env.limit ≤ m) (r : WordsEnd) → WordsFitLimit r → NarrowWords env m le r → ⊥
words_fit_not env m le (AllReturned globals h) f n = n
words_fit_not env m le (WordThrew x globals h) f n = n
words_fit_not env m le (WordHalted e globals h) f n = f n

pub words_fit : (env : Environment) (m : ℕ) (le : env.limit ≤ m) (r s : WordsEnd) → WordsWider env m le r s → WordsFitLimit r → s ≡ r
words_fit env m le r s (inl e) f = e
words_fit env m le r s (inr n) f = absurd (words_fit_not env m le r f n)
