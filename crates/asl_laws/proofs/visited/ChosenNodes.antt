-- At each expression that has a type, and at each statement, what a run finds by names and by values is what the typed tree has.
use Rattle.std.proofs.Common.{◌≡◌, inl, inr, Bool, List, [], Some, Ok, refl, sym, ap, ◌∙◌, map}
use Rattle.asl_syn.specs.declared.token.Span.{Span}
use Rattle.asl_syn.specs.declared.code.StaticCode.TheVariants.{T15, T20}
use Rattle.asl_syn.specs.declared.tree.Ident.{Ident}
use Rattle.asl_syn.specs.declared.tree.Expr.{Expr, out-Expr}
use Rattle.asl_syn.specs.declared.tree.FieldValue.{FieldValue}
use Rattle.asl_syn.specs.declared.tree.Stmt.{Stmt, out-Stmt}
use Rattle.asl_syn.specs.declared.tree.Bitfield.TheOpen as ex
use Rattle.asl_syn.specs.declared.tree.Alternative.TheOpen as st
use Rattle.asl_syn.specs.declared.tree.Decl.{Decl}
use Rattle.asl_syn.specs.Layers.{ExprLayer, StmtLayer}
use Rattle.asl_poly.specs.WidthLimits.{heaviest}
use Rattle.asl_rules.specs.Faults.{need}
use Rattle.asl_rules.specs.Tests.{Tests, IsRight}
use Rattle.asl_rules.specs.types.Types.{Ty, bits_wide, is_bits, view_of}
use Rattle.asl_rules.specs.types.Shaped.{exprs_in, shapes_in, given_parts}
use Rattle.asl_rules.specs.declarations.Scopes.{Entry, Signature}
use Rattle.asl_rules.specs.declarations.Programs.{funcs_of, Head, signatures_rule, signatures, bodies_rule}
use Rattle.asl_rules.specs.private.Belonging.{InType}
use Rattle.asl_rules.specs.private.Agreement.{types_in, Agrees}
use Rattle.asl_rules.specs.private.TypedMeaning.{tree_meaning}
use Rattle.asl_rules.specs.private.ByPlace as places
use Rattle.asl_rules.specs.private.Erasure.{erased}
use Rattle.asl_rules.specs.runs.Trees as tree
use Rattle.asl_rules.specs.runs.Trees.{Note, Tree, TreeFunc}
use Rattle.asl_rules.specs.runs.States.{Core}
use Rattle.asl_rules.specs.runs.Plans.{Outcome, Done, Thrown, Halt, Ret, run, Good}
use Rattle.asl_rules.specs.runs.Forms.{eval_all}
use Rattle.asl_rules.specs.runs.ByNames.{types_among}
use Rattle.asl_rules.specs.runs.Evaluation.{meaning}
use Rattle.asl_rules.specs.values.Values.{Value}
use Rattle.asl_rules.specs.values.Structures as runs
use Rattle.asl_rules.specs.values.Members.{Member, a_field, a_bitfield, member_of, member_type, member_tree, member_named, bitfields_in, all_wide, bitfields_named as named_in_type}
use Rattle.asl_rules.specs.expressions.Typing.{Found, Typed, in_class, note, trees_in, trees_of}
use Rattle.asl_rules.specs.expressions.Exprs.{found, typed, typed_rule, field_rule, bitfields_rule, construct_rule}
use Rattle.asl_rules.specs.statements.Acting.{FoundStmt, FoundOtherwise}
use Rattle.asl_rules.specs.statements.Stmts.{found_stmt, alternative_found, catcher_found, branch_found, otherwise_found, stmt_layer_rule}
use Rattle.asl_rules.proofs.basics.Inversions.{ok_ok, bind_ok, then_ok, need_ok}
use Rattle.asl_rules.proofs.basics.Opening.{opened, unrolled, found_field, in_class_is}
use Rattle.asl_rules.proofs.scopes.Naming.{WellNamed, well_declared}
use Rattle.asl_laws.specs.Soundness.{GivesType}
use Rattle.asl_laws.specs.Chosen.{Gave, OfValue, HasFieldAt, HasBitfield, ExprChosen, StmtChosen}
use Rattle.asl_laws.proofs.scopes.WellTyped.{FormedSubs}
use Rattle.asl_laws.proofs.scopes.NamesOutside.{NamesOutside}
use Rattle.asl_laws.proofs.constants.KnownTypes.{over_names}
use Rattle.asl_laws.proofs.expressions.Twins.{twins_run}
use Rattle.asl_laws.proofs.expressions.Claims.{Here, StmtClaim, At, our}
use Rattle.asl_laws.proofs.expressions.TreePlans.{Same, Throws, asked_of, all_same}
use Rattle.asl_laws.proofs.expressions.ConstructForms.{constructs, given_asked}
use Rattle.asl_laws.proofs.expressions.ExprForms.{program}
use Rattle.asl_laws.proofs.expressions.MemberNamed.{member_ok}
use Rattle.asl_laws.proofs.expressions.AllExprs.{Others, good}
use Rattle.asl_laws.proofs.statements.StmtForms.{here}
use Rattle.asl_laws.proofs.statements.AllStmts.{OtherStmts, all_meet, opened as stmt_opened}
use Rattle.asl_laws.proofs.soundness.GivenTypes.{typed_run}
use Rattle.asl_laws.proofs.calls.OwnFound.{gave, function_finds, procedure_finds}
use Rattle.asl_laws.proofs.visited.FoundMembers.{field_found, bitfield_found, bitfields_found, given_by_name}
use Rattle.asl_rules.specs.values.Vectors.{bitfields_named as named_in_value}
use Rattle.std.specs.Prelude.{nat_le}
use Rattle.asl_syn.specs.declared.tree.Alternative.TheFolds.{fold_out-Stmt}
use Rattle.asl_rules.specs.statements.Branches.{FoundAlternative, FoundCatcher, FoundBranch}
use Rattle.asl_laws.proofs.visited.ChosenPlaces.{assign_finds}

-- what is so of each value of a type is so of what an expression of the type gave
typed_gave : (base names : List Entry) (a : _) (T : Ty) (P : Value → Type 0) (r : Outcome Core Value) → ((x : Value) → InType (types_in base) a x T → P x) → GivesType base names a T r → Gave (λ x c. P x) r
typed_gave base names a T P (Done x c h) f g = f x g.0
typed_gave base names a T P (Thrown x c h) f g = tt
typed_gave base names a T P (Halt e c h) f g = tt

module _ (tests : Tests) (right : IsRight tests) (ds : List Decl) (base : List Entry) (out : NamesOutside base) (loose : Bool) (heads : List Head) (trees : List TreeFunc) (w : WellNamed base) (s : FormedSubs tests right (types_in base) (well_declared base w) (signatures heads))
    (heads_are : signatures_rule tests base (funcs_of ds) ≡ Ok heads) (bodies : bodies_rule tests (signatures heads) heads ≡ Ok trees) where
  abbrev subs : List Signature
  subs = signatures heads

  module _ (o : Others tests right ds base subs loose trees w s) (q : OtherStmts tests right ds base subs loose trees w) where
    of_value : (H : Here) (e : Expr) (T : Typed) (c : Core) (P : Value → Type 0) → typed tests e H.scope ≡ Ok T → At tests base subs loose H c → ((x : Value) → InType (types_in base) H.present x T.ty → P x) → OfValue (over_names tests ds base) e c P
    of_value H e T c P t a f d h = typed_gave base H.scope.names H.present T.ty P _ f (typed_run tests right ds base subs loose trees w s o q d e H T c h t a).1

    -- ---- members

    field_by : (H : Here) (S : Typed) (span : Span) (e : Expr) (i : Ident) (c : Core) (T : Typed) (m : Member) → typed tests e H.scope ≡ Ok T → member_of T.ty i.text ≡ Some m → in_class H.scope.class span T.effect (member_type m) (member_tree T.tree m) ≡ Ok S → At tests base subs loose H c → ExprChosen (over_names tests ds base) (ex.Field span e i) S.tree c
    field_by H S span e i c T (a_field n U) t k h a =
        inl (note span U T.effect, T.tree, n, ap (λ (z : Typed). z.tree) (sym (in_class_is H.scope.class span T.effect U (λ y. tree.Field y T.tree n) S h)), of_value H e T c (HasFieldAt i.text n) t a (λ x v. field_found H.present T.ty i.text n U x k v.0))
    field_by H S span e i c T (a_bitfield f) t k h a =
        inr (
          note span (member_type (a_bitfield f)) T.effect,
          T.tree,
          f,
          ap (λ (z : Typed). z.tree) (sym (in_class_is H.scope.class span T.effect (member_type (a_bitfield f)) (λ y. tree.Bitfield y T.tree f) S h)),
          of_value H e T c (HasBitfield i.text f) t a (λ x v. bitfield_found H.present (types_in base) T.ty i.text f x k v),
        )

    field_chosen : (H : Here) (S : Typed) (span : Span) (e : Expr) (i : Ident) (c : Core) → field_rule span (found tests e) i H.scope ≡ Ok S → At tests base subs loose H c → ExprChosen (over_names tests ds base) (ex.Field span e i) S.tree c
    field_chosen H S span e i c h a =
        let t = bind_ok (typed tests e H.scope) _ S h in
        let m = bind_ok (member_named i t.value.ty) _ S t.then in
        field_by H S span e i c t.value m.value t.first (member_ok i t.value.ty m.value m.first) m.then a

    bitfields_chosen : (H : Here) (S : Typed) (span : Span) (e : Expr) (is : List Ident) (c : Core) → bitfields_rule span (found tests e) is H.scope ≡ Ok S → At tests base subs loose H c → ExprChosen (over_names tests ds base) (ex.Fields span e is) S.tree c
    bitfields_chosen H S span e is c h a =
        let t = bind_ok (typed tests e H.scope) _ S h in
        let n = bind_ok (named_in_type span is t.value.ty) _ S t.then in
        let f = bind_ok (bitfields_in is (view_of t.value.ty)) _ n.value n.first in
        let k = then_ok (need (is_bits t.value.ty) T15 span) _ n.value f.then in
        let l = then_ok (need (nat_le (all_wide f.value) heaviest) T20 span) (Ok f.value) n.value k.then in
        let same : f.value ≡ n.value = ok_ok f.value n.value l.then in
        let make : Note → Tree = λ j. tree.Bitfields j t.value.tree n.value in (
          note span (bits_wide (all_wide n.value)) t.value.effect,
          t.value.tree,
          n.value,
          ap (λ (z : Typed). z.tree) (sym (in_class_is H.scope.class span t.value.effect (bits_wide (all_wide n.value)) make S n.then)),
          of_value H e t.value c (λ x. named_in_value span is x ≡ Good n.value) t.first a
              (λ x v. bitfields_found (types_in base) (well_declared base w) H.present tests right span is t.value.ty n.value x (f.first ∙ ap Ok same) (need_ok (is_bits t.value.ty) T15 span tt k.first) v),
        )

    -- ---- constructions

    construct_chosen : (H : Here) (S : Typed) (span : Span) (i : Ident) (fs : List FieldValue) (c : Core) → construct_rule tests span i (map (found_field tests) fs) H.scope ≡ Ok S → At tests base subs loose H c → ExprChosen (over_names tests ds base) (ex.Construct span i fs) S.tree c
    construct_chosen H S span i fs c h a =
        let k = constructs tests right ds base subs loose trees w H S span i fs c (good tests right ds base subs loose trees w s H c a) h a in
        let by_name = runs.constructed span (types_among base i.text) (shapes_in given_parts fs) in
        let by_place = places.constructed span k.made_of.shell k.fields_given in
        let P : List Value → Type 0 = λ xs. by_name xs ≡ by_place xs in
        let Q : List Value → List Value → Core → Type 0 = λ xs ys c1. P xs in
        let es = exprs_in given_parts fs in
        let ts = trees_in k.operands_are in
        let both : Same tests right base subs loose H Q (eval_all es [] c (λ xs c1. Ret xs c1)) (eval_all ts [] (erased c) (λ xs d1. Ret xs d1)) =
        all_same tests right base subs loose H Q es ts (asked_of tests right base subs loose k.operands_are) [] c (λ xs c1. Ret xs c1) (λ xs d1. Ret xs d1) (given_asked tests right ds base subs loose trees w H.scope fs k.operands_are k.ops) a (λ xs c1 g a1. (refl, (k.both xs g).0)) in (
          note span k.made_of.ty k.class,
          k.made_of.shell,
          k.fields_given,
          trees_of k.operands_are,
          ap (λ (z : Typed). z.tree) (sym k.ends),
          given_by_name k.made_of.fields (shapes_in given_parts fs) k.fields_given k.placed,
          λ d m. gave (our tests base subs loose).halted (λ xs c1. P xs) Q (Throws tests right base subs loose H)
              (run (meaning (over_names tests ds base) d) (eval_all es [] c (λ xs c1. Ret xs c1)) m) (run (tree_meaning (program tests right ds base subs loose trees w) d) (eval_all ts [] (erased c) (λ xs d1. Ret xs d1)) m) (λ xs ys c1 g. g)
              (twins_run (our tests base subs loose) (meaning (over_names tests ds base) d) (tree_meaning (program tests right ds base subs loose trees w) d) (all_meet tests right ds base subs loose trees w s o q d) Q (Throws tests right base subs loose H) (eval_all es [] c (λ xs c1. Ret xs c1)) (eval_all ts [] (erased c) (λ xs d1. Ret xs d1)) m both),
        )

    -- ---- all forms

    layer_chosen : (H : Here) (S : Typed) (layer : ExprLayer) (c : Core) → typed_rule tests (opened tests layer) H.scope ≡ Ok S → At tests base subs loose H c → ExprChosen (over_names tests ds base) layer S.tree c
    layer_chosen H S (ex.Int span n) c h a = tt
    layer_chosen H S (ex.Bits span text) c h a = tt
    layer_chosen H S (ex.Bool span b) c h a = tt
    layer_chosen H S (ex.Name span name) c h a = tt
    layer_chosen H S (ex.Unary span u e) c h a = tt
    layer_chosen H S (ex.Binary span b e f) c h a = tt
    layer_chosen H S (ex.Conditional span e f g) c h a = tt
    layer_chosen H S (ex.Tuple span es) c h a = tt
    layer_chosen H S (ex.Construct span i fs) c h a = construct_chosen H S span i fs c h a
    layer_chosen H S (ex.Call span i ps es) c h a = function_finds tests right ds base out loose heads trees w s heads_are bodies (all_meet tests right ds base subs loose trees w s o q) H S span i ps es c h a
    layer_chosen H S (ex.Field span e i) c h a = field_chosen H S span e i c h a
    layer_chosen H S (ex.Fields span e is) c h a = bitfields_chosen H S span e is c h a
    layer_chosen H S (ex.Slices span e ss) c h a = tt
    layer_chosen H S (ex.Element span e i) c h a = tt
    layer_chosen H S (ex.As span e ty) c h a = tt
    layer_chosen H S (ex.In span e p) c h a = tt

    pub expr_chosen : (H : Here) (S : Typed) (e : Expr) (c : Core) → typed tests e H.scope ≡ Ok S → At tests base subs loose H c → ExprChosen (over_names tests ds base) (out-Expr e) S.tree c
    expr_chosen H S e c h a = layer_chosen H S (out-Expr e) c (sym (ap (λ (f : Found). f.typed H.scope) (unrolled tests e)) ∙ h) a

    stmt_layer_chosen : (j : StmtClaim) (layer : StmtLayer) (c : Core) → stmt_layer_rule tests (stmt_opened tests layer) j.body ≡ Ok j.done → At tests base subs loose (here tests right ds base subs loose trees w j) c → StmtChosen (over_names tests ds base) (Agrees base j.body.scope.names j.present) layer j.done.act c
    stmt_layer_chosen j (st.Pass span) c h a = tt
    stmt_layer_chosen j (st.Unreachable span) c h a = tt
    stmt_layer_chosen j (st.Assert span e) c h a = tt
    stmt_layer_chosen j (st.Local span kind b ty e) c h a = tt
    stmt_layer_chosen j (st.LocalVars span is ty) c h a = tt
    stmt_layer_chosen j (st.Assign span x e) c h a = assign_finds tests right ds base subs loose trees w j.present j.body.scope span x e j.done c h
    stmt_layer_chosen j (st.Invoke span i ps es) c h a = procedure_finds tests right ds base out loose heads trees w s heads_are bodies (all_meet tests right ds base subs loose trees w s o q) j span i ps es c h a
    stmt_layer_chosen j (st.If span e ss es last) c h a = tt
    stmt_layer_chosen j (st.Case span e alts last) c h a = tt
    stmt_layer_chosen j (st.For span i e d f limit ss) c h a = tt
    stmt_layer_chosen j (st.While span e limit ss) c h a = tt
    stmt_layer_chosen j (st.Repeat span ss e limit) c h a = tt
    stmt_layer_chosen j (st.Return span e) c h a = tt
    stmt_layer_chosen j (st.Throw span e) c h a = tt
    stmt_layer_chosen j (st.Try span ss cs last) c h a = tt
    stmt_layer_chosen j (st.Print span kind is) c h a = tt

    pub stmt_chosen : (j : StmtClaim) (x : Stmt) (c : Core) → found_stmt tests x j.body ≡ Ok j.done → At tests base subs loose (here tests right ds base subs loose trees w j) c → StmtChosen (over_names tests ds base) (Agrees base j.body.scope.names j.present) (out-Stmt x) j.done.act c
    stmt_chosen j x c h a =
        let u : found_stmt tests x ≡ stmt_layer_rule tests (stmt_opened tests (out-Stmt x)) = fold_out-Stmt FoundAlternative FoundCatcher FoundBranch FoundOtherwise FoundStmt alternative_found catcher_found branch_found otherwise_found (stmt_layer_rule tests) x in
        stmt_layer_chosen j (out-Stmt x) c (sym (ap (λ (f : FoundStmt). f j.body) u) ∙ h) a
