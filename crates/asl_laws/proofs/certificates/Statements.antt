-- Where a statement's rule gives something, all lines inside the statement go well; and statements in order go well exactly where their
-- rules do.
use Rattle.std.proofs.Common.{◌≡◌, ℕ, suc, false, List, [], ◌∷◌, ◌++◌, map, Option, Some, None, Result, Ok, Err, refl, sym, ap, ◌∙◌, subst}
use Rattle.asl_syn.specs.declared.code.Fault.{Fault}
use Rattle.asl_syn.specs.declared.token.Span.{Span}
use Rattle.asl_syn.specs.declared.tree.Expr.{Expr}
use Rattle.asl_syn.specs.declared.tree.Ident.{Ident}
use Rattle.asl_syn.specs.declared.tree.Pattern.{Pattern}
use Rattle.asl_syn.specs.declared.tree.Slice.{Slice}
use Rattle.asl_syn.specs.declared.tree.TypeExpr.{TypeExpr}
use Rattle.asl_syn.specs.declared.tree.PlacedSuffix.{PlacedSuffix}
use Rattle.asl_syn.specs.declared.tree.Suffix.{Suffix}
use Rattle.asl_syn.specs.declared.tree.Suffix.TheVariants.{FieldOf, FieldsOf, SlicesOf, ElementOf}
use Rattle.asl_syn.specs.declared.tree.Target.{Target, roll-Target, fold-roll-Target, map-Target, ind-Target}
use Rattle.asl_syn.specs.declared.tree.Target.TheOpen as tg
use Rattle.asl_syn.specs.declared.tree.PrintItem.{PrintItem}
use Rattle.asl_syn.specs.declared.tree.PrintItem.TheVariants.{Verbatim, Shown}
use Rattle.asl_syn.specs.declared.tree.Alternative.{Alternative, roll-Alternative}
use Rattle.asl_syn.specs.declared.tree.Catcher.{Catcher, roll-Catcher}
use Rattle.asl_syn.specs.declared.tree.ElseIf.{ElseIf, roll-ElseIf}
use Rattle.asl_syn.specs.declared.tree.Otherwise.{Otherwise, roll-Otherwise}
use Rattle.asl_syn.specs.declared.tree.Stmt.{Stmt, roll-Stmt}
use Rattle.asl_syn.specs.declared.tree.Alternative.TheOpen as st
use Rattle.asl_syn.specs.declared.tree.Alternative.TheFolds.{fold-Alternative, fold-Catcher, fold-ElseIf, fold-Otherwise}
use Rattle.asl_syn.specs.declared.tree.Alternative.TheFolds.{fold-roll-Alternative, fold-roll-Catcher, fold-roll-ElseIf}
use Rattle.asl_syn.specs.declared.tree.Alternative.TheFolds.{fold-roll-Otherwise, fold-roll-Stmt, para-Alternative, para-Catcher}
use Rattle.asl_syn.specs.declared.tree.Alternative.TheFolds.{para-ElseIf, para-Otherwise, para-roll-Alternative, para-roll-Catcher}
use Rattle.asl_syn.specs.declared.tree.Alternative.TheFolds.{para-roll-ElseIf, para-roll-Otherwise, para-roll-Stmt, map-Alternative}
use Rattle.asl_syn.specs.declared.tree.Alternative.TheFolds.{map-Catcher, map-ElseIf, map-Otherwise, map-Stmt, ind-Stmt}
use Rattle.asl_syn.specs.declared.code.StaticCode.TheVariants.{T02, T21}
use Rattle.asl_rules.specs.declared.effect.Effect.{Effect}
use Rattle.asl_rules.specs.declared.effect.Effect.TheVariants.{Pure}
use Rattle.asl_rules.specs.Faults.{◌>>=◌, ◌>>◌, need, found_or}
use Rattle.asl_rules.specs.Tests.{Tests}
use Rattle.asl_rules.specs.types.Types.{Ty}
use Rattle.asl_rules.specs.types.Effects.{greater}
use Rattle.asl_rules.specs.declarations.Scopes.{Scope, Body, Entry, body_names, handling, with_class, type_of_name}
use Rattle.asl_rules.specs.expressions.Typing.{Typed, Operand, operands}
use Rattle.asl_rules.specs.expressions.Slicing.{all_operands}
use Rattle.asl_rules.specs.expressions.Patterns.{Matched}
use Rattle.asl_rules.specs.expressions.Calls.{call_begun, procedure_rule}
use Rattle.asl_rules.specs.expressions.Exprs.{found, found_slice, typed, written, matches}
use Rattle.asl_rules.specs.statements.Acting.{Done, FoundStmt, FoundOtherwise, Listed, LastListed, act_first, in_order, block, last_block}
use Rattle.asl_rules.specs.statements.Acting.{operand_of, reading_scope}
use Rattle.asl_rules.specs.statements.Locals.{Initialised, initialised}
use Rattle.asl_rules.specs.statements.Targets.{FoundTarget, TypedSuffix, TypedPlace, found_slices, typed_suffix, typed_suffixes, up_to}
use Rattle.asl_rules.specs.statements.Targets.{all_places, target_layer, found_target}
use Rattle.asl_rules.specs.statements.Branches.{FoundBranch, FoundAlternative, FoundCatcher, TypedBranch, TypedAlternative, TypedCatcher}
use Rattle.asl_rules.specs.statements.Branches.{branch_rule, branches, all_patterns, where_rule, alternative_rule, alternatives}
use Rattle.asl_rules.specs.statements.Branches.{limit_typed, index_rule, index_type, with_index, is_exception, with_caught, catcher_rule}
use Rattle.asl_rules.specs.statements.Branches.{catchers}
use Rattle.asl_rules.specs.statements.Stmts.{Printed, items_rule, stmt_layer_rule, alternative_found, catcher_found, branch_found}
use Rattle.asl_rules.specs.statements.Stmts.{otherwise_found, found_stmt}
use Rattle.asl_rules.proofs.basics.Inversions.{bind_ok, then_ok}
use Rattle.asl_laws.specs.certificates.Texts.{Place, of_stmt, Line}
use Rattle.asl_laws.specs.certificates.Lines as lines
use Rattle.asl_laws.specs.certificates.Lines.{Lined, Failure, after, ◌into◌, ◌and◌, of_typed, of_done, Site, Sites, site_scope, joined}
use Rattle.asl_laws.specs.certificates.Lines.{expr_sites, pattern_sites, slice_sites, maybe_sites, all_sites, patterns_sites}
use Rattle.asl_laws.specs.certificates.Lines.{sites_of_suffix, suffix_sites, target_sites, item_sites, site_lines, Places, first_of, Inside}
use Rattle.asl_laws.specs.certificates.Lines.{StmtIn, list_places, stmt_node, stmt_lines, list_lines, unless_fault, sites_at, limit_lines}
use Rattle.asl_laws.specs.certificates.Lines.{all_inside, index_found, caught_in, Catching, all_catching, InsideLast, stmt_inside}
use Rattle.asl_laws.specs.certificates.Lines.{alternative_inside, catcher_inside, branch_inside, otherwise_inside, inside_stmt, with_inside}
use Rattle.asl_laws.proofs.certificates.Lines.{ok_is, err_isnt}
use Rattle.asl_laws.proofs.certificates.Sites.{Goes, AllGo, all_append, expr_sites_go, pattern_sites_go, slice_sites_go}

-- ---- what comes of lines

pub into_goes : {A B : Type 0} (l : Lined A) (go : A → Lined B) (x : A) (y : B) → l.outcome ≡ Ok x → (go x).outcome ≡ Ok y →
    (l into go).outcome ≡ Ok y
into_goes l go x y h k = ap (λ o. (after l.lines o go).outcome) h ∙ k

pub and_goes : {B : Type 0} (l : Lined (Unit {0})) (m : Lined B) (y : B) → l.outcome ≡ Ok tt → m.outcome ≡ Ok y → (l and m).outcome ≡ Ok y
and_goes l m y h k = into_goes l (λ _. m) tt y h k

pub record Into {A B : Type 0} (o : Result A Failure) (go : A → Lined B) (y : B) : Type 0 where
  pub value : A
  pub first : o ≡ Ok value
  pub then : (go value).outcome ≡ Ok y

after_ok : {A B : Type 0} (ls : List Line) (o : Result A Failure) (go : A → Lined B) (y : B) → (after ls o go).outcome ≡ Ok y → Into o go y
after_ok ls (Ok x) go y h = record { value = x; first = refl; then = h }
after_ok ls (Err f) go y h = err_isnt f y h

pub into_ok : {A B : Type 0} (l : Lined A) (go : A → Lined B) (y : B) → (l into go).outcome ≡ Ok y → Into l.outcome go y
into_ok l go y h = after_ok l.lines l.outcome go y h

module _ (t : Tests) where
  -- ---- expressions

  typed_ok : (e : Expr) (G : Scope) (r : Result Typed Fault) → (of_typed t e G r).outcome ≡ Ok tt → (S : Typed) × (r ≡ Ok S)
  typed_ok e G (Ok S) h = (S, refl)
  typed_ok e G (Err f) h = err_isnt _ tt h

  pub sites_go : (ss : Sites) (G : Scope) → AllGo t G ss → (site_lines t ss G).outcome ≡ Ok tt
  sites_go [] G g = refl
  sites_go (s ∷ ss) G g = and_goes (lines.expr_node t s.expr (site_scope s G)) (site_lines t ss G) tt
      (ap (λ r. (of_typed t s.expr (site_scope s G) r).outcome) g.0.is) (sites_go ss G g.1)

  pub sites_ok : (ss : Sites) (G : Scope) → (site_lines t ss G).outcome ≡ Ok tt → AllGo t G ss
  sites_ok [] G h = tt
  sites_ok (s ∷ ss) G h =
      let a = into_ok (lines.expr_node t s.expr (site_scope s G)) (λ _. site_lines t ss G) tt h in
      let b = typed_ok s.expr (site_scope s G) (typed t s.expr (site_scope s G)) a.first in
      (record { gives = b.0; is = b.1 }, sites_ok ss G a.then)

  operand_go : (e : Expr) (G : Scope) (o : Operand) → operand_of t e G ≡ Ok o → AllGo t G (expr_sites e)
  operand_go e G o h = let a = bind_ok (typed t e G) _ o h in expr_sites_go t e G a.value a.first

  operands_go : (es : List Expr) (G : Scope) (os : List Operand) → operands (map (found t) es) G ≡ Ok os → AllGo t G (all_sites es)
  operands_go [] G os h = tt
  operands_go (e ∷ es) G os h =
      let a = bind_ok (typed t e G) _ os h in
      let b = bind_ok (operands (map (found t) es) G) _ os a.then in
      all_append (Goes t G) (expr_sites e) _ (expr_sites_go t e G a.value a.first) (operands_go es G b.value b.first)

  items_go : (is : List PrintItem) (G : Scope) (p : Printed) → items_rule t is G ≡ Ok p → AllGo t G (joined (map item_sites is))
  items_go [] G p h = tt
  items_go (Verbatim span text ∷ is) G p h = let b = bind_ok (items_rule t is G) _ p h in items_go is G b.value b.first
  items_go (Shown e ∷ is) G p h =
      let a = bind_ok (typed t e G) _ p h in
      let b = bind_ok (items_rule t is G) _ p a.then in
      all_append (Goes t G) (expr_sites e) _ (expr_sites_go t e G a.value a.first) (items_go is G b.value b.first)

  patterns_go : (ps : List Pattern) (T : Ty) (G : Scope) (ms : List Matched) → all_patterns t ps T G ≡ Ok ms → AllGo t G (patterns_sites ps)
  patterns_go [] T G ms h = tt
  patterns_go (p ∷ ps) T G ms h =
      let a = bind_ok (matches t p T G) _ ms h in
      let b = bind_ok (all_patterns t ps T G) _ ms a.then in
      all_append (Goes t G) (pattern_sites p) _ (pattern_sites_go t p T G a.value a.first) (patterns_go ps T G b.value b.first)

  initialised_go : (ty : Option TypeExpr) (e : Expr) (G : Scope) (d : Initialised) → initialised t ty e G ≡ Ok d → AllGo t G (expr_sites e)
  initialised_go None e G d h = let a = bind_ok (operand_of t e G) _ d h in operand_go e G a.value a.first
  initialised_go (Some ty) e G d h =
      let w = bind_ok (written t ty false G) _ d h in
      let a = bind_ok (operand_of t e G) _ d w.then in
      operand_go e G a.value a.first

  where_goes : (o : Option Expr) (B : Body) (w : Option Operand) → where_rule t o B.scope ≡ Ok w →
      (site_lines t (maybe_sites o) (reading_scope B.scope)).outcome ≡ Ok tt
  where_goes None B w h = refl
  where_goes (Some e) B w h = let a = bind_ok (operand_of t e (reading_scope B.scope)) _ w h in
      sites_go (expr_sites e) (reading_scope B.scope) (operand_go e (reading_scope B.scope) a.value a.first)

  limit_goes : (o : Option Expr) (B : Body) (w : Option Operand) → limit_typed t o B.scope ≡ Ok w → (limit_lines t o B).outcome ≡ Ok tt
  limit_goes None B w h = refl
  limit_goes (Some e) B w h = let a = bind_ok (operand_of t e (with_class B.scope Pure)) _ w h in
      sites_go (expr_sites e) (with_class B.scope Pure) (operand_go e (with_class B.scope Pure) a.value a.first)

  -- ---- targets

  slices_go : (ss : List Slice) (G : Scope) (os : List Operand) → all_operands (found_slices t ss) G ≡ Ok os →
      AllGo t G (joined (map slice_sites ss))
  slices_go [] G os h = tt
  slices_go (s ∷ ss) G os h =
      let a = bind_ok ((found_slice t s).operands G) _ os h in
      let b = bind_ok (all_operands (found_slices t ss) G) _ os a.then in
      all_append (Goes t G) (slice_sites s) _ (slice_sites_go t s G a.value a.first) (slices_go ss G b.value b.first)

  suffix_goes : (at : Span) (x : Suffix) (G : Scope) (y : TypedSuffix) → typed_suffix t at x G ≡ Ok y → AllGo t G (sites_of_suffix x)
  suffix_goes at (FieldOf f) G y h = tt
  suffix_goes at (FieldsOf fs) G y h = tt
  suffix_goes at (SlicesOf ss) G y h = let a = bind_ok (all_operands (found_slices t ss) G) _ y h in slices_go ss G a.value a.first
  suffix_goes at (ElementOf e) G y h = let a = bind_ok (typed t e G) _ y h in expr_sites_go t e G a.value a.first

  suffixes_go : (i : Ident) (xs : List PlacedSuffix) (G : Scope) (ys : List TypedSuffix) → typed_suffixes t i xs G ≡ Ok ys →
      AllGo t G (joined (map suffix_sites xs))
  suffixes_go i [] G ys h = tt
  suffixes_go i (x ∷ xs) G ys h =
      let a = bind_ok (typed_suffix t (up_to i x.end) x.suffix G) _ ys h in
      let b = bind_ok (typed_suffixes t i xs G) _ ys a.then in
      all_append (Goes t G) (suffix_sites x) _ (suffix_goes (up_to i x.end) x.suffix G a.value a.first) (suffixes_go i xs G b.value b.first)

  abbrev TargetGood : Target → Type 0
  TargetGood x = (G : Scope) (ps : List TypedPlace) → (found_target t x).places G ≡ Ok ps → AllGo t G (target_sites x)

  abbrev target_trees : tg.Target-F ((x : Target) × TargetGood x) → tg.Target-F Target
  target_trees = map-Target ((x : Target) × TargetGood x) Target (λ x. x.0)

  places_go : (n : ℕ) (xs : List ((x : Target) × TargetGood x)) (G : Scope) (ps : List TypedPlace) →
      all_places n (map (found_target t) (map (λ x. x.0) xs)) G ≡ Ok ps → AllGo t G (joined (map target_sites (map (λ x. x.0) xs)))
  places_go n [] G ps h = tt
  places_go n (x ∷ xs) G ps h =
      let a = bind_ok ((found_target t x.0).places G) _ ps h in
      let b = bind_ok (all_places (suc n) (map (found_target t) (map (λ x. x.0) xs)) G) _ ps a.then in
      all_append (Goes t G) (target_sites x.0) _ (x.1 G a.value a.first) (places_go (suc n) xs G b.value b.first)

  target_goes : (y : tg.Target-F ((x : Target) × TargetGood x)) (G : Scope) (ps : List TypedPlace) →
      (target_layer t (map-Target Target FoundTarget (found_target t) (target_trees y))).places G ≡ Ok ps →
      AllGo t G (lines.target_layer (map-Target Target Sites target_sites (target_trees y)))
  target_goes (tg.Discarded at) G ps h = tt
  target_goes (tg.Place at i xs) G ps h = let a = bind_ok (typed_suffixes t i xs G) _ ps h in suffixes_go i xs G a.value a.first
  target_goes (tg.Targets at ts) G ps h = places_go 0 ts G ps h

  target_step : (x : tg.Target-F Target) (y : tg.Target-F ((x : Target) × TargetGood x)) → target_trees y ≡ x → TargetGood (roll-Target x)
  target_step x y is G ps h =
      subst (AllGo t G) (sym (fold-roll-Target Sites lines.target_layer x))
      (subst (λ z. AllGo t G (lines.target_layer (map-Target Target Sites target_sites z))) is (target_goes y G ps
      (subst (λ z. (target_layer t (map-Target Target FoundTarget (found_target t) z)).places G ≡ Ok ps) (sym is)
      (sym (ap (λ (f : FoundTarget). f.places G) (fold-roll-Target FoundTarget (target_layer t) x)) ∙ h))))

  target_go : (x : Target) → TargetGood x
  target_go = ind-Target TargetGood target_step

  -- ---- what is found at trees, and the lines inside them

  abbrev found_alternative : Alternative → FoundAlternative
  found_alternative = fold-Alternative FoundAlternative FoundCatcher FoundBranch FoundOtherwise FoundStmt alternative_found catcher_found
      branch_found otherwise_found (stmt_layer_rule t)

  abbrev found_catcher : Catcher → FoundCatcher
  found_catcher = fold-Catcher FoundAlternative FoundCatcher FoundBranch FoundOtherwise FoundStmt alternative_found catcher_found
      branch_found otherwise_found (stmt_layer_rule t)

  abbrev found_branch : ElseIf → FoundBranch
  found_branch = fold-ElseIf FoundAlternative FoundCatcher FoundBranch FoundOtherwise FoundStmt alternative_found catcher_found branch_found
      otherwise_found (stmt_layer_rule t)

  abbrev found_otherwise : Otherwise → FoundOtherwise
  found_otherwise = fold-Otherwise FoundAlternative FoundCatcher FoundBranch FoundOtherwise FoundStmt alternative_found catcher_found
      branch_found otherwise_found (stmt_layer_rule t)

  abbrev alternative_in : Alternative → Inside
  alternative_in = para-Alternative Inside (Places × Catching) Inside InsideLast Inside (alternative_inside t) (catcher_inside t)
      (branch_inside t) (otherwise_inside t) (stmt_inside t)

  abbrev catcher_in : Catcher → Places × Catching
  catcher_in = para-Catcher Inside (Places × Catching) Inside InsideLast Inside (alternative_inside t) (catcher_inside t) (branch_inside t)
      (otherwise_inside t) (stmt_inside t)

  abbrev branch_in : ElseIf → Inside
  branch_in = para-ElseIf Inside (Places × Catching) Inside InsideLast Inside (alternative_inside t) (catcher_inside t) (branch_inside t)
      (otherwise_inside t) (stmt_inside t)

  abbrev otherwise_in : Otherwise → InsideLast
  otherwise_in = para-Otherwise Inside (Places × Catching) Inside InsideLast Inside (alternative_inside t) (catcher_inside t)
      (branch_inside t) (otherwise_inside t) (stmt_inside t)

  abbrev AlternativeGood : Alternative → Type 0
  AlternativeGood x = (T : Ty) (B : Body) (a : TypedAlternative) → alternative_rule t (found_alternative x) T B ≡ Ok a →
      (alternative_in x B).outcome ≡ Ok tt

  abbrev CatcherGood : Catcher → Type 0
  CatcherGood x = (B : Body) (c : TypedCatcher) → catcher_rule (found_catcher x) B ≡ Ok c → (behind : Place) →
      ((catcher_in x).1 behind B).outcome ≡ Ok tt

  abbrev ElseIfGood : ElseIf → Type 0
  ElseIfGood x = (B : Body) (b : TypedBranch) → branch_rule t (found_branch x).condition (found_branch x).body B ≡ Ok b →
      (branch_in x B).outcome ≡ Ok tt

  abbrev OtherwiseGood : Otherwise → Type 0
  OtherwiseGood x = (B : Body) (l : LastListed) → last_block (found_otherwise x) B ≡ Ok l → ((otherwise_in x).1 B).outcome ≡ Ok tt

  abbrev StmtGood : Stmt → Type 0
  StmtGood x = (B : Body) (d : Done) → found_stmt t x B ≡ Ok d → (inside_stmt t x B).outcome ≡ Ok tt

  abbrev AA : Type 0
  AA = (x : Alternative) × AlternativeGood x

  abbrev CC : Type 0
  CC = (x : Catcher) × CatcherGood x

  abbrev BB : Type 0
  BB = (x : ElseIf) × ElseIfGood x

  abbrev OO : Type 0
  OO = (x : Otherwise) × OtherwiseGood x

  abbrev SS : Type 0
  SS = (x : Stmt) × StmtGood x

  -- ---- lists

  abbrev paired : Stmt → StmtIn
  paired s = (s, inside_stmt t s)

  abbrev trees : List SS → List Stmt
  trees ss = map (λ (x : SS). x.0) ss

  stmt_goes_on : (s : Stmt) (B : Body) (d : Done) → (inside_stmt t s B).outcome ≡ Ok tt → found_stmt t s B ≡ Ok d →
      (stmt_lines t (paired s) B).outcome ≡ Ok d.names
  stmt_goes_on s B d h k = into_goes (inside_stmt t s B) (λ _. stmt_node t s B) tt d.names h (ap (λ r. (of_done t s B r).outcome) k)

  list_goes : (ss : List SS) (k : Effect) (B : Body) (l : Listed) → in_order (map (found_stmt t) (trees ss)) k B ≡ Ok l →
      (list_lines t (map paired (trees ss)) B).outcome ≡ Ok tt
  list_goes [] k B l h = refl
  list_goes (s ∷ ss) k B l h =
      let a = bind_ok (found_stmt t s.0 B) _ l h in
      let b = bind_ok (in_order (map (found_stmt t) (trees ss)) (greater k a.value.effect) (body_names B a.value.names)) _ l a.then in
      into_goes (stmt_lines t (paired s.0) B) (λ names. list_lines t (map paired (trees ss)) (body_names B names)) a.value.names tt
      (stmt_goes_on s.0 B a.value (s.1 B a.value a.first) a.first)
      (list_goes ss (greater k a.value.effect) (body_names B a.value.names) b.value b.first)

  branches_go : (bs : List BB) (B : Body) (xs : List TypedBranch) → branches t (map found_branch (map (λ (x : BB). x.0) bs)) B ≡ Ok xs →
      (all_inside (map (λ (b : ElseIf × Inside). b.1) (map (λ (b : ElseIf). (b, branch_in b)) (map (λ (x : BB). x.0) bs))) B).outcome
      ≡ Ok tt
  branches_go [] B xs h = refl
  branches_go (b ∷ bs) B xs h =
      let a = bind_ok (branch_rule t (found_branch b.0).condition (found_branch b.0).body B) _ xs h in
      let c = bind_ok (branches t (map found_branch (map (λ (x : BB). x.0) bs)) B) _ xs a.then in
      and_goes (branch_in b.0 B) _ tt (b.1 B a.value a.first) (branches_go bs B c.value c.first)

  alternatives_go : (alts : List AA) (T : Ty) (B : Body) (xs : List TypedAlternative) →
      alternatives t (map found_alternative (map (λ (x : AA). x.0) alts)) T B ≡ Ok xs →
      (all_inside (map (λ (b : Alternative × Inside). b.1) (map (λ (b : Alternative). (b, alternative_in b)) (map (λ (x : AA). x.0) alts)))
      B).outcome ≡ Ok tt
  alternatives_go [] T B xs h = refl
  alternatives_go (b ∷ bs) T B xs h =
      let a = bind_ok (alternative_rule t (found_alternative b.0) T B) _ xs h in
      let c = bind_ok (alternatives t (map found_alternative (map (λ (x : AA). x.0) bs)) T B) _ xs a.then in
      and_goes (alternative_in b.0 B) _ tt (b.1 T B a.value a.first) (alternatives_go bs T B c.value c.first)

  catchers_go : (cs : List CC) (B : Body) (xs : List TypedCatcher) (behind : Place) →
      catchers (map found_catcher (map (λ (x : CC). x.0) cs)) B ≡ Ok xs →
      (all_catching (map (λ (c : Catcher). (c, catcher_in c)) (map (λ (x : CC). x.0) cs)) behind B).outcome ≡ Ok tt
  catchers_go [] B xs behind h = refl
  catchers_go (c ∷ cs) B xs behind h =
      let a = bind_ok (catcher_rule (found_catcher c.0) B) _ xs h in
      let b = bind_ok (catchers (map found_catcher (map (λ (x : CC). x.0) cs)) B) _ xs a.then in
      and_goes ((catcher_in c.0).1 _ B) _ tt (c.1 B a.value a.first _) (catchers_go cs B b.value behind b.first)

  unless_goes : {A : Type 0} (r : Result A Fault) (next : Place) (x : A) → r ≡ Ok x → (unless_fault r next).outcome ≡ Ok x
  unless_goes r next x h = ap (λ z. (unless_fault z next).outcome) h

  -- ---- layers

  abbrev alternative_trees : st.Alternative-F AA CC BB OO SS → st.Alternative-F Alternative Catcher ElseIf Otherwise Stmt
  alternative_trees = map-Alternative AA CC BB OO SS Alternative Catcher ElseIf Otherwise Stmt (λ x. x.0) (λ x. x.0) (λ x. x.0) (λ x. x.0)
      (λ x. x.0)

  abbrev alternative_opened : st.Alternative-F Alternative Catcher ElseIf Otherwise Stmt →
      st.Alternative-F FoundAlternative FoundCatcher FoundBranch FoundOtherwise FoundStmt
  alternative_opened = map-Alternative Alternative Catcher ElseIf Otherwise Stmt FoundAlternative FoundCatcher FoundBranch FoundOtherwise
      FoundStmt found_alternative found_catcher found_branch found_otherwise (found_stmt t)

  abbrev alternative_paired : st.Alternative-F Alternative Catcher ElseIf Otherwise Stmt →
      st.Alternative-F (Alternative × Inside) (Catcher × (Places × Catching)) (ElseIf × Inside) (Otherwise × InsideLast) StmtIn
  alternative_paired = map-Alternative Alternative Catcher ElseIf Otherwise Stmt (Alternative × Inside) (Catcher × (Places × Catching))
      (ElseIf × Inside) (Otherwise × InsideLast) StmtIn (λ b. (b, alternative_in b)) (λ c. (c, catcher_in c)) (λ b. (b, branch_in b))
      (λ o. (o, otherwise_in o)) paired

  abbrev catcher_trees : st.Catcher-F AA CC BB OO SS → st.Catcher-F Alternative Catcher ElseIf Otherwise Stmt
  catcher_trees = map-Catcher AA CC BB OO SS Alternative Catcher ElseIf Otherwise Stmt (λ x. x.0) (λ x. x.0) (λ x. x.0) (λ x. x.0)
      (λ x. x.0)

  abbrev catcher_opened : st.Catcher-F Alternative Catcher ElseIf Otherwise Stmt →
      st.Catcher-F FoundAlternative FoundCatcher FoundBranch FoundOtherwise FoundStmt
  catcher_opened = map-Catcher Alternative Catcher ElseIf Otherwise Stmt FoundAlternative FoundCatcher FoundBranch FoundOtherwise FoundStmt
      found_alternative found_catcher found_branch found_otherwise (found_stmt t)

  abbrev catcher_paired : st.Catcher-F Alternative Catcher ElseIf Otherwise Stmt →
      st.Catcher-F (Alternative × Inside) (Catcher × (Places × Catching)) (ElseIf × Inside) (Otherwise × InsideLast) StmtIn
  catcher_paired = map-Catcher Alternative Catcher ElseIf Otherwise Stmt (Alternative × Inside) (Catcher × (Places × Catching))
      (ElseIf × Inside) (Otherwise × InsideLast) StmtIn (λ b. (b, alternative_in b)) (λ c. (c, catcher_in c)) (λ b. (b, branch_in b))
      (λ o. (o, otherwise_in o)) paired

  abbrev branch_trees : st.ElseIf-F AA CC BB OO SS → st.ElseIf-F Alternative Catcher ElseIf Otherwise Stmt
  branch_trees = map-ElseIf AA CC BB OO SS Alternative Catcher ElseIf Otherwise Stmt (λ x. x.0) (λ x. x.0) (λ x. x.0) (λ x. x.0) (λ x. x.0)

  abbrev branch_opened : st.ElseIf-F Alternative Catcher ElseIf Otherwise Stmt →
      st.ElseIf-F FoundAlternative FoundCatcher FoundBranch FoundOtherwise FoundStmt
  branch_opened = map-ElseIf Alternative Catcher ElseIf Otherwise Stmt FoundAlternative FoundCatcher FoundBranch FoundOtherwise FoundStmt
      found_alternative found_catcher found_branch found_otherwise (found_stmt t)

  abbrev branch_paired : st.ElseIf-F Alternative Catcher ElseIf Otherwise Stmt →
      st.ElseIf-F (Alternative × Inside) (Catcher × (Places × Catching)) (ElseIf × Inside) (Otherwise × InsideLast) StmtIn
  branch_paired = map-ElseIf Alternative Catcher ElseIf Otherwise Stmt (Alternative × Inside) (Catcher × (Places × Catching))
      (ElseIf × Inside) (Otherwise × InsideLast) StmtIn (λ b. (b, alternative_in b)) (λ c. (c, catcher_in c)) (λ b. (b, branch_in b))
      (λ o. (o, otherwise_in o)) paired

  abbrev otherwise_trees : st.Otherwise-F AA CC BB OO SS → st.Otherwise-F Alternative Catcher ElseIf Otherwise Stmt
  otherwise_trees = map-Otherwise AA CC BB OO SS Alternative Catcher ElseIf Otherwise Stmt (λ x. x.0) (λ x. x.0) (λ x. x.0) (λ x. x.0)
      (λ x. x.0)

  abbrev otherwise_opened : st.Otherwise-F Alternative Catcher ElseIf Otherwise Stmt →
      st.Otherwise-F FoundAlternative FoundCatcher FoundBranch FoundOtherwise FoundStmt
  otherwise_opened = map-Otherwise Alternative Catcher ElseIf Otherwise Stmt FoundAlternative FoundCatcher FoundBranch FoundOtherwise
      FoundStmt found_alternative found_catcher found_branch found_otherwise (found_stmt t)

  abbrev otherwise_paired : st.Otherwise-F Alternative Catcher ElseIf Otherwise Stmt →
      st.Otherwise-F (Alternative × Inside) (Catcher × (Places × Catching)) (ElseIf × Inside) (Otherwise × InsideLast) StmtIn
  otherwise_paired = map-Otherwise Alternative Catcher ElseIf Otherwise Stmt (Alternative × Inside) (Catcher × (Places × Catching))
      (ElseIf × Inside) (Otherwise × InsideLast) StmtIn (λ b. (b, alternative_in b)) (λ c. (c, catcher_in c)) (λ b. (b, branch_in b))
      (λ o. (o, otherwise_in o)) paired

  abbrev stmt_trees : st.Stmt-F AA CC BB OO SS → st.Stmt-F Alternative Catcher ElseIf Otherwise Stmt
  stmt_trees = map-Stmt AA CC BB OO SS Alternative Catcher ElseIf Otherwise Stmt (λ x. x.0) (λ x. x.0) (λ x. x.0) (λ x. x.0) (λ x. x.0)

  abbrev stmt_opened : st.Stmt-F Alternative Catcher ElseIf Otherwise Stmt →
      st.Stmt-F FoundAlternative FoundCatcher FoundBranch FoundOtherwise FoundStmt
  stmt_opened = map-Stmt Alternative Catcher ElseIf Otherwise Stmt FoundAlternative FoundCatcher FoundBranch FoundOtherwise FoundStmt
      found_alternative found_catcher found_branch found_otherwise (found_stmt t)

  abbrev stmt_paired : st.Stmt-F Alternative Catcher ElseIf Otherwise Stmt →
      st.Stmt-F (Alternative × Inside) (Catcher × (Places × Catching)) (ElseIf × Inside) (Otherwise × InsideLast) StmtIn
  stmt_paired = map-Stmt Alternative Catcher ElseIf Otherwise Stmt (Alternative × Inside) (Catcher × (Places × Catching)) (ElseIf × Inside)
      (Otherwise × InsideLast) StmtIn (λ b. (b, alternative_in b)) (λ c. (c, catcher_in c)) (λ b. (b, branch_in b))
      (λ o. (o, otherwise_in o)) paired

  alternative_goes : (y : st.Alternative-F AA CC BB OO SS) (T : Ty) (B : Body) (a : TypedAlternative) →
      alternative_rule t (alternative_found (alternative_opened (alternative_trees y))) T B ≡ Ok a →
      (alternative_inside t (alternative_paired (alternative_trees y)) B).outcome ≡ Ok tt
  alternative_goes (st.When ps e ss) T B a h =
      let p = bind_ok (all_patterns t ps T B.scope) _ a h in
      let w = bind_ok (where_rule t e B.scope) _ a p.then in
      let l = bind_ok (block (map (found_stmt t) (trees ss)) B) _ a w.then in
      and_goes (sites_at t (patterns_sites ps) B) _ tt (sites_go (patterns_sites ps) B.scope (patterns_go ps T B.scope p.value p.first))
      (and_goes (site_lines t (maybe_sites e) (reading_scope B.scope)) _ tt (where_goes e B w.value w.first)
      (list_goes ss Pure B l.value l.first))

  catcher_goes : (y : st.Catcher-F AA CC BB OO SS) (B : Body) (c : TypedCatcher) →
      catcher_rule (catcher_found (catcher_opened (catcher_trees y))) B ≡ Ok c → (behind : Place) →
      ((catcher_inside t (catcher_paired (catcher_trees y))).1 behind B).outcome ≡ Ok tt
  catcher_goes (st.Catch i ty ss) B c h behind =
      let T = bind_ok (found_or (type_of_name ty.text B.scope.names) T02 ty.span) _ c h in
      let n = then_ok (need (is_exception T.value) T21 ty.span) _ c T.then in
      let C = bind_ok (with_caught i T.value B) _ c n.then in
      let l = bind_ok (block (map (found_stmt t) (trees ss)) (handling C.value)) _ c C.then in
      let k : caught_in i ty B ≡ Ok (handling C.value) =
      ap (λ r. r >>= λ T. need (is_exception T) T21 ty.span >> with_caught i T B >>= λ C. Ok (handling C)) T.first
      ∙ (ap (λ r. r >> with_caught i T.value B >>= λ C. Ok (handling C)) n.first ∙ ap (λ r. r >>= λ C. Ok (handling C)) C.first) in
      into_goes (unless_fault (caught_in i ty B) (first_of (list_places (map paired (trees ss))) behind))
      (λ C. list_lines t (map paired (trees ss)) C) (handling C.value) tt (unless_goes (caught_in i ty B) _ (handling C.value) k)
      (list_goes ss Pure (handling C.value) l.value l.first)

  branch_goes : (y : st.ElseIf-F AA CC BB OO SS) (B : Body) (b : TypedBranch) →
      branch_rule t (branch_found (branch_opened (branch_trees y))).condition (branch_found (branch_opened (branch_trees y))).body B
      ≡ Ok b → (branch_inside t (branch_paired (branch_trees y)) B).outcome ≡ Ok tt
  branch_goes (st.ElseIf c ss) B b h =
      let o = bind_ok (operand_of t c B.scope) _ b h in
      let l = bind_ok (block (map (found_stmt t) (trees ss)) B) _ b o.then in
      and_goes (sites_at t (expr_sites c) B) _ tt (sites_go (expr_sites c) B.scope (operand_go c B.scope o.value o.first))
      (list_goes ss Pure B l.value l.first)

  otherwise_goes : (y : st.Otherwise-F AA CC BB OO SS) (B : Body) (l : LastListed) →
      last_block (otherwise_found (otherwise_opened (otherwise_trees y))) B ≡ Ok l →
      ((otherwise_inside t (otherwise_paired (otherwise_trees y))).1 B).outcome ≡ Ok tt
  otherwise_goes st.NoOtherwise B l h = refl
  otherwise_goes (st.Otherwise ss) B l h = let a = bind_ok (block (map (found_stmt t) (trees ss)) B) _ l h in
      list_goes ss Pure B a.value a.first

  maybe_goes : (e : Option Expr) (G : Scope) → ((x : Expr) → e ≡ Some x → AllGo t G (expr_sites x)) → AllGo t G (maybe_sites e)
  maybe_goes None G h = tt
  maybe_goes (Some e) G h = h e refl

  stmt_goes : (y : st.Stmt-F AA CC BB OO SS) (B : Body) (d : Done) → stmt_layer_rule t (stmt_opened (stmt_trees y)) B ≡ Ok d →
      (stmt_inside t (stmt_paired (stmt_trees y)) B).outcome ≡ Ok tt
  stmt_goes (st.Pass span) B d h = refl
  stmt_goes (st.Unreachable span) B d h = refl
  stmt_goes (st.Assert span e) B d h = let o = bind_ok (operand_of t e (reading_scope B.scope)) _ d h in
      sites_go (expr_sites e) (reading_scope B.scope) (operand_go e (reading_scope B.scope) o.value o.first)
  stmt_goes (st.Local span kind b ty e) B d h = let i = bind_ok (initialised t ty e B.scope) _ d h in
      sites_go (expr_sites e) B.scope (initialised_go ty e B.scope i.value i.first)
  stmt_goes (st.LocalVars span is ty) B d h = refl
  stmt_goes (st.Assign span target e) B d h =
      let p = bind_ok ((found_target t target).places B.scope) _ d h in
      let o = bind_ok (operand_of t e B.scope) _ d p.then in
      sites_go (target_sites target ++ expr_sites e) B.scope
      (all_append (Goes t B.scope) (target_sites target) (expr_sites e) (target_go target B.scope p.value p.first)
      (operand_go e B.scope o.value o.first))
  stmt_goes (st.Invoke span i ps es) B d h =
      let c = bind_ok (procedure_rule t span i (map (found t) ps) (map (found t) es) B.scope) _ d h in
      let b = bind_ok (call_begun i (map (found t) es) B.scope) _ c.value c.first in
      let o = bind_ok (operands (map (found t) es) B.scope) _ b.value b.first in
      sites_go (all_sites es) B.scope (operands_go es B.scope o.value o.first)
  stmt_goes (st.If span c first others last) B d h =
      let b = bind_ok (branch_rule t c (map (found_stmt t) (trees first)) B) _ d h in
      let o = bind_ok (operand_of t c B.scope) _ b.value b.first in
      let f = bind_ok (block (map (found_stmt t) (trees first)) B) _ b.value o.then in
      let bs = bind_ok (branches t (map found_branch (map (λ (x : BB). x.0) others)) B) _ d b.then in
      let l = bind_ok (block (map (found_stmt t) (trees last)) B) _ d bs.then in
      and_goes (sites_at t (expr_sites c) B) _ tt (sites_go (expr_sites c) B.scope (operand_go c B.scope o.value o.first))
      (and_goes (list_lines t (map paired (trees first)) B) _ tt (list_goes first Pure B f.value f.first)
      (and_goes (all_inside (map (λ (b : ElseIf × Inside). b.1) (map (λ (b : ElseIf). (b, branch_in b)) (map (λ (x : BB). x.0) others))) B)
      _ tt (branches_go others B bs.value bs.first) (list_goes last Pure B l.value l.first)))
  stmt_goes (st.Case span e alts last) B d h =
      let o = bind_ok (operand_of t e B.scope) _ d h in
      let xs = bind_ok (alternatives t (map found_alternative (map (λ (x : AA). x.0) alts)) o.value.typed.ty B) _ d o.then in
      let l = bind_ok (last_block (found_otherwise last.0) B) _ d xs.then in
      and_goes (sites_at t (expr_sites e) B) _ tt (sites_go (expr_sites e) B.scope (operand_go e B.scope o.value o.first))
      (and_goes (all_inside (map (λ (b : Alternative × Inside). b.1)
      (map (λ (b : Alternative). (b, alternative_in b)) (map (λ (x : AA). x.0) alts))) B) _ tt
      (alternatives_go alts o.value.typed.ty B xs.value xs.first) (last.1 B l.value l.first))
  stmt_goes (st.For span i a r b limit ss) B d h =
      let S = bind_ok (operand_of t a B.scope) _ d h in
      let T = bind_ok (operand_of t b B.scope) _ d S.then in
      let l = bind_ok (limit_typed t limit B.scope) _ d T.then in
      let n = then_ok (index_rule i S.value T.value B) _ d l.then in
      let body = bind_ok (block (map (found_stmt t) (trees ss)) (with_index i (index_type t r a b B.scope) B)) _ d n.then in
      let k : index_found t i a b B ≡ Ok tt = ap (λ r. r >>= λ S. operand_of t b B.scope >>= λ T. index_rule i S T B) S.first
      ∙ (ap (λ r. r >>= λ T. index_rule i S.value T B) T.first ∙ n.first) in
      and_goes (sites_at t (expr_sites a ++ expr_sites b) B) _ tt
      (sites_go (expr_sites a ++ expr_sites b) B.scope
      (all_append (Goes t B.scope) (expr_sites a) (expr_sites b) (operand_go a B.scope S.value S.first)
      (operand_go b B.scope T.value T.first)))
      (and_goes (limit_lines t limit B) _ tt (limit_goes limit B l.value l.first)
      (and_goes (unless_fault (index_found t i a b B) (first_of (list_places (map paired (trees ss))) (of_stmt span))) _ tt
      (unless_goes (index_found t i a b B) _ tt k)
      (list_goes ss Pure (with_index i (index_type t r a b B.scope) B) body.value body.first)))
  stmt_goes (st.While span c limit ss) B d h =
      let o = bind_ok (operand_of t c B.scope) _ d h in
      let l = bind_ok (limit_typed t limit B.scope) _ d o.then in
      let body = bind_ok (block (map (found_stmt t) (trees ss)) B) _ d l.then in
      and_goes (sites_at t (expr_sites c) B) _ tt (sites_go (expr_sites c) B.scope (operand_go c B.scope o.value o.first))
      (and_goes (limit_lines t limit B) _ tt (limit_goes limit B l.value l.first) (list_goes ss Pure B body.value body.first))
  stmt_goes (st.Repeat span ss c limit) B d h =
      let body = bind_ok (block (map (found_stmt t) (trees ss)) B) _ d h in
      let o = bind_ok (operand_of t c B.scope) _ d body.then in
      let l = bind_ok (limit_typed t limit B.scope) _ d o.then in
      and_goes (list_lines t (map paired (trees ss)) B) _ tt (list_goes ss Pure B body.value body.first)
      (and_goes (sites_at t (expr_sites c) B) _ tt (sites_go (expr_sites c) B.scope (operand_go c B.scope o.value o.first))
      (limit_goes limit B l.value l.first))
  stmt_goes (st.Return span None) B d h = refl
  stmt_goes (st.Return span (Some e)) B d h = let o = bind_ok (operand_of t e B.scope) _ d h in
      sites_go (expr_sites e) B.scope (operand_go e B.scope o.value o.first)
  stmt_goes (st.Throw span None) B d h = refl
  stmt_goes (st.Throw span (Some e)) B d h = let o = bind_ok (operand_of t e B.scope) _ d h in
      sites_go (expr_sites e) B.scope (operand_go e B.scope o.value o.first)
  stmt_goes (st.Try span ss cs last) B d h =
      let body = bind_ok (block (map (found_stmt t) (trees ss)) B) _ d h in
      let xs = bind_ok (catchers (map found_catcher (map (λ (x : CC). x.0) cs)) B) _ d body.then in
      let l = bind_ok (last_block (found_otherwise last.0) (handling B)) _ d xs.then in
      and_goes (list_lines t (map paired (trees ss)) B) _ tt (list_goes ss Pure B body.value body.first)
      (and_goes (all_catching (map (λ (c : Catcher). (c, catcher_in c)) (map (λ (x : CC). x.0) cs))
      (first_of (otherwise_in last.0).0 (of_stmt span)) B) _ tt (catchers_go cs B xs.value _ xs.first)
      (last.1 (handling B) l.value l.first))
  stmt_goes (st.Print span kind is) B d h = let p = bind_ok (items_rule t is B.scope) _ d h in
      sites_go (joined (map item_sites is)) B.scope (items_go is B.scope p.value p.first)

  -- ---- by induction over trees

  alternative_step : (x : st.Alternative-F Alternative Catcher ElseIf Otherwise Stmt) (y : st.Alternative-F AA CC BB OO SS) →
      alternative_trees y ≡ x → AlternativeGood (roll-Alternative x)
  alternative_step x y is T B a h =
      ap (λ (f : Inside). (f B).outcome)
      (para-roll-Alternative Inside (Places × Catching) Inside InsideLast Inside (alternative_inside t) (catcher_inside t)
      (branch_inside t) (otherwise_inside t) (stmt_inside t) x) ∙
      subst (λ z. alternative_rule t (alternative_found (alternative_opened z)) T B ≡ Ok a →
      (alternative_inside t (alternative_paired z) B).outcome ≡ Ok tt) is (alternative_goes y T B a)
      (sym (ap (λ z. alternative_rule t z T B)
      (fold-roll-Alternative FoundAlternative FoundCatcher FoundBranch FoundOtherwise FoundStmt alternative_found catcher_found
      branch_found otherwise_found (stmt_layer_rule t) x)) ∙ h)

  catcher_step : (x : st.Catcher-F Alternative Catcher ElseIf Otherwise Stmt) (y : st.Catcher-F AA CC BB OO SS) → catcher_trees y ≡ x →
      CatcherGood (roll-Catcher x)
  catcher_step x y is B c h behind =
      ap (λ (f : Places × Catching). (f.1 behind B).outcome)
      (para-roll-Catcher Inside (Places × Catching) Inside InsideLast Inside (alternative_inside t) (catcher_inside t) (branch_inside t)
      (otherwise_inside t) (stmt_inside t) x) ∙
      subst (λ z. catcher_rule (catcher_found (catcher_opened z)) B ≡ Ok c →
      ((catcher_inside t (catcher_paired z)).1 behind B).outcome ≡ Ok tt) is (λ k. catcher_goes y B c k behind)
      (sym (ap (λ z. catcher_rule z B) (fold-roll-Catcher FoundAlternative FoundCatcher FoundBranch FoundOtherwise FoundStmt
      alternative_found catcher_found branch_found otherwise_found (stmt_layer_rule t) x)) ∙ h)

  branch_step : (x : st.ElseIf-F Alternative Catcher ElseIf Otherwise Stmt) (y : st.ElseIf-F AA CC BB OO SS) → branch_trees y ≡ x →
      ElseIfGood (roll-ElseIf x)
  branch_step x y is B b h =
      ap (λ (f : Inside). (f B).outcome)
      (para-roll-ElseIf Inside (Places × Catching) Inside InsideLast Inside (alternative_inside t) (catcher_inside t) (branch_inside t)
      (otherwise_inside t) (stmt_inside t) x) ∙
      subst (λ z. branch_rule t (branch_found (branch_opened z)).condition (branch_found (branch_opened z)).body B ≡ Ok b →
      (branch_inside t (branch_paired z) B).outcome ≡ Ok tt) is (branch_goes y B b)
      (sym (ap (λ (z : FoundBranch). branch_rule t z.condition z.body B)
      (fold-roll-ElseIf FoundAlternative FoundCatcher FoundBranch FoundOtherwise FoundStmt alternative_found catcher_found branch_found
      otherwise_found (stmt_layer_rule t) x)) ∙ h)

  otherwise_step : (x : st.Otherwise-F Alternative Catcher ElseIf Otherwise Stmt) (y : st.Otherwise-F AA CC BB OO SS) →
      otherwise_trees y ≡ x → OtherwiseGood (roll-Otherwise x)
  otherwise_step x y is B l h =
      ap (λ (f : InsideLast). (f.1 B).outcome)
      (para-roll-Otherwise Inside (Places × Catching) Inside InsideLast Inside (alternative_inside t) (catcher_inside t) (branch_inside t)
      (otherwise_inside t) (stmt_inside t) x) ∙
      subst (λ z. last_block (otherwise_found (otherwise_opened z)) B ≡ Ok l →
      ((otherwise_inside t (otherwise_paired z)).1 B).outcome ≡ Ok tt) is (otherwise_goes y B l)
      (sym (ap (λ z. last_block z B) (fold-roll-Otherwise FoundAlternative FoundCatcher FoundBranch FoundOtherwise FoundStmt
      alternative_found catcher_found branch_found otherwise_found (stmt_layer_rule t) x)) ∙ h)

  stmt_step : (x : st.Stmt-F Alternative Catcher ElseIf Otherwise Stmt) (y : st.Stmt-F AA CC BB OO SS) → stmt_trees y ≡ x →
      StmtGood (roll-Stmt x)
  stmt_step x y is B d h =
      ap (λ (f : Inside). (f B).outcome)
      (para-roll-Stmt Inside (Places × Catching) Inside InsideLast Inside (alternative_inside t) (catcher_inside t) (branch_inside t)
      (otherwise_inside t) (stmt_inside t) x) ∙
      subst (λ z. stmt_layer_rule t (stmt_opened z) B ≡ Ok d → (stmt_inside t (stmt_paired z) B).outcome ≡ Ok tt) is (stmt_goes y B d)
      (sym (ap (λ (f : FoundStmt). f B)
      (fold-roll-Stmt FoundAlternative FoundCatcher FoundBranch FoundOtherwise FoundStmt alternative_found catcher_found branch_found
      otherwise_found (stmt_layer_rule t) x)) ∙ h)

  -- where the rule of a statement gives something, all lines inside it go well
  pub stmt_inside_goes : (s : Stmt) → StmtGood s
  stmt_inside_goes = ind-Stmt AlternativeGood CatcherGood ElseIfGood OtherwiseGood StmtGood alternative_step catcher_step branch_step
      otherwise_step stmt_step

  -- ---- statements in order, both ways

  known : List Stmt → List SS
  known [] = []
  known (s ∷ ss) = (s, stmt_inside_goes s) ∷ known ss

  known_trees : (ss : List Stmt) → trees (known ss) ≡ ss
  unfolding known
  known_trees [] = refl
  known_trees (s ∷ ss) = ap (λ z. s ∷ z) (known_trees ss)

  pub list_goes_well : (ss : List Stmt) (k : Effect) (B : Body) (l : Listed) → in_order (map (found_stmt t) ss) k B ≡ Ok l →
      (list_lines t (with_inside t ss) B).outcome ≡ Ok tt
  list_goes_well ss k B l = subst (λ zs. in_order (map (found_stmt t) zs) k B ≡ Ok l → (list_lines t (with_inside t zs) B).outcome ≡ Ok tt)
      (known_trees ss) (list_goes (known ss) k B l)

  done_ok : (s : Stmt) (B : Body) (r : Result Done Fault) (names : List Entry) → (of_done t s B r).outcome ≡ Ok names →
      (d : Done) × ((r ≡ Ok d) × (d.names ≡ names))
  done_ok s B (Ok d) names h = (d, (refl, ok_is d.names names h))
  done_ok s B (Err f) names h = err_isnt _ names h

  pub list_is_well : (ss : List Stmt) (k : Effect) (B : Body) → (list_lines t (with_inside t ss) B).outcome ≡ Ok tt →
      (l : Listed) × (in_order (map (found_stmt t) ss) k B ≡ Ok l)
  list_is_well [] k B h = (_, refl)
  list_is_well (s ∷ ss) k B h =
      let a = into_ok (stmt_lines t (paired s) B) (λ names. list_lines t (with_inside t ss) (body_names B names)) tt h in
      let b = into_ok (inside_stmt t s B) (λ _. stmt_node t s B) a.value a.first in
      let d = done_ok s B (found_stmt t s B) a.value b.then in
      let r = list_is_well ss (greater k d.0.effect) (body_names B d.0.names)
      (subst (λ names. (list_lines t (with_inside t ss) (body_names B names)).outcome ≡ Ok tt) (sym d.1.1) a.then) in (
        _,
        ap (λ z. z >>= λ d. in_order (map (found_stmt t) ss) (greater k d.effect) (body_names B d.names) >>= λ l. Ok (act_first d.act l))
            d.1.0 ∙ ap (λ z. z >>= λ l. Ok (act_first d.0.act l)) r.1,
      )
