-- Where what statements are written out as is judged, the masks of each `case` in them that has only masks and literals of bits as
-- patterns have one width.
use Rattle.std.proofs.Common.{◌≡◌, ℕ, suc, List, [], ◌∷◌, ◌++◌, map, Option, Some, None, Ok, refl, sym, ◌∙◌, ap, subst}
use Rattle.asl_syn.specs.declared.token.Span.{Span}
use Rattle.asl_syn.specs.declared.tree.Expr.{Expr}
use Rattle.asl_syn.specs.declared.tree.Alternative.{Alternative, roll-Alternative}
use Rattle.asl_syn.specs.declared.tree.Catcher.{Catcher, roll-Catcher}
use Rattle.asl_syn.specs.declared.tree.ElseIf.{ElseIf, roll-ElseIf}
use Rattle.asl_syn.specs.declared.tree.Otherwise.{Otherwise, roll-Otherwise}
use Rattle.asl_syn.specs.declared.tree.Stmt.{Stmt, roll-Stmt}
use Rattle.asl_syn.specs.declared.tree.Alternative.TheOpen as st
use Rattle.asl_syn.specs.declared.tree.Alternative.TheFolds.{fold-Alternative, fold-Catcher, fold-ElseIf, fold-Otherwise}
use Rattle.asl_syn.specs.declared.tree.Alternative.TheFolds.{fold-roll-Alternative, fold-roll-Catcher, fold-roll-ElseIf}
use Rattle.asl_syn.specs.declared.tree.Alternative.TheFolds.{fold-roll-Otherwise, fold-roll-Stmt, map-Stmt}
use Rattle.asl_syn.specs.declared.read.ReadAlternative.{ReadAlternative, roll-ReadAlternative}
use Rattle.asl_syn.specs.declared.read.ReadCatcher.{ReadCatcher, roll-ReadCatcher}
use Rattle.asl_syn.specs.declared.read.ReadElseIf.{ReadElseIf, roll-ReadElseIf}
use Rattle.asl_syn.specs.declared.read.ReadOtherwise.{ReadOtherwise, roll-ReadOtherwise}
use Rattle.asl_syn.specs.declared.read.ReadStmt.{ReadStmt, roll-ReadStmt}
use Rattle.asl_syn.specs.declared.read.ReadAlternative.TheOpen as rs
use Rattle.asl_syn.specs.declared.read.ReadAlternative.TheFolds.{fold-ReadAlternative, fold-ReadCatcher, fold-ReadElseIf, fold-ReadOtherwise}
use Rattle.asl_syn.specs.declared.read.ReadAlternative.TheFolds.{fold-roll-ReadAlternative, fold-roll-ReadCatcher, fold-roll-ReadElseIf, fold-roll-ReadOtherwise, fold-roll-ReadStmt}
use Rattle.asl_syn.specs.declared.read.ReadAlternative.TheFolds.{map-ReadStmt}
use Rattle.asl_syn.specs.declared.code.StaticCode.TheVariants.{T02, T21}
use Rattle.asl_rules.specs.declared.effect.Effect.{Effect}
use Rattle.asl_rules.specs.declared.effect.Effect.TheVariants.{Pure}
use Rattle.asl_rules.specs.Faults.{◌>>=◌, need, found_or}
use Rattle.asl_rules.specs.Tests.{Tests, IsRight}
use Rattle.asl_rules.specs.types.Types.{Ty}
use Rattle.asl_rules.specs.types.Effects.{greater}
use Rattle.asl_rules.specs.declarations.Scopes.{Body, body_names, handling, type_of_name}
use Rattle.asl_rules.specs.declarations.WrittenOut.{joined, alternative_layer_written, catcher_layer_written, else_if_layer_written, otherwise_layer_written, stmt_layer_written}
use Rattle.asl_rules.specs.declarations.WrittenOut.{alternative_written, catcher_written, else_if_written, otherwise_written, stmt_written}
use Rattle.asl_rules.specs.statements.Acting.{Done, FoundStmt, FoundOtherwise, Listed, LastListed, act_first, in_order, block, last_block, operand_of}
use Rattle.asl_rules.specs.statements.Branches.{FoundBranch, FoundAlternative, FoundCatcher, TypedBranch, TypedAlternative, TypedCatcher, branch_rule, branches, all_patterns}
use Rattle.asl_rules.specs.statements.Branches.{where_rule, alternative_rule, alternatives, limit_typed, index_rule, index_type, with_index, is_exception, with_caught, catcher_rule, catchers}
use Rattle.asl_rules.specs.statements.Stmts.{stmt_layer_rule, alternative_found, catcher_found, branch_found, otherwise_found, found_stmt}
use Rattle.asl_rules.specs.report.MaskTables.{Masks, MaskCase, Cases, Choice, literals, unless_where, both, masks_from, case_with, case_at, inside_of}
use Rattle.asl_rules.specs.report.MaskTables.{stmt_cases, alternative_choice, catcher_cases, else_if_cases, otherwise_cases, cases_in}
use Rattle.asl_rules.proofs.basics.Inversions.{bind_ok, then_ok}
use Rattle.asl_rules.proofs.basics.Tests.{some_same, none_some}
use Rattle.asl_laws.proofs.basics.Lists.{AllOf}
use Rattle.asl_laws.proofs.masks.PatternWidths.{AllFit, IsEven, literals_fit, fit_even}
use Rattle.asl_laws.proofs.certificates.Sites.{all_append}
use Rattle.asl_laws.proofs.masks.ReadTrees as induction

module _ (t : Tests) where
  -- the masks of a `case` have one width, and those of each
  abbrev pub CaseEven : MaskCase → Type 0
  CaseEven c = IsEven t c.masks

  abbrev pub AllEven : Cases → Type 0
  AllEven cs = AllOf CaseEven cs

  -- ---- what is found at trees

  abbrev found_alternative : Alternative → FoundAlternative
  found_alternative = fold-Alternative FoundAlternative FoundCatcher FoundBranch FoundOtherwise FoundStmt alternative_found catcher_found
      branch_found otherwise_found (stmt_layer_rule t)

  abbrev found_catcher : Catcher → FoundCatcher
  found_catcher = fold-Catcher FoundAlternative FoundCatcher FoundBranch FoundOtherwise FoundStmt alternative_found catcher_found
      branch_found otherwise_found (stmt_layer_rule t)

  abbrev found_branch : ElseIf → FoundBranch
  found_branch = fold-ElseIf FoundAlternative FoundCatcher FoundBranch FoundOtherwise FoundStmt alternative_found catcher_found
      branch_found otherwise_found (stmt_layer_rule t)

  abbrev found_otherwise : Otherwise → FoundOtherwise
  found_otherwise = fold-Otherwise FoundAlternative FoundCatcher FoundBranch FoundOtherwise FoundStmt alternative_found catcher_found
      branch_found otherwise_found (stmt_layer_rule t)

  abbrev found_layer : st.Stmt-F Alternative Catcher ElseIf Otherwise Stmt → FoundStmt
  found_layer x = stmt_layer_rule t (map-Stmt Alternative Catcher ElseIf Otherwise Stmt FoundAlternative FoundCatcher FoundBranch
      FoundOtherwise FoundStmt found_alternative found_catcher found_branch found_otherwise (found_stmt t) x)

  -- a list of one statement
  record One (x : st.Stmt-F Alternative Catcher ElseIf Otherwise Stmt) (B : Body) : Type 0 where
    done : Done
    is : found_layer x B ≡ Ok done

  one : (x : st.Stmt-F Alternative Catcher ElseIf Otherwise Stmt) (k : Effect) (B : Body) (l : Listed) →
      in_order (map (found_stmt t) (roll-Stmt x ∷ [])) k B ≡ Ok l → One x B
  one x k B l h =
      let d = bind_ok (found_stmt t (roll-Stmt x) B) _ l h in
      record {
        done = d.value;
        is = subst (λ (f : FoundStmt). f B ≡ Ok d.value) (fold-roll-Stmt FoundAlternative FoundCatcher FoundBranch FoundOtherwise FoundStmt
            alternative_found catcher_found branch_found otherwise_found (stmt_layer_rule t) x) d.first;
      }

  -- the statements of one list behind those of another
  record Parted (xs ys : List Stmt) (k : Effect) (B : Body) : Type 0 where
    first : Listed
    first_is : in_order (map (found_stmt t) xs) k B ≡ Ok first
    effect : Effect
    body : Body
    second : Listed
    second_is : in_order (map (found_stmt t) ys) effect body ≡ Ok second

  parted : (xs ys : List Stmt) (k : Effect) (B : Body) (l : Listed) → in_order (map (found_stmt t) (xs ++ ys)) k B ≡ Ok l →
      Parted xs ys k B
  parted [] ys k B l h = record { first = _; first_is = refl; effect = k; body = B; second = l; second_is = h }
  parted (x ∷ xs) ys k B l h =
      let d = bind_ok (found_stmt t x B) _ l h in
      let m = bind_ok (in_order (map (found_stmt t) (xs ++ ys)) (greater k d.value.effect) (body_names B d.value.names)) _ l d.then in
      let p = parted xs ys (greater k d.value.effect) (body_names B d.value.names) m.value m.first in
      record {
        first = act_first d.value.act p.first;
        first_is =
            ap (λ r. r >>= λ (d : Done). in_order (map (found_stmt t) xs) (greater k d.effect) (body_names B d.names)
            >>= λ l. Ok (act_first d.act l)) d.first ∙
            ap (λ r. r >>= λ l. Ok (act_first d.value.act l)) p.first_is;
        effect = p.effect;
        body = p.body;
        second = p.second;
        second_is = p.second_is;
      }

  -- ---- what is shown of each sort of tree

  abbrev choice_in : ReadAlternative → Choice
  choice_in = fold-ReadAlternative Choice Cases Cases Cases Cases alternative_choice catcher_cases else_if_cases otherwise_cases stmt_cases

  abbrev catcher_in : ReadCatcher → Cases
  catcher_in = fold-ReadCatcher Choice Cases Cases Cases Cases alternative_choice catcher_cases else_if_cases otherwise_cases stmt_cases

  abbrev branch_in : ReadElseIf → Cases
  branch_in = fold-ReadElseIf Choice Cases Cases Cases Cases alternative_choice catcher_cases else_if_cases otherwise_cases stmt_cases

  abbrev otherwise_in : ReadOtherwise → Cases
  otherwise_in = fold-ReadOtherwise Choice Cases Cases Cases Cases alternative_choice catcher_cases else_if_cases otherwise_cases
      stmt_cases

  -- the masks of an alternative fit the type of the value, and those inside it have one width
  record ChoiceFits (T : Ty) (c : Choice) : Type 0 where
    fits : (n : ℕ) (ls : Masks) → literals n c.patterns ≡ Some ls → AllFit t T ls
    inside : AllEven c.inside

  abbrev AlternativeGood : ReadAlternative → Type 0
  AlternativeGood x = (T : Ty) (B : Body) (a : TypedAlternative) →
      alternative_rule t (found_alternative (alternative_written x)) T B ≡ Ok a → ChoiceFits T (choice_in x)

  abbrev CatcherGood : ReadCatcher → Type 0
  CatcherGood x = (B : Body) (a : TypedCatcher) → catcher_rule (found_catcher (catcher_written x)) B ≡ Ok a → AllEven (catcher_in x)

  abbrev BranchHas : FoundBranch → Body → Cases → Type 0
  BranchHas b B cs = (a : TypedBranch) → branch_rule t b.condition b.body B ≡ Ok a → AllEven cs

  abbrev BranchGood : ReadElseIf → Type 0
  BranchGood x = (B : Body) → BranchHas (found_branch (else_if_written x)) B (branch_in x)

  abbrev OtherwiseGood : ReadOtherwise → Type 0
  OtherwiseGood x = (B : Body) (a : LastListed) → last_block (found_otherwise (otherwise_written x)) B ≡ Ok a → AllEven (otherwise_in x)

  abbrev ListHas : List Stmt → Cases → Type 0
  ListHas ss cs = (k : Effect) (B : Body) (l : Listed) → in_order (map (found_stmt t) ss) k B ≡ Ok l → AllEven cs

  abbrev StmtGood : ReadStmt → Type 0
  StmtGood s = ListHas (stmt_written s) (cases_in s)

  abbrev AA : Type 0
  AA = induction.WithAlternative AlternativeGood CatcherGood BranchGood OtherwiseGood StmtGood

  abbrev CC : Type 0
  CC = induction.WithCatcher AlternativeGood CatcherGood BranchGood OtherwiseGood StmtGood

  abbrev BB : Type 0
  BB = induction.WithElseIf AlternativeGood CatcherGood BranchGood OtherwiseGood StmtGood

  abbrev OO : Type 0
  OO = induction.WithOtherwise AlternativeGood CatcherGood BranchGood OtherwiseGood StmtGood

  abbrev SS : Type 0
  SS = induction.WithStmt AlternativeGood CatcherGood BranchGood OtherwiseGood StmtGood

  -- ---- lists

  pub list_good : (ss : List ReadStmt) → AllOf StmtGood ss → ListHas (joined (map stmt_written ss)) (joined (map cases_in ss))
  list_good [] g k B l h = tt
  list_good (s ∷ ss) g k B l h =
      let p = parted (stmt_written s) (joined (map stmt_written ss)) k B l h in
      all_append CaseEven (cases_in s) (joined (map cases_in ss)) (g.0 k B p.first p.first_is)
      (list_good ss g.1 p.effect p.body p.second p.second_is)

  goods : (ys : List SS) → AllOf StmtGood (map (λ y. y.0) ys)
  goods [] = tt
  goods (y ∷ ys) = (y.1, goods ys)

  trees_good : (ys : List SS) → ListHas (joined (map stmt_written (map (λ y. y.0) ys))) (joined (map cases_in (map (λ y. y.0) ys)))
  trees_good ys = list_good (map (λ y. y.0) ys) (goods ys)

  branches_good : (ys : List BB) (B : Body) (bs : List TypedBranch) →
      branches t (map found_branch (map else_if_written (map (λ y. y.0) ys))) B ≡ Ok bs →
      AllEven (joined (map branch_in (map (λ y. y.0) ys)))
  branches_good [] B bs h = tt
  branches_good (y ∷ ys) B bs h =
      let a = bind_ok (branch_rule t (found_branch (else_if_written y.0)).condition (found_branch (else_if_written y.0)).body B) _ bs h in
      let b = bind_ok (branches t (map found_branch (map else_if_written (map (λ y. y.0) ys))) B) _ bs a.then in
      all_append CaseEven (branch_in y.0) (joined (map branch_in (map (λ y. y.0) ys)))
      (y.1 B a.value a.first) (branches_good ys B b.value b.first)

  catchers_good : (ys : List CC) (B : Body) (xs : List TypedCatcher) →
      catchers (map found_catcher (map catcher_written (map (λ y. y.0) ys))) B ≡ Ok xs →
      AllEven (joined (map catcher_in (map (λ y. y.0) ys)))
  catchers_good [] B xs h = tt
  catchers_good (y ∷ ys) B xs h =
      let a = bind_ok (catcher_rule (found_catcher (catcher_written y.0)) B) _ xs h in
      let b = bind_ok (catchers (map found_catcher (map catcher_written (map (λ y. y.0) ys))) B) _ xs a.then in
      all_append CaseEven (catcher_in y.0) (joined (map catcher_in (map (λ y. y.0) ys)))
      (y.1 B a.value a.first) (catchers_good ys B b.value b.first)

  alternatives_good : (ys : List AA) (T : Ty) (B : Body) (xs : List TypedAlternative) →
      alternatives t (map found_alternative (map alternative_written (map (λ y. y.0) ys))) T B ≡ Ok xs →
      AllOf (ChoiceFits T) (map choice_in (map (λ y. y.0) ys))
  alternatives_good [] T B xs h = tt
  alternatives_good (y ∷ ys) T B xs h =
      let a = bind_ok (alternative_rule t (found_alternative (alternative_written y.0)) T B) _ xs h in
      let b = bind_ok (alternatives t (map found_alternative (map alternative_written (map (λ y. y.0) ys))) T B) _ xs a.then in
      (y.1 T B a.value a.first, alternatives_good ys T B b.value b.first)

  -- ---- a `case`

  insides_even : (T : Ty) (cs : List Choice) → AllOf (ChoiceFits T) cs → AllEven (joined (inside_of cs))
  insides_even T [] h = tt
  insides_even T (c ∷ cs) h =
      all_append CaseEven c.inside (joined (inside_of cs)) h.0.inside (insides_even T cs h.1)

  both_fit : (T : Ty) (e : Option Expr) (o os : Option Masks) → ((ls : Masks) → o ≡ Some ls → AllFit t T ls) →
      ((ls : Masks) → os ≡ Some ls → AllFit t T ls) → (ls : Masks) → both (unless_where e o) os ≡ Some ls → AllFit t T ls
  both_fit T (Some e) o os h k ls is = none_some ls is
  both_fit T None None os h k ls is = none_some ls is
  both_fit T None (Some ms) None h k ls is = none_some ls is
  both_fit T None (Some ms) (Some more) h k ls is =
      subst (AllFit t T) (some_same (ms ++ more) ls is) (all_append _ ms more (h ms refl) (k more refl))

  masks_fit : (T : Ty) (n : ℕ) (cs : List Choice) → AllOf (ChoiceFits T) cs → (ls : Masks) → masks_from n cs ≡ Some ls → AllFit t T ls
  masks_fit T n [] h ls is = subst (AllFit t T) (some_same [] ls is) tt
  masks_fit T n (c ∷ cs) h ls is =
      both_fit T c.condition (literals n c.patterns) (masks_from (suc n) cs) (h.0.fits n) (masks_fit T (suc n) cs h.1) ls is

  module _ (right : IsRight t) where
    case_with_even : (T : Ty) (span : Span) (o : Option Masks) → ((ls : Masks) → o ≡ Some ls → AllFit t T ls) → AllEven (case_with span o)
    case_with_even T span None h = tt
    case_with_even T span (Some ls) h = (fit_even t right T ls (h ls refl), tt)

    case_even : (T : Ty) (span : Span) (cs : List Choice) → AllOf (ChoiceFits T) cs → AllEven (case_at span cs)
    case_even T span [] h = tt
    case_even T span (c ∷ cs) h = case_with_even T span (masks_from 0 (c ∷ cs)) (masks_fit T 0 (c ∷ cs) h)

    -- ---- one layer

    abbrev written_inside : rs.ReadStmt-F ReadAlternative ReadCatcher ReadElseIf ReadOtherwise ReadStmt → List Stmt
    written_inside z = stmt_layer_written (map-ReadStmt ReadAlternative ReadCatcher ReadElseIf ReadOtherwise ReadStmt Alternative Catcher
        ElseIf Otherwise (List Stmt) alternative_written catcher_written else_if_written otherwise_written stmt_written z)

    abbrev cases_inside : rs.ReadStmt-F ReadAlternative ReadCatcher ReadElseIf ReadOtherwise ReadStmt → Cases
    cases_inside z = stmt_cases (map-ReadStmt ReadAlternative ReadCatcher ReadElseIf ReadOtherwise ReadStmt Choice Cases Cases Cases Cases
        choice_in catcher_in branch_in otherwise_in cases_in z)

    layer_good : (y : rs.ReadStmt-F AA CC BB OO SS) →
        ListHas (written_inside (induction.stmt_trees AlternativeGood CatcherGood BranchGood OtherwiseGood StmtGood y))
        (cases_inside (induction.stmt_trees AlternativeGood CatcherGood BranchGood OtherwiseGood StmtGood y))
    unfolding roll-Stmt denote.Hole.Carrier.roll
    layer_good (rs.Simple s) k B l h = tt
    layer_good (rs.Store span i ps es xs e) k B l h = tt
    layer_good (rs.If span c first others last) k B l h =
        let ss = joined (map stmt_written (map (λ y. y.0) first)) in
        let os = map else_if_written (map (λ y. y.0) others) in
        let zs = joined (map stmt_written (map (λ y. y.0) last)) in
        let o = one (st.If span c ss os zs) k B l h in
        let x = bind_ok (branch_rule t c (map (found_stmt t) ss) B) _ o.done o.is in
        let y = bind_ok (branches t (map found_branch os) B) _ o.done x.then in
        let z = bind_ok (block (map (found_stmt t) zs) B) _ o.done y.then in
        let m = bind_ok (operand_of t c B.scope) _ x.value x.first in
        let n = bind_ok (block (map (found_stmt t) ss) B) _ x.value m.then in
        all_append _ (joined (map cases_in (map (λ y. y.0) first))) _ (trees_good first Pure B n.value n.first)
        (all_append _ (joined (map branch_in (map (λ y. y.0) others))) (joined (map cases_in (map (λ y. y.0) last)))
        (branches_good others B y.value y.first) (trees_good last Pure B z.value z.first))
    layer_good (rs.Case span e ass last) k B l h =
        let xs = map alternative_written (map (λ y. y.0) ass) in
        let o = one (st.Case span e xs (otherwise_written last.0)) k B l h in
        let x = bind_ok (operand_of t e B.scope) _ o.done o.is in
        let y = bind_ok (alternatives t (map found_alternative xs) x.value.typed.ty B) _ o.done x.then in
        let z = bind_ok (last_block (found_otherwise (otherwise_written last.0)) B) _ o.done y.then in
        let T = x.value.typed.ty in
        let cs = map choice_in (map (λ y. y.0) ass) in
        let f = alternatives_good ass T B y.value y.first in
        all_append _ (case_at span cs) (joined (inside_of cs) ++ otherwise_in last.0) (case_even T span cs f)
        (all_append _ (joined (inside_of cs)) (otherwise_in last.0) (insides_even T cs f) (last.1 B z.value z.first))
    layer_good (rs.For span i a d b limit ss) k B l h =
        let zs = joined (map stmt_written (map (λ y. y.0) ss)) in
        let o = one (st.For span i a d b limit zs) k B l h in
        let S = bind_ok (operand_of t a B.scope) _ o.done o.is in
        let T = bind_ok (operand_of t b B.scope) _ o.done S.then in
        let m = bind_ok (limit_typed t limit B.scope) _ o.done T.then in
        let n = then_ok (index_rule i S.value T.value B) _ o.done m.then in
        let C = with_index i (index_type t d a b B.scope) B in
        let x = bind_ok (block (map (found_stmt t) zs) C) _ o.done n.then in
        trees_good ss Pure C x.value x.first
    layer_good (rs.While span c limit ss) k B l h =
        let zs = joined (map stmt_written (map (λ y. y.0) ss)) in
        let o = one (st.While span c limit zs) k B l h in
        let x = bind_ok (operand_of t c B.scope) _ o.done o.is in
        let m = bind_ok (limit_typed t limit B.scope) _ o.done x.then in
        let y = bind_ok (block (map (found_stmt t) zs) B) _ o.done m.then in
        trees_good ss Pure B y.value y.first
    layer_good (rs.Repeat span ss c limit) k B l h =
        let zs = joined (map stmt_written (map (λ y. y.0) ss)) in
        let o = one (st.Repeat span zs c limit) k B l h in
        let y = bind_ok (block (map (found_stmt t) zs) B) _ o.done o.is in
        trees_good ss Pure B y.value y.first
    layer_good (rs.Try span ss cs last) k B l h =
        let zs = joined (map stmt_written (map (λ y. y.0) ss)) in
        let xs = map catcher_written (map (λ y. y.0) cs) in
        let o = one (st.Try span zs xs (otherwise_written last.0)) k B l h in
        let x = bind_ok (block (map (found_stmt t) zs) B) _ o.done o.is in
        let y = bind_ok (catchers (map found_catcher xs) B) _ o.done x.then in
        let z = bind_ok (last_block (found_otherwise (otherwise_written last.0)) (handling B)) _ o.done y.then in
        all_append _ (joined (map cases_in (map (λ y. y.0) ss))) _ (trees_good ss Pure B x.value x.first)
        (all_append _ (joined (map catcher_in (map (λ y. y.0) cs))) (otherwise_in last.0) (catchers_good cs B y.value y.first)
        (last.1 (handling B) z.value z.first))

    stmt_step : (y : rs.ReadStmt-F AA CC BB OO SS) →
        StmtGood (roll-ReadStmt (induction.stmt_trees AlternativeGood CatcherGood BranchGood OtherwiseGood StmtGood y))
    stmt_step y k B l h =
        let z = induction.stmt_trees AlternativeGood CatcherGood BranchGood OtherwiseGood StmtGood y in
        subst AllEven (sym (fold-roll-ReadStmt Choice Cases Cases Cases Cases alternative_choice catcher_cases else_if_cases
        otherwise_cases stmt_cases z))
        (layer_good y k B l (subst (λ ss. in_order (map (found_stmt t) ss) k B ≡ Ok l) (fold-roll-ReadStmt Alternative Catcher ElseIf
        Otherwise (List Stmt) alternative_layer_written catcher_layer_written else_if_layer_written otherwise_layer_written
        stmt_layer_written z) h))

    -- ---- the lists in statements

    alternative_step : (y : rs.ReadAlternative-F AA CC BB OO SS) →
        AlternativeGood
        (roll-ReadAlternative (induction.alternative_trees AlternativeGood CatcherGood BranchGood OtherwiseGood StmtGood y))
    unfolding roll-Alternative denote.Hole.Carrier.roll
    alternative_step (rs.When ps e ss) T B a h =
        let zs = joined (map stmt_written (map (λ y. y.0) ss)) in
        let w = subst (λ x. alternative_rule t (found_alternative x) T B ≡ Ok a) (fold-roll-ReadAlternative Alternative Catcher ElseIf
        Otherwise (List Stmt) alternative_layer_written catcher_layer_written else_if_layer_written otherwise_layer_written
        stmt_layer_written (rs.When ps e (map (λ y. y.0) ss))) h in
        let f = subst (λ x. alternative_rule t x T B ≡ Ok a) (fold-roll-Alternative FoundAlternative FoundCatcher FoundBranch
        FoundOtherwise FoundStmt alternative_found catcher_found branch_found otherwise_found (stmt_layer_rule t) (st.When ps e zs)) w in
        let x = bind_ok (all_patterns t ps T B.scope) _ a f in
        let y = bind_ok (where_rule t e B.scope) _ a x.then in
        let z = bind_ok (block (map (found_stmt t) zs) B) _ a y.then in
        subst (ChoiceFits T) (sym (fold-roll-ReadAlternative Choice Cases Cases Cases Cases alternative_choice catcher_cases else_if_cases
        otherwise_cases stmt_cases (rs.When ps e (map (λ y. y.0) ss))))
        (record {
          fits = λ n ls is. literals_fit t T B.scope ps x.value x.first n ls is;
          inside = trees_good ss Pure B z.value z.first;
        })

    catcher_step : (y : rs.ReadCatcher-F AA CC BB OO SS) →
        CatcherGood (roll-ReadCatcher (induction.catcher_trees AlternativeGood CatcherGood BranchGood OtherwiseGood StmtGood y))
    unfolding roll-Catcher denote.Hole.Carrier.roll
    catcher_step (rs.Catch i ty ss) B a h =
        let zs = joined (map stmt_written (map (λ y. y.0) ss)) in
        let w = subst (λ x. catcher_rule (found_catcher x) B ≡ Ok a) (fold-roll-ReadCatcher Alternative Catcher ElseIf Otherwise
        (List Stmt) alternative_layer_written catcher_layer_written else_if_layer_written otherwise_layer_written stmt_layer_written
        (rs.Catch i ty (map (λ y. y.0) ss))) h in
        let f = subst (λ x. catcher_rule x B ≡ Ok a) (fold-roll-Catcher FoundAlternative FoundCatcher FoundBranch FoundOtherwise FoundStmt
        alternative_found catcher_found branch_found otherwise_found (stmt_layer_rule t) (st.Catch i ty zs)) w in
        let x = bind_ok (found_or (type_of_name ty.text B.scope.names) T02 ty.span) _ a f in
        let y = then_ok (need (is_exception x.value) T21 ty.span) _ a x.then in
        let c = bind_ok (with_caught i x.value B) _ a y.then in
        let z = bind_ok (block (map (found_stmt t) zs) (handling c.value)) _ a c.then in
        subst AllEven (sym (fold-roll-ReadCatcher Choice Cases Cases Cases Cases alternative_choice catcher_cases else_if_cases
        otherwise_cases stmt_cases (rs.Catch i ty (map (λ y. y.0) ss))))
        (trees_good ss Pure (handling c.value) z.value z.first)

    branch_step : (y : rs.ReadElseIf-F AA CC BB OO SS) →
        BranchGood (roll-ReadElseIf (induction.branch_trees AlternativeGood CatcherGood BranchGood OtherwiseGood StmtGood y))
    unfolding roll-ElseIf denote.Hole.Carrier.roll
    branch_step (rs.ElseIf c ss) B a h =
        let zs = joined (map stmt_written (map (λ y. y.0) ss)) in
        let w = subst (λ x. branch_rule t (found_branch x).condition (found_branch x).body B ≡ Ok a) (fold-roll-ReadElseIf Alternative
        Catcher ElseIf Otherwise (List Stmt) alternative_layer_written catcher_layer_written else_if_layer_written otherwise_layer_written
        stmt_layer_written (rs.ElseIf c (map (λ y. y.0) ss))) h in
        let f = subst (λ (x : FoundBranch). branch_rule t x.condition x.body B ≡ Ok a) (fold-roll-ElseIf FoundAlternative FoundCatcher
        FoundBranch FoundOtherwise FoundStmt alternative_found catcher_found branch_found otherwise_found (stmt_layer_rule t)
        (st.ElseIf c zs)) w in
        let x = bind_ok (operand_of t c B.scope) _ a f in
        let z = bind_ok (block (map (found_stmt t) zs) B) _ a x.then in
        subst AllEven (sym (fold-roll-ReadElseIf Choice Cases Cases Cases Cases alternative_choice catcher_cases else_if_cases
        otherwise_cases stmt_cases (rs.ElseIf c (map (λ y. y.0) ss))))
        (trees_good ss Pure B z.value z.first)

    otherwise_step : (y : rs.ReadOtherwise-F AA CC BB OO SS) →
        OtherwiseGood (roll-ReadOtherwise (induction.otherwise_trees AlternativeGood CatcherGood BranchGood OtherwiseGood StmtGood y))
    unfolding roll-Otherwise denote.Hole.Carrier.roll
    otherwise_step rs.NoOtherwise B a h =
        subst AllEven (sym (fold-roll-ReadOtherwise Choice Cases Cases Cases Cases alternative_choice catcher_cases else_if_cases
        otherwise_cases stmt_cases rs.NoOtherwise)) tt
    otherwise_step (rs.Otherwise ss) B a h =
        let zs = joined (map stmt_written (map (λ y. y.0) ss)) in
        let w = subst (λ x. last_block (found_otherwise x) B ≡ Ok a) (fold-roll-ReadOtherwise Alternative Catcher ElseIf Otherwise
        (List Stmt) alternative_layer_written catcher_layer_written else_if_layer_written otherwise_layer_written stmt_layer_written
        (rs.Otherwise (map (λ y. y.0) ss))) h in
        let f = subst (λ x. last_block x B ≡ Ok a) (fold-roll-Otherwise FoundAlternative FoundCatcher FoundBranch FoundOtherwise FoundStmt
        alternative_found catcher_found branch_found otherwise_found (stmt_layer_rule t) (st.Otherwise zs)) w in
        let z = bind_ok (block (map (found_stmt t) zs) B) _ a f in
        subst AllEven (sym (fold-roll-ReadOtherwise Choice Cases Cases Cases Cases alternative_choice catcher_cases else_if_cases
        otherwise_cases stmt_cases (rs.Otherwise (map (λ y. y.0) ss))))
        (trees_good ss Pure B z.value z.first)

    steps : induction.Steps AlternativeGood CatcherGood BranchGood OtherwiseGood StmtGood
    steps = record {
      alternative = alternative_step;
      catcher = catcher_step;
      branch = branch_step;
      otherwise = otherwise_step;
      stmt = stmt_step;
    }

    each_good : (s : ReadStmt) → StmtGood s
    each_good = induction.all_stmts AlternativeGood CatcherGood BranchGood OtherwiseGood StmtGood steps

    all_good : (ss : List ReadStmt) → AllOf StmtGood ss
    all_good [] = tt
    all_good (s ∷ ss) = (each_good s, all_good ss)

    -- a body that is judged
    pub body_even : (ss : List ReadStmt) (k : Effect) (B : Body) (l : Listed) →
        in_order (map (found_stmt t) (joined (map stmt_written ss))) k B ≡ Ok l → AllEven (joined (map cases_in ss))
    body_even ss = list_good ss (all_good ss)
