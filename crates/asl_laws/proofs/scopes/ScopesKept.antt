-- The scopes of bodies stay well counted and over their own atoms, behind each statement and each list.
use Rattle.std.proofs.Common.{◌≡◌, ℕ, true, List, [], ◌∷◌, ◌++◌, Option, Some, None, map, Ok, sym, subst}
use Rattle.asl_syn.specs.declared.code.StaticCode.TheVariants.{T01}
use Rattle.asl_syn.specs.declared.tree.Expr.{Expr}
use Rattle.asl_syn.specs.declared.tree.Ident.{Ident}
use Rattle.asl_syn.specs.declared.tree.Direction.{Direction}
use Rattle.asl_syn.specs.declared.tree.Stmt.{Stmt}
use Rattle.asl_syn.specs.declared.tree.Func.{Func}
use Rattle.asl_rules.specs.declared.effect.Effect.{Effect}
use Rattle.asl_rules.specs.Tests.{Tests}
use Rattle.asl_rules.specs.Faults.{need}
use Rattle.asl_rules.specs.types.Types.{Ty}
use Rattle.asl_rules.specs.declarations.Scopes.{Scope, Body, Entry, Signature, fixed, atom_at, next_atom, is_free, type_of_name, body_names}
use Rattle.asl_rules.specs.statements.Branches.{index_type, with_index, with_caught}
use Rattle.asl_rules.specs.statements.Acting.{Done, Listed, in_order}
use Rattle.asl_rules.specs.statements.Stmts.{found_stmt}
use Rattle.asl_rules.specs.declarations.Programs.{Head, signature_rule}
use Rattle.asl_rules.specs.private.Worth.{WellCounted}
use Rattle.asl_rules.proofs.basics.Inversions.{ok_ok, then_ok}
use Rattle.asl_rules.proofs.widths.Counting.{well_kept, atom_counts}
use Rattle.asl_rules.proofs.widths.ScopesCounted.{signature_counted, bind_counted, vars_counted, plain_counts}
use Rattle.asl_laws.proofs.widths.TypesOver.{Never}
use Rattle.asl_laws.specs.ScopeRules.{NoneShadowed, EachOver, Below, KeepsRules}
use Rattle.asl_laws.proofs.scopes.ScopeRules.{added, bind_added, vars_added, head_added, caught_added}
use Rattle.asl_laws.proofs.scopes.OverScope.{SubsOver}
use Rattle.asl_laws.proofs.scopes.NamesOutside.{NamesOutside, outside_counted, outside_over}
use Rattle.asl_laws.proofs.scopes.BodiesOver.{ScopeOver, signature_over, bind_over, vars_over, index_over, caught_over}
use Rattle.asl_rules.proofs.scopes.KeptNames.{DeclarationsKeep, stmt_keeps, list_keeps}

-- what a body is judged in: each `let` counts as names that stand for themselves, no name is shadowed, and types have atoms of the names alone
pub record GoodScope (t : Tests) (G : Scope) : Type 0 where
  pub counted : WellCounted G.names
  pub shadowed : NoneShadowed G.names
  pub over : ScopeOver t G.names
  pub subs : SubsOver G.subs

-- so it is said of the names and of the subprograms, whatever the class is
pub record Ruled (names : List Entry) (subs : List Signature) : Type 0 where
  pub counted : WellCounted names
  pub shadowed : NoneShadowed names
  pub types : EachOver (Below names) names
  pub results : SubsOver subs

pub ruled : (t : Tests) (G : Scope) → GoodScope t G → Ruled G.names G.subs
ruled t G g = record { counted = g.counted; shadowed = g.shadowed; types = g.over.each; results = g.subs }

pub keeps_rules : (G : Scope) → Ruled G.names G.subs → KeepsRules G
keeps_rules G r = record { shadowed = r.shadowed; types = r.types; results = r.results }

kept : (t : Tests) → DeclarationsKeep t (GoodScope t)
kept t = record {
  bind = λ span kind b ty e G d p h. record { counted = bind_counted t span kind b ty e G d p.counted h; shadowed = bind_added t span kind b ty e G d p.shadowed h; over = bind_over t span kind b ty e G d p.over p.subs h; subs = p.subs };
  vars = λ span is ty G d p h. record { counted = vars_counted t span is ty G d p.counted h; shadowed = vars_added t span is ty G d p.shadowed h; over = vars_over t span is ty G d p.over h; subs = p.subs };
}

pub stmt_scope : (t : Tests) (s : Stmt) (B : Body) (d : Done) → GoodScope t B.scope → found_stmt t s B ≡ Ok d → GoodScope t (record B.scope { names = d.names })
stmt_scope t s B d p h = stmt_keeps t (GoodScope t) (kept t) s B d p h

pub list_scope : (t : Tests) (ss : List Stmt) (k : Effect) (B : Body) (l : Listed) → GoodScope t B.scope → in_order (map (found_stmt t) ss) k B ≡ Ok l → GoodScope t (record B.scope { names = l.names })
list_scope t ss k B l p h = list_keeps t (GoodScope t) (kept t) ss k B l p h

-- what a body begins with
pub head_scope : (t : Tests) (base : List Entry) → NamesOutside base → (f : Func) (head : Head) (G : Scope) → G.names ≡ head.names →
    SubsOver G.subs → signature_rule t base f ≡ Ok head → GoodScope t G
head_scope t base out f head G e s h = record {
  counted = subst WellCounted (sym e) (signature_counted t base f head (outside_counted base out) h);
  shadowed = subst NoneShadowed (sym e) (head_added t base f head out.shadowed h);
  over = subst (ScopeOver t) (sym e) (signature_over t base f head (outside_over base out Never) h).names;
  subs = s;
}

-- what the list of a loop is judged in, whose index isn't visible before
pub index_scope : (t : Tests) (i : Ident) (d : Direction) (a b : Expr) (B : Body) → is_free i.text B.scope.names ≡ true → GoodScope t B.scope → GoodScope t (with_index i (index_type t d a b B.scope) B).scope
index_scope t i d a b B f p =
    let T : Ty = index_type t d a b B.scope in
    record {
      counted = well_kept B.scope.names (fixed i.text T (Some (atom_at (next_atom B.scope.names)))) p.counted (atom_counts B.scope.names i.text T f);
      shadowed = added B.scope.names (fixed i.text T (Some (atom_at (next_atom B.scope.names)))) p.shadowed f;
      over = index_over t i d a b B p.over;
      subs = p.subs;
    }

-- and that of a catcher
pub caught_scope : (t : Tests) (i : Option Ident) (T : Ty) (name : List ℕ) (B C : Body) → GoodScope t B.scope → type_of_name name B.scope.names ≡ Some T → with_caught i T B ≡ Ok C → GoodScope t C.scope
caught_scope t None T name B C p h k = subst (λ (z : Body). GoodScope t z.scope) (ok_ok B C k) p
caught_scope t (Some i) T name B C p h k =
    let u = then_ok (need (is_free i.text B.scope.names) T01 i.span) _ C k in
    let c : WellCounted (B.scope.names ++ fixed i.text T None ∷ []) = well_kept B.scope.names (fixed i.text T None) p.counted (plain_counts B.scope.names i.text T) in
    let e = ok_ok (body_names B (B.scope.names ++ fixed i.text T None ∷ [])) C u.then in
    record {
      counted = subst (λ (z : Body). WellCounted z.scope.names) e c;
      shadowed = caught_added (Some i) T B C p.shadowed k;
      over = caught_over t (Some i) T name B C p.over h k;
      subs = subst (λ (z : Body). SubsOver z.scope.subs) e p.subs;
    }
