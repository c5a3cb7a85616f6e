-- A store into a part, as the code puts its statements together.
use Rattle.std.proofs.Common.{◌≡◌, ℕ, suc, ◌-◌, ◌<◌, List, [], ◌∷◌, ◌++◌, map, length, take, drop, refl, sym, ap, ◌∙◌, append_assoc, arith}
use Rattle.std.proofs.lemmas.List.{take_rest}
use Rattle.asl_syn.specs.declared.token.Span.{Span}
use Rattle.asl_syn.specs.declared.tree.Ident.{Ident}
use Rattle.asl_syn.specs.declared.tree.Expr.{Expr}
use Rattle.asl_syn.specs.declared.tree.Expr.TheVariants as ex
use Rattle.asl_syn.specs.declared.tree.LocalKind.TheVariants as lk
use Rattle.asl_syn.specs.declared.tree.PlacedSuffix.{PlacedSuffix}
use Rattle.asl_syn.specs.declared.tree.Stmt.{Stmt}
use Rattle.asl_syn.specs.declared.tree.Stmt.TheVariants as stm
use Rattle.asl_syn.specs.declared.tree.Target.TheVariants as tg
use Rattle.asl_rules.specs.expressions.Exprs.{expr_span}
use Rattle.asl_rules.specs.declarations.WrittenOut.{bound, ident, made_place, made_value, stored, stored_to, values_bound, values_named}
use Rattle.asl_accessors.specs.private.Names.{names_at}

names_named : (at : Span) (n : ℕ) (es : List Expr) → values_named at n es ≡ names_at at n (map expr_span es)
names_named at n [] = refl
names_named at n (e ∷ es) = ap (λ ns. ex.Name (expr_span e) (made_value at n) ∷ ns) (names_named at (suc n) es)

part_is : (at : Span) (i : Ident) (ps es : List Expr) (xs : List PlacedSuffix) (e : Expr) → 0 < length xs →
    stored at i ps es xs e ≡
    values_bound at 0 (e ∷ es) ++
    bound at lk.Var (ident at (made_place at)) (ex.Call at i ps (names_at at 1 (map expr_span es))) ∷
    stm.Assign at (tg.Place (stored_to i 0 xs) (ident i.span (made_place at)) xs) (ex.Name (expr_span e) (made_value at 0)) ∷
    stm.Invoke at i ps (ex.Name at (made_place at) ∷ names_at at 1 (map expr_span es)) ∷ []
part_is at i ps es [] e h = absurd (omega (arith, h))
part_is at i ps es (x ∷ xs) e h =
    ap (λ ns. values_bound at 0 (e ∷ es) ++
    bound at lk.Var (ident at (made_place at)) (ex.Call at i ps ns) ∷
    stm.Assign at (tg.Place (stored_to i x.end xs) (ident i.span (made_place at)) (x ∷ xs)) (ex.Name (expr_span e) (made_value at 0)) ∷
    stm.Invoke at i ps (ex.Name at (made_place at) ∷ ns) ∷ []) (names_named at 1 es)

-- where the arguments stand, behind what is stored
pub others_placed : (spans : List Span) (values es : List Expr) (e : Expr) → spans ≡ map expr_span values → values ≡ e ∷ es →
    take (length spans - 1) (drop 1 spans) ≡ map expr_span es
others_placed spans values es e placed all = take_rest spans 1 ∙ ap (λ (ss : List Span). drop 1 ss) (placed ∙ ap (map expr_span) all)

one_by_one : {A : Type 0} (old xs : List A) (a b d : A) → (((old ++ xs) ++ a ∷ []) ++ b ∷ []) ++ d ∷ [] ≡ old ++ (xs ++ a ∷ b ∷ d ∷ [])
one_by_one old xs a b d = simp append_assoc

-- the statements are written one behind the other
pub part_written :
    (at : Span) (i : Ident) (ps qs es values : List Expr) (xs : List PlacedSuffix) (e : Expr) (value_at : Span) (spans : List Span)
    (old bound_all got_it stored_it new : List Stmt) (got stored_in given : Stmt) →
    got ≡ bound at lk.Var (ident at (made_place at)) (ex.Call at i qs (names_at at 1 spans)) →
    stored_in ≡ stm.Assign at (tg.Place (stored_to i 0 xs) (ident i.span (made_place at)) xs) (ex.Name value_at (made_value at 0)) →
    given ≡ stm.Invoke at i ps (ex.Name at (made_place at) ∷ names_at at 1 spans) →
    bound_all ≡ old ++ values_bound at 0 values → got_it ≡ bound_all ++ got ∷ [] → stored_it ≡ got_it ++ stored_in ∷ [] →
    new ≡ stored_it ++ given ∷ [] →
    0 < length xs → qs ≡ ps → values ≡ e ∷ es → spans ≡ map expr_span es → value_at ≡ expr_span e → new ≡ old ++ stored at i ps es xs e
part_written at i ps qs es values xs e value_at spans old bound_all got_it stored_it new got stored_in given g s b p0 p1 p2 p3 some ws vs ss va =
    rw (p3, p2, p1, p0, g, s, b, ws, ss, va, vs)
    (one_by_one old (values_bound at 0 (e ∷ es)) _ _ _ ∙ ap (λ (after : List Stmt). old ++ after) (sym (part_is at i ps es xs e some)))
