-- What is gathered out of the lists of an expression is less deep than the expression.
use Rattle.std.proofs.Common.{◌≡◌, ℕ, suc, ◌+◌, ◌*◌, ◌<◌, ◌≤◌, List, sym, subst, arith}
use Rattle.std.specs.Borrow.{Bor}
use denote.Param.Weighed.{most}
use Rattle.asl_syn.specs.declared.token.Span.{Span}
use Rattle.asl_syn.specs.declared.tree.Ident.{Ident}
use Rattle.asl_syn.specs.declared.tree.Expr.{Expr, size-Expr}
use Rattle.asl_syn.specs.declared.tree.Expr.TheVariants as ev
use Rattle.asl_syn.specs.declared.tree.FieldValue.{FieldValue, size-FieldValue}
use Rattle.asl_syn.specs.declared.tree.Slice.{Slice, size-Slice}
use Rattle.asl_syn.specs.declared.tree.Bitfield.TheViews.{sized-Tuple, sized-Construct, sized-Call, sized-Slices}
use Rattle.asl_const.specs.private.Gathered.{deepest}

-- a list of these stands below the expression
abbrev pub Below : List (Bor Expr) → Expr → Type 0
Below rs e = 2 * deepest rs + 1 < 2 * size-Expr e

-- where they are no deeper than parts of it that are as deep as n
falls : (e x : Expr) (rs qs : List (Bor Expr)) (n : ℕ) → e ≡ x → rs ≡ qs → deepest qs ≤ n → suc n ≤ size-Expr x → Below rs e
falls e x rs qs n is same d h = subst (Below rs) (sym is) (subst (λ us. Below us x) (sym same) (omega (arith, d, h)))

pub tuple_falls : (e : Expr) (span : Span) (es fs : List Expr) (rs qs : List (Bor Expr)) → e ≡ ev.Tuple span es → fs ≡ es → rs ≡ qs → deepest qs ≤ most size-Expr fs → Below rs e
tuple_falls e span es fs rs qs is parts same d =
    falls e (ev.Tuple span es) rs qs (most size-Expr es) is same (subst (λ xs. deepest qs ≤ most size-Expr xs) parts d) (omega (arith, sized-Tuple span es))

pub construct_falls : (e : Expr) (span : Span) (i : Ident) (fs gs : List FieldValue) (rs qs : List (Bor Expr)) → e ≡ ev.Construct span i fs → gs ≡ fs → rs ≡ qs → deepest qs ≤ most size-FieldValue gs → Below rs e
construct_falls e span i fs gs rs qs is parts same d =
    falls e (ev.Construct span i fs) rs qs (most size-FieldValue fs) is same (subst (λ xs. deepest qs ≤ most size-FieldValue xs) parts d) (omega (arith, sized-Construct span i fs))

pub params_fall : (e : Expr) (span : Span) (i : Ident) (ps es fs : List Expr) (rs qs : List (Bor Expr)) → e ≡ ev.Call span i ps es → fs ≡ ps → rs ≡ qs → deepest qs ≤ most size-Expr fs → Below rs e
params_fall e span i ps es fs rs qs is parts same d =
    falls e (ev.Call span i ps es) rs qs (most size-Expr ps) is same (subst (λ xs. deepest qs ≤ most size-Expr xs) parts d) (omega (arith, sized-Call span i ps es))

pub args_fall : (e : Expr) (span : Span) (i : Ident) (ps es fs : List Expr) (rs qs : List (Bor Expr)) → e ≡ ev.Call span i ps es → fs ≡ es → rs ≡ qs → deepest qs ≤ most size-Expr fs → Below rs e
args_fall e span i ps es fs rs qs is parts same d =
    falls e (ev.Call span i ps es) rs qs (most size-Expr es) is same (subst (λ xs. deepest qs ≤ most size-Expr xs) parts d) (omega (arith, sized-Call span i ps es))

pub slices_fall : (e : Expr) (span : Span) (a : Expr) (ss ts : List Slice) (rs qs : List (Bor Expr)) → e ≡ ev.Slices span a ss → ts ≡ ss → rs ≡ qs → deepest qs ≤ most size-Slice ts → Below rs e
slices_fall e span a ss ts rs qs is parts same d =
    falls e (ev.Slices span a ss) rs qs (most size-Slice ss) is same (subst (λ xs. deepest qs ≤ most size-Slice xs) parts d) (omega (arith, sized-Slices span a ss))
