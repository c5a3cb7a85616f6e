-- What may be called at nodes less deep than a node may be called at its parts.
use Rattle.std.proofs.Common.{◌≡◌, ℕ, suc, ◌<◌, ◌≤◌, List, Bool, Result, sym, subst, arith}
use Rattle.std.specs.Borrow.{Bor}
use Rattle.std.specs.declared.alloc.Global.{Global}
use denote.Param.Weighed.{most}
use Rattle.asl_syn.specs.declared.code.Refused.{Refused}
use Rattle.asl_syn.specs.declared.token.Span.{Span}
use Rattle.asl_syn.specs.declared.tree.Ident.{Ident}
use Rattle.asl_syn.specs.declared.tree.Expr.{Expr, size-Expr}
use Rattle.asl_syn.specs.declared.tree.Expr.TheVariants as ev
use Rattle.asl_syn.specs.declared.tree.FieldValue.{FieldValue, size-FieldValue}
use Rattle.asl_syn.specs.declared.tree.FieldValue.TheVariants as fv
use Rattle.asl_syn.specs.declared.tree.Pattern.{Pattern, size-Pattern}
use Rattle.asl_syn.specs.declared.tree.Pattern.TheVariants as pv
use Rattle.asl_syn.specs.declared.tree.Slice.{Slice, size-Slice}
use Rattle.asl_syn.specs.declared.tree.Bitfield.TheViews.{sized-Given, sized-Tuple, sized-Construct, sized-Call, sized-Slices, sized-SetPattern, sized-TuplePattern}
use Rattle.asl_rules.specs.types.Types.{Ty}
use Rattle.asl_subprograms.specs.declared.context.Context.{Context}
use Rattle.asl_tree.specs.declared.tree.Tree.{Tree}
use Rattle.asl_expr.specs.private.Below.{Types, Matching}
use Rattle.asl_expr.specs.declared.patterns.Matched.{Matched}

abbrev Pre : Type 1
Pre = Global → Context → Bor Expr → Type 0

abbrev Post : Type 1
Post = Global → Context → Bor Expr → Result Tree Refused → Type 0

abbrev MatchingPre : Type 1
MatchingPre = Global → Context → Bor Pattern → Bor Ty → Type 0

abbrev MatchingPost : Type 1
MatchingPost = Global → Context → Bor Pattern → Bor Ty → Result Matched Refused → Type 0

pub weaker : (m n : ℕ) (pre : Pre) (post : Post) → m ≤ n → Types n pre post → Types m pre post
weaker m n pre post le h = record {
  callable = λ a c e lt. h.callable a c e (omega (arith, lt, le));
  meets = h.meets;
}

pub weaker_matching : (m n : ℕ) (pre : MatchingPre) (post : MatchingPost) → m ≤ n → Matching n pre post → Matching m pre post
weaker_matching m n pre post le h = record {
  callable = λ a c p T lt. h.callable a c p T (omega (arith, lt, le));
  meets = h.meets;
}

-- ---- expressions that have lists of parts

tuple_falls : (span : Span) (es : List Expr) → suc (most size-Expr es) ≤ size-Expr (ev.Tuple span es)
tuple_falls span es = omega (arith, sized-Tuple span es)

pub tuple_types : (e : Expr) (span : Span) (es fs : List Expr) (pre : Pre) (post : Post) → e ≡ ev.Tuple span es → fs ≡ es → Types (size-Expr e) pre post → Types (suc (most size-Expr fs)) pre post
tuple_types e span es fs pre post is same h =
    weaker _ _ pre post (subst (λ x. suc (most size-Expr fs) ≤ size-Expr x) (sym is) (subst (λ xs. suc (most size-Expr xs) ≤ size-Expr (ev.Tuple span es)) (sym same) (tuple_falls span es))) h

construct_falls : (span : Span) (i : Ident) (gs : List FieldValue) → suc (most size-FieldValue gs) ≤ size-Expr (ev.Construct span i gs)
construct_falls span i gs = omega (arith, sized-Construct span i gs)

pub construct_types : (e : Expr) (span : Span) (i : Ident) (gs hs : List FieldValue) (pre : Pre) (post : Post) → e ≡ ev.Construct span i gs → hs ≡ gs → Types (size-Expr e) pre post → Types (suc (most size-FieldValue hs)) pre post
construct_types e span i gs hs pre post is same h =
    weaker _ _ pre post (subst (λ x. suc (most size-FieldValue hs) ≤ size-Expr x) (sym is) (subst (λ xs. suc (most size-FieldValue xs) ≤ size-Expr (ev.Construct span i gs)) (sym same) (construct_falls span i gs))) h

call_falls : (span : Span) (i : Ident) (ps es : List Expr) → suc (most size-Expr es) ≤ size-Expr (ev.Call span i ps es)
call_falls span i ps es = omega (arith, sized-Call span i ps es)

pub call_types : (e : Expr) (span : Span) (i : Ident) (ps es fs : List Expr) (pre : Pre) (post : Post) → e ≡ ev.Call span i ps es → fs ≡ es → Types (size-Expr e) pre post → Types (suc (most size-Expr fs)) pre post
call_types e span i ps es fs pre post is same h =
    weaker _ _ pre post (subst (λ x. suc (most size-Expr fs) ≤ size-Expr x) (sym is) (subst (λ xs. suc (most size-Expr xs) ≤ size-Expr (ev.Call span i ps es)) (sym same) (call_falls span i ps es))) h

slices_falls : (span : Span) (a : Expr) (ss : List Slice) → suc (most size-Slice ss) ≤ size-Expr (ev.Slices span a ss)
slices_falls span a ss = omega (arith, sized-Slices span a ss)

pub slices_types : (e : Expr) (span : Span) (a : Expr) (ss us : List Slice) (pre : Pre) (post : Post) → e ≡ ev.Slices span a ss → us ≡ ss → Types (size-Expr e) pre post → Types (suc (most size-Slice us)) pre post
slices_types e span a ss us pre post is same h =
    weaker _ _ pre post (subst (λ x. suc (most size-Slice us) ≤ size-Expr x) (sym is) (subst (λ xs. suc (most size-Slice xs) ≤ size-Expr (ev.Slices span a ss)) (sym same) (slices_falls span a ss))) h

value_falls : (i : Ident) (e : Expr) → suc (size-Expr e) ≤ size-FieldValue (fv.Given i e)
value_falls i e = omega (arith, sized-Given i e)

pub value_types : (g : FieldValue) (i : Ident) (e : Expr) (pre : Pre) (post : Post) → g ≡ fv.Given i e → Types (size-FieldValue g) pre post → Types (suc (size-Expr e)) pre post
value_types g i e pre post is h = weaker _ _ pre post (subst (λ x. suc (size-Expr e) ≤ size-FieldValue x) (sym is) (value_falls i e)) h

-- ---- patterns that have lists of patterns

set_falls : (span : Span) (b : Bool) (ps : List Pattern) → suc (most size-Pattern ps) ≤ size-Pattern (pv.SetPattern span b ps)
set_falls span b ps = omega (arith, sized-SetPattern span b ps)

pub set_matching : (p : Pattern) (span : Span) (b : Bool) (ps qs : List Pattern) (pre : MatchingPre) (post : MatchingPost) → p ≡ pv.SetPattern span b ps → qs ≡ ps → Matching (size-Pattern p) pre post → Matching (suc (most size-Pattern qs)) pre post
set_matching p span b ps qs pre post is same h =
    weaker_matching _ _ pre post (subst (λ x. suc (most size-Pattern qs) ≤ size-Pattern x) (sym is) (subst (λ xs. suc (most size-Pattern xs) ≤ size-Pattern (pv.SetPattern span b ps)) (sym same) (set_falls span b ps))) h

tuple_pattern_falls : (span : Span) (ps : List Pattern) → suc (most size-Pattern ps) ≤ size-Pattern (pv.TuplePattern span ps)
tuple_pattern_falls span ps = omega (arith, sized-TuplePattern span ps)

pub tuple_matching : (p : Pattern) (span : Span) (ps qs : List Pattern) (pre : MatchingPre) (post : MatchingPost) → p ≡ pv.TuplePattern span ps → qs ≡ ps → Matching (size-Pattern p) pre post → Matching (suc (most size-Pattern qs)) pre post
tuple_matching p span ps qs pre post is same h =
    weaker_matching _ _ pre post (subst (λ x. suc (most size-Pattern qs) ≤ size-Pattern x) (sym is) (subst (λ xs. suc (most size-Pattern xs) ≤ size-Pattern (pv.TuplePattern span ps)) (sym same) (tuple_pattern_falls span ps))) h
