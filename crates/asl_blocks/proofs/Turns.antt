-- The loops of the checker, one turn more.
use Rattle.std.proofs.Common.{◌≡◌, ℕ, ◌+◌, ◌<◌, length, get_or, drop, Bool, ◌&&◌, List, [], ◌∷◌, ◌++◌, map, reverse, Option, Some, None, Result, Ok, Err, take, refl, sym, ap, ◌∙◌}
use Rattle.std.proofs.lemmas.List.{reverse-append}
use Rattle.asl_syn.specs.declared.code.Fault.{Fault}
use Rattle.asl_syn.specs.declared.tree.Binder.{Binder}
use Rattle.asl_syn.specs.declared.tree.LocalKind.{LocalKind}
use Rattle.asl_rules.specs.Faults.{◌>>=◌, need}
use Rattle.asl_rules.specs.types.Types.{Ty, Parts}
use Rattle.asl_rules.specs.declarations.Scopes.{Body, Entry, body_names, is_free, fixed, atom_at, next_atom}
use Rattle.asl_rules.specs.statements.Branches.{with_caught, with_index, index_type, index_rule}
use Rattle.asl_rules.proofs.basics.Inversions.{ok_ok, then_ok}
use Rattle.asl_rules.proofs.verdict.SomeTests.{SomeTests, some_tests, limit_within}
use Rattle.asl_types.specs.Suits.{Suits}
use Rattle.asl_bits.specs.declared.TheConstants.{WIDTH_LIMIT}
use Rattle.asl_syn.specs.declared.tree.Direction.{Direction}
use Rattle.asl_syn.specs.declared.tree.Expr.{Expr}
use Rattle.asl_syn.specs.declared.tree.Ident.{Ident}
use Rattle.asl_syn.specs.declared.code.StaticCode.TheVariants.{T01}
use Rattle.std.proofs.Math.Seq.{take-append_seam}
use Rattle.asl_rules.specs.Tests.{Tests}
use Rattle.asl_syn.specs.declared.code.Refused.{Refused}
use Rattle.asl_syn.specs.declared.code.Refused.TheVariants.{At, NoMemory}
use Rattle.asl_types.specs.private.Answers.{Met}
use Rattle.asl_rules.specs.statements.Locals.{part_declared}
use Rattle.asl_blocks.specs.private.Walks.{after, first_part, other_parts, has_part, binding, Binding, binder_declared, binder_step, Bounds, index_declared}
use Rattle.asl_blocks.proofs.Chains.{after_one, append_nothing}

pub map_last : {A B : Type 0} (f : A → B) (xs : List A) (x : A) → map f (xs ++ x ∷ []) ≡ map f xs ++ f x ∷ []
map_last f [] x = refl
map_last f (y ∷ xs) x = ap (λ l. f y ∷ l) (map_last f xs x)

-- what is made of a list with one more
pub map_more : {A B : Type 0} (f : A → B) (xs more : List A) (x : A) (y : B) → more ≡ xs ++ x ∷ [] → f x ≡ y → map f more ≡ map f xs ++ y ∷ []
map_more f xs more x y m h = ap (map f) m ∙ map_last f xs x ∙ ap (λ z. map f xs ++ z ∷ []) h

-- ---- binders

pub binders_loop : (bs : List Binder) (k : ℕ) (b : Binder) (kind : LocalKind) (w : Option Ty) (Ts Us : Parts) (ok ok1 : Bool) (part T : Ty) (names more : List Entry) (all : Result Binding Fault) → k < length bs → b ≡ get_or bs k b →
    part ≡ first_part Ts → T ≡ part_declared kind w part → Us ≡ other_parts Ts → ok1 ≡ (ok && has_part Ts) → binder_declared kind T b names ≡ Ok more →
    after (binder_step kind w) (drop k bs) (binding names Ts ok) ≡ all → after (binder_step kind w) (drop (k + 1) bs) (binding more Us ok1) ≡ all
binders_loop bs k b kind w Ts Us ok ok1 part T names more all within here p t u o h inv =
    after_one (binder_step kind w) bs k b (binding names Ts ok) (binding more Us ok1) all within here
    (ap (λ U. binder_declared kind U b names >>= λ names. Ok (binding names (other_parts Ts) (ok && has_part Ts))) (sym (t ∙ ap (part_declared kind w) p))
    ∙ ap (λ r. r >>= λ names. Ok (binding names (other_parts Ts) (ok && has_part Ts))) h
    ∙ λ i. Ok (binding more (sym u i) (sym o i)))
    inv

-- ---- the last that is taken from the end of a list that was turned round

pub turned_last : {A : Type 0} (old new : List A) (x : A) → old ≡ new ++ x ∷ [] → reverse old ≡ x ∷ reverse new
turned_last old new x h = ap reverse h ∙ reverse-append new (x ∷ [])

pub turn_loop : {X Y S : Type 0} (f : Y → S → Result S Fault) (g : X → Y) (old new : List X) (x : X) (s s1 : S) (all : Result S Fault) → old ≡ new ++ x ∷ [] → f (g x) s ≡ Ok s1 →
    after f (map g (reverse old)) s ≡ all → after f (map g (reverse new)) s1 ≡ all
turn_loop f g old new x s s1 all o h inv =
    sym (ap (λ r. r >>= λ s2. after f (map g (reverse new)) s2) h)
    ∙ ap (λ xs. after f (map g xs) s) (sym (turned_last old new x o))
    ∙ inv

-- ---- answers

-- an answer that is a fault is that of what begins so
pub met_then : {A B C D : Type 0} (v : A → B) (w : D → C) (e : Refused) (r : Result B Fault) (s : Result C Fault) (f : B → Result C Fault) → s ≡ (r >>= f) → Met v (Err e) r → Met w (Err e) s
met_then v w (At fault) r s f is h = is ∙ ap (λ q. q >>= f) h
met_then v w NoMemory r s f is h = tt

-- ---- tests that suit

-- there are some
pub suiting : SomeTests WIDTH_LIMIT
suiting = some_tests WIDTH_LIMIT limit_within

pub suits : Suits suiting.tests
suits = record { right = suiting.right; limit = suiting.within }

-- ---- names that are cut off

front : (xs more : List Entry) → take (length xs) (xs ++ more) ≡ xs
front xs more = take-append_seam xs more

whole : (xs : List Entry) → take (length xs) xs ≡ xs
whole xs = ap (take (length xs)) (sym (append_nothing xs)) ∙ front xs []

-- the names before that of a catcher stand at the beginning
pub caught_cut : (i : Option Ident) (T : Ty) (B C : Body) → with_caught i T B ≡ Ok C → take (length B.scope.names) C.scope.names ≡ B.scope.names
caught_cut None T B C h = ap (λ (x : Body). take (length B.scope.names) x.scope.names) (sym (ok_ok B C h)) ∙ whole B.scope.names
caught_cut (Some i) T B C h =
    let u = then_ok (need (is_free i.text B.scope.names) T01 i.span) (Ok (body_names B (B.scope.names ++ fixed i.text T None ∷ []))) C h in
    ap (λ (x : Body). take (length B.scope.names) x.scope.names) (sym (ok_ok (body_names B (B.scope.names ++ fixed i.text T None ∷ [])) C u.then)) ∙ front B.scope.names (fixed i.text T None ∷ [])

-- and those before the index of a loop
pub index_cut : (t : Tests) (i : Ident) (d : Direction) (a b : Expr) (x : Bounds) (B C : Body) → index_declared t i d a b x B ≡ Ok C → take (length B.scope.names) C.scope.names ≡ B.scope.names
index_cut t i d a b x B C h =
    let D : Body = with_index i (index_type t d a b B.scope) B in
    let u = then_ok (index_rule i x.from x.to B) (Ok D) C h in
    ap (λ (y : Body). take (length B.scope.names) y.scope.names) (sym (ok_ok D C u.then)) ∙ front B.scope.names (fixed i.text (index_type t d a b B.scope) (Some (atom_at (next_atom B.scope.names))) ∷ [])
