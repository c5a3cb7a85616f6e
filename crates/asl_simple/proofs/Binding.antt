-- Tuple binds, binder by binder: the names are declared as they are found to be free, and counted at the end.
use Rattle.std.proofs.Common.{◌≡◌, Bool, true, false, ◌&&◌, not, if◌then◌else◌, cond, List, [], ◌∷◌, ◌++◌, Option, Some, None, Result, Ok, Err, refl, sym, ap, ◌∙◌, ℕ}
use Rattle.std.specs.Str.{bytes_eq}
use Rattle.asl_syn.specs.declared.code.Fault.{Fault}
use Rattle.asl_syn.specs.declared.code.StaticCode.TheVariants.{T01, T05}
use Rattle.asl_syn.specs.declared.token.Span.{Span}
use Rattle.asl_syn.specs.declared.tree.Binder.{Binder}
use Rattle.asl_syn.specs.declared.tree.Binder.TheVariants.{Bound, Unbound}
use Rattle.asl_syn.specs.declared.tree.Bind.{Bind}
use Rattle.asl_syn.specs.declared.tree.Bind.TheVariants.{Single, Several}
use Rattle.asl_syn.specs.declared.tree.Expr.{Expr}
use Rattle.asl_syn.specs.declared.tree.LocalKind.{LocalKind}
use Rattle.asl_syn.specs.declared.tree.LocalKind.TheVariants.{Let, Var}
use Rattle.asl_syn.specs.declared.tree.TypeExpr.{TypeExpr}
use Rattle.asl_rules.specs.Faults.{◌>>=◌, ◌>>◌, need, found_or}
use Rattle.asl_rules.specs.Tests.{Tests}
use Rattle.asl_rules.specs.types.Types.{Ty, Parts, no_part, part, tuple_parts}
use Rattle.asl_rules.specs.runs.Trees as tree
use Rattle.asl_rules.specs.declarations.Scopes.{Scope, Entry, standing_of, is_absent, is_free}
use Rattle.asl_rules.specs.values.Members.{has_name}
use Rattle.asl_rules.specs.statements.Acting.{Done, ended}
use Rattle.asl_rules.specs.statements.Locals.{Initialised, declared, part_declared, itself, binders_free, bound_parts, bound_in, written_or, taken, initialised, several_declared, bound, bind_rule}
use Rattle.asl_blocks.specs.private.Walks.{after, first_part, other_parts, has_part, has_none, Binding, binding, binder_declared, binder_step, uncounted, binders_walk, several_walk, bound_walk, bind_walk}
use Rattle.asl_blocks.proofs.Chains.{then_same, then_then}

-- ---- names that were declared on the way

-- a name is free among these where it is free among those before, and isn't one of the names between
FreeAmong : List Entry → List (List ℕ) → List Entry → Type 0
FreeAmong names before more = (q : List ℕ) → is_free q more ≡ (is_free q names && not (has_name q before))

free_last : (names : List Entry) (e : Entry) (q : List ℕ) → is_free q (names ++ e ∷ []) ≡ (is_free q names && not (bytes_eq e.name q))
free_last [] e q = by (bytes_eq e.name q)
  where
    by : (t : Bool) → is_absent (cond t (Some e.standing) None) ≡ not t
    by true = refl
    by false = refl
free_last (x ∷ xs) e q = by (bytes_eq x.name q) (free_last xs e q)
  where
    by : (t : Bool) → is_free q (xs ++ e ∷ []) ≡ (is_free q xs && not (bytes_eq e.name q)) → is_absent (cond t (Some x.standing) (standing_of q (xs ++ e ∷ []))) ≡ (is_absent (cond t (Some x.standing) (standing_of q xs)) && not (bytes_eq e.name q))
    by true h = refl
    by false h = h

name_last : (ns : List (List ℕ)) (n q : List ℕ) (a : Bool) → ((a && not (has_name q ns)) && not (bytes_eq n q)) ≡ (a && not (has_name q (ns ++ n ∷ [])))
name_last [] n q a = by a (bytes_eq n q)
  where
    by : (a t : Bool) → ((a && true) && not t) ≡ (a && not (if t then true else false))
    by true true = refl
    by true false = refl
    by false t = refl
name_last (m ∷ ns) n q a = by (bytes_eq m q) (name_last ns n q a)
  where
    rest : (a t : Bool) → ((a && false) && not t) ≡ (a && false)
    rest true t = refl
    rest false t = refl

    by : (t : Bool) → ((a && not (has_name q ns)) && not (bytes_eq n q)) ≡ (a && not (has_name q (ns ++ n ∷ []))) →
        ((a && not (if t then true else has_name q ns)) && not (bytes_eq n q)) ≡ (a && not (if t then true else has_name q (ns ++ n ∷ [])))
    by true h = rest a (bytes_eq n q)
    by false h = h

free_more : (names : List Entry) (before : List (List ℕ)) (more : List Entry) (e : Entry) → FreeAmong names before more → FreeAmong names (before ++ e.name ∷ []) (more ++ e ∷ [])
unfolding FreeAmong
free_more names before more e h = λ q. free_last more e q ∙ ap (λ b. b && not (bytes_eq e.name q)) (h q) ∙ name_last before e.name q (is_free q names)

-- ---- the names at the end, and whether there are as many parts

abbrev with_binder : LocalKind → Ty → Binder → List Entry → List Entry
with_binder kind T (Bound i) names = names ++ declared kind i.text T (itself T names) ∷ []
with_binder kind T (Unbound at) names = names

abbrev ends : List Binder → LocalKind → Option Ty → Parts → Bool → List Entry → Binding
ends [] kind w Ts ok names = binding names Ts ok
ends (b ∷ bs) kind w Ts ok names = ends bs kind w (other_parts Ts) (ok && has_part Ts) (with_binder kind (part_declared kind w (first_part Ts)) b names)

too_few : (bs : List Binder) (kind : LocalKind) (w : Option Ty) (Ts : Parts) (names : List Entry) → (ends bs kind w Ts false names).as_many ≡ false
too_few [] kind w Ts names = refl
too_few (b ∷ bs) kind w Ts names = too_few bs kind w (other_parts Ts) (with_binder kind (part_declared kind w (first_part Ts)) b names)

at_end : Binding → Option (List Entry)
at_end s = if s.as_many && has_none s.rest then Some s.names else None

none_at_end : (s : Binding) → s.as_many ≡ false → at_end s ≡ None
unfolding at_end
none_at_end s h = ap (λ b. if b && has_none s.rest then Some s.names else None) h

bound_is : (bs : List Binder) (kind : LocalKind) (w : Option Ty) (Ts : Parts) (names : List Entry) → bound_parts bs kind w Ts names ≡ at_end (ends bs kind w Ts true names)
unfolding at_end
bound_is [] kind w no_part names = refl
bound_is [] kind w (part T Ts) names = refl
bound_is (Bound i ∷ bs) kind w no_part names = sym (none_at_end _ (too_few bs kind w no_part (with_binder kind (part_declared kind w (first_part no_part)) (Bound i) names)))
bound_is (Unbound at ∷ bs) kind w no_part names = sym (none_at_end _ (too_few bs kind w no_part names))
bound_is (Bound i ∷ bs) kind w (part T Ts) names = bound_is bs kind w Ts (names ++ declared kind i.text (part_declared kind w T) (itself (part_declared kind w T) names) ∷ [])
bound_is (Unbound at ∷ bs) kind w (part T Ts) names = bound_is bs kind w Ts names

-- one name, by either test
step : {A B C : Type 0} (s t : Bool) (span : Span) (x : A) (g : A → Result C Fault) (f : C → Result B Fault) (c : C) (rest : Result (Unit {0}) Fault) (e : Result B Fault) → s ≡ t → g x ≡ Ok c → f c ≡ (rest >> e) →
    (((need s T01 span >> Ok x) >>= g) >>= f) ≡ ((need t T01 span >> rest) >> e)
step true true span x g f c rest e h k m = ap (λ r. r >>= f) k ∙ m
step false false span x g f c rest e h k m = refl
step true false span x g f c rest e h k m = cc h
step false true span x g f c rest e h k m = cc h

declared_name : (kind : LocalKind) (i : List ℕ) (T : Ty) (names : List Entry) → (declared kind i T (itself T names)).name ≡ i
declared_name Let i T names = refl
declared_name Var i T names = refl

free_one : (kind : LocalKind) (i : List ℕ) (T : Ty) (all : List Entry) (before : List (List ℕ)) (more : List Entry) → FreeAmong all before more → FreeAmong all (before ++ i ∷ []) (more ++ declared kind i T (itself T more) ∷ [])
unfolding FreeAmong
free_one kind i T all before more h = λ q.
    free_more all before more (declared kind i T (itself T more)) h q ∙ ap (λ n. is_free q all && not (has_name q (before ++ n ∷ []))) (declared_name kind i T more)

walked : (bs : List Binder) (kind : LocalKind) (w : Option Ty) (Ts : Parts) (ok : Bool) (names : List Entry) (before : List (List ℕ)) (more : List Entry) → FreeAmong names before more →
    after (binder_step kind w) bs (binding more Ts ok) ≡ (binders_free bs before names >> Ok (ends bs kind w Ts ok more))
unfolding FreeAmong
walked [] kind w Ts ok names before more h = refl
walked (Bound i ∷ bs) kind w Ts ok names before more h =
    let T : Ty = part_declared kind w (first_part Ts) in
    let more1 : List Entry = more ++ declared kind i.text T (itself T more) ∷ [] in
    step (is_free i.text more) (is_free i.text names && not (has_name i.text before)) i.span more1
    (λ names. Ok (binding names (other_parts Ts) (ok && has_part Ts))) (λ s. after (binder_step kind w) bs s) (binding more1 (other_parts Ts) (ok && has_part Ts))
    (binders_free bs (before ++ i.text ∷ []) names) (Ok (ends bs kind w (other_parts Ts) (ok && has_part Ts) more1))
    (h i.text) refl
    (walked bs kind w (other_parts Ts) (ok && has_part Ts) names (before ++ i.text ∷ []) more1 (free_one kind i.text T names before more h))
walked (Unbound at ∷ bs) kind w Ts ok names before more h = walked bs kind w (other_parts Ts) (ok && has_part Ts) names before more h

free_now : (names : List Entry) → FreeAmong names [] names
unfolding FreeAmong
free_now names = λ q. by (is_free q names)
  where
    by : (b : Bool) → b ≡ (b && true)
    by true = refl
    by false = refl

-- ---- the end of a tuple bind

counted : (s : Binding) (span : Span) (F : List Entry → Result Done Fault) → (found_or (at_end s) T05 span >>= F) ≡ (need (s.as_many && has_none s.rest) T05 span >> F s.names)
unfolding at_end
counted s span F = by (s.as_many && has_none s.rest)
  where
    by : (b : Bool) → (found_or (if b then Some s.names else None) T05 span >>= F) ≡ (need b T05 span >> F s.names)
    by true = refl
    by false = refl

abbrev with_count : Binding → Result (List Entry × Bool) Fault
with_count s = Ok (s.names, s.as_many && has_none s.rest)

parts_walk : (bs : List Binder) (kind : LocalKind) (w : Option Ty) (o : Option Parts) (names : List Entry) (span : Span) (F : List Entry → Result Done Fault) →
    (binders_free bs [] names >> (found_or (bound_in bs kind w o names) T05 span >>= F)) ≡ (binders_walk bs kind w o names >>= λ p. need p.1 T05 span >> F p.0)
parts_walk bs kind w None names span F =
    by (binders_free bs [] names)
    ∙ sym (ap (λ r. ((r >>= with_count) >>= uncounted) >>= λ p. need p.1 T05 span >> F p.0) (walked bs kind w no_part true names [] names (free_now names)))
  where
    by : (r : Result (Unit {0}) Fault) → (r >> (found_or None T05 span >>= F)) ≡ ((((r >> Ok (ends bs kind w no_part true names)) >>= with_count) >>= uncounted) >>= λ p. need p.1 T05 span >> F p.0)
    by (Ok x) = refl
    by (Err f) = refl
parts_walk bs kind w (Some Ts) names span F =
    ap (λ o. binders_free bs [] names >> (found_or o T05 span >>= F)) (bound_is bs kind w Ts names)
    ∙ by (binders_free bs [] names)
    ∙ sym (ap (λ r. (r >>= with_count) >>= λ p. need p.1 T05 span >> F p.0) (walked bs kind w Ts true names [] names (free_now names)))
  where
    by : (r : Result (Unit {0}) Fault) → (r >> (found_or (at_end (ends bs kind w Ts true names)) T05 span >>= F)) ≡ (((r >> Ok (ends bs kind w Ts true names)) >>= with_count) >>= λ p. need p.1 T05 span >> F p.0)
    by (Ok x) = counted (ends bs kind w Ts true names) span F
    by (Err f) = refl

several_is : (span : Span) (kind : LocalKind) (bs : List Binder) (d : Initialised) (G : Scope) → several_declared span kind bs d G ≡ several_walk span kind bs d G
several_is span kind bs d G =
    parts_walk bs kind d.written (tuple_parts (written_or d.written d.value.ty)) G.names span
    (λ names. ended G.class span true d.value.effect names (tree.Declare span d.written (tree.in_parts (taken bs)) d.value.tree))

bound_by : (t : Tests) (span : Span) (kind : LocalKind) (b : Bind) (e : Expr) (d : Initialised) (G : Scope) → bound t span kind b e d G ≡ bound_walk t span kind b e d G
bound_by t span kind (Single (Bound i)) e d G = refl
bound_by t span kind (Single (Unbound at)) e d G = refl
bound_by t span kind (Several at bs) e d G = several_is span kind bs d G

pub bind_is : (t : Tests) (span : Span) (kind : LocalKind) (b : Bind) (ty : Option TypeExpr) (e : Expr) (G : Scope) → bind_rule t span kind b ty e G ≡ bind_walk t span kind b ty e G
bind_is t span kind b ty e G = then_same (initialised t ty e G) _ _ (λ d. bound_by t span kind b e d G)
