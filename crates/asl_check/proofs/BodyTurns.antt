-- The bodies of subprograms: the names that each begins with stand behind those outside, and are visible no more behind it.
use Rattle.std.proofs.Common.{◌≡◌, Bool, true, false, cond, List, [], ◌∷◌, ◌++◌, length, take, map, Option, Result, Ok, Err, suc, refl, sym, ap, ◌∙◌, append_assoc}
use Rattle.std.proofs.Math.Seq.{take-append_seam}
use Rattle.asl_syn.specs.declared.code.Fault.{Fault}
use Rattle.asl_syn.specs.declared.tree.Formal.{Formal}
use Rattle.asl_syn.specs.declared.tree.Func.{Func}
use Rattle.asl_syn.specs.declared.tree.Param.{Param as WrittenParam}
use Rattle.asl_syn.specs.declared.tree.Stmt.{Stmt}
use Rattle.asl_rules.specs.declared.effect.Effect.{Effect}
use Rattle.asl_rules.specs.declared.effect.Effect.TheVariants.{Pure}
use Rattle.asl_rules.specs.Faults.{◌>>=◌, ◌>>◌, need}
use Rattle.asl_syn.specs.declared.code.StaticCode.TheVariants.{T17}
use Rattle.asl_rules.specs.Tests.{Tests}
use Rattle.asl_rules.specs.types.Types.{Ty, Parts, no_part, part}
use Rattle.asl_types.specs.View.{parts_of}
use Rattle.asl_rules.specs.runs.Trees.{TreeFunc}
use Rattle.asl_rules.specs.declarations.Scopes.{Body, Entry, Signature, Param, is_free, fixed, with_entry}
use Rattle.asl_rules.specs.statements.Locals.{itself}
use Rattle.asl_rules.specs.statements.Acting.{Listed, in_order}
use Rattle.asl_rules.specs.statements.Stmts.{found_stmt}
use Rattle.asl_rules.specs.declarations.Programs.{Head, accepted, may_end, tree_func, param_entry, funcs_of, signatures, signatures_rule, overloads_rule, body_rule, bodies_rule, entry_rule, types_in, verdict}
use Rattle.asl_rules.specs.declared.entry.Entry.{Entry as Asked}
use Rattle.asl_rules.specs.declarations.Names.{names_rule, all_declared}
use Rattle.asl_rules.specs.declarations.Uses.{cycles_rule}
use Rattle.asl_rules.specs.declarations.Turns.{globals_rule}
use Rattle.asl_syn.specs.declared.tree.Decl.{Decl}
use Rattle.asl_rules.proofs.scopes.Longer.{Longer, longer_self, longer_on, list_longer}
use Rattle.asl_decl.specs.Heads.{declared_with, declared_rule, params_declared, formals_declared, names_of_body, head_of, heads_of}
use Rattle.asl_check.specs.private.Bringing.{with_entry_found}
use Rattle.asl_blocks.proofs.Chains.{then_same, then_then}

with_longer : (e : Entry) (names : List Entry) → Longer names (with_entry e names)
with_longer e names = by (is_free e.name names)
  where
    by : (b : Bool) → Longer names (cond b (names ++ e ∷ []) names)
    by true = record { more = e ∷ []; is = refl }
    by false = longer_self names

params_longer : (ps : List WrittenParam) (qs : List Param) (names : List Entry) → Longer names (params_declared ps qs names)
params_longer [] qs names = longer_self names
params_longer (p ∷ ps) [] names = longer_self names
params_longer (p ∷ ps) (q ∷ qs) names =
    let e : Entry = param_entry p.name.text q.ty q.atom in
    longer_on names (with_entry e names) (params_declared ps qs (with_entry e names)) (with_longer e names) (params_longer ps qs (with_entry e names))

formals_longer : (fs : List Formal) (Ts : Parts) (names : List Entry) → Longer names (formals_declared fs Ts names)
formals_longer [] Ts names = longer_self names
formals_longer (f ∷ fs) no_part names = longer_self names
formals_longer (f ∷ fs) (part T Ts) names =
    let e : Entry = fixed f.name.text T (itself T names) in
    longer_on names (with_entry e names) (formals_declared fs Ts (with_entry e names)) (with_longer e names) (formals_longer fs Ts (with_entry e names))

-- the names outside a body stand at the beginning of those behind its statements
pub body_cut_back : (t : Tests) (f : Func) (s : Signature) (names : List Entry) (ss : List Stmt) (k : Effect) (B : Body) (l : Listed) → B.scope.names ≡ names_of_body f s names →
    in_order (map (found_stmt t) ss) k B ≡ Ok l → take (length names) l.names ≡ names
body_cut_back t f s names ss k B l begun h =
    let inner : List Entry = params_declared f.params s.params names in
    let first : Longer names (names_of_body f s names) = longer_on names inner (names_of_body f s names) (params_longer f.params s.params names) (formals_longer f.formals s.formals inner) in
    let then1 = list_longer t ss k B l h in
    let is : l.names ≡ names ++ (first.more ++ then1.more) = then1.is ∙ ap (λ n. n ++ then1.more) (begun ∙ first.is) ∙ append_assoc names first.more then1.more in
    ap (take (length names)) is ∙ take-append_seam names (first.more ++ then1.more)

-- one more body
pub bodies_loop : (t : Tests) (subs : List Signature) (names : List Entry) (fs : List Func) (ss : List Signature) (f : Func) (s : Signature) (before more : List TreeFunc) (x : TreeFunc) (all : Result (List TreeFunc) Fault) →
    body_rule t subs (head_of names f s) ≡ Ok x → more ≡ before ++ x ∷ [] →
    (bodies_rule t subs (heads_of names (f ∷ fs) (s ∷ ss)) >>= λ xs. Ok (before ++ xs)) ≡ all → (bodies_rule t subs (heads_of names fs ss) >>= λ xs. Ok (more ++ xs)) ≡ all
bodies_loop t subs names fs ss f s before more x all h m inv =
    ap (λ l. bodies_rule t subs (heads_of names fs ss) >>= λ xs. Ok (l ++ xs)) m
    ∙ then_same (bodies_rule t subs (heads_of names fs ss)) _ _ (λ xs. ap Ok (append_assoc before (x ∷ []) xs))
    ∙ sym (then_then (bodies_rule t subs (heads_of names fs ss)) (λ xs. Ok (x ∷ xs)) (λ xs. Ok (before ++ xs)))
    ∙ sym (ap (λ q. (q >>= λ y. bodies_rule t subs (heads_of names fs ss) >>= λ xs. Ok (y ∷ xs)) >>= λ xs. Ok (before ++ xs)) h)
    ∙ inv

-- as many subprograms as signatures have these signatures
pub signatures_are : (names : List Entry) (fs : List Func) (ss : List Signature) → length fs ≡ length ss → signatures (heads_of names fs ss) ≡ ss
signatures_are names [] [] h = refl
signatures_are names [] (s ∷ ss) h = cc h
signatures_are names (f ∷ fs) [] h = cc h
signatures_are names (f ∷ fs) (s ∷ ss) h = ap (λ l. s ∷ l) (signatures_are names fs ss (same_rest h))
  where
    same_rest : suc (length fs) ≡ suc (length ss) → length fs ≡ length ss
    same_rest h = cc h

-- ---- the verdict

pub verdict_is : (e : Asked) (ds : List Decl) (t : Tests) → verdict e ds t ≡ (declared_rule t ds >>= λ d. with_entry_found e d t)
unfolding verdict
verdict_is e ds t = by (names_rule [] (all_declared ds)) (cycles_rule ds ds)
  where
    last : (hs : List Head) (names : List Entry) → (c : Result (Unit {0}) Fault) →
        (c >> (bodies_rule t (signatures hs) hs >>= λ trees. entry_rule e (signatures hs) >>= λ main. Ok (accepted e main (signatures hs) trees names))) ≡ ((c >> Ok (declared_with names hs)) >>= λ d. with_entry_found e d t)
    last hs names (Ok x) = refl
    last hs names (Err f) = refl

    inner : (globals_rule t ds >>= λ names. signatures_rule t names (funcs_of ds) >>= λ hs. overloads_rule [] hs >> (bodies_rule t (signatures hs) hs >>= λ trees. entry_rule e (signatures hs) >>= λ main. Ok (accepted e main (signatures hs) trees names)))
        ≡ ((globals_rule t ds >>= λ names. signatures_rule t names (funcs_of ds) >>= λ hs. overloads_rule [] hs >> Ok (declared_with names hs)) >>= λ d. with_entry_found e d t)
    inner =
        then_same (globals_rule t ds) _ _ (λ names.
        then_same (signatures_rule t names (funcs_of ds)) _ _ (λ hs. last hs names (overloads_rule [] hs))
        ∙ sym (then_then (signatures_rule t names (funcs_of ds)) _ _))
        ∙ sym (then_then (globals_rule t ds) _ _)

    by : (c d : Result (Unit {0}) Fault) →
        (c >> (d >> (globals_rule t ds >>= λ names. signatures_rule t names (funcs_of ds) >>= λ hs. overloads_rule [] hs >> (bodies_rule t (signatures hs) hs >>= λ trees. entry_rule e (signatures hs) >>= λ main. Ok (accepted e main (signatures hs) trees names)))))
        ≡ ((c >> (d >> (globals_rule t ds >>= λ names. signatures_rule t names (funcs_of ds) >>= λ hs. overloads_rule [] hs >> Ok (declared_with names hs)))) >>= λ d. with_entry_found e d t)
    by (Err f) d = refl
    by (Ok x) (Err f) = refl
    by (Ok x) (Ok y) = inner

-- the types of a list of parts
pub types_back : (Ts : List Ty) → types_in (parts_of Ts) ≡ Ts
types_back [] = refl
types_back (T ∷ Ts) = ap (λ l. T ∷ l) (types_back Ts)

-- a body whose statements are well formed
pub body_by : (t : Tests) (subs : List Signature) (names : List Entry) (f : Func) (s : Signature) (inner : List Entry) (class : Effect) (result : Option Ty) (ss : List Stmt) (l : Listed) (x : TreeFunc) →
    inner ≡ names_of_body f s names → class ≡ s.class → result ≡ s.result → ss ≡ f.body →
    in_order (map (found_stmt t) ss) Pure (record { scope = record { names = inner; subs = subs; class = class }; result = result; handles = false }) ≡ Ok l →
    may_end s.result f ≡ true → x ≡ tree_func (head_of names f s) l.acts → body_rule t subs (head_of names f s) ≡ Ok x
body_by t subs names f s inner class result ss l x n k r b h ends made =
    let judged : in_order (map (found_stmt t) f.body) Pure (record { scope = record { names = names_of_body f s names; subs = subs; class = s.class }; result = s.result; handles = false }) ≡ Ok l =
    (λ i. in_order (map (found_stmt t) (sym b i)) Pure (record { scope = record { names = sym n i; subs = subs; class = sym k i }; result = sym r i; handles = false })) ∙ h in
    ap (λ q. q >>= λ m. need (may_end s.result f) T17 f.name.span >> Ok (tree_func (head_of names f s) m.acts)) judged
    ∙ ap (λ q. need q T17 f.name.span >> Ok (tree_func (head_of names f s) l.acts)) ends
    ∙ ap Ok (sym made)

pub as_many : {A B : Type 0} (f : A → B) (xs : List A) → length (map f xs) ≡ length xs
as_many f [] = refl
as_many f (x ∷ xs) = ap suc (as_many f xs)
