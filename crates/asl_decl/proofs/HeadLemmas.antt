-- Names of parameters and formals that stand once and aren't visible go last, each with what it counts as.
use Rattle.std.proofs.Common.{length, take, ◌≡◌, ℕ, Bool, true, false, ◌&&◌, not, List, [], ◌∷◌, ◌++◌, Option, Some, None, Result, Ok, Err, refl, sym, ap, ◌∙◌, append_assoc}
use Rattle.std.specs.Prelude.{if◌then◌else◌}
use Rattle.std.proofs.lemmas.List.{append-nil}
use Rattle.std.specs.Str.{bytes_eq}
use Rattle.asl_syn.specs.declared.code.Fault.{Fault}
use Rattle.asl_syn.specs.declared.code.StaticCode.TheVariants.{T01}
use Rattle.asl_syn.specs.declared.tree.Formal.{Formal}
use Rattle.asl_syn.specs.declared.tree.Param.{Param as WrittenParam}
use Rattle.asl_syn.specs.declared.tree.TypeExpr.{TypeExpr}
use Rattle.asl_rules.specs.Faults.{◌>>=◌, ◌>>◌, need}
use Rattle.asl_rules.specs.Tests.{Tests}
use Rattle.asl_rules.specs.types.Types.{Ty, Parts, no_part, part}
use Rattle.asl_rules.specs.types.Writing.{Written}
use Rattle.asl_rules.specs.values.Members.{has_name}
use Rattle.asl_rules.specs.expressions.Exprs.{written}
use Rattle.asl_rules.specs.statements.Locals.{itself}
use Rattle.asl_rules.specs.declarations.Scopes.{Entry, Param, Standing, standing_of, is_free, is_absent, fixed, next_atom, with_entry}
use Rattle.asl_rules.specs.declarations.Declarations.{in_names}
use Rattle.asl_rules.specs.declarations.Programs.{params_free, formals_free, param_written, result_rule, param_entry, params_rule, with_formals}
use Rattle.asl_rules.proofs.basics.Inversions.{ok_ok, bind_ok, then_ok, need_ok}
use Rattle.asl_decl.specs.Heads.{params_declared, formals_declared}
use Rattle.asl_decl.specs.private.HeadTypes.{maybe_written, params_after, IsFront}

-- ---- types that are written

type_of_it : (r : Result Written Fault) → (r >>= λ W. Ok (Some W.ty)) ≡ ((r >>= λ W. Ok W.ty) >>= λ T. Ok (Some T))
type_of_it (Ok W) = refl
type_of_it (Err e) = refl

pub param_is : (t : Tests) (o : Option TypeExpr) (names : List Entry) → param_written t o names ≡ maybe_written t o (in_names names)
param_is t None names = refl
param_is t (Some ty) names = type_of_it (written t ty false (in_names names))

pub result_is : (t : Tests) (o : Option TypeExpr) (names : List Entry) → result_rule t o names ≡ maybe_written t o (in_names names)
result_is t None names = refl
result_is t (Some ty) names = type_of_it (written t ty false (in_names names))

-- ---- names that are free

-- what is free among the first names and not among these texts is free among the others
abbrev pub FreeIn : List Entry → List (List ℕ) → List Entry → Type 0
FreeIn N before M = (n : List ℕ) → is_free n M ≡ (is_free n N && not (has_name n before))

pub none_before : (N : List Entry) → FreeIn N [] N
none_before N n = by (is_free n N)
  where
    by : (b : Bool) → b ≡ (b && true)
    by true = refl
    by false = refl

absent_one : (b : Bool) (st : Standing) → is_absent (if b then Some st else None) ≡ not b
absent_one true st = refl
absent_one false st = refl

free_last : (n : List ℕ) (M : List Entry) (e : Entry) → is_free n (M ++ e ∷ []) ≡ (is_free n M && not (bytes_eq e.name n))
free_last n [] e = absent_one (bytes_eq e.name n) e.standing
free_last n (x ∷ M) e = by (bytes_eq x.name n) (free_last n M e)
  where
    by : (b : Bool) → is_free n (M ++ e ∷ []) ≡ (is_free n M && not (bytes_eq e.name n)) → is_absent (if b then Some x.standing else standing_of n (M ++ e ∷ [])) ≡ (is_absent (if b then Some x.standing else standing_of n M) && not (bytes_eq e.name n))
    by true h = refl
    by false h = h

one_by : (b : Bool) → not (if b then true else false) ≡ not b
one_by true = refl
one_by false = refl

has_last : (n m : List ℕ) (before : List (List ℕ)) → not (has_name n (before ++ m ∷ [])) ≡ (not (has_name n before) && not (bytes_eq m n))
has_last n m [] = one_by (bytes_eq m n)
has_last n m (x ∷ before) = by (bytes_eq x n) (has_last n m before)
  where
    by : (b : Bool) → not (has_name n (before ++ m ∷ [])) ≡ (not (has_name n before) && not (bytes_eq m n)) → not (if b then true else has_name n (before ++ m ∷ [])) ≡ (not (if b then true else has_name n before) && not (bytes_eq m n))
    by true h = refl
    by false h = h

and_three : (a b c : Bool) → ((a && b) && c) ≡ (a && (b && c))
and_three true b c = refl
and_three false b c = refl

free_more : (N : List Entry) (before : List (List ℕ)) (M : List Entry) (e : Entry) → FreeIn N before M → FreeIn N (before ++ e.name ∷ []) (M ++ e ∷ [])
free_more N before M e h n =
    free_last n M e
    ∙ ap (λ b. b && not (bytes_eq e.name n)) (h n)
    ∙ and_three (is_free n N) (not (has_name n before)) (not (bytes_eq e.name n))
    ∙ ap (λ b. is_free n N && b) (sym (has_last n e.name before))

goes_last : (e : Entry) (M : List Entry) → is_free e.name M ≡ true → with_entry e M ≡ M ++ e ∷ []
goes_last e M h = ap (λ b. if b then M ++ e ∷ [] else M) h

-- ---- parameters

on_each : {X Y : Type 0} (r : Result X Fault) (f g : X → Result Y Fault) → ((x : X) → f x ≡ g x) → (r >>= f) ≡ (r >>= g)
on_each (Ok x) f g h = h x
on_each (Err e) f g h = refl

module _ (t : Tests) (N : List Entry) where
  pub params_same : (ps : List WrittenParam) (before more : List (List ℕ)) (acc : List Param) (M : List Entry) → FreeIn N before M → params_free ps before N ≡ Ok more → params_rule t ps acc M ≡ params_after t ps acc M
  params_same [] before more acc M h k = refl
  params_same (p ∷ ps) before more acc M h k =
      let q = then_ok (need (is_free p.name.text N && not (has_name p.name.text before)) T01 p.name.span) (params_free ps (before ++ p.name.text ∷ []) N) more k in
      let new : is_free p.name.text M ≡ true = h p.name.text ∙ need_ok (is_free p.name.text N && not (has_name p.name.text before)) T01 p.name.span tt q.first in
      ap (λ s. s >>= λ T. params_rule t ps (acc ++ record { atom = next_atom M; ty = T } ∷ []) (M ++ param_entry p.name.text T (next_atom M) ∷ [])) (param_is t p.ty M)
      ∙ on_each (maybe_written t p.ty (in_names M)) _ _ (λ T.
      params_same ps (before ++ p.name.text ∷ []) more (acc ++ record { atom = next_atom M; ty = T } ∷ []) (M ++ param_entry p.name.text T (next_atom M) ∷ []) (free_more N before M (param_entry p.name.text T (next_atom M)) h) q.then
      ∙ ap (params_after t ps (acc ++ record { atom = next_atom M; ty = T } ∷ [])) (sym (goes_last (param_entry p.name.text T (next_atom M)) M new)))

  -- the names with those of parameters are free as before, but for these
  pub params_end : (ps : List WrittenParam) (before more : List (List ℕ)) (acc : List Param) (M : List Entry) (p : List Param × List Entry) → FreeIn N before M → params_free ps before N ≡ Ok more → params_rule t ps acc M ≡ Ok p → FreeIn N more p.1
  params_end [] before more acc M p h k r = λ n. ap (is_free n) (sym (ap (λ (q : List Param × List Entry). q.1) (ok_ok (acc, M) p r))) ∙ h n ∙ ap (λ b. is_free n N && not (has_name n b)) (ok_ok before more k)
  params_end (x ∷ ps) before more acc M p h k r =
      let q = then_ok (need (is_free x.name.text N && not (has_name x.name.text before)) T01 x.name.span) (params_free ps (before ++ x.name.text ∷ []) N) more k in
      let b = bind_ok (param_written t x.ty M) (λ T. params_rule t ps (acc ++ record { atom = next_atom M; ty = T } ∷ []) (M ++ param_entry x.name.text T (next_atom M) ∷ [])) p r in
      let e = param_entry x.name.text b.value (next_atom M) in
      params_end ps (before ++ x.name.text ∷ []) more (acc ++ record { atom = next_atom M; ty = b.value } ∷ []) (M ++ e ∷ []) p (free_more N before M e h) q.then b.then

  -- ---- formals

  pub formals_same : (fs : List Formal) (before : List (List ℕ)) (Ts : Parts) (K : List Entry) → FreeIn N before K → formals_free fs before N ≡ Ok tt → with_formals fs Ts K ≡ formals_declared fs Ts K
  formals_same [] before Ts K h k = refl
  formals_same (f ∷ fs) before no_part K h k = refl
  formals_same (f ∷ fs) before (part T Ts) K h k =
      let q = then_ok (need (is_free f.name.text N && not (has_name f.name.text before)) T01 f.name.span) (formals_free fs (before ++ f.name.text ∷ []) N) tt k in
      let e = fixed f.name.text T (itself T K) in
      let new : is_free f.name.text K ≡ true = h f.name.text ∙ need_ok (is_free f.name.text N && not (has_name f.name.text before)) T01 f.name.span tt q.first in
      formals_same fs (before ++ f.name.text ∷ []) Ts (K ++ e ∷ []) (free_more N before K e h) q.then
      ∙ ap (formals_declared fs Ts) (sym (goes_last e K new))

-- ---- what was declared is what the parameters are

pub params_are : (t : Tests) (ps : List WrittenParam) (acc : List Param) (M : List Entry) (p : List Param × List Entry) → params_after t ps acc M ≡ Ok p → (rs : List Param) × (p.0 ≡ acc ++ rs) × (p.1 ≡ params_declared ps rs M)
params_are t [] acc M p r = ([], ap (λ (q : List Param × List Entry). q.0) (sym (ok_ok (acc, M) p r)) ∙ sym (append-nil acc), ap (λ (q : List Param × List Entry). q.1) (sym (ok_ok (acc, M) p r)))
params_are t (x ∷ ps) acc M p r =
    let b = bind_ok (maybe_written t x.ty (in_names M)) (λ T. params_after t ps (acc ++ record { atom = next_atom M; ty = T } ∷ []) (with_entry (param_entry x.name.text T (next_atom M)) M)) p r in
    let q : Param = record { atom = next_atom M; ty = b.value } in
    let s = params_are t ps (acc ++ q ∷ []) (with_entry (param_entry x.name.text b.value (next_atom M)) M) p b.then in
    (q ∷ s.0, s.1 ∙ append_assoc acc (q ∷ []) s.0, s.2)

-- ---- the names before

pub front_first : (N : List Entry) → IsFront N N
front_first N = record { more = []; is = sym (append-nil N) }

pub front_more : (N K : List Entry) (e : Entry) → IsFront N K → IsFront N (with_entry e K)
front_more N K e f = by (is_free e.name K)
  where
    by : (b : Bool) → IsFront N (if b then K ++ e ∷ [] else K)
    by true = record { more = f.more ++ e ∷ []; is = ap (λ l. l ++ e ∷ []) f.is ∙ append_assoc N f.more (e ∷ []) }
    by false = f

take_front : (N more : List Entry) → take (length N) (N ++ more) ≡ N
take_front [] more = refl
take_front (e ∷ N) more = ap (λ l. e ∷ l) (take_front N more)

pub front_taken : (N K M : List Entry) (n : ℕ) → IsFront N K → n ≡ length N → M ≡ take n K → M ≡ N
front_taken N K M n f h k = k ∙ ap (λ m. take m K) h ∙ ap (take (length N)) f.is ∙ take_front N f.more
