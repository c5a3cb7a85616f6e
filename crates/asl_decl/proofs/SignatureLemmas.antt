-- Signatures as the checker finds them are those of the rule, with the names that bodies begin with.
use Rattle.std.proofs.Common.{◌≡◌, ℕ, false, List, [], ◌∷◌, ◌++◌, Option, Result, Ok, Err, refl, sym, ap, ap₂, ◌∙◌, append_assoc}
use Rattle.std.specs.Prelude.{ℤ}
use Rattle.std.proofs.lemmas.List.{append-nil}
use Rattle.asl_syn.specs.declared.code.Fault.{Fault}
use Rattle.asl_syn.specs.declared.tree.Decl.{Decl}
use Rattle.asl_syn.specs.declared.tree.Decl.TheVariants as dc
use Rattle.asl_syn.specs.declared.tree.Formal.{Formal}
use Rattle.asl_syn.specs.declared.tree.Func.{Func}
use Rattle.asl_rules.specs.Faults.{◌>>=◌, ◌>>◌}
use Rattle.asl_rules.specs.Tests.{Tests}
use Rattle.asl_rules.specs.types.Types.{Ty, Parts, no_part, part}
use Rattle.asl_rules.specs.expressions.Typing.{Typed}
use Rattle.asl_rules.specs.types.Writing.{Written}
use Rattle.asl_rules.specs.expressions.Exprs.{written}
use Rattle.asl_rules.specs.declarations.Scopes.{Entry, Param, Signature}
use Rattle.asl_rules.specs.declarations.Declarations.{in_names}
use Rattle.asl_rules.specs.declarations.Programs.{Head, funcs_of, params_free, formals_free, params_rule, formals_rule, result_rule, limit_typed, params_are_integers, limit_rule, with_formals, class_of, signature_rule, signatures_rule}
use Rattle.asl_types.specs.View.{parts_of}
use Rattle.asl_decl.specs.Heads.{params_declared, formals_declared, head_of, heads_of}
use Rattle.asl_decl.specs.private.HeadTypes.{maybe_written, params_after, formals_after, HeadTypes, types_with, head_types}
use Rattle.asl_decl.specs.private.Limits.{limit_after}
use Rattle.asl_decl.specs.private.Signatures.{signature_with, signature_found, signatures_found, signatures_after, funcs_after}
use Rattle.asl_decl.proofs.HeadLemmas.{none_before, params_same, params_end, formals_same, params_are, result_is}

-- ---- the types of formals

abbrev before : List Ty → Parts → Parts
before [] Ps = Ps
before (T ∷ Ts) Ps = part T (before Ts Ps)

before_none : (xs : List Ty) → before xs no_part ≡ parts_of xs
before_none [] = refl
before_none (T ∷ xs) = ap (part T) (before_none xs)

before_one : (xs : List Ty) (T : Ty) (Ps : Parts) → before (xs ++ T ∷ []) Ps ≡ before xs (part T Ps)
before_one [] T Ps = refl
before_one (U ∷ xs) T Ps = ap (part U) (before_one xs T Ps)

abbrev good : {A : Type 0} → A → Result A Fault
good x = Ok x

abbrev seen : Result (List Ty) Fault → Result Parts Fault
seen r = r >>= λ xs. Ok (parts_of xs)

abbrev behind : List Ty → Result Parts Fault → Result Parts Fault
behind xs r = r >>= λ Ps. Ok (before xs Ps)

one_more : (xs : List Ty) (T : Ty) (r : Result Parts Fault) → behind (xs ++ T ∷ []) r ≡ behind xs (r >>= λ Ps. Ok (part T Ps))
one_more xs T (Ok Ps) = ap good (before_one xs T Ps)
one_more xs T (Err e) = refl

by_type : (t : Tests) (xs : List Ty) (fs : List Formal) (names : List Entry) (r : Result Written Fault) →
    ((T : Ty) → seen (formals_after t (xs ++ T ∷ []) fs (in_names names)) ≡ behind (xs ++ T ∷ []) (formals_rule t fs names)) →
    seen ((r >>= λ W. Ok W.ty) >>= λ T. formals_after t (xs ++ T ∷ []) fs (in_names names)) ≡ behind xs (r >>= λ W. formals_rule t fs names >>= λ Ts. Ok (part W.ty Ts))
by_type t xs fs names (Ok W) h = h W.ty ∙ one_more xs W.ty (formals_rule t fs names)
by_type t xs fs names (Err e) h = refl

formals_behind : (t : Tests) (fs : List Formal) (xs : List Ty) (names : List Entry) → seen (formals_after t xs fs (in_names names)) ≡ behind xs (formals_rule t fs names)
formals_behind t [] xs names = ap good (sym (before_none xs))
formals_behind t (f ∷ fs) xs names = by_type t xs fs names (written t f.ty false (in_names names)) (λ T. formals_behind t fs (xs ++ T ∷ []) names)

behind_nothing : (r : Result Parts Fault) → behind [] r ≡ r
behind_nothing (Ok Ps) = refl
behind_nothing (Err e) = refl

formals_are : (t : Tests) (fs : List Formal) (names : List Entry) → formals_rule t fs names ≡ seen (formals_after t [] fs (in_names names))
formals_are t fs names = sym (formals_behind t fs [] names ∙ behind_nothing (formals_rule t fs names))

-- ---- one signature

module _ (t : Tests) (f : Func) (N : List Entry) where
  abbrev head_at : List Param × List Entry → Parts → Option Ty → ℤ → Head
  head_at p Ts T limit = record {
    func = f;
    signature = record { name = f.name.text; class = class_of f.qualifier; params = p.0; formals = Ts; result = T; limit = limit };
    names = with_formals f.formals Ts p.1;
  }

  abbrev rule_ends : List Param × List Entry → Parts → Option Ty → Result Head Fault
  rule_ends p Ts T = limit_typed t f.limit N >>= λ l. params_are_integers t f.params p.0 >> limit_rule t f.limit l N >>= λ limit. Ok (head_at p Ts T limit)

  abbrev rule_rest : List Param × List Entry → Result Head Fault
  rule_rest p = formals_rule t f.formals p.1 >>= λ Ts. result_rule t f.result p.1 >>= λ T. rule_ends p Ts T

  abbrev found_ends : HeadTypes → Result Signature Fault
  found_ends H = limit_after t f H.params N >>= λ limit. Ok (signature_with f H limit)

  abbrev types_rest : List Param × List Entry → Result HeadTypes Fault
  types_rest p = formals_after t [] f.formals (in_names p.1) >>= λ Ts. maybe_written t f.result (in_names p.1) >>= λ T. Ok (types_with p.0 Ts T)

  abbrev as_head : Result Signature Fault → Result Head Fault
  as_head r = r >>= λ s. Ok (head_of N f s)

  -- the names that a body begins with are those that are declared
  abbrev NamesAre : List Param × List Entry → Type 0
  NamesAre p = (Ts : Parts) → with_formals f.formals Ts p.1 ≡ formals_declared f.formals Ts (params_declared f.params p.0 N)

  ends_are : (p : List Param × List Entry) (Ts : List Ty) (T : Option Ty) → NamesAre p → rule_ends p (parts_of Ts) T ≡ as_head (found_ends (types_with p.0 Ts T))
  ends_are p Ts T e = by (limit_typed t f.limit N)
    where
      named : List Entry → ℤ → Result Head Fault
      named ns z = Ok (record { func = f; signature = signature_with f (types_with p.0 Ts T) z; names = ns })

      on : (q : Result (Unit {0}) Fault) (k : Result ℤ Fault) →
          (q >> k >>= λ limit. Ok (head_at p (parts_of Ts) T limit)) ≡ as_head ((q >> k) >>= λ limit. Ok (signature_with f (types_with p.0 Ts T) limit))
      on (Ok u) (Ok z) = ap (λ ns. named ns z) (e (parts_of Ts))
      on (Ok u) (Err x) = refl
      on (Err x) k = refl

      by : (r : Result (Option Typed) Fault) →
          (r >>= λ l. params_are_integers t f.params p.0 >> limit_rule t f.limit l N >>= λ limit. Ok (head_at p (parts_of Ts) T limit)) ≡
          as_head ((r >>= λ l. params_are_integers t f.params p.0 >> limit_rule t f.limit l N) >>= λ limit. Ok (signature_with f (types_with p.0 Ts T) limit))
      by (Ok l) = on (params_are_integers t f.params p.0) (limit_rule t f.limit l N)
      by (Err x) = refl

  rest_are : (p : List Param × List Entry) → NamesAre p → rule_rest p ≡ as_head (types_rest p >>= found_ends)
  rest_are p e =
      ap₂ (λ (r : Result Parts Fault) (k : Result (Option Ty) Fault). r >>= λ Ts. k >>= λ T. rule_ends p Ts T) (formals_are t f.formals p.1) (result_is t f.result p.1)
      ∙ by (formals_after t [] f.formals (in_names p.1)) (maybe_written t f.result (in_names p.1))
    where
      by : (r : Result (List Ty) Fault) (k : Result (Option Ty) Fault) →
          (seen r >>= λ Ts. k >>= λ T. rule_ends p Ts T) ≡ as_head ((r >>= λ Ts. k >>= λ T. Ok (types_with p.0 Ts T)) >>= found_ends)
      by (Ok Ts) (Ok T) = ends_are p Ts T e
      by (Ok Ts) (Err x) = refl
      by (Err x) k = refl

  by_params : (more : List (List ℕ)) → params_free f.params [] N ≡ Ok more → formals_free f.formals more N ≡ Ok tt → (params_rule t f.params [] N >>= rule_rest) ≡ as_head (head_types t f N >>= found_ends)
  by_params more h k = ap (λ r. r >>= rule_rest) same ∙ by (params_after t f.params [] N) refl
    where
      same : params_rule t f.params [] N ≡ params_after t f.params [] N
      same = params_same t N f.params [] more [] N (none_before N) h

      names_are : (p : List Param × List Entry) → params_after t f.params [] N ≡ Ok p → NamesAre p
      names_are p q Ts =
          let s = params_are t f.params [] N p q in
          formals_same t N f.formals more Ts p.1 (params_end t N f.params [] more [] N p (none_before N) h (same ∙ q)) k
          ∙ ap (formals_declared f.formals Ts) (s.2 ∙ ap (λ rs. params_declared f.params rs N) (sym s.1))

      by : (r : Result (List Param × List Entry) Fault) → params_after t f.params [] N ≡ r → (r >>= rule_rest) ≡ as_head ((r >>= types_rest) >>= found_ends)
      by (Err x) q = refl
      by (Ok p) q = rest_are p (names_are p q)

  by_formals : (more : List (List ℕ)) → params_free f.params [] N ≡ Ok more → (b : Result (Unit {0}) Fault) → formals_free f.formals more N ≡ b →
      (b >> params_rule t f.params [] N >>= rule_rest) ≡ as_head (b >> head_types t f N >>= found_ends)
  by_formals more h (Ok u) k = by_params more h k
  by_formals more h (Err x) k = refl

  by_free : (o : Result (List (List ℕ)) Fault) → params_free f.params [] N ≡ o →
      (o >>= λ more. formals_free f.formals more N >> params_rule t f.params [] N >>= rule_rest) ≡
      as_head ((o >>= λ more. formals_free f.formals more N) >> head_types t f N >>= found_ends)
  by_free (Ok more) h = by_formals more h (formals_free f.formals more N) refl
  by_free (Err x) h = refl

  head_is : signature_rule t N f ≡ as_head (signature_found t f N)
  head_is = by_free (params_free f.params [] N) refl

-- ---- all signatures

pub heads_are : (t : Tests) (fs : List Func) (N : List Entry) → signatures_rule t N fs ≡ (signatures_found t fs N >>= λ ss. Ok (heads_of N fs ss))
heads_are t [] N = refl
heads_are t (f ∷ fs) N =
    ap₂ (λ (r : Result Head Fault) (k : Result (List Head) Fault). r >>= λ h. k >>= λ hs. Ok (h ∷ hs)) (head_is t f N) (heads_are t fs N)
    ∙ by (signature_found t f N) (signatures_found t fs N)
  where
    by : (r : Result Signature Fault) (k : Result (List Signature) Fault) →
        ((r >>= λ s. Ok (head_of N f s)) >>= λ h. (k >>= λ ss. Ok (heads_of N fs ss)) >>= λ hs. Ok (h ∷ hs)) ≡
        ((r >>= λ s. k >>= λ ss. Ok (s ∷ ss)) >>= λ ss. Ok (heads_of N (f ∷ fs) ss))
    by (Ok s) (Ok ss) = refl
    by (Ok s) (Err x) = refl
    by (Err x) k = refl

-- ---- one by one

abbrev ahead : List Signature → Result (List Signature) Fault → Result (List Signature) Fault
ahead before r = r >>= λ ss. Ok (before ++ ss)

signatures_behind : (t : Tests) (fs : List Func) (before : List Signature) (N : List Entry) → signatures_after t before fs N ≡ ahead before (signatures_found t fs N)
signatures_behind t [] before N = ap good_list (sym (append-nil before))
  where
    good_list : List Signature → Result (List Signature) Fault
    good_list ss = Ok ss
signatures_behind t (f ∷ fs) before N = by (signature_found t f N) (λ s. signatures_behind t fs (before ++ s ∷ []) N)
  where
    on : (s : Signature) (k : Result (List Signature) Fault) → ahead (before ++ s ∷ []) k ≡ ahead before (k >>= λ ss. Ok (s ∷ ss))
    on s (Ok ss) = ap Ok (append_assoc before (s ∷ []) ss)
    on s (Err x) = refl

    by : (r : Result Signature Fault) → ((s : Signature) → signatures_after t (before ++ s ∷ []) fs N ≡ ahead (before ++ s ∷ []) (signatures_found t fs N)) →
        (r >>= λ s. signatures_after t (before ++ s ∷ []) fs N) ≡ ahead before (r >>= λ s. signatures_found t fs N >>= λ ss. Ok (s ∷ ss))
    by (Ok s) h = h s ∙ on s (signatures_found t fs N)
    by (Err x) h = refl

ahead_nothing : (r : Result (List Signature) Fault) → ahead [] r ≡ r
ahead_nothing (Ok ss) = refl
ahead_nothing (Err x) = refl

pub signatures_are : (t : Tests) (fs : List Func) (N : List Entry) → signatures_after t [] fs N ≡ signatures_found t fs N
signatures_are t fs N = signatures_behind t fs [] N ∙ ahead_nothing (signatures_found t fs N)

funcs_behind : (ds : List Decl) (before : List Func) → funcs_after before ds ≡ before ++ funcs_of ds
funcs_behind [] before = sym (append-nil before)
funcs_behind (dc.Type d ∷ ds) before = funcs_behind ds before
funcs_behind (dc.Storage d ∷ ds) before = funcs_behind ds before
funcs_behind (dc.Func f ∷ ds) before = funcs_behind ds (before ++ f ∷ []) ∙ append_assoc before (f ∷ []) (funcs_of ds)

-- the subprograms one by one are all of them
pub funcs_all : (fs : List Func) (ds : List Decl) → fs ≡ funcs_after [] ds → fs ≡ funcs_of ds
funcs_all fs ds h = h ∙ funcs_behind ds []
