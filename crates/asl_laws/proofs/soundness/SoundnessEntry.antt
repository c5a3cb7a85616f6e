-- The entries can be called from outside: `main` with nothing, `decode` with any 32 bits, and `decode16` with any 16.
use Rattle.std.proofs.Common.{◌≡◌, ℕ, suc, ◌+◌, ℤ, pos, negsuc, Bool, true, false, ◌&&◌, cond, List, [], ◌∷◌, length, Option, Some, None, refl, sym, ap, ◌∙◌, subst, arith}
use Rattle.std.specs.Prelude.{slice_get, codes}
use Rattle.std.specs.Str.{bytes_eq}
use Rattle.asl_poly.specs.Poly.{constant_value}
use Rattle.asl_cons.proofs.Results.{constant_is}
use Rattle.asl_rules.specs.types.Types.{Ty, Parts, integer_of, boolean, bits_of, enumeration_of, record_of, exception_of, tuple_of, array_of, named, no_part, part, width_of, is_bits}
use Rattle.asl_rules.specs.types.Closed.{Assignment, type_with, width_at}
use Rattle.asl_rules.specs.values.Values.{Value, bits_with, is_width, has}
use Rattle.asl_rules.specs.types.Views.{viewed}
use Rattle.asl_rules.specs.declarations.Scopes.{Signature, Param, is_absent}
use Rattle.asl_rules.specs.runs.States.{Binding}
use Rattle.asl_rules.specs.private.Belonging.{Belong}
use Rattle.asl_rules.specs.private.Agreement.{types_in, no_atoms, GlobalsMatch}
use Rattle.asl_rules.specs.declarations.Programs.{has_integer, has_no_param, has_no_formal, is_main, is_wide, has_word, takes_word, entry_from, Accepted}
use Rattle.asl_laws.specs.Soundness.{IsCall}
use Rattle.asl_rules.proofs.basics.Tests.{no, both, none_some, some_same}
use Rattle.asl_rules.proofs.values.SameKind.{same_number, number_is}
use Rattle.asl_rules.proofs.values.Viewing.{viewed_has, viewed_twice}
use Rattle.asl_rules.proofs.values.Rounded.{constant_width}
use Rattle.asl_rules.proofs.values.Bare.{viewed_built}

-- ---- the first such subprogram

record First (is : Signature → Bool) (n : ℕ) (fs : List Signature) (id : ℕ) : Type 0 where
  place : ℕ
  id_is : id ≡ n + place
  signature : Signature
  stands : slice_get fs place ≡ Some signature
  fits : is signature ≡ true

one_on : (n p : ℕ) → suc n + p ≡ n + suc p
one_on n p = omega arith

none_on : (n : ℕ) → n ≡ n + 0
none_on n = omega arith

first_by : (is : Signature → Bool) (b : Bool) (n : ℕ) (f : Signature) (fs : List Signature) (o : Option ℕ) (id : ℕ) → is f ≡ b → (o ≡ Some id → First is (suc n) fs id) → cond b (Some n) o ≡ Some id → First is n (f ∷ fs) id
first_by is true n f fs o id e next h = record { place = 0; id_is = sym (some_same n id h) ∙ none_on n; signature = f; stands = refl; fits = e }
first_by is false n f fs o id e next h =
    let p = next h in
    record { place = suc p.place; id_is = p.id_is ∙ one_on n p.place; signature = p.signature; stands = p.stands; fits = p.fits }

first_of : (is : Signature → Bool) (n : ℕ) (fs : List Signature) (id : ℕ) → entry_from is n fs ≡ Some id → First is n fs id
first_of is n [] id h = none_some id h
first_of is n (f ∷ fs) id h = first_by is (is f) n f fs (entry_from is (suc n) fs) id refl (first_of is (suc n) fs id) h

zero_on : (p : ℕ) → 0 + p ≡ p
zero_on p = omega arith

no_params : (ps : List Param) → has_no_param ps ≡ true → ps ≡ []
no_params [] h = refl
no_params (p ∷ ps) h = no h

no_formals : (Ts : Parts) → has_no_formal Ts ≡ true → Ts ≡ no_part
no_formals no_part h = refl
no_formals (part T Ts) h = no h

-- ---- bits of a type

wide_is : (n : ℕ) (o : Option ℤ) → is_wide n o ≡ true → o ≡ Some (pos n)
wide_is n None h = no h
wide_is n (Some (pos w)) h = ap (λ m. Some (pos m)) (same_number w n h)
wide_is n (Some (negsuc w)) h = no h

bits_have : (a : Assignment) (T : Ty) (bs : List Bool) → is_bits T ≡ true → width_at (width_of T) a ≡ pos (length bs) → has (bits_with bs []) (type_with T a) ≡ true
bits_have a (bits_of w u) bs h e = ap (λ z. is_width (length bs) z) e ∙ number_is (length bs)
bits_have a (named n supers T) bs h e = bits_have a T bs h e
bits_have a (integer_of ps) bs h e = no h
bits_have a boolean bs h e = no h
bits_have a (enumeration_of n ls) bs h e = no h
bits_have a (record_of n fs) bs h e = no h
bits_have a (exception_of n fs) bs h e = no h
bits_have a (tuple_of ts) bs h e = no h
bits_have a (array_of n T) bs h e = no h

-- the type of a formal that is alone
abbrev pub only_formal : Parts → Ty
only_formal no_part = boolean
only_formal (part T Ts) = T

-- a word for it, with its bitfields
abbrev pub word_for : Parts → List Bool → Value
word_for Ts bs = viewed (type_with (only_formal Ts) no_atoms) (bits_with bs [])

word_belongs : (d : List ℕ → Option Ty) (n : ℕ) (Ts : Parts) (bs : List Bool) → has_word n Ts ≡ true → length bs ≡ n →
    Belong d no_atoms (word_for Ts bs ∷ []) Ts
word_belongs d n no_part bs h e = no h
word_belongs d n (part T (part U Ts)) bs h e = no h
word_belongs d n (part T no_part) bs h e =
    let p = both (is_bits T) (is_wide n (constant_value (width_of T))) h in
    let w : width_at (width_of T) no_atoms ≡ pos (length bs) =
    constant_width no_atoms (width_of T) (pos n) (constant_is no_atoms (width_of T) (pos n) (wide_is n (constant_value (width_of T)) p.1))
    ∙ ap pos (sym e) in
    let i = bits_have no_atoms T bs p.0 w in
    ((viewed_has (type_with T no_atoms) (bits_with bs []) i, viewed_built d (type_with T no_atoms) (bits_with bs []) tt, viewed_twice (type_with T no_atoms) (bits_with bs [])), tt)

-- ---- calls

module _ (a : Accepted) (id : ℕ) (globals : List Binding) (m : GlobalsMatch a.names globals) where
  at_place : (g : Signature → Bool) (r : First g 0 a.signatures id) → slice_get a.signatures id ≡ Some r.signature
  at_place g r = ap (λ n. slice_get a.signatures n) (r.id_is ∙ zero_on r.place) ∙ r.stands

  pub main_call : entry_from is_main 0 a.signatures ≡ Some id → IsCall a id [] globals
  main_call first =
      let r = first_of is_main 0 a.signatures id first in
      let s = r.signature in
      let p = both (bytes_eq s.name (codes "main")) (has_no_param s.params && (has_no_formal s.formals && has_integer s.result)) r.fits in
      let u = both (has_no_param s.params) (has_no_formal s.formals && has_integer s.result) p.1 in
      let v = both (has_no_formal s.formals) (has_integer s.result) u.1 in
      record { signature = s; is = at_place is_main r; no_params = no_params s.params u.0; args_belong = subst (Belong (types_in a.names) no_atoms []) (sym (no_formals s.formals v.0)) tt; globals_match = m }

  -- a call with a word, in the type of the formal
  pub record WordCall (bs : List Bool) : Type 0 where
    pub signature : Signature
    pub stands : slice_get a.signatures id ≡ Some signature
    pub call : IsCall a id (word_for signature.formals bs ∷ []) globals

  pub word_call : (name : List ℕ) (n : ℕ) → entry_from (takes_word name n) 0 a.signatures ≡ Some id → (bs : List Bool) → length bs ≡ n →
      WordCall bs
  word_call name n first bs e =
      let r = first_of (takes_word name n) 0 a.signatures id first in
      let s = r.signature in
      let p = both (bytes_eq s.name name) (has_no_param s.params && (has_word n s.formals && is_absent s.result)) r.fits in
      let u = both (has_no_param s.params) (has_word n s.formals && is_absent s.result) p.1 in
      let v = both (has_word n s.formals) (is_absent s.result) u.1 in
      record {
        signature = s;
        stands = at_place (takes_word name n) r;
        call = record { signature = s; is = at_place (takes_word name n) r; no_params = no_params s.params u.0; args_belong = word_belongs (types_in a.names) n s.formals bs v.0 e; globals_match = m };
      }
