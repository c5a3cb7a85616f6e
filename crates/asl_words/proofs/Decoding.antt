-- An entry of a checked program can be called with a word that has the bitfields of its formal.
use mathlib.Core.HLevel.{⊥_prop}
use Rattle.std.proofs.Common.{◌≡◌, ℕ, true, List, [], ◌∷◌, length, Option, Bor, Some, None, Result, Ok, Err, refl, sym, ap, ◌∙◌, subst}
use Rattle.std.proofs.Math.Logic.{∥∥₁_elim, ∥∥₁_map}
use Rattle.std.specs.Coded.{Coded-set, coded_bool, coded_list}
use Rattle.std.specs.Prelude.{IfOk, option_map, slice_get}
use Rattle.std.specs.Slice.{IsItemAt}
use Rattle.std.proofs.lemmas.Option.{slice_get-map, slice_get_past, slice_get_read}
use Rattle.asl_bits.specs.Lists.{bits_of}
use Rattle.asl_syn.specs.declared.code.Fault.{Fault}
use Rattle.asl_rules.specs.private.Agreement.{types_in, no_atoms}
use Rattle.asl_rules.specs.private.Belonging.{Belong, has_type}
use Rattle.asl_rules.specs.private.ByPlace.{seen_as}
use Rattle.asl_rules.specs.types.Closed.{type_with}
use Rattle.asl_rules.specs.declarations.Programs.{verdict, Accepted, accepted}
use Rattle.asl_rules.specs.declarations.Scopes.{Signature}
use Rattle.asl_rules.specs.Tests.{Tests}
use Rattle.asl_rules.specs.types.Types.{Ty, Parts, no_part, part}
use Rattle.asl_rules.specs.values.Values.{Value}
use Rattle.asl_rules.specs.types.Views.{viewed}
use Rattle.asl_rules.specs.report.WordList.{Word}
use Rattle.asl_rules.specs.runs.Words.{entry_for, is_short, word_value, word_width}
use Rattle.asl_rules.proofs.basics.Inversions.{ok_ok, err_ok}
use Rattle.asl_rules.proofs.basics.Tests.{some_same, none_some}
use Rattle.asl_laws.proofs.soundness.SoundnessFacts.{facts_of}
use Rattle.asl_rules.proofs.values.Bare.{viewed_built}
use Rattle.asl_rules.proofs.values.Constructs.{seen_is}
use Rattle.asl_rules.proofs.values.Viewing.{viewed_twice}
use Rattle.asl_types.specs.private.Codes.{parts_code}
use Rattle.asl_subprograms.specs.private.SignatureCodes.{param_code}
use Rattle.asl_types.specs.Suits.{Suits}
use Rattle.asl_tree.specs.Funcs.{func_of, all_funcs}
use Rattle.asl_tree.specs.Sealed.{Sealed, IsMade, IsSealed}
use Rattle.asl_tree.specs.declared.act.TreeFunc.{TreeFunc}
use Rattle.asl_tree.specs.declared.checked.Global.{Global}
use Rattle.asl_tree.proofs.Asked.{some_suits}
use Rattle.asl_value.specs.View.{value_of}
use Rattle.asl_value.specs.declared.value.Value.{Value as Given}
use Rattle.asl_machine.specs.Work.{IsCallable}
use Rattle.asl_words.specs.private.Runs.{IsWord}
use Rattle.asl_words.specs.Shapes.{IsNamed}
use Rattle.asl_laws.proofs.reported.Asked.{has_asked}
use Rattle.asl_laws.proofs.reported.RunsOfWords.{HasEntry}
use Rattle.asl_words.proofs.Formals.{WordFormal, named_has, number_there, word_formal}

-- ---- a place of a list

here_at : {X : Type 0} (xs : List X) (i : ℕ) (b : Bor X) → IsItemAt xs i (Some b) → slice_get xs i ≡ Some b.now
here_at xs i b h = slice_get_read xs (length xs) i b.now refl h.3.0 h.1

none_at : {X : Type 0} (xs : List X) (i : ℕ) → IsItemAt xs i None → slice_get xs i ≡ None
none_at xs i h = slice_get_past xs i h.3

pub func_at : (fs xs : List TreeFunc) (id i : ℕ) (b : Bor TreeFunc) → xs ≡ fs → i ≡ id → IsItemAt xs i (Some b) → slice_get fs id ≡ Some b.now
func_at fs xs id i b e q h = ap (λ ys. slice_get ys id) (sym e) ∙ ap (slice_get xs) (sym q) ∙ here_at xs i b h

pub no_func_at : (fs xs : List TreeFunc) (id i : ℕ) → xs ≡ fs → i ≡ id → IsItemAt xs i None → slice_get fs id ≡ None
no_func_at fs xs id i e q h = ap (λ ys. slice_get ys id) (sym e) ∙ ap (slice_get xs) (sym q) ∙ none_at xs i h

-- ---- what a program has that was sealed with the entry of a word

abbrev accepted_in : {t : Tests} (c : Sealed) (fs : List TreeFunc) (gs : List Global) → IsMade t c.decls c.asked c.entries fs gs → Accepted
accepted_in c fs gs m = accepted c.asked c.entries m.signatures (all_funcs fs) m.names

made_has : (t : Tests) (c : Sealed) (fs : List TreeFunc) (gs : List Global) (m : IsMade t c.decls c.asked c.entries fs gs) (w : Word) → IsNamed c.asked w → HasEntry (accepted_in c fs gs m) (is_short w)
made_has t c fs gs m w named = named_has c.asked (accepted_in c fs gs m) w (has_asked t c.asked c.decls (accepted_in c fs gs m) m.accepts) named

made_formal : (t : Tests) → Suits t → (c : Sealed) (fs : List TreeFunc) (gs : List Global) (m : IsMade t c.decls c.asked c.entries fs gs) (w : Word) → IsNamed c.asked w → (id : ℕ) → entry_for c.entries w ≡ Some id →
    WordFormal (accepted_in c fs gs m) id (bits_of (word_width w) w.bits)
made_formal t u c fs gs m w named id is =
    word_formal t u.right c.decls (accepted_in c fs gs m) m.grown (facts_of t c.asked c.decls (accepted_in c fs gs m) m.accepts) w id (made_has t c fs gs m w named) is

-- it has the entry
pub entry_there : (c : Sealed) (fs : List TreeFunc) (gs : List Global) → IsSealed c.decls c.asked c.entries fs gs → (w : Word) → IsNamed c.asked w → entry_for c.entries w ≡ None → ⊥
entry_there c fs gs sealed w named none =
    let s = some_suits in
    ∥∥₁_elim (sealed s.0 s.1) ⊥_prop (λ m. number_there (is_short w) (accepted_in c fs gs m) (made_has s.0 c fs gs m w named) none)

-- a tree for it
pub tree_there : (c : Sealed) (fs : List TreeFunc) (gs : List Global) → IsSealed c.decls c.asked c.entries fs gs → (w : Word) → IsNamed c.asked w → (id : ℕ) → entry_for c.entries w ≡ Some id → slice_get fs id ≡ None → ⊥
tree_there c fs gs sealed w named id is none =
    let s = some_suits in
    ∥∥₁_elim (sealed s.0 s.1) ⊥_prop (λ m.
    let d = made_formal s.0 s.1 c fs gs m w named id is in
    none_some d.tree (sym (ap (option_map func_of) none) ∙ sym (slice_get-map func_of fs id) ∙ d.stands))

-- and this has one formal
formal_in : (t : Tests) (u : Suits t) (c : Sealed) (fs : List TreeFunc) (gs : List Global) (m : IsMade t c.decls c.asked c.entries fs gs) (w : Word) (named : IsNamed c.asked w) (id : ℕ) (is : entry_for c.entries w ≡ Some id) (f : TreeFunc) →
    slice_get fs id ≡ Some f → f.formals ≡ (made_formal t u c fs gs m w named id is).formal ∷ []
formal_in t u c fs gs m w named id is f here =
    let d = made_formal t u c fs gs m w named id is in
    ap (λ z. z.formals) (some_same (func_of f) d.tree (sym (ap (option_map func_of) here) ∙ sym (slice_get-map func_of fs id) ∙ d.stands)) ∙ d.formals_are

pub formal_there : (c : Sealed) (fs : List TreeFunc) (gs : List Global) → IsSealed c.decls c.asked c.entries fs gs → (w : Word) → IsNamed c.asked w → (id : ℕ) → entry_for c.entries w ≡ Some id → (f : TreeFunc) → slice_get fs id ≡ Some f →
    slice_get f.formals 0 ≡ None → ⊥
formal_there c fs gs sealed w named id is f here none =
    let s = some_suits in
    ∥∥₁_elim (sealed s.0 s.1) ⊥_prop (λ m. none_some (made_formal s.0 s.1 c fs gs m w named id is).formal (sym none ∙ ap (λ Ts. slice_get Ts 0) (formal_in s.0 s.1 c fs gs m w named id is f here)))

-- ---- the call

-- words of this type can be given to the subprogram of this number
record Fits (a : Accepted) (id : ℕ) (T : Ty) (w : Word) : Type 0 where
  signature : Signature
  called : slice_get a.signatures id ≡ Some signature
  no_params : signature.params ≡ []
  alone_is : signature.formals ≡ part T no_part
  has : has_type no_atoms (viewed (type_with T no_atoms) (word_value w)) T ≡ true

fits : (t : Tests) → Suits t → (c : Sealed) (fs : List TreeFunc) (gs : List Global) → IsMade t c.decls c.asked c.entries fs gs → (w : Word) → IsNamed c.asked w → (id : ℕ) → entry_for c.entries w ≡ Some id →
    (f : TreeFunc) → slice_get fs id ≡ Some f → (T : Ty) → slice_get f.formals 0 ≡ Some T → (a : Accepted) → verdict c.asked c.decls t ≡ Ok a → Fits a id T w
fits t u c fs gs m w named id is f here T first a ok =
    let d = made_formal t u c fs gs m w named id is in
    let same : d.formal ≡ T = some_same d.formal T (sym (ap (λ Ts. slice_get Ts 0) (formal_in t u c fs gs m w named id is f here)) ∙ first) in
    subst (λ z. Fits z id T w) (ok_ok (accepted_in c fs gs m) a (sym m.accepts ∙ ok))
    (subst (λ U. Fits (accepted_in c fs gs m) id U w) same (record {
      signature = d.signature;
      called = d.called;
      no_params = d.no_params;
      alone_is = d.alone_is;
      has = d.belongs.0;
    }))

belongs : (d : List ℕ → Option Ty) (T : Ty) (w : Word) (Ts : Parts) → Ts ≡ part T no_part → has_type no_atoms (viewed (type_with T no_atoms) (word_value w)) T ≡ true → Belong d no_atoms (viewed (type_with T no_atoms) (word_value w) ∷ []) Ts
belongs d T w Ts e h =
    subst (Belong d no_atoms (viewed (type_with T no_atoms) (word_value w) ∷ [])) (sym e)
    ((h, viewed_built d (type_with T no_atoms) (word_value w) tt, viewed_twice (type_with T no_atoms) (word_value w)), tt)

-- that a program was sealed is known without what it was made of, so equations alone are taken of it
module _ (t : Tests) (u : Suits t) (c : Sealed) (id : ℕ) (T : Ty) (w : Word) where
  by_signature : (a : Accepted) → verdict c.asked c.decls t ≡ Ok a → ∥ Fits a id T w ∥₁ → (o : Option Signature) → slice_get a.signatures id ≡ o → IsCallable t c id (viewed (type_with T no_atoms) (word_value w) ∷ [])
  by_signature a ok fit None e = absurd (∥∥₁_elim fit ⊥_prop (λ k. none_some k.signature (sym e ∙ k.called)))
  by_signature a ok fit (Some s) e = record {
    accepted = a;
    is = ok;
    signature = s;
    called = e;
    no_params = ∥∥₁_elim fit (Coded-set (coded_list param_code) _ _) (λ k. ap (λ (z : Signature). z.params) (some_same s k.signature (sym e ∙ k.called)) ∙ k.no_params);
    args_belong = belongs (types_in a.names) T w s.formals
        (∥∥₁_elim fit (Coded-set parts_code _ _) (λ k. ap (λ (z : Signature). z.formals) (some_same s k.signature (sym e ∙ k.called)) ∙ k.alone_is))
        (∥∥₁_elim fit (Coded-set coded_bool _ _) (λ k. k.has));
  }

  by_verdict : (fs : List TreeFunc) (gs : List Global) → IsSealed c.decls c.asked c.entries fs gs → ((m : IsMade t c.decls c.asked c.entries fs gs) (a : Accepted) → verdict c.asked c.decls t ≡ Ok a → Fits a id T w) →
      (v : Result Accepted Fault) → verdict c.asked c.decls t ≡ v → IsCallable t c id (viewed (type_with T no_atoms) (word_value w) ∷ [])
  by_verdict fs gs sealed fit (Ok a) e = by_signature a e (∥∥₁_map (sealed t u) (λ m. fit m a e)) (slice_get a.signatures id) refl
  by_verdict fs gs sealed fit (Err x) e = absurd (∥∥₁_elim (sealed t u) ⊥_prop (λ m. err_ok x (accepted_in c fs gs m) (sym e ∙ m.accepts)))

-- with a word as the type of its formal sees it
word_callable : (t : Tests) → Suits t → (c : Sealed) (fs : List TreeFunc) (gs : List Global) → IsSealed c.decls c.asked c.entries fs gs → (w : Word) → IsNamed c.asked w → (id : ℕ) → entry_for c.entries w ≡ Some id →
    (f : TreeFunc) → slice_get fs id ≡ Some f → (T : Ty) → slice_get f.formals 0 ≡ Some T → (x : Value) → x ≡ seen_as T (word_value w) → IsCallable t c id (x ∷ [])
word_callable t u c fs gs sealed w named id is f here T first x seen =
    subst (λ y. IsCallable t c id (y ∷ [])) (sym (seen ∙ seen_is no_atoms T (word_value w)))
    (by_verdict t u c id T w fs gs sealed (λ m. fits t u c fs gs m w named id is f here T first) (verdict c.asked c.decls t) refl)

word_seen : (T : Ty) (w : Word) (x : Value) → x ≡ seen_as T (word_value w) → IsWord w x
word_seen T w x seen = record { type_is = type_with T no_atoms; is = seen ∙ seen_is no_atoms T (word_value w) }

-- ---- the clauses of an argument

if_ok : {A E : Type 0} (r : Result A E) (P Q : A → Type 0) → ((x : A) → P x → Q x) → IfOk r P → IfOk r Q
if_ok (Ok x) P Q f p = f x p
if_ok (Err e) P Q f p = tt

pub argument_callable : {E : Type 0} (r : Result Given E) (c : Sealed) (fs : List TreeFunc) (gs : List Global) → IsSealed c.decls c.asked c.entries fs gs → (w : Word) → IsNamed c.asked w → (id : ℕ) → entry_for c.entries w ≡ Some id →
    (f : TreeFunc) → slice_get fs id ≡ Some f → (T : Ty) → slice_get f.formals 0 ≡ Some T → (plain : Value) → plain ≡ word_value w → IfOk r (λ x. value_of x ≡ seen_as T plain) →
    IfOk r (λ x. (t : Tests) → Suits t → IsCallable t c id (value_of x ∷ []))
argument_callable r c fs gs sealed w named id is f here T first plain same h =
    if_ok r _ _ (λ x e t u. word_callable t u c fs gs sealed w named id is f here T first (value_of x) (e ∙ ap (seen_as T) same)) h

pub argument_word : {E : Type 0} (r : Result Given E) (T : Ty) (w : Word) (plain : Value) → plain ≡ word_value w → IfOk r (λ x. value_of x ≡ seen_as T plain) → IfOk r (λ x. IsWord w (value_of x))
argument_word r T w plain same h = if_ok r _ _ (λ x e. word_seen T w (value_of x) (e ∙ ap (seen_as T) same)) h
