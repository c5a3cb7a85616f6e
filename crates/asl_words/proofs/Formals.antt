-- The formal of an entry for words, and a word in its type: of a program that was accepted with this entry.
use Rattle.std.proofs.Common.{◌≡◌, ℕ, Bool, true, false, cond, ◌⊎◌, inl, inr, List, [], ◌∷◌, length, map, Option, Some, None, Ok, refl, sym, ap, ◌∙◌, subst}
use Rattle.std.specs.Prelude.{◌==◌, codes, slice_get}
use Rattle.asl_syn.specs.declared.code.StaticCode.TheVariants.{T17}
use Rattle.asl_syn.specs.declared.tree.Decl.{Decl}
use Rattle.asl_bits.specs.Lists.{bits_of}
use Rattle.asl_bits.proofs.Lists.{length-bits_of}
use Rattle.asl_rules.specs.declared.entry.Entry.{Entry}
use Rattle.asl_rules.specs.declared.entry.Entry.TheVariants as entry
use Rattle.asl_rules.specs.declared.effect.Effect.TheVariants.{Pure}
use Rattle.asl_rules.specs.statements.Acting.{in_order}
use Rattle.asl_rules.specs.private.Agreement.{types_in, no_atoms}
use Rattle.asl_rules.specs.private.Belonging.{InType, Belong}
use Rattle.asl_rules.specs.types.Closed.{type_with}
use Rattle.asl_rules.specs.declarations.Turns.{names_of_program}
use Rattle.asl_rules.specs.runs.Evaluation.{initial_globals}
use Rattle.asl_rules.specs.Faults.{need}
use Rattle.asl_rules.specs.private.Grown.{AreGrown}
use Rattle.asl_rules.specs.declarations.Programs.{funcs_of, Head, may_end, body_of, tree_func, body_rule, signatures, types_in as list_types, Accepted, environment, entry_from, takes_word}
use Rattle.asl_rules.specs.declarations.Scopes.{Signature}
use Rattle.asl_rules.specs.statements.Stmts.{found_stmt}
use Rattle.asl_rules.specs.Tests.{Tests, IsRight}
use Rattle.asl_rules.specs.runs.Trees.{TreeFunc}
use Rattle.asl_rules.specs.types.Types.{Ty, Parts, no_part, part}
use Rattle.asl_rules.specs.values.Values.{bits_with}
use Rattle.asl_rules.specs.types.Views.{viewed}
use Rattle.asl_rules.proofs.basics.Inversions.{ok_ok, bind_ok, then_ok}
use Rattle.asl_rules.proofs.basics.Tests.{some_same, none_some}
use Rattle.asl_laws.proofs.soundness.Soundness.{soundness}
use Rattle.asl_laws.proofs.soundness.SoundnessEntry.{word_call, word_for}
use Rattle.asl_laws.proofs.soundness.SoundnessFacts.{Facts, numbered}
use Rattle.asl_laws.proofs.reported.Asked.{HasAsked, both_there, decode16_there, decode_there}
use Rattle.asl_laws.proofs.reported.RunsOfWords.{HasEntry}
use Rattle.asl_rules.specs.report.WordList.{Word}
use Rattle.asl_rules.specs.runs.Words.{entry_for, is_short, word_width}
use Rattle.asl_words.specs.Shapes.{IsNamed}

-- a tree has the formals of its signature
formals_of_tree : (t : Tests) (subs : List Signature) (h : Head) (f : TreeFunc) → body_rule t subs h ≡ Ok f → f.formals ≡ list_types h.signature.formals
formals_of_tree t subs h f ok =
    let l = bind_ok (in_order (map (found_stmt t) h.func.body) Pure (body_of subs h)) _ f ok in
    let d = then_ok (need (may_end h.signature.result h.func) T17 h.func.name.span) (Ok (tree_func h l.value.acts)) f l.then in
    ap (λ (z : TreeFunc). z.formals) (sym (ok_ok (tree_func h l.value.acts) f d.then))

-- the tree of a subprogram has the formals of its signature
record Treed (a : Accepted) (id : ℕ) (s : Signature) : Type 0 where
  tree : TreeFunc
  stands : slice_get a.funcs id ≡ Some tree
  formals_are : tree.formals ≡ list_types s.formals

treed : (t : Tests) (ds : List Decl) (a : Accepted) → Facts t ds a → (id : ℕ) (s : Signature) → slice_get a.signatures id ≡ Some s → Treed a id s
treed t ds a f id s is =
    let n = numbered t (names_of_program t ds) (signatures f.heads) (funcs_of ds) f.heads f.trees id s f.heads_are f.bodies (subst (λ (z : Accepted). slice_get z.signatures id ≡ Some s) (sym f.is) is) in
    record {
      tree = n.tree;
      stands = subst (λ (z : Accepted). slice_get z.funcs id ≡ Some n.tree) f.is n.is_tree;
      formals_are = formals_of_tree t (signatures f.heads) n.head n.tree n.body ∙ ap (λ (z : Signature). list_types z.formals) n.is_signature;
    }

-- one formal alone takes one value
record Alone (d : List ℕ → Option Ty) (bs : List Bool) (Ts : Parts) : Type 0 where
  formal : Ty
  is : Ts ≡ part formal no_part
  belongs : InType d no_atoms (viewed (type_with formal no_atoms) (bits_with bs [])) formal

alone : (d : List ℕ → Option Ty) (bs : List Bool) (Ts : Parts) → Belong d no_atoms (word_for Ts bs ∷ []) Ts → Alone d bs Ts
alone d bs no_part b = absurd b
alone d bs (part T no_part) b = record { formal = T; is = refl; belongs = b.0 }
alone d bs (part T (part U Ts)) b = absurd b.1

-- the one formal of an entry for words, in the signature and in the tree, and a word in its type
pub record WordFormal (a : Accepted) (id : ℕ) (bs : List Bool) : Type 0 where
  pub formal : Ty
  pub signature : Signature
  pub called : slice_get a.signatures id ≡ Some signature
  pub no_params : signature.params ≡ []
  pub alone_is : signature.formals ≡ part formal no_part
  pub tree : TreeFunc
  pub stands : slice_get a.funcs id ≡ Some tree
  pub formals_are : tree.formals ≡ formal ∷ []
  pub belongs : InType (types_in a.names) no_atoms (viewed (type_with formal no_atoms) (bits_with bs [])) formal

module _ (t : Tests) (right : IsRight t) (ds : List Decl) (a : Accepted) (grown : AreGrown ds) (f : Facts t ds a) where
  formal_by : (name : List ℕ) (width id : ℕ) → entry_from (takes_word name width) 0 a.signatures ≡ Some id → (bs : List Bool) → length bs ≡ width → WordFormal a id bs
  formal_by name width id first bs n =
      let s = soundness t right ds a f grown in
      let d = word_call a id (initial_globals (environment t ds)) s.0.initial name width first bs n in
      let same : d.signature ≡ d.call.signature = some_same d.signature d.call.signature (sym d.stands ∙ d.call.is) in
      let one = alone (types_in a.names) bs d.call.signature.formals (subst (λ (z : Signature). Belong (types_in a.names) no_atoms (word_for z.formals bs ∷ []) d.call.signature.formals) same d.call.args_belong) in
      let u = treed t ds a f id d.call.signature d.call.is in
      record {
        formal = one.formal;
        signature = d.call.signature;
        called = d.call.is;
        no_params = d.call.no_params;
        alone_is = one.is;
        tree = u.tree;
        stands = u.stands;
        formals_are = u.formals_are ∙ ap list_types one.is;
        belongs = one.belongs;
      }

  by_width : (short : Bool) (id n : ℕ) → HasEntry a short → cond short a.entries.entry16 a.entries.main ≡ Some id → WordFormal a id (bits_of (cond short 16 32) n)
  by_width true id n e is = formal_by (codes "decode16") 16 id (e.first ∙ sym e.there ∙ is) (bits_of 16 n) (length-bits_of 16 n)
  by_width false id n e is = formal_by (codes "decode") 32 id (e.first ∙ sym e.there ∙ is) (bits_of 32 n) (length-bits_of 32 n)

  pub word_formal : (w : Word) (id : ℕ) → HasEntry a (is_short w) → entry_for a.entries w ≡ Some id → WordFormal a id (bits_of (word_width w) w.bits)
  word_formal w id e is = by_width (is_short w) id w.bits e is

-- ---- a program that was accepted with the entry of a word has it

asked_as : (e f : Entry) (a : Accepted) → HasAsked e a → e ≡ f → HasAsked f a
asked_as e f a h same = subst (λ z. HasAsked z a) same h

long_has : (e : Entry) (a : Accepted) → HasAsked e a → (e ≡ entry.Decode) ⊎ (e ≡ entry.Both) → HasEntry a false
long_has e a h (inl d) = decode_there a (asked_as e entry.Decode a h d)
long_has e a h (inr d) = (both_there a (asked_as e entry.Both a h d)).0

short_has : (e : Entry) (a : Accepted) → HasAsked e a → (e ≡ entry.Decode16) ⊎ (e ≡ entry.Both) → HasEntry a true
short_has e a h (inl d) = decode16_there a (asked_as e entry.Decode16 a h d)
short_has e a h (inr d) = (both_there a (asked_as e entry.Both a h d)).1

long_digits : (n : ℕ) → n ≡ 8 → (n == 4) ≡ false
long_digits n h = ap (λ d. d == 4) h

short_digits : (n : ℕ) → n ≡ 4 → (n == 4) ≡ true
short_digits n h = ap (λ d. d == 4) h

pub named_has : (e : Entry) (a : Accepted) (w : Word) → HasAsked e a → IsNamed e w → HasEntry a (is_short w)
named_has e a w h (inl k) = subst (HasEntry a) (sym (long_digits w.digits k.0)) (long_has e a h k.1)
named_has e a w h (inr k) = subst (HasEntry a) (sym (short_digits w.digits k.0.0)) (short_has e a h k.1)

-- so its number is there
pub number_there : (short : Bool) (a : Accepted) → HasEntry a short → cond short a.entries.entry16 a.entries.main ≡ None → ⊥
number_there true a e none = none_some e.id (sym none ∙ e.there)
number_there false a e none = none_some e.id (sym none ∙ e.there)
