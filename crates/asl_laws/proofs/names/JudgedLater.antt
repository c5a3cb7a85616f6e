-- What is judged at a turn is judged so at every later one: what it uses was well formed, and stays so, and no name changes its place.
use Rattle.std.proofs.Common.{◌≡◌, ℕ, inl, inr, Bool, true, false, not, ◌&&◌, ◌||◌, ◌⊎◌, List, [], ◌∷◌, map, Ok, Err, refl, sym}
use Rattle.std.proofs.Common.{ap, ◌∙◌, subst}
use Rattle.std.specs.Prelude.{Result}
use Rattle.std.specs.Str.{bytes_eq}
use Rattle.asl_syn.specs.declared.code.Fault.{Fault}
use Rattle.asl_syn.specs.declared.tree.Ident.{Ident}
use Rattle.asl_syn.specs.declared.tree.TypeDef.{TypeDef}
use Rattle.asl_syn.specs.declared.tree.TypeDef.TheVariants as td
use Rattle.asl_syn.specs.declared.tree.TypeDecl.{TypeDecl}
use Rattle.asl_syn.specs.declared.tree.StorageDecl.{StorageDecl}
use Rattle.asl_syn.specs.declared.tree.Decl.{Decl}
use Rattle.asl_syn.specs.declared.tree.Decl.TheVariants as dc
use Rattle.asl_rules.specs.declared.effect.Effect.TheVariants.{Writes}
use Rattle.asl_rules.specs.Tests.{Tests}
use Rattle.asl_rules.specs.types.Types.{Ty, named, structure}
use Rattle.asl_rules.specs.values.Values.{label}
use Rattle.asl_rules.specs.declarations.Names.{library, declared_as, labels_of}
use Rattle.asl_rules.specs.declarations.Scopes.{Entry, Scope, subprogram, label_name}
use Rattle.asl_rules.specs.declarations.UsedNames.{Use, Uses, of_value, of_subprogram, of_type, name_of, Each, decl_uses}
use Rattle.asl_rules.specs.declarations.Uses.{Used, uses, is_declared, declares, any_declared, uses_one_of}
use Rattle.asl_rules.specs.declarations.Declarations.{in_names, label_entries, def_rule, supertype_rule, type_decl_rule, storage_rule}
use Rattle.asl_rules.specs.declarations.Declarations.{storage_decl_rule, is_var}
use Rattle.asl_rules.specs.declarations.Turns.{Judged, Waiting, judged, is_fine, SoFar, reserved, entries_or, entries, names_so_far}
use Rattle.asl_rules.specs.declarations.Turns.{all_fine}
use Rattle.asl_rules.specs.declarations.Turns.{decl_judged}
use Rattle.asl_rules.specs.private.Judgements.{EachJudged}
use Rattle.asl_rules.proofs.basics.Answering.{OfAnswer, behind}
use Rattle.asl_rules.proofs.basics.Tests.{no, both}
use Rattle.asl_rules.proofs.verdict.Distinct.{In}
use Rattle.asl_rules.proofs.verdict.Turning.{Stays, Later, fine_stays}
use Rattle.asl_laws.proofs.names.SamePlaces.{Shows}
use Rattle.asl_laws.proofs.names.SameDecls.{decl_same}
use Rattle.asl_laws.proofs.names.Twins.{Twins, twins_self, twins_append, twins_standing, twins_places, twins_once}

-- ---- what a declaration brings has its names, in the places that are kept for them

abbrev pub Never : List ℕ → Type 0
Never n = ⊥

-- a subprogram has its own name, whatever came of it
abbrev pub OfFunc : Decl → Judged → Type 0
OfFunc (dc.Type d) j = Unit {0}
OfFunc (dc.Storage d) j = Unit {0}
OfFunc (dc.Func f) j = entries_or (dc.Func f) j ≡ reserved (dc.Func f)

abbrev pub Made : Decl → Judged → Type 0
Made d j = Twins Never (entries_or d j) (reserved d) × OfFunc d j

of_func_waiting : (d : Decl) → OfFunc d Waiting
of_func_waiting (dc.Type d) = tt
of_func_waiting (dc.Storage d) = tt
of_func_waiting (dc.Func f) = refl

pub waiting_made : (d : Decl) → Made d Waiting
waiting_made d = (twins_self Never (reserved d), of_func_waiting d)

labels_made : (T : Ty) (name : List ℕ) (is : List Ident) →
    Twins Never (map (λ (i : Ident). label_name i.text T (label name i.text)) is) (map (λ (i : Ident). subprogram i.text) is)
labels_made T name [] = tt
labels_made T name (i ∷ is) = (record { name = refl; kind = refl; same = λ n h k. absurd h }, labels_made T name is)

def_made : (def : TypeDef) (name : List ℕ) (T : Ty) →
    Twins Never (label_entries def name T) (map (λ (i : Ident). subprogram i.text) (labels_of def))
def_made (td.Alias w) name T = tt
def_made (td.Labels span is) name T = labels_made T name is
def_made (td.Record span fs) name T = tt
def_made (td.Exception span fs) name T = tt

type_made : (t : Tests) (d : TypeDecl) (G : Scope) → OfAnswer (λ es. Twins Never es (reserved (dc.Type d))) (type_decl_rule t d G)
type_made t d G =
    behind _ (def_rule t d.name.text d.def G) _ (λ T. behind _ (supertype_rule t d.supertype T G) _ (λ supers.
    (record { name = refl; kind = refl; same = λ n h k. absurd h }, def_made d.def d.name.text (named d.name.text supers (structure T)))))

storage_made : (t : Tests) (d : StorageDecl) (G : Scope) →
    OfAnswer (λ es. Twins Never es (reserved (dc.Storage d))) (storage_decl_rule t d G)
storage_made t d G =
    behind _ (storage_rule t d (is_var d.kind) d.ty d.init G) _ (λ s. (record { name = refl; kind = refl; same = λ n h k. absurd h }, tt))

judged_made : (d : Decl) (r : Result (List Entry) Fault) → OfAnswer (λ es. Twins Never es (reserved d)) r → OfFunc d (judged r) →
    Made d (judged r)
judged_made d (Ok es) h k = (h, k)
judged_made d (Err e) h k = (twins_self Never (reserved d), k)

pub decl_made : (t : Tests) (d : Decl) (names : List Entry) → Made d (decl_judged t d names)
decl_made t (dc.Type d) names = judged_made (dc.Type d) (type_decl_rule t d (in_names names)) (type_made t d (in_names names)) tt
decl_made t (dc.Storage d) names =
    judged_made (dc.Storage d) (storage_decl_rule t d (in_names names)) (storage_made t d (in_names names)) tt
decl_made t (dc.Func f) names = (twins_self Never (reserved (dc.Func f)), refl)

abbrev pub AllMade : List Decl → SoFar → Type 0
AllMade ds js = EachJudged Made ds js

-- ---- names that aren't used

abbrev has_entry : List ℕ → List Entry → Bool
has_entry n [] = false
has_entry n (e ∷ es) = bytes_eq e.name n || has_entry n es

and_yes : (b : Bool) → (b && true) ≡ b
and_yes true = refl
and_yes false = refl

labels_have : (n : List ℕ) (is : List Ident) →
    has_entry n (map (λ (i : Ident). subprogram i.text) is) ≡ is_declared n (map (declared_as false) is)
labels_have n [] = refl
labels_have n (i ∷ is) = λ k. sym (and_yes (bytes_eq i.text n)) k || labels_have n is k

neither : (a b : Bool) → (a || b) ≡ false → (a ≡ false) × (b ≡ false)
neither true b h = no (sym h)
neither false b h = (refl, h)

module _ (Fixed : List ℕ → Type 0) where
  twins_apart : (es fs gs : List Entry) → Twins Never es gs → Twins Never fs gs → ((n : List ℕ) → Fixed n → has_entry n gs ≡ false) →
      Twins Fixed es fs
  twins_apart [] [] gs p q a = tt
  twins_apart [] (f ∷ fs) [] p q a = absurd q
  twins_apart [] (f ∷ fs) (g ∷ gs) p q a = absurd p
  twins_apart (e ∷ es) [] [] p q a = absurd p
  twins_apart (e ∷ es) [] (g ∷ gs) p q a = absurd q
  twins_apart (e ∷ es) (f ∷ fs) [] p q a = absurd p
  twins_apart (e ∷ es) (f ∷ fs) (g ∷ gs) p q a = (
    record {
      name = p.0.name ∙ sym q.0.name;
      kind = p.0.kind ∙ sym q.0.kind;
      same = λ n h k. no (sym (neither (bytes_eq g.name n) (has_entry n gs) (a n h)).0 ∙ ap (λ m. bytes_eq m n) (sym p.0.name) ∙ k);
    },
    twins_apart es fs gs p.1 q.1 (λ n h. (neither (bytes_eq g.name n) (has_entry n gs) (a n h)).1),
  )

-- ---- a declaration with what it uses

in_uses : (u : Use) (us : Uses) → In u us → In (name_of u) (map name_of us)
in_uses u [] i = absurd i
in_uses u (v ∷ us) (inl e) = inl (ap name_of e)
in_uses u (v ∷ us) (inr i) = inr (in_uses u us i)

each_in : (P : Use → Type 0) (us : Uses) → ((u : Use) → In u us → P u) → Each P us
each_in P [] h = tt
each_in P (u ∷ us) h = (h u (inl refl), each_in P us (λ v i. h v (inr i)))

-- a used name is none of those that aren't used
none_declared : (e : Decl) (us : Used) (n : List ℕ) → any_declared e us ≡ false → In n us → declares e n ≡ false
none_declared e [] n h i = absurd i
none_declared e (u ∷ us) n h (inl q) = subst (λ m. declares e m ≡ false) q (neither (declares e u) (any_declared e us) h).0
none_declared e (u ∷ us) n h (inr i) = none_declared e us n (neither (declares e u) (any_declared e us) h).1 i

module _ (d0 : Decl) where
  abbrev Fixed : List ℕ → Type 0
  Fixed n = In n (uses d0)

  -- it isn't used, or it came to the same
  abbrev SameIfUsed : Decl → Judged → Judged → Type 0
  SameIfUsed e j k = (uses_one_of d0 e ≡ false) ⊎ (j ≡ k)

  same_if_used : (e : Decl) (j k : Judged) (b : Bool) → uses_one_of d0 e ≡ b → (not b || is_fine j) ≡ true → Stays j k → SameIfUsed e j k
  same_if_used e j k false q h l = inl q
  same_if_used e j k true q h l = inr (fine_stays j k h l)

  one_twins : (e : Decl) (j k : Judged) → Made e j → Made e k → SameIfUsed e j k → Twins Fixed (entries_or e j) (entries_or e k)
  one_twins e j k m n (inr q) = subst (λ z. Twins Fixed (entries_or e j) (entries_or e z)) q (twins_self Fixed (entries_or e j))
  one_twins (dc.Type d) j k m n (inl h) =
      twins_apart Fixed (entries_or (dc.Type d) j) (entries_or (dc.Type d) k) (reserved (dc.Type d)) m.0 n.0 (λ s i.
      (λ l. sym (and_yes (bytes_eq d.name.text s)) l || labels_have s (labels_of d.def) l) ∙ none_declared (dc.Type d) (uses d0) s h i)
  one_twins (dc.Storage d) j k m n (inl h) =
      twins_apart Fixed (entries_or (dc.Storage d) j) (entries_or (dc.Storage d) k) (reserved (dc.Storage d)) m.0 n.0 (λ s i.
      (λ l. sym (and_yes (bytes_eq d.name.text s)) l || false) ∙ none_declared (dc.Storage d) (uses d0) s h i)
  one_twins (dc.Func f) j k m n (inl h) = subst (λ z. Twins Fixed z (entries_or (dc.Func f) k)) (sym m.1)
      (subst (λ z. Twins Fixed (reserved (dc.Func f)) z) (sym n.1) (twins_self Fixed (reserved (dc.Func f))))

  -- ---- all declarations, in two states of which the second is later

  all_twins : (es : List Decl) (js ks : SoFar) → AllMade es js → AllMade es ks → Later js ks → all_fine d0 es js ≡ true →
      Twins Fixed (entries es js) (entries es ks)
  all_twins [] [] [] m n l h = tt
  all_twins [] [] (k ∷ ks) m n l h = absurd n
  all_twins [] (j ∷ js) ks m n l h = absurd m
  all_twins (e ∷ es) [] ks m n l h = absurd m
  all_twins (e ∷ es) (j ∷ js) [] m n l h = absurd n
  all_twins (e ∷ es) (j ∷ js) (k ∷ ks) m n l h =
      let p = both (not (uses_one_of d0 e) || is_fine j) (all_fine d0 es js) h in
      twins_append Fixed (entries_or e j) (entries_or e k) (entries es js) (entries es ks)
      (one_twins e j k m.0 n.0 (same_if_used e j k (uses_one_of d0 e) refl p.0 l.0)) (all_twins es js ks m.1 n.1 l.1 p.1)

  module _ (A B : List Entry) (w : Twins Fixed A B) where
    shows : (u : Use) → In u (decl_uses d0) → Shows A B u
    shows (of_value span n) i = twins_standing Fixed n (in_uses (of_value span n) (decl_uses d0) i) A B w
    shows (of_subprogram span n) i = tt
    shows (of_type n) i = twins_standing Fixed n (in_uses (of_type n) (decl_uses d0) i) A B w

    -- it is judged the same
    alike : (t : Tests) → decl_judged t d0 A ≡ decl_judged t d0 B
    alike t = ap judged (decl_same t A B [] [] (twins_places Fixed A B w) d0 (each_in (Shows A B) (decl_uses d0) shows) Writes)

-- what is judged where all that it uses is well formed is judged so in every later state
pub judged_later : (t : Tests) (d : Decl) (ds : List Decl) (js ks : SoFar) → AllMade ds js → AllMade ds ks → Later js ks →
    all_fine d ds js ≡ true → decl_judged t d (names_so_far ds js) ≡ decl_judged t d (names_so_far ds ks)
judged_later t d ds js ks m n l h =
    let libraries = map subprogram library in
    alike d (names_so_far ds js) (names_so_far ds ks)
    (twins_once (Fixed d) (entries ds js) (entries ds ks) libraries libraries (all_twins d ds js ks m n l h)
    (twins_self (Fixed d) libraries)) t
