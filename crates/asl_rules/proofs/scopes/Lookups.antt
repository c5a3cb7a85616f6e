-- A name that stands for storage in a scope has its value in each state that agrees, and a label its own.
use Rattle.std.proofs.Common.{◌≡◌, ℕ, Bool, true, false, cond, List, [], ◌∷◌, ◌++◌, Option, Some, None, refl, sym, ap, ◌∙◌, subst}
use Rattle.std.specs.Str.{bytes_eq}
use Rattle.std.proofs.lemmas.Slice.Eq.{bytes_eq-Decides}
use Rattle.asl_syn.specs.declared.token.Span.{Span}
use Rattle.asl_rules.specs.types.Types.{Ty}
use Rattle.asl_rules.specs.declarations.Scopes.{Entry, Standing, Stored, Subprogram, TypeName, Label, Storage, standing_of, storage_in, type_in, type_of_name, known_value}
use Rattle.asl_rules.specs.values.Values.{Value, has}
use Rattle.asl_rules.specs.runs.States.{Binding, Core}
use Rattle.asl_rules.specs.private.Belonging.{InType}
use Rattle.asl_rules.specs.private.Agreement.{IsKnown, CountsAs, Holds, HoldsGlobal, no_atoms, types_in, AllMatch, global_matches, local_matches, FrameMatches, AllFresh, Agrees}
use Rattle.asl_rules.specs.runs.Plans.{Pure, Good, Bad}
use Rattle.asl_rules.specs.runs.Pures.{known}
use Rattle.asl_rules.specs.runs.Evaluation.{value_of, or_value, held, label_in}
use Rattle.asl_rules.specs.types.Closed.{Assignment, type_with}
use Rattle.asl_rules.specs.types.Views.{viewed}
use Rattle.asl_rules.proofs.basics.Tests.{some_same, none_some}

stored_in : Storage → Standing → Storage
stored_in d (Stored s) = s
stored_in d Subprogram = d
stored_in d (TypeName T) = d
stored_in d (Label T x) = d

pub stored_same : (u s : Storage) → Stored u ≡ Stored s → u ≡ s
unfolding stored_in
stored_same u s h = ap (stored_in u) h

-- a name that stands for nothing among the first stands for what it does among the rest
pub behind : (es fs : List Entry) (name : List ℕ) → standing_of name es ≡ None → standing_of name (es ++ fs) ≡ standing_of name fs
behind [] fs name h = refl
behind (e ∷ es) fs name h = one (bytes_eq e.name name) e.standing (standing_of name es) (standing_of name (es ++ fs)) (standing_of name fs) (behind es fs name) h
  where
    one : (d : Bool) (st : Standing) (o p q : Option Standing) → (o ≡ None → p ≡ q) → cond d (Some st) o ≡ None → cond d (Some st) p ≡ q
    one true st o p q f h = none_some st (sym h)
    one false st o p q f h = f h

-- a name that stands for something among the first stands for it
pub before_is : (es fs : List Entry) (name : List ℕ) (st : Standing) → standing_of name es ≡ Some st → standing_of name (es ++ fs) ≡ Some st
before_is [] fs name st h = none_some st h
before_is (e ∷ es) fs name st h = one (bytes_eq e.name name) e.standing (standing_of name es) (standing_of name (es ++ fs)) st (before_is es fs name st) h
  where
    one : (d : Bool) (own : Standing) (o p : Option Standing) (st : Standing) → (o ≡ Some st → p ≡ Some st) → cond d (Some own) o ≡ Some st → cond d (Some own) p ≡ Some st
    one true own o p st f h = h
    one false own o p st f h = f h

abbrev pub apart_from : List ℕ → Standing → List Entry → Type 0
apart_from name Subprogram es = Unit {0}
apart_from name (Stored s) es = standing_of name es ≡ None
apart_from name (TypeName T) es = standing_of name es ≡ None
apart_from name (Label T x) es = standing_of name es ≡ None

-- subprograms aside, no name stands for two things
abbrev pub Apart : List Entry → Type 0
Apart [] = Unit {0}
Apart (e ∷ es) = apart_from e.name e.standing es × Apart es

module _ (av : Assignment) where
  -- a value of the storage, where there is one
  abbrev pub Finds : (List ℕ → Option Ty) → Storage → Option Value → Type 0
  Finds d s None = ⊥
  Finds d s (Some x) = InType d av x s.ty × IsKnown (known_value s) x × CountsAs av s.counted x

  -- what a binding offers for a name
  record Offers (d : List ℕ → Option Ty) (n : List ℕ) (u : Storage) (b : Binding) : Type 0 where
    pub name_is : b.name ≡ n
    pub found : Finds d u (Some b.value)

  held_offers : (d : List ℕ → Option Ty) (n : List ℕ) (u : Storage) (b : Binding) → Holds d av n u b → Offers d n u b
  held_offers d n u b k = record { name_is = k.name_is; found = (k.belongs, k.known, k.counts) }

  global_offers : (d : List ℕ → Option Ty) (n : List ℕ) (u : Storage) (b : Binding) → HoldsGlobal d n u b → Offers d n u b
  global_offers d n u b k =
      let i = k.holds.belongs in
      let e : type_with u.ty no_atoms ≡ type_with u.ty av = k.fixed no_atoms ∙ sym (k.fixed av) in
      record { name_is = k.holds.name_is; found = ((subst (λ T. has b.value T ≡ true) e i.0, i.1, subst (λ T. viewed T b.value ≡ b.value) e i.2), k.holds.known, subst (λ o. CountsAs av o b.value) (sym k.no_atom) tt) }

  -- ---- among globals: the storage of a name has its value

  global_at : (m : Bool) (d : List ℕ → Option Ty) (name : List ℕ) (s : Storage) (b : Binding) (n : List ℕ) (u : Storage) (o : Option Standing) (rest : Option Value) → bytes_eq n name ≡ m → Offers d n u b →
      cond m (Some (Stored u)) o ≡ Some (Stored s) → (o ≡ Some (Stored s) → Finds d s rest) → Finds d s (cond (bytes_eq b.name name) (Some b.value) rest)
  global_at true d name s b n u o rest q k h f =
      subst (λ t. Finds d s (cond t (Some b.value) rest)) (sym (ap (λ m. bytes_eq m name) k.name_is ∙ q))
      (subst (λ (v : Storage). Finds d v (Some b.value)) (stored_same u s (some_same (Stored u) (Stored s) h)) k.found)
  global_at false d name s b n u o rest q k h f =
      subst (λ t. Finds d s (cond t (Some b.value) rest)) (sym (ap (λ m. bytes_eq m name) k.name_is ∙ q)) (f h)

  -- a name that stands for no storage is passed over
  pub skip_other : (m : Bool) (st : Standing) (o : Option Standing) (s : Storage) → storage_in (Some st) ≡ None → cond m (Some st) o ≡ Some (Stored s) → o ≡ Some (Stored s)
  skip_other true st o s n h = none_some s (sym n ∙ ap storage_in h)
  skip_other false st o s n h = h

  global_by : (d : List ℕ → Option Ty) (name n : List ℕ) (st : Standing) (es : List Entry) (bs : List Binding) (s : Storage) → global_matches d n st bs (AllMatch d es) → cond (bytes_eq n name) (Some st) (standing_of name es) ≡ Some (Stored s) →
      ((cs : List Binding) → AllMatch d es cs → standing_of name es ≡ Some (Stored s) → Finds d s (value_of name cs)) → Finds d s (value_of name bs)
  global_by d name n Subprogram es bs s m h next = next bs m (skip_other (bytes_eq n name) Subprogram (standing_of name es) s refl h)
  global_by d name n (TypeName T) es bs s m h next = next bs m (skip_other (bytes_eq n name) (TypeName T) (standing_of name es) s refl h)
  global_by d name n (Label T x) es bs s m h next = next bs m (skip_other (bytes_eq n name) (Label T x) (standing_of name es) s refl h)
  global_by d name n (Stored u) es [] s m h next = absurd m
  global_by d name n (Stored u) es (b ∷ bs) s m h next = global_at (bytes_eq n name) d name s b n u (standing_of name es) (value_of name bs) refl (global_offers d n u b m.0) h (next bs m.1)

  pub global_value : (d : List ℕ → Option Ty) (es : List Entry) (name : List ℕ) (s : Storage) (bs : List Binding) → AllMatch d es bs → standing_of name es ≡ Some (Stored s) → Finds d s (value_of name bs)
  global_value d [] name s bs m h = none_some (Stored s) h
  global_value d (e ∷ es) name s bs m h = global_by d name e.name e.standing es bs s m h (global_value d es name s)

  -- ---- in a frame

  frame_by : (d : List ℕ → Option Ty) (name n : List ℕ) (st : Standing) (es : List Entry) (b : Binding) (bs : List Binding) (s : Storage) → local_matches d av n st b → cond (bytes_eq n name) (Some st) (standing_of name es) ≡ Some (Stored s) →
      (standing_of name es ≡ Some (Stored s) → Finds d s (value_of name bs)) → Finds d s (value_of name (b ∷ bs))
  frame_by d name n Subprogram es b bs s m h next = absurd m
  frame_by d name n (TypeName T) es b bs s m h next = absurd m
  frame_by d name n (Label T x) es b bs s m h next = absurd m
  frame_by d name n (Stored u) es b bs s m h next = global_at (bytes_eq n name) d name s b n u (standing_of name es) (value_of name bs) refl (held_offers d n u b m) h next

  pub frame_value : (d : List ℕ → Option Ty) (es : List Entry) (name : List ℕ) (s : Storage) (bs : List Binding) → FrameMatches d av es bs → standing_of name es ≡ Some (Stored s) → Finds d s (value_of name bs)
  frame_value d [] name s bs m h = none_some (Stored s) h
  frame_value d (e ∷ es) name s [] m h = absurd m
  frame_value d (e ∷ es) name s (b ∷ bs) m h = frame_by d name e.name e.standing es b bs s m.0 h (frame_value d es name s bs m.1)

  -- a name from outside has no value in a frame
  pub not_here : (m : Bool) (base : List Entry) (name n : List ℕ) (st : Standing) → bytes_eq n name ≡ m → standing_of n base ≡ None → standing_of name base ≡ Some st → m ≡ false
  not_here true base name n st q f h = none_some st (sym f ∙ ap (λ m. standing_of m base) ((bytes_eq-Decides n name).0 q) ∙ h)
  not_here false base name n st q f h = refl

  absent_by : (d : List ℕ → Option Ty) (base : List Entry) (name n : List ℕ) (st own : Standing) (b : Binding) (bs : List Binding) → local_matches d av n own b → standing_of n base ≡ None → standing_of name base ≡ Some st → value_of name bs ≡ None → value_of name (b ∷ bs) ≡ None
  absent_by d base name n st Subprogram b bs m f h k = absurd m
  absent_by d base name n st (TypeName T) b bs m f h k = absurd m
  absent_by d base name n st (Label T x) b bs m f h k = absurd m
  absent_by d base name n st (Stored u) b bs m f h k = ap (λ t. cond t (Some b.value) (value_of name bs)) (ap (λ l. bytes_eq l name) m.name_is ∙ not_here (bytes_eq n name) base name n st refl f h) ∙ k

  pub absent_value : (d : List ℕ → Option Ty) (base es : List Entry) (name : List ℕ) (st : Standing) (bs : List Binding) → FrameMatches d av es bs → AllFresh base es → standing_of name base ≡ Some st → value_of name bs ≡ None
  absent_value d base [] name st [] m f h = refl
  absent_value d base [] name st (b ∷ bs) m f h = absurd m
  absent_value d base (e ∷ es) name st [] m f h = absurd m
  absent_value d base (e ∷ es) name st (b ∷ bs) m f h = absent_by d base name e.name st e.standing b bs m.0 f.0 h (absent_value d base es name st bs m.1 f.1 h)

  -- ---- in a scope

  -- local names stand for storage
  abbrev pub IsStored : Option Standing → Type 0
  IsStored None = Unit {0}
  IsStored (Some (Stored s)) = Unit {0}
  IsStored (Some Subprogram) = ⊥
  IsStored (Some (TypeName T)) = ⊥
  IsStored (Some (Label T x)) = ⊥

  stored_by : (d : List ℕ → Option Ty) (n : List ℕ) (m : Bool) (st : Standing) (b : Binding) (o : Option Standing) → local_matches d av n st b → IsStored o → IsStored (cond m (Some st) o)
  stored_by d n true (Stored u) b o k h = tt
  stored_by d n true Subprogram b o k h = absurd k
  stored_by d n true (TypeName T) b o k h = absurd k
  stored_by d n true (Label T x) b o k h = absurd k
  stored_by d n false st b o k h = h

  pub all_stored : (d : List ℕ → Option Ty) (es : List Entry) (bs : List Binding) (name : List ℕ) → FrameMatches d av es bs → IsStored (standing_of name es)
  all_stored d [] bs name m = tt
  all_stored d (e ∷ es) [] name m = absurd m
  all_stored d (e ∷ es) (b ∷ bs) name m = stored_by d e.name (bytes_eq e.name name) e.standing b (standing_of name es) m.0 (all_stored d es bs name m.1)

  no_type : (o : Option Standing) → IsStored o → None ≡ type_in o
  no_type None h = refl
  no_type (Some (Stored s)) h = refl
  no_type (Some Subprogram) h = refl
  no_type (Some (TypeName T)) h = absurd h
  no_type (Some (Label T x)) h = absurd h

  types_by : (base locals : List Entry) (name : List ℕ) (o : Option Standing) → standing_of name base ≡ o → IsStored (standing_of name locals) → type_in o ≡ type_of_name name (base ++ locals)
  types_by base locals name None q k = no_type (standing_of name locals) k ∙ ap type_in (sym (behind base locals name q))
  types_by base locals name (Some st) q k = ap type_in (sym (before_is base locals name st q))

  -- the declared types of a scope are those outside bodies
  pub same_types : (base names : List Entry) (c : Core) (name : List ℕ) → Agrees base names av c → type_of_name name base ≡ type_of_name name names
  same_types base names c name a =
      types_by base a.locals name (standing_of name base) refl (all_stored (types_in base) a.locals c.frame name a.frame) ∙ ap (type_of_name name) (sym a.names_are)

  outside_by : (base locals : List Entry) (name : List ℕ) (T : Ty) (x : Value) (o : Option Standing) → standing_of name base ≡ o → IsStored (standing_of name locals) → standing_of name (base ++ locals) ≡ Some (Label T x) → standing_of name base ≡ Some (Label T x)
  outside_by base locals name T x None q k h = absurd (subst IsStored (sym (behind base locals name q) ∙ h) k)
  outside_by base locals name T x (Some st) q k h = q ∙ sym (before_is base locals name st q) ∙ h

  -- a label of a scope is one outside bodies
  pub label_outside : (base names : List Entry) (c : Core) (name : List ℕ) (T : Ty) (x : Value) → Agrees base names av c → standing_of name names ≡ Some (Label T x) → standing_of name base ≡ Some (Label T x)
  label_outside base names c name T x a h =
      outside_by base a.locals name T x (standing_of name base) refl (all_stored (types_in base) a.locals c.frame name a.frame) (ap (standing_of name) (sym a.names_are) ∙ h)

  -- the value of a name's storage
  abbrev pub Knows : (List ℕ → Option Ty) → Storage → Pure Value → Type 0
  Knows d s (Good x) = InType d av x s.ty × IsKnown (known_value s) x × CountsAs av s.counted x
  Knows d s (Bad e) = ⊥

  known_good : (d : List ℕ → Option Ty) (s : Storage) (span : Span) (o : Option Value) → Finds d s o → Knows d s (known span o)
  known_good d s span (Some x) h = h
  known_good d s span None h = absurd h

  or_first : (d : List ℕ → Option Ty) (s : Storage) (o p : Option Value) → Finds d s o → Finds d s (or_value o p)
  or_first d s (Some x) p h = h
  or_first d s None p h = absurd h

  or_second : (d : List ℕ → Option Ty) (s : Storage) (o p : Option Value) → o ≡ None → Finds d s p → Finds d s (or_value o p)
  or_second d s o p e h = subst (λ q. Finds d s (or_value q p)) (sym e) h

  or_further : (d : List ℕ → Option Ty) (s : Storage) (o p q : Option Value) → Finds d s (or_value o p) → Finds d s (or_value o (or_value p q))
  or_further d s (Some x) p q h = h
  or_further d s None (Some x) q h = h
  or_further d s None None q h = absurd h

  pub storage_standing : (o : Option Standing) (s : Storage) → storage_in o ≡ Some s → o ≡ Some (Stored s)
  storage_standing None s h = none_some s h
  storage_standing (Some (Stored u)) s h = ap (λ t. Some (Stored t)) (some_same u s h)
  storage_standing (Some Subprogram) s h = none_some s h
  storage_standing (Some (TypeName T)) s h = none_some s h
  storage_standing (Some (Label T x)) s h = none_some s h

  by_base : (d : List ℕ → Option Ty) (base locals : List Entry) (c : Core) (name : List ℕ) (s : Storage) (o : Option Standing) → standing_of name base ≡ o → AllFresh base locals → FrameMatches d av locals c.frame → AllMatch d base c.globals →
      standing_of name (base ++ locals) ≡ Some (Stored s) → Finds d s (or_value (value_of name c.frame) (value_of name c.globals))
  by_base d base locals c name s None q f m g h = or_first d s (value_of name c.frame) (value_of name c.globals) (frame_value d locals name s c.frame m (sym (behind base locals name q) ∙ h))
  by_base d base locals c name s (Some st) q f m g h =
      or_second d s (value_of name c.frame) (value_of name c.globals) (absent_value d base locals name st c.frame m f q)
      (global_value d base name s c.globals g (q ∙ sym (before_is base locals name st q) ∙ h))

  pub finds : (base names : List Entry) (c : Core) (name : List ℕ) (s : Storage) → Agrees base names av c → standing_of name names ≡ Some (Stored s) → Finds (types_in base) s (or_value (value_of name c.frame) (value_of name c.globals))
  finds base names c name s a h = by_base (types_in base) base a.locals c name s (standing_of name base) refl a.fresh a.frame a.globals (ap (standing_of name) (sym a.names_are) ∙ h)

  pub held_value : (base names : List Entry) (c : Core) (span : Span) (name : List ℕ) (s : Storage) → Agrees base names av c → standing_of name names ≡ Some (Stored s) → Knows (types_in base) s (held span name c)
  held_value base names c span name s a h = known_good (types_in base) s span _ (finds base names c name s a h)

  pub named_value : (base names : List Entry) (c : Core) (span : Span) (name : List ℕ) (s : Storage) (label : Option Value) → Agrees base names av c → standing_of name names ≡ Some (Stored s) → Knows (types_in base) s (known span (or_value (value_of name c.frame) (or_value (value_of name c.globals) label)))
  named_value base names c span name s label a h =
      known_good (types_in base) s span _ (or_further (types_in base) s (value_of name c.frame) (value_of name c.globals) label (finds base names c name s a h))

  -- ---- labels: no storage has their names

  other_name : (m : Bool) (name n : List ℕ) (st : Standing) (o : Option Standing) → bytes_eq n name ≡ m → cond m (Some st) o ≡ None → (bytes_eq n name ≡ false) × (o ≡ None)
  other_name true name n st o q h = none_some st (sym h)
  other_name false name n st o q h = (q, h)

  skip_binding : (name n : List ℕ) (b : Binding) (bs : List Binding) → b.name ≡ n → bytes_eq n name ≡ false → value_of name bs ≡ None → value_of name (b ∷ bs) ≡ None
  skip_binding name n b bs e q h = ap (λ t. cond t (Some b.value) (value_of name bs)) (ap (λ l. bytes_eq l name) e ∙ q) ∙ h

  none_by : (d : List ℕ → Option Ty) (name n : List ℕ) (st : Standing) (es : List Entry) (bs : List Binding) → global_matches d n st bs (AllMatch d es) → cond (bytes_eq n name) (Some st) (standing_of name es) ≡ None →
      ((cs : List Binding) → AllMatch d es cs → standing_of name es ≡ None → value_of name cs ≡ None) → value_of name bs ≡ None
  none_by d name n Subprogram es bs m h next = next bs m (other_name (bytes_eq n name) name n Subprogram (standing_of name es) refl h).1
  none_by d name n (TypeName T) es bs m h next = next bs m (other_name (bytes_eq n name) name n (TypeName T) (standing_of name es) refl h).1
  none_by d name n (Label T x) es bs m h next = next bs m (other_name (bytes_eq n name) name n (Label T x) (standing_of name es) refl h).1
  none_by d name n (Stored u) es [] m h next = absurd m
  none_by d name n (Stored u) es (b ∷ bs) m h next =
      let p = other_name (bytes_eq n name) name n (Stored u) (standing_of name es) refl h in
      skip_binding name n b bs m.0.holds.name_is p.0 (next bs m.1 p.1)

  pub none_among : (d : List ℕ → Option Ty) (es : List Entry) (name : List ℕ) (bs : List Binding) → AllMatch d es bs → standing_of name es ≡ None → value_of name bs ≡ None
  none_among d [] name [] m h = refl
  none_among d [] name (b ∷ bs) m h = absurd m
  none_among d (e ∷ es) name bs m h = none_by d name e.name e.standing es bs m h (none_among d es name)

  -- the name that is asked for, with a label, or a name further on
  label_first : {A : Type 0} (m : Bool) (name n : List ℕ) (st : Standing) (o : Option Standing) (T : Ty) (x : Value) → bytes_eq n name ≡ m → cond m (Some st) o ≡ Some (Label T x) → (n ≡ name → Some st ≡ Some (Label T x) → A) → (bytes_eq n name ≡ false → o ≡ Some (Label T x) → A) → A
  label_first true name n st o T x q h here further = here ((bytes_eq-Decides n name).0 q) h
  label_first false name n st o T x q h here further = further q h

  label_by : (d : List ℕ → Option Ty) (name n : List ℕ) (st : Standing) (es : List Entry) (bs : List Binding) (T : Ty) (x : Value) → apart_from n st es → global_matches d n st bs (AllMatch d es) → cond (bytes_eq n name) (Some st) (standing_of name es) ≡ Some (Label T x) →
      ((cs : List Binding) → AllMatch d es cs → standing_of name es ≡ Some (Label T x) → value_of name cs ≡ None) → value_of name bs ≡ None
  label_by d name n Subprogram es bs T x p m h next = label_first (bytes_eq n name) name n Subprogram (standing_of name es) T x refl h (λ e k. none_some x (ap label_in k)) (λ q k. next bs m k)
  label_by d name n (TypeName U) es bs T x p m h next = label_first (bytes_eq n name) name n (TypeName U) (standing_of name es) T x refl h (λ e k. none_some x (ap label_in k)) (λ q k. next bs m k)
  label_by d name n (Label U y) es bs T x p m h next =
      label_first (bytes_eq n name) name n (Label U y) (standing_of name es) T x refl h (λ e k. none_among d es name bs m (ap (λ l. standing_of l es) (sym e) ∙ p)) (λ q k. next bs m k)
  label_by d name n (Stored u) es [] T x p m h next = absurd m
  label_by d name n (Stored u) es (b ∷ bs) T x p m h next =
      label_first (bytes_eq n name) name n (Stored u) (standing_of name es) T x refl h (λ e k. none_some x (ap label_in k)) (λ q k. skip_binding name n b bs m.0.holds.name_is q (next bs m.1 k))

  pub no_value : (d : List ℕ → Option Ty) (es : List Entry) (name : List ℕ) (T : Ty) (x : Value) (bs : List Binding) → Apart es → AllMatch d es bs → standing_of name es ≡ Some (Label T x) → value_of name bs ≡ None
  no_value d [] name T x bs p m h = none_some (Label T x) h
  no_value d (e ∷ es) name T x bs p m h = label_by d name e.name e.standing es bs T x p.0 m h (λ cs k q. no_value d es name T x cs p.1 k q)

  pub label_value : (base names : List Entry) (c : Core) (span : Span) (name : List ℕ) (T : Ty) (x : Value) → Apart base → Agrees base names av c → standing_of name names ≡ Some (Label T x) →
      known span (or_value (value_of name c.frame) (or_value (value_of name c.globals) (label_in (standing_of name base)))) ≡ Good x
  label_value base names c span name T x p a h =
      let k : standing_of name base ≡ Some (Label T x) = label_outside base names c name T x a h in
      let f : value_of name c.frame ≡ None = absent_value (types_in base) base a.locals name (Label T x) c.frame a.frame a.fresh k in
      let g : value_of name c.globals ≡ None = no_value (types_in base) base name T x c.globals p a.globals k in
      ap (λ o. known span (or_value o (or_value (value_of name c.globals) (label_in (standing_of name base))))) f
      ∙ ap (λ o. known span (or_value o (label_in (standing_of name base)))) g
      ∙ ap (λ o. known span (label_in o)) k
