-- Types stay well-formed where more names are declared, and how a new name is declared.
use Rattle.std.proofs.Common.{◌≡◌, ℕ, ◌⊎◌, ⊎_elim, false, List, [], ◌∷◌, Option, Some, refl}
use Rattle.asl_rules.specs.types.Types.{Ty, Fields, Parts, integer_of, boolean, bits_of, enumeration_of, record_of, exception_of, tuple_of, array_of, named, no_field, field, no_part, part, kind, structure}
use Rattle.asl_rules.specs.values.Values.{Value, Values, FieldValues, int, bool, bits_with, label, record_with, exception_with, tuple_with, array_with, no_value, value, no_value_of, value_of_field}
use Rattle.asl_rules.specs.private.WellFormed.{Built, BuiltAll, BuiltFields, SeenAs, Declared, Extends, Fits, Fixed, Nearest, Shaped, ShapedFields, ShapedParts, WellDeclared, WellFormed, Written, is_named}

nearest_grows : (d e : List ℕ → Option Ty) → Extends d e → (T : Ty) (ns : List (List ℕ)) → Nearest d T ns → Nearest e T ns
nearest_grows d e g T [] r = tt
nearest_grows d e g T (n ∷ ns) r = (r.0, g.kept n (named n ns r.0) r.1, r.2, r.3)

declared_grows : (d e : List ℕ → Option Ty) → Extends d e → (n : List ℕ) (supers : List (List ℕ)) (T : Ty) → Declared d n supers T → Declared e n supers T
declared_grows d e g n supers T v = record { stands = g.kept n (named n supers T) v.stands; nearest = nearest_grows d e g T supers v.nearest }

written_grows : (d e : List ℕ → Option Ty) → Extends d e → (n : List ℕ) (T : Ty) → Written d n T → Written e n T
written_grows d e g n T v = record { supers = v.supers; stands = g.kept n (named n v.supers T) v.stands }

mutual
  pub shaped_grows : (d e : List ℕ → Option Ty) → Extends d e → (T : Ty) → Shaped d T → Shaped e T
  shaped_grows d e g (integer_of ps) s = s
  shaped_grows d e g boolean s = s
  shaped_grows d e g (bits_of w u) s = s
  shaped_grows d e g (enumeration_of n labels) s = (written_grows d e g n (enumeration_of n labels) s.0, s.1)
  shaped_grows d e g (record_of n fs) s = (written_grows d e g n (record_of n fs) s.0, fields_grow d e g fs s.1)
  shaped_grows d e g (exception_of n fs) s = (written_grows d e g n (exception_of n fs) s.0, fields_grow d e g fs s.1)
  shaped_grows d e g (tuple_of ts) s = parts_grow d e g ts s
  shaped_grows d e g (array_of n T) s = (s.0, shaped_grows d e g T s.1)
  shaped_grows d e g (named n supers T) s = (s.0, declared_grows d e g n supers T s.1, shaped_grows d e g T s.2)

  pub fields_grow : (d e : List ℕ → Option Ty) → Extends d e → (fs : Fields) → ShapedFields d fs → ShapedFields e fs
  fields_grow d e g no_field s = s
  fields_grow d e g (field f T fs) s = (s.0, shaped_grows d e g T s.1, fields_grow d e g fs s.2)

  parts_grow : (d e : List ℕ → Option Ty) → Extends d e → (ts : Parts) → ShapedParts d ts → ShapedParts e ts
  parts_grow d e g no_part s = s
  parts_grow d e g (part T ts) s = (s.0, shaped_grows d e g T s.1, parts_grow d e g ts s.2)

pub well_formed_grows : (d e : List ℕ → Option Ty) → Extends d e → (T : Ty) → WellFormed d T → WellFormed e T
well_formed_grows d e g T w = record { shaped = shaped_grows d e g T w.shaped; has_name = w.has_name }

seen_grows : (d e : List ℕ → Option Ty) → Extends d e → (made : Fields → Ty) (n : List ℕ) (xs : FieldValues) → SeenAs d made n xs → SeenAs e made n xs
seen_grows d e g made n xs s = (s.0, written_grows d e g n (made s.0) s.1, s.2)

mutual
  pub built_grows : (d e : List ℕ → Option Ty) → Extends d e → (x : Value) → Built d x → Built e x
  built_grows d e g (int z) b = b
  built_grows d e g (bool z) b = b
  built_grows d e g (bits_with bs v) b = b
  built_grows d e g (label n l) b = b
  built_grows d e g (record_with n xs) b = (seen_grows d e g (record_of n) n xs b.0, built_fields_grow d e g xs b.1)
  built_grows d e g (exception_with own supers n xs) b = ((b.0.0, g.kept own (named own supers b.0.0) b.0.1), seen_grows d e g (exception_of n) n xs b.1, built_fields_grow d e g xs b.2)
  built_grows d e g (tuple_with xs) b = built_all_grow d e g xs b
  built_grows d e g (array_with k xs) b = built_all_grow d e g xs b

  built_fields_grow : (d e : List ℕ → Option Ty) → Extends d e → (xs : FieldValues) → BuiltFields d xs → BuiltFields e xs
  built_fields_grow d e g no_value_of b = b
  built_fields_grow d e g (value_of_field f x xs) b = (built_grows d e g x b.0, built_fields_grow d e g xs b.1)

  built_all_grow : (d e : List ℕ → Option Ty) → Extends d e → (xs : Values) → BuiltAll d xs → BuiltAll e xs
  built_all_grow d e g no_value b = b
  built_all_grow d e g (value x xs) b = (built_grows d e g x b.0, built_all_grow d e g xs b.1)

-- ---- a new name

-- the declared types stay well-formed where each new one is
pub declares : (d e : List ℕ → Option Ty) → Extends d e → WellDeclared d → ((n : List ℕ) (T : Ty) → e n ≡ Some T → (d n ≡ Some T) ⊎ (WellFormed e T × Fixed T)) → WellDeclared e
declares d e g w f = record { each = λ n T h. ⊎_elim (λ i. well_formed_grows d e g T (w.each n T i)) (λ i. i.0) (f n T h); fixed = λ n T h. ⊎_elim (λ i. w.fixed n T i) (λ i. i.1) (f n T h) }

-- a name with no supertype, and one with a supertype whose structure its own fits, and of whose kind it is
pub first_of_its_kind : (e : List ℕ → Option Ty) (n : List ℕ) (T : Ty) → e n ≡ Some (named n [] T) → is_named T ≡ false → Shaped e T → WellFormed e (named n [] T)
first_of_its_kind e n T h u s = record { shaped = (u, record { stands = h; nearest = tt }, s); has_name = refl }

pub subtype_of : (e : List ℕ → Option Ty) (n m : List ℕ) (others : List (List ℕ)) (T U : Ty) → e n ≡ Some (named n (m ∷ others) T) → e m ≡ Some (named m others U) → is_named T ≡ false → Shaped e T → Fits T U → kind T ≡ kind U → WellFormed e (named n (m ∷ others) T)
subtype_of e n m others T U h i u s f k = record { shaped = (u, record { stands = h; nearest = (U, i, f, k) }, s); has_name = refl }

-- the structure of a type
pub structure_shaped : (d : List ℕ → Option Ty) (T : Ty) → Shaped d T → (is_named (structure T) ≡ false) × Shaped d (structure T)
structure_shaped d (named n supers T) s = structure_shaped d T s.2
structure_shaped d (integer_of ps) s = (refl, s)
structure_shaped d boolean s = (refl, s)
structure_shaped d (bits_of w u) s = (refl, s)
structure_shaped d (enumeration_of n labels) s = (refl, s)
structure_shaped d (record_of n fs) s = (refl, s)
structure_shaped d (exception_of n fs) s = (refl, s)
structure_shaped d (tuple_of ts) s = (refl, s)
structure_shaped d (array_of n T) s = (refl, s)
