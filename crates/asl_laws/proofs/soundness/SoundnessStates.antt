-- States that agree with a scope are sound: each place keeps its value as it is.
use Rattle.std.proofs.Common.{◌≡◌, ℕ, true, cond, List, [], ◌∷◌, Option, Some, None, sym, ap, ◌∙◌}
use Rattle.asl_rules.specs.types.Types.{Ty, kind_eq}
use Rattle.asl_rules.specs.types.Closed.{Assignment, type_with}
use Rattle.asl_rules.specs.values.Values.{Value, kind_of}
use Rattle.asl_rules.specs.types.Views.{viewed, alike, adopted, same_widths}
use Rattle.asl_rules.specs.declarations.Scopes.{Entry, Standing, Stored, Subprogram, TypeName, Label}
use Rattle.asl_rules.specs.runs.States.{Under, of_type, of_value, kept, Binding, Frame, Core}
use Rattle.asl_rules.specs.private.Belonging.{InType, AllBelong, AllFramesBelong, Sound}
use Rattle.asl_rules.specs.private.Agreement.{types_in, IsUnder, global_matches, AllMatch, local_matches, FrameMatches, AllWait, Agrees}
use Rattle.asl_rules.proofs.basics.Tests.{and_true}
use Rattle.asl_rules.proofs.values.SameKind.{tests_equal}
use Rattle.asl_rules.proofs.values.KindOf.{has_kind}
use Rattle.asl_rules.proofs.values.Viewing.{closed_widths, adopted_viewed}

-- a value of the type is kept as it is where the type is stored under
pub kept_as_is : (d : List ℕ → Option Ty) (a : Assignment) (u : Under) (T : Ty) (x : Value) → IsUnder d a u T → InType d a x T → kept u x ≡ Some x
kept_as_is d a (of_type U) T x h i =
    ap (λ V. kept (of_type V) x) h ∙ ap (λ b. cond b (Some (viewed (type_with T a) x)) None) i.0 ∙ ap Some i.2
kept_as_is d a (of_value y) T x h i =
    let k : alike y x ≡ true = and_true (kind_eq (kind_of y) (kind_of x)) (same_widths y x) (tests_equal (kind_of y) (kind_of x) (has_kind a T y h.0 ∙ sym (has_kind a T x i.0))) (closed_widths (type_with T a) y x h.0 i.0) in
    ap (λ b. cond b (Some (adopted y x)) None) k ∙ ap Some (adopted_viewed (type_with T a) y x h.0 i.0 h.2 ∙ i.2)

local_belongs : (d : List ℕ → Option Ty) (a : Assignment) (n : List ℕ) (st : Standing) (b : Binding) → local_matches d a n st b → kept b.under b.value ≡ Some b.value
local_belongs d a n (Stored s) b m = kept_as_is d a b.under s.ty b.value m.under_is m.belongs
local_belongs d a n Subprogram b m = absurd m
local_belongs d a n (TypeName T) b m = absurd m
local_belongs d a n (Label T x) b m = absurd m

frame_belongs : (d : List ℕ → Option Ty) (a : Assignment) (es : List Entry) (bs : List Binding) → FrameMatches d a es bs → AllBelong bs
frame_belongs d a [] [] m = tt
frame_belongs d a [] (b ∷ bs) m = absurd m
frame_belongs d a (e ∷ es) [] m = absurd m
frame_belongs d a (e ∷ es) (b ∷ bs) m = (local_belongs d a e.name e.standing b m.0, frame_belongs d a es bs m.1)

globals_by : (d : List ℕ → Option Ty) (n : List ℕ) (st : Standing) (es : List Entry) (bs : List Binding) → global_matches d n st bs (AllMatch d es) → ((cs : List Binding) → AllMatch d es cs → AllBelong cs) → AllBelong bs
globals_by d n Subprogram es bs m next = next bs m
globals_by d n (TypeName T) es bs m next = next bs m
globals_by d n (Label T x) es bs m next = next bs m
globals_by d n (Stored s) es [] m next = absurd m
globals_by d n (Stored s) es (b ∷ bs) m next = (kept_as_is d _ b.under s.ty b.value m.0.holds.under_is m.0.holds.belongs, next bs m.1)

globals_belong : (d : List ℕ → Option Ty) (es : List Entry) (bs : List Binding) → AllMatch d es bs → AllBelong bs
globals_belong d [] [] m = tt
globals_belong d [] (b ∷ bs) m = absurd m
globals_belong d (e ∷ es) bs m = globals_by d e.name e.standing es bs m (globals_belong d es)

callers_belong : (base : List Entry) (fs : List Frame) → AllWait base fs → AllFramesBelong fs
callers_belong base [] m = tt
callers_belong base (f ∷ fs) m = (frame_belongs (types_in base) m.0.present m.0.locals f.names m.0.frame, callers_belong base fs m.1)

pub agrees_sound : (base names : List Entry) (a : Assignment) (c : Core) → Agrees base names a c → Sound c
agrees_sound base names a c k = record {
  globals = globals_belong (types_in base) base c.globals k.globals;
  frame = frame_belongs (types_in base) a k.locals c.frame k.frame;
  callers = callers_belong base c.callers k.callers;
}
