-- Two proofs that values, outcomes or variables are equal are equal.
use Rattle.std.proofs.Common.{◌≡◌, ℕ, zero, suc, Bool, List, Option, ◌⊎◌, inl, inr, refl}
use Rattle.std.specs.Coded.{Coded, Coded-set, code_by, coded×, coded⊎, coded_ℕ, coded_bool, coded_list, coded_option}
use Rattle.asl_syn.specs.declared.code.DynCode.{DynCode}
use Rattle.asl_syn.specs.contracts.code.DynCode as codes
use Rattle.asl_syn.specs.declared.token.Span.{Span}
use Rattle.asl_syn.specs.contracts.token.Span as spans
use Rattle.asl_rules.specs.values.Values.{Value}
use Rattle.asl_rules.specs.runs.Plans.{Meter, Mistake, UnknownName, WrongKind, Immutable, EndReached, NothingCaught, UnknownType, CallBarred, End, Faulted, Stuck, Outcome, Done, Thrown, Halt}
use Rattle.asl_rules.specs.private.TypedMeaning.{BareFrame, BareCore}
use Rattle.asl_value.specs.declared.value.Value as values
use Rattle.asl_value.specs.contracts.value.Value as rows
use Rattle.asl_value.specs.View.{value_of}
use Rattle.asl_types.specs.private.EntryCodes.{value_back, value_again}
use Rattle.asl_machine.specs.Storage.{Var}

coded_value : Coded Value
coded_value = code_by values.Value rows.the_row.coded value_back value_of value_again

pub values_set : IsSet (List Value)
values_set = Coded-set (coded_list coded_value)

coded_var : Coded Var
coded_var = code_by (List ℕ × Value) (coded× (coded_list coded_ℕ) coded_value) (λ v. (v.name, v.value)) (λ p. record { name = p.0; value = p.1 }) (λ _. refl)

pub vars_set : IsSet (List Var)
vars_set = Coded-set (coded_list coded_var)

mistake_out : Mistake → ℕ
mistake_out UnknownName = 0
mistake_out WrongKind = 1
mistake_out Immutable = 2
mistake_out EndReached = 3
mistake_out NothingCaught = 4
mistake_out UnknownType = 5
mistake_out CallBarred = 6

mistake_in : ℕ → Mistake
mistake_in zero = UnknownName
mistake_in (suc zero) = WrongKind
mistake_in (suc (suc zero)) = Immutable
mistake_in (suc (suc (suc zero))) = EndReached
mistake_in (suc (suc (suc (suc zero)))) = NothingCaught
mistake_in (suc (suc (suc (suc (suc zero))))) = UnknownType
mistake_in (suc (suc (suc (suc (suc (suc n)))))) = CallBarred

mistake_back : (m : Mistake) → mistake_in (mistake_out m) ≡ m
unfolding mistake_out mistake_in
mistake_back UnknownName = refl
mistake_back WrongKind = refl
mistake_back Immutable = refl
mistake_back EndReached = refl
mistake_back NothingCaught = refl
mistake_back UnknownType = refl
mistake_back CallBarred = refl

coded_mistake : Coded Mistake
coded_mistake = code_by ℕ coded_ℕ mistake_out mistake_in mistake_back

end_out : End → (DynCode × Span) ⊎ (Mistake × Span)
end_out (Faulted code span) = inl (code, span)
end_out (Stuck mistake span) = inr (mistake, span)

end_in : (DynCode × Span) ⊎ (Mistake × Span) → End
end_in (inl p) = Faulted p.0 p.1
end_in (inr p) = Stuck p.0 p.1

end_back : (e : End) → end_in (end_out e) ≡ e
unfolding end_out end_in
end_back (Faulted code span) = refl
end_back (Stuck mistake span) = refl

coded_end : Coded End
coded_end = code_by ((DynCode × Span) ⊎ (Mistake × Span)) (coded⊎ (coded× codes.the_row.coded spans.the_row.coded) (coded× coded_mistake spans.the_row.coded)) end_out end_in end_back

-- the state and the meter
coded_frame : Coded BareFrame
coded_frame = code_by (List Value × List Value) (coded× (coded_list coded_value) (coded_list coded_value)) (λ f. (f.values, f.handled)) (λ p. record { values = p.0; handled = p.1 }) (λ _. refl)

coded_core : Coded BareCore
coded_core = code_by (List Value × (List Value × (List Value × (List BareFrame × List ℕ)))) (coded× (coded_list coded_value) (coded× (coded_list coded_value) (coded× (coded_list coded_value) (coded× (coded_list coded_frame) (coded_list coded_ℕ)))))
    (λ c. (c.globals, (c.frame, (c.handled, (c.callers, c.live))))) (λ p. record { globals = p.0; frame = p.1.0; handled = p.1.1.0; callers = p.1.1.1.0; live = p.1.1.1.1 }) (λ _. refl)

coded_meter : Coded Meter
coded_meter = code_by (ℕ × (Option (List ℕ) × Bool)) (coded× coded_ℕ (coded× (coded_option (coded_list coded_ℕ)) coded_bool)) (λ h. (h.steps, (h.told, h.text_open))) (λ p. record { steps = p.0; told = p.1.0; text_open = p.1.1 }) (λ _. refl)

coded_state : Coded (BareCore × Meter)
coded_state = coded× coded_core coded_meter

outcome_out : Outcome BareCore (Option Value) → (Option Value × (BareCore × Meter)) ⊎ ((Value × (BareCore × Meter)) ⊎ (End × (BareCore × Meter)))
outcome_out (Done x c h) = inl (x, (c, h))
outcome_out (Thrown x c h) = inr (inl (x, (c, h)))
outcome_out (Halt e c h) = inr (inr (e, (c, h)))

outcome_in : (Option Value × (BareCore × Meter)) ⊎ ((Value × (BareCore × Meter)) ⊎ (End × (BareCore × Meter))) → Outcome BareCore (Option Value)
outcome_in (inl p) = Done p.0 p.1.0 p.1.1
outcome_in (inr (inl p)) = Thrown p.0 p.1.0 p.1.1
outcome_in (inr (inr p)) = Halt p.0 p.1.0 p.1.1

outcome_back : (r : Outcome BareCore (Option Value)) → outcome_in (outcome_out r) ≡ r
unfolding outcome_out outcome_in
outcome_back (Done x c h) = refl
outcome_back (Thrown x c h) = refl
outcome_back (Halt e c h) = refl

pub outcome_set : IsSet (Outcome BareCore (Option Value))
outcome_set =
    Coded-set (code_by ((Option Value × (BareCore × Meter)) ⊎ ((Value × (BareCore × Meter)) ⊎ (End × (BareCore × Meter)))) (coded⊎ (coded× (coded_option coded_value) coded_state) (coded⊎ (coded× coded_value coded_state) (coded× coded_end coded_state)))
    outcome_out outcome_in outcome_back)
