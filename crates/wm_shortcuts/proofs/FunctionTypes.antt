-- The fast path for a function type has the effect of the slow path.
use Rattle.std.proofs.Common.{◌≡◌, ℕ, zero, suc, ◌+◌, ◌-◌, ◌^◌, ◌<◌, ◌≤◌, List, [], ◌∷◌, Some, None, Ok, length, slice_index, refl, sym, ◌∙◌, ap, subst, arith}
use Rattle.wm_syntax.specs.declared.profile.Profile.{Profile}
use Rattle.wm_syntax.specs.declared.types.ValType.{ValType}
use Rattle.wm_syntax.specs.exact.Reading.{fresh}
use Rattle.wm_machine.specs.declared.machine.Counts.{Counts}
use Rattle.wm_machine.specs.declared.machine.Machine.TheVariants as machine
use Rattle.wm_machine.specs.declared.machine.Event.{Event}
use Rattle.wm_machine.specs.declared.machine.Event.TheVariants as event
use Rattle.wm_machine.specs.declared.machine.Plain.TheVariants as plain
use Rattle.wm_machine.specs.declared.machine.member.SectionKind.TheVariants as section_kind
use Rattle.wm_machine.specs.declared.machine.member.InMember.TheVariants as at
use Rattle.wm_shortcuts.specs.declared.function_types.InParams.{InParams}
use Rattle.wm_shortcuts.specs.declared.in_section.InSection.{InSection}
use Rattle.wm_shortcuts.specs.declared.short_steps.Stepped.{Stepped}
use Rattle.wm_machine.specs.exact.Steps.{machine_in_member}
use Rattle.wm_machine.specs.exact.MemberSteps.{after_param, after_result, member_step, on_number, on_type, with_item_given}
use Rattle.wm_machine.specs.exact.ValueSteps.{value_type_of}
use Rattle.wm_shortcuts.specs.exact.ShortSteps.{StepsTo}
use Rattle.wm_shortcuts.specs.exact.TypeStarts.{before_results, in_params, params_after}
use Rattle.wm_shortcuts.specs.exact.Completed.{Completes}
use Rattle.wm_shortcuts.specs.exact.Completed.Completed.{part}
use Rattle.wm_shortcuts.specs.exact.Completed.Completes.{no_byte}
use Rattle.wm_shortcuts.specs.exact.WholeMembers.{before_member, section_after}
use Rattle.wm_shortcuts.proofs.Completed.{byte_on, byte_over}
use Rattle.wm_shortcuts.proofs.NumberSteps.{framed}
use Rattle.wm_shortcuts.proofs.WholeNumbers.{u32_one}

at_params : (f : Counts) (more left n : ℕ) (e : Event) → framed section_kind.Type f more left (after_param n, e) ≡ (machine.Section section_kind.Type f more left (after_param n), e)
at_params f more left zero e = refl
at_params f more left (suc n) e = refl

form_alone : (p : Profile) (left c : ℕ) → c ≡ 0x60 → StepsTo p section_kind.Type left at.TypeForm c (record { left = left; at = at.ParamCount fresh; part = Some plain.NewType })
form_alone p left c e = subst (λ y. StepsTo p section_kind.Type left at.TypeForm y (record { left = left; at = at.ParamCount fresh; part = Some plain.NewType })) (sym e) (λ f more. refl)

params_alone : (p : Profile) (left c : ℕ) → c < 2 ^ 7 → StepsTo p section_kind.Type left (at.ParamCount fresh) c (record { left = left; at = after_param c; part = None })
params_alone p left c less f more =
    ap (λ y. framed section_kind.Type f more left (on_number y at.ParamCount (λ n. (after_param n, event.Nothing)) at.Failed)) (u32_one c less)
    ∙ at_params f more left c event.Nothing

param_alone : (p : Profile) (left n c : ℕ) (t : ValType) → value_type_of p c ≡ Ok t → StepsTo p section_kind.Type left (at.Param n) c (record { left = left; at = after_param n; part = Some (plain.Param t) })
param_alone p left n c t is f more =
    ap (λ y. framed section_kind.Type f more left (on_type y (λ t. with_item_given (after_param n) (plain.Param t)) at.Failed)) is
    ∙ at_params f more left n (event.Complete (plain.Param t))

none_alone : (p : Profile) (left c : ℕ) → c ≡ 0 → 0 < left → StepsTo p section_kind.Type left (at.ResultCount fresh) c (record { left = left - 1; at = at.TypeForm; part = Some (plain.ResultCount 0) })
none_alone p left c e some f more =
    let one : left ≡ suc (left - 1) = omega arith in
    ap (λ y. framed section_kind.Type f more left (on_number y at.ResultCount (λ n. with_item_given (after_result n) (plain.ResultCount n)) at.Failed)) (u32_one c (omega arith))
    ∙ (ap (λ n. framed section_kind.Type f more left (with_item_given (after_result n) (plain.ResultCount n))) e
    ∙ ap (λ n. framed section_kind.Type f more n (with_item_given at.Over (plain.ResultCount 0))) one)

one_alone : (p : Profile) (left c : ℕ) → c ≡ 1 → StepsTo p section_kind.Type left (at.ResultCount fresh) c (record { left = left; at = at.ResultType 0; part = Some (plain.ResultCount 1) })
one_alone p left c e f more =
    ap (λ y. framed section_kind.Type f more left (on_number y at.ResultCount (λ n. with_item_given (after_result n) (plain.ResultCount n)) at.Failed)) (u32_one c (omega arith))
    ∙ ap (λ n. framed section_kind.Type f more left (with_item_given (after_result n) (plain.ResultCount n))) e

result_alone : (p : Profile) (left c : ℕ) (t : ValType) → value_type_of p c ≡ Ok t → 0 < left → StepsTo p section_kind.Type left (at.ResultType 0) c (record { left = left - 1; at = at.TypeForm; part = Some (plain.OneResult t) })
result_alone p left c t is some f more =
    let one : left ≡ suc (left - 1) = omega arith in
    ap (λ y. framed section_kind.Type f more left (on_type y (λ t. with_item_given (after_result 0) (plain.OneResult t)) at.Failed)) is
    ∙ ap (λ n. framed section_kind.Type f more n (with_item_given at.Over (plain.OneResult t))) one

-- the same of the last type, whatever comes after it
none_over : (p : Profile) (c : ℕ) → c ≡ 0 → member_step p (at.ResultCount fresh) c ≡ (at.Over, event.Complete (plain.ResultCount 0))
none_over p c e =
    ap (λ y. on_number y at.ResultCount (λ n. with_item_given (after_result n) (plain.ResultCount n)) at.Failed) (u32_one c (omega arith))
    ∙ ap (λ n. with_item_given (after_result n) (plain.ResultCount n)) e

typed_over : (p : Profile) (c : ℕ) (t : ValType) → value_type_of p c ≡ Ok t → member_step p (at.ResultType 0) c ≡ (at.Over, event.Complete (plain.OneResult t))
typed_over p c t is = ap (λ y. on_type y (λ t. with_item_given (after_result 0) (plain.OneResult t)) at.Failed) is

-- before the first parameter
pub params_start : (i : InParams) → in_params (params_after i 0 i.params) ≡ in_params i
params_start i =
    let a : i.more - 0 ≡ i.more = omega arith in
    ap (λ x. machine.Section section_kind.Type i.counts x i.left (after_param i.params)) a

module _ {p : Profile} {bytes : List ℕ} where
  module _ (e : InSection) where
    pub type_formed : slice_index bytes 0 ≡ 0x60 → 0 < length bytes → 0 < e.more
        → Completes p bytes 0 (before_member section_kind.Type e) [] (Some (part plain.NewType)) 1 (machine.Section section_kind.Type e.counts (e.more - 1) e.left (at.ParamCount fresh))
    type_formed form inside more = byte_on (record { left = e.left; at = at.ParamCount fresh; part = Some plain.NewType }) no_byte inside more (form_alone p e.left (slice_index bytes 0) form) refl

    pub type_begun : (i : InParams) → slice_index bytes 0 ≡ 0x60 → slice_index bytes 1 ≡ i.params → i.params < 2 ^ 7 → 1 < length bytes → 1 < e.more
        → i ≡ record { counts = e.counts; more = e.more - 2; left = e.left; params = i.params } → Completes p bytes 0 (before_member section_kind.Type e) (part plain.NewType ∷ []) None 2 (in_params i)
    type_begun i form count short inside more is =
        let counted : Stepped = record { left = e.left; at = after_param i.params; part = None } in
        let place : e.more - 2 ≡ e.more - 1 - 1 = omega arith in
        byte_on counted (type_formed form (omega arith) (omega arith)) inside (omega arith) (subst (λ c. StepsTo p section_kind.Type e.left (at.ParamCount fresh) c counted) (sym count) (params_alone p e.left i.params short))
        (ap in_params is ∙ ap (λ n. machine.Section section_kind.Type e.counts n e.left (after_param i.params)) place)

    -- results, after which another type comes
    pub no_result : slice_index bytes 0 ≡ 0 → 0 < length bytes → 0 < e.more → 0 < e.left
        → Completes p bytes 0 (before_results e) [] (Some (part (plain.ResultCount 0))) 1 (before_member section_kind.Type (section_after e 1 (e.left - 1)))
    no_result count inside more left = byte_on (record { left = e.left - 1; at = at.TypeForm; part = Some (plain.ResultCount 0) }) no_byte inside more (none_alone p e.left (slice_index bytes 0) count left) refl

    pub one_counted : slice_index bytes 0 ≡ 1 → 0 < length bytes → 0 < e.more
        → Completes p bytes 0 (before_results e) [] (Some (part (plain.ResultCount 1))) 1 (machine.Section section_kind.Type e.counts (e.more - 1) e.left (at.ResultType 0))
    one_counted count inside more = byte_on (record { left = e.left; at = at.ResultType 0; part = Some (plain.ResultCount 1) }) no_byte inside more (one_alone p e.left (slice_index bytes 0) count) refl

    module _ {t : ValType} (count : slice_index bytes 0 ≡ 1) (typed : value_type_of p (slice_index bytes 1) ≡ Ok t) (inside : 1 < length bytes) where
      pub one_result : 1 < e.more → 0 < e.left
          → Completes p bytes 0 (before_results e) (part (plain.ResultCount 1) ∷ []) (Some (part (plain.OneResult t))) 2 (before_member section_kind.Type (section_after e 2 (e.left - 1)))
      one_result more left =
          let place : e.more - 2 ≡ e.more - 1 - 1 = omega arith in
          byte_on (record { left = e.left - 1; at = at.TypeForm; part = Some (plain.OneResult t) }) (one_counted count (omega arith) (omega arith)) inside (omega arith) (result_alone p e.left (slice_index bytes 1) t typed left)
          (ap (λ n. machine.Section section_kind.Type e.counts n (e.left - 1) at.TypeForm) place)

      -- the results of a type, whatever comes after it
      pub result_over : 0 < e.more
          → Completes p bytes 0 (before_results e) (part (plain.ResultCount 1) ∷ []) (Some (part (plain.OneResult t))) 2 (machine_in_member section_kind.Type e.counts (e.more - 1) e.left at.Over)
      result_over more = byte_over at.Over (Some (plain.OneResult t)) (one_counted count (omega arith) more) inside (typed_over p (slice_index bytes 1) t typed)

    pub results_over : slice_index bytes 0 ≡ 0 → 0 < length bytes → Completes p bytes 0 (before_results e) [] (Some (part (plain.ResultCount 0))) 1 (machine_in_member section_kind.Type e.counts e.more e.left at.Over)
    results_over count inside = byte_over at.Over (Some (plain.ResultCount 0)) no_byte inside (none_over p (slice_index bytes 0) count)

  -- a parameter after others
  pub param_completes : (i : InParams) (used : ℕ) {params all : ℕ} {t : ValType} → all ≡ suc params → value_type_of p (slice_index bytes used) ≡ Ok t → used < length bytes → used + 1 ≤ i.more
      → Completes p bytes used (in_params (params_after i used all)) [] (Some (part (plain.Param t))) (used + 1) (in_params (params_after i (used + 1) params))
  param_completes i used {params = params} {t = t} one typed inside section =
      let place : i.more - (used + 1) ≡ i.more - used - 1 = omega arith in
      subst (λ n. Completes p bytes used (in_params (params_after i used n)) [] (Some (part (plain.Param t))) (used + 1) (in_params (params_after i (used + 1) params))) (sym one)
      (byte_on (record { left = i.left; at = after_param params; part = Some (plain.Param t) }) no_byte inside (omega arith) (param_alone p i.left params (slice_index bytes used) t typed)
      (ap (λ n. machine.Section section_kind.Type i.counts n i.left (after_param params)) place))
