-- The possible rest of a custom section, and how each byte continues it.
use Rattle.std.proofs.Common.{ℕ, zero, suc, ◌<◌, ◌^◌, List, [], ◌∷◌, ◌++◌, Option, None}
use Rattle.std.proofs.lemmas.Bool.{cond_both}
use Rattle.std.specs.Str.{is_utf8}
use Rattle.wm_syntax.specs.declared.numbers.Step.{Step}
use Rattle.wm_syntax.specs.declared.numbers.Step.TheVariants.{More, Done, Bad}
use Rattle.wm_syntax.specs.inner.Numbers.{Partial}
use Rattle.wm_syntax.specs.exact.Reading.{unsigned_push}
use Rattle.wm_machine.specs.declared.machine.NameKind.TheVariants as kind
use Rattle.wm_machine.specs.declared.machine.InCustom.{InCustom}
use Rattle.wm_machine.specs.declared.machine.InCustom.TheVariants as custom
use Rattle.wm_machine.specs.declared.machine.Event.{Event}
use Rattle.wm_machine.specs.Items.{Item, Mark, outside}
use Rattle.wm_machine.specs.MarkedForms.{MarkedForm, Empty, Filled, outside_mark}
use Rattle.wm_machine.specs.exact.MemberSteps.{on_number}
use Rattle.wm_machine.specs.exact.Steps.{custom_after_length, custom_name_step, custom_step}
use Rattle.wm_machine.specs.exact.Runs.{byte_read, ByteRead, name_item}
use Rattle.wm_machine.proofs.FirstBytes.{Next, HasBytes, Never, next_to, next_never}
use Rattle.wm_machine.proofs.NamesAndSizes.{NameLeft, TextLeft, TextNext, text_done, text_next, text_has, named_byte, left_more, left_last, left_bad, left_has, AnyBytes, any_next, any_has, filled_next, filled_has, filled_empty, filled_never}

-- the name of a custom section gives no item
abbrev pub unnamed : List ℕ → Option Item
unnamed = name_item kind.Custom

module _ (demanded : Type 0) where
  -- what may still come of so many bytes, with the bytes so far of the name
  abbrev pub CustomRest : ℕ → InCustom → List ℕ → MarkedForm
  CustomRest n (custom.Length r) so_far = Filled demanded n (TextLeft demanded r unnamed)
  CustomRest n (custom.Name more) so_far = Filled demanded n (NameLeft demanded so_far (suc more) unnamed)
  CustomRest n custom.Skip so_far = AnyBytes demanded n
  CustomRest n (custom.Failed w) so_far = Never

  -- one byte of suc n
  abbrev pub CustomFollows : ℕ → MarkedForm → ℕ → ByteRead InCustom → Type 0
  CustomFollows n P c h = Next demanded P c h.mark (CustomRest n h.at h.name)

  abbrev pub custom_hears : List ℕ → ℕ → InCustom × Event → ByteRead InCustom
  custom_hears so_far c q = byte_read custom.Failed outside so_far c q

  -- what comes first is over
  ends : (P : MarkedForm) (n c : ℕ) (m : Mark) → Next demanded P c m Empty → HasBytes demanded P → Next demanded (Filled demanded (suc n) P) c m (AnyBytes demanded n)
  ends P n c m h e = next_to demanded (Filled demanded (suc n) P) (Filled demanded n Empty) (AnyBytes demanded n) c m (filled_empty demanded n) (filled_next demanded P Empty n c m h e)

  fails : (P : MarkedForm) (n c : ℕ) (m : Mark) → Next demanded P c m Never → HasBytes demanded P → Next demanded (Filled demanded (suc n) P) c m Never
  fails P n c m h e = next_to demanded (Filled demanded (suc n) P) (Filled demanded n Never) Never c m (filled_never demanded n) (filled_next demanded P Never n c m h e)

  module _ (n : ℕ) (so_far : List ℕ) (c : ℕ) where
    length_done : (r : Partial) (v : ℕ) → text_done demanded r c unnamed v → CustomFollows n (CustomRest (suc n) (custom.Length r) so_far) c (custom_hears so_far c (custom_after_length v))
    length_done r zero h = ends (TextLeft demanded r unnamed) n c (outside_mark None) h (text_has demanded unnamed r)
    length_done r (suc m) h = filled_next demanded (TextLeft demanded r unnamed) (NameLeft demanded [] (suc m) unnamed) n c (outside_mark None) h (text_has demanded unnamed r)

    length_cases : (r : Partial) (p : Step ℕ × Partial) → TextNext demanded unnamed r c p → CustomFollows n (CustomRest (suc n) (custom.Length r) so_far) c (custom_hears so_far c (on_number p custom.Length custom_after_length custom.Failed))
    length_cases r (More, s) h = filled_next demanded (TextLeft demanded r unnamed) (TextLeft demanded s unnamed) n c (outside_mark None) h (text_has demanded unnamed r)
    length_cases r (Done v, s) h = length_done r v h
    length_cases r (Bad, s) h = fails (TextLeft demanded r unnamed) n c (outside_mark None) h (text_has demanded unnamed r)

    name_follows : (more : ℕ) → CustomFollows n (CustomRest (suc n) (custom.Name more) so_far) c (custom_hears so_far c (custom_name_step more))
    name_follows zero =
        cond_both (is_utf8 (so_far ++ c ∷ [])) _ _ (λ (h : ByteRead InCustom). CustomFollows n (CustomRest (suc n) (custom.Name zero) so_far) c h)
        (λ u. ends (NameLeft demanded so_far 1 unnamed) n c (outside_mark None) (left_last demanded so_far unnamed c u) (left_has demanded so_far 0 unnamed))
        (λ u. fails (NameLeft demanded so_far 1 unnamed) n c (outside_mark None) (left_bad demanded so_far unnamed c u) (left_has demanded so_far 0 unnamed))
    name_follows (suc m) = filled_next demanded (NameLeft demanded so_far (suc (suc m)) unnamed) (NameLeft demanded (so_far ++ c ∷ []) (suc m) unnamed) n c named_byte (left_more demanded so_far m unnamed c) (left_has demanded so_far (suc m) unnamed)

    -- each byte goes on with what may still come
    pub custom_follows : (p : InCustom) → c < 2 ^ 8 → CustomFollows n (CustomRest (suc n) p so_far) c (custom_hears so_far c (custom_step p c))
    custom_follows (custom.Length r) byte = length_cases r (unsigned_push 32 r c) (text_next demanded unnamed r c byte)
    custom_follows (custom.Name more) byte = name_follows more
    custom_follows custom.Skip byte = any_next demanded n c byte
    custom_follows (custom.Failed w) byte = next_never demanded Never c (outside_mark None) (λ s b k h. h)

  pub custom_has : (n : ℕ) (p : InCustom) (so_far : List ℕ) → HasBytes demanded (CustomRest (suc n) p so_far)
  custom_has n (custom.Length r) so_far = filled_has demanded (TextLeft demanded r unnamed) (suc n) (text_has demanded unnamed r)
  custom_has n (custom.Name more) so_far = filled_has demanded (NameLeft demanded so_far (suc more) unnamed) (suc n) (left_has demanded so_far more unnamed)
  custom_has n custom.Skip so_far = any_has demanded n
  custom_has n (custom.Failed w) so_far = λ s k h. h
