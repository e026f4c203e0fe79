-- The meaning of a validator's refusal, from the meanings for the format and for the refused item.
use Rattle.std.proofs.Common.{ℕ, ◌⊎◌, inl, inr, List}
use Rattle.wm_syntax.specs.declared.profile.Profile.{Profile}
use Rattle.wm_syntax.specs.declared.why.Why.{Why}
use Rattle.wm_syntax.specs.declared.why.Why.TheVariants as why
use Rattle.wm_machine.specs.declared.refusal.Refusal.{Refusal}
use Rattle.wm_machine.specs.Items.{items_at}
use Rattle.wm_machine.specs.Meanings.{AtItem, IsRuleName, Meant, MeansOfFormat, MeaningOfFormat, RefusesBy}
use Rattle.wm_rules.specs.declared.policy.Policy.{Policy}
use Rattle.wm_rules.specs.exact.Policing.{checker_after, checker_at_start}
use Rattle.wm_rules.specs.Meanings.{Means, Meaning}
use Rattle.wm_rules.proofs.EntryItems.{front_stood}
use Rattle.wm_rules.proofs.PolicyInputs.{refused_names}
use Rattle.wm_rules.proofs.PolicyMeanings.{NameSays}

module _ (p : Profile) (limit : ℕ) (q : Policy) where
  abbrev Refuses : Why → List ℕ → Type 0
  Refuses w used = AtItem p (RefusesBy checker_after (checker_at_start q) w) used

  -- where the items are that the item stands on, what its name says holds
  ruled : (w : Why) (used : List ℕ) → Refuses w used → AtItem p (NameSays q w) used
  ruled w used a = record {
    told = a.told;
    last = a.last;
    front = a.front;
    item = a.item;
    completes = a.completes;
    wrong = let f = a.wrong in (refused_names q (items_at a.told) f.0 a.item w f.1 f.2).1 (front_stood p used a.told a.last a.item a.front a.completes);
  }

  -- a name of rules or of the policy, or one of which the format says all
  abbrev Said : Why → Type 0
  Said w = (IsRuleName w × ((used rest : List ℕ) → Refuses w used → Means p limit q used rest w))
      ⊎ ((used rest : List ℕ) → MeansOfFormat p limit used rest w → Means p limit q used rest w)

  said : (w : Why) → Said w
  said why.Index = inl (tt, λ used rest a. ruled why.Index used a)
  said why.Limits = inl (tt, λ used rest a. ruled why.Limits used a)
  said why.Second = inl (tt, λ used rest a. ruled why.Second used a)
  said why.DuplicateExport = inl (tt, λ used rest a. ruled why.DuplicateExport used a)
  said why.StartType = inl (tt, λ used rest a. ruled why.StartType used a)
  said why.NotConst = inl (tt, λ used rest a. ruled why.NotConst used a)
  said why.Immutable = inl (tt, λ used rest a. ruled why.Immutable used a)
  said why.Align = inl (tt, λ used rest a. ruled why.Align used a)
  said why.TooManyLocals = inl (tt, λ used rest a. ruled why.TooManyLocals used a)
  said why.Mismatch = inl (tt, λ used rest a. ruled why.Mismatch used a)
  said why.Arity = inl (tt, λ used rest a. ruled why.Arity used a)
  said why.ElsePlace = inl (tt, λ used rest a. ruled why.ElsePlace used a)
  said why.ManyFunctions = inl (tt, λ used rest a. ruled why.ManyFunctions used a)
  said why.ManyLocals = inl (tt, λ used rest a. ruled why.ManyLocals used a)
  said why.Deep = inl (tt, λ used rest a. ruled why.Deep used a)
  said w = inr (λ used rest m. m)

  pub meaning : (input : List ℕ) (r : Refusal) → MeaningOfFormat p limit input r → (IsRuleName r.why → Meant (λ used rest w. Refuses w used) input r) → Meaning p limit q input r
  meaning input r format item = elim (said r.why) [
    | inr f ↦ record { used = format.used; rest = format.rest; whole = format.whole; at = format.at; means = f format.used format.rest format.means }
    | inl f ↦ let m = item f.0 in record { used = m.used; rest = m.rest; whole = m.whole; at = m.at; means = f.1 m.used m.rest m.means }
  ]
