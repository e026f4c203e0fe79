-- Numbers that are read in one section and required in a later one.
use Rattle.std.proofs.Common.{◌≡◌, ℕ, List, Option}
use Rattle.wm_machine.specs.Items.{Item, Mark}
use Rattle.wm_machine.specs.MarkedForms.{MarkedForm, Then, Sized, Counted}
use Rattle.wm_machine.specs.Grammar.{ModuleCounts}
use Rattle.wm_machine.proofs.FirstBytes.{Next, Same, Never, next_never}
use Rattle.wm_machine.proofs.Chains.{Where}

-- for some numbers of which this is known
abbrev pub ForSome : (ModuleCounts → Type 0) → (ModuleCounts → MarkedForm) → MarkedForm
ForSome C P b k = (f : ModuleCounts) × C f × P f b k

module _ (demanded : Type 0) (C : ModuleCounts → Type 0) where
  pub some_next : (P Q : ModuleCounts → MarkedForm) (c : ℕ) (m : Mark) → ((f : ModuleCounts) → Next demanded (P f) c m (Q f)) → Next demanded (ForSome C P) c m (ForSome C Q)
  some_next P Q c m h = record {
    to = λ s b k p. let g = (h p.0).to s b k p.2 in (g.0, g.1, (p.0, p.1, g.2));
    from = λ b k g. (g.2.0, g.2.1, (h g.2.0).from b k (g.0, g.1, g.2.2));
  }

  pub some_none : (P : ModuleCounts → MarkedForm) (c : ℕ) (m : Mark) → ((f : ModuleCounts) → Next demanded (P f) c m Never) → Next demanded (ForSome C P) c m Never
  some_none P c m h = next_never demanded (ForSome C P) c m (λ s b k p. ((h p.0).to s b k p.2).2)

  pub some_same : (P Q : ModuleCounts → MarkedForm) → ((f : ModuleCounts) → Same demanded (P f) (Q f)) → Same demanded (ForSome C P) (ForSome C Q)
  some_same P Q h = record { to = λ s b k p. (p.0, p.1, (h p.0).to s b k p.2); from = λ b k p. (p.0, p.1, (h p.0).from b k p.2) }

  pub some_never : (P : ModuleCounts → MarkedForm) → ((f : ModuleCounts) → C f → Same demanded (P f) Never) → Same demanded (ForSome C P) Never
  some_never P h = record { to = λ s b k p. (h p.0 p.1).to s b k p.2; from = λ b k p. absurd p }

  -- what does not depend on it
  pub some_then : (P : MarkedForm) (Q : ModuleCounts → MarkedForm) → Same demanded (ForSome C (λ f. Then P (Q f))) (Then P (ForSome C Q))
  some_then P Q = record {
    to = λ s b k p. let t = p.2 in record { front = t.front; back = t.back; front_marks = t.front_marks; back_marks = t.back_marks; bytes = t.bytes; marks = t.marks; first = t.first; second = (p.0, p.1, t.second) };
    from = λ b k t. let q = t.second in (q.0, q.1, record { front = t.front; back = t.back; front_marks = t.front_marks; back_marks = t.back_marks; bytes = t.bytes; marks = t.marks; first = t.first; second = q.2 });
  }

  pub some_counted : (S : ℕ → List ℕ → Type 0) (x : ℕ → Option Item) (F : (f : ModuleCounts) (n : ℕ) → MarkedForm) → Same demanded (ForSome C (λ f. Counted S x (F f))) (Counted S x (λ n. ForSome C (λ f. F f n)))
  some_counted S x F = record {
    to = λ s b k p. let t = p.2 in record { n = t.n; front = t.front; back = t.back; back_marks = t.back_marks; bytes = t.bytes; marks = t.marks; number = t.number; rest = (p.0, p.1, t.rest) };
    from = λ b k t. let q = t.rest in (q.0, q.1, record { n = t.n; front = t.front; back = t.back; back_marks = t.back_marks; bytes = t.bytes; marks = t.marks; number = t.number; rest = q.2 });
  }

  module _ (D : ModuleCounts → Type 0) where
    -- the same is known
    pub some_known : (P : ModuleCounts → MarkedForm) → ((f : ModuleCounts) → C f → D f) → ((f : ModuleCounts) → D f → C f) → Same demanded (ForSome C P) (ForSome D P)
    some_known P to from = record { to = λ s b k p. (p.0, to p.0 p.1, p.2); from = λ b k p. (p.0, from p.0 p.1, p.2) }

    pub some_where : (M : ModuleCounts → Type 0) (P : ModuleCounts → MarkedForm) → ((f : ModuleCounts) → C f → M f → D f) → ((f : ModuleCounts) → D f → C f × M f) → Same demanded (ForSome C (λ f. Where (M f) (P f))) (ForSome D P)
    some_where M P to from = record {
      to = λ s b k p. (p.0, to p.0 p.1 p.2.0, p.2.1);
      from = λ b k p. let g = from p.0 p.1 in (p.0, g.0, (g.1, p.2));
    }

    -- once one of the numbers was read, it is the one
    pub some_read : (one : ModuleCounts → ℕ) (v n : ℕ) (P : MarkedForm) (Q : ModuleCounts → MarkedForm) → ((f : ModuleCounts) → C f → v ≡ one f → D f) → ((f : ModuleCounts) → D f → C f × (demanded → v ≡ one f))
        → Same demanded (ForSome C (λ f. Then (Sized demanded n (Where (demanded → v ≡ one f) P)) (Q f))) (Then (Sized demanded n P) (ForSome D Q))
    some_read one v n P Q to from = record {
      to = λ s b k p. let t = p.2 in record { front = t.front; back = t.back; front_marks = t.front_marks; back_marks = t.back_marks; bytes = t.bytes; marks = t.marks; first = (t.first.0, t.first.1.1); second = (p.0, to p.0 p.1 (t.first.1.0 s), t.second) };
      from = λ b k t. let q = t.second in let g = from q.0 q.1 in
          (q.0, g.0, record { front = t.front; back = t.back; front_marks = t.front_marks; back_marks = t.back_marks; bytes = t.bytes; marks = t.marks; first = (t.first.0, (g.1, t.first.1)); second = q.2 });
    }
