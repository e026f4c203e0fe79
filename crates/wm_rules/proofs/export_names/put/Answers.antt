use Rattle.std.proofs.Common.{◌≡◌, Bool, true, false, map, refl, sym, ap, subst, ◌∙◌}
use Rattle.std.specs.Bool.{OnFalse}
use Rattle.wm_rules.specs.declared.export_names.HashedName.{HashedName}
use Rattle.wm_rules.specs.exact.Names.{AreHashed, hash_of, in_order}
use Rattle.wm_rules.proofs.NameLemmas.{added_new, added_known, insert_hashed}
use Rattle.wm_rules.proofs.export_names.put.Goals as goal
use Rattle.wm_rules.proofs.export_names.put.Goals.{in-Ok-true, in-Ok-false, in-Err}

-- the name and its hash
abbrev put_in : goal.Joined-insert-2 → HashedName
put_in c = record { hash = c.hash_of.result; name = c.in-Ok.owned }

own_hash : (c : goal.Joined-insert-2) → (put_in c).hash ≡ hash_of (put_in c).name.items
own_hash c = c.hash_of.ensures ∙ ap hash_of (sym c.in-Ok.ensures.items)

pub returns-clause-taken : goal.returns-clause-taken
returns-clause-taken c = elim c.match-insert.branch [
  | in-Ok-true w ↦ rw (w.result-is, ← c.in-Ok.ensures.items) (added_new c.args.names.now (put_in c) _ (own_hash c) c.requires (sym w.in-Ok-true.ensures.added ∙ w.in-Ok-true.field-0-test) w.in-Ok-true.ensures.keys)
  | in-Ok-false w ↦ rw (w.result-is, ← c.in-Ok.ensures.items) (λ no. added_known c.args.names.now (put_in c) (own_hash c) c.requires (sym w.in-Ok-false.ensures.added ∙ w.in-Ok-false.field-0-test))
  | in-Err w ↦ rw w.result-is (λ no. absurd (no refl))
]

kept_keys : {P : Type 0} (b : Bool) → b ≡ false → OnFalse b P → P
kept_keys true e h = absurd (cc)
kept_keys false e h = h

pub returns-clause-err : goal.returns-clause-err
returns-clause-err c = elim c.match-insert.branch [
  | in-Ok-true w ↦ rw w.result-is tt
  | in-Ok-false w ↦ rw w.result-is (ap (λ ks. in_order (map (λ k. k.name.items) ks)) (kept_keys w.in-Ok-false.field-0 w.in-Ok-false.field-0-test w.in-Ok-false.ensures.unchanged))
  | in-Err w ↦ rw w.result-is (ap (λ ks. in_order (map (λ k. k.name.items) ks)) w.in-Err.ensures.err)
]

pub returns-clause-hashed : goal.returns-clause-hashed
returns-clause-hashed c = elim c.match-insert.branch [
  | in-Ok-true w ↦ subst AreHashed (sym w.in-Ok-true.ensures.keys) (insert_hashed c.args.names.now.keys (put_in c) (own_hash c) c.requires)
  | in-Ok-false w ↦ subst AreHashed (sym (kept_keys w.in-Ok-false.field-0 w.in-Ok-false.field-0-test w.in-Ok-false.ensures.unchanged)) c.requires
  | in-Err w ↦ subst AreHashed (sym w.in-Err.ensures.err) c.requires
]
