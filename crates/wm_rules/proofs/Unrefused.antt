-- The body of a checker has refused nothing if all items were taken.
use Rattle.std.proofs.Common.{ℕ, ◌+◌, ◌≡◌, Bool, true, false, cond, List, [], ◌∷◌, Option, Some, None, Result, Ok, Err, refl, sym, ◌∙◌, ap, subst}
use Rattle.wm_machine.specs.Items.{passive_element, passive_segment}
use Rattle.wm_syntax.specs.declared.types.ValType.{ValType}
use Rattle.wm_syntax.specs.declared.why.Why.{Why}
use Rattle.wm_syntax.specs.declared.why.Why.TheVariants as why
use Rattle.wm_typing.specs.declared.body_checker.Progress.{Progress}
use Rattle.wm_typing.specs.declared.body_checker.Progress.TheVariants.{Inside, Ended}
use Rattle.wm_typing.specs.Bodies.{Body, stats_after, BodyState}
use Rattle.wm_typing.specs.exact.Bodies.{body_at_start, declared_more, declared_to, progress_at, body_after_op, body_from as body_to, unless_refused, with_state}
use Rattle.wm_machine.specs.Items.{Item, new_type, param, result_count, one_result, import_module, import_name, import_desc, function, table, memory, global, const_op, export_name, export, start, element, element_function, data_count, body, locals, body_op, segment, data_byte}
use Rattle.wm_machine.specs.Sinks.{all_taken}
use Rattle.wm_rules.specs.exact.Checking.{after, body_begun, checker_after_op, with_body, with_progress}
use Rattle.wm_rules.specs.Holding.{Held}
use Rattle.wm_rules.specs.exact.Spaces.{context_of, next_type}
use Rattle.wm_rules.proofs.OutsideBodies.{IsOutside, part_calm}
use Rattle.wm_rules.proofs.MemberFolds.{ok_then}

unless_ok : {A : Type 0} (o : Option Why) (r : Result A Why) (x : A) → unless_refused o r ≡ Ok x → r ≡ Ok x
unless_ok None r x e = e
unless_ok (Some w) r x e = absurd (cc)

declared_same : (b d : Body) (r : Result (List ValType) Why) → declared_to b r ≡ Ok d → d.refused ≡ b.refused
declared_same b d (Ok ts) e = let is : record b { declared = ts; stats = stats_after b.state.stacks 0 b.stats } ≡ d = cc in sym (ap (λ (z : Body). z.refused) is)
declared_same b d (Err w) e = absurd (cc)

stepped_same : (b d : Body) (probes : ℕ) (r : Result BodyState Why) → body_to b probes r ≡ Ok d → d.refused ≡ b.refused
stepped_same b d probes (Ok s) e = let is : with_state b probes s ≡ d = cc in sym (ap (λ (z : Body). z.refused) is)
stepped_same b d probes (Err w) e = absurd (cc)

-- of what is held the body's refusal
abbrev refusal : Held → Option Why
refusal h = h.body.refused

progress_same : (h : Held) (d : Body) (p : Progress) → refusal (with_progress h d p) ≡ d.refused
progress_same h d Inside = refl
progress_same h d Ended = refl

begun_none : (h g : Held) (x : Option ℕ) → body_begun h x ≡ Ok g → refusal g ≡ None
begun_none h g None e = absurd (cc)
begun_none h g (Some x) e =
    let is : record h { spaces = record h.spaces { bodies = h.spaces.bodies + 1 }; body = body_at_start (context_of h.spaces) x; in_body = true } ≡ g = cc in sym (ap refusal is)

locals_same : (h g : Held) (b : Bool) (r : Result Body Why) → ((d : Body) → r ≡ Ok d → d.refused ≡ refusal h) → cond b (with_body h r) (Err why.Index) ≡ Ok g → refusal g ≡ refusal h
locals_same h g true (Ok d) f e = let is : record h { body = d } ≡ g = cc in sym (ap refusal is) ∙ f d refl
locals_same h g true (Err w) f e = absurd (cc)
locals_same h g false r f e = absurd (cc)

op_same : (h g : Held) (b : Bool) (r : Result Body Why) → ((d : Body) → r ≡ Ok d → d.refused ≡ refusal h) → cond b (checker_after_op h r) (Err why.Index) ≡ Ok g → refusal g ≡ refusal h
op_same h g true (Ok d) f e = let is : with_progress h d (progress_at d.state.stacks.frames) ≡ g = cc in sym (ap refusal is) ∙ (progress_same h d (progress_at d.state.stacks.frames) ∙ f d refl)
op_same h g true (Err w) f e = absurd (cc)
op_same h g false r f e = absurd (cc)

outside_same : (h g : Held) (x : Item) → IsOutside x → after h x ≡ Ok g → refusal h ≡ None → refusal g ≡ None
outside_same h g x i e n = ap (λ (b : Body). b.refused) (part_calm h g x i e).body ∙ n

part_unrefused : (h g : Held) (x : Item) → after h x ≡ Ok g → refusal h ≡ None → refusal g ≡ None
part_unrefused h g body e n = begun_none h g (next_type h.spaces) e
part_unrefused h g (locals count t) e n =
    locals_same h g h.in_body (declared_more count t h.body) (λ d is. declared_same h.body d _ (unless_ok h.body.refused _ d is)) e ∙ n
part_unrefused h g (body_op o) e n =
    op_same h g h.in_body (body_after_op (context_of h.spaces) o h.body) (λ d is. stepped_same h.body d _ _ (unless_ok h.body.refused _ d is)) e ∙ n
part_unrefused h g new_type e n = outside_same h g new_type tt e n
part_unrefused h g (param t) e n = outside_same h g (param t) tt e n
part_unrefused h g (result_count c) e n = outside_same h g (result_count c) tt e n
part_unrefused h g (one_result t) e n = outside_same h g (one_result t) tt e n
part_unrefused h g (import_module name) e n = outside_same h g (import_module name) tt e n
part_unrefused h g (import_name name) e n = outside_same h g (import_name name) tt e n
part_unrefused h g (import_desc d) e n = outside_same h g (import_desc d) tt e n
part_unrefused h g (function x) e n = outside_same h g (function x) tt e n
part_unrefused h g (table l) e n = outside_same h g (table l) tt e n
part_unrefused h g (memory l) e n = outside_same h g (memory l) tt e n
part_unrefused h g (global t) e n = outside_same h g (global t) tt e n
part_unrefused h g (const_op o) e n = outside_same h g (const_op o) tt e n
part_unrefused h g (export_name name) e n = outside_same h g (export_name name) tt e n
part_unrefused h g (export k x) e n = outside_same h g (export k x) tt e n
part_unrefused h g (start x) e n = outside_same h g (start x) tt e n
part_unrefused h g (element x) e n = outside_same h g (element x) tt e n
part_unrefused h g passive_element e n = outside_same h g passive_element tt e n
part_unrefused h g (element_function x) e n = outside_same h g (element_function x) tt e n
part_unrefused h g (data_count c) e n = outside_same h g (data_count c) tt e n
part_unrefused h g (segment x) e n = outside_same h g (segment x) tt e n
part_unrefused h g passive_segment e n = outside_same h g passive_segment tt e n
part_unrefused h g (data_byte c) e n = outside_same h g (data_byte c) tt e n

pub parts_unrefused : (ps : List Item) (h g : Held) → all_taken after h ps ≡ Ok g → refusal h ≡ None → refusal g ≡ None
parts_unrefused [] h g e n = let is : h ≡ g = cc in subst (λ z. refusal z ≡ None) is n
parts_unrefused (x ∷ ps) h g e n = let s = ok_then (after h x) (λ k. all_taken after k ps) g e in parts_unrefused ps s.0 g s.2 (part_unrefused h s.0 x s.1 n)
