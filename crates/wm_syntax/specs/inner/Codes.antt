-- A code of bodies, by which the logic tells them apart: their ops. The proofs are in specs because a code
-- needs them.
use Rattle.std.specs.Prelude.{ℕ, ◌+◌, suc, List, [], ◌∷◌, ◌++◌, Option, Some, ◌≡◌, length, map, refl}
use Rattle.std.proofs.Common.{sym, ap, ◌∙◌, append_assoc, append-nil, arith}
use Rattle.std.specs.Coded.{Coded, code_by, coded_list, coded×, coded_ℕ}
use Rattle.wm_syntax.specs.Modules.{Function}
use Rattle.wm_syntax.specs.contracts.types.ValType as types
use Rattle.wm_syntax.specs.declared.types.ValType.{ValType}
use Rattle.wm_syntax.specs.declared.instructions.Op.{Op}
use Rattle.wm_syntax.specs.declared.instructions.Op.TheVariants as op
use Rattle.wm_syntax.specs.contracts.instructions.Op as rows
use Rattle.wm_syntax.specs.Instructions.{Instruction, Instructions, none, snoc, simple, table, block, loop}
use Rattle.wm_syntax.specs.Instructions.{choice, instruction_ops, ops_of, else_ops}
use Rattle.wm_syntax.specs.inner.Building.{Open, in_block, in_loop, in_first, in_second, Place, at, labels}
use Rattle.wm_syntax.specs.inner.Building.{start, place_after, body_in, tree_of, outer_ops, ops_at, place_in}
use Rattle.wm_syntax.specs.inner.Building.{place_of}

pub join : Instructions → Instructions → Instructions
join s none = s
join s (snoc t i) = snoc (join s t) i

join_none : (s : Instructions) → join none s ≡ s
unfolding join
join_none none = refl
join_none (snoc s i) = ap (λ t. snoc t i) (join_none s)

labels_run : (outer : List Open) (s : Instructions) (seen ls : List ℕ) (d : ℕ) (r : List Op)
    → place_after (labels outer s seen (length ls)) ((map op.Label ls ++ op.Label d ∷ []) ++ r) ≡ place_after
    (at outer (snoc s (table (seen ++ ls) d))) r
labels_run outer s seen [] d r =
    ap (λ ls. place_after (at outer (snoc s (table ls d))) r) (sym (append-nil seen))
labels_run outer s seen (l ∷ ls) d r =
    labels_run outer s (seen ++ l ∷ []) ls d r ∙ ap (λ ls. place_after (at outer (snoc s (table ls d))) r)
    (append_assoc seen (l ∷ []) ls)

second_run : (second : Instructions) → ((outer : List Open) (s : Instructions) (r : List Op)
    → place_after (at outer s) (ops_of second ++ r) ≡ place_after (at outer (join s second)) r)
    → (t : Option ValType) (first s : Instructions) (outer : List Open) (r : List Op)
    → place_after (at (in_first t s ∷ outer) first) (else_ops second (ops_of second) ++ op.End ∷ r)
    ≡ place_after (at outer (snoc s (choice t first second))) r
second_run none rest t first s outer r = refl
second_run (snoc u i) rest t first s outer r =
    rest (in_second t s first ∷ outer) none (op.End ∷ r)
    ∙ ap (λ z. place_after (at outer (snoc s (choice t first z))) r) (join_none (snoc u i))

mutual
  unfolding join

  instruction_run : (i : Instruction) (outer : List Open) (s : Instructions) (r : List Op)
      → place_after (at outer s) (instruction_ops i ++ r) ≡ place_after (at outer (snoc s i)) r
  instruction_run (simple i) outer s r = refl
  instruction_run (table ls d) outer s r = labels_run outer s [] ls d r
  instruction_run (block t body) outer s r =
      ap (place_after (at (in_block t s ∷ outer) none)) (append_assoc (ops_of body) (op.End ∷ []) r)
      ∙ instructions_run body (in_block t s ∷ outer) none (op.End ∷ r)
      ∙ ap (λ z. place_after (at outer (snoc s (block t z))) r) (join_none body)
  instruction_run (loop t body) outer s r =
      ap (place_after (at (in_loop t s ∷ outer) none)) (append_assoc (ops_of body) (op.End ∷ []) r)
      ∙ instructions_run body (in_loop t s ∷ outer) none (op.End ∷ r)
      ∙ ap (λ z. place_after (at outer (snoc s (loop t z))) r) (join_none body)
  instruction_run (choice t first second) outer s r =
      ap (place_after (at (in_first t s ∷ outer) none))
      (append_assoc (ops_of first ++ else_ops second (ops_of second)) (op.End ∷ []) r ∙ append_assoc
      (ops_of first) (else_ops second (ops_of second)) (op.End ∷ r))
      ∙ instructions_run first (in_first t s ∷ outer) none (else_ops second (ops_of second) ++ op.End ∷ r)
      ∙ ap (λ z. place_after (at (in_first t s ∷ outer) z) (else_ops second (ops_of second) ++ op.End ∷ r))
      (join_none first)
      ∙ second_run second (λ outer s r. instructions_run second outer s r) t first s outer r

  instructions_run : (u : Instructions) (outer : List Open) (s : Instructions) (r : List Op)
      → place_after (at outer s) (ops_of u ++ r) ≡ place_after (at outer (join s u)) r
  instructions_run none outer s r = refl
  instructions_run (snoc u i) outer s r =
      ap (place_after (at outer s)) (append_assoc (ops_of u) (instruction_ops i) r)
      ∙ instructions_run u outer s (instruction_ops i ++ r)
      ∙ instruction_run i outer (join s u) r

-- A body can be recovered from its ops.
pub again : (s : Instructions) → tree_of (ops_of s) ≡ s
again s = ap (λ z. body_in (place_after start z)) (sym (append-nil (ops_of s))) ∙ ap body_in
    (instructions_run s [] none []) ∙ join_none s

abbrev pub ops_code : Coded (List Op)
ops_code = coded_list rows.the_row.coded

abbrev pub instructions_code : Coded Instructions
instructions_code = code_by (List Op) ops_code ops_of tree_of again

-- The ops of a list, from its beginning, lead to that list.
list_run : (s : Instructions) (outer : List Open) (r : List Op)
    → place_after (at outer none) (ops_of s ++ r) ≡ place_after (at outer s) r
list_run s outer r = instructions_run s outer none r ∙ ap (λ u. place_after (at outer u) r) (join_none s)

outer_run : (outer : List Open) (r : List Op)
    → place_after start (outer_ops outer ++ r) ≡ place_after (at outer none) r
outer_run [] r = refl
outer_run (in_block t before ∷ outer) r =
    ap (place_after start) (append_assoc (outer_ops outer) (ops_of before ++ op.Block t ∷ []) r) ∙ outer_run
    outer ((ops_of before ++ op.Block t ∷ []) ++ r)
    ∙ ap (place_after (at outer none)) (append_assoc (ops_of before) (op.Block t ∷ []) r) ∙ list_run before
    outer (op.Block t ∷ r)
outer_run (in_loop t before ∷ outer) r =
    ap (place_after start) (append_assoc (outer_ops outer) (ops_of before ++ op.Loop t ∷ []) r) ∙ outer_run
    outer ((ops_of before ++ op.Loop t ∷ []) ++ r)
    ∙ ap (place_after (at outer none)) (append_assoc (ops_of before) (op.Loop t ∷ []) r) ∙ list_run before
    outer (op.Loop t ∷ r)
outer_run (in_first t before ∷ outer) r =
    ap (place_after start) (append_assoc (outer_ops outer) (ops_of before ++ op.If t ∷ []) r) ∙ outer_run
    outer ((ops_of before ++ op.If t ∷ []) ++ r)
    ∙ ap (place_after (at outer none)) (append_assoc (ops_of before) (op.If t ∷ []) r) ∙ list_run before outer
    (op.If t ∷ r)
outer_run (in_second t before first ∷ outer) r =
    ap (place_after start) (append_assoc (outer_ops outer)
    (ops_of before ++ (op.If t ∷ ops_of first ++ op.Else ∷ [])) r)
    ∙ outer_run outer ((ops_of before ++ (op.If t ∷ ops_of first ++ op.Else ∷ [])) ++ r)
    ∙ ap (place_after (at outer none)) (append_assoc (ops_of before) (op.If t ∷ ops_of first ++ op.Else ∷ [])
    r ∙ ap (λ z. ops_of before ++ op.If t ∷ z) (append_assoc (ops_of first) (op.Else ∷ []) r))
    ∙ list_run before outer (op.If t ∷ ops_of first ++ op.Else ∷ r)
    ∙ list_run first (in_first t before ∷ outer) (op.Else ∷ r)

labels_seen : (outer : List Open) (s : Instructions) (ls seen : List ℕ) (n : ℕ)
    → place_after (labels outer s seen (length ls + n)) (map op.Label ls) ≡ Some
    (labels outer s (seen ++ ls) n)
labels_seen outer s [] seen n = let z : 0 + n ≡ n = omega arith in rw (z, append-nil seen) refl
labels_seen outer s (l ∷ ls) seen n =
    let z : suc (length ls) + n ≡ suc (length ls + n) = omega arith in
    rw z (labels_seen outer s ls (seen ++ l ∷ []) n ∙ ap (λ y. Some (labels outer s y n))
    (append_assoc seen (l ∷ []) ls))

-- The ops held in a state lead to it.
pub held_lead : (p : Place) → place_after start (ops_at p) ≡ Some p
held_lead (at outer s) =
    outer_run outer (ops_of s) ∙ ap (place_after (at outer none))
    (sym (append-nil (ops_of s))) ∙ list_run s outer []
held_lead (labels outer s seen n) =
    outer_run outer (ops_of s ++ op.BrTable (length seen + n) ∷ map op.Label seen)
    ∙ list_run s outer (op.BrTable (length seen + n) ∷ map op.Label seen)
    ∙ labels_seen outer s seen [] n

pub place_again : (p : Place) → place_in (ops_at p) ≡ p
place_again p = ap place_of (held_lead p)

abbrev pub place_code : Coded Place
place_code = code_by (List Op) ops_code ops_at place_in place_again

-- The code of a function: the index of its type, its locals and its body.
abbrev pub function_code : Coded Function
function_code =
    code_by (ℕ × (List ValType × Instructions))
    (coded× coded_ℕ (coded× (coded_list types.the_row.coded) instructions_code))
    (λ f. (f.type_index, (f.locals, f.body)))
    (λ p. record { type_index = p.0; locals = p.1.0; body = p.1.1 }) (λ _. refl)
