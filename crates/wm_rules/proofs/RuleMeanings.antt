-- The meanings of the names of rules, for the items so far and the refused item.
use Rattle.std.proofs.Common.{◌≡◌, ℕ, ◌^◌, ◌+◌, ◌≤◌, ◌<◌, ◌⊎◌, inl, inr, cond, Bool, true, false, List, [], ◌∷◌, ◌++◌, length, map, slice_get, Option, Some, None, Result, Ok, Err, refl, sym, ◌∙◌, ap, subst, nat_lt, arith}
use Rattle.wm_machine.specs.Items.{passive_element, passive_segment}
use Rattle.std.proofs.lemmas.Bool.{cond_both, ltb-false, ltb-true}
use Rattle.std.proofs.lemmas.Option.{slice_get-get_or}
use Rattle.wm_syntax.specs.declared.why.Why.{Why}
use Rattle.wm_syntax.specs.declared.why.Why.TheVariants as why
use Rattle.wm_syntax.specs.declared.types.Limits.{Limits}
use Rattle.wm_syntax.specs.declared.types.GlobalType.{GlobalType}
use Rattle.wm_syntax.specs.declared.types.ValType.{ValType}
use Rattle.wm_syntax.specs.declared.types.ValType.TheVariants.{I32}
use Rattle.wm_syntax.specs.declared.instructions.Op.{Op}
use Rattle.wm_syntax.specs.declared.instructions.Op.TheVariants as op
use Rattle.wm_syntax.specs.declared.instructions.Simple.TheVariants as simple
use Rattle.wm_syntax.specs.declared.modules.ImportDesc.{ImportDesc}
use Rattle.wm_syntax.specs.declared.modules.ImportDesc.TheVariants as desc
use Rattle.wm_syntax.specs.declared.modules.ExportKind.{ExportKind}
use Rattle.wm_syntax.specs.declared.modules.ExportKind.TheVariants as kind
use Rattle.wm_syntax.specs.Instructions.{openings, endings}
use Rattle.wm_syntax.specs.Modules.{locals_of}
use Rattle.wm_syntax.specs.Types.{Signature}
use Rattle.wm_stacks.specs.declared.stack_entries.Frame.{Frame}
use Rattle.wm_typing.specs.declared.labels.BrTable.{BrTable}
use Rattle.wm_typing.specs.Typing.{Context, function_type}
use Rattle.wm_typing.specs.Contexts.{in_function, result_of}
use Rattle.wm_typing.specs.OpenLists.{Place, open_at, within, complete, IsSoFar, head_of, label_type, levels}
use Rattle.wm_typing.specs.Bodies.{Body, BodyState}
use Rattle.wm_typing.specs.inner.Frames.{Frames, running, in_table, ended, Holds, TracksWith}
use Rattle.wm_stacks.specs.Stack.{Stack}
use Rattle.wm_typing.specs.inner.Checking.{BodyAfter}
use Rattle.wm_typing.specs.exact.Bodies.{body_after_op, body_from, context_in, unless_refused}
use Rattle.wm_typing.specs.Probes.{probes_in}
use Rattle.wm_typing.specs.exact.Ops.{labels_of, step, within_frames}
use Rattle.wm_typing.proofs.AfterCalls.{nested_said, no_typing}
use Rattle.wm_typing.proofs.BegunBodies.{begun_body}
use Rattle.wm_typing.proofs.StacksAfterOps.{body_can, front_typed}
use Rattle.wm_typing.proofs.OneOp.{holds_can}
use Rattle.wm_machine.specs.Flat.{code_items}
use Rattle.wm_machine.specs.Items.{Item, new_type, param, result_count, one_result, import_module, import_name, import_desc, function, table, memory, global, const_op, export_name, export, start, element, element_function, data_count, body, locals, body_op, segment, data_byte}
use Rattle.wm_machine.specs.Meanings.{IsRuleName}
use Rattle.wm_machine.specs.Sinks.{all_taken, and_then}
use Rattle.wm_rules.specs.declared.constants.Constant.{Constant}
use Rattle.wm_rules.specs.Holding.{IndexSpaces, Held}
use Rattle.wm_rules.specs.exact.Constants.{constant_expecting, visible}
use Rattle.wm_rules.specs.exact.Spaces.{items_in, one_if, index_check, is_plain, is_within, next_type, plain, context_of, function_added, import_added, table_added, memory_added}
use Rattle.wm_rules.specs.exact.Checking.{after, checker_after_op, constant_begun, empty_checker, in_names, in_spaces, is_taken, put_name, where_ok, with_element}
use Rattle.wm_rules.specs.Validation.{WithinRange}
use Rattle.wm_rules.specs.Meanings.{AreTooMany, CountDiffers, Leaves, BeginsBefore, BeginsBody, EndsTyping, HasOtherType, HasWrongCount, IsMistyped, IsNotOne, LastHasResult, AtConstant, AtOp, CannotBeConstant, ConstantNamesNothing, HasNoItem, InBody, InConstant, InEntry, IsAlignedPast, IsConstantOf, IsElseOutside, IsNoFirstBranch, IsNoStart, IsOutOfRange, IsRepeated, IsSecond, OpNamesNothing, SetsConstant, TypesDiffer, context_inside, context_of_body, context_so_far, heads_of, how_many, next_function, one_where, so_far}
use Rattle.wm_rules.proofs.CodeEntries.{at_hand, over_at_hand}
use Rattle.wm_rules.proofs.ConstantMembers.{AfterOps, const_front, with_const}
use Rattle.wm_rules.proofs.DueLabels.{InOrder, heads_are, in_order, labels_are}
use Rattle.wm_rules.proofs.EntryItems.{ConstantItems, GoesOn, HasType, IsOpening, Stood}
use Rattle.wm_rules.proofs.ItemMembers.{within_from}
use Rattle.wm_rules.proofs.MemberFolds.{ok_then, taken-append}
use Rattle.wm_rules.proofs.LeftTypes.{count_differs}
use Rattle.wm_rules.proofs.OtherTypes.{types_differ}
use Rattle.wm_rules.proofs.OpNames.{Only, OutsideElse}
use Rattle.wm_rules.proofs.RuleNames.{ConstantSays, CountsWrong, IsHidden, LocalsSay, NoneThere, OfConstant, OpOf, TypeSays, constant_names, count_name, entry_name, locals_names, op_names, param_names, result_names}
use Rattle.wm_rules.proofs.SpacesSoFar.{entry_context, few_globals, some_type}
use Rattle.wm_rules.proofs.ToldItems.{spaces_are_told, taken_is_told}

-- what a name says of an item
abbrev pub Says : Why → List Item → Item → Type 0
Says why.Index items x = HasNoItem items x
Says why.Limits items x = IsOutOfRange items x
Says why.Second items x = IsSecond items x
Says why.DuplicateExport items x = IsRepeated items x
Says why.StartType items x = IsNoStart items x
Says why.NotConst items x = AtConstant CannotBeConstant items x
Says why.Immutable items x = AtOp SetsConstant items x
Says why.Align items x = AtOp (λ globals o. IsAlignedPast o) items x
Says why.TooManyLocals items x = AreTooMany items x
Says why.Mismatch items x = IsMistyped items x
Says why.Arity items x = HasWrongCount items x
Says why.ElsePlace items x = IsElseOutside items x
Says w items x = ⊥

-- the item is refused by this name, and where the items before it are those that it stands on, what is said of it holds
abbrev pub Wrong : Why → List Item → Item → Type 0
Wrong w items x = IsRuleName w × (Stood x items → Says w items x)

-- a refusal by a name of which this is so
only : {A : Type 0} (P : Why → Type 0) (r : Result A Why) (w : Why) → Only P r → r ≡ Err w → P w
only P r w h e = subst (Only P) e h

spaces_err : (h : Held) (r : Result IndexSpaces Why) (w : Why) → in_spaces h r ≡ Err w → r ≡ Err w
spaces_err h (Ok s) w e = absurd (cc)
spaces_err h (Err v) w e = let same : v ≡ w = cc in ap Err same

ok_err : (h : Held) (r : Result (Unit {0}) Why) (w : Why) → where_ok h r ≡ Err w → r ≡ Err w
ok_err h (Ok u) w e = absurd (cc)
ok_err h (Err v) w e = let same : v ≡ w = cc in ap Err same

then_err : {A B : Type 0} (r : Result A Why) (f : A → B) (w : Why) → and_then r (λ a. Ok (f a)) ≡ Err w → r ≡ Err w
then_err (Ok a) f w e = absurd (cc)
then_err (Err v) f w e = let same : v ≡ w = cc in ap Err same

sized : (b c : Bool) (s : IndexSpaces) (w : Why) → cond b (Err why.Second) (cond c (Ok s) (Err why.Limits)) ≡ Err w
    → ((why.Second ≡ w) × (b ≡ true)) ⊎ ((why.Limits ≡ w) × (c ≡ false))
sized true c s w e = inl (cc, refl)
sized false true s w e = absurd (cc)
sized false false s w e = inr (cc, refl)

-- no such item
beyond : {A : Type 0} (x n : ℕ) (y : A) (w : Why) → cond {A = Result A Why} (nat_lt x n) (Ok y) (Err why.Index) ≡ Err w → (why.Index ≡ w) × (n ≤ x)
beyond {A} x n y w = cond_both (nat_lt x n) _ _ (λ (r : Result A Why). r ≡ Err w → (why.Index ≡ w) × (n ≤ x)) (λ _ e. absurd (cc)) (λ f e. (cc, ltb-false x n f))

same_one : (b : Bool) → one_if b ≡ one_where b
same_one true = refl
same_one false = refl

same_count : (k : ExportKind) (s : IndexSpaces) → items_in k s ≡ how_many k s
same_count kind.Func s = refl
same_count kind.Global s = refl
same_count kind.Table s = same_one s.has_table
same_count kind.Memory s = same_one s.has_memory

out_of_range : (k : ℕ) (l : Limits) → is_within k l ≡ false → WithinRange k l → ⊥
out_of_range k l e h = let is : true ≡ false = sym (within_from k l h) ∙ e in absurd (cc)

-- an op that an expression goes on with comes before its end
before_more : (ops : List Op) (o : Op) → GoesOn ops o → endings ops ≤ openings ops
before_more ops o g = elim (g.1.first ops (o ∷ g.0) refl) [ inl e ↦ absurd (cc) | inr l ↦ l ]

-- a global that is there and may not be named comes after those that may
hidden : (globals : List GlobalType) (n x : ℕ) → n ≤ length globals → visible n globals x ≡ None → n ≤ x
hidden globals n x l e = go (nat_lt x n) refl e
  where
    go : (b : Bool) → nat_lt x n ≡ b → cond b (slice_get globals x) None ≡ None → n ≤ x
    go true i e =
        let below : x < n = ltb-true x n i in
        let some = slice_get-get_or globals x (record { ty = I32; var = false }) (omega (arith, below, l)) in
        absurd (cc)
    go false i e = ltb-false x n i

hidden_names : (globals : List GlobalType) (n : ℕ) → n ≤ length globals → (o : Op) → IsHidden globals n o → ConstantNamesNothing n o
hidden_names globals n l (op.Simple (simple.GlobalGet x)) i = hidden globals n x l i
hidden_names globals n l o i = absurd i

counted_ops : (seen : Bool) (ops : List Op) (o : Op) → (seen ≡ false → ops ≡ []) → (seen ≡ true → ops ≡ [] → ⊥) → CountsWrong seen o → IsNotOne ops o
counted_ops seen ops op.End none some i = none i
counted_ops seen ops o none some i = some i

-- outside the labels of a br_table, the ops so far begin a body
begins : (c : Context) → c.labels ≡ c.result ∷ [] → (ops : List Op) (p : Place) (fs : Frames) (s : Stack) → 0 < length s.frames → IsSoFar c.result p ops → Holds c p fs → TracksWith None s fs → BeginsBody c ops
begins c e ops (open_at hs ws) (running gs fs) s l k h m = begun_body c hs ws ops e k (holds_can c (open_at hs ws) (running gs fs) h)
begins c e ops (complete r b) ended s l k h m = let n = ap length m.0 in absurd (omega (arith, l, n))
begins c e ops (within n seen hs ws) (in_table i known gs fs) s l k h m = absurd m
begins c e ops (open_at hs ws) (in_table i known gs fs) s l k h m = absurd h
begins c e ops (open_at hs ws) ended s l k h m = absurd h
begins c e ops (within n seen hs ws) (running gs fs) s l k h m = absurd h
begins c e ops (within n seen hs ws) ended s l k h m = absurd h
begins c e ops (complete r b) (running gs fs) s l k h m = absurd h
begins c e ops (complete r b) (in_table i known gs fs) s l k h m = absurd h

begins_before : (c : Context) → c.labels ≡ c.result ∷ [] → (ops : List Op) (p : Place) (fs : Frames) (u : Option BrTable) (s : Stack) (o : Op) → 0 < length s.frames → IsSoFar c.result p ops → Holds c p fs
    → TracksWith u s fs → InOrder u o → BeginsBefore c ops o
begins_before c e ops p fs None s (op.Label l) few k h m i = tt
begins_before c e ops p fs (Some t) s (op.Label l) few k h m i = tt
begins_before c e ops p fs None s o few k h m i = begins c e ops p fs s few k h m
begins_before c e ops p fs (Some t) s o few k h m i = absurd i

stepped_err : (b : Body) (n : ℕ) (r : Result BodyState Why) (w : Why) → b.refused ≡ None → unless_refused b.refused (body_from b n r) ≡ Err w → r ≡ Err w
stepped_err b n r w u e = go r (subst (λ z. unless_refused z (body_from b n r) ≡ Err w) u e)
  where
    go : (r : Result BodyState Why) → body_from b n r ≡ Err w → r ≡ Err w
    go (Ok s) e = absurd (cc)
    go (Err v) e = let same : v ≡ w = cc in ap Err same

-- what a constant is of
constant_kind : (s : IndexSpaces) (x : Item) → IsOpening x → (t : ValType) × (n : ℕ) × IsConstantOf s x t n
constant_kind s (global g) i = (g.ty, s.imported_globals, (refl, refl))
constant_kind s (element x) i = (I32, length s.globals, (refl, refl))
constant_kind s (segment x) i = (I32, length s.globals, (refl, refl))
constant_kind s x i = absurd i

expecting_same : (t u : ValType) (n m : ℕ) → t ≡ u → n ≡ m → Some (constant_expecting u m) ≡ Some (constant_expecting t n)
expecting_same t u n m e f = cc (e, f)

constant_begins : (x : Item) (t : ValType) (n : ℕ) (h g : Held) → IsConstantOf h.spaces x t n → after h x ≡ Ok g → g.constant ≡ Some (constant_expecting t n)
constant_begins (global v) t n h g o e =
    let k : Held = record (constant_begun v.ty h.spaces.imported_globals h) { spaces = record h.spaces { globals = h.spaces.globals ++ v ∷ [] } } in
    let is : k ≡ g = cc in
    sym (ap (λ (z : Held). z.constant) is) ∙ expecting_same t v.ty n h.spaces.imported_globals o.0 o.1
constant_begins (element x) t n h g o e =
    let r = ok_then (index_check kind.Table x h.spaces) (λ u. Ok (constant_begun I32 (length h.spaces.globals) (with_element h))) g e in
    let is : constant_begun I32 (length h.spaces.globals) (with_element h) ≡ g = cc (r.2) in
    sym (ap (λ (z : Held). z.constant) is) ∙ expecting_same t I32 n (length h.spaces.globals) o.0 o.1
constant_begins (segment x) t n h g o e =
    let r = ok_then (index_check kind.Memory x h.spaces) (λ u. Ok (constant_begun I32 (length h.spaces.globals) h)) g e in
    let is : constant_begun I32 (length h.spaces.globals) h ≡ g = cc (r.2) in
    sym (ap (λ (z : Held). z.constant) is) ∙ expecting_same t I32 n (length h.spaces.globals) o.0 o.1
constant_begins x t n h g o e = absurd o

module _ (items : List Item) (h : Held) (t : all_taken after empty_checker items ≡ Ok h) where
  told : h.spaces ≡ so_far items
  told = spaces_are_told items h t

  -- tables and memories
  is_sized : (w : Why) (x : Item) (b c : Bool) (s : IndexSpaces) → cond b (Err why.Second) (cond c (Ok s) (Err why.Limits)) ≡ Err w → (b ≡ true → IsSecond items x) → (c ≡ false → IsOutOfRange items x) → Wrong w items x
  is_sized w x b c s e second limits = elim (sized b c s w e) [
    | inl a ↦ subst (λ v. Wrong v items x) a.0 (tt, λ i. second a.1)
    | inr a ↦ subst (λ v. Wrong v items x) a.0 (tt, λ i. limits a.1)
  ]

  has_table_told : h.spaces.has_table ≡ true → (so_far items).has_table ≡ true
  has_table_told e = sym (ap (λ (y : IndexSpaces). y.has_table) told) ∙ e

  has_memory_told : h.spaces.has_memory ≡ true → (so_far items).has_memory ≡ true
  has_memory_told e = sym (ap (λ (y : IndexSpaces). y.has_memory) told) ∙ e

  -- an index
  no_type : (x : ℕ) (s : IndexSpaces) (w : Why) → cond (nat_lt x (length h.spaces.types)) (Ok s) (Err why.Index) ≡ Err w → (why.Index ≡ w) × (length (so_far items).types ≤ x)
  no_type x s w e = let b = beyond x (length h.spaces.types) s w e in (b.0, subst (λ (y : IndexSpaces). length y.types ≤ x) told b.1)

  no_item : (k : ExportKind) (x : ℕ) (w : Why) → index_check k x h.spaces ≡ Err w → (why.Index ≡ w) × (how_many k (so_far items) ≤ x)
  no_item k x w e = let b = beyond x (items_in k h.spaces) tt w e in (b.0, subst (λ n. n ≤ x) (ap (items_in k) told ∙ same_count k (so_far items)) b.1)

  is_index : (x : Item) (w : Why) → (why.Index ≡ w) × HasNoItem items x → Wrong w items x
  is_index x w b = subst (λ v. Wrong v items x) b.0 (tt, λ i. b.1)

  import_refused : (d : ImportDesc) (w : Why) → import_added d h.spaces ≡ Err w → Wrong w items (import_desc d)
  import_refused (desc.Func x) w e = is_index (import_desc (desc.Func x)) w (no_type x _ w (then_err (function_added x h.spaces) _ w e))
  import_refused (desc.Table l) w e = is_sized w (import_desc (desc.Table l)) h.spaces.has_table (is_within (2 ^ 32) l) _ e has_table_told (out_of_range (2 ^ 32) l)
  import_refused (desc.Memory l) w e = is_sized w (import_desc (desc.Memory l)) h.spaces.has_memory (is_within (2 ^ 16) l) _ e has_memory_told (out_of_range (2 ^ 16) l)
  import_refused (desc.Global g) w e = absurd (cc)

  -- an export's name
  name_refused : (n : List ℕ) (w : Why) (b : Bool) → is_taken n h.names ≡ b → in_names h (cond b (Err why.DuplicateExport) (Ok (put_name n h.names))) ≡ Err w → Wrong w items (export_name n)
  name_refused n w true is e = let same : why.DuplicateExport ≡ w = cc in subst (λ v. Wrong v items (export_name n)) same (tt, λ i. taken_is_told n items h t is)
  name_refused n w false is e = absurd (cc)

  -- the start function
  start_refused : (x : ℕ) (w : Why) (f : Option Signature) → function_type (context_so_far (so_far items)) x ≡ f → plain f ≡ Err w → Wrong w items (start x)
  start_refused x w None is e = is_index (start x) w (cc, is)
  start_refused x w (Some f) is e = by (is_plain f) refl e
    where
      by : (b : Bool) → is_plain f ≡ b → cond {A = Result (Unit {0}) Why} b (Ok tt) (Err why.StartType) ≡ Err w → Wrong w items (start x)
      by true d e = absurd (cc)
      by false d e = let same : why.StartType ≡ w = cc in
          subst (λ v. Wrong v items (start x)) same
          (tt, λ i. (f, is, λ n. let no_more : is_plain (record { params = []; results = [] }) ≡ false = subst (λ (ps : List _). is_plain (record { params = ps; results = [] }) ≡ false) n.0 (subst (λ (rs : List _). is_plain (record { params = f.params; results = rs }) ≡ false) n.1 d) in absurd (cc)))

  -- a parameter or a result of no type
  no_types : HasType items → h.spaces.types ≡ [] → ⊥
  no_types s e =
      let l = some_type items s in
      let n : length (so_far items).types ≡ 0 = ap (λ (z : IndexSpaces). length z.types) (sym told) ∙ ap length e in
      omega (arith, l, n)

  by_result : (w : Why) (v : ValType) → TypeSays h.spaces.types w → Wrong w items (one_result v)
  by_result why.Index v i = (tt, λ s. absurd (no_types s i))
  by_result why.Arity v i = (tt, λ s. subst (λ (z : IndexSpaces). LastHasResult z.types) told i)
  by_result w v i = absurd i

  -- what is held of the constant at hand
  record ConstantAtHand (c : ConstantItems items) : Type 0 where
    wanted : ValType
    globals : ℕ
    constant_of : IsConstantOf (so_far c.before) c.opening wanted globals
    state : AfterOps c.ops wanted globals h

  constant_at_hand : (c : ConstantItems items) → endings c.ops ≤ openings c.ops → ConstantAtHand c
  constant_at_hand c l =
      let s = ok_then (all_taken after empty_checker c.before) (λ g. all_taken after g (c.opening ∷ map const_op c.ops)) h (sym (taken-append after c.before (c.opening ∷ map const_op c.ops) empty_checker) ∙ (ap (λ y. all_taken after empty_checker y) (sym c.whole) ∙ t)) in
      let r = ok_then (after s.0 c.opening) (λ g. all_taken after g (map const_op c.ops)) h s.2 in
      let w = constant_kind (so_far c.before) c.opening c.opens in
      let begun = constant_begins c.opening w.0 w.1 s.0 r.0 (subst (λ (z : IndexSpaces). IsConstantOf z c.opening w.0 w.1) (sym (spaces_are_told c.before s.0 s.1)) w.2) r.1 in
      record {
        wanted = w.0;
        globals = w.1;
        constant_of = w.2;
        state = const_front c.ops w.0 w.1 r.0 h l (subst (λ z. all_taken after (with_const r.0 z) (map const_op c.ops) ≡ Ok h) begun r.2);
      }

  constant_name : (c : Option Constant) (o : Op) (w : Why) → ConstantSays h.spaces.globals c o w → IsRuleName w
  constant_name None o w i = subst IsRuleName (sym i) tt
  constant_name (Some k) o w i = go w i
    where
      go : (w : Why) → OfConstant h.spaces.globals k o w → IsRuleName w
      go why.NotConst i = tt
      go why.Index i = tt
      go why.Mismatch i = tt
      go why.Arity i = tt
      go w i = absurd i

  abbrev constant_now : (c : ConstantItems items) → ConstantAtHand c → InConstant items
  constant_now c a = record { before = c.before; opening = c.opening; ops = c.ops; whole = c.whole; wanted = a.wanted; globals = a.globals; constant_of = a.constant_of }

  constant_there : (w : Why) (o : Op) (c : ConstantItems items) (a : ConstantAtHand c) → OfConstant (so_far items).globals a.state.k o w → Says w items (const_op o)
  constant_there why.NotConst o c a i = i
  constant_there why.Index o c a i =
      (constant_now c a, hidden_names (so_far items).globals a.globals (few_globals items c a.wanted a.globals a.constant_of) o (subst (λ n. IsHidden (so_far items).globals n o) a.state.sees i))
  constant_there why.Mismatch o c a i = (constant_now c a, a.state.none i.0, subst (λ t. HasOtherType t (so_far items).globals o) a.state.expects i.1)
  constant_there why.Arity o c a i = (constant_now c a, counted_ops a.state.k.seen c.ops o a.state.none a.state.some i)
  constant_there w o c a i = absurd i

  by_constant : (w : Why) (o : Op) → ConstantSays h.spaces.globals h.constant o w → Wrong w items (const_op o)
  by_constant w o i = (
    constant_name h.constant o w i,
    λ s.
        let a = constant_at_hand s.0 (before_more s.0.ops o s.1) in
        constant_there w o s.0 a
        (subst (λ (y : IndexSpaces). OfConstant y.globals a.state.k o w) told (subst (λ c. ConstantSays h.spaces.globals c o w) a.state.held i)),
  )

  -- what is held of the code entry at hand
  record EntryAtHand (e : InEntry items) : Type 0 where
    type_index : ℕ
    is_type : next_function (so_far e.before) ≡ Some type_index
    held : BodyAfter (context_so_far (so_far e.before)) type_index (locals_of e.code.runs) e.code.ops h.body
    over : h.in_body ≡ false → endings e.code.ops ≡ openings e.code.ops + 1

  entry_at_hand : (e : InEntry items) → EntryAtHand e
  entry_at_hand e =
      let s = ok_then (all_taken after empty_checker e.before) (λ g. all_taken after g (code_items e.code)) h (sym (taken-append after e.before (code_items e.code) empty_checker) ∙ (ap (λ y. all_taken after empty_checker y) (sym e.whole) ∙ t)) in
      let r = at_hand e.before s.0 h e.code s.1 s.2 in
      let is : s.0.spaces ≡ so_far e.before = spaces_are_told e.before s.0 s.1 in
      record {
        type_index = r.0;
        is_type = sym (ap next_function is) ∙ r.1;
        held = subst (λ (z : IndexSpaces). BodyAfter (context_so_far z) r.0 (locals_of e.code.runs) e.code.ops h.body) is r.2;
        over = over_at_hand e.before s.0 h e.code s.1 s.2;
      }

  abbrev body_now : InEntry items → InBody items
  body_now e =
      let a = entry_at_hand e in
      let k = a.held.keeps in
      record { entry = e; type_index = a.type_index; is_type = a.is_type; typing = (k.place, k.so_far, holds_can (context_of_body e a.type_index) k.place k.frames k.holds) }

  -- and how many lists are open in it
  pub body_at_hand : (e : InEntry items) → (b : InBody items) × (levels b.typing.0 + endings e.code.ops ≡ openings e.code.ops + 1) × (b.entry ≡ e)
  body_at_hand e = (body_now e, (entry_at_hand e).held.nested, refl)

  heads_now : (e : InEntry items) → heads_of (body_now e).typing.0 ≡ map head_of h.body.state.stacks.frames
  heads_now e =
      let a = entry_at_hand e in
      let k = a.held.keeps in
      heads_are (context_of_body e a.type_index) k.place k.frames h.body.state.table h.body.state.stacks k.holds k.goes

  -- runs of locals come before the ops, and the body is open then
  many_there : (n : ℕ) (v : ValType) → 2 ^ 32 ≤ length h.body.declared + n → Stood (locals n v) items → AreTooMany items (locals n v)
  many_there n v l s = (s.0, s.1, go h.body.state.stacks.frames refl)
    where
      a : BodyAfter (context_so_far (so_far s.0.before)) (entry_at_hand s.0).type_index (locals_of s.0.code.runs) s.0.code.ops h.body
      a = (entry_at_hand s.0).held

      go : (fs : List Frame) → h.body.state.stacks.frames ≡ fs → 2 ^ 32 ≤ length (locals_of s.0.code.runs) + n
      go [] i = let z = ap length (a.emptied i) in omega (arith, l, z)
      go (f ∷ fs) i =
          let some : length h.body.state.stacks.frames ≡ length (f ∷ fs) = ap length i in
          let z = ap length (a.declared (omega (arith, some))) in
          omega (arith, l, z)

  by_locals : (w : Why) (n : ℕ) (v : ValType) → LocalsSay h.in_body h.body n w → Wrong w items (locals n v)
  by_locals why.Index n v i = (
    tt,
    λ s.
        let z : endings s.0.code.ops ≡ openings s.0.code.ops + 1 = (entry_at_hand s.0).over i in
        let none : 0 ≡ 0 + 1 = subst (λ ops. endings ops ≡ openings ops + 1) s.1 z in
        absurd (omega (arith, none)),
  )
  by_locals why.TooManyLocals n v i = (tt, many_there n v i)
  by_locals w n v i = absurd i

  -- an op of the body
  body_open : (o : Op) (s : Stood (body_op o) items) → (h.in_body ≡ true) × (0 < length h.body.state.stacks.frames)
  body_open o s =
      let l = before_more s.0.code.ops o s.1 in
      let a = entry_at_hand s.0 in
      let n = nested_said (context_so_far (so_far s.0.before)) a.type_index (locals_of s.0.code.runs) s.0.code.ops h.body a.held in
      (go l a.over h.in_body refl, omega (arith, l, n))
    where
      go : {m n : ℕ} → m ≤ n → (h.in_body ≡ false → m ≡ n + 1) → (b : Bool) → h.in_body ≡ b → h.in_body ≡ true
      go l over true e = e
      go l over false e = let z = over e in absurd (omega (arith, l, z))

  shared_context : (e : InEntry items) → context_of h.spaces ≡ context_so_far (so_far e.before)
  shared_context e = ap context_of told ∙ entry_context items e

  own_context : (e : InEntry items) → 0 < length h.body.state.stacks.frames → context_in (context_so_far (so_far e.before)) h.body ≡ context_of_body e (entry_at_hand e).type_index
  own_context e l =
      let a = entry_at_hand e in
      let b = h.body in
      let c : Context = context_so_far (so_far e.before) in
      ap (λ z. in_function c z b.result b.declared) a.held.type_index
      ∙ (ap (λ z. in_function c a.type_index z b.declared) a.held.result
      ∙ ap (λ z. in_function c a.type_index (result_of c a.type_index) z) (a.held.declared l))

  context_now : (e : InEntry items) → 0 < length h.body.state.stacks.frames → within_frames (context_in (context_of h.spaces) h.body) h.body.state.stacks.frames ≡ context_inside (body_now e)
  context_now e l =
      let b = h.body in
      let fs = h.body.state.stacks.frames in
      let labels : labels_of fs ≡ map label_type (heads_of (body_now e).typing.0) = labels_are fs ∙ ap (map label_type) (sym (heads_now e)) in
      ap (λ z. within_frames (context_in z b) fs) (shared_context e)
      ∙ (ap (λ z. within_frames z fs) (own_context e l)
      ∙ ap (λ (ls : List (Option ValType)). record (context_of_body e (entry_at_hand e).type_index) { labels = ls }) labels)

  none_there : (o : Op) → NoneThere h o → Stood (body_op o) items → HasNoItem items (body_op o)
  none_there o n s =
      let open_now = body_open o s in
      let a = entry_at_hand s.0 in
      let k = a.held.keeps in
      let order = in_order (context_of_body s.0 a.type_index) k.place k.frames h.body.state.table h.body.state.stacks s.0.code.ops s.1.0 o k.so_far k.holds k.goes s.1.1.labels in
      (body_now s.0, subst (λ z. OpNamesNothing z o) (context_now s.0 open_now.1) (n open_now.0 order))

  -- an op that is refused has no typing, and the ops before it have one
  op_err : (r : Result Body Why) (w : Why) → checker_after_op h r ≡ Err w → r ≡ Err w
  op_err (Ok b) w e = absurd (cc)
  op_err (Err v) w e = let same : v ≡ w = cc in ap Err same

  -- the answer of the body
  body_err : (o : Op) (w : Why) → after h (body_op o) ≡ Err w → (s : Stood (body_op o) items) → body_after_op (context_so_far (so_far s.0.before)) o h.body ≡ Err w
  body_err o w refused s =
      let one : checker_after_op h (body_after_op (context_of h.spaces) o h.body) ≡ Err w =
      subst (λ b. cond b (checker_after_op h (body_after_op (context_of h.spaces) o h.body)) (Err why.Index) ≡ Err w) (body_open o s).0 refused in
      subst (λ z. body_after_op z o h.body ≡ Err w) (shared_context s.0) (op_err (body_after_op (context_of h.spaces) o h.body) w one)

  ends_typing : (o : Op) (w : Why) → after h (body_op o) ≡ Err w → (s : Stood (body_op o) items) → EndsTyping (body_now s.0) o
  ends_typing o w refused s =
      let open_now = body_open o s in
      let a = entry_at_hand s.0 in
      let k = a.held.keeps in
      let ops = s.0.code.ops in
      let c : Context = context_of_body s.0 a.type_index in
      let order = in_order c k.place k.frames h.body.state.table h.body.state.stacks ops s.1.0 o k.so_far k.holds k.goes s.1.1.labels in
      let none = no_typing (context_so_far (so_far s.0.before)) a.type_index (locals_of s.0.code.runs) ops h.body o w a.held open_now.1 (body_err o w refused s) in (
        begins_before c refl ops k.place k.frames h.body.state.table h.body.state.stacks o open_now.1 k.so_far k.holds k.goes order,
        λ m. none (front_typed c (ops ++ o ∷ []) m.0 (body_can c ((ops ++ o ∷ []) ++ m.0) refl m.1)),
      )

  -- the step of the body is refused by this name
  step_err : (o : Op) (w : Why) → after h (body_op o) ≡ Err w → (s : Stood (body_op o) items)
      → step (context_of_body s.0 (entry_at_hand s.0).type_index) h.body.state o ≡ Err w
  step_err o w refused s =
      let l = (body_open o s).1 in
      let c : Context = context_so_far (so_far s.0.before) in
      subst (λ z. step z h.body.state o ≡ Err w) (own_context s.0 l)
      (stepped_err h.body (probes_in c h.body o) (step (context_in c h.body) h.body.state o) w (entry_at_hand s.0).held.unrefused (body_err o w refused s))

  counts_are_other : (o : Op) → after h (body_op o) ≡ Err why.Arity → (s : Stood (body_op o) items) (types : List ValType) → Leaves (context_of_body s.0 (entry_at_hand s.0).type_index) (body_now s.0).typing.0 types
      → CountDiffers (context_of_body s.0 (entry_at_hand s.0).type_index) (body_now s.0).typing.0 o types
  counts_are_other o refused s =
      let a = entry_at_hand s.0 in
      let k = a.held.keeps in
      count_differs (context_of_body s.0 a.type_index) o h.body.state.table h.body.state.stacks k.place k.frames (body_open o s).1 k.holds k.goes (step_err o why.Arity refused s)

  types_are_other : (o : Op) → after h (body_op o) ≡ Err why.Mismatch → (s : Stood (body_op o) items) (types : List ValType) → Leaves (context_of_body s.0 (entry_at_hand s.0).type_index) (body_now s.0).typing.0 types
      → TypesDiffer (context_of_body s.0 (entry_at_hand s.0).type_index) (body_now s.0).typing.0 o types
  types_are_other o refused s =
      let a = entry_at_hand s.0 in
      let k = a.held.keeps in
      types_differ (context_of_body s.0 a.type_index) o h.body.state.table h.body.state.stacks k.place k.frames (body_open o s).1 k.holds k.goes (step_err o why.Mismatch refused s)

  outside_is : (u : Option BrTable) (fs : List Frame) → OutsideElse u fs → IsNoFirstBranch (map head_of fs)
  outside_is None fs o = o
  outside_is (Some u) fs o = absurd o

  else_there : OutsideElse h.body.state.table h.body.state.stacks.frames → Stood (body_op op.Else) items → IsElseOutside items (body_op op.Else)
  else_there o s = (body_now s.0, subst IsNoFirstBranch (sym (heads_now s.0)) (outside_is h.body.state.table h.body.state.stacks.frames o))

  by_op : (w : Why) (o : Op) → after h (body_op o) ≡ Err w → OpOf h o w → Wrong w items (body_op o)
  by_op why.Immutable o e i = (tt, λ s. subst (λ (y : IndexSpaces). SetsConstant y.globals o) told i)
  by_op why.Align o e i = (tt, λ s. i)
  by_op why.Index o e i = (tt, none_there o i)
  by_op why.Mismatch o e i = (tt, λ s. (body_now s.0, ends_typing o why.Mismatch e s, types_are_other o e s))
  by_op why.Arity o e i = (tt, λ s. (body_now s.0, ends_typing o why.Arity e s, counts_are_other o e s))
  by_op why.ElsePlace op.Else e i = (tt, else_there i)
  by_op why.ElsePlace o e i = absurd i
  by_op w o e i = absurd i

  pub item_refused : (x : Item) (w : Why) → after h x ≡ Err w → Wrong w items x
  item_refused new_type w e = absurd (cc)
  item_refused (param v) w e =
      let n = only (λ v. (v ≡ why.Index) × (h.spaces.types ≡ [])) (after h (param v)) w (param_names h v) e in
      subst (λ z. Wrong z items (param v)) (sym n.0) (tt, λ s. absurd (no_types s n.1))
  item_refused (result_count n) w e =
      let m = only (λ v. (v ≡ why.Arity) × (1 < n)) (after h (result_count n)) w (count_name h n) e in
      subst (λ v. Wrong v items (result_count n)) (sym m.0) (tt, λ s. m.1)
  item_refused (one_result v) w e = by_result w v (only (TypeSays h.spaces.types) (after h (one_result v)) w (result_names h v) e)
  item_refused (import_module name) w e = absurd (cc)
  item_refused (import_name name) w e = absurd (cc)
  item_refused (import_desc d) w e = import_refused d w (spaces_err h (import_added d h.spaces) w e)
  item_refused (function x) w e = is_index (function x) w (no_type x _ w (spaces_err h (function_added x h.spaces) w e))
  item_refused (table l) w e = is_sized w (table l) h.spaces.has_table (is_within (2 ^ 32) l) _ (spaces_err h (table_added l h.spaces) w e) has_table_told (out_of_range (2 ^ 32) l)
  item_refused (memory l) w e = is_sized w (memory l) h.spaces.has_memory (is_within (2 ^ 16) l) _ (spaces_err h (memory_added l h.spaces) w e) has_memory_told (out_of_range (2 ^ 16) l)
  item_refused (global g) w e = absurd (cc)
  item_refused (const_op o) w e = by_constant w o (only (ConstantSays h.spaces.globals h.constant o) (after h (const_op o)) w (constant_names h o) e)
  item_refused (export_name n) w e = name_refused n w (is_taken n h.names) refl e
  item_refused (export k x) w e = is_index (export k x) w (no_item k x w (ok_err h (index_check k x h.spaces) w e))
  item_refused (start x) w e =
      let same = ap (λ (y : IndexSpaces). function_type (context_of y) x) told in
      start_refused x w (function_type (context_of h.spaces) x) (sym same) (ok_err h (plain (function_type (context_of h.spaces) x)) w e)
  item_refused (element x) w e = is_index (element x) w (no_item kind.Table x w (then_err (index_check kind.Table x h.spaces) _ w e))
  item_refused passive_element w e = absurd (cc)
  item_refused (element_function x) w e = is_index (element_function x) w (no_item kind.Func x w (ok_err h (index_check kind.Func x h.spaces) w e))
  item_refused (data_count n) w e = absurd (cc)
  item_refused body w e =
      let n = only (λ v. (v ≡ why.Index) × (next_type h.spaces ≡ None)) (after h body) w (entry_name h) e in
      is_index body w (sym n.0, sym (ap next_function told) ∙ n.1)
  item_refused (locals n v) w e = by_locals w n v (only (LocalsSay h.in_body h.body n) (after h (locals n v)) w (locals_names items h n v t) e)
  item_refused (body_op o) w e = by_op w o e (only (OpOf h o) (after h (body_op o)) w (op_names items h o t) e)
  item_refused (segment x) w e = is_index (segment x) w (no_item kind.Memory x w (then_err (index_check kind.Memory x h.spaces) _ w e))
  item_refused passive_segment w e = absurd (cc)
  item_refused (data_byte c) w e = absurd (cc)
