use Rattle.std.proofs.Common.{refl, ap, ◌∙◌, ◌++◌, rules}
use Rattle.wm_tokens.specs.Written.{ids_of}
use Rattle.wm_tokens.specs.declared.faults.TextWhy.{TextWhy}
use Rattle.wm_read.specs.exact.Fields.{function_at}
use Rattle.wm_tokens.specs.exact.Scan.{lexed}
use Rattle.wm_bodies.specs.exact.TypeUses.{instructions_at}
use Rattle.wm_bodies.specs.inner.Blocks.{names_of}
use Rattle.wm_bodies.specs.inner.Named.{named_list, params_of}
use Rattle.wm_bodies.specs.inner.Views.{Fails}
use Rattle.wm_read.proofs.FunctionCode.{function_no_body, many_fails, match_none, match_some, repeated_fails}
use Rattle.wm_read.proofs.fields.functions.function.Goals as goal

pub returns-in-None : goal.returns-in-None
returns-in-None c =
    repeated_fails c.args.profile (names_of c.args.names.now) c.in-Ok.head.0.index (params_of c.in-Ok.head.0.params) (named_list c.in-Ok.head.1.items)
    (named_list c.deref.result.now) c.refuse-fault.result.why c.first_fault-in-None.result.why (lexed c.args.text.now) (lexed c.in-Ok.head.2.now)
    c.in-Ok.ensures (match_none c.in_ok-space.field-0 _ _ c.in-None.is c.in_ok-space.ensures) (ap named_list c.deref.ensures.value)
    c.refuse-fault.ensures.why c.first_fault-in-None.ensures.memory c.first_fault-in-None.ensures.readers

pub returns-in-Err-local_types : goal.returns-in-Err-local_types
returns-in-Err-local_types c =
    many_fails c.args.profile (names_of c.args.names.now) c.in-Ok.head.0.index (params_of c.in-Ok.head.0.params) (named_list c.in-Ok.head.1.items)
    (named_list c.deref-2.result.now) c.in-Err-local_types.fault.why c.first_fault-in-Err-local_types.result.why (lexed c.args.text.now) (lexed c.in-Ok.head.2.now)
    c.in-Ok.ensures (ap named_list c.deref-2.ensures.value) c.in-Err-local_types.ensures.many c.first_fault-in-Err-local_types.ensures.memory c.first_fault-in-Err-local_types.ensures.readers

pub returns-in_err-body : goal.returns-in_err-body
returns-in_err-body c =
    let space = match_some c.in_ok-space.field-0 c.in-Some.space _ _ c.in-Some.is c.in_ok-space.ensures in
    let p : (w : TextWhy) → Fails w (instructions_at c.args.profile (record { names = names_of c.args.names.now; locals = c.in-Some.space }) (lexed c.in-Ok.head.2.now)) → Fails w (function_at c.args.profile (names_of c.args.names.now) (lexed c.args.text.now)) =
    λ w h. function_no_body c.args.profile (names_of c.args.names.now) c.in-Ok.head.0.index (params_of c.in-Ok.head.0.params) (named_list c.in-Ok.head.1.items)
    (record { names = names_of c.args.names.now; locals = c.in-Some.space }) w (lexed c.args.text.now) (lexed c.in-Ok.head.2.now)
    c.in-Ok.ensures refl
    (space.0 ∙ ap (λ ls. ids_of (params_of c.in-Ok.head.0.params ++ named_list ls)) c.deref.ensures.value) h in
    search (rules, p)
