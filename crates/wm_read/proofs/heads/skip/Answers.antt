use Rattle.std.proofs.Common.{◌≡◌, ◌∷◌, ◌∙◌, ◌<◌, ap, length, arith}
use Rattle.wm_tokens.specs.Tokens.{string, atom}
use Rattle.wm_tokens.specs.exact.Scan.{lexed}
use Rattle.wm_tokens.specs.inner.Lexemes.{token_of, bytes_of}
use Rattle.wm_read.proofs.Skips.{skip_plain, plain_within, skip_string_on, skip_atom_on}
use Rattle.wm_read.proofs.heads.skip.Goals as goal

pub loop-open-smaller-in-Some : goal.loop-open-smaller-in-Some
loop-open-smaller-in-Some c = plain_within _ c.loop-open.rest.now _ c.after_spaces-rest.result.now c.in-Some.ensures c.after_spaces-rest.ensures

pub loop-open-preserved-in-Some : goal.loop-open-preserved-in-Some
loop-open-preserved-in-Some c =
    let shorter : length c.after_spaces-rest.result.now < length c.loop-open.rest.now = plain_within _ c.loop-open.rest.now _ c.after_spaces-rest.result.now c.in-Some.ensures c.after_spaces-rest.ensures in
    record {
      same = skip_plain c.loop-open.«open» _ c.loop-open.rest.now _ c.after_spaces-rest.result.now c.loop-open-test.true c.in-Some.ensures c.after_spaces-rest.ensures ∙ c.loop-open.invariant.same;
      room = omega (arith, shorter, c.loop-open.invariant.room);
    }

pub loop-open-preserved-in-Some-String-default : goal.loop-open-preserved-in-Some-String-default
loop-open-preserved-in-Some-String-default c =
    let token : lexed c.loop-open.rest.now ≡ string (bytes_of c.in-Some-String-default.field-0-0-0.now) ∷ lexed c.in-Some-String-default.more.now =
    c.in-Some-String-default.ensures.token ∙ ap (λ t. token_of t ∷ lexed c.in-Some-String-default.more.now) c.in-Some-String-default.field-0-0-is in
    record {
      same = skip_string_on c.loop-open.«open» _ (lexed c.loop-open.rest.now) c.in-Some-String-default.more.now _ c.loop-open-test.true token c.after_spans-rest.ensures.passes ∙ c.loop-open.invariant.same;
      room = omega (arith, c.after_spans-rest.ensures.within, c.in-Some-String-default.ensures.shorter, c.loop-open.invariant.room);
    }

pub loop-open-preserved : goal.loop-open-preserved
loop-open-preserved c =
    let token : lexed c.loop-open.rest.now ≡ atom c.in-Some-Atom-default.field-0-0-0.now ∷ lexed c.in-Some-Atom-default.more.now =
    c.in-Some-Atom-default.ensures.token ∙ ap (λ t. token_of t ∷ lexed c.in-Some-Atom-default.more.now) c.in-Some-Atom-default.field-0-0-is in
    record {
      same = skip_atom_on c.loop-open.«open» _ (lexed c.loop-open.rest.now) c.in-Some-Atom-default.more.now _ c.loop-open-test.true token c.after_spans-rest-in-Some-Atom-default.ensures.passes ∙ c.loop-open.invariant.same;
      room = omega (arith, c.after_spans-rest-in-Some-Atom-default.ensures.within, c.in-Some-Atom-default.ensures.shorter, c.loop-open.invariant.room);
    }
