use Rattle.std.proofs.Common.{◌≡◌, ◌+◌, ◌*◌, ◌/◌, ◌%◌, ℕ, MatchOption, None, Option, Some, arith, subst}
use Rattle.wm_c.specs.Codes.{AddsBits, IsProfileCode, NumbersProfile, bit_features}
use Rattle.wm_syntax.specs.declared.profile.Profile.{Profile}
use Rattle.wm_c.proofs.Bits.{bits_part, low_part, match_weaker}
use Rattle.wm_c.proofs.codes.profile_of.Goals as goal

-- an absent value is right
absent : {T A : Type 0} (B : T → Type 0) (o : Option T) → o ≡ None → A → MatchOption o A B
absent B None is a = a
absent B (Some x) is a = absurd (cc)

pub returns-in_err-base : goal.returns-in_err-base
returns-in_err-base c =
    absent (IsProfileCode c.args.number) c.from_residual.result c.from_residual.ensures
    (λ (p : Profile) (code : IsProfileCode c.args.number p). c.in_err-base.ensures code.base (subst (λ (n : ℕ). NumbersProfile n code.base) (low_part c.args.number p code) code.numbered))

pub returns : goal.returns
returns c =
    let n = c.args.number in
    let sum : n ≡ n % 256 + 256 * (n / 256) = omega arith in
    match_weaker c.with_bits.result c.with_bits.ensures
    (λ none p code. none code.base p (subst (λ (bits : ℕ). AddsBits bit_features code.base bits p) (bits_part n p code) code.added))
    (λ p added. record { low = n % 256; bits = n / 256; sum = sum; base = c.in_ok-base.base; numbered = c.in_ok-base.ensures; added = added })
