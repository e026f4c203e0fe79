use Rattle.std.proofs.Common.{◌≡◌, ◌+◌, ◌/◌, ◌∷◌, ℕ, add-one, drop, get_or, subst, sym, drop-cons}
use Rattle.wm_c.specs.Codes.{AddsBits}
use Rattle.wm_syntax.specs.declared.profile.Feature.TheVariants.{Base}
use Rattle.wm_syntax.specs.declared.profile.Profile.{Profile}
use Rattle.wm_c.proofs.Bits.{bit_added, bit_passed, bits_left}
use Rattle.wm_c.proofs.codes.with_bits.Goals as goal
use Rattle.wm_c.proofs.codes.with_bits.Goals.{then-rest-eq1, else-rest-eq1}

pub loop-feature-preserved : goal.loop-feature-preserved
loop-feature-preserved c =
    let i = c.loop-feature.feature-index in
    let rest = c.loop-feature.rest in
    let feature = get_or c.args.features.now i Base in
    let behind = drop (i + 1) c.args.features.now in
    let front : drop i c.args.features.now ≡ feature ∷ behind = subst (λ (j : ℕ). drop i c.args.features.now ≡ feature ∷ drop j c.args.features.now) (sym (add-one i)) (drop-cons c.args.features.now i Base c.loop-feature-test.true) in
    let known = rw front at c.loop-feature.invariant in
    elim c.if-rest-eq1.branch [
      | then-rest-eq1 w ↦ record {
        adds = λ p h. known.adds p (bit_added feature behind c.loop-feature.profile w.with-profile.result p rest w.if-rest-eq1.true
            (record { added = w.with-profile.ensures.added; others = w.with-profile.ensures.others })
            (subst (λ (q : Profile). AddsBits behind q (rest / 2) p) w.profile-is h));
        may_add = λ base p h. let left = known.may_add base p h in bits_left feature behind left.0 p rest left.1;
      }
      | else-rest-eq1 w ↦ record {
        adds = λ p h. known.adds p (bit_passed feature behind c.loop-feature.profile p rest w.if-rest-eq1.false
            (subst (λ (q : Profile). AddsBits behind q (rest / 2) p) w.profile-is h));
        may_add = λ base p h. let left = known.may_add base p h in bits_left feature behind left.0 p rest left.1;
      }
    ]
