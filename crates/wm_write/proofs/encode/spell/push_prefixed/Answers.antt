use Rattle.std.proofs.Common.{◌≡◌, ◌⊎◌, inl, inr, ◌≤◌, ◌-◌, ◌++◌, ◌∷◌, [], append_assoc, length, length-append, append-nil, sym, subst, ap, ◌∙◌, ℕ, List, arith}
use Rattle.wm_syntax.specs.Opcodes.{opcode}
use Rattle.wm_syntax.specs.declared.instructions.Simple.{Simple}
use Rattle.wm_syntax.specs.declared.instructions.Simple.TheVariants.{DataDrop, ElemDrop, MemoryCopy, MemoryInit, TableCopy, TableInit}
use Rattle.wm_write.specs.Canon.{immediates, u32_bytes}
use Rattle.wm_write.proofs.OpcodeBytes.{no_immediates, prefixed_op}
use Rattle.wm_write.proofs.encode.spell.push_prefixed.Goals as goal

two_zeros : (i : Simple) → (i ≡ MemoryCopy) ⊎ (i ≡ TableCopy) → immediates i ≡ 0x00 ∷ 0x00 ∷ []
two_zeros i (inl e) = ap immediates e
two_zeros i (inr e) = ap immediates e

index_zero : (i : Simple) (x : ℕ) → (i ≡ MemoryInit x) ⊎ (i ≡ TableInit x) → immediates i ≡ u32_bytes x ++ 0x00 ∷ []
index_zero i x (inl e) = ap immediates e
index_zero i x (inr e) = ap immediates e

index_alone : (i : Simple) (x : ℕ) → (i ≡ DataDrop x) ⊎ (i ≡ ElemDrop x) → immediates i ≡ u32_bytes x
index_alone i x (inl e) = ap immediates e
index_alone i x (inr e) = ap immediates e

pub returns-in-MemoryCopy-clause-text : goal.returns-in-MemoryCopy-clause-text
returns-in-MemoryCopy-clause-text c =
    prefixed_op c.args.simple c.args.code _ _ _ c.requires.value c.requires.prefixed c.push_two.ensures
    (c.push_two-in-MemoryCopy.ensures ∙ ap (λ (z : List ℕ). c.push_two.new.self ++ z) (sym (two_zeros c.args.simple c.in-MemoryCopy.is)))

pub returns-in-MemoryFill-clause-text : goal.returns-in-MemoryFill-clause-text
returns-in-MemoryFill-clause-text c =
    prefixed_op c.args.simple c.args.code _ _ _ c.requires.value c.requires.prefixed c.push_two.ensures
    (c.push_byte.ensures ∙ ap (λ (i : Simple). c.push_two.new.self ++ immediates i) (sym c.in-MemoryFill.is))

pub returns-in-MemoryInit-clause-text : goal.returns-in-MemoryInit-clause-text
returns-in-MemoryInit-clause-text c =
    prefixed_op c.args.simple c.args.code _ _ _ c.requires.value c.requires.prefixed c.push_two.ensures
    (c.push_byte-in-MemoryInit.ensures ∙ ap (λ (z : List ℕ). z ++ 0x00 ∷ []) c.push_number-in-MemoryInit.ensures.text
    ∙ append_assoc c.push_two.new.self (u32_bytes c.in-MemoryInit.index) (0x00 ∷ [])
    ∙ ap (λ (z : List ℕ). c.push_two.new.self ++ z) (sym (index_zero c.args.simple c.in-MemoryInit.index c.in-MemoryInit.is)))

pub returns-in-DataDrop-clause-text : goal.returns-in-DataDrop-clause-text
returns-in-DataDrop-clause-text c =
    prefixed_op c.args.simple c.args.code _ _ _ c.requires.value c.requires.prefixed c.push_two.ensures
    (c.push_number.ensures.text ∙ ap (λ (z : List ℕ). c.push_two.new.self ++ z) (sym (index_alone c.args.simple c.in-DataDrop.index c.in-DataDrop.is)))

pub returns-in_default : goal.returns-in_default
returns-in_default c =
    let long : 0x100 ≤ (opcode c.args.simple).0 = subst (λ (n : ℕ). 0x100 ≤ n) c.requires.value c.requires.prefixed in
    let d = c.in_default in
    let none = no_immediates c.args.simple long d.not-MemoryCopy d.not-MemoryFill d.not-MemoryInit d.not-DataDrop d.not-TableInit d.not-ElemDrop d.not-TableCopy in
    record {
      text = prefixed_op c.args.simple c.args.code _ _ _ c.requires.value c.requires.prefixed c.push_two.ensures
          (sym (ap (λ (z : List ℕ). c.push_two.new.self ++ z) none ∙ append-nil c.push_two.new.self));
      short = omega (arith, ap length c.push_two.ensures, length-append c.args.batch.now (0xFC ∷ (c.args.code - 0x100) ∷ []));
    }
