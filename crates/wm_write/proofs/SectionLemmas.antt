-- Sections, written piece by piece.
use Rattle.std.proofs.Common.{ℕ, ◌≡◌, ◌<◌, ◌≤◌, ◌+◌, ◌^◌, length-append, true, false, List, [], ◌∷◌, ◌++◌, length, sym, ap, ◌∙◌, subst, arith, Option, Some, None, Bool}
use Rattle.std.specs.Bool.{◌==◌}
use Rattle.std.proofs.lemmas.Bool.Decides.{nat_tests}
use Rattle.wm_write.specs.Canon.{FitsWith, canon_with, code_bytes, element_bytes, export_bytes, global_bytes, import_bytes, limits_bytes, list_section, listed, segment_bytes, signature_bytes, start_section, table_bytes, u32_bytes, Fits, canon, data_count_section, sized}
use Rattle.wm_write.specs.exact.Writing.{Sent, State}
use Rattle.wm_syntax.specs.Modules.{Function, Module, Segment, bodies_name_segment}
use Rattle.wm_syntax.proofs.NumberLoops.{short}
use Rattle.wm_write.proofs.Writes.{sent_none, sent_then}

module _ {X : Type 0} (id : ℕ) (f : X → List ℕ) where
  -- A section of an equal list.
  pub at_section : (xs ys : List X) (s t : State) → xs ≡ ys → Sent (list_section id f xs) s t → Sent (list_section id f ys) s t
  at_section xs ys s t e h = subst (λ z. Sent (list_section id f z) s t) e h

  pub sent_no_section : (xs : List X) (s : State) → true ≡ (length xs == 0) → Sent (list_section id f xs) s s
  sent_no_section [] s h = sent_none s
  sent_no_section (x ∷ xs) s h = absurd (grind (arith, nat_tests))

  pub sent_section : (xs : List X) (size : ℕ) (s t u : State)
      → false ≡ (length xs == 0) → size ≡ length (listed f xs) → Sent (id ∷ u32_bytes size) s t → Sent (listed f xs) t u → Sent (list_section id f xs) s u
  sent_section [] size s t u some is h k = absurd (grind (arith, nat_tests))
  sent_section (x ∷ xs) size s t u some is h k =
      subst (λ z. Sent (id ∷ u32_bytes z ++ listed f (x ∷ xs)) s u) is (sent_then (id ∷ u32_bytes size) (listed f (x ∷ xs)) s t u h k)

pub sent_start : (start : Option ℕ) (x size : ℕ) (bytes : List ℕ) (s t u : State)
    → start ≡ Some x → bytes ≡ u32_bytes x → size ≡ length bytes → Sent (8 ∷ u32_bytes size) s t → Sent bytes t u → Sent (start_section start) s u
sent_start None x size bytes s t u is spelled counted h k = let e : ⊥ = cc is in absurd e
sent_start (Some y) x size bytes s t u is spelled counted h k =
    let same : y ≡ x = cc is in
    let spelled : bytes ≡ u32_bytes y = spelled ∙ ap u32_bytes (sym same) in
    subst (λ z. Sent (8 ∷ u32_bytes (length z) ++ z) s u) spelled
    (subst (λ z. Sent (8 ∷ u32_bytes z ++ bytes) s u) counted (sent_then (8 ∷ u32_bytes size) bytes s t u h k))

-- the data count section, where a body names a data segment and where none does
pub sent_count : (named : Bool) (n size : ℕ) (bytes : List ℕ) (s t u : State)
    → named ≡ true → bytes ≡ u32_bytes n → size ≡ length bytes → Sent (12 ∷ u32_bytes size) s t → Sent bytes t u → Sent (data_count_section named n) s u
sent_count false n size bytes s t u is spelled counted h k = let e : ⊥ = cc is in absurd e
sent_count true n size bytes s t u is spelled counted h k =
    subst (λ z. Sent (12 ∷ u32_bytes (length z) ++ z) s u) spelled
    (subst (λ z. Sent (12 ∷ u32_bytes z ++ bytes) s u) counted (sent_then (12 ∷ u32_bytes size) bytes s t u h k))

pub no_count : (named : Bool) (n : ℕ) (s : State) → named ≡ false → Sent (data_count_section named n) s s
no_count false n s is = sent_none s
no_count true n s is = let e : ⊥ = cc is in absurd e

pub at_count : (xs ys : List Function) (us vs : List Segment) (s t : State) → xs ≡ ys → us ≡ vs
    → Sent (data_count_section (bodies_name_segment xs) (length us)) s t → Sent (data_count_section (bodies_name_segment ys) (length vs)) s t
at_count xs ys us vs s t e f h =
    subst (λ z. Sent (data_count_section (bodies_name_segment z) (length vs)) s t) e (subst (λ z. Sent (data_count_section (bodies_name_segment xs) (length z)) s t) f h)

pub no_start : (start : Option ℕ) (s : State) → start ≡ None → Sent (start_section start) s s
no_start None s is = sent_none s
no_start (Some x) s is = let e : ⊥ = cc is in absurd e

-- A module whose sections fit has fewer than 2 ^ 62 bytes.
section_short : {X : Type 0} (id : ℕ) (f : X → List ℕ) (xs : List X) → length (list_section id f xs) ≤ 6 + length (listed f xs)
section_short id f [] = omega arith
section_short id f (x ∷ xs) =
    omega (arith, length-append (u32_bytes (length (listed f (x ∷ xs)))) (listed f (x ∷ xs)), short 5 (length (listed f (x ∷ xs))))

number_section_short : (id x : ℕ) → length (id ∷ sized (u32_bytes x)) ≤ 11
number_section_short id x = omega (arith, length-append (u32_bytes (length (u32_bytes x))) (u32_bytes x), short 5 (length (u32_bytes x)), short 5 x)

count_short : (named : Bool) (n : ℕ) → length (data_count_section named n) ≤ 11
count_short false n = omega arith
count_short true n = number_section_short 12 n

start_short : (start : Option ℕ) → length (start_section start) ≤ 11
start_short None = omega arith
start_short (Some x) = number_section_short 8 x

pub canon_short : (flagged : Bool) (m : Module) → FitsWith flagged m → length (canon_with flagged m) < 2 ^ 62
canon_short flagged m fit =
    let s1 = list_section 1 signature_bytes m.types in
    let s2 = list_section 2 import_bytes m.imports in
    let s3 = list_section 3 (λ f. u32_bytes f.type_index) m.functions in
    let s4 = list_section 4 table_bytes m.tables in
    let s5 = list_section 5 limits_bytes m.memories in
    let s6 = list_section 6 global_bytes m.globals in
    let s7 = list_section 7 export_bytes m.exports in
    let s8 = start_section m.start in
    let s9 = list_section 9 (element_bytes flagged) m.elements in
    let s12 = data_count_section (bodies_name_segment m.functions) (length m.segments) in
    let s10 = list_section 10 code_bytes m.functions in
    let s11 = list_section 11 (segment_bytes flagged) m.segments in
    omega (
      arith,
      length-append s1 (s2 ++ (s3 ++ (s4 ++ (s5 ++ (s6 ++ (s7 ++ (s8 ++ (s9 ++ (s12 ++ (s10 ++ s11)))))))))),
      length-append s2 (s3 ++ (s4 ++ (s5 ++ (s6 ++ (s7 ++ (s8 ++ (s9 ++ (s12 ++ (s10 ++ s11))))))))),
      length-append s3 (s4 ++ (s5 ++ (s6 ++ (s7 ++ (s8 ++ (s9 ++ (s12 ++ (s10 ++ s11)))))))),
      length-append s4 (s5 ++ (s6 ++ (s7 ++ (s8 ++ (s9 ++ (s12 ++ (s10 ++ s11))))))),
      length-append s5 (s6 ++ (s7 ++ (s8 ++ (s9 ++ (s12 ++ (s10 ++ s11)))))),
      length-append s6 (s7 ++ (s8 ++ (s9 ++ (s12 ++ (s10 ++ s11))))),
      length-append s7 (s8 ++ (s9 ++ (s12 ++ (s10 ++ s11)))),
      length-append s8 (s9 ++ (s12 ++ (s10 ++ s11))),
      length-append s9 (s12 ++ (s10 ++ s11)),
      length-append s12 (s10 ++ s11),
      length-append s10 s11,
      section_short 1 signature_bytes m.types,
      section_short 2 import_bytes m.imports,
      section_short 3 (λ f. u32_bytes f.type_index) m.functions,
      section_short 4 table_bytes m.tables,
      section_short 5 limits_bytes m.memories,
      section_short 6 global_bytes m.globals,
      section_short 7 export_bytes m.exports,
      start_short m.start,
      section_short 9 (element_bytes flagged) m.elements,
      count_short (bodies_name_segment m.functions) (length m.segments),
      section_short 10 code_bytes m.functions,
      section_short 11 (segment_bytes flagged) m.segments,
      fit.types,
      fit.imports,
      fit.functions,
      fit.tables,
      fit.memories,
      fit.globals,
      fit.exports,
      fit.elements,
      fit.codes,
      fit.segments,
    )
