-- A builder takes a slice of data bytes as it takes the bytes one by one.
use Rattle.std.proofs.Common.{◌≡◌, ℕ, List, [], ◌∷◌, ◌++◌, Result, Ok, Err, map, refl, sym, ap, ◌∙◌, append_assoc, append-nil}
use Rattle.wm_syntax.specs.declared.why.Why.{Why}
use Rattle.wm_syntax.specs.Modules.{Segment}
use Rattle.wm_machine.specs.Items.{Item, data_byte}
use Rattle.wm_machine.specs.Sinks.{RunsOut, Taken, Took, all_taken}
use Rattle.wm_rules.specs.exact.Built.{Built, after, change_last, with_segments}

same_last : {X : Type 0} (f g : X → X) → ((x : X) → f x ≡ g x) → (xs : List X) → change_last f xs ≡ change_last g xs
same_last f g h [] = refl
same_last f g h (x ∷ []) = ap (λ y. y ∷ []) (h x)
same_last f g h (x ∷ y ∷ xs) = ap (λ zs. x ∷ zs) (same_last f g h (y ∷ xs))

last_again : {X : Type 0} (f g : X → X) (xs : List X) → change_last g (change_last f xs) ≡ change_last (λ x. g (f x)) xs
last_again f g [] = refl
last_again f g (x ∷ []) = refl
last_again f g (x ∷ y ∷ []) = refl
last_again f g (x ∷ y ∷ z ∷ xs) = ap (λ zs. x ∷ zs) (last_again f g (y ∷ z ∷ xs))

last_kept : {X : Type 0} (xs : List X) → change_last (λ x. x) xs ≡ xs
last_kept [] = refl
last_kept (x ∷ []) = refl
last_kept (x ∷ y ∷ xs) = ap (λ zs. x ∷ zs) (last_kept (y ∷ xs))

abbrev longer : List ℕ → Segment → Segment
longer bytes s = record s { bytes = s.bytes ++ bytes }

data_all : (bytes : List ℕ) (h : Built) → all_taken after h (map data_byte bytes) ≡ Ok (with_segments h (change_last (longer bytes) h.value.segments))
data_all [] h =
    ap (λ ss. Ok (with_segments h ss)) (sym (last_kept h.value.segments) ∙ same_last (λ s. s) (longer []) (λ s. ap (λ b. record s { bytes = b }) (sym (append-nil s.bytes))) h.value.segments)
data_all (c ∷ bytes) h =
    data_all bytes (with_segments h (change_last (longer (c ∷ [])) h.value.segments))
    ∙ ap (λ ss. Ok (with_segments h ss)) (last_again (longer (c ∷ [])) (longer bytes) h.value.segments
    ∙ same_last (λ s. longer bytes (longer (c ∷ []) s)) (longer (c ∷ bytes)) (λ s. ap (λ b. record s { bytes = b }) (append_assoc s.bytes (c ∷ []) bytes)) h.value.segments)

pub bytes_took : (bytes : List ℕ) (h : Built) (ss : List Segment) (r : Result (Unit {0}) Why) → Taken (Ok (change_last (longer bytes) h.value.segments)) r ss → Took after h (map data_byte bytes) r (with_segments h ss)
bytes_took [] h ss (Ok u) t = data_all [] h ∙ ap (λ z. Ok (with_segments h z)) (let q : change_last (longer []) h.value.segments ≡ ss = cc (t) in q)
bytes_took [] h ss (Err w) t = λ ne g e. absurd (cc (t ne))
bytes_took (c ∷ []) h ss (Ok u) t = ap (λ z. Ok (with_segments h z)) (let q : change_last (longer (c ∷ [])) h.value.segments ≡ ss = cc (t) in q)
bytes_took (c ∷ []) h ss (Err w) t = λ ne. absurd (cc (t ne))
bytes_took (c ∷ d ∷ bytes) h ss (Ok u) t = data_all (c ∷ d ∷ bytes) h ∙ ap (λ z. Ok (with_segments h z)) (let q : change_last (longer (c ∷ d ∷ bytes)) h.value.segments ≡ ss = cc (t) in q)
bytes_took (c ∷ d ∷ bytes) h ss (Err w) t = λ ne g e. absurd (cc (t ne))

-- memory may run out at any of them
pub bytes_room : (items : List Item) (h : Built) (r : Result (Unit {0}) Why) → RunsOut (λ (g : Built) (x : Item). Unit {0}) h items r
bytes_room [] h r = tt
bytes_room (x ∷ []) h (Ok u) = tt
bytes_room (x ∷ []) h (Err w) = λ e. tt
bytes_room (x ∷ y ∷ items) h r = tt
