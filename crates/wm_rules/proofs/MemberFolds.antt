-- A fold over items, member by member of each list.
use Rattle.std.proofs.Common.{◌≡◌, List, [], ◌∷◌, ◌++◌, Bool, true, false, cond, Result, Ok, Err, refl, sym, ◌∙◌, ap, subst, append_assoc, ◌↔◌}
use Rattle.std.specs.List.{AllByRecursion, flat_map}
use Rattle.wm_syntax.specs.declared.why.Why.{Why}
use Rattle.wm_machine.specs.Items.{Item}
use Rattle.wm_machine.specs.Sinks.{and_then, all_taken}

pub cond_ok : {A : Type 0} (b : Bool) (x y : A) (w : Why) → cond b (Ok x) (Err w) ≡ Ok y → (b ≡ true) × (x ≡ y)
cond_ok true x y w e = (refl, cc)
cond_ok false x y w e = absurd (cc)

pub ok_then : {A B : Type 0} (r : Result A Why) (f : A → Result B Why) (y : B) → and_then r f ≡ Ok y → (x : A) × (r ≡ Ok x) × (f x ≡ Ok y)
ok_then (Ok x) f y e = (x, refl, e)
ok_then (Err w) f y e = absurd (cc)

module _ {H : Type 0} (f : H → Item → Result H Why) where
  then_more : (r : Result H Why) (a b : List Item) → ((g : H) → all_taken f g (a ++ b) ≡ and_then (all_taken f g a) (λ k. all_taken f k b))
      → and_then r (λ g. all_taken f g (a ++ b)) ≡ and_then (and_then r (λ g. all_taken f g a)) (λ k. all_taken f k b)
  then_more (Ok g) a b e = e g
  then_more (Err w) a b e = refl

  pub taken-append : (a b : List Item) (h : H) → all_taken f h (a ++ b) ≡ and_then (all_taken f h a) (λ k. all_taken f k b)
  taken-append [] b h = refl
  taken-append (x ∷ a) b h = then_more (f h x) a b (λ g. taken-append a b g)

-- each member's items are taken exactly where it is good, and leave what is put
pub record Member {H X : Type 0} (f : H → Item → Result H Why) (p : X → List Item) (Q : H → X → Type 0) (Good : H → X → Type 0) (put : H → X → H) : Type 0 where
  pub takes : (h : H) (x : X) → Q h x → Good h x → all_taken f h (p x) ≡ Ok (put h x)
  pub sound : (h g : H) (x : X) → Q h x → all_taken f h (p x) ≡ Ok g → Good h x

abbrev pub puts : {H X : Type 0} → (H → X → H) → H → List X → H
puts put h [] = h
puts put h (x ∷ xs) = puts put (put h x) xs

abbrev pub GoodAll : {H X : Type 0} → (H → X → Type 0) → (H → X → H) → H → List X → Type 0
GoodAll Good put h [] = Unit {0}
GoodAll Good put h (x ∷ xs) = Good h x × GoodAll Good put (put h x) xs

module _ {H X : Type 0} (f : H → Item → Result H Why) (p : X → List Item) (Q : H → X → Type 0) (Good : H → X → Type 0) (put : H → X → H) (m : Member f p Q Good put) where
  list_takes : (xs : List X) (rest : List Item) (h : H) → GoodAll Q put h xs → GoodAll Good put h xs → all_taken f h (flat_map p xs ++ rest) ≡ all_taken f (puts put h xs) rest
  list_takes [] rest h q g = refl
  list_takes (x ∷ xs) rest h q g =
      ap (λ y. all_taken f h y) (append_assoc (p x) (flat_map p xs) rest)
      ∙ (taken-append f (p x) (flat_map p xs ++ rest) h
      ∙ (ap (λ r. and_then r (λ k. all_taken f k (flat_map p xs ++ rest))) (m.takes h x q.0 g.0) ∙ list_takes xs rest (put h x) q.1 g.1))

  list_sound : (xs : List X) (rest : List Item) (h g : H) → GoodAll Q put h xs → all_taken f h (flat_map p xs ++ rest) ≡ Ok g → GoodAll Good put h xs
  list_sound [] rest h g q e = tt
  list_sound (x ∷ xs) rest h g q e =
      let d = sym (taken-append f (p x) (flat_map p xs ++ rest) h) ∙ (sym (ap (λ y. all_taken f h y) (append_assoc (p x) (flat_map p xs) rest)) ∙ e) in
      let s = ok_then (all_taken f h (p x)) (λ k. all_taken f k (flat_map p xs ++ rest)) g d in
      let good = m.sound h s.0 x q.0 s.1 in
      let same : Ok (put h x) ≡ Ok s.0 = sym (m.takes h x q.0 good) ∙ s.1 in
      let put_is : s.0 ≡ put h x = cc in
      (good, list_sound xs rest (put h x) g q.1 (subst (λ k. all_taken f k (flat_map p xs ++ rest) ≡ Ok g) put_is s.2))

  pub seq_takes : (xs : List X) (rest : List Item) (h g : H) → GoodAll Q put h xs → GoodAll Good put h xs → all_taken f (puts put h xs) rest ≡ Ok g → all_taken f h (flat_map p xs ++ rest) ≡ Ok g
  seq_takes xs rest h g q good e = list_takes xs rest h q good ∙ e

  pub seq_sound : (xs : List X) (rest : List Item) (h g : H) → GoodAll Q put h xs → all_taken f h (flat_map p xs ++ rest) ≡ Ok g → GoodAll Good put h xs × (all_taken f (puts put h xs) rest ≡ Ok g)
  seq_sound xs rest h g q e = let good = list_sound xs rest h g q e in (good, sym (list_takes xs rest h q good) ∙ e)

-- where what is asked of a member depends only on what no member changes
module _ {H X : Type 0} (Good : H → X → Type 0) (put : H → X → H) (G : X → Type 0) (I : H → Type 0)
    (keeps : (h : H) (x : X) → I h → I (put h x)) (same : (h : H) (x : X) → I h → Good h x ↔ G x) where
  pub all_to : (xs : List X) (h : H) → I h → GoodAll Good put h xs → AllByRecursion G xs
  all_to [] h i g = tt
  all_to (x ∷ xs) h i g = ((same h x i).0 g.0, all_to xs (put h x) (keeps h x i) g.1)

  pub all_from : (xs : List X) (h : H) → I h → AllByRecursion G xs → GoodAll Good put h xs
  all_from [] h i g = tt
  all_from (x ∷ xs) h i g = ((same h x i).1 g.0, all_from xs (put h x) (keeps h x i) g.1)

-- what no member changes stays over a list
pub puts_keep : {H X : Type 0} (put : H → X → H) (I : H → Type 0) → ((h : H) (x : X) → I h → I (put h x)) → (xs : List X) (h : H) → I h → I (puts put h xs)
puts_keep put I keeps [] h i = i
puts_keep put I keeps (x ∷ xs) h i = puts_keep put I keeps xs (put h x) (keeps h x i)
