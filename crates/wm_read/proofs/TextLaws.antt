-- A text is read if and only if its tokens, in these spellings, write a module.
use Rattle.std.proofs.Common.{◌≡◌, ◌≢◌, ℕ, ◌<◌, true, false, List, [], ◌∷◌, ◌++◌, length, Option, Some, None, map, refl, sym, ap, subst, ◌∙◌, arith}
use Rattle.std.proofs.lemmas.List.{map-append}
use Rattle.std.specs.Prelude.{IsTrue, IfErr, Result, Ok, Err}
use Rattle.wm_syntax.specs.declared.profile.Profile.{Profile}
use Rattle.wm_syntax.specs.Modules.{Module}
use Rattle.wm_tokens.specs.Fields.{Writes}
use Rattle.wm_read.specs.Spellings.{replaced}
use Rattle.wm_tokens.specs.TokenFaults.{IsOfEnd, IsOfTokens, TellsFault}
use Rattle.wm_tokens.specs.Tokens.{Token, Tokens, close_paren}
use Rattle.wm_tokens.specs.Written.{Names}
use Rattle.wm_tokens.specs.declared.faults.TextFault.{TextFault}
use Rattle.wm_tokens.specs.declared.faults.TextWhy.{TextWhy}
use Rattle.wm_tokens.specs.declared.faults.TextWhy.TheVariants as why
use Rattle.wm_read.specs.declared.spellings.Spellings.{Spellings}
use Rattle.wm_read.specs.declared.spellings.Spellings.TheVariants as spelling
use Rattle.wm_tokens.specs.exact.Scan.{lexed}
use Rattle.wm_read.specs.exact.TextModules.{IsFollowed, end_at, frame_at, all_names_at, module_at}
use Rattle.wm_read.specs.exact.FirstReading.{names_at}
use Rattle.wm_tokens.specs.inner.Ends.{can_end}
use Rattle.wm_read.specs.inner.Renewed.{Renewed}
use Rattle.wm_bodies.specs.inner.Views.{Fails, IsOfReaders}
use Rattle.wm_bodies.specs.exact.Reading.{◌>>=◌, close_at}
use Rattle.wm_bodies.proofs.Ends.{nothing_left}
use Rattle.wm_read.proofs.ModuleLaws.{found, followed, more}
use Rattle.wm_read.proofs.OlderWords.{standard_stays}
use Rattle.wm_tokens.proofs.Basics.{same_some}
use Rattle.wm_tokens.proofs.Places.{no_tokens}
use Rattle.wm_tokens.proofs.Whole.{one_list}

pub given : (p : Profile) (s : Spellings) (text : List ℕ) (m : Module) → Tokens text (lexed text) → module_at p (map (replaced s) (lexed text)) ≡ Some m
    → (k : List Token) × Tokens text k × Writes p (map (replaced s) k) m
given p s text m t e = (lexed text, t, found p (map (replaced s) (lexed text)) m e)

fails_none : {Y : Type 0} (w : TextWhy) (read : Option Y) → Fails w read → w ≢ why.Memory → read ≡ None
fails_none why.Memory read h n = absurd (n refl)
fails_none why.NotUtf8 read h n = absurd h
fails_none why.BadToken read h n = absurd h
fails_none why.OpenComment read h n = absurd h
fails_none why.OpenString read h n = absurd h
fails_none why.BadEscape read h n = absurd h
fails_none _ read h n = h

pub refused : (p : Profile) (s : Spellings) (text : List ℕ) (w v : TextWhy) → Tokens text (lexed text) → Fails w (module_at p (map (replaced s) (lexed text))) → v ≡ w
    → v ≢ why.Memory → (k : List Token) (m : Module) → Tokens text k → Writes p (map (replaced s) k) m → ⊥
refused p s text w v t h e n k m u writes =
    let none : module_at p (map (replaced s) (lexed text)) ≡ None = fails_none w (module_at p (map (replaced s) (lexed text))) h (λ q. n (e ∙ q)) in
    let some : module_at p (map (replaced s) (lexed text)) ≡ Some m =
    ap (λ (z : List Token). module_at p (map (replaced s) z)) (one_list text (lexed text) k t u) ∙ more p (map (replaced s) k) m writes
    in
    let f : ◌≡◌ {A = Option Module} None (Some m) = sym none ∙ some in cc

-- ---- at the end of the text

end_named : (w : TextWhy) → IsTrue (can_end w) → IsOfEnd w
end_named why.Expected h = tt
end_named why.OpenComment h = tt
end_named why.OpenString h = tt
end_named why.Memory h = tt
end_named _ h = absurd (let f : false ≡ true = h in cc)

pub end_told : (text : List ℕ) (at : ℕ) (v w : TextWhy) → (0 < length text → at ≡ length text → IsTrue (can_end v)) → (length text ≡ 0 → IsTrue (can_end v)) → w ≡ v
    → at ≡ length text → IsOfEnd w
end_told [] at v w some none e is = end_named w (subst (λ (z : TextWhy). IsTrue (can_end z)) (sym e) (none refl))
end_told (c ∷ text) at v w some none e is = end_named w (subst (λ (z : TextWhy). IsTrue (can_end z)) (sym e) (some (omega arith) is))

pub ruleset text_laws = (given, refused, end_told)

-- The code reads the text itself, or its copy.
pub read_itself : (p : Profile) (text : List ℕ) → module_at p (lexed text) ≡ module_at p (map (replaced spelling.Standard) (lexed text))
read_itself p text = ap (module_at p) (sym (standard_stays (lexed text)))

pub read_copy : (p : Profile) (text copy : List ℕ) → Renewed text copy → module_at p (lexed copy) ≡ module_at p (map (replaced spelling.Older) (lexed text))
read_copy p text copy h = ap (module_at p) h.tokens

pub copy_empty : (text copy : List ℕ) → Renewed text copy → length text ≡ 0 → lexed copy ≡ []
copy_empty text copy h e = nothing_left copy (h.size ∙ e)

pub end_expected : (w : TextWhy) → w ≡ why.Expected → IsTrue (can_end w)
end_expected w e = subst (λ (z : TextWhy). IsTrue (can_end z)) (sym e) refl

pub end_memory : (w : TextWhy) → w ≡ why.Memory → IsTrue (can_end w)
end_memory w e = subst (λ (z : TextWhy). IsTrue (can_end z)) (sym e) refl

pub ruleset spelled_laws = (read_itself, read_copy, copy_empty, nothing_left, end_expected, end_memory)

-- ---- refusals of readers are no lexical errors

not_of_readers : (w : TextWhy) → IsOfTokens w → IsOfReaders w → ⊥
not_of_readers why.OpenComment h r = r
not_of_readers why.OpenString h r = r
not_of_readers why.BadEscape h r = r
not_of_readers why.BadToken h r = r
not_of_readers _ h r = h

pub tells_none : (text : List ℕ) (k : List Token) (why : TextWhy) (at : ℕ) → Tokens text k → IsOfReaders why → TellsFault true text why at
tells_none text k why at t r w n = (
  (λ h. absurd (no_tokens text w n k h t)),
  (λ p. absurd (not_of_readers w p.0 (subst IsOfReaders p.1 r))),
)

-- ---- one more token after a module

pub on_err : {X : Type 0} (r : Result X TextFault) (e : TextFault) (P : TextFault → Type 0) → r ≡ Err e → P e → IfErr r P
on_err {X} r e P is h = subst (λ (z : Result X TextFault). IfErr z P) (sym is) h

-- The code reads a text without a copy.
pub followed_itself : {X : Type 0} (p : Profile) (s : Spellings) (text : List ℕ) (r : Result X TextFault) → s ≡ spelling.Standard → IfErr r (λ e. e.why ≢ why.Memory → IsFollowed p (lexed text) → e.why ≡ why.Expected)
    → IfErr r (λ e. e.why ≢ why.Memory → IsFollowed p (map (replaced s) (lexed text)) → e.why ≡ why.Expected)
followed_itself p s text r is h =
    let same : map (replaced s) (lexed text) ≡ lexed text = ap (λ (x : Spellings). map (replaced x) (lexed text)) is ∙ standard_stays (lexed text) in
    subst (λ (z : List Token). IfErr r (λ e. e.why ≢ why.Memory → IsFollowed p z → e.why ≡ why.Expected)) (sym same) h

-- Unless memory is refused, a reader does not refuse what it can read.
pub not_failed : {Y : Type 0} (w : TextWhy) (read : Option Y) (y : Y) → Fails w read → w ≢ why.Memory → read ≡ Some y → ⊥
not_failed {Y} w read y h n some = let f : ◌≡◌ {A = Option Y} None (Some y) = sym (fails_none w read h n) ∙ some in cc

-- The module's closing parenthesis is not refused.
pub closes_names : (p : Profile) (k rest more : List Token) (names given : Names) (w : TextWhy) → names_at p k ≡ Some (given, rest) → names_at p k ≡ Some (names, close_paren ∷ more)
    → Fails w (close_at rest) → w ≢ why.Memory → ⊥
closes_names p k rest more names given w e f h n =
    let same : ◌≡◌ {A = Names × List Token} (given, rest) (names, close_paren ∷ more) = same_some (given, rest) (names, close_paren ∷ more) (sym e ∙ f) in
    not_failed w (close_at rest) (tt, more) h n (ap (λ (z : Names × List Token). close_at z.1) same)

-- The names of a whole text cannot be read if a token follows the module.
pub followed_names : (p : Profile) (k j : List Token) (names : Names) → frame_at k ≡ Some j → all_names_at p j ≡ Some names → IsFollowed p k → ⊥
followed_names p k j names frame all h =
    let same : j ≡ h.inner = same_some j h.inner (sym frame ∙ h.frame) in
    let none : all_names_at p j ≡ None = ap (λ (z : List Token). all_names_at p z) same
    ∙ ap (λ (o : Option (Names × List Token)). ◌>>=◌ {B = Names} o (λ n. close_at n.1 >>= λ c. end_at c.1 >>= λ e. Some n.0)) h.read in
    let f : ◌≡◌ {A = Option Names} None (Some names) = sym none ∙ all in cc

pub not_followed : {X : Type 0} (p : Profile) (k j : List Token) (names : Names) (r : Result X TextFault) → frame_at k ≡ Some j → all_names_at p j ≡ Some names
    → IfErr r (λ e. e.why ≢ why.Memory → IsFollowed p k → e.why ≡ why.Expected)
not_followed p k j names (Ok x) frame all = tt
not_followed p k j names (Err e) frame all = λ n h. absurd (followed_names p k j names frame all h)

pub inner_names : (p : Profile) (k j : List Token) → frame_at k ≡ Some j → (h : IsFollowed p k) → names_at p j ≡ Some (h.names, close_paren ∷ h.next ∷ h.more)
inner_names p k j frame h = ap (names_at p) (same_some j h.inner (sym frame ∙ h.frame)) ∙ h.read

pub followed_text : (p : Profile) (s : Spellings) (text : List ℕ) (j k : List Token) (t : Token) (m : Module) → Tokens text (lexed text) → Tokens text (j ++ t ∷ k) → Writes p (map (replaced s) j) m
    → IsFollowed p (map (replaced s) (lexed text))
followed_text p s text j k t m all more writes =
    let whole : map (replaced s) (lexed text) ≡ map (replaced s) j ++ replaced s t ∷ map (replaced s) k =
    ap (map (replaced s)) (one_list text (lexed text) (j ++ t ∷ k) all more) ∙ map-append (replaced s) j (t ∷ k) in
    subst (IsFollowed p) (sym whole) (followed p (map (replaced s) j) m (replaced s t) (map (replaced s) k) writes)
