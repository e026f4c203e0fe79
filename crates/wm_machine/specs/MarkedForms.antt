-- The building blocks of the flat grammar. A marked form relates the bytes that spell something to their marks.
use Rattle.std.specs.Prelude.{ℕ, zero, suc, ◌-◌, ◌≡◌, ◌≤◌, List, [], ◌∷◌, ◌++◌, Option, Some, None, length}
use Rattle.std.specs.Prelude.{IsUtf8}
use Rattle.wm_syntax.specs.Spelling.{Form, AreBytes}
use Rattle.wm_syntax.specs.Types.{SpellsU32}
use Rattle.wm_machine.specs.Items.{Item, outside, name, entry, closing, Zone, Mark, Marks}

abbrev pub MarkedForm : Type 1
MarkedForm = List ℕ → Marks → Type 0

-- the mark of a byte in the zone `outside`, which completes the item x, if any
abbrev pub outside_mark : Option Item → Mark
outside_mark x = record { zone = outside; item = x }

-- the marks of these bytes, the last of which completes the item x, if any; all are in the zone `outside`
abbrev pub marks_ending : Option Item → List ℕ → Marks
marks_ending x [] = []
marks_ending x (c ∷ []) = outside_mark x ∷ []
marks_ending x (c ∷ d ∷ b) = outside_mark None ∷ marks_ending x (d ∷ b)

-- the marks of the bytes of a name: the last completes the item x, if any, and those before it are in the zone `name`
abbrev pub name_byte_marks : Option Item → List ℕ → Marks
name_byte_marks x [] = []
name_byte_marks x (c ∷ []) = outside_mark x ∷ []
name_byte_marks x (c ∷ d ∷ b) = record { zone = name; item = None } ∷ name_byte_marks x (d ∷ b)

-- the marks of a name: of its length `front` and its bytes `text`; an empty name is complete at the end of its length
abbrev pub name_marks : Option Item → (front text : List ℕ) → Marks
name_marks x front [] = marks_ending x front
name_marks x front (c ∷ text) = marks_ending None front ++ name_byte_marks x (c ∷ text)

-- the mark with another zone
abbrev pub in_zone : Zone → Mark → Mark
in_zone z m = record m { zone = z }

-- the marks with the zones of a code entry: `closing` for the last byte, and `entry` for those before it
abbrev pub entry_marks : Marks → Marks
entry_marks [] = []
entry_marks (m ∷ []) = in_zone closing m ∷ []
entry_marks (m ∷ n ∷ k) = in_zone entry m ∷ entry_marks (n ∷ k)

-- no bytes
abbrev pub Empty : MarkedForm
Empty b k = (b ≡ []) × (k ≡ [])

-- this byte, which completes the item x, if any
abbrev pub MarkedByte : ℕ → Option Item → MarkedForm
MarkedByte c x b k = (b ≡ c ∷ []) × (k ≡ outside_mark x ∷ [])

-- exactly these bytes, which complete no item
abbrev pub Literal : List ℕ → MarkedForm
Literal text b k = (b ≡ text) × (k ≡ marks_ending None text)

-- P and then Q
pub record Then (P Q : MarkedForm) (b : List ℕ) (k : Marks) : Type 0 where
  pub front : List ℕ
  pub back : List ℕ
  pub front_marks : Marks
  pub back_marks : Marks
  pub bytes : b ≡ front ++ back
  pub marks : k ≡ front_marks ++ back_marks
  pub first : P front front_marks
  pub second : Q back back_marks

-- P, n times in a row
abbrev pub Times : ℕ → MarkedForm → MarkedForm
Times zero P = Empty
Times (suc n) P = Then P (Times n P)

-- one value, spelled as `Spells` says; its item is complete at its last byte
abbrev pub Leaf : {X : Type 0} → (X → Form ℕ) → (X → Item) → MarkedForm
Leaf {X} Spells part b k = (x : X) × Spells x b × (k ≡ marks_ending (Some (part x)) b)

-- a number n, spelled as `Spells` says, and then F n; its last byte completes the item x n, if any
pub record Counted (Spells : ℕ → List ℕ → Type 0) (x : ℕ → Option Item) (F : ℕ → MarkedForm) (b : List ℕ)
    (k : Marks)
    : Type 0 where
  pub n : ℕ
  pub front : List ℕ
  pub back : List ℕ
  pub back_marks : Marks
  pub bytes : b ≡ front ++ back
  pub marks : k ≡ marks_ending (x n) front ++ back_marks
  pub number : Spells n front
  pub rest : F n back back_marks

-- a u32 n, and then F n (Core spec 5.2.2)
abbrev pub MarkedNumber : (ℕ → Option Item) → (ℕ → MarkedForm) → MarkedForm
MarkedNumber = Counted SpellsU32

-- no number completes an item
abbrev pub nothing_at : ℕ → Option Item
nothing_at n = None

-- vec(P): a number n, and then P n times (Core spec 5.1.3)
abbrev pub Vector : MarkedForm → MarkedForm
Vector P = MarkedNumber nothing_at (λ n. Times n P)

-- an index, whose last byte completes its item (Core spec 5.5.1)
abbrev pub Index : (ℕ → Item) → MarkedForm
Index part = MarkedNumber (λ n. Some (part n)) (λ n. Empty)

-- A name: its length, spelled as `Spells` says, and its bytes. Under `strict` they are UTF-8. Core spec 5.2.4.
pub record Text (demanded : Type 0) (Spells : ℕ → List ℕ → Type 0) (x : List ℕ → Option Item) (b : List ℕ)
    (k : Marks)
    : Type 0 where
  pub front : List ℕ
  pub text : List ℕ
  pub bytes : b ≡ front ++ text
  pub marks : k ≡ name_marks (x text) front text
  pub number : Spells (length text) front
  pub utf8 : demanded → IsUtf8 text

-- a name with its length as a u32 (Core spec 5.2.4)
abbrev pub Name : Type 0 → (List ℕ → Option Item) → MarkedForm
Name demanded = Text demanded SpellsU32

-- P, under `strict` with exactly n bytes
abbrev pub Sized : Type 0 → ℕ → MarkedForm → MarkedForm
Sized demanded n P b k = (demanded → length b ≡ n) × P b k

-- P and then any bytes, n in all: nothing but n says where these bytes end. Under `loose`, P may have more than n
-- bytes, and then none follow.
pub record Filled (demanded : Type 0) (n : ℕ) (P : MarkedForm) (b : List ℕ) (k : Marks) : Type 0 where
  pub front : List ℕ
  pub back : List ℕ
  pub front_marks : Marks
  pub bytes : b ≡ front ++ back
  pub marks : k ≡ front_marks ++ marks_ending None back
  pub first : P front front_marks
  pub fits : demanded → length front ≤ n
  pub size : length back ≡ n - length front
  pub are_bytes : AreBytes back

-- P with the zones of a code entry
pub record Entry (P : MarkedForm) (b : List ℕ) (k : Marks) : Type 0 where
  pub inner : Marks
  pub marks : k ≡ entry_marks inner
  pub contents : P b inner
