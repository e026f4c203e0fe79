-- The names of a set, each stored with its hash, as lists of their bytes in order.
use Rattle.std.specs.Prelude.{ℕ, ◌≡◌, ◌*◌, ◌%◌, ◌^◌, List, [], ◌∷◌, map}
use Rattle.std.specs.List.{fold}
use lib.Bits.{bit_xor}
use Rattle.std.specs.BTreeSet.{BTreeSet}
use Rattle.wm_rules.specs.declared.export_names.HashedName.{HashedName}
use Rattle.wm_rules.specs.exact.Checking.{put_name}

unfoldable pub hash_of : List ℕ → ℕ
hash_of name = fold (λ h b. (bit_xor h b * 1099511628211) % 2 ^ 64) 14695981039346656037 name

-- Each hash is the hash of its name.
abbrev pub AreHashed : List HashedName → Type 0
AreHashed [] = Unit {0}
AreHashed (k ∷ ks) = (k.hash ≡ hash_of k.name.items) × AreHashed ks

-- The names in the order of their bytes.
abbrev pub in_order : List (List ℕ) → List (List ℕ)
in_order [] = []
in_order (name ∷ names) = put_name name (in_order names)

abbrev pub bytes_of : BTreeSet HashedName → List (List ℕ)
bytes_of names = in_order (map (λ k. k.name.items) names.keys)
