use Rattle.std.proofs.Common.{◌≡◌, ◌*◌, ◌%◌, ◌^◌, take, fold}
use lib.Bits.{bit_xor}
use Rattle.wm_rules.proofs.export_names.hash_of.Given as goal

-- the hash of the bytes so far
abbrev pub invariant-loop-byte : goal.invariant-loop-byte
invariant-loop-byte l = l.hash ≡ fold (λ h b. (bit_xor h b * 1099511628211) % 2 ^ 64) 14695981039346656037 (take l.byte-index l.name)
