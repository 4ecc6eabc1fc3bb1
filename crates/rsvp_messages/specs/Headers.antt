-- The common header (RFC 2205, section 3.1.1): version and flags, type, checksum, Send_TTL, a reserved byte, length.
use Rattle.std.specs.Prelude.{◌≡◌, ◌≤◌, ◌⊎◌, ℕ, ◌/◌, List, ◌∷◌, ◌++◌, length, take, drop}
use Rattle.wire_buf.specs.{Objects.number_at, Checksum.checksum_of}

-- the message with the checksum's field taken as zero
abbrev pub without_checksum : List ℕ → List ℕ
without_checksum bytes = take 2 bytes ++ 0 ∷ 0 ∷ drop 4 bytes

-- a field of zero means that none was sent
abbrev pub HasChecksum : List ℕ → Type 0
HasChecksum bytes = (number_at 2 2 bytes ≡ 0) ⊎ (number_at 2 2 bytes ≡ checksum_of (without_checksum bytes))

-- version 1, a message of this type, and the length of all the bytes; nothing reads flags, Send_TTL and the reserved
-- byte
pub record HasHeader (bytes : List ℕ) (kind : ℕ) : Type 0 where
  pub long : 8 ≤ length bytes
  pub version : number_at 0 1 bytes / 16 ≡ 1
  pub type_is : number_at 1 1 bytes ≡ kind
  pub checksum : HasChecksum bytes
  pub size : number_at 6 2 bytes ≡ length bytes
