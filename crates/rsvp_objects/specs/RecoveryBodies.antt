-- What the bodies of recovery's objects mean, and how they are written (RFC 4872).
use Rattle.std.specs.Prelude.{◌≡◌, ℕ, ◌/◌, ◌%◌, ◌^◌, if◌then◌else◌, List, ◌++◌, length}
use Rattle.byteorder.specs.Endian.{big_bytes}
use Rattle.wire_buf.specs.Objects.{number_at}
use Rattle.rsvp_objects.specs.{declared.association.Association.Association, declared.protection.Protection.Protection, declared.protection.Protection.TheVariants.{Work, Back}}

-- ASSOCIATION, IPv4 (section 16.1): type, id, source
abbrev pub IsAssociation : List ℕ → Association → Type 0
IsAssociation body a =
    (length body ≡ 8) × (a ≡ record { kind = number_at 0 2 body; id = number_at 2 2 body; source = number_at 4 4 body })

abbrev pub association_bytes : Association → List ℕ
association_bytes a = big_bytes 2 a.kind ++ big_bytes 2 a.id ++ big_bytes 4 a.source

-- The first word of PROTECTION (section 14.1), from its highest bit on: S, P, N, O, six reserved bits, six LSP flags,
-- ten reserved bits, six link flags. Bit 0 is the lowest.
abbrev pub secondary : ℕ → ℕ
secondary word = word / 2 ^ 31 % 2

abbrev pub protecting : ℕ → ℕ
protecting word = word / 2 ^ 30 % 2

abbrev pub lsp_flags : ℕ → ℕ
lsp_flags word = word / 2 ^ 16 % 2 ^ 6

-- LSP flag 0x02 is rerouting without extra traffic, that is shared mesh restoration (section 14.1).
abbrev pub HasBits : ℕ → Protection → Type 0
HasBits word (Work guard) =
    (secondary word ≡ 0) × (protecting word ≡ 0) × (lsp_flags word ≡ (if guard then 0x02 else 0x00))
HasBits word (Back active) =
    (secondary word ≡ (if active then 0 else 1)) × (protecting word ≡ 1) × (lsp_flags word ≡ 0x02)

-- two words, of which the second is read by nothing
abbrev pub IsProtection : List ℕ → Protection → Type 0
IsProtection body p = (length body ≡ 8) × HasBits (number_at 0 4 body) p

-- the written first word: all other bits are 0
abbrev pub first_word : Protection → ℕ
first_word (Work guard) = if guard then 0x0002_0000 else 0
first_word (Back active) = if active then 0x4002_0000 else 0xC002_0000

abbrev pub protection_bytes : Protection → List ℕ
protection_bytes p = big_bytes 4 (first_word p) ++ big_bytes 4 0
