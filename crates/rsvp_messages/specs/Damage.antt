-- Messages in which one byte was changed.
use Rattle.std.specs.Prelude.{◌≡◌, ◌≢◌, ◌<◌, ◌+◌, ◌^◌, ◌⊎◌, ℕ, List, ◌∷◌, ◌++◌, length}
use Rattle.ason_base.specs.declared.messages.Packet.{Packet}
use Rattle.wire_buf.specs.Objects.{number_at}
use Rattle.rsvp_messages.specs.Packets.{Spells}

-- one byte is another one, which isn't in the field of the checksum
pub record IsChanged (was now : List ℕ) : Type 0 where
  pub front : List ℕ
  pub back : List ℕ
  pub from : ℕ
  pub to : ℕ
  pub was_is : was ≡ front ++ from ∷ back
  pub now_is : now ≡ front ++ to ∷ back
  pub byte : from < 256
  pub other_byte : to < 256
  pub differ : from ≢ to
  pub not_first : length front ≢ 2
  pub not_second : length front ≢ 3

-- one has this bit more than the other
abbrev pub DifferInBit : ℕ → ℕ → Type 0
DifferInBit x y = (bit : ℕ) × (bit < 8) × ((y ≡ x + 2 ^ bit) ⊎ (x ≡ y + 2 ^ bit))

abbrev pub SpellsNoPacket : List ℕ → Type 0
SpellsNoPacket bytes = (p : Packet) → ¬ Spells bytes p

-- of a message whose checksum was sent
abbrev pub ByteChangesAreRefused : Type 0
ByteChangesAreRefused =
    (was now : List ℕ) (p : Packet) → Spells was p → number_at 2 2 was ≢ 0 → IsChanged was now → SpellsNoPacket now

-- One bit of a byte outside the field of the checksum is another one.
pub record IsBitChanged (was now : List ℕ) : Type 0 where
  pub front : List ℕ
  pub back : List ℕ
  pub from : ℕ
  pub to : ℕ
  pub was_is : was ≡ front ++ from ∷ back
  pub now_is : now ≡ front ++ to ∷ back
  pub byte : from < 256
  pub other_byte : to < 256
  pub bit : DifferInBit from to
  pub not_first : length front ≢ 2
  pub not_second : length front ≢ 3

abbrev pub BitChangesAreRefused : Type 0
BitChangesAreRefused =
    (was now : List ℕ) (p : Packet) → Spells was p → number_at 2 2 was ≢ 0 → IsBitChanged was now → SpellsNoPacket now
