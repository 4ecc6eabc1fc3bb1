-- Flood messages: a row of a link with its number on the channel, or the acknowledgement of a number.
use Rattle.std.specs.Prelude.{◌≡◌, ◌≤◌, ◌<◌, ◌^◌, ℕ, List, ◌++◌, length, drop}
use Rattle.byteorder.specs.Endian.{big_bytes, big_number}
use Rattle.flood.specs.{declared.messages.FloodMsg.FloodMsg, declared.messages.FloodMsg.TheVariants.{Row, Ack}}
use Rattle.te_tlv.specs.{Rows.SpellsRow, Written.{HasNumbers, IsRowWritable, link_tlv}}

-- The envelope: a kind, three bytes that nothing reads, and the number. Kind 2 ends there. Kind 1 goes on with the
-- origin and the Link TLV of the row, to the end. Other kinds spell nothing.
abbrev pub SpellsFlood : List ℕ → FloodMsg → Type 0
SpellsFlood bytes (Ack number) =
    (length bytes ≡ 8) × (big_number 1 bytes ≡ 2) × (number ≡ big_number 4 (drop 4 bytes))
SpellsFlood bytes (Row number origin row) =
    (12 ≤ length bytes) × (big_number 1 bytes ≡ 1) × (number ≡ big_number 4 (drop 4 bytes))
    × (origin.0 ≡ big_number 4 (drop 8 bytes)) × SpellsRow origin (drop 12 bytes) row

-- the written form, with zeros where nothing reads
abbrev pub flood_bytes : FloodMsg → List ℕ
flood_bytes (Ack number) = big_bytes 1 2 ++ big_bytes 3 0 ++ big_bytes 4 number
flood_bytes (Row number origin row) =
    big_bytes 1 1 ++ big_bytes 3 0 ++ big_bytes 4 number ++ big_bytes 4 origin.0 ++ link_tlv origin row

-- what has a written form
abbrev pub CanBeWritten : FloodMsg → Type 0
CanBeWritten (Ack number) = Unit {0}
CanBeWritten (Row number origin row) = IsRowWritable origin row

-- the numbers of a message have 32 bits
abbrev pub FitsEnvelope : FloodMsg → Type 0
FitsEnvelope (Ack number) = number < 2 ^ 32
FitsEnvelope (Row number origin row) = (number < 2 ^ 32) × (origin.0 < 2 ^ 32) × HasNumbers row

-- what bytes spell has a written form
abbrev pub ReadFloodIsWritable : Type 0
ReadFloodIsWritable = (bytes : List ℕ) (m : FloodMsg) → SpellsFlood bytes m → CanBeWritten m
