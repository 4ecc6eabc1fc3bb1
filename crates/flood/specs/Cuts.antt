-- Frames that are cut short.
use Rattle.std.specs.Prelude.{◌≢◌, List, [], ◌++◌, ℕ}
use Rattle.flood.specs.{declared.frames.Content.Content, Frames.{IsFrame, SpellsNothing}}

-- a frame that spells something, without its last bytes, spells nothing; so none can be lengthened either
abbrev pub PrefixesSpellNothing : Type 0
PrefixesSpellNothing =
    (front back : List ℕ) (c : Content) → back ≢ [] → IsFrame (front ++ back) c → SpellsNothing front
