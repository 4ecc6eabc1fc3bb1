-- The content that references to its parts stand for.
use Rattle.flood.specs.{declared.content_ref.Parts.Parts, declared.frames.Content.Content, declared.frames.Content.TheVariants.{Message, Flood}}
use Rattle.flood.specs.declared.content_ref.Parts.TheVariants as parts

abbrev pub content_of : Parts → Content
content_of (parts.Message p) = Message p
content_of (parts.Flood m) = Flood m
