-- Objects without where they lie in memory.
use Rattle.std.specs.Prelude.{List, map}
use Rattle.rsvp_messages.specs.{declared.raw.RawObject.RawObject, Objects.Object}

abbrev pub seen : RawObject → Object
seen o = record { class = o.class; ctype = o.ctype; body = o.body.now }

abbrev pub all_seen : List RawObject → List Object
all_seen os = map seen os
