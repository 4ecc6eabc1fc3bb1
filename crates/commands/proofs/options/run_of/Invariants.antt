use Rattle.std.proofs.Common.{◌≡◌, length, map, string_bytes}
use Rattle.commands.proofs.Reading.{after_options, read_words}
use Rattle.commands.specs.{Given.AreGiven, Options.run_of}
use Rattle.commands.proofs.options.run_of.Given as goal

abbrev pub invariant-options : goal.invariant-options
invariant-options l =
    (read_words (after_options (map string_bytes l.rest) l.given) ≡ run_of (map string_bytes l.initial.words))
    × AreGiven l.given

abbrev pub decreases-options : goal.decreases-options
decreases-options l = length l.rest
