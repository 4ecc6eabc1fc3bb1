use Rattle.std.proofs.Common.{◌∙◌, ap, map, rules, string_bytes, sym}
use Rattle.commands.proofs.{Reading.{one-more, read-as, read_words}, Slices.no-option}
use Rattle.commands.specs.Options.{run_of}
use Rattle.commands.proofs.options.run_of.Goals as goal

pub options-init : goal.options-init
options-init c = (read-as (map string_bytes c.args.words.now), search rules)

pub returns-in_err-now-in-len1-up : goal.returns-in_err-now-in-len1-up
returns-in_err-now-in-len1-up c =
    c.from_residual.ensures
    ∙ no-option (run_of (map string_bytes c.args.words.now)) c.options.rest.now c.options.given
    c.in-len1-up.len_at_least c.in_err-now-in-len1-up.ensures.next c.options.invariant.0

pub options-preserved : goal.options-preserved
options-preserved c = (
  sym (ap read_words (one-more (map string_bytes c.options.rest.now) c.options.given
      (c.in_ok-now-in-len1-up.now, map string_bytes c.in_ok-now-in-len1-up.others.now)
      (sym c.in_ok-now-in-len1-up.ensures.next))) ∙ c.options.invariant.0,
  c.in_ok-now-in-len1-up.ensures.within,
)
