use Rattle.flood.proofs.CutFrames.{prefixes_spell_nothing}
use Rattle.flood.proofs.frame_laws.every_cut.Goals as goal

pub returns : goal.returns
returns c = prefixes_spell_nothing
