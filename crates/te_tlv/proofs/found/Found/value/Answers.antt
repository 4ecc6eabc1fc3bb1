use Rattle.te_tlv.specs.Found.{needed_type}
use Rattle.te_tlv.proofs.SubTlvsFound.{needed_is, not_only, only_one}
use Rattle.te_tlv.proofs.found.Found.value.Goals as goal

pub returns-clause-value : goal.returns-clause-value
returns-clause-value c = only_one (needed_type c.args.needed) c.args.self.now c.read.result
    (needed_is c.args.needed c.args.self.now c.read.result c.read.ensures)

pub returns-clause-none : goal.returns-clause-none
returns-clause-none c = not_only (needed_type c.args.needed) c.args.self.now c.read.result
    (needed_is c.args.needed c.args.self.now c.read.result c.read.ensures)
