use Rattle.std.proofs.Common.{rules}
use Rattle.mgmt_view.proofs.Reading.{read-next}
use Rattle.mgmt_view.proofs.viewer.Viewer.read.Goals as goal

pub returns-in_ok-copy-in-Some-clause-read : goal.returns-in_ok-copy-in-Some-clause-read
returns-in_ok-copy-in-Some-clause-read c =
    read-next _ _ _ (search rules) (search rules) (search rules) (search rules) (search rules) (search rules)
    (search rules) (search rules) (search rules) (search rules) (search rules)
