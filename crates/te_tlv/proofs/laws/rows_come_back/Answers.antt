use Rattle.te_tlv.proofs.{Once.spelled_once, Spelled.row_spelled}
use Rattle.te_tlv.proofs.laws.rows_come_back.Goals as goal

pub returns : goal.returns
returns c = record { written = row_spelled; once = spelled_once }
