use Rattle.wire_buf.proofs.HexDigits.{comes_back}
use Rattle.wire_buf.proofs.hex.hex_comes_back.Goals as goal

pub returns : goal.returns
returns c = comes_back
