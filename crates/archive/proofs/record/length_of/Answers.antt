use native.Mathlib.Omega.{arith}
use Rattle.codec.specs.BigEndian.{big_endian}
use Rattle.archive.proofs.record.length_of.Goals as goal

pub returns : goal.returns
unfolding big_endian
returns c = omega (arith, c.from_be_bytes.ensures)
