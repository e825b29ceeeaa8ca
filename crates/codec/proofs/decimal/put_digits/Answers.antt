use Rattle.std.proofs.Common.{arith, rules}
use Rattle.codec.proofs.Laws.Decimal.{part_length, handed-on, digits_decimal}
use Rattle.codec.proofs.decimal.put_digits.Goals as goal

pub slice_bounds-put_bytes-end : goal.slice_bounds-put_bytes-end
slice_bounds-put_bytes-end c = part_length _ _ _ _ _ c.put_most-k.ensures (omega arith) (search rules)

pub returns : goal.returns
returns c = let p = c.put_most-k.ensures in record {
  value = omega (arith, p.ends);
  cells = handed-on _ _ _ _ _ p (omega arith) _ _ _ c.put_bytes.ensures;
  decimal = digits_decimal _ _ (search rules);
  most = omega (arith, p.small);
}
