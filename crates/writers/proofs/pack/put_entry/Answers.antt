use Rattle.std.proofs.Common.{◌≡◌, ℤ, sym, ap, ◌∙◌, w32, SFits, rules}
use lib.Seq.{sets}
use mir.ValLaws.{to_z-of_z}
use Rattle.codec.specs.Signed.{bits_of}
use Rattle.codec.specs.BigEndian.{big_endian_bytes}
use Rattle.writers.proofs.Laws.Pack.{entry_absent, entry-dropped, entry-number}
use Rattle.writers.proofs.pack.put_entry.Goals as goal

pub returns-then-id-eq-ID_SOFT_FORK_DISABLING_RULES : goal.returns-then-id-eq-ID_SOFT_FORK_DISABLING_RULES
returns-then-id-eq-ID_SOFT_FORK_DISABLING_RULES c = sym (ap (sets c.args.out.now c.args.at) (entry-dropped _ _ _ c.in-Some.is c.if-id-eq-ID_SOFT_FORK_DISABLING_RULES.true))

pub returns-in-None : goal.returns-in-None
returns-in-None c = sym (ap (sets c.args.out.now c.args.at) (entry_absent _ _ c.in-None.is))

pub returns-else-id-eq-ID_SOFT_FORK_DISABLING_RULES : goal.returns-else-id-eq-ID_SOFT_FORK_DISABLING_RULES
unfolding big_endian_bytes
returns-else-id-eq-ID_SOFT_FORK_DISABLING_RULES c = let f : SFits w32 c.in-Some.x = search rules in
    let four : c.i32_to_be_bytes-b.result ≡ big_endian_bytes 4 (bits_of 32 c.in-Some.x) = c.i32_to_be_bytes-b.ensures.value ∙ ap (λ (z : ℤ). big_endian_bytes 4 (bits_of 32 z)) (to_z-of_z w32 c.in-Some.x f) in
    c.put_bytes.ensures ∙ rw (four, entry-number _ _ _ c.in-Some.is c.if-id-eq-ID_SOFT_FORK_DISABLING_RULES.false)
