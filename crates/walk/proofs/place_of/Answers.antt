use borrow.Author.Tests.{eq-eqb, ne_eqb, lt-ltb, le-ltb, le-leb, lt-leb}
use Rattle.walk.specs.Fields.{slot_of, place_of}
use borrow.Author.Rules.{rules}
use Rattle.walk.proofs.place_of.Goals as goal

pub returns-then-key0-ne0 : goal.returns-then-key0-ne0
unfolding place_of slot_of
returns-then-key0-ne0 c = (rw (ne_eqb _ _ c.if-key0-ne0.true), search rules)

pub returns-then-key1-lt1 : goal.returns-then-key1-lt1
unfolding place_of slot_of
returns-then-key1-lt1 c = (rw (eq-eqb _ _ c.if-key0-ne0.false, lt-ltb _ _ c.if-key1-lt1.true), search rules)

pub returns-then-key1-le9 : goal.returns-then-key1-le9
unfolding place_of slot_of
returns-then-key1-le9 c = (rw (eq-eqb _ _ c.if-key0-ne0.false, le-ltb _ _ c.if-key1-lt1.false, le-leb _ _ c.if-key1-le9.true), search rules)

pub returns-then-key1-lt121 : goal.returns-then-key1-lt121
unfolding place_of slot_of
returns-then-key1-lt121 c = (rw (eq-eqb _ _ c.if-key0-ne0.false, le-ltb _ _ c.if-key1-lt1.false, lt-leb _ _ c.if-key1-le9.false, lt-ltb _ _ c.if-key1-lt121.true), search rules)

pub returns-then-key1-gt123 : goal.returns-then-key1-gt123
unfolding place_of slot_of
returns-then-key1-gt123 c = (rw (eq-eqb _ _ c.if-key0-ne0.false, le-ltb _ _ c.if-key1-lt1.false, lt-leb _ _ c.if-key1-le9.false, le-ltb _ _ c.if-key1-lt121.false, lt-ltb _ _ c.if-key1-gt123.true), search rules)

pub returns : goal.returns
unfolding place_of slot_of
returns c = (rw (eq-eqb _ _ c.if-key0-ne0.false, le-ltb _ _ c.if-key1-lt1.false, lt-leb _ _ c.if-key1-le9.false, le-ltb _ _ c.if-key1-lt121.false, le-ltb _ _ c.if-key1-gt123.false), search rules)
