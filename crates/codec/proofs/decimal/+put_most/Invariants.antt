use Rattle.codec.proofs.decimal.+put_most.Given as goal

abbrev pub decreases-put_most : goal.decreases-put_most
decreases-put_most l = l.left
