use Rattle.partials.proofs.size.+left_size.Given as goal

abbrev pub decreases-left_size : goal.decreases-left_size
decreases-left_size l = l.unplaced
