use Rattle.partials.proofs.size.+right_size.Given as goal

abbrev pub decreases-right_size : goal.decreases-right_size
decreases-right_size l = l.unplaced
