use Rattle.alter_bytes.proofs.varint.+write_septets.Given as goal

abbrev pub decreases-write_septets : goal.decreases-write_septets
decreases-write_septets l = l.n
