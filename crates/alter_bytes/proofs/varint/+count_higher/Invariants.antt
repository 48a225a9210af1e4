use Rattle.alter_bytes.proofs.varint.+count_higher.Given as goal

abbrev pub decreases-count_higher : goal.decreases-count_higher
decreases-count_higher l = l.most
