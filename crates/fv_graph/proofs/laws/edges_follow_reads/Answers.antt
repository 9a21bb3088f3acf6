use Rattle.fv_graph.proofs.lemmas.ReadsLemmas.{reads_law}
use Rattle.fv_graph.proofs.laws.edges_follow_reads.Goals as goal

pub returns : goal.returns
returns h g t ig there = reads_law g ig t there
