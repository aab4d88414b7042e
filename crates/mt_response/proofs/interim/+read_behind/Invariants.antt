use Rattle.mt_response.proofs.interim.+read_behind.Given as goal

abbrev pub decreases-read_behind : goal.decreases-read_behind
decreases-read_behind g l = l.most
