-- Each step reads one session.
use Rattle.second.proofs.sessions.+sessions_length.Given as goal

abbrev pub decreases-sessions_length : goal.decreases-sessions_length
decreases-sessions_length l = l.count
