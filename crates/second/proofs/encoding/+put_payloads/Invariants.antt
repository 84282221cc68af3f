-- Each step writes one payload.
use Rattle.std.proofs.Common.{length}
use Rattle.second.proofs.encoding.+put_payloads.Given as goal

abbrev pub decreases-put_payloads : goal.decreases-put_payloads
decreases-put_payloads l = length l.payloads.now
